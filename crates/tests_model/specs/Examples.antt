-- Machines made by hand, on which the definitions are held against what is known of them.
use Rattle.std.specs.Prelude.{ℕ, ◌+◌, ◌-◌, ◌^◌, ◌&&◌, ◌==◌, nat_le, if◌then◌else◌, ℤ, pos, true, false, List, [], ◌∷◌, Option, Some, None, codes}
use Rattle.cg_base.specs.declared.Endian.TheVariants.{Big, Little}
use Rattle.cg_base.specs.declared.Mode.{Mode}
use Rattle.cg_base.specs.declared.Mode.TheVariants.{Si, Usi}
use Rattle.cg_model.specs.Pure.{pure_value}
use Rattle.cg_model.specs.Fields.{around_value}
use Rattle.cg_model.specs.Slots.{in_rule}
use Rattle.cg_model_effects.specs.Asking.{Held, nothing_held, Ask, Access, Ending, ending}
use Rattle.cg_model_effects.specs.Effects.{Before, around, effect_meaning, all_rules}
use Rattle.cg_model_effects.specs.declared.outcome.Change.{Change}
use Rattle.cg_model_effects.specs.declared.outcome.Change.TheVariants.{Now, Later}
use Rattle.cg_model_effects.specs.declared.outcome.Place.{Place}
use Rattle.cg_model.specs.declared.field.Field.{Field}
use Rattle.cg_model.specs.declared.field.Multi.{Multi}
use Rattle.cg_model.specs.declared.hardware.Hardware.{Hardware}
use Rattle.cg_model.specs.declared.hardware.HwKind.TheVariants.{Register}
use Rattle.cg_model.specs.declared.insn.Insn.{Insn}
use Rattle.cg_model.specs.declared.insn.Part.{Part}
use Rattle.cg_model.specs.declared.insn.Part.TheVariants.{Constant, Slot}
use Rattle.cg_model.specs.declared.machine.Alignment.TheVariants.{Aligned, Forced}
use Rattle.cg_model.specs.declared.machine.Machine.{Machine}
use Rattle.cg_model.specs.declared.operand.Operand.{Operand}
use Rattle.cg_model.specs.declared.operand.Source.{Source}
use Rattle.cg_model.specs.declared.operand.Source.TheVariants as source
use Rattle.cg_model.specs.declared.rtl.Op.{Op}
use Rattle.cg_model.specs.declared.rtl.Op.TheVariants as op
use Rattle.cg_model.specs.declared.rtl.Rtl.{Rtl, roll-Rtl}

abbrev pub rtl : Op → Option Mode → ℤ → List Rtl → Rtl
rtl o mode number items = roll-Rtl (record { op = o; mode = mode; number = number; items = items })

abbrev pub number : ℕ → Rtl
number n = rtl op.Number None (pos n) []

-- a number with a mode of its own
abbrev pub constant : Mode → ℕ → Rtl
constant mode n = rtl op.Number (Some mode) (pos n) []

-- the value of a field, by its number
abbrev pub field_named : ℕ → Rtl
field_named k = rtl op.FieldRef None (pos k) []

-- an operation on two items, by its place among the operations on two
abbrev pub on_two : ℕ → Option Mode → Rtl → Rtl → Rtl
on_two place mode x y = rtl op.Binary mode (pos place) (x ∷ y ∷ [])

-- a cell of the registers, and one of the registers with rules
abbrev pub cell : ℕ → Rtl
cell k = rtl op.Reg None (pos 0) (number k ∷ [])

abbrev pub guarded : ℕ → Rtl
guarded k = rtl op.Reg None (pos 1) (number k ∷ [])

-- a local, by its number
abbrev pub local : ℕ → Rtl
local k = rtl op.Local None (pos k) []

-- memory of a mode at an address
abbrev pub memory : Mode → Rtl → Rtl
memory mode address = rtl op.Mem (Some mode) (pos 0) (address ∷ [])

abbrev pub set : Rtl → Rtl → Rtl
set place value = rtl op.Set None (pos 0) (place ∷ value ∷ [])

abbrev pub delay : ℕ → Rtl → Rtl
delay n body = rtl op.Delay None (pos n) (body ∷ [])

abbrev pub parallel : List Rtl → Rtl
parallel arms = rtl op.Parallel None (pos 0) arms

-- expressions in order, behind one declared local
abbrev pub with_local : Mode → List Rtl → Rtl
with_local mode body = rtl op.Sequence None (pos 1) (rtl op.Declare (Some mode) (pos 0) [] ∷ body)

abbrev pub in_order : List Rtl → Rtl
in_order body = rtl op.Sequence None (pos 0) body

-- some bits of a word of 16
abbrev pub nibble : List ℕ → ℕ → Field
nibble name shift = record { name = name; word_offset = 0; word_bits = 16; shift = shift; length = 4; mode = Usi; encode = None; decode = None }

-- a displacement of 8 bits, counted in words of two bytes from the instruction's own address
abbrev pub displacement : Field
displacement = record {
  name = codes "f-disp8";
  word_offset = 0;
  word_bits = 16;
  shift = 0;
  length = 8;
  mode = Si;
  encode = Some (on_two 12 (Some Si) (on_two 1 (Some Si) (rtl op.Value (Some Si) (pos 0) []) (rtl op.Pc None (pos 0) [])) (number 1));
  decode = Some (on_two 0 (Some Si) (on_two 10 (Some Si) (rtl op.Value (Some Si) (pos 0) []) (number 1)) (rtl op.Pc None (pos 0) []));
}

-- eight bits in two fields that lie apart
abbrev pub apart : Multi
apart = record {
  name = codes "f-m";
  mode = Usi;
  subs = 1 ∷ 3 ∷ [];
  insert = on_two 11 None (rtl op.Value (Some Usi) (pos 0) []) (number 4) ∷ on_two 7 None (rtl op.Value (Some Usi) (pos 0) []) (number 15) ∷ [];
  extract = on_two 8 None (on_two 10 None (field_named 1) (number 4)) (field_named 3);
}

abbrev pub insn : List ℕ → List Part → Option Rtl → Insn
insn name parts assertion = record {
  name = name;
  pieces = [];
  parts = parts;
  assertion = assertion;
  decodable = true;
  cycles = 1;
  semantics = rtl op.Nop None (pos 0) [];
}

-- `add`: its first four bits are 1, its last four 0, and two registers stand between
abbrev pub add_parts : List Part
add_parts = Constant 0 1 ∷ Slot 0 ∷ Slot 1 ∷ Constant 3 0 ∷ []

abbrev pub add : Insn
add = insn (codes "add") add_parts None

-- `add` where its first register isn't number 15
abbrev pub add_below_15 : Insn
add_below_15 = insn (codes "add") add_parts (Some (on_two 16 None (field_named 1) (number 15)))

-- the same bits, where the first register is number 15
abbrev pub twin : Insn
twin = insn (codes "twin") add_parts (Some (on_two 15 None (field_named 1) (number 15)))

abbrev pub operand_of : List ℕ → Source → Operand
operand_of name from = record { name = name; hardware = 0; source = from }

abbrev pub registers : Hardware
registers = record { name = codes "h-gr"; kind = Register; mode = Si; count = 16; keyword = None; get = None; set = None }

-- registers of which number 0 reads 0 and isn't set
abbrev pub guarded_registers : Hardware
guarded_registers = record {
  name = codes "h-zr";
  kind = Register;
  mode = Si;
  count = 16;
  keyword = None;
  get = Some (rtl op.If (Some Si) (pos 0) (on_two 15 None (rtl op.Index None (pos 0) []) (number 0) ∷ number 0 ∷ rtl op.RawReg None (pos 1) (rtl op.Index None (pos 0) [] ∷ []) ∷ []));
  set = Some (rtl op.If None (pos 0) (on_two 16 None (rtl op.Index None (pos 0) []) (number 0) ∷ set (rtl op.RawReg None (pos 1) (rtl op.Index None (pos 0) [] ∷ [])) (rtl op.NewVal (Some Si) (pos 0) []) ∷ []));
}

-- A machine with words of 16 bits, big end first.
abbrev pub tiny : Machine
tiny = record {
  name = codes "tiny";
  lsb0 = false;
  alignment = Aligned;
  word_bits = 32;
  insn_endian = Big;
  data_endian = Big;
  base_bits = 16;
  bundle = None;
  width = 1;
  fields = nibble (codes "f-op") 12 ∷ nibble (codes "f-rd") 8 ∷ nibble (codes "f-rs") 4 ∷ nibble (codes "f-x") 0 ∷ displacement ∷ [];
  multis = apart ∷ [];
  hardware = registers ∷ guarded_registers ∷ [];
  operands = operand_of (codes "rd") (source.Field 1) ∷ operand_of (codes "rs") (source.Field 2) ∷ [];
  insns = add_below_15 ∷ twin ∷ [];
  macros = [];
  texts = [];
}

-- The same machine, little end first.
abbrev pub tiny_little : Machine
tiny_little = record tiny { insn_endian = Little; data_endian = Little }

-- The same machine where addresses are made to fit.
abbrev pub tiny_forced : Machine
tiny_forced = record tiny { alignment = Forced }

-- Each cell holds 9, each byte 7; the last 16 addresses are a device's, and the instruction stands at 256.
abbrev pub before : Before
before = record { at = 256; cell = λ k i. 9; byte = λ a. 7; holds = λ a width. nat_le (2 ^ 32 - 16) a && nat_le (a + width) (2 ^ 32) }

-- What an expression does, from nothing, where no name is bound.
abbrev pub does : Machine → Rtl → Ask
does m r = (effect_meaning (around m before (all_rules m before) (in_rule m 0 0)) r).gives [] None nothing_held

-- The value of an expression without names, in the mode that is wanted.
abbrev pub value_of : Rtl → Option Mode → ℕ
value_of r want = pure_value tiny (around_value 0 256) r want

abbrev pub now : Place → ℕ → Change
now place v = Now (record { place = place; value = v })

abbrev pub later : ℕ → Place → ℕ → Change
later n place v = Later (record { left = n; write = record { place = place; value = v } })

-- What has made these entries.
abbrev pub made : List Change → Held
made entries = record { entries = entries; locals = []; left = None }

-- What comes of an expression where devices count the reads of 4 bytes, from 5 on, and fail at others.
abbrev pub counting : ℕ → ℕ → ℕ → Option ℕ × ℕ
counting a width n = if width == 4 then (Some n, n + 1) else (None, n)

abbrev pub counted : Rtl → Ending ℕ
counted r = ending counting (does tiny r) 5 []

abbrev pub access : ℕ → ℕ → Option ℕ → Access
access address width answer = record { address = address; width = width; answer = answer }
