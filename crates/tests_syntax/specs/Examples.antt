-- A machine made by hand: registers with words, and two instructions of 16 bits.
use Rattle.std.specs.Prelude.{ℕ, true, false, pos, List, [], ◌∷◌, Some, None, codes}
use Rattle.cg_base.specs.declared.Endian.TheVariants.{Big}
use Rattle.cg_base.specs.declared.Mode.TheVariants.{Si, Usi}
use Rattle.cg_model_source.specs.Imaging.{SourceRefusal}
use Rattle.cg_model.specs.declared.field.Field.{Field}
use Rattle.cg_model.specs.declared.hardware.Hardware.{Hardware}
use Rattle.cg_model.specs.declared.hardware.HwKind.TheVariants.{Register, Immediate}
use Rattle.cg_model.specs.declared.hardware.NamedValue.{NamedValue}
use Rattle.cg_model.specs.declared.insn.Insn.{Insn}
use Rattle.cg_model.specs.declared.insn.Part.{Part}
use Rattle.cg_model.specs.declared.insn.Part.TheVariants as part
use Rattle.cg_model.specs.declared.insn.Piece.{Piece}
use Rattle.cg_model.specs.declared.insn.Piece.TheVariants.{Literal, Slot}
use Rattle.cg_model.specs.declared.machine.Alignment.TheVariants.{Aligned}
use Rattle.cg_model.specs.declared.machine.Machine.{Machine}
use Rattle.cg_model.specs.declared.operand.Operand.{Operand}
use Rattle.cg_model.specs.declared.operand.Source.{Source}
use Rattle.cg_model.specs.declared.operand.Source.TheVariants as source
use Rattle.cg_model.specs.declared.rtl.Op.TheVariants as op
use Rattle.cg_model.specs.declared.rtl.Rtl.{roll-Rtl}

abbrev pub field_of : List ℕ → ℕ → ℕ → Field
field_of name shift length = record { name = name; word_offset = 0; word_bits = 16; shift = shift; length = length; mode = Usi; encode = None; decode = None }

abbrev pub register : List ℕ → ℕ → NamedValue
register word value = record { word = word; value = value }

abbrev pub registers : Hardware
registers = record {
  name = codes "h-gr";
  kind = Register;
  mode = Si;
  count = 4;
  keyword = Some (record { words = register (codes "r0") 0 ∷ register (codes "r1") 1 ∷ register (codes "r2") 2 ∷ register (codes "r3") 3 ∷ [] });
  get = None;
  set = None;
}

abbrev pub numbers : Hardware
numbers = record { name = codes "h-uint"; kind = Immediate; mode = Usi; count = 0; keyword = None; get = None; set = None }

abbrev pub operand_of : List ℕ → ℕ → Source → Operand
operand_of name hardware from = record { name = name; hardware = hardware; source = from }

abbrev pub insn_of : List ℕ → List Piece → List Part → Insn
insn_of name pieces parts = record {
  name = name;
  pieces = pieces;
  parts = parts;
  assertion = None;
  decodable = true;
  cycles = 1;
  semantics = roll-Rtl (record { op = op.Nop; mode = None; number = pos 0; items = [] });
}

-- `add $rd,$rs` and `ldi $rd,$imm8`
abbrev pub tiny : Machine
tiny = record {
  name = codes "tiny";
  lsb0 = false;
  alignment = Aligned;
  word_bits = 32;
  insn_endian = Big;
  data_endian = Big;
  base_bits = 16;
  bundle = None;
  width = 1;
  fields = field_of (codes "f-op") 12 4 ∷ field_of (codes "f-rd") 8 4 ∷ field_of (codes "f-rs") 4 4 ∷ field_of (codes "f-x") 0 4 ∷ field_of (codes "f-imm8") 0 8 ∷ [];
  multis = [];
  hardware = registers ∷ numbers ∷ [];
  operands = operand_of (codes "rd") 0 (source.Field 1) ∷ operand_of (codes "rs") 0 (source.Field 2) ∷ operand_of (codes "imm8") 1 (source.Field 4) ∷ [];
  insns =
      insn_of (codes "add") (Literal (codes "add ") ∷ Slot 0 ∷ Literal (codes ",") ∷ Slot 1 ∷ []) (part.Constant 0 1 ∷ part.Slot 0 ∷ part.Slot 1 ∷ part.Constant 3 0 ∷ []) ∷
      insn_of (codes "ldi") (Literal (codes "ldi ") ∷ Slot 0 ∷ Literal (codes ",") ∷ Slot 1 ∷ []) (part.Constant 0 2 ∷ part.Slot 0 ∷ part.Slot 2 ∷ []) ∷ [];
  macros = [];
  texts = [];
}

abbrev pub refused : ℕ → ℕ → List ℕ → List ℕ → SourceRefusal
refused number line text other = record { number = number; line = line; text = text; other = other }
