-- The values that a machine's data may have at all, whatever else is wrong with them: those that a table file may hold.
use Rattle.std.specs.Prelude.{◌≡◌, ℕ, zero, suc, ◌*◌, ◌/◌, max, Bool, true, false, not, ◌&&◌, ◌||◌, ◌==◌, nat_le, is_some, List, [], ◌∷◌, length, ℤ, pos, negsuc, Option, Some, None}
use Rattle.std.specs.List.{list_all}
use Rattle.cg_base.specs.Grammar.{is_string_byte}
use Rattle.cg_base.specs.Modes.{bits_of, mode_place, address_mode}
use Rattle.cg_base.specs.declared.mode.Mode.{Mode}
use Rattle.cg_model.specs.Placed.{is_register}
use Rattle.cg_base.specs.Characters.{is_in_word}
use Rattle.cg_model.specs.declared.field.Field.{Field}
use Rattle.cg_model.specs.declared.field.Multi.{Multi}
use Rattle.cg_model.specs.declared.hardware.Hardware.{Hardware}
use Rattle.cg_model.specs.declared.hardware.HwKind.{HwKind}
use Rattle.cg_model.specs.declared.hardware.HwKind.TheVariants as kind
use Rattle.cg_model.specs.declared.hardware.Keyword.{Keyword}
use Rattle.cg_model.specs.declared.hardware.NamedValue.{NamedValue}
use Rattle.cg_model.specs.declared.insn.Insn.{Insn}
use Rattle.cg_model.specs.declared.insn.MacroInsn.{MacroInsn}
use Rattle.cg_model.specs.declared.insn.Piece.{Piece}
use Rattle.cg_model.specs.declared.insn.Piece.TheVariants.{Literal, Slot}
use Rattle.cg_model.specs.declared.machine.Machine.{Machine}
use Rattle.cg_model.specs.declared.rtl.Op.{Op}
use Rattle.cg_model.specs.declared.rtl.Op.TheVariants as op
use Rattle.cg_model.specs.declared.rtl.Rtl.{Rtl}
use Rattle.cg_model.specs.declared.rtl.Rtl.TheOpen.{Rtl-F}
use Rattle.cg_model.specs.declared.rtl.Rtl.TheFolds.{fold-Rtl}

-- As what an item of an expression stands: as an expression of its own, as a number that a `case` names, as a declared local or the
-- mode of a `join`'s parts, or as an arm, of a `case` or not, and the last or not.
pub data As : Type 0 where
  expression : As
  named : As
  declared : As
  arm : Bool → Bool → As

abbrev pub Standing : Type 0
Standing = As → Bool

-- So many items that stand as this, and then one or more expressions.
abbrev pub stand_as : As → ℕ → List Standing → Bool
stand_as place zero [] = false
stand_as place zero (x ∷ xs) = x expression && list_all (λ y. y expression) xs
stand_as place (suc n) [] = false
stand_as place (suc n) (x ∷ xs) = x place && stand_as place n xs

abbrev pub stand_by : As → ℤ → List Standing → Bool
stand_by place (pos n) xs = stand_as place n xs
stand_by place (negsuc n) xs = false

-- Expressions, so many.
abbrev pub are_just : ℕ → List Standing → Bool
are_just n xs = length xs == n && list_all (λ x. x expression) xs

abbrev pub are_some : ℕ → List Standing → Bool
are_some n xs = nat_le n (length xs) && list_all (λ x. x expression) xs

-- One or more arms.
abbrev pub are_arms : Bool → List Standing → Bool
are_arms of_case [] = false
are_arms of_case (x ∷ []) = x (arm of_case true)
are_arms of_case (x ∷ y ∷ ys) = x (arm of_case false) && are_arms of_case (y ∷ ys)

abbrev pub are_cases : List Standing → Bool
are_cases [] = false
are_cases (x ∷ xs) = x expression && are_arms true xs

-- The items of an operation and number.
unfoldable pub items_stand : Op → ℤ → List Standing → Bool
items_stand op.Unary n xs = are_just 1 xs
items_stand op.Binary n xs = are_just 2 xs
items_stand op.Ternary n xs = are_just 3 xs
items_stand op.AndIf n xs = are_some 2 xs
items_stand op.OrIf n xs = are_some 2 xs
items_stand op.Ext n xs = are_just 1 xs
items_stand op.Zext n xs = are_just 1 xs
items_stand op.Trunc n xs = are_just 1 xs
items_stand op.Subword n xs = are_just 1 xs
items_stand op.Join n xs = stand_as declared 1 xs
items_stand op.If n xs = are_some 2 xs && nat_le (length xs) 3
items_stand op.Cond n xs = are_arms false xs
items_stand op.Case n xs = are_cases xs
items_stand op.Sequence n xs = stand_by declared n xs
items_stand op.Parallel n xs = are_some 1 xs
items_stand op.Set n xs = are_just 2 xs
items_stand op.Reg n xs = are_some 0 xs && nat_le (length xs) 1
items_stand op.RawReg n xs = are_some 0 xs && nat_le (length xs) 1
items_stand op.Mem n xs = are_just 1 xs
items_stand op.Delay n xs = are_just 1 xs
items_stand op.Halt n xs = are_just 1 xs
items_stand _ n xs = are_just 0 xs

-- Operations that have a mode.
unfoldable pub is_moded : Op → Bool
is_moded op.Value = true
is_moded op.NewVal = true
is_moded op.Ext = true
is_moded op.Zext = true
is_moded op.Trunc = true
is_moded op.Subword = true
is_moded op.Join = true
is_moded op.Mem = true
is_moded op.Declare = true
is_moded _ = false

-- Operations whose number says something. That of all others is 0.
unfoldable pub is_numbered : Op → Bool
is_numbered op.Number = true
is_numbered op.Local = true
is_numbered op.OperandRef = true
is_numbered op.FieldRef = true
is_numbered op.MultiRef = true
is_numbered op.IndexOf = true
is_numbered op.Unary = true
is_numbered op.Binary = true
is_numbered op.Ternary = true
is_numbered op.Subword = true
is_numbered op.Sequence = true
is_numbered op.Arm = true
is_numbered op.Reg = true
is_numbered op.RawReg = true
is_numbered op.Delay = true
is_numbered op.Error = true
is_numbered _ = false

abbrev pub is_zero : ℤ → Bool
is_zero (pos n) = n == 0
is_zero (negsuc n) = false

abbrev pub has_mode : Rtl-F Standing → Bool
has_mode f = not (is_moded f.op) || is_some f.mode

abbrev pub has_number : Rtl-F Standing → Bool
has_number f = is_numbered f.op || is_zero f.number

-- An arm has one test in a `cond` and one or more numbers in a `case`; the last may have none.
abbrev pub tests_stand : Bool → Bool → ℤ → List Standing → Bool
tests_stand of_case true (pos zero) xs = stand_as expression 0 xs
tests_stand true last (pos (suc n)) xs = stand_as named (suc n) xs
tests_stand false last (pos (suc zero)) xs = stand_as expression 1 xs
tests_stand of_case last n xs = false

-- An operation, as what it may stand.
unfoldable pub stands_at : Op → As → Bool
stands_at op.Arm (arm of_case last) = true
stands_at op.Arm place = false
stands_at op.Declare declared = true
stands_at op.Declare place = false
stands_at op.Number named = true
stands_at o named = false
stands_at o expression = true
stands_at o place = false

abbrev pub inside_stand : Rtl-F Standing → As → Bool
inside_stand f (arm of_case last) = tests_stand of_case last f.number f.items
inside_stand f place = items_stand f.op f.number f.items

abbrev pub formed_step : Rtl-F Standing → Standing
formed_step f = λ place. stands_at f.op place && has_mode f && has_number f && inside_stand f place

unfoldable pub stands : Rtl → Standing
stands rtl = fold-Rtl Standing formed_step rtl

abbrev pub greatest : List ℕ → ℕ
greatest [] = 0
greatest (n ∷ ns) = max n (greatest ns)

abbrev pub depth_step : Rtl-F ℕ → ℕ
depth_step f = suc (greatest f.items)

unfoldable pub depth : Rtl → ℕ
depth rtl = fold-Rtl ℕ depth_step rtl

-- An expression that stands alone.
abbrev pub is_formed : Rtl → Bool
is_formed rtl = stands rtl expression && nat_le (depth rtl) 64

abbrev pub is_formed_where : Option Rtl → Bool
is_formed_where None = true
is_formed_where (Some rtl) = is_formed rtl

-- Bit sizes are whole bytes, one to eight.
abbrev pub is_size : ℕ → Bool
is_size n = n == 8 * (n / 8) && nat_le 8 n && nat_le n 64

abbrev pub has_bits : Mode → Bool
has_bits mode = nat_le 1 (bits_of mode)

abbrev pub is_field : Field → Bool
is_field f = f.word_offset == 8 * (f.word_offset / 8) && is_size f.word_bits && has_bits f.mode && is_formed_where f.encode && is_formed_where f.decode

abbrev pub is_multi : Multi → Bool
is_multi x = has_bits x.mode && length x.insert == length x.subs && list_all is_formed x.insert && is_formed x.extract

-- A word is a run of letters, digits and `_ . % $`, and not empty.
abbrev pub is_word : NamedValue → Bool
is_word w = nat_le 1 (length w.word) && list_all is_in_word w.word

abbrev pub are_words : Option Keyword → Bool
are_words None = true
are_words (Some k) = list_all is_word k.words

-- The hardware's values are addresses.
abbrev pub is_address : HwKind → Bool
is_address kind.Memory = true
is_address kind.Pc = true
is_address kind.Address = true
is_address _ = false

abbrev pub same_mode : Mode → Mode → Bool
same_mode k l = mode_place k == mode_place l

abbrev pub is_hardware : Machine → Hardware → Bool
is_hardware m h =
    has_bits h.mode
    && (not (is_address h.kind) || same_mode h.mode (address_mode m.word_bits))
    && (is_register h.kind || h.count == 0)
    && are_words h.keyword && is_formed_where h.get && is_formed_where h.set

-- A literal has bytes of a string, and no `$`, `;`, `"` or `||`.
abbrev pub is_literal_byte : ℕ → Bool
is_literal_byte b = is_string_byte b && not (b == 36) && not (b == 59) && not (b == 34)

abbrev pub begins_with_bar : List ℕ → Bool
begins_with_bar [] = false
begins_with_bar (b ∷ bs) = b == 124

abbrev pub has_bars : List ℕ → Bool
has_bars [] = false
has_bars (b ∷ bs) = (b == 124 && begins_with_bar bs) || has_bars bs

abbrev pub is_piece : Piece → Bool
is_piece (Literal text) = list_all is_literal_byte text && not (has_bars text)
is_piece (Slot s) = true

abbrev pub is_insn : Insn → Bool
is_insn i = list_all is_piece i.pieces && is_formed_where i.assertion && is_formed i.semantics

abbrev pub is_macro : MacroInsn → Bool
is_macro x = list_all is_piece x.pieces

-- A bundle has one to eight instructions, and one where no field tells whether more follow.
abbrev pub is_width : Machine → Bool
is_width m = nat_le 1 m.width && nat_le m.width 8 && (is_some m.bundle || m.width == 1)

abbrev pub is_cpu_word : ℕ → Bool
is_cpu_word n = n == 8 || n == 16 || n == 32 || n == 64

-- All values of the machine are allowed.
pub record IsFormed (m : Machine) : Type 0 where
  pub word : is_cpu_word m.word_bits ≡ true
  pub base : is_size m.base_bits ≡ true
  pub width : is_width m ≡ true
  pub fields : list_all is_field m.fields ≡ true
  pub multis : list_all is_multi m.multis ≡ true
  pub hardware : list_all (is_hardware m) m.hardware ≡ true
  pub insns : list_all is_insn m.insns ≡ true
  pub macros : list_all is_macro m.macros ≡ true
