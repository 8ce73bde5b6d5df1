-- A sound machine, as far as the rules go that its data can break: fields, rules, formats and assertions are as bits need them.
-- Each part is what a check of a description says. (That two of its instructions clash is a check of its own.)
use Rattle.std.specs.Prelude.{◌≡◌, ℕ, ◌*◌, ◌/◌, ◌^◌, ◌<◌, ◌≤◌, Bool, true, false, not, ◌&&◌, ◌||◌, ◌==◌, List, [], ◌∷◌, length, bit_and, count_ones, ℤ, pos, negsuc, Option, Some, None, slice_get, Ok}
use Rattle.std.specs.List.{list_all}
use Rattle.cg_base.specs.declared.mode.Mode.{Mode}
use Rattle.cg_base.specs.Modes.{bits_of}
use Rattle.cg_model.specs.Checked.{mode_of}
use Rattle.cg_model.specs.Covers.{IsInWord, covered_by, covered_by_all, asked_bits}
use Rattle.cg_model.specs.Matching.{fields_of_parts, length_of}
use Rattle.cg_model.specs.Operators.{at_number}
use Rattle.cg_model.specs.Pure.{is_pure}
use Rattle.cg_model.specs.Slots.{slots_of}
use Rattle.cg_model.specs.declared.field.Field.{Field}
use Rattle.cg_model.specs.declared.field.Multi.{Multi}
use Rattle.cg_model.specs.declared.hardware.Hardware.{Hardware}
use Rattle.cg_model.specs.declared.insn.Insn.{Insn}
use Rattle.cg_model.specs.declared.insn.Part.{Part}
use Rattle.cg_model.specs.declared.insn.Part.TheVariants.{Constant, Slot}
use Rattle.cg_model.specs.declared.machine.Machine.{Machine}
use Rattle.cg_model.specs.declared.operand.Operand.{Operand}
use Rattle.cg_model.specs.declared.operand.Source.{Source}
use Rattle.cg_model.specs.declared.operand.Source.TheVariants as source
use Rattle.cg_model.specs.declared.rtl.Op.{Op}
use Rattle.cg_model.specs.declared.rtl.Op.TheVariants as op
use Rattle.cg_model.specs.declared.rtl.Rtl.{Rtl}
use Rattle.cg_model.specs.declared.rtl.Rtl.TheOpen.{Rtl-F}
use Rattle.cg_model.specs.declared.rtl.Rtl.TheFolds.{fold-Rtl}

-- What may stand at a node, by its operation, mode and number.
abbrev pub Allowed : Type 0
Allowed = Op → Option Mode → ℤ → Bool

abbrev pub allowed_step : Allowed → Rtl-F Bool → Bool
allowed_step ok f = ok f.op f.mode f.number && list_all (λ b. b) f.items

-- All nodes of an expression are allowed.
unfoldable pub is_allowed : Allowed → Rtl → Bool
is_allowed ok rtl = fold-Rtl Bool (allowed_step ok) rtl

-- The number of something stands among some numbers.
abbrev pub is_among : ℕ → List ℕ → Bool
is_among n [] = false
is_among n (k ∷ ks) = n == k || is_among n ks

abbrev pub names_among : List ℕ → ℤ → Bool
names_among ks (pos n) = is_among n ks
names_among ks (negsuc n) = false

abbrev pub is_there : {A : Type 0} → Option A → Bool
is_there None = false
is_there (Some x) = true

abbrev pub is_mode : Mode → Option Mode → Bool
is_mode own None = false
is_mode own (Some k) = bits_of k == bits_of own

-- In `encode` and `decode`, and in `insert`, stands the rule's own value, in this mode, and no field.
abbrev pub of_value : Mode → Allowed
of_value own op.Value mode n = is_mode own mode
of_value own op.FieldRef mode n = false
of_value own op.MultiRef mode n = false
of_value own _ mode n = true

-- In `extract` stand fields of the multi field, and no value.
abbrev pub of_fields : List ℕ → Allowed
of_fields ks op.Value mode n = false
of_fields ks op.FieldRef mode n = names_among ks n
of_fields ks op.MultiRef mode n = false
of_fields ks _ mode n = true

abbrev pub has_rules : Field → Bool
has_rules f = is_there f.encode || is_there f.decode

-- The field of a number has its bits for a value.
abbrev pub is_plain : Machine → ℤ → Bool
is_plain m n = elim (at_number m.fields n) [ None ↦ false | Some f ↦ not (has_rules f) ]

-- In an assertion stand fields of the format that have no rules, and neither the pc nor a value.
abbrev pub of_format : Machine → List ℕ → Allowed
of_format m ks op.Value mode n = false
of_format m ks op.Pc mode n = false
of_format m ks op.FieldRef mode n = names_among ks n && is_plain m n
of_format m ks op.MultiRef mode n = false
of_format m ks _ mode n = true

-- An expression is pure, and has a mode of some bits where that mode is wanted of it, or none is.
pub record Gives (m : Machine) (want : Option Mode) (rtl : Rtl) : Type 0 where
  pub pure : is_pure rtl ≡ true
  pub mode : Mode
  pub moded : mode_of m rtl want ≡ Ok mode
  pub valued : 1 ≤ bits_of mode

-- A rule that gives a value of its own mode.
pub record IsRule (m : Machine) (own : Mode) (ok : Allowed) (rtl : Rtl) : Type 0 where
  pub gives : Gives m (Some own) rtl
  pub same : bits_of gives.mode ≡ bits_of own
  pub allowed : is_allowed ok rtl ≡ true

-- A field has a bit at least and lies in its word, as its value does in its mode.
pub record SoundField (m : Machine) (f : Field) : Type 0 where
  pub placed : IsInWord f
  pub fits : f.length ≤ bits_of f.mode
  pub encode : (rtl : Rtl) → f.encode ≡ Some rtl → IsRule m f.mode (of_value f.mode) rtl
  pub decode : (rtl : Rtl) → f.decode ≡ Some rtl → IsRule m f.mode (of_value f.mode) rtl

-- For each field of a multi field a rule that gives the field's value.
abbrev pub AreInserts : Machine → Mode → List ℕ → List Rtl → Type 0
AreInserts m own [] [] = Unit {0}
AreInserts m own (k ∷ ks) (rtl ∷ rtls) = ((f : Field) → slice_get m.fields k ≡ Some f → IsRule m f.mode (of_value own) rtl) × AreInserts m own ks rtls
AreInserts m own _ _ = ⊥

abbrev pub are_fields : Machine → List ℕ → Bool
are_fields m ks = list_all (λ k. is_there (slice_get m.fields k)) ks

pub record SoundMulti (m : Machine) (x : Multi) : Type 0 where
  pub valued : 1 ≤ bits_of x.mode
  pub subs : are_fields m x.subs ≡ true
  pub insert : AreInserts m x.mode x.subs x.insert
  pub extract : IsRule m x.mode (of_fields x.subs) x.extract

abbrev pub has_source : Machine → Source → Bool
has_source m (source.Field k) = is_there (slice_get m.fields k)
has_source m (source.Multi k) = is_there (slice_get m.multis k)
has_source m _ = true

-- An operand is of some hardware that there is, and so are its field or multi field.
pub record SoundOperand (m : Machine) (o : Operand) : Type 0 where
  pub hardware : is_there (slice_get m.hardware o.hardware) ≡ true
  pub source : has_source m o.source ≡ true

-- A constant fits its field, which there is; a slot's operand is there.
abbrev pub PartFits : Machine → Part → Type 0
PartFits m (Constant k c) = (is_there (slice_get m.fields k) ≡ true) × ((f : Field) → slice_get m.fields k ≡ Some f → c < 2 ^ f.length)
PartFits m (Slot k) = is_there (slice_get m.operands k) ≡ true

-- The parts fit, and no two of them cover one bit.
abbrev pub AreApart : Machine → List Part → Type 0
AreApart m [] = Unit {0}
AreApart m (p ∷ ps) = PartFits m p × (bit_and (covered_by m p) (covered_by_all m ps) ≡ 0) × AreApart m ps

-- An assertion gives a value of any mode, and names fields of the format alone, of at most 8 bits together.
pub record IsAssertion (m : Machine) (i : Insn) (rtl : Rtl) : Type 0 where
  pub gives : Gives m None rtl
  pub allowed : is_allowed (of_format m (fields_of_parts m i.parts)) rtl ≡ true
  pub few : count_ones (asked_bits m i) ≤ 8

-- An instruction has 16 bytes at most.
pub record SoundInsn (m : Machine) (i : Insn) : Type 0 where
  pub short : length_of m i ≤ 16
  pub parts : AreApart m i.parts
  pub slots : length (slots_of m i.parts) ≤ 16
  pub assertion : (rtl : Rtl) → i.assertion ≡ Some rtl → IsAssertion m i rtl

-- The cpu's word has 8, 16, 32 or 64 bits.
abbrev pub is_word : ℕ → Bool
is_word bits = bits == 8 || bits == 16 || bits == 32 || bits == 64

-- The shortest instruction has 1 to 8 whole bytes.
pub record SoundBase (bits : ℕ) : Type 0 where
  pub bytes : bits ≡ 8 * (bits / 8)
  pub some : 8 ≤ bits
  pub few : bits ≤ 64

-- Values of hardware have bits.
pub record SoundHardware (h : Hardware) : Type 0 where
  pub valued : 1 ≤ bits_of h.mode

pub record IsSound (m : Machine) : Type 0 where
  pub word : is_word m.word_bits ≡ true
  pub base : SoundBase m.base_bits
  pub fields : (k : ℕ) (f : Field) → slice_get m.fields k ≡ Some f → SoundField m f
  pub multis : (k : ℕ) (x : Multi) → slice_get m.multis k ≡ Some x → SoundMulti m x
  pub hardware : (k : ℕ) (h : Hardware) → slice_get m.hardware k ≡ Some h → SoundHardware h
  pub operands : (k : ℕ) (o : Operand) → slice_get m.operands k ≡ Some o → SoundOperand m o
  pub few : length m.insns ≤ 4096
  pub insns : (k : ℕ) (i : Insn) → slice_get m.insns k ≡ Some i → SoundInsn m i
