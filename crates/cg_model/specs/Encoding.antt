-- The bytes of an instruction for the values of its slots.
use Rattle.std.specs.Prelude.{◌≡◌, ℕ, suc, ◌+◌, ◌*◌, ◌/◌, ◌%◌, ◌^◌, ◌<◌, true, ◌==◌, if◌then◌else◌, List, [], ◌∷◌, ◌++◌, take, drop, replicate, Option, Some, None, slice_get}
use Rattle.cg_base.specs.declared.mode.Mode.{Mode}
use Rattle.cg_base.specs.Bytes.{bytes_of}
use Rattle.cg_base.specs.Modes.{bits_of}
use Rattle.cg_base.specs.Operations.{converted}
use Rattle.cg_model.specs.Covers.{is_near}
use Rattle.cg_model.specs.Fields.{word_of, around_value}
use Rattle.cg_model.specs.Matching.{asserts, length_of}
use Rattle.cg_model.specs.Pure.{pure_value}
use Rattle.cg_model.specs.Slots.{slot_mode, values}
use Rattle.cg_model.specs.declared.field.Field.{Field}
use Rattle.cg_model.specs.declared.field.Multi.{Multi}
use Rattle.cg_model.specs.declared.insn.Insn.{Insn}
use Rattle.cg_model.specs.declared.insn.Part.{Part}
use Rattle.cg_model.specs.declared.insn.Part.TheVariants.{Constant, Slot}
use Rattle.cg_model.specs.declared.machine.Machine.{Machine}
use Rattle.cg_model.specs.declared.operand.Operand.{Operand}
use Rattle.cg_model.specs.declared.operand.Source.TheVariants as source
use Rattle.cg_model.specs.declared.rtl.Rtl.{Rtl}

-- What a rule makes of a value. It names no field, so no bytes stand around.
abbrev pub ruled : Machine → ℕ → ℕ → Field → Rtl → ℕ
ruled m pc value f rule = pure_value m (around_value value pc) rule (Some f.mode)

-- The bits of a field for a value: what its rule `encode` gives for it, where it has one, modulo 2 ^ length.
abbrev pub coded : Machine → ℕ → ℕ → Field → ℕ
coded m pc value f = elim f.encode [ None ↦ value | Some rule ↦ ruled m pc value f rule ] % 2 ^ f.length

-- Some bits for a field.
pub record Setting : Type 0 where
  pub field : Field
  pub bits : ℕ

-- A field that is set to a value by its rule `encode`.
abbrev pub setting_of : Machine → ℕ → Field → ℕ → Setting
setting_of m pc f value = record { field = f; bits = coded m pc value f }

-- A constant stands as it is. A field that there is not is not set.
abbrev pub constant_setting : Option Field → ℕ → List Setting
constant_setting None value = []
constant_setting (Some f) value = record { field = f; bits = value } ∷ []

abbrev pub field_setting : Machine → ℕ → Mode → ℕ → Option Field → List Setting
field_setting m pc mode value None = []
field_setting m pc mode value (Some f) = setting_of m pc f (converted mode f.mode value) ∷ []

-- What `insert` gives a field of a multi field goes through the field's own `encode`.
abbrev pub inserted_setting : Machine → ℕ → ℕ → Rtl → Option Field → List Setting
inserted_setting m pc value rule None = []
inserted_setting m pc value rule (Some f) = setting_of m pc f (ruled m pc value f rule) ∷ []

abbrev pub inserted : Machine → ℕ → ℕ → List ℕ → List Rtl → List Setting
inserted m pc value (k ∷ ks) (rule ∷ rules) = inserted_setting m pc value rule (slice_get m.fields k) ++ inserted m pc value ks rules
inserted m pc value _ _ = []

abbrev pub multi_settings : Machine → ℕ → Mode → ℕ → Option Multi → List Setting
multi_settings m pc mode value None = []
multi_settings m pc mode value (Some x) = inserted m pc (converted mode x.mode value) x.subs x.insert

-- The fields of a slot, in order, for its value, which is first converted to the mode of its field or multi field.
abbrev pub slot_settings : Machine → ℕ → Operand → ℕ → List Setting
slot_settings m pc o value = elim o.source [
  | source.Field k ↦ field_setting m pc (slot_mode m o) value (slice_get m.fields k)
  | source.Multi k ↦ multi_settings m pc (slot_mode m o) value (slice_get m.multis k)
  | _ ↦ []
]

-- What the parts of a format set, in order, for the values of its slots. Where values are wanting, nothing more is set.
abbrev pub settings : Machine → ℕ → List Part → List ℕ → List Setting
settings m pc [] vs = []
settings m pc (Constant k c ∷ ps) vs = constant_setting (slice_get m.fields k) c ++ settings m pc ps vs
settings m pc (Slot k ∷ ps) [] = []
settings m pc (Slot k ∷ ps) (v ∷ vs) = elim (slice_get m.operands k) [ None ↦ settings m pc ps vs | Some o ↦ slot_settings m pc o v ++ settings m pc ps vs ]

-- A word in which a field's bits are n. The bits above it and below it stay.
abbrev pub word_with : Field → ℕ → ℕ → ℕ
word_with f n word = word / 2 ^ (f.shift + f.length) * 2 ^ (f.shift + f.length) + n * 2 ^ f.shift + word % 2 ^ f.shift

-- Bytes in which a field's bits are n. All other bits stay.
abbrev pub with_word : Machine → Field → ℕ → List ℕ → List ℕ
with_word m f n bytes =
    (take (f.word_offset / 8) bytes ++ bytes_of m.insn_endian (f.word_bits / 8) (word_with f n (word_of m f bytes))) ++ drop (f.word_offset / 8 + f.word_bits / 8) bytes

-- A field past the 16 bytes that an instruction may have is not set.
abbrev pub with_bits : Machine → Field → ℕ → List ℕ → List ℕ
with_bits m f n bytes = if is_near f then with_word m f n bytes else bytes

abbrev pub with_all : Machine → List Setting → List ℕ → List ℕ
with_all m [] bytes = bytes
with_all m (x ∷ xs) bytes = with_all m xs (with_bits m x.field x.bits bytes)

-- The constants and the slots' fields in place, and 0 in all other bits, in the 16 bytes that an instruction may have.
abbrev pub in_place : Machine → Insn → List ℕ → ℕ → List ℕ
in_place m i vs pc = with_all m (settings m pc i.parts vs) (replicate 16 0)

-- The bytes that may be the encoding of some values at a pc: as many of those as the instruction has.
abbrev pub candidate : Machine → Insn → List ℕ → ℕ → List ℕ
candidate m i vs pc = take (length_of m i) (in_place m i vs pc)

-- Bytes are the encoding of some values at a pc: they meet the assertion, and decode to just these values.
pub record Encodes (m : Machine) (i : Insn) (vs : List ℕ) (pc : ℕ) (bytes : List ℕ) : Type 0 where
  pub is_candidate : bytes ≡ candidate m i vs pc
  pub asserted : asserts m i bytes ≡ true
  pub back : values m i bytes pc ≡ vs

-- Values are in range where they have an encoding.
pub record InRange (m : Machine) (i : Insn) (vs : List ℕ) (pc : ℕ) : Type 0 where
  pub bytes : List ℕ
  pub encodes : Encodes m i vs pc bytes

-- The number of a slot, and its value.
pub record Out : Type 0 where
  pub operand : ℕ
  pub value : ℕ

-- The first of some values, counted from k on, that did not come back, or the place behind them and 0 where all did.
abbrev pub first_lost : ℕ → List ℕ → List ℕ → Out
first_lost k [] backs = record { operand = k; value = 0 }
first_lost k (v ∷ vs) [] = record { operand = k; value = v }
first_lost k (v ∷ vs) (b ∷ bs) = if v == b then first_lost (suc k) vs bs else record { operand = k; value = v }

-- What is named of values that are not in range: the first slot whose value does not come back from the candidate, and the value.
-- Where all come back, only the assertion fails: then the count of slots and 0.
abbrev pub first_out : Machine → Insn → List ℕ → ℕ → Out
first_out m i vs pc = first_lost 0 vs (values m i (candidate m i vs pc) pc)

-- Just one number for each of some slots, below 2 ^ bits of the slot's mode.
abbrev pub AreFor : Machine → List Operand → List ℕ → Type 0
AreFor m [] [] = Unit {0}
AreFor m (o ∷ os) (v ∷ vs) = (v < 2 ^ bits_of (slot_mode m o)) × AreFor m os vs
AreFor m _ _ = ⊥

-- An address that is handed in counts modulo 2 ^ bits of the cpu's word.
abbrev pub own_pc : Machine → ℕ → ℕ
own_pc m pc = pc % 2 ^ m.word_bits
