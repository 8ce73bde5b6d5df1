-- How a slot is written: by a word of its hardware, or by a sum of numbers and labels.
use Rattle.std.specs.Prelude.{ℕ, ◌+◌, ◌%◌, ◌^◌, Bool, false, not, ◌&&◌, ◌||◌, ◌==◌, nat_le, if◌then◌else◌, List, [], ◌∷◌, map, ℤ, pos, ◌+ℤ◌, ◌-ℤ◌, Option, Some, None, slice_get}
use Rattle.std.specs.List.{list_all, list_any, flat_map}
use Rattle.std.specs.Option.{option_map}
use Rattle.cg_base.specs.Modes.{bits_of}
use Rattle.cg_base.specs.Numerals.{number_written}
use Rattle.cg_base.specs.Parts.{◌>>=◌}
use Rattle.cg_base.specs.Texts.{same_text}
use Rattle.cg_model.specs.Slots.{slot_mode}
use Rattle.cg_model.specs.Words.{same_word, words_of, word_value}
use Rattle.cg_model.specs.declared.hardware.Hardware.{Hardware}
use Rattle.cg_model.specs.declared.hardware.Keyword.{Keyword}
use Rattle.cg_model.specs.declared.machine.Machine.{Machine}
use Rattle.cg_model.specs.declared.operand.Operand.{Operand}
use Rattle.cg_model_source.specs.declared.written.Sum.{Sum}
use Rattle.cg_model_source.specs.declared.written.Term.{Term}
use Rattle.cg_base.specs.Characters.{is_alphanumeric}

-- The keywords of a machine: all words of its hardware.
abbrev pub keywords : Machine → List (List ℕ)
keywords m = flat_map words_of m.hardware

abbrev pub is_keyword : List (List ℕ) → List ℕ → Bool
is_keyword words text = list_any (same_word text) words

abbrev pub is_digit : ℕ → Bool
is_digit b = nat_le 48 b && nat_le b 57

-- Letters, digits and `_ . $`.
abbrev pub is_in_label : ℕ → Bool
is_in_label b = is_alphanumeric b || b == 95 || b == 46 || b == 36

-- A label: a letter, `_`, `.` or `$`, and then such and digits.
abbrev pub is_label : List ℕ → Bool
is_label [] = false
is_label (b ∷ bs) = is_in_label b && not (is_digit b) && list_all is_in_label bs

-- A part of a sum, and whether it is taken off.
pub record Signed : Type 0 where
  pub minus : Bool
  pub text : List ℕ

-- A text parted at its signs: what stands in front of the first, and what stands behind each.
pub record Parted : Type 0 where
  pub front : List ℕ
  pub signed : List Signed

abbrev pub is_sign : ℕ → Bool
is_sign b = b == 43 || b == 45

abbrev pub part_off : ℕ → Parted → Parted
part_off b p = record { front = []; signed = record { minus = b == 45; text = p.front } ∷ p.signed }

abbrev pub go_on : ℕ → Parted → Parted
go_on b p = record { front = b ∷ p.front; signed = p.signed }

abbrev pub parted : List ℕ → Parted
parted [] = record { front = []; signed = [] }
parted (b ∷ bs) = if is_sign b then part_off b (parted bs) else go_on b (parted bs)

-- The parts of a sum. The sign in front of the first may be left out.
abbrev pub parts_of : List ℕ → List Signed → List Signed
parts_of [] (t ∷ ts) = t ∷ ts
parts_of front ts = record { minus = false; text = front } ∷ ts

abbrev pub sum_parts : List ℕ → List Signed
sum_parts text = parts_of (parted text).front (parted text).signed

-- The sum of no numbers and no labels; and of one number alone.
abbrev pub just : ℤ → Sum
just z = record { number = z; terms = [] }

abbrev pub plus_number : Bool → ℕ → Sum → Sum
plus_number minus n s = record { number = if minus then s.number -ℤ pos n else s.number +ℤ pos n; terms = s.terms }

abbrev pub plus_label : Bool → List ℕ → Sum → Sum
plus_label minus label s = record { number = s.number; terms = record { label = label; minus = minus } ∷ s.terms }

-- A part in front of others: a number or a label. A name that is one of the keywords is no label.
abbrev pub plus : List (List ℕ) → Signed → Sum → Option Sum
plus words t s = elim (number_written t.text) [
  | Some n ↦ Some (plus_number t.minus n s)
  | None ↦ if is_label t.text && not (is_keyword words t.text) then Some (plus_label t.minus t.text s) else None
]

abbrev pub summed : List (List ℕ) → List Signed → Option Sum
summed words [] = Some (just (pos 0))
summed words (t ∷ ts) = summed words ts >>= plus words t

-- The sum that a text writes, where no label may be one of these keywords.
unfoldable pub sum_of : List (List ℕ) → List ℕ → Option Sum
sum_of words text = summed words (sum_parts text)

-- A number modulo 2 ^ bits of a slot's mode.
abbrev pub in_mode : Machine → Operand → ℕ → Sum
in_mode m o n = just (pos (n % 2 ^ bits_of (slot_mode m o)))

-- What is written for an operand stands for this sum: the value of a word, where its hardware has words, and else what the sum gives.
abbrev pub spelled_by : Machine → List (List ℕ) → Operand → Option Keyword → List ℕ → Option Sum
spelled_by m words o (Some k) text = option_map (in_mode m o) (word_value k.words text)
spelled_by m words o None text = sum_of words text

unfoldable pub spelled : Machine → List (List ℕ) → Operand → List ℕ → Option Sum
spelled m words o text = elim (slice_get m.hardware o.hardware) [ None ↦ None | Some h ↦ spelled_by m words o h.keyword text ]

-- The address of a label in a sum, added or taken off.
abbrev pub plus_address : (List ℕ → ℕ) → Term → ℤ → ℤ
plus_address address t z = if t.minus then z -ℤ pos (address t.label) else z +ℤ pos (address t.label)

abbrev pub with_addresses : (List ℕ → ℕ) → ℤ → List Term → ℤ
with_addresses address z [] = z
with_addresses address z (t ∷ ts) = plus_address address t (with_addresses address z ts)

-- The whole number that a sum gives with its labels' addresses.
abbrev pub sum_value : (List ℕ → ℕ) → Sum → ℤ
sum_value address s = with_addresses address s.number s.terms
