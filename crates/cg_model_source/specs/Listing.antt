-- The listing of an image: source that gives the image again.
use Rattle.std.specs.Prelude.{ℕ, zero, suc, ◌+◌, ◌-◌, ◌/◌, ◌%◌, ◌^◌, Bool, true, false, not, ◌&&◌, ◌==◌, nat_le, if◌then◌else◌, List, [], ◌∷◌, ◌++◌, length, take, drop, pos, Option, Some, None, slice_get, Result, Ok, Err, codes}
use Rattle.std.specs.Fmt.{signed_decimal}
use Rattle.std.specs.List.{flat_map, list_any}
use Rattle.cg_base.specs.Faults.{hex_byte}
use Rattle.cg_base.specs.Modes.{bits_of, is_signed}
use Rattle.cg_base.specs.Numerals.{hex_text}
use Rattle.cg_base.specs.Operations.{as_signed}
use Rattle.cg_base.specs.Texts.{same_text}
use Rattle.cg_model_source.specs.Choosing.{SourceFault}
use Rattle.cg_model.specs.Encoding.{own_pc}
use Rattle.cg_model.specs.Fields.{bits_at}
use Rattle.cg_model.specs.Matching.{length_of}
use Rattle.cg_model.specs.Slots.{slot_mode, slots_of, values}
use Rattle.cg_model_source.specs.Squeezing.{squeezed_syntax}
use Rattle.cg_model_source.specs.Stating.{stated}
use Rattle.cg_model.specs.declared.hardware.Hardware.{Hardware}
use Rattle.cg_model.specs.declared.hardware.HwKind.{HwKind}
use Rattle.cg_model.specs.declared.hardware.HwKind.TheVariants as kind
use Rattle.cg_model.specs.declared.hardware.Keyword.{Keyword}
use Rattle.cg_model.specs.declared.hardware.NamedValue.{NamedValue}
use Rattle.cg_model.specs.declared.insn.Insn.{Insn}
use Rattle.cg_model.specs.declared.machine.Machine.{Machine}
use Rattle.cg_model.specs.declared.operand.Operand.{Operand}
use Rattle.cg_model_source.specs.declared.written.Mark.{Mark}
use Rattle.cg_model_source.specs.declared.written.Mark.TheVariants.{Byte, Slot}

-- The first word whose own value, modulo 2 ^ bits, is this.
abbrev pub word_for : ℕ → List NamedValue → ℕ → Option (List ℕ)
word_for bits [] value = None
word_for bits (w ∷ ws) value = if w.value % 2 ^ bits == value then Some w.word else word_for bits ws value

abbrev pub is_address : HwKind → Bool
is_address kind.Address = true
is_address _ = false

-- A value without words: an address in hexadecimal digits, all else in decimal ones, with the sign of its mode.
abbrev pub shown_number : Machine → Operand → Hardware → ℕ → List ℕ
shown_number m o h value = if is_address h.kind then hex_text value else signed_decimal (if is_signed (slot_mode m o) then as_signed (bits_of (slot_mode m o)) value else pos value)

abbrev pub shown_by : Machine → Operand → Hardware → Option Keyword → ℕ → Option (List ℕ)
shown_by m o h (Some k) value = word_for (bits_of (slot_mode m o)) k.words value
shown_by m o h None value = Some (shown_number m o h value)

-- How the value of an operand is shown. It can't be where its hardware has words, and none for the value.
unfoldable pub shown_value : Machine → Operand → ℕ → Option (List ℕ)
shown_value m o value = elim (slice_get m.hardware o.hardware) [ None ↦ None | Some h ↦ shown_by m o h h.keyword value ]

abbrev pub shown_slot : Machine → Option Operand → Option ℕ → Option (List ℕ)
shown_slot m (Some o) (Some value) = shown_value m o value
shown_slot m _ _ = None

abbrev pub shown_mark : Machine → List Operand → List ℕ → Mark → Option (List ℕ)
shown_mark m os vs (Byte b) = Some (b ∷ [])
shown_mark m os vs (Slot k) = shown_slot m (slice_get os k) (slice_get vs k)

abbrev pub shown_before : Option (List ℕ) → Option (List ℕ) → Option (List ℕ)
shown_before (Some t) (Some ts) = Some (t ++ ts)
shown_before _ _ = None

abbrev pub shown_marks : Machine → List Operand → List ℕ → List Mark → Option (List ℕ)
shown_marks m os vs [] = Some []
shown_marks m os vs (x ∷ xs) = shown_before (shown_mark m os vs x) (shown_marks m os vs xs)

-- How an instruction is shown: its squeezed syntax, with the values of its slots.
unfoldable pub shown : Machine → Insn → List ℕ → Option (List ℕ)
shown m i vs = shown_marks m (slots_of m i.parts) vs (squeezed_syntax i.pieces)

-- How bytes are decoded: to the number of an instruction, or to none.
abbrev pub Decoder : Type 0
Decoder = List ℕ → Option ℕ

-- The instruction that bytes begin with.
abbrev pub insn_at : Machine → Option ℕ → Option Insn
insn_at m None = None
insn_at m (Some k) = slice_get m.insns k

-- The bundle's bit says that another instruction follows.
abbrev pub goes_on_by : Machine → List ℕ → Option ℕ → Bool
goes_on_by m bytes None = false
goes_on_by m bytes (Some k) = elim (slice_get m.fields k) [ None ↦ false | Some f ↦ bits_at m f bytes == 1 ]

-- A bundle as it is shown, and how many bytes it has.
pub record Shown : Type 0 where
  pub text : List ℕ
  pub size : ℕ

-- One more instruction in front.
abbrev pub bars_before : List ℕ → ℕ → Option Shown → Option Shown
bars_before text size None = None
bars_before text size (Some s) = Some (record { text = text ++ codes " || " ++ s.text; size = size + s.size })

-- The bundle at the beginning of some bytes, which lie at an address, of so many instructions at most. None where one of them isn't
-- decoded within the bytes or can't be shown, or where the last that is allowed says that another one follows.
abbrev pub bundle_from : Machine → Decoder → ℕ → ℕ → List ℕ → Option Shown
bundle_from m found zero address bytes = None
bundle_from m found (suc n) address bytes = elim (insn_at m (found bytes)) [
  | None ↦ None
  | Some i ↦ elim (shown m i (values m i bytes (own_pc m address))) [
    | None ↦ None
    | Some text ↦ if goes_on_by m (take (length_of m i) bytes) m.bundle then bars_before text (length_of m i) (bundle_from m found n (address + length_of m i) (drop (length_of m i) bytes)) else Some (record { text = text; size = length_of m i })
  ]
]

-- A text can be shown where it has no end of a line in it, and at most 3,800 bytes.
abbrev pub is_showable : List ℕ → Bool
is_showable text = not (list_any (λ b. b == 10) text) && nat_le (length text) 3800

abbrev pub showable : Option Shown → Option Shown
showable None = None
showable (Some s) = if is_showable s.text then Some s else None

abbrev pub bundle_at : Machine → Decoder → ℕ → List ℕ → Option Shown
bundle_at m found address bytes = showable (bundle_from m found m.width address bytes)

-- A statement gives just these bytes.
abbrev pub gives : Result (List ℕ) SourceFault → List ℕ → Bool
gives (Ok given) bytes = same_text given bytes
gives (Err fault) bytes = false

-- `0x` and two digits for each of some bytes, joined by `, `.
abbrev pub byte_text : ℕ → List ℕ
byte_text b = codes "0x" ++ hex_byte b

abbrev pub byte_texts : List ℕ → List ℕ
byte_texts [] = []
byte_texts (b ∷ []) = byte_text b
byte_texts (b ∷ c ∷ cs) = byte_text b ++ codes ", " ++ byte_texts (c ∷ cs)

-- A line of a listing: eight blanks, its text, its address and its bytes; behind these what is said of them besides.
abbrev pub listed : ℕ → List ℕ → List ℕ → List ℕ → List ℕ
listed address text bytes besides = codes "        " ++ text ++ codes " ; " ++ hex_text address ++ codes ": " ++ flat_map hex_byte bytes ++ besides ++ 10 ∷ []

-- A line of a listing, and how many bytes it shows.
pub record ListedLine : Type 0 where
  pub text : List ℕ
  pub size : ℕ

abbrev pub besides : Option Shown → List ℕ
besides None = []
besides (Some s) = 32 ∷ s.text

-- The bytes as they are: those of the machine's shortest instruction, or the rest.
abbrev pub as_bytes : Machine → ℕ → List ℕ → Option Shown → ListedLine
as_bytes m address bytes bundle =
    let word = take (m.base_bits / 8) bytes in
    record { text = listed address (codes ".byte " ++ byte_texts word) word (besides bundle); size = length word }

-- Where the bundle that bytes begin with can be shown, and its text is a statement that gives its bytes, that statement; else bytes.
abbrev pub line_for : Machine → ℕ → List ℕ → Option Shown → ListedLine
line_for m address bytes None = as_bytes m address bytes None
line_for m address bytes (Some s) = if gives (stated m address s.text) (take s.size bytes) then record { text = listed address s.text (take s.size bytes) []; size = s.size } else as_bytes m address bytes (Some s)

-- The first line of some bytes at an address.
unfoldable pub line_at : Machine → Decoder → ℕ → List ℕ → ListedLine
line_at m found address bytes = line_for m (own_pc m address) bytes (bundle_at m found address bytes)

-- The lines of some bytes, of which the first so many stand in the line before.
abbrev pub lines_from : Machine → Decoder → ℕ → ℕ → List ℕ → List ℕ
lines_from m found skipped address [] = []
lines_from m found (suc skipped) address (b ∷ bs) = lines_from m found skipped (suc address) bs
lines_from m found zero address (b ∷ bs) =
    let line = line_at m found address (b ∷ bs) in
    line.text ++ lines_from m found (line.size - 1) (suc address) bs

-- The listing of an image that begins at a base, by a decoder.
unfoldable pub listing : Machine → Decoder → ℕ → List ℕ → List ℕ
listing m found base image = lines_from m found 0 base image
