-- The bytes of texts that instructions are shown as.
use Rattle.std.proofs.Common.{◌≡◌, ℕ, zero, suc, ◌+◌, ◌*◌, ◌/◌, ◌%◌, ◌^◌, ◌<◌, ◌≤◌, max, Bool, true, false, not, ◌&&◌, ◌||◌, ◌==◌, nat_le, if◌then◌else◌, List, [], ◌∷◌, ◌++◌, length, take, drop, map, ℤ, pos, negsuc, Option, Some, None, slice_get, codes, sym, ap, ◌∙◌, refl, subst, inl, inr, arith}
use Rattle.std.specs.Fmt.{digits, digits_onto, digit_glyph, decimal, signed_decimal}
use Rattle.std.specs.List.{list_all, list_any}
use Rattle.std.proofs.lemmas.Bool.{and_parts, and_from, or_cases, or_parts, leb-true, eqb-true, cond_both, not_from_false, not-true, agree_below_at}
use Rattle.std.proofs.lemmas.List.Folds.{list_all-append}
use Rattle.std.proofs.Math.Nat.{mod-lt}
use Rattle.cg_base.specs.Grammar.{is_string_byte}
use Rattle.cg_base.specs.Modes.{bits_of, is_signed}
use Rattle.cg_base.specs.Numerals.{hex_text}
use Rattle.cg_base.specs.Operations.{as_signed}
use Rattle.cg_model.specs.Encoding.{own_pc}
use Rattle.cg_model.specs.Formed.{IsFormed, is_literal_byte, has_bars, is_piece, is_insn, is_word, are_words, is_hardware, is_formed, is_formed_where}
use Rattle.cg_model_source.specs.Lining.{is_line_byte}
use Rattle.cg_model_source.specs.Listing.{Decoder, Shown, word_for, is_address, shown_by, shown_value, shown_slot, shown_mark, shown_before, shown_marks, shown, insn_at, goes_on_by, bars_before, bundle_from, bundle_at, is_showable, showable}
use Rattle.cg_model.specs.Matching.{length_of, last_end, fields_of_parts}
use Rattle.cg_model.specs.Slots.{slot_mode, slots_of, values}
use Rattle.cg_model_source.specs.Squeezing.{is_blank_mark, is_joining_mark, goes_on, put_first, words, begins, ends, behind, spaced, marks, squeezed_syntax}
use Rattle.cg_base.specs.Characters.{is_in_word}
use Rattle.cg_model.specs.declared.hardware.Hardware.{Hardware}
use Rattle.cg_model.specs.declared.hardware.Keyword.{Keyword}
use Rattle.cg_model.specs.declared.hardware.NamedValue.{NamedValue}
use Rattle.cg_model.specs.declared.insn.Insn.{Insn}
use Rattle.cg_model.specs.declared.insn.Piece.{Piece}
use Rattle.cg_model.specs.declared.insn.Piece.TheVariants as piece
use Rattle.cg_model.specs.declared.machine.Machine.{Machine}
use Rattle.cg_model.specs.declared.operand.Operand.{Operand}
use Rattle.cg_model_source.specs.declared.written.Mark.{Mark}
use Rattle.cg_model_source.specs.declared.written.Mark.TheVariants.{Byte, Slot}

-- ---- bytes

-- a byte of a shown text, and one of a line, neither of them a quote or the start of a comment
abbrev pub is_shown_byte : ℕ → Bool
is_shown_byte b = is_string_byte b && not (b == 34) && not (b == 59)

abbrev pub is_plain_byte : ℕ → Bool
is_plain_byte b = is_line_byte b && not (b == 34) && not (b == 59)

string_below : (b : ℕ) → is_string_byte b ≡ true → b < 127
string_below b e = elim (or_cases (b == 9 || b == 10 || b == 13) (nat_le 32 b && nat_le b 126) e) [
  | inr range ↦ omega (arith, leb-true b 126 (and_parts (nat_le 32 b) (nat_le b 126) range).1)
  | inl one ↦ elim (or_cases (b == 9 || b == 10) (b == 13) one) [
    | inr is ↦ omega (arith, eqb-true b 13 is)
    | inl two ↦ elim (or_cases (b == 9) (b == 10) two) [
      | inr is ↦ omega (arith, eqb-true b 10 is)
      | inl is ↦ omega (arith, eqb-true b 9 is)
    ]
  ]
]

shown_below : (b : ℕ) → is_shown_byte b ≡ true → b < 127
shown_below b e = string_below b (and_parts (is_string_byte b) (not (b == 34)) (and_parts (is_string_byte b && not (b == 34)) (not (b == 59)) e).0).0

plain_byte : (b : ℕ) → is_shown_byte b ≡ true → (b == 10) ≡ false → is_plain_byte b ≡ true
plain_byte b e other = sym (agree_below_at (λ x. is_shown_byte x && not (x == 10)) is_plain_byte 127 b refl (shown_below b e)) ∙ and_from (is_shown_byte b) (not (b == 10)) e (not_from_false (b == 10) other)

plain_text : (text : List ℕ) → list_all is_shown_byte text ≡ true → list_any (λ b. b == 10) text ≡ false → list_all is_plain_byte text ≡ true
plain_text [] e other = refl
plain_text (b ∷ bs) e other =
    let parts = and_parts (is_shown_byte b) (list_all is_shown_byte bs) e in
    let none = or_parts (b == 10) (list_any (λ c. c == 10) bs) other in
    and_from (is_plain_byte b) (list_all is_plain_byte bs) (plain_byte b parts.0 none.0) (plain_text bs parts.1 none.1)

word_byte_below : (b : ℕ) → is_in_word b ≡ true → b < 127
word_byte_below b e = elim (or_cases ((nat_le 48 b && nat_le b 57) || (nat_le 65 b && nat_le b 90) || (nat_le 97 b && nat_le b 122) || b == 95 || b == 46 || b == 37) (b == 36) e) [
  | inr is ↦ omega (arith, eqb-true b 36 is)
  | inl a ↦ elim (or_cases ((nat_le 48 b && nat_le b 57) || (nat_le 65 b && nat_le b 90) || (nat_le 97 b && nat_le b 122) || b == 95 || b == 46) (b == 37) a) [
    | inr is ↦ omega (arith, eqb-true b 37 is)
    | inl c ↦ elim (or_cases ((nat_le 48 b && nat_le b 57) || (nat_le 65 b && nat_le b 90) || (nat_le 97 b && nat_le b 122) || b == 95) (b == 46) c) [
      | inr is ↦ omega (arith, eqb-true b 46 is)
      | inl d ↦ elim (or_cases ((nat_le 48 b && nat_le b 57) || (nat_le 65 b && nat_le b 90) || (nat_le 97 b && nat_le b 122)) (b == 95) d) [
        | inr is ↦ omega (arith, eqb-true b 95 is)
        | inl f ↦ elim (or_cases ((nat_le 48 b && nat_le b 57) || (nat_le 65 b && nat_le b 90)) (nat_le 97 b && nat_le b 122) f) [
          | inr r ↦ omega (arith, leb-true b 122 (and_parts (nat_le 97 b) (nat_le b 122) r).1)
          | inl g ↦ elim (or_cases (nat_le 48 b && nat_le b 57) (nat_le 65 b && nat_le b 90) g) [
            | inr r ↦ omega (arith, leb-true b 90 (and_parts (nat_le 65 b) (nat_le b 90) r).1)
            | inl r ↦ omega (arith, leb-true b 57 (and_parts (nat_le 48 b) (nat_le b 57) r).1)
          ]
        ]
      ]
    ]
  ]
]

word_byte : (b : ℕ) → is_in_word b ≡ true → is_shown_byte b ≡ true
word_byte b e = sym (ap (λ t. not t || is_shown_byte b) e) ∙ agree_below_at (λ x. not (is_in_word x) || is_shown_byte x) (λ x. true) 127 b refl (word_byte_below b e)

word_text : (text : List ℕ) → list_all is_in_word text ≡ true → list_all is_shown_byte text ≡ true
word_text [] e = refl
word_text (b ∷ bs) e =
    let parts = and_parts (is_in_word b) (list_all is_in_word bs) e in
    and_from (is_shown_byte b) (list_all is_shown_byte bs) (word_byte b parts.0) (word_text bs parts.1)

literal_byte : (b : ℕ) → is_literal_byte b ≡ true → is_shown_byte b ≡ true
literal_byte b e =
    let all = and_parts (is_string_byte b && not (b == 36) && not (b == 59)) (not (b == 34)) e in
    let three = and_parts (is_string_byte b && not (b == 36)) (not (b == 59)) all.0 in
    let two = and_parts (is_string_byte b) (not (b == 36)) three.0 in
    and_from (is_string_byte b && not (b == 34)) (not (b == 59)) (and_from (is_string_byte b) (not (b == 34)) two.0 all.1) three.1

-- ---- numbers

glyph_shown : (d : ℕ) → d < 16 → is_shown_byte (digit_glyph false d) ≡ true
glyph_shown d small = agree_below_at (λ x. is_shown_byte (digit_glyph false x)) (λ x. true) 16 d refl small

glyph_plain : (d : ℕ) → d < 16 → is_plain_byte (digit_glyph false d) ≡ true
glyph_plain d small = agree_below_at (λ x. is_plain_byte (digit_glyph false x)) (λ x. true) 16 d refl small

digits_pass : (test : ℕ → Bool) (k base n : ℕ) (acc : List ℕ) → ((d : ℕ) → d < 16 → test (digit_glyph false d) ≡ true) → 0 < base → base ≤ 16 → list_all test acc ≡ true → list_all test (digits_onto k base false n acc) ≡ true
digits_pass test zero base n acc each some few e = e
digits_pass test (suc k) base n acc each some few e =
    let below : n % base < base = mod-lt n some in
    let more : list_all test (digit_glyph false (n % base) ∷ acc) ≡ true = and_from (test (digit_glyph false (n % base))) (list_all test acc) (each (n % base) (omega (arith, below, few))) e in
    cond_both (n / base == 0) (digit_glyph false (n % base) ∷ acc) (digits_onto k base false (n / base) (digit_glyph false (n % base) ∷ acc)) (λ xs. list_all test xs ≡ true) (λ last. more) (λ goes. digits_pass test k base (n / base) (digit_glyph false (n % base) ∷ acc) each some few more)

hex_shown : (n : ℕ) → list_all is_shown_byte (hex_text n) ≡ true
unfolding digits
hex_shown n = digits_pass is_shown_byte 64 16 n [] glyph_shown (omega arith) (omega arith) refl

pub hex_plain : (n : ℕ) → list_all is_plain_byte (hex_text n) ≡ true
unfolding digits
hex_plain n = digits_pass is_plain_byte 64 16 n [] glyph_plain (omega arith) (omega arith) refl

decimal_shown : (n : ℕ) → list_all is_shown_byte (decimal n) ≡ true
unfolding digits
decimal_shown n = digits_pass is_shown_byte 64 10 n [] glyph_shown (omega arith) (omega arith) refl

signed_shown : (z : ℤ) → list_all is_shown_byte (signed_decimal z) ≡ true
signed_shown (pos n) = decimal_shown n
signed_shown (negsuc n) = decimal_shown (suc n)

-- ---- an instruction

abbrev AllShown : Option (List ℕ) → Type 0
AllShown None = Unit {0}
AllShown (Some t) = list_all is_shown_byte t ≡ true

before_shown : (a b : Option (List ℕ)) → AllShown a → AllShown b → AllShown (shown_before a b)
before_shown None None p q = tt
before_shown None (Some u) p q = tt
before_shown (Some t) None p q = tt
before_shown (Some t) (Some u) p q = list_all-append is_shown_byte t u ∙ and_from (list_all is_shown_byte t) (list_all is_shown_byte u) p q

word_shown : (bits : ℕ) (ws : List NamedValue) (value : ℕ) → list_all is_word ws ≡ true → AllShown (word_for bits ws value)
word_shown bits [] value e = tt
word_shown bits (w ∷ ws) value e =
    let parts = and_parts (is_word w) (list_all is_word ws) e in
    cond_both (w.value % 2 ^ bits == value) (Some w.word) (word_for bits ws value) AllShown (λ is. word_text w.word (and_parts (nat_le 1 (length w.word)) (list_all is_in_word w.word) parts.0).1) (λ other. word_shown bits ws value parts.1)

keyword_shown : (m : Machine) (o : Operand) (h : Hardware) (k : Option Keyword) (value : ℕ) → are_words k ≡ true → AllShown (shown_by m o h k value)
keyword_shown m o h (Some k) value e = word_shown (bits_of (slot_mode m o)) k.words value e
keyword_shown m o h None value e =
    let z : ℤ = if is_signed (slot_mode m o) then as_signed (bits_of (slot_mode m o)) value else pos value in
    cond_both (is_address h.kind) (hex_text value) (signed_decimal z) (λ xs. list_all is_shown_byte xs ≡ true) (λ is. hex_shown value) (λ other. signed_shown z)

hardware_words : (m : Machine) (h : Hardware) → is_hardware m h ≡ true → are_words h.keyword ≡ true
hardware_words m h e = (and_parts _ (are_words h.keyword) (and_parts _ (is_formed_where h.get) (and_parts _ (is_formed_where h.set) e).0).0).1

-- what holds of each element holds of one of them
pub one_of : {A : Type 0} (test : A → Bool) (xs : List A) (k : ℕ) (x : A) → list_all test xs ≡ true → slice_get xs k ≡ Some x → test x ≡ true
one_of test [] k x all is = absurd (cc)
one_of test (y ∷ ys) zero x all is = let same : y ≡ x = cc in subst (λ z. test z ≡ true) same (and_parts (test y) (list_all test ys) all).0
one_of test (y ∷ ys) (suc k) x all is = one_of test ys k x (and_parts (test y) (list_all test ys) all).1 is

abbrev by_hardware : Machine → Operand → ℕ → Option Hardware → Option (List ℕ)
by_hardware m o value q = elim q [ None ↦ None | Some h ↦ shown_by m o h h.keyword value ]

hardware_shown : (m : Machine) (o : Operand) (value : ℕ) (q : Option Hardware) → ((h : Hardware) → q ≡ Some h → is_hardware m h ≡ true) → AllShown (by_hardware m o value q)
hardware_shown m o value None each = tt
hardware_shown m o value (Some h) each = keyword_shown m o h h.keyword value (hardware_words m h (each h refl))

slot_shown : (m : Machine) (o : Option Operand) (v : Option ℕ) → IsFormed m → AllShown (shown_slot m o v)
unfolding shown_value
slot_shown m None None formed = tt
slot_shown m None (Some value) formed = tt
slot_shown m (Some o) None formed = tt
slot_shown m (Some o) (Some value) formed = hardware_shown m o value (slice_get m.hardware o.hardware) (λ h is. one_of (is_hardware m) m.hardware o.hardware h formed.hardware is)

abbrev is_shown_mark : Mark → Bool
is_shown_mark (Byte b) = is_shown_byte b
is_shown_mark (Slot k) = true

mark_shown : (m : Machine) (os : List Operand) (vs : List ℕ) (x : Mark) → IsFormed m → is_shown_mark x ≡ true → AllShown (shown_mark m os vs x)
mark_shown m os vs (Byte b) formed e = and_from (is_shown_byte b) true e refl
mark_shown m os vs (Slot k) formed e = slot_shown m (slice_get os k) (slice_get vs k) formed

marks_shown : (m : Machine) (os : List Operand) (vs : List ℕ) (xs : List Mark) → IsFormed m → list_all is_shown_mark xs ≡ true → AllShown (shown_marks m os vs xs)
marks_shown m os vs [] formed e = refl
marks_shown m os vs (x ∷ xs) formed e =
    let parts = and_parts (is_shown_mark x) (list_all is_shown_mark xs) e in
    before_shown (shown_mark m os vs x) (shown_marks m os vs xs) (mark_shown m os vs x formed parts.0) (marks_shown m os vs xs formed parts.1)

-- ---- squeezing brings no other characters

first_kept : {A : Type 0} (test : A → Bool) (x : A) (joined : Bool) (ws : List (List A)) → test x ≡ true → list_all (list_all test) ws ≡ true → list_all (list_all test) (put_first x joined ws) ≡ true
first_kept test x true [] e all = and_from (test x && true) true (and_from (test x) true e refl) refl
first_kept test x true (w ∷ ws) e all =
    let parts = and_parts (list_all test w) (list_all (list_all test) ws) all in
    and_from (test x && list_all test w) (list_all (list_all test) ws) (and_from (test x) (list_all test w) e parts.0) parts.1
first_kept test x false ws e all = and_from (test x && true) (list_all (list_all test) ws) (and_from (test x) true e refl) all

words_kept : {A : Type 0} (test blank : A → Bool) (xs : List A) → list_all test xs ≡ true → list_all (list_all test) (words blank xs) ≡ true
words_kept test blank [] e = refl
words_kept test blank (x ∷ xs) e =
    let parts = and_parts (test x) (list_all test xs) e in
    let rest = words_kept test blank xs parts.1 in
    cond_both (blank x) (words blank xs) (put_first x (goes_on blank xs) (words blank xs)) (λ ws. list_all (list_all test) ws ≡ true) (λ is. rest) (λ other. first_kept test x (goes_on blank xs) (words blank xs) parts.0 rest)

pub append_kept : {A : Type 0} (test : A → Bool) (xs ys : List A) → list_all test xs ≡ true → list_all test ys ≡ true → list_all test (xs ++ ys) ≡ true
append_kept test xs ys p q = list_all-append test xs ys ∙ and_from (list_all test xs) (list_all test ys) p q

behind_kept : {A : Type 0} (test joining : A → Bool) (space : A) (w : List A) (vs : List (List A)) → test space ≡ true → list_all (list_all test) vs ≡ true → list_all test (behind joining space w vs) ≡ true
behind_kept test joining space w [] s all = refl
behind_kept test joining space w (v ∷ vs) s all =
    let parts = and_parts (list_all test v) (list_all (list_all test) vs) all in
    append_kept test (if ends joining w && begins joining v then space ∷ v else v) (behind joining space v vs)
    (cond_both (ends joining w && begins joining v) (space ∷ v) v (λ xs. list_all test xs ≡ true) (λ both. and_from (test space) (list_all test v) s parts.0) (λ apart. parts.0))
    (behind_kept test joining space v vs s parts.1)

spaced_kept : {A : Type 0} (test joining : A → Bool) (space : A) (ws : List (List A)) → test space ≡ true → list_all (list_all test) ws ≡ true → list_all test (spaced joining space ws) ≡ true
spaced_kept test joining space [] s all = refl
spaced_kept test joining space (w ∷ []) s all = (and_parts (list_all test w) true all).0
spaced_kept test joining space (w ∷ v ∷ vs) s all =
    let parts = and_parts (list_all test w) (list_all test v && list_all (list_all test) vs) all in
    let others = and_parts (list_all test v) (list_all (list_all test) vs) parts.1 in
    append_kept test (w ++ space ∷ v) (behind joining space v vs)
    (append_kept test w (space ∷ v) parts.0 (and_from (test space) (list_all test v) s others.0))
    (behind_kept test joining space v vs s others.1)

literal_marks : (text : List ℕ) → list_all is_literal_byte text ≡ true → list_all is_shown_mark (map Byte text) ≡ true
literal_marks [] e = refl
literal_marks (b ∷ bs) e =
    let parts = and_parts (is_literal_byte b) (list_all is_literal_byte bs) e in
    and_from (is_shown_byte b) (list_all is_shown_mark (map Byte bs)) (literal_byte b parts.0) (literal_marks bs parts.1)

pieces_shown : (ps : List Piece) → list_all is_piece ps ≡ true → list_all is_shown_mark (marks ps) ≡ true
pieces_shown [] e = refl
pieces_shown (piece.Literal text ∷ ps) e =
    let parts = and_parts (is_piece (piece.Literal text)) (list_all is_piece ps) e in
    append_kept is_shown_mark (map Byte text) (marks ps) (literal_marks text (and_parts (list_all is_literal_byte text) (not (has_bars text)) parts.0).0) (pieces_shown ps parts.1)
pieces_shown (piece.Slot k ∷ ps) e = pieces_shown ps (and_parts (is_piece (piece.Slot k)) (list_all is_piece ps) e).1

insn_shown : (m : Machine) (i : Insn) (vs : List ℕ) → IsFormed m → is_insn i ≡ true → AllShown (shown m i vs)
unfolding shown
insn_shown m i vs formed e =
    let outer = and_parts (list_all is_piece i.pieces && is_formed_where i.assertion) (is_formed i.semantics) e in
    let pieces = (and_parts (list_all is_piece i.pieces) (is_formed_where i.assertion) outer.0).0 in
    marks_shown m (slots_of m i.parts) vs (squeezed_syntax i.pieces) formed (spaced_kept is_shown_mark is_joining_mark (Byte 32) (words is_blank_mark (marks i.pieces)) refl (words_kept is_shown_mark is_blank_mark (marks i.pieces) (pieces_shown i.pieces pieces)))

-- ---- a bundle

-- a bundle as it is shown has such bytes, and stands for one byte at least
pub record Good (s : Shown) : Type 0 where
  pub bytes : list_all is_shown_byte s.text ≡ true
  pub some : 0 < s.size

abbrev pub AllGood : Option Shown → Type 0
AllGood None = Unit {0}
AllGood (Some s) = Good s

bars_good : (text : List ℕ) (size : ℕ) (o : Option Shown) → list_all is_shown_byte text ≡ true → 0 < size → AllGood o → AllGood (bars_before text size o)
bars_good text size None e some good = tt
bars_good text size (Some s) e some good = record {
  bytes = append_kept is_shown_byte (text ++ codes " || ") s.text (append_kept is_shown_byte text (codes " || ") e refl) good.bytes;
  some = omega (arith, some);
}

abbrev with_text : Machine → Decoder → ℕ → ℕ → List ℕ → ℕ → Option (List ℕ) → Option Shown
with_text m f n a bytes size t = elim t [
  | None ↦ None
  | Some text ↦ if goes_on_by m (take size bytes) m.bundle then bars_before text size (bundle_from m f n (a + size) (drop size bytes)) else Some (record { text = text; size = size })
]

text_good : (m : Machine) (f : Decoder) (n a : ℕ) (bytes : List ℕ) (size : ℕ) (t : Option (List ℕ)) → AllShown t → 0 < size → AllGood (bundle_from m f n (a + size) (drop size bytes)) → AllGood (with_text m f n a bytes size t)
text_good m f n a bytes size None e some rest = tt
text_good m f n a bytes size (Some text) e some rest =
    cond_both (goes_on_by m (take size bytes) m.bundle) (bars_before text size (bundle_from m f n (a + size) (drop size bytes))) (Some (record { text = text; size = size })) AllGood (λ goes. bars_good text size (bundle_from m f n (a + size) (drop size bytes)) e some rest) (λ last. record { bytes = e; some = some })

abbrev with_insn : Machine → Decoder → ℕ → ℕ → List ℕ → Option Insn → Option Shown
with_insn m f n a bytes q = elim q [
  | None ↦ None
  | Some i ↦ with_text m f n a bytes (length_of m i) (shown m i (values m i bytes (own_pc m a)))
]

base_some : (base end : ℕ) → 8 ≤ base → 0 < max base end / 8
base_some base end some = omega (arith, some)

pub formed_base : (m : Machine) → IsFormed m → 8 ≤ m.base_bits
formed_base m formed =
    let outer = and_parts (m.base_bits == 8 * (m.base_bits / 8) && nat_le 8 m.base_bits) (nat_le m.base_bits 64) formed.base in
    leb-true 8 m.base_bits (and_parts (m.base_bits == 8 * (m.base_bits / 8)) (nat_le 8 m.base_bits) outer.0).1

insn_good : (m : Machine) (f : Decoder) (n a : ℕ) (bytes : List ℕ) (q : Option Insn) → IsFormed m → ((i : Insn) → q ≡ Some i → is_insn i ≡ true) → ((c : ℕ) (rest : List ℕ) → AllGood (bundle_from m f n c rest)) → AllGood (with_insn m f n a bytes q)
insn_good m f n a bytes None formed each rest = tt
insn_good m f n a bytes (Some i) formed each rest =
    text_good m f n a bytes (length_of m i) (shown m i (values m i bytes (own_pc m a))) (insn_shown m i (values m i bytes (own_pc m a)) formed (each i refl)) (base_some m.base_bits (last_end m (fields_of_parts m i.parts)) (formed_base m formed)) (rest (a + length_of m i) (drop (length_of m i) bytes))

at_number : (m : Machine) (o : Option ℕ) (i : Insn) → IsFormed m → insn_at m o ≡ Some i → is_insn i ≡ true
at_number m None i formed is = absurd (cc)
at_number m (Some k) i formed is = one_of is_insn m.insns k i formed.insns is

bundle_good : (m : Machine) (f : Decoder) (n a : ℕ) (bytes : List ℕ) → IsFormed m → AllGood (bundle_from m f n a bytes)
bundle_good m f zero a bytes formed = tt
bundle_good m f (suc n) a bytes formed = insn_good m f n a bytes (insn_at m (f bytes)) formed (λ i is. at_number m (f bytes) i formed is) (λ c rest. bundle_good m f n c rest formed)

-- a bundle that can be shown: plain bytes, at most 3,800 of them
pub record Ready (s : Shown) : Type 0 where
  pub plain : list_all is_plain_byte s.text ≡ true
  pub short : length s.text ≤ 3800
  pub some : 0 < s.size

abbrev pub AllReady : Option Shown → Type 0
AllReady None = Unit {0}
AllReady (Some s) = Ready s

ready_if : (s : Shown) (b : Bool) → is_showable s.text ≡ b → Good s → AllReady (if b then Some s else None)
ready_if s true e good =
    let parts = and_parts (not (list_any (λ b. b == 10) s.text)) (nat_le (length s.text) 3800) e in
    record {
      plain = plain_text s.text good.bytes (not-true (list_any (λ b. b == 10) s.text) parts.0);
      short = leb-true (length s.text) 3800 parts.1;
      some = good.some;
    }
ready_if s false e good = tt

showable_ready : (o : Option Shown) → AllGood o → AllReady (showable o)
showable_ready None good = tt
showable_ready (Some s) good = ready_if s (is_showable s.text) refl good

pub bundle_ready : (m : Machine) (f : Decoder) (a : ℕ) (bytes : List ℕ) → IsFormed m → AllReady (bundle_at m f a bytes)
bundle_ready m f a bytes formed = showable_ready (bundle_from m f m.width a bytes) (bundle_good m f m.width a bytes formed)
