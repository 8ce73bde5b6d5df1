-- What a line of bytes lays down, which are written in hexadecimal digits.
use Rattle.std.proofs.Common.{◌≡◌, ℕ, ◌*◌, ◌/◌, ◌%◌, ◌<◌, ◌≤◌, Bool, true, false, not, ◌&&◌, ◌==◌, if◌then◌else◌, List, [], ◌∷◌, ◌++◌, length, map, pos, Option, Some, None, codes, ap, ◌∙◌, refl, arith}
use Rattle.std.specs.Char.{digit_char}
use Rattle.std.specs.List.{list_all, flat_map}
use Rattle.std.specs.Fmt.{signed_decimal}
use Rattle.std.specs.Cmp.Lexicographic.{bytes_decides}
use Rattle.std.proofs.Math.IntN.{+ℤ_idl}
use Rattle.std.proofs.lemmas.Bool.{false≢true, and_parts, and_from, eqb-true, not-true, agree_below_at}
use Rattle.cg_base.specs.Bytes.{bytes_of}
use Rattle.cg_base.specs.Faults.{hex_byte}
use Rattle.cg_base.specs.Numerals.{number_written}
use Rattle.cg_base.specs.Operations.{wrapped}
use Rattle.cg_base.specs.Texts.{same_text}
use Rattle.cg_base.specs.declared.mode.Endian.{Endian}
use Rattle.cg_base.specs.declared.mode.Endian.TheVariants.{Big, Little}
use Rattle.cg_model_source.specs.Choosing.{SourceFault, is_within}
use Rattle.cg_model_source.specs.Imaging.{items_bytes}
use Rattle.cg_model_source.specs.Lining.{without_front, without_end, trimmed, trimmed_all, uncommented, parted_at, put_in_front, directive, statement_in, read_line}
use Rattle.cg_model_source.specs.Listing.{byte_text, byte_texts}
use Rattle.cg_model_source.specs.Sourcing.{InstructionSets, Order, data_of, malformed, sums_of, sum_in_front, order_of, all_keywords, data_items, items_size}
use Rattle.cg_model_source.specs.Spelling.{Signed, Parted, is_sign, is_label, is_keyword, part_off, go_on, parted, parts_of, sum_parts, just, plus, plus_number, plus_label, summed, sum_of}
use Rattle.cg_model_source.specs.Squeezing.{is_blank, ends}
use Rattle.cg_model_source.specs.E602.{unfit_sums, unfit_number}
use Rattle.cg_model_source.specs.E604.{undefined_items}
use Rattle.cg_model_source.specs.E605.{unfit_items}
use Rattle.cg_model.specs.declared.machine.Machine.{Machine}
use Rattle.cg_model_source.specs.declared.written.Sum.{Sum}
use Rattle.cg_list_laws.proofs.Shown.{is_plain_byte, append_kept}
use Rattle.cg_list_laws.proofs.Reading.{front_blank, front_other, without_comment, says, parted_behind, parted_alone}

-- numbers below 256
abbrev pub Below : List ℕ → Type 0
Below [] = Unit {0}
Below (b ∷ bs) = (b < 256) × Below bs

-- ---- one byte

abbrev is_number : Option ℕ → ℕ → Bool
is_number None b = false
is_number (Some n) b = n == b

number_is : (o : Option ℕ) (b : ℕ) → is_number o b ≡ true → o ≡ Some b
number_is None b e = absurd (false≢true e)
number_is (Some n) b e = ap Some (eqb-true n b e)

text_number : (b : ℕ) → b < 256 → number_written (byte_text b) ≡ Some b
text_number b below = number_is (number_written (byte_text b)) b (agree_below_at (λ x. is_number (number_written (byte_text x)) x) (λ x. true) 256 b refl below)

text_plain : (b : ℕ) → b < 256 → list_all is_plain_byte (byte_text b) ≡ true
text_plain b below = agree_below_at (λ x. list_all is_plain_byte (byte_text x)) (λ x. true) 256 b refl below

text_whole : (b : ℕ) → b < 256 → list_all (λ c. not (c == 44)) (byte_text b) ≡ true
text_whole b below = agree_below_at (λ x. list_all (λ c. not (c == 44)) (byte_text x)) (λ x. true) 256 b refl below

text_unsigned : (b : ℕ) → b < 256 → list_all (λ c. not (is_sign c)) (byte_text b) ≡ true
text_unsigned b below = agree_below_at (λ x. list_all (λ c. not (is_sign c)) (byte_text x)) (λ x. true) 256 b refl below

text_ends : (b : ℕ) → b < 256 → ends (λ c. not (is_blank c)) (byte_text b) ≡ true
text_ends b below = agree_below_at (λ x. ends (λ c. not (is_blank c)) (byte_text x)) (λ x. true) 256 b refl below

within_byte : (b : ℕ) → b < 256 → is_within 8 (pos b) ≡ true
within_byte b below = agree_below_at (λ x. is_within 8 (pos x)) (λ x. true) 256 b refl below

one_byte : (e : Endian) (b : ℕ) → b < 256 → bytes_of e 1 (wrapped 8 (pos b)) ≡ b ∷ []
one_byte Big b below = (bytes_decides (bytes_of Big 1 (wrapped 8 (pos b))) (b ∷ [])).0 (agree_below_at (λ x. same_text (bytes_of Big 1 (wrapped 8 (pos x))) (x ∷ [])) (λ x. true) 256 b refl below)
one_byte Little b below = (bytes_decides (bytes_of Little 1 (wrapped 8 (pos b))) (b ∷ [])).0 (agree_below_at (λ x. same_text (bytes_of Little 1 (wrapped 8 (pos x))) (x ∷ [])) (λ x. true) 256 b refl below)

hex_plain : (b : ℕ) → b < 256 → (is_plain_byte (digit_char (b / 16)) ≡ true) × (is_plain_byte (digit_char (b % 16)) ≡ true)
hex_plain b below = and_parts (is_plain_byte (digit_char (b / 16))) (is_plain_byte (digit_char (b % 16))) (agree_below_at (λ x. is_plain_byte (digit_char (x / 16)) && is_plain_byte (digit_char (x % 16))) (λ x. true) 256 b refl below)

pub digits_plain : (bs : List ℕ) → Below bs → list_all is_plain_byte (flat_map hex_byte bs) ≡ true
digits_plain [] below = refl
digits_plain (b ∷ bs) below =
    let own = hex_plain b below.0 in
    and_from (is_plain_byte (digit_char (b / 16))) (is_plain_byte (digit_char (b % 16)) && list_all is_plain_byte (flat_map hex_byte bs)) own.0
    (and_from (is_plain_byte (digit_char (b % 16))) (list_all is_plain_byte (flat_map hex_byte bs)) own.1 (digits_plain bs below.1))

pub digits_long : (bs : List ℕ) → length (flat_map hex_byte bs) ≡ 2 * length bs
digits_long [] = refl
digits_long (b ∷ bs) = let rest = digits_long bs in omega (arith, rest)

-- ---- the sum that a byte is written as

sign_step : (b : ℕ) (bs : List ℕ) (p : Parted) → is_sign b ≡ false → parted bs ≡ p → parted (b ∷ bs) ≡ go_on b p
sign_step b bs p e rest = ap (λ t. if t then part_off b (parted bs) else go_on b (parted bs)) e ∙ ap (go_on b) rest

no_signs : (bs : List ℕ) → list_all (λ c. not (is_sign c)) bs ≡ true → parted bs ≡ record { front = bs; signed = [] }
no_signs [] e = refl
no_signs (b ∷ bs) e =
    let both = and_parts (not (is_sign b)) (list_all (λ c. not (is_sign c)) bs) e in
    sign_step b bs (record { front = bs; signed = [] }) (not-true (is_sign b) both.0) (no_signs bs both.1)

abbrev alone : List ℕ → Signed
alone text = record { minus = false; text = text }

byte_parts : (b : ℕ) → b < 256 → sum_parts (byte_text b) ≡ alone (byte_text b) ∷ []
byte_parts b below = ap (λ p. parts_of p.front p.signed) (no_signs (byte_text b) (text_unsigned b below))

abbrev plus_by : List (List ℕ) → Signed → Sum → Option ℕ → Option Sum
plus_by words t s o = elim o [
  | Some n ↦ Some (plus_number t.minus n s)
  | None ↦ if is_label t.text && not (is_keyword words t.text) then Some (plus_label t.minus t.text s) else None
]

by_number : (words : List (List ℕ)) (text : List ℕ) (b : ℕ) → number_written text ≡ Some b → plus words (alone text) (just (pos 0)) ≡ Some (just (pos b))
by_number words text b e = ap (plus_by words (alone text) (just (pos 0))) e ∙ ap (λ z. Some (just z)) (+ℤ_idl (pos b))

byte_sum : (words : List (List ℕ)) (b : ℕ) → b < 256 → sum_of words (byte_text b) ≡ Some (just (pos b))
unfolding sum_of
byte_sum words b below = ap (summed words) (byte_parts b below) ∙ by_number words (byte_text b) b (text_number b below)

-- ---- the bytes joined by commas

-- what stands behind the first comma, by pieces
abbrev pieces_behind : List ℕ → List (List ℕ)
pieces_behind [] = []
pieces_behind (b ∷ bs) = (32 ∷ byte_text b) ∷ pieces_behind bs

pieces : (b : ℕ) (bs : List ℕ) → Below (b ∷ bs) → parted_at 44 (byte_texts (b ∷ bs)) ≡ byte_text b ∷ pieces_behind bs
pieces b [] below = parted_alone 44 (byte_text b) (text_whole b below.0)
pieces b (c ∷ cs) below = parted_behind 44 (byte_text b) (32 ∷ byte_texts (c ∷ cs)) (text_whole b below.0) ∙ ap (λ ts. byte_text b ∷ put_in_front 32 ts) (pieces c cs below.1)

and_false : (b : Bool) → (b && false) ≡ false
and_false true = refl
and_false false = refl

-- a text that doesn't end in a blank
not_all_blank : (x : ℕ) (xs : List ℕ) → ends (λ c. not (is_blank c)) (x ∷ xs) ≡ true → list_all is_blank (x ∷ xs) ≡ false
not_all_blank x [] e = ap (λ t. t && true) (not-true (is_blank x) e)
not_all_blank x (y ∷ ys) e = ap (λ t. is_blank x && t) (not_all_blank y ys e) ∙ and_false (is_blank x)

solid_end : (xs : List ℕ) → ends (λ c. not (is_blank c)) xs ≡ true → without_end xs ≡ xs
solid_end [] e = refl
solid_end (x ∷ []) e = ap (λ t. if t then [] else x ∷ []) (not_all_blank x [] e)
solid_end (x ∷ y ∷ ys) e = ap (λ t. if t then [] else x ∷ without_end (y ∷ ys)) (not_all_blank x (y ∷ ys) e) ∙ ap (λ t. x ∷ t) (solid_end (y ∷ ys) e)

byte_trimmed : (b : ℕ) → b < 256 → trimmed (byte_text b) ≡ byte_text b
byte_trimmed b below = ap without_end (front_other 48 (120 ∷ hex_byte b) refl) ∙ solid_end (byte_text b) (text_ends b below)

behind_trimmed : (bs : List ℕ) → Below bs → trimmed_all (pieces_behind bs) ≡ map byte_text bs
behind_trimmed [] below = refl
behind_trimmed (b ∷ bs) below = ap (λ t. t ∷ trimmed_all (pieces_behind bs)) (ap without_end (front_blank 32 (byte_text b) refl) ∙ byte_trimmed b below.0) ∙ ap (λ ts. byte_text b ∷ ts) (behind_trimmed bs below.1)

all_trimmed : (b : ℕ) (bs : List ℕ) → Below (b ∷ bs) → trimmed_all (parted_at 44 (byte_texts (b ∷ bs))) ≡ map byte_text (b ∷ bs)
all_trimmed b bs below = ap trimmed_all (pieces b bs below) ∙ ap (λ t. t ∷ trimmed_all (pieces_behind bs)) (byte_trimmed b below.0) ∙ ap (λ ts. byte_text b ∷ ts) (behind_trimmed bs below.1)

abbrev pub byte_sums : List ℕ → List Sum
byte_sums bs = map (λ b. just (pos b)) bs

sums_written : (words : List (List ℕ)) (bs : List ℕ) → Below bs → sums_of words (map byte_text bs) ≡ Some (byte_sums bs)
sums_written words [] below = refl
sums_written words (b ∷ bs) below = ap (λ s. sum_in_front s (sums_of words (map byte_text bs))) (byte_sum words b below.0) ∙ ap (sum_in_front (Some (just (pos b)))) (sums_written words bs below.1)

-- the order of a directive by what its sums are
abbrev order_by : Option (List Sum) → Order
order_by o = elim o [ None ↦ malformed (codes ".byte") | Some ss ↦ data_of (codes ".byte") 1 ss ]

pub byte_order : (s : InstructionSets) (b : ℕ) (bs : List ℕ) → Below (b ∷ bs) → order_of s (codes ".byte") (byte_texts (b ∷ bs)) ≡ data_of (codes ".byte") 1 (byte_sums (b ∷ bs))
byte_order s b bs below = ap (λ ts. order_by (sums_of (all_keywords s) ts)) (all_trimmed b bs below) ∙ ap order_by (sums_written (all_keywords s) (b ∷ bs) below)

-- ---- what the line says

ends_behind : (xs ys : List ℕ) → ends (λ c. not (is_blank c)) ys ≡ true → ends (λ c. not (is_blank c)) (xs ++ ys) ≡ true
ends_behind [] ys e = e
ends_behind (x ∷ []) [] e = absurd (false≢true e)
ends_behind (x ∷ []) (y ∷ ys) e = e
ends_behind (x ∷ z ∷ xs) ys e = ends_behind (z ∷ xs) ys e

texts_end : (b : ℕ) (bs : List ℕ) → Below (b ∷ bs) → ends (λ c. not (is_blank c)) (byte_texts (b ∷ bs)) ≡ true
texts_end b [] below = text_ends b below.0
texts_end b (c ∷ cs) below = ends_behind (byte_text b ++ codes ", ") (byte_texts (c ∷ cs)) (texts_end c cs below.1)

texts_front : (b : ℕ) (bs : List ℕ) → without_front (byte_texts (b ∷ bs)) ≡ byte_texts (b ∷ bs)
texts_front b [] = refl
texts_front b (c ∷ cs) = refl

texts_trimmed : (b : ℕ) (bs : List ℕ) → Below (b ∷ bs) → trimmed (32 ∷ byte_texts (b ∷ bs)) ≡ byte_texts (b ∷ bs)
texts_trimmed b bs below = ap without_end (front_blank 32 (byte_texts (b ∷ bs)) refl) ∙ ap without_end (texts_front b bs) ∙ solid_end (byte_texts (b ∷ bs)) (texts_end b bs below)

-- what such a line shows
abbrev pub byte_line : List ℕ → List ℕ
byte_line bs = codes ".byte " ++ byte_texts bs

texts_plain : (bs : List ℕ) → Below bs → list_all is_plain_byte (byte_texts bs) ≡ true
texts_plain [] below = refl
texts_plain (b ∷ []) below = text_plain b below.0
texts_plain (b ∷ c ∷ cs) below = append_kept is_plain_byte (byte_text b ++ codes ", ") (byte_texts (c ∷ cs)) (append_kept is_plain_byte (byte_text b) (codes ", ") (text_plain b below.0) refl) (texts_plain (c ∷ cs) below.1)

pub line_plain : (bs : List ℕ) → Below bs → list_all is_plain_byte (byte_line bs) ≡ true
line_plain bs below = texts_plain bs below

pub texts_long : (bs : List ℕ) → length (byte_texts bs) ≤ 6 * length bs
texts_long [] = omega arith
texts_long (b ∷ []) = omega arith
texts_long (b ∷ c ∷ cs) = let rest = texts_long (c ∷ cs) in omega (arith, rest)

pub line_unlabelled : (bs : List ℕ) → (read_line (byte_line bs)).label ≡ None
unfolding read_line
line_unlabelled bs = refl

line_whole : (b : ℕ) (bs : List ℕ) → Below (b ∷ bs) → trimmed (uncommented false (byte_line (b ∷ bs))) ≡ byte_line (b ∷ bs)
line_whole b bs below =
    ap trimmed (without_comment (byte_line (b ∷ bs)) (line_plain (b ∷ bs) below)) ∙ solid_end (byte_line (b ∷ bs)) (ends_behind (codes ".byte ") (byte_texts (b ∷ bs)) (texts_end b bs below))

line_directive : (b : ℕ) (bs : List ℕ) → Below (b ∷ bs) → statement_in (byte_line (b ∷ bs)) ≡ directive (codes ".byte") (byte_texts (b ∷ bs))
line_directive b bs below = ap (directive (codes ".byte")) (texts_trimmed b bs below)

pub line_says : (b : ℕ) (bs : List ℕ) → Below (b ∷ bs) → (read_line (byte_line (b ∷ bs))).statement ≡ directive (codes ".byte") (byte_texts (b ∷ bs))
line_says b bs below = ap (λ l. l.statement) (says (byte_line (b ∷ bs)) (line_unlabelled (b ∷ bs))) ∙ ap statement_in (line_whole b bs below) ∙ line_directive b bs below

-- ---- what its sums lay down

abbrev unfit_if : ℕ → ℕ → Bool → List SourceFault
unfit_if number b fits = if fits then [] else record { number = number; text = codes ".byte"; other = signed_decimal (pos b) } ∷ []

byte_fits : (number b : ℕ) → b < 256 → unfit_number number (codes ".byte") 1 (pos b) ≡ []
byte_fits number b below = ap (unfit_if number b) (within_byte b below)

pub sums_fit : (bs : List ℕ) → Below bs → unfit_sums (codes ".byte") 1 (byte_sums bs) ≡ []
sums_fit [] below = refl
sums_fit (b ∷ bs) below = ap (λ xs. xs ++ unfit_sums (codes ".byte") 1 (byte_sums bs)) (byte_fits 602 b below.0) ∙ sums_fit bs below.1

pub sums_defined : (bs : List ℕ) → undefined_items [] (data_items (codes ".byte") 1 (byte_sums bs)) ≡ []
sums_defined [] = refl
sums_defined (b ∷ bs) = sums_defined bs

pub sums_clear : (m : Machine) (bs : List ℕ) → Below bs → unfit_items m [] (data_items (codes ".byte") 1 (byte_sums bs)) ≡ []
sums_clear m [] below = refl
sums_clear m (b ∷ bs) below = ap (λ xs. xs ++ unfit_items m [] (data_items (codes ".byte") 1 (byte_sums bs))) (byte_fits 605 b below.0) ∙ sums_clear m bs below.1

pub sums_given : (m : Machine) (bs : List ℕ) → Below bs → items_bytes m [] (data_items (codes ".byte") 1 (byte_sums bs)) ≡ bs
sums_given m [] below = refl
sums_given m (b ∷ bs) below = ap (λ xs. xs ++ items_bytes m [] (data_items (codes ".byte") 1 (byte_sums bs))) (one_byte m.data_endian b below.0) ∙ ap (λ xs. b ∷ xs) (sums_given m bs below.1)

pub sums_long : (m : Machine) (bs : List ℕ) → items_size m (data_items (codes ".byte") 1 (byte_sums bs)) ≡ length bs
sums_long m [] = refl
sums_long m (b ∷ bs) = let rest = sums_long m bs in omega (arith, rest)
