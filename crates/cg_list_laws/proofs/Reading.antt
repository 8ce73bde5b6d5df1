-- What a line of a listing says, by the text that it shows.
use Rattle.std.proofs.Common.{◌≡◌, ℕ, suc, ◌+◌, Bool, true, false, not, ◌&&◌, ◌==◌, cond, if◌then◌else◌, List, [], ◌∷◌, ◌++◌, take, drop, Some, None, codes, sym, ap, ◌∙◌, refl, arith}
use Rattle.std.specs.List.{list_all, prefix_len, take_while}
use Rattle.std.proofs.lemmas.Bool.{and_parts, not-true, eq-eqb}
use Rattle.cg_model_source.specs.Lining.{is_line_byte, without_front, without_end, trimmed, uncommented, put_in_front, parted_at, Labelled, unlabelled, ends_label, label_before, label_in, labelled, statement_in, Line, line_of, read_line}
use Rattle.cg_model_source.specs.Spelling.{is_label, is_in_label}
use Rattle.cg_model_source.specs.Squeezing.{is_blank}
use Rattle.cg_list_laws.proofs.Shown.{is_plain_byte}

-- ---- blanks in front and behind

pub front_blank : (b : ℕ) (bs : List ℕ) → is_blank b ≡ true → without_front (b ∷ bs) ≡ without_front bs
front_blank b bs e =
    let more : 1 + prefix_len is_blank bs ≡ suc (prefix_len is_blank bs) = omega arith in
    ap (λ t. drop (cond t (1 + prefix_len is_blank bs) 0) (b ∷ bs)) e ∙ ap (λ n. drop n (b ∷ bs)) more

pub front_other : (b : ℕ) (bs : List ℕ) → is_blank b ≡ false → without_front (b ∷ bs) ≡ b ∷ bs
front_other b bs e = ap (λ t. drop (cond t (1 + prefix_len is_blank bs) 0) (b ∷ bs)) e

all_blank : (xs : List ℕ) → list_all is_blank (xs ++ 32 ∷ []) ≡ list_all is_blank xs
all_blank [] = refl
all_blank (x ∷ xs) = ap (λ t. is_blank x && t) (all_blank xs)

end_blank : (xs : List ℕ) → without_end (xs ++ 32 ∷ []) ≡ without_end xs
end_blank [] = refl
end_blank (x ∷ xs) =
    ap (λ t. if is_blank x && t then [] else x ∷ without_end (xs ++ 32 ∷ [])) (all_blank xs) ∙ ap (λ t. if is_blank x && list_all is_blank xs then [] else x ∷ t) (end_blank xs)

trimmed_first : (x : ℕ) (xs : List ℕ) (blank : Bool) → is_blank x ≡ blank → trimmed (xs ++ 32 ∷ []) ≡ trimmed xs → trimmed (x ∷ xs ++ 32 ∷ []) ≡ trimmed (x ∷ xs)
trimmed_first x xs true e rest = ap without_end (front_blank x (xs ++ 32 ∷ []) e) ∙ rest ∙ sym (ap without_end (front_blank x xs e))
trimmed_first x xs false e rest = ap without_end (front_other x (xs ++ 32 ∷ []) e) ∙ end_blank (x ∷ xs) ∙ sym (ap without_end (front_other x xs e))

trimmed_blank : (xs : List ℕ) → trimmed (xs ++ 32 ∷ []) ≡ trimmed xs
trimmed_blank [] = refl
trimmed_blank (x ∷ xs) = trimmed_first x xs (is_blank x) refl (trimmed_blank xs)

eight_blanks : (xs : List ℕ) → without_front (codes "        " ++ xs) ≡ without_front xs
eight_blanks xs =
    front_blank 32 (32 ∷ 32 ∷ 32 ∷ 32 ∷ 32 ∷ 32 ∷ 32 ∷ xs) refl
    ∙ front_blank 32 (32 ∷ 32 ∷ 32 ∷ 32 ∷ 32 ∷ 32 ∷ xs) refl
    ∙ front_blank 32 (32 ∷ 32 ∷ 32 ∷ 32 ∷ 32 ∷ xs) refl
    ∙ front_blank 32 (32 ∷ 32 ∷ 32 ∷ 32 ∷ xs) refl
    ∙ front_blank 32 (32 ∷ 32 ∷ 32 ∷ xs) refl
    ∙ front_blank 32 (32 ∷ 32 ∷ xs) refl
    ∙ front_blank 32 (32 ∷ xs) refl
    ∙ front_blank 32 xs refl

-- ---- the comment

plain_step : (b : ℕ) (bs : List ℕ) → (b == 59) ≡ false → (b == 34) ≡ false → uncommented false (b ∷ bs) ≡ b ∷ uncommented false bs
plain_step b bs s q =
    ap (λ t. if t && true then [] else b ∷ uncommented (if b == 34 then true else false) bs) s ∙ ap (λ t. b ∷ uncommented (if t then true else false) bs) q

quote_not : (b : ℕ) → is_plain_byte b ≡ true → (b == 34) ≡ false
quote_not b e = not-true (b == 34) (and_parts (is_line_byte b) (not (b == 34)) (and_parts (is_line_byte b && not (b == 34)) (not (b == 59)) e).0).1

comment_not : (b : ℕ) → is_plain_byte b ≡ true → (b == 59) ≡ false
comment_not b e = not-true (b == 59) (and_parts (is_line_byte b && not (b == 34)) (not (b == 59)) e).1

pub line_byte : (b : ℕ) → is_plain_byte b ≡ true → is_line_byte b ≡ true
line_byte b e = (and_parts (is_line_byte b) (not (b == 34)) (and_parts (is_line_byte b && not (b == 34)) (not (b == 59)) e).0).0

pub without_comment : (text : List ℕ) → list_all is_plain_byte text ≡ true → uncommented false text ≡ text
without_comment [] e = refl
without_comment (b ∷ bs) e =
    let parts = and_parts (is_plain_byte b) (list_all is_plain_byte bs) e in
    plain_step b bs (comment_not b parts.0) (quote_not b parts.0) ∙ ap (λ t. b ∷ t) (without_comment bs parts.1)

up_to_comment : (text rest : List ℕ) → list_all is_plain_byte text ≡ true → uncommented false (text ++ 32 ∷ 59 ∷ rest) ≡ text ++ 32 ∷ []
up_to_comment [] rest e = refl
up_to_comment (b ∷ bs) rest e =
    let parts = and_parts (is_plain_byte b) (list_all is_plain_byte bs) e in
    plain_step b (bs ++ 32 ∷ 59 ∷ rest) (comment_not b parts.0) (quote_not b parts.0) ∙ ap (λ t. b ∷ t) (up_to_comment bs rest parts.1)

-- ---- the label

-- what stands in front of the first byte that fails a test, where one that fails it stands behind
pub record Runs (test : ℕ → Bool) (text rest : List ℕ) : Type 0 where
  pub run : take_while test (text ++ 32 ∷ rest) ≡ take_while test text
  pub after : drop (prefix_len test (text ++ 32 ∷ rest)) (text ++ 32 ∷ rest) ≡ drop (prefix_len test text) text ++ 32 ∷ rest

one_more : (n : ℕ) → 1 + n ≡ suc n
one_more n = omega arith

run_on : (test : ℕ → Bool) (b : ℕ) (bs rest : List ℕ) (passes : Bool) → test b ≡ passes → Runs test bs rest → Runs test (b ∷ bs) rest
run_on test b bs rest true e r = record {
  run =
      ap (λ t. take (cond t (1 + prefix_len test (bs ++ 32 ∷ rest)) 0) (b ∷ bs ++ 32 ∷ rest)) e
      ∙ ap (λ n. take n (b ∷ bs ++ 32 ∷ rest)) (one_more (prefix_len test (bs ++ 32 ∷ rest)))
      ∙ ap (λ t. b ∷ t) r.run
      ∙ sym (ap (λ t. take (cond t (1 + prefix_len test bs) 0) (b ∷ bs)) e ∙ ap (λ n. take n (b ∷ bs)) (one_more (prefix_len test bs)));
  after =
      ap (λ t. drop (cond t (1 + prefix_len test (bs ++ 32 ∷ rest)) 0) (b ∷ bs ++ 32 ∷ rest)) e
      ∙ ap (λ n. drop n (b ∷ bs ++ 32 ∷ rest)) (one_more (prefix_len test (bs ++ 32 ∷ rest)))
      ∙ r.after
      ∙ sym (ap (λ t. drop (cond t (1 + prefix_len test bs) 0) (b ∷ bs) ++ 32 ∷ rest) e ∙ ap (λ n. drop n (b ∷ bs) ++ 32 ∷ rest) (one_more (prefix_len test bs)));
}
run_on test b bs rest false e r = record {
  run = ap (λ t. take (cond t (1 + prefix_len test (bs ++ 32 ∷ rest)) 0) (b ∷ bs ++ 32 ∷ rest)) e ∙ sym (ap (λ t. take (cond t (1 + prefix_len test bs) 0) (b ∷ bs)) e);
  after = ap (λ t. drop (cond t (1 + prefix_len test (bs ++ 32 ∷ rest)) 0) (b ∷ bs ++ 32 ∷ rest)) e ∙ sym (ap (λ t. drop (cond t (1 + prefix_len test bs) 0) (b ∷ bs) ++ 32 ∷ rest) e);
}

runs : (test : ℕ → Bool) (text rest : List ℕ) → test 32 ≡ false → Runs test text rest
runs test [] rest e = record {
  run = ap (λ t. take (cond t (1 + prefix_len test rest) 0) (32 ∷ rest)) e;
  after = ap (λ t. drop (cond t (1 + prefix_len test rest) 0) (32 ∷ rest)) e;
}
runs test (b ∷ bs) rest e = run_on test b bs rest (test b) refl (runs test bs rest e)

ends_same : (bs rest : List ℕ) → ends_label (bs ++ 32 ∷ rest) ≡ ends_label bs
ends_same [] rest = refl
ends_same (b ∷ bs) rest = refl

abbrev label_if : Bool → List ℕ → List ℕ → List ℕ → Labelled
label_if test line name bs = if test then record { label = Some name; rest = bs } else unlabelled line

if_none : (test : Bool) (line name bs : List ℕ) → (label_if test line name bs).label ≡ None → test ≡ false
if_none true line name bs e = absurd (cc)
if_none false line name bs e = refl

no_colon : (a c : Bool) (line name bs : List ℕ) → label_if (a && false && c) line name bs ≡ unlabelled line
no_colon true c line name bs = refl
no_colon false c line name bs = refl

before_none : (line other name behind rest : List ℕ) → (label_before line name behind).label ≡ None → label_before other name (behind ++ 32 ∷ rest) ≡ unlabelled other
before_none line other name [] rest e = no_colon (is_label name) (ends_label rest) other name rest
before_none line other name (b ∷ bs) rest e =
    let test : (is_label name && b == 58 && ends_label bs) ≡ false = if_none (is_label name && b == 58 && ends_label bs) line name bs e in
    ap (λ t. label_if (is_label name && b == 58 && t) other name (bs ++ 32 ∷ rest)) (ends_same bs rest) ∙ ap (λ t. label_if t other name (bs ++ 32 ∷ rest)) test

in_none : (line other text rest : List ℕ) → (label_in line text).label ≡ None → label_in other (text ++ 32 ∷ rest) ≡ unlabelled other
in_none line other text rest e =
    let r : Runs is_in_label text rest = runs is_in_label text rest refl in
    ap (λ n. label_before other n (drop (prefix_len is_in_label (text ++ 32 ∷ rest)) (text ++ 32 ∷ rest))) r.run
    ∙ ap (label_before other (take_while is_in_label text)) r.after
    ∙ before_none line other (take_while is_in_label text) (drop (prefix_len is_in_label text) text) rest e

first_none : (line other : List ℕ) (b : ℕ) (bs rest : List ℕ) (blank : Bool) → is_blank b ≡ blank
    → ((label_in line (without_front bs)).label ≡ None → label_in other (without_front (bs ++ 32 ∷ 59 ∷ rest)) ≡ unlabelled other)
    → (label_in line (without_front (b ∷ bs))).label ≡ None → label_in other (without_front (b ∷ bs ++ 32 ∷ 59 ∷ rest)) ≡ unlabelled other
first_none line other b bs rest true e others none =
    ap (label_in other) (front_blank b (bs ++ 32 ∷ 59 ∷ rest) e) ∙ others (sym (ap (λ t. (label_in line t).label) (front_blank b bs e)) ∙ none)
first_none line other b bs rest false e others none =
    ap (label_in other) (front_other b (bs ++ 32 ∷ 59 ∷ rest) e) ∙ in_none line other (b ∷ bs) (59 ∷ rest) (sym (ap (λ t. (label_in line t).label) (front_other b bs e)) ∙ none)

front_none : (line other text rest : List ℕ) → (label_in line (without_front text)).label ≡ None → label_in other (without_front (text ++ 32 ∷ 59 ∷ rest)) ≡ unlabelled other
front_none line other [] rest e = refl
front_none line other (b ∷ bs) rest e = first_none line other b bs rest (is_blank b) refl (front_none line other bs rest) e

none_before : (line name behind : List ℕ) → (label_before line name behind).label ≡ None → label_before line name behind ≡ unlabelled line
none_before line name [] e = refl
none_before line name (b ∷ bs) e = ap (λ t. label_if t line name bs) (if_none (is_label name && b == 58 && ends_label bs) line name bs e)

none_labelled : (line : List ℕ) → (labelled line).label ≡ None → labelled line ≡ unlabelled line
none_labelled line e = none_before line (take_while is_in_label (without_front line)) (drop (prefix_len is_in_label (without_front line)) (without_front line)) e

-- ---- the line

-- a text in eight blanks with a comment behind it
abbrev pub shown_line : List ℕ → List ℕ → List ℕ
shown_line text rest = codes "        " ++ text ++ 32 ∷ 59 ∷ rest

-- what is said without a label, by the text without blanks around it
abbrev pub said : List ℕ → Line
said text = record { label = None; statement = statement_in text }

-- a text that defines no label says this
pub says : (text : List ℕ) → (read_line text).label ≡ None → read_line text ≡ said (trimmed (uncommented false text))
unfolding read_line
says text e = ap line_of (none_labelled text e)

blanks_plain : (text : List ℕ) → list_all is_plain_byte text ≡ true → list_all is_plain_byte (codes "        " ++ text) ≡ true
blanks_plain text e = e

line_labelled : (text rest : List ℕ) → (read_line text).label ≡ None → labelled (shown_line text rest) ≡ unlabelled (shown_line text rest)
unfolding read_line
line_labelled text rest e = ap (label_in (shown_line text rest)) (eight_blanks (text ++ 32 ∷ 59 ∷ rest)) ∙ front_none text (shown_line text rest) text rest e

line_said : (text rest : List ℕ) → (read_line text).label ≡ None → read_line (shown_line text rest) ≡ said (trimmed (uncommented false (shown_line text rest)))
unfolding read_line
line_said text rest e = ap line_of (line_labelled text rest e)

line_trimmed : (text rest : List ℕ) → list_all is_plain_byte text ≡ true → trimmed (uncommented false (shown_line text rest)) ≡ trimmed (uncommented false text)
line_trimmed text rest plain =
    ap trimmed (up_to_comment (codes "        " ++ text) rest (blanks_plain text plain))
    ∙ ap without_end (eight_blanks (text ++ 32 ∷ []))
    ∙ trimmed_blank text
    ∙ ap trimmed (sym (without_comment text plain))

-- the line says what its text says
pub reads_as : (text rest : List ℕ) → list_all is_plain_byte text ≡ true → (read_line text).label ≡ None → read_line (shown_line text rest) ≡ read_line text
reads_as text rest plain e = line_said text rest e ∙ ap said (line_trimmed text rest plain) ∙ sym (says text e)

-- ---- lines parted

parted_step : (byte b : ℕ) (bs : List ℕ) (test : Bool) → (b == byte) ≡ test → parted_at byte (b ∷ bs) ≡ (if test then [] ∷ parted_at byte bs else put_in_front b (parted_at byte bs))
parted_step byte b bs test e = ap (λ t. if t then [] ∷ parted_at byte bs else put_in_front b (parted_at byte bs)) e

same_number : (n : ℕ) → (n == n) ≡ true
same_number n = eq-eqb n n refl

-- a text without such a byte, and one of them behind it
pub parted_behind : (byte : ℕ) (line rest : List ℕ) → list_all (λ b. not (b == byte)) line ≡ true → parted_at byte (line ++ byte ∷ rest) ≡ line ∷ parted_at byte rest
parted_behind byte [] rest e = parted_step byte byte rest true (same_number byte)
parted_behind byte (b ∷ bs) rest e =
    let both = and_parts (not (b == byte)) (list_all (λ c. not (c == byte)) bs) e in
    parted_step byte b (bs ++ byte ∷ rest) false (not-true (b == byte) both.0) ∙ ap (put_in_front b) (parted_behind byte bs rest both.1)

-- and none behind it
pub parted_alone : (byte : ℕ) (line : List ℕ) → list_all (λ b. not (b == byte)) line ≡ true → parted_at byte line ≡ line ∷ []
parted_alone byte [] e = refl
parted_alone byte (b ∷ bs) e =
    let both = and_parts (not (b == byte)) (list_all (λ c. not (c == byte)) bs) e in
    parted_step byte b bs false (not-true (b == byte) both.0) ∙ ap (put_in_front b) (parted_alone byte bs both.1)
