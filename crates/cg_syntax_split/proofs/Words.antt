-- The words of a text, taken from the front.
use Rattle.std.specs.Prelude.{ℕ, suc, Some, is_some, unwrap_or, slice_get, ◌-◌, ◌+◌, ◌<◌, ◌≤◌, Bool, true, false, not, cond, List, [], ◌∷◌, length, take, drop}
use Rattle.std.specs.List.{prefix_len}
use Rattle.std.proofs.Common.{◌≡◌, refl, sym, ap, ◌∙◌, subst, arith}
use Rattle.std.proofs.lemmas.Bool.{both_ways}
use Rattle.std.proofs.lemmas.List.Sums.{prefix_len-le-length}
use Rattle.std.proofs.lemmas.Grind.{common_steps}
use Rattle.std.proofs.lemmas.List.{length-drop}
use Rattle.cg_model_source.specs.Squeezing.{goes_on, put_first, words, ends}

pub at_most : {A : Type 0} (test : A → Bool) (xs : List A) → prefix_len test xs ≤ length xs
at_most test xs = prefix_len-le-length test xs

-- Blanks in front say nothing.
at_front : {A : Type 0} (blank : A → Bool) (x : A) (xs : List A) (b : Bool) → blank x ≡ b → words blank (drop (prefix_len blank xs) xs) ≡ words blank xs → words blank (drop (prefix_len blank (x ∷ xs)) (x ∷ xs)) ≡ words blank (x ∷ xs)
at_front blank x xs true e rest = rw e (grind (arith, common_steps, rest))
at_front blank x xs false e rest = rw e (grind (arith, common_steps, e))

pub fronts : {A : Type 0} (blank : A → Bool) (xs : List A) → words blank (drop (prefix_len blank xs) xs) ≡ words blank xs
fronts blank [] = refl
fronts blank (x ∷ xs) = at_front blank x xs (blank x) refl (fronts blank xs)

-- Behind them stands no blank.
at_word : {A : Type 0} (blank : A → Bool) (x : A) (xs : List A) (b : Bool) → blank x ≡ b → (1 ≤ length (drop (prefix_len blank xs) xs) → goes_on blank (drop (prefix_len blank xs) xs) ≡ true) →
    1 ≤ length (drop (prefix_len blank (x ∷ xs)) (x ∷ xs)) → goes_on blank (drop (prefix_len blank (x ∷ xs)) (x ∷ xs)) ≡ true
at_word blank x xs true e rest = rw e (grind (arith, common_steps, rest))
at_word blank x xs false e rest = rw e (λ some. ap not e)

goes : {A : Type 0} (blank : A → Bool) (xs : List A) → 1 ≤ length (drop (prefix_len blank xs) xs) → goes_on blank (drop (prefix_len blank xs) xs) ≡ true
goes blank [] some = absurd (omega (arith, some))
goes blank (x ∷ xs) some = at_word blank x xs (blank x) refl (goes blank xs) some

-- The first word goes up to the next blank.
abbrev word_length : {A : Type 0} → (A → Bool) → List A → ℕ
word_length blank xs = prefix_len (λ x. not (blank x)) xs

no_more : {A : Type 0} (blank : A → Bool) (xs : List A) → goes_on blank xs ≡ false → word_length blank xs ≡ 0
no_more blank [] stops = refl
no_more blank (x ∷ xs) stops = ap (λ b. cond b (1 + word_length blank xs) 0) stops

put_on : {A : Type 0} (x : A) (next : Bool) (ws rest : List (List A)) (w : List A) → next ≡ true → ws ≡ w ∷ rest → put_first x next ws ≡ (x ∷ w) ∷ rest
put_on x next ws rest w goes e = rw (goes, e) refl

one_on : {A : Type 0} (ws : List A → List (List A)) (n : ℕ) (x : A) (xs : List A) → (x ∷ take n xs) ∷ ws (drop n xs) ≡ take (1 + n) (x ∷ xs) ∷ ws (drop (1 + n) (x ∷ xs))
one_on ws n x xs =
    let more : 1 + n ≡ suc n = omega arith in
    rw more refl

word_on : {A : Type 0} (blank : A → Bool) (x : A) (xs : List A) (next : Bool) → blank x ≡ false → goes_on blank xs ≡ next →
    (goes_on blank xs ≡ true → words blank xs ≡ take (word_length blank xs) xs ∷ words blank (drop (word_length blank xs) xs)) →
    words blank (x ∷ xs) ≡ take (word_length blank (x ∷ xs)) (x ∷ xs) ∷ words blank (drop (word_length blank (x ∷ xs)) (x ∷ xs))
word_on blank x xs true e next more =
    rw e (put_on x (goes_on blank xs) (words blank xs) (words blank (drop (word_length blank xs) xs)) (take (word_length blank xs) xs) next (more next) ∙ one_on (words blank) (word_length blank xs) x xs)
word_on blank x xs false e stops more = rw (e, stops, no_more blank xs stops) refl

first_word_of : {A : Type 0} (blank : A → Bool) (x : A) (xs : List A) (b : Bool) → blank x ≡ b → not b ≡ true →
    (goes_on blank xs ≡ true → words blank xs ≡ take (word_length blank xs) xs ∷ words blank (drop (word_length blank xs) xs)) →
    words blank (x ∷ xs) ≡ take (word_length blank (x ∷ xs)) (x ∷ xs) ∷ words blank (drop (word_length blank (x ∷ xs)) (x ∷ xs))
first_word_of blank x xs true e goes more = absurd (both_ways false refl goes)
first_word_of blank x xs false e goes more = word_on blank x xs (goes_on blank xs) e refl more

in_front : {A : Type 0} (blank : A → Bool) (xs : List A) → goes_on blank xs ≡ true → words blank xs ≡ take (word_length blank xs) xs ∷ words blank (drop (word_length blank xs) xs)
in_front blank [] goes = absurd (both_ways false refl goes)
in_front blank (x ∷ xs) goes = first_word_of blank x xs (blank x) refl goes (in_front blank xs)

some_long : {A : Type 0} (blank : A → Bool) (xs : List A) → goes_on blank xs ≡ true → 1 ≤ word_length blank xs
some_long blank [] goes = absurd (both_ways false refl goes)
some_long blank (x ∷ xs) goes =
    let here : word_length blank (x ∷ xs) ≡ 1 + word_length blank xs = ap (λ b. cond b (1 + word_length blank xs) 0) goes in
    omega (arith, here)

-- A text whose part behind its first blanks is this.
pub none_left : {A : Type 0} (blank : A → Bool) (text front : List A) → front ≡ drop (prefix_len blank text) text → length front ≡ 0 → words blank text ≡ []
none_left blank text [] e none = sym (fronts blank text) ∙ ap (words blank) (sym e)
none_left blank text (x ∷ xs) e none = absurd (omega (arith, none))

pub one_word : {A : Type 0} (blank : A → Bool) (text front : List A) (n : ℕ) → front ≡ drop (prefix_len blank text) text → 1 ≤ length front → n ≡ prefix_len (λ x. not (blank x)) front →
    words blank text ≡ take n front ∷ words blank (drop n front)
one_word blank text front n e some len =
    sym (fronts blank text) ∙ ap (words blank) (sym e) ∙ in_front blank front (subst (λ t. goes_on blank t ≡ true) (sym e) (goes blank text (subst (λ t. 1 ≤ length t) e some)))
    ∙ ap (λ k. take k front ∷ words blank (drop k front)) (sym len)

pub shorter : {A : Type 0} (blank : A → Bool) (text front : List A) (n : ℕ) → front ≡ drop (prefix_len blank text) text → 1 ≤ length front → n ≡ prefix_len (λ x. not (blank x)) front →
    length (drop n front) < length text
shorter blank text front n e some len =
    let long : 1 ≤ word_length blank front = some_long blank front (subst (λ t. goes_on blank t ≡ true) (sym e) (goes blank text (subst (λ t. 1 ≤ length t) e some))) in
    let front_length : length front ≡ length text - prefix_len blank text = ap length e ∙ length-drop (prefix_len blank text) text in
    let left : length (drop n front) ≡ length front - n = length-drop n front in
    omega (arith, long, front_length, left, len, some)

-- The last character of a word.
pub last_joins : {A : Type 0} (test : A → Bool) (w : List A) (c : A) → slice_get w (length w - 1) ≡ Some c → test c ≡ ends test w
last_joins test [] c e = absurd (both_ways false refl (ap is_some e))
last_joins test (x ∷ []) c e =
    let same : x ≡ c = ap (λ o. unwrap_or o x) e in
    ap test (sym same)
last_joins test (x ∷ y ∷ ys) c e =
    let more : length (x ∷ y ∷ ys) - 1 ≡ suc (length (y ∷ ys) - 1) = omega arith in
    last_joins test (y ∷ ys) c (ap (slice_get (x ∷ y ∷ ys)) (sym more) ∙ e)
