-- A sum, added up from the front.
use Rattle.std.specs.Prelude.{ℕ, ◌+◌, ◌*◌, ◌^◌, ◌≤◌, ◌≤ℤ◌, neg_ℤ, length, is_some, unwrap_or, Bool, true, false, not, ◌&&◌, if◌then◌else◌, List, [], ◌∷◌, ◌++◌, take, drop, ℤ, pos, ◌+ℤ◌, ◌-ℤ◌, Option, Some, None}
use Rattle.std.specs.Option.{option_map}
use Rattle.std.proofs.Common.{◌≡◌, refl, sym, ap, ◌∙◌, subst, append_assoc, arith}
use Rattle.std.proofs.lemmas.Bool.{both_ways}
use Rattle.std.proofs.lemmas.Int.{ints}
use Rattle.std.proofs.lemmas.List.{append-nil}
use Rattle.cg_base.specs.Numerals.{number_written}
use Rattle.cg_model_source.specs.Spelling.{is_label, is_keyword, plus, plus_number, plus_label, summed, sum_of}
use Rattle.cg_model_source.specs.declared.written.Sum.{Sum}
use Rattle.cg_model_source.specs.declared.written.Term.{Term}
use Rattle.cg_syntax_spelling.specs.Adding.{Left, first_part, next_part, parts_from, left_parts, added, Adds}
use Rattle.cg_syntax_spelling.proofs.Parting.{part_length, first_is, parts_are}

pub same_sum : (a b : ℤ) (s t : List Term) → a ≡ b → s ≡ t → (let sum : Sum = record { number = a; terms = s } in sum) ≡ record { number = b; terms = t }
same_sum a b s t e f = rw (e, f) refl

number_either : (minus : Bool) (n : ℕ) (a b : ℤ) → a +ℤ (if minus then b -ℤ pos n else b +ℤ pos n) ≡ (if minus then a -ℤ pos n else a +ℤ pos n) +ℤ b
number_either true n a b = omega (arith, ints)
number_either false n a b = omega (arith, ints)

-- A sum with a number more, and with a label more.
abbrev with_number : Bool → ℕ → Sum → Sum
with_number minus n s = record { number = if minus then s.number -ℤ pos n else s.number +ℤ pos n; terms = s.terms }

abbrev with_label : Bool → List ℕ → Sum → Sum
with_label minus label s = record { number = s.number; terms = s.terms ++ record { label = label; minus = minus } ∷ [] }

number_first : (minus : Bool) (n : ℕ) (a b : Sum) → added a (plus_number minus n b) ≡ added (with_number minus n a) b
number_first minus n a b = same_sum _ _ _ _ (number_either minus n a.number b.number) refl

label_first : (minus : Bool) (label : List ℕ) (a b : Sum) → added a (plus_label minus label b) ≡ added (with_label minus label a) b
label_first minus label a b = same_sum _ _ _ _ refl (sym (append_assoc a.terms (record { label = label; minus = minus } ∷ []) b.terms))

-- What a part is.
plus_is : Bool → List ℕ → Sum → Option ℕ → Bool → Option Sum
plus_is minus text s (Some n) label = Some (plus_number minus n s)
plus_is minus text s None label = if label then Some (plus_label minus text s) else None

plus_by : (words : List (List ℕ)) (minus : Bool) (text : List ℕ) (s : Sum) (n : Option ℕ) →
    (elim n as (λ x. Option Sum) [ Some n ↦ Some (plus_number minus n s) | None ↦ if is_label text && not (is_keyword words text) then Some (plus_label minus text s) else None ]) ≡ plus_is minus text s n (is_label text && not (is_keyword words text))
unfolding plus_is
plus_by words minus text s (Some n) = refl
plus_by words minus text s None = refl

is_part : (words : List (List ℕ)) (minus : Bool) (text : List ℕ) (s : Sum) (n : Option ℕ) (label : Bool) → number_written text ≡ n → (is_label text && not (is_keyword words text)) ≡ label →
    plus words (record { minus = minus; text = text }) s ≡ plus_is minus text s n label
is_part words minus text s n label e l = plus_by words minus text s (number_written text) ∙ ap (λ x. plus_is minus text s x (is_label text && not (is_keyword words text))) e ∙ ap (plus_is minus text s n) l

-- What a part does to a sum, by what it is.
pub by_number : (words : List (List ℕ)) (before now : Sum) (minus : Bool) (text : List ℕ) (n : ℕ) → number_written text ≡ Some n → now ≡ with_number minus n before → Adds words before (record { minus = minus; text = text }) true now
unfolding plus_is
by_number words before now minus text n is e None = refl
by_number words before now minus text n is e (Some b) =
    ap (option_map (added before)) (is_part words minus text b (Some n) (is_label text && not (is_keyword words text)) is refl) ∙ ap Some (number_first minus n before b ∙ ap (λ x. added x b) (sym e))

both_true : (a b : Bool) → a ≡ true → b ≡ false → (a && not b) ≡ true
both_true a b e f = rw (e, f) refl

pub by_label : (words : List (List ℕ)) (before now : Sum) (minus : Bool) (text : List ℕ) → number_written text ≡ None → is_label text ≡ true → is_keyword words text ≡ false → now ≡ with_label minus text before →
    Adds words before (record { minus = minus; text = text }) true now
unfolding plus_is
by_label words before now minus text none label known e None = refl
by_label words before now minus text none label known e (Some b) =
    ap (option_map (added before)) (is_part words minus text b None true none (both_true (is_label text) (is_keyword words text) label known)) ∙ ap Some (label_first minus text before b ∙ ap (λ x. added x b) (sym e))

by_none : (words : List (List ℕ)) (before now : Sum) (minus : Bool) (text : List ℕ) → number_written text ≡ None → (is_label text && not (is_keyword words text)) ≡ false → Adds words before (record { minus = minus; text = text }) false now
unfolding plus_is
by_none words before now minus text none label None = refl
by_none words before now minus text none label (Some b) = ap (option_map (added before)) (is_part words minus text b None false none label)

pub no_label : (words : List (List ℕ)) (before now : Sum) (minus : Bool) (text : List ℕ) → number_written text ≡ None → is_label text ≡ false → Adds words before (record { minus = minus; text = text }) false now
no_label words before now minus text none label = by_none words before now minus text none (ap (λ b. b && not (is_keyword words text)) label)

both_false : (a : Bool) → (a && false) ≡ false
both_false true = refl
both_false false = refl

pub a_keyword : (words : List (List ℕ)) (before now : Sum) (minus : Bool) (text : List ℕ) → number_written text ≡ None → is_keyword words text ≡ true → Adds words before (record { minus = minus; text = text }) false now
a_keyword words before now minus text none known = by_none words before now minus text none (ap (λ b. is_label text && not b) known ∙ both_false (is_label text))

pub ruleset part_adding = (by_number, by_label, no_label, a_keyword)

-- The sum so far, with what is left.
abbrev pub Leaves : List (List ℕ) → Sum → Option Left → List ℕ → Type 0
Leaves words sum left text = option_map (added sum) (summed words (left_parts left)) ≡ sum_of words text

nothing_yet : (s : Option Sum) → option_map (added (record { number = pos 0; terms = [] })) s ≡ s
nothing_yet None = refl
nothing_yet (Some s) = ap Some (same_sum _ _ _ _ (omega (arith, ints)) refl)

pub at_start : (words : List (List ℕ)) (text : List ℕ) (minus : Bool) (rest : List ℕ) → (let left : Left = (minus, rest) in left) ≡ first_part text → Leaves words (record { number = pos 0; terms = [] }) (Some (minus, rest)) text
unfolding sum_of
at_start words text minus rest e =
    nothing_yet (summed words (left_parts (Some (minus, rest)))) ∙ ap (λ x. summed words (left_parts (Some x))) e ∙ ap (summed words) (sym (parts_are text))

pub at_end : (words : List (List ℕ)) (sum : Sum) (text : List ℕ) → Leaves words sum None text → Some sum ≡ sum_of words text
at_end words sum text leaves = ap Some (same_sum _ _ _ _ (omega (arith, ints)) (sym (append-nil sum.terms))) ∙ leaves

step : (words : List (List ℕ)) (before now : Sum) (is : Bool) (minus : Bool) (rest text : List ℕ) (n : ℕ) → n ≡ part_length rest → Leaves words before (Some (minus, rest)) text → Adds words before (record { minus = minus; text = take n rest }) is now →
    (if is then option_map (added now) (summed words (left_parts (next_part (drop n rest)))) else None) ≡ sum_of words text
step words before now is minus rest text n len leaves adds =
    let parts : parts_from minus rest ≡ record { minus = minus; text = take n rest } ∷ left_parts (next_part (drop n rest)) =
    first_is minus rest ∙ ap (λ k. record { minus = minus; text = take k rest } ∷ left_parts (next_part (drop k rest))) (sym len) in
    sym (adds (summed words (left_parts (next_part (drop n rest))))) ∙ ap (λ ps. option_map (added before) (summed words ps)) (sym parts) ∙ leaves

pub goes_on : (words : List (List ℕ)) (before now : Sum) (minus : Bool) (rest text part behind : List ℕ) (n : ℕ) → n ≡ part_length rest → part ≡ take n rest → behind ≡ drop n rest → Leaves words before (Some (minus, rest)) text →
    Adds words before (record { minus = minus; text = part }) true now → Leaves words now (next_part behind) text
goes_on words before now minus rest text part behind n len p b leaves adds =
    subst (λ x. Leaves words now (next_part x) text) (sym b) (step words before now true minus rest text n len leaves (subst (λ x. Adds words before (record { minus = minus; text = x }) true now) p adds))

pub stops : (words : List (List ℕ)) (before now : Sum) (minus : Bool) (rest text part : List ℕ) (n : ℕ) → n ≡ part_length rest → part ≡ take n rest → Leaves words before (Some (minus, rest)) text →
    Adds words before (record { minus = minus; text = part }) false now → (let none : Option Sum = None in none) ≡ sum_of words text
stops words before now minus rest text part n len p leaves adds =
    step words before now false minus rest text n len leaves (subst (λ x. Adds words before (record { minus = minus; text = x }) false now) p adds)

pub ruleset adding = (at_start, at_end, goes_on, stops)

pub next_shorter : (text : List ℕ) (minus : Bool) (after : List ℕ) → Some (minus, after) ≡ next_part text → length text ≡ length after + 1
next_shorter [] minus after e = absurd (both_ways true (ap is_some e) refl)
next_shorter (b ∷ bs) minus after e =
    let same : after ≡ bs = ap (λ x. (unwrap_or {T = Left} x (minus, after)).1) e in
    omega (arith, ap length same)

pub grows_high : (new old : ℤ) (before after : ℕ) → new ≤ℤ (old +ℤ pos (2 ^ 64)) → old ≤ℤ pos (before * 2 ^ 64) → before + 1 ≤ after → new ≤ℤ pos (after * 2 ^ 64)
grows_high new old before after grows high more = omega (arith, ints, grows, high, more)

pub grows_low : (new old : ℤ) (before after : ℕ) → (old -ℤ pos (2 ^ 64)) ≤ℤ new → neg_ℤ (pos (before * 2 ^ 64)) ≤ℤ old → before + 1 ≤ after → neg_ℤ (pos (after * 2 ^ 64)) ≤ℤ new
grows_low new old before after grows low more = omega (arith, ints, grows, low, more)
