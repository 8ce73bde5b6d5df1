-- Names that stand once each.
use Rattle.std.proofs.Common.{◌≡◌, ◌∙◌, ℕ, zero, suc, Bool, true, false, ◌||◌, if◌then◌else◌, List, [], ◌∷◌, ◌++◌, filter, Some, slice_get, refl, sym, ap, subst}
use Rattle.std.specs.Option.{option_map}
use Rattle.std.proofs.lemmas.Bool.{false≢true}
use Rattle.cg_base.specs.Texts.{same_text, is_among}
use Rattle.cg_desc_laws_forms.proofs.Clauses.{equal_texts}
use Rattle.cg_desc_laws_forms.proofs.Lists.{the_found}
use Rattle.cg_desc_scope.proofs.Among.{among_more, after_one, none_after}
use Rattle.cg_desc_insns.specs.Choices.{distinct_behind}
use Rattle.cg_rtl_resolve.specs.Names.{place_of}
use Rattle.cg_desc_laws.proofs.FittedNames.{is_own}

-- None of them stands among those before it.
abbrev pub AreDistinct : List (List ℕ) → List (List ℕ) → Type 0
AreDistinct before [] = Unit {0}
AreDistinct before (x ∷ xs) = (is_among before x ≡ false) × AreDistinct (before ++ x ∷ []) xs

pub both_false : (a b : Bool) → (a || b) ≡ false → (a ≡ false) × (b ≡ false)
both_false true b h = absurd (false≢true (sym h))
both_false false true h = absurd (false≢true (sym h))
both_false false false h = (refl, refl)

-- one of them is none of those before
pub distinct_later : (before xs : List (List ℕ)) (k : ℕ) (name : List ℕ) → AreDistinct before xs → slice_get xs k ≡ Some name → is_among before name ≡ false
distinct_later before [] k name h is = absurd cc
distinct_later before (x ∷ xs) zero name h is = subst (λ n. is_among before n ≡ false) (the_found x name is) h.0
distinct_later before (x ∷ xs) (suc k) name h is =
    (both_false (is_among before name) (same_text x name) (sym (among_more before x name) ∙ distinct_later (before ++ x ∷ []) xs k name h.1 is)).0

-- so the place of a name is the one at which it stands
pub place_at : (before xs : List (List ℕ)) (k : ℕ) (name : List ℕ) → AreDistinct before xs → slice_get xs k ≡ Some name → place_of name xs ≡ Some k
place_at before [] k name h is = absurd cc
place_at before (x ∷ xs) zero name h is =
    let same : same_text x name ≡ true = ap (same_text x) (sym (the_found x name is)) ∙ is_own x in
    ap (λ b. if b then Some 0 else option_map suc (place_of name xs)) same
place_at before (x ∷ xs) (suc k) name h is =
    let other : same_text x name ≡ false = (both_false (is_among before name) (same_text x name) (sym (among_more before x name) ∙ distinct_later (before ++ x ∷ []) xs k name h.1 is)).1 in
    ap (λ b. if b then Some 0 else option_map suc (place_of name xs)) other ∙ ap (option_map suc) (place_at (before ++ x ∷ []) xs k name h.1 is)

-- what stands at a place is one of them
pub member : (xs : List (List ℕ)) (k : ℕ) (x : List ℕ) → slice_get xs k ≡ Some x → is_among xs x ≡ true
member [] k x is = absurd cc
member (y ∷ ys) zero x is = ap (λ b. b || is_among ys x) (ap (same_text y) (sym (the_found y x is)) ∙ is_own y)
member (y ∷ ys) (suc k) x is = either (same_text y x) (is_among ys x) (member ys k x is) where
  either : (b c : Bool) → c ≡ true → (b || c) ≡ true
  either true c e = refl
  either false c e = e

-- Names behind others.
pub distinct_append : (before xs ys : List (List ℕ)) → AreDistinct before xs → AreDistinct (before ++ xs) ys → AreDistinct before (xs ++ ys)
distinct_append before [] ys h g = subst (λ zs. AreDistinct zs ys) (none_after before) g
distinct_append before (x ∷ xs) ys h g = (h.0, distinct_append (before ++ x ∷ []) xs ys h.1 (subst (λ zs. AreDistinct zs ys) (sym (after_one before xs x)) g))

-- what stands first among names, where none of them is one of others
abbrev pub NoneOf : List (List ℕ) → List (List ℕ) → Type 0
NoneOf front [] = Unit {0}
NoneOf front (x ∷ xs) = (is_among front x ≡ false) × NoneOf front xs

or_grouped : (a b c : Bool) → (a || (b || c)) ≡ ((a || b) || c)
or_grouped true b c = refl
or_grouped false b c = refl

pub among_both : (xs ys : List (List ℕ)) (name : List ℕ) → is_among (xs ++ ys) name ≡ (is_among xs name || is_among ys name)
among_both [] ys name = refl
among_both (x ∷ xs) ys name = ap (λ b. same_text x name || b) (among_both xs ys name) ∙ or_grouped (same_text x name) (is_among xs name) (is_among ys name)

pub once : (front before xs : List (List ℕ)) → NoneOf front xs → AreDistinct (front ++ before) (distinct_behind before xs)
once front before [] h = tt
once front before (x ∷ xs) h = at (λ names. once front names xs h.1) (is_among before x) refl where
  at : ((names : List (List ℕ)) → AreDistinct (front ++ names) (distinct_behind names xs)) → (b : Bool) → is_among before x ≡ b → AreDistinct (front ++ before) (if b then distinct_behind before xs else x ∷ distinct_behind (before ++ x ∷ []) xs)
  at rest true is = rest before
  at rest false is =
      let new : is_among (front ++ before) x ≡ false = among_both front before x ∙ ap (λ b. b || is_among before x) h.0 ∙ is in
      (new, subst (λ zs. AreDistinct zs (distinct_behind (before ++ x ∷ []) xs)) (sym (grouped front before x)) (rest (before ++ x ∷ []))) where
        grouped : (zs bs : List (List ℕ)) (y : List ℕ) → (zs ++ bs) ++ y ∷ [] ≡ zs ++ (bs ++ y ∷ [])
        grouped [] bs y = refl
        grouped (z ∷ zs) bs y = ap (λ ys. z ∷ ys) (grouped zs bs y)

-- each of them was one of the names
pub was_among : (before xs : List (List ℕ)) (name : List ℕ) → is_among (distinct_behind before xs) name ≡ true → is_among xs name ≡ true
was_among before [] name h = h
was_among before (x ∷ xs) name h = at (λ names e. was_among names xs name e) (is_among before x) h where
  either : (b c : Bool) → c ≡ true → (b || c) ≡ true
  either true c e = refl
  either false c e = e

  by : ((names : List (List ℕ)) → is_among (distinct_behind names xs) name ≡ true → is_among xs name ≡ true) → (b : Bool) → same_text x name ≡ b → (b || is_among (distinct_behind (before ++ x ∷ []) xs) name) ≡ true → (same_text x name || is_among xs name) ≡ true
  by rest true is e = ap (λ c. c || is_among xs name) is
  by rest false is e = either (same_text x name) (is_among xs name) (rest (before ++ x ∷ []) e)

  at : ((names : List (List ℕ)) → is_among (distinct_behind names xs) name ≡ true → is_among xs name ≡ true) → (b : Bool) → is_among (if b then distinct_behind before xs else x ∷ distinct_behind (before ++ x ∷ []) xs) name ≡ true → (same_text x name || is_among xs name) ≡ true
  at rest true e = either (same_text x name) (is_among xs name) (rest before e)
  at rest false e = by rest (same_text x name) refl e

-- and of names that pass a test
pub was_kept : (test : List ℕ → Bool) (xs : List (List ℕ)) (name : List ℕ) → is_among (filter test xs) name ≡ true → (is_among xs name ≡ true) × (test name ≡ true)
was_kept test [] name h = absurd (false≢true h)
was_kept test (x ∷ xs) name h = at (λ e. was_kept test xs name e) (test x) refl h where
  either : (b c : Bool) → c ≡ true → (b || c) ≡ true
  either true c e = refl
  either false c e = e

  further : (is_among (filter test xs) name ≡ true → (is_among xs name ≡ true) × (test name ≡ true)) → is_among (filter test xs) name ≡ true → ((same_text x name || is_among xs name) ≡ true) × (test name ≡ true)
  further rest e = let r = rest e in (either (same_text x name) (is_among xs name) r.0, r.1)

  by : (is_among (filter test xs) name ≡ true → (is_among xs name ≡ true) × (test name ≡ true)) → test x ≡ true → (b : Bool) → same_text x name ≡ b → (b || is_among (filter test xs) name) ≡ true → ((same_text x name || is_among xs name) ≡ true) × (test name ≡ true)
  by rest passes true is e = (ap (λ c. c || is_among xs name) is, ap test (sym (equal_texts x name is)) ∙ passes)
  by rest passes false is e = further rest e

  at : (is_among (filter test xs) name ≡ true → (is_among xs name ≡ true) × (test name ≡ true)) → (b : Bool) → test x ≡ b → is_among (if b then x ∷ filter test xs else filter test xs) name ≡ true → ((same_text x name || is_among xs name) ≡ true) × (test name ≡ true)
  at rest true passes e = by rest passes (same_text x name) refl e
  at rest false passes e = further rest e

-- those that pass a test none of which is one of others
pub none_kept : (front : List (List ℕ)) (test : List ℕ → Bool) → ((x : List ℕ) → test x ≡ true → is_among front x ≡ false) → (xs : List (List ℕ)) → NoneOf front (filter test xs)
none_kept front test h [] = tt
none_kept front test h (x ∷ xs) = at (none_kept front test h xs) (test x) refl where
  at : NoneOf front (filter test xs) → (b : Bool) → test x ≡ b → NoneOf front (if b then x ∷ filter test xs else filter test xs)
  at rest true passes = (h x passes, rest)
  at rest false passes = rest
