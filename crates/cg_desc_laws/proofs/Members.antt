-- What holds of all of a list holds of each, and what is given of none is given of no one.
use Rattle.std.proofs.Common.{◌≡◌, ◌∙◌, ℕ, zero, suc, Bool, true, false, if◌then◌else◌, List, [], ◌∷◌, ◌++◌, map, filter, Some, slice_get, refl, sym, ap, subst}
use Rattle.std.specs.List.{flat_map}
use Rattle.cg_desc_laws_forms.proofs.Lists.{append_none, the_found}

abbrev pub AllHold : {A : Type 0} → (A → Type 0) → List A → Type 0
AllHold P [] = Unit {0}
AllHold P (x ∷ xs) = P x × AllHold P xs

-- one of a list
pub record IsIn {A : Type 0} (xs : List A) (x : A) : Type 0 where
  pub place : ℕ
  pub is : slice_get xs place ≡ Some x

pub held : {A : Type 0} (P : A → Type 0) (xs : List A) (x : A) → AllHold P xs → IsIn xs x → P x
held {A} P xs x all i = at xs all i.place i.is where
  at : (ys : List A) → AllHold P ys → (k : ℕ) → slice_get ys k ≡ Some x → P x
  at [] all k is = absurd cc
  at (y ∷ ys) all zero is = subst P (the_found y x is) all.0
  at (y ∷ ys) all (suc k) is = at ys all.1 k is

pub all_append : {A : Type 0} (P : A → Type 0) (xs ys : List A) → AllHold P xs → AllHold P ys → AllHold P (xs ++ ys)
all_append P [] ys a b = b
all_append P (x ∷ xs) ys a b = (a.0, all_append P xs ys a.1 b)

pub all_map : {A B : Type 0} (P : B → Type 0) (f : A → B) → ((a : A) → P (f a)) → (xs : List A) → AllHold P (map f xs)
all_map P f h [] = tt
all_map P f h (x ∷ xs) = (h x, all_map P f h xs)

-- of those of a list
pub all_map_in : {A B : Type 0} (P : B → Type 0) (f : A → B) (xs : List A) → ((a : A) → IsIn xs a → P (f a)) → AllHold P (map f xs)
all_map_in P f [] h = tt
all_map_in P f (x ∷ xs) h = (h x (record { place = 0; is = refl }), all_map_in P f xs (λ a i. h a (record { place = suc i.place; is = i.is })))

-- of those that pass a test
pub filtered_none : {A B : Type 0} (f : A → List B) (test : A → Bool) (xs : List A) (x : A) → flat_map f (filter test xs) ≡ [] → IsIn xs x → test x ≡ true → f x ≡ []
filtered_none {A} {B} f test xs x none i passes = at xs none i.place i.is where
  at : (ys : List A) → flat_map f (filter test ys) ≡ [] → (k : ℕ) → slice_get ys k ≡ Some x → f x ≡ []
  at [] none k is = absurd cc
  at (y ∷ ys) none zero is =
      let same : y ≡ x = the_found y x is in
      let first : test y ≡ true = ap test same ∙ passes in
      let here : flat_map f (y ∷ filter test ys) ≡ [] = sym (ap (λ b. flat_map f (if b then y ∷ filter test ys else filter test ys)) first) ∙ none in
      ap f (sym same) ∙ (append_none (f y) (flat_map f (filter test ys)) here).0
  at (y ∷ ys) none (suc k) is = by (λ h. at ys h k is) (test y) none where
    by : (flat_map f (filter test ys) ≡ [] → f x ≡ []) → (b : Bool) → flat_map f (if b then y ∷ filter test ys else filter test ys) ≡ [] → f x ≡ []
    by rest true h = rest (append_none (f y) (flat_map f (filter test ys)) h).1
    by rest false h = rest h
