-- Lists from which nothing comes.
use Rattle.std.proofs.Common.{◌≡◌, ℕ, Bool, true, false, not, ◌&&◌, ◌||◌, if◌then◌else◌, List, [], ◌∷◌, ◌++◌, Option, Some, None, refl, sym, ap, ◌∙◌}
use Rattle.std.specs.List.{list_any, list_all, find, filter_map, cons_option, flat_map}
use Rattle.std.proofs.lemmas.Bool.{false≢true}

-- where nothing is given, nothing comes of what is found
cons_none : {A : Type 0} (o : Option A) (xs : List A) → cons_option o xs ≡ [] → (o ≡ None) × (xs ≡ [])
cons_none None xs e = (refl, e)
cons_none (Some x) xs e = absurd cc

pub append_none : {A : Type 0} (xs ys : List A) → xs ++ ys ≡ [] → (xs ≡ []) × (ys ≡ [])
append_none [] ys e = (refl, e)
append_none (x ∷ xs) ys e = absurd cc

pub the_found : {A : Type 0} (x y : A) → Some x ≡ Some y → x ≡ y
the_found {A} x y e = ap (or x) e where
  or : A → Option A → A
  or z None = z
  or z (Some w) = w

module _ {X Y : Type 0} (h : X → Option Y) (test : X → Bool) (x : X) where
  pub given_none : (xs : List X) → filter_map h xs ≡ [] → find test xs ≡ Some x → h x ≡ None
  given_none [] e found = absurd cc
  given_none (y ∷ ys) e found = at (given_none ys both.1) (test y) refl where
    both : (h y ≡ None) × (filter_map h ys ≡ [])
    both = cons_none (h y) (filter_map h ys) e

    at : (find test ys ≡ Some x → h x ≡ None) → (b : Bool) → test y ≡ b → h x ≡ None
    at rest true is = let same : y ≡ x = the_found y x (sym (ap (λ c. if c then Some y else find test ys) is) ∙ found) in ap h (sym same) ∙ both.0
    at rest false is = rest (sym (ap (λ c. if c then Some y else find test ys) is) ∙ found)

module _ {X Y A : Type 0} (f : Y → List A) (h : X → Option Y) (test : X → Bool) (x : X) (y : Y) where
  one : (o : Option Y) (ys : List Y) → flat_map f (cons_option o ys) ≡ [] → o ≡ Some y → f y ≡ []
  one None ys e is = absurd cc
  one (Some z) ys e is = ap f (sym (the_found z y is)) ∙ (append_none (f z) (flat_map f ys) e).0

  rest : (o : Option Y) (ys : List Y) → flat_map f (cons_option o ys) ≡ [] → flat_map f ys ≡ []
  rest None ys e = e
  rest (Some z) ys e = (append_none (f z) (flat_map f ys) e).1

  pub joined_none : (xs : List X) → flat_map f (filter_map h xs) ≡ [] → find test xs ≡ Some x → h x ≡ Some y → f y ≡ []
  joined_none [] e found is = absurd cc
  joined_none (z ∷ zs) e found is = at (λ there. joined_none zs (rest (h z) (filter_map h zs) e) there is) (test z) refl where
    at : (find test zs ≡ Some x → f y ≡ []) → (b : Bool) → test z ≡ b → f y ≡ []
    at more true h1 = let same : z ≡ x = the_found z x (sym (ap (λ c. if c then Some z else find test zs) h1) ∙ found) in one (h z) (filter_map h zs) e (ap h same ∙ is)
    at more false h1 = more (sym (ap (λ c. if c then Some z else find test zs) h1) ∙ found)

-- what is found passes
module _ {X : Type 0} (test : X → Bool) (x : X) where
  pub found_passes : (xs : List X) → find test xs ≡ Some x → test x ≡ true
  found_passes [] found = absurd cc
  found_passes (y ∷ ys) found = at (found_passes ys) (test y) refl where
    at : (find test ys ≡ Some x → test x ≡ true) → (b : Bool) → test y ≡ b → test x ≡ true
    at rest true is = let same : y ≡ x = the_found y x (sym (ap (λ c. if c then Some y else find test ys) is) ∙ found) in ap test (sym same) ∙ is
    at rest false is = rest (sym (ap (λ c. if c then Some y else find test ys) is) ∙ found)

  pub found_of_all : (good : X → Bool) (xs : List X) → list_all good xs ≡ true → find test xs ≡ Some x → good x ≡ true
  found_of_all good [] all found = absurd cc
  found_of_all good (y ∷ ys) all found = at (found_of_all good ys (rest_of (good y) (list_all good ys) all)) (test y) refl where
    first_of : (a b : Bool) → (a && b) ≡ true → a ≡ true
    first_of true b e = refl
    first_of false b e = absurd (false≢true e)

    rest_of : (a b : Bool) → (a && b) ≡ true → b ≡ true
    rest_of true b e = e
    rest_of false b e = absurd (false≢true e)

    at : (find test ys ≡ Some x → good x ≡ true) → (b : Bool) → test y ≡ b → good x ≡ true
    at rest true is =
        let same : y ≡ x = the_found y x (sym (ap (λ c. if c then Some y else find test ys) is) ∙ found) in
        ap good (sym same) ∙ first_of (good y) (list_all good ys) all
    at rest false is = rest (sym (ap (λ c. if c then Some y else find test ys) is) ∙ found)

-- where one passes, one is found
pub record Found {X : Type 0} (test : X → Bool) (xs : List X) : Type 0 where
  pub what : X
  pub is : find test xs ≡ Some what

pub any_found : {X : Type 0} (test : X → Bool) (xs : List X) → list_any test xs ≡ true → Found test xs
any_found test [] e = absurd (false≢true e)
any_found test (y ∷ ys) e = at (any_found test ys) (test y) refl where
  deeper : Found test ys → test y ≡ false → Found test (y ∷ ys)
  deeper d is = record { what = d.what; is = ap (λ c. if c then Some y else find test ys) is ∙ d.is }

  at : (list_any test ys ≡ true → Found test ys) → (b : Bool) → test y ≡ b → Found test (y ∷ ys)
  at rest true is = record { what = y; is = ap (λ c. if c then Some y else find test ys) is }
  at rest false is = deeper (rest (sym (ap (λ c. c || list_any test ys) is) ∙ e)) is

pub any_same : {X : Type 0} (p q : X → Bool) (xs : List X) → ((x : X) → p x ≡ q x) → list_any p xs ≡ list_any q xs
any_same p q [] h = refl
any_same p q (x ∷ xs) h = ap (λ b. b || list_any p xs) (h x) ∙ ap (λ b. q x || b) (any_same p q xs h)
