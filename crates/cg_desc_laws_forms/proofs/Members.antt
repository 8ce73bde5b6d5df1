-- What holds of each element that takes part holds of all that they give.
use Rattle.std.proofs.Common.{◌≡◌, ◌∙◌, ℕ, suc, Bool, true, false, ◌&&◌, if◌then◌else◌, List, [], ◌∷◌, ◌++◌, map, Option, Some, None, slice_get, refl, ap}
use Rattle.std.specs.List.{list_all, filter_map, cons_option}
use Rattle.cg_desc_laws_forms.proofs.Clauses.{first_true, second_true}
use Rattle.cg_desc_elements.specs.declared.element.Element.{Element}
use Rattle.cg_desc_data.specs.Selecting.{Selection, takes_part_in, member, members}
use Rattle.cg_desc_laws_forms.proofs.Framing.{IsElement}

pub both_true : (a b : Bool) → a ≡ true → b ≡ true → (a && b) ≡ true
both_true true b e f = f
both_true false b e f = e

-- One that takes part, and what it gives.
pub record IsMember {A : Type 0} (s : Selection) (given : Element → Option A) (e : Element) (a : A) : Type 0 where
  pub there : IsElement s.elements e
  pub part : takes_part_in s e ≡ true
  pub gives : given e ≡ Some a

module _ {A : Type 0} (s : Selection) (given : Element → Option A) (good : A → Bool) (all : (e : Element) (a : A) → IsMember s given e a → good a ≡ true) where
  one : (e : Element) → IsElement s.elements e → (b : Bool) → takes_part_in s e ≡ b → (o : Option A) → given e ≡ o → (rest : List A) → list_all good rest ≡ true → list_all good (cons_option (member s given e) rest) ≡ true
  one e x false part o gives rest h = ap (λ c. list_all good (cons_option (if c then given e else None) rest)) part ∙ h
  one e x true part None gives rest h = ap (λ c. list_all good (cons_option (if c then given e else None) rest)) part ∙ ap (λ p. list_all good (cons_option p rest)) gives ∙ h
  one e x true part (Some a) gives rest h =
      ap (λ c. list_all good (cons_option (if c then given e else None) rest)) part ∙ ap (λ p. list_all good (cons_option p rest)) gives
      ∙ both_true (good a) (list_all good rest) (all e a (record { there = x; part = part; gives = gives })) h

  among : (es : List Element) → ((k : ℕ) (e : Element) → slice_get es k ≡ Some e → IsElement s.elements e) → list_all good (filter_map (member s given) es) ≡ true
  among [] h = refl
  among (e ∷ es) h =
      one e (h 0 e refl) (takes_part_in s e) refl (given e) refl (filter_map (member s given) es) (among es (λ k x is. h (suc k) x is))

  pub all_members : list_all good (members s given) ≡ true
  all_members = among s.elements (λ k e is. record { place = k; is = is })

pub all_mapped : {A B : Type 0} (f : A → B) (good : B → Bool) (xs : List A) → list_all (λ x. good (f x)) xs ≡ true → list_all good (map f xs) ≡ true
all_mapped f good [] h = refl
all_mapped f good (x ∷ xs) h =
    both_true (good (f x)) (list_all good (map f xs)) (first_true (good (f x)) (list_all (λ y. good (f y)) xs) h) (all_mapped f good xs (second_true (good (f x)) (list_all (λ y. good (f y)) xs) h))

pub all_joined : {A : Type 0} (good : A → Bool) (xs ys : List A) → list_all good xs ≡ true → list_all good ys ≡ true → list_all good (xs ++ ys) ≡ true
all_joined good [] ys h g = g
all_joined good (x ∷ xs) ys h g = both_true (good x) (list_all good (xs ++ ys)) (first_true (good x) (list_all good xs) h) (all_joined good xs ys (second_true (good x) (list_all good xs) h) g)
