-- What holds of what each form that takes part gives holds of all that they give.
use Rattle.std.proofs.Common.{◌≡◌, ◌∙◌, ℕ, zero, suc, Bool, true, false, if◌then◌else◌, List, [], ◌∷◌, map, filter, Option, Some, None, slice_get, refl, ap, subst}
use Rattle.std.specs.List.{filter_map, cons_option, flat_map}
use Rattle.cg_desc_laws_forms.proofs.Framing.{IsElement}
use Rattle.cg_desc_laws_forms.proofs.Members.{IsMember}
use Rattle.cg_desc_laws_forms.proofs.Lists.{the_found}
use Rattle.cg_desc_data.specs.Selecting.{Selection, takes_part_in, member, members}
use Rattle.cg_desc_elements.specs.declared.element.Element.{Element}
use Rattle.cg_desc_laws.proofs.Members.{AllHold, IsIn}
use Rattle.cg_desc_laws.proofs.CountedOwn.{first_hold, last_hold}

kept_or_not : {A : Type 0} (P : A → Type 0) (o : Option A) (rest : List A) → ((a : A) → o ≡ Some a → P a) → AllHold P rest → AllHold P (cons_option o rest)
kept_or_not P None rest h all = all
kept_or_not P (Some a) rest h all = (h a refl, all)

-- of each of a list that gives something
pub all_given : {A B : Type 0} (P : B → Type 0) (f : A → Option B) (xs : List A) → ((x : A) → IsIn xs x → (b : B) → f x ≡ Some b → P b) → AllHold P (filter_map f xs)
all_given P f [] h = tt
all_given P f (x ∷ xs) h =
    kept_or_not P (f x) (filter_map f xs) (h x (record { place = 0; is = refl }))
    (all_given P f xs (λ y i b is. h y (record { place = suc i.place; is = i.is }) b is))

pub all_gives : {A B : Type 0} (P : B → Type 0) (f : A → Option B) (xs : List A) → AllHold (λ x. (b : B) → f x ≡ Some b → P b) xs → AllHold P (filter_map f xs)
all_gives P f [] all = tt
all_gives P f (x ∷ xs) all = kept_or_not P (f x) (filter_map f xs) all.0 (all_gives P f xs all.1)

pub all_mapped : {A B : Type 0} (P : B → Type 0) (f : A → B) (xs : List A) → AllHold (λ x. P (f x)) xs → AllHold P (map f xs)
all_mapped P f [] all = tt
all_mapped P f (x ∷ xs) all = (all.0, all_mapped P f xs all.1)

module _ {A : Type 0} (s : Selection) (given : Element → Option A) (P : A → Type 0) (all : (e : Element) (a : A) → IsMember s given e a → P a) where
  one : (e : Element) → IsElement s.elements e → (b : Bool) → takes_part_in s e ≡ b → (a : A) → (if b then given e else None) ≡ Some a → P a
  one e x true part a is = all e a (record { there = x; part = part; gives = is })
  one e x false part a is = absurd cc

  pub each_member : AllHold P (members s given)
  each_member = all_given P (member s given) s.elements (λ e i a is. one e (record { place = i.place; is = i.is }) (takes_part_in s e) refl a is)

-- What holds of all that comes of those that pass a test holds of what comes of one of them.
pub of_filtered : {A B : Type 0} (P : B → Type 0) (f : A → List B) (test : A → Bool) (xs : List A) (x : A) → AllHold P (flat_map f (filter test xs)) → IsIn xs x → test x ≡ true → AllHold P (f x)
of_filtered {A} {B} P f test xs x all i passes = at xs all i.place i.is where
  at : (ys : List A) → AllHold P (flat_map f (filter test ys)) → (k : ℕ) → slice_get ys k ≡ Some x → AllHold P (f x)
  at [] all k is = absurd cc
  at (y ∷ ys) all zero is =
      let same : y ≡ x = the_found y x is in
      let first : test y ≡ true = ap test same ∙ passes in
      let here : AllHold P (flat_map f (y ∷ filter test ys)) = subst (λ b. AllHold P (flat_map f (if b then y ∷ filter test ys else filter test ys))) first all in
      subst (λ z. AllHold P (f z)) same (first_hold P (f y) (flat_map f (filter test ys)) here)
  at (y ∷ ys) all (suc k) is = by (λ h. at ys h k is) (test y) all where
    by : (AllHold P (flat_map f (filter test ys)) → AllHold P (f x)) → (b : Bool) → AllHold P (flat_map f (if b then y ∷ filter test ys else filter test ys)) → AllHold P (f x)
    by rest true h = rest (last_hold P (f y) (flat_map f (filter test ys)) h)
    by rest false h = rest h
