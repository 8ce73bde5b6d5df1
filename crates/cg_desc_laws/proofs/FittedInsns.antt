-- What holds of all that forms give holds of all that a machine has.
use Rattle.std.proofs.Common.{◌≡◌, ◌∙◌, ℕ, zero, suc, Bool, true, false, if◌then◌else◌, List, [], ◌∷◌, map, Option, Some, None, is_some, slice_get, refl, sym, ap, subst}
use Rattle.std.specs.List.{filter_map, cons_option}
use Rattle.std.specs.Option.{option_map}
use Rattle.std.proofs.lemmas.Bool.{false≢true}
use Rattle.cg_desc_laws_forms.proofs.Framing.{IsElement}
use Rattle.cg_desc_laws_forms.proofs.Members.{IsMember}
use Rattle.cg_desc_laws_forms.proofs.Lists.{the_found}
use Rattle.cg_desc_elements.specs.declared.element.Element.{Element}
use Rattle.cg_insn.specs.declared.form.InstructionForm.{InstructionForm}
use Rattle.cg_model.specs.declared.insn.Insn.{Insn}
use Rattle.cg_rtl_resolve.specs.declared.scope.Scope.{Scope}
use Rattle.cg_desc_choices.specs.declared.written.Written.{Written}
use Rattle.cg_desc_data.specs.Selecting.{Selection, takes_part_in, member, members}
use Rattle.cg_desc_scope.specs.Described.{Described}
use Rattle.cg_desc_machine.specs.Instructions.{insn_by, form_of, insn_of, insns_of}
use Rattle.cg_desc_laws.proofs.Members.{AllHold, IsIn}

-- of each that is given of one of a list
module _ {A B : Type 0} (P : B → Type 0) (f : A → Option B) where
  pub all_given : (xs : List A) → ((x : A) (y : B) → IsIn xs x → f x ≡ Some y → P y) → AllHold P (filter_map f xs)
  all_given [] h = tt
  all_given (x ∷ xs) h = at (f x) refl (all_given xs (λ z y i is. h z y (record { place = suc i.place; is = i.is }) is)) where
    at : (o : Option B) → f x ≡ o → AllHold P (filter_map f xs) → AllHold P (cons_option o (filter_map f xs))
    at None is rest = rest
    at (Some y) is rest = (h x y (record { place = 0; is = refl }) is, rest)

-- Where each gives one, each stands where what it is given of does.
pub given_at : {A B : Type 0} (f : A → Option B) (xs : List A) → AllHold (λ x. is_some (f x) ≡ true) xs → (k : ℕ) (x : A) → slice_get xs k ≡ Some x → slice_get (filter_map f xs) k ≡ f x
given_at f [] h k x is = absurd cc
given_at {A} {B} f (y ∷ ys) h k x is = at (λ n there. given_at f ys h.1 n x there) (f y) refl h.0 k is where
  at : ((n : ℕ) → slice_get ys n ≡ Some x → slice_get (filter_map f ys) n ≡ f x) → (o : Option B) → f y ≡ o → is_some o ≡ true → (n : ℕ) → slice_get (y ∷ ys) n ≡ Some x → slice_get (cons_option o (filter_map f ys)) n ≡ f x
  at rest None same some n there = absurd (false≢true some)
  at rest (Some b) same some zero there = sym same ∙ ap f (the_found y x there)
  at rest (Some b) same some (suc n) there = rest n there

-- what follows for each
pub all_so : {A : Type 0} (P Q : A → Type 0) → ((x : A) → P x → Q x) → (xs : List A) → AllHold P xs → AllHold Q xs
all_so P Q f [] h = tt
all_so P Q f (x ∷ xs) h = (f x h.0, all_so P Q f xs h.1)

module _ (d : Described) (scope : Scope) (P : Insn → Type 0) (one : (w : Written) → IsIn d.written w → (form : InstructionForm) → P (insn_by d scope w form)) where
  by_form : (w : Written) → IsIn d.written w → (o : Option InstructionForm) (i : Insn) → option_map (insn_by d scope w) o ≡ Some i → P i
  by_form w there None i is = absurd cc
  by_form w there (Some form) i is = subst P (the_found (insn_by d scope w form) i is) (one w there form)

  pub all_insns : AllHold P (insns_of d scope)
  all_insns = all_given P (insn_of d scope) d.written (λ w i there is. by_form w there (form_of d.selection w) i is)

-- of each that elements give that take part
module _ {A : Type 0} (s : Selection) (given : Element → Option A) (P : A → Type 0) (one : (e : Element) (a : A) → IsMember s given e a → P a) where
  by_part : (e : Element) → IsElement s.elements e → (b : Bool) → takes_part_in s e ≡ b → (o : Option A) → given e ≡ o → (rest : List A) → AllHold P rest → AllHold P (cons_option (if b then o else None) rest)
  by_part e x false part o gives rest h = h
  by_part e x true part None gives rest h = h
  by_part e x true part (Some a) gives rest h = (one e a (record { there = x; part = part; gives = gives }), h)

  among : (es : List Element) → ((k : ℕ) (e : Element) → slice_get es k ≡ Some e → IsElement s.elements e) → AllHold P (filter_map (member s given) es)
  among [] there = tt
  among (e ∷ es) there = by_part e (there 0 e refl) (takes_part_in s e) refl (given e) refl (filter_map (member s given) es) (among es (λ k x is. there (suc k) x is))

  pub all_members : AllHold P (members s given)
  all_members = among s.elements (λ k e is. record { place = k; is = is })

pub all_mapped : {A B : Type 0} (f : A → B) (P : B → Type 0) (xs : List A) → AllHold (λ x. P (f x)) xs → AllHold P (map f xs)
all_mapped f P [] h = tt
all_mapped f P (x ∷ xs) h = (h.0, all_mapped f P xs h.1)
