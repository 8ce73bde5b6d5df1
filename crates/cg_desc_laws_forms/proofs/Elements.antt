-- What the elements of forms are, of which none is refused.
use Rattle.std.proofs.Common.{◌≡◌, ℕ, zero, suc, List, [], ◌∷◌, Option, Some, None, slice_get, refl, sym, ap, ◌∙◌}
use Rattle.std.specs.List.{filter_map, cons_option}
use Rattle.std.specs.Option.{option_map}
use Rattle.cg_base.specs.declared.form.Top.{Top}
use Rattle.cg_base.specs.declared.refusal.Refusal.{Refusal}
use Rattle.cg_base.specs.Refusing.{Fault, first, least, refusal_at}
use Rattle.cg_desc_elements.specs.declared.element.Element.{Element}
use Rattle.cg_desc_elements.specs.Reading.{element_of, element_faults, element_at, form_refusal, first_refusal}

-- A form without fault gives this element.
pub record Given (e : Element) : Type 0 where
  pub top : Top
  pub is : element_of top.form ≡ Some e
  pub clear : least (element_faults top.form) ≡ None

no_refusal : (top : Top) (o : Option Fault) → option_map (refusal_at top.file top.line) o ≡ None → o ≡ None
no_refusal top None e = refl
no_refusal top (Some fault) e = absurd cc

-- where the first of all is none, there is none here and behind
both_none : (o : Option Refusal) (rest : List Refusal) → first (cons_option o rest) ≡ None → (o ≡ None) × (first rest ≡ None)
both_none None rest e = (refl, e)
both_none (Some r) rest e = absurd cc

-- The element at a place is given by one of the forms.
pub given_at : (tops : List Top) (k : ℕ) (e : Element) → first_refusal tops ≡ None → slice_get (filter_map element_at tops) k ≡ Some e → Given e
given_at [] k e clear is = absurd cc
given_at (t ∷ ts) k e clear is = at (λ n there. given_at ts n e parts.1 there) (element_at t) refl k is where
  parts : (form_refusal t ≡ None) × (first_refusal ts ≡ None)
  parts = both_none (form_refusal t) (filter_map form_refusal ts) clear

  at : ((n : ℕ) → slice_get (filter_map element_at ts) n ≡ Some e → Given e) → (o : Option Element) → element_at t ≡ o → (n : ℕ) → slice_get (cons_option (element_at t) (filter_map element_at ts)) n ≡ Some e → Given e
  at rest None h n is = rest n (sym (ap (λ x. slice_get (cons_option x (filter_map element_at ts)) n) h) ∙ is)
  at rest (Some x) h zero is = record {
    top = t;
    is = h ∙ sym (ap (λ y. slice_get (cons_option y (filter_map element_at ts)) 0) h) ∙ is;
    clear = no_refusal t (least (element_faults t.form)) parts.0;
  }
  at rest (Some x) h (suc n) is = rest n (sym (ap (λ y. slice_get (cons_option y (filter_map element_at ts)) (suc n)) h) ∙ is)
