-- A name leads to an element that has it and takes part.
use Rattle.std.proofs.Common.{◌≡◌, ℕ, suc, ◌+◌, Bool, true, false, if◌then◌else◌, List, [], ◌∷◌, Option, Some, None, slice_get, refl, subst, arith}
use Rattle.std.specs.Option.{option_or}
use Rattle.cg_base.specs.Texts.{same_text}
use Rattle.cg_desc_laws_forms.proofs.Clauses.{equal_texts, first_true, second_true}
use Rattle.cg_desc_laws_forms.proofs.Lists.{the_found}
use Rattle.cg_desc_elements.specs.declared.element.Element.{Element}
use Rattle.cg_desc_elements.specs.declared.kind.Namespace.{Namespace}
use Rattle.cg_desc_elements.specs.Elements.{kind_of}
use Rattle.cg_desc_elements.specs.Kinds.{namespace_of}
use Rattle.cg_desc_elements.specs.Belonging.{takes_part}
use Rattle.cg_desc_names.specs.declared.names.Standing.{Standing}
use Rattle.cg_desc_names.specs.Table.{standing, at_name, counts_among, counted_name, same_namespace, first_from}

-- The form of a standing gives an element of this name, one of these, which takes part.
pub record Leads (machine : List ℕ) (isa : Option (List ℕ)) (es : List Element) (number : ℕ) (among : Namespace) (name : List ℕ) (st : Standing) : Type 0 where
  pub place : ℕ
  pub element : Element
  pub is : slice_get es place ≡ Some element
  pub form : st.form ≡ number + place
  pub kind : st.kind ≡ kind_of element
  pub part : takes_part machine isa element ≡ true
  pub named : counted_name element ≡ name
  pub shares : same_namespace among (namespace_of (kind_of element)) ≡ true

module _ (machine : List ℕ) (isa : Option (List ℕ)) (among : Namespace) (name : List ℕ) (st : Standing) where
  pub leads : (number : ℕ) (es : List Element) → first_from machine isa among name number es ≡ Some st → Leads machine isa es number among name st
  unfolding counts_among
  leads number [] is = absurd cc
  leads number (e ∷ es) is = by (counts_among machine isa among e) refl is (leads (number + 1) es) where
    next : (a n k : ℕ) → a ≡ (n + 1) + k → a ≡ n + suc k
    next a n k same = omega (arith, same)

    first : (n : ℕ) → n ≡ n + 0
    first n = omega arith

    further : Leads machine isa es (number + 1) among name st → Leads machine isa (e ∷ es) number among name st
    further l = record { place = suc l.place; element = l.element; is = l.is; form = next st.form number l.place l.form; kind = l.kind; part = l.part; named = l.named; shares = l.shares }

    both : counts_among machine isa among e ≡ true → (takes_part machine isa e ≡ true) × (same_namespace among (namespace_of (kind_of e)) ≡ true)
    both h = (first_true (takes_part machine isa e) (same_namespace among (namespace_of (kind_of e))) h, second_true (takes_part machine isa e) (same_namespace among (namespace_of (kind_of e))) h)

    here : (b : Bool) → same_text (counted_name e) name ≡ b → counts_among machine isa among e ≡ true → option_or (if b then Some (standing number 0 (kind_of e)) else None) (first_from machine isa among name (number + 1) es) ≡ Some st
        → (first_from machine isa among name (number + 1) es ≡ Some st → Leads machine isa es (number + 1) among name st) → Leads machine isa (e ∷ es) number among name st
    here true same counts is rest =
        subst (Leads machine isa (e ∷ es) number among name) (the_found (standing number 0 (kind_of e)) st is)
        (record { place = 0; element = e; is = refl; form = first number; kind = refl; part = (both counts).0; named = equal_texts (counted_name e) name same; shares = (both counts).1 })
    here false same counts is rest = further (rest is)

    by : (b : Bool) → counts_among machine isa among e ≡ b
        → (if b then option_or (at_name (counted_name e) (standing number 0 (kind_of e)) name) (first_from machine isa among name (number + 1) es) else first_from machine isa among name (number + 1) es) ≡ Some st
        → (first_from machine isa among name (number + 1) es ≡ Some st → Leads machine isa es (number + 1) among name st) → Leads machine isa (e ∷ es) number among name st
    by true counts is rest = here (same_text (counted_name e) name) refl counts is rest
    by false counts is rest = further (rest is)
