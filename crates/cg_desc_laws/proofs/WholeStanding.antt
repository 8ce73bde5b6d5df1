-- Where a name stands in the table of a selection, an element stands that takes part and has it.
use Rattle.std.proofs.Common.{◌≡◌, ◌∙◌, ℕ, suc, ◌+◌, Bool, true, false, if◌then◌else◌, List, [], ◌∷◌, Option, Some, None, slice_get, refl, sym, ap, arith}
use Rattle.std.specs.Option.{option_or}
use Rattle.cg_base.specs.Texts.{same_text}
use Rattle.cg_desc_laws_forms.proofs.Clauses.{first_true}
use Rattle.cg_desc_laws_forms.proofs.Lists.{the_found}
use Rattle.cg_desc_elements.specs.declared.element.Element.{Element}
use Rattle.cg_desc_elements.specs.declared.kind.Namespace.{Namespace}
use Rattle.cg_desc_elements.specs.Belonging.{takes_part}
use Rattle.cg_desc_elements.specs.Elements.{kind_of}
use Rattle.cg_desc_elements.specs.Kinds.{namespace_of}
use Rattle.cg_desc_names.specs.declared.names.Standing.{Standing}
use Rattle.cg_desc_names.specs.Table.{standing, same_namespace, counts_among, counted_name, first_from}

-- The element, and its place among those that are numbered from `form` on.
pub record StandsAt (machine : List ℕ) (isa : Option (List ℕ)) (name : List ℕ) (form : ℕ) (es : List Element) (x : Standing) : Type 0 where
  pub place : ℕ
  pub element : Element
  pub is : slice_get es place ≡ Some element
  pub part : takes_part machine isa element ≡ true
  pub number : x.form ≡ place + form
  pub kind : x.kind ≡ kind_of element
  pub named : same_text (counted_name element) name ≡ true

counted_part : (machine : List ℕ) (isa : Option (List ℕ)) (among : Namespace) (e : Element) → counts_among machine isa among e ≡ true → takes_part machine isa e ≡ true
unfolding counts_among
counted_part machine isa among e h = first_true (takes_part machine isa e) (same_namespace among (namespace_of (kind_of e))) h

module _ (machine : List ℕ) (isa : Option (List ℕ)) (among : Namespace) (name : List ℕ) (x : Standing) where
  further : (form : ℕ) (e : Element) (es : List Element) → StandsAt machine isa name (form + 1) es x → StandsAt machine isa name form (e ∷ es) x
  further form e es r = record {
    place = suc r.place;
    element = r.element;
    is = r.is;
    part = r.part;
    number = r.number ∙ moved r.place;
    kind = r.kind;
    named = r.named;
  } where
    moved : (k : ℕ) → k + (form + 1) ≡ suc k + form
    moved k = omega arith

  pub first_there : (form : ℕ) (es : List Element) → first_from machine isa among name form es ≡ Some x → StandsAt machine isa name form es x
  first_there form [] h = absurd cc
  first_there form (e ∷ es) h = by (λ there. further form e es (first_there (form + 1) es there)) (counts_among machine isa among e) refl h where
    own : (first_from machine isa among name (form + 1) es ≡ Some x → StandsAt machine isa name form (e ∷ es) x) → takes_part machine isa e ≡ true → (b : Bool) → same_text (counted_name e) name ≡ b
        → option_or (if b then Some (standing form 0 (kind_of e)) else None) (first_from machine isa among name (form + 1) es) ≡ Some x → StandsAt machine isa name form (e ∷ es) x
    own rest part true same there =
        let is : standing form 0 (kind_of e) ≡ x = the_found (standing form 0 (kind_of e)) x there in
        record { place = 0; element = e; is = refl; part = part; number = sym (ap (λ y. y.form) is) ∙ plain form; kind = sym (ap (λ y. y.kind) is); named = same } where
          plain : (k : ℕ) → k ≡ 0 + k
          plain k = omega arith
    own rest part false same there = rest there

    by : (first_from machine isa among name (form + 1) es ≡ Some x → StandsAt machine isa name form (e ∷ es) x) → (b : Bool) → counts_among machine isa among e ≡ b
        → (if b then option_or (if same_text (counted_name e) name then Some (standing form 0 (kind_of e)) else None) (first_from machine isa among name (form + 1) es) else first_from machine isa among name (form + 1) es) ≡ Some x → StandsAt machine isa name form (e ∷ es) x
    by rest true counts there = own rest (counted_part machine isa among e counts) (same_text (counted_name e) name) refl there
    by rest false counts there = rest there
