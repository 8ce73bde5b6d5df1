-- What a name leads to is the element of its number.
use Rattle.std.proofs.Common.{◌≡◌, ◌∙◌, ℕ, suc, ◌+◌, Bool, true, false, ◌&&◌, if◌then◌else◌, List, [], ◌∷◌, map, Option, Some, None, slice_get, refl, sym, ap, arith}
use Rattle.std.specs.List.{filter_map, cons_option}
use Rattle.std.specs.Option.{option_map, option_or}
use Rattle.std.proofs.lemmas.Bool.{false≢true}
use Rattle.cg_base.specs.Texts.{same_text}
use Rattle.cg_desc_laws_forms.proofs.Clauses.{first_true}
use Rattle.cg_desc_laws_forms.proofs.Lists.{the_found}
use Rattle.cg_desc_elements.specs.declared.element.Element.{Element}
use Rattle.cg_desc_elements.specs.declared.kind.Kind.{Kind}
use Rattle.cg_desc_elements.specs.declared.kind.Namespace.{Namespace}
use Rattle.cg_desc_elements.specs.Elements.{kind_of}
use Rattle.cg_desc_elements.specs.Kinds.{namespace_of}
use Rattle.cg_desc_names.specs.declared.names.Standing.{Standing}
use Rattle.cg_desc_names.specs.Table.{same_namespace, counts_among, counted_name, at_name, standing, first_from}
use Rattle.cg_rtl_resolve.specs.Names.{place_of}
use Rattle.cg_desc_data.specs.Selecting.{Selection, takes_part_in, member}

-- What an element of such a kind gives, under its own name.
pub record Gives {A : Type 0} (given : Element → Option A) (own : A → List ℕ) (e : Element) : Type 0 where
  pub form : A
  pub is : given e ≡ Some form
  pub name : counted_name e ≡ own form

-- It is one of those that share their names.
pub record Shares {A : Type 0} (among : Namespace) (own : A → List ℕ) (e : Element) (form : A) : Type 0 where
  pub counts : same_namespace among (namespace_of (kind_of e)) ≡ true
  pub name : counted_name e ≡ own form

-- The form at the first place of a name, and the element that gives it, where elements are numbered from a number on.
pub record Leads {A : Type 0} (s : Selection) (given : Element → Option A) (own : A → List ℕ) (es : List Element) (number : ℕ) (name : List ℕ) (at : Standing) : Type 0 where
  pub form : A
  pub place : ℕ
  pub is : place_of name (map own (filter_map (member s given) es)) ≡ Some place
  pub there : slice_get (filter_map (member s given) es) place ≡ Some form
  pub element : Element
  pub behind : ℕ
  pub stands : slice_get es behind ≡ Some element
  pub part : takes_part_in s element ≡ true
  pub at_form : at.form ≡ behind + number
  pub gives : given element ≡ Some form

both : (a b : Bool) → a ≡ true → b ≡ true → (a && b) ≡ true
both true b e f = f
both false b e f = e

module _ {A : Type 0} (s : Selection) (among : Namespace) (given : Element → Option A) (own : A → List ℕ) (test : Kind → Bool)
    (gives : (e : Element) → test (kind_of e) ≡ true → Gives given own e) (shares : (e : Element) (form : A) → given e ≡ Some form → Shares among own e form) where
  -- one element further
  further : (e : Element) (es : List Element) (number : ℕ) (name : List ℕ) (at : Standing) → Leads s given own es (number + 1) name at → (o : Option A) → member s given e ≡ o → ((form : A) → o ≡ Some form → same_text (own form) name ≡ false) → Leads s given own (e ∷ es) number name at
  further e es number name at l None is other =
      let more : suc l.behind + number ≡ l.behind + (number + 1) = omega arith in
      record {
        form = l.form;
        place = l.place;
        is = ap (λ o. place_of name (map own (cons_option o (filter_map (member s given) es)))) is ∙ l.is;
        there = ap (λ o. slice_get (cons_option o (filter_map (member s given) es)) l.place) is ∙ l.there;
        element = l.element;
        behind = suc l.behind;
        stands = l.stands;
        part = l.part;
        at_form = l.at_form ∙ sym more;
        gives = l.gives;
      }
  further e es number name at l (Some form) is other =
      let more : suc l.behind + number ≡ l.behind + (number + 1) = omega arith in
      record {
        form = l.form;
        place = suc l.place;
        is = ap (λ o. place_of name (map own (cons_option o (filter_map (member s given) es)))) is
            ∙ ap (λ b. if b then Some 0 else option_map suc (place_of name (map own (filter_map (member s given) es)))) (other form refl) ∙ ap (option_map suc) l.is;
        there = ap (λ o. slice_get (cons_option o (filter_map (member s given) es)) (suc l.place)) is ∙ l.there;
        element = l.element;
        behind = suc l.behind;
        stands = l.stands;
        part = l.part;
        at_form = l.at_form ∙ sym more;
        gives = l.gives;
      }

  -- the element itself
  here : (e : Element) (es : List Element) (number : ℕ) (name : List ℕ) (at : Standing) → takes_part_in s e ≡ true → same_text (counted_name e) name ≡ true → standing number 0 (kind_of e) ≡ at → test at.kind ≡ true → Leads s given own (e ∷ es) number name at
  here e es number name at part same is kind =
      let g : Gives given own e = gives e (ap (λ x. test x.kind) is ∙ kind) in
      let is_member : member s given e ≡ Some g.form = ap (λ b. if b then given e else None) part ∙ g.is in
      let plain : number ≡ 0 + number = omega arith in
      record {
        form = g.form;
        place = 0;
        is = ap (λ o. place_of name (map own (cons_option o (filter_map (member s given) es)))) is_member
            ∙ ap (λ b. if b then Some 0 else option_map suc (place_of name (map own (filter_map (member s given) es)))) (ap (λ n. same_text n name) (sym g.name) ∙ same);
        there = ap (λ o. slice_get (cons_option o (filter_map (member s given) es)) 0) is_member;
        element = e;
        behind = 0;
        stands = refl;
        part = part;
        at_form = ap (λ x. x.form) (sym is) ∙ plain;
        gives = g.is;
      }

  -- what a member gives, it gives
  of_member : (e : Element) (form : A) → member s given e ≡ Some form → (takes_part_in s e ≡ true) × (given e ≡ Some form)
  of_member e form is = at (takes_part_in s e) refl is where
    at : (b : Bool) → takes_part_in s e ≡ b → (if b then given e else None) ≡ Some form → (takes_part_in s e ≡ true) × (given e ≡ Some form)
    at true part is = (part, is)
    at false part is = absurd cc

  pub leads : (es : List Element) (number : ℕ) (name : List ℕ) (at : Standing) → first_from s.machine s.isa among name number es ≡ Some at → test at.kind ≡ true → Leads s given own es number name at
  unfolding counts_among
  leads [] number name at is kind = absurd cc
  leads (e ∷ es) number name at is kind = by (leads es (number + 1) name at) (counts_among s.machine s.isa among e) refl is where
    rest : Option Standing
    rest = first_from s.machine s.isa among name (number + 1) es

    not_counted : counts_among s.machine s.isa among e ≡ false → (o : Option A) → member s given e ≡ o → (form : A) → o ≡ Some form → same_text (own form) name ≡ false
    not_counted counts o is form same =
        let m = of_member e form (is ∙ same) in
        let one : counts_among s.machine s.isa among e ≡ true = both (takes_part_in s e) (same_namespace among (namespace_of (kind_of e))) m.0 (shares e form m.1).counts in
        absurd (false≢true (sym counts ∙ one))

    not_named : same_text (counted_name e) name ≡ false → (o : Option A) → member s given e ≡ o → (form : A) → o ≡ Some form → same_text (own form) name ≡ false
    not_named other o is form same = ap (λ n. same_text n name) (sym (shares e form (of_member e form (is ∙ same)).1).name) ∙ other

    by_name : (first_from s.machine s.isa among name (number + 1) es ≡ Some at → test at.kind ≡ true → Leads s given own es (number + 1) name at) → counts_among s.machine s.isa among e ≡ true → (b : Bool) → same_text (counted_name e) name ≡ b
        → option_or (if b then Some (standing number 0 (kind_of e)) else None) rest ≡ Some at → Leads s given own (e ∷ es) number name at
    by_name more counts true same is =
        here e es number name at (first_true (takes_part_in s e) (same_namespace among (namespace_of (kind_of e))) counts) same (the_found (standing number 0 (kind_of e)) at is) kind
    by_name more counts false same is = further e es number name at (more is kind) (member s given e) refl (not_named same (member s given e) refl)

    by : (first_from s.machine s.isa among name (number + 1) es ≡ Some at → test at.kind ≡ true → Leads s given own es (number + 1) name at) → (b : Bool) → counts_among s.machine s.isa among e ≡ b
        → (if b then option_or (at_name (counted_name e) (standing number 0 (kind_of e)) name) rest else rest) ≡ Some at → Leads s given own (e ∷ es) number name at
    by more true counts is = by_name more counts (same_text (counted_name e) name) refl is
    by more false counts is = further e es number name at (more is kind) (member s given e) refl (not_counted counts (member s given e) refl)
