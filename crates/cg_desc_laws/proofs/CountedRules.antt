-- No rule of a machine's hardware needs itself, where nothing is said of its forms.
use Rattle.std.proofs.Common.{◌≡◌, ◌∙◌, ℕ, zero, suc, ◌+◌, ◌≤◌, ◌*◌, min, Bool, true, false, ◌||◌, if◌then◌else◌, List, [], ◌∷◌, ◌++◌, map, length, Option, Some, None, slice_get, refl, sym, ap, arith}
use Rattle.std.specs.Prelude.{codes}
use Rattle.std.specs.List.{filter_map, find, cons_option}
use Rattle.std.specs.Option.{option_map}
use Rattle.cg_base.specs.declared.form.Top.{Top}
use Rattle.cg_base.specs.Refusing.{least}
use Rattle.cg_base.specs.Texts.{same_text}
use Rattle.cg_desc_laws_forms.proofs.Hardware.{hardware_given}
use Rattle.cg_desc_laws_forms.proofs.Members.{IsMember}
use Rattle.cg_attrs.specs.Clauses.{Clause, standing, stands_as, clauses, clause_faults}
use Rattle.cg_attrs.specs.Judging.{own_faults, form_faults}
use Rattle.cg_desc_laws_forms.proofs.Clauses.{Stands, standing_is}
use Rattle.cg_desc_laws_forms.proofs.FormHardware.{hardware_by}
use Rattle.cg_desc_laws_forms.proofs.Lists.{append_none, the_found}
use Rattle.cg_desc_fault_count.specs.E314.{of_number, e314}
use Rattle.cg_desc_data.specs.Selecting.{Selection, members}
use Rattle.cg_desc_data.specs.Hardware.{built_in}
use Rattle.cg_desc_data.specs.Numbering.{hardware_in, hardware_names, short}
use Rattle.cg_desc_scope.specs.Described.{Described, described}
use Rattle.cg_desc_elements.specs.declared.element.Element.{Element}
use Rattle.cg_desc_elements.specs.declared.element.Element.TheVariants as element
use Rattle.cg_desc_elements.specs.declared.kind.Kind.TheVariants as kinds
use Rattle.cg_desc_elements.specs.declared.kind.Namespace.TheVariants.{Hardwares}
use Rattle.cg_desc_elements.specs.Elements.{kind_of, name_of}
use Rattle.cg_desc_elements.specs.Kinds.{namespace_of}
use Rattle.cg_desc_elements.specs.Reading.{reader_for, element_faults, element_at, first_refusal}
use Rattle.cg_desc_fault_least.specs.Least.{by_elements}
use Rattle.cg_hw.specs.Contents.{wrong, left_out}
use Rattle.cg_hw.specs.Hardware as forms
use Rattle.cg_hw.specs.Tables.{heads, kind_named, rows_of, table_of}
use Rattle.cg_hw.specs.declared.form.HardwareForm.{HardwareForm}
use Rattle.cg_desc_names.specs.Table.{Table, built_in_hardware, counted_name}
use Rattle.cg_model.specs.Placed.{RuleName, rule_named, needed_where}
use Rattle.cg_model.specs.declared.hardware.Hardware.{Hardware}
use Rattle.cg_model.specs.declared.machine.Machine.{Machine}
use Rattle.cg_model_faults.specs.declared.fault.Said.TheVariants as said
use Rattle.cg_model_faults.specs.E314.{one_leads, leads_in, needs, needs_itself, circular}
use Rattle.cg_model_faults.specs.Finding.{at_place, where_so}
use Rattle.cg_rtl_resolve.specs.Names.{place_of}
use Rattle.cg_rtl_resolve.specs.declared.scope.Scope.{Scope}
use Rattle.cg_desc_references.specs.Clauses.{clauses_in}
use Rattle.cg_desc_references.specs.E305.{stands_here, own_repeated, constants_repeated, unit_repeated, repeated_in, repeated_at, repeated_behind}
use Rattle.cg_desc_fault_report.specs.Saying.{fault_said}
use Rattle.cg_desc_machine.specs.Machines.{machine_of}
use Rattle.cg_desc_machine.specs.Rules.{ruled_hardware}
use Rattle.cg_desc_laws.proofs.Members.{AllHold, IsIn}
use Rattle.cg_desc_laws.proofs.Insns.{IsWanted, wanted_there}
use Rattle.cg_desc_laws.proofs.Opened.{Opened, opened, of_kind}
use Rattle.cg_desc_laws.specs.InHand.{of_rules}
use Rattle.cg_desc_laws.proofs.CountedElements.{own_at}
use Rattle.cg_desc_laws.proofs.CountedGiven.{each_member}
use Rattle.cg_desc_laws.proofs.CountedLimits.{none_mapped, none_where}
use Rattle.cg_desc_laws.proofs.CountedOwn.{Own}
use Rattle.cg_desc_laws.proofs.CountedPlaces.{StandsBefore, ArePlaced, all_placed}
use Rattle.cg_desc_laws.proofs.CountedWithin.{none_joined}

-- a clause that stands is among the clauses
module _ {X Y : Type 0} (h : X → Option Y) (test : X → Bool) (x : X) (y : Y) (is : h x ≡ Some y) where
  further : (o : Option Y) (ys : List Y) → IsIn ys y → IsIn (cons_option o ys) y
  further None ys i = i
  further (Some z) ys i = record { place = suc i.place; is = i.is }

  pub found_in : (xs : List X) → find test xs ≡ Some x → IsIn (filter_map h xs) y
  found_in [] found = absurd cc
  found_in (z ∷ zs) found = at (found_in zs) (test z) refl where
    first : (o : Option Y) → o ≡ Some y → IsIn (cons_option o (filter_map h zs)) y
    first None e = absurd cc
    first (Some w) e = record { place = 0; is = e }

    at : (find test zs ≡ Some x → IsIn (filter_map h zs) y) → (b : Bool) → test z ≡ b → IsIn (cons_option (h z) (filter_map h zs)) y
    at rest true passes = let same : z ≡ x = the_found z x (sym (ap (λ c. if c then Some z else find test zs) passes) ∙ found) in first (h z) (ap h same ∙ is)
    at rest false passes = further (h z) (filter_map h zs) (rest (sym (ap (λ c. if c then Some z else find test zs) passes) ∙ found))

-- Under E305 nothing is said of a form's own name, where its clause stands.
module _ (at : Table) (form : ℕ) (e : Element) (all : List Clause) where
  own_of_clause : (before : List Clause) (c : Clause) → c.name ≡ codes "name" → repeated_in at form e before c ≡ [] → own_repeated at form e ≡ []
  unfolding repeated_in
  own_of_clause before c name none =
      sym (ap (λ b. if b then own_repeated at form e else if same_text (codes "values") c.name then constants_repeated at form e else unit_repeated before c) (ap (same_text (codes "name")) name)) ∙ none

  pub own_unrepeated : (count : ℕ) (cs : List Clause) (c : Clause) → c.name ≡ codes "name" → IsIn cs c → repeated_behind at form e all count cs ≡ [] → own_repeated at form e ≡ []
  unfolding repeated_at
  own_unrepeated count cs c name i none = by count cs i.place i.is none where
    by : (n : ℕ) (ds : List Clause) (k : ℕ) → slice_get ds k ≡ Some c → repeated_behind at form e all n ds ≡ [] → own_repeated at form e ≡ []
    by n [] k is none = absurd cc
    by n (d ∷ ds) zero is none = own_of_clause _ d (ap (λ (x : Clause). x.name) (the_found d c is) ∙ name) (append_none (repeated_at at form e all n d) (repeated_behind at form e all (n + 1) ds) none).0
    by n (d ∷ ds) (suc k) is none = by (n + 1) ds k is (append_none (repeated_at at form e all n d) (repeated_behind at form e all (n + 1) ds) none).1

  here_by : own_repeated at form e ≡ [] → stands_here form 0 (at (namespace_of (kind_of e)) (counted_name e)) ≡ true
  unfolding own_repeated
  here_by none = by (stands_here form 0 (at (namespace_of (kind_of e)) (counted_name e))) refl none where
    by : (b : Bool) → stands_here form 0 (at (namespace_of (kind_of e)) (counted_name e)) ≡ b → (if b then [] else name_of e ∷ []) ≡ [] → stands_here form 0 (at (namespace_of (kind_of e)) (counted_name e)) ≡ true
    by true is e = is
    by false is e = absurd cc

-- A rule that isn't there needs nothing.
no_rule : (m : Machine) (steps : ℕ) (r : RuleName) → rule_named m r ≡ None → leads_in m steps r r ≡ false
no_rule m zero r none = refl
no_rule m (suc steps) r none = ap (λ o. one_leads (leads_in m steps r) r (needed_where m o)) none

none_where_both : (a b : Bool) (k : ℕ) → a ≡ false → b ≡ false → where_so (a || b) (at_place 314 0 said.Own said.Nothing) ≡ []
none_where_both a b k e f = none_where (a || b) (at_place 314 0 said.Own said.Nothing) (ap (λ c. c || b) e ∙ f)

no_rules : (m : Machine) (k : ℕ) → rule_named m (record { hardware = k; sets = false }) ≡ None → rule_named m (record { hardware = k; sets = true }) ≡ None → circular m k ≡ []
unfolding needs
no_rules m k get set =
    none_where_both (needs_itself m k false) (needs_itself m k true) k
    (no_rule m (2 * length m.hardware) (record { hardware = k; sets = false }) get) (no_rule m (2 * length m.hardware) (record { hardware = k; sets = true }) set)

short_kept : (n : ℕ) → n ≤ 65535 → min n 65535 ≡ n
short_kept n few = omega (arith, few)

module _ (s : Selection) (scope : Scope) (m : Machine) (tops : List Top) (alone : first_refusal tops ≡ None) (elements : s.elements ≡ filter_map element_at tops) (none : by_elements (described s) scope m tops ≡ None) where
  -- the name of hardware stands at its own form
  own_name : (form : HardwareForm) (place : ℕ) → Own (described s) scope m place (element.Hardware form) → stands_here (place + 1) 0 (s.at Hardwares form.name) ≡ true
  unfolding counted_name
  own_name form place o =
      let e : Element = element.Hardware form in
      let by : (forms.hardware_of o.top.form ≡ Some form) × (least (element_faults o.top.form) ≡ least (forms.hardware_faults o.top.form)) = hardware_by o.top.form (reader_for o.top.form) form o.is in
      let x : Opened kind_named (λ kind elements. forms.hardware_in elements) o.top.form form = opened kind_named (λ kind elements. forms.hardware_in elements) o.top.form form by.0 in
      let faultless : least (clause_faults wrong left_out (rows_of x.kind) x.elements) ≡ None = sym (ap (λ r. least (form_faults (own_faults wrong left_out table_of) r)) x.known) ∙ sym by.1 ∙ o.clear in
      let wanted : IsWanted (rows_of x.kind) (codes "name") = of_kind (λ k. IsWanted (rows_of k) (codes "name")) heads x.head x.kind x.chosen (record { apart = refl; wanted = refl }, tt) in
      let name : Stands x.elements (codes "name") = wanted_there wrong left_out (rows_of x.kind) x.elements faultless (codes "name") wanted in
      let c : Clause = record { name = codes "name"; content = name.content; elements = x.elements } in
      let there : IsIn (clauses x.elements) c = found_in (standing x.elements) (stands_as (codes "name")) name.element c (standing_is x.elements (codes "name") name) x.elements name.found in
      let said : repeated_behind s.at (place + 1) e (clauses x.elements) 0 (clauses x.elements) ≡ [] =
      sym (ap (λ h. repeated_behind s.at (place + 1) e (clauses_in kinds.Hardware h) 0 (clauses_in kinds.Hardware h)) x.is) ∙ o.names in
      here_by s.at (place + 1) e (clauses x.elements) (own_unrepeated s.at (place + 1) e (clauses x.elements) 0 (clauses x.elements) c refl there said)

  here : (e : Element) (form : HardwareForm) (x : IsMember s hardware_in e form) → stands_here (x.there.place + 1) 0 (s.at Hardwares form.name) ≡ true
  here e form x = own_name form x.there.place (own_at s scope m tops alone elements none e (element.Hardware form) (hardware_given e form x.gives) x.there x.part)

  abbrev name : HardwareForm → List ℕ
  name form = form.name

  -- what E314 says of hardware with a number
  one_rule : (form : HardwareForm) (k : ℕ) → k ≤ 65535 → place_of form.name (hardware_names s) ≡ Some k → e314 (described s) m (element.Hardware form) ≡ [] → circular m k ≡ []
  one_rule form k few is said =
      let number : option_map short (place_of form.name (hardware_names s)) ≡ Some k = ap (option_map short) is ∙ ap Some (short_kept k few) in
      none_mapped (fault_said m form.name) (circular m k) (sym (ap (of_number m form.name) number) ∙ said)

  all_rules : (k : ℕ) (rules : List HardwareForm) → k + length rules ≤ 65535 → ArePlaced name (hardware_names s) k rules → AllHold (λ form. e314 (described s) m (element.Hardware form) ≡ []) rules → of_rules m k (map (ruled_hardware (described s) scope) rules) ≡ []
  all_rules k [] few placed said = refl
  all_rules k (form ∷ rest) few placed said =
      none_joined (circular m k) (of_rules m (suc k) (map (ruled_hardware (described s) scope) rest)) (one_rule form k (omega (arith, few)) placed.0 said.0) (all_rules (suc k) rest (omega (arith, few)) placed.1 said.1)

  pub members_clear : AllHold (StandsBefore s.at Hardwares 1) built_in_hardware → 5 + length (members s hardware_in) ≤ 65535 → of_rules m 5 (map (ruled_hardware (described s) scope) (members s hardware_in)) ≡ []
  members_clear built few =
      all_rules 5 (members s hardware_in) few (all_placed s Hardwares hardware_in name here (hardware_names s) built_in_hardware built refl)
      (each_member s hardware_in (λ form. e314 (described s) m (element.Hardware form) ≡ []) (λ e form x. (own_at s scope m tops alone elements none e (element.Hardware form) (hardware_given e form x.gives) x.there x.part).rules))

-- What is built in has no rules.
pub built_in_clear : (d : Described) (scope : Scope) (rest : List Hardware) → of_rules (machine_of d scope) 5 rest ≡ [] → of_rules (machine_of d scope) 0 (built_in d.framing ++ rest) ≡ []
built_in_clear d scope rest h =
    let m : Machine = machine_of d scope in
    none_joined (circular m 0) _ (no_rules m 0 refl refl) (none_joined (circular m 1) _ (no_rules m 1 refl refl) (none_joined (circular m 2) _ (no_rules m 2 refl refl)
    (none_joined (circular m 3) _ (no_rules m 3 refl refl) (none_joined (circular m 4) _ (no_rules m 4 refl refl) h))))
