-- What is answered where nothing but a clash may be at fault, and the elements of forms that aren't refused.
use Rattle.std.proofs.Common.{◌≡◌, ◌∙◌, ℕ, List, [], ◌∷◌, map, take, Option, Some, None, Result, Ok, Err, refl, sym, ap, subst}
use Rattle.std.specs.List.{filter_map, cons_option}
use Rattle.std.proofs.lemmas.Grind.{common_steps}
use Rattle.cg_base.specs.declared.form.Top.{Top}
use Rattle.cg_base.specs.declared.refusal.Refusal.{Refusal}
use Rattle.cg_base.specs.declared.refusal.Stop.{Stop}
use Rattle.cg_base.specs.declared.refusal.Stop.TheVariants.{NoMemory}
use Rattle.cg_attrs.specs.declared.frame.ArchForm.{ArchForm}
use Rattle.cg_attrs.specs.declared.frame.MachForm.{MachForm}
use Rattle.cg_desc_elements.specs.declared.element.Element.{Element}
use Rattle.cg_desc_elements.specs.E318.{selected_mach, selected_arch, selected_isa}
use Rattle.cg_desc_elements.specs.Reading.{first_refusal, element_at}
use Rattle.cg_model.specs.Clashing.{NoClash, FirstClashIn}
use Rattle.cg_model.specs.Formed.{IsFormed}
use Rattle.cg_model_faults.specs.Accepted.{IsAccepted}
use Rattle.cg_model_faults.specs.Refusing as refusing
use Rattle.cg_model.specs.declared.machine.Machine.{Machine}
use Rattle.cg_rtl_resolve.specs.declared.scope.Scope.{Scope}
use Rattle.cg_desc_names.specs.Table.{Table, table_of}
use Rattle.cg_desc_laws.specs.InHand.{IsChosen}
use Rattle.cg_desc_data.specs.Selecting.{Selection, selection}
use Rattle.cg_desc_scope.specs.Described.{Described, described, scope_of, whole_scope}
use Rattle.cg_desc_scope.specs.Seen.{forms_of}
use Rattle.cg_desc_machine.specs.Seen.{base}
use Rattle.cg_desc_machine.specs.Machines.{machine_of}
use Rattle.cg_desc_fault_least.specs.Least.{by_elements}
use Rattle.cg_desc.specs.Answering.{Refuses, by_element, by_clash, IsFaultless, Describes, clash_of, GivesOf, GivesSelection, GivesAt, GivesSelected, GivesElements, GivesDescription}

pub element_refuses : (d : Described) (scope : Scope) (m : Machine) (tops : List Top) (r : Refusal) → by_elements d scope m tops ≡ Some r → Refuses d scope m tops r
element_refuses d scope m tops r some = by_element some

pub clash_refuses : (d : Described) (scope : Scope) (m : Machine) (tops : List Top) (i j len : ℕ) (bytes : List ℕ) (r : Refusal) → by_elements d scope m tops ≡ None → FirstClashIn m i j len bytes → r ≡ clash_of d tops m i j (take len bytes) → Refuses d scope m tops r
clash_refuses d scope m tops i j len bytes r none clash is = by_clash none i j (take len bytes) clash.first is

pub nothing_refuses : (d : Described) (scope : Scope) (m : Machine) (tops : List Top) → by_elements d scope m tops ≡ None → NoClash m → IsFaultless d scope m tops
nothing_refuses d scope m tops none clash = record { elements = none; no_clash = clash }

pub describes : (d : Described) (scope : Scope) (tops : List Top) (m : Machine) → m ≡ machine_of d scope → IsFaultless d scope m tops → Describes d scope tops m
describes d scope tops m is none = record { is = is; faultless = none }

-- what is formed, and clear of faults and clashes, is accepted in hand
pub accepted_in_hand : (m : Machine) → IsFormed m → refusing.first_refusal m ≡ None → NoClash m → IsAccepted m
accepted_in_hand m formed none clash = record { formed = formed; faultless = record { elements = none; no_clash = clash } }

-- a selection is chosen whose machine, instruction set and names are found
pub is_chosen : (s : Selection) → selected_mach s.machine s.elements ≡ Some (s.form, s.mach) → s.isa ≡ selected_isa s.mach (selected_arch s.machine s.elements) → s.at ≡ table_of s.machine s.isa s.elements → IsChosen s
is_chosen s mach isa at = record { mach = mach; isa = isa; at = at }

pub ruleset answering = (common_steps, element_refuses, clash_refuses, nothing_refuses, describes, accepted_in_hand)

-- want of memory answers any selection
pub unknown_selection : (s : Selection) (tops : List Top) (r : Result Machine Stop) → r ≡ Err NoMemory → GivesSelection s tops r
unknown_selection s tops r is = subst (GivesSelection s tops) (sym is) tt

-- what is answered of a selection that is described, in the scope of its names
pub gives_selection : (s : Selection) (tops : List Top) (d : Described) (scope : Scope) (r : Result Machine Stop) → d ≡ described s → scope ≡ scope_of s (forms_of tops) d.framing d.written → GivesOf d (base scope) tops r → GivesSelection s tops r
gives_selection s tops d scope r is of gives =
    let same : scope ≡ whole_scope s (forms_of tops) = of ∙ ap (λ (x : Described). scope_of s (forms_of tops) x.framing x.written) is in
    let at : GivesOf d (whole_scope s (forms_of tops)) tops r = subst (λ (x : Scope). GivesOf d (base x) tops r) same gives in
    subst (λ (x : Described). GivesOf x (whole_scope s (forms_of tops)) tops r) is at

-- and of one whose instruction set and names are found
pub gives_at : (name : List ℕ) (es : List Element) (tops : List Top) (form : ℕ) (mach : MachForm) (isa : Option (List ℕ)) (names : Table) (arch : Option ArchForm) (r : Result Machine Stop)
    → arch ≡ selected_arch name es → isa ≡ selected_isa mach arch → names ≡ table_of name isa es
    → GivesSelection (record { machine = name; form = form; mach = mach; isa = isa; elements = es; at = names }) tops r → GivesAt name es tops form mach r
gives_at name es tops form mach isa names arch r of_arch of_isa of_names gives =
    let first : isa ≡ selected_isa mach (selected_arch name es) = of_isa ∙ ap (selected_isa mach) of_arch in
    let named : GivesSelection (selection name form mach isa es) tops r =
    subst (λ (t : Table). GivesSelection (record { machine = name; form = form; mach = mach; isa = isa; elements = es; at = t }) tops r) of_names gives in
    subst (λ (x : Option (List ℕ)). GivesSelection (selection name form mach x es) tops r) first named

-- what is there of options
abbrev same : {A : Type 0} → Option A → Option A
same a = a

abbrev there : {A : Type 0} → List (Option A) → List A
there xs = filter_map same xs

there_mapped : {A B : Type 0} (f : A → Option B) (xs : List A) → filter_map f xs ≡ there (map f xs)
there_mapped f [] = refl
there_mapped f (x ∷ xs) = ap (λ ys. cons_option (f x) ys) (there_mapped f xs)

all_there : {A : Type 0} (xs : List A) → there (map Some xs) ≡ xs
all_there [] = refl
all_there (x ∷ xs) = ap (λ ys. x ∷ ys) (all_there xs)

-- the elements of forms, where each form has one
pub elements_are : (es : List Element) (tops : List Top) → map Some es ≡ map element_at tops → filter_map element_at tops ≡ es
elements_are es tops h = there_mapped element_at tops ∙ ap there (sym h) ∙ all_there es

-- want of memory answers any description
unknown_selected : (name : List ℕ) (es : List Element) (tops : List Top) (o : Option (ℕ × MachForm)) → GivesSelected name es tops o (Err NoMemory)
unknown_selected name es tops None = tt
unknown_selected name es tops (Some (form, mach)) = tt

unknown_answer : (name : List ℕ) (tops : List Top) (o : Option Refusal) → GivesElements name tops o (Err NoMemory)
unknown_answer name tops None = unknown_selected name (filter_map element_at tops) tops (selected_mach name (filter_map element_at tops))
unknown_answer name tops (Some refusal) = tt

pub unknown_description : (name : List ℕ) (tops : List Top) → GivesDescription name tops (Err NoMemory)
unknown_description name tops = unknown_answer name tops (first_refusal tops)

pub ruleset reading = (common_steps, elements_are, unknown_description)
