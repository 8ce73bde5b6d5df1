-- What is answered of a description: its machine, where nothing is at fault, and else its least refusal.
use Rattle.std.specs.Prelude.{◌≡◌, ℕ, List, Option, Some, None, Result, Ok, Err, slice_get}
use Rattle.std.specs.List.{filter_map}
use Rattle.cg_base.specs.declared.form.Top.{Top}
use Rattle.cg_base.specs.declared.refusal.Refusal.{Refusal}
use Rattle.cg_base.specs.declared.refusal.Stop.{Stop}
use Rattle.cg_base.specs.declared.refusal.Stop.TheVariants.{Refused}
use Rattle.cg_base.specs.Answering.{Answered}
use Rattle.cg_base.specs.Parts.{◌>>=◌}
use Rattle.cg_base.specs.Refusing.{refusal_at}
use Rattle.cg_attrs.specs.declared.frame.MachForm.{MachForm}
use Rattle.cg_desc_elements.specs.declared.element.Element.{Element}
use Rattle.cg_desc_elements.specs.E318.{selected_mach}
use Rattle.cg_desc_elements.specs.Reading.{first_refusal, element_at}
use Rattle.cg_model.specs.Clashing.{FirstClash, NoClash}
use Rattle.cg_model.specs.declared.machine.Machine.{Machine}
use Rattle.cg_model_faults.specs.Refusing.{clash_refusal}
use Rattle.cg_rtl_resolve.specs.declared.scope.Scope.{Scope}
use Rattle.cg_desc_choices.specs.declared.written.Written.{Written}
use Rattle.cg_desc_insns.specs.Named.{numbered}
use Rattle.cg_desc_data.specs.Selecting.{Selection, selected}
use Rattle.cg_desc_scope.specs.Described.{Described, described, whole_scope}
use Rattle.cg_desc_scope.specs.Seen.{forms_of}
use Rattle.cg_desc_machine.specs.Machines.{machine_of}
use Rattle.cg_desc_fault_least.specs.Least.{by_elements}

-- E501 stands at the form of the second of two instructions.
abbrev pub form_top : List Top → Written → Option Top
form_top tops w = numbered tops w.form

abbrev pub top_of : Described → List Top → ℕ → Option Top
top_of d tops j = slice_get d.written j >>= form_top tops

abbrev pub clash_at : Option Top → Refusal → Refusal
clash_at None r = r
clash_at (Some top) r = record r { file = top.file; line = top.line }

abbrev pub clash_of : Described → List Top → Machine → ℕ → ℕ → List ℕ → Refusal
clash_of d tops m i j bytes = clash_at (top_of d tops j) (clash_refusal m i j bytes)

-- A description is refused so, whose machine this is in this scope of its names.
pub data Refuses (d : Described) (scope : Scope) (m : Machine) (tops : List Top) (r : Refusal) : Type 0 where
  by_element : by_elements d scope m tops ≡ Some r → Refuses d scope m tops r
  by_clash : by_elements d scope m tops ≡ None → (i j : ℕ) (bytes : List ℕ) → FirstClash m i j bytes → r ≡ clash_of d tops m i j bytes → Refuses d scope m tops r

-- Nothing is at fault in it.
pub record IsFaultless (d : Described) (scope : Scope) (m : Machine) (tops : List Top) : Type 0 where
  pub elements : by_elements d scope m tops ≡ None
  pub no_clash : NoClash m

-- It gives this machine, and nothing is at fault.
pub record Describes (d : Described) (scope : Scope) (tops : List Top) (m : Machine) : Type 0 where
  pub is : m ≡ machine_of d scope
  pub faultless : IsFaultless d scope m tops

-- An answer for which there was memory.
abbrev pub as_stop : {A : Type 0} → Result A Refusal → Result A Stop
as_stop (Ok x) = Ok x
as_stop (Err r) = Err (Refused r)

-- What is answered of the forms of a selection's elements.
abbrev pub GivesOf : Described → Scope → List Top → Result Machine Stop → Type 0
GivesOf d scope tops result = Answered (Describes d scope tops) (Refuses d scope (machine_of d scope) tops) result

abbrev pub GivesSelection : Selection → List Top → Result Machine Stop → Type 0
GivesSelection s tops result = GivesOf (described s) (whole_scope s (forms_of tops)) tops result

abbrev pub GivesAt : List ℕ → List Element → List Top → ℕ → MachForm → Result Machine Stop → Type 0
GivesAt machine es tops form mach result = GivesSelection (selected machine es (form, mach)) tops result

-- What is answered of elements and their forms, where this `define-mach` is selected or none.
abbrev pub GivesSelected : List ℕ → List Element → List Top → Option (ℕ × MachForm) → Result Machine Stop → Type 0
GivesSelected machine es tops None result = Answered (λ m. ⊥) (λ r. r ≡ refusal_at 0 0 (318, machine)) result
GivesSelected machine es tops (Some x) result = GivesAt machine es tops x.0 x.1 result

-- What is answered for a machine of this name.
abbrev pub GivesMachine : List ℕ → List Element → List Top → Result Machine Stop → Type 0
GivesMachine machine es tops result = GivesSelected machine es tops (selected_mach machine es) result

-- What is answered of forms: the refusal of the first that is refused by itself, and else what is answered of their elements.
abbrev pub GivesElements : List ℕ → List Top → Option Refusal → Result Machine Stop → Type 0
GivesElements machine tops None result = GivesMachine machine (filter_map element_at tops) tops result
GivesElements machine tops (Some refusal) result = Answered (λ m. ⊥) (λ r. r ≡ refusal) result

abbrev pub GivesDescription : List ℕ → List Top → Result Machine Stop → Type 0
GivesDescription machine tops result = GivesElements machine tops (first_refusal tops) result
