-- What a machine is selected from, and the elements that take part.
use Rattle.std.specs.Prelude.{ℕ, zero, suc, Bool, if◌then◌else◌, List, Option, None, slice_get}
use Rattle.std.specs.List.{filter_map}
use Rattle.cg_base.specs.Parts.{◌>>=◌}
use Rattle.cg_attrs.specs.declared.frame.MachForm.{MachForm}
use Rattle.cg_desc_elements.specs.declared.element.Element.{Element}
use Rattle.cg_desc_elements.specs.declared.kind.Namespace.{Namespace}
use Rattle.cg_desc_elements.specs.Belonging.{takes_part}
use Rattle.cg_desc_elements.specs.E318.{selected_arch, selected_isa}
use Rattle.cg_desc_names.specs.Table.{Table, table_of}

-- The machine's name; its `define-mach` and the number of that form; its instruction set; the elements of the description; and where
-- names stand.
pub record Selection : Type 0 where
  pub machine : List ℕ
  pub form : ℕ
  pub mach : MachForm
  pub isa : Option (List ℕ)
  pub elements : List Element
  pub at : Table

-- The selection of this `define-mach` among the elements.
abbrev pub selection : List ℕ → ℕ → MachForm → Option (List ℕ) → List Element → Selection
selection machine form mach isa es = record { machine = machine; form = form; mach = mach; isa = isa; elements = es; at = table_of machine isa es }

-- A machine is selected with the first of its instruction sets.
abbrev pub selected : List ℕ → List Element → ℕ × MachForm → Selection
selected machine es x = selection machine x.0 x.1 (selected_isa x.1 (selected_arch machine es)) es

abbrev pub takes_part_in : Selection → Element → Bool
takes_part_in s e = takes_part s.machine s.isa e

-- What an element gives, where it takes part; and what all do, in the order of the description.
abbrev pub member : {A : Type 0} → Selection → (Element → Option A) → Element → Option A
member s given e = if takes_part_in s e then given e else None

abbrev pub members : {A : Type 0} → Selection → (Element → Option A) → List A
members s given = filter_map (member s given) s.elements

-- The element of a form; forms are numbered from 1.
abbrev pub element_at : List Element → ℕ → Option Element
element_at es zero = None
element_at es (suc k) = slice_get es k

-- The first element with a name among those that share their names. What is built in has no form.
unfoldable pub named : Selection → Namespace → List ℕ → Option Element
named s among name = s.at among name >>= λ standing. element_at s.elements standing.form
