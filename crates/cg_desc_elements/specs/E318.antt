-- The selected machine, its arch and its instruction sets. E318: no `define-mach` of that name belongs to the machine.
use Rattle.std.specs.Prelude.{ℕ, ◌+◌, ◌&&◌, if◌then◌else◌, List, [], ◌∷◌, Option, Some, None}
use Rattle.std.specs.List.{filter_map}
use Rattle.std.specs.Option.{option_or, option_map, unwrap_or}
use Rattle.cg_base.specs.Texts.{same_text}
use Rattle.cg_base.specs.Refusing.{FaultTexts, first}
use Rattle.cg_attrs.specs.declared.frame.ArchForm.{ArchForm}
use Rattle.cg_attrs.specs.declared.frame.MachForm.{MachForm}
use Rattle.cg_attrs.specs.declared.frame.Frame.TheVariants.{Arch, Mach}
use Rattle.cg_desc_elements.specs.declared.element.Element.{Element}
use Rattle.cg_desc_elements.specs.declared.element.Element.TheVariants.{Frame}
use Rattle.cg_desc_elements.specs.Belonging.{belongs_to_machine}

-- A `define-mach` of this name that belongs to the machine.
abbrev pub mach_in : List ℕ → Element → Option MachForm
mach_in machine (Frame (Mach form)) = if same_text form.name machine && belongs_to_machine machine form.attrs then Some form else None
mach_in machine _ = None

-- The first of them with the number of its form, where the forms are numbered from `form` on.
abbrev pub numbered : ℕ → MachForm → ℕ × MachForm
numbered form mach = (form, mach)

abbrev pub mach_from : ℕ → List ℕ → List Element → Option (ℕ × MachForm)
mach_from form machine [] = None
mach_from form machine (e ∷ es) = option_or (option_map (numbered form) (mach_in machine e)) (mach_from (form + 1) machine es)

-- The selected machine. Forms are numbered from 1.
abbrev pub selected_mach : List ℕ → List Element → Option (ℕ × MachForm)
selected_mach machine es = mach_from 1 machine es

-- E318: the machine's name.
abbrev pub unselected : List ℕ → Option (ℕ × MachForm) → List (List ℕ)
unselected machine None = machine ∷ []
unselected machine (Some x) = []

abbrev pub e318 : List ℕ → List Element → FaultTexts
e318 machine es = (318, unselected machine (selected_mach machine es)) ∷ []

-- A `define-arch` that belongs to the machine, and the first of them.
abbrev pub arch_in : List ℕ → Element → Option ArchForm
arch_in machine (Frame (Arch form)) = if belongs_to_machine machine form.attrs then Some form else None
arch_in machine _ = None

abbrev pub selected_arch : List ℕ → List Element → Option ArchForm
selected_arch machine es = first (filter_map (arch_in machine) es)

-- A machine's instruction sets are those that its `isas` names, or the arch's where that is absent. It is selected with the first.
abbrev pub isas_named : Option (List (List ℕ)) → Option ArchForm → List (List ℕ)
isas_named (Some isas) arch = isas
isas_named None (Some arch) = arch.isas
isas_named None None = []

abbrev pub isas_of : MachForm → Option ArchForm → List (List ℕ)
isas_of mach arch = isas_named mach.isas arch

abbrev pub selected_isa : MachForm → Option ArchForm → Option (List ℕ)
selected_isa mach arch = first (isas_of mach arch)
