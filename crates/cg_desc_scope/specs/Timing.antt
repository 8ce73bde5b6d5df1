-- How long instructions take: the sum over the units that `timing` names for the machine's first model.
use Rattle.std.specs.Prelude.{ℕ, if◌then◌else◌, List, [], ◌∷◌, map, drop, slice_get, Option, Some, None, codes}
use Rattle.std.specs.List.{filter_map, flat_map}
use Rattle.std.specs.Option.{option_or, unwrap_or}
use Rattle.cg_base.specs.declared.form.Form.{Form}
use Rattle.cg_base.specs.Parts.{◌>>=◌, Headed, headed, elements_of, natural_of, only_natural}
use Rattle.cg_base.specs.Refusing.{first}
use Rattle.cg_base.specs.Texts.{same_text}
use Rattle.cg_attrs.specs.declared.frame.ModelForm.{ModelForm}
use Rattle.cg_attrs.specs.declared.frame.Frame.TheVariants.{Model}
use Rattle.cg_rtl.specs.Shapes.{first_symbol}
use Rattle.cg_insn.specs.declared.form.InstructionForm.{InstructionForm}
use Rattle.cg_desc_elements.specs.declared.element.Element.{Element}
use Rattle.cg_desc_elements.specs.declared.element.Element.TheVariants.{Frame}
use Rattle.cg_model_faults.specs.E308.{sum_of}
use Rattle.cg_rtl_resolve.specs.Names.{found_under}
use Rattle.cg_desc_data.specs.Selecting.{Selection, members}

-- The machine's first model.
abbrev pub model_in : List ℕ → Element → Option ModelForm
model_in machine (Frame (Model form)) = if same_text form.mach machine then Some form else None
model_in machine _ = None

abbrev pub first_model : Selection → Option ModelForm
first_model s = first (members s (model_in s.machine))

-- A unit of a model: its name, and what its place `done` says. The places are name, comment, attrs, issue, done and others.
abbrev pub done_in : List Form → ℕ
done_in fs = unwrap_or (slice_get fs 4 >>= natural_of) 0

abbrev pub unit_in : List Form → Option (List ℕ × ℕ)
unit_in fs = elim (first_symbol fs) [ None ↦ None | Some name ↦ Some (name, done_in fs) ]

unfoldable pub unit_of : Form → Option (List ℕ × ℕ)
unit_of f = elements_of f >>= unit_in

abbrev pub units_of : ModelForm → List (List ℕ × ℕ)
units_of m = filter_map unit_of m.unit

-- The units that `timing` names for a model: each is `(unit name note ..)`.
abbrev pub named_for : List ℕ → Headed → List Form
named_for model x = if same_text x.0 model then x.1 else []

abbrev pub entries_for : List ℕ → Form → List Form
entries_for model f = elim (headed f) [ None ↦ [] | Some x ↦ named_for model x ]

abbrev pub timed_units : List ℕ → Option Form → List Form
timed_units model None = []
timed_units model (Some f) = flat_map (entries_for model) (unwrap_or (elements_of f) [])

-- What `(cycles n)` among the notes says: the last counts.
abbrev pub cycles_in : Headed → Option ℕ
cycles_in x = if same_text (codes "cycles") x.0 then only_natural x.1 else None

unfoldable pub note_cycles : Form → Option ℕ
note_cycles f = headed f >>= cycles_in

abbrev pub last_cycles : List Form → Option ℕ
last_cycles [] = None
last_cycles (f ∷ fs) = option_or (last_cycles fs) (note_cycles f)

-- How long a unit takes that stands in `timing`, by the units of its model.
abbrev pub unit_cycles : List (List ℕ × ℕ) → List Form → ℕ
unit_cycles units fs = unwrap_or (last_cycles (drop 1 fs)) (unwrap_or (first_symbol fs >>= λ name. found_under name units) 0)

abbrev pub cycles_at : List (List ℕ × ℕ) → Form → ℕ
cycles_at units f = elim (headed f) [ None ↦ 0 | Some x ↦ unit_cycles units x.1 ]

-- 1 where no unit is named.
abbrev pub cycles_by : List (List ℕ × ℕ) → List Form → ℕ
cycles_by units [] = 1
cycles_by units (f ∷ fs) = sum_of (map (cycles_at units) (f ∷ fs))

abbrev pub cycles_for : Option ModelForm → Option Form → ℕ
cycles_for None timing = 1
cycles_for (Some m) timing = cycles_by (units_of m) (timed_units m.name timing)

-- How long the instruction of a form takes by a machine's first model.
abbrev pub cycles_of : Option ModelForm → InstructionForm → ℕ
cycles_of model form = cycles_for model form.timing
