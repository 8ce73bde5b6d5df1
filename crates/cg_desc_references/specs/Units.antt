-- The units of models.
use Rattle.std.specs.Prelude.{ℕ, ◌-◌, Bool, false, not, List, Option, Some, None}
use Rattle.std.specs.List.{list_any, slice_get}
use Rattle.cg_base.specs.Parts.{◌>>=◌, is_headed}
use Rattle.cg_base.specs.Texts.{passes}
use Rattle.cg_attrs.specs.declared.frame.ModelForm.{ModelForm}
use Rattle.cg_attrs.specs.declared.frame.Frame.TheVariants.{Model}
use Rattle.cg_desc_elements.specs.declared.element.Element.{Element}
use Rattle.cg_desc_elements.specs.declared.element.Element.TheVariants.{Frame}
use Rattle.cg_desc_names.specs.declared.names.Standing.{Standing}

abbrev pub model_of : Element → Option ModelForm
model_of (Frame (Model form)) = Some form
model_of _ = None

-- The model has a unit of this name.
abbrev pub has_unit : List ℕ → ModelForm → Bool
has_unit name form = list_any (is_headed name) form.unit

-- The model that the form of this number gives; forms are numbered from 1.
abbrev pub model_numbered : List Element → ℕ → Option ModelForm
model_numbered es form = slice_get es (form - 1) >>= model_of

-- Where the model stands, it lacks this unit. Where it doesn't, it is at fault itself.
abbrev pub lacks_unit : List Element → List ℕ → Option Standing → Bool
lacks_unit es name None = false
lacks_unit es name (Some s) = not (passes (has_unit name) (model_numbered es s.form))
