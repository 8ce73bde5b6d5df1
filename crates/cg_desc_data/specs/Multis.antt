-- The multi fields of a machine, without their rules.
use Rattle.std.specs.Prelude.{List, [], map}
use Rattle.std.specs.List.{filter_map}
use Rattle.cg_ifield.specs.declared.form.MultiForm.{MultiForm}
use Rattle.cg_model.specs.declared.field.Multi.{Multi}
use Rattle.cg_rtl_resolve.specs.Names.{nothing}
use Rattle.cg_desc_data.specs.declared.framing.Framing.{Framing}
use Rattle.cg_desc_data.specs.Selecting.{Selection, members}
use Rattle.cg_desc_data.specs.Numbering.{Numbers, multi_in}
use Rattle.cg_desc_data.specs.Extents.{mode_or_uint}

-- Subfields that aren't fields of the machine are left out.
abbrev pub multi_of : Framing → Numbers → MultiForm → Multi
multi_of b n f = record { name = f.name; mode = mode_or_uint b f.mode; subs = filter_map n.fields f.subfields; insert = []; extract = nothing }

abbrev pub multis_of : Selection → Framing → Numbers → List Multi
multis_of s b n = map (multi_of b n) (members s multi_in)
