-- E309: a field leaves its word, is empty, or is longer than its mode.
use Rattle.std.specs.Prelude.{not, ◌&&◌, List, []}
use Rattle.cg_ifield.specs.declared.form.PlainForm.{PlainForm}
use Rattle.cg_ifield.specs.declared.form.FieldForm.TheVariants.{Plain}
use Rattle.cg_desc_elements.specs.declared.element.Element.{Element}
use Rattle.cg_desc_elements.specs.declared.element.Element.TheVariants.{Field}
use Rattle.cg_desc_data.specs.declared.framing.Framing.{Framing}
use Rattle.cg_desc_data.specs.Extents.{extent_of, has_place}
use Rattle.cg_desc_scope.specs.Described.{Described}
use Rattle.cg_desc_fault_report.specs.declared.saying.Saying.{Saying}
use Rattle.cg_desc_fault_report.specs.Saying.{only_text, said_where}

-- Where the cpu or the instruction set is lacking, sizes aren't known, and nothing is said.
abbrev pub of_field : Framing → PlainForm → List Saying
of_field b form = said_where (b.is_sized && not (has_place (extent_of b form))) (only_text form.name)

abbrev pub e309 : Described → Element → List Saying
e309 d (Field (Plain form)) = of_field d.framing form
e309 d _ = []
