-- What the code keeps where it goes through an expression, and the ways that it has found.
use Rattle.std.specs.Prelude.{List, map}
use Rattle.cg_base.specs.declared.form.Form.{Form}
use Rattle.cg_desc_choices.specs.declared.putting.Walk.{Walk}
use Rattle.cg_desc_choices.specs.declared.written.Chosen as declared
use Rattle.cg_desc_choices.specs.Choices.{Chosen, seen_chosen}
use Rattle.cg_desc_choices.specs.Putting.{put_to}

abbrev pub within : Walk → Form → Form
within w f = put_to w.depth w.stands.now f

-- a way that is lent
abbrev pub seen_way : List declared.Chosen → List Chosen
seen_way cs = map seen_chosen cs
