use Rattle.std.proofs.Common.{◌∙◌}
use Rattle.tests_code.proofs.FieldLaws.{insert_there}
use Rattle.tests_code.proofs.sound.is_insert.Goals as goal

pub returns-in-Some : goal.returns-in-Some
returns-in-Some c allowed f is = insert_there _ _ _ c.in-Some.field.now f (c.is_rule.ensures allowed) (c.in-Some.ensures.value ∙ is)
