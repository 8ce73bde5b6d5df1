-- What may stand behind the names of the clauses of hardware.
use Rattle.std.specs.Prelude.{ℕ, List, []}
use Rattle.cg_base.specs.Parts.{headed_in}
use Rattle.cg_attrs.specs.Clauses.{Clause}
use Rattle.cg_attrs.specs.Contents.{misfit}
use Rattle.cg_attrs.specs.Contents as shared
use Rattle.cg_hw.specs.declared.content.HardwareContent.{HardwareContent}
use Rattle.cg_hw.specs.declared.content.HardwareContent.TheVariants as content
use Rattle.cg_hw.specs.Types.{wrong_type, left_out_type}
use Rattle.cg_hw.specs.Keywords.{is_keyword}
use Rattle.cg_hw.specs.Rules.{get_formals, set_formals, wrong_rule, left_out_rule}

-- The texts of E304 of a clause.
abbrev pub wrong : HardwareContent → Clause → List (List ℕ)
wrong (content.Shared c) clause = shared.wrong c clause
wrong content.Type clause = wrong_type clause.name (headed_in clause.content)
wrong content.Keyword clause = misfit (is_keyword clause.content) clause.name
wrong content.Get clause = wrong_rule get_formals clause
wrong content.Set clause = wrong_rule set_formals clause

-- The texts of E307 of a clause.
abbrev pub left_out : HardwareContent → Clause → List (List ℕ)
left_out (content.Shared c) clause = shared.left_out c clause
left_out content.Type clause = left_out_type (headed_in clause.content)
left_out content.Keyword clause = []
left_out content.Get clause = left_out_rule clause
left_out content.Set clause = left_out_rule clause
