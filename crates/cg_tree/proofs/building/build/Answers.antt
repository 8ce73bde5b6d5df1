use Rattle.std.proofs.Common.{◌+◌, ◌*◌, ◌∙◌, arith}
use Rattle.cg_ambig.proofs.Sounding.{has_patterns}
use Rattle.cg_tree.proofs.Whole.{tight_grown, low_grown}
use Rattle.cg_tree.proofs.building.build.Goals as goal

pub table_of-requires : goal.table_of-requires
table_of-requires c = has_patterns c.args.machine.now c.requires

pub returns : goal.returns
returns c = tight_grown c.args.machine.now _ _ _ (8 * c.len.result + 511) _ (c.as_slice.ensures ∙ c.in_ok-table.ensures) (c.as_slice-2.ensures ∙ c.in_ok-candidates.ensures) (omega arith) c.in_ok-grown.ensures

pub invariant_of-result : goal.invariant_of-result
invariant_of-result c = record { low = low_grown _ _ _ _ _ c.in_ok-grown.ensures; all = omega (arith, c.in_ok-grown.ensures.sized, c.in_ok-grown.ensures.less) }
