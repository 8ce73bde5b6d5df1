use Rattle.std.proofs.Common.{ℕ, List, false, subst}
use Rattle.cg_pmacro_builtin.specs.Outcome.{each}
use Rattle.cg_pmacro_builtin.specs.Reports.{Leaves}
use Rattle.cg_pmacro_expand.specs.Expansion.{expanded}
use Rattle.cg_pmacro_expand.proofs.expander.+expansion.Goals as goal

pub own_calls::each_for-returns : goal.own_calls::each_for-returns
own_calls::each_for-returns t c =
    let P : List ℕ → Type 0 = λ n. Leaves (each (expanded c.args.macros.now c.args.depth n false) c.args.items.now c.args.left.now) c.each.result c.each.new.left in
    subst P c.name.ensures c.each.ensures
