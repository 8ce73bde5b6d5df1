use Rattle.std.proofs.Common.{◌≡◌, drop}
use Rattle.cg_base.specs.Refusing.{first}
use Rattle.cg_desc_data.specs.Seen.{seen_numbering}
use Rattle.cg_desc_machine.specs.Seen.{seen_sets}
use Rattle.cg_desc_fault_least.specs.Modes.{of_sets}
use Rattle.cg_desc_fault_least.proofs.rules.of_sets.Given as goal

-- the first of what is left is the first of the whole
abbrev pub invariant-loop-set : goal.invariant-loop-set
invariant-loop-set l =
    first (of_sets (seen_numbering l.fields) l.machine l.scope l.multi (seen_sets (drop l.set-index l.sets))) ≡ first (of_sets (seen_numbering l.fields) l.machine l.scope l.multi (seen_sets l.sets))
