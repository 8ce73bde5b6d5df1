use Rattle.std.proofs.Common.{◌≡◌, ◌++◌, drop}
use Rattle.cg_desc_scope.specs.Lent.{seen_forms}
use Rattle.cg_desc_scope.proofs.timing.put_entries.Given as goal

-- what stands, with what is left, is the whole
abbrev pub invariant-loop-entry : goal.invariant-loop-entry
invariant-loop-entry l =
    seen_forms l.list.items ++ drop l.entry-index l.entries ≡ seen_forms l.initial.list.items ++ l.entries
