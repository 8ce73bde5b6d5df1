use Rattle.std.proofs.Common.{◌≡◌, ◌++◌, drop}
use Rattle.std.specs.List.{flat_map}
use Rattle.cg_desc_scope.specs.Timing.{entries_for}
use Rattle.cg_desc_scope.specs.Lent.{seen_forms}
use Rattle.cg_desc_scope.proofs.timing.timed_among.Given as goal

-- what stands, with what is left, is the whole
abbrev pub invariant-loop-entry : goal.invariant-loop-entry
invariant-loop-entry l =
    seen_forms l.list.items ++ flat_map (entries_for l.model) (drop l.entry-index l.entries) ≡ flat_map (entries_for l.model) l.entries
