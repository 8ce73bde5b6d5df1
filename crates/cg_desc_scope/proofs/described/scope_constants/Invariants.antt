use Rattle.std.proofs.Common.{◌≡◌, ◌++◌, map, drop}
use Rattle.cg_desc_scope.specs.Described.{constant_in}
use Rattle.cg_desc_scope.proofs.described.scope_constants.Given as goal

-- what stands, with what is left, is the whole
abbrev pub invariant-loop-item : goal.invariant-loop-item
invariant-loop-item l =
    l.list ++ map constant_in (drop l.item-index l.items) ≡ map constant_in l.items
