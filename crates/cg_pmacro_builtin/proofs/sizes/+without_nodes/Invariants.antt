use Rattle.std.specs.Prelude.{sum}
use Rattle.std.proofs.Common.{◌≡◌, ◌+◌, ◌≤◌, map, drop}
use Rattle.cg_pmacro_builtin.specs.Sizes.{nodes}
use Rattle.cg_pmacro_builtin.proofs.sizes.+without_nodes.Given as goal

-- what was taken, with the nodes of the rest, are the nodes of the whole
abbrev pub invariant-loop-item : goal.invariant-loop-item
invariant-loop-item l = record { level : l.rest + nodes l.value ≡ l.fn.left + sum (map nodes (drop l.item-index l.item-items)); room : l.rest ≤ l.fn.left }
