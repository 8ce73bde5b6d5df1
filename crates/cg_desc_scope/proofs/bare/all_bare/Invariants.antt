use Rattle.std.proofs.Common.{◌≡◌, ◌++◌, drop}
use Rattle.std.specs.List.{flat_map}
use Rattle.cg_desc_names.specs.Table.{known}
use Rattle.cg_desc_scope.specs.Bare.{bare_in}
use Rattle.cg_desc_scope.proofs.bare.all_bare.Given as goal

-- what stands, with what is left, is the whole
abbrev pub invariant-loop-each : goal.invariant-loop-each
invariant-loop-each l =
    l.list ++ flat_map (bare_in (known l.names)) (drop l.each-index l.written) ≡ flat_map (bare_in (known l.names)) l.written
