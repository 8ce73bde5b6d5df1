use Rattle.std.proofs.Common.{◌≡◌, ◌++◌, drop}
use Rattle.cg_pmacro_builtin.specs.Replacing.{symbols_among}
use Rattle.cg_pmacro_builtin.proofs.replacing.symbols_among.Given as goal

-- the rest gives what the whole gives
abbrev pub invariant-loop-item : goal.invariant-loop-item
invariant-loop-item l = l.names ++ symbols_among (drop l.item-index l.items) ≡ symbols_among l.items
