use Rattle.std.proofs.Common.{◌≡◌, ◌++◌, map, drop}
use Rattle.cg_desc_data.specs.Seen.{seen_numbers}
use Rattle.cg_desc_scope.specs.Bare.{bare_operand}
use Rattle.cg_desc_scope.proofs.described.put_bare.Given as goal

-- what stands, with what is left, is the whole
abbrev pub invariant-loop-name : goal.invariant-loop-name
invariant-loop-name l =
    l.list ++ map (bare_operand (seen_numbers l.numbers) l.fields l.multis) (drop l.name-index l.names) ≡ l.initial.list ++ map (bare_operand (seen_numbers l.numbers) l.fields l.multis) l.names
