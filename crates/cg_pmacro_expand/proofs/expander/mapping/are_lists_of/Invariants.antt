use Rattle.std.proofs.Common.{◌≡◌, drop}
use Rattle.std.specs.List.{list_all}
use Rattle.cg_pmacro_expand.specs.Expansion.{is_list_of}
use Rattle.cg_pmacro_expand.proofs.expander.mapping.are_lists_of.Given as goal

-- the rest gives what the whole gives
abbrev pub invariant-loop-arg : goal.invariant-loop-arg
invariant-loop-arg l = list_all (is_list_of l.count) (drop l.arg-index l.args) ≡ list_all (is_list_of l.count) l.args
