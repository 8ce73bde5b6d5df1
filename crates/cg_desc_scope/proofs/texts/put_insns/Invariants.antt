use Rattle.std.proofs.Common.{◌≡◌, ◌++◌, drop}
use Rattle.std.specs.List.{flat_map}
use Rattle.cg_desc_scope.specs.Seen.{all_lent}
use Rattle.cg_desc_scope.specs.Texts.{texts_of_insn}
use Rattle.cg_desc_scope.proofs.texts.put_insns.Given as goal

-- what stands, with what is left, is the whole
abbrev pub invariant-loop-written : goal.invariant-loop-written
invariant-loop-written l =
    l.list ++ flat_map texts_of_insn (all_lent (drop l.written-index l.insns)) ≡ l.initial.list ++ flat_map texts_of_insn (all_lent l.insns)
