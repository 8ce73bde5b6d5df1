use Rattle.std.proofs.Common.{◌≡◌, ◌++◌, take}
use Rattle.cg_pmacro_expand.proofs.expander.own_calls.add_spliced.Given as goal

-- what is done, with the elements so far
abbrev pub invariant-loop-item : goal.invariant-loop-item
invariant-loop-item l = l.done ≡ l.initial.done ++ take l.item-index l.items
