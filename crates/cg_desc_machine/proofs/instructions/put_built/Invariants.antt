use Rattle.std.proofs.Common.{◌≡◌, ◌++◌, map, drop}
use Rattle.cg_rtl_resolve.specs.Names.{rtl_of}
use Rattle.cg_desc_choices.specs.Choices.{form_of}
use Rattle.cg_desc_machine.proofs.instructions.put_built.Given as goal

-- what stands, with what is left, is the whole
abbrev pub invariant-loop-assertion : goal.invariant-loop-assertion
invariant-loop-assertion l =
    l.list ++ map (rtl_of l.scope) (map form_of (drop l.assertion-index l.assertions)) ≡ l.initial.list ++ map (rtl_of l.scope) (map form_of l.assertions)
