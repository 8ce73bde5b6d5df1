use Rattle.std.proofs.Common.{◌≡◌, ℕ, ◌+◌, List, drop}
use Rattle.std.specs.Option.{option_or, option_copied}
use Rattle.indexmap.specs.IndexMap.{get}
use Rattle.cg_base.specs.Texts.{same_text}
use Rattle.cg_desc_names.specs.Table.{first_constant}
use Rattle.cg_desc_names.proofs.names.constants_of.Given as goal

-- what the names say, with what is left, is what the whole says
abbrev pub invariant-loop-place : goal.invariant-loop-place
invariant-loop-place l =
    (name : List ℕ) → option_or (get same_text l.names name) (first_constant l.machine (option_copied l.isa) name (l.place + 1) (drop l.place l.elements)) ≡ first_constant l.machine (option_copied l.isa) name 1 l.elements
