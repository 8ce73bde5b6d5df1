use Rattle.std.proofs.Common.{◌≡◌, ℕ, List, drop}
use Rattle.std.specs.Option.{option_or}
use Rattle.indexmap.specs.IndexMap.{get}
use Rattle.cg_base.specs.Texts.{same_text}
use Rattle.cg_desc_data.specs.Numbering.{numbered_from}
use Rattle.cg_desc_data.proofs.numbering.numbers_by_name.Given as goal

-- what the numbers say, with what is left, is what the whole says
abbrev pub invariant-loop-place : goal.invariant-loop-place
invariant-loop-place l =
    (name : List ℕ) → option_or (get same_text l.numbers name) (numbered_from l.place name (drop l.place l.names)) ≡ numbered_from 0 name l.names
