use Rattle.std.proofs.Common.{◌≡◌, ℕ, ◌+◌, List, drop}
use Rattle.std.specs.Option.{option_or}
use Rattle.indexmap.specs.IndexMap.{get}
use Rattle.cg_base.specs.Texts.{same_text}
use Rattle.cg_desc_names.specs.Table.{first_item}
use Rattle.cg_desc_names.proofs.names.add_items.Given as goal

-- what the names say, with what is left, is what they said and the whole says
abbrev pub invariant-loop-place : goal.invariant-loop-place
invariant-loop-place l =
    (other : List ℕ) → option_or (get same_text l.names other) (first_item l.form l.kind other (l.place + 1) (drop l.place l.items)) ≡ option_or (get same_text l.initial.names other) (first_item l.form l.kind other 1 l.items)
