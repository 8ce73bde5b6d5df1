use Rattle.std.proofs.Common.{◌≡◌, ◌+◌, drop}
use Rattle.cg_base.specs.Refusing.{first}
use Rattle.cg_desc_names.specs.Table.{known}
use Rattle.cg_desc_references.specs.E305.{items_repeated}
use Rattle.cg_desc_references.proofs.repeated.first_item_repeated.Given as goal

-- the first of what is left is the first of the whole
abbrev pub invariant-loop-place : goal.invariant-loop-place
invariant-loop-place l = first (items_repeated (known l.names) l.form (l.place + 1) (drop l.place l.items)) ≡ first (items_repeated (known l.names) l.form 1 l.items)
