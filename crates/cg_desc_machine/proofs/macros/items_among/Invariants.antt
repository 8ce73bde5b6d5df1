use Rattle.std.proofs.Common.{◌≡◌, ◌++◌, drop}
use Rattle.std.specs.List.{filter_map}
use Rattle.cg_desc_machine.specs.Macros.{item_of}
use Rattle.cg_desc_machine.specs.Seen.{seen_items}
use Rattle.cg_desc_machine.proofs.macros.items_among.Given as goal

-- what stands, with what is left, is the whole
abbrev pub invariant-loop-form : goal.invariant-loop-form
invariant-loop-form l =
    seen_items l.list.items ++ filter_map item_of (drop l.form-index l.forms) ≡ filter_map item_of l.forms
