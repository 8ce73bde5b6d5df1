use Rattle.std.proofs.Common.{◌≡◌, ◌++◌, drop}
use Rattle.std.specs.List.{filter_map}
use Rattle.cg_ifield.specs.Sets.{set_of}
use Rattle.cg_desc_machine.specs.Seen.{seen_sets}
use Rattle.cg_desc_machine.proofs.rules.sets_among.Given as goal

-- what stands, with what is left, is the whole
abbrev pub invariant-loop-form : goal.invariant-loop-form
invariant-loop-form l =
    seen_sets l.list.items ++ filter_map set_of (drop l.form-index l.forms) ≡ filter_map set_of l.forms
