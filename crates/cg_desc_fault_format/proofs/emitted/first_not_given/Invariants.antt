use Rattle.std.proofs.Common.{◌≡◌, drop}
use Rattle.std.specs.List.{flat_map}
use Rattle.cg_base.specs.Refusing.{first}
use Rattle.cg_desc_machine.specs.Seen.{seen_items}
use Rattle.cg_desc_fault_format.specs.E313.{not_given}
use Rattle.cg_desc_fault_format.proofs.emitted.first_not_given.Given as goal

-- the first of what is left is the first of the whole
abbrev pub invariant-loop-name : goal.invariant-loop-name
invariant-loop-name l =
    first (flat_map (not_given l.own (seen_items l.items)) (drop l.name-index l.wanted)) ≡ first (flat_map (not_given l.own (seen_items l.items)) l.wanted)
