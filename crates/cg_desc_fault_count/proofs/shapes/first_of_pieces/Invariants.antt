use Rattle.std.proofs.Common.{◌≡◌, drop}
use Rattle.std.specs.List.{flat_map}
use Rattle.cg_base.specs.Refusing.{first}
use Rattle.cg_desc_fault_report.specs.Subject.{all_lent, described_in, insns_in}
use Rattle.cg_desc_fault_count.specs.E308.{of_pieces}
use Rattle.cg_desc_fault_count.proofs.shapes.first_of_pieces.Given as goal

-- the first of what is left is the first of the whole
abbrev pub invariant-loop-written : goal.invariant-loop-written
invariant-loop-written l =
    first (flat_map (of_pieces (described_in l.of)) (all_lent (drop l.written-index l.written-items))) ≡ first (flat_map (of_pieces (described_in l.of)) (insns_in l.of))
