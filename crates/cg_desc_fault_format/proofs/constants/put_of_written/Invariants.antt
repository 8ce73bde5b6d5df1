use Rattle.std.proofs.Common.{◌≡◌, ◌++◌, drop}
use Rattle.std.specs.List.{flat_map}
use Rattle.cg_desc_scope.specs.Seen.{seen_described}
use Rattle.cg_desc_fault_format.specs.E311.{of_part, of_written}
use Rattle.cg_desc_fault_format.proofs.constants.put_of_written.Given as goal

-- what stands, with what is left, is the whole
abbrev pub invariant-loop-part : goal.invariant-loop-part
invariant-loop-part l =
    l.list ++ flat_map (of_part (seen_described l.described)) (drop l.part-index l.part-items) ≡ l.initial.list ++ of_written (seen_described l.described) l.written
