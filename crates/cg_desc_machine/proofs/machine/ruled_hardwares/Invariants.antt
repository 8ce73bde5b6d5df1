use Rattle.std.proofs.Common.{◌≡◌, ◌++◌, map, drop}
use Rattle.std.specs.List.{filter_map}
use Rattle.cg_desc_data.specs.Seen.{seen}
use Rattle.cg_desc_data.specs.Selecting.{member}
use Rattle.cg_desc_data.specs.Numbering.{hardware_in}
use Rattle.cg_desc_scope.specs.Seen.{seen_described}
use Rattle.cg_desc_machine.specs.Rules.{ruled_hardware, ruled_hardwares}
use Rattle.cg_desc_machine.specs.Seen.{base}
use Rattle.cg_desc_machine.proofs.machine.ruled_hardwares.Given as goal

-- what stands, with what is left, is the whole
abbrev pub invariant-loop-element : goal.invariant-loop-element
invariant-loop-element l =
    record {
      kept : base l.scope ≡ base l.initial.scope;
      same : l.list ++ map (ruled_hardware (seen_described l.described) (base l.initial.scope)) (filter_map (member (seen l.described.selection) hardware_in) (drop l.element-index l.element-items)) ≡ ruled_hardwares (seen_described l.described) (base l.initial.scope);
    }
