use Rattle.std.proofs.Common.{◌≡◌, ◌++◌, map, drop}
use Rattle.std.specs.List.{filter_map}
use Rattle.cg_desc_data.specs.Seen.{seen}
use Rattle.cg_desc_data.specs.Selecting.{member}
use Rattle.cg_desc_data.specs.Numbering.{multi_in}
use Rattle.cg_desc_scope.specs.Seen.{seen_described}
use Rattle.cg_desc_machine.specs.Rules.{ruled_multi, ruled_multis}
use Rattle.cg_desc_machine.specs.Seen.{base}
use Rattle.cg_desc_machine.proofs.machine.ruled_multis.Given as goal

-- what stands, with what is left, is the whole
abbrev pub invariant-loop-element : goal.invariant-loop-element
invariant-loop-element l =
    record {
      kept : base l.scope ≡ base l.initial.scope;
      same : l.list ++ map (ruled_multi (seen_described l.described) (base l.initial.scope)) (filter_map (member (seen l.described.selection) multi_in) (drop l.element-index l.element-items)) ≡ ruled_multis (seen_described l.described) (base l.initial.scope);
    }
