use Rattle.std.proofs.Common.{◌≡◌, ◌++◌, map, drop}
use Rattle.std.specs.List.{filter_map}
use Rattle.cg_desc_data.specs.Seen.{seen}
use Rattle.cg_desc_data.specs.Selecting.{member}
use Rattle.cg_desc_data.specs.Numbering.{field_in}
use Rattle.cg_desc_scope.specs.Seen.{seen_described}
use Rattle.cg_desc_machine.specs.Rules.{ruled_field, ruled_fields}
use Rattle.cg_desc_machine.specs.Seen.{base}
use Rattle.cg_desc_machine.proofs.machine.ruled_fields.Given as goal

-- what stands, with what is left, is the whole
abbrev pub invariant-loop-element : goal.invariant-loop-element
invariant-loop-element l =
    record {
      kept : base l.scope ≡ base l.initial.scope;
      same : l.list ++ map (ruled_field (seen_described l.described) (base l.initial.scope)) (filter_map (member (seen l.described.selection) field_in) (drop l.element-index l.element-items)) ≡ ruled_fields (seen_described l.described) (base l.initial.scope);
    }
