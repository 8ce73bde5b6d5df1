use Rattle.std.proofs.Common.{◌≡◌, ◌++◌, drop}
use Rattle.std.specs.List.{filter_map}
use Rattle.cg_desc_scope.specs.Seen.{seen_described}
use Rattle.cg_desc_machine.specs.Instructions.{insn_of, insns_of}
use Rattle.cg_desc_machine.specs.Seen.{base}
use Rattle.cg_desc_machine.proofs.instructions.insns_of.Given as goal

-- what stands, with what is left, is the whole
abbrev pub invariant-loop-written : goal.invariant-loop-written
invariant-loop-written l =
    record {
      kept : base l.scope ≡ base l.initial.scope;
      same : l.list ++ filter_map (insn_of (seen_described l.described) (base l.initial.scope)) (drop l.written-index l.written-items) ≡ insns_of (seen_described l.described) (base l.initial.scope);
    }
