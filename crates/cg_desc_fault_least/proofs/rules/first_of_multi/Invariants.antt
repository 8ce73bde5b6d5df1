use Rattle.std.proofs.Common.{◌≡◌, map, drop}
use Rattle.std.specs.List.{flat_map}
use Rattle.cg_base.specs.Refusing.{first}
use Rattle.cg_attrs.specs.Clauses.{seen_clause}
use Rattle.cg_desc_data.specs.Seen.{seen_numbering}
use Rattle.cg_desc_fault_least.specs.Modes.{multi_clause}
use Rattle.cg_desc_machine.specs.Seen.{base}
use Rattle.cg_desc_fault_least.proofs.rules.first_of_multi.Given as goal

-- the first of what is left is the first of the whole
abbrev pub invariant-loop-clause : goal.invariant-loop-clause
invariant-loop-clause l =
    record {
      kept : base l.scope ≡ base l.initial.scope;
      same : first (flat_map (multi_clause (seen_numbering l.fields) l.machine (base l.initial.scope) l.multi) (map seen_clause (drop l.clause-index l.clauses))) ≡ first (flat_map (multi_clause (seen_numbering l.fields) l.machine (base l.initial.scope) l.multi) (map seen_clause l.clauses));
    }
