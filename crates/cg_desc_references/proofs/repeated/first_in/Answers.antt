use Rattle.std.proofs.Common.{rules, ◌+◌, map, drop, sym, ap, ◌∙◌}
use Rattle.std.specs.Option.{option_or}
use Rattle.cg_base.specs.Refusing.{first}
use Rattle.cg_attrs.specs.Clauses.{seen_clause}
use Rattle.cg_desc_names.specs.Table.{known}
use Rattle.cg_desc_references.specs.E305.{repeated_behind}
use Rattle.cg_desc_references.proofs.Behind.{behind_more}
use Rattle.cg_desc_references.proofs.repeated.first_in.Goals as goal

pub returns-in-Some : goal.returns-in-Some
returns-in-Some c =
    sym (behind_more (known c.args.names.now) c.args.form c.args.element.now (map seen_clause c.args.clauses.now) c.args.clauses.now c.loop-count.count c.index-clauses-count.result (search rules) c.index-clauses-count.is ∙
    ap (λ a. option_or a (first (repeated_behind (known c.args.names.now) c.args.form c.args.element.now (map seen_clause c.args.clauses.now) (c.loop-count.count + 1) (map seen_clause (drop (c.loop-count.count + 1) c.args.clauses.now))))) (sym c.in_ok-text.ensures ∙ c.in-Some.is)) ∙
    c.loop-count.invariant

pub loop-count-preserved : goal.loop-count-preserved
loop-count-preserved c =
    sym (behind_more (known c.args.names.now) c.args.form c.args.element.now (map seen_clause c.args.clauses.now) c.args.clauses.now c.loop-count.count c.index-clauses-count.result (search rules) c.index-clauses-count.is ∙
    ap (λ a. option_or a (first (repeated_behind (known c.args.names.now) c.args.form c.args.element.now (map seen_clause c.args.clauses.now) (c.loop-count.count + 1) (map seen_clause (drop (c.loop-count.count + 1) c.args.clauses.now))))) (sym c.in_ok-text.ensures ∙ c.in_default.is)) ∙
    c.loop-count.invariant
