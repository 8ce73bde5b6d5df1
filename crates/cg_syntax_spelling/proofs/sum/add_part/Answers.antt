use Rattle.std.proofs.Common.{rules, ◌≡◌, pos, ◌+ℤ◌, ◌-ℤ◌, if◌then◌else◌, sym, ap, ◌∙◌, refl, to_z, of_z}
use Rattle.std.proofs.lemmas.Int.{to_z-of_z}
use mir.Syntax.{w128}
use Rattle.cg_syntax_spelling.proofs.Adding.{by_number, same_sum}
use Rattle.cg_syntax_spelling.proofs.sum.add_part.Goals as goal

pub returns-in-Some-clause-adds : goal.returns-in-Some-clause-adds
returns-in-Some-clause-adds c =
    let e : to_z w128 (of_z w128 c.plus_number-sum.result) ≡ (if c.args.minus then c.args.sum.now.number -ℤ pos c.in-Some.number else c.args.sum.now.number +ℤ pos c.in-Some.number) =
    to_z-of_z w128 c.plus_number-sum.result (search rules) ∙ c.plus_number-sum.ensures
    ∙ ap (λ z. if c.args.minus then z -ℤ pos c.in-Some.number else z +ℤ pos c.in-Some.number) (to_z-of_z w128 c.args.sum.now.number (search rules)) in
    by_number c.args.keywords.now c.args.sum.now _ c.args.minus c.args.part.now c.in-Some.number (sym c.in-Some.ensures) (same_sum _ _ _ _ e refl)
