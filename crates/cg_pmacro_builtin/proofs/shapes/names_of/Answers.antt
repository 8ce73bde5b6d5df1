use Rattle.std.proofs.Common.{◌≡◌, ◌+◌, ◌∷◌, [], ◌++◌, Some, true, false, drop, ap, sym, ◌∙◌, arith}
use Rattle.std.proofs.lemmas.Grind.{common_steps}
use Rattle.cg_base.specs.Texts.{is_among}
use Rattle.cg_pmacro_builtin.specs.Shapes.{own_symbol, names_of}
use Rattle.cg_pmacro_builtin.proofs.Names.{again, next, names_in_front}
use Rattle.cg_pmacro_builtin.proofs.shapes.names_of.Goals as goal

pub returns-then-is_among : goal.returns-then-is_among
returns-then-is_among c =
    let i = c.loop-formal.formal-index in
    let at : drop i c.args.formals.now ≡ c.formal-item.result ∷ drop (i + 1) c.args.formals.now = grind (arith, common_steps) in
    let symbol : own_symbol c.formal-item.result ≡ Some c.in-Some.name.now = grind (arith, common_steps) in
    let old : is_among c.loop-formal.names c.in-Some.name.now ≡ true = grind (arith, common_steps) in
    sym (sym c.loop-formal.invariant ∙ again c.loop-formal.names (drop i c.args.formals.now) (drop (i + 1) c.args.formals.now) c.formal-item.result c.in-Some.name.now at symbol old)

pub loop-formal-preserved : goal.loop-formal-preserved
loop-formal-preserved c =
    let i = c.loop-formal.formal-index in
    let at : drop i c.args.formals.now ≡ c.formal-item.result ∷ drop (i + 1) c.args.formals.now = grind (arith, common_steps) in
    let symbol : own_symbol c.formal-item.result ≡ Some c.in-Some.name.now = grind (arith, common_steps) in
    let new : is_among c.loop-formal.names c.in-Some.name.now ≡ false = grind (arith, common_steps) in
    let pushed : c.push.new.self ≡ c.loop-formal.names ++ c.in-Some.name.now ∷ [] = grind (arith, common_steps) in
    let step = next c.loop-formal.names (drop i c.args.formals.now) (drop (i + 1) c.args.formals.now) c.formal-item.result c.in-Some.name.now at symbol new in
    ap (λ names. names_in_front names (names_of (drop (i + 1) c.args.formals.now))) pushed ∙ sym step ∙ c.loop-formal.invariant
