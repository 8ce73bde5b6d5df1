use Rattle.std.proofs.Common.{rules, ◌≡◌, true, false, refl, ◌∙◌, arith}
use Rattle.std.proofs.lemmas.Grind.{common_steps}
use Rattle.std.specs.Cmp.Lexicographic.{pointwise}
use Rattle.cg_pmacro_builtin.specs.Shapes.{same_form}
use Rattle.cg_pmacro_builtin.proofs.Same.{same_known, not_number, not_symbol, not_string, not_flag, not_list, pointwise_length}
use Rattle.cg_pmacro_builtin.proofs.shapes.+same_form.Goals as goal

pub returns-in-Number-Number : goal.returns-in-Number-Number
returns-in-Number-Number t c = search rules ∙ same_known c.a.view_is c.b.view_is c.in-Number-Number.is-0 c.in-Number-Number.is-1

pub returns-in-Symbol-Symbol : goal.returns-in-Symbol-Symbol
returns-in-Symbol-Symbol t c = search rules ∙ same_known c.a.view_is c.b.view_is c.in-Symbol-Symbol.is-0 c.in-Symbol-Symbol.is-1

pub returns-in-Str-Str : goal.returns-in-Str-Str
returns-in-Str-Str t c = search rules ∙ same_known c.a.view_is c.b.view_is c.in-Str-Str.is-0 c.in-Str-Str.is-1

pub returns-in-Flag-Flag : goal.returns-in-Flag-Flag
returns-in-Flag-Flag t c = same_known c.a.view_is c.b.view_is c.in-Flag-Flag.is-0 c.in-Flag-Flag.is-1

pub returns-then-items-others : goal.returns-then-items-others
returns-then-items-others t c =
    let p : false ≡ pointwise same_form c.in-Items-Items.items.value c.in-Items-Items.others.value = grind (arith, common_steps, pointwise_length) in
    p ∙ same_known c.a.view_is c.b.view_is c.in-Items-Items.is-0 c.in-Items-Items.is-1

pub returns-then-not-same_form : goal.returns-then-not-same_form
returns-then-not-same_form t c =
    let p : false ≡ pointwise same_form c.in-Items-Items.items.value c.in-Items-Items.others.value = grind (arith, common_steps, pointwise_length) in
    p ∙ same_known c.a.view_is c.b.view_is c.in-Items-Items.is-0 c.in-Items-Items.is-1

pub returns-after-loop-k : goal.returns-after-loop-k
returns-after-loop-k t c =
    let p : true ≡ pointwise same_form c.in-Items-Items.items.value c.in-Items-Items.others.value = grind (arith, common_steps, pointwise_length) in
    p ∙ same_known c.a.view_is c.b.view_is c.in-Items-Items.is-0 c.in-Items-Items.is-1

pub returns-in_default : goal.returns-in_default
returns-in_default t c = not_number c.in_default.field-0-0 _ c.in_default.not-Number-1 ∙ same_known c.a.view_is c.b.view_is c.in_default.is-0 refl

pub returns-in_default-2 : goal.returns-in_default-2
returns-in_default-2 t c = not_symbol c.in_default.field-0-0 _ c.in_default.not-Symbol-1 ∙ same_known c.a.view_is c.b.view_is c.in_default.is-0 refl

pub returns-in_default-3 : goal.returns-in_default-3
returns-in_default-3 t c = not_string c.in_default.field-0-0 _ c.in_default.not-Str-1 ∙ same_known c.a.view_is c.b.view_is c.in_default.is-0 refl

pub returns-in_default-4 : goal.returns-in_default-4
returns-in_default-4 t c = not_flag c.in_default.field-0-0 _ c.in_default.not-Flag-1 ∙ same_known c.a.view_is c.b.view_is c.in_default.is-0 refl

pub returns-in_default-5 : goal.returns-in_default-5
returns-in_default-5 t c = not_list c.in_default.field-0-0 c.in_default.field-1-0 _ c.in_default.not-Items-1 ∙ same_known c.a.view_is c.b.view_is c.in_default.is-0 refl
