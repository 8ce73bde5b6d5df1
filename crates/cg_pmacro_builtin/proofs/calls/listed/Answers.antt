use Rattle.std.proofs.Common.{◌≡◌, ◌+◌, true, List, [], ◌∷◌, ◌++◌, sym, pos, ◌+ℤ◌, ◌*ℤ◌, refl, ap, ◌∙◌, arith}
use Rattle.std.proofs.lemmas.Int.{ints}
use Rattle.cg_base.specs.declared.form.Form.{Form}
use Rattle.cg_base.specs.declared.form.Form.TheVariants.{Number}
use mir.Syntax.{w64}
use mir.Val.{of_z, to_z}
use Rattle.cg_pmacro_builtin.specs.BuiltIns.{numbers, fits_64, iota_fits}
use Rattle.cg_pmacro_builtin.proofs.Numbers.{bounds_fit, numbers_next, numbers_step}
use Rattle.cg_pmacro_builtin.proofs.calls.listed.Goals as goal

pub returns : goal.returns
returns c =
    let s = c.args.start in let d = c.args.step in let k = c.loop-k._k in
    let start : to_z w64 (of_z w64 s) ≡ s = omega (arith, ints) in
    let step : to_z w64 (of_z w64 d) ≡ d = omega (arith, ints) in
    let all : k ≡ c.args.count = omega arith in
    c.loop-k.invariant.made ∙ ap (λ z. numbers k z (to_z w64 (of_z w64 d))) start ∙ ap (λ z. numbers k s z) step ∙ ap (λ n. numbers n s d) all

pub loop-k-preserved : goal.loop-k-preserved
loop-k-preserved c =
    let s = to_z w64 (of_z w64 c.args.start) in let d = to_z w64 (of_z w64 c.args.step) in
    let k = c.loop-k._k in let n = c.args.count in let v = to_z w64 c.loop-k.value-bits in let w = c.next_number-value.result in
    let start : s ≡ c.args.start = omega (arith, ints) in
    let step : d ≡ c.args.step = omega (arith, ints) in
    let same : to_z w64 (of_z w64 w) ≡ w = omega (arith, ints) in
    let fits : iota_fits n s d ≡ true = ap (λ z. iota_fits n z d) start ∙ ap (λ z. iota_fits n c.args.start z) step ∙ c.requires in
    let first : fits_64 s ≡ true = bounds_fit s (omega (arith, ints)) (omega (arith, ints)) in
    let here : v ≡ s +ℤ (pos k *ℤ d) = c.loop-k.invariant.next c.loop-k-test.true in
    let more = numbers_next (k + 1) k s d refl in
    let pushed : c.push.new.self ≡ c.loop-k.forms ++ Number v ∷ [] = c.in_ok-push.ensures.ok ∙ ap (λ (f : Form). c.loop-k.forms ++ f ∷ []) c.number.ensures in
    let before : c.loop-k.forms ++ Number v ∷ [] ≡ numbers k s d ++ Number v ∷ [] = ap (λ (fs : List Form). fs ++ Number v ∷ []) c.loop-k.invariant.made in
    let last : numbers k s d ++ Number v ∷ [] ≡ numbers k s d ++ Number (s +ℤ (pos k *ℤ d)) ∷ [] = ap (λ z. numbers k s d ++ Number z ∷ []) here in
    record {
      made = pushed ∙ before ∙ last ∙ sym more;
      next = λ h. same ∙ numbers_step k n s d v w h first fits here c.next_number-value.ensures;
    }
