use Rattle.std.proofs.Common.{rules, ◌≡◌, ap, sym, ◌∙◌, ◌++◌, ◌∷◌, List, ℕ, Some}
use Rattle.std.specs.Option.{option_map}
use Rattle.cg_top.specs.Asking.{digit_of, bytes_of}
use Rattle.cg_top.proofs.AskingLemmas.{bytes_of_more}
use Rattle.cg_top.proofs.asking.bytes_of.Goals as goal

pub loop-first-preserved : goal.loop-first-preserved
loop-first-preserved c =
    let pushed = c.in_ok-push.ensures.ok in
    let high : Some c.in-Some-digit.high ≡ digit_of c.in-Some.first.now = search rules in
    let low : Some c.in-Some-digit-2.low ≡ digit_of c.in-Some-split_first.second.now = search rules in
    let rest : c.loop-first.rest.now ≡ c.in-Some.first.now ∷ c.in-Some-split_first.second.now ∷ c.in-Some-split_first.after.now = search rules in
    ap (λ (x : List ℕ). option_map (λ bs. x ++ bs) (bytes_of c.in-Some-split_first.after.now)) pushed
    ∙ bytes_of_more c.loop-first.bytes c.in-Some-split_first.after.now c.in-Some.first.now c.in-Some-split_first.second.now c.in-Some-digit.high c.in-Some-digit-2.low (sym high) (sym low)
    ∙ ap (λ (s : List ℕ). option_map (λ bs. c.loop-first.bytes ++ bs) (bytes_of s)) (sym rest) ∙ c.loop-first.invariant
