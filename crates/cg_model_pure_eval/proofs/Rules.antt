-- Which laws of values with their modes the parts of the evaluator are proved by.
use Rattle.std.proofs.Common.{◌≡◌, ℕ, Bool, true, false, ◌==◌, if◌then◌else◌, ◌∙◌, refl, ap, [], Option, Some, Ok, Err}
use Rattle.std.proofs.lemmas.Grind.{common_steps}
use Rattle.cg_base.specs.declared.Mode.{Mode}
use Rattle.cg_base.specs.Modes.{bits_of}
use Rattle.cg_model.specs.Checked.{Verdict, and_then, valued, agrees, checked, fault, is_loose}
use Rattle.cg_model.specs.Pure.{Around, pure_meaning}
use Rattle.cg_model.specs.Values.{operand_gives}
use Rattle.cg_model.specs.declared.machine.Machine.{Machine}
use Rattle.cg_model.specs.declared.rtl.Rtl.{Rtl, out-Rtl}
use Rattle.cg_model.proofs.Meanings.{pure_said, said_is}
use Rattle.cg_model_pure_eval.specs.Typing.{paired, moded, bound, typed, operand_typed, agreed}
use Rattle.cg_model_pure_eval.proofs.Bounds.{shift_counts}
use Rattle.cg_model_pure_eval.proofs.Carries.{ternary_law}
use Rattle.cg_model_pure_eval.proofs.Choices.{case_law}
use Rattle.cg_model_pure_eval.proofs.Joins.{join_law}
use Rattle.cg_model_pure_eval.proofs.Laws.{pure_rules}
use Rattle.cg_model_pure_eval.proofs.Typings.{after_mode, unary_law, binary_law, ext_law, zext_law, trunc_law, loose_law}

-- an operand that isn't loose has to agree with the mode that leads
agreed_by : (mode k : Mode) (n : ℕ) (b : Bool) → paired (and_then (and_then (if b then Err (fault 404) else Ok k) (agrees mode)) (λ j. Ok mode)) n ≡ moded (if b then Err (fault 404) else Ok k) (λ j. moded (agrees mode k) (λ i. Ok (record { mode = mode; value = n })))
agreed_by mode k n true = refl
agreed_by mode k n false = after_mode (agrees mode k) (λ j. Ok mode) n (λ j. Ok (record { mode = mode; value = n })) (λ j h. refl)

agreed_where : (mode : Mode) (v : Verdict) (n : ℕ) → paired (and_then (and_then v (λ k. and_then (valued k) (agrees mode))) (λ j. Ok mode)) n ≡ bound (paired v n) (agreed mode)
agreed_where mode (Ok k) n = agreed_by mode k n (bits_of k == 0)
agreed_where mode (Err e) n = refl

pub firm_law : (m : Machine) (a : Around) (r : Rtl) (mode : Mode) (want : Option Mode) → is_loose (out-Rtl r) ≡ false → operand_typed m a mode want r ≡ bound (typed m a r want) (agreed mode)
unfolding operand_typed typed
firm_law m a r mode want e =
    let judged : is_loose (checked m r).said ≡ false = ap is_loose (said_is m r) ∙ e in
    let given_so : is_loose (pure_meaning m a r).checked.said ≡ false = ap is_loose (pure_said m a r) ∙ e in
    ap (λ b. paired (and_then (if b then (checked m r).verdict [] (Some mode) else and_then ((checked m r).verdict [] want) (λ k. and_then (valued k) (agrees mode))) (λ k. Ok mode)) (operand_gives (pure_meaning m a r) [] mode want)) judged
    ∙ ap (λ b. paired (and_then (and_then ((checked m r).verdict [] want) (λ k. and_then (valued k) (agrees mode))) (λ k. Ok mode)) ((pure_meaning m a r).gives [] (if b then Some mode else want))) given_so
    ∙ agreed_where mode ((checked m r).verdict [] want) ((pure_meaning m a r).gives [] want)

pub ruleset operand_rules = (pure_rules, loose_law, firm_law)

pub ruleset unary_rules = (common_steps, unary_law)

pub ruleset binary_rules = (common_steps, binary_law, shift_counts)

pub ruleset resize_rules = (common_steps, ext_law, zext_law, trunc_law)

pub ruleset ternary_rules = (common_steps, ternary_law)

pub ruleset join_rules = (common_steps, join_law)

pub ruleset case_rules = (common_steps, case_law)
