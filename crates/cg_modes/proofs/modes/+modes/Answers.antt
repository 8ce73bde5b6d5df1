use Rattle.std.proofs.Common.{◌≡◌, ap, Ok, ◌∙◌, sym, subst, ◌<◌, length, get_or, true, min, unsigned_abs, arith}
use Rattle.std.proofs.lemmas.Grind.{common_steps}
use Rattle.cg_model.specs.Checked.{Verdict, and_then, is_place}
use Rattle.cg_model.specs.declared.rtl.Rtl.{Rtl, out-Rtl}
use Rattle.cg_modes_leaf.specs.Scope.{locals_of}
use Rattle.cg_modes.specs.Arms.{before}
use Rattle.cg_modes.proofs.Laws.{dropped_more, either_first, either_second, set_law, sequence_law, around_rules}
use Rattle.cg_modes.proofs.Arms.{test_more, before_tested, case_law, walked_more, valueless_more}
use Rattle.cg_modes.proofs.modes.+modes.Goals as goal

pub set-returns-then-is_place : goal.set-returns-then-is_place
set-returns-then-is_place t c =
    let r = c.args.rtl.now in
    let d = c.index-items-0.result in
    let two : length (out-Rtl r).items ≡ 2 = grind (arith, common_steps) in
    let P : Rtl → Type 0 = λ q. is_place c.args.machine.now (locals_of c.args.scope.now) (out-Rtl q).op (out-Rtl q).number ≡ true in
    let place : P (get_or (out-Rtl r).items 0 d) = subst P (rw c.as_slice-items.ensures at c.index-items-0.is) (sym c.is_place.ensures ∙ c.if-is_place.true) in
    c.assign.ensures ∙ sym (set_law c.args.machine.now r (locals_of c.args.scope.now) c.args.want d c.requires.op two place)

pub sequence-returns : goal.sequence-returns
sequence-returns t c =
    let h = sequence_law c.args.machine.now c.args.rtl.now (locals_of c.args.scope.now) c.args.want c.min-count.result c.requires.op (grind (arith, common_steps)) in
    grind (arith, around_rules, h)

pub sequence-returns-in_err-first_dropped : goal.sequence-returns-in_err-first_dropped
sequence-returns-in_err-first_dropped t c =
    let h = sequence_law c.args.machine.now c.args.rtl.now (locals_of c.args.scope.now) c.args.want c.min-count.result c.requires.op (grind (arith, common_steps)) in
    grind (arith, common_steps, h)

pub first_dropped-loop-i-preserved : goal.first_dropped-loop-i-preserved
first_dropped-loop-i-preserved t c =
    let lt : c.loop-i.i < c.args.count = omega arith in
    let h = dropped_more c.args.machine.now (locals_of c.args.scope.now) c.args.items.now c.loop-i.i c.args.count c.index-items-i.result lt c.requires in
    sym (rw (← c.index-items-i.is, ← c.in_ok-judge.ensures) at h) ∙ c.loop-i.invariant

pub either-returns-in_ok-turn-in-None : goal.either-returns-in_ok-turn-in-None
either-returns-in_ok-turn-in-None t c =
    let first = rw c.as_slice.ensures at c.index-as_slice-1.is in
    let second = rw c.as_slice-2.ensures at c.index-as_slice-2.is in
    let law = either_first c.args.machine.now c.args.rtl.now (locals_of c.args.scope.now) c.args.want c.index-as_slice-1.result c.index-as_slice-2.result c.in_ok-mode-in-None.mode c.requires.three c.in-None.is first second
    (sym c.is_loose.ensures ∙ c.if-not-is_loose.true) c.in_ok-mode-in-None.ensures in
    sym (law ∙ ap (λ (v : Verdict). and_then v (λ j. Ok c.in_ok-mode-in-None.mode)) (sym c.in_ok-turn-in-None.ensures))

pub either-returns-in_err-turn-in-None : goal.either-returns-in_err-turn-in-None
either-returns-in_err-turn-in-None t c =
    let first = rw c.as_slice.ensures at c.index-as_slice-1.is in
    let second = rw c.as_slice-2.ensures at c.index-as_slice-2.is in
    let law = either_first c.args.machine.now c.args.rtl.now (locals_of c.args.scope.now) c.args.want c.index-as_slice-1.result c.index-as_slice-2.result c.in_ok-mode-in-None.mode c.requires.three c.in-None.is first second
    (sym c.is_loose.ensures ∙ c.if-not-is_loose.true) c.in_ok-mode-in-None.ensures in
    let fault = law ∙ ap (λ (v : Verdict). and_then v (λ j. Ok c.in_ok-mode-in-None.mode)) (sym c.in_err-turn-in-None.ensures) in
    grind (arith, common_steps, fault)

pub either-returns-in_ok-judge-in-None : goal.either-returns-in_ok-judge-in-None
either-returns-in_ok-judge-in-None t c =
    let first = rw c.as_slice.ensures at c.index-as_slice-1.is in
    let second = rw c.as_slice-2.ensures at c.index-as_slice-2.is in
    let law = either_second c.args.machine.now c.args.rtl.now (locals_of c.args.scope.now) c.args.want c.index-as_slice-1.result c.index-as_slice-2.result c.in_ok-mode-in-None-2.mode c.requires.three c.in-None.is first second
    (sym c.is_loose.ensures ∙ c.if-not-is_loose.false) (sym c.is_loose-else-not-is_loose.ensures ∙ c.if-not-is_loose-2.true) c.in_ok-mode-in-None-2.ensures in
    sym (law ∙ ap (λ (v : Verdict). and_then v (λ j. Ok c.in_ok-mode-in-None-2.mode)) (sym c.in_ok-judge-in-None.ensures))

pub first_tests-loop-i-preserved : goal.first_tests-loop-i-preserved
first_tests-loop-i-preserved t c =
    let lt : c.loop-i.i < c.args.count = omega arith in
    let h = test_more c.args.machine.now (locals_of c.args.scope.now) c.args.items.now c.loop-i.i c.args.count c.index-items-i.result lt c.requires in
    sym (rw (← c.index-items-i.is, ← c.in_ok-value.ensures) at h) ∙ c.loop-i.invariant

pub case-returns : goal.case-returns
case-returns t c =
    let r = c.args.rtl.now in
    let some : 0 < length (out-Rtl r).items = grind (arith, common_steps) in
    let first = rw c.as_slice-items.ensures at c.index-items-0.is in
    let arms = rw c.as_slice-items.ensures at c.arms.ensures in
    let h = case_law c.args.machine.now r (locals_of c.args.scope.now) c.args.want c.index-items-0.result c.requires.op some in
    arms ∙ sym (rw (← first, ← c.in_ok-value.ensures) at h)

pub before-returns-in_err-first_tests : goal.before-returns-in_err-first_tests
before-returns-in_err-first_tests t c =
    let r = c.args.arm.now in
    let count : c.min-count.result ≡ min (unsigned_abs (out-Rtl r).number) (length (out-Rtl r).items) = grind (arith, common_steps) in
    let h = ap (λ tested. before c.args.machine.now tested (locals_of c.args.scope.now) r) c.if-tested.true ∙ before_tested c.args.machine.now (locals_of c.args.scope.now) r c.min-count.result count in
    grind (arith, common_steps, h)

pub before-returns-in_ok-first_tests : goal.before-returns-in_ok-first_tests
before-returns-in_ok-first_tests t c =
    let r = c.args.arm.now in
    let count : c.min-count.result ≡ min (unsigned_abs (out-Rtl r).number) (length (out-Rtl r).items) = grind (arith, common_steps) in
    let h = ap (λ tested. before c.args.machine.now tested (locals_of c.args.scope.now) r) c.if-tested.true ∙ before_tested c.args.machine.now (locals_of c.args.scope.now) r c.min-count.result count in
    grind (arith, common_steps, h)

pub each_arm-returns-in_err-before : goal.each_arm-returns-in_err-before
each_arm-returns-in_err-before t c =
    let lt : c.loop-i.i < length c.args.items.now = omega arith in
    let h = walked_more c.args.machine.now (locals_of c.args.scope.now) c.args.tested c.args.written c.args.lead c.args.want c.args.items.now c.loop-i.i c.index-items-i.result lt in
    grind (arith, common_steps, h)

pub each_arm-returns-in_err-arm_turn : goal.each_arm-returns-in_err-arm_turn
each_arm-returns-in_err-arm_turn t c =
    let lt : c.loop-i.i < length c.args.items.now = omega arith in
    let h = walked_more c.args.machine.now (locals_of c.args.scope.now) c.args.tested c.args.written c.args.lead c.args.want c.args.items.now c.loop-i.i c.index-items-i.result lt in
    grind (arith, common_steps, h)

pub each_arm-loop-i-preserved : goal.each_arm-loop-i-preserved
each_arm-loop-i-preserved t c =
    let lt : c.loop-i.i < length c.args.items.now = omega arith in
    let h = walked_more c.args.machine.now (locals_of c.args.scope.now) c.args.tested c.args.written c.args.lead c.args.want c.args.items.now c.loop-i.i c.index-items-i.result lt in
    sym (rw (← c.index-items-i.is, ← c.in_ok-before.ensures, ← c.in_ok-arm_turn.ensures) at h) ∙ c.loop-i.invariant

pub valueless-returns-in_err-before : goal.valueless-returns-in_err-before
valueless-returns-in_err-before t c =
    let lt : c.loop-i.i < length c.args.items.now = omega arith in
    let h = valueless_more c.args.machine.now (locals_of c.args.scope.now) c.args.tested c.args.items.now c.loop-i.i c.index-items-i.result lt in
    grind (arith, common_steps, h)

pub valueless-returns-in_err-judge : goal.valueless-returns-in_err-judge
valueless-returns-in_err-judge t c =
    let lt : c.loop-i.i < length c.args.items.now = omega arith in
    let h = valueless_more c.args.machine.now (locals_of c.args.scope.now) c.args.tested c.args.items.now c.loop-i.i c.index-items-i.result lt in
    grind (arith, common_steps, h)

pub valueless-loop-i-preserved : goal.valueless-loop-i-preserved
valueless-loop-i-preserved t c =
    let lt : c.loop-i.i < length c.args.items.now = omega arith in
    let h = valueless_more c.args.machine.now (locals_of c.args.scope.now) c.args.tested c.args.items.now c.loop-i.i c.index-items-i.result lt in
    sym (rw (← c.index-items-i.is, ← c.in_ok-before.ensures, ← c.in_ok-judge.ensures) at h) ∙ c.loop-i.invariant
