-- What the arms of a `cond` or a `case` give with their modes.
use Rattle.std.proofs.Common.{◌≡◌, ℕ, suc, zero, ◌+◌, ◌-◌, ◌<◌, ◌≤◌, ◌⊎◌, inl, inr, min, take, Bool, true, false, ◌==◌, if◌then◌else◌, ◌∙◌, sym, refl, ap, subst, List, [], ◌∷◌, map, drop, length, Option, Some, None, unsigned_abs, Ok, Err, arith}
use Rattle.std.specs.Option.{option_or}
use Rattle.std.proofs.lemmas.Grind.{common_steps}
use Rattle.std.proofs.lemmas.Bool.Decides.{nat_tests}
use Rattle.cg_base.specs.declared.Mode.{Mode}
use Rattle.cg_base.specs.Modes.{bits_of}
use Rattle.cg_model.specs.Checked.{Checked, checked_step, Choice, Verdict, and_then, checked, mode_in, judged_value, each_value, verdict_of, is_arm, last_loose, last_verdict, leading_choice, arm_choice, asked_where, all_but_last, value_turn, choice_turn, each_choice, choices, arms, ends_with_else, meets, fits, no_shape}
use Rattle.cg_model.specs.Pure.{Around, pure_meaning, pure_gives, pure_steps}
use Rattle.cg_model.specs.Values.{Meaning, meaning, meaning_step, test_gives, at_once, mode_at, mode_or_void, cond_gives, case_gives, arm_gives, arm_operand, arms_lead, in_order_gives, is_named}
use Rattle.cg_model.specs.declared.machine.Machine.{Machine}
use Rattle.cg_model.specs.declared.rtl.Op.{Op}
use Rattle.cg_model.specs.declared.rtl.Op.TheVariants as op
use Rattle.cg_model.specs.declared.rtl.Rtl.{Rtl, out-Rtl}
use Rattle.cg_model.specs.declared.rtl.Rtl.TheFolds.{fold_out-Rtl}
use Rattle.cg_model.proofs.Meanings.{pure_out, pure_checked, pure_said, said_is}
use Rattle.cg_modes.proofs.Laws.{verdict_out}
use Rattle.cg_modes.proofs.Arms.{front_arm, front_other}
use Rattle.cg_model_pure_eval.specs.Typed.{Answer}
use Rattle.cg_model_pure_eval.specs.Typing.{paired, moded, bound, typed}
use Rattle.cg_model_pure_eval.specs.Parting.{value_typed}
use Rattle.cg_model_pure_eval.specs.Choosing.{is_else, arm_taken, first_typed, test_typed, first_held, cond_typed, first_named, named_typed, case_typed, last_typed, arm_typed, at_typed}
use Rattle.cg_model_pure_eval.specs.declared.typed.Typed.{Typed}
use Rattle.cg_model_pure_eval.proofs.Typings.{after_value, typed_at, off}
use Rattle.cg_model_pure_eval.proofs.Parts.{value_is}
use Rattle.cg_model_pure_eval.proofs.Branches.{IsFine, HasBitsOf, IsTaken, taken_value, fine_taken, no_fault, chosen_is, settled, met_bits, fits_bits, loose_fits}

-- An arm by itself.
last_law : (m : Machine) (a : Around) (want : Option Mode) (xs : List Rtl) → paired (last_verdict [] want (map (checked m) xs)) (in_order_gives at_once [] want (map (pure_meaning m a) xs)) ≡ last_typed m a want xs
unfolding typed
last_law m a want [] = refl
last_law m a want (x ∷ []) = refl
last_law m a want (x ∷ y ∷ ys) = last_law m a want (y ∷ ys)

drop_map : {A B : Type 0} (f : A → B) (n : ℕ) (xs : List A) → drop n (map f xs) ≡ map f (drop n xs)
drop_map f zero xs = refl
drop_map f (suc n) [] = refl
drop_map f (suc n) (x ∷ xs) = drop_map f n xs

pub arm_law : (m : Machine) (a : Around) (r : Rtl) (want : Option Mode) → (out-Rtl r).op ≡ op.Arm → typed m a r want ≡ arm_typed m a r want
unfolding arm_typed
arm_law m a r want o =
    let n : ℕ = unsigned_abs (out-Rtl r).number in
    typed_at m a r want op.Arm o
    ∙ ap (λ cs. paired (last_verdict [] want cs) (in_order_gives at_once [] want (drop n (map (pure_meaning m a) (out-Rtl r).items)))) (drop_map (checked m) n (out-Rtl r).items)
    ∙ ap (λ cs. paired (last_verdict [] want (map (checked m) (drop n (out-Rtl r).items))) (in_order_gives at_once [] want cs)) (drop_map (pure_meaning m a) n (out-Rtl r).items)
    ∙ last_law m a want (drop n (out-Rtl r).items)

at_zero : (0 == 0) ≡ true
at_zero = grind (arith, nat_tests)

at_more : (k : ℕ) → (suc k == 0) ≡ false
at_more k = grind (arith, nat_tests)

less_one : (k : ℕ) → suc k - 1 ≡ k
less_one k = omega arith

at_last : (m : Machine) (a : Around) (want : Option Mode) (xs : List Rtl) (k : ℕ) → k + 1 ≡ length xs → at_typed m a want k xs ≡ last_typed m a want xs
unfolding at_typed
at_last m a want [] k h = absurd (omega arith)
at_last m a want (x ∷ []) zero h = ap (λ b. if b then typed m a x want else at_typed m a want (0 - 1) []) at_zero
at_last m a want (x ∷ []) (suc k) h = absurd (omega arith)
at_last m a want (x ∷ y ∷ ys) zero h = absurd (omega arith)
at_last m a want (x ∷ y ∷ ys) (suc k) h = ap (λ b. if b then typed m a x want else at_typed m a want (suc k - 1) (y ∷ ys)) (at_more k) ∙ ap (λ j. at_typed m a want j (y ∷ ys)) (less_one k) ∙ at_last m a want (y ∷ ys) k (omega arith)

last_whole : (m : Machine) (a : Around) (want : Option Mode) (n : ℕ) (xs : List Rtl) → n < length xs → last_typed m a want (drop n xs) ≡ last_typed m a want xs
last_whole m a want zero xs h = refl
last_whole m a want (suc n) [] h = absurd (omega arith)
last_whole m a want (suc n) (x ∷ []) h = absurd (omega arith)
last_whole m a want (suc n) (x ∷ y ∷ ys) h = last_whole m a want n (y ∷ ys) (omega arith)

pub arm_there : (m : Machine) (a : Around) (r : Rtl) (want : Option Mode) (k : ℕ) → (out-Rtl r).op ≡ op.Arm → unsigned_abs (out-Rtl r).number < length (out-Rtl r).items → k + 1 ≡ length (out-Rtl r).items → typed m a r want ≡ at_typed m a want k (out-Rtl r).items
unfolding arm_typed
arm_there m a r want k o h j = arm_law m a r want o ∙ last_whole m a want (unsigned_abs (out-Rtl r).number) (out-Rtl r).items h ∙ sym (at_last m a want (out-Rtl r).items k j)

none_from : {A : Type 0} (n : ℕ) (xs : List A) → length xs ≤ n → drop n xs ≡ []
none_from n xs h = grind (arith, common_steps)

pub arm_none : (m : Machine) (a : Around) (r : Rtl) (want : Option Mode) → (out-Rtl r).op ≡ op.Arm → length (out-Rtl r).items ≤ unsigned_abs (out-Rtl r).number → typed m a r want ≡ Err no_shape
unfolding arm_typed
arm_none m a r want o h = arm_law m a r want o ∙ ap (last_typed m a want) (none_from (unsigned_abs (out-Rtl r).number) (out-Rtl r).items h)

-- What an arm needs where a mode leads: its value is as wide, and so it has a test where it isn't `else`.
abbrev IsTestedBy : Machine → List Rtl → Type 0
IsTestedBy m [] = ⊥
IsTestedBy m (x ∷ xs) = IsFine (judged_value [] (checked m x))

record IsReady (m : Machine) (tested : Bool) (mode : Mode) (want : Option Mode) (arm : Rtl) : Type 0 where
  taken : IsTaken m (last_loose (out-Rtl arm).items) mode want arm
  test : tested ≡ true → is_else arm ≡ false → IsTestedBy m (out-Rtl arm).items

abbrev AreReady : Machine → Bool → Mode → Option Mode → List Rtl → Type 0
AreReady m tested mode want [] = Unit {0}
AreReady m tested mode want (x ∷ xs) = IsReady m tested mode want x × AreReady m tested mode want xs

both_fine : (b v : Verdict) → IsFine (and_then b (λ k. v)) → IsFine b × IsFine v
both_fine (Ok k) v f = (tt, f)
both_fine (Err e) v f = absurd f

fine_of : (v : Verdict) (k : Mode) → v ≡ Ok k → IsFine v
fine_of v k e = subst IsFine (sym e) tt

first_of : (b v : Verdict) (mode : Mode) → and_then b (λ k. v) ≡ Ok mode → IsFine b
first_of (Ok k) v mode h = tt
first_of (Err e) v mode h = absurd (no_fault e mode h)

-- Where arms have a mode together, it is the one that leads.
walk_lead : (written : Option Mode) (lead : Verdict) (want : Option Mode) (cs : List Choice) (mode : Mode) → each_choice [] written lead want cs ≡ Ok mode → lead ≡ Ok mode
walk_lead written lead want [] mode h = h
walk_lead written lead want (c ∷ cs) mode h = walk_lead written lead want cs mode (chosen_is (choice_turn [] written lead want c) (each_choice [] written lead want cs) mode h)

-- An arm's last expression.
last_fits : (m : Machine) (mode : Mode) (xs : List Rtl) → last_loose xs ≡ true → IsFine (last_verdict [] (Some mode) (map (checked m) xs)) → HasBitsOf (last_verdict [] (Some mode) (map (checked m) xs)) mode
last_fits m mode [] e f = absurd f
last_fits m mode (x ∷ []) e f =
    let is : (checked m x).verdict [] (Some mode) ≡ fits mode (out-Rtl x).number = loose_fits m x mode e in
    subst (λ v. HasBitsOf v mode) (sym is) (fits_bits mode (out-Rtl x).number (subst IsFine is f))
last_fits m mode (x ∷ y ∷ ys) e f = last_fits m mode (y ∷ ys) e f

loose_from : (n : ℕ) (xs : List Rtl) → last_loose xs ≡ true → (last_loose (drop n xs) ≡ true) ⊎ (drop n xs ≡ [])
loose_from zero xs e = inl e
loose_from (suc n) [] e = inr refl
loose_from (suc zero) (x ∷ []) e = inr refl
loose_from (suc (suc n)) (x ∷ []) e = inr refl
loose_from (suc n) (x ∷ y ∷ ys) e = loose_from n (y ∷ ys) e

last_from : (m : Machine) (mode : Mode) (n : ℕ) (xs : List Rtl) → last_loose xs ≡ true → IsFine (last_verdict [] (Some mode) (map (checked m) (drop n xs))) → HasBitsOf (last_verdict [] (Some mode) (map (checked m) (drop n xs))) mode
last_from m mode n xs e f = elim (loose_from n xs e) [
  | inl some ↦ last_fits m mode (drop n xs) some f
  | inr none ↦ absurd (subst (λ ys. IsFine (last_verdict [] (Some mode) (map (checked m) ys))) none f)
]

arm_is : (o : Op) → is_arm o ≡ true → o ≡ op.Arm
arm_is op.Arm e = refl
arm_is op.Number e = absurd (off e)
arm_is op.Local e = absurd (off e)
arm_is op.OperandRef e = absurd (off e)
arm_is op.Value e = absurd (off e)
arm_is op.Index e = absurd (off e)
arm_is op.NewVal e = absurd (off e)
arm_is op.Pc e = absurd (off e)
arm_is op.FieldRef e = absurd (off e)
arm_is op.MultiRef e = absurd (off e)
arm_is op.IndexOf e = absurd (off e)
arm_is op.Unary e = absurd (off e)
arm_is op.Binary e = absurd (off e)
arm_is op.Ternary e = absurd (off e)
arm_is op.AndIf e = absurd (off e)
arm_is op.OrIf e = absurd (off e)
arm_is op.Ext e = absurd (off e)
arm_is op.Zext e = absurd (off e)
arm_is op.Trunc e = absurd (off e)
arm_is op.Subword e = absurd (off e)
arm_is op.Join e = absurd (off e)
arm_is op.If e = absurd (off e)
arm_is op.Cond e = absurd (off e)
arm_is op.Case e = absurd (off e)
arm_is op.Sequence e = absurd (off e)
arm_is op.Declare e = absurd (off e)
arm_is op.Parallel e = absurd (off e)
arm_is op.Set e = absurd (off e)
arm_is op.Reg e = absurd (off e)
arm_is op.RawReg e = absurd (off e)
arm_is op.Mem e = absurd (off e)
arm_is op.Delay e = absurd (off e)
arm_is op.Nop e = absurd (off e)
arm_is op.Error e = absurd (off e)
arm_is op.Halt e = absurd (off e)

arm_verdict : (m : Machine) (r : Rtl) (want : Option Mode) → is_arm (out-Rtl r).op ≡ true → (checked m r).verdict [] want ≡ last_verdict [] want (map (checked m) (drop (unsigned_abs (out-Rtl r).number) (out-Rtl r).items))
arm_verdict m r want arm =
    verdict_out m r [] want
    ∙ ap (λ o. verdict_of m o (out-Rtl r).mode (out-Rtl r).number (map (checked m) (out-Rtl r).items) [] want) (arm_is (out-Rtl r).op arm)
    ∙ ap (last_verdict [] want) (drop_map (checked m) (unsigned_abs (out-Rtl r).number) (out-Rtl r).items)

-- What is judged in front of a value is in front of an arm's.
front_fine : (m : Machine) (r : Rtl) → IsFine ((checked m r).front []) → is_arm (out-Rtl r).op ≡ true
front_fine m r f = by (is_arm (out-Rtl r).op) refl where
  by : (b : Bool) → is_arm (out-Rtl r).op ≡ b → b ≡ true
  by true e = refl
  by false e = absurd (subst IsFine (front_other m r [] e) f)

arm_taken_fine : (m : Machine) (tested : Bool) (written want : Option Mode) (mode : Mode) (x : Rtl) → is_arm (out-Rtl x).op ≡ true → IsFine (value_turn [] written (Ok mode) want (arm_choice tested (checked m x))) → IsTaken m (last_loose (out-Rtl x).items) mode want x
arm_taken_fine m tested written want mode x arm f = by (last_loose (out-Rtl x).items) refl (subst (λ s. IsFine (if last_loose s.items then (checked m x).verdict [] (Some mode) else and_then ((checked m x).verdict [] want) (λ k. meets written mode k))) (said_is m x) f) where
  by : (b : Bool) → last_loose (out-Rtl x).items ≡ b → IsFine (if b then (checked m x).verdict [] (Some mode) else and_then ((checked m x).verdict [] want) (λ k. meets written mode k)) → HasBitsOf ((checked m x).verdict [] (if b then Some mode else want)) mode
  by true e f =
      let is = arm_verdict m x (Some mode) arm in
      subst (λ v. HasBitsOf v mode) (sym is) (last_from m mode (unsigned_abs (out-Rtl x).number) (out-Rtl x).items e (subst IsFine is f))
  by false e f = met_bits ((checked m x).verdict [] want) written mode f

asked_out : (m : Machine) (r : Rtl) → (checked m r).asked [] ≡ each_value [] (take (unsigned_abs (out-Rtl r).number) (map (checked m) (out-Rtl r).items))
unfolding checked
asked_out m r = ap (λ c. c.asked []) (fold_out-Rtl Checked (checked_step m) r)

-- An arm that has tests has a first.
none_left : (m : Machine) (c : ℕ) → IsFine (all_but_last [] (map (checked m) (drop c []))) → ⊥
none_left m zero f = f
none_left m (suc c) f = f

test_fine : (m : Machine) (n c : ℕ) (xs : List Rtl) → (n == 0) ≡ false → IsFine (each_value [] (take n (map (checked m) xs))) → IsFine (all_but_last [] (map (checked m) (drop c xs))) → IsTestedBy m xs
test_fine m n c [] e f g = none_left m c g
test_fine m zero c (x ∷ xs) e f g = absurd (off (sym e))
test_fine m (suc n) c (x ∷ xs) e f g = (both_fine (judged_value [] (checked m x)) (each_value [] (take n (map (checked m) xs))) f).0

arm_tested : (m : Machine) (x : Rtl) → is_else x ≡ false → IsFine ((checked m x).asked []) → IsFine ((checked m x).front []) → IsTestedBy m (out-Rtl x).items
arm_tested m x e f g =
    let n : ℕ = unsigned_abs (out-Rtl x).number in
    let c : ℕ = min n (length (out-Rtl x).items) in
    test_fine m n c (out-Rtl x).items e (subst IsFine (asked_out m x) f) (subst IsFine (front_arm m x [] c refl (front_fine m x g)) g)

arms_ready : (m : Machine) (tested : Bool) (written want : Option Mode) (mode : Mode) (xs : List Rtl) → each_choice [] written (Ok mode) want (map (arm_choice tested) (map (checked m) xs)) ≡ Ok mode → AreReady m tested mode want xs
arms_ready m tested written want mode [] h = tt
arms_ready m tested written want mode (x ∷ xs) h =
    let c : Choice = arm_choice tested (checked m x) in
    let rest : Verdict = each_choice [] written (Ok mode) want (map (arm_choice tested) (map (checked m) xs)) in
    let turn : IsFine (choice_turn [] written (Ok mode) want c) = first_of (choice_turn [] written (Ok mode) want c) rest mode h in
    let both = both_fine (c.before []) (value_turn [] written (Ok mode) want c) turn in
    let before = both_fine (asked_where tested (checked m x) []) ((checked m x).front []) both.0 in
    let arm = front_fine m x before.1 in (
      record {
        taken = arm_taken_fine m tested written want mode x arm both.1;
        test = λ t e. arm_tested m x e (subst (λ b. IsFine (asked_where b (checked m x) [])) t before.0) before.1;
      },
      arms_ready m tested written want mode xs (chosen_is (choice_turn [] written (Ok mode) want c) rest mode h),
    )

chosen_lead : (m : Machine) (tested : Bool) (written want : Option Mode) (mode : Mode) (xs : List Rtl) → choices m [] written want (map (arm_choice tested) (map (checked m) xs)) ≡ Ok mode → leading_choice m [] written want (map (arm_choice tested) (map (checked m) xs)) ≡ Ok mode
chosen_lead m tested written want mode xs h = walk_lead written (leading_choice m [] written want (map (arm_choice tested) (map (checked m) xs))) (option_or written want) (map (arm_choice tested) (map (checked m) xs)) mode h

chosen_ready : (m : Machine) (tested : Bool) (written want : Option Mode) (mode : Mode) (xs : List Rtl) → choices m [] written want (map (arm_choice tested) (map (checked m) xs)) ≡ Ok mode → AreReady m tested mode (option_or written want) xs
chosen_ready m tested written want mode xs h =
    arms_ready m tested written (option_or written want) mode xs
    (subst (λ l. each_choice [] written l (option_or written want) (map (arm_choice tested) (map (checked m) xs)) ≡ Ok mode) (chosen_lead m tested written want mode xs h) h)

-- Arms mean what they are judged as.
all_alike : (m : Machine) (a : Around) (tested : Bool) (xs : List Rtl) → map (λ (x : Meaning ℕ). arm_choice tested x.checked) (map (pure_meaning m a) xs) ≡ map (arm_choice tested) (map (checked m) xs)
all_alike m a tested [] = refl
all_alike m a tested (x ∷ xs) = rw (pure_checked m a x) (ap (λ ys. arm_choice tested (checked m x) ∷ ys) (all_alike m a tested xs))

said_alike : (m : Machine) (a : Around) (xs : List Rtl) → map (λ (x : Meaning ℕ). x.checked.said) (map (pure_meaning m a) xs) ≡ map out-Rtl xs
said_alike m a [] = refl
said_alike m a (x ∷ xs) = rw (pure_said m a x) (ap (λ ys. out-Rtl x ∷ ys) (said_alike m a xs))

all_said : (m : Machine) (xs : List Rtl) → map (λ (x : Checked). x.said) (map (checked m) xs) ≡ map out-Rtl xs
all_said m [] = refl
all_said m (x ∷ xs) = rw (said_is m x) (ap (λ ys. out-Rtl x ∷ ys) (all_said m xs))

-- What the arm that is taken gives.
taken_arm : (m : Machine) (a : Around) (tested : Bool) (written want : Option Mode) (mode : Mode) (xs : List Rtl) (x : Rtl) → ends_with_else (map out-Rtl xs) ≡ true → leading_choice m [] written want (map (arm_choice tested) (map (checked m) xs)) ≡ Ok mode
    → arm_gives m at_once tested written (map (pure_meaning m a) xs) [] want (pure_meaning m a x) ≡ taken_value m a (last_loose (out-Rtl x).items) mode (option_or written want) x
taken_arm m a tested written want mode xs x e lead =
    let w : Option Mode = option_or written want in
    let arms : List (Meaning ℕ) = map (pure_meaning m a) xs in
    ap (λ b. if b then arm_operand [] (arms_lead m [] tested written want arms) w (pure_meaning m a x) else 0) (ap ends_with_else (said_alike m a xs) ∙ e)
    ∙ ap (λ j. arm_operand [] j w (pure_meaning m a x)) (ap mode_or_void (ap (leading_choice m [] written want) (all_alike m a tested xs) ∙ lead))
    ∙ ap (λ s. (pure_meaning m a x).gives [] (if last_loose s.items then Some mode else w)) (pure_said m a x)

dropped_arm : (m : Machine) (a : Around) (tested : Bool) (written want : Option Mode) (xs : List Rtl) (x : Meaning ℕ) → ends_with_else (map out-Rtl xs) ≡ false → arm_gives m at_once tested written (map (pure_meaning m a) xs) [] want x ≡ 0
dropped_arm m a tested written want xs x e =
    ap (λ b. if b then arm_operand [] (arms_lead m [] tested written want (map (pure_meaning m a) xs)) (option_or written want) x else 0) (ap ends_with_else (said_alike m a xs) ∙ e)

nothing_of : (b c : Bool) (n k : ℕ) → n ≡ 0 → k ≡ 0 → ◌≡◌ {A = ℕ} (if b then n else if c then k else n) 0
nothing_of true c n k e f = e
nothing_of false true n k e f = f
nothing_of false false n k e f = e

nothing_named : (b c : Bool) (n k : ℕ) → n ≡ 0 → k ≡ 0 → ◌≡◌ {A = ℕ} (if b then n else if c then n else k) 0
nothing_named true c n k e f = e
nothing_named false true n k e f = e
nothing_named false false n k e f = f

cond_nothing : (f : Meaning ℕ → ℕ) (xs : List (Meaning ℕ)) → ((x : Meaning ℕ) → f x ≡ 0) → cond_gives at_once f [] xs ≡ 0
cond_nothing f [] h = refl
cond_nothing f (x ∷ xs) h = nothing_of (unsigned_abs x.checked.said.number == 0) (x.test [] == 0) (f x) (cond_gives at_once f [] xs) (h x) (cond_nothing f xs h)

case_nothing : (f : Meaning ℕ → ℕ) (bits n : ℕ) (xs : List (Meaning ℕ)) → ((x : Meaning ℕ) → f x ≡ 0) → case_gives at_once f bits n xs ≡ 0
case_nothing f bits n [] h = refl
case_nothing f bits n (x ∷ xs) h = nothing_named (unsigned_abs x.checked.said.number == 0) (is_named x.checked.said bits n) (f x) (case_gives at_once f bits n xs) (h x) (case_nothing f bits n xs h)

test_out : (m : Machine) (a : Around) (r : Rtl) → (pure_meaning m a r).test [] ≡ test_gives at_once (map (pure_meaning m a) (out-Rtl r).items) []
unfolding pure_meaning meaning
test_out m a r = ap (λ c. c.test []) (fold_out-Rtl (Meaning ℕ) (meaning_step m at_once (pure_steps m a)) r)

fine_value : (v : Verdict) (n : ℕ) (g : Typed → Answer) (h : ℕ → Answer) → IsFine v → ((t : Typed) → g t ≡ h t.value) → bound (paired v n) g ≡ h n
fine_value (Ok k) n g h f e = e (record { mode = k; value = n })
fine_value (Err x) n g h f e = absurd f

tested_by : (m : Machine) (a : Around) (items : List Rtl) (g : Typed → Answer) (h : ℕ → Answer) → IsTestedBy m items → ((t : Typed) → g t ≡ h t.value) → bound (first_typed m a items) g ≡ h (test_gives at_once (map (pure_meaning m a) items) [])
unfolding value_typed
tested_by m a [] g h f e = absurd f
tested_by m a (x ∷ xs) g h f e = fine_value (judged_value [] (checked m x)) ((pure_meaning m a x).gives [] None) g h f e

-- The arm that is taken of those of a `cond`.
held_step : (m : Machine) (a : Around) (mode : Mode) (want : Option Mode) (x : Rtl) (n k : ℕ) (rest : Answer) (b : Bool) → is_else x ≡ b → IsReady m true mode want x → n ≡ taken_value m a (last_loose (out-Rtl x).items) mode want x → Ok (record { mode = mode; value = k }) ≡ rest
    → Ok (record { mode = mode; value = if b then n else if test_gives at_once (map (pure_meaning m a) (out-Rtl x).items) [] == 0 then k else n })
    ≡ (if b then arm_taken m a mode want x else bound (test_typed m a x) (λ t. if t.value == 0 then rest else arm_taken m a mode want x))
unfolding test_typed
held_step m a mode want x n k rest true e ready is more = ap (λ v. Ok (record { mode = mode; value = v })) is ∙ sym (fine_taken m a (last_loose (out-Rtl x).items) mode want x ready.taken)
held_step m a mode want x n k rest false e ready is more =
    let t : ℕ = test_gives at_once (map (pure_meaning m a) (out-Rtl x).items) [] in
    either (t == 0) ∙ sym (tested_by m a (out-Rtl x).items (λ t. if t.value == 0 then rest else arm_taken m a mode want x) (λ v. if v == 0 then rest else arm_taken m a mode want x) (ready.test refl e) (λ t. refl)) where
      either : (b : Bool) → Ok (record { mode = mode; value = if b then k else n }) ≡ (if b then rest else arm_taken m a mode want x)
      either true = more
      either false = ap (λ v. Ok (record { mode = mode; value = v })) is ∙ sym (fine_taken m a (last_loose (out-Rtl x).items) mode want x ready.taken)

held_arms : (m : Machine) (a : Around) (mode : Mode) (want : Option Mode) (f : Meaning ℕ → ℕ) (xs : List Rtl) → AreReady m true mode want xs → ((x : Rtl) → f (pure_meaning m a x) ≡ taken_value m a (last_loose (out-Rtl x).items) mode want x)
    → Ok (record { mode = mode; value = cond_gives at_once f [] (map (pure_meaning m a) xs) }) ≡ first_held m a mode want xs
unfolding first_held
held_arms m a mode want f [] ready is = refl
held_arms m a mode want f (x ∷ xs) ready is =
    let k : ℕ = cond_gives at_once f [] (map (pure_meaning m a) xs) in
    let n : ℕ = f (pure_meaning m a x) in
    ap (λ s. Ok (record { mode = mode; value = if unsigned_abs s.number == 0 then n else if (pure_meaning m a x).test [] == 0 then k else n })) (pure_said m a x)
    ∙ ap (λ t. Ok (record { mode = mode; value = if is_else x then n else if t == 0 then k else n })) (test_out m a x)
    ∙ held_step m a mode want x n k (first_held m a mode want xs) (is_else x) refl ready.0 (is x) (held_arms m a mode want f xs ready.1 is)

-- And of those of a `case`.
named_step : (m : Machine) (a : Around) (mode : Mode) (want : Option Mode) (x : Rtl) (n k : ℕ) (rest : Answer) (b c : Bool) → IsReady m false mode want x → n ≡ taken_value m a (last_loose (out-Rtl x).items) mode want x → Ok (record { mode = mode; value = k }) ≡ rest
    → Ok (record { mode = mode; value = if b then n else if c then n else k }) ≡ (if b then arm_taken m a mode want x else if c then arm_taken m a mode want x else rest)
named_step m a mode want x n k rest true c ready is more = ap (λ v. Ok (record { mode = mode; value = v })) is ∙ sym (fine_taken m a (last_loose (out-Rtl x).items) mode want x ready.taken)
named_step m a mode want x n k rest false true ready is more = ap (λ v. Ok (record { mode = mode; value = v })) is ∙ sym (fine_taken m a (last_loose (out-Rtl x).items) mode want x ready.taken)
named_step m a mode want x n k rest false false ready is more = more

named_arms : (m : Machine) (a : Around) (bits v : ℕ) (mode : Mode) (want : Option Mode) (f : Meaning ℕ → ℕ) (xs : List Rtl) → AreReady m false mode want xs → ((x : Rtl) → f (pure_meaning m a x) ≡ taken_value m a (last_loose (out-Rtl x).items) mode want x)
    → Ok (record { mode = mode; value = case_gives at_once f bits v (map (pure_meaning m a) xs) }) ≡ first_named m a bits v mode want xs
unfolding first_named
named_arms m a bits v mode want f [] ready is = refl
named_arms m a bits v mode want f (x ∷ xs) ready is =
    let k : ℕ = case_gives at_once f bits v (map (pure_meaning m a) xs) in
    let n : ℕ = f (pure_meaning m a x) in
    ap (λ s. Ok (record { mode = mode; value = if unsigned_abs s.number == 0 then n else if is_named s bits v then n else k })) (pure_said m a x)
    ∙ named_step m a mode want x n k (first_named m a bits v mode want xs) (is_else x) (is_named (out-Rtl x) bits v) ready.0 (is x) (named_arms m a bits v mode want f xs ready.1 is)

arms_end : (m : Machine) (tested : Bool) (written want : Option Mode) (xs : List Rtl) (mode : Mode) → ends_with_else (map out-Rtl xs) ≡ true → arms m [] (ends_with_else (map (λ (x : Checked). x.said) (map (checked m) xs))) written want (map (arm_choice tested) (map (checked m) xs)) ≡ Ok mode
    → choices m [] written want (map (arm_choice tested) (map (checked m) xs)) ≡ Ok mode
arms_end m tested written want xs mode e h = subst (λ b. arms m [] b written want (map (arm_choice tested) (map (checked m) xs)) ≡ Ok mode) (ap ends_with_else (all_said m xs) ∙ e) h

cond_by : (m : Machine) (a : Around) (written want : Option Mode) (xs : List Rtl) (mode : Mode) (b : Bool) → ends_with_else (map out-Rtl xs) ≡ b → arms m [] (ends_with_else (map (λ (x : Checked). x.said) (map (checked m) xs))) written want (map (arm_choice true) (map (checked m) xs)) ≡ Ok mode
    → Ok (record { mode = mode; value = cond_gives at_once (arm_gives m at_once true written (map (pure_meaning m a) xs) [] want) [] (map (pure_meaning m a) xs) })
    ≡ (if b then first_held m a mode (option_or written want) xs else Ok (record { mode = mode; value = 0 }))
cond_by m a written want xs mode true e h =
    let f : Meaning ℕ → ℕ = arm_gives m at_once true written (map (pure_meaning m a) xs) [] want in
    let c = arms_end m true written want xs mode e h in
    held_arms m a mode (option_or written want) f xs (chosen_ready m true written want mode xs c) (λ x. taken_arm m a true written want mode xs x e (chosen_lead m true written want mode xs c))
cond_by m a written want xs mode false e h =
    ap (λ v. Ok (record { mode = mode; value = v })) (cond_nothing (arm_gives m at_once true written (map (pure_meaning m a) xs) [] want) (map (pure_meaning m a) xs) (λ x. dropped_arm m a true written want xs x e))

pub cond_law : (m : Machine) (a : Around) (r : Rtl) (want : Option Mode) → (out-Rtl r).op ≡ op.Cond → typed m a r want ≡ cond_typed m a r want (out-Rtl r).items
unfolding typed cond_typed
cond_law m a r want o =
    let w : Option Mode = (out-Rtl r).mode in
    let xs : List Rtl = (out-Rtl r).items in
    let n : ℕ = cond_gives at_once (arm_gives m at_once true w (map (pure_meaning m a) xs) [] want) [] (map (pure_meaning m a) xs) in
    let is : mode_in m r [] want ≡ verdict_of m op.Cond w (out-Rtl r).number (map (checked m) xs) [] want = verdict_out m r [] want ∙ ap (λ p. verdict_of m p w (out-Rtl r).number (map (checked m) xs) [] want) o in
    ap (paired (mode_in m r [] want)) (pure_out m a r [] want ∙ ap (λ p. pure_gives m a p w (out-Rtl r).number (map (pure_meaning m a) xs) [] want) o)
    ∙ settled (mode_in m r [] want) n (λ mode. if ends_with_else (map out-Rtl xs) then first_held m a mode (option_or w want) xs else Ok (record { mode = mode; value = 0 })) (λ mode em.
    cond_by m a w want xs mode (ends_with_else (map out-Rtl xs)) refl (sym is ∙ em))

case_by : (m : Machine) (a : Around) (written want : Option Mode) (bits n : ℕ) (xs : List Rtl) (mode : Mode) (b : Bool) → ends_with_else (map out-Rtl xs) ≡ b → arms m [] (ends_with_else (map (λ (x : Checked). x.said) (map (checked m) xs))) written want (map (arm_choice false) (map (checked m) xs)) ≡ Ok mode
    → Ok (record { mode = mode; value = case_gives at_once (arm_gives m at_once false written (map (pure_meaning m a) xs) [] want) bits n (map (pure_meaning m a) xs) })
    ≡ (if b then first_named m a bits n mode (option_or written want) xs else Ok (record { mode = mode; value = 0 }))
case_by m a written want bits n xs mode true e h =
    let f : Meaning ℕ → ℕ = arm_gives m at_once false written (map (pure_meaning m a) xs) [] want in
    let c = arms_end m false written want xs mode e h in
    named_arms m a bits n mode (option_or written want) f xs (chosen_ready m false written want mode xs c) (λ x. taken_arm m a false written want mode xs x e (chosen_lead m false written want mode xs c))
case_by m a written want bits n xs mode false e h =
    ap (λ v. Ok (record { mode = mode; value = v })) (case_nothing (arm_gives m at_once false written (map (pure_meaning m a) xs) [] want) bits n (map (pure_meaning m a) xs) (λ x. dropped_arm m a false written want xs x e))

case_out : (m : Machine) (r : Rtl) (want : Option Mode) (x : Rtl) (xs : List Rtl) → (out-Rtl r).op ≡ op.Case → (out-Rtl r).items ≡ x ∷ xs →
    mode_in m r [] want ≡ and_then (judged_value [] (checked m x)) (λ k. arms m [] (ends_with_else (map (λ (y : Checked). y.said) (map (checked m) xs))) (out-Rtl r).mode want (map (arm_choice false) (map (checked m) xs)))
case_out m r want x xs o e =
    verdict_out m r [] want
    ∙ ap (λ p. verdict_of m p (out-Rtl r).mode (out-Rtl r).number (map (checked m) (out-Rtl r).items) [] want) o
    ∙ ap (λ ys. verdict_of m op.Case (out-Rtl r).mode (out-Rtl r).number (map (checked m) ys) [] want) e

case_none : (m : Machine) (r : Rtl) (want : Option Mode) → (out-Rtl r).op ≡ op.Case → (out-Rtl r).items ≡ [] → mode_in m r [] want ≡ Err no_shape
case_none m r want o e =
    verdict_out m r [] want
    ∙ ap (λ p. verdict_of m p (out-Rtl r).mode (out-Rtl r).number (map (checked m) (out-Rtl r).items) [] want) o
    ∙ ap (λ ys. verdict_of m op.Case (out-Rtl r).mode (out-Rtl r).number (map (checked m) ys) [] want) e

case_listed : (m : Machine) (a : Around) (r : Rtl) (want : Option Mode) (xs : List Rtl) → (out-Rtl r).op ≡ op.Case → (out-Rtl r).items ≡ xs → paired (mode_in m r [] want) (pure_gives m a op.Case (out-Rtl r).mode (out-Rtl r).number (map (pure_meaning m a) xs) [] want) ≡ case_typed m a r want xs
unfolding case_typed named_typed value_typed
case_listed m a r want [] o e = ap (λ v. paired v 0) (case_none m r want o e)
case_listed m a r want (x ∷ xs) o e =
    let w : Option Mode = (out-Rtl r).mode in
    let n : ℕ = (pure_meaning m a x).gives [] None in
    let v : Verdict = arms m [] (ends_with_else (map (λ (y : Checked). y.said) (map (checked m) xs))) w want (map (arm_choice false) (map (checked m) xs)) in
    let f : Meaning ℕ → ℕ = arm_gives m at_once false w (map (pure_meaning m a) xs) [] want in
    let n_all : ℕ = case_gives at_once f (bits_of (mode_at (pure_meaning m a x) [] None)) n (map (pure_meaning m a) xs) in
    let h = λ (k : Mode) (mode : Mode). if ends_with_else (map out-Rtl xs) then first_named m a (bits_of k) n mode (option_or w want) xs else Ok (record { mode = mode; value = 0 }) in
    let g = λ (t : Typed). moded (mode_in m r [] want) (λ mode. if ends_with_else (map out-Rtl xs) then first_named m a (bits_of t.mode) t.value mode (option_or w want) xs else Ok (record { mode = mode; value = 0 })) in
    ap (λ u. paired u n_all) (case_out m r want x xs o e)
    ∙ after_value (judged_value [] (checked m x)) (λ k. v) n n_all g (λ k ek.
    settled v n_all (h k) (λ mode em.
    ap (λ j. Ok (record { mode = mode; value = case_gives at_once f (bits_of j) n (map (pure_meaning m a) xs) })) (value_is m a x k ek)
    ∙ case_by m a w want (bits_of k) n xs mode (ends_with_else (map out-Rtl xs)) refl em)
    ∙ ap (λ u. moded u (h k)) (sym (case_out m r want x xs o e ∙ ap (λ j. and_then j (λ i. v)) ek)))

pub case_law : (m : Machine) (a : Around) (r : Rtl) (want : Option Mode) → (out-Rtl r).op ≡ op.Case → typed m a r want ≡ case_typed m a r want (out-Rtl r).items
unfolding typed
case_law m a r want o =
    ap (paired (mode_in m r [] want)) (pure_out m a r [] want ∙ ap (λ p. pure_gives m a p (out-Rtl r).mode (out-Rtl r).number (map (pure_meaning m a) (out-Rtl r).items) [] want) o)
    ∙ case_listed m a r want (out-Rtl r).items o refl

pub ruleset arm_rules = (common_steps, arm_there, arm_none)
