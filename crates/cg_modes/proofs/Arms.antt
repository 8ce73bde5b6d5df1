-- What the arms of a `cond` or a `case` give, one by one.
use Rattle.std.proofs.Common.{◌≡◌, Some, None, Ok, Err, false, true, ◌/◌, ◌==◌, min, take, drop, unsigned_abs, ℤ, add-one, ℕ, zero, suc, ◌+◌, ◌<◌, ◌≤◌, Bool, length, get_or, arith, List, [], ◌∷◌, map, Option, refl, ap, ◌∙◌, sym, subst, if◌then◌else◌}
use Rattle.std.specs.Option.{unwrap_or}
use Rattle.std.proofs.lemmas.Grind.{common_steps}
use Rattle.std.proofs.lemmas.List.{get_or-drop, length-drop, drop_more}
use Rattle.cg_base.specs.declared.Mode.{Mode}
use Rattle.cg_base.specs.declared.Mode.TheVariants.{Void}
use Rattle.cg_base.specs.Modes.{word_mode, bits_of}
use Rattle.cg_model.specs.Checked.{Checked, Locals, Verdict, checked, checked_step, verdict_of, and_then, meets, each_value, each_part, part_turn, all_but_last, last_verdict, last_loose, is_arm, taken_by, arm_choice, ends_with_else, fault, stated, judged_value, no_shape}
use Rattle.cg_model.specs.declared.rtl.Op.TheVariants.{Arm, Cond, Case, Join}
use Rattle.cg_model.specs.declared.machine.Machine.{Machine}
use Rattle.cg_model.specs.declared.rtl.Rtl.{Rtl, out-Rtl}
use Rattle.cg_model.specs.declared.rtl.Rtl.TheFolds.{fold_out-Rtl}
use Rattle.cg_modes_leaf.specs.Firm.{firm_place}
use Rattle.cg_modes.specs.Arms.{filled, before, arm_turn, walked, valueless, led, chosen, armed}
use Rattle.cg_modes.proofs.Laws.{verdict_out, said_is, take_map, drop_map, take_min, drop_min, meets_self}

asked_out : (m : Machine) (r : Rtl) (l : Locals) → (checked m r).asked l ≡ each_value l (take (unsigned_abs (out-Rtl r).number) (map (checked m) (out-Rtl r).items))
unfolding checked
asked_out m r l = ap (λ c. c.asked l) (fold_out-Rtl Checked (checked_step m) r)

front_out : (m : Machine) (r : Rtl) (l : Locals) → (checked m r).front l ≡ (if is_arm (out-Rtl r).op then all_but_last l (drop (unsigned_abs (out-Rtl r).number) (map (checked m) (out-Rtl r).items)) else Err no_shape)
unfolding checked
front_out m r l = ap (λ c. c.front l) (fold_out-Rtl Checked (checked_step m) r)

asked_at : (m : Machine) (r : Rtl) (l : Locals) → (checked m r).asked l ≡ each_value l (map (checked m) (take (min (unsigned_abs (out-Rtl r).number) (length (out-Rtl r).items)) (out-Rtl r).items))
asked_at m r l = asked_out m r l ∙ rw (take_map (checked m) (unsigned_abs (out-Rtl r).number) (out-Rtl r).items, take_min (unsigned_abs (out-Rtl r).number) (out-Rtl r).items) refl

pub front_arm : (m : Machine) (r : Rtl) (l : Locals) (c : ℕ) → c ≡ min (unsigned_abs (out-Rtl r).number) (length (out-Rtl r).items) → is_arm (out-Rtl r).op ≡ true → (checked m r).front l ≡ all_but_last l (map (checked m) (drop c (out-Rtl r).items))
front_arm m r l c e arm =
    front_out m r l ∙ ap (λ b. if b then all_but_last l (drop (unsigned_abs (out-Rtl r).number) (map (checked m) (out-Rtl r).items)) else Err no_shape) arm
    ∙ rw (drop_map (checked m) (unsigned_abs (out-Rtl r).number) (out-Rtl r).items, drop_min (unsigned_abs (out-Rtl r).number) (out-Rtl r).items, ← e) refl

pub front_other : (m : Machine) (r : Rtl) (l : Locals) → is_arm (out-Rtl r).op ≡ false → (checked m r).front l ≡ Err no_shape
front_other m r l other = front_out m r l ∙ ap (λ b. if b then all_but_last l (drop (unsigned_abs (out-Rtl r).number) (map (checked m) (out-Rtl r).items)) else Err no_shape) other

pub before_tested : (m : Machine) (l : Locals) (r : Rtl) (c : ℕ) → c ≡ min (unsigned_abs (out-Rtl r).number) (length (out-Rtl r).items) → before m true l r ≡ and_then (each_value l (map (checked m) (take c (out-Rtl r).items))) (λ k. (checked m r).front l)
unfolding before
before_tested m l r c e = rw (asked_at m r l, ← e) refl

pub before_plain : (m : Machine) (l : Locals) (r : Rtl) → before m false l r ≡ (checked m r).front l
unfolding before
before_plain m l r = refl

-- The first expressions of an arm are its tests.
test_next : (m : Machine) (l : Locals) (xs : List Rtl) (i c : ℕ) (d : Rtl) → i < c → c ≤ length xs → each_value l (map (checked m) (drop i (take c xs))) ≡ and_then (judged_value l (checked m (get_or xs i d))) (λ k. each_value l (map (checked m) (drop (suc i) (take c xs))))
test_next m l xs i zero d h j = absurd (omega arith)
test_next m l [] i (suc c) d h j = absurd (omega arith)
test_next m l (x ∷ xs) zero (suc c) d h j = refl
test_next m l (x ∷ xs) (suc i) (suc c) d h j = test_next m l xs i c d (omega arith) (omega arith)

pub test_more : (m : Machine) (l : Locals) (xs : List Rtl) (i c : ℕ) (d : Rtl) → i < c → c ≤ length xs → each_value l (map (checked m) (drop i (take c xs))) ≡ and_then (judged_value l (checked m (get_or xs i d))) (λ k. each_value l (map (checked m) (drop (i + 1) (take c xs))))
test_more m l xs i c d h j = rw (add-one i) (test_next m l xs i c d h j)

-- All expressions but the last.
pub but_last_end : (m : Machine) (l : Locals) (xs : List Rtl) (i : ℕ) → i + 1 ≡ length xs → all_but_last l (map (checked m) (drop i xs)) ≡ Ok Void
but_last_end m l [] i h = absurd (omega arith)
but_last_end m l (x ∷ []) zero h = refl
but_last_end m l (x ∷ y ∷ ys) zero h = absurd (omega arith)
but_last_end m l (x ∷ xs) (suc i) h = but_last_end m l xs i (omega arith)

but_last_next : (m : Machine) (l : Locals) (xs : List Rtl) (i : ℕ) (d : Rtl) → i + 1 < length xs → all_but_last l (map (checked m) (drop i xs)) ≡ and_then ((checked m (get_or xs i d)).verdict l None) (λ k. all_but_last l (map (checked m) (drop (suc i) xs)))
but_last_next m l [] i d h = absurd (omega arith)
but_last_next m l (x ∷ []) zero d h = absurd (omega arith)
but_last_next m l (x ∷ y ∷ ys) zero d h = refl
but_last_next m l (x ∷ xs) (suc i) d h = but_last_next m l xs i d (omega arith)

pub but_last_more : (m : Machine) (l : Locals) (xs : List Rtl) (i : ℕ) (d : Rtl) → i + 1 < length xs → all_but_last l (map (checked m) (drop i xs)) ≡ and_then ((checked m (get_or xs i d)).verdict l None) (λ k. all_but_last l (map (checked m) (drop (i + 1) xs)))
but_last_more m l xs i d h = rw (add-one i) (but_last_next m l xs i d h)

-- The last of what is left.
last_at : (m : Machine) (l : Locals) (want : Option Mode) (xs : List Rtl) (i : ℕ) (d : Rtl) → i + 1 ≡ length xs → last_verdict l want (map (checked m) xs) ≡ (checked m (get_or xs i d)).verdict l want
last_at m l want [] i d h = absurd (omega arith)
last_at m l want (x ∷ []) zero d h = refl
last_at m l want (x ∷ []) (suc i) d h = absurd (omega arith)
last_at m l want (x ∷ y ∷ ys) zero d h = absurd (omega arith)
last_at m l want (x ∷ y ∷ ys) (suc i) d h = last_at m l want (y ∷ ys) i d (omega arith)

last_from : (m : Machine) (l : Locals) (want : Option Mode) (n : ℕ) (xs : List Rtl) (i : ℕ) (d : Rtl) → n < length xs → i + 1 ≡ length xs → last_verdict l want (map (checked m) (drop n xs)) ≡ (checked m (get_or xs i d)).verdict l want
last_from m l want zero xs i d h j = last_at m l want xs i d j
last_from m l want (suc n) [] i d h j = absurd (omega arith)
last_from m l want (suc n) (x ∷ xs) zero d h j = absurd (omega arith)
last_from m l want (suc n) (x ∷ xs) (suc i) d h j = last_from m l want n xs i d (omega arith) (omega arith)

none_from : {A : Type 0} (n : ℕ) (xs : List A) → length xs ≤ n → drop n xs ≡ []
none_from n xs h = grind (arith, common_steps)

pub arm_law : (m : Machine) (r : Rtl) (l : Locals) (want : Option Mode) (i : ℕ) (d : Rtl) → (out-Rtl r).op ≡ Arm → unsigned_abs (out-Rtl r).number < length (out-Rtl r).items → i + 1 ≡ length (out-Rtl r).items → (checked m r).verdict l want ≡ (checked m (get_or (out-Rtl r).items i d)).verdict l want
arm_law m r l want i d op h j =
    verdict_out m r l want ∙ ap (λ o. verdict_of m o (out-Rtl r).mode (out-Rtl r).number (map (checked m) (out-Rtl r).items) l want) op
    ∙ rw (drop_map (checked m) (unsigned_abs (out-Rtl r).number) (out-Rtl r).items) (last_from m l want (unsigned_abs (out-Rtl r).number) (out-Rtl r).items i d h j)

pub arm_empty : (m : Machine) (r : Rtl) (l : Locals) (want : Option Mode) → (out-Rtl r).op ≡ Arm → length (out-Rtl r).items ≤ unsigned_abs (out-Rtl r).number → (checked m r).verdict l want ≡ Err no_shape
arm_empty m r l want op h =
    verdict_out m r l want ∙ ap (λ o. verdict_of m o (out-Rtl r).mode (out-Rtl r).number (map (checked m) (out-Rtl r).items) l want) op
    ∙ rw (drop_map (checked m) (unsigned_abs (out-Rtl r).number) (out-Rtl r).items, none_from (unsigned_abs (out-Rtl r).number) (out-Rtl r).items h) refl

pub arm_turn_is : (m : Machine) (l : Locals) (written : Option Mode) (lead : Verdict) (want : Option Mode) (r : Rtl) → arm_turn m l written lead want r ≡ (if last_loose (out-Rtl r).items then taken_by l (arm_choice true (checked m r)) lead else and_then ((checked m r).verdict l want) (λ k. and_then lead (λ mode. meets written mode k)))
unfolding arm_turn
arm_turn_is m l written lead want r = rw (said_is m r) refl

turn_firm : (m : Machine) (l : Locals) (written : Option Mode) (lead : Verdict) (want : Option Mode) (r : Rtl) → last_loose (out-Rtl r).items ≡ false → (checked m r).verdict l want ≡ lead → arm_turn m l written lead want r ≡ lead
turn_firm m l written (Ok k) want r firm own = arm_turn_is m l written (Ok k) want r ∙ rw (firm, own) (meets_self written k)
turn_firm m l written (Err e) want r firm own = arm_turn_is m l written (Err e) want r ∙ rw (firm, own) refl

then_then : (a b : Verdict) (v : Verdict) → and_then (and_then a (λ k. b)) (λ k. v) ≡ and_then a (λ k. and_then b (λ j. v))
then_then (Ok k) b v = refl
then_then (Err e) b v = refl

walked_cons : (m : Machine) (l : Locals) (tested : Bool) (written : Option Mode) (lead : Verdict) (want : Option Mode) (x : Rtl) (xs : List Rtl) → walked m l tested written lead want (x ∷ xs) ≡ and_then (before m tested l x) (λ b. and_then (arm_turn m l written lead want x) (λ k. walked m l tested written lead want xs))
unfolding walked before arm_turn
walked_cons m l tested written lead want x xs =
    then_then (before m tested l x) (arm_turn m l written lead want x) (walked m l tested written lead want xs)

pub walked_more : (m : Machine) (l : Locals) (tested : Bool) (written : Option Mode) (lead : Verdict) (want : Option Mode) (xs : List Rtl) (i : ℕ) (d : Rtl) → i < length xs → walked m l tested written lead want (drop i xs) ≡ and_then (before m tested l (get_or xs i d)) (λ b. and_then (arm_turn m l written lead want (get_or xs i d)) (λ k. walked m l tested written lead want (drop (i + 1) xs)))
walked_more m l tested written lead want xs i d h = ap (walked m l tested written lead want) (drop_more xs i d h) ∙ walked_cons m l tested written lead want (get_or xs i d) (drop (i + 1) xs)

pub walked_end : (m : Machine) (l : Locals) (tested : Bool) (written : Option Mode) (lead : Verdict) (want : Option Mode) → walked m l tested written lead want [] ≡ lead
unfolding walked
walked_end m l tested written lead want = refl

valueless_cons : (m : Machine) (l : Locals) (tested : Bool) (x : Rtl) (xs : List Rtl) → valueless m l tested (x ∷ xs) ≡ and_then (before m tested l x) (λ b. and_then ((checked m x).verdict l None) (λ k. valueless m l tested xs))
unfolding valueless before
valueless_cons m l tested x xs = refl

pub valueless_more : (m : Machine) (l : Locals) (tested : Bool) (xs : List Rtl) (i : ℕ) (d : Rtl) → i < length xs → valueless m l tested (drop i xs) ≡ and_then (before m tested l (get_or xs i d)) (λ b. and_then ((checked m (get_or xs i d)).verdict l None) (λ k. valueless m l tested (drop (i + 1) xs)))
valueless_more m l tested xs i d h = ap (valueless m l tested) (drop_more xs i d h) ∙ valueless_cons m l tested (get_or xs i d) (drop (i + 1) xs)

pub valueless_end : (m : Machine) (l : Locals) (tested : Bool) → valueless m l tested [] ≡ Ok Void
unfolding valueless
valueless_end m l tested = refl

-- The first arm whose value isn't loose leads.
led_firm : (m : Machine) (l : Locals) (tested : Bool) (want : Option Mode) (x : Rtl) (xs : List Rtl) → last_loose (out-Rtl x).items ≡ false → led m l tested want (x ∷ xs) ≡ (checked m x).verdict l want
unfolding led
led_firm m l tested want x xs e = rw (said_is m x, e) refl

led_loose : (m : Machine) (l : Locals) (tested : Bool) (want : Option Mode) (x : Rtl) (xs : List Rtl) → last_loose (out-Rtl x).items ≡ true → led m l tested want (x ∷ xs) ≡ led m l tested want xs
unfolding led
led_loose m l tested want x xs e = rw (said_is m x, e) refl

led_nil : (m : Machine) (l : Locals) (tested : Bool) (want : Option Mode) → led m l tested want [] ≡ Ok (unwrap_or want (word_mode m.word_bits))
unfolding led
led_nil m l tested want = refl

place_firm : (x : Rtl) (xs : List Rtl) → last_loose (out-Rtl x).items ≡ false → firm_place (x ∷ xs) ≡ 0
place_firm x xs e = rw e refl

place_loose : (x : Rtl) (xs : List Rtl) → last_loose (out-Rtl x).items ≡ true → firm_place (x ∷ xs) ≡ suc (firm_place xs)
place_loose x xs e = rw e refl

abbrev Firm : Machine → Locals → Option Mode → List Rtl → Rtl → ℕ → Verdict → Type 0
Firm m l want xs d n v = ((checked m (get_or xs n d)).verdict l want ≡ v) × (last_loose (out-Rtl (get_or xs n d)).items ≡ false)

firm_step : (m : Machine) (l : Locals) (tested : Bool) (want : Option Mode) (x : Rtl) (xs : List Rtl) (d : Rtl) (b : Bool) → last_loose (out-Rtl x).items ≡ b → (firm_place xs < length xs → Firm m l want xs d (firm_place xs) (led m l tested want xs)) → firm_place (x ∷ xs) < length (x ∷ xs) → Firm m l want (x ∷ xs) d (firm_place (x ∷ xs)) (led m l tested want (x ∷ xs))
firm_step m l tested want x xs d true e ih h =
    let p = place_loose x xs e in
    subst (λ n. Firm m l want (x ∷ xs) d n (led m l tested want (x ∷ xs))) (sym p)
    (subst (λ v. Firm m l want xs d (firm_place xs) v) (sym (led_loose m l tested want x xs e)) (ih (omega (arith, subst (λ n. n < length (x ∷ xs)) p h))))
firm_step m l tested want x xs d false e ih h =
    subst (λ n. Firm m l want (x ∷ xs) d n (led m l tested want (x ∷ xs))) (sym (place_firm x xs e)) (sym (led_firm m l tested want x xs e), e)

firm_there : (m : Machine) (l : Locals) (tested : Bool) (want : Option Mode) (xs : List Rtl) (d : Rtl) → firm_place xs < length xs → Firm m l want xs d (firm_place xs) (led m l tested want xs)
firm_there m l tested want [] d h = absurd (omega arith)
firm_there m l tested want (x ∷ xs) d h = firm_step m l tested want x xs d (last_loose (out-Rtl x).items) refl (firm_there m l tested want xs d) h

firm_from : (m : Machine) (l : Locals) (tested : Bool) (want : Option Mode) (xs : List Rtl) (from : ℕ) (d : Rtl) → from + firm_place (drop from xs) < length xs → Firm m l want xs d (from + firm_place (drop from xs)) (led m l tested want (drop from xs))
firm_from m l tested want xs from d h =
    subst (λ y. ((checked m y).verdict l want ≡ led m l tested want (drop from xs)) × (last_loose (out-Rtl y).items ≡ false)) (get_or-drop from xs (firm_place (drop from xs)) d)
    (firm_there m l tested want (drop from xs) d (omega (arith, length-drop from xs)))

pub firm_at : (m : Machine) (l : Locals) (tested : Bool) (want : Option Mode) (xs : List Rtl) (from first : ℕ) (d : Rtl) → first ≡ from + firm_place (drop from xs) → first < length xs → Firm m l want xs d first (led m l tested want (drop from xs))
firm_at m l tested want xs from first d e h =
    subst (λ n. Firm m l want xs d n (led m l tested want (drop from xs))) (sym e) (firm_from m l tested want xs from d (subst (λ n. n < length xs) e h))

pub led_at : (m : Machine) (l : Locals) (tested : Bool) (want : Option Mode) (xs : List Rtl) (from first : ℕ) (d : Rtl) → first ≡ from + firm_place (drop from xs) → first < length xs → led m l tested want (drop from xs) ≡ (checked m (get_or xs first d)).verdict l want
led_at m l tested want xs from first d e h = sym (firm_at m l tested want xs from first d e h).0

pub kept_at : (m : Machine) (l : Locals) (tested : Bool) (want : Option Mode) (xs : List Rtl) (from first : ℕ) (d : Rtl) → first ≡ from + firm_place (drop from xs) → first < length xs → arm_turn m l None (led m l tested want (drop from xs)) want (get_or xs first d) ≡ led m l tested want (drop from xs)
kept_at m l tested want xs from first d e h =
    let f = firm_at m l tested want xs from first d e h in
    turn_firm m l None (led m l tested want (drop from xs)) want (get_or xs first d) f.1 f.0

none_step : (m : Machine) (l : Locals) (tested : Bool) (want : Option Mode) (x : Rtl) (xs : List Rtl) (b : Bool) → last_loose (out-Rtl x).items ≡ b → (length xs ≤ firm_place xs → led m l tested want xs ≡ Ok (unwrap_or want (word_mode m.word_bits))) → length (x ∷ xs) ≤ firm_place (x ∷ xs) → led m l tested want (x ∷ xs) ≡ Ok (unwrap_or want (word_mode m.word_bits))
none_step m l tested want x xs true e ih h = led_loose m l tested want x xs e ∙ ih (omega (arith, subst (λ n. length (x ∷ xs) ≤ n) (place_loose x xs e) h))
none_step m l tested want x xs false e ih h = absurd (omega (arith, subst (λ n. length (x ∷ xs) ≤ n) (place_firm x xs e) h))

none_firm : (m : Machine) (l : Locals) (tested : Bool) (want : Option Mode) (xs : List Rtl) → length xs ≤ firm_place xs → led m l tested want xs ≡ Ok (unwrap_or want (word_mode m.word_bits))
none_firm m l tested want [] h = led_nil m l tested want
none_firm m l tested want (x ∷ xs) h = none_step m l tested want x xs (last_loose (out-Rtl x).items) refl (none_firm m l tested want xs) h

pub led_none : (m : Machine) (l : Locals) (tested : Bool) (want : Option Mode) (xs : List Rtl) (from first : ℕ) → first ≡ from + firm_place (drop from xs) → from ≤ length xs → length xs ≤ first → led m l tested want (drop from xs) ≡ Ok (unwrap_or want (word_mode m.word_bits))
led_none m l tested want xs from first e j h = none_firm m l tested want (drop from xs) (omega (arith, length-drop from xs, e))

pub chosen_written : (m : Machine) (l : Locals) (tested : Bool) (k : Mode) (want : Option Mode) (xs : List Rtl) → chosen m l tested (Some k) want xs ≡ walked m l tested (Some k) (Ok k) (Some k) xs
unfolding chosen walked
chosen_written m l tested k want xs = refl

pub chosen_led : (m : Machine) (l : Locals) (tested : Bool) (want : Option Mode) (xs : List Rtl) → chosen m l tested None want xs ≡ walked m l tested None (led m l tested want xs) want xs
unfolding chosen walked led
chosen_led m l tested want xs = refl

armed_by : (m : Machine) (l : Locals) (tested : Bool) (written want : Option Mode) (xs : List Rtl) (b : Bool) → ends_with_else (map out-Rtl xs) ≡ b → armed m l tested written want xs ≡ (if b then chosen m l tested written want xs else valueless m l tested xs)
unfolding armed chosen valueless
armed_by m l tested written want xs true e = rw e refl
armed_by m l tested written want xs false e = rw e refl

pub armed_is : (m : Machine) (l : Locals) (tested : Bool) (written want : Option Mode) (xs : List Rtl) → armed m l tested written want xs ≡ (if ends_with_else (map out-Rtl xs) then chosen m l tested written want xs else valueless m l tested xs)
armed_is m l tested written want xs = armed_by m l tested written want xs (ends_with_else (map out-Rtl xs)) refl

all_said : (m : Machine) (xs : List Rtl) → map (λ x. x.said) (map (checked m) xs) ≡ map out-Rtl xs
all_said m [] = refl
all_said m (x ∷ xs) = rw (said_is m x) (ap (λ ys. out-Rtl x ∷ ys) (all_said m xs))

cond_listed : (m : Machine) (l : Locals) (written want : Option Mode) (n : ℤ) (xs : List Rtl) → verdict_of m Cond written n (map (checked m) xs) l want ≡ armed m l true written want xs
unfolding armed
cond_listed m l written want n xs = rw (all_said m xs) refl

pub cond_law : (m : Machine) (r : Rtl) (l : Locals) (want : Option Mode) → (out-Rtl r).op ≡ Cond → (checked m r).verdict l want ≡ armed m l true (out-Rtl r).mode want (out-Rtl r).items
cond_law m r l want op =
    verdict_out m r l want ∙ ap (λ o. verdict_of m o (out-Rtl r).mode (out-Rtl r).number (map (checked m) (out-Rtl r).items) l want) op
    ∙ cond_listed m l (out-Rtl r).mode want (out-Rtl r).number (out-Rtl r).items

case_listed : (m : Machine) (l : Locals) (written want : Option Mode) (n : ℤ) (xs : List Rtl) (d : Rtl) → 0 < length xs → verdict_of m Case written n (map (checked m) xs) l want ≡ and_then (judged_value l (checked m (get_or xs 0 d))) (λ k. armed m l false written want (drop 1 xs))
unfolding armed
case_listed m l written want n [] d h = absurd (omega arith)
case_listed m l written want n (x ∷ xs) d h = rw (all_said m xs) refl

pub case_law : (m : Machine) (r : Rtl) (l : Locals) (want : Option Mode) (d : Rtl) → (out-Rtl r).op ≡ Case → 0 < length (out-Rtl r).items → (checked m r).verdict l want ≡ and_then (judged_value l (checked m (get_or (out-Rtl r).items 0 d))) (λ k. armed m l false (out-Rtl r).mode want (drop 1 (out-Rtl r).items))
case_law m r l want d op h =
    verdict_out m r l want ∙ ap (λ o. verdict_of m o (out-Rtl r).mode (out-Rtl r).number (map (checked m) (out-Rtl r).items) l want) op
    ∙ case_listed m l (out-Rtl r).mode want (out-Rtl r).number (out-Rtl r).items d h

join_listed : (m : Machine) (l : Locals) (written want : Option Mode) (n : ℤ) (xs : List Rtl) (d : Rtl) → 0 < length xs → verdict_of m Join written n (map (checked m) xs) l want ≡ and_then (stated written) (λ to. and_then ((checked m (get_or xs 0 d)).verdict l None) (λ part. filled m l to part (drop 1 xs)))
unfolding filled
join_listed m l written want n [] d h = absurd (omega arith)
join_listed m l written want n (x ∷ xs) d h = refl

pub join_law : (m : Machine) (r : Rtl) (l : Locals) (want : Option Mode) (d : Rtl) → (out-Rtl r).op ≡ Join → 0 < length (out-Rtl r).items → (checked m r).verdict l want ≡ and_then (stated (out-Rtl r).mode) (λ to. and_then ((checked m (get_or (out-Rtl r).items 0 d)).verdict l None) (λ part. filled m l to part (drop 1 (out-Rtl r).items)))
join_law m r l want d op h =
    verdict_out m r l want ∙ ap (λ o. verdict_of m o (out-Rtl r).mode (out-Rtl r).number (map (checked m) (out-Rtl r).items) l want) op
    ∙ join_listed m l (out-Rtl r).mode want (out-Rtl r).number (out-Rtl r).items d h

mapped : (m : Machine) (xs : List Rtl) → length (map (checked m) xs) ≡ length xs
mapped m xs = grind (arith, common_steps)

pub filled_is : (m : Machine) (l : Locals) (to part : Mode) (xs : List Rtl) → filled m l to part xs ≡ (if bits_of to / bits_of part == length xs then and_then (each_part l part (map (checked m) xs)) (λ k. Ok to) else Err (fault 402))
unfolding filled
filled_is m l to part xs = rw (mapped m xs) refl

pub part_more : (m : Machine) (l : Locals) (part : Mode) (xs : List Rtl) (i : ℕ) (d : Rtl) → i < length xs → each_part l part (map (checked m) (drop i xs)) ≡ and_then (part_turn l part (checked m (get_or xs i d))) (λ k. each_part l part (map (checked m) (drop (i + 1) xs)))
part_more m l part xs i d h = ap (λ ys. each_part l part (map (checked m) ys)) (drop_more xs i d h)

pub ruleset join_rules = (join_law, filled_is, part_more)

pub ruleset front_rules = (front_arm, front_other, before_tested, before_plain, test_more, but_last_end, but_last_more)

pub ruleset turn_rules = (arm_law, arm_empty, arm_turn_is)

pub ruleset choice_rules = (walked_more, walked_end, led_at, led_none, kept_at, chosen_written, chosen_led)

pub ruleset arm_rules = (valueless_more, valueless_end, armed_is, cond_law, case_law)
