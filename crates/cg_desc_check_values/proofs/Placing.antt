-- What items stand in order is what each stands by its place.
use Rattle.std.proofs.Common.{◌≡◌, ℕ, zero, suc, ◌+◌, ◌<◌, ◌≤◌, Bool, true, false, ◌&&◌, ◌==◌, nat_lt, nat_le, if◌then◌else◌, List, [], ◌∷◌, length, ℤ, pos, negsuc, refl, sym, ap, ◌∙◌, arith}
use Rattle.std.specs.List.{list_all}
use Rattle.std.proofs.lemmas.Bool.{eq-eqb}
use Rattle.std.proofs.lemmas.Bool.Decides.{nat_tests}
use Rattle.cg_model.specs.Formed.{As, expression, named, declared, arm, Standing, stand_as, stand_by, are_just, are_some, are_arms, are_cases, items_stand, tests_stand}
use Rattle.cg_model.specs.declared.rtl.Op.{Op}
use Rattle.cg_model.specs.declared.rtl.Op.TheVariants as op
use Rattle.cg_desc_check_values.specs.Places.{is_below, has_items, has_arm_items, front, front_by, arms, cases, item_place, arm_item_place, each_at}

below : (a b : ℕ) → a < b → nat_lt a b ≡ true
below a b h = grind (arith, nat_tests)

not_below : (a b : ℕ) → b ≤ a → nat_lt a b ≡ false
not_below a b h = grind (arith, nat_tests)

at_most : (a b : ℕ) → a ≤ b → nat_le a b ≡ true
at_most a b h = grind (arith, nat_tests)

not_equal : (a b : ℕ) → a < b → (a == b) ≡ false
not_equal a b h = grind (arith, nat_tests)

next_below : (a b : ℕ) → nat_lt a b ≡ nat_lt (suc a) (suc b)
next_below a b = grind (arith, nat_tests)

next_at_most : (a b : ℕ) → nat_le a b ≡ nat_le (suc a) (suc b)
next_at_most a b = grind (arith, nat_tests)

swapped : (a b c : Bool) → (a && (b && c)) ≡ (b && (a && c))
swapped true true c = refl
swapped true false c = refl
swapped false true c = refl
swapped false false c = refl

and_true : (b : Bool) → (b && true) ≡ b
and_true true = refl
and_true false = refl

-- the same places, from one on
alike : (f g : ℕ → As) (j : ℕ) (xs : List Standing) → ((k : ℕ) → j ≤ k → f k ≡ g k) → each_at f j xs ≡ each_at g j xs
alike f g j [] h = refl
alike f g j (x ∷ xs) h = ap (λ p. x p && each_at f (suc j) xs) (h j (omega arith)) ∙ ap (λ b. x (g j) && b) (alike f g (suc j) xs (λ k le. h k (omega (arith, le))))

plain : (j : ℕ) (xs : List Standing) → list_all (λ x. x expression) xs ≡ each_at (λ k. expression) j xs
plain j [] = refl
plain j (x ∷ xs) = ap (λ b. x expression && b) (plain (suc j) xs)

front_past : (first : As) (c k : ℕ) → c ≤ k → front first c k ≡ expression
front_past first c k h = ap (λ b. if b then first else expression) (not_below k c h)

front_law : (first : As) (n c j : ℕ) (xs : List Standing) → c ≡ j + n → stand_as first n xs ≡ (nat_lt n (length xs) && each_at (front first c) j xs)
front_law first zero c j [] e = sym (ap (λ b. b && true) (not_below 0 0 (omega arith)))
front_law first zero c j (x ∷ xs) e =
    plain j (x ∷ xs)
    ∙ alike (λ k. expression) (front first c) j (x ∷ xs) (λ k le. sym (front_past first c k (omega (arith, e, le))))
    ∙ sym (ap (λ b. b && each_at (front first c) j (x ∷ xs)) (below 0 (suc (length xs)) (omega arith)))
front_law first (suc n) c j [] e = sym (ap (λ b. b && true) (not_below (suc n) 0 (omega arith)))
front_law first (suc n) c j (x ∷ xs) e =
    let here : first ≡ front first c j = sym (ap (λ b. if b then first else expression) (below j c (omega (arith, e)))) in
    ap (λ b. x first && b) (front_law first n c (suc j) xs (omega (arith, e)))
    ∙ swapped (x first) (nat_lt n (length xs)) (each_at (front first c) (suc j) xs)
    ∙ ap (λ b. b && (x first && each_at (front first c) (suc j) xs)) (next_below n (length xs))
    ∙ ap (λ p. nat_lt (suc n) (suc (length xs)) && (x p && each_at (front first c) (suc j) xs)) here

by_law : (first : As) (n : ℤ) (xs : List Standing) → stand_by first n xs ≡ (is_below n (length xs) && each_at (front_by first n) 0 xs)
by_law first (pos n) xs = front_law first n n 0 xs (omega arith)
by_law first (negsuc n) xs = refl

arms_law : (of_case : Bool) (c j : ℕ) (xs : List Standing) → c ≡ j + length xs → are_arms of_case xs ≡ (nat_le 1 (length xs) && each_at (arms of_case c) j xs)
arms_law of_case c j [] e = refl
arms_law of_case c j (x ∷ []) e =
    let last : (suc j == c) ≡ true = eq-eqb (suc j) c (omega (arith, e)) in
    sym (ap (λ b. b && each_at (arms of_case c) j (x ∷ [])) (at_most 1 1 (omega arith)) ∙ and_true (x (arm of_case (suc j == c))) ∙ ap (λ b. x (arm of_case b)) last)
arms_law of_case c j (x ∷ y ∷ ys) e =
    let more : (suc j == c) ≡ false = not_equal (suc j) c (omega (arith, e)) in
    let rest : are_arms of_case (y ∷ ys) ≡ (nat_le 1 (suc (length ys)) && each_at (arms of_case c) (suc j) (y ∷ ys)) = arms_law of_case c (suc j) (y ∷ ys) (omega (arith, e)) in
    ap (λ b. x (arm of_case false) && b) (rest ∙ ap (λ b. b && each_at (arms of_case c) (suc j) (y ∷ ys)) (at_most 1 (suc (length ys)) (omega arith)))
    ∙ sym (ap (λ b. b && each_at (arms of_case c) j (x ∷ y ∷ ys)) (at_most 1 (suc (suc (length ys))) (omega arith)) ∙ ap (λ b. x (arm of_case b) && each_at (arms of_case c) (suc j) (y ∷ ys)) more)

cases_from : (len k : ℕ) → 1 ≤ k → arms true len k ≡ cases len k
cases_from len zero h = absurd (omega (arith, h))
cases_from len (suc k) h = refl

cases_law : (xs : List Standing) → are_cases xs ≡ (nat_le 2 (length xs) && each_at (cases (length xs)) 0 xs)
cases_law [] = refl
cases_law (x ∷ xs) =
    let len : ℕ = suc (length xs) in
    ap (λ b. x expression && b) (arms_law true len 1 xs (omega arith) ∙ ap (λ b. nat_le 1 (length xs) && b) (alike (arms true len) (cases len) 1 xs (cases_from len)))
    ∙ swapped (x expression) (nat_le 1 (length xs)) (each_at (cases len) 1 xs)
    ∙ ap (λ b. b && (x expression && each_at (cases len) 1 xs)) (next_at_most 1 (length xs))

just : (n : ℕ) (xs : List Standing) → are_just n xs ≡ (length xs == n && each_at (λ k. expression) 0 xs)
just n xs = ap (λ b. length xs == n && b) (plain 0 xs)

some : (n : ℕ) (xs : List Standing) → are_some n xs ≡ (nat_le n (length xs) && each_at (λ k. expression) 0 xs)
some n xs = ap (λ b. nat_le n (length xs) && b) (plain 0 xs)

turned : (a b c : Bool) → ((a && b) && c) ≡ ((a && c) && b)
turned true true true = refl
turned true true false = refl
turned true false true = refl
turned true false false = refl
turned false b c = refl

few : (xs : List Standing) → (are_some 0 xs && nat_le (length xs) 1) ≡ (nat_le (length xs) 1 && each_at (λ k. expression) 0 xs)
few xs =
    ap (λ b. b && nat_le (length xs) 1) (some 0 xs)
    ∙ turned (nat_le 0 (length xs)) (each_at (λ k. expression) 0 xs) (nat_le (length xs) 1)
    ∙ ap (λ b. (b && nat_le (length xs) 1) && each_at (λ k. expression) 0 xs) (at_most 0 (length xs) (omega arith))

two_or_three : (xs : List Standing) → (are_some 2 xs && nat_le (length xs) 3) ≡ ((nat_le 2 (length xs) && nat_le (length xs) 3) && each_at (λ k. expression) 0 xs)
two_or_three xs = ap (λ b. b && nat_le (length xs) 3) (some 2 xs) ∙ turned (nat_le 2 (length xs)) (each_at (λ k. expression) 0 xs) (nat_le (length xs) 3)

-- the items of an expression that is no arm
pub items_law : (o : Op) (n : ℤ) (xs : List Standing) → items_stand o n xs ≡ (has_items o n (length xs) && each_at (item_place o n (length xs)) 0 xs)
unfolding items_stand
items_law op.AndIf n xs = some 2 xs
items_law op.OrIf n xs = some 2 xs
items_law op.Join n xs = front_law declared 1 1 0 xs (omega arith)
items_law op.If n xs = two_or_three xs
items_law op.Cond n xs = arms_law false (length xs) 0 xs (omega arith)
items_law op.Case n xs = cases_law xs
items_law op.Sequence n xs = by_law declared n xs
items_law op.Parallel n xs = some 1 xs
items_law op.Reg n xs = few xs
items_law op.RawReg n xs = few xs
items_law op.Unary n xs = just 1 xs
items_law op.Binary n xs = just 2 xs
items_law op.Ternary n xs = just 3 xs
items_law op.Ext n xs = just 1 xs
items_law op.Zext n xs = just 1 xs
items_law op.Trunc n xs = just 1 xs
items_law op.Subword n xs = just 1 xs
items_law op.Set n xs = just 2 xs
items_law op.Mem n xs = just 1 xs
items_law op.Delay n xs = just 1 xs
items_law op.Halt n xs = just 1 xs
items_law o n xs = just 0 xs

no_front : (n k : ℕ) → front expression n k ≡ expression
no_front n k = either (nat_lt k n) where
  either : (b : Bool) → (if b then expression else expression) ≡ expression
  either true = refl
  either false = refl

of_expressions : (n : ℕ) (xs : List Standing) → stand_as expression n xs ≡ (nat_lt n (length xs) && each_at (λ k. expression) 0 xs)
of_expressions n xs = front_law expression n n 0 xs (omega arith) ∙ ap (λ b. nat_lt n (length xs) && b) (alike (front expression n) (λ k. expression) 0 xs (λ k le. no_front n k))

-- those of an arm
pub tests_law : (of_case last : Bool) (n : ℤ) (xs : List Standing) → tests_stand of_case last n xs ≡ (has_arm_items of_case last n (length xs) && each_at (arm_item_place of_case n) 0 xs)
tests_law true true (pos zero) xs = of_expressions 0 xs ∙ ap (λ b. nat_lt 0 (length xs) && b) (alike (λ k. expression) (front named 0) 0 xs (λ k le. sym (front_past named 0 k (omega arith))))
tests_law false true (pos zero) xs = of_expressions 0 xs
tests_law true false (pos zero) xs = refl
tests_law false false (pos zero) xs = refl
tests_law true true (pos (suc n)) xs = front_law named (suc n) (suc n) 0 xs (omega arith)
tests_law true false (pos (suc n)) xs = front_law named (suc n) (suc n) 0 xs (omega arith)
tests_law false true (pos (suc zero)) xs = of_expressions 1 xs
tests_law false false (pos (suc zero)) xs = of_expressions 1 xs
tests_law false true (pos (suc (suc n))) xs = refl
tests_law false false (pos (suc (suc n))) xs = refl
tests_law true true (negsuc n) xs = refl
tests_law true false (negsuc n) xs = refl
tests_law false true (negsuc n) xs = refl
tests_law false false (negsuc n) xs = refl
