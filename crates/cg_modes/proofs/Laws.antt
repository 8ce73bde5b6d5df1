-- What judging gives at an expression that is opened.
use Rattle.std.proofs.Common.{◌≡◌, Some, Ok, Err, false, ◌++◌, min, take, unsigned_abs, ℤ, true, add-one, ℕ, zero, suc, ◌+◌, ◌<◌, ◌≤◌, length, drop, get_or, None, arith, List, [], ◌∷◌, map, Option, refl, ap, ◌∙◌, sym, subst}
use Rattle.std.proofs.lemmas.Grind.{common_steps}
use Rattle.cg_base.specs.declared.Mode.{Mode}
use Rattle.cg_modes_leaf.proofs.Scopes.{locals_parallel, locals_sequence}
use Rattle.cg_model.specs.Checked.{Checked, Locals, checked, checked_step, verdict_of, in_order, and_then, is_place, each_dropped, sequence_mode, local_of, is_loose, choices, plain_choice, choice_turn, meets}
use Rattle.cg_model.specs.declared.rtl.Op.TheVariants.{Set, Sequence}
use Rattle.cg_modes_leaf.specs.Scope.{declared_by}
use Rattle.cg_modes.specs.Carried.{assigned, assigned_of, either, either_of}
use Rattle.cg_model.specs.declared.judged.ModeFault.{ModeFault}
use Rattle.cg_model.specs.declared.machine.Machine.{Machine}
use Rattle.cg_model.specs.declared.rtl.Rtl.{Rtl, out-Rtl, roll-Rtl, out-roll-Rtl}
use Rattle.cg_model.specs.declared.rtl.Rtl.TheOpen.{Rtl-F}
use Rattle.cg_model.specs.declared.rtl.Rtl.TheFolds.{fold_out-Rtl, fold-roll-Rtl, ind-Rtl, map-Rtl}

pub verdict_out : (m : Machine) (r : Rtl) (l : Locals) (want : Option Mode) → (checked m r).verdict l want ≡ verdict_of m (out-Rtl r).op (out-Rtl r).mode (out-Rtl r).number (map (checked m) (out-Rtl r).items) l want
unfolding checked
verdict_out m r l want = ap (λ c. c.verdict l want) (fold_out-Rtl Checked (checked_step m) r)

said_roll : (m : Machine) (d : Rtl-F Rtl) → (checked m (roll-Rtl d)).said ≡ record d { items = map (λ x. roll-Rtl x.said) (map (checked m) d.items) }
unfolding checked
said_roll m d = ap (λ c. c.said) (fold-roll-Rtl Checked (checked_step m) d)

said_all : {S : Type 0} (m : Machine) (f : S → Rtl) (h : (s : S) → roll-Rtl (checked m (f s)).said ≡ f s) (ys : List S) → map (λ x. roll-Rtl x.said) (map (checked m) (map f ys)) ≡ map f ys
said_all m f h [] = refl
said_all m f h (y ∷ ys) = rw (h y) (ap (λ xs. f y ∷ xs) (said_all m f h ys))

pub rolled_is : (m : Machine) (r : Rtl) → roll-Rtl (checked m r).said ≡ r
rolled_is m r =
    ind-Rtl (λ x. roll-Rtl (checked m x).said ≡ x)
    (λ x y e. subst (λ z. roll-Rtl (checked m (roll-Rtl z)).said ≡ roll-Rtl z) e
    (ap roll-Rtl (said_roll m (map-Rtl _ _ (λ s. s.0) y))
    ∙ ap (λ xs. roll-Rtl (record { op = y.op; mode = y.mode; number = y.number; items = xs })) (said_all m (λ s. s.0) (λ s. s.1) y.items)))
    r

-- What is judged is the expression itself.
pub said_is : (m : Machine) (r : Rtl) → (checked m r).said ≡ out-Rtl r
said_is m r = sym (out-roll-Rtl (checked m r).said) ∙ ap out-Rtl (rolled_is m r)

pub in_order_last : (m : Machine) (l : Locals) (want : Option Mode) (xs : List Rtl) (i : ℕ) (d : Rtl) → i + 1 ≡ length xs → in_order l want (map (checked m) (drop i xs)) ≡ (checked m (get_or xs i d)).verdict l want
in_order_last m l want [] i d h = absurd (omega arith)
in_order_last m l want (x ∷ []) zero d h = refl
in_order_last m l want (x ∷ y ∷ ys) zero d h = absurd (omega arith)
in_order_last m l want (x ∷ xs) (suc i) d h = in_order_last m l want xs i d (omega arith)

in_order_next : (m : Machine) (l : Locals) (want : Option Mode) (xs : List Rtl) (i : ℕ) (d : Rtl) → i + 1 < length xs → in_order l want (map (checked m) (drop i xs)) ≡ and_then ((checked m (get_or xs i d)).verdict l None) (λ k. in_order l want (map (checked m) (drop (suc i) xs)))
in_order_next m l want [] i d h = absurd (omega arith)
in_order_next m l want (x ∷ []) zero d h = absurd (omega arith)
in_order_next m l want (x ∷ y ∷ ys) zero d h = refl
in_order_next m l want (x ∷ xs) (suc i) d h = in_order_next m l want xs i d (omega arith)

pub in_order_more : (m : Machine) (l : Locals) (want : Option Mode) (xs : List Rtl) (i : ℕ) (d : Rtl) → i + 1 < length xs → in_order l want (map (checked m) (drop i xs)) ≡ and_then ((checked m (get_or xs i d)).verdict l None) (λ k. in_order l want (map (checked m) (drop (i + 1) xs)))
in_order_more m l want xs i d h = rw add-one (in_order_next m l want xs i d h)

-- A place that can be set is judged, and then its value.
pub set_listed : (m : Machine) (l : Locals) (xs : List Rtl) (written want : Option Mode) (n : ℤ) (d : Rtl) → length xs ≡ 2 → is_place m l (out-Rtl (get_or xs 0 d)).op (out-Rtl (get_or xs 0 d)).number ≡ true → verdict_of m Set written n (map (checked m) xs) l want ≡ assigned_of (map (checked m) xs) l
set_listed m l [] written want n d two place = absurd (omega arith)
set_listed m l (x ∷ []) written want n d two place = absurd (omega arith)
set_listed m l (x ∷ y ∷ []) written want n d two place = rw (said_is m x) (rw place refl)
set_listed m l (x ∷ y ∷ z ∷ zs) written want n d two place = absurd (omega arith)

pub set_law : (m : Machine) (r : Rtl) (l : Locals) (want : Option Mode) (d : Rtl) → (out-Rtl r).op ≡ Set → length (out-Rtl r).items ≡ 2 → is_place m l (out-Rtl (get_or (out-Rtl r).items 0 d)).op (out-Rtl (get_or (out-Rtl r).items 0 d)).number ≡ true → (checked m r).verdict l want ≡ assigned m r l
set_law m r l want d op two place =
    verdict_out m r l want ∙ ap (λ o. verdict_of m o (out-Rtl r).mode (out-Rtl r).number (map (checked m) (out-Rtl r).items) l want) op
    ∙ set_listed m l (out-Rtl r).items (out-Rtl r).mode want (out-Rtl r).number d two place

-- The first expressions are dropped one after another.
dropped_next : (m : Machine) (l : Locals) (xs : List Rtl) (i c : ℕ) (d : Rtl) → i < c → c ≤ length xs → each_dropped l (map (checked m) (drop i (take c xs))) ≡ and_then ((checked m (get_or xs i d)).verdict l None) (λ k. each_dropped l (map (checked m) (drop (suc i) (take c xs))))
dropped_next m l xs i zero d h j = absurd (omega arith)
dropped_next m l [] i (suc c) d h j = absurd (omega arith)
dropped_next m l (x ∷ xs) zero (suc c) d h j = refl
dropped_next m l (x ∷ xs) (suc i) (suc c) d h j = dropped_next m l xs i c d (omega arith) (omega arith)

pub dropped_more : (m : Machine) (l : Locals) (xs : List Rtl) (i c : ℕ) (d : Rtl) → i < c → c ≤ length xs → each_dropped l (map (checked m) (drop i (take c xs))) ≡ and_then ((checked m (get_or xs i d)).verdict l None) (λ k. each_dropped l (map (checked m) (drop (i + 1) (take c xs))))
dropped_more m l xs i c d h j = rw (add-one i) (dropped_next m l xs i c d h j)

locals_said : (m : Machine) (xs : List Rtl) → map (λ x. local_of x.said) (map (checked m) xs) ≡ map declared_by xs
locals_said m [] = refl
locals_said m (x ∷ xs) = rw (said_is m x) (ap (λ ys. declared_by x ∷ ys) (locals_said m xs))

pub take_map : {A B : Type 0} (f : A → B) (n : ℕ) (xs : List A) → take n (map f xs) ≡ map f (take n xs)
take_map f zero xs = refl
take_map f (suc n) [] = refl
take_map f (suc n) (x ∷ xs) = ap (λ ys. f x ∷ ys) (take_map f n xs)

pub drop_map : {A B : Type 0} (f : A → B) (n : ℕ) (xs : List A) → drop n (map f xs) ≡ map f (drop n xs)
drop_map f zero xs = refl
drop_map f (suc n) [] = refl
drop_map f (suc n) (x ∷ xs) = drop_map f n xs

pub take_min : {A : Type 0} (n : ℕ) (xs : List A) → take n xs ≡ take (min n (length xs)) xs
take_min n xs = grind (arith, common_steps)

pub drop_min : {A : Type 0} (n : ℕ) (xs : List A) → drop n xs ≡ drop (min n (length xs)) xs
drop_min n xs = grind (arith, common_steps)

pub sequence_listed : (m : Machine) (l : Locals) (xs : List Rtl) (want : Option Mode) (n : ℕ) → sequence_mode n (map (checked m) xs) l want ≡ and_then (each_dropped l (map (checked m) (take (min n (length xs)) xs))) (λ k. in_order (l ++ map declared_by (take (min n (length xs)) xs)) want (map (checked m) (drop (min n (length xs)) xs)))
sequence_listed m l xs want n =
    rw (take_map (checked m) n xs, drop_map (checked m) n xs, locals_said m (take n xs), take_min n xs, drop_min n xs) refl

pub sequence_law : (m : Machine) (r : Rtl) (l : Locals) (want : Option Mode) (c : ℕ) → (out-Rtl r).op ≡ Sequence → c ≡ min (unsigned_abs (out-Rtl r).number) (length (out-Rtl r).items) → (checked m r).verdict l want ≡ and_then (each_dropped l (map (checked m) (take c (out-Rtl r).items))) (λ k. in_order (l ++ map declared_by (take c (out-Rtl r).items)) want (map (checked m) (drop c (out-Rtl r).items)))
sequence_law m r l want c op e =
    verdict_out m r l want ∙ ap (λ o. verdict_of m o (out-Rtl r).mode (out-Rtl r).number (map (checked m) (out-Rtl r).items) l want) op
    ∙ rw e (sequence_listed m l (out-Rtl r).items want (unsigned_abs (out-Rtl r).number))

-- The two values of an `if` that has no mode of its own: where the first leads, where the second does, and where none does.
pub meets_self : (written : Option Mode) (k : Mode) → meets written k k ≡ Ok k
meets_self written k = grind (arith, common_steps)

first_leads : (m : Machine) (l : Locals) (want : Option Mode) (x y : Rtl) (k : Mode) → is_loose (out-Rtl x) ≡ false → (checked m x).verdict l want ≡ Ok k → choices m l None want (plain_choice (checked m x) ∷ plain_choice (checked m y) ∷ []) ≡ and_then (choice_turn l None (Ok k) want (plain_choice (checked m y))) (λ j. Ok k)
first_leads m l want x y k firm own = rw (said_is m x, firm, own, meets_self None k) refl

first_fails : (m : Machine) (l : Locals) (want : Option Mode) (x y : Rtl) (e : ModeFault) → is_loose (out-Rtl x) ≡ false → (checked m x).verdict l want ≡ Err e → choices m l None want (plain_choice (checked m x) ∷ plain_choice (checked m y) ∷ []) ≡ Err e
first_fails m l want x y e firm own = rw (said_is m x, firm, own) refl

second_leads : (m : Machine) (l : Locals) (want : Option Mode) (x y : Rtl) (k : Mode) → is_loose (out-Rtl x) ≡ true → is_loose (out-Rtl y) ≡ false → (checked m y).verdict l want ≡ Ok k → choices m l None want (plain_choice (checked m x) ∷ plain_choice (checked m y) ∷ []) ≡ and_then ((checked m x).verdict l (Some k)) (λ j. Ok k)
second_leads m l want x y k loose firm own = rw (said_is m x, said_is m y, loose, firm, own, meets_self None k) refl

either_listed : (m : Machine) (l : Locals) (written want : Option Mode) (xs : List Rtl) (d e : Rtl) → length xs ≡ 3 → either_of m written (map (checked m) xs) l want ≡ choices m l written want (plain_choice (checked m (get_or xs 1 d)) ∷ plain_choice (checked m (get_or xs 2 e)) ∷ [])
either_listed m l written want [] d e h = absurd (omega arith)
either_listed m l written want (x ∷ []) d e h = absurd (omega arith)
either_listed m l written want (x ∷ y ∷ []) d e h = absurd (omega arith)
either_listed m l written want (x ∷ y ∷ z ∷ []) d e h = refl
either_listed m l written want (x ∷ y ∷ z ∷ v ∷ vs) d e h = absurd (omega arith)

-- The same of an `if` whose values are x and y.
either_values : (m : Machine) (r : Rtl) (l : Locals) (want : Option Mode) (x y : Rtl) → length (out-Rtl r).items ≡ 3 → (out-Rtl r).mode ≡ None → x ≡ get_or (out-Rtl r).items 1 x → y ≡ get_or (out-Rtl r).items 2 y → either m r l want ≡ choices m l None want (plain_choice (checked m x) ∷ plain_choice (checked m y) ∷ [])
either_values m r l want x y three written first second =
    ap (λ w. either_of m w (map (checked m) (out-Rtl r).items) l want) written ∙ either_listed m l None want (out-Rtl r).items x y three
    ∙ rw (← first, ← second) refl

pub either_first : (m : Machine) (r : Rtl) (l : Locals) (want : Option Mode) (x y : Rtl) (k : Mode) → length (out-Rtl r).items ≡ 3 → (out-Rtl r).mode ≡ None → x ≡ get_or (out-Rtl r).items 1 x → y ≡ get_or (out-Rtl r).items 2 y → is_loose (out-Rtl x) ≡ false → Ok k ≡ (checked m x).verdict l want → either m r l want ≡ and_then (choice_turn l None (Ok k) want (plain_choice (checked m y))) (λ j. Ok k)
either_first m r l want x y k three written first second firm own = either_values m r l want x y three written first second ∙ first_leads m l want x y k firm (sym own)

pub either_second : (m : Machine) (r : Rtl) (l : Locals) (want : Option Mode) (x y : Rtl) (k : Mode) → length (out-Rtl r).items ≡ 3 → (out-Rtl r).mode ≡ None → x ≡ get_or (out-Rtl r).items 1 x → y ≡ get_or (out-Rtl r).items 2 y → is_loose (out-Rtl x) ≡ true → is_loose (out-Rtl y) ≡ false → Ok k ≡ (checked m y).verdict l want → either m r l want ≡ and_then ((checked m x).verdict l (Some k)) (λ j. Ok k)
either_second m r l want x y k three written first second loose firm own =
    either_values m r l want x y three written first second ∙ second_leads m l want x y k loose firm (sym own)

pub ruleset mode_rules = (common_steps, verdict_out, said_is)

pub ruleset around_rules = (mode_rules, locals_parallel, locals_sequence)

pub ruleset order_rules = (mode_rules, in_order_last, in_order_more, dropped_more)

pub ruleset delay_rules = (mode_rules, rolled_is)
