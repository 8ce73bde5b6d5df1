-- What an expression gives by its items and by the rule that its outermost node needs.
use Rattle.std.proofs.Common.{◌≡◌, ℕ, zero, suc, ◌-◌, ◌*◌, Bool, true, false, ◌||◌, List, [], ◌∷◌, ◌++◌, map, length, Option, Some, None, refl, ap, ◌∙◌, sym, arith}
use Rattle.std.specs.List.{list_any}
use Rattle.std.proofs.lemmas.Grind.{common_steps}
use Rattle.cg_model.specs.Placed.{is_set, RuleName, AsPlace, needed_at, each_needed, needed_step, needed_by, rule_named, needed_where, delays_op, delays_step, delays_itself, delays_where, one_delays, rule_delays, delays}
use Rattle.cg_model.specs.declared.machine.Machine.{Machine}
use Rattle.cg_model.specs.declared.rtl.Rtl.{Rtl, out-Rtl}
use Rattle.cg_model.specs.declared.rtl.Rtl.TheFolds.{fold_out-Rtl}
use Rattle.cg_modes_leaf.specs.Delaying.{seen_rule, seen_rules, delays_by, items_delay_by, node_delays_by, IsFree, AreFree, NeedsFree}
use Rattle.cg_modes_leaf.proofs.Sizes.{rule_left}
use Rattle.cg_modes_leaf.specs.declared.needed.RuleName as declared

pub itself_of : (r : Rtl) → delays_itself r ≡ (delays_op (out-Rtl r).op || list_any (λ b. b) (map delays_itself (out-Rtl r).items))
unfolding delays_itself
itself_of r = fold_out-Rtl Bool delays_step r

pub ruleset itself_rules = (common_steps, itself_of)

-- the rules that an expression needs: its own, and those of its items
pub needed_of : (m : Machine) (r : Rtl) (is_place : Bool) → needed_by m r is_place ≡ needed_at m is_place (out-Rtl r).op (out-Rtl r).number ++ each_needed (is_set (out-Rtl r).op) (map (needed_by m) (out-Rtl r).items)
unfolding needed_by
needed_of m r is_place = ap (λ f. f is_place) (fold_out-Rtl AsPlace (needed_step m) r)

pub one_append : (f : RuleName → Bool) (rs qs : List RuleName) → one_delays f (rs ++ qs) ≡ (one_delays f rs || one_delays f qs)
one_append f [] qs = refl
one_append f (r ∷ rs) qs = by (f r) (one_append f rs qs) where
  by : (b : Bool) → one_delays f (rs ++ qs) ≡ (one_delays f rs || one_delays f qs) → (b || one_delays f (rs ++ qs)) ≡ ((b || one_delays f rs) || one_delays f qs)
  by true h = refl
  by false h = h

pub ruleset needed_rules = (common_steps, one_append, needed_of)

-- five alternatives in the order in which the code meets them
regrouped : (o a n b : Bool) → ((o || a) || (n || b)) ≡ (o || (n || (a || b)))
regrouped true a n b = refl
regrouped false true true b = refl
regrouped false true false b = refl
regrouped false false true b = refl
regrouped false false false b = refl

pub by_node : (m : Machine) (steps : ℕ) (p : Bool) (r : Rtl) → delays_by m steps p r ≡ (delays_op (out-Rtl r).op || (node_delays_by m steps p r || items_delay_by m steps (is_set (out-Rtl r).op) (out-Rtl r).items))
unfolding delays_by node_delays_by items_delay_by
by_node m steps p r =
    ap (λ b. b || one_delays (rule_delays m steps) (needed_by m r p)) (itself_of r)
    ∙ ap (λ b. (delays_op (out-Rtl r).op || list_any (λ b. b) (map delays_itself (out-Rtl r).items)) || b)
    (ap (one_delays (rule_delays m steps)) (needed_of m r p)
    ∙ one_append (rule_delays m steps) (needed_at m p (out-Rtl r).op (out-Rtl r).number) (each_needed (is_set (out-Rtl r).op) (map (needed_by m) (out-Rtl r).items)))
    ∙ regrouped (delays_op (out-Rtl r).op) (list_any (λ b. b) (map delays_itself (out-Rtl r).items)) (node_delays_by m steps p r) (one_delays (rule_delays m steps) (each_needed (is_set (out-Rtl r).op) (map (needed_by m) (out-Rtl r).items)))

paired : (a b c d : Bool) → ((a || b) || (c || d)) ≡ ((a || c) || (b || d))
paired true b c d = refl
paired false true true d = refl
paired false true false d = refl
paired false false c d = refl

-- the first of some items, and the others
pub by_items : (m : Machine) (steps : ℕ) (p : Bool) (x : Rtl) (xs : List Rtl) → items_delay_by m steps p (x ∷ xs) ≡ (delays_by m steps p x || items_delay_by m steps false xs)
unfolding delays_by items_delay_by
by_items m steps p x xs =
    ap (λ b. (delays_itself x || list_any (λ b. b) (map delays_itself xs)) || b) (one_append (rule_delays m steps) (needed_by m x p) (each_needed false (map (needed_by m) xs)))
    ∙ paired (delays_itself x) (list_any (λ b. b) (map delays_itself xs)) (one_delays (rule_delays m steps) (needed_by m x p)) (one_delays (rule_delays m steps) (each_needed false (map (needed_by m) xs)))

pub no_items : (m : Machine) (steps : ℕ) (p : Bool) → items_delay_by m steps p [] ≡ false
unfolding items_delay_by
no_items m steps p = refl

-- a rule is searched as its expression is, in one step fewer
pub by_rule : (m : Machine) (steps : ℕ) (r : RuleName) (x : Rtl) → rule_named m r ≡ Some x → rule_delays m (suc steps) r ≡ delays_by m steps false x
unfolding delays_by
by_rule m steps r x h = ap (λ (o : Option Rtl). delays_where o || one_delays (rule_delays m steps) (needed_where m o)) h

pub by_no_rule : (m : Machine) (steps : ℕ) (r : RuleName) → rule_named m r ≡ None → rule_delays m steps r ≡ false
by_no_rule m zero r h = refl
by_no_rule m (suc steps) r h = ap (λ (o : Option Rtl). delays_where o || one_delays (rule_delays m steps) (needed_where m o)) h

pub no_steps : (m : Machine) (r : RuleName) → rule_delays m 0 r ≡ false
no_steps m r = refl

pub fewer_steps : (m : Machine) (steps : ℕ) (r : RuleName) (x : Rtl) → (steps ≡ 0 → ⊥) → rule_named m r ≡ Some x → rule_delays m steps r ≡ delays_by m (steps - 1) false x
fewer_steps m zero r x h e = absurd (h refl)
fewer_steps m (suc steps) r x h e = let one : suc steps - 1 ≡ steps = omega arith in rw one (by_rule m steps r x e)

or_false : (b : Bool) → (b || false) ≡ b
or_false true = refl
or_false false = refl

-- the rule that a node needs, where there is one
pub by_needed : (m : Machine) (steps : ℕ) (p : Bool) (x : Rtl) (r : declared.RuleName) → seen_rules (Some r) ≡ needed_at m p (out-Rtl x).op (out-Rtl x).number → node_delays_by m steps p x ≡ rule_delays m steps (seen_rule r)
unfolding node_delays_by
by_needed m steps p x r h = ap (one_delays (rule_delays m steps)) (sym h) ∙ or_false (rule_delays m steps (seen_rule r))

pub by_none : (m : Machine) (steps : ℕ) (p : Bool) (x : Rtl) → seen_rules None ≡ needed_at m p (out-Rtl x).op (out-Rtl x).number → node_delays_by m steps p x ≡ false
unfolding node_delays_by
by_none m steps p x h = ap (one_delays (rule_delays m steps)) (sym h)

pub ruleset step_rules = (common_steps, by_node, by_items, no_items, by_no_rule, no_steps, fewer_steps, by_needed, by_none, rule_left)

-- where none stands, however many steps are made
pub free_here : (m : Machine) (p : Bool) (r : Rtl) → delays_op (out-Rtl r).op ≡ false → AreFree m (is_set (out-Rtl r).op) (out-Rtl r).items → NeedsFree m p r → IsFree m p r
free_here m p r op items node = record { at = λ steps. by_node m steps p r ∙ rw (op, node.at steps, items.at steps) refl }

pub free_none : (m : Machine) (p : Bool) → AreFree m p []
free_none m p = record { at = λ steps. no_items m steps p }

pub free_needed : (m : Machine) (p : Bool) (x : Rtl) (r : declared.RuleName) (y : Rtl) → seen_rules (Some r) ≡ needed_at m p (out-Rtl x).op (out-Rtl x).number → Some y ≡ rule_named m (seen_rule r) → IsFree m false y → NeedsFree m p x
free_needed m p x r y h e free = record { at = λ steps. by_needed m steps p x r h ∙ by steps } where
  by : (steps : ℕ) → rule_delays m steps (seen_rule r) ≡ false
  by zero = refl
  by (suc steps) = by_rule m steps (seen_rule r) y (sym e) ∙ free.at steps

pub free_ruleless : (m : Machine) (p : Bool) (x : Rtl) (r : declared.RuleName) → seen_rules (Some r) ≡ needed_at m p (out-Rtl x).op (out-Rtl x).number → None ≡ rule_named m (seen_rule r) → NeedsFree m p x
free_ruleless m p x r h e = record { at = λ steps. by_needed m steps p x r h ∙ by_no_rule m steps (seen_rule r) (sym e) }

pub free_alone : (m : Machine) (p : Bool) (x : Rtl) → seen_rules None ≡ needed_at m p (out-Rtl x).op (out-Rtl x).number → NeedsFree m p x
free_alone m p x h = record { at = λ steps. by_none m steps p x h }

-- what is left of items has one exactly where all have, after those that have none
pub record LeftOf (m : Machine) (p q : Bool) (xs rest : List Rtl) : Type 0 where
  pub at : (steps : ℕ) → items_delay_by m steps p xs ≡ items_delay_by m steps q rest

pub left_start : (m : Machine) (p : Bool) (xs : List Rtl) → LeftOf m p p xs xs
left_start m p xs = record { at = λ steps. refl }

pub left_more : (m : Machine) (p q : Bool) (xs : List Rtl) (x : Rtl) (rest : List Rtl) → LeftOf m p q xs (x ∷ rest) → IsFree m q x → LeftOf m p false xs rest
left_more m p q xs x rest so_far free = record { at = λ steps. so_far.at steps ∙ by_items m steps q x rest ∙ ap (λ b. b || items_delay_by m steps false rest) (free.at steps) }

pub left_end : (m : Machine) (p q : Bool) (xs : List Rtl) → LeftOf m p q xs [] → AreFree m p xs
left_end m p q xs so_far = record { at = λ steps. so_far.at steps ∙ no_items m steps q }

pub ruleset free_rules = (common_steps, free_here, free_needed, free_ruleless, free_alone, left_start, left_more, left_end)

-- the whole search
pub whole_itself : (m : Machine) (r : Rtl) → delays_itself r ≡ true → delays m r ≡ true
unfolding delays
whole_itself m r h = ap (λ b. b || one_delays (rule_delays m (2 * length m.hardware)) (needed_by m r false)) h

pub whole_free : (m : Machine) (r : Rtl) → IsFree m false r → delays m r ≡ false
unfolding delays delays_by
whole_free m r free = free.at (2 * length m.hardware)

pub whole_steps : (m : Machine) (r : Rtl) → delays m r ≡ delays_by m (2 * length m.hardware) false r
unfolding delays delays_by
whole_steps m r = refl

pub whole_rest : (m : Machine) (r : Rtl) → delays_itself r ≡ false → delays m r ≡ one_delays (rule_delays m (2 * length m.hardware)) (needed_by m r false)
unfolding delays
whole_rest m r h = ap (λ b. b || one_delays (rule_delays m (2 * length m.hardware)) (needed_by m r false)) h

pub ruleset whole_rules = (common_steps, whole_itself, whole_free, whole_steps, whole_rest)
