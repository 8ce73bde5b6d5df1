-- What counting gives at an expression with rules put in place.
use Rattle.std.proofs.Common.{◌≡◌, ℕ, zero, suc, ◌-◌, Bool, false, Option, Some, None, refl, ◌∙◌, sym, arith, option_map, is_some}
use Rattle.std.proofs.lemmas.Grind.{common_steps}
use Rattle.cg_model.specs.Placed.{both, nodes_to, nodes_of_items, nodes_of_rule, rule_of, is_set, few, small}
use Rattle.cg_model.specs.declared.machine.Machine.{Machine}
use Rattle.cg_model.specs.declared.rtl.Rtl.{Rtl, out-Rtl}
use Rattle.cg_modes_leaf.specs.Counted.{left_of, left_after}

pub left_both : (count : ℕ) (a b : Option ℕ) → left_of count (both a b) ≡ left_after (left_of count a) b
left_both count None b = refl
left_both count (Some n) None = grind (arith, common_steps)
left_both count (Some n) (Some k) = grind (arith, common_steps)

pub left_none : (m : Machine) (depth : ℕ) (p : Bool) (r : Rtl) → left_of 0 (nodes_to m depth p r) ≡ None
left_none m zero p r = refl
left_none m (suc depth) p r = by (both (nodes_of_items (nodes_to m depth) (is_set (out-Rtl r).op) (out-Rtl r).items) (nodes_of_rule (nodes_to m depth) (rule_of m p (out-Rtl r)))) where
  by : (a : Option ℕ) → left_of 0 (option_map suc a) ≡ None
  by None = refl
  by (Some n) = grind (arith, common_steps)

left_suc : (count : ℕ) (a : Option ℕ) → left_of (suc count) (option_map suc a) ≡ left_of count a
left_suc count None = refl
left_suc count (Some n) = grind (arith, common_steps)

pub left_here : (m : Machine) (depth count : ℕ) (p : Bool) (r : Rtl) → (depth ≡ 0 → ⊥) → (count ≡ 0 → ⊥) → left_of count (nodes_to m depth p r)
    ≡ left_after (left_of (count - 1) (nodes_of_items (nodes_to m (depth - 1)) (is_set (out-Rtl r).op) (out-Rtl r).items)) (nodes_of_rule (nodes_to m (depth - 1)) (rule_of m p (out-Rtl r)))
left_here m zero count p r h j = absurd (h refl)
left_here m (suc depth) zero p r h j = absurd (j refl)
left_here m (suc depth) (suc count) p r h j =
    let items = nodes_of_items (nodes_to m depth) (is_set (out-Rtl r).op) (out-Rtl r).items in
    let rule = nodes_of_rule (nodes_to m depth) (rule_of m p (out-Rtl r)) in
    let depth_is : suc depth - 1 ≡ depth = omega arith in
    let count_is : suc count - 1 ≡ count = omega arith in
    rw (depth_is, count_is) (left_suc count (both items rule) ∙ left_both count items rule)

pub ruleset count_rules = (common_steps, left_both, left_none, left_here)

few_left : (a : Option ℕ) → is_some (left_of 4096 a) ≡ few a
few_left None = refl
few_left (Some n) = grind (arith, common_steps)

pub small_is : (m : Machine) (r : Rtl) → small m r ≡ is_some (left_of 4096 (nodes_to m 64 false r))
unfolding small
small_is m r = sym (few_left (nodes_to m 64 false r))
