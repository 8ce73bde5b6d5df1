-- What may stand at the nodes of an expression, node by node.
use Rattle.std.proofs.Common.{◌≡◌, ℕ, Bool, true, false, ◌&&◌, ◌||◌, ◌==◌, map, List, [], ◌∷◌, ◌++◌, refl}
use Rattle.std.specs.List.{list_all}
use Rattle.std.proofs.lemmas.Grind.{common_steps}
use Rattle.cg_model.specs.Sound.{Allowed, allowed_step, is_allowed, is_among}
use Rattle.cg_model.specs.declared.rtl.Rtl.{Rtl, out-Rtl, fold_out-Rtl}

-- an expression is allowed where its outermost node is, and its items are
pub allowed_of : (ok : Allowed) (r : Rtl) → is_allowed ok r ≡ (ok (out-Rtl r).op (out-Rtl r).mode (out-Rtl r).number && list_all (λ b. b) (map (is_allowed ok) (out-Rtl r).items))
unfolding is_allowed
allowed_of ok r = fold_out-Rtl Bool (allowed_step ok) r

pub ruleset node_rules = (common_steps, allowed_of)

pub among_both : (n : ℕ) (xs ys : List ℕ) → is_among n (xs ++ ys) ≡ (is_among n xs || is_among n ys)
among_both n [] ys = refl
among_both n (x ∷ xs) ys = by (n == x) (among_both n xs ys) where
  by : (b : Bool) → is_among n (xs ++ ys) ≡ (is_among n xs || is_among n ys) → (b || is_among n (xs ++ ys)) ≡ ((b || is_among n xs) || is_among n ys)
  by true h = refl
  by false h = h

pub ruleset among_rules = (common_steps, among_both)
