-- What the first fault of an expression is, node by node.
use Rattle.std.proofs.Common.{◌≡◌, ℕ, Bool, true, false, ◌||◌, ◌==◌, map, List, [], ◌∷◌, ◌++◌, refl}
use Rattle.std.specs.Option.{option_or}
use Rattle.std.proofs.lemmas.Grind.{common_steps}
use Rattle.cg_base.specs.Refusing.{first}
use Rattle.cg_model.specs.declared.rtl.Rtl.{Rtl, out-Rtl, fold_out-Rtl}
use Rattle.cg_model_faults.specs.Finding.{Faults, AtNode, of_each, node_step, in_nodes, stands_in}

pub first_append : {A : Type 0} (xs ys : List A) → first (xs ++ ys) ≡ option_or (first xs) (first ys)
first_append [] ys = refl
first_append (x ∷ xs) ys = refl

-- the faults of an expression: its own, and those of its items
pub nodes_of : (at : AtNode) (r : Rtl) → in_nodes at r ≡ at (out-Rtl r).op (out-Rtl r).mode (out-Rtl r).number ++ of_each (map (in_nodes at) (out-Rtl r).items)
unfolding in_nodes
nodes_of at r = fold_out-Rtl Faults (node_step at) r

pub ruleset node_rules = (common_steps, first_append, nodes_of)

pub among_append : (xs ys : List ℕ) (n : ℕ) → stands_in (xs ++ ys) n ≡ (stands_in xs n || stands_in ys n)
among_append [] ys n = refl
among_append (x ∷ xs) ys n = by (x == n) (among_append xs ys n) where
  by : (b : Bool) → stands_in (xs ++ ys) n ≡ (stands_in xs n || stands_in ys n) → (b || stands_in (xs ++ ys) n) ≡ ((b || stands_in xs n) || stands_in ys n)
  by true h = refl
  by false h = h

pub ruleset among_rules = (common_steps, among_append)
