-- What a tree is at a leaf and at a test.
use Rattle.std.proofs.Common.{◌≡◌, ℕ, ◌+◌, ◌-◌, ◌^◌, ◌<◌, min, max, true, false, if◌then◌else◌, List, [], ◌∷◌, ◌++◌, length, Bor, ap, sym, ◌∙◌, arith}
use Rattle.cg_tree.specs.declared.branch.Branch.{Branch}
use Rattle.cg_tree.specs.declared.branch.Branch.TheVariants.{Leaf, rolls-Leaf, rolls-Test}
use Rattle.cg_tree.specs.declared.branch.Branch.TheViews.{Test}
use Rattle.cg_tree.specs.declared.branch.Branch.TheOpen as layer
use Rattle.cg_tree.specs.declared.branch.Branch.TheFolds.{fold-roll-Branch}
use Rattle.cg_tree.specs.Counted.{risen}
use Rattle.cg_tree.specs.Trees.{is_set, reached, reached_step, tests, tests_step, height, height_step, longest, longest_step, size, size_step, all_nodes, all_nodes_step, past_test, Tested, Node}
use Rattle.cg_tree.specs.Trees.Node.{leaf_at, test_at}
use Rattle.cg_tree.specs.Growing.{IsLeaf, IsFork}

pub reached_leaf : (xs : Bor (List ℕ)) (w : ℕ) → reached (Leaf xs) w ≡ xs.now
reached_leaf xs w = ap (λ b. reached b w) (sym (rolls-Leaf xs)) ∙ ap (λ f. f w) (fold-roll-Branch (ℕ → List ℕ) reached_step (layer.Leaf xs))

pub reached_test : (n : ℕ) (clear set : Bor Branch) (w : ℕ) → reached (Test n clear set) w ≡ (if is_set w n then reached set.now w else reached clear.now w)
reached_test n clear set w = ap (λ b. reached b w) (sym (rolls-Test n clear set)) ∙ ap (λ f. f w) (fold-roll-Branch (ℕ → List ℕ) reached_step (layer.Test n clear set))

pub tests_leaf : (xs : Bor (List ℕ)) (w : ℕ) → tests (Leaf xs) w ≡ 0
tests_leaf xs w = ap (λ b. tests b w) (sym (rolls-Leaf xs)) ∙ ap (λ f. f w) (fold-roll-Branch (ℕ → ℕ) tests_step (layer.Leaf xs))

pub tests_test : (n : ℕ) (clear set : Bor Branch) (w : ℕ) → tests (Test n clear set) w ≡ 1 + (if is_set w n then tests set.now w else tests clear.now w)
tests_test n clear set w = ap (λ b. tests b w) (sym (rolls-Test n clear set)) ∙ ap (λ f. f w) (fold-roll-Branch (ℕ → ℕ) tests_step (layer.Test n clear set))

pub height_leaf : (xs : Bor (List ℕ)) → height (Leaf xs) ≡ 0
height_leaf xs = ap height (sym (rolls-Leaf xs)) ∙ fold-roll-Branch ℕ height_step (layer.Leaf xs)

pub height_test : (n : ℕ) (clear set : Bor Branch) → height (Test n clear set) ≡ 1 + max (height clear.now) (height set.now)
height_test n clear set = ap height (sym (rolls-Test n clear set)) ∙ fold-roll-Branch ℕ height_step (layer.Test n clear set)

pub longest_leaf : (xs : Bor (List ℕ)) → longest (Leaf xs) ≡ length xs.now
longest_leaf xs = ap longest (sym (rolls-Leaf xs)) ∙ fold-roll-Branch ℕ longest_step (layer.Leaf xs)

pub longest_test : (n : ℕ) (clear set : Bor Branch) → longest (Test n clear set) ≡ max (longest clear.now) (longest set.now)
longest_test n clear set = ap longest (sym (rolls-Test n clear set)) ∙ fold-roll-Branch ℕ longest_step (layer.Test n clear set)

size_leaf : (xs : Bor (List ℕ)) → size (Leaf xs) ≡ 1
size_leaf xs = ap size (sym (rolls-Leaf xs)) ∙ fold-roll-Branch ℕ size_step (layer.Leaf xs)

size_test : (n : ℕ) (clear set : Bor Branch) → size (Test n clear set) ≡ 1 + size clear.now + size set.now
size_test n clear set = ap size (sym (rolls-Test n clear set)) ∙ fold-roll-Branch ℕ size_step (layer.Test n clear set)

all_nodes_leaf : (xs : Bor (List ℕ)) (path : List Tested) → all_nodes (Leaf xs) path ≡ leaf_at path xs.now ∷ []
all_nodes_leaf xs path = ap (λ b. all_nodes b path) (sym (rolls-Leaf xs)) ∙ ap (λ f. f path) (fold-roll-Branch (List Tested → List Node) all_nodes_step (layer.Leaf xs))

all_nodes_test : (n : ℕ) (clear set : Bor Branch) (path : List Tested) → all_nodes (Test n clear set) path ≡ test_at path n ∷ (all_nodes clear.now (past_test n false path) ++ all_nodes set.now (past_test n true path))
all_nodes_test n clear set path = ap (λ b. all_nodes b path) (sym (rolls-Test n clear set)) ∙ ap (λ f. f path) (fold-roll-Branch (List Tested → List Node) all_nodes_step (layer.Test n clear set))

pub is_leaf : (xs : Bor (List ℕ)) (listed : List ℕ) → xs.now ≡ listed → IsLeaf (Leaf xs) listed
is_leaf xs listed e = record { alone = size_leaf xs; low = height_leaf xs; at = λ path. all_nodes_leaf xs path ∙ ap (λ ks. leaf_at path ks ∷ []) e }

pub is_fork : (n : ℕ) (z o : Bor Branch) (clear set : Branch) → z.now ≡ clear → o.now ≡ set → IsFork (Test n z o) n clear set
is_fork n z o clear set e f = record {
  sized = size_test n z o ∙ ap (λ b. 1 + size b + size o.now) e ∙ ap (λ b. 1 + size clear + size b) f;
  higher = height_test n z o ∙ ap (λ b. 1 + max (height b) (height o.now)) e ∙ ap (λ b. 1 + max (height clear) (height b)) f;
  at = λ path.
      all_nodes_test n z o path
      ∙ ap (λ b. test_at path n ∷ (all_nodes b (past_test n false path) ++ all_nodes o.now (past_test n true path))) e
      ∙ ap (λ b. test_at path n ∷ (all_nodes clear (past_test n false path) ++ all_nodes b (past_test n true path))) f;
}

-- so many steps and then so many more
pub risen_both : (count some more : ℕ) → risen (risen count some) more ≡ risen count (some + more)
risen_both count some more = omega arith

-- at a leaf no bit is tested
pub no_tests_there : (b : Branch) (xs : Bor (List ℕ)) (w count : ℕ) → b ≡ Leaf xs → count < 2 ^ 64 → count ≡ risen count (tests b w)
no_tests_there b xs w count is small =
    let none : tests b w ≡ 0 = ap (λ x. tests x w) is ∙ tests_leaf xs w in
    let same : count ≡ risen count 0 = omega (arith, small) in
    same ∙ ap (risen count) (sym none)

pub ruleset walking = (risen_both, reached_leaf, reached_test, tests_leaf, tests_test, height_leaf, height_test)

pub ruleset lists = (longest_leaf, longest_test)

pub ruleset making = (is_leaf, is_fork)
