-- How a tree grows over candidates.
use Rattle.std.proofs.Common.{◌≡◌, ℕ, ◌+◌, ◌-◌, ◌*◌, ◌<◌, ◌≤◌, max, Bool, true, false, List, [], ◌∷◌, ◌++◌, length, sym, ap, ◌∙◌, subst, arith}
use Rattle.std.specs.List.{filter}
use Rattle.cg_code_mask.specs.declared.format.Constants.{Constants}
use Rattle.cg_tree.specs.declared.branch.Branch.{Branch}
use Rattle.cg_tree.specs.Trees.{Tested, Node, height, all_nodes, past_test}
use Rattle.cg_tree.specs.Trees.Node.{leaf_at, test_at}
use Rattle.cg_tree.specs.Candidates.{constant_at, agrees, candidates, TellsApart, AreTight}
use Rattle.cg_tree.specs.Telling.{telling, ones_below}
use Rattle.cg_tree.specs.Growing.{IsLeaf, IsFork, AreDone, IsNext, IsGrown}
use Rattle.cg_tree.proofs.Tightness.{tight_both, tight_weaker, behind_test}
use Rattle.cg_tree.proofs.Masks.{apart_told, fewer_told, told_no_more, one_fewer}

-- a leaf
pub grown_leaf : (table : List Constants) (listed : List ℕ) (room : ℕ) (b : Branch) → AreDone table listed room → IsLeaf b listed → IsGrown table listed room b room
grown_leaf table listed room b asked x = record {
  sized = omega (arith, x.alone);
  less = omega arith;
  low = omega (arith, x.low);
  tight = λ ks path e. subst (AreTight table ks (room ≡ 0)) (sym (x.at path)) ((e, λ bit apart. asked.done bit apart), tt);
}

-- those of some candidates that agree with an answer
abbrev those : List Constants → List ℕ → ℕ → Bool → List ℕ
those table listed bit answer = filter (λ k. agrees (constant_at table k bit) answer) listed

-- where a bit tells two apart, it does so no more behind it
lower : (table : List Constants) (listed : List ℕ) (room bit : ℕ) (answer : Bool) (b : Branch) → IsNext table listed room bit → height b ≤ ones_below 128 (telling table (those table listed bit answer)) → height b < ones_below 128 (telling table listed)
lower table listed room bit answer b next low =
    let less : ones_below 128 (telling table (those table listed bit answer)) < ones_below 128 (telling table listed) =
    one_fewer 128 (telling table (those table listed bit answer)) (telling table listed) bit next.small (λ q. fewer_told table (λ k. agrees (constant_at table k bit) answer) listed q) (told_no_more table answer listed bit) (apart_told table listed bit next.apart) in
    omega (arith, low, less)

-- those behind a test are the candidates there
kept : (table : List Constants) (listed ks : List ℕ) (path : List Tested) (bit : ℕ) (answer : Bool) → listed ≡ candidates table ks path → those table listed bit answer ≡ candidates table ks (past_test bit answer path)
kept table listed ks path bit answer e = ap (λ xs. those table xs bit answer) e ∙ behind_test table ks path bit answer

-- a test, and the trees behind it
pub grown_fork : (table : List Constants) (listed low high : List ℕ) (room bit middle left : ℕ) (b clear set : Branch) → IsNext table listed room bit
    → low ≡ those table listed bit false → high ≡ those table listed bit true → IsGrown table low (room - 1) clear middle → IsGrown table high middle set left → IsFork b bit clear set → IsGrown table listed room b left
grown_fork table listed low high room bit middle left b clear set next e f x y fork = record {
  sized = omega (arith, next.some, x.sized, y.sized, fork.sized, x.less, y.less);
  less = omega (arith, x.less, y.less);
  low =
      let one : height clear < ones_below 128 (telling table listed) = lower table listed room bit false clear next (subst (λ xs. height clear ≤ ones_below 128 (telling table xs)) e x.low) in
      let two : height set < ones_below 128 (telling table listed) = lower table listed room bit true set next (subst (λ xs. height set ≤ ones_below 128 (telling table xs)) f y.low) in
      omega (arith, one, two, fork.higher);
  tight = λ ks path is.
      let apart : TellsApart table (candidates table ks path) bit = subst (λ xs. TellsApart table xs bit) is next.apart in
      let one : AreTight table ks (middle ≡ 0) (all_nodes clear (past_test bit false path)) = x.tight ks (past_test bit false path) (e ∙ kept table listed ks path bit false is) in
      let two : AreTight table ks (left ≡ 0) (all_nodes set (past_test bit true path)) = y.tight ks (past_test bit true path) (f ∙ kept table listed ks path bit true is) in
      let first : AreTight table ks (left ≡ 0) (all_nodes clear (past_test bit false path)) = tight_weaker table ks (middle ≡ 0) (left ≡ 0) (all_nodes clear (past_test bit false path)) (λ none. omega (arith, none, y.less)) one in
      subst (AreTight table ks (left ≡ 0)) (sym (fork.at path)) (apart, tight_both table ks (left ≡ 0) (all_nodes clear (past_test bit false path)) (all_nodes set (past_test bit true path)) first two);
}

pub ruleset growing = (grown_leaf, grown_fork)
