-- What a tree is that grew over some candidates, node by node.
use Rattle.std.specs.Prelude.{◌≡◌, ℕ, ◌+◌, ◌*◌, ◌<◌, ◌≤◌, max, true, false, List, [], ◌∷◌, ◌++◌}
use Rattle.cg_code_mask.specs.declared.format.Constants.{Constants}
use Rattle.cg_tree.specs.declared.branch.Branch.{Branch}
use Rattle.cg_tree.specs.Trees.{size, height, all_nodes, past_test, Tested}
use Rattle.cg_tree.specs.Trees.Node.{leaf_at, test_at}
use Rattle.cg_tree.specs.Candidates.{candidates, TellsApart, AreTight}
use Rattle.cg_tree.specs.Telling.{telling, ones_below}

-- A leaf that lists these.
pub record IsLeaf (b : Branch) (numbers : List ℕ) : Type 0 where
  pub alone : size b ≡ 1
  pub low : height b ≡ 0
  pub at : (path : List Tested) → all_nodes b path ≡ leaf_at path numbers ∷ []

-- A test of a bit, with these trees for its values.
pub record IsFork (b : Branch) (bit : ℕ) (clear set : Branch) : Type 0 where
  pub sized : size b ≡ 1 + size clear + size set
  pub higher : height b ≡ 1 + max (height clear) (height set)
  pub at : (path : List Tested) → all_nodes b path ≡ test_at path bit ∷ (all_nodes clear (past_test bit false path) ++ all_nodes set (past_test bit true path))

-- A leaf may list these: a bit tells two of them apart only where no leaf may be parted any more.
pub record AreDone (table : List Constants) (numbers : List ℕ) (room : ℕ) : Type 0 where
  pub done : (bit : ℕ) → TellsApart table numbers bit → room ≡ 0

-- This bit may part them.
pub record IsNext (table : List Constants) (numbers : List ℕ) (room bit : ℕ) : Type 0 where
  pub some : 0 < room
  pub small : bit < 128
  pub apart : TellsApart table numbers bit

-- A tree over some candidates: of so many leaves that might be parted so many are left, each test asks for one bit more, and its nodes are
-- tight, wherever these are the candidates.
pub record IsGrown (table : List Constants) (numbers : List ℕ) (room : ℕ) (b : Branch) (left : ℕ) : Type 0 where
  pub sized : size b + 2 * left ≡ 1 + 2 * room
  pub less : left ≤ room
  pub low : height b ≤ ones_below 128 (telling table numbers)
  pub tight : (ks : List ℕ) (path : List Tested) → numbers ≡ candidates table ks path → AreTight table ks (left ≡ 0) (all_nodes b path)
