-- Decision trees over the bits of an instruction. Its bytes are read as one number of 128 bits, the first byte the highest. Bytes past the
-- end are 0; bytes past the 16th aren't looked at. A bit is named by its place in that number, the lowest by 0.
use Rattle.std.specs.Prelude.{ℕ, ◌+◌, max, Bool, true, false, ◌==◌, if◌then◌else◌, List, [], ◌∷◌, ◌++◌, length}
use Rattle.std.specs.Int.{bit_at}
use Rattle.cg_tree.specs.declared.branch.Branch.{Branch}
use Rattle.cg_tree.specs.declared.branch.Branch.TheOpen.{Branch-F, Leaf, Test}
use Rattle.cg_tree.specs.declared.branch.Branch.TheFolds.{fold-Branch}

-- A bit of a number is 1.
abbrev pub is_set : ℕ → ℕ → Bool
is_set w bit = bit_at w bit == 1

-- The list of the leaf that a number leads to.
abbrev pub reached_step : Branch-F (ℕ → List ℕ) → ℕ → List ℕ
reached_step (Leaf numbers) w = numbers.now
reached_step (Test bit clear set) w = if is_set w bit then set.now w else clear.now w

abbrev pub reached : Branch → ℕ → List ℕ
reached = fold-Branch (ℕ → List ℕ) reached_step

-- How many bits are tested on the path to it.
abbrev pub tests_step : Branch-F (ℕ → ℕ) → ℕ → ℕ
tests_step (Leaf numbers) w = 0
tests_step (Test bit clear set) w = 1 + (if is_set w bit then set.now w else clear.now w)

abbrev pub tests : Branch → ℕ → ℕ
tests = fold-Branch (ℕ → ℕ) tests_step

-- How many bits are tested on the longest path to a leaf.
abbrev pub height_step : Branch-F ℕ → ℕ
height_step (Leaf numbers) = 0
height_step (Test bit clear set) = 1 + max clear.now set.now

abbrev pub height : Branch → ℕ
height = fold-Branch ℕ height_step

-- How many instructions the longest list of a leaf has.
abbrev pub longest_step : Branch-F ℕ → ℕ
longest_step (Leaf numbers) = length numbers.now
longest_step (Test bit clear set) = max clear.now set.now

abbrev pub longest : Branch → ℕ
longest = fold-Branch ℕ longest_step

-- How many nodes a tree has.
abbrev pub size_step : Branch-F ℕ → ℕ
size_step (Leaf numbers) = 1
size_step (Test bit clear set) = 1 + clear.now + set.now

abbrev pub size : Branch → ℕ
size = fold-Branch ℕ size_step

-- A test on a path, and whether its bit was 1.
pub record Tested : Type 0 where
  pub bit : ℕ
  pub answer : Bool

-- A node of a tree, with the tests on the path to it, the last of them first.
pub data Node : Type 0 where
  leaf_at : (path : List Tested) (numbers : List ℕ) → Node
  test_at : (path : List Tested) (bit : ℕ) → Node

-- A path goes on behind a test.
abbrev pub past_test : ℕ → Bool → List Tested → List Tested
past_test bit answer path = record { bit = bit; answer = answer } ∷ path

-- The nodes of a tree that stands at the end of a path.
abbrev pub all_nodes_step : Branch-F (List Tested → List Node) → List Tested → List Node
all_nodes_step (Leaf numbers) path = leaf_at path numbers.now ∷ []
all_nodes_step (Test bit clear set) path = test_at path bit ∷ (clear.now (past_test bit false path) ++ set.now (past_test bit true path))

abbrev pub all_nodes : Branch → List Tested → List Node
all_nodes = fold-Branch (List Tested → List Node) all_nodes_step
