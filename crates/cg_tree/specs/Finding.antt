-- What is found by a tree and in how many steps, and when a tree is tight for a machine.
use Rattle.std.specs.Prelude.{◌≡◌, ℕ, ◌+◌, ◌*◌, ◌<◌, ◌≤◌, if◌then◌else◌, List, [], ◌∷◌, length, Option}
use Rattle.std.specs.List.{find}
use Rattle.cg_code.specs.Coded.{matches_at}
use Rattle.cg_model.specs.declared.machine.Machine.{Machine}
use Rattle.cg_code_mask.specs.View.{whole}
use Rattle.cg_tree.specs.declared.tree.Tree.{Tree}
use Rattle.cg_tree.specs.Trees.{reached, tests, size, all_nodes}
use Rattle.cg_tree.specs.Candidates.{table_of, decodables, AreTight}

-- The list of the leaf that bytes lead to.
abbrev pub leaf_for : Tree → List ℕ → List ℕ
leaf_for t bytes = reached t.root (whole bytes)

-- How many bits are tested on the path to it.
abbrev pub tests_for : Tree → List ℕ → ℕ
tests_for t bytes = tests t.root (whole bytes)

-- The first instruction of that list that the machine has and that matches.
abbrev pub found : Tree → Machine → List ℕ → Option ℕ
found t m bytes = find (λ k. matches_at m k bytes) (leaf_for t bytes)

-- How many of some instructions are tried: all up to the first that matches. One that the machine doesn't have doesn't match.
abbrev pub tried : Machine → List ℕ → List ℕ → ℕ
tried m bytes [] = 0
tried m bytes (k ∷ ks) = 1 + (if matches_at m k bytes then 0 else tried m bytes ks)

-- How many steps it takes to find it: the bits that are tested, and the instructions that are tried.
abbrev pub steps_for : Tree → Machine → List ℕ → ℕ
steps_for t m bytes = tests_for t bytes + tried m bytes (leaf_for t bytes)

-- The most nodes that a tree of a machine may have.
abbrev pub most_nodes : Machine → ℕ
most_nodes m = 16 * length m.insns + 1024

-- A tree is tight for a machine with N instructions: it has at most 16 N + 1,024 nodes; each leaf lists just its candidates, in order; each
-- test's bit is a constant 0 in one candidate of its node and a constant 1 in another; and a leaf lists two that such a bit tells apart only
-- where two more nodes would be too many. The candidates of a node are the decodable instructions none of whose constant bits contradicts
-- the tests on the path to it.
pub record IsTight (t : Tree) (m : Machine) : Type 0 where
  pub few : size t.root ≤ most_nodes m
  pub each : AreTight (table_of m) (decodables m) (most_nodes m < size t.root + 2) (all_nodes t.root [])
