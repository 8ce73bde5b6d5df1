-- Lists of tight nodes, and the candidates behind a test.
use Rattle.std.proofs.Common.{◌≡◌, ℕ, Bool, true, false, ◌&&◌, cond, List, [], ◌∷◌, ◌++◌, sym, ap, ◌∙◌, refl}
use Rattle.std.specs.List.{filter, list_all}
use Rattle.cg_code_mask.specs.declared.format.Constants.{Constants}
use Rattle.cg_tree.specs.Trees.{Tested, Node, past_test}
use Rattle.cg_tree.specs.Trees.Node.{leaf_at, test_at}
use Rattle.cg_tree.specs.Candidates.{constant_at, agrees, is_candidate, candidates, IsTightAt, AreTight}

pub tight_both : (table : List Constants) (ks : List ℕ) (full : Type 0) (ns ms : List Node) → AreTight table ks full ns → AreTight table ks full ms → AreTight table ks full (ns ++ ms)
tight_both table ks full [] ms x y = y
tight_both table ks full (n ∷ ns) ms x y = (x.0, tight_both table ks full ns ms x.1 y)

pub tight_front : (table : List Constants) (ks : List ℕ) (full : Type 0) (ns ms : List Node) → AreTight table ks full (ns ++ ms) → AreTight table ks full ns
tight_front table ks full [] ms x = tt
tight_front table ks full (n ∷ ns) ms x = (x.0, tight_front table ks full ns ms x.1)

pub tight_back : (table : List Constants) (ks : List ℕ) (full : Type 0) (ns ms : List Node) → AreTight table ks full (ns ++ ms) → AreTight table ks full ms
tight_back table ks full [] ms x = x
tight_back table ks full (n ∷ ns) ms x = tight_back table ks full ns ms x.1

weaker_at : (table : List Constants) (ks : List ℕ) (full other : Type 0) (n : Node) → (full → other) → IsTightAt table ks full n → IsTightAt table ks other n
weaker_at table ks full other (leaf_at path listed) f x = (x.0, λ bit apart. f (x.1 bit apart))
weaker_at table ks full other (test_at path bit) f x = x

-- a tree that is full by one account is tight by a weaker one
pub tight_weaker : (table : List Constants) (ks : List ℕ) (full other : Type 0) (ns : List Node) → (full → other) → AreTight table ks full ns → AreTight table ks other ns
tight_weaker table ks full other [] f x = tt
tight_weaker table ks full other (n ∷ ns) f x = (weaker_at table ks full other n f x.0, tight_weaker table ks full other ns f x.1)

-- the candidates behind a test are those of its node that agree with the answer
filter_once : (table : List Constants) (ks : List ℕ) (path : List Tested) (k bit : ℕ) (answer a b : Bool) → filter (λ j. agrees (constant_at table j bit) answer) (candidates table ks path) ≡ candidates table ks (past_test bit answer path)
    → agrees (constant_at table k bit) answer ≡ a → filter (λ j. agrees (constant_at table j bit) answer) (cond b (k ∷ candidates table ks path) (candidates table ks path)) ≡ cond (a && b) (k ∷ candidates table ks (past_test bit answer path)) (candidates table ks (past_test bit answer path))
filter_once table ks path k bit answer true true rest e = ap (λ c. cond c (k ∷ filter (λ j. agrees (constant_at table j bit) answer) (candidates table ks path)) (filter (λ j. agrees (constant_at table j bit) answer) (candidates table ks path))) e ∙ ap (λ xs. k ∷ xs) rest
filter_once table ks path k bit answer false true rest e = ap (λ c. cond c (k ∷ filter (λ j. agrees (constant_at table j bit) answer) (candidates table ks path)) (filter (λ j. agrees (constant_at table j bit) answer) (candidates table ks path))) e ∙ rest
filter_once table ks path k bit answer true false rest e = rest
filter_once table ks path k bit answer false false rest e = rest

pub behind_test : (table : List Constants) (ks : List ℕ) (path : List Tested) (bit : ℕ) (answer : Bool) → filter (λ j. agrees (constant_at table j bit) answer) (candidates table ks path) ≡ candidates table ks (past_test bit answer path)
behind_test table [] path bit answer = refl
behind_test table (k ∷ ks) path bit answer = filter_once table ks path k bit answer (agrees (constant_at table k bit) answer) (is_candidate table path k) (behind_test table ks path bit answer) refl

-- in front of all tests each is a candidate
pub no_tests : (table : List Constants) (ks : List ℕ) → ks ≡ candidates table ks []
no_tests table [] = refl
no_tests table (k ∷ ks) = ap (λ xs. k ∷ xs) (no_tests table ks)
