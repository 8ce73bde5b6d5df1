-- The first two instructions that match the same number.
use Rattle.std.specs.Prelude.{◌≡◌, ℕ, ◌<◌, ◌≤◌, Bool, List, Some, slice_get, count_ones}
use Rattle.cg_ambig_pattern.specs.declared.pairs.Pattern.{Pattern}
use Rattle.cg_ambig_pattern.specs.Together.{Covers, Depends, Both}

-- Each pattern covers its constants, and names what its assertion asks for, 8 bits at most.
pub record AreSound (ps : List Pattern) (a : ℕ → ℕ → Bool) : Type 0 where
  pub covers : (k : ℕ) (p : Pattern) → slice_get ps k ≡ Some p → Covers p
  pub depends : (k : ℕ) (p : Pattern) → slice_get ps k ≡ Some p → Depends (a k) p.named
  pub few : (k : ℕ) (p : Pattern) → slice_get ps k ≡ Some p → count_ones p.named ≤ 8

-- Instructions i and j, i before j, both match w.
pub record Clashes (ps : List Pattern) (a : ℕ → ℕ → Bool) (i j w : ℕ) : Type 0 where
  pub before : i < j
  pub first : Pattern
  pub second : Pattern
  pub first_at : slice_get ps i ≡ Some first
  pub second_at : slice_get ps j ≡ Some second
  pub both : Both first second (a i) (a j) w

-- No two instructions match one number.
pub record NoClash (ps : List Pattern) (a : ℕ → ℕ → Bool) : Type 0 where
  pub none : (i j w : ℕ) → Clashes ps a i j w → ⊥

-- Of all pairs that clash, i and j are the first by i and then by j, and w is the least number that both match.
pub record IsFirst (ps : List Pattern) (a : ℕ → ℕ → Bool) (i j w : ℕ) : Type 0 where
  pub clashes : Clashes ps a i j w
  pub by_first : (k l v : ℕ) → Clashes ps a k l v → i ≤ k
  pub by_second : (l v : ℕ) → Clashes ps a i l v → j ≤ l
  pub least : (v : ℕ) → Clashes ps a i j v → w ≤ v

-- Instruction i clashes with none.
pub record NoneWith (ps : List Pattern) (a : ℕ → ℕ → Bool) (i : ℕ) : Type 0 where
  pub none : (j w : ℕ) → Clashes ps a i j w → ⊥

-- j is the first that instruction i clashes with, and w the least number that both match.
pub record IsFirstWith (ps : List Pattern) (a : ℕ → ℕ → Bool) (i j w : ℕ) : Type 0 where
  pub clashes : Clashes ps a i j w
  pub by_second : (l v : ℕ) → Clashes ps a i l v → j ≤ l
  pub least : (v : ℕ) → Clashes ps a i j v → w ≤ v

-- Instruction i clashes with none before number j.
pub record NoneBefore (ps : List Pattern) (a : ℕ → ℕ → Bool) (i j : ℕ) : Type 0 where
  pub none : (k w : ℕ) → k < j → Clashes ps a i k w → ⊥

-- No instruction before number i clashes with one behind it.
pub record NoPairBefore (ps : List Pattern) (a : ℕ → ℕ → Bool) (i : ℕ) : Type 0 where
  pub none : (k j w : ℕ) → k < i → Clashes ps a k j w → ⊥
