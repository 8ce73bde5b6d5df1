-- The first pair by its first instruction and then by its second.
use Rattle.std.proofs.Common.{◌≡◌, ℕ, ◌+◌, ◌<◌, ◌≤◌, Bool, List, length, get_or, sym, subst, inl, inr, arith}
use Rattle.std.proofs.lemmas.Option.{get_or_from_slice_get, slice_get-get_or, slice_get_within}
use Rattle.std.proofs.lemmas.Bool.{cases_lt}
use Rattle.cg_ambig_pattern.specs.declared.pairs.Pattern.{Pattern}
use Rattle.cg_ambig_pattern.specs.Together.{Both, Never, IsLeast}
use Rattle.cg_ambig_pattern.specs.First.{Clashes, NoClash, IsFirst, NoneWith, IsFirstWith, NoneBefore, NoPairBefore}

-- what stands at the two places of a clash
both_at : (ps : List Pattern) (a : ℕ → ℕ → Bool) (i j w : ℕ) (d : Pattern) → Clashes ps a i j w → Both (get_or ps i d) (get_or ps j d) (a i) (a j) w
both_at ps a i j w d x =
    subst (λ p. Both p (get_or ps j d) (a i) (a j) w) (sym (get_or_from_slice_get ps i x.first d x.first_at))
    (subst (λ q. Both x.first q (a i) (a j) w) (sym (get_or_from_slice_get ps j x.second d x.second_at)) x.both)

clash_at : (ps : List Pattern) (a : ℕ → ℕ → Bool) (i j w : ℕ) (d : Pattern) → i < j → j < length ps → Both (get_or ps i d) (get_or ps j d) (a i) (a j) w → Clashes ps a i j w
clash_at ps a i j w d before within both = record {
  before = before;
  first = get_or ps i d;
  second = get_or ps j d;
  first_at = slice_get-get_or ps i d (omega arith);
  second_at = slice_get-get_or ps j d within;
  both = both;
}

-- no instruction before this one clashes with number i, and this one doesn't
pub none_up_to : (ps : List Pattern) (a : ℕ → ℕ → Bool) (i j : ℕ) (d : Pattern) → NoneBefore ps a i j → Never (Both (get_or ps i d) (get_or ps j d) (a i) (a j))
    → NoneBefore ps a i (j + 1)
none_up_to ps a i j d before never = record {
  none = λ k v below x.
      elim (cases_lt k j) [
        | inl lt ↦ before.none k v lt x
        | inr ge ↦ let e : k ≡ j = omega arith in never.never v (both_at ps a i j v d (subst (λ n. Clashes ps a i n v) e x))
      ];
}

pub none_at_all : (ps : List Pattern) (a : ℕ → ℕ → Bool) (i j : ℕ) → length ps ≤ j → NoneBefore ps a i j → NoneWith ps a i
none_at_all ps a i j past before = record { none = λ k v x. before.none k v (omega (arith, slice_get_within ps k x.second x.second_at)) x }

pub first_behind : (ps : List Pattern) (a : ℕ → ℕ → Bool) (i j w : ℕ) (d : Pattern) → i < j → j < length ps → NoneBefore ps a i j
    → IsLeast (Both (get_or ps i d) (get_or ps j d) (a i) (a j)) w → IsFirstWith ps a i j w
first_behind ps a i j w d before within none found = record {
  clashes = clash_at ps a i j w d before within found.holds;
  by_second = λ l v x. elim (cases_lt l j) [ inl lt ↦ absurd (none.none l v lt x) | inr ge ↦ ge ];
  least = λ v x. found.least v (both_at ps a i j v d x);
}

-- no instruction before this one clashes with one behind it, and this one doesn't
pub none_so_far : (ps : List Pattern) (a : ℕ → ℕ → Bool) (i : ℕ) → NoPairBefore ps a i → NoneWith ps a i → NoPairBefore ps a (i + 1)
none_so_far ps a i before none = record {
  none = λ k j v below x.
      elim (cases_lt k i) [
        | inl lt ↦ before.none k j v lt x
        | inr ge ↦ let e : k ≡ i = omega arith in none.none j v (subst (λ n. Clashes ps a n j v) e x)
      ];
}

pub no_pair : (ps : List Pattern) (a : ℕ → ℕ → Bool) (i : ℕ) → length ps ≤ i → NoPairBefore ps a i → NoClash ps a
no_pair ps a i past before = record { none = λ k j v x. before.none k j v (omega (arith, slice_get_within ps k x.first x.first_at)) x }

pub first_of_all : (ps : List Pattern) (a : ℕ → ℕ → Bool) (i j w : ℕ) → NoPairBefore ps a i → IsFirstWith ps a i j w → IsFirst ps a i j w
first_of_all ps a i j w none found = record {
  clashes = found.clashes;
  by_first = λ k l v x. elim (cases_lt k i) [ inl lt ↦ absurd (none.none k l v lt x) | inr ge ↦ ge ];
  by_second = found.by_second;
  least = found.least;
}

-- no place is before the one behind i, for a pair in order
pub nothing_yet : (ps : List Pattern) (a : ℕ → ℕ → Bool) (i j : ℕ) → j ≡ i + 1 → NoneBefore ps a i j
nothing_yet ps a i j e = record { none = λ k v below x. omega (arith, x.before) }

pub nothing_at_all : (ps : List Pattern) (a : ℕ → ℕ → Bool) (i : ℕ) → i ≡ 0 → NoPairBefore ps a i
nothing_at_all ps a i e = record { none = λ k j v below x. omega arith }

pub ruleset behind = (none_up_to, none_at_all, first_behind, nothing_yet)

pub ruleset pairs = (none_so_far, no_pair, first_of_all, nothing_at_all)
