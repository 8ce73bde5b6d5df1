-- Masks of bits that tell instructions apart.
use Rattle.std.proofs.Common.{◌≡◌, ℕ, zero, suc, ◌+◌, ◌%◌, ◌^◌, ◌<◌, ◌≤◌, min, max, bit_and, bit_or, bit_xor, Bool, true, false, not, ◌&&◌, ◌||◌, ◌==◌, cond, if◌then◌else◌, List, [], ◌∷◌, length, drop, get_or, Option, Some, None, slice_get, sym, ap, ◌∙◌, refl, subst, ◌⊎◌, inl, inr, arith}
use Rattle.std.specs.Int.{bit_at}
use Rattle.std.specs.List.{filter}
use Rattle.std.proofs.Math.Seq.{drop-cons}
use Rattle.std.proofs.lemmas.List.{drop_all}
use Rattle.std.proofs.lemmas.Nat.Bits.{bit_at_and, bit_at_or, bit_at_xor, bit_at-lt, bit_at-zero}
use Rattle.std.proofs.lemmas.Bool.{false≢true, eqb-true, eq-eqb, or_left, or_right, or_cases, cases_eq, cases_lt}
use Rattle.cg_model.specs.Sound.{is_among}
use Rattle.cg_code_mask.specs.declared.format.Constants.{Constants}
use Rattle.cg_code_mask.proofs.Formats.{or_assoc, or_zero, zero_or}
use Rattle.cg_tree.specs.Trees.{is_set}
use Rattle.cg_tree.specs.Candidates.{constant_in, constant_at, agrees, TellsApart}
use Rattle.cg_tree.specs.Telling.{ones_of, zeros_of, any_one, any_zero, telling, ones_below, IsOne}
use Rattle.cg_tree.specs.Growing.{AreDone, IsNext}

-- the masks so far, with those of what is left, are those of all
pub record Masked (table : List Constants) (all rest : List ℕ) (zeros ones : ℕ) : Type 0 where
  pub clear : bit_or zeros (any_zero table rest) ≡ any_zero table all
  pub set : bit_or ones (any_one table rest) ≡ any_one table all

pub mask_none : (table : List Constants) (all : List ℕ) → Masked table all all 0 0
mask_none table all = record { clear = zero_or (any_zero table all); set = zero_or (any_one table all) }

pub mask_more : (table : List Constants) (all ks : List ℕ) (i d zeros ones z o : ℕ) → i < length ks → Masked table all (drop i ks) zeros ones → z ≡ zeros_of (slice_get table (get_or ks i d)) → o ≡ ones_of (slice_get table (get_or ks i d))
    → Masked table all (drop (i + 1) ks) (bit_or zeros z) (bit_or ones o)
mask_more table all ks i d zeros ones z o within so_far e f =
    let next : suc i ≡ i + 1 = omega arith in
    let parts : drop i ks ≡ get_or ks i d ∷ drop (i + 1) ks = drop-cons ks i d within ∙ ap (λ k. get_or ks i d ∷ drop k ks) next in
    let step : Masked table all (get_or ks i d ∷ drop (i + 1) ks) zeros ones = subst (λ rest. Masked table all rest zeros ones) parts so_far in
    let rest : List ℕ = drop (i + 1) ks in
    record {
      clear = ap (λ x. bit_or (bit_or zeros x) (any_zero table rest)) e ∙ or_assoc zeros (zeros_of (slice_get table (get_or ks i d))) (any_zero table rest) ∙ step.clear;
      set = ap (λ x. bit_or (bit_or ones x) (any_one table rest)) f ∙ or_assoc ones (ones_of (slice_get table (get_or ks i d))) (any_one table rest) ∙ step.set;
    }

pub mask_all : (table : List Constants) (all ks : List ℕ) (i zeros ones : ℕ) → length ks ≤ i → Masked table all (drop i ks) zeros ones → bit_and zeros ones ≡ telling table all
mask_all table all ks i zeros ones past so_far =
    let last : Masked table all [] zeros ones = subst (λ rest. Masked table all rest zeros ones) (drop_all i ks past) so_far in
    let e : zeros ≡ any_zero table all = sym (or_zero zeros) ∙ last.clear in
    let f : ones ≡ any_one table all = sym (or_zero ones) ∙ last.set in
    ap (λ x. bit_and x ones) e ∙ ap (bit_and (any_zero table all)) f

pub ruleset mask_rules = (mask_none, mask_more, mask_all)

-- ---- one instruction

-- what it has for a constant bit, by its two masks
one_in : (x v : ℕ) → x < 2 → v < 2 → min x v ≡ 1 → (if x == 1 then Some (v == 1) else None) ≡ Some true
one_in zero v h k e = absurd (omega (arith, e))
one_in (suc zero) zero h k e = absurd (omega (arith, e))
one_in (suc zero) (suc zero) h k e = refl
one_in (suc zero) (suc (suc v)) h k e = absurd (omega (arith, k))
one_in (suc (suc x)) v h k e = absurd (omega (arith, h))

one_from : (x v : ℕ) → x < 2 → v < 2 → (if x == 1 then Some (v == 1) else None) ≡ Some true → min x v ≡ 1
one_from zero v h k e = absurd (cc)
one_from (suc zero) zero h k e = absurd (cc)
one_from (suc zero) (suc zero) h k e = omega arith
one_from (suc zero) (suc (suc v)) h k e = absurd (omega (arith, k))
one_from (suc (suc x)) v h k e = absurd (omega (arith, h))

zero_in : (x v : ℕ) → x < 2 → v < 2 → (x + min x v) % 2 ≡ 1 → (if x == 1 then Some (v == 1) else None) ≡ Some false
zero_in zero v h k e = absurd (omega (arith, e))
zero_in (suc zero) zero h k e = refl
zero_in (suc zero) (suc zero) h k e = absurd (omega (arith, e))
zero_in (suc zero) (suc (suc v)) h k e = absurd (omega (arith, k))
zero_in (suc (suc x)) v h k e = absurd (omega (arith, h))

zero_from : (x v : ℕ) → x < 2 → v < 2 → (if x == 1 then Some (v == 1) else None) ≡ Some false → (x + min x v) % 2 ≡ 1
zero_from zero v h k e = absurd (cc)
zero_from (suc zero) zero h k e = omega arith
zero_from (suc zero) (suc zero) h k e = absurd (cc)
zero_from (suc zero) (suc (suc v)) h k e = absurd (omega (arith, k))
zero_from (suc (suc x)) v h k e = absurd (omega (arith, h))

ones_bit : (c : Constants) (q : ℕ) → bit_at (ones_of (Some c)) q ≡ min (bit_at c.cover q) (bit_at c.value q)
ones_bit c q = bit_at_and c.cover c.value q

zeros_bit : (c : Constants) (q : ℕ) → bit_at (zeros_of (Some c)) q ≡ (bit_at c.cover q + min (bit_at c.cover q) (bit_at c.value q)) % 2
zeros_bit c q = bit_at_xor c.cover (bit_and c.cover c.value) q ∙ ap (λ x. (bit_at c.cover q + x) % 2) (ones_bit c q)

set_in : (o : Option Constants) (q : ℕ) → bit_at (ones_of o) q ≡ 1 → constant_in o q ≡ Some true
set_in None q e = absurd (omega (arith, e, bit_at-zero q))
set_in (Some c) q e = one_in (bit_at c.cover q) (bit_at c.value q) (bit_at-lt c.cover q) (bit_at-lt c.value q) (sym (ones_bit c q) ∙ e)

set_from : (o : Option Constants) (q : ℕ) → constant_in o q ≡ Some true → bit_at (ones_of o) q ≡ 1
set_from None q e = absurd (cc)
set_from (Some c) q e = ones_bit c q ∙ one_from (bit_at c.cover q) (bit_at c.value q) (bit_at-lt c.cover q) (bit_at-lt c.value q) e

clear_in : (o : Option Constants) (q : ℕ) → bit_at (zeros_of o) q ≡ 1 → constant_in o q ≡ Some false
clear_in None q e = absurd (omega (arith, e, bit_at-zero q))
clear_in (Some c) q e = zero_in (bit_at c.cover q) (bit_at c.value q) (bit_at-lt c.cover q) (bit_at-lt c.value q) (sym (zeros_bit c q) ∙ e)

clear_from : (o : Option Constants) (q : ℕ) → constant_in o q ≡ Some false → bit_at (zeros_of o) q ≡ 1
clear_from None q e = absurd (cc)
clear_from (Some c) q e = zeros_bit c q ∙ zero_from (bit_at c.cover q) (bit_at c.value q) (bit_at-lt c.cover q) (bit_at-lt c.value q) e

-- ---- some instructions

-- one of them has this for a constant bit
record Has (table : List Constants) (ks : List ℕ) (q : ℕ) (constant : Bool) : Type 0 where
  number : ℕ
  among : is_among number ks ≡ true
  at : constant_at table number q ≡ Some constant

here : (table : List Constants) (k : ℕ) (ks : List ℕ) (q : ℕ) (b : Bool) → constant_at table k q ≡ Some b → Has table (k ∷ ks) q b
here table k ks q b is = record { number = k; among = or_left (k == k) (is_among k ks) (eq-eqb k k refl); at = is }

there : (table : List Constants) (k : ℕ) (ks : List ℕ) (q : ℕ) (b : Bool) → Has table ks q b → Has table (k ∷ ks) q b
there table k ks q b x = record { number = x.number; among = or_right (x.number == k) (is_among x.number ks) x.among; at = x.at }

-- of two bits of which one is 1, the first is, or the second
either : (a b : ℕ) → a < 2 → max a b ≡ 1 → (a ≡ 1) ⊎ (b ≡ 1)
either zero b h e = inr (omega (arith, e))
either (suc zero) b h e = inl refl
either (suc (suc a)) b h e = absurd (omega (arith, h))

one_has : (table : List Constants) (ks : List ℕ) (q : ℕ) → bit_at (any_one table ks) q ≡ 1 → Has table ks q true
one_has table [] q e = absurd (omega (arith, e, bit_at-zero q))
one_has table (k ∷ ks) q e = elim (either (bit_at (ones_of (slice_get table k)) q) (bit_at (any_one table ks) q) (bit_at-lt (ones_of (slice_get table k)) q) (sym (bit_at_or (ones_of (slice_get table k)) (any_one table ks) q) ∙ e)) [
  | inl first ↦ here table k ks q true (set_in (slice_get table k) q first)
  | inr rest ↦ there table k ks q true (one_has table ks q rest)
]

zero_has : (table : List Constants) (ks : List ℕ) (q : ℕ) → bit_at (any_zero table ks) q ≡ 1 → Has table ks q false
zero_has table [] q e = absurd (omega (arith, e, bit_at-zero q))
zero_has table (k ∷ ks) q e = elim (either (bit_at (zeros_of (slice_get table k)) q) (bit_at (any_zero table ks) q) (bit_at-lt (zeros_of (slice_get table k)) q) (sym (bit_at_or (zeros_of (slice_get table k)) (any_zero table ks) q) ∙ e)) [
  | inl first ↦ here table k ks q false (clear_in (slice_get table k) q first)
  | inr rest ↦ there table k ks q false (zero_has table ks q rest)
]

left_one : (a b : ℕ) → a ≡ 1 → b < 2 → max a b ≡ 1
left_one a b e h = omega (arith, e, h)

right_one : (a b : ℕ) → a < 2 → b ≡ 1 → max a b ≡ 1
right_one a b h e = omega (arith, e, h)

has_one : (table : List Constants) (ks : List ℕ) (k q : ℕ) → is_among k ks ≡ true → constant_at table k q ≡ Some true → bit_at (any_one table ks) q ≡ 1
has_one table [] k q among is = absurd (false≢true among)
has_one table (j ∷ js) k q among is =
    bit_at_or (ones_of (slice_get table j)) (any_one table js) q
    ∙ elim (or_cases (k == j) (is_among k js) among) [
      | inl same ↦ left_one _ _ (set_from (slice_get table j) q (sym (ap (λ n. constant_at table n q) (eqb-true k j same)) ∙ is)) (bit_at-lt (any_one table js) q)
      | inr later ↦ right_one _ _ (bit_at-lt (ones_of (slice_get table j)) q) (has_one table js k q later is)
    ]

has_zero : (table : List Constants) (ks : List ℕ) (k q : ℕ) → is_among k ks ≡ true → constant_at table k q ≡ Some false → bit_at (any_zero table ks) q ≡ 1
has_zero table [] k q among is = absurd (false≢true among)
has_zero table (j ∷ js) k q among is =
    bit_at_or (zeros_of (slice_get table j)) (any_zero table js) q
    ∙ elim (or_cases (k == j) (is_among k js) among) [
      | inl same ↦ left_one _ _ (clear_from (slice_get table j) q (sym (ap (λ n. constant_at table n q) (eqb-true k j same)) ∙ is)) (bit_at-lt (any_zero table js) q)
      | inr later ↦ right_one _ _ (bit_at-lt (zeros_of (slice_get table j)) q) (has_zero table js k q later is)
    ]

-- the bits of the mask are those that tell two instructions apart
both_one : (a b : ℕ) → a < 2 → b < 2 → min a b ≡ 1 → (a ≡ 1) × (b ≡ 1)
both_one a b h k e = (omega (arith, h, k, e), omega (arith, h, k, e))

pub told_apart : (table : List Constants) (ks : List ℕ) (q : ℕ) → is_set (telling table ks) q ≡ true → TellsApart table ks q
told_apart table ks q e =
    let bits : (bit_at (any_zero table ks) q ≡ 1) × (bit_at (any_one table ks) q ≡ 1) = both_one _ _ (bit_at-lt (any_zero table ks) q) (bit_at-lt (any_one table ks) q) (sym (bit_at_and (any_zero table ks) (any_one table ks) q) ∙ eqb-true (bit_at (telling table ks) q) 1 e) in
    let x : Has table ks q false = zero_has table ks q bits.0 in
    let y : Has table ks q true = one_has table ks q bits.1 in
    record { first = x.number; second = y.number; first_among = x.among; second_among = y.among; first_clear = x.at; second_set = y.at }

telling_one : (a b : ℕ) → a ≡ 1 → b ≡ 1 → min a b ≡ 1
telling_one a b e f = omega (arith, e, f)

pub apart_told : (table : List Constants) (ks : List ℕ) (q : ℕ) → TellsApart table ks q → bit_at (telling table ks) q ≡ 1
apart_told table ks q x =
    bit_at_and (any_zero table ks) (any_one table ks) q ∙ telling_one _ _ (has_zero table ks x.first q x.first_among x.first_clear) (has_one table ks x.second q x.second_among x.second_set)

-- where the mask is 0 no bit tells any apart
pub none_told : (table : List Constants) (ks : List ℕ) (told room : ℕ) → told ≡ telling table ks → told ≡ 0 → AreDone table ks room
none_told table ks told room is none = record {
  done = λ q x.
      let zero_there : bit_at (telling table ks) q ≡ 0 = ap (λ w. bit_at w q) (sym is ∙ none) ∙ bit_at-zero q in
      absurd (omega (arith, zero_there, apart_told table ks q x));
}

pub no_room : (table : List Constants) (ks : List ℕ) (room : ℕ) → room ≡ 0 → AreDone table ks room
no_room table ks room e = record { done = λ q x. e }

pub asked_next : (table : List Constants) (ks : List ℕ) (told room q : ℕ) → told ≡ telling table ks → 0 < room → IsOne told q → IsNext table ks room q
asked_next table ks told room q is some x = record { some = some; small = x.small; apart = told_apart table ks q (subst (λ w. is_set w q ≡ true) is x.one) }

pub ruleset next_rules = (none_told, no_room, asked_next)

-- ---- those that are left

-- of some of them no more bits are so than of all
fewer_ones : (table : List Constants) (p : ℕ → Bool) (ks : List ℕ) (q : ℕ) → bit_at (any_one table (filter p ks)) q ≤ bit_at (any_one table ks) q
fewer_ones table p [] q = omega arith
fewer_ones table p (k ∷ ks) q =
    let rest : bit_at (any_one table (filter p ks)) q ≤ bit_at (any_one table ks) q = fewer_ones table p ks q in
    let own : ℕ = ones_of (slice_get table k) in
    elim (p k) as (λ b. bit_at (any_one table (cond b (k ∷ filter p ks) (filter p ks))) q ≤ bit_at (any_one table (k ∷ ks)) q) [
      | true ↦ omega (arith, bit_at_or own (any_one table (filter p ks)) q, bit_at_or own (any_one table ks) q, rest)
      | false ↦ omega (arith, bit_at_or own (any_one table ks) q, rest)
    ]

fewer_zeros : (table : List Constants) (p : ℕ → Bool) (ks : List ℕ) (q : ℕ) → bit_at (any_zero table (filter p ks)) q ≤ bit_at (any_zero table ks) q
fewer_zeros table p [] q = omega arith
fewer_zeros table p (k ∷ ks) q =
    let rest : bit_at (any_zero table (filter p ks)) q ≤ bit_at (any_zero table ks) q = fewer_zeros table p ks q in
    let own : ℕ = zeros_of (slice_get table k) in
    elim (p k) as (λ b. bit_at (any_zero table (cond b (k ∷ filter p ks) (filter p ks))) q ≤ bit_at (any_zero table (k ∷ ks)) q) [
      | true ↦ omega (arith, bit_at_or own (any_zero table (filter p ks)) q, bit_at_or own (any_zero table ks) q, rest)
      | false ↦ omega (arith, bit_at_or own (any_zero table ks) q, rest)
    ]

pub fewer_told : (table : List Constants) (p : ℕ → Bool) (ks : List ℕ) (q : ℕ) → bit_at (telling table (filter p ks)) q ≤ bit_at (telling table ks) q
fewer_told table p ks q = omega (arith, bit_at_and (any_zero table (filter p ks)) (any_one table (filter p ks)) q, bit_at_and (any_zero table ks) (any_one table ks) q, fewer_zeros table p ks q, fewer_ones table p ks q)

either_bit : (a : ℕ) → a < 2 → (a ≡ 0) ⊎ (a ≡ 1)
either_bit zero h = inl refl
either_bit (suc zero) h = inr refl
either_bit (suc (suc a)) h = absurd (omega (arith, h))

-- what agrees with an answer isn't the other
not_set : (o : Option Constants) (q : ℕ) → agrees (constant_in o q) false ≡ true → bit_at (ones_of o) q ≡ 0
not_set o q ok = elim (either_bit (bit_at (ones_of o) q) (bit_at-lt (ones_of o) q)) [
  | inl none ↦ none
  | inr one ↦ absurd (false≢true (sym (ap (λ c. agrees c false) (set_in o q one)) ∙ ok))
]

not_clear : (o : Option Constants) (q : ℕ) → agrees (constant_in o q) true ≡ true → bit_at (zeros_of o) q ≡ 0
not_clear o q ok = elim (either_bit (bit_at (zeros_of o) q) (bit_at-lt (zeros_of o) q)) [
  | inl none ↦ none
  | inr one ↦ absurd (false≢true (sym (ap (λ c. agrees c true) (clear_in o q one)) ∙ ok))
]

one_kept : (table : List Constants) (k : ℕ) (ks : List ℕ) (q : ℕ) (b : Bool) → bit_at (any_one table ks) q ≡ 0 → (b ≡ true → bit_at (ones_of (slice_get table k)) q ≡ 0) → bit_at (any_one table (cond b (k ∷ ks) ks)) q ≡ 0
one_kept table k ks q true rest own = omega (arith, bit_at_or (ones_of (slice_get table k)) (any_one table ks) q, rest, own refl)
one_kept table k ks q false rest own = rest

zero_kept : (table : List Constants) (k : ℕ) (ks : List ℕ) (q : ℕ) (b : Bool) → bit_at (any_zero table ks) q ≡ 0 → (b ≡ true → bit_at (zeros_of (slice_get table k)) q ≡ 0) → bit_at (any_zero table (cond b (k ∷ ks) ks)) q ≡ 0
zero_kept table k ks q true rest own = omega (arith, bit_at_or (zeros_of (slice_get table k)) (any_zero table ks) q, rest, own refl)
zero_kept table k ks q false rest own = rest

no_one : (table : List Constants) (ks : List ℕ) (q : ℕ) → bit_at (any_one table (filter (λ k. agrees (constant_at table k q) false) ks)) q ≡ 0
no_one table [] q = bit_at-zero q
no_one table (k ∷ ks) q =
    let kept : ℕ → Bool = λ j. agrees (constant_at table j q) false in
    let rest : bit_at (any_one table (filter kept ks)) q ≡ 0 = no_one table ks q in
    let by_case : (b : Bool) → kept k ≡ b → bit_at (any_one table (cond b (k ∷ filter kept ks) (filter kept ks))) q ≡ 0 = λ b e. one_kept table k (filter kept ks) q b rest (λ t. not_set (slice_get table k) q (e ∙ t)) in
    by_case (kept k) refl

no_zero : (table : List Constants) (ks : List ℕ) (q : ℕ) → bit_at (any_zero table (filter (λ k. agrees (constant_at table k q) true) ks)) q ≡ 0
no_zero table [] q = bit_at-zero q
no_zero table (k ∷ ks) q =
    let kept : ℕ → Bool = λ j. agrees (constant_at table j q) true in
    let rest : bit_at (any_zero table (filter kept ks)) q ≡ 0 = no_zero table ks q in
    let by_case : (b : Bool) → kept k ≡ b → bit_at (any_zero table (cond b (k ∷ filter kept ks) (filter kept ks))) q ≡ 0 = λ b e. zero_kept table k (filter kept ks) q b rest (λ t. not_clear (slice_get table k) q (e ∙ t)) in
    by_case (kept k) refl

-- behind the answer 0, or 1, the bit tells none apart
pub told_no_more : (table : List Constants) (b : Bool) (ks : List ℕ) (q : ℕ) → bit_at (telling table (filter (λ k. agrees (constant_at table k q) b) ks)) q ≡ 0
told_no_more table false ks q =
    let kept : List ℕ = filter (λ k. agrees (constant_at table k q) false) ks in
    omega (arith, bit_at_and (any_zero table kept) (any_one table kept) q, no_one table ks q)
told_no_more table true ks q =
    let kept : List ℕ = filter (λ k. agrees (constant_at table k q) true) ks in
    omega (arith, bit_at_and (any_zero table kept) (any_one table kept) q, no_zero table ks q)

-- ---- how many bits are 1

before : (q n : ℕ) → q < suc n → (q ≡ n → ⊥) → q < n
before q n lt other = elim (cases_lt q n) [
  | inl less ↦ less
  | inr ge ↦ let same : q ≡ n = omega (arith, lt, ge) in absurd (other same)
]

fewer_below : (n a b : ℕ) → ((q : ℕ) → bit_at a q ≤ bit_at b q) → ones_below n a ≤ ones_below n b
unfolding ones_below
fewer_below zero a b h = omega arith
fewer_below (suc n) a b h = omega (arith, fewer_below n a b h, h n)

-- where one bit is gone there are fewer
pub one_fewer : (n a b q : ℕ) → q < n → ((p : ℕ) → bit_at a p ≤ bit_at b p) → bit_at a q ≡ 0 → bit_at b q ≡ 1 → ones_below n a < ones_below n b
unfolding ones_below
one_fewer zero a b q lt h none one = absurd (omega (arith, lt))
one_fewer (suc n) a b q lt h none one = elim (cases_eq q n) [
  | inl same ↦
      let e : bit_at a n ≡ 0 = sym (ap (bit_at a) same) ∙ none in
      let f : bit_at b n ≡ 1 = sym (ap (bit_at b) same) ∙ one in
      omega (arith, fewer_below n a b h, e, f)
  | inr other ↦ omega (arith, one_fewer n a b q (before q n lt other) h none one, h n)
]

pub at_most : (n w : ℕ) → ones_below n w ≤ n
unfolding ones_below
at_most zero w = omega arith
at_most (suc n) w = omega (arith, at_most n w, bit_at-lt w n)
