-- How many bits are open: as many as the assertions name, at most.
use Rattle.std.proofs.Common.{◌≡◌, ℕ, zero, suc, ◌+◌, ◌*◌, ◌/◌, ◌%◌, ◌^◌, ◌<◌, ◌≤◌, bit_and, bit_or, count_ones, sym, ap, ◌∙◌, refl, subst, arith}
use Rattle.std.proofs.lemmas.Nat.{ones_cat, or_block, and_block, div-add-mod', mod_below, and_le_r, or_lt, ones_le_self}
use Rattle.std.proofs.lemmas.Nat.Bits.{bit_at_and, bit_at_or, bit_at_xor, bit_at-lt, same_from_bits}
use Rattle.std.proofs.Math.Nat.{pow-suc, pow-le-pow_right}
use Rattle.cg_ambig_pattern.specs.declared.pairs.Pattern.{Pattern}
use Rattle.cg_ambig_pattern.specs.Together.{open_bits}

bit_of_either : (r s : ℕ) → r < 2 → s < 2 → count_ones (bit_or r s) ≤ count_ones r + count_ones s
bit_of_either zero zero h k = omega arith
bit_of_either zero (suc zero) h k = omega arith
bit_of_either (suc zero) zero h k = omega arith
bit_of_either (suc zero) (suc zero) h k = omega arith
bit_of_either (suc (suc r)) s h k = absurd (omega (arith, h))
bit_of_either r (suc (suc s)) h k = absurd (omega (arith, k))

bit_of_both : (r s : ℕ) → r < 2 → s < 2 → count_ones (bit_and r s) ≤ count_ones s
bit_of_both zero zero h k = let e : bit_and 0 0 ≡ 0 = refl in omega (arith, ap count_ones e, ones_le_self 0)
bit_of_both zero (suc zero) h k = let e : bit_and 0 1 ≡ 0 = refl in omega (arith, ap count_ones e, ones_le_self 0)
bit_of_both (suc zero) zero h k = let e : bit_and 1 0 ≡ 0 = refl in omega (arith, ap count_ones e, ones_le_self 0)
bit_of_both (suc zero) (suc zero) h k = let e : bit_and 1 1 ≡ 1 = refl in omega (arith, ap count_ones e)
bit_of_both (suc (suc r)) s h k = absurd (omega (arith, h))
bit_of_both r (suc (suc s)) h k = absurd (omega (arith, k))

halved : (a : ℕ) → a / 2 * 2 ^ 1 + a % 2 ≡ a
halved a = div-add-mod' a 2

of_half : (a k : ℕ) → a < 2 ^ suc k → a / 2 < 2 ^ k
of_half a k h = omega (arith, h, pow-suc 2 k)

ones_split : (a : ℕ) → count_ones a ≡ count_ones (a / 2) + count_ones (a % 2)
ones_split a = ap count_ones (sym (halved a)) ∙ ones_cat 1 (a / 2) (a % 2) (mod_below a 2 (omega arith))

-- together two numbers have no more bits than both have
pub ones_of_either : (k a b : ℕ) → a < 2 ^ k → b < 2 ^ k → count_ones (bit_or a b) ≤ count_ones a + count_ones b
ones_of_either zero a b h l = let e : a ≡ 0 = omega (arith, h) in let f : b ≡ 0 = omega (arith, l) in rw (e, f) (omega arith)
ones_of_either (suc k) a b h l =
    let joined : bit_or a b ≡ bit_or (a / 2) (b / 2) * 2 ^ 1 + bit_or (a % 2) (b % 2) =
    ap (λ x. bit_or x b) (sym (halved a)) ∙ ap (bit_or (a / 2 * 2 ^ 1 + a % 2)) (sym (halved b)) ∙ or_block 1 (a / 2) (b / 2) (a % 2) (b % 2) (mod_below a 2 (omega arith)) (mod_below b 2 (omega arith)) in
    let small : bit_or (a % 2) (b % 2) < 2 ^ 1 = or_lt 1 (a % 2) (b % 2) (mod_below a 2 (omega arith)) (mod_below b 2 (omega arith)) in
    let counted : count_ones (bit_or a b) ≡ count_ones (bit_or (a / 2) (b / 2)) + count_ones (bit_or (a % 2) (b % 2)) = ap count_ones joined ∙ ones_cat 1 (bit_or (a / 2) (b / 2)) (bit_or (a % 2) (b % 2)) small in
    omega (arith, counted, ones_split a, ones_split b, ones_of_either k (a / 2) (b / 2) (of_half a k h) (of_half b k l), bit_of_either (a % 2) (b % 2) (mod_below a 2 (omega arith)) (mod_below b 2 (omega arith)))

-- and what they share has no more bits than one of them
pub ones_of_both : (k a b : ℕ) → a < 2 ^ k → b < 2 ^ k → count_ones (bit_and a b) ≤ count_ones b
ones_of_both zero a b h l = let e : a ≡ 0 = omega (arith, h) in let f : b ≡ 0 = omega (arith, l) in rw (e, f) (omega arith)
ones_of_both (suc k) a b h l =
    let shared : bit_and a b ≡ bit_and (a / 2) (b / 2) * 2 ^ 1 + bit_and (a % 2) (b % 2) =
    ap (λ x. bit_and x b) (sym (halved a)) ∙ ap (bit_and (a / 2 * 2 ^ 1 + a % 2)) (sym (halved b)) ∙ and_block 1 (a / 2) (b / 2) (a % 2) (b % 2) (mod_below a 2 (omega arith)) (mod_below b 2 (omega arith)) in
    let below : b % 2 < 2 = mod_below b 2 (omega arith) in
    let small : bit_and (a % 2) (b % 2) < 2 ^ 1 = omega (arith, and_le_r (a % 2) (b % 2), below) in
    let counted : count_ones (bit_and a b) ≡ count_ones (bit_and (a / 2) (b / 2)) + count_ones (bit_and (a % 2) (b % 2)) = ap count_ones shared ∙ ones_cat 1 (bit_and (a / 2) (b / 2)) (bit_and (a % 2) (b % 2)) small in
    omega (arith, counted, ones_split b, ones_of_both k (a / 2) (b / 2) (of_half a k h) (of_half b k l), bit_of_both (a % 2) (b % 2) (mod_below a 2 (omega arith)) (mod_below b 2 (omega arith)))

-- the open bits are bits that the assertions name
open_named : (p q : Pattern) → bit_and (open_bits p q) (bit_or p.named q.named) ≡ open_bits p q
open_named p q = same_from_bits _ _ (λ i.
    simp (bit_at_and, bit_at_or, bit_at_xor) (omega (arith, bit_at-lt p.named i, bit_at-lt q.named i, bit_at-lt p.cover i, bit_at-lt q.cover i)))

below_power : (n : ℕ) → n < 2 ^ n
below_power zero = omega arith
below_power (suc n) = omega (arith, below_power n, pow-suc 2 n)

below_both : (a b : ℕ) → a < 2 ^ (a + b)
below_both a b = let le : 2 ^ a ≤ 2 ^ (a + b) = pow-le-pow_right (omega arith) (omega arith) in omega (arith, below_power a, le)

below_second : (a b : ℕ) → b < 2 ^ (a + b)
below_second a b = let e : b + a ≡ a + b = omega arith in subst (λ k. b < 2 ^ k) e (below_both b a)

pub few_open : (p q : Pattern) → count_ones p.named ≤ 8 → count_ones q.named ≤ 8 → count_ones (open_bits p q) ≤ 16
few_open p q a b =
    let named : ℕ = bit_or p.named q.named in
    let all : count_ones (open_bits p q) ≤ count_ones named =
    omega (arith, ap count_ones (open_named p q), ones_of_both (open_bits p q + named) (open_bits p q) named (below_both (open_bits p q) named) (below_second (open_bits p q) named)) in
    omega (arith, all, ones_of_either (p.named + q.named) p.named q.named (below_both p.named q.named) (below_second p.named q.named))
