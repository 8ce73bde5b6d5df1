-- How code reads a field's bits and extends their number.
use Rattle.std.proofs.Common.{◌≡◌, ◌≢◌, ℕ, ◌+◌, ◌-◌, ◌*◌, ◌/◌, ◌%◌, ◌^◌, ◌<◌, ◌≤◌, Bool, true, false, nat_lt, if◌then◌else◌, ℤ, pos, sym, ap, ◌∙◌, refl, inl, inr, arith}
use Rattle.std.proofs.lemmas.Nat.{pow_pos, pow-add, mod_below, div_below, le-div, one_shl}
use Rattle.std.proofs.lemmas.Bool.{cases_lt}
use Rattle.std.proofs.lemmas.Bool.Decides.{nat_tests}
use Rattle.cg_base.specs.Modes.{bits_of, is_signed}
use Rattle.cg_base.specs.Operations.{wrapped}
use Rattle.cg_model.specs.Fields.{signed_bits, extended}
use Rattle.std.proofs.Math.Nat.{mod-eq_of_lt, pow-le-pow_right}
use Rattle.cg_model.specs.declared.field.Field.{Field}
use Rattle.cg_model.specs.Covers.{IsInWord}

-- a field has 64 bits at most
few_bits : (f : Field) → IsInWord f → 2 ^ f.length ≤ 2 ^ 64
few_bits f at = pow-le-pow_right {n = 2} (omega arith) {i = f.length} {j = 64} (omega (arith, at.within, at.few))

-- the lowest bits of a number, by a power that was shifted
pub low_bits : (f : Field) (n : ℕ) → IsInWord f → n % (1 * 2 ^ f.length % 2 ^ 128) ≡ n % 2 ^ f.length
low_bits f n at = ap (λ p. n % p) (one_shl f.length 128 (omega (arith, at.within, at.few)))

pub low_bits_fit : (f : Field) (n : ℕ) → IsInWord f → n % 2 ^ f.length % 2 ^ 64 ≡ n % 2 ^ f.length
low_bits_fit f n at = mod-eq_of_lt (omega (arith, mod_below n (2 ^ f.length) (pow_pos f.length), few_bits f at))

pub low_bits_below : (f : Field) (n : ℕ) → n % 2 ^ f.length < 2 ^ f.length
low_bits_below f n = mod_below n (2 ^ f.length) (pow_pos f.length)

-- a number that fits its mode is itself in it
small : (bits n : ℕ) → n < 2 ^ bits → wrapped bits (pos n) ≡ n
small bits n h = mod-eq_of_lt h

widened : (f : Field) (n : ℕ) → n < 2 ^ f.length → f.length ≤ bits_of f.mode → n < 2 ^ bits_of f.mode
widened f n fits within = let le : 2 ^ f.length ≤ 2 ^ bits_of f.mode = pow-le-pow_right (omega arith) within in omega (arith, le)

-- half of a number below a double
low_half : (h n : ℕ) → n / h ≢ 1 → n < h * 2 → n < h
low_half h n off fits = elim (cases_lt n h) [
  | inl lt ↦ lt
  | inr ge ↦
      let some : 0 < h = omega arith in
      let at_least : 1 ≤ n / h = le-div 1 n h some (omega arith) in
      let below : n / h < 2 = div_below n h 2 some (omega arith) in
      absurd (off (omega arith))
]

plain_either : (s : Bool) (bits n : ℕ) (z : ℤ) → z ≡ pos n → wrapped bits (pos n) ≡ n → wrapped bits (if s then z else pos n) ≡ n
plain_either true bits n z e h = ap (wrapped bits) e ∙ h
plain_either false bits n z e h = h

-- where the mode has no sign
pub without_sign : (f : Field) (n : ℕ) → is_signed f.mode ≡ false → n < 2 ^ f.length → f.length ≤ bits_of f.mode → n ≡ extended f n
without_sign f n plain fits within = sym (rw plain (small (bits_of f.mode) n (widened f n fits within)))

-- where the highest bit is off
pub not_negative : (f : Field) (n : ℕ) → 1 ≤ f.length → n / 2 ^ (f.length - 1) ≢ 1 → n < 2 ^ f.length → f.length ≤ bits_of f.mode → n ≡ extended f n
not_negative f n some off fits within =
    let e : (f.length - 1) + 1 ≡ f.length = omega arith in
    let double : 2 ^ f.length ≡ 2 ^ (f.length - 1) * 2 ^ 1 = ap (λ k. 2 ^ k) (sym e) ∙ pow-add 2 (f.length - 1) 1 in
    let below : n < 2 ^ (f.length - 1) = low_half (2 ^ (f.length - 1)) n off (omega (arith, double)) in
    let lt : nat_lt n (2 ^ (f.length - 1)) ≡ true = grind (arith, nat_tests) in
    sym (plain_either (is_signed f.mode) (bits_of f.mode) n (signed_bits f.length n) (rw lt refl) (small (bits_of f.mode) n (widened f n fits within)))

pub ruleset extending = (without_sign, not_negative)

pub ruleset reading = (low_bits, low_bits_fit, low_bits_below)
