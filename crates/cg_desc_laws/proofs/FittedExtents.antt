-- A field that has its place is kept as it is written.
use Rattle.std.proofs.Common.{◌≡◌, ◌∙◌, ℕ, ◌+◌, ◌-◌, ◌≤◌, min, Bool, true, false, ◌&&◌, nat_le, ℤ, pos, negsuc, ◌-ℤ◌, int_le, refl, sym, ap, arith}
use Rattle.std.proofs.lemmas.Bool.{false≢true}
use Rattle.std.proofs.lemmas.Bool.Decides.{nat_tests}
use Rattle.std.proofs.lemmas.Int.{ints}
use Rattle.cg_base.specs.Modes.{bits_of}
use Rattle.cg_desc_data.specs.declared.extent.Extent.{Extent}
use Rattle.cg_desc_data.specs.Extents.{has_place, low, length_within}
use Rattle.cg_desc_data.specs.Framing.{cut}

-- Its bits lie in its word, and are no more than its mode has.
pub record Lies (e : Extent) : Type 0 where
  pub bits : ℕ
  pub is : e.length ≡ pos bits
  pub own : length_within e ≡ bits
  pub some : 1 ≤ bits
  pub within : low e + bits ≤ e.word_bits
  pub fits : bits ≤ bits_of e.mode

four : (a b c d : Bool) → (a && b && c && d) ≡ true → (a ≡ true) × (b ≡ true) × (c ≡ true) × (d ≡ true)
four true true true true h = (refl, refl, refl, refl)
four true true true false h = absurd (false≢true h)
four true true false d h = absurd (false≢true h)
four true false c d h = absurd (false≢true h)
four false b c d h = absurd (false≢true h)

at_most : (a b : ℕ) → nat_le a b ≡ true → a ≤ b
at_most a b h = grind (arith, nat_tests)

-- the lowest bit, and how many there are
low_is : (n t bits : ℕ) → n ≤ t → t ≤ bits → cut bits (pos t -ℤ pos n) ≡ t - n
low_is n t bits within top =
    let same : pos t -ℤ pos n ≡ pos (t - n) = omega (arith, ints) in
    let least : min (t - n) bits ≡ t - n = omega arith in
    ap (cut bits) same ∙ least

own_is : (n t bits : ℕ) → n ≤ t → t ≤ bits → cut bits (pos t) - cut bits (pos t -ℤ pos n) ≡ n
own_is n t bits within top =
    let all : min t bits ≡ t = omega arith in
    let rest : t - (t - n) ≡ n = omega arith in
    ap (λ k. k - cut bits (pos t -ℤ pos n)) all ∙ ap (λ k. t - k) (low_is n t bits within top) ∙ rest

pub lies : (e : Extent) → has_place e ≡ true → Lies e
lies e h = by e.length refl e.top refl where
  all : (int_le (pos 1) e.length ≡ true) × (int_le e.length e.top ≡ true) × (int_le e.top (pos e.word_bits) ≡ true) × (int_le e.length (pos (bits_of e.mode)) ≡ true)
  all = four (int_le (pos 1) e.length) (int_le e.length e.top) (int_le e.top (pos e.word_bits)) (int_le e.length (pos (bits_of e.mode))) h

  by : (z : ℤ) → e.length ≡ z → (t : ℤ) → e.top ≡ t → Lies e
  by (negsuc n) is t at = let never : int_le (pos 1) (negsuc n) ≡ true = sym (ap (int_le (pos 1)) is) ∙ all.0 in absurd (false≢true never)
  by (pos n) is (negsuc t) at = let never : int_le (pos n) (negsuc t) ≡ true = sym (ap (λ z. int_le z (negsuc t)) is) ∙ sym (ap (int_le e.length) at) ∙ all.1 in absurd (false≢true never)
  by (pos n) is (pos t) at =
      let first : int_le (pos 1) (pos n) ≡ true = sym (ap (int_le (pos 1)) is) ∙ all.0 in
      let second : int_le (pos n) (pos t) ≡ true = sym (ap (λ z. int_le z (pos t)) is) ∙ sym (ap (int_le e.length) at) ∙ all.1 in
      let third : int_le (pos t) (pos e.word_bits) ≡ true = sym (ap (λ z. int_le z (pos e.word_bits)) at) ∙ all.2 in
      let fourth : int_le (pos n) (pos (bits_of e.mode)) ≡ true = sym (ap (λ z. int_le z (pos (bits_of e.mode))) is) ∙ all.3 in
      let some : 1 ≤ n = at_most 1 n first in
      let in_top : n ≤ t = at_most n t second in
      let in_word : t ≤ e.word_bits = at_most t e.word_bits third in
      let lowest : low e ≡ t - n = ap (λ z. cut e.word_bits (z -ℤ e.length)) at ∙ ap (λ z. cut e.word_bits (pos t -ℤ z)) is ∙ low_is n t e.word_bits in_top in_word in
      let count : length_within e ≡ n =
      ap (λ z. cut e.word_bits z - cut e.word_bits (z -ℤ e.length)) at ∙ ap (λ z. cut e.word_bits (pos t) - cut e.word_bits (pos t -ℤ z)) is ∙ own_is n t e.word_bits in_top in_word in
      record {
        bits = n;
        is = is;
        own = count;
        some = some;
        within = omega (arith, lowest, in_top, in_word);
        fits = at_most n (bits_of e.mode) fourth;
      }
