-- Rows of settings: which bits they cover, and what stands after them.
use Rattle.std.proofs.Common.{◌≡◌, ℕ, ◌+◌, ◌%◌, ◌^◌, ◌<◌, ◌≤◌, min, max, bit_and, bit_or, List, [], ◌∷◌, ◌++◌, length, sym, ap, ◌∙◌, refl, subst, arith}
use Rattle.std.specs.Int.{bit_at}
use Rattle.std.proofs.lemmas.Nat.Bits.{bit_at_and, bit_at_or, bit_at_xor, bit_at-lt, bit_at-zero, same_from_bits}
use Rattle.cg_model.specs.Clashing.{AreBytes}
use Rattle.cg_model.specs.Covers.{IsPlaced, cover_of}
use Rattle.cg_model.specs.Encoding.{Setting, with_bits, with_all}
use Rattle.cg_model.specs.declared.machine.Machine.{Machine}
use Rattle.cg_code_mask.specs.View.{whole, placed, with_set}
use Rattle.cg_code_mask.proofs.FieldLaws.{placed_inside, stands_in_whole}
use Rattle.cg_code_mask.proofs.Puts.{set_apart}
use Rattle.cg_code_laws.specs.Laws.{AreHeld}
use Rattle.cg_code_laws.proofs.Putting.{set_length, set_bytes, whole_is_set}

-- each field is placed, and its bits fit
unfoldable pub AreFine : List Setting → Type 0
AreFine [] = Unit {0}
AreFine (x ∷ xs) = IsPlaced x.field × (x.bits < 2 ^ x.field.length) × AreFine xs

-- the bits that they cover
unfoldable pub covers : Machine → List Setting → ℕ
covers m [] = 0
covers m (x ∷ xs) = bit_or (cover_of m x.field) (covers m xs)

-- each bit of a is one of b
pub record IsUnder (a b : ℕ) : Type 0 where
  pub each : (q : ℕ) → bit_at a q ≤ bit_at b q

pub under_apart : (a b d : ℕ) → IsUnder a b → bit_and b d ≡ 0 → bit_and a d ≡ 0
under_apart a b d h none = same_from_bits _ _ (λ q.
    let no : min (bit_at b q) (bit_at d q) ≡ 0 = sym (bit_at_and b d q) ∙ ap (λ x. bit_at x q) none ∙ bit_at-zero q in
    simp (bit_at_and, bit_at-zero) (omega (arith, no, h.each q)))

under_nothing : (b : ℕ) → IsUnder 0 b
under_nothing b = record { each = λ q. omega (arith, bit_at-zero q) }

under_self : (a : ℕ) → IsUnder a a
under_self a = record { each = λ q. omega arith }

under_then : (a b c : ℕ) → IsUnder a b → IsUnder b c → IsUnder a c
under_then a b c h k = record { each = λ q. omega (arith, h.each q, k.each q) }

under_both : (a b c d : ℕ) → IsUnder a c → IsUnder b d → IsUnder (bit_or a b) (bit_or c d)
under_both a b c d h k = record { each = λ q. omega (arith, bit_at_or a b q, bit_at_or c d q, h.each q, k.each q) }

under_second : (b c d : ℕ) → IsUnder b d → IsUnder b (bit_or c d)
under_second b c d k = record { each = λ q. omega (arith, bit_at_or c d q, k.each q) }

under_or_nothing : (a b : ℕ) → IsUnder a b → IsUnder (bit_or a 0) b
under_or_nothing a b h = record { each = λ q. omega (arith, bit_at_or a 0 q, bit_at-zero q, h.each q) }

under_and_nothing : (a b : ℕ) → IsUnder a b → IsUnder a (bit_or b 0)
under_and_nothing a b h = record { each = λ q. omega (arith, bit_at_or b 0 q, h.each q) }

-- bits that are all among others show as they are
pub shown_whole : (w a : ℕ) → IsUnder w a → bit_and w a ≡ w
shown_whole w a h = same_from_bits _ _ (λ q. simp bit_at_and (omega (arith, h.each q)))

pub under_shown : (w a : ℕ) → bit_and w a ≡ w → IsUnder w a
under_shown w a e = record { each = λ q. omega (arith, sym (bit_at_and w a q) ∙ ap (λ x. bit_at x q) e) }

or_assoc : (a b c : ℕ) → bit_or (bit_or a b) c ≡ bit_or a (bit_or b c)
or_assoc a b c = same_from_bits _ _ (λ q. simp bit_at_or (omega arith))

or_nothing : (a : ℕ) → bit_or a 0 ≡ a
or_nothing a = same_from_bits _ _ (λ q. simp (bit_at_or, bit_at-zero) (omega arith))

nothing_or : (a : ℕ) → bit_or 0 a ≡ a
nothing_or a = same_from_bits _ _ (λ q. simp (bit_at_or, bit_at-zero) (omega arith))

pub covers_both : (m : Machine) (xs ys : List Setting) → covers m (xs ++ ys) ≡ bit_or (covers m xs) (covers m ys)
unfolding covers
covers_both m [] ys = sym (nothing_or (covers m ys))
covers_both m (x ∷ xs) ys = ap (bit_or (cover_of m x.field)) (covers_both m xs ys) ∙ sym (or_assoc (cover_of m x.field) (covers m xs) (covers m ys))

pub fine_both : (xs ys : List Setting) → AreFine xs → AreFine ys → AreFine (xs ++ ys)
unfolding AreFine
fine_both [] ys h k = k
fine_both (x ∷ xs) ys h k = (h.0, h.1, fine_both xs ys h.2 k)

-- what is set is as many bytes
pub all_length : (m : Machine) (xs : List Setting) (bytes : List ℕ) → AreFine xs → length bytes ≡ 16 → length (with_all m xs bytes) ≡ 16
unfolding AreFine
all_length m [] bytes h long = long
all_length m (x ∷ xs) bytes h long = all_length m xs (with_bits m x.field x.bits bytes) h.2 (set_length m x.field x.bits bytes h.0 long)

pub all_bytes : (m : Machine) (xs : List Setting) (bytes : List ℕ) → AreFine xs → length bytes ≡ 16 → AreBytes bytes → AreBytes (with_all m xs bytes)
unfolding AreFine
all_bytes m [] bytes h long are = are
all_bytes m (x ∷ xs) bytes h long are =
    all_bytes m xs (with_bits m x.field x.bits bytes) h.2 (set_length m x.field x.bits bytes h.0 long) (set_bytes m x.field x.bits bytes h.0 long are)

-- bits that are not covered stay
pub kept : (m : Machine) (xs : List Setting) (bytes : List ℕ) (d : ℕ) → AreFine xs → length bytes ≡ 16 → AreBytes bytes → bit_and (covers m xs) d ≡ 0 → bit_and (whole (with_all m xs bytes)) d ≡ bit_and (whole bytes) d
unfolding AreFine covers
kept m [] bytes d h long are apart = refl
kept m (x ∷ xs) bytes d h long are apart =
    let first : bit_and (cover_of m x.field) d ≡ 0 = under_apart (cover_of m x.field) (bit_or (cover_of m x.field) (covers m xs)) d (record { each = λ q. omega (arith, bit_at_or (cover_of m x.field) (covers m xs) q) }) apart in
    let rest : bit_and (covers m xs) d ≡ 0 = under_apart (covers m xs) (bit_or (cover_of m x.field) (covers m xs)) d (under_second (covers m xs) (cover_of m x.field) (covers m xs) (under_self (covers m xs))) apart in
    kept m xs (with_bits m x.field x.bits bytes) d h.2 (set_length m x.field x.bits bytes h.0 long) (set_bytes m x.field x.bits bytes h.0 long are) rest
    ∙ ap (λ w. bit_and w d) (whole_is_set m x.field x.bits bytes h.0 h.1 long are)
    ∙ set_apart (cover_of m x.field) (placed m x.field x.bits) (whole bytes) d (placed_inside m x.field x.bits h.0 h.1) first

-- bits that are set are bits that are covered
pub set_under : (m : Machine) (xs : List Setting) (bytes : List ℕ) (s : ℕ) → AreFine xs → length bytes ≡ 16 → AreBytes bytes → IsUnder (whole bytes) s → IsUnder (whole (with_all m xs bytes)) (bit_or s (covers m xs))
unfolding AreFine covers
set_under m [] bytes s h long are under = under_and_nothing (whole bytes) s under
set_under m (x ∷ xs) bytes s h long are under =
    let c : ℕ = cover_of m x.field in
    let v : ℕ = placed m x.field x.bits in
    let inside : bit_and v c ≡ v = placed_inside m x.field x.bits h.0 h.1 in
    let next : IsUnder (with_set c v (whole bytes)) (bit_or s c) = record {
      each = λ q.
          let one : min (bit_at v q) (bit_at c q) ≡ bit_at v q = sym (bit_at_and v c q) ∙ ap (λ y. bit_at y q) inside in
          let bit : bit_at (with_set c v (whole bytes)) q ≡ max ((max (bit_at (whole bytes) q) (bit_at c q) + bit_at c q) % 2) (bit_at v q) = simp (bit_at_or, bit_at_xor) refl in
          omega (arith, bit, one, bit_at_or s c q, under.each q, bit_at-lt (whole bytes) q, bit_at-lt c q);
    } in
    let after : List ℕ = with_bits m x.field x.bits bytes in
    subst (IsUnder (whole (with_all m xs after))) (or_assoc s c (covers m xs))
    (set_under m xs after (bit_or s c) h.2 (set_length m x.field x.bits bytes h.0 long) (set_bytes m x.field x.bits bytes h.0 long are)
    (subst (λ w. IsUnder w (bit_or s c)) (sym (whole_is_set m x.field x.bits bytes h.0 h.1 long are)) next))

-- where fields hold what they are set to, the bits that are covered become those of the bytes
put_again : (c s w : ℕ) → with_set c (bit_and w c) (bit_and w s) ≡ bit_and w (bit_or s c)
put_again c s w = same_from_bits _ _ (λ q. simp (bit_at_and, bit_at_or, bit_at_xor) (omega (arith, bit_at-lt c q, bit_at-lt s q, bit_at-lt w q)))

pub set_again : (m : Machine) (xs : List Setting) (bytes b : List ℕ) (s : ℕ) → AreFine xs → length bytes ≡ 16 → AreBytes bytes → AreBytes b → AreHeld m b xs → whole bytes ≡ bit_and (whole b) s
    → whole (with_all m xs bytes) ≡ bit_and (whole b) (bit_or s (covers m xs))
unfolding AreFine covers
set_again m [] bytes b s h long are k held same = same ∙ ap (bit_and (whole b)) (sym (or_nothing s))
set_again m (x ∷ xs) bytes b s h long are k held same =
    let c : ℕ = cover_of m x.field in
    let shown : bit_and (whole b) c ≡ placed m x.field x.bits = stands_in_whole m x.field b x.bits h.0 k h.1 held.0 in
    let now : whole (with_bits m x.field x.bits bytes) ≡ bit_and (whole b) (bit_or s c) =
    whole_is_set m x.field x.bits bytes h.0 h.1 long are ∙ ap (with_set c (placed m x.field x.bits)) same ∙ ap (λ v. with_set c v (bit_and (whole b) s)) (sym shown) ∙ put_again c s (whole b) in
    set_again m xs (with_bits m x.field x.bits bytes) b (bit_or s c) h.2 (set_length m x.field x.bits bytes h.0 long) (set_bytes m x.field x.bits bytes h.0 long are) k held.1 now
    ∙ ap (bit_and (whole b)) (or_assoc s c (covers m xs))
