-- Which operations on two numbers divide, by their places.
use Rattle.std.proofs.Common.{◌≡◌, ℕ, zero, suc, ◌≤◌, Bool, true, false, not, ◌&&◌, nat_le, List, [], ◌∷◌, drop, Some, slice_get, refl, sym, ap, ◌∙◌, arith}
use Rattle.std.specs.List.{list_all}
use Rattle.std.proofs.lemmas.Bool.{false≢true}
use Rattle.std.proofs.lemmas.Bool.Decides.{nat_tests}
use Rattle.cg_base.specs.declared.BinaryOp.{BinaryOp}
use Rattle.cg_model.specs.Operators.{binary_ops}
use Rattle.cg_model.specs.Pure.{is_pure_binary}

-- among operations that don't divide
pub all_pure : (xs : List BinaryOp) → list_all (λ o. is_pure_binary (Some o)) xs ≡ true → (n : ℕ) → is_pure_binary (slice_get xs n) ≡ true
all_pure [] h n = refl
all_pure (x ∷ xs) h n = by (is_pure_binary (Some x)) refl h (λ rest k. all_pure xs rest k) n where
  by : (b : Bool) → is_pure_binary (Some x) ≡ b → (b && list_all (λ o. is_pure_binary (Some o)) xs) ≡ true → (list_all (λ o. is_pure_binary (Some o)) xs ≡ true → (k : ℕ) → is_pure_binary (slice_get xs k) ≡ true) → (n : ℕ) → is_pure_binary (slice_get (x ∷ xs) n) ≡ true
  by true e h later zero = e
  by true e h later (suc n) = later h n
  by false e h later n = absurd (false≢true h)

-- past the seventh place
past : (n : ℕ) → 7 ≤ n → (nat_le 3 n && nat_le n 6) ≡ false
past n h = grind (arith, nat_tests)

pub dividing : (n : ℕ) → not (is_pure_binary (slice_get binary_ops n)) ≡ (nat_le 3 n && nat_le n 6)
dividing zero = refl
dividing (suc zero) = refl
dividing (suc (suc zero)) = refl
dividing (suc (suc (suc zero))) = refl
dividing (suc (suc (suc (suc zero)))) = refl
dividing (suc (suc (suc (suc (suc zero))))) = refl
dividing (suc (suc (suc (suc (suc (suc zero)))))) = refl
dividing (suc (suc (suc (suc (suc (suc (suc n))))))) =
    let over : 7 ≤ suc (suc (suc (suc (suc (suc (suc n)))))) = omega arith in
    ap not (all_pure (drop 7 binary_ops) refl n) ∙ sym (past (suc (suc (suc (suc (suc (suc (suc n))))))) over)

from_third : (n : ℕ) → 3 ≤ n → nat_le 3 n ≡ true
from_third n h = grind (arith, nat_tests)

pub dividing_from : (n : ℕ) → 3 ≤ n → nat_le n 6 ≡ not (is_pure_binary (slice_get binary_ops n))
dividing_from n h = sym (dividing n ∙ ap (λ b. b && nat_le n 6) (from_third n h))
