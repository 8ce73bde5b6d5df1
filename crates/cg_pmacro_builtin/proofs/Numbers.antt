-- The numbers of an `.iota`: one more of them, and that they lie between the first and the last.
use Rattle.std.specs.Prelude.{sum}
use Rattle.std.proofs.Common.{◌≡◌, ℕ, zero, suc, mul-le-mul, ◌+◌, ◌-◌, ◌*◌, ◌^◌, ◌<◌, ◌≤◌, true, ℤ, pos, negsuc, ◌+ℤ◌, ◌*ℤ◌, ◌≤ℤ◌, [], ◌∷◌, ◌++◌, refl, sym, ap, ◌∙◌, subst, arith}
use Rattle.std.proofs.lemmas.Int.{ints}
use Rattle.std.proofs.lemmas.Bool.Decides.{nat_tests}
use Rattle.std.proofs.Common.{map}
use Rattle.std.proofs.lemmas.Grind.{common_steps}
use lib.IntN.{suc_ℤ-*ℤ, zero-*ℤ}
use Rattle.cg_base.specs.declared.form.Form.TheVariants.{Number, Items}
use Rattle.cg_pmacro_builtin.specs.Sizes.{nodes}
use Rattle.cg_pmacro_builtin.specs.BuiltIns.{numbers, fits_64, iota_fits}
use Rattle.cg_pmacro_builtin.proofs.Values.{nodes_items, nodes_number}

next_place : (k : ℕ) (s d : ℤ) → (s +ℤ d) +ℤ (pos k *ℤ d) ≡ s +ℤ (pos (suc k) *ℤ d)
next_place k s d = let e = suc_ℤ-*ℤ (pos k) d in omega (arith, ints, e)

first_place : (s d : ℤ) → s ≡ s +ℤ (pos 0 *ℤ d)
first_place s d = let e = zero-*ℤ d in omega (arith, ints, e)

pub numbers_more : (k : ℕ) (s d : ℤ) → numbers (suc k) s d ≡ numbers k s d ++ Number (s +ℤ (pos k *ℤ d)) ∷ []
numbers_more zero s d = ap (λ z. Number z ∷ []) (first_place s d)
numbers_more (suc k) s d = ap (λ fs. Number s ∷ fs) (numbers_more k (s +ℤ d) d ∙ ap (λ z. numbers k (s +ℤ d) d ++ Number z ∷ []) (next_place k s d))

pub fits_bounds : (z : ℤ) → fits_64 z ≡ true → (negsuc 9223372036854775807 ≤ℤ z) × (z ≤ℤ pos 9223372036854775807)
fits_bounds (pos n) h = let b : n < 2 ^ 63 = grind (arith, nat_tests) in (omega (arith, ints), omega (arith, ints))
fits_bounds (negsuc n) h = let b : n < 2 ^ 63 = grind (arith, nat_tests) in (omega (arith, ints), omega (arith, ints))

pub bounds_fit : (z : ℤ) → negsuc 9223372036854775807 ≤ℤ z → z ≤ℤ pos 9223372036854775807 → fits_64 z ≡ true
bounds_fit (pos n) low high = let b : n < 2 ^ 63 = omega (arith, ints) in grind (arith, nat_tests)
bounds_fit (negsuc n) low high = let b : n < 2 ^ 63 = omega (arith, ints) in grind (arith, nat_tests)

le_self : (n : ℕ) → n ≤ n
le_self n = omega arith

-- a number between the first and the last has 64 bits
pub between : (k n : ℕ) (s d : ℤ) → k ≤ n → fits_64 s ≡ true → fits_64 (s +ℤ (pos n *ℤ d)) ≡ true → fits_64 (s +ℤ (pos k *ℤ d)) ≡ true
between k n s (pos e) le first last =
    let m : k * e ≤ n * e = mul-le-mul le (le_self e) in
    let f = fits_bounds s first in let l = fits_bounds (s +ℤ (pos n *ℤ pos e)) last in
    bounds_fit (s +ℤ (pos k *ℤ pos e)) (omega (arith, ints)) (omega (arith, ints))
between k n s (negsuc e) le first last =
    let m : k * suc e ≤ n * suc e = mul-le-mul le (le_self (suc e)) in
    let f = fits_bounds s first in let l = fits_bounds (s +ℤ (pos n *ℤ negsuc e)) last in
    bounds_fit (s +ℤ (pos k *ℤ negsuc e)) (omega (arith, ints)) (omega (arith, ints))

numbers_sum : (n : ℕ) (s d : ℤ) → sum (map nodes (numbers n s d)) ≡ n
numbers_sum zero s d = refl
numbers_sum (suc n) s d = let e = nodes_number s in let rest = numbers_sum n (s +ℤ d) d in grind (arith, common_steps)

pub numbers_nodes : (n : ℕ) (s d : ℤ) → nodes (Items (numbers n s d)) ≡ 1 + n
numbers_nodes n s d = nodes_items (numbers n s d) ∙ ap (λ k. 1 + k) (numbers_sum n s d)

pub numbers_next : (n k : ℕ) (s d : ℤ) → n ≡ k + 1 → numbers n s d ≡ numbers k s d ++ Number (s +ℤ (pos k *ℤ d)) ∷ []
numbers_next n k s d e = let h : n ≡ suc k = omega arith in rw h (numbers_more k s d)

last_fits : (n : ℕ) (s d : ℤ) → 0 < n → iota_fits n s d ≡ true → fits_64 (s +ℤ (pos (n - 1) *ℤ d)) ≡ true
last_fits n s d some fits = grind (arith, nat_tests)

-- the number at the next place, where a number stands there
pub numbers_step : (k n : ℕ) (s d v w : ℤ) → k + 1 < n → fits_64 s ≡ true → iota_fits n s d ≡ true → v ≡ s +ℤ (pos k *ℤ d) → (fits_64 (v +ℤ d) ≡ true → w ≡ v +ℤ d) → w ≡ s +ℤ (pos (k + 1) *ℤ d)
numbers_step k n s d v w inside first fits here next =
    let e : k + 1 ≡ suc k = omega arith in
    let more = suc_ℤ-*ℤ (pos k) d in
    let place : v +ℤ d ≡ s +ℤ (pos (suc k) *ℤ d) = omega (arith, ints, more, here) in
    let low : suc k ≤ n - 1 = omega arith in
    let fit : fits_64 (s +ℤ (pos (suc k) *ℤ d)) ≡ true = between (suc k) (n - 1) s d low first (last_fits n s d (omega arith) fits) in
    let P : ℕ → Type 0 = λ j. w ≡ s +ℤ (pos j *ℤ d) in
    subst P (sym e) (next (ap fits_64 place ∙ fit) ∙ place)

pub ruleset number_rules = (common_steps, nat_tests, numbers_nodes, numbers_next)
