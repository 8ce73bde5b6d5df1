-- Where the last of some arms stands, and the first whose value isn't loose.
use Rattle.std.proofs.Common.{◌≡◌, ◌/◌, ◌==◌, drop, unsigned_abs, ℕ, zero, suc, ◌+◌, ◌<◌, length, get_or, arith, List, [], ◌∷◌, map, refl, ap, if◌then◌else◌}
use Rattle.std.proofs.lemmas.Grind.{common_steps}
use Rattle.std.proofs.Math.Nat.{div-zero}
use Rattle.std.proofs.lemmas.List.{drop_more}
use Rattle.cg_model.specs.Checked.{last_loose, is_loose, ends_with_else}
use Rattle.cg_model.specs.declared.rtl.Rtl.{Rtl, out-Rtl}
use Rattle.cg_modes_leaf.specs.Firm.{firm_place}

loose_at : (xs : List Rtl) (i : ℕ) (d : Rtl) → i + 1 ≡ length xs → last_loose xs ≡ is_loose (out-Rtl (get_or xs i d))
loose_at [] i d h = absurd (omega arith)
loose_at (x ∷ []) zero d h = refl
loose_at (x ∷ []) (suc i) d h = absurd (omega arith)
loose_at (x ∷ y ∷ ys) zero d h = absurd (omega arith)
loose_at (x ∷ y ∷ ys) (suc i) d h = loose_at (y ∷ ys) i d (omega arith)

pub last_loose_at : (xs : List Rtl) (i : ℕ) (d : Rtl) → i + 1 ≡ length xs → last_loose xs ≡ is_loose (out-Rtl (get_or xs i d))
last_loose_at xs i d h = loose_at xs i d h

else_last : (xs : List Rtl) (i : ℕ) (d : Rtl) → i + 1 ≡ length xs → ends_with_else (map out-Rtl xs) ≡ (unsigned_abs (out-Rtl (get_or xs i d)).number == 0)
else_last [] i d h = absurd (omega arith)
else_last (x ∷ []) zero d h = refl
else_last (x ∷ []) (suc i) d h = absurd (omega arith)
else_last (x ∷ y ∷ ys) zero d h = absurd (omega arith)
else_last (x ∷ y ∷ ys) (suc i) d h = else_last (y ∷ ys) i d (omega arith)

pub else_at : (n : ℕ) (xs : List Rtl) (i : ℕ) (d : Rtl) → n < length xs → i + 1 ≡ length xs → ends_with_else (map out-Rtl (drop n xs)) ≡ (unsigned_abs (out-Rtl (get_or xs i d)).number == 0)
else_at zero xs i d h j = else_last xs i d j
else_at (suc n) [] i d h j = absurd (omega arith)
else_at (suc n) (x ∷ xs) zero d h j = absurd (omega arith)
else_at (suc n) (x ∷ xs) (suc i) d h j = else_at n xs i d (omega arith) (omega arith)

pub place_more : (xs : List Rtl) (i : ℕ) (d : Rtl) → i < length xs → firm_place (drop i xs) ≡ (if last_loose (out-Rtl (get_or xs i d)).items then suc (firm_place (drop (i + 1) xs)) else 0)
place_more xs i d h = ap firm_place (drop_more xs i d h)

pub none_of_none : (n : ℕ) → n / 0 ≡ 0
none_of_none n = div-zero n

pub ruleset place_rules = (common_steps, place_more, last_loose_at, else_at)

pub ruleset part_rules = (common_steps, none_of_none)
