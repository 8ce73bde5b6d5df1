-- What parts of values give with their modes.
use Rattle.std.proofs.Common.{◌≡◌, ℕ, ◌+◌, ◌*◌, ◌/◌, ◌≤◌, ◌<◌, Bool, true, false, ◌&&◌, if◌then◌else◌, nat_lt, int_le, ◌∙◌, refl, ap, List, [], ◌∷◌, Option, Some, None, ℤ, pos, unsigned_abs, Ok, Err, arith}
use Rattle.std.proofs.lemmas.Bool.Decides.{nat_tests}
use Rattle.std.proofs.Math.Nat.{div-mul-le_self, mul-le-mul_right}
use Rattle.cg_base.specs.declared.Mode.{Mode}
use Rattle.cg_base.specs.Modes.{bits_of}
use Rattle.cg_model.specs.Checked.{and_then, checked, judged_value, stated, part_mode, fault}
use Rattle.cg_model.specs.Pure.{Around, pure_meaning}
use Rattle.cg_model.specs.Values.{mode_at, part_of}
use Rattle.cg_model.specs.declared.machine.Machine.{Machine}
use Rattle.cg_model.specs.declared.rtl.Op.TheVariants as op
use Rattle.cg_model.specs.declared.rtl.Rtl.{Rtl, out-Rtl}
use Rattle.cg_model.proofs.Meanings.{pure_checked}
use Rattle.cg_model_pure_eval.specs.Typing.{paired, moded, typed}
use Rattle.cg_model_pure_eval.specs.Parting.{value_typed, part_verdict, part_at, IsInside, subword_typed}
use Rattle.cg_model_pure_eval.proofs.Typings.{after_value, after_mode, layer, typed_at, stated_is, valued_is, both_true}

pub value_is : (m : Machine) (a : Around) (x : Rtl) (k : Mode) → judged_value [] (checked m x) ≡ Ok k → mode_at (pure_meaning m a x) [] None ≡ k
value_is m a x k e = rw (pure_checked m a x) (valued_is ((checked m x).verdict [] None) k e)

part_so : (n : ℤ) (to from : Mode) (v : ℕ) → paired (part_mode n to from) v ≡ moded (part_mode n to from) (λ k. Ok (record { mode = to; value = v }))
part_so n to from v = by (int_le (pos 0) n && nat_lt (unsigned_abs n) (bits_of from / bits_of to)) where
  by : (b : Bool) → paired (if b then Ok to else Err (fault 402)) v ≡ moded (if b then Ok to else Err (fault 402)) (λ k. Ok (record { mode = to; value = v }))
  by true = refl
  by false = refl

part_law : (m : Machine) (a : Around) (r x : Rtl) →
    paired (and_then (stated (out-Rtl r).mode) (λ to. and_then (judged_value [] (checked m x)) (part_mode (out-Rtl r).number to))) (part_of (out-Rtl r).mode (unsigned_abs (out-Rtl r).number) (mode_at (pure_meaning m a x) [] None) ((pure_meaning m a x).gives [] None))
    ≡ subword_typed m a r (x ∷ [])
unfolding value_typed part_verdict part_at subword_typed
part_law m a r x =
    let n : ℕ = (pure_meaning m a x).gives [] None in
    let i : ℕ = unsigned_abs (out-Rtl r).number in
    let at : Mode = mode_at (pure_meaning m a x) [] None in
    after_mode (stated (out-Rtl r).mode) (λ to. and_then (judged_value [] (checked m x)) (part_mode (out-Rtl r).number to)) _ _ (λ to et.
    after_value (judged_value [] (checked m x)) (part_mode (out-Rtl r).number to) n _ (λ t. moded (part_verdict r to t.mode) (λ k. Ok (record { mode = to; value = part_at r to t.mode t.value }))) (λ k ek.
    ap (λ w. paired (part_mode (out-Rtl r).number to k) (part_of w i at n)) (stated_is (out-Rtl r).mode to et) ∙ ap (λ j. paired (part_mode (out-Rtl r).number to k) (part_of (Some to) i j n)) (value_is m a x k ek) ∙ part_so (out-Rtl r).number to k (part_of (Some to) i k n)))

subword_listed : (m : Machine) (a : Around) (r : Rtl) (want : Option Mode) (xs : List Rtl) → layer m a op.Subword (out-Rtl r).mode (out-Rtl r).number xs want ≡ subword_typed m a r xs
unfolding subword_typed
subword_listed m a r want [] = refl
subword_listed m a r want (x ∷ []) = part_law m a r x
subword_listed m a r want (x ∷ y ∷ xs) = refl

pub subword_law : (m : Machine) (a : Around) (r : Rtl) (want : Option Mode) → (out-Rtl r).op ≡ op.Subword → typed m a r want ≡ subword_typed m a r (out-Rtl r).items
subword_law m a r want o = typed_at m a r want op.Subword o ∙ subword_listed m a r want (out-Rtl r).items

next : (i n : ℕ) → i < n → i + 1 ≤ n
next i n h = omega arith

below_quotient : (i whole part : ℕ) → i < whole / part → (i + 1) * part ≤ whole
below_quotient i whole part h = omega (arith, div-mul-le_self whole part, mul-le-mul_right part (next i (whole / part) h))

pub part_inside : (r : Rtl) (to from : Mode) → IsInside (part_mode (out-Rtl r).number to from) r to from
part_inside r to from = by (int_le (pos 0) (out-Rtl r).number && nat_lt (unsigned_abs (out-Rtl r).number) (bits_of from / bits_of to)) (λ h. below_quotient (unsigned_abs (out-Rtl r).number) (bits_of from) (bits_of to) (lt_is _ _ (both_true (int_le (pos 0) (out-Rtl r).number) _ h))) where
  lt_is : (i j : ℕ) → nat_lt i j ≡ true → i < j
  lt_is i j h = grind (arith, nat_tests)

  by : (b : Bool) → (b ≡ true → (unsigned_abs (out-Rtl r).number + 1) * bits_of to ≤ bits_of from) → IsInside (if b then Ok to else Err (fault 402)) r to from
  by true h = h refl
  by false h = tt
