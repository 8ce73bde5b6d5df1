-- What operations on two values and a carry give with their modes.
use Rattle.std.proofs.Common.{◌≡◌, ℕ, Bool, true, false, if◌then◌else◌, ◌∙◌, sym, refl, ap, List, [], ◌∷◌, Option, Some, None, ℤ, Ok, Err}
use Rattle.std.specs.Option.{option_or}
use Rattle.cg_base.specs.declared.Mode.{Mode}
use Rattle.cg_base.specs.declared.Mode.TheVariants.{Bi}
use Rattle.cg_base.specs.declared.TernaryOp.{TernaryOp}
use Rattle.cg_base.specs.declared.TernaryOp.TheVariants.{Addc, Subc, AddCflag, AddOflag, SubCflag, SubOflag}
use Rattle.cg_base.specs.Modes.{bits_of}
use Rattle.cg_base.specs.Operations.{ternary_value}
use Rattle.cg_model.specs.Checked.{Verdict, and_then, checked, given, leading, operand, each_operand, with_carry}
use Rattle.cg_model.specs.Operators.{at_number, ternary_ops}
use Rattle.cg_model.specs.Pure.{Around, pure_meaning}
use Rattle.cg_model.specs.Values.{at_once, operand_gives, carry_gives}
use Rattle.cg_model.specs.declared.machine.Machine.{Machine}
use Rattle.cg_model.specs.declared.rtl.Op.TheVariants as op
use Rattle.cg_model.specs.declared.rtl.Rtl.{Rtl, out-Rtl}
use Rattle.cg_model_pure_eval.specs.Typing.{paired, bound, typed, operand_typed, lead_of, ternary_at}
use Rattle.cg_model_pure_eval.specs.Carrying.{carried_mode, carry_typed, ternary_typed}
use Rattle.cg_model_pure_eval.proofs.Typings.{after_mode, after_operand, then_then, lead_two, layer, typed_at}

either_bit : (b : Bool) → (if b then Some Bi else Some Bi) ≡ Some Bi
either_bit true = refl
either_bit false = refl

then_ok : (v : Verdict) → v ≡ and_then v (λ k. Ok k)
then_ok (Ok k) = refl
then_ok (Err e) = refl

carry_law : (m : Machine) (a : Around) (o : TernaryOp) (written want : Option Mode) (x y c : Rtl) →
    paired (and_then (with_carry m written (checked m x) (checked m y) (checked m c) [] want) (λ mode. Ok (carried_mode o mode))) (carry_gives m at_once o written (pure_meaning m a x) (pure_meaning m a y) (pure_meaning m a c) [] want) ≡ carry_typed m a o written x y c want
unfolding carry_typed lead_of operand_typed ternary_at
carry_law m a o written want x y c =
    let w : Option Mode = option_or written want in
    let n : ℕ = carry_gives m at_once o written (pure_meaning m a x) (pure_meaning m a y) (pure_meaning m a c) [] want in
    let l : Verdict = leading m [] written want (checked m x ∷ checked m y ∷ []) in
    let each = λ (mode : Mode). each_operand [] mode (option_or written want) (checked m x ∷ checked m y ∷ []) in
    let third = λ (mode : Mode). and_then (operand [] Bi (Some Bi) (checked m c)) (λ b. Ok mode) in
    let out = λ (mode : Mode). Ok (carried_mode o mode) in
    ap (λ v. paired v n) (then_then (and_then l each) third out ∙ then_then l each (λ mode. and_then (third mode) out))
    ∙ after_mode l (λ mode. and_then (each mode) (λ j. and_then (third j) out)) n _ (λ mode em.
    ap (λ v. paired v n) (then_then (operand [] mode w (checked m x)) (λ k. and_then (operand [] mode w (checked m y)) (λ i. Ok mode)) (λ j. and_then (third j) out))
    ∙ after_operand (operand [] mode w (checked m x)) mode _ (operand_gives (pure_meaning m a x) [] mode w) n (λ s. bound (operand_typed m a mode w y) (λ t. bound (operand_typed m a Bi (Some Bi) c) (λ d. Ok (record { mode = carried_mode o mode; value = ternary_at o mode s.value t.value d.value })))) (λ k.
    ap (λ v. paired v n) (then_then (operand [] mode w (checked m y)) (λ i. Ok mode) (λ j. and_then (third j) out))
    ∙ after_operand (operand [] mode w (checked m y)) mode _ (operand_gives (pure_meaning m a y) [] mode w) n (λ t. bound (operand_typed m a Bi (Some Bi) c) (λ d. Ok (record { mode = carried_mode o mode; value = ternary_at o mode (operand_gives (pure_meaning m a x) [] mode w) t.value d.value }))) (λ i.
    ap (λ v. paired v n) (then_then (operand [] Bi (Some Bi) (checked m c)) (λ b. Ok mode) out)
    ∙ after_operand (operand [] Bi (Some Bi) (checked m c)) Bi (λ b. Ok (carried_mode o mode)) (operand_gives (pure_meaning m a c) [] Bi (Some Bi)) n (λ d. Ok (record { mode = carried_mode o mode; value = ternary_at o mode (operand_gives (pure_meaning m a x) [] mode w) (operand_gives (pure_meaning m a y) [] mode w) d.value })) (λ b.
    ap (λ j. paired (Ok (carried_mode o mode)) (ternary_value o (bits_of j) (operand_gives (pure_meaning m a x) [] j w) (operand_gives (pure_meaning m a y) [] j w) ((pure_meaning m a c).gives [] (Some Bi)))) (lead_two m a written want x y mode em)
    ∙ ap (λ i. paired (Ok (carried_mode o mode)) (ternary_value o (bits_of mode) (operand_gives (pure_meaning m a x) [] mode w) (operand_gives (pure_meaning m a y) [] mode w) ((pure_meaning m a c).gives [] i))) (sym (either_bit _))))))

kept_law : (m : Machine) (a : Around) (o : TernaryOp) (written want : Option Mode) (x y c : Rtl) → ((k : Mode) → carried_mode o k ≡ k) →
    paired (with_carry m written (checked m x) (checked m y) (checked m c) [] want) (carry_gives m at_once o written (pure_meaning m a x) (pure_meaning m a y) (pure_meaning m a c) [] want) ≡ carry_typed m a o written x y c want
kept_law m a o written want x y c kept =
    ap (λ v. paired v (carry_gives m at_once o written (pure_meaning m a x) (pure_meaning m a y) (pure_meaning m a c) [] want)) (kept_so (with_carry m written (checked m x) (checked m y) (checked m c) [] want))
    ∙ carry_law m a o written want x y c where
      kept_so : (v : Verdict) → v ≡ and_then v (λ mode. Ok (carried_mode o mode))
      kept_so (Ok k) = ap Ok (sym (kept k))
      kept_so (Err e) = refl

ternary_listed : (m : Machine) (a : Around) (o : Option TernaryOp) (written want : Option Mode) (n : ℤ) (xs : List Rtl) → at_number ternary_ops n ≡ o → layer m a op.Ternary written n xs want ≡ ternary_typed m a o written xs want
unfolding ternary_typed
ternary_listed m a o written want n [] e = refl
ternary_listed m a o written want n (x ∷ []) e = refl
ternary_listed m a o written want n (x ∷ y ∷ []) e = refl
ternary_listed m a o written want n (x ∷ y ∷ c ∷ d ∷ ds) e = refl
ternary_listed m a None written want n (x ∷ y ∷ c ∷ []) e = rw e refl
ternary_listed m a (Some Addc) written want n (x ∷ y ∷ c ∷ []) e = rw e (after_mode (given written) _ _ _ (λ g eg. kept_law m a Addc written want x y c (λ k. refl)))
ternary_listed m a (Some Subc) written want n (x ∷ y ∷ c ∷ []) e = rw e (after_mode (given written) _ _ _ (λ g eg. kept_law m a Subc written want x y c (λ k. refl)))
ternary_listed m a (Some AddCflag) written want n (x ∷ y ∷ c ∷ []) e = rw e (after_mode (given written) _ _ _ (λ g eg. carry_law m a AddCflag written None x y c))
ternary_listed m a (Some AddOflag) written want n (x ∷ y ∷ c ∷ []) e = rw e (after_mode (given written) _ _ _ (λ g eg. carry_law m a AddOflag written None x y c))
ternary_listed m a (Some SubCflag) written want n (x ∷ y ∷ c ∷ []) e = rw e (after_mode (given written) _ _ _ (λ g eg. carry_law m a SubCflag written None x y c))
ternary_listed m a (Some SubOflag) written want n (x ∷ y ∷ c ∷ []) e = rw e (after_mode (given written) _ _ _ (λ g eg. carry_law m a SubOflag written None x y c))

pub ternary_law : (m : Machine) (a : Around) (r : Rtl) (want : Option Mode) → (out-Rtl r).op ≡ op.Ternary → typed m a r want ≡ ternary_typed m a (at_number ternary_ops (out-Rtl r).number) (out-Rtl r).mode (out-Rtl r).items want
ternary_law m a r want o = typed_at m a r want op.Ternary o ∙ ternary_listed m a (at_number ternary_ops (out-Rtl r).number) (out-Rtl r).mode want (out-Rtl r).number (out-Rtl r).items refl
