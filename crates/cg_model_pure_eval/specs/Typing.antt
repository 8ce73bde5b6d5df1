-- What pure expressions give together with their modes: a fault comes where judging finds it, and else a value.
use Rattle.std.specs.Prelude.{◌≡◌, ◌≢◌, ℕ, Bool, true, false, List, [], ◌∷◌, map, Option, Some, None, Ok, Err}
use Rattle.std.specs.Option.{option_or}
use Rattle.cg_base.specs.declared.Mode.{Mode}
use Rattle.cg_base.specs.declared.Mode.TheVariants.{Bi, Void}
use Rattle.cg_base.specs.declared.UnaryOp.{UnaryOp}
use Rattle.cg_base.specs.declared.UnaryOp.TheVariants.{Not}
use Rattle.cg_base.specs.declared.BinaryOp.{BinaryOp}
use Rattle.cg_base.specs.declared.TernaryOp.{TernaryOp}
use Rattle.cg_base.specs.Modes.{bits_of}
use Rattle.cg_base.specs.Operations.{unary_value, ternary_value, wrapped}
use Rattle.cg_model.specs.Checked.{Verdict, and_then, checked, given, leading, mode_in, no_shape, stated, wider, narrower, number_mode, fits}
use Rattle.cg_model.specs.Checked as spec
use Rattle.cg_model.specs.Operators.{kind_of}
use Rattle.cg_model.specs.Pure.{Around, pure_meaning, pure_value}
use Rattle.cg_model.specs.Values.{at_once, any_gives, operand_gives, binary_answer, extended_to, cut_to}
use Rattle.cg_model.specs.declared.judged.Kind.{Kind}
use Rattle.cg_model.specs.declared.judged.Kind.TheVariants.{Arithmetic, Shift, Comparison}
use Rattle.cg_model.specs.declared.machine.Machine.{Machine}
use Rattle.cg_model.specs.declared.rtl.Op.{Op}
use Rattle.cg_model.specs.declared.rtl.Op.TheVariants as op
use Rattle.cg_model.specs.declared.rtl.Rtl.{Rtl, out-Rtl}
use Rattle.cg_model_pure_eval.specs.Typed.{Answer}
use Rattle.cg_model_pure_eval.specs.declared.typed.Typed.{Typed}

-- A value in a mode, or the fault in the mode's place.
abbrev pub paired : Verdict → ℕ → Answer
paired (Ok k) v = Ok (record { mode = k; value = v })
paired (Err e) v = Err e

-- What follows where there is a mode, and where there is a value.
abbrev pub moded : Verdict → (Mode → Answer) → Answer
moded (Ok k) f = f k
moded (Err e) f = Err e

abbrev pub bound : Answer → (Typed → Answer) → Answer
bound (Ok t) f = f t
bound (Err e) f = Err e

-- An expression, where a mode is wanted of it or none.
unfoldable pub typed : Machine → Around → Rtl → Option Mode → Answer
typed m a r want = paired (mode_in m r [] want) (pure_value m a r want)

-- One of which any mode will do.
unfoldable pub any_typed : Machine → Around → Rtl → Answer
any_typed m a r = paired (spec.judged_any [] (checked m r)) (any_gives (pure_meaning m a r) [])

-- An operand where a mode leads.
unfoldable pub operand_typed : Machine → Around → Mode → Option Mode → Rtl → Answer
operand_typed m a mode want r = paired (and_then (spec.operand [] mode want (checked m r)) (λ k. Ok mode)) (operand_gives (pure_meaning m a r) [] mode want)

-- A value that has to agree with the mode that leads.
abbrev pub agreed : Mode → Typed → Answer
agreed mode t = moded (spec.valued t.mode) (λ k. moded (spec.agrees mode t.mode) (λ j. Ok (record { mode = mode; value = t.value })))

-- The mode that leads among some operands.
unfoldable pub lead_of : Machine → Option Mode → Option Mode → List Rtl → Verdict
lead_of m written want xs = leading m [] written want (map (checked m) xs)

-- What operations give in a mode. (Names of their own: which operation it is, isn't to be gone through.)
unfoldable pub unary_at : UnaryOp → Mode → ℕ → ℕ
unary_at o mode a = unary_value o (bits_of mode) a

unfoldable pub binary_at : BinaryOp → Mode → ℕ → ℕ → ℕ
binary_at o mode a b = binary_answer at_once o mode a b

unfoldable pub ternary_at : TernaryOp → Mode → ℕ → ℕ → ℕ → ℕ
ternary_at o mode a b carry = ternary_value o (bits_of mode) a b carry

unfoldable pub unary_typed : Machine → Around → Option UnaryOp → Option Mode → List Rtl → Option Mode → Answer
unary_typed m a (Some Not) written (x ∷ []) want = bound (any_typed m a x) (λ t. Ok (record { mode = Bi; value = unary_at Not t.mode t.value }))
unary_typed m a (Some o) written (x ∷ []) want =
    moded (given written) (λ g. moded (lead_of m written want (x ∷ [])) (λ mode. bound (operand_typed m a mode (option_or written want) x) (λ t. Ok (record { mode = mode; value = unary_at o mode t.value }))))
unary_typed m a _ written xs want = Err no_shape

-- Two operands from left to right.
abbrev pub pair_typed : Machine → Around → Mode → Option Mode → Rtl → Rtl → (ℕ → ℕ → Answer) → Answer
pair_typed m a mode want x y f = bound (operand_typed m a mode want x) (λ s. bound (operand_typed m a mode want y) (λ t. f s.value t.value))

unfoldable pub kind_typed : Machine → Around → Kind → BinaryOp → Option Mode → Rtl → Rtl → Option Mode → Answer
kind_typed m a Arithmetic o written x y want =
    moded (lead_of m written want (x ∷ y ∷ [])) (λ mode. pair_typed m a mode (option_or written want) x y (λ s t. Ok (record { mode = mode; value = binary_at o mode s t })))
kind_typed m a Shift o written x y want =
    moded (lead_of m written want (x ∷ [])) (λ mode. bound (operand_typed m a mode (option_or written want) x) (λ s. bound (any_typed m a y) (λ t. Ok (record { mode = mode; value = binary_at o mode s.value t.value }))))
kind_typed m a Comparison o written x y want =
    moded (lead_of m written None (x ∷ y ∷ [])) (λ mode. pair_typed m a mode written x y (λ s t. Ok (record { mode = Bi; value = binary_at o mode s t })))

unfoldable pub binary_typed : Machine → Around → Option BinaryOp → Option Mode → List Rtl → Option Mode → Answer
binary_typed m a o written [] want = Err no_shape
binary_typed m a o written (x ∷ []) want = Err no_shape
binary_typed m a o written (x ∷ y ∷ z ∷ zs) want = Err no_shape
binary_typed m a None written (x ∷ y ∷ []) want = Err no_shape
binary_typed m a (Some o) written (x ∷ y ∷ []) want = moded (given written) (λ g. kind_typed m a (kind_of o) o written x y want)

-- A value in a mode that is wider, or narrower.
abbrev pub resized_typed : Machine → Around → (Mode → Mode → Verdict) → (Mode → Mode → ℕ → ℕ) → Option Mode → Rtl → Answer
resized_typed m a ok f written x = moded (stated written) (λ to. bound (any_typed m a x) (λ t. moded (ok to t.mode) (λ k. Ok (record { mode = to; value = f to t.mode t.value }))))

unfoldable pub ext_typed : Machine → Around → Option Mode → List Rtl → Answer
ext_typed m a written (x ∷ []) = resized_typed m a wider (λ to from n. extended_to (Some to) from n) written x
ext_typed m a written xs = Err no_shape

unfoldable pub zext_typed : Machine → Around → Option Mode → List Rtl → Answer
zext_typed m a written (x ∷ []) = resized_typed m a wider (λ to from n. n) written x
zext_typed m a written xs = Err no_shape

unfoldable pub trunc_typed : Machine → Around → Option Mode → List Rtl → Answer
trunc_typed m a written (x ∷ []) = resized_typed m a narrower (λ to from n. cut_to (Some to) n) written x
trunc_typed m a written xs = Err no_shape

-- The mode of a number, and whether it stands in the mode that leads.
unfoldable pub number_verdict : Machine → Rtl → Option Mode → Verdict
number_verdict m r want = number_mode m (out-Rtl r).mode want (out-Rtl r).number

unfoldable pub fits_verdict : Mode → Rtl → Verdict
fits_verdict mode r = fits mode (out-Rtl r).number

-- A mode has bits, where there is one.
abbrev pub HasMode : Verdict → Type 0
HasMode (Ok k) = k ≢ Void
HasMode (Err e) = Unit {0}

abbrev pub IsMode : Verdict → Mode → Type 0
IsMode (Ok k) mode = k ≡ mode
IsMode (Err e) mode = Unit {0}

-- The value of a number in a mode. (A name of its own: the remainder is not to be computed.)
unfoldable pub in_mode : Mode → Rtl → ℕ
in_mode k r = wrapped (bits_of k) (out-Rtl r).number

-- What has no value among pure expressions: it counts as 0.
abbrev pub has_no_value : Op → Bool
has_no_value op.Local = true
has_no_value op.OperandRef = true
has_no_value op.Index = true
has_no_value op.NewVal = true
has_no_value op.IndexOf = true
has_no_value op.Sequence = true
has_no_value op.Declare = true
has_no_value op.Parallel = true
has_no_value op.Set = true
has_no_value op.Reg = true
has_no_value op.RawReg = true
has_no_value op.Mem = true
has_no_value op.Delay = true
has_no_value op.Nop = true
has_no_value op.Error = true
has_no_value op.Halt = true
has_no_value _ = false
