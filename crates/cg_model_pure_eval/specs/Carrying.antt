-- Operations on two values and a carry, with their modes.
use Rattle.std.specs.Prelude.{if◌then◌else◌, List, [], ◌∷◌, Option, Some, None, Ok, Err}
use Rattle.std.specs.Option.{option_or}
use Rattle.cg_base.specs.declared.Mode.{Mode}
use Rattle.cg_base.specs.declared.Mode.TheVariants.{Bi}
use Rattle.cg_base.specs.declared.TernaryOp.{TernaryOp}
use Rattle.cg_model.specs.Checked.{given, no_shape}
use Rattle.cg_model.specs.Operators.{keeps_mode}
use Rattle.cg_model.specs.Pure.{Around}
use Rattle.cg_model.specs.declared.machine.Machine.{Machine}
use Rattle.cg_model.specs.declared.rtl.Rtl.{Rtl}
use Rattle.cg_model_pure_eval.specs.Typed.{Answer}
use Rattle.cg_model_pure_eval.specs.Typing.{moded, bound, lead_of, operand_typed, ternary_at}

-- A flag is of one bit, and its operands agree where no mode is wanted.
abbrev pub carried_mode : TernaryOp → Mode → Mode
carried_mode o mode = if keeps_mode o then mode else Bi

abbrev pub carried_want : TernaryOp → Option Mode → Option Mode
carried_want o want = if keeps_mode o then want else None

-- Two operands from left to right, and then the carry.
unfoldable pub carry_typed : Machine → Around → TernaryOp → Option Mode → Rtl → Rtl → Rtl → Option Mode → Answer
carry_typed m a o written x y c want =
    moded (lead_of m written want (x ∷ y ∷ [])) (λ mode. bound (operand_typed m a mode (option_or written want) x) (λ s. bound (operand_typed m a mode (option_or written want) y) (λ t. bound (operand_typed m a Bi (Some Bi) c) (λ d. Ok (record { mode = carried_mode o mode; value = ternary_at o mode s.value t.value d.value })))))

abbrev pub carry_listed : Machine → Around → TernaryOp → Option Mode → List Rtl → Option Mode → Answer
carry_listed m a o written (x ∷ y ∷ c ∷ []) want = carry_typed m a o written x y c want
carry_listed m a o written xs want = Err no_shape

unfoldable pub ternary_typed : Machine → Around → Option TernaryOp → Option Mode → List Rtl → Option Mode → Answer
ternary_typed m a o written [] want = Err no_shape
ternary_typed m a o written (x ∷ []) want = Err no_shape
ternary_typed m a o written (x ∷ y ∷ []) want = Err no_shape
ternary_typed m a o written (x ∷ y ∷ c ∷ d ∷ ds) want = Err no_shape
ternary_typed m a None written (x ∷ y ∷ c ∷ []) want = Err no_shape
ternary_typed m a (Some o) written (x ∷ y ∷ c ∷ []) want = moded (given written) (λ g. carry_typed m a o written x y c (carried_want o want))
