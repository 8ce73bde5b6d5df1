-- Values that are taken from among several, in the mode that leads.
use Rattle.std.specs.Prelude.{ℕ, Bool, ◌==◌, if◌then◌else◌, List, [], ◌∷◌, Option, Some, Ok}
use Rattle.std.specs.Option.{option_or}
use Rattle.cg_base.specs.declared.Mode.{Mode}
use Rattle.cg_model.specs.Checked.{mode_in, is_loose, same_bits}
use Rattle.cg_model.specs.Pure.{Around}
use Rattle.cg_model.specs.declared.machine.Machine.{Machine}
use Rattle.cg_model.specs.declared.rtl.Rtl.{Rtl, out-Rtl}
use Rattle.cg_model_pure_eval.specs.Parting.{value_typed}
use Rattle.cg_model_pure_eval.specs.Typed.{Answer}
use Rattle.cg_model_pure_eval.specs.Typing.{paired, moded, bound, typed}

-- The mode that is wanted of the value that is taken: a loose one takes the one that leads.
abbrev pub taken_want : Bool → Mode → Option Mode → Option Mode
taken_want loose mode want = if loose then Some mode else want

-- The value that is taken, which is as wide as the mode that leads.
unfoldable pub taken_typed : Machine → Around → Bool → Mode → Option Mode → Rtl → Answer
taken_typed m a loose mode want x =
    bound (typed m a x (taken_want loose mode want)) (λ t. moded (same_bits mode t.mode) (λ k. Ok (record { mode = mode; value = t.value })))

-- The one behind a test of this value, or the other.
abbrev pub either_typed : Machine → Around → ℕ → Mode → Option Mode → Rtl → Rtl → Answer
either_typed m a test mode want x y =
    if test == 0 then taken_typed m a (is_loose (out-Rtl y)) mode want y else taken_typed m a (is_loose (out-Rtl x)) mode want x

-- With one value alone none is given.
unfoldable pub if_typed : Machine → Around → Rtl → Option Mode → List Rtl → Answer
if_typed m a r want [] = paired (mode_in m r [] want) 0
if_typed m a r want (c ∷ []) = paired (mode_in m r [] want) 0
if_typed m a r want (c ∷ x ∷ []) = paired (mode_in m r [] want) 0
if_typed m a r want (c ∷ x ∷ y ∷ z ∷ zs) = paired (mode_in m r [] want) 0
if_typed m a r want (c ∷ x ∷ y ∷ []) =
    bound (value_typed m a c) (λ t. moded (mode_in m r [] want) (λ mode. either_typed m a t.value mode (option_or (out-Rtl r).mode want) x y))
