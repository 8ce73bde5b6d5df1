-- Arms of which one is taken, with their modes.
use Rattle.std.specs.Prelude.{ℕ, ◌-◌, ◌==◌, Bool, if◌then◌else◌, List, [], ◌∷◌, map, drop, unsigned_abs, Option, Ok, Err}
use Rattle.std.specs.Option.{option_or}
use Rattle.cg_base.specs.declared.Mode.{Mode}
use Rattle.cg_base.specs.Modes.{bits_of}
use Rattle.cg_model.specs.Checked.{mode_in, ends_with_else, last_loose, no_shape}
use Rattle.cg_model.specs.Pure.{Around}
use Rattle.cg_model.specs.Values.{is_named}
use Rattle.cg_model.specs.declared.machine.Machine.{Machine}
use Rattle.cg_model.specs.declared.rtl.Rtl.{Rtl, out-Rtl}
use Rattle.cg_model_pure_eval.specs.Branching.{taken_typed}
use Rattle.cg_model_pure_eval.specs.Parting.{value_typed}
use Rattle.cg_model_pure_eval.specs.Typed.{Answer}
use Rattle.cg_model_pure_eval.specs.Typing.{moded, bound, typed}
use Rattle.cg_model_pure_eval.specs.declared.typed.Typed.{Typed}

-- An arm without tests is always taken.
abbrev pub is_else : Rtl → Bool
is_else arm = unsigned_abs (out-Rtl arm).number == 0

-- The arm that is taken. Its last expression is its value.
abbrev pub arm_taken : Machine → Around → Mode → Option Mode → Rtl → Answer
arm_taken m a mode want arm = taken_typed m a (last_loose (out-Rtl arm).items) mode want arm

-- The test of an arm.
abbrev pub first_typed : Machine → Around → List Rtl → Answer
first_typed m a [] = Err no_shape
first_typed m a (x ∷ xs) = value_typed m a x

unfoldable pub test_typed : Machine → Around → Rtl → Answer
test_typed m a arm = first_typed m a (out-Rtl arm).items

-- The first arm whose test isn't 0.
unfoldable pub first_held : Machine → Around → Mode → Option Mode → List Rtl → Answer
first_held m a mode want [] = Ok (record { mode = mode; value = 0 })
first_held m a mode want (arm ∷ arms) =
    if is_else arm then arm_taken m a mode want arm
    else bound (test_typed m a arm) (λ t. if t.value == 0 then first_held m a mode want arms else arm_taken m a mode want arm)

-- Arms without `else` give nothing.
unfoldable pub cond_typed : Machine → Around → Rtl → Option Mode → List Rtl → Answer
cond_typed m a r want arms =
    moded (mode_in m r [] want)
    (λ mode. if ends_with_else (map out-Rtl arms) then first_held m a mode (option_or (out-Rtl r).mode want) arms else Ok (record { mode = mode; value = 0 }))

-- The first arm that names a value of so many bits.
unfoldable pub first_named : Machine → Around → ℕ → ℕ → Mode → Option Mode → List Rtl → Answer
first_named m a bits n mode want [] = Ok (record { mode = mode; value = 0 })
first_named m a bits n mode want (arm ∷ arms) =
    if is_else arm then arm_taken m a mode want arm
    else if is_named (out-Rtl arm) bits n then arm_taken m a mode want arm
    else first_named m a bits n mode want arms

-- Arms without `else` give nothing here too.
unfoldable pub named_typed : Machine → Around → Typed → Mode → Option Mode → List Rtl → Answer
named_typed m a t mode want arms =
    if ends_with_else (map out-Rtl arms) then first_named m a (bits_of t.mode) t.value mode want arms else Ok (record { mode = mode; value = 0 })

unfoldable pub case_typed : Machine → Around → Rtl → Option Mode → List Rtl → Answer
case_typed m a r want [] = Err no_shape
case_typed m a r want (x ∷ arms) = bound (value_typed m a x) (λ t. moded (mode_in m r [] want) (λ mode. named_typed m a t mode (option_or (out-Rtl r).mode want) arms))

-- An arm by itself: its last expression behind its tests.
abbrev pub last_typed : Machine → Around → Option Mode → List Rtl → Answer
last_typed m a want [] = Err no_shape
last_typed m a want (x ∷ []) = typed m a x want
last_typed m a want (x ∷ y ∷ ys) = last_typed m a want (y ∷ ys)

unfoldable pub arm_typed : Machine → Around → Rtl → Option Mode → Answer
arm_typed m a r want = last_typed m a want (drop (unsigned_abs (out-Rtl r).number) (out-Rtl r).items)

-- The expression of a number among some.
unfoldable pub at_typed : Machine → Around → Option Mode → ℕ → List Rtl → Answer
at_typed m a want k [] = Err no_shape
at_typed m a want k (x ∷ xs) = if k == 0 then typed m a x want else at_typed m a want (k - 1) xs
