-- Parts side by side, and what holds of several values, with their modes.
use Rattle.std.specs.Prelude.{ℕ, ◌+◌, ◌*◌, ◌/◌, ◌^◌, ◌==◌, Bool, not, ◌&&◌, ◌||◌, if◌then◌else◌, List, [], ◌∷◌, length, Option, Some, None, Ok, Err}
use Rattle.cg_base.specs.declared.Mode.{Mode}
use Rattle.cg_base.specs.declared.Mode.TheVariants.{Bi}
use Rattle.cg_base.specs.Modes.{bits_of}
use Rattle.cg_base.specs.Operations.{flag}
use Rattle.cg_model.specs.Checked.{checked, mode_in, part_turn, stated, fault, no_shape}
use Rattle.cg_model.specs.Pure.{Around, pure_meaning}
use Rattle.cg_model.specs.declared.machine.Machine.{Machine}
use Rattle.cg_model.specs.declared.rtl.Rtl.{Rtl}
use Rattle.cg_model_pure_eval.specs.Typed.{Answer}
use Rattle.cg_model_pure_eval.specs.Typing.{paired, moded, bound, any_typed}

-- A part that is joined with others, in their mode.
unfoldable pub part_typed : Machine → Around → Mode → Rtl → Answer
part_typed m a part x = paired (part_turn [] part (checked m x)) ((pure_meaning m a x).gives [] (Some part))

-- A part behind those that stand already. (A name of its own: it is not to be computed.)
unfoldable pub behind : Mode → ℕ → ℕ → ℕ
behind part n value = n * 2 ^ bits_of part + value

unfoldable pub parts_typed : Machine → Around → Mode → Mode → ℕ → List Rtl → Answer
parts_typed m a to part n [] = Ok (record { mode = to; value = n })
parts_typed m a to part n (x ∷ xs) = bound (part_typed m a part x) (λ t. parts_typed m a to part (behind part n t.value) xs)

-- Their count comes first.
unfoldable pub filled_typed : Machine → Around → Mode → Mode → List Rtl → Answer
filled_typed m a to part xs = if bits_of to / bits_of part == length xs then parts_typed m a to part 0 xs else Err (fault 402)

unfoldable pub join_typed : Machine → Around → Option Mode → List Rtl → Answer
join_typed m a written [] = Err no_shape
join_typed m a written (x ∷ xs) = moded (stated written) (λ to. moded (mode_in m x [] None) (λ part. filled_typed m a to part xs))

-- Whether every value holds so far, or some does, with one more.
abbrev pub held_with : Bool → Bool → ℕ → Bool
held_with every held n = if every then held && not (n == 0) else held || not (n == 0)

-- Nothing is changed by a value, so all are had.
unfoldable pub held_typed : Machine → Around → Bool → Bool → List Rtl → Answer
held_typed m a every held [] = Ok (record { mode = Bi; value = flag held })
held_typed m a every held (x ∷ xs) = bound (any_typed m a x) (λ t. held_typed m a every (held_with every held t.value) xs)
