-- Parts of values, with their modes.
use Rattle.std.specs.Prelude.{ℕ, ◌+◌, ◌*◌, ◌≤◌, List, [], ◌∷◌, unsigned_abs, Some, None, Ok, Err}
use Rattle.cg_base.specs.declared.Mode.{Mode}
use Rattle.cg_base.specs.Modes.{bits_of}
use Rattle.cg_model.specs.Checked.{Verdict, checked, judged_value, no_shape, stated, part_mode}
use Rattle.cg_model.specs.Pure.{Around, pure_meaning}
use Rattle.cg_model.specs.Values.{part_of}
use Rattle.cg_model.specs.declared.machine.Machine.{Machine}
use Rattle.cg_model.specs.declared.rtl.Rtl.{Rtl, out-Rtl}
use Rattle.cg_model_pure_eval.specs.Typed.{Answer}
use Rattle.cg_model_pure_eval.specs.Typing.{paired, moded, bound}

-- A value of which no mode is wanted.
unfoldable pub value_typed : Machine → Around → Rtl → Answer
value_typed m a r = paired (judged_value [] (checked m r)) ((pure_meaning m a r).gives [] None)

-- Whether a value has a part of the number that an expression has, in a mode.
unfoldable pub part_verdict : Rtl → Mode → Mode → Verdict
part_verdict r to from = part_mode (out-Rtl r).number to from

-- The part lies in the value.
abbrev pub IsInside : Verdict → Rtl → Mode → Mode → Type 0
IsInside (Ok k) r to from = (unsigned_abs (out-Rtl r).number + 1) * bits_of to ≤ bits_of from
IsInside (Err e) r to from = Unit {0}

-- That part. (A name of its own: it is not to be computed.)
unfoldable pub part_at : Rtl → Mode → Mode → ℕ → ℕ
part_at r to from a = part_of (Some to) (unsigned_abs (out-Rtl r).number) from a

unfoldable pub subword_typed : Machine → Around → Rtl → List Rtl → Answer
subword_typed m a r (x ∷ []) = moded (stated (out-Rtl r).mode) (λ to. bound (value_typed m a x) (λ t. moded (part_verdict r to t.mode) (λ k. Ok (record { mode = to; value = part_at r to t.mode t.value }))))
subword_typed m a r xs = Err no_shape
