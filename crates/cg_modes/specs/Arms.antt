-- The arms of a `cond` or a `case`, by the expressions that they are.
use Rattle.std.specs.Prelude.{Bool, true, List, map, Option, None}
use Rattle.cg_base.specs.declared.Mode.{Mode}
use Rattle.cg_model.specs.Checked.{Locals, Verdict, checked, arm_choice, value_turn, each_choice, each_alone, leading_choice, choices, arms, ends_with_else, joined_mode}
use Rattle.cg_model.specs.declared.machine.Machine.{Machine}
use Rattle.cg_model.specs.declared.rtl.Rtl.{Rtl, out-Rtl}

-- What is judged in front of an arm's value.
unfoldable pub before : Machine → Bool → Locals → Rtl → Verdict
before m tested l r = (arm_choice tested (checked m r)).before l

-- An arm's value at its turn.
unfoldable pub arm_turn : Machine → Locals → Option Mode → Verdict → Option Mode → Rtl → Verdict
arm_turn m l written lead want r = value_turn l written lead want (arm_choice true (checked m r))

-- Arms one after another, where a mode leads.
unfoldable pub walked : Machine → Locals → Bool → Option Mode → Verdict → Option Mode → List Rtl → Verdict
walked m l tested written lead want xs = each_choice l written lead want (map (arm_choice tested) (map (checked m) xs))

-- Arms that have no value together.
unfoldable pub valueless : Machine → Locals → Bool → List Rtl → Verdict
valueless m l tested xs = each_alone l (map (arm_choice tested) (map (checked m) xs))

-- The mode that leads where none is written.
unfoldable pub led : Machine → Locals → Bool → Option Mode → List Rtl → Verdict
led m l tested want xs = leading_choice m l None want (map (arm_choice tested) (map (checked m) xs))

-- Arms of which one is taken.
unfoldable pub chosen : Machine → Locals → Bool → Option Mode → Option Mode → List Rtl → Verdict
chosen m l tested written want xs = choices m l written want (map (arm_choice tested) (map (checked m) xs))

-- Arms with `else` or without.
unfoldable pub armed : Machine → Locals → Bool → Option Mode → Option Mode → List Rtl → Verdict
armed m l tested written want xs = arms m l (ends_with_else (map out-Rtl xs)) written want (map (arm_choice tested) (map (checked m) xs))

-- Parts of one mode that fill a value of another.
unfoldable pub filled : Machine → Locals → Mode → Mode → List Rtl → Verdict
filled m l to part xs = joined_mode to (map (checked m) xs) l part
