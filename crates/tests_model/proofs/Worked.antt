-- What the definitions give on the machines made by hand.
use Rattle.std.specs.Prelude.{◌≡◌, pos, ◌+◌, ◌-◌, ◌^◌, true, false, [], ◌∷◌, None, Some, Ok, Err}
use Rattle.cg_base.specs.declared.Mode.TheVariants.{Bi, Qi, Hi, Si, Void}
use Rattle.cg_model.specs.Operators.{kind_of}
use Rattle.cg_model.specs.Checked.{mode_in, fault, disagreement, is_place}
use Rattle.cg_model.specs.Fields.{field_value, multi_value}
use Rattle.cg_model.specs.Matching.{matches}
use Rattle.cg_model_effects.specs.Asking.{trap}
use Rattle.cg_model_effects.specs.Asking.Ask.{Done, Trapped}
use Rattle.cg_model_effects.specs.declared.outcome.Change.TheVariants.{Halt}
use Rattle.cg_model_effects.specs.declared.outcome.Place.TheVariants.{Pc, Cell, Memory}
use Rattle.cg_model.specs.declared.rtl.Op.TheVariants as op
use Rattle.cg_model_effects.proofs.Effects.{effects_written_out}
use Rattle.tests_model.specs.Examples.{rtl, number, constant, on_two, cell, guarded, local, memory, set, delay, parallel, with_local, in_order, tiny, tiny_little, tiny_forced, add_below_15, twin, does, value_of, now, later, made, counted, access}

pub back : field_value tiny (48 ∷ 255 ∷ []) 2 (pos 4) ≡ 0
unfolding kind_of
back = simp effects_written_out

pub here : field_value tiny (48 ∷ 0 ∷ []) 256 (pos 4) ≡ 256
unfolding kind_of
here = simp effects_written_out

pub far : field_value tiny (48 ∷ 128 ∷ []) 256 (pos 4) ≡ 0
unfolding kind_of
far = simp effects_written_out

pub below : field_value tiny (48 ∷ 255 ∷ []) 0 (pos 4) ≡ 2 ^ 32 - 2
unfolding kind_of
below = simp effects_written_out

pub extracted : multi_value tiny (106 ∷ 37 ∷ []) 0 (pos 0) ≡ 165
unfolding kind_of
extracted = simp effects_written_out

pub asserted : matches tiny add_below_15 (17 ∷ 32 ∷ []) ≡ true
unfolding kind_of
asserted = simp effects_written_out

pub denied : matches tiny add_below_15 (31 ∷ 32 ∷ []) ≡ false
unfolding kind_of
denied = simp effects_written_out

pub other : matches tiny twin (31 ∷ 32 ∷ []) ≡ true
unfolding kind_of
other = simp effects_written_out

pub neither : matches tiny twin (17 ∷ 32 ∷ []) ≡ false
unfolding kind_of
neither = simp effects_written_out

pub shifted_out : value_of (on_two 10 (Some Si) (number 1) (number 32)) None ≡ 0
unfolding kind_of
shifted_out = simp effects_written_out

pub signs_stay : value_of (on_two 12 (Some Si) (number (2 ^ 31)) (number 32)) None ≡ 2 ^ 32 - 1
unfolding kind_of
signs_stay = simp effects_written_out

pub rotated_by_width : value_of (on_two 13 (Some Qi) (number 129) (number 9)) None ≡ 3
unfolding kind_of
rotated_by_width = simp effects_written_out

pub borrows : value_of (rtl op.Ternary (Some Si) (pos 4) (number 0 ∷ number 0 ∷ number 1 ∷ [])) None ≡ 1
borrows = simp effects_written_out

pub extends_any_sign : value_of (rtl op.Ext (Some Si) (pos 0) (rtl op.Trunc (Some Qi) (pos 0) (number 128 ∷ []) ∷ [])) None ≡ 2 ^ 32 - 128
extends_any_sign = simp effects_written_out

pub one_bit_is_no_sign : value_of (rtl op.Ext (Some Si) (pos 0) (rtl op.Trunc (Some Bi) (pos 0) (number 1 ∷ []) ∷ [])) None ≡ 1
one_bit_is_no_sign = simp effects_written_out

pub first_part : value_of (rtl op.Subword (Some Qi) (pos 0) (constant Si (2 ^ 24 - 1) ∷ [])) None ≡ 0
first_part = simp effects_written_out

pub second_part : value_of (rtl op.Subword (Some Qi) (pos 1) (constant Si (2 ^ 24 - 1) ∷ [])) None ≡ 255
second_part = simp effects_written_out

pub joined : value_of (rtl op.Join (Some Si) (pos 0) (rtl op.Declare (Some Hi) (pos 0) [] ∷ number 1 ∷ number 2 ∷ [])) None ≡ 2 ^ 16 + 2
joined = simp effects_written_out

pub named : value_of (rtl op.Case (Some Si) (pos 0) (constant Qi 255 ∷ rtl op.Arm None (pos 2) (number 3 ∷ rtl op.Number None (pos 511) [] ∷ number 7 ∷ []) ∷ rtl op.Arm None (pos 0) (number 8 ∷ []) ∷ [])) None ≡ 7
named = simp effects_written_out

pub written : does tiny (set (cell 2) (number 5)) ≡ Done 0 (made (now (Cell 0 2) 5 ∷ []))
written = simp effects_written_out

pub read_again : does tiny (in_order (set (cell 2) (number 5) ∷ set (cell 3) (on_two 0 None (cell 2) (cell 4)) ∷ [])) ≡ Done 0 (made (now (Cell 0 2) 5 ∷ now (Cell 0 3) 14 ∷ []))
unfolding kind_of
read_again = simp effects_written_out

pub delayed : does tiny (delay 1 (set (rtl op.Pc None (pos 0) []) (number 64))) ≡ Done 0 (made (later 1 Pc 64 ∷ []))
delayed = simp effects_written_out

-- what comes later isn't read
pub not_read : does tiny (in_order (delay 1 (set (cell 2) (number 5)) ∷ set (cell 3) (cell 2) ∷ [])) ≡ Done 0 (made (later 1 (Cell 0 2) 5 ∷ now (Cell 0 3) 9 ∷ []))
not_read = simp effects_written_out

-- two cells change places
pub at_once : does tiny (in_order (set (cell 1) (number 4) ∷ parallel (set (cell 1) (cell 2) ∷ set (cell 2) (cell 1) ∷ []) ∷ [])) ≡ Done 0 (made (now (Cell 0 1) 4 ∷ now (Cell 0 1) 9 ∷ now (Cell 0 2) 4 ∷ []))
at_once = simp effects_written_out

pub at_address : does tiny (set (cell 1) (rtl op.Pc None (pos 0) [])) ≡ Done 0 (made (now (Cell 0 1) 256 ∷ []))
at_address = simp effects_written_out

pub pc_again : does tiny (in_order (set (rtl op.Pc None (pos 0) []) (number 8) ∷ set (cell 1) (rtl op.Pc None (pos 0) []) ∷ [])) ≡ Done 0 (made (now Pc 8 ∷ now (Cell 0 1) 8 ∷ []))
pc_again = simp effects_written_out

-- a local begins at 0, is set at once, in a delay too, and is gone behind its sequence
pub local_at_once : does tiny (with_local Si (set (cell 1) (local 0) ∷ delay 2 (set (local 0) (number 6)) ∷ set (cell 1) (local 0) ∷ [])) ≡ Done 0 (made (now (Cell 0 1) 0 ∷ now (Cell 0 1) 6 ∷ []))
local_at_once = simp effects_written_out

pub no_cell : does tiny (set (cell 16) (on_two 4 None (number 1) (number 0))) ≡ Trapped (trap 6)
no_cell = simp effects_written_out

pub divided : does tiny (set (cell 1) (on_two 4 None (cell 2) (number 0))) ≡ Trapped (trap 5)
unfolding kind_of
divided = simp effects_written_out

pub raised : does tiny (in_order (set (cell 1) (number 0) ∷ rtl op.Error None (pos 3) [] ∷ [])) ≡ Trapped (record { number = 7; text = 3 })
raised = simp effects_written_out

pub stopped : does tiny (rtl op.Halt None (pos 0) (number 3 ∷ [])) ≡ Done 0 (made (Halt 3 ∷ []))
stopped = simp effects_written_out

pub zero_reads : does tiny (set (cell 1) (guarded 0)) ≡ Done 0 (made (now (Cell 0 1) 0 ∷ []))
unfolding kind_of
zero_reads = simp effects_written_out

pub one_reads : does tiny (set (cell 1) (guarded 1)) ≡ Done 0 (made (now (Cell 0 1) 9 ∷ []))
unfolding kind_of
one_reads = simp effects_written_out

pub zero_stays : does tiny (set (guarded 0) (number 5)) ≡ Done 0 (made [])
unfolding kind_of
zero_stays = simp effects_written_out

pub one_is_set : does tiny (delay 1 (set (guarded 1) (number 5))) ≡ Done 0 (made (later 1 (Cell 1 1) 5 ∷ []))
unfolding kind_of
one_is_set = simp effects_written_out

-- a rule's index counts modulo 2 ^ 32, and the cell is checked where the rule reads it
pub no_guarded_cell : does tiny (set (cell 1) (guarded 16)) ≡ Trapped (trap 6)
unfolding kind_of
no_guarded_cell = simp effects_written_out

pub stored : does tiny (set (memory Hi (number 64)) (number 258)) ≡ Done 0 (made (now (Memory 64 2) 258 ∷ []))
stored = simp effects_written_out

-- bytes that were written stand beside those that were there
pub half_written : does tiny (in_order (set (memory Hi (number 66)) (number 258) ∷ set (cell 1) (memory Si (number 64)) ∷ [])) ≡ Done 0 (made (now (Memory 66 2) 258 ∷ now (Cell 0 1) 117899522 ∷ []))
half_written = simp effects_written_out

pub half_written_little : does tiny_little (in_order (set (memory Hi (number 66)) (number 258) ∷ set (cell 1) (memory Si (number 64)) ∷ [])) ≡ Done 0 (made (now (Memory 66 2) 258 ∷ now (Cell 0 1) 16910087 ∷ []))
half_written_little = simp effects_written_out

pub askew : does tiny (set (memory Si (number (2 ^ 21 + 2))) (on_two 4 None (number 1) (number 1))) ≡ Trapped (trap 4)
unfolding kind_of
askew = simp effects_written_out

-- the value comes before the place in memory is checked
pub value_first : does tiny (set (memory Si (number 2)) (on_two 4 None (number 1) (number 0))) ≡ Trapped (trap 5)
unfolding kind_of
value_first = simp effects_written_out

pub nowhere : does tiny (set (cell 1) (memory Si (number (2 ^ 20)))) ≡ Trapped (trap 3)
nowhere = simp effects_written_out

pub straightened : does tiny_forced (set (memory Si (number 67)) (number 1)) ≡ Done 0 (made (now (Memory 64 4) 1 ∷ []))
straightened = simp effects_written_out

-- a device is asked anew each time, whatever was written to it
pub asked : counted (in_order (set (memory Si (number (2 ^ 32 - 16))) (number 1) ∷ set (cell 1) (memory Si (number (2 ^ 32 - 16))) ∷ []))
    ≡ record { outcome = Ok (now (Memory (2 ^ 32 - 16) 4) 1 ∷ now (Cell 0 1) 5 ∷ []); devices = 6; accesses = access (2 ^ 32 - 16) 4 (Some 5) ∷ [] }
asked = simp effects_written_out

pub failed : counted (set (cell 2) (memory Hi (number (2 ^ 32 - 8)))) ≡ record { outcome = Err (trap 8); devices = 5; accesses = access (2 ^ 32 - 8) 2 None ∷ [] }
failed = simp effects_written_out

pub summed : mode_in tiny (on_two 0 None (number 3) (number 4)) [] None ≡ Ok Si
unfolding kind_of
summed = simp effects_written_out

pub led_from_behind : mode_in tiny (on_two 0 None (number 255) (rtl op.Trunc (Some Qi) (pos 0) (number 3 ∷ []))) [] None ≡ Ok Qi
unfolding kind_of
led_from_behind = simp effects_written_out

pub too_large_for_it : mode_in tiny (on_two 0 None (number 256) (rtl op.Trunc (Some Qi) (pos 0) (number 3 ∷ []))) [] None ≡ Err (fault 402)
unfolding kind_of
too_large_for_it = simp effects_written_out

pub at_odds : mode_in tiny (on_two 0 (Some Si) (cell 1) (memory Hi (cell 2))) [] None ≡ Err (disagreement Si Hi)
unfolding kind_of
at_odds = simp effects_written_out

pub one_bit : mode_in tiny (on_two 15 None (number 3) (number 4)) [] None ≡ Ok Bi
unfolding kind_of
one_bit = simp effects_written_out

pub no_place : mode_in tiny (set (number 3) (number 4)) [] None ≡ Err (fault 403)
unfolding is_place
no_place = simp effects_written_out

pub no_value : mode_in tiny (on_two 0 (Some Si) (cell 1) (rtl op.Nop None (pos 0) [])) [] None ≡ Err (fault 404)
unfolding kind_of
no_value = simp effects_written_out

pub no_else : mode_in tiny (rtl op.If (Some Si) (pos 0) (number 1 ∷ number 2 ∷ [])) [] None ≡ Ok Void
no_else = simp effects_written_out

-- without `else` the arm's value is dropped, and with it the other arm's is the value
pub arm_dropped : value_of (rtl op.If (Some Si) (pos 0) (number 1 ∷ number 2 ∷ [])) None ≡ 0
arm_dropped = simp effects_written_out

pub arm_taken : value_of (rtl op.If (Some Si) (pos 0) (number 0 ∷ number 2 ∷ number 3 ∷ [])) None ≡ 3
arm_taken = simp effects_written_out
