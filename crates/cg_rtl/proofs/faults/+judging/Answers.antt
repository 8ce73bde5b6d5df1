use Rattle.cg_rtl.proofs.Firsts.{first_append}
use Rattle.std.proofs.lemmas.Grind.{common_steps}
use Rattle.std.proofs.Common.{arith, rules, ◌≡◌, ◌<◌, ◌∷◌, ◌++◌, [], drop, length, true, false, ℕ, ◌+◌, ◌-◌, ◌*◌, ◌≤◌, ◌/◌, ◌%◌, Bool, nat_eq, nat_lt, List, slice_index_or, slice_set, bit_and, bit_or, Fits, w8, w32, w64, Bor, MutBor}
use Rattle.std.specs.List.{list_all, flat_map}
use Rattle.std.specs.Option.{option_copied, option_map}
use Rattle.cg_base.specs.Refusing.{first}
use Rattle.cg_base.specs.Parts.{elements_of}
use Rattle.cg_rtl.specs.Functions.{seen_shape}
use Rattle.cg_rtl.specs.Shapes.{texts, wants, first_symbol, is_local_in, is_local, is_value, are_values, has_values, is_else, headed_faults, gives_mode_word, is_plain, arm_faults, item_faults, items_faults, behind_mode, has_mode, shaped_faults, calls_another, known_faults, call_faults, faults_to, listed}
use Rattle.cg_rtl.proofs.faults.+judging.Goals as goal

-- src/faults.rt:331:13
pub each-returns-in-Some : goal.each-returns-in-Some
each-returns-in-Some t c = grind (arith, common_steps, first_append)

-- src/faults.rt:329:5
pub each-loop-form-preserved : goal.each-loop-form-preserved
each-loop-form-preserved t c = grind (arith, common_steps, first_append)

-- src/faults.rt:267:13
pub items-returns-in-Some : goal.items-returns-in-Some
items-returns-in-Some t c = grind (arith, common_steps, first_append)

-- src/faults.rt:264:5
pub items-loop-operand-preserved : goal.items-loop-operand-preserved
items-loop-operand-preserved t c = grind (arith, common_steps, first_append)
