-- What expressions name, item by item.
use Rattle.std.proofs.Common.{◌≡◌, ℕ, ◌+◌, bit_or, map, ◌++◌, ap}
use Rattle.std.proofs.lemmas.Grind.{common_steps}
use Rattle.cg_model.specs.Covers.{all_bits}
use Rattle.cg_model.specs.declared.machine.Machine.{Machine}
use Rattle.cg_model.specs.declared.rtl.Rtl.{Rtl, out-Rtl, fold_out-Rtl}
use Rattle.cg_model_faults.specs.E306.{Within, each_within, declared_by, unnamed_at, unnamed_step, unnamed_in}
use Rattle.cg_model_faults.specs.E315.{bits_at_op, bits_step, bits_named}
use Rattle.cg_desc_check_rtl.proofs.Nodes.{first_append}
use Rattle.cg_code_mask.proofs.Formats.{or_assoc, or_zero, zero_or}

-- the numbers of an expression: its own, and those of its items inside of what it declares
pub unnamed_of : (m : Machine) (r : Rtl) (locals : ℕ) → unnamed_in m r locals ≡ unnamed_at m locals (out-Rtl r).op (out-Rtl r).number ++ each_within (locals + declared_by (out-Rtl r).op (out-Rtl r).number) (map (unnamed_in m) (out-Rtl r).items)
unfolding unnamed_in
unnamed_of m r locals = ap (λ f. f locals) (fold_out-Rtl Within (unnamed_step m) r)

pub bits_of_items : (m : Machine) (r : Rtl) → bits_named m r ≡ bit_or (bits_at_op m (out-Rtl r).op (out-Rtl r).number) (all_bits (map (bits_named m) (out-Rtl r).items))
unfolding bits_named
bits_of_items m r = fold_out-Rtl ℕ (bits_step m) r

pub ruleset unnamed_rules = (common_steps, first_append, unnamed_of)

pub ruleset bit_rules = (common_steps, bits_of_items, or_assoc, or_zero, zero_or)
