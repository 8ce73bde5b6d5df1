-- The faults of an element's expressions by their modes: E405 in front of all, and else the first fault of the first expression that
-- has one, E401 to E406.
use Rattle.std.specs.Prelude.{ℕ, Bool, true, false, not, ◌==◌, List, [], ◌∷◌, ◌++◌, Option, Some, None, Ok, Err, if◌then◌else◌}
use Rattle.cg_base.specs.declared.mode.Mode.{Mode}
use Rattle.cg_base.specs.declared.mode.Mode.TheVariants as mode
use Rattle.cg_base.specs.Modes.{bits_of, mode_place}
use Rattle.cg_model.specs.Checked.{Verdict, mode_of}
use Rattle.cg_model_faults.specs.Finding.{Faults, at_place, where_so, AtNode, in_nodes}
use Rattle.cg_model_faults.specs.declared.fault.MachineFault.{MachineFault}
use Rattle.cg_model_faults.specs.declared.fault.Purpose.{Purpose}
use Rattle.cg_model_faults.specs.declared.fault.Purpose.TheVariants as purpose
use Rattle.cg_model_faults.specs.declared.fault.Said.{Said}
use Rattle.cg_model_faults.specs.declared.fault.Said.TheVariants as said
use Rattle.cg_model.specs.declared.judged.ModeFault.{ModeFault}
use Rattle.cg_model.specs.declared.machine.Machine.{Machine}
use Rattle.cg_model.specs.declared.rtl.Op.{Op}
use Rattle.cg_model.specs.declared.rtl.Op.TheVariants as op
use Rattle.cg_model.specs.declared.rtl.Rtl.{Rtl}

-- An expression, what it is for, the mode that is wanted of it, and the mode of the value that it names as its own.
pub record Judged : Type 0 where
  pub purpose : Purpose
  pub rtl : Rtl
  pub want : Option Mode
  pub own : Option Mode

-- E405: a value, an index or a new value is named outside of its rule.
unfoldable pub has_value : Purpose → Bool
has_value purpose.Encode = true
has_value purpose.Decode = true
has_value purpose.Insert = true
has_value _ = false

unfoldable pub has_index : Purpose → Bool
has_index purpose.Get = true
has_index purpose.Set = true
has_index _ = false

unfoldable pub has_new_value : Purpose → Bool
has_new_value purpose.Set = true
has_new_value _ = false

abbrev pub outside : Bool → Op → Faults
outside has o = where_so (not has) (at_place 405 0 (said.Name o) said.Nothing)

unfoldable pub outside_at : Purpose → AtNode
outside_at p op.Value mode n = outside (has_value p) op.Value
outside_at p op.Index mode n = outside (has_index p) op.Index
outside_at p op.NewVal mode n = outside (has_new_value p) op.NewVal
outside_at p _ mode n = []

abbrev pub outside_rules : Purpose → Rtl → Faults
outside_rules p rtl = in_nodes (outside_at p) rtl

-- A value or a new value stands in another mode than its own.
abbrev pub has_other : Option Mode → Option Mode → Bool
has_other None None = false
has_other (Some k) (Some l) = not (mode_place k == mode_place l)
has_other _ _ = true

abbrev pub other : Option Mode → Option Mode → Faults
other own mode = where_so (has_other mode own) (at_place 402 0 said.Own said.Nothing)

unfoldable pub other_at : Option Mode → AtNode
other_at own op.Value mode n = other own mode
other_at own op.NewVal mode n = other own mode
other_at own _ mode n = []

abbrev pub other_modes : Option Mode → Rtl → Faults
other_modes own rtl = in_nodes (other_at own) rtl

-- What is said of a fault of modes: both modes where there are two.
abbrev pub modes_said : Option Mode → Option Mode → Said
modes_said (Some k) (Some l) = said.Modes k l
modes_said _ _ = said.Nothing

abbrev pub by_modes : ModeFault → MachineFault
by_modes e = at_place e.number 0 said.Own (modes_said e.first e.second)

-- The mode of an expression must agree with the one that is wanted. That of an assertion may be any, but not VOID; that of
-- semantics and of a set rule any.
unfoldable pub is_free : Purpose → Bool
is_free purpose.Semantics = true
is_free purpose.Set = true
is_free _ = false

abbrev pub disagrees : Option Mode → Mode → Faults
disagrees None k = []
disagrees (Some want) k = where_so (not (bits_of k == bits_of want)) (at_place 401 0 said.Own (said.Modes want k))

abbrev pub result_faults : Judged → Mode → Faults
result_faults j k = if is_free j.purpose then [] else if bits_of k == 0 then at_place 404 0 said.Own said.Nothing ∷ [] else disagrees j.want k

abbrev pub verdict_faults : Judged → Verdict → Faults
verdict_faults j (Ok k) = result_faults j k
verdict_faults j (Err e) = by_modes e ∷ []

-- Of one expression.
abbrev pub mode_faults : Machine → Judged → Faults
mode_faults m j = other_modes j.own j.rtl ++ verdict_faults j (mode_of m j.rtl j.want)

abbrev pub all_outside : List Judged → Faults
all_outside [] = []
all_outside (j ∷ js) = outside_rules j.purpose j.rtl ++ all_outside js

abbrev pub all_modes : Machine → List Judged → Faults
all_modes m [] = []
all_modes m (j ∷ js) = mode_faults m j ++ all_modes m js

-- Of the expressions of an element, in their order.
abbrev pub judged_faults : Machine → List Judged → Faults
judged_faults m js = all_outside js ++ all_modes m js
