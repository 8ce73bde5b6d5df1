-- The names of elements by their numbers.
use Rattle.std.specs.Prelude.{ℕ, List, slice_get}
use Rattle.cg_model_faults.specs.Refusing.{name_where}
use Rattle.cg_model.specs.declared.machine.Machine.{Machine}

abbrev pub multi_name : Machine → ℕ → List ℕ
multi_name m k = name_where (λ x. x.name) (slice_get m.multis k)

abbrev pub hardware_name : Machine → ℕ → List ℕ
hardware_name m k = name_where (λ h. h.name) (slice_get m.hardware k)

abbrev pub operand_name : Machine → ℕ → List ℕ
operand_name m k = name_where (λ o. o.name) (slice_get m.operands k)
