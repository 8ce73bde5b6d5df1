-- E317: over 4,096 instructions.
use Rattle.std.specs.Prelude.{ℕ, ◌==◌}
use Rattle.cg_model_faults.specs.Finding.{Faults, at_place, where_so}
use Rattle.cg_model_faults.specs.declared.fault.Said.TheVariants.{Count, Nothing}

-- Of an instruction that so many stand before: the one with which the limit is passed.
abbrev pub too_many_insns : ℕ → Faults
too_many_insns before = where_so (before == 4096) (at_place 317 0 (Count 4096) Nothing)
