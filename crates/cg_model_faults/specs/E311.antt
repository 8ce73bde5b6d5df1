-- E311: a format's constant isn't from 0 to 2^length - 1 of its field.
use Rattle.std.specs.Prelude.{ℕ, suc, ◌^◌, not, nat_lt, List, [], ◌∷◌, ◌++◌, Some, None, slice_get}
use Rattle.cg_model_faults.specs.Finding.{Faults, at_place, where_so}
use Rattle.cg_model_faults.specs.declared.fault.Said.TheVariants.{Count, Field}
use Rattle.cg_model.specs.declared.insn.Part.{Part}
use Rattle.cg_model.specs.declared.insn.Part.TheVariants.{Constant, Slot}
use Rattle.cg_model.specs.declared.machine.Machine.{Machine}

abbrev pub unfit_at : Machine → ℕ → Part → Faults
unfit_at m place (Constant k c) = elim (slice_get m.fields k) [
  | None ↦ []
  | Some f ↦ where_so (not (nat_lt c (2 ^ f.length))) (at_place 311 place (Field k) (Count c))
]
unfit_at m place (Slot o) = []

abbrev pub unfit_from : Machine → ℕ → List Part → Faults
unfit_from m place [] = []
unfit_from m place (p ∷ ps) = unfit_at m place p ++ unfit_from m (suc place) ps

-- Of a format, at the constant.
abbrev pub unfit_constants : Machine → List Part → Faults
unfit_constants m parts = unfit_from m 0 parts
