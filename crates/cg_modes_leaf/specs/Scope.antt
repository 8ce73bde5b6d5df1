-- The locals that the code keeps on its way down.
use Rattle.std.specs.Prelude.{ℕ, ◌+◌, ◌-◌, ◌≤◌, List, [], ◌++◌, map, length, Option, Some, None, Result, Ok, Err, slice_get, option_map}
use Rattle.cg_model.specs.Checked.{Locals, from_outside, local_of}
use Rattle.cg_model.specs.declared.judged.Local.{Local}
use Rattle.cg_model.specs.declared.rtl.Rtl.{Rtl, out-Rtl}
use Rattle.cg_modes_leaf.specs.declared.scope.Scope.{Scope}
use Rattle.cg_modes_leaf.specs.declared.scope.Scope.TheOpen.{Scope-F, Outside, Sequence, Parallel}
use Rattle.cg_modes_leaf.specs.declared.scope.Scope.TheFolds.{fold-Scope}

-- The local that a `declare` stands for.
abbrev pub declared_by : Rtl → Local
declared_by r = local_of (out-Rtl r)

abbrev pub locals_step : Scope-F Locals → Locals
locals_step Outside = []
locals_step (Sequence outer declares) = outer.now ++ map declared_by declares.now
locals_step (Parallel outer) = from_outside outer.now

-- The locals of a scope, from the outermost on.
abbrev pub locals_of : Scope → Locals
locals_of s = fold-Scope Locals locals_step s

abbrev pub found_of : Option Local → ℕ → Result Local ℕ
found_of (Some x) count = Ok x
found_of None count = Err count

-- The local of a number, or how many there are.
abbrev pub found_in : Locals → ℕ → Result Local ℕ
found_in l n = found_of (slice_get l n) (length l)

-- The local of a number behind those around, and one of a `sequence` where it is none of them.
abbrev pub beside : Result Local ℕ → List Rtl → ℕ → Result Local ℕ
beside (Ok x) d n = Ok x
beside (Err k) d n = found_of (option_map declared_by (slice_get d (n - k))) (k + length d)

abbrev pub IsPast : Result Local ℕ → ℕ → Type 0
IsPast (Ok x) n = Unit {0}
IsPast (Err k) n = k ≤ n
