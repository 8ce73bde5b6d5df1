-- How deep an expression is that has a mode.
use Rattle.std.specs.Prelude.{◌≡◌, Bool, true, nat_le, Option, Ok}
use Rattle.cg_base.specs.declared.mode.Mode.{Mode}
use Rattle.cg_model.specs.Checked.{mode_of}
use Rattle.cg_model.specs.Formed.{depth}
use Rattle.cg_model.specs.declared.machine.Machine.{Machine}
use Rattle.cg_model.specs.declared.rtl.Rtl.{Rtl}

-- At most 64.
pub record AreShallow (m : Machine) : Type 0 where
  pub shallow : (r : Rtl) (want : Option Mode) (k : Mode) → mode_of m r want ≡ Ok k → nat_le (depth r) 64 ≡ true
