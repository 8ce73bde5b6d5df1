-- Arms whose values are loose.
use Rattle.std.specs.Prelude.{ℕ, suc, if◌then◌else◌, List, [], ◌∷◌}
use Rattle.cg_model.specs.Checked.{last_loose}
use Rattle.cg_model.specs.declared.rtl.Rtl.{Rtl, out-Rtl}

-- How many arms with a loose value stand in front.
abbrev pub firm_place : List Rtl → ℕ
firm_place [] = 0
firm_place (x ∷ xs) = if last_loose (out-Rtl x).items then suc (firm_place xs) else 0
