-- What a rule that judges what stands in expressions, each place by itself, says of them.
use Rattle.std.specs.Prelude.{ℕ, List, [], ◌∷◌, ◌++◌, Option, Some, None}
use Rattle.std.specs.List.{flat_map}
use Rattle.cg_desc_fault_report.specs.declared.saying.Saying.{Saying}
use Rattle.cg_desc_fault_report.specs.declared.saying.Placed.{Placed}
use Rattle.cg_desc_fault_report.specs.Saying.{placed}
use Rattle.cg_rtl_uses.specs.declared.uses.Use.{Use}
use Rattle.cg_rtl_uses.specs.declared.uses.PlacedUse.{PlacedUse}
use Rattle.cg_desc_fault_rtl.specs.declared.asking.Expression.{Expression}

-- What is said of what stands at one place.
abbrev pub Says : Type 0
Says = Expression → Use → Option Saying

abbrev pub placed_where : List ℕ → Option Saying → List Placed
placed_where place None = []
placed_where place (Some said) = placed place said ∷ []

abbrev pub of_use : Says → Expression → PlacedUse → List Placed
of_use says x u = placed_where (x.asking.at ++ u.place) (says x u.what)

-- Of an expression, from left to right, and of several.
abbrev pub of_expression : Says → Expression → List Placed
of_expression says x = flat_map (of_use says x) x.uses

abbrev pub of_expressions : Says → List Expression → List Placed
of_expressions says xs = flat_map (of_expression says) xs
