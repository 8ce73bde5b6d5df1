-- When an expression stands for one that is formed, by what stands in it.
use Rattle.std.specs.Prelude.{◌≡◌, Bool, true, false, []}
use Rattle.std.specs.List.{list_all}
use Rattle.cg_base.specs.declared.form.Form.{Form}
use Rattle.cg_model.specs.Formed.{expression, stands}
use Rattle.cg_rtl_resolve.specs.Names.{rtl_of}
use Rattle.cg_rtl_resolve.specs.declared.scope.Scope.{Scope}
use Rattle.cg_rtl.specs.Shapes.{faults_in}
use Rattle.cg_rtl_uses.specs.Uses.{uses_of}
use Rattle.cg_rtl_uses.specs.declared.uses.PlacedUse.{PlacedUse}
use Rattle.cg_rtl_uses.specs.declared.uses.Use.{Use}
use Rattle.cg_rtl_uses.specs.declared.uses.Use.TheVariants.{Undefined}

-- What stands at a place is no name that is lacking by its kind.
abbrev pub is_defined : Use → Bool
is_defined (Undefined name) = false
is_defined _ = true

abbrev pub is_defined_at : PlacedUse → Bool
is_defined_at u = is_defined u.what

-- An expression in which nothing is wrong, and no name of a kind is lacking, stands for one whose items stand as they may.
pub record AreNamed (s : Scope) : Type 0 where
  pub formed : (f : Form) → faults_in f ≡ [] → list_all is_defined_at (uses_of s f) ≡ true → stands (rtl_of s f) expression ≡ true
