-- When an expression stands for one that is formed.
use Rattle.std.specs.Prelude.{◌≡◌, Bool, true, false, not, ◌||◌, is_some, []}
use Rattle.cg_base.specs.declared.form.Form.{Form}
use Rattle.cg_model.specs.Formed.{expression, stands}
use Rattle.cg_rtl_resolve.specs.Names.{rtl_of, lacks_of, names_lacking}
use Rattle.cg_rtl_resolve.specs.declared.scope.Lack.TheVariants.{Undefined}
use Rattle.cg_rtl_resolve.specs.declared.scope.Rule.{Rule}
use Rattle.cg_rtl_resolve.specs.declared.scope.Rule.TheVariants as rule
use Rattle.cg_rtl_resolve.specs.declared.scope.Scope.{Scope}
use Rattle.cg_rtl.specs.Shapes.{faults_in}

-- The rules that have a value, or a new value.
abbrev pub has_value : Rule → Bool
has_value rule.Set = true
has_value rule.Encode = true
has_value rule.Decode = true
has_value (rule.Insert multi) = true
has_value _ = false

-- The value has a mode.
abbrev pub gives_value : Scope → Bool
gives_value s = not (has_value s.rule) || is_some s.own

-- An expression in which nothing is wrong, and whose names of kinds are defined, stands for one whose items stand as they may.
pub record AreFormed (s : Scope) : Type 0 where
  pub formed : (f : Form) → faults_in f ≡ [] → names_lacking Undefined (lacks_of s f) ≡ [] → stands (rtl_of s f) expression ≡ true
