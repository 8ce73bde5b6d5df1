-- A value, an index or a new value is named by no expression whose rule has none.
use Rattle.std.specs.Prelude.{◌≡◌, true, []}
use Rattle.cg_base.specs.declared.form.Form.{Form}
use Rattle.cg_model_faults.specs.declared.fault.Purpose.{Purpose}
use Rattle.cg_model_faults.specs.Judging.{has_value, has_index, has_new_value, outside_rules}
use Rattle.cg_rtl_resolve.specs.Names.{rtl_of}
use Rattle.cg_rtl_resolve.specs.declared.scope.Rule.{Rule}
use Rattle.cg_rtl_resolve.specs.declared.scope.Rule.TheVariants as rule
use Rattle.cg_rtl_resolve.specs.declared.scope.Scope.{Scope}

-- What an expression is for has all that its rule has.
abbrev pub Fits : Rule → Purpose → Type 0
Fits rule.Get p = has_index p ≡ true
Fits rule.Set p = (has_index p ≡ true) × (has_new_value p ≡ true)
Fits rule.Encode p = has_value p ≡ true
Fits rule.Decode p = has_value p ≡ true
Fits (rule.Insert multi) p = has_value p ≡ true
Fits _ p = Unit {0}

pub record AreInside (s : Scope) : Type 0 where
  pub inside : (p : Purpose) → Fits s.rule p → (f : Form) → outside_rules p (rtl_of s f) ≡ []
