-- What is said of no node that stands in an expression is said of no node of what the expression stands for.
use Rattle.std.specs.Prelude.{◌≡◌, List, [], ◌∷◌, ℤ, pos, Option, None}
use Rattle.cg_base.specs.declared.form.Form.{Form}
use Rattle.cg_base.specs.declared.mode.Mode.{Mode}
use Rattle.cg_model.specs.declared.rtl.Op.TheVariants as op
use Rattle.cg_model_faults.specs.Finding.{AtNode, in_nodes}
use Rattle.cg_rtl_resolve.specs.Names.{rtl_of}
use Rattle.cg_rtl_resolve.specs.declared.scope.Scope.{Scope}
use Rattle.cg_rtl_uses.specs.Uses.{uses_of}
use Rattle.cg_rtl_uses.specs.declared.uses.PlacedUse.{PlacedUse}
use Rattle.cg_rtl_uses.specs.declared.uses.Use.{Use}
use Rattle.cg_rtl_uses.specs.declared.uses.Use.TheVariants.{Node}

-- Nothing is said of what stands at a place, nor of anything that stands in an expression.
abbrev pub IsSilent : AtNode → Use → Type 0
IsSilent at (Node o mode n) = at o mode n ≡ []
IsSilent at _ = Unit {0}

abbrev pub AreSilent : AtNode → List PlacedUse → Type 0
AreSilent at [] = Unit {0}
AreSilent at (u ∷ us) = IsSilent at u.what × AreSilent at us

-- Nothing is ever said of what stands for nothing, nor of a constant; and of an error it doesn't matter which text it has.
pub record IsPlain (at : AtNode) : Type 0 where
  pub nothing : at op.Nop None (pos 0) ≡ []
  pub constant : (n : ℤ) → at op.Number None n ≡ []
  pub error : (mode : Option Mode) (n : ℤ) → at op.Error mode (pos 0) ≡ [] → at op.Error mode n ≡ []

pub record AreCovered (s : Scope) : Type 0 where
  pub covered : (at : AtNode) → IsPlain at → (f : Form) → AreSilent at (uses_of s f) → in_nodes at (rtl_of s f) ≡ []
