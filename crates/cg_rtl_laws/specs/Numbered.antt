-- All numbers in what an expression stands for name something, where the machine has as many elements of each kind as there are names.
use Rattle.std.specs.Prelude.{◌≡◌, ◌==◌, List, [], length}
use Rattle.cg_base.specs.declared.form.Form.{Form}
use Rattle.cg_model_faults.specs.declared.fault.Said.TheVariants as said
use Rattle.cg_model.specs.declared.machine.Machine.{Machine}
use Rattle.cg_model.specs.declared.rtl.Op.TheVariants as op
use Rattle.cg_model_faults.specs.E306.{unnamed}
use Rattle.cg_model_faults.specs.Finding.{AtNode, at_place, where_so}
use Rattle.cg_rtl_resolve.specs.Names.{rtl_of}
use Rattle.cg_rtl_resolve.specs.declared.scope.Scope.{Scope}
use Rattle.cg_rtl_uses.specs.Uses.{uses_of}
use Rattle.cg_rtl_laws.specs.Covered.{AreSilent}

-- The machine has an element for each name.
pub record HasEach (s : Scope) (m : Machine) : Type 0 where
  pub fields : length s.fields ≡ length m.fields
  pub multis : length s.multis ≡ length m.multis
  pub hardware : length s.hardware ≡ length m.hardware
  pub operands : length s.operands ≡ length m.operands
  pub texts : length s.texts ≡ length m.texts

-- An error, where the machine has no texts.
unfoldable pub no_text_at : Machine → AtNode
no_text_at m op.Error mode n = where_so (length m.texts == 0) (at_place 306 0 said.Own said.Nothing)
no_text_at m _ mode n = []

pub record AreNumbered (s : Scope) (m : Machine) : Type 0 where
  pub numbered : HasEach s m → (f : Form) → AreSilent (no_text_at m) (uses_of s f) → unnamed m (rtl_of s f) ≡ []
