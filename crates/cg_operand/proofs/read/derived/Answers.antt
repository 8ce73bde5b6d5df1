use Rattle.std.proofs.Common.{◌≡◌, ℕ, List, Option}
use Rattle.cg_base.specs.declared.form.Form.{Form}
use Rattle.cg_attrs.specs.declared.attr.Attr.{Attr}
use Rattle.cg_operand.specs.declared.form.DerivedOperandForm.{DerivedOperandForm}
use Rattle.cg_operand.proofs.read.derived.Goals as goal

derived : List ℕ → List (List ℕ) → List ℕ → List ℕ → Form → Form → Form → Option Form → List Attr → DerivedOperandForm
derived name args syntax base_ifield encoding getter setter ifield_assertion attrs =
    record { name = name; args = args; syntax = syntax; base_ifield = base_ifield; encoding = encoding; getter = getter; setter = setter; ifield_assertion = ifield_assertion; attrs = attrs }

-- a form of these clauses
made : {a a' c c' d d' : List ℕ} {b b' : List (List ℕ)} {e e' f f' g g' : Form} {h h' : Option Form} {k k' : List Attr} →
    a ≡ a' → b ≡ b' → c ≡ c' → d ≡ d' → e ≡ e' → f ≡ f' → g ≡ g' → h ≡ h' → k ≡ k' → derived a b c d e f g h k ≡ derived a' b' c' d' e' f' g' h' k'
made p q r s t u v w x = cc

pub returns : goal.returns
unfolding derived
returns c =
    made c.in_ok-wanted_symbol.ensures c.in_ok-listed_names.ensures c.in_ok-wanted_word.ensures c.in_ok-wanted_symbol-2.ensures
    c.in_ok-wanted_form.ensures c.in_ok-wanted_form-2.ensures c.in_ok-wanted_form-3.ensures c.in_ok-optional_form.ensures c.in_ok-attrs_at.ensures
