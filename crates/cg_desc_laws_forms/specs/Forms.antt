-- What stands in a form without fault, beside its sizes: expressions in which nothing is wrong, modes of values, texts that are syntaxes, and
-- fields of which each is set.
use Rattle.std.specs.Prelude.{◌≡◌, ℕ, ℤ, nat_le, Bool, true, if◌then◌else◌, is_some, List, [], ◌∷◌, Option, Some, None, codes}
use Rattle.std.specs.List.{list_all, list_any}
use Rattle.std.specs.Option.{option_or, option_map}
use Rattle.cg_base.specs.declared.form.Form.{Form}
use Rattle.cg_base.specs.Parts.{◌>>=◌, Headed, headed, elements_of, only}
use Rattle.cg_base.specs.Refusing.{least}
use Rattle.cg_base.specs.Texts.{same_text, passes}
use Rattle.cg_attrs.specs.declared.frame.IsaForm.{IsaForm}
use Rattle.cg_attrs.specs.declared.frame.Frame.TheVariants.{Isa}
use Rattle.cg_desc_elements.specs.declared.element.Element.{Element}
use Rattle.cg_desc_elements.specs.declared.element.Element.TheVariants as element
use Rattle.cg_desc_elements.specs.Reading.{element_of, element_faults}
use Rattle.cg_hw.specs.declared.form.HardwareForm.{HardwareForm}
use Rattle.cg_hw.specs.Keywords.{is_keyword_in}
use Rattle.cg_hw.specs.Rules as hardware_rules
use Rattle.cg_hw.specs.Types.{registers, is_immediate}
use Rattle.cg_ifield.specs.Contents.{is_field_mode}
use Rattle.cg_ifield.specs.Contents as field_contents
use Rattle.cg_ifield.specs.Sets.{set_of, sets_of, sets_field}
use Rattle.cg_ifield.specs.declared.form.FieldForm.TheVariants as field
use Rattle.cg_ifield.specs.declared.form.MultiForm.{MultiForm}
use Rattle.cg_ifield.specs.declared.form.PlainForm.{PlainForm}
use Rattle.cg_insn.specs.Syntax.{is_syntax}
use Rattle.cg_insn.specs.declared.form.InsnForm.TheVariants as insn
use Rattle.cg_insn.specs.declared.form.InstructionForm.{InstructionForm}
use Rattle.cg_insn.specs.declared.form.MacroForm.{MacroForm}
use Rattle.cg_operand.specs.declared.form.DerivedOperandForm.{DerivedOperandForm}
use Rattle.cg_operand.specs.declared.form.OperandForm.TheVariants as operand
use Rattle.cg_rtl.specs.Shapes.{faults_in}
use Rattle.cg_desc_laws_forms.specs.FormSizes.{IsNumber}

-- Nothing is wrong in an expression and nothing left out, where it is there.
abbrev pub IsClear : Option Form → Type 0
IsClear None = Unit {0}
IsClear (Some e) = faults_in e ≡ []

-- A form is one expression in a list of its own, and so is one that may be absent.
pub record HoldsOne (f : Form) : Type 0 where
  pub expression : Form
  pub is : (elements_of f >>= only) ≡ Some expression
  pub clear : faults_in expression ≡ []

abbrev pub one_in : Option Form → Option Form
one_in f = f >>= elements_of >>= only

-- A bundle's instructions are counted from one.
pub record HasBundles (form : IsaForm) : Type 0 where
  pub parallel : (n : ℤ) → form.parallel_insns ≡ Some n → IsNumber (nat_le 1) n

-- The expressions of `encode` and `decode`, behind their formals.
abbrev pub coded_in : Option Form → Option Form
coded_in f = f >>= elements_of >>= field_contents.expression

pub record HasCodes (form : PlainForm) : Type 0 where
  pub encode : IsClear (coded_in form.encode)
  pub decode : IsClear (coded_in form.decode)

-- The expression of a form that sets a field.
abbrev pub value_set : Form → Option Form
value_set f = option_map (λ x. x.1) (set_of f)

abbrev pub AreClear : List Form → Type 0
AreClear [] = Unit {0}
AreClear (f ∷ fs) = IsClear (value_set f) × AreClear fs

-- The sets of a clause, whose expressions are clear.
pub record HasSets (f : Form) : Type 0 where
  pub sets : List Form
  pub is : (elements_of f >>= sets_of) ≡ Some sets
  pub clear : AreClear sets

-- A field is one of those that are set.
abbrev pub is_set_in : List Form → List ℕ → Bool
is_set_in sets name = list_any (sets_field name) sets

-- A multi field sets each of its subfields.
pub record HasFields (form : MultiForm) : Type 0 where
  pub mode : (text : List ℕ) → form.mode ≡ Some text → is_field_mode text ≡ true
  pub insert : HasSets form.insert
  pub extract : HasSets form.extract
  pub each : list_all (is_set_in insert.sets) form.subfields ≡ true

-- Registers and immediates have a mode of values behind the word of their type.
abbrev pub is_type : Headed → Bool
is_type x =
    if same_text (codes "register") x.0 then is_some (registers x.1)
    else if same_text (codes "memory") x.0 then true
    else if same_text (codes "pc") x.0 then true
    else if same_text (codes "immediate") x.0 then is_immediate x.1
    else true

pub record HasType (f : Form) : Type 0 where
  pub type : Headed
  pub is : headed f ≡ Some type
  pub fits : is_type type ≡ true

-- Hardware has a type and words, and its rules have expressions.
abbrev pub ruled_in : Option Form → Option Form
ruled_in f = f >>= elements_of >>= hardware_rules.expression

pub record HasRules (form : HardwareForm) : Type 0 where
  pub type : HasType form.kind
  pub words : (f : Form) → option_or form.indices form.values ≡ Some f → passes is_keyword_in (headed f) ≡ true
  pub get : IsClear (ruled_in form.get)
  pub set : IsClear (ruled_in form.set)

-- An instruction, a derived operand and a macro instruction.
pub record HasText (form : InstructionForm) : Type 0 where
  pub syntax : is_syntax form.syntax ≡ true
  pub semantics : HoldsOne form.semantics
  pub assertion : IsClear (one_in form.ifield_assertion)

pub record IsChoice (form : DerivedOperandForm) : Type 0 where
  pub syntax : is_syntax form.syntax ≡ true
  pub getter : HoldsOne form.getter
  pub setter : HoldsOne form.setter
  pub assertion : IsClear (one_in form.ifield_assertion)

-- Of each form without fault.
pub record AreForms : Type 0 where
  pub bundles : (f : Form) (form : IsaForm) → least (element_faults f) ≡ None → element_of f ≡ Some (element.Frame (Isa form)) → HasBundles form
  pub codes : (f : Form) (form : PlainForm) → least (element_faults f) ≡ None → element_of f ≡ Some (element.Field (field.Plain form)) → HasCodes form
  pub multis : (f : Form) (form : MultiForm) → least (element_faults f) ≡ None → element_of f ≡ Some (element.Field (field.Multi form)) → HasFields form
  pub hardware : (f : Form) (form : HardwareForm) → least (element_faults f) ≡ None → element_of f ≡ Some (element.Hardware form) → HasRules form
  pub insns : (f : Form) (form : InstructionForm) → least (element_faults f) ≡ None → element_of f ≡ Some (element.Insn (insn.Instruction form)) → HasText form
  pub macros : (f : Form) (form : MacroForm) → least (element_faults f) ≡ None → element_of f ≡ Some (element.Insn (insn.Macro form)) → is_syntax form.syntax ≡ true
  pub choices : (f : Form) (form : DerivedOperandForm) → least (element_faults f) ≡ None → element_of f ≡ Some (element.Operand (operand.Derived form)) → IsChoice form
