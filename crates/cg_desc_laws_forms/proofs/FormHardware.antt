-- What the forms of hardware say, where they have no fault.
use Rattle.std.proofs.Common.{◌≡◌, ℕ, Bool, true, false, List, [], ◌∷◌, ◌++◌, Option, Some, None, Result, Ok, Err, is_some, refl, sym, ap, ◌∙◌, subst}
use Rattle.std.specs.Prelude.{codes}
use Rattle.std.specs.Option.{option_map, option_or}
use Rattle.cg_base.specs.declared.form.Form.{Form}
use Rattle.cg_base.specs.declared.form.Form.TheVariants.{Items}
use Rattle.cg_base.specs.Parts.{◌>>=◌, headed_in, headed}
use Rattle.cg_base.specs.Refusing.{Fault, least}
use Rattle.cg_base.specs.Texts.{same_text, passes}
use Rattle.cg_attrs.specs.Clauses.{Clause, Texts, Row, row_named, content_at, clause_faults}
use Rattle.cg_attrs.specs.Contents.{misfit}
use Rattle.cg_attrs.specs.Lookups.{optional_form}
use Rattle.cg_hw.specs.Contents.{wrong, left_out}
use Rattle.cg_hw.specs.Hardware.{hardware_in, hardware_of, hardware_faults}
use Rattle.cg_hw.specs.Keywords.{is_keyword_in, is_keyword}
use Rattle.cg_hw.specs.Rules.{get_formals, set_formals, is_rule, expression, wrong_rule}
use Rattle.cg_hw.specs.Rules as rules
use Rattle.cg_hw.specs.Tables.{heads, table_of}
use Rattle.cg_hw.specs.declared.form.HardwareForm.{HardwareForm}
use Rattle.cg_desc_elements.specs.declared.element.Element.{Element}
use Rattle.cg_desc_elements.specs.declared.element.Element.TheVariants as element
use Rattle.cg_desc_elements.specs.declared.reading.Reader.{Reader}
use Rattle.cg_desc_elements.specs.declared.reading.Reader.TheVariants.{Frames, Fields, Hardware, Operands, Insns}
use Rattle.cg_desc_elements.specs.Reading.{reader_for, said_by, faults_by, element_of, element_faults}
use Rattle.cg_insn.specs.Expressions.{inside}
use Rattle.cg_rtl.specs.Shapes.{wrong_in, left_out_in}
use Rattle.cg_desc_laws_forms.specs.Forms.{HasRules}
use Rattle.cg_desc_laws_forms.proofs.Lists.{append_none}
use Rattle.cg_desc_laws_forms.proofs.Clauses.{Clean, clean, StandsWith, looked_up, fits}
use Rattle.cg_desc_laws_forms.proofs.Frames.{misfit_none}
use Rattle.cg_desc_laws_forms.proofs.Readers.{is_read}
use Rattle.cg_desc_laws_forms.proofs.Rules.{elements_items}
use Rattle.cg_desc_laws_forms.proofs.Told.{These, told, optional_told}
use Rattle.cg_desc_laws_forms.proofs.Types.{type_told}

-- what is wrong inside a rule
same_inside : (texts : Form → List (List ℕ)) (o : Option Form) → rules.inside texts o ≡ inside texts o
same_inside texts None = refl
same_inside texts (Some e) = refl

get_inside : (c : Clause) → wrong_rule get_formals c ≡ [] → inside wrong_in (expression c.content) ≡ []
get_inside c e = sym (same_inside wrong_in (expression c.content)) ∙ (append_none (misfit (is_rule get_formals c) c.name) (rules.inside wrong_in (expression c.content)) e).1

set_inside : (c : Clause) → wrong_rule set_formals c ≡ [] → inside wrong_in (expression c.content) ≡ []
set_inside c e = sym (same_inside wrong_in (expression c.content)) ∙ (append_none (misfit (is_rule set_formals c) c.name) (rules.inside wrong_in (expression c.content)) e).1

left_inside : (c : Clause) → rules.inside left_out_in (expression c.content) ≡ [] → inside left_out_in (expression c.content) ≡ []
left_inside c e = sym (same_inside left_out_in (expression c.content)) ∙ e

-- words
abbrev form_there : Form → Option Form → Form
form_there f None = f
form_there f (Some g) = g

module _ {C : Type 0} (wrongs left_outs : Texts C) {rows : List (Row C)} (t : These rows) (elements : List Form) (clear : least (clause_faults wrongs left_outs rows elements) ≡ None) where
  keyword_told : (name : List ℕ) {r : Row C} → same_text (codes "attrs") name ≡ false → row_named rows name ≡ Some r → ((c : Clause) → wrongs r.content c ≡ misfit (is_keyword c.content) c.name) → (f : Form) → optional_form name elements ≡ Some f → passes is_keyword_in (headed f) ≡ true
  unfolding headed
  keyword_told name {r} other row judges f is = at (content_at name elements) refl where
    at : (o : Option (List Form)) → content_at name elements ≡ o → passes is_keyword_in (headed f) ≡ true
    at None none = let never : None ≡ Some f = sym (ap (option_map Items) none) ∙ is in absurd cc
    at (Some content) there =
        let x : StandsWith elements name content = looked_up elements name content there in
        let c : Clause = record { name = name; content = x.stands.content; elements = elements } in
        let none : misfit (is_keyword x.stands.content) name ≡ [] = sym (judges c) ∙ fits wrongs rows elements name r x.stands (clean wrongs left_outs rows elements clear) other row in
        let good : is_keyword content ≡ true = subst (λ fs. is_keyword fs ≡ true) x.same (misfit_none (is_keyword x.stands.content) name none) in
        let same : Items content ≡ f = ap (form_there f) (sym (ap (option_map Items) there) ∙ is) in
        subst (λ g. passes is_keyword_in (headed g) ≡ true) same (ap (λ o. passes is_keyword_in (o >>= headed_in)) (elements_items content) ∙ good)

either_told : (o p : Option Form) → ((f : Form) → o ≡ Some f → passes is_keyword_in (headed f) ≡ true) → ((f : Form) → p ≡ Some f → passes is_keyword_in (headed f) ≡ true) → (f : Form) → option_or o p ≡ Some f → passes is_keyword_in (headed f) ≡ true
either_told None p first second f is = second f is
either_told (Some g) p first second f is = first f is

hardware_told : (f : Form) (x : HardwareForm) → least (hardware_faults f) ≡ None → hardware_of f ≡ Some x → HasRules x
hardware_told f x e is = told heads wrong left_out table_of (λ kind elements. hardware_in elements) HasRules (
  (λ t elements clear. record {
    type = type_told wrong left_out t elements clear (codes "type") refl refl refl refl (λ c. refl);
    words = either_told (optional_form (codes "indices") elements) (optional_form (codes "values") elements)
        (keyword_told wrong left_out t elements clear (codes "indices") refl refl (λ c. refl))
        (keyword_told wrong left_out t elements clear (codes "values") refl refl (λ c. refl));
    get = optional_told wrong left_out t elements clear (codes "get") expression refl refl refl (λ c. get_inside c) (λ c. left_inside c);
    set = optional_told wrong left_out t elements clear (codes "set") expression refl refl refl (λ c. set_inside c) (λ c. left_inside c);
  }),
  tt,
) f x e is

-- the elements
abbrev form_or : HardwareForm → Option Element → HardwareForm
form_or x (Some (element.Hardware other)) = other
form_or x _ = x

as_hardware : (o : Option HardwareForm) (x : HardwareForm) → option_map element.Hardware o ≡ Some (element.Hardware x) → o ≡ Some x
as_hardware None x e = absurd cc
as_hardware (Some y) x e = ap (λ z. Some (form_or y z)) e

pub hardware_by : (f : Form) (r : Result Reader Fault) (x : HardwareForm) → said_by f r ≡ Some (element.Hardware x) → (hardware_of f ≡ Some x) × (least (faults_by f r) ≡ least (hardware_faults f))
hardware_by f (Err fault) x e = absurd cc
hardware_by f (Ok Frames) x e = let never : Hardware ≡ Frames = is_read f Frames (element.Hardware x) e in absurd cc
hardware_by f (Ok Fields) x e = let never : Hardware ≡ Fields = is_read f Fields (element.Hardware x) e in absurd cc
hardware_by f (Ok Hardware) x e = (as_hardware (hardware_of f) x e, refl)
hardware_by f (Ok Operands) x e = let never : Hardware ≡ Operands = is_read f Operands (element.Hardware x) e in absurd cc
hardware_by f (Ok Insns) x e = let never : Hardware ≡ Insns = is_read f Insns (element.Hardware x) e in absurd cc

pub hardware_law : (f : Form) (x : HardwareForm) → least (element_faults f) ≡ None → element_of f ≡ Some (element.Hardware x) → HasRules x
hardware_law f x e is =
    let by : (hardware_of f ≡ Some x) × (least (element_faults f) ≡ least (hardware_faults f)) = hardware_by f (reader_for f) x is in
    hardware_told f x (sym by.1 ∙ e) by.0
