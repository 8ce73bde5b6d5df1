-- A name of a plain field, or of a plain operand, is among the names of its kind.
use Rattle.std.proofs.Common.{◌≡◌, ◌∙◌, ℕ, zero, suc, Bool, true, false, ◌||◌, if◌then◌else◌, List, [], ◌∷◌, map, Option, Some, None, slice_get, refl, sym, ap, subst, codes}
use Rattle.std.specs.List.{filter_map, cons_option}
use Rattle.std.specs.Option.{option_or}
use Rattle.std.specs.Cmp.Lexicographic.{bytes_decides}
use Rattle.std.proofs.lemmas.Bool.{false≢true}
use Rattle.cg_base.specs.Texts.{same_text, is_among}
use Rattle.cg_attrs.specs.declared.frame.Frame.{Frame}
use Rattle.cg_attrs.specs.declared.frame.Frame.TheVariants as frame
use Rattle.cg_desc_laws_forms.proofs.Lists.{the_found}
use Rattle.cg_desc_data.specs.Selecting.{Selection, takes_part_in, member}
use Rattle.cg_desc_data.specs.Numbering.{field_in, operand_in, field_names, operand_names}
use Rattle.cg_desc_elements.specs.declared.element.Element.{Element}
use Rattle.cg_desc_elements.specs.declared.element.Element.TheVariants as element
use Rattle.cg_desc_elements.specs.declared.kind.Kind.TheVariants as kind
use Rattle.cg_desc_elements.specs.declared.kind.Namespace.TheVariants.{Fields, Operands}
use Rattle.cg_desc_elements.specs.Elements.{kind_of}
use Rattle.cg_ifield.specs.declared.form.FieldForm.TheVariants as field
use Rattle.cg_ifield.specs.declared.form.PlainForm.{PlainForm}
use Rattle.cg_insn.specs.declared.form.InsnForm.TheVariants as insn
use Rattle.cg_operand.specs.declared.form.OperandForm.TheVariants as operand
use Rattle.cg_operand.specs.declared.form.PlainOperandForm.{PlainOperandForm}
use Rattle.cg_desc_names.specs.declared.names.Standing.{Standing}
use Rattle.cg_desc_names.specs.Table.{standing, table_of, counted_name, first_from}
use Rattle.cg_desc_references.specs.Finding.{stands_as, is_plain_field, is_plain_operand}
use Rattle.cg_desc_laws.proofs.CountedBare.{or_true}
use Rattle.cg_desc_laws.proofs.CountedLeading.{Leads, leads}

-- what an element gives is among what all give
module _ {A : Type 0} (s : Selection) (given : Element → Option A) (name : A → List ℕ) (e : Element) (a : A) (part : takes_part_in s e ≡ true) (gives : given e ≡ Some a) where
  abbrev names_of : List Element → List (List ℕ)
  names_of es = map name (filter_map (member s given) es)

  among : (es : List Element) (k : ℕ) → slice_get es k ≡ Some e → is_among (names_of es) (name a) ≡ true
  among [] k is = absurd cc
  among (x ∷ xs) zero is =
      let own : member s given x ≡ Some a = ap (member s given) (the_found x e is) ∙ ap (λ b. if b then given e else None) part ∙ gives in
      ap (λ o. is_among (map name (cons_option o (filter_map (member s given) xs))) (name a)) own ∙ ap (λ b. b || is_among (names_of xs) (name a)) ((bytes_decides (name a) (name a)).1 refl)
  among (x ∷ xs) (suc k) is = by (member s given x) (among xs k is) where
    by : (o : Option A) → is_among (names_of xs) (name a) ≡ true → is_among (map name (cons_option o (filter_map (member s given) xs))) (name a) ≡ true
    by None rest = rest
    by (Some b) rest = ap (λ c. same_text (name b) (name a) || c) rest ∙ or_true (same_text (name b) (name a))

-- the elements of these kinds
record IsField (e : Element) (name : List ℕ) : Type 0 where
  form : PlainForm
  is : field_in e ≡ Some form
  named : form.name ≡ name

record IsOperand (e : Element) (name : List ℕ) : Type 0 where
  form : PlainOperandForm
  is : operand_in e ≡ Some form
  named : form.name ≡ name

field_never : (f : Frame) → is_plain_field (kind_of (element.Frame f)) ≡ true → ⊥
field_never (frame.Arch form) is = false≢true is
field_never (frame.Isa form) is = false≢true is
field_never (frame.Cpu form) is = false≢true is
field_never (frame.Mach form) is = false≢true is
field_never (frame.Model form) is = false≢true is
field_never (frame.AttrDef form) is = false≢true is
field_never (frame.Enum form) is = false≢true is
field_never (frame.InsnEnum form) is = false≢true is
field_never (frame.Keyword form) is = false≢true is

operand_never : (f : Frame) → is_plain_operand (kind_of (element.Frame f)) ≡ true → ⊥
operand_never (frame.Arch form) is = false≢true is
operand_never (frame.Isa form) is = false≢true is
operand_never (frame.Cpu form) is = false≢true is
operand_never (frame.Mach form) is = false≢true is
operand_never (frame.Model form) is = false≢true is
operand_never (frame.AttrDef form) is = false≢true is
operand_never (frame.Enum form) is = false≢true is
operand_never (frame.InsnEnum form) is = false≢true is
operand_never (frame.Keyword form) is = false≢true is

is_field : (e : Element) (name : List ℕ) → is_plain_field (kind_of e) ≡ true → counted_name e ≡ name → IsField e name
unfolding counted_name
is_field (element.Frame f) name is named = absurd (field_never f is)
is_field (element.Field (field.Plain f)) name is named = record { form = f; is = refl; named = named }
is_field (element.Field (field.Multi f)) name is named = absurd (false≢true is)
is_field (element.Hardware f) name is named = absurd (false≢true is)
is_field (element.Operand (operand.Plain f)) name is named = absurd (false≢true is)
is_field (element.Operand (operand.Derived f)) name is named = absurd (false≢true is)
is_field (element.Operand (operand.Anyof f)) name is named = absurd (false≢true is)
is_field (element.Insn (insn.Instruction f)) name is named = absurd (false≢true is)
is_field (element.Insn (insn.Macro f)) name is named = absurd (false≢true is)

is_operand : (e : Element) (name : List ℕ) → is_plain_operand (kind_of e) ≡ true → counted_name e ≡ name → IsOperand e name
unfolding counted_name
is_operand (element.Frame f) name is named = absurd (operand_never f is)
is_operand (element.Field (field.Plain f)) name is named = absurd (false≢true is)
is_operand (element.Field (field.Multi f)) name is named = absurd (false≢true is)
is_operand (element.Hardware f) name is named = absurd (false≢true is)
is_operand (element.Operand (operand.Plain f)) name is named = record { form = f; is = refl; named = named }
is_operand (element.Operand (operand.Derived f)) name is named = absurd (false≢true is)
is_operand (element.Operand (operand.Anyof f)) name is named = absurd (false≢true is)
is_operand (element.Insn (insn.Instruction f)) name is named = absurd (false≢true is)
is_operand (element.Insn (insn.Macro f)) name is named = absurd (false≢true is)

module _ (s : Selection) (table : s.at ≡ table_of s.machine s.isa s.elements) (name : List ℕ) where
  abbrev plain_name : PlainForm → List ℕ
  plain_name form = form.name

  abbrev operand_name : PlainOperandForm → List ℕ
  operand_name form = form.name

  field_led : (st : Standing) → Leads s.machine s.isa s.elements 1 Fields name st → is_plain_field st.kind ≡ true → is_among (field_names s) name ≡ true
  field_led st l plain =
      let f : IsField l.element name = is_field l.element name (sym (ap is_plain_field l.kind) ∙ plain) l.named in
      subst (λ n. is_among (field_names s) n ≡ true) f.named (among s field_in plain_name l.element f.form l.part f.is s.elements l.place l.is)

  pub field_among : stands_as is_plain_field (s.at Fields name) ≡ true → is_among (field_names s) name ≡ true
  field_among plain = by (first_from s.machine s.isa Fields name 1 s.elements) refl (sym (ap (λ at. stands_as is_plain_field (at Fields name)) table) ∙ plain) where
    by : (o : Option Standing) → first_from s.machine s.isa Fields name 1 s.elements ≡ o → stands_as is_plain_field o ≡ true → is_among (field_names s) name ≡ true
    by None is e = absurd (false≢true e)
    by (Some st) is e = field_led st (leads s.machine s.isa Fields name st 1 s.elements is) e

  operand_led : (st : Standing) → Leads s.machine s.isa s.elements 1 Operands name st → is_plain_operand st.kind ≡ true → is_among (operand_names s) name ≡ true
  operand_led st l plain =
      let f : IsOperand l.element name = is_operand l.element name (sym (ap is_plain_operand l.kind) ∙ plain) l.named in
      subst (λ n. is_among (operand_names s) n ≡ true) f.named (among s operand_in operand_name l.element f.form l.part f.is s.elements l.place l.is)

  pub operand_among : stands_as is_plain_operand (s.at Operands name) ≡ true → is_among (operand_names s) name ≡ true
  operand_among plain = by (same_text (codes "pc") name) (first_from s.machine s.isa Operands name 1 s.elements) refl (sym (ap (λ at. stands_as is_plain_operand (at Operands name)) table) ∙ plain) where
    by : (b : Bool) (o : Option Standing) → first_from s.machine s.isa Operands name 1 s.elements ≡ o → stands_as is_plain_operand (option_or (if b then Some (standing 0 0 kind.Pc) else None) o) ≡ true → is_among (operand_names s) name ≡ true
    by true o is e = absurd (false≢true e)
    by false None is e = absurd (false≢true e)
    by false (Some st) is e = operand_led st (leads s.machine s.isa Operands name st 1 s.elements is) e
