-- A name of which nothing is said where a field has to stand is that of a field of the machine.
use Rattle.std.proofs.Common.{◌≡◌, ◌∙◌, ℕ, zero, suc, Bool, true, false, if◌then◌else◌, List, [], ◌∷◌, map, Option, Some, None, is_some, slice_get, refl, sym, ap}
use Rattle.std.specs.Prelude.{codes}
use Rattle.std.specs.List.{filter_map, cons_option}
use Rattle.std.specs.Option.{option_map}
use Rattle.std.proofs.lemmas.Bool.{false≢true}
use Rattle.cg_base.specs.declared.form.Form.{Form}
use Rattle.cg_base.specs.Parts.{symbol_of, only_symbol}
use Rattle.cg_base.specs.Texts.{same_text}
use Rattle.cg_attrs.specs.Clauses.{Clause}
use Rattle.cg_attrs.specs.declared.frame.Frame.{Frame}
use Rattle.cg_attrs.specs.declared.frame.Frame.TheVariants as frame
use Rattle.cg_desc_laws_forms.proofs.Lists.{append_none, the_found}
use Rattle.cg_desc_elements.specs.declared.element.Element.{Element}
use Rattle.cg_desc_elements.specs.declared.element.Element.TheVariants as element
use Rattle.cg_desc_elements.specs.declared.kind.Kind.TheVariants as kinds
use Rattle.cg_desc_elements.specs.declared.kind.Namespace.TheVariants.{Fields}
use Rattle.cg_desc_elements.specs.Elements.{kind_of}
use Rattle.cg_ifield.specs.declared.form.FieldForm.TheVariants as field
use Rattle.cg_ifield.specs.declared.form.PlainForm.{PlainForm}
use Rattle.cg_insn.specs.declared.form.InsnForm.TheVariants as insn
use Rattle.cg_operand.specs.declared.form.OperandForm.TheVariants as operand
use Rattle.cg_desc_names.specs.declared.names.Standing.{Standing}
use Rattle.cg_desc_names.specs.Table.{Table, table_of, first_from, counted_name}
use Rattle.cg_rtl_resolve.specs.Names.{place_of}
use Rattle.cg_desc_references.specs.declared.finding.Finding.TheVariants.{Fitting, OfAnotherKind, Undefined}
use Rattle.cg_desc_references.specs.declared.reference.Place.TheVariants as place
use Rattle.cg_desc_references.specs.declared.reference.Reference.{Reference}
use Rattle.cg_desc_references.specs.E304.{is_other, is_of_another_kind}
use Rattle.cg_desc_references.specs.E306.{is_nothing, is_undefined}
use Rattle.cg_desc_references.specs.Finding.{is_plain_field, stands_as, fits, is_defined}
use Rattle.cg_desc_references.specs.References.{reference, symbols, attributes}
use Rattle.cg_desc_data.specs.Selecting.{Selection, takes_part_in, member}
use Rattle.cg_desc_data.specs.Numbering.{field_in, field_names, short, numbered}
use Rattle.cg_desc_fault_report.specs.Saying.{only_text, placed}
use Rattle.cg_desc_fault_name.specs.Names.{PlacedName, names_from, name_at, clause_names, of_name, of_names}
use Rattle.cg_desc_laws.proofs.WholeStanding.{StandsAt, first_there}

-- the one name in a clause
one_symbol : (fs : List Form) (name : List ℕ) → only_symbol fs ≡ Some name → filter_map symbol_of fs ≡ name ∷ []
unfolding only_symbol
one_symbol [] name is = absurd cc
one_symbol (f ∷ []) name is = ap (λ o. cons_option o []) is
one_symbol (f ∷ g ∷ fs) name is = absurd cc

abbrev pub one_name : List ℕ → List PlacedName
one_name name = name_at (0 ∷ []) (reference place.Field name) ∷ []

pub clause_name : (b : Bool) (c : Clause) (name : List ℕ) → b ≡ true → c.name ≡ codes "bundle-field" → only_symbol c.content ≡ Some name → clause_names b kinds.Isa c ≡ one_name name
clause_name b c name selected own is =
    ap (λ n. names_from 0 (if same_text (codes "attrs") n then attributes c.content else if b then if same_text (codes "bundle-field") n then symbols place.Field c.content else [] else [])) own
    ∙ ap (λ x. names_from 0 (if x then symbols place.Field c.content else [])) selected
    ∙ ap (λ ns. names_from 0 (map (reference place.Field) ns)) (one_symbol c.content name is)

-- where nothing is said of it, the rule doesn't hold of it
pub unsaid_name : (wrong : Reference → Bool) (name : List ℕ) → of_names wrong (one_name name) ≡ [] → wrong (reference place.Field name) ≡ false
unsaid_name wrong name none = by (wrong (reference place.Field name)) (append_none (of_name wrong (name_at (0 ∷ []) (reference place.Field name))) [] none).0 where
  by : (b : Bool) → (if b then placed (0 ∷ []) (only_text name) ∷ [] else []) ≡ [] → b ≡ false
  by true h = absurd cc
  by false h = refl

-- What is neither of another kind nor undefined fits its place.
fitting : (a b : Bool) → is_other (if a then Fitting else if b then OfAnotherKind else Undefined) ≡ false → is_nothing (if a then Fitting else if b then OfAnotherKind else Undefined) ≡ false → a ≡ true
fitting true b other nothing = refl
fitting false true other nothing = absurd (false≢true (sym other))
fitting false false other nothing = absurd (false≢true (sym nothing))

pub fits_field : (at : Table) (es : List Element) (name : List ℕ) → is_of_another_kind at (reference place.Field name) ≡ false → is_undefined at es (reference place.Field name) ≡ false → fits at place.Field name ≡ true
fits_field at es name other nothing = fitting (fits at place.Field name) (is_defined at name) other nothing

-- An element that is a plain field.
record IsPlain (e : Element) : Type 0 where
  form : PlainForm
  is : e ≡ element.Field (field.Plain form)

frame_never : (f : Frame) → is_plain_field (kind_of (element.Frame f)) ≡ true → ⊥
frame_never (frame.Arch x) h = false≢true h
frame_never (frame.Isa x) h = false≢true h
frame_never (frame.Cpu x) h = false≢true h
frame_never (frame.Mach x) h = false≢true h
frame_never (frame.Model x) h = false≢true h
frame_never (frame.AttrDef x) h = false≢true h
frame_never (frame.Enum x) h = false≢true h
frame_never (frame.InsnEnum x) h = false≢true h
frame_never (frame.Keyword x) h = false≢true h

plain_element : (e : Element) → is_plain_field (kind_of e) ≡ true → IsPlain e
plain_element (element.Frame f) h = absurd (frame_never f h)
plain_element (element.Field (field.Plain form)) h = record { form = form; is = refl }
plain_element (element.Field (field.Multi form)) h = absurd (false≢true h)
plain_element (element.Hardware form) h = absurd (false≢true h)
plain_element (element.Operand (operand.Plain form)) h = absurd (false≢true h)
plain_element (element.Operand (operand.Derived form)) h = absurd (false≢true h)
plain_element (element.Operand (operand.Anyof form)) h = absurd (false≢true h)
plain_element (element.Insn (insn.Instruction form)) h = absurd (false≢true h)
plain_element (element.Insn (insn.Macro form)) h = absurd (false≢true h)

plain_name : (form : PlainForm) → counted_name (element.Field (field.Plain form)) ≡ form.name
unfolding counted_name
plain_name form = refl

-- A field that takes part has a number.
abbrev name_in : PlainForm → List ℕ
name_in form = form.name

mapped_some : {A B : Type 0} (f : A → B) (o : Option A) → is_some o ≡ true → is_some (option_map f o) ≡ true
mapped_some f None h = absurd (false≢true h)
mapped_some f (Some x) h = refl

module _ (s : Selection) (name : List ℕ) (form : PlainForm) (part : takes_part_in s (element.Field (field.Plain form)) ≡ true) (same : same_text form.name name ≡ true) where
  abbrev names_of : List Element → List (List ℕ)
  names_of es = map name_in (filter_map (member s field_in) es)

  behind : (o : Option PlainForm) (rest : List PlainForm) → is_some (place_of name (map name_in rest)) ≡ true → is_some (place_of name (map name_in (cons_option o rest))) ≡ true
  behind None rest h = h
  behind (Some x) rest h = by (same_text x.name name) where
    by : (b : Bool) → is_some (if b then Some 0 else option_map suc (place_of name (map name_in rest))) ≡ true
    by true = refl
    by false = mapped_some suc (place_of name (map name_in rest)) h

  here : (rest : List PlainForm) → is_some (place_of name (map name_in (cons_option (member s field_in (element.Field (field.Plain form))) rest))) ≡ true
  here rest =
      ap (λ b. is_some (place_of name (map name_in (cons_option (if b then Some form else None) rest)))) part
      ∙ ap (λ b. is_some (if b then Some 0 else option_map suc (place_of name (map name_in rest)))) same

  has_place : (es : List Element) (k : ℕ) → slice_get es k ≡ Some (element.Field (field.Plain form)) → is_some (place_of name (names_of es)) ≡ true
  has_place [] k is = absurd cc
  has_place (e ∷ es) zero is =
      ap (λ x. is_some (place_of name (map name_in (cons_option (member s field_in x) (filter_map (member s field_in) es))))) (the_found e (element.Field (field.Plain form)) is) ∙ here (filter_map (member s field_in) es)
  has_place (e ∷ es) (suc k) is = behind (member s field_in e) (filter_map (member s field_in) es) (has_place es k is)

module _ (s : Selection) (names : s.at ≡ table_of s.machine s.isa s.elements) (name : List ℕ) where
  by_element : (r : Standing) → StandsAt s.machine s.isa name 1 s.elements r → is_plain_field r.kind ≡ true → is_some (numbered (field_names s) name) ≡ true
  by_element r x plain =
      let p : IsPlain x.element = plain_element x.element (sym (ap is_plain_field x.kind) ∙ plain) in
      let part : takes_part_in s (element.Field (field.Plain p.form)) ≡ true = sym (ap (takes_part_in s) p.is) ∙ x.part in
      let same : same_text p.form.name name ≡ true = sym (ap (λ e. same_text (counted_name e) name) p.is ∙ ap (λ n. same_text n name) (plain_name p.form)) ∙ x.named in
      mapped_some short (place_of name (field_names s)) (has_place s name p.form part same s.elements x.place (x.is ∙ ap Some p.is))

  by_standing : (o : Option Standing) → s.at Fields name ≡ o → stands_as is_plain_field o ≡ true → is_some (numbered (field_names s) name) ≡ true
  by_standing None at plain = absurd (false≢true plain)
  by_standing (Some r) at plain =
      let there : first_from s.machine s.isa Fields name 1 s.elements ≡ Some r = sym (ap (λ t. t Fields name) names) ∙ at in
      by_element r (first_there s.machine s.isa Fields name r 1 s.elements there) plain

  pub field_numbered : fits s.at place.Field name ≡ true → is_some (numbered (field_names s) name) ≡ true
  field_numbered h = by_standing (s.at Fields name) refl h
