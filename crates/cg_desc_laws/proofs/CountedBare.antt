-- A slot of a format that is no plain operand is a field, whose name isn't too long.
use Rattle.std.proofs.Common.{◌≡◌, ◌∙◌, ℕ, zero, suc, ◌+◌, ◌-◌, ◌==◌, Bool, true, false, not, ◌&&◌, ◌||◌, if◌then◌else◌, List, [], ◌∷◌, ◌++◌, map, filter, take, ℤ, Option, Some, None, is_some, slice_get, refl, sym, ap, subst, arith, codes}
use Rattle.std.specs.List.{filter_map, cons_option, flat_map}
use Rattle.std.specs.Option.{option_or}
use Rattle.std.specs.Cmp.Lexicographic.{bytes_decides}
use Rattle.std.proofs.lemmas.Bool.{false≢true}
use Rattle.std.proofs.lemmas.Bool.Decides.{nat_tests}
use Rattle.cg_base.specs.declared.form.Form.{Form, out-Form}
use Rattle.cg_base.specs.declared.form.Form.TheOpen.{Symbol, Items}
use Rattle.cg_base.specs.Parts.{◌>>=◌, Layer, symbol_of, number_of}
use Rattle.cg_base.specs.Texts.{same_text, is_among}
use Rattle.cg_attrs.specs.declared.frame.Frame.{Frame}
use Rattle.cg_attrs.specs.declared.frame.Frame.TheVariants as frame
use Rattle.cg_ifield.specs.declared.form.FieldForm.TheVariants as field
use Rattle.cg_insn.specs.declared.form.InsnForm.TheVariants as insn
use Rattle.cg_desc_laws_forms.proofs.Clauses.{equal_texts}
use Rattle.cg_desc_laws_forms.proofs.Lists.{the_found}
use Rattle.cg_desc_choices.specs.declared.written.Choice.{Choice}
use Rattle.cg_desc_choices.specs.declared.written.NamedPart.{NamedPart}
use Rattle.cg_desc_choices.specs.declared.written.NamedPart.TheVariants as part
use Rattle.cg_desc_choices.specs.declared.written.Written.{Written}
use Rattle.cg_desc_choices.specs.declared.written.WrittenPart.{WrittenPart}
use Rattle.cg_desc_choices.specs.Choices.{Chosen, choice_for, part_within, parts_by, choice_of_part, parts_for, parts_with, with_choices}
use Rattle.cg_desc_choices.specs.Ways.{ways, most, each_choice}
use Rattle.cg_desc_data.specs.Selecting.{Selection}
use Rattle.cg_desc_scope.specs.Bare.{is_bare, bare_in, bare_names}
use Rattle.cg_desc_scope.specs.Described.{written_in}
use Rattle.cg_desc_elements.specs.declared.element.Element.{Element}
use Rattle.cg_desc_elements.specs.declared.element.Element.TheVariants as element
use Rattle.cg_desc_elements.specs.declared.kind.Kind.{Kind}
use Rattle.cg_desc_elements.specs.declared.kind.Kind.TheVariants as kind
use Rattle.cg_desc_elements.specs.declared.kind.Namespace.TheVariants.{Fields, Operands, Constants}
use Rattle.cg_desc_elements.specs.Belonging.{takes_part}
use Rattle.cg_desc_elements.specs.Elements.{kind_of, frame_kind}
use Rattle.cg_desc_insns.specs.Choices.{derived_choice, plain_choice, choice_by, choice_of, known_choice, anyof_of, anyofs_of, name_of_slot, slot_name, distinct_behind, distinct}
use Rattle.cg_desc_insns.specs.Expanded.{instructions_in, instructions_at, expanded_from, expanded}
use Rattle.cg_desc_insns.specs.Written.{written_of}
use Rattle.cg_insn.specs.declared.form.InstructionForm.{InstructionForm}
use Rattle.cg_desc_insns.specs.Named.{element_of, derived_in, derived_named, anyof_in, anyof_named, constant_named}
use Rattle.cg_desc_insns.specs.Parts.{is_fitting, is_taken, constant_part, number_part, pair_part, listed_part, value_part, is_constant, taken_part, named_part, part_in, part_of, part_before, parts_from, parts_of}
use Rattle.cg_desc_names.specs.declared.names.Standing.{Standing}
use Rattle.cg_desc_names.specs.Table.{Table, standing, table_of, counted_name, first_from}
use Rattle.cg_operand.specs.declared.form.AnyofOperandForm.{AnyofOperandForm}
use Rattle.cg_operand.specs.declared.form.DerivedOperandForm.{DerivedOperandForm}
use Rattle.cg_operand.specs.declared.form.OperandForm.TheVariants as operand
use Rattle.cg_desc_references.specs.declared.finding.Finding.TheVariants.{Fitting, OfAnotherKind, Undefined}
use Rattle.cg_desc_references.specs.declared.reference.Place.{Place}
use Rattle.cg_desc_references.specs.declared.reference.Place.TheVariants as place
use Rattle.cg_desc_references.specs.Finding.{stands_as, is_plain_operand, is_choice, is_slot, is_field_constant, is_part, fits, is_hidden, is_attribute, is_defined}
use Rattle.cg_desc_laws.proofs.Members.{AllHold, all_append, IsIn}
use Rattle.cg_desc_laws.proofs.CountedGiven.{all_given, all_mapped}
use Rattle.cg_desc_laws.proofs.CountedGroups.{all_so}
use Rattle.cg_desc_laws.proofs.CountedLeading.{Leads, leads}
use Rattle.cg_desc_laws.proofs.CountedNames.{among_more}
use Rattle.cg_desc_laws.proofs.CountedOwn.{IsShort}
use Rattle.cg_desc_laws.proofs.CountedKept.{distinct_short}
use Rattle.cg_desc_laws.proofs.CountedWays.{all_taken, chosen_for, operands_of, IsWay, all_ways}

-- what a place takes fits it
pub taken_fits : (at : Table) (p : Place) (name : List ℕ) → is_taken at p name ≡ true → fits at p name ≡ true
taken_fits at p name taken = by (is_hidden p name) (fits at p name) (is_attribute p) (is_defined at name) taken where
  by : (hidden fitting attribute defined : Bool) → is_fitting (if hidden then Undefined else if fitting then Fitting else if attribute then Undefined else if defined then OfAnotherKind else Undefined) ≡ true → fitting ≡ true
  by true fitting attribute defined e = absurd (false≢true e)
  by false true attribute defined e = refl
  by false false true defined e = absurd (false≢true e)
  by false false false true e = absurd (false≢true e)
  by false false false false e = absurd (false≢true e)

-- A part that is a slot is one whose name its place takes, and no constant.
pub record IsSlot (at : Table) (p : Place) (name : List ℕ) : Type 0 where
  pub fits : fits at p name ≡ true
  pub free : is_constant at name ≡ false

constant_never : (at : Table) (field : List ℕ) (value : ℤ) (q : NamedPart) (name : List ℕ) → constant_part at field value ≡ Some q → name_of_slot q ≡ Some name → ⊥
constant_never at field value q name is slot = by (is_taken at place.Field field) is where
  by : (b : Bool) → (if b then Some (part.Constant field value) else None) ≡ Some q → ⊥
  by true e = let never : None ≡ Some name = ap name_of_slot (the_found (part.Constant field value) q e) ∙ slot in absurd cc
  by false e = absurd cc

value_never : (at : Table) (o : Option (List ℕ × ℤ)) (q : NamedPart) (name : List ℕ) → value_part at o ≡ Some q → name_of_slot q ≡ Some name → ⊥
value_never at None q name is slot = absurd cc
value_never at (Some x) q name is slot = constant_never at x.0 x.1 q name is slot

number_never : (at : Table) (field : List ℕ) (o : Option ℤ) (q : NamedPart) (name : List ℕ) → number_part at field o ≡ Some q → name_of_slot q ≡ Some name → ⊥
number_never at field None q name is slot = absurd cc
number_never at field (Some value) q name is slot = constant_never at field value q name is slot

pair_never : (at : Table) (o : Option (List ℕ)) (number : Form) (q : NamedPart) (name : List ℕ) → pair_part at o number ≡ Some q → name_of_slot q ≡ Some name → ⊥
pair_never at None number q name is slot = absurd cc
pair_never at (Some field) number q name is slot = number_never at field (number_of number) q name is slot

listed_never : (at : Table) (fs : List Form) (q : NamedPart) (name : List ℕ) → listed_part at fs ≡ Some q → name_of_slot q ≡ Some name → ⊥
listed_never at [] q name is slot = absurd cc
listed_never at (a ∷ []) q name is slot = absurd cc
listed_never at (a ∷ b ∷ []) q name is slot = pair_never at (symbol_of a) b q name is slot
listed_never at (a ∷ b ∷ c ∷ fs) q name is slot = absurd cc

taken_slot : (at : Table) (es : List Element) (p : Place) (own : List ℕ) (q : NamedPart) (name : List ℕ) → is_taken at p own ≡ true → taken_part at es own ≡ Some q → name_of_slot q ≡ Some name → IsSlot at p name
unfolding taken_part
taken_slot at es p own q name taken is slot = by (is_constant at own) refl is where
  by : (b : Bool) → is_constant at own ≡ b → (if b then value_part at (constant_named at es own) else Some (part.Slot own)) ≡ Some q → IsSlot at p name
  by true constant e = absurd (value_never at (constant_named at es own) q name e slot)
  by false constant e =
      let same : own ≡ name = the_found own name (ap name_of_slot (the_found (part.Slot own) q e) ∙ slot) in
      subst (IsSlot at p) same (record { fits = taken_fits at p own taken; free = constant })

named_slot : (at : Table) (es : List Element) (p : Place) (own : List ℕ) (q : NamedPart) (name : List ℕ) → named_part at es p own ≡ Some q → name_of_slot q ≡ Some name → IsSlot at p name
named_slot at es p own q name is slot = by (is_taken at p own) refl is where
  by : (b : Bool) → is_taken at p own ≡ b → (if b then taken_part at es own else None) ≡ Some q → IsSlot at p name
  by true taken e = taken_slot at es p own q name taken e slot
  by false taken e = absurd cc

part_slot : (at : Table) (es : List Element) (p : Place) (f : Form) (q : NamedPart) (name : List ℕ) → part_of at es p f ≡ Some q → name_of_slot q ≡ Some name → IsSlot at p name
unfolding part_of
part_slot at es p f q name is slot = by (out-Form f) is where
  by : (layer : Layer) → part_in at es p layer ≡ Some q → IsSlot at p name
  by (Symbol own) e = named_slot at es p own q name e slot
  by (Items fs) e = absurd (listed_never at fs q name e slot)
  by _ e = absurd cc

-- what all parts of a list are
parts_slots : (at : Table) (es : List Element) (p : Place) (P : WrittenPart → Type 0) → ((w : WrittenPart) → ((name : List ℕ) → slot_name w ≡ Some name → IsSlot at p name) → P w) → (item : ℕ) (fs : List Form) → AllHold P (parts_from at es p item fs)
parts_slots at es p P h item [] = tt
parts_slots at es p P h item (f ∷ fs) = by (part_of at es p f) refl (parts_slots at es p P h (item + 1) fs) where
  by : (o : Option NamedPart) → part_of at es p f ≡ o → AllHold P (parts_from at es p (item + 1) fs) → AllHold P (part_before item o (parts_from at es p (item + 1) fs))
  by None is rest = rest
  by (Some q) is rest = (h _ (λ name slot. part_slot at es p f q name is slot), rest)

-- the choice for an operand is one of those that are made
pub choice_good : (Good : Choice → Type 0) (name : List ℕ) (cs : List Chosen) (c : Choice) → AllHold (λ x. Good x.choice) cs → choice_for name cs ≡ Some c → Good c
choice_good Good name [] c all is = absurd cc
choice_good Good name (x ∷ xs) c all is = by (same_text x.operand name) is (choice_good Good name xs c all.1) where
  by : (b : Bool) → (if b then Some x.choice else choice_for name xs) ≡ Some c → (choice_for name xs ≡ Some c → Good c) → Good c
  by true e rest = subst Good (the_found x.choice c e) all.0
  by false e rest = rest e

none_chosen : (name : List ℕ) (cs : List Chosen) → choice_for name cs ≡ None → is_among (chosen_for cs) name ≡ false
none_chosen name [] none = refl
none_chosen name (x ∷ xs) none = by (same_text x.operand name) none (none_chosen name xs) where
  by : (b : Bool) → (if b then Some x.choice else choice_for name xs) ≡ None → (choice_for name xs ≡ None → is_among (chosen_for xs) name ≡ false) → (b || is_among (chosen_for xs) name) ≡ false
  by true e rest = absurd cc
  by false e rest = rest e

-- names that stand among some stand among them each once
pub or_true : (a : Bool) → (a || true) ≡ true
or_true true = refl
or_true false = refl

or_split : (a b : Bool) → (a || b) ≡ true → a ≡ false → b ≡ true
or_split true b e f = absurd (false≢true (sym f ∙ refl))
or_split false b e f = e

or_swap : (a b c : Bool) → (a || (b || c)) ≡ true → ((a || b) || c) ≡ true
or_swap true b c e = refl
or_swap false b c e = e

or_back : (a b c : Bool) → ((a || b) || c) ≡ true → (a || (b || c)) ≡ true
or_back true b c e = refl
or_back false b c e = e

pub distinct_among : (before xs : List (List ℕ)) (name : List ℕ) → (is_among before name || is_among xs name) ≡ true → (is_among before name || is_among (distinct_behind before xs) name) ≡ true
distinct_among before [] name h = h
distinct_among before (x ∷ xs) name h = by (is_among before x) refl (distinct_among before xs name) (distinct_among (before ++ x ∷ []) xs name) where
  there : (b : Bool) → same_text x name ≡ b → is_among before x ≡ true → (is_among before name || (b || is_among xs name)) ≡ true → (is_among before name || is_among xs name) ≡ true
  there true same stands e = ap (λ c. c || is_among xs name) (ap (is_among before) (sym (equal_texts x name same)) ∙ stands)
  there false same stands e = e

  by : (b : Bool) → is_among before x ≡ b → ((is_among before name || is_among xs name) ≡ true → (is_among before name || is_among (distinct_behind before xs) name) ≡ true)
      → ((is_among (before ++ x ∷ []) name || is_among xs name) ≡ true → (is_among (before ++ x ∷ []) name || is_among (distinct_behind (before ++ x ∷ []) xs) name) ≡ true)
      → (is_among before name || is_among (if b then distinct_behind before xs else x ∷ distinct_behind (before ++ x ∷ []) xs) name) ≡ true
  by true stands without within = without (there (same_text x name) refl stands h)
  by false stands without within =
      let more : (is_among (before ++ x ∷ []) name || is_among xs name) ≡ true = ap (λ b. b || is_among xs name) (among_more before x name) ∙ or_swap (is_among before name) (same_text x name) (is_among xs name) h in
      let whole : ((is_among before name || same_text x name) || is_among (distinct_behind (before ++ x ∷ []) xs) name) ≡ true =
      sym (ap (λ b. b || is_among (distinct_behind (before ++ x ∷ []) xs) name) (among_more before x name)) ∙ within more in
      or_back (is_among before name) (same_text x name) (is_among (distinct_behind (before ++ x ∷ []) xs) name) whole

pub slot_among : (ps : List WrittenPart) (k : ℕ) (p : WrittenPart) (name : List ℕ) → slice_get ps k ≡ Some p → slot_name p ≡ Some name → is_among (filter_map slot_name ps) name ≡ true
slot_among [] k p name is slot = absurd cc
slot_among (q ∷ qs) zero p name is slot =
    ap (λ o. is_among (cons_option o (filter_map slot_name qs)) name) (ap slot_name (the_found q p is) ∙ slot) ∙ ap (λ b. b || is_among (filter_map slot_name qs) name) ((bytes_decides name name).1 refl)
slot_among (q ∷ qs) (suc k) p name is slot = by (slot_name q) (slot_among qs k p name is slot) where
  by : (o : Option (List ℕ)) → is_among (filter_map slot_name qs) name ≡ true → is_among (cons_option o (filter_map slot_name qs)) name ≡ true
  by None e = e
  by (Some other) e = ap (λ b. same_text other name || b) e ∙ or_true (same_text other name)

module _ (at : Table) (es : List Element) (name : List ℕ) (a : AnyofOperandForm) (is : anyof_named at es name ≡ Some a) (own : a.name ≡ name) where
  anyof_among : (names : List (List ℕ)) → is_among names name ≡ true → is_among (operands_of (map (anyof_of at es) (filter_map (anyof_named at es) names))) name ≡ true
  anyof_among [] e = absurd (false≢true e)
  anyof_among (x ∷ xs) e = by (same_text x name) refl e (anyof_among xs) where
    here : (o : Option AnyofOperandForm) → o ≡ Some a → is_among (operands_of (map (anyof_of at es) (cons_option o (filter_map (anyof_named at es) xs)))) name ≡ true
    here None e = absurd cc
    here (Some b) e =
        ap (λ own. same_text own name || is_among (operands_of (map (anyof_of at es) (filter_map (anyof_named at es) xs))) name) (ap (λ (y : AnyofOperandForm). y.name) (the_found b a e) ∙ own)
        ∙ ap (λ b. b || is_among (operands_of (map (anyof_of at es) (filter_map (anyof_named at es) xs))) name) ((bytes_decides name name).1 refl)

    further : (o : Option AnyofOperandForm) → is_among (operands_of (map (anyof_of at es) (filter_map (anyof_named at es) xs))) name ≡ true → is_among (operands_of (map (anyof_of at es) (cons_option o (filter_map (anyof_named at es) xs)))) name ≡ true
    further None e = e
    further (Some b) e = ap (λ c. same_text b.name name || c) e ∙ or_true (same_text b.name name)

    by : (b : Bool) → same_text x name ≡ b → (b || is_among xs name) ≡ true → (is_among xs name ≡ true → is_among (operands_of (map (anyof_of at es) (filter_map (anyof_named at es) xs))) name ≡ true)
        → is_among (operands_of (map (anyof_of at es) (cons_option (anyof_named at es x) (filter_map (anyof_named at es) xs)))) name ≡ true
    by true same e rest = here (anyof_named at es x) (ap (anyof_named at es) (equal_texts x name same) ∙ is)
    by false same e rest = further (anyof_named at es x) (rest e)

-- the element of a kind
anyof_never : (f : Frame) → frame_kind f ≡ kind.Anyof → ⊥
anyof_never (frame.Arch form) is = absurd cc
anyof_never (frame.Isa form) is = absurd cc
anyof_never (frame.Cpu form) is = absurd cc
anyof_never (frame.Mach form) is = absurd cc
anyof_never (frame.Model form) is = absurd cc
anyof_never (frame.AttrDef form) is = absurd cc
anyof_never (frame.Enum form) is = absurd cc
anyof_never (frame.InsnEnum form) is = absurd cc
anyof_never (frame.Keyword form) is = absurd cc

derived_never : (f : Frame) → frame_kind f ≡ kind.Derived → ⊥
derived_never (frame.Arch form) is = absurd cc
derived_never (frame.Isa form) is = absurd cc
derived_never (frame.Cpu form) is = absurd cc
derived_never (frame.Mach form) is = absurd cc
derived_never (frame.Model form) is = absurd cc
derived_never (frame.AttrDef form) is = absurd cc
derived_never (frame.Enum form) is = absurd cc
derived_never (frame.InsnEnum form) is = absurd cc
derived_never (frame.Keyword form) is = absurd cc

record IsAnyof (e : Element) (name : List ℕ) : Type 0 where
  form : AnyofOperandForm
  is : anyof_in e ≡ Some form
  named : form.name ≡ name

is_anyof : (e : Element) (name : List ℕ) → kind_of e ≡ kind.Anyof → counted_name e ≡ name → IsAnyof e name
unfolding counted_name
is_anyof (element.Frame f) name is named = absurd (anyof_never f is)
is_anyof (element.Field (field.Plain f)) name is named = absurd cc
is_anyof (element.Field (field.Multi f)) name is named = absurd cc
is_anyof (element.Hardware f) name is named = absurd cc
is_anyof (element.Operand (operand.Plain f)) name is named = absurd cc
is_anyof (element.Operand (operand.Derived f)) name is named = absurd cc
is_anyof (element.Operand (operand.Anyof f)) name is named = record { form = f; is = refl; named = named }
is_anyof (element.Insn (insn.Instruction f)) name is named = absurd cc
is_anyof (element.Insn (insn.Macro f)) name is named = absurd cc

is_derived : (e : Element) → kind_of e ≡ kind.Derived → is_some (derived_in e) ≡ true
is_derived (element.Frame f) is = absurd (derived_never f is)
is_derived (element.Field (field.Plain f)) is = absurd cc
is_derived (element.Field (field.Multi f)) is = absurd cc
is_derived (element.Hardware f) is = absurd cc
is_derived (element.Operand (operand.Plain f)) is = absurd cc
is_derived (element.Operand (operand.Derived f)) is = refl
is_derived (element.Operand (operand.Anyof f)) is = absurd cc
is_derived (element.Insn (insn.Instruction f)) is = absurd cc
is_derived (element.Insn (insn.Macro f)) is = absurd cc

module _ (s : Selection) (table : s.at ≡ table_of s.machine s.isa s.elements) (short : (name : List ℕ) → is_some (s.at Fields name) ≡ true → IsShort name) where
  -- the element of an operand's name
  pub operand_leads : (name : List ℕ) (st : Standing) → s.at Operands name ≡ Some st → (st.kind ≡ kind.Pc → ⊥) → Leads s.machine s.isa s.elements 1 Operands name st
  operand_leads name st is other = by (same_text (codes "pc") name) (sym (ap (λ at. at Operands name) table) ∙ is) where
    by : (b : Bool) → option_or (if b then Some (standing 0 0 kind.Pc) else None) (first_from s.machine s.isa Operands name 1 s.elements) ≡ Some st → Leads s.machine s.isa s.elements 1 Operands name st
    by true e = absurd (other (ap (λ (x : Standing). x.kind) (sym (the_found (standing 0 0 kind.Pc) st e))))
    by false e = leads s.machine s.isa Operands name st 1 s.elements e

  there : (st : Standing) (k : ℕ) (e : Element) → st.form ≡ 1 + k → slice_get s.elements k ≡ Some e → element_of s.elements (Some st) ≡ Some e
  there st k e form is =
      ap (λ b. if b then None else slice_get s.elements (st.form - 1)) (some st.form k form) ∙ ap (λ n. slice_get s.elements n) (less st.form k form) ∙ is where
        some : (n k : ℕ) → n ≡ 1 + k → (n == 0) ≡ false
        some n k e = grind (arith, nat_tests)

        less : (n k : ℕ) → n ≡ 1 + k → n - 1 ≡ k
        less n k e = omega (arith, e)

  -- A slot that is no plain operand has a name that isn't too long.
  abbrev pub IsGood : NamedPart → Type 0
  IsGood q = (name : List ℕ) → name_of_slot q ≡ Some name → is_bare s.at name ≡ true → IsShort name

  abbrev pub AreGood : List WrittenPart → Type 0
  AreGood ps = AllHold (λ p. IsGood p.part) ps

  abbrev pub GoodChoice : Choice → Type 0
  GoodChoice c = AreGood c.parts

  -- where no operand has the name
  field_short : (name : List ℕ) → is_constant s.at name ≡ false → s.at Operands name ≡ None → (stands_as is_field_constant (s.at Constants name) || is_some (s.at Fields name)) ≡ true → IsShort name
  field_short name free none either =
      let constant : stands_as is_field_constant (s.at Constants name) ≡ false = sym (ap (λ o. not (is_some o) && stands_as is_field_constant (s.at Constants name)) none) ∙ free in
      short name (or_split (stands_as is_field_constant (s.at Constants name)) (is_some (s.at Fields name)) either constant)

  not_bare : (name : List ℕ) (st : Standing) → s.at Operands name ≡ Some st → st.kind ≡ kind.Operand → is_bare s.at name ≡ true → ⊥
  not_bare name st is plain bare = false≢true (sym (ap (λ o. not (stands_as is_plain_operand o)) is ∙ ap (λ k. not (is_plain_operand k)) plain) ∙ bare)

  -- in an encoding
  encoding_short : (name : List ℕ) → IsSlot s.at place.EncodingPart name → is_bare s.at name ≡ true → IsShort name
  encoding_short name x bare = by (s.at Operands name) refl x.fits where
    plain : (k : Kind) → is_plain_operand k ≡ true → k ≡ kind.Operand
    plain kind.Operand e = refl
    plain _ e = absurd (false≢true e)

    by : (o : Option Standing) → s.at Operands name ≡ o → is_part is_plain_operand o (s.at Constants name) (s.at Fields name) ≡ true → IsShort name
    by (Some st) is takes = absurd (not_bare name st is (plain st.kind takes) bare)
    by None is either = field_short name x.free is either

  encoding_good : (f : Form) → AreGood (parts_of s.at s.elements place.EncodingPart f)
  encoding_good f = parts_slots s.at s.elements place.EncodingPart (λ p. IsGood p.part) (λ p slots name slot bare. encoding_short name (slots name slot) bare) 0 _

  -- a choice
  pub choice_is_good : (name : List ℕ) → is_taken s.at place.Choice name ≡ true → GoodChoice (choice_of s.at s.elements name)
  unfolding derived_choice plain_choice derived_named
  choice_is_good name taken = by (derived_named s.at s.elements name) refl where
    itself : derived_named s.at s.elements name ≡ None → (o : Option Standing) → s.at Operands name ≡ o → stands_as is_choice o ≡ true → is_bare s.at name ≡ true → ⊥
    itself none None is takes bare = false≢true takes
    itself none (Some st) is takes bare = at st.kind refl takes where
      at : (k : Kind) → st.kind ≡ k → is_choice k ≡ true → ⊥
      at kind.Operand plain e = not_bare name st is plain bare
      at kind.Derived derived e =
          let l : Leads s.machine s.isa s.elements 1 Operands name st = operand_leads name st is (λ pc. other (sym pc ∙ derived)) in
          let given : is_some (derived_in l.element) ≡ true = is_derived l.element (sym l.kind ∙ derived) in
          let named : derived_named s.at s.elements name ≡ derived_in l.element = ap (λ o. element_of s.elements o >>= derived_in) is ∙ ap (λ o. o >>= derived_in) (there st l.place l.element l.form l.is) in
          false≢true (ap is_some (sym none ∙ named) ∙ given) where
            other : kind.Pc ≡ kind.Derived → ⊥
            other e = absurd cc
      at _ other e = false≢true e

    by : (o : Option DerivedOperandForm) → derived_named s.at s.elements name ≡ o → GoodChoice (choice_by s.at s.elements name o)
    by None none = ((λ own slot bare. absurd (itself none (s.at Operands name) refl (taken_fits s.at place.Choice name taken) (subst (λ n. is_bare s.at n ≡ true) (sym (the_found name own slot)) bare))), tt)
    by (Some d) is = encoding_good d.encoding

  choices_good : (names : List (List ℕ)) → AllHold GoodChoice (filter_map (known_choice s.at s.elements) names)
  choices_good names = all_given GoodChoice (known_choice s.at s.elements) names (λ name i c is. by name c (is_taken s.at place.Choice name) refl is) where
    by : (name : List ℕ) (c : Choice) (b : Bool) → is_taken s.at place.Choice name ≡ b → (if b then Some (choice_of s.at s.elements name) else None) ≡ Some c → GoodChoice c
    by name c true taken e = subst GoodChoice (the_found (choice_of s.at s.elements name) c e) (choice_is_good name taken)
    by name c false taken e = absurd cc

  pub anyofs_good : (forms : List AnyofOperandForm) → AllHold (λ a. AllHold GoodChoice a.choices) (map (anyof_of s.at s.elements) forms)
  anyofs_good [] = tt
  anyofs_good (f ∷ fs) = (choices_good f.choices, anyofs_good fs)

  -- in a format, where no choice is made for it
  slot_choice : (cs : List Chosen) (q : NamedPart) (name : List ℕ) → name_of_slot q ≡ Some name → choice_of_part cs q ≡ choice_for name cs
  slot_choice cs (part.Constant field value) name is = absurd cc
  slot_choice cs (part.Slot own) name is = ap (λ n. choice_for n cs) (the_found own name is)

  chosen_good : (cs : List Chosen) (q : NamedPart) (c : Choice) → AllHold (λ x. GoodChoice x.choice) cs → choice_of_part cs q ≡ Some c → GoodChoice c
  chosen_good cs (part.Constant field value) c all is = absurd cc
  chosen_good cs (part.Slot own) c all is = choice_good GoodChoice own cs c all is

  unchosen_short : (ps : List WrittenPart) (cs : List Chosen) → chosen_for cs ≡ operands_of (anyofs_of s.at s.elements ps) → (name : List ℕ) → is_among (filter_map slot_name ps) name ≡ true
      → choice_for name cs ≡ None → IsSlot s.at place.Part name → is_bare s.at name ≡ true → IsShort name
  unfolding anyof_named
  unchosen_short ps cs names name stands none x bare = by (s.at Operands name) refl x.fits where
    other : kind.Pc ≡ kind.Anyof → ⊥
    other e = absurd cc

    anyof : (st : Standing) → s.at Operands name ≡ Some st → st.kind ≡ kind.Anyof → ⊥
    anyof st is kind_is =
        let l : Leads s.machine s.isa s.elements 1 Operands name st = operand_leads name st is (λ pc. other (sym pc ∙ kind_is)) in
        let a : IsAnyof l.element name = is_anyof l.element name (sym l.kind ∙ kind_is) l.named in
        let named : anyof_named s.at s.elements name ≡ Some a.form = ap (λ o. element_of s.elements o >>= anyof_in) is ∙ ap (λ o. o >>= anyof_in) (there st l.place l.element l.form l.is) ∙ a.is in
        let once : is_among (distinct (filter_map slot_name ps)) name ≡ true = distinct_among [] (filter_map slot_name ps) name stands in
        let among : is_among (operands_of (anyofs_of s.at s.elements ps)) name ≡ true = anyof_among s.at s.elements name a.form named a.named (distinct (filter_map slot_name ps)) once in
        false≢true (sym (none_chosen name cs none) ∙ ap (λ ns. is_among ns name) names ∙ among)

    slot : (st : Standing) → s.at Operands name ≡ Some st → (k : Kind) → st.kind ≡ k → is_slot k ≡ true → ⊥
    slot st is kind.Operand plain e = not_bare name st is plain bare
    slot st is kind.Anyof kind_is e = anyof st is kind_is
    slot st is _ kind_is e = false≢true e

    by : (o : Option Standing) → s.at Operands name ≡ o → is_part is_slot o (s.at Constants name) (s.at Fields name) ≡ true → IsShort name
    by (Some st) is takes = absurd (slot st is st.kind refl takes)
    by None is either = field_short name x.free is either

  -- what a part of a format becomes
  part_good : (ps : List WrittenPart) (cs : List Chosen) → IsWay GoodChoice (operands_of (anyofs_of s.at s.elements ps)) cs → (p : WrittenPart) → IsIn ps p → ((name : List ℕ) → slot_name p ≡ Some name → IsSlot s.at place.Part name) → AreGood (parts_for cs p)
  part_good ps cs way p i slots = by (choice_of_part cs p.part) refl where
    by : (o : Option Choice) → choice_of_part cs p.part ≡ o → AreGood (parts_by p o)
    by None none = ((λ name slot bare. unchosen_short ps cs way.names name (slot_among ps i.place p name i.is slot) (sym (slot_choice cs p.part name slot) ∙ none) (slots name slot) bare), tt)
    by (Some c) is = all_mapped (λ (x : WrittenPart). IsGood x.part) (part_within p.spot) c.parts (chosen_good cs p.part c way.choices is)

  parts_good : (ps : List WrittenPart) (cs : List Chosen) → AllHold (λ p. (name : List ℕ) → slot_name p ≡ Some name → IsSlot s.at place.Part name) ps → IsWay GoodChoice (operands_of (anyofs_of s.at s.elements ps)) cs → AreGood (parts_with cs ps)
  parts_good ps cs slots way = each ps slots (λ k p is. record { place = k; is = is }) where
    each : (qs : List WrittenPart) → AllHold (λ p. (name : List ℕ) → slot_name p ≡ Some name → IsSlot s.at place.Part name) qs → ((k : ℕ) (p : WrittenPart) → slice_get qs k ≡ Some p → IsIn ps p) → AreGood (flat_map (parts_for cs) qs)
    each [] all inside = tt
    each (q ∷ qs) all inside =
        all_append (λ (x : WrittenPart). IsGood x.part) (parts_for cs q) (flat_map (parts_for cs) qs) (part_good ps cs way q (inside 0 q refl) all.0) (each qs all.1 (λ k p is. inside (suc k) p is))

  -- the instructions of a form
  insns_good : (number : ℕ) (form : InstructionForm) → AllHold (λ w. AreGood w.parts) (instructions_in s.at s.elements number (element.Insn (insn.Instruction form)))
  unfolding each_choice with_choices written_of
  insns_good number form =
      let w : Written = written_of s.at s.elements number form in
      let slots : AllHold (λ p. (name : List ℕ) → slot_name p ≡ Some name → IsSlot s.at place.Part name) w.parts =
      parts_slots s.at s.elements place.Part (λ p. (name : List ℕ) → slot_name p ≡ Some name → IsSlot s.at place.Part name) (λ p h. h) 0 _ in
      let all : AllHold (IsWay GoodChoice (operands_of (anyofs_of s.at s.elements w.parts))) (take most (ways (anyofs_of s.at s.elements w.parts))) =
      all_taken (IsWay GoodChoice (operands_of (anyofs_of s.at s.elements w.parts))) most (ways (anyofs_of s.at s.elements w.parts)) (all_ways GoodChoice (anyofs_of s.at s.elements w.parts) (anyofs_good (filter_map (anyof_named s.at s.elements) (distinct (filter_map slot_name w.parts))))) in
      all_mapped (λ (v : Written). AreGood v.parts) (λ cs. with_choices cs w) (take most (ways (anyofs_of s.at s.elements w.parts)))
      (all_so (IsWay GoodChoice (operands_of (anyofs_of s.at s.elements w.parts))) (λ cs. AreGood (with_choices cs w).parts) (λ cs way. parts_good w.parts cs slots way) (take most (ways (anyofs_of s.at s.elements w.parts))) all)

  good_in : (number : ℕ) (e : Element) → AllHold (λ w. AreGood w.parts) (instructions_in s.at s.elements number e)
  good_in number (element.Insn (insn.Instruction form)) = insns_good number form
  good_in number (element.Insn (insn.Macro form)) = tt
  good_in number (element.Frame f) = tt
  good_in number (element.Field f) = tt
  good_in number (element.Hardware f) = tt
  good_in number (element.Operand f) = tt

  good_at : (number : ℕ) (e : Element) → AllHold (λ w. AreGood w.parts) (instructions_at s.at s.machine s.isa s.elements number e)
  good_at number e = at (takes_part s.machine s.isa e) where
    at : (b : Bool) → AllHold (λ w. AreGood w.parts) (if b then instructions_in s.at s.elements number e else [])
    at true = good_in number e
    at false = tt

  good_from : (number : ℕ) (es : List Element) → AllHold (λ w. AreGood w.parts) (expanded_from s.at s.machine s.isa s.elements number es)
  good_from number [] = tt
  good_from number (e ∷ es) =
      all_append (λ (w : Written). AreGood w.parts) (instructions_at s.at s.machine s.isa s.elements number e) (expanded_from s.at s.machine s.isa s.elements (number + 1) es) (good_at number e) (good_from (number + 1) es)

  all_good : AllHold (λ w. AreGood w.parts) (written_in s)
  unfolding expanded
  all_good = good_from 1 s.elements

  -- their bare fields
  bare_parts : (ps : List WrittenPart) → AreGood ps → AllHold IsShort (filter (is_bare s.at) (filter_map slot_name ps))
  bare_parts [] all = tt
  bare_parts (p ∷ ps) all = by (slot_name p) refl (bare_parts ps all.1) where
    one : (name : List ℕ) → slot_name p ≡ Some name → (b : Bool) → is_bare s.at name ≡ b → AllHold IsShort (filter (is_bare s.at) (filter_map slot_name ps)) → AllHold IsShort (if b then name ∷ filter (is_bare s.at) (filter_map slot_name ps) else filter (is_bare s.at) (filter_map slot_name ps))
    one name slot true bare rest = (all.0 name slot bare, rest)
    one name slot false bare rest = rest

    by : (o : Option (List ℕ)) → slot_name p ≡ o → AllHold IsShort (filter (is_bare s.at) (filter_map slot_name ps)) → AllHold IsShort (filter (is_bare s.at) (cons_option o (filter_map slot_name ps)))
    by None is rest = rest
    by (Some name) is rest = one name is (is_bare s.at name) refl rest

  bare_all : (ws : List Written) → AllHold (λ w. AreGood w.parts) ws → AllHold IsShort (flat_map (bare_in s.at) ws)
  bare_all [] all = tt
  bare_all (w ∷ ws) all = all_append IsShort (bare_in s.at w) (flat_map (bare_in s.at) ws) (bare_parts w.parts all.0) (bare_all ws all.1)

  pub bare_short : AllHold IsShort (bare_names s.at (written_in s))
  bare_short = distinct_short [] (flat_map (bare_in s.at) (written_in s)) (bare_all (written_in s) all_good)
