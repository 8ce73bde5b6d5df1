-- The slots of a syntax, and what the parts of a format name, are there.
use Rattle.std.proofs.Common.{◌≡◌, ◌∙◌, ℕ, suc, ◌+◌, ◌≤◌, min, Bool, true, false, if◌then◌else◌, List, [], ◌∷◌, map, take, length, ℤ, Option, Some, None, refl, sym, ap, subst, arith}
use Rattle.std.specs.List.{filter_map, cons_option}
use Rattle.std.specs.Option.{option_map}
use Rattle.cg_base.specs.declared.form.Form.{Form, out-Form}
use Rattle.cg_base.specs.declared.form.Form.TheOpen.{Symbol, Items}
use Rattle.cg_base.specs.Parts.{Layer, symbol_of, number_of}
use Rattle.cg_desc_choices.specs.declared.written.Choice.{Choice}
use Rattle.cg_desc_choices.specs.declared.written.NamedPart.{NamedPart}
use Rattle.cg_desc_choices.specs.declared.written.NamedPart.TheVariants as part
use Rattle.cg_desc_choices.specs.declared.written.Written.{Written}
use Rattle.cg_desc_choices.specs.declared.written.WrittenPart.{WrittenPart}
use Rattle.cg_desc_choices.specs.declared.written.WrittenPiece.{WrittenPiece}
use Rattle.cg_desc_choices.specs.Choices.{Chosen, part_within, parts_by, choice_of_part, parts_for, parts_with, with_choices}
use Rattle.cg_desc_choices.specs.Ways.{ways, most, each_choice}
use Rattle.cg_desc_laws_forms.proofs.Lists.{the_found}
use Rattle.cg_desc_data.specs.Selecting.{Selection}
use Rattle.cg_desc_scope.specs.Described.{written_in}
use Rattle.cg_desc_elements.specs.declared.element.Element.{Element}
use Rattle.cg_desc_elements.specs.declared.element.Element.TheVariants as element
use Rattle.cg_desc_elements.specs.Belonging.{takes_part}
use Rattle.cg_desc_insns.specs.Choices.{derived_choice, plain_choice, choice_by, choice_of, known_choice, anyof_of, anyofs_of, slot_name, distinct}
use Rattle.cg_desc_insns.specs.Expanded.{instructions_in, instructions_at, expanded_from, expanded}
use Rattle.cg_desc_insns.specs.Named.{derived_named, anyof_named, constant_named}
use Rattle.cg_desc_insns.specs.Parts.{is_taken, constant_part, number_part, pair_part, listed_part, value_part, is_constant, taken_part, named_part, part_in, part_of, part_before, parts_from}
use Rattle.cg_desc_insns.specs.Written.{written_of}
use Rattle.cg_insn.specs.declared.form.InsnForm.TheVariants as insn
use Rattle.cg_insn.specs.declared.form.InstructionForm.{InstructionForm}
use Rattle.cg_insn.specs.declared.syntax.NamedPiece.{NamedPiece}
use Rattle.cg_insn.specs.declared.syntax.NamedPiece.TheVariants as named
use Rattle.cg_desc_names.specs.Table.{Table}
use Rattle.cg_model.specs.declared.insn.Piece.TheVariants as piece
use Rattle.cg_model_faults.specs.E306.{beyond, no_slots}
use Rattle.cg_operand.specs.declared.form.AnyofOperandForm.{AnyofOperandForm}
use Rattle.cg_operand.specs.declared.form.DerivedOperandForm.{DerivedOperandForm}
use Rattle.cg_rtl_resolve.specs.Names.{place_of}
use Rattle.cg_desc_references.specs.declared.reference.Place.{Place}
use Rattle.cg_desc_references.specs.declared.reference.Place.TheVariants as place
use Rattle.cg_desc_machine.specs.Instructions.{slot_number, piece_of, pieces_of}
use Rattle.cg_desc_laws.proofs.CountedBare.{choice_good}
use Rattle.cg_desc_laws.proofs.CountedGiven.{all_given, all_mapped}
use Rattle.cg_desc_laws.proofs.CountedGroups.{all_so}
use Rattle.cg_desc_laws.proofs.CountedWays.{all_taken, operands_of, IsWay, all_ways}
use Rattle.cg_desc_laws.proofs.CountedWithin.{none_joined}
use Rattle.cg_desc_laws.proofs.Members.{AllHold, all_append}
use Rattle.cg_desc_laws.proofs.NumberedBelow.{IsBelow, there, place_below}

-- The slots of a syntax.
pub slot_below : (slots : List (List ℕ)) (name : List ℕ) (k : ℕ) → slot_number slots name ≡ Some k → IsBelow (length slots) k
slot_below slots name k is = by (place_of name slots) refl is where
  least : (n most : ℕ) → min n most ≤ n
  least n most = omega arith

  by : (o : Option ℕ) → place_of name slots ≡ o → option_map (λ n. min n 255) o ≡ Some k → IsBelow (length slots) k
  by None place e = absurd cc
  by (Some n) place e =
      let below : suc n ≤ length slots = place_below name slots n place in
      let same : min n 255 ≡ k = the_found (min n 255) k e in
      let fewer : min n 255 ≤ n = least n 255 in
      omega (arith, below, same, fewer)

pub slots_there : (count : ℕ) (slots : List (List ℕ)) → length slots ≡ count → (at : ℕ) (ps : List WrittenPiece) → no_slots count at (pieces_of slots ps) ≡ []
slots_there count slots same at [] = refl
slots_there count slots same at (p ∷ ps) = by p.piece (λ next. slots_there count slots same next ps) where
  by : (q : NamedPiece) → ((next : ℕ) → no_slots count next (pieces_of slots ps) ≡ []) → no_slots count at (cons_option (piece_of slots q) (pieces_of slots ps)) ≡ []
  by (named.Literal text) rest = rest (at + 1)
  by (named.Slot name) rest = slot (slot_number slots name) refl where
    slot : (o : Option ℕ) → slot_number slots name ≡ o → no_slots count at (cons_option (option_map piece.Slot o) (pieces_of slots ps)) ≡ []
    slot None is = rest at
    slot (Some k) is = none_joined (beyond count at k) (no_slots count (at + 1) (pieces_of slots ps)) (there count at k (subst (λ n. IsBelow n k) same (slot_below slots name k is))) (rest (at + 1))

-- A part with a value names a field that its place takes.
abbrev pub HasField : Table → NamedPart → Type 0
HasField at q = (field : List ℕ) (value : ℤ) → q ≡ part.Constant field value → is_taken at place.Field field ≡ true

abbrev field_or : List ℕ → NamedPart → List ℕ
field_or x (part.Constant field value) = field
field_or x _ = x

constant_field : (at : Table) (own : List ℕ) (v : ℤ) (q : NamedPart) → constant_part at own v ≡ Some q → HasField at q
constant_field at own v q is field value e = by (is_taken at place.Field own) refl is where
  by : (b : Bool) → is_taken at place.Field own ≡ b → (if b then Some (part.Constant own v) else None) ≡ Some q → is_taken at place.Field field ≡ true
  by true taken f = let same : own ≡ field = ap (field_or own) (the_found (part.Constant own v) q f ∙ e) in sym (ap (is_taken at place.Field) same) ∙ taken
  by false taken f = absurd cc

value_field : (at : Table) (o : Option (List ℕ × ℤ)) (q : NamedPart) → value_part at o ≡ Some q → HasField at q
value_field at None q is = absurd cc
value_field at (Some x) q is = constant_field at x.0 x.1 q is

number_field : (at : Table) (own : List ℕ) (o : Option ℤ) (q : NamedPart) → number_part at own o ≡ Some q → HasField at q
number_field at own None q is = absurd cc
number_field at own (Some v) q is = constant_field at own v q is

pair_field : (at : Table) (o : Option (List ℕ)) (number : Form) (q : NamedPart) → pair_part at o number ≡ Some q → HasField at q
pair_field at None number q is = absurd cc
pair_field at (Some own) number q is = number_field at own (number_of number) q is

listed_field : (at : Table) (fs : List Form) (q : NamedPart) → listed_part at fs ≡ Some q → HasField at q
listed_field at [] q is = absurd cc
listed_field at (a ∷ []) q is = absurd cc
listed_field at (a ∷ b ∷ []) q is = pair_field at (symbol_of a) b q is
listed_field at (a ∷ b ∷ c ∷ fs) q is = absurd cc

slot_never : (at : Table) (own : List ℕ) (q : NamedPart) → part.Slot own ≡ q → HasField at q
slot_never at own q is field value e = absurd (never (is ∙ e)) where
  never : part.Slot own ≡ part.Constant field value → ⊥
  never x = absurd cc

taken_field : (at : Table) (es : List Element) (own : List ℕ) (q : NamedPart) → taken_part at es own ≡ Some q → HasField at q
unfolding taken_part
taken_field at es own q is = by (is_constant at own) is where
  by : (b : Bool) → (if b then value_part at (constant_named at es own) else Some (part.Slot own)) ≡ Some q → HasField at q
  by true e = value_field at (constant_named at es own) q e
  by false e = slot_never at own q (the_found (part.Slot own) q e)

named_field : (at : Table) (es : List Element) (p : Place) (own : List ℕ) (q : NamedPart) → named_part at es p own ≡ Some q → HasField at q
named_field at es p own q is = by (is_taken at p own) is where
  by : (b : Bool) → (if b then taken_part at es own else None) ≡ Some q → HasField at q
  by true e = taken_field at es own q e
  by false e = absurd cc

part_field : (at : Table) (es : List Element) (p : Place) (f : Form) (q : NamedPart) → part_of at es p f ≡ Some q → HasField at q
unfolding part_of
part_field at es p f q is = by (out-Form f) is where
  by : (layer : Layer) → part_in at es p layer ≡ Some q → HasField at q
  by (Symbol own) e = named_field at es p own q e
  by (Items fs) e = listed_field at fs q e
  by _ e = absurd cc

abbrev pub HaveFields : Table → List WrittenPart → Type 0
HaveFields at ps = AllHold (λ p. HasField at p.part) ps

parts_fields : (at : Table) (es : List Element) (p : Place) (item : ℕ) (fs : List Form) → HaveFields at (parts_from at es p item fs)
parts_fields at es p item [] = tt
parts_fields at es p item (f ∷ fs) = by (part_of at es p f) refl (parts_fields at es p (item + 1) fs) where
  by : (o : Option NamedPart) → part_of at es p f ≡ o → HaveFields at (parts_from at es p (item + 1) fs) → HaveFields at (part_before item o (parts_from at es p (item + 1) fs))
  by None is rest = rest
  by (Some q) is rest = (part_field at es p f q is, rest)

-- Of all parts of the instructions of a description.
module _ (s : Selection) where
  abbrev GoodChoice : Choice → Type 0
  GoodChoice c = HaveFields s.at c.parts

  choice_fields : (name : List ℕ) → GoodChoice (choice_of s.at s.elements name)
  unfolding derived_choice plain_choice
  choice_fields name = by (derived_named s.at s.elements name) where
    by : (o : Option DerivedOperandForm) → GoodChoice (choice_by s.at s.elements name o)
    by None = (slot_never s.at name (part.Slot name) refl, tt)
    by (Some d) = parts_fields s.at s.elements place.EncodingPart 0 _

  choices_fields : (names : List (List ℕ)) → AllHold GoodChoice (filter_map (known_choice s.at s.elements) names)
  choices_fields names = all_given GoodChoice (known_choice s.at s.elements) names (λ name i c is. by name c (is_taken s.at place.Choice name) is) where
    by : (name : List ℕ) (c : Choice) (b : Bool) → (if b then Some (choice_of s.at s.elements name) else None) ≡ Some c → GoodChoice c
    by name c true e = subst GoodChoice (the_found (choice_of s.at s.elements name) c e) (choice_fields name)
    by name c false e = absurd cc

  anyofs_fields : (forms : List AnyofOperandForm) → AllHold (λ a. AllHold GoodChoice a.choices) (map (anyof_of s.at s.elements) forms)
  anyofs_fields [] = tt
  anyofs_fields (f ∷ fs) = (choices_fields f.choices, anyofs_fields fs)

  chosen_fields : (cs : List Chosen) (q : NamedPart) (c : Choice) → AllHold (λ x. GoodChoice x.choice) cs → choice_of_part cs q ≡ Some c → GoodChoice c
  chosen_fields cs (part.Constant field value) c all is = absurd cc
  chosen_fields cs (part.Slot own) c all is = choice_good GoodChoice own cs c all is

  with_fields : (cs : List Chosen) → AllHold (λ x. GoodChoice x.choice) cs → (ps : List WrittenPart) → HaveFields s.at ps → HaveFields s.at (parts_with cs ps)
  with_fields cs goods [] all = tt
  with_fields cs goods (p ∷ ps) all = all_append (λ (x : WrittenPart). HasField s.at x.part) (parts_for cs p) (parts_with cs ps) (by (choice_of_part cs p.part) refl) (with_fields cs goods ps all.1) where
    by : (o : Option Choice) → choice_of_part cs p.part ≡ o → HaveFields s.at (parts_by p o)
    by None is = (all.0, tt)
    by (Some c) is = all_mapped (λ (x : WrittenPart). HasField s.at x.part) (part_within p.spot) c.parts (chosen_fields cs p.part c goods is)

  form_fields : (number : ℕ) (form : InstructionForm) → AllHold (λ w. HaveFields s.at w.parts) (instructions_in s.at s.elements number (element.Insn (insn.Instruction form)))
  unfolding each_choice with_choices written_of
  form_fields number form =
      let w : Written = written_of s.at s.elements number form in
      let own : HaveFields s.at w.parts = parts_fields s.at s.elements place.Part 0 _ in
      let all : AllHold (IsWay GoodChoice (operands_of (anyofs_of s.at s.elements w.parts))) (take most (ways (anyofs_of s.at s.elements w.parts))) =
      all_taken (IsWay GoodChoice (operands_of (anyofs_of s.at s.elements w.parts))) most (ways (anyofs_of s.at s.elements w.parts)) (all_ways GoodChoice (anyofs_of s.at s.elements w.parts) (anyofs_fields (filter_map (anyof_named s.at s.elements) (distinct (filter_map slot_name w.parts))))) in
      all_mapped (λ (v : Written). HaveFields s.at v.parts) (λ cs. with_choices cs w) (take most (ways (anyofs_of s.at s.elements w.parts)))
      (all_so (IsWay GoodChoice (operands_of (anyofs_of s.at s.elements w.parts))) (λ cs. HaveFields s.at (with_choices cs w).parts) (λ cs way. with_fields cs way.choices w.parts own) (take most (ways (anyofs_of s.at s.elements w.parts))) all)

  fields_in : (number : ℕ) (e : Element) → AllHold (λ w. HaveFields s.at w.parts) (instructions_in s.at s.elements number e)
  fields_in number (element.Insn (insn.Instruction form)) = form_fields number form
  fields_in number (element.Insn (insn.Macro form)) = tt
  fields_in number (element.Frame f) = tt
  fields_in number (element.Field f) = tt
  fields_in number (element.Hardware f) = tt
  fields_in number (element.Operand f) = tt

  fields_at : (number : ℕ) (e : Element) → AllHold (λ w. HaveFields s.at w.parts) (instructions_at s.at s.machine s.isa s.elements number e)
  fields_at number e = at (takes_part s.machine s.isa e) where
    at : (b : Bool) → AllHold (λ w. HaveFields s.at w.parts) (if b then instructions_in s.at s.elements number e else [])
    at true = fields_in number e
    at false = tt

  fields_from : (number : ℕ) (es : List Element) → AllHold (λ w. HaveFields s.at w.parts) (expanded_from s.at s.machine s.isa s.elements number es)
  fields_from number [] = tt
  fields_from number (e ∷ es) =
      all_append (λ (w : Written). HaveFields s.at w.parts) (instructions_at s.at s.machine s.isa s.elements number e) (expanded_from s.at s.machine s.isa s.elements (number + 1) es) (fields_at number e) (fields_from (number + 1) es)

  pub all_fields : AllHold (λ w. HaveFields s.at w.parts) (written_in s)
  unfolding expanded
  all_fields = fields_from 1 s.elements
