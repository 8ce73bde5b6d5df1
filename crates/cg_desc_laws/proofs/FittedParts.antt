-- Each constant of a format is that of a plain field, whatever is chosen.
use Rattle.std.proofs.Common.{◌≡◌, ℕ, suc, ◌+◌, Bool, true, false, if◌then◌else◌, List, [], ◌∷◌, map, take, ℤ, Option, Some, None, refl, sym, subst}
use Rattle.std.specs.List.{filter_map}
use Rattle.std.specs.Option.{option_or, unwrap_or}
use Rattle.cg_base.specs.declared.form.Form.{Form, out-Form}
use Rattle.cg_base.specs.declared.form.Form.TheOpen.{Number, Symbol, Str, Flag, Items}
use Rattle.cg_base.specs.Parts.{Layer, headed_in, symbol_of, number_of, elements_of}
use Rattle.cg_base.specs.Texts.{same_text}
use Rattle.cg_desc_laws_forms.proofs.Lists.{the_found}
use Rattle.cg_desc_elements.specs.declared.element.Element.{Element}
use Rattle.cg_operand.specs.declared.form.DerivedOperandForm.{DerivedOperandForm}
use Rattle.cg_operand.specs.declared.form.AnyofOperandForm.{AnyofOperandForm}
use Rattle.cg_desc_names.specs.Table.{Table}
use Rattle.cg_desc_references.specs.declared.reference.Place.{Place}
use Rattle.cg_desc_references.specs.declared.reference.Place.TheVariants as place
use Rattle.cg_desc_references.specs.References.{parts_in, listed}
use Rattle.cg_desc_choices.specs.declared.written.Anyof.{Anyof}
use Rattle.cg_desc_choices.specs.declared.written.Choice.{Choice}
use Rattle.cg_desc_choices.specs.declared.written.NamedPart.{NamedPart}
use Rattle.cg_desc_choices.specs.declared.written.NamedPart.TheVariants.{Constant, Slot}
use Rattle.cg_desc_choices.specs.declared.written.Written.{Written}
use Rattle.cg_desc_choices.specs.declared.written.Spot.{Spot}
use Rattle.cg_desc_choices.specs.declared.written.WrittenPart.{WrittenPart}
use Rattle.cg_desc_choices.specs.Choices.{Chosen, choice_for, part_within, parts_by, choice_of_part, parts_for, parts_with, with_choices}
use Rattle.cg_desc_choices.specs.Ways.{ways, most}
use Rattle.cg_desc_laws.proofs.CountedWays.{operands_of, IsWay, all_taken, all_ways}
use Rattle.cg_desc_data.specs.Selecting.{Selection}
use Rattle.cg_desc_insns.specs.Choices.{derived_choice, plain_choice, choice_by, choice_of, known_choice, anyof_of, distinct, slot_name, anyofs_of}
use Rattle.cg_desc_insns.specs.Named.{constant_named, derived_named, anyof_named}
use Rattle.cg_desc_insns.specs.Parts.{is_taken, constant_part, number_part, pair_part, listed_part, value_part, is_constant, taken_part, named_part, part_in, part_of, part_before, parts_from, parts_of}
use Rattle.cg_desc_insns.specs.Written.{written_of}
use Rattle.cg_desc_laws.proofs.Members.{AllHold, all_append, held}
use Rattle.cg_desc_laws.proofs.Origins.{FromForm, ways_of}
use Rattle.cg_desc_laws.proofs.FittedInsns.{all_given, all_so}

-- Of a part: where it is a constant, its field is one.
abbrev pub OfField : Table → NamedPart → Type 0
OfField at (Constant field value) = is_taken at place.Field field ≡ true
OfField at (Slot name) = Unit {0}

abbrev pub IsOfField : Table → WrittenPart → Type 0
IsOfField at p = OfField at p.part

module _ (at : Table) (es : List Element) where
  abbrev Gives : Option NamedPart → Type 0
  Gives o = (q : NamedPart) → o ≡ Some q → OfField at q

  none_gives : Gives None
  none_gives q is = absurd cc

  constant_gives : (field : List ℕ) (value : ℤ) → Gives (constant_part at field value)
  constant_gives field value q is = by (is_taken at place.Field field) refl is where
    by : (b : Bool) → is_taken at place.Field field ≡ b → (if b then Some (Constant field value) else None) ≡ Some q → OfField at q
    by true taken e = subst (OfField at) (the_found (Constant field value) q e) taken
    by false taken e = absurd cc

  number_gives : (field : List ℕ) (o : Option ℤ) → Gives (number_part at field o)
  number_gives field None = none_gives
  number_gives field (Some value) = constant_gives field value

  pair_gives : (o : Option (List ℕ)) (number : Form) → Gives (pair_part at o number)
  pair_gives None number = none_gives
  pair_gives (Some field) number = number_gives field (number_of number)

  listed_gives : (fs : List Form) → Gives (listed_part at fs)
  listed_gives [] = none_gives
  listed_gives (a ∷ []) = none_gives
  listed_gives (a ∷ b ∷ []) = pair_gives (symbol_of a) b
  listed_gives (a ∷ b ∷ c ∷ fs) = none_gives

  value_gives : (o : Option (List ℕ × ℤ)) → Gives (value_part at o)
  value_gives None = none_gives
  value_gives (Some x) = constant_gives x.0 x.1

  slot_gives : (name : List ℕ) → Gives (Some (Slot name))
  slot_gives name q is = subst (OfField at) (the_found (Slot name) q is) tt

  taken_gives : (name : List ℕ) → Gives (taken_part at es name)
  unfolding taken_part
  taken_gives name = by (is_constant at name) where
    by : (b : Bool) → Gives (if b then value_part at (constant_named at es name) else Some (Slot name))
    by true = value_gives (constant_named at es name)
    by false = slot_gives name

  named_gives : (p : Place) (name : List ℕ) → Gives (named_part at es p name)
  named_gives p name = by (is_taken at p name) where
    by : (b : Bool) → Gives (if b then taken_part at es name else None)
    by true = taken_gives name
    by false = none_gives

  layer_gives : (p : Place) (l : Layer) → Gives (part_in at es p l)
  layer_gives p (Symbol name) = named_gives p name
  layer_gives p (Items fs) = listed_gives fs
  layer_gives p (Number n) = none_gives
  layer_gives p (Str text) = none_gives
  layer_gives p (Flag b) = none_gives

  part_gives : (p : Place) (f : Form) → Gives (part_of at es p f)
  unfolding part_of
  part_gives p f = layer_gives p (out-Form f)

  -- so of the parts of a format or an encoding
  from_of_field : (p : Place) (item : ℕ) (fs : List Form) → AllHold (IsOfField at) (parts_from at es p item fs)
  from_of_field p item [] = tt
  from_of_field p item (f ∷ fs) = by (part_of at es p f) (part_gives p f) (from_of_field p (item + 1) fs) where
    by : (o : Option NamedPart) → Gives o → AllHold (IsOfField at) (parts_from at es p (item + 1) fs) → AllHold (IsOfField at) (part_before item o (parts_from at es p (item + 1) fs))
    by None gives rest = rest
    by (Some q) gives rest = (gives q refl, rest)

  pub parts_of_field : (p : Place) (f : Form) → AllHold (IsOfField at) (parts_of at es p f)
  parts_of_field p f = from_of_field p 0 (parts_in (option_or (headed_in (unwrap_or (elements_of f) [])) (listed (unwrap_or (elements_of f) []))))

  -- of what a choice puts in
  abbrev Good : Choice → Type 0
  Good c = AllHold (IsOfField at) c.parts

  choice_good : (name : List ℕ) (o : Option DerivedOperandForm) → Good (choice_by at es name o)
  unfolding derived_choice plain_choice
  choice_good name None = (tt, tt)
  choice_good name (Some d) = parts_of_field place.EncodingPart d.encoding

  known_good : (name : List ℕ) (c : Choice) → known_choice at es name ≡ Some c → Good c
  known_good name c is = by (is_taken at place.Choice name) is where
    by : (b : Bool) → (if b then Some (choice_of at es name) else None) ≡ Some c → Good c
    by true e = subst Good (the_found (choice_of at es name) c e) (choice_good name (derived_named at es name))
    by false e = absurd cc

  abbrev HasGood : Anyof → Type 0
  HasGood a = AllHold Good a.choices

  anyofs_good : (xs : List AnyofOperandForm) → AllHold HasGood (map (anyof_of at es) xs)
  anyofs_good [] = tt
  anyofs_good (a ∷ xs) = (all_given Good (known_choice at es) a.choices (λ name c i is. known_good name c is), anyofs_good xs)

  -- of the parts with choices put in
  for_good : (cs : List Chosen) → AllHold (λ c. Good c.choice) cs → (name : List ℕ) (c : Choice) → choice_for name cs ≡ Some c → Good c
  for_good [] all name c is = absurd cc
  for_good (x ∷ cs) all name c is = by (for_good cs all.1 name c) (same_text x.operand name) is where
    by : (choice_for name cs ≡ Some c → Good c) → (b : Bool) → (if b then Some x.choice else choice_for name cs) ≡ Some c → Good c
    by rest true e = subst Good (the_found x.choice c e) all.0
    by rest false e = rest e

  within_good : (spot : Spot) (ps : List WrittenPart) → AllHold (IsOfField at) ps → AllHold (IsOfField at) (map (part_within spot) ps)
  within_good spot [] all = tt
  within_good spot (p ∷ ps) all = (all.0, within_good spot ps all.1)

  one_good : (cs : List Chosen) → AllHold (λ c. Good c.choice) cs → (p : WrittenPart) → IsOfField at p → AllHold (IsOfField at) (parts_for cs p)
  one_good cs all p own = by (choice_of_part cs p.part) (λ c is. of_part p.part c is) where
    of_part : (q : NamedPart) (c : Choice) → choice_of_part cs q ≡ Some c → Good c
    of_part (Constant field value) c is = absurd cc
    of_part (Slot name) c is = for_good cs all name c is

    by : (o : Option Choice) → ((c : Choice) → o ≡ Some c → Good c) → AllHold (IsOfField at) (parts_by p o)
    by None good = (own, tt)
    by (Some c) good = within_good p.spot c.parts (good c refl)

  with_good : (cs : List Chosen) → AllHold (λ c. Good c.choice) cs → (ps : List WrittenPart) → AllHold (IsOfField at) ps → AllHold (IsOfField at) (parts_with cs ps)
  with_good cs all [] own = tt
  with_good cs all (p ∷ ps) own = all_append (IsOfField at) (parts_for cs p) (parts_with cs ps) (one_good cs all p own.0) (with_good cs all ps own.1)

  ways_good : (ps : List WrittenPart) → AllHold (λ cs. AllHold (λ c. Good c.choice) cs) (take most (ways (anyofs_of at es ps)))
  ways_good ps =
      let operands : List Anyof = anyofs_of at es ps in
      all_so (IsWay Good (operands_of operands)) (λ cs. AllHold (λ c. Good c.choice) cs) (λ cs w. w.choices) (take most (ways operands))
      (all_taken (IsWay Good (operands_of operands)) most (ways operands) (all_ways Good operands (anyofs_good (filter_map (anyof_named at es) (distinct (filter_map slot_name ps))))))

-- Of an instruction that comes from a form.
pub constants_of_fields : (s : Selection) (w : Written) → FromForm s w → AllHold (IsOfField s.at) w.parts
unfolding with_choices written_of
constants_of_fields s w o =
    let before : Written = written_of s.at s.elements (suc o.place) o.form in
    let chosen : AllHold (λ c. AllHold (IsOfField s.at) c.choice.parts) o.chosen = held (λ cs. AllHold (λ c. AllHold (IsOfField s.at) c.choice.parts) cs) (ways_of s o.place o.form) o.chosen (ways_good s.at s.elements before.parts) o.way in
    subst (λ x. AllHold (IsOfField s.at) x.parts) (sym o.written) (with_good s.at s.elements o.chosen chosen before.parts (parts_of_field s.at s.elements place.Part o.form.format))
