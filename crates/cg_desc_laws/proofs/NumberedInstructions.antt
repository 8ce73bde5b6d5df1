-- What instructions and macro instructions name is there.
use Rattle.std.proofs.Common.{◌≡◌, ◌∙◌, ℕ, zero, suc, ◌+◌, Bool, true, false, not, ◌&&◌, ◌||◌, if◌then◌else◌, List, [], ◌∷◌, ◌++◌, map, filter, length, Option, Some, None, is_some, slice_get, refl, sym, ap, subst}
use Rattle.std.specs.List.{filter_map, cons_option, flat_map}
use Rattle.std.specs.Cmp.Lexicographic.{bytes_decides}
use Rattle.std.proofs.lemmas.Bool.{false≢true}
use Rattle.cg_base.specs.Texts.{same_text, is_among}
use Rattle.cg_desc_choices.specs.declared.written.NamedPart.{NamedPart}
use Rattle.cg_desc_choices.specs.declared.written.NamedPart.TheVariants as part
use Rattle.cg_desc_choices.specs.declared.written.Written.{Written}
use Rattle.cg_desc_choices.specs.declared.written.WrittenPart.{WrittenPart}
use Rattle.cg_desc_laws_forms.proofs.Lists.{the_found}
use Rattle.cg_desc_data.specs.Selecting.{Selection}
use Rattle.cg_desc_data.specs.Numbering.{numbered, field_names, operand_names}
use Rattle.cg_desc_scope.specs.Bare.{is_bare, bare_in, bare_names}
use Rattle.cg_desc_scope.specs.Described.{Described, described, written_in, all_operand_names}
use Rattle.cg_desc_elements.specs.declared.kind.Namespace.TheVariants.{Operands}
use Rattle.cg_desc_insns.specs.Choices.{name_of_slot, slot_name, distinct_behind}
use Rattle.cg_insn.specs.declared.form.InstructionForm.{InstructionForm}
use Rattle.cg_desc_names.specs.Table.{table_of}
use Rattle.cg_model.specs.declared.insn.Part.{Part}
use Rattle.cg_model.specs.declared.machine.Machine.{Machine}
use Rattle.cg_model_faults.specs.E306.{beyond, beyond_from, no_slots, no_part, no_parts, no_given, no_givens, of_shape, of_macro}
use Rattle.cg_model_faults.specs.E306 as e306
use Rattle.cg_model_faults.specs.E313.{slot_operands}
use Rattle.cg_rtl_resolve.specs.declared.scope.Scope.{Scope}
use Rattle.cg_desc_references.specs.declared.reference.Place.TheVariants as place
use Rattle.cg_desc_references.specs.Finding.{stands_as, is_plain_operand}
use Rattle.cg_desc_machine.specs.Instructions.{number_or_none, part_of, part_in, slot_part, slot_names, has_no_field, is_behind, slot_of, behind_format, format_slots, parts_of, pieces_of, insn_by}
use Rattle.cg_desc_machine.specs.Machines.{machine_of}
use Rattle.cg_desc_laws.proofs.CountedBare.{taken_fits, distinct_among, or_true}
use Rattle.cg_desc_laws.proofs.CountedShapes.{parts_long}
use Rattle.cg_desc_laws.proofs.CountedWithin.{none_joined}
use Rattle.cg_desc_laws.proofs.Members.{AllHold, all_append, IsIn, held}
use Rattle.cg_desc_laws.proofs.NumberedBelow.{IsBelow, there as number_there, named_below, among_numbered}
use Rattle.cg_desc_laws.proofs.NumberedElements.{operands_long, fields_long}
use Rattle.cg_desc_laws.proofs.NumberedNames.{field_among, operand_among}
use Rattle.cg_desc_laws.proofs.NumberedSlots.{slots_there, HasField, HaveFields, all_fields}

-- names that pass a test, each once
filtered_hold : (P : List ℕ → Type 0) (test : List ℕ → Bool) → ((name : List ℕ) → test name ≡ true → P name) → (xs : List (List ℕ)) → AllHold P (filter test xs)
filtered_hold P test h [] = tt
filtered_hold P test h (x ∷ xs) = by (test x) refl (filtered_hold P test h xs) where
  by : (b : Bool) → test x ≡ b → AllHold P (filter test xs) → AllHold P (if b then x ∷ filter test xs else filter test xs)
  by true is rest = (h x is, rest)
  by false is rest = rest

pub distinct_hold : (P : List ℕ → Type 0) (before xs : List (List ℕ)) → AllHold P xs → AllHold P (distinct_behind before xs)
distinct_hold P before [] all = tt
distinct_hold P before (x ∷ xs) all = by (is_among before x) (distinct_hold P before xs all.1) (distinct_hold P (before ++ x ∷ []) xs all.1) where
  by : (b : Bool) → AllHold P (distinct_behind before xs) → AllHold P (distinct_behind (before ++ x ∷ []) xs) → AllHold P (if b then distinct_behind before xs else x ∷ distinct_behind (before ++ x ∷ []) xs)
  by true without within = without
  by false without within = (all.0, within)

second_true : (a b : Bool) → (a && b) ≡ true → b ≡ true
second_true true b e = e
second_true false b e = absurd (false≢true e)

-- a name among some is among them and others
among_front : (xs ys : List (List ℕ)) (name : List ℕ) → is_among xs name ≡ true → is_among (xs ++ ys) name ≡ true
among_front [] ys name e = absurd (false≢true e)
among_front (x ∷ xs) ys name e = by (same_text x name) e (among_front xs ys name) where
  by : (b : Bool) → (b || is_among xs name) ≡ true → (is_among xs name ≡ true → is_among (xs ++ ys) name ≡ true) → (b || is_among (xs ++ ys) name) ≡ true
  by true e rest = refl
  by false e rest = rest e

among_behind : (xs ys : List (List ℕ)) (name : List ℕ) → is_among ys name ≡ true → is_among (xs ++ ys) name ≡ true
among_behind [] ys name e = e
among_behind (x ∷ xs) ys name e = ap (λ b. same_text x name || b) (among_behind xs ys name e) ∙ or_true (same_text x name)

among_filtered : (test : List ℕ → Bool) (xs : List (List ℕ)) (k : ℕ) (name : List ℕ) → slice_get xs k ≡ Some name → test name ≡ true → is_among (filter test xs) name ≡ true
among_filtered test [] k name is passes = absurd cc
among_filtered test (x ∷ xs) zero name is passes =
    ap (λ b. is_among (if b then x ∷ filter test xs else filter test xs) name) (ap test (the_found x name is) ∙ passes) ∙ ap (λ b. b || is_among (filter test xs) name) ((bytes_decides x name).1 (the_found x name is))
among_filtered test (x ∷ xs) (suc k) name is passes = by (test x) (among_filtered test xs k name is passes) where
  by : (b : Bool) → is_among (filter test xs) name ≡ true → is_among (if b then x ∷ filter test xs else filter test xs) name ≡ true
  by true e = ap (λ b. same_text x name || b) e ∙ or_true (same_text x name)
  by false e = e

among_joined : {A : Type 0} (f : A → List (List ℕ)) (xs : List A) (k : ℕ) (x : A) (name : List ℕ) → slice_get xs k ≡ Some x → is_among (f x) name ≡ true → is_among (flat_map f xs) name ≡ true
among_joined f [] k x name is e = absurd cc
among_joined f (y ∷ ys) zero x name is e = among_front (f y) (flat_map f ys) name (ap (λ z. is_among (f z) name) (the_found y x is) ∙ e)
among_joined f (y ∷ ys) (suc k) x name is e = among_behind (f y) (flat_map f ys) name (among_joined f ys k x name is e)

-- where a slot stands among the slots
slot_placed : (ps : List WrittenPart) (k : ℕ) (p : WrittenPart) (name : List ℕ) → slice_get ps k ≡ Some p → slot_name p ≡ Some name → IsIn (filter_map slot_name ps) name
slot_placed [] k p name is slot = absurd cc
slot_placed (q ∷ qs) zero p name is slot = subst (λ o. IsIn (cons_option o (filter_map slot_name qs)) name) (sym (ap slot_name (the_found q p is) ∙ slot)) (record { place = 0; is = refl })
slot_placed (q ∷ qs) (suc k) p name is slot = by (slot_name q) (slot_placed qs k p name is slot) where
  by : (o : Option (List ℕ)) → IsIn (filter_map slot_name qs) name → IsIn (cons_option o (filter_map slot_name qs)) name
  by None i = i
  by (Some n) i = record { place = suc i.place; is = i.is }

module _ (s : Selection) (scope : Scope) (table : s.at ≡ table_of s.machine s.isa s.elements) where
  abbrev d : Described
  d = described s

  abbrev mm : Machine
  mm = machine_of d scope

  pub operand_below : (name : List ℕ) → is_some (d.operand_numbers name) ≡ true → IsBelow (length mm.operands) (number_or_none d.operand_numbers name)
  operand_below name some = subst (λ n. IsBelow n (number_or_none d.operand_numbers name)) (operands_long s scope) (named_below (all_operand_names s (written_in s)) name some)

  -- each slot of a format is an operand
  slot_known : (w : Written) → IsIn (written_in s) w → (name : List ℕ) → IsIn (filter_map slot_name w.parts) name → is_some (d.operand_numbers name) ≡ true
  slot_known w there name i = by (is_bare s.at name) refl where
    by : (b : Bool) → is_bare s.at name ≡ b → is_some (d.operand_numbers name) ≡ true
    by true bare =
        let own : is_among (bare_in s.at w) name ≡ true = among_filtered (is_bare s.at) (filter_map slot_name w.parts) i.place name i.is bare in
        let all : is_among (flat_map (bare_in s.at) (written_in s)) name ≡ true = among_joined (bare_in s.at) (written_in s) there.place w name there.is own in
        let once : is_among (bare_names s.at (written_in s)) name ≡ true = distinct_among [] (flat_map (bare_in s.at) (written_in s)) name all in
        among_numbered (all_operand_names s (written_in s)) name (among_behind (operand_names s) (bare_names s.at (written_in s)) name once)
    by false plain =
        among_numbered (all_operand_names s (written_in s)) name (among_front (operand_names s) (bare_names s.at (written_in s)) name (operand_among s table name (not_false (stands_as is_plain_operand (s.at Operands name)) plain))) where
          not_false : (b : Bool) → not b ≡ false → b ≡ true
          not_false true e = refl
          not_false false e = absurd (false≢true (sym e))

  -- a part of a format
  abbrev PartThere : Part → Type 0
  PartThere p = (at : ℕ) → no_part mm at p ≡ []

  part_there : (w : Written) → IsIn (written_in s) w → (k : ℕ) (p : WrittenPart) → slice_get w.parts k ≡ Some p → HasField s.at p.part → PartThere (part_in d p)
  part_there w there k p is fields at = by p.part refl fields where
    by : (q : NamedPart) → p.part ≡ q → HasField s.at q → no_part mm at (part_of d q) ≡ []
    by (part.Constant field value) own has =
        let plain : is_some (numbered (field_names s) field) ≡ true = among_numbered (field_names s) field (field_among s table field (taken_fits s.at place.Field field (has field value refl))) in
        number_there (length mm.fields) at (number_or_none d.numbers.fields field) (subst (λ n. IsBelow n (number_or_none d.numbers.fields field)) (fields_long s scope) (named_below (field_names s) field plain))
    by (part.Slot name) own has =
        let i : IsIn (filter_map slot_name w.parts) name = slot_placed w.parts k p name is (ap name_of_slot own) in
        number_there (length mm.operands) at (number_or_none d.operand_numbers name) (operand_below name (slot_known w there name i))

  own_parts : (w : Written) → IsIn (written_in s) w → (qs : List WrittenPart) → ((k : ℕ) (p : WrittenPart) → slice_get qs k ≡ Some p → IsIn w.parts p) → HaveFields s.at qs → AllHold PartThere (map (part_in d) qs)
  own_parts w there [] inside all = tt
  own_parts w there (q ∷ qs) inside all = (part_there w there (inside 0 q refl).place q (inside 0 q refl).is all.0, own_parts w there qs (λ k p is. inside (suc k) p is) all.1)

  -- operands of a syntax that stand behind the format
  behind_known : (w : Written) → AllHold (λ name. is_some (d.operand_numbers name) ≡ true) (behind_format d w)
  behind_known w =
      distinct_hold (λ name. is_some (d.operand_numbers name) ≡ true) [] (filter (is_behind d.operand_numbers d.operands (format_slots w)) (filter_map slot_of w.pieces))
      (filtered_hold (λ name. is_some (d.operand_numbers name) ≡ true) (is_behind d.operand_numbers d.operands (format_slots w)) (λ name behind. known name (second_true (not (is_among (format_slots w) name)) (has_no_field d.operand_numbers d.operands name) behind)) (filter_map slot_of w.pieces)) where
        known : (name : List ℕ) → has_no_field d.operand_numbers d.operands name ≡ true → is_some (d.operand_numbers name) ≡ true
        known name free = by (d.operand_numbers name) free where
          by : (o : Option ℕ) → (elim o [ None ↦ false | Some k ↦ not (e306.lies_in_fields (slice_get d.operands k)) ]) ≡ true → is_some o ≡ true
          by None e = absurd (false≢true e)
          by (Some k) e = refl

  names_there : (names : List (List ℕ)) → AllHold (λ name. is_some (d.operand_numbers name) ≡ true) names → AllHold PartThere (map (slot_part d) names)
  names_there [] all = tt
  names_there (n ∷ ns) all = ((λ at. number_there (length mm.operands) at (number_or_none d.operand_numbers n) (operand_below n all.0)), names_there ns all.1)

  all_parts : (at : ℕ) (ps : List Part) → AllHold PartThere ps → no_parts mm at ps ≡ []
  all_parts at [] all = refl
  all_parts at (p ∷ ps) all = none_joined (no_part mm at p) (no_parts mm (at + 1) ps) (all.0 at) (all_parts (at + 1) ps all.1)

  pub shape_there : (w : Written) → IsIn (written_in s) w → (form : InstructionForm) → of_shape mm (insn_by d scope w form).pieces (insn_by d scope w form).parts ≡ []
  shape_there w there form =
      let fields : HaveFields s.at w.parts = held (λ (v : Written). HaveFields s.at v.parts) (written_in s) w (all_fields s) there in
      let long : length (slot_operands (parts_of d w)) ≡ length (slot_names d w) = parts_long d (behind_format d w) w.parts in
      none_joined (no_slots (length (slot_operands (parts_of d w))) 0 (pieces_of (slot_names d w) w.pieces)) (no_parts mm 0 (parts_of d w))
      (slots_there (length (slot_operands (parts_of d w))) (slot_names d w) (sym long) 0 w.pieces)
      (all_parts 0 (parts_of d w) (all_append PartThere (map (part_in d) w.parts) (map (slot_part d) (behind_format d w)) (own_parts w there w.parts (λ k p is. record { place = k; is = is }) fields) (names_there (behind_format d w) (behind_known w))))
