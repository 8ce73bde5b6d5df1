-- What macro instructions name is there.
use Rattle.std.proofs.Common.{◌≡◌, ◌∙◌, ℕ, suc, ◌+◌, ◌≤◌, min, Bool, true, false, if◌then◌else◌, List, [], ◌∷◌, map, length, ℤ, pos, Option, Some, None, is_some, slice_get, refl, sym, ap, subst, arith}
use Rattle.std.specs.List.{filter_map, cons_option}
use Rattle.std.specs.Option.{option_map, option_or, unwrap_or}
use Rattle.std.proofs.lemmas.Bool.{false≢true}
use Rattle.cg_base.specs.declared.form.Form.{Form, out-Form}
use Rattle.cg_base.specs.declared.form.Form.TheOpen.{Number, Symbol}
use Rattle.cg_base.specs.declared.form.Top.{Top}
use Rattle.cg_base.specs.Parts.{Layer}
use Rattle.cg_base.specs.Texts.{same_text}
use Rattle.cg_desc_choices.specs.declared.written.Written.{Written}
use Rattle.cg_desc_laws_forms.proofs.Lists.{the_found}
use Rattle.cg_desc_data.specs.Selecting.{Selection, members}
use Rattle.cg_desc_data.specs.Numbering.{short}
use Rattle.cg_desc_scope.specs.Described.{Described, described, written_in}
use Rattle.cg_desc_elements.specs.Reading.{element_at, first_refusal}
use Rattle.cg_desc_insns.specs.Written.{all_pieces}
use Rattle.cg_desc_fault_least.specs.Least.{by_elements}
use Rattle.cg_insn.specs.declared.form.MacroForm.{MacroForm}
use Rattle.cg_desc_names.specs.Table.{table_of}
use Rattle.cg_model.specs.declared.insn.Given.{Given}
use Rattle.cg_model.specs.declared.insn.Given.TheVariants as given
use Rattle.cg_model.specs.declared.insn.MacroInsn.{MacroInsn}
use Rattle.cg_model.specs.declared.machine.Machine.{Machine}
use Rattle.cg_model_faults.specs.E306.{beyond, beyond_from, no_slots, no_given, no_givens, of_macro}
use Rattle.cg_rtl_resolve.specs.declared.scope.Scope.{Scope}
use Rattle.cg_desc_machine.specs.Instructions.{number_or_none, slot_names, slot_of, slot_number, pieces_of, insn_by, insn_of}
use Rattle.cg_desc_machine.specs.Machines.{machine_of}
use Rattle.cg_desc_machine.specs.Macros.{macro_in, known_operand, macro_slots, items_of, written_name, emitted_name, target_of, keyword_of, given_as, given_by, given_in, given_or_zero, givens, macro_by, macro_of}
use Rattle.cg_desc_laws.proofs.CountedElements.{OfForm, of_its_form}
use Rattle.cg_desc_laws.proofs.CountedFew.{mapped_long}
use Rattle.cg_desc_laws.proofs.CountedGiven.{all_given, all_mapped}
use Rattle.cg_desc_laws.proofs.CountedGroups.{all_so}
use Rattle.cg_desc_laws.proofs.CountedWithin.{none_joined}
use Rattle.cg_desc_laws.proofs.Members.{AllHold, all_map, IsIn}
use Rattle.cg_desc_laws.proofs.NumberedBelow.{IsBelow, there as number_there, all_there, place_below}
use Rattle.cg_desc_laws.proofs.NumberedInstructions.{distinct_hold, operand_below}
use Rattle.cg_desc_laws.proofs.NumberedSlots.{slot_below, slots_there}

-- where each gives something, as many are given
made_long : {A B : Type 0} (f : A → Option B) (xs : List A) → ((x : A) → IsIn xs x → is_some (f x) ≡ true) → length (filter_map f xs) ≡ length xs
made_long f [] h = refl
made_long {A} {B} f (x ∷ xs) h = by (f x) (h x (record { place = 0; is = refl })) (made_long f xs (λ y i. h y (record { place = suc i.place; is = i.is }))) where
  by : (o : Option B) → is_some o ≡ true → length (filter_map f xs) ≡ length xs → length (cons_option o (filter_map f xs)) ≡ suc (length xs)
  by None e rest = absurd (false≢true e)
  by (Some y) e rest = ap suc rest

-- What an operand is given is a number, or a slot that is there.
abbrev GivenThere : ℕ → Given → Type 0
GivenThere count g = (at : ℕ) → no_given count at g ≡ []

all_givens : (count at : ℕ) (gs : List Given) → AllHold (GivenThere count) gs → no_givens count at gs ≡ []
all_givens count at [] all = refl
all_givens count at (g ∷ gs) all = none_joined (no_given count at g) (no_givens count (at + 1) gs) (all.0 at) (all_givens count (at + 1) gs all.1)

abbrev zero_given : Given
zero_given = given.Number (pos 0)

module _ (d : Described) (slots : List (List ℕ)) (count : ℕ) (same : length slots ≡ count) where
  slot_given : (name : List ℕ) (other : Option Given) → GivenThere count (unwrap_or other zero_given) → GivenThere count (unwrap_or (option_or (option_map given.Slot (slot_number slots name)) other) zero_given)
  slot_given name other rest = by (slot_number slots name) refl where
    by : (o : Option ℕ) → slot_number slots name ≡ o → GivenThere count (unwrap_or (option_or (option_map given.Slot o) other) zero_given)
    by None is = rest
    by (Some k) is = λ at. number_there count at k (subst (λ n. IsBelow n k) same (slot_below slots name k is))

  only_slot : (name : List ℕ) → GivenThere count (unwrap_or (option_map given.Slot (slot_number slots name)) zero_given)
  only_slot name = by (slot_number slots name) refl where
    by : (o : Option ℕ) → slot_number slots name ≡ o → GivenThere count (unwrap_or (option_map given.Slot o) zero_given)
    by None is = λ at. refl
    by (Some k) is = λ at. number_there count at k (subst (λ n. IsBelow n k) same (slot_below slots name k is))

  number_given : (o : Option ℤ) → GivenThere count (unwrap_or (option_map given.Number o) zero_given)
  number_given None = λ at. refl
  number_given (Some n) = λ at. refl

  as_given : (operand : List ℕ) (layer : Layer) → GivenThere count (unwrap_or (given_as d slots operand layer) zero_given)
  as_given operand (Number n) = λ at. refl
  as_given operand (Symbol word) = slot_given word (option_map given.Number (keyword_of d operand word)) (number_given (keyword_of d operand word))
  as_given operand _ = λ at. refl

  by_given : (operand : List ℕ) (o : Option Form) → GivenThere count (unwrap_or (given_by d slots operand o) zero_given)
  by_given operand None = only_slot operand
  by_given operand (Some f) = as_given operand (out-Form f)

  in_given : (operand : List ℕ) (xs : List (List ℕ × Option Form)) → GivenThere count (unwrap_or (given_in d slots xs operand) zero_given)
  in_given operand [] = λ at. refl
  in_given operand (x ∷ xs) = by (same_text x.0 operand) (in_given operand xs) where
    by : (b : Bool) → GivenThere count (unwrap_or (given_in d slots xs operand) zero_given) → GivenThere count (unwrap_or (if b then given_by d slots operand x.1 else given_in d slots xs operand) zero_given)
    by true rest = by_given operand x.1
    by false rest = rest

  all_given_there : (form : MacroForm) (o : Option Written) → AllHold (GivenThere count) (givens d slots form o)
  all_given_there form None = tt
  all_given_there form (Some w) = all_map (GivenThere count) (given_or_zero d slots (items_of form)) (λ operand. in_given operand (items_of form)) (slot_names d w)

module _ (s : Selection) (scope : Scope) (m : Machine) (tops : List Top) (alone : first_refusal tops ≡ None) (elements : s.elements ≡ filter_map element_at tops) (none : by_elements (described s) scope m tops ≡ None) (table : s.at ≡ table_of s.machine s.isa s.elements) where
  abbrev d' : Described
  d' = described s

  abbrev mm : Machine
  mm = machine_of d' scope

  insn_made : (w : Written) → IsIn (written_in s) w → is_some (insn_of d' scope w) ≡ true
  insn_made w there =
      let o : OfForm s scope m tops alone elements none w = of_its_form s scope m tops alone elements none w there in
      ap (λ f. is_some (option_map (insn_by d' scope w) f)) o.gives

  insns_long : length mm.insns ≡ length (written_in s)
  insns_long = made_long (insn_of d' scope) (written_in s) insn_made

  slots_known : (form : MacroForm) → AllHold (λ name. is_some (d'.operand_numbers name) ≡ true) (macro_slots d'.operand_numbers form)
  slots_known form =
      distinct_hold (λ name. is_some (d'.operand_numbers name) ≡ true) [] (filter_map (known_operand d'.operand_numbers) (filter_map slot_of (all_pieces form.syntax)))
      (all_given (λ name. is_some (d'.operand_numbers name) ≡ true) (known_operand d'.operand_numbers) (filter_map slot_of (all_pieces form.syntax)) (λ name i own is. by name own (d'.operand_numbers name) refl is)) where
        by : (name own : List ℕ) (o : Option ℕ) → d'.operand_numbers name ≡ o → option_map (λ (k : ℕ). name) o ≡ Some own → is_some (d'.operand_numbers own) ≡ true
        by name own None number is = absurd cc
        by name own (Some k) number is = ap (λ n. is_some (d'.operand_numbers n)) (sym (the_found name own is)) ∙ ap is_some number

  one_there : (form : MacroForm) (k : ℕ) → target_of (written_in s) form ≡ Some k → of_macro mm (macro_by d' form (macro_slots d'.operand_numbers form) k) ≡ []
  one_there form k target =
      let slots : List (List ℕ) = macro_slots d'.operand_numbers form in
      let count : ℕ = length (map (number_or_none d'.operand_numbers) slots) in
      let same : length slots ≡ count = sym (mapped_long (number_or_none d'.operand_numbers) slots) in
      let a : no_slots count 0 (pieces_of slots (all_pieces form.syntax)) ≡ [] = slots_there count slots same 0 (all_pieces form.syntax) in
      let b : beyond_from (length mm.operands) 0 (map (number_or_none d'.operand_numbers) slots) ≡ [] =
      all_there (length mm.operands) 0 (map (number_or_none d'.operand_numbers) slots)
      (all_mapped (IsBelow (length mm.operands)) (number_or_none d'.operand_numbers) slots
      (all_so (λ name. is_some (d'.operand_numbers name) ≡ true) (λ name. IsBelow (length mm.operands) (number_or_none d'.operand_numbers name)) (λ name some. operand_below s scope table name some) slots (slots_known form))) in
      let below : IsBelow (length mm.insns) (short k) = in_short k (length mm.insns) (subst (λ n. IsBelow n k) (mapped_long written_name (written_in s) ∙ sym insns_long) (place_below (emitted_name form) (map written_name (written_in s)) k target)) in
      let c : beyond (length mm.insns) 0 (short k) ≡ [] = number_there (length mm.insns) 0 (short k) below in
      let e : no_givens count 0 (givens d' slots form (slice_get d'.written k)) ≡ [] = all_givens count 0 (givens d' slots form (slice_get d'.written k)) (all_given_there d' slots count same form (slice_get d'.written k)) in
      none_joined _ _ (none_joined _ _ (none_joined _ _ a b) c) e where
        in_short : (n count : ℕ) → IsBelow count n → IsBelow count (short n)
        in_short n count below = let least : min n 65535 ≤ n = fewer n 65535 in omega (arith, below, least) where
          fewer : (n most : ℕ) → min n most ≤ n
          fewer n most = omega arith

  pub macros_there : AllHold (λ x. of_macro mm x ≡ []) mm.macros
  macros_there = all_given (λ (x : MacroInsn). of_macro mm x ≡ []) (macro_of d') (members s macro_in) (λ form i x is. by form x (target_of (written_in s) form) refl is) where
    by : (form : MacroForm) (x : MacroInsn) (o : Option ℕ) → target_of (written_in s) form ≡ o → option_map (macro_by d' form (macro_slots d'.operand_numbers form)) o ≡ Some x → of_macro mm x ≡ []
    by form x None target is = absurd cc
    by form x (Some k) target is = subst (λ (y : MacroInsn). of_macro mm y ≡ []) (the_found (macro_by d' form (macro_slots d'.operand_numbers form) k) x is) (one_there form k target)
