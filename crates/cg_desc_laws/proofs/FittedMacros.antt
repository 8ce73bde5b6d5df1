-- A macro instruction of which nothing is said: its slots stand once in its syntax, and what it emits is given all that it needs.
use Rattle.std.proofs.Common.{◌≡◌, ◌∙◌, ◌⊎◌, inl, inr, ℕ, ◌+◌, ◌≤◌, Bool, true, false, not, ◌&&◌, List, [], map, length, Some, slice_get, refl, sym, ap, arith}
use Rattle.std.specs.Prelude.{codes}
use Rattle.std.specs.List.{filter_map, flat_map}
use Rattle.std.specs.Option.{option_map}
use Rattle.std.proofs.lemmas.Bool.{false≢true}
use Rattle.cg_attrs.specs.Clauses.{Clause, clauses, standing, stands_as}
use Rattle.cg_base.specs.Texts.{is_among}
use Rattle.cg_desc_laws_forms.proofs.Clauses.{standing_is}
use Rattle.cg_desc_laws_forms.proofs.Lists.{append_none, joined_none}
use Rattle.cg_desc_elements.specs.declared.element.Element.TheVariants as element
use Rattle.cg_desc_elements.specs.declared.kind.Kind.TheVariants as kinds
use Rattle.cg_insn.specs.declared.form.InsnForm.TheVariants as insn
use Rattle.cg_insn.specs.declared.form.MacroForm.{MacroForm}
use Rattle.cg_model.specs.declared.machine.Machine.{Machine}
use Rattle.cg_model_faults.specs.E313.{written_twice, ungiven, is_given, unused}
use Rattle.cg_rtl_resolve.specs.declared.scope.Scope.{Scope}
use Rattle.cg_rtl_resolve.specs.Names.{place_of}
use Rattle.cg_desc_choices.specs.declared.written.Written.{Written}
use Rattle.cg_desc_scope.specs.Described.{Described}
use Rattle.cg_desc_scope.specs.Texts.{of_form}
use Rattle.cg_desc_insns.specs.Written.{all_pieces}
use Rattle.cg_desc_fault_format.specs.E313.{is_used, has_number, is_unused, used_by, in_macro_syntax, not_given, known_items, items_behind, in_emit, slots_at, emitted_slots, of_macro, macro_clause, in_clause}
use Rattle.cg_desc_laws.proofs.Said.{none_placed}
use Rattle.cg_desc_references.specs.Clauses.{clauses_in}
use Rattle.cg_desc_machine.specs.Instructions.{slot_of, slot_names, number_or_none, pieces_of}
use Rattle.cg_desc_machine.specs.Macros.{macro_slots, items_of, target_of, given_or_zero, givens}
use Rattle.cg_desc_laws.proofs.FittedDistinct.{AreDistinct, place_at, member}
use Rattle.cg_desc_laws.proofs.FittedEmitted.{none_ungiven, none_unused, none_fails, gives_on, is_given_on}
use Rattle.cg_desc_laws.proofs.FittedMacroForms.{MacroWants, macro_wants}
use Rattle.cg_desc_laws.proofs.FittedSilent.{Silent}
use Rattle.cg_desc_laws.proofs.FittedSlots.{not_twice}

used_so : (a b : Bool) → (a && not b) ≡ false → a ≡ true → b ≡ true
used_so a true h there = refl
used_so true false h there = absurd (false≢true (sym h))
used_so false false h there = absurd (false≢true there)

module _ (d : Described) (scope : Scope) (m : Machine) (form : MacroForm) (place : ℕ) (u : Silent d scope m place (element.Insn (insn.Macro form))) (target : ℕ) (aimed : target_of d.written form ≡ Some target) (w : Written) (there : slice_get d.written target ≡ Some w) where
  own : MacroWants u.own.top.form form
  own = macro_wants d scope m form place u.own

  abbrev slots : List (List ℕ)
  slots = macro_slots d.operand_numbers form

  abbrev wanted : List (List ℕ)
  wanted = slot_names d w

  -- in a clause that stands in its form
  of_name : (c : Clause) → in_clause d (element.Insn (insn.Macro form)) (of_form (place + 1) d.written) c ≡ [] → of_macro d form slots wanted c.name ≡ []
  of_name c said =
      let all : emitted_slots d form ≡ Some wanted = ap (slots_at d) aimed ∙ ap (option_map (slot_names d)) there in
      sym (ap (λ o. macro_clause d form o c.name) all) ∙ said

  all_silent : flat_map (in_clause d (element.Insn (insn.Macro form)) (of_form (place + 1) d.written)) (clauses own.elements) ≡ []
  all_silent = sym (ap (λ o. flat_map (in_clause d (element.Insn (insn.Macro form)) (of_form (place + 1) d.written)) (clauses_in kinds.Macro o)) own.is) ∙ u.slots

  syntax_silent : in_macro_syntax d form slots ≡ []
  syntax_silent =
      let c : Clause = record { name = codes "syntax"; content = own.syntax.content; elements = own.elements } in
      let said = joined_none (in_clause d (element.Insn (insn.Macro form)) (of_form (place + 1) d.written)) (standing own.elements) (stands_as (codes "syntax")) own.syntax.element c own.elements all_silent own.syntax.found (standing_is own.elements (codes "syntax") own.syntax) in
      none_placed (in_macro_syntax d form slots) (of_name c said)

  emit_silent : in_emit d form slots wanted ≡ []
  emit_silent =
      let c : Clause = record { name = own.emits.word; content = own.emits.content; elements = own.elements } in
      let said = joined_none (in_clause d (element.Insn (insn.Macro form)) (of_form (place + 1) d.written)) (standing own.elements) own.emits.test own.emits.what c own.elements all_silent own.emits.found own.emits.is in
      by own.emits.named (of_name c said) where
        by : (own.emits.word ≡ codes "expansions") ⊎ (own.emits.word ≡ codes "expansion") → of_macro d form slots wanted own.emits.word ≡ [] → in_emit d form slots wanted ≡ []
        by (inl is) none = sym (ap (of_macro d form slots wanted) is) ∙ none
        by (inr is) none = sym (ap (of_macro d form slots wanted) is) ∙ none

  pub macro_once : (operands : List ℕ) → length slots ≤ 256 → written_twice operands (pieces_of slots (all_pieces form.syntax)) ≡ []
  macro_once operands few = not_twice slots few (is_unused slots (used_by d form slots)) form.name operands (all_pieces form.syntax) syntax_silent

  -- what it gives
  gives : givens d slots form (slice_get d.written target) ≡ map (given_or_zero d slots (items_of form)) wanted
  gives = ap (givens d slots form) there

  pub macro_gives : ungiven (givens d slots form (slice_get d.written target)) (map (number_or_none d.operand_numbers) wanted) ≡ []
  macro_gives = ap (λ gs. ungiven gs (map (number_or_none d.operand_numbers) wanted)) gives ∙ none_ungiven (given_or_zero d slots (items_of form)) (number_or_none d.operand_numbers) wanted

  -- and to what it gives each of its slots
  module _ (distinct : AreDistinct [] slots) (written : (x : List ℕ) → is_among slots x ≡ true → is_among (filter_map slot_of (all_pieces form.syntax)) x ≡ true) where
    slot_used : (k : ℕ) (x : List ℕ) → slice_get slots k ≡ Some x → has_number (used_by d form slots) k ≡ true
    slot_used k x is =
        let one : is_among slots x ≡ true = member slots k x is in
        let used : is_unused slots (used_by d form slots) x ≡ false = none_fails (is_unused slots (used_by d form slots)) form.name (all_pieces form.syntax) [] syntax_silent x (written x one) in
        sym (ap (is_used (used_by d form slots)) (place_at [] slots k x distinct is)) ∙ used_so (is_among slots x) (is_used (used_by d form slots) (place_of x slots)) used one

    pub macro_used : unused (givens d slots form (slice_get d.written target)) (map (number_or_none d.operand_numbers) slots) ≡ []
    macro_used =
        let items : items_behind form.name slots wanted [] (known_items d form) ≡ [] = (append_none (flat_map (not_given form.name (known_items d form)) wanted) (items_behind form.name slots wanted [] (known_items d form)) emit_silent).1 in
        ap (λ gs. unused gs (map (number_or_none d.operand_numbers) slots)) gives
        ∙ none_unused (map (given_or_zero d slots (items_of form)) wanted) (number_or_none d.operand_numbers) slots 0 (λ k x is.
        ap (λ n. is_given n (map (given_or_zero d slots (items_of form)) wanted)) (plain k)
        ∙ is_given_on d form.name slots wanted k (items_of form) (gives_on d form.name slots wanted k (items_of form) [] items (slot_used k x is))) where
          plain : (k : ℕ) → k + 0 ≡ k
          plain k = omega arith
