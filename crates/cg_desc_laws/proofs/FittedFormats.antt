-- The slots of an instruction of which nothing is said: each stands once in its format, and in its syntax.
use Rattle.std.proofs.Common.{◌≡◌, ◌∙◌, ℕ, suc, ◌+◌, Bool, true, false, not, ◌||◌, if◌then◌else◌, List, [], ◌∷◌, ◌++◌, filter, refl, sym, ap, subst}
use Rattle.std.specs.Prelude.{codes}
use Rattle.std.specs.List.{filter_map, flat_map, cons_option}
use Rattle.std.proofs.lemmas.Bool.{false≢true}
use Rattle.cg_attrs.specs.Clauses.{Clause, clauses, standing, stands_as}
use Rattle.cg_base.specs.Texts.{same_text, is_among}
use Rattle.cg_desc_laws_forms.proofs.Clauses.{Stands, equal_texts, first_true, not_true, standing_is}
use Rattle.cg_desc_laws_forms.proofs.Lists.{append_none, joined_none}
use Rattle.cg_desc_elements.specs.declared.element.Element.{Element}
use Rattle.cg_desc_elements.specs.declared.element.Element.TheVariants as element
use Rattle.cg_desc_elements.specs.declared.kind.Kind.TheVariants as kinds
use Rattle.cg_insn.specs.declared.form.InsnForm.TheVariants as insn
use Rattle.cg_insn.specs.declared.form.InstructionForm.{InstructionForm}
use Rattle.cg_model.specs.declared.machine.Machine.{Machine}
use Rattle.cg_rtl_resolve.specs.declared.scope.Scope.{Scope}
use Rattle.cg_desc_choices.specs.declared.written.NamedPart.{NamedPart}
use Rattle.cg_desc_choices.specs.declared.written.NamedPart.TheVariants as part
use Rattle.cg_desc_choices.specs.declared.written.Spot.{Spot}
use Rattle.cg_desc_choices.specs.declared.written.Written.{Written}
use Rattle.cg_desc_choices.specs.declared.written.WrittenPart.{WrittenPart}
use Rattle.cg_desc_scope.proofs.Among.{none_after}
use Rattle.cg_desc_scope.specs.Described.{Described}
use Rattle.cg_desc_scope.specs.Texts.{of_form}
use Rattle.cg_desc_insns.specs.Choices.{slot_name, name_of_slot, distinct}
use Rattle.cg_desc_fault_format.specs.E313.{slot_at, parts_behind, in_syntax, in_format, of_insn, in_clause}
use Rattle.cg_desc_laws.proofs.Insns.{Wants, wants}
use Rattle.cg_desc_laws.proofs.Members.{IsIn}
use Rattle.cg_desc_laws.proofs.Said.{none_placed}
use Rattle.cg_desc_references.specs.Clauses.{clauses_in}
use Rattle.cg_desc_fault_report.specs.Saying.{saying}
use Rattle.cg_desc_fault_report.specs.Spots.{at_spot}
use Rattle.cg_desc_machine.specs.Instructions.{slot_of, has_no_field, is_behind, format_slots, behind_format, slot_names}
use Rattle.cg_desc_laws.proofs.FittedBits.{of_one}
use Rattle.cg_desc_laws.proofs.FittedDistinct.{AreDistinct, NoneOf, distinct_append, once, was_among, was_kept, none_kept, among_both}
use Rattle.cg_desc_laws.proofs.FittedSilent.{Silent}

-- In a clause that stands in its form nothing is said of its slots.
module _ (d : Described) (scope : Scope) (m : Machine) (form : InstructionForm) (place : ℕ) (u : Silent d scope m place (element.Insn (insn.Instruction form))) where
  own : Wants u.own.top.form form
  own = wants d scope m form place u.own

  of_clause : (name : List ℕ) (x : Stands own.elements name) → of_insn d (of_form (place + 1) d.written) name ≡ []
  of_clause name x =
      let e : Element = element.Insn (insn.Instruction form) in
      let ws : List Written = of_form (place + 1) d.written in
      let c : Clause = record { name = name; content = x.content; elements = own.elements } in
      let all : flat_map (in_clause d e ws) (clauses own.elements) ≡ [] = sym (ap (λ o. flat_map (in_clause d e ws) (clauses_in kinds.Insn o)) own.is) ∙ u.slots in
      joined_none (in_clause d e ws) (standing own.elements) (stands_as name) x.element c own.elements all x.found (standing_is own.elements name x)

  -- of one instruction of the form
  module _ (w : Written) (i : IsIn d.written w) (same : w.form ≡ suc place) where
    pub syntax_silent : in_syntax d w ≡ []
    syntax_silent = of_one place (in_syntax d) d.written w (none_placed _ (of_clause (codes "syntax") own.syntax)) i same

    pub format_silent : in_format w ≡ []
    format_silent = of_one place in_format d.written w (none_placed _ (of_clause (codes "format") own.format)) i same

-- The slots of a format of which nothing is said.
neither : {A : Type 0} (a b : Bool) (x : A) → (if a || not b then x ∷ [] else []) ≡ [] → (a ≡ false) × (b ≡ true)
neither true b x h = absurd cc
neither false true x h = (refl, refl)
neither false false x h = absurd cc

module _ (own : List ℕ) (written : List (List ℕ)) where
  by_part : (spot : Spot) (q : NamedPart) (before : List (List ℕ)) (ps : List WrittenPart) → parts_behind own written before (record { part = q; spot = spot } ∷ ps) ≡ []
      → ((names : List (List ℕ)) → parts_behind own written names ps ≡ [] → AreDistinct names (filter_map slot_name ps)) → AreDistinct before (cons_option (name_of_slot q) (filter_map slot_name ps))
  by_part spot (part.Constant field value) before ps none rest = rest before none
  by_part spot (part.Slot name) before ps none rest =
      let both : (slot_at own written before spot name ≡ []) × (parts_behind own written (before ++ name ∷ []) ps ≡ []) = append_none (slot_at own written before spot name) (parts_behind own written (before ++ name ∷ []) ps) none in
      ((neither (is_among before name) (is_among written name) (at_spot spot (saying own name)) both.0).0, rest (before ++ name ∷ []) both.1)

  pub format_distinct : (ps : List WrittenPart) (before : List (List ℕ)) → parts_behind own written before ps ≡ [] → AreDistinct before (filter_map slot_name ps)
  format_distinct [] before none = tt
  format_distinct (p ∷ ps) before none = by_part p.spot p.part before ps none (λ names h. format_distinct ps names h)

  in_syntax_too : (ps : List WrittenPart) (before : List (List ℕ)) → parts_behind own written before ps ≡ [] → (x : List ℕ) → is_among (filter_map slot_name ps) x ≡ true → is_among written x ≡ true
  in_syntax_too [] before none x h = absurd (false≢true h)
  in_syntax_too (p ∷ ps) before none x h = by (λ names rest e. in_syntax_too ps names rest x e) p.part none h where
    here : ((names : List (List ℕ)) → parts_behind own written names ps ≡ [] → is_among (filter_map slot_name ps) x ≡ true → is_among written x ≡ true) → (name : List ℕ) → is_among written name ≡ true → parts_behind own written (before ++ name ∷ []) ps ≡ [] → (b : Bool) → same_text name x ≡ b → (b || is_among (filter_map slot_name ps) x) ≡ true → is_among written x ≡ true
    here more name there rest true same e = subst (λ n. is_among written n ≡ true) (equal_texts name x same) there
    here more name there rest false same e = more (before ++ name ∷ []) rest e

    by : ((names : List (List ℕ)) → parts_behind own written names ps ≡ [] → is_among (filter_map slot_name ps) x ≡ true → is_among written x ≡ true) → (q : NamedPart) → parts_behind own written before (record { part = q; spot = p.spot } ∷ ps) ≡ [] → is_among (cons_option (name_of_slot q) (filter_map slot_name ps)) x ≡ true → is_among written x ≡ true
    by more (part.Constant field value) rest e = more before rest e
    by more (part.Slot name) said e =
        let both : (slot_at own written before p.spot name ≡ []) × (parts_behind own written (before ++ name ∷ []) ps ≡ []) = append_none (slot_at own written before p.spot name) (parts_behind own written (before ++ name ∷ []) ps) said in
        here more name (neither (is_among before name) (is_among written name) (at_spot p.spot (saying own name)) both.0).1 both.1 (same_text name x) refl e

-- All slots: those of the format, and those behind it.
module _ (d : Described) (w : Written) (none : in_format w ≡ []) where
  abbrev passes_behind : List ℕ → Bool
  passes_behind name = is_behind d.operand_numbers d.operands (format_slots w) name

  abbrev candidates : List (List ℕ)
  candidates = filter passes_behind (filter_map slot_of w.pieces)

  apart : (x : List ℕ) → passes_behind x ≡ true → is_among (format_slots w) x ≡ false
  apart x h = not_true (is_among (format_slots w) x) (first_true (not (is_among (format_slots w) x)) (has_no_field d.operand_numbers d.operands x) h)

  pub slots_distinct : AreDistinct [] (slot_names d w)
  slots_distinct =
      let front : AreDistinct [] (format_slots w) = format_distinct w.name (filter_map slot_of w.pieces) w.parts [] none in
      let fresh : NoneOf (format_slots w) candidates = none_kept (format_slots w) passes_behind apart (filter_map slot_of w.pieces) in
      let behind : AreDistinct (format_slots w) (behind_format d w) = subst (λ xs. AreDistinct xs (distinct candidates)) (none_after (format_slots w)) (once (format_slots w) [] candidates fresh) in
      distinct_append [] (format_slots w) (behind_format d w) front behind

  -- each is one of the syntax
  pub slots_written : (x : List ℕ) → is_among (slot_names d w) x ≡ true → is_among (filter_map slot_of w.pieces) x ≡ true
  slots_written x h = at (is_among (format_slots w) x) refl (is_among (behind_format d w) x) refl (sym (among_both (format_slots w) (behind_format d w) x) ∙ h) where
    at : (a : Bool) → is_among (format_slots w) x ≡ a → (b : Bool) → is_among (behind_format d w) x ≡ b → (a || b) ≡ true → is_among (filter_map slot_of w.pieces) x ≡ true
    at true front b behind e = in_syntax_too w.name (filter_map slot_of w.pieces) w.parts [] none x front
    at false front true behind e = (was_kept passes_behind (filter_map slot_of w.pieces) x (was_among [] candidates x behind)).0
    at false front false behind e = absurd (false≢true e)
