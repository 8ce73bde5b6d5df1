-- The texts of a machine's fields, multi fields, hardware, instructions and macro instructions aren't too long.
use Rattle.std.proofs.Common.{◌≡◌, ◌∙◌, ℕ, suc, ◌+◌, ◌==◌, true, List, [], ◌∷◌, map, length, Option, Some, None, slice_get, refl, ap, subst, arith}
use Rattle.std.specs.List.{filter_map, cons_option}
use Rattle.std.specs.Option.{option_map}
use Rattle.std.proofs.lemmas.Bool.Decides.{nat_tests}
use Rattle.cg_base.specs.declared.form.Top.{Top}
use Rattle.cg_desc_laws_forms.proofs.Framing.{IsElement}
use Rattle.cg_desc_laws_forms.proofs.Hardware.{hardware_given}
use Rattle.cg_desc_laws_forms.proofs.Kept.{field_given, multi_given}
use Rattle.cg_desc_laws_forms.proofs.Members.{IsMember}
use Rattle.cg_desc_laws_forms.proofs.Lists.{the_found}
use Rattle.cg_desc_fault_count.specs.E308.{word_text, literals, insn_texts}
use Rattle.cg_desc_choices.specs.declared.written.Written.{Written}
use Rattle.cg_desc_choices.specs.declared.written.WrittenPiece.{WrittenPiece}
use Rattle.cg_desc_data.specs.Selecting.{Selection, takes_part_in, members}
use Rattle.cg_desc_data.specs.Selecting.{element_at as selected_at}
use Rattle.cg_base.specs.Parts.{◌>>=◌}
use Rattle.cg_desc_data.specs.Numbering.{field_in, multi_in, hardware_in}
use Rattle.cg_desc_data.specs.Hardware.{words, built_in}
use Rattle.cg_desc_scope.specs.Described.{described, written_in}
use Rattle.cg_desc_scope.specs.Texts.{is_of_form}
use Rattle.cg_desc_elements.specs.declared.element.Element.{Element}
use Rattle.cg_desc_elements.specs.declared.element.Element.TheVariants as element
use Rattle.cg_desc_elements.specs.Reading.{element_at, first_refusal}
use Rattle.cg_desc_insns.specs.Written.{all_pieces}
use Rattle.cg_desc_fault_least.specs.Least.{by_elements}
use Rattle.cg_hw.specs.declared.form.HardwareForm.{HardwareForm}
use Rattle.cg_ifield.specs.declared.form.FieldForm.TheVariants as field
use Rattle.cg_insn.specs.declared.form.InsnForm.TheVariants as insn
use Rattle.cg_insn.specs.declared.form.InstructionForm.{InstructionForm}
use Rattle.cg_insn.specs.declared.form.MacroForm.{MacroForm}
use Rattle.cg_insn.specs.declared.syntax.NamedPiece.{NamedPiece}
use Rattle.cg_insn.specs.declared.syntax.NamedPiece.TheVariants as named
use Rattle.cg_model.specs.Words.{named_values}
use Rattle.cg_model.specs.declared.field.Field.{Field}
use Rattle.cg_model.specs.declared.field.Multi.{Multi}
use Rattle.cg_model.specs.declared.hardware.Hardware.{Hardware}
use Rattle.cg_model.specs.declared.hardware.Keyword.{Keyword}
use Rattle.cg_model.specs.declared.hardware.NamedValue.{NamedValue}
use Rattle.cg_model.specs.declared.insn.Insn.{Insn}
use Rattle.cg_model.specs.declared.insn.MacroInsn.{MacroInsn}
use Rattle.cg_model.specs.declared.insn.Piece.{Piece}
use Rattle.cg_model.specs.declared.insn.Piece.TheVariants.{Slot}
use Rattle.cg_model.specs.declared.machine.Machine.{Machine}
use Rattle.cg_model_faults.specs.E308.{too_many, long_text, long_words, long_words_where, long_literals}
use Rattle.cg_rtl_resolve.specs.declared.scope.Scope.{Scope}
use Rattle.cg_desc_machine.specs.Rules.{ruled_field, ruled_multi, ruled_hardware, ruled_fields, ruled_multis, ruled_hardwares}
use Rattle.cg_desc_machine.specs.Instructions.{slot_number, piece_of, pieces_of, slot_names, insn_by, instruction_in, form_of, insn_of, insns_of}
use Rattle.cg_desc_machine.specs.Macros.{macro_in, macro_slots, target_of, macro_by, macro_of, macros_of}
use Rattle.cg_desc_laws.proofs.Members.{AllHold, all_append, IsIn, held}
use Rattle.cg_desc_laws.proofs.Origins.{FromForm, from_forms}
use Rattle.cg_desc_laws.proofs.CountedGiven.{all_given, all_gives, all_mapped, each_member, of_filtered}
use Rattle.cg_desc_laws.proofs.CountedOwn.{IsShort, Own, own}
use Rattle.cg_desc_laws.proofs.CountedWithin.{none_joined, HasFewWords, HasShortTexts}
use Rattle.cg_desc_laws.proofs.CountedWords.{few_words}

-- words, where there are any
short_words : (ws : List NamedValue) → AllHold IsShort (map word_text ws) → long_words ws ≡ []
short_words [] all = refl
short_words (w ∷ ws) all = none_joined (long_text w.word) (long_words ws) all.0 (short_words ws all.1)

words_where : (k : Option Keyword) → AllHold IsShort (map word_text (named_values k)) → long_words_where k ≡ []
words_where None all = refl
words_where (Some k) all = short_words k.words all

few_where : (h : Hardware) → too_many 1024 (length (named_values h.keyword)) ≡ [] → IsShort h.name → long_words_where h.keyword ≡ [] → HasFewWords h
few_where h few name short = record { count = same h.keyword few; name = name; words = short } where
  same : (k : Option Keyword) → too_many 1024 (length (named_values k)) ≡ [] → too_many 1024 (elim k [ None ↦ 0 | Some w ↦ length w.words ]) ≡ []
  same None few = few
  same (Some w) few = few

-- the literals of a syntax
one_literal : (slots : List (List ℕ)) (q : NamedPiece) (rest : List Piece) (others : List (List ℕ))
    → AllHold IsShort (cons_option (elim q [ named.Slot name ↦ None | named.Literal text ↦ Some text ]) others) → (AllHold IsShort others → long_literals rest ≡ []) → long_literals (cons_option (piece_of slots q) rest) ≡ []
one_literal slots (named.Literal text) rest others all h = none_joined (long_text text) (long_literals rest) all.0 (h all.1)
one_literal slots (named.Slot name) rest others all h = at (slot_number slots name) (h all) where
  at : (o : Option ℕ) → long_literals rest ≡ [] → long_literals (cons_option (option_map Slot o) rest) ≡ []
  at None none = none
  at (Some n) none = none

pub short_literals : (slots : List (List ℕ)) (ps : List WrittenPiece) → AllHold IsShort (literals ps) → long_literals (pieces_of slots ps) ≡ []
short_literals slots [] all = refl
short_literals slots (p ∷ ps) all = one_literal slots p.piece (pieces_of slots ps) (literals ps) all (λ rest. short_literals slots ps rest)

pub macro_given : (e : Element) (form : MacroForm) → macro_in e ≡ Some form → e ≡ element.Insn (insn.Macro form)
macro_given (element.Insn (insn.Macro other)) form is = ap (λ o. element.Insn (insn.Macro o)) (the_found other form is)
macro_given _ form is = absurd cc

module _ (s : Selection) (scope : Scope) (m : Machine) (tops : List Top) (alone : first_refusal tops ≡ None) (elements : s.elements ≡ filter_map element_at tops) (none : by_elements (described s) scope m tops ≡ None) where
  pub own_at : (e f : Element) → e ≡ f → (x : IsElement s.elements e) → takes_part_in s e ≡ true → Own (described s) scope m x.place f
  own_at e f same x part = subst (Own (described s) scope m x.place) same (own (described s) scope m tops alone elements none e x part)

  pub short_fields : AllHold (λ f. IsShort f.name) (ruled_fields (described s) scope)
  short_fields =
      all_mapped (λ (f : Field). IsShort f.name) (ruled_field (described s) scope) (members s field_in)
      (each_member s field_in (λ form. IsShort form.name) (λ e form x. (own_at e (element.Field (field.Plain form)) (field_given e form x.gives) x.there x.part).texts.0))

  pub short_multis : AllHold (λ f. IsShort f.name) (ruled_multis (described s) scope)
  short_multis =
      all_mapped (λ (f : Multi). IsShort f.name) (ruled_multi (described s) scope) (members s multi_in)
      (each_member s multi_in (λ form. IsShort form.name) (λ e form x. (own_at e (element.Field (field.Multi form)) (multi_given e form x.gives) x.there x.part).texts.0))

  one_hardware : (e : Element) (form : HardwareForm) → IsMember s hardware_in e form → HasFewWords (ruled_hardware (described s) scope form)
  one_hardware e form x =
      let o : Own (described s) scope m x.there.place (element.Hardware form) = own_at e (element.Hardware form) (hardware_given e form x.gives) x.there x.part in
      few_where (ruled_hardware (described s) scope form) (few_words (described s) scope m form x.there.place o) o.texts.0 (words_where (words s form) o.texts.1)

  built_in_few : AllHold HasFewWords (built_in (described s).framing)
  built_in_few = (
    record { count = refl; name = refl; words = refl },
    (
      record { count = refl; name = refl; words = refl },
      (
        record { count = refl; name = refl; words = refl },
        (record { count = refl; name = refl; words = refl }, (record { count = refl; name = refl; words = refl }, tt)),
      ),
    ),
  )

  pub few_hardware : AllHold HasFewWords (ruled_hardwares (described s) scope)
  few_hardware =
      all_append HasFewWords (built_in (described s).framing) (map (ruled_hardware (described s) scope) (members s hardware_in)) built_in_few
      (all_mapped HasFewWords (ruled_hardware (described s) scope) (members s hardware_in) (each_member s hardware_in (λ form. HasFewWords (ruled_hardware (described s) scope form)) one_hardware))

  -- Each instruction comes from a form that takes part.
  pub record OfForm (w : Written) : Type 0 where
    pub place : ℕ
    pub form : InstructionForm
    pub gives : form_of s w ≡ Some form
    pub own : Own (described s) scope m place (element.Insn (insn.Instruction form))
    pub test : is_of_form (place + 1) w ≡ true

  pub of_its_form : (w : Written) → IsIn (written_in s) w → OfForm w
  of_its_form w i =
      let o : FromForm s w = held (FromForm s) (written_in s) w (from_forms s) i in
      let number : w.form ≡ suc o.place = o.number in
      record {
        place = o.place;
        form = o.form;
        gives = at w.form o.place o.form o.number o.is;
        own = own_at (element.Insn (insn.Instruction o.form)) (element.Insn (insn.Instruction o.form)) refl (record { place = o.place; is = o.is }) o.part;
        test = same w.form o.place number;
      } where
        same : (n k : ℕ) → n ≡ suc k → (n == (k + 1)) ≡ true
        same n k e = grind (arith, nat_tests)

        at : (n k : ℕ) (form : InstructionForm) → n ≡ suc k → slice_get s.elements k ≡ Some (element.Insn (insn.Instruction form)) → (selected_at s.elements n >>= instruction_in) ≡ Some form
        at n k form e is = ap (λ x. selected_at s.elements x >>= instruction_in) e ∙ ap (λ x. x >>= instruction_in) is

  insn_short : (w : Written) → IsIn (written_in s) w → (i : Insn) → insn_of (described s) scope w ≡ Some i → HasShortTexts i.name (long_literals i.pieces)
  insn_short w here i is =
      let o : OfForm w = of_its_form w here in
      let texts : AllHold IsShort (insn_texts w) = of_filtered IsShort insn_texts (is_of_form (o.place + 1)) (written_in s) w o.own.texts here o.test in
      by (form_of s w) texts is where
        by : (f : Option InstructionForm) → AllHold IsShort (insn_texts w) → option_map (insn_by (described s) scope w) f ≡ Some i → HasShortTexts i.name (long_literals i.pieces)
        by None texts is = absurd cc
        by (Some f) texts is =
            subst (λ (x : Insn). HasShortTexts x.name (long_literals x.pieces)) (the_found (insn_by (described s) scope w f) i is)
            (record { name = texts.0; literals = short_literals (slot_names (described s) w) w.pieces texts.1 })

  pub short_insns : AllHold (λ i. HasShortTexts i.name (long_literals i.pieces)) (insns_of (described s) scope)
  short_insns = all_given (λ (i : Insn). HasShortTexts i.name (long_literals i.pieces)) (insn_of (described s) scope) (written_in s) insn_short

  macro_short : (e : Element) (form : MacroForm) → IsMember s macro_in e form → (x : MacroInsn) → macro_of (described s) form ≡ Some x → HasShortTexts x.name (long_literals x.pieces)
  macro_short e form member x is =
      let o : Own (described s) scope m member.there.place (element.Insn (insn.Macro form)) = own_at e (element.Insn (insn.Macro form)) (macro_given e form member.gives) member.there member.part in
      by (target_of (written_in s) form) o.texts is where
        slots : List (List ℕ)
        slots = macro_slots (described s).operand_numbers form

        by : (target : Option ℕ) → AllHold IsShort (form.name ∷ literals (all_pieces form.syntax)) → option_map (macro_by (described s) form slots) target ≡ Some x → HasShortTexts x.name (long_literals x.pieces)
        by None texts is = absurd cc
        by (Some k) texts is =
            subst (λ (y : MacroInsn). HasShortTexts y.name (long_literals y.pieces)) (the_found (macro_by (described s) form slots k) x is)
            (record { name = texts.0; literals = short_literals slots (all_pieces form.syntax) texts.1 })

  pub short_macros : AllHold (λ x. HasShortTexts x.name (long_literals x.pieces)) (macros_of (described s))
  short_macros =
      all_gives (λ (x : MacroInsn). HasShortTexts x.name (long_literals x.pieces)) (macro_of (described s)) (members s macro_in)
      (each_member s macro_in (λ form. (x : MacroInsn) → macro_of (described s) form ≡ Some x → HasShortTexts x.name (long_literals x.pieces)) macro_short)
