-- The literals of an instruction are literals of a machine, where no kind is said to be wrong in its form.
use Rattle.std.proofs.Common.{◌≡◌, ◌∙◌, ℕ, ◌+◌, Bool, true, false, ◌&&◌, List, [], ◌∷◌, Option, Some, None, refl, sym, ap, arith}
use Rattle.std.specs.Prelude.{codes}
use Rattle.std.specs.List.{list_all, filter_map, cons_option, flat_map}
use Rattle.std.specs.Option.{option_map}
use Rattle.std.proofs.lemmas.Bool.Decides.{nat_tests}
use Rattle.cg_attrs.specs.Clauses.{Clause, clauses, standing, stands_as}
use Rattle.cg_desc_laws_forms.proofs.Clauses.{Stands, standing_is}
use Rattle.cg_desc_laws_forms.proofs.Lists.{append_none, joined_none}
use Rattle.cg_desc_elements.specs.declared.element.Element.{Element}
use Rattle.cg_desc_elements.specs.declared.element.Element.TheVariants as element
use Rattle.cg_desc_elements.specs.declared.kind.Kind.TheVariants as kinds
use Rattle.cg_insn.specs.declared.form.InsnForm.TheVariants as insn
use Rattle.cg_insn.specs.declared.form.InstructionForm.{InstructionForm}
use Rattle.cg_insn.specs.declared.syntax.NamedPiece.{NamedPiece}
use Rattle.cg_insn.specs.declared.syntax.NamedPiece.TheVariants as named
use Rattle.cg_model.specs.Formed.{is_piece}
use Rattle.cg_model.specs.declared.insn.Piece.{Piece}
use Rattle.cg_model.specs.declared.insn.Piece.TheVariants.{Literal, Slot}
use Rattle.cg_model.specs.declared.machine.Machine.{Machine}
use Rattle.cg_rtl_resolve.specs.declared.scope.Scope.{Scope}
use Rattle.cg_desc_choices.specs.declared.written.Written.{Written}
use Rattle.cg_desc_choices.specs.declared.written.WrittenPiece.{WrittenPiece}
use Rattle.cg_desc_scope.specs.Described.{Described}
use Rattle.cg_desc_scope.specs.Texts.{is_of_form, of_form}
use Rattle.cg_desc_fault_name.specs.E304 as e304
use Rattle.cg_desc_fault_name.specs.Words.{wrong_literal, wrong_piece, wrong_literals, of_literals}
use Rattle.cg_desc_fault_name.specs.Shapes.{of_choices}
use Rattle.cg_desc_references.specs.Clauses.{clauses_in}
use Rattle.cg_desc_machine.specs.Instructions.{slot_number, piece_of, piece_in, pieces_of}
use Rattle.cg_desc_laws.proofs.Insns.{Wants, wants}
use Rattle.cg_desc_laws.proofs.Members.{IsIn, filtered_none}
use Rattle.cg_desc_fault_report.specs.Saying.{only_text}
use Rattle.cg_desc_fault_report.specs.Spots.{at_spot}
use Rattle.cg_desc_laws.proofs.Unwrong.{none_of_kinds, unsaid_holds}
use Rattle.cg_desc_laws.proofs.Unsaid.{Unsaid}

-- In a clause that stands in the form of an instruction nothing is wrong with its instructions.
module _ (d : Described) (scope : Scope) (m : Machine) (form : InstructionForm) (place : ℕ) (u : Unsaid d scope m place (element.Insn (insn.Instruction form))) where
  abbrev e : Element
  e = element.Insn (insn.Instruction form)

  pub own : Wants u.top.form form
  own = wants d scope m form place u

  pub none_of_choices : (name : List ℕ) (x : Stands own.elements name) → of_choices (of_form (place + 1) d.written) name ≡ []
  none_of_choices name x =
      let ws : List Written = of_form (place + 1) d.written in
      let c : Clause = record { name = name; content = x.content; elements = own.elements } in
      let all : flat_map (e304.in_clause d scope m (place + 1) ws e) (clauses own.elements) ≡ [] =
      sym (ap (λ o. flat_map (e304.in_clause d scope m (place + 1) ws e) (clauses_in kinds.Insn o)) own.is) ∙ u.kinds in
      let said : e304.in_clause d scope m (place + 1) ws e c ≡ [] = joined_none (e304.in_clause d scope m (place + 1) ws e) (standing own.elements) (stands_as name) x.element c own.elements all x.found (standing_is own.elements name x) in
      (none_of_kinds d scope m (place + 1) ws e c said).1

  -- of one instruction of the form
  pub none_of_literals : (w : Written) → IsIn d.written w → w.form ≡ (place + 1) → wrong_literals w ≡ []
  unfolding of_choices
  none_of_literals w i same =
      let none : of_literals (of_form (place + 1) d.written) (codes "syntax") ≡ [] = (append_none (of_literals (of_form (place + 1) d.written) (codes "syntax")) _ (none_of_choices (codes "syntax") own.syntax)).0 in
      let test : is_of_form (place + 1) w ≡ true = grind (arith, nat_tests) in
      filtered_none wrong_literals (is_of_form (place + 1)) d.written w none i test

-- what isn't wrong is a literal
one_piece : (slots : List (List ℕ)) (p : WrittenPiece) (rest : List Piece) → wrong_piece p ≡ [] → list_all is_piece rest ≡ true → list_all is_piece (cons_option (piece_in slots p) rest) ≡ true
one_piece slots p rest h g = by p.piece refl where
  joined : (a b : Bool) → a ≡ true → b ≡ true → (a && b) ≡ true
  joined true b e f = f
  joined false b e f = e

  kept : (o : Option ℕ) → list_all is_piece (cons_option (option_map Slot o) rest) ≡ true
  kept None = g
  kept (Some n) = g

  by : (q : NamedPiece) → p.piece ≡ q → list_all is_piece (cons_option (piece_in slots p) rest) ≡ true
  by (named.Literal text) is =
      let none : wrong_literal p.spot text ≡ [] = sym (ap (λ q. elim q [ named.Slot name ↦ [] | named.Literal t ↦ wrong_literal p.spot t ]) is) ∙ h in
      ap (λ q. list_all is_piece (cons_option (piece_of slots q) rest)) is ∙ joined (is_piece (Literal text)) (list_all is_piece rest) (unsaid_holds (is_piece (Literal text)) (at_spot p.spot (only_text (codes "syntax"))) none) g
  by (named.Slot name) is = ap (λ q. list_all is_piece (cons_option (piece_of slots q) rest)) is ∙ kept (slot_number slots name)

all_pieces : (slots : List (List ℕ)) (ps : List WrittenPiece) → flat_map wrong_piece ps ≡ [] → list_all is_piece (filter_map (piece_in slots) ps) ≡ true
all_pieces slots [] h = refl
all_pieces slots (p ∷ ps) h =
    let both : (wrong_piece p ≡ []) × (flat_map wrong_piece ps ≡ []) = append_none (wrong_piece p) (flat_map wrong_piece ps) h in
    one_piece slots p (filter_map (piece_in slots) ps) both.0 (all_pieces slots ps both.1)

pub pieces_formed : (slots : List (List ℕ)) (w : Written) → wrong_literals w ≡ [] → list_all is_piece (pieces_of slots w.pieces) ≡ true
pieces_formed slots w h = all_pieces slots w.pieces h
