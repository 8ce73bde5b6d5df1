-- The slots of a syntax: where none stands twice by its name, none does by its number.
use Rattle.std.proofs.Common.{◌≡◌, ◌∙◌, ℕ, suc, ◌≤◌, Bool, true, false, ◌||◌, ◌==◌, if◌then◌else◌, List, [], ◌∷◌, ◌++◌, length, Option, Some, None, slice_get, refl, sym, ap, subst, arith}
use Rattle.std.specs.List.{filter_map, cons_option}
use Rattle.std.specs.Option.{option_map}
use Rattle.std.proofs.lemmas.Bool.{false≢true}
use Rattle.std.proofs.lemmas.Bool.Decides.{nat_tests}
use Rattle.cg_base.specs.Texts.{same_text, is_among}
use Rattle.cg_desc_laws_forms.proofs.Lists.{append_none, the_found}
use Rattle.cg_insn.specs.declared.syntax.NamedPiece.{NamedPiece}
use Rattle.cg_insn.specs.declared.syntax.NamedPiece.TheVariants as named
use Rattle.cg_model.specs.declared.insn.Piece.{Piece}
use Rattle.cg_model.specs.declared.insn.Piece.TheVariants.{Literal, Slot}
use Rattle.cg_model_faults.specs.E313.{is_slot, is_written, operand_said, twice_from, written_twice}
use Rattle.cg_model_faults.specs.Finding.{at_place}
use Rattle.cg_model_faults.specs.declared.fault.Said.TheVariants.{Own}
use Rattle.cg_desc_choices.specs.declared.written.WrittenPiece.{WrittenPiece}
use Rattle.cg_desc_scope.proofs.Among.{among_more}
use Rattle.cg_desc_fault_format.specs.E313.{piece_at, pieces_behind}
use Rattle.cg_desc_machine.specs.Instructions.{slot_number, piece_of, piece_in, pieces_of}
use Rattle.cg_desc_laws.proofs.FittedNames.{slot_there, is_own}

-- what isn't said doesn't hold
pub neither : {A : Type 0} (a b : Bool) (x : A) → (if a || b then x ∷ [] else []) ≡ [] → (a ≡ false) × (b ≡ false)
neither true b x h = absurd cc
neither false true x h = absurd cc
neither false false x h = (refl, refl)

pub never_so : {A : Type 0} (b : Bool) (x : A) → b ≡ false → (if b then x ∷ [] else []) ≡ []
never_so true x h = absurd (false≢true (sym h))
never_so false x h = refl

or_none : (b : Bool) → (b || false) ≡ b
or_none true = refl
or_none false = refl

or_behind : (a b c : Bool) → (a || (b || c)) ≡ ((a || b) || c)
or_behind true b c = refl
or_behind false b c = refl

-- one piece more
pub written_more : (k : ℕ) (ps : List Piece) (p : Piece) → is_written k (ps ++ p ∷ []) ≡ (is_written k ps || is_slot k p)
written_more k [] p = or_none (is_slot k p)
written_more k (q ∷ ps) p = ap (λ b. is_slot k q || b) (written_more k ps p) ∙ or_behind (is_slot k q) (is_written k ps) (is_slot k p)

more : (xs : List (List ℕ)) (x name : List ℕ) → is_among xs name ≡ true → is_among (xs ++ x ∷ []) name ≡ true
more xs x name h = among_more xs x name ∙ ap (λ b. b || same_text x name) h

last : (xs : List (List ℕ)) (name : List ℕ) → is_among (xs ++ name ∷ []) name ≡ true
last xs name = among_more xs name name ∙ ap (λ b. is_among xs name || b) (is_own name) ∙ either (is_among xs name) where
  either : (b : Bool) → (b || true) ≡ true
  either true = refl
  either false = refl

module _ (slots : List (List ℕ)) (few : length slots ≤ 256) where
  -- Whatever slot stands among pieces, its name stands among these.
  abbrev Covers : List (List ℕ) → List Piece → Type 0
  Covers names ps = (name : List ℕ) (k : ℕ) → slot_number slots name ≡ Some k → is_written k ps ≡ true → is_among names name ≡ true

  with_literal : (names : List (List ℕ)) (ps : List Piece) (text : List ℕ) → Covers names ps → Covers names (ps ++ Literal text ∷ [])
  with_literal names ps text h name k is written = h name k is (sym (or_none (is_written k ps)) ∙ sym (written_more k ps (Literal text)) ∙ written)

  with_name : (names : List (List ℕ)) (ps : List Piece) (x : List ℕ) → Covers names ps → Covers (names ++ x ∷ []) ps
  with_name names ps x h name k is written = more names x name (h name k is written)

  with_slot : (names : List (List ℕ)) (ps : List Piece) (x : List ℕ) (j : ℕ) → slot_number slots x ≡ Some j → Covers names ps → Covers (names ++ x ∷ []) (ps ++ Slot j ∷ [])
  with_slot names ps x j own h name k is written = at (is_written k ps) refl (j == k) refl (sym (written_more k ps (Slot j)) ∙ written) where
    at : (a : Bool) → is_written k ps ≡ a → (b : Bool) → (j == k) ≡ b → (a || b) ≡ true → is_among (names ++ x ∷ []) name ≡ true
    at true before b same e = more names x name (h name k is before)
    at false before true same e =
        let equal : j ≡ k = grind (arith, nat_tests) in
        let one : x ≡ name = the_found x name (sym (slot_there slots x j few own) ∙ ap (slice_get slots) equal ∙ slot_there slots name k few is) in
        subst (λ n. is_among (names ++ x ∷ []) n ≡ true) one (last names x)
    at false before false same e = absurd (false≢true e)

  pub none_twice : (fails : List ℕ → Bool) (own : List ℕ) (operands : List ℕ) (ps : List WrittenPiece) (place : ℕ) (names : List (List ℕ)) (before : List Piece) → Covers names before → pieces_behind fails own names ps ≡ []
      → twice_from operands place before (filter_map (piece_in slots) ps) ≡ []
  none_twice fails own operands [] place names before covers none = refl
  none_twice fails own operands (p ∷ ps) place names before covers none = by (λ n xs qs c e. none_twice fails own operands ps n xs qs c e) p.piece none where
    by_number : ((n : ℕ) (xs : List (List ℕ)) (qs : List Piece) → Covers xs qs → pieces_behind fails own xs ps ≡ [] → twice_from operands n qs (filter_map (piece_in slots) ps) ≡ []) → (name : List ℕ) (o : Option ℕ) → slot_number slots name ≡ o → is_among names name ≡ false → pieces_behind fails own (names ++ name ∷ []) ps ≡ []
        → twice_from operands place before (cons_option (option_map Slot o) (filter_map (piece_in slots) ps)) ≡ []
    by_number behind name None is new rest = behind place (names ++ name ∷ []) before (with_name names before name covers) rest
    by_number behind name (Some k) is new rest = at (is_written k before) refl where
      at : (b : Bool) → is_written k before ≡ b → twice_from operands place before (Slot k ∷ filter_map (piece_in slots) ps) ≡ []
      at true written = absurd (false≢true (sym new ∙ covers name k is written))
      at false written =
          ap (λ xs. xs ++ twice_from operands (suc place) (before ++ Slot k ∷ []) (filter_map (piece_in slots) ps)) (never_so (is_written k before) (at_place 313 place Own (operand_said (slice_get operands k))) written)
          ∙ behind (suc place) (names ++ name ∷ []) (before ++ Slot k ∷ []) (with_slot names before name k is covers) rest

    by : ((n : ℕ) (xs : List (List ℕ)) (qs : List Piece) → Covers xs qs → pieces_behind fails own xs ps ≡ [] → twice_from operands n qs (filter_map (piece_in slots) ps) ≡ []) → (q : NamedPiece) → pieces_behind fails own names (record { piece = q; spot = p.spot } ∷ ps) ≡ [] → twice_from operands place before (cons_option (piece_of slots q) (filter_map (piece_in slots) ps)) ≡ []
    by behind (named.Literal text) rest = behind (suc place) names (before ++ Literal text ∷ []) (with_literal names before text covers) rest
    by behind (named.Slot name) said =
        let both : (piece_at fails own names p name ≡ []) × (pieces_behind fails own (names ++ name ∷ []) ps ≡ []) = append_none (piece_at fails own names p name) (pieces_behind fails own (names ++ name ∷ []) ps) said in
        by_number behind name (slot_number slots name) refl (neither (is_among names name) (fails name) _ both.0).0 both.1

  pub not_twice : (fails : List ℕ → Bool) (own : List ℕ) (operands : List ℕ) (ps : List WrittenPiece) → pieces_behind fails own [] ps ≡ [] → written_twice operands (pieces_of slots ps) ≡ []
  not_twice fails own operands ps none = none_twice fails own operands ps 0 [] [] (λ name k is written. absurd (false≢true written)) none
