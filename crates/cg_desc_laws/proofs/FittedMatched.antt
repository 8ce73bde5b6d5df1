-- The operands of slots: where each stands in the syntax by its name, it does by its number, and none stands twice.
use Rattle.std.proofs.Common.{◌≡◌, ◌∙◌, ℕ, suc, ◌+◌, ◌≤◌, min, Bool, true, false, not, ◌||◌, ◌==◌, List, [], ◌∷◌, ◌++◌, map, length, Option, Some, None, slice_get, refl, sym, ap, subst, arith}
use Rattle.std.specs.List.{filter_map, cons_option}
use Rattle.std.specs.Option.{option_map, unwrap_or}
use Rattle.std.proofs.lemmas.Bool.{false≢true}
use Rattle.std.proofs.lemmas.Bool.Decides.{nat_tests}
use Rattle.cg_base.specs.Texts.{same_text, is_among}
use Rattle.cg_desc_laws_forms.proofs.Clauses.{equal_texts}
use Rattle.cg_insn.specs.declared.syntax.NamedPiece.{NamedPiece}
use Rattle.cg_insn.specs.declared.syntax.NamedPiece.TheVariants as named
use Rattle.cg_model.specs.declared.insn.Piece.{Piece}
use Rattle.cg_model.specs.declared.insn.Piece.TheVariants.{Slot}
use Rattle.cg_model_faults.specs.declared.fault.Said.TheVariants.{Own, Operand}
use Rattle.cg_model_faults.specs.E313.{is_written, unmatched_from, unmatched}
use Rattle.cg_model_faults.specs.Finding.{at_place, stands_in}
use Rattle.cg_desc_choices.specs.declared.written.WrittenPiece.{WrittenPiece}
use Rattle.cg_desc_data.specs.Numbering.{Numbering}
use Rattle.cg_desc_scope.proofs.Among.{among_more}
use Rattle.cg_desc_machine.specs.Instructions.{slot_of, slot_number, piece_of, piece_in, pieces_of, number_or_none}
use Rattle.cg_desc_laws.proofs.FittedDistinct.{AreDistinct, place_at, member}
use Rattle.cg_desc_laws.proofs.FittedNames.{HasNumber, same_name, within, is_own}
use Rattle.cg_desc_laws.proofs.FittedSlots.{never_so}

-- what is written by its name is written by its number
pub or_true : (a b : Bool) → b ≡ true → (a || b) ≡ true
or_true true b e = refl
or_true false b e = e

equal_numbers : (k : ℕ) → (k == k) ≡ true
equal_numbers k = grind (arith, nat_tests)

module _ (slots : List (List ℕ)) (name : List ℕ) (k : ℕ) (is : slot_number slots name ≡ Some k) where
  pub written_by : (ps : List WrittenPiece) → is_among (filter_map slot_of ps) name ≡ true → is_written k (pieces_of slots ps) ≡ true
  written_by [] h = absurd (false≢true h)
  written_by (p ∷ ps) h = by (λ e. written_by ps e) p.piece h where
    behind : (is_among (filter_map slot_of ps) name ≡ true → is_written k (filter_map (piece_in slots) ps) ≡ true) → (o : Option ℕ) → is_among (filter_map slot_of ps) name ≡ true → is_written k (cons_option (option_map Slot o) (filter_map (piece_in slots) ps)) ≡ true
    behind rest None e = rest e
    behind rest (Some j) e = or_true (j == k) (is_written k (filter_map (piece_in slots) ps)) (rest e)

    here : (is_among (filter_map slot_of ps) name ≡ true → is_written k (filter_map (piece_in slots) ps) ≡ true) → (other : List ℕ) → (b : Bool) → same_text other name ≡ b → (b || is_among (filter_map slot_of ps) name) ≡ true → is_written k (cons_option (option_map Slot (slot_number slots other)) (filter_map (piece_in slots) ps)) ≡ true
    here rest other true same e =
        let own : slot_number slots other ≡ Some k = ap (slot_number slots) (equal_texts other name same) ∙ is in
        ap (λ o. is_written k (cons_option (option_map Slot o) (filter_map (piece_in slots) ps))) own ∙ ap (λ b. b || is_written k (filter_map (piece_in slots) ps)) (equal_numbers k)
    here rest other false same e = behind rest (slot_number slots other) e

    by : (is_among (filter_map slot_of ps) name ≡ true → is_written k (filter_map (piece_in slots) ps) ≡ true) → (q : NamedPiece) → is_among (cons_option (elim q [ named.Literal text ↦ None | named.Slot n ↦ Some n ]) (filter_map slot_of ps)) name ≡ true → is_written k (cons_option (piece_of slots q) (filter_map (piece_in slots) ps)) ≡ true
    by rest (named.Literal text) e = rest e
    by rest (named.Slot other) e = here rest other (same_text other name) refl e

map_last : {A B : Type 0} (f : A → B) (xs : List A) (x : A) → map f (xs ++ x ∷ []) ≡ map f xs ++ f x ∷ []
map_last f [] x = refl
map_last f (y ∷ xs) x = ap (λ zs. f y ∷ zs) (map_last f xs x)

-- Operands of names that have numbers of their own.
module _ (numbers : Numbering) (names : List (List ℕ)) where
  abbrev pub AreKnown : List (List ℕ) → Type 0
  AreKnown xs = (x : List ℕ) → is_among xs x ≡ true → HasNumber numbers names x

  own_number : (x : List ℕ) (h : HasNumber numbers names x) → number_or_none numbers x ≡ h.number
  own_number x h = ap (λ o. unwrap_or o 0) h.is

  known_rest : (x : List ℕ) (xs : List (List ℕ)) → AreKnown (x ∷ xs) → AreKnown xs
  known_rest x xs h y e = h y (or_true (same_text x y) (is_among xs y) e)

  known_first : (x : List ℕ) (xs : List (List ℕ)) → AreKnown (x ∷ xs) → HasNumber numbers names x
  known_first x xs h = h x (ap (λ b. b || is_among xs x) (is_own x))

  known_more : (xs : List (List ℕ)) (x : List ℕ) → AreKnown xs → HasNumber numbers names x → AreKnown (xs ++ x ∷ [])
  known_more xs x h own y e = at (is_among xs y) refl (same_text x y) refl (sym (among_more xs x y) ∙ e) where
    at : (a : Bool) → is_among xs y ≡ a → (b : Bool) → same_text x y ≡ b → (a || b) ≡ true → HasNumber numbers names y
    at true before b same f = h y before
    at false before true same f = subst (HasNumber numbers names) (equal_texts x y same) own
    at false before false same f = absurd (false≢true f)

  -- one number stands among others only where its name does
  by_number : (x : List ℕ) → HasNumber numbers names x → (xs : List (List ℕ)) → AreKnown xs → stands_in (map (number_or_none numbers) xs) (number_or_none numbers x) ≡ true → is_among xs x ≡ true
  by_number x own [] h e = absurd (false≢true e)
  by_number x own (y ∷ ys) h e = at (λ f. by_number x own ys (known_rest y ys h) f) (number_or_none numbers y == number_or_none numbers x) refl e where
    at : (stands_in (map (number_or_none numbers) ys) (number_or_none numbers x) ≡ true → is_among ys x ≡ true) → (b : Bool) → (number_or_none numbers y == number_or_none numbers x) ≡ b → (b || stands_in (map (number_or_none numbers) ys) (number_or_none numbers x)) ≡ true → (same_text y x || is_among ys x) ≡ true
    at rest true same f =
        let other : HasNumber numbers names y = known_first y ys h in
        let equal : number_or_none numbers y ≡ number_or_none numbers x = grind (arith, nat_tests) in
        let one : y ≡ x = same_name numbers names y x other own (sym (own_number y other) ∙ equal ∙ own_number x own) in
        ap (λ b. b || is_among ys x) (ap (same_text y) (sym one) ∙ is_own y)
    at rest false same f = or_true (same_text y x) (is_among ys x) (rest f)

  module _ (pieces : List Piece) where
    pub none_unmatched : (rest done : List (List ℕ)) (place : ℕ) → AreKnown done → AreKnown rest → AreDistinct done rest → ((k : ℕ) (x : List ℕ) → slice_get rest k ≡ Some x → is_written (k + place) pieces ≡ true)
        → unmatched_from pieces place (map (number_or_none numbers) done) (map (number_or_none numbers) rest) ≡ []
    none_unmatched [] done place before known distinct written = refl
    none_unmatched (x ∷ xs) done place before known distinct written =
        let own : HasNumber numbers names x = known_first x xs known in
        let plain : 0 + place ≡ place = omega arith in
        let here : is_written place pieces ≡ true = ap (λ n. is_written n pieces) (sym plain) ∙ written 0 x refl in
        let new : stands_in (map (number_or_none numbers) done) (number_or_none numbers x) ≡ false = fresh (stands_in (map (number_or_none numbers) done) (number_or_none numbers x)) (by_number x own done before) distinct.0 in
        let none : (stands_in (map (number_or_none numbers) done) (number_or_none numbers x) || not (is_written place pieces)) ≡ false = ap (λ b. b || not (is_written place pieces)) new ∙ ap not here in
        let rest : unmatched_from pieces (suc place) (map (number_or_none numbers) (done ++ x ∷ [])) (map (number_or_none numbers) xs) ≡ [] =
        none_unmatched xs (done ++ x ∷ []) (suc place) (known_more done x before own) (known_rest x xs known) distinct.1 (λ k y is. ap (λ n. is_written n pieces) (moved k place) ∙ written (suc k) y is) in
        ap (λ ys. ys ++ unmatched_from pieces (suc place) (map (number_or_none numbers) done ++ number_or_none numbers x ∷ []) (map (number_or_none numbers) xs)) (never_so _ (at_place 313 place Own (Operand (number_or_none numbers x))) none)
        ∙ ap (λ ks. unmatched_from pieces (suc place) ks (map (number_or_none numbers) xs)) (sym (map_last (number_or_none numbers) done x)) ∙ rest where
          moved : (k place : ℕ) → k + suc place ≡ suc k + place
          moved k place = omega arith

          fresh : (b : Bool) → (b ≡ true → is_among done x ≡ true) → is_among done x ≡ false → b ≡ false
          fresh true h e = sym (h refl) ∙ e
          fresh false h e = refl

  -- of the slots of a syntax
  pub all_matched : (slots : List (List ℕ)) (ps : List WrittenPiece) → length slots ≤ 256 → AreKnown slots → AreDistinct [] slots → ((x : List ℕ) → is_among slots x ≡ true → is_among (filter_map slot_of ps) x ≡ true)
      → unmatched (pieces_of slots ps) (map (number_or_none numbers) slots) ≡ []
  all_matched slots ps few known distinct written =
      none_unmatched (pieces_of slots ps) slots [] 0 (λ x e. absurd (false≢true e)) known distinct (λ k x is. at k x is) where
        cut : (k : ℕ) (x : List ℕ) → slice_get slots k ≡ Some x → slot_number slots x ≡ Some k
        cut k x is =
            let below = within slots k x is in
            let same : min k 255 ≡ k = omega (arith, below, few) in
            ap (option_map (λ n. min n 255)) (place_at [] slots k x distinct is) ∙ ap Some same

        plain : (k : ℕ) → k + 0 ≡ k
        plain k = omega arith

        at : (k : ℕ) (x : List ℕ) → slice_get slots k ≡ Some x → is_written (k + 0) (pieces_of slots ps) ≡ true
        at k x is = ap (λ n. is_written n (pieces_of slots ps)) (plain k) ∙ written_by slots x k (cut k x is) ps (written x (member slots k x is))
