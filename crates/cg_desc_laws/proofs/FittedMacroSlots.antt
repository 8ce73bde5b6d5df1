-- The slots of a macro instruction: each is an operand of the machine, and one of its syntax.
use Rattle.std.proofs.Common.{◌≡◌, ℕ, ◌≤◌, Bool, true, false, ◌||◌, List, [], ◌∷◌, length, Option, Some, None, refl, ap, subst}
use Rattle.std.specs.List.{filter_map, cons_option}
use Rattle.std.specs.Option.{option_map}
use Rattle.std.proofs.lemmas.Bool.{false≢true}
use Rattle.cg_base.specs.Texts.{same_text, is_among}
use Rattle.cg_desc_laws_forms.proofs.Clauses.{equal_texts}
use Rattle.cg_insn.specs.declared.form.MacroForm.{MacroForm}
use Rattle.cg_rtl_resolve.specs.Names.{place_of}
use Rattle.cg_desc_data.specs.Numbering.{short, numbered}
use Rattle.cg_desc_insns.specs.Written.{all_pieces}
use Rattle.cg_desc_machine.specs.Instructions.{slot_of}
use Rattle.cg_desc_machine.specs.Macros.{known_operand, macro_slots}
use Rattle.cg_desc_laws.proofs.FittedDistinct.{AreDistinct, NoneOf, once, was_among}
use Rattle.cg_desc_laws.proofs.FittedMatched.{AreKnown, or_true}
use Rattle.cg_desc_laws.proofs.FittedNames.{numbered_at, among_place}

module _ (names : List (List ℕ)) where
  -- what is kept of a syntax's names is an operand
  known_there : (xs : List (List ℕ)) (x : List ℕ) → is_among (filter_map (known_operand (numbered names)) xs) x ≡ true → (is_among xs x ≡ true) × (is_among names x ≡ true)
  known_there [] x h = absurd (false≢true h)
  known_there (y ∷ ys) x h = at (λ e. known_there ys x e) (place_of y names) refl h where
    further : (is_among ys x ≡ true) × (is_among names x ≡ true) → ((same_text y x || is_among ys x) ≡ true) × (is_among names x ≡ true)
    further r = (or_true (same_text y x) (is_among ys x) r.0, r.1)

    by : (is_among (filter_map (known_operand (numbered names)) ys) x ≡ true → (is_among ys x ≡ true) × (is_among names x ≡ true)) → is_among names y ≡ true → (b : Bool) → same_text y x ≡ b → (b || is_among (filter_map (known_operand (numbered names)) ys) x) ≡ true
        → ((same_text y x || is_among ys x) ≡ true) × (is_among names x ≡ true)
    by rest known true same e = (ap (λ b. b || is_among ys x) same, subst (λ n. is_among names n ≡ true) (equal_texts y x same) known)
    by rest known false same e = further (rest e)

    at : (is_among (filter_map (known_operand (numbered names)) ys) x ≡ true → (is_among ys x ≡ true) × (is_among names x ≡ true)) → (o : Option ℕ) → place_of y names ≡ o
        → is_among (cons_option (option_map (λ k. y) (option_map short o)) (filter_map (known_operand (numbered names)) ys)) x ≡ true → ((same_text y x || is_among ys x) ≡ true) × (is_among names x ≡ true)
    at rest None is e = further (rest e)
    at rest (Some k) is e = by rest (among_place names y k is) (same_text y x) refl e

  no_front : (xs : List (List ℕ)) → NoneOf [] xs
  no_front [] = tt
  no_front (x ∷ xs) = (refl, no_front xs)

  pub macro_distinct : (form : MacroForm) → AreDistinct [] (macro_slots (numbered names) form)
  macro_distinct form = once [] [] (filter_map (known_operand (numbered names)) (filter_map slot_of (all_pieces form.syntax))) (no_front (filter_map (known_operand (numbered names)) (filter_map slot_of (all_pieces form.syntax))))

  pub macro_known : (form : MacroForm) → length names ≤ 65536 → AreKnown (numbered names) names (macro_slots (numbered names) form)
  macro_known form few x h =
      numbered_at names x few (known_there (filter_map slot_of (all_pieces form.syntax)) x (was_among [] (filter_map (known_operand (numbered names)) (filter_map slot_of (all_pieces form.syntax))) x h)).1

  pub macro_written : (form : MacroForm) (x : List ℕ) → is_among (macro_slots (numbered names) form) x ≡ true → is_among (filter_map slot_of (all_pieces form.syntax)) x ≡ true
  macro_written form x h = (known_there (filter_map slot_of (all_pieces form.syntax)) x (was_among [] (filter_map (known_operand (numbered names)) (filter_map slot_of (all_pieces form.syntax))) x h)).0
