-- Names of directives, and statements by their first word.
use Rattle.std.specs.Prelude.{ℕ, Bool, true, false, ◌||◌, ◌==◌, List, [], ◌∷◌, ◌++◌, length}
use Rattle.std.proofs.Common.{◌≡◌, refl, sym, ap, ◌∙◌}
use Rattle.std.proofs.lemmas.Bool.{both_ways}
use Rattle.cg_base.specs.Texts.{same_text, is_among}
use Rattle.cg_syntax_lines.specs.Parts.{data_directives, room_directives}
use Rattle.cg_model_source.specs.Lining.{Statement, directives, first_word, statement_in, with_name}

either_grouped : (a b c : Bool) → (a || (b || c)) ≡ ((a || b) || c)
either_grouped true b c = refl
either_grouped false b c = refl

among_both : (xs ys : List (List ℕ)) (name : List ℕ) → is_among (xs ++ ys) name ≡ (is_among xs name || is_among ys name)
among_both [] ys name = refl
among_both (x ∷ xs) ys name = ap (λ b. same_text x name || b) (among_both xs ys name) ∙ either_grouped (same_text x name) (is_among xs name) (is_among ys name)

pub of_data : (name : List ℕ) → is_among data_directives name ≡ true → true ≡ is_among directives name
of_data name e = sym (among_both data_directives room_directives name ∙ ap (λ b. b || is_among room_directives name) e)

pub of_room : (name : List ℕ) (room : Bool) → is_among data_directives name ≡ false → room ≡ is_among room_directives name → room ≡ is_among directives name
of_room name room e r = r ∙ sym (among_both data_directives room_directives name ∙ ap (λ b. b || is_among room_directives name) e)

pub ruleset naming = (of_data, of_room)

pub worded : (s : Statement) (text name : List ℕ) → (length text == 0) ≡ false → name ≡ first_word text → s ≡ with_name text name → s ≡ statement_in text
worded s [] name some n e = absurd (both_ways true some refl)
worded s (b ∷ bs) name some n e = e ∙ ap (with_name (b ∷ bs)) n
