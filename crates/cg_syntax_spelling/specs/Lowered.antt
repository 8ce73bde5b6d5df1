-- Words in small letters.
use Rattle.std.specs.Prelude.{◌≡◌, ℕ, List, [], ◌∷◌, map}
use Rattle.cg_base.specs.Texts.{same_text}
use Rattle.cg_model_source.specs.Spelling.{is_keyword}
use Rattle.cg_model.specs.Words.{lower}
use Rattle.indexmap.specs.IndexSet.{insert_key}

-- All letters are small ones.
abbrev pub AreLowered : List (List ℕ) → Type 0
AreLowered [] = Unit {0}
AreLowered (w ∷ ws) = (map lower w ≡ w) × AreLowered ws

-- The same texts are keywords.
abbrev pub SameKeywords : List (List ℕ) → List (List ℕ) → Type 0
SameKeywords v w = (text : List ℕ) → is_keyword v text ≡ is_keyword w text

-- Words put to others in small letters, each once.
abbrev pub put_word : List (List ℕ) → List ℕ → List (List ℕ)
put_word words w = insert_key same_text words (map lower w)

abbrev pub put_words : List (List ℕ) → List (List ℕ) → List (List ℕ)
put_words words [] = words
put_words words (w ∷ ws) = put_words (put_word words w) ws
