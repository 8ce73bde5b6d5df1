-- Texts of which each is kept once, one by one.
use Rattle.std.specs.Prelude.{◌≡◌, ℕ, if◌then◌else◌, List, [], ◌∷◌, ◌++◌, Option, is_some}
use Rattle.cg_base.specs.Texts.{is_among}

-- A text behind others, where it isn't one of them.
unfoldable pub with_once : List (List ℕ) → List ℕ → List (List ℕ)
with_once list text = if is_among list text then list else list ++ text ∷ []

-- what is held are the texts of a list
unfoldable pub Knows : {A : Type 0} → List (List ℕ) → (List ℕ → Option A) → Type 0
Knows list held = (name : List ℕ) → is_some (held name) ≡ is_among list name
