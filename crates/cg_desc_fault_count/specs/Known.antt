-- Which texts stand before, and how many of some are new.
use Rattle.std.specs.Prelude.{◌≡◌, ℕ, ◌+◌, Bool, false, ◌||◌, is_some, if◌then◌else◌, List, [], ◌∷◌}
use Rattle.indexmap.specs.IndexMap.{get}
use Rattle.cg_base.specs.Texts.{same_text}
use Rattle.cg_desc_fault_count.specs.declared.known.Known as declared

-- What stands before.
abbrev pub Standing : Type 0
Standing = List ℕ → Bool

abbrev pub nothing : Standing
nothing = λ name. false

abbrev pub with_one : Standing → List ℕ → Standing
with_one before x = λ name. before name || same_text x name

abbrev pub with_all : Standing → List (List ℕ) → Standing
with_all before [] = before
with_all before (x ∷ xs) = with_all (with_one before x) xs

-- A text that doesn't stand before is one more.
abbrev pub new_one : Standing → List ℕ → ℕ
new_one before x = if before x then 0 else 1

-- How many of these don't stand before, each counted once.
abbrev pub count_new : Standing → List (List ℕ) → ℕ
count_new before [] = 0
count_new before (x ∷ xs) = new_one before x + count_new (with_one before x) xs

-- What stands before, text by text: nothing; and one more.
unfoldable pub IsNothing : Standing → Type 0
IsNothing now = (name : List ℕ) → now name ≡ nothing name

unfoldable pub IsWithOne : Standing → List ℕ → Standing → Type 0
IsWithOne before x now = (name : List ℕ) → now name ≡ with_one before x name

-- what the code keeps
abbrev pub seen_known : declared.Known → Standing
seen_known k = λ name. is_some (get same_text k.texts name)
