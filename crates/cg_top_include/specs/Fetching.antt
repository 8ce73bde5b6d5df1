-- What reading a description gives, and what is asked of the files for it.
use Rattle.std.specs.Prelude.{◌≡◌, ℕ, List, [], ◌∷◌, ◌++◌, map, Option}
use Rattle.cg_io.specs.Asking.{Asking}
use Rattle.cg_io.specs.Held.{Held, appended, AppendsFront}
use Rattle.cg_top_include.specs.declared.gathering.Fetched.{Fetched}
use Rattle.cg_top_include.specs.declared.gathering.Fetched.TheVariants.{Read, Refused, Unread}
use Rattle.cg_top_include.specs.Gathering.{text_limit, no_sources, Opens}

-- The description's file is the first that is read, and its forms come in front of none.
abbrev pub IsFetched : List ℕ → Option Held → Type 0 → Fetched → Type 0
IsFetched desc held fault fetched = Opens held fault no_sources desc [] fetched

-- A file of the description can't be read though no fault came: it is lacking or too long.
abbrev pub IsUnreadable : List ℕ → Option Held → Type 0
IsUnreadable desc held = (name : List ℕ) × (names : List (List ℕ)) × IsFetched desc held ⊥ (Unread name names)

-- A description's file is asked for with the limit of all of them.
abbrev pub asking : List ℕ → Asking
asking name = (name, text_limit)

abbrev pub askings : List (List ℕ) → List Asking
askings names = map asking names

-- The files that such a reading asks for, in order. The one that can't be read is asked for too, and is the last.
abbrev pub files_asked : Fetched → List (List ℕ)
files_asked (Read forms names) = names
files_asked (Refused refusal names) = names
files_asked (Unread name names) = names ++ name ∷ []

-- Behind what was told before, these files were asked for.
abbrev pub HasAsked : Option (List Asking) → List (List ℕ) → Option (List Asking) → Type 0
HasAsked before names now = now ≡ appended before (askings names)

-- Some of the files that such a reading asks for were asked for, the first ones.
abbrev pub HasAskedFront : Option (List Asking) → Fetched → Option (List Asking) → Type 0
HasAskedFront before fetched now = AppendsFront before now (askings (files_asked fetched))

-- Where these files were asked for when a reading began, all of what it gives were when it ended.
abbrev pub AsksOn : List (List ℕ) → Option (List Asking) → Option (List Asking) → Fetched → Type 0
AsksOn names old new fetched = (before : Option (List Asking)) → HasAsked before names old → HasAsked before (files_asked fetched) new

-- And only the first ones of each reading of these, wherever it ended.
abbrev pub AsksFront : List (List ℕ) → Option (List Asking) → Option (List Asking) → (Fetched → Type 0) → Type 0
AsksFront names old new Comes =
    (before : Option (List Asking)) → HasAsked before names old → (fetched : Fetched) → Comes fetched → HasAskedFront before fetched new
