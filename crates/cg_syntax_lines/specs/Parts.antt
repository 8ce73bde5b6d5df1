-- Where a text is parted first, and directives of two kinds.
use Rattle.std.specs.Prelude.{ℕ, ◌+◌, ◌&&◌, ◌==◌, if◌then◌else◌, List, [], ◌∷◌, codes}

-- How many characters stand in front of the first `||`, or how many there are.
abbrev pub bars_at : List ℕ → ℕ
bars_at [] = 0
bars_at (b ∷ []) = 1
bars_at (b ∷ c ∷ cs) = if b == 124 && c == 124 then 0 else 1 + bars_at (c ∷ cs)

-- Directives that lay down what stands behind them, and those that lay down zeros or nothing.
abbrev pub data_directives : List (List ℕ)
data_directives = codes ".byte" ∷ codes ".half" ∷ codes ".word" ∷ codes ".ascii" ∷ []

abbrev pub room_directives : List (List ℕ)
room_directives = codes ".space" ∷ codes ".org" ∷ codes ".align" ∷ codes ".isa" ∷ []
