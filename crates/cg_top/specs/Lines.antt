-- The lines of a text.
use Rattle.std.specs.Prelude.{ℕ, List, [], ◌∷◌, ◌++◌}
use Rattle.cg_model_source.specs.Lining.{parted_at}

-- What stands behind the last end of a line, where there is anything.
abbrev pub rest_of : List ℕ → List (List ℕ)
rest_of [] = []
rest_of (b ∷ bs) = (b ∷ bs) ∷ []

-- A part of a text is a line with its end where another part follows.
abbrev pub line_before : List ℕ → List (List ℕ) → List (List ℕ)
line_before part [] = rest_of part
line_before part (next ∷ parts) = (part ++ 10 ∷ []) ∷ []

abbrev pub lines_by : List (List ℕ) → List (List ℕ)
lines_by [] = []
lines_by (part ∷ parts) = line_before part parts ++ lines_by parts

-- The lines of a text, each with the byte 10 that ends it.
abbrev pub lines_of : List ℕ → List (List ℕ)
lines_of text = lines_by (parted_at 10 text)
