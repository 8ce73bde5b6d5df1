-- All ways to choose for several anyof operands.
use Rattle.std.specs.Prelude.{ℕ, List, [], ◌∷◌, ◌++◌, map, take}
use Rattle.std.specs.List.{flat_map}
use Rattle.cg_desc_choices.specs.declared.written.Anyof.{Anyof}
use Rattle.cg_desc_choices.specs.declared.written.Choice.{Choice}
use Rattle.cg_desc_choices.specs.declared.written.Written.{Written}
use Rattle.cg_desc_choices.specs.Choices.{Chosen, with_choices}

-- What is chosen so far, and one choice more.
abbrev pub and_chosen : List ℕ → List Chosen → Choice → List Chosen
and_chosen operand way c = way ++ record { operand = operand; choice = c } ∷ []

-- What is chosen so far, with each choice of one operand more.
abbrev pub with_each : Anyof → List Chosen → List (List Chosen)
with_each a way = map (and_chosen a.operand way) a.choices

-- The ways to choose for the operands that are left, behind each way that is chosen so far.
abbrev pub ways_behind : List (List Chosen) → List Anyof → List (List Chosen)
ways_behind so_far [] = so_far
ways_behind so_far (a ∷ rest) = ways_behind (flat_map (with_each a) so_far) rest

-- All ways to choose, one choice for each operand: the first operand's choices vary slowest.
abbrev pub ways : List Anyof → List (List Chosen)
ways operands = ways_behind ([] ∷ []) operands

-- Of one form no more instructions are looked at than one over those that a machine may have.
abbrev pub most : ℕ
most = 4097

-- The instructions that one becomes, one for each way to choose for these operands of its format.
unfoldable pub each_choice : List Anyof → Written → List Written
each_choice operands w = map (λ cs. with_choices cs w) (take most (ways operands))
