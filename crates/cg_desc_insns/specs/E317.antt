-- E317: the form with which the instructions are over 4,096, after anyof operands are replaced by their choices.
use Rattle.std.specs.Prelude.{ℕ, ◌==◌, if◌then◌else◌, List, [], ◌∷◌, Option, codes}
use Rattle.std.specs.List.{slice_get}
use Rattle.std.specs.Option.{option_map}
use Rattle.cg_base.specs.Texts.{passes}
use Rattle.cg_desc_choices.specs.declared.written.Written.{Written}

abbrev pub form_of : Written → ℕ
form_of w = w.form

-- The form that gives the 4,097th of all instructions.
unfoldable pub form_over : List Written → Option ℕ
form_over ws = option_map form_of (slice_get ws 4096)

-- Its text at the form of this number.
abbrev pub e317 : List Written → ℕ → List (List ℕ)
e317 ws form = if passes (λ n. n == form) (form_over ws) then codes "4096" ∷ [] else []
