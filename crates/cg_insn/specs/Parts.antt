-- The parts of a format and of an encoding: `(+ part ..)`.
use Rattle.std.specs.Prelude.{Bool, false, ◌&&◌, ◌||◌, List, [], ◌∷◌, Option, is_some, codes}
use Rattle.std.specs.List.{list_all}
use Rattle.cg_base.specs.declared.form.Form.{Form}
use Rattle.cg_base.specs.Parts.{◌>>=◌, Headed, headed, headed_in, is_symbol, number_of, elements_of, only}
use Rattle.cg_base.specs.Texts.{same_text, passes}

-- A part is a symbol or `(field number)`.
abbrev pub is_constant_in : List Form → Bool
is_constant_in (field ∷ number ∷ []) = is_symbol field && is_some (number_of number)
is_constant_in _ = false

abbrev pub is_part : Form → Bool
is_part f = is_symbol f || passes is_constant_in (elements_of f)

abbrev pub are_parts : List Form → Bool
are_parts fs = list_all is_part fs

-- `+ part ..`
abbrev pub is_sum : Headed → Bool
is_sum x = same_text x.0 (codes "+") && are_parts x.1

-- the one form that stands there, where it is a list headed by a symbol
unfoldable pub only_headed : List Form → Option Headed
only_headed fs = only fs >>= headed

-- What stands behind `encoding`: `(+ part ..)`.
abbrev pub is_encoding : List Form → Bool
is_encoding fs = passes is_sum (only_headed fs)

-- What stands behind `format`: the same, also without its own list.
abbrev pub is_format : List Form → Bool
is_format fs = passes is_sum (headed_in fs) || is_encoding fs
