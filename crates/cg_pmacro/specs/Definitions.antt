-- The macro that a definition defines (docs/LANGUAGE.md, "Macros").
use Rattle.std.specs.Prelude.{ℕ, Bool, true, false, ◌&&◌, ◌||◌, List, [], ◌∷◌, drop, Option, Some, None, is_some, unwrap_or, Ok, Err, codes, if◌then◌else◌}
use Rattle.cg_pmacro_builtin.specs.declared.body.Body.{Body, out-Body}
use Rattle.cg_pmacro_builtin.specs.declared.body.Body.TheOpen as body
use Rattle.cg_pmacro_builtin.specs.declared.body.Body.TheOpen.{Body-F}
use Rattle.cg_pmacro_builtin.specs.declared.body.Macro.{Macro}
use Rattle.cg_pmacro_builtin.specs.Outcome.{Answer, choose}
use Rattle.cg_pmacro_builtin.specs.Shapes.{own_symbol, first_symbol, elements, is_list, names_of, macro_named, begins_with_dot}

abbrev pub string_layer : Body-F Body → Bool
string_layer (body.Str s) = true
string_layer _ = false

-- it is a string
abbrev pub is_string : Body → Bool
is_string b = string_layer (out-Body b)

-- A string between the list and the body is a note, without effect.
abbrev pub without_note : List Body → List Body
without_note (d ∷ named ∷ note ∷ b ∷ []) =
    if is_list named && is_string note then d ∷ named ∷ b ∷ [] else d ∷ named ∷ note ∷ b ∷ []
without_note bs = bs

-- the name in the second place: a symbol, or the first in a list
abbrev pub defined_name : Body → Option (List ℕ)
defined_name named = choose (elements named) first_symbol (own_symbol named)

-- the name of a definition, or `define-pmacro` where none stands in its place
abbrev pub name_or_word : Option (List ℕ) → List ℕ
name_or_word name = unwrap_or name (codes "define-pmacro")

-- the name that a definition of another shape has in its refusal
abbrev pub misdefined_name : List Body → List ℕ
misdefined_name (d ∷ named ∷ bs) = name_or_word (defined_name named)
misdefined_name _ = codes "define-pmacro"

-- `(NAME ARG ..)` defines a macro with arguments, also where the list has the name alone; `NAME` one without.
abbrev pub macro_of : List ℕ → Body → Body → Answer Macro
macro_of name named b =
    choose (elements named)
    (λ bs. choose (names_of (drop 1 bs)) (λ names. Ok (record { name = name; formals = Some names; body = b })) (Err (202, name)))
    (Ok (record { name = name; formals = None; body = b }))

-- No two macros have one name, and none has one that begins with a dot.
abbrev pub defined_as : List Macro → Body → Body → Answer Macro
defined_as macros named b =
    choose (defined_name named)
    (λ name. if is_some (macro_named macros name) || begins_with_dot name then Err (206, name) else macro_of name named b)
    (Err (202, codes "define-pmacro"))

-- `(define-pmacro NAMED BODY)`
abbrev pub defined : List Macro → List Body → Answer Macro
defined macros (d ∷ named ∷ b ∷ []) = defined_as macros named b
defined macros bs = Err (202, misdefined_name bs)

-- The macro of a definition. Its faults come in the order of its shape, its name and its formals.
abbrev pub definition : List Macro → List Body → Answer Macro
definition macros bs = defined macros (without_note bs)
