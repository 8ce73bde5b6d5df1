-- The forms that the result of an expansion stands for (docs/LANGUAGE.md, "Macros").
use Rattle.std.specs.Prelude.{ℕ, zero, suc, List, [], ◌∷◌, ◌++◌, drop, Option, None, unwrap_or, Ok, Err, codes, if◌then◌else◌}
use Rattle.cg_base.specs.declared.form.Form.{Form}
use Rattle.cg_base.specs.Texts.{is_named}
use Rattle.cg_pmacro_builtin.specs.Outcome.{Answer, onward, choose}
use Rattle.cg_pmacro_builtin.specs.Sizes.{lists}
use Rattle.cg_base.specs.Parts.{symbol_of, elements_of}

-- one answer after the other; a fault ends them
infixl 10 ◌>>=◌
abbrev ◌>>=◌ : {A B : Type 0} → Answer A → (A → Answer B) → Answer B
first >>= next = onward first next

abbrev pub first_name : List Form → Option (List ℕ)
first_name [] = None
first_name (f ∷ fs) = symbol_of f

-- the symbol that heads a list
abbrev pub form_head : Form → Option (List ℕ)
form_head f = choose (elements_of f) first_name None

-- the elements of a list behind its head
abbrev pub behind_head : Form → List Form
behind_head f = drop 1 (unwrap_or (elements_of f) [])

-- what the first stands for, and behind it what the rest stand for
abbrev pub split_each : (Form → Answer (List Form)) → List Form → Answer (List Form)
split_each within [] = Ok []
split_each within (f ∷ fs) = do
  parts ← within f
  rest ← split_each within fs
  Ok (parts ++ rest)

-- `(begin FORM ..)` stands for its elements. An expansion may make no `include` and no `define-pmacro`.
abbrev pub split_by : (Form → Answer (List Form)) → Form → Answer (List Form)
split_by within f =
    if is_named (codes "begin") (form_head f) then split_each within (behind_head f)
    else if is_named (codes "include") (form_head f) then Err (307, codes "include")
    else if is_named (codes "define-pmacro") (form_head f) then Err (307, codes "define-pmacro")
    else Ok (f ∷ [])

abbrev pub nothing : Form → Answer (List Form)
nothing f = Ok []

-- the same, so many lists inwards; in a form without lists there is nothing inwards
abbrev pub split_to : ℕ → Form → Answer (List Form)
split_to zero f = split_by nothing f
split_to (suc k) f = split_by (split_to k) f

-- The forms that a result stands for: its elements where it is headed by `begin`, and so on inwards.
abbrev pub split : Form → Answer (List Form)
split f = split_to (lists f) f
