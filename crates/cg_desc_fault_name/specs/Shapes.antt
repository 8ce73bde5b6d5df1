-- E304 of expressions in which choices were put: a name that is put in where a function has its mode is read as that mode, and where an
-- arm may have `else` as that word. So a shape may become wrong that was right as it was written, and what was an arm be left out as a
-- function.
use Rattle.std.specs.Prelude.{ℕ, if◌then◌else◌, List, [], ◌∷◌, ◌++◌, Option, Some, None, codes}
use Rattle.std.specs.List.{flat_map}
use Rattle.std.specs.Option.{option_or}
use Rattle.cg_base.specs.declared.form.Form.{Form}
use Rattle.cg_base.specs.Refusing.{first}
use Rattle.cg_base.specs.Texts.{same_text}
use Rattle.cg_rtl.specs.Shapes.{wrong_in, left_out_in}
use Rattle.cg_desc_choices.specs.declared.written.Written.{Written}
use Rattle.cg_desc_fault_report.specs.declared.saying.Placed.{Placed}
use Rattle.cg_desc_fault_report.specs.Saying.{only_text, placed}
use Rattle.cg_desc_fault_name.specs.Words.{of_literals}

-- The first wrong shape is said where the expression begins, and else the first function that is left out.
abbrev pub said_first : Option (List ℕ) → List Placed
said_first None = []
said_first (Some head) = placed [] (only_text head) ∷ []

abbrev pub wrong_shape : Form → List Placed
wrong_shape f = said_first (option_or (first (wrong_in f)) (first (left_out_in f)))

abbrev pub wrong_where : Option Form → List Placed
wrong_where None = []
wrong_where (Some f) = wrong_shape f

-- Of an instruction's own assertion, and of what it does. What a choice asserts stands as it is written.
abbrev pub wrong_assertion : Written → List Placed
wrong_assertion w = wrong_where w.assertion

abbrev pub wrong_semantics : Written → List Placed
wrong_semantics w = wrong_shape w.semantics

abbrev pub of_shapes : List Written → List ℕ → List Placed
of_shapes ws name =
    if same_text (codes "ifield-assertion") name then flat_map wrong_assertion ws
    else if same_text (codes "semantics") name then flat_map wrong_semantics ws
    else []

-- What is wrong with the instructions of a form once choices are put in.
unfoldable pub of_choices : List Written → List ℕ → List Placed
of_choices ws name = of_literals ws name ++ of_shapes ws name
