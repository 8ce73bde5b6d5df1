-- Laws of the definitions: what a call leaves, and which forms don't change.
use Rattle.std.specs.Prelude.{◌≡◌, ℕ, suc, ◌+◌, Bool, false, ◌||◌, ℤ, List, [], ◌∷◌, None, is_some, Ok}
use Rattle.cg_base.specs.declared.form.Form.{Form}
use Rattle.cg_base.specs.declared.form.Form.TheVariants as form
use Rattle.cg_pmacro_builtin.specs.declared.body.Body.{Body}
use Rattle.cg_pmacro_builtin.specs.declared.body.Macro.{Macro}
use Rattle.cg_pmacro_builtin.specs.Outcome.{each, choose}
use Rattle.cg_pmacro_builtin.specs.Sizes.{nodes}
use Rattle.cg_pmacro_builtin.specs.Shapes.{macro_named, begins_with_dot}
use Rattle.cg_pmacro_expand.specs.Expansion.{Expander, call_written, with_arguments, without_arguments}
use Rattle.cg_pmacro.specs.Splitting.{first_name}

-- The arguments left some units for the body, and the body left what the call left, one more, and the nodes of its result.
pub record CallLeaves (within : Expander) (name : List ℕ) (formals : List (List ℕ)) (b : Body) (args : List Body) (left : ℕ) (f : Form) (after : ℕ) : Type 0 where
  pub values : List Form
  pub between : ℕ
  pub arguments : each (within name false) args left ≡ Ok (values, between)
  pub body : call_written within name formals b values between ≡ Ok (f, after + (1 + nodes f))

-- the head of a call: it names a macro with arguments, or begins with a dot, as the names of all built-in macros do
abbrev pub heads_call : List Macro → List ℕ → Bool
heads_call macros s = begins_with_dot s || is_some (with_arguments (macro_named macros s))

-- Forms in which nothing expands, with lists at most so deep: no symbol names a macro without arguments, and no list has the
-- head of a call.
pub data AtRest (macros : List Macro) : ℕ → List Form → Type 0 where
  none : {n : ℕ} → AtRest macros n []
  number : {n : ℕ} {fs : List Form} (i : ℤ) → AtRest macros n fs → AtRest macros n (form.Number i ∷ fs)
  symbol : {n : ℕ} {fs : List Form} (s : List ℕ) → without_arguments (macro_named macros s) ≡ None → AtRest macros n fs → AtRest macros n (form.Symbol s ∷ fs)
  string : {n : ℕ} {fs : List Form} (s : List ℕ) → AtRest macros n fs → AtRest macros n (form.Str s ∷ fs)
  flag : {n : ℕ} {fs : List Form} (b : Bool) → AtRest macros n fs → AtRest macros n (form.Flag b ∷ fs)
  list : {n : ℕ} {gs fs : List Form} → choose (first_name gs) (heads_call macros) false ≡ false → AtRest macros n gs → AtRest macros (suc n) fs → AtRest macros (suc n) (form.Items gs ∷ fs)
