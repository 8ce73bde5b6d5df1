-- What can be seen of a form, and of a form with quoted leaves (docs/LANGUAGE.md, "Macros"). A name that ends in `_layer` says
-- it of one level of a form.
use Rattle.std.specs.Prelude.{ℕ, Bool, false, ◌==◌, List, [], ◌∷◌, is_some, Option, Some, None, codes, if◌then◌else◌}
use Rattle.std.specs.List.{find}
use Rattle.cg_base.specs.Parts.{◌>>=◌, symbol_of}
use Rattle.cg_base.specs.Texts.{same_text, is_named, is_among}
use Rattle.cg_base.specs.declared.form.Form.{Form, fold-Form}
use Rattle.cg_base.specs.declared.form.Form.TheOpen as layer
use Rattle.cg_base.specs.declared.form.Form.TheOpen.{Form-F}
use Rattle.cg_base.specs.declared.form.Form.TheVariants as form
use Rattle.cg_base.specs.contracts.form.FormPartialEq.TheImpl as equality
use Rattle.cg_pmacro_builtin.specs.declared.body.Body.{Body, fold-Body, out-Body}
use Rattle.cg_pmacro_builtin.specs.declared.body.Body.TheOpen as body
use Rattle.cg_pmacro_builtin.specs.declared.body.Body.TheOpen.{Body-F}
use Rattle.cg_pmacro_builtin.specs.declared.body.Body.TheVariants.{Number, Symbol, Str, Flag, Items}
use Rattle.cg_pmacro_builtin.specs.declared.body.Macro.{Macro}

-- the same kind of form with the same content: the two are equal
abbrev pub same_form : Form → Form → Bool
same_form = (equality.ghosts).eq

abbrev pub plain_step : Form-F Body → Body
plain_step (layer.Number n) = Number n
plain_step (layer.Symbol s) = Symbol s
plain_step (layer.Str s) = Str s
plain_step (layer.Flag b) = Flag b
plain_step (layer.Items bs) = Items bs

-- a form as read, which has no quoted leaf
abbrev pub plain : Form → Body
plain = fold-Form Body plain_step

abbrev pub written_step : Body-F Form → Form
written_step (body.Quoted f) = f
written_step (body.Number n) = form.Number n
written_step (body.Symbol s) = form.Symbol s
written_step (body.Str s) = form.Str s
written_step (body.Flag b) = form.Flag b
written_step (body.Items fs) = form.Items fs

-- a form as it is written, which isn't expanded: its quoted leaves are their content
abbrev pub written : Body → Form
written = fold-Body Form written_step

abbrev pub called_layer : Body-F Body → Option (List ℕ)
called_layer (body.Quoted f) = symbol_of f
called_layer (body.Symbol s) = Some s
called_layer _ = None

-- the symbol that a form is in the place of a head: a quoted leaf that holds a symbol counts as that symbol
abbrev pub called : Body → Option (List ℕ)
called b = called_layer (out-Body b)

-- the symbol in the place of a list's head
abbrev pub head_name : List Body → Option (List ℕ)
head_name [] = None
head_name (b ∷ bs) = called b

abbrev pub own_symbol_layer : Body-F Body → Option (List ℕ)
own_symbol_layer (body.Symbol s) = Some s
own_symbol_layer _ = None

-- the text of a symbol that stands itself in its place
abbrev pub own_symbol : Body → Option (List ℕ)
own_symbol b = own_symbol_layer (out-Body b)

-- the symbol in the first place
abbrev pub first_symbol : List Body → Option (List ℕ)
first_symbol [] = None
first_symbol (b ∷ bs) = own_symbol b

abbrev pub elements_layer : Body-F Body → Option (List Body)
elements_layer (body.Items bs) = Some bs
elements_layer _ = None

-- the elements of a list
abbrev pub elements : Body → Option (List Body)
elements b = elements_layer (out-Body b)

abbrev pub is_list : Body → Bool
is_list b = is_some (elements b)

-- the elements of a list that is headed by `.pmacro`
abbrev pub pmacro_form : Body → Option (List Body)
pmacro_form b = do
  bs ← elements b
  if is_named (codes ".pmacro") (head_name bs) then Some bs else None

-- the elements of a `.pmacro` form in the place of a list's head
abbrev pub pmacro_head : List Body → Option (List Body)
pmacro_head [] = None
pmacro_head (b ∷ bs) = pmacro_form b

abbrev pub two_of : List Body → Option (Body × Body)
two_of (b ∷ c ∷ []) = Some (b, c)
two_of _ = None

-- the two elements of a list of two
abbrev pub pair_of : Body → Option (Body × Body)
pair_of b = elements b >>= two_of

-- the name and the form of a binding `(n e)`
abbrev pub binding : Body → Option (List ℕ × Body)
binding b = do
  p ← pair_of b
  name ← own_symbol p.0
  Some (name, p.1)

-- the names of formals, which are distinct symbols
abbrev pub names_of : List Body → Option (List (List ℕ))
names_of [] = Some []
names_of (b ∷ bs) = do
  name ← own_symbol b
  names ← names_of bs
  if is_among names name then None else Some (name ∷ names)

-- the names in a list of formals
abbrev pub formal_names : Body → Option (List (List ℕ))
formal_names b = elements b >>= names_of

-- the macro of that name
abbrev pub macro_named : List Macro → List ℕ → Option Macro
macro_named macros name = find (λ m. same_text m.name name) macros

-- A name that begins with a dot is of a built-in macro, or of none.
abbrev pub begins_with_dot : List ℕ → Bool
begins_with_dot [] = false
begins_with_dot (b ∷ bs) = b == 46
