-- What a form expands to (docs/LANGUAGE.md, "Macros"): the cost of a call, calls of macros, each built-in macro, and then what
-- a form is, what it comes to, and how deep it may stand. How the forms within it expand is a parameter, `within`, up to the last definition.
use Rattle.std.specs.Prelude.{ℕ, zero, suc, ◌+◌, ◌-◌, ◌==◌, nat_lt, Bool, true, false, not, ◌&&◌, ◌||◌, List, [], ◌∷◌, ◌++◌, map, length, drop, slice_get, filter_map, Option, Some, None, is_some, unwrap_or, Ok, Err, codes, if◌then◌else◌}
use Rattle.std.specs.List.{list_all, list_any, range_with_len}
use Rattle.cg_base.specs.declared.form.Form.{Form}
use Rattle.cg_base.specs.declared.form.Form.TheVariants as form
use Rattle.cg_base.specs.Texts.{is_named}
use Rattle.cg_pmacro_builtin.specs.declared.body.Body.{Body, out-Body}
use Rattle.cg_pmacro_builtin.specs.declared.body.Body.TheOpen as body
use Rattle.cg_pmacro_builtin.specs.declared.body.Body.TheOpen.{Body-F}
use Rattle.cg_pmacro_builtin.specs.declared.body.Body.TheVariants.{Quoted, Items}
use Rattle.cg_pmacro_builtin.specs.declared.body.Macro.{Macro}
use Rattle.cg_pmacro_builtin.specs.declared.body.Binding.{Binding}
use Rattle.cg_pmacro_builtin.specs.declared.built_in.BuiltIn.{BuiltIn}
use Rattle.cg_pmacro_builtin.specs.declared.built_in.BuiltIn.TheVariants as own
use Rattle.cg_pmacro_builtin.specs.Outcome.{Answer, Paid, ◌>>=◌, pure, fails, lift, each, each_joined, choose}
use Rattle.cg_pmacro_builtin.specs.Sizes.{nodes, lists}
use Rattle.cg_base.specs.Parts.{elements_of}
use Rattle.cg_pmacro_builtin.specs.Shapes.{same_form, written, called, head_name, own_symbol, elements, is_list, pmacro_form, pmacro_head, pair_of, binding, formal_names, macro_named, begins_with_dot}
use Rattle.cg_pmacro_builtin.specs.BuiltIns.{name_of, built_in, is_lazy, miscounted, misfit, is_false, iota_of, ordinary}
use Rattle.cg_pmacro_builtin.specs.Replacing.{Table, replaced, without}

-- How a form expands: the innermost macro or built-in macro around it, and whether it is an argument of `.splice`.
abbrev pub Expander : Type 0
Expander = List ℕ → Bool → Body → Paid Form

-- The cost of a call is one unit and the nodes of its result, which has lists at most 200 deep.
abbrev pub charge : List ℕ → Form → Paid Form
charge name f left =
    if nat_lt left (1 + nodes f) then Err (203, codes "4000000")
    else if nat_lt 200 (lists f) then Err (204, name)
    else Ok (f, left - (1 + nodes f))

-- The cost is charged once the result is known.
abbrev pub charged : List ℕ → Paid Form → Paid Form
charged name call = call >>= charge name

-- the list of several results
abbrev pub listed : Paid (List Form) → Paid Form
listed results = do
  fs ← results
  pure (form.Items fs)

-- each formal with its argument
abbrev pub bindings : List (List ℕ) → List Form → Table
bindings [] fs = []
bindings (n ∷ ns) [] = []
bindings (n ∷ ns) (f ∷ fs) = record { name = n; value = f } ∷ bindings ns fs

-- Each argument is put in the place of its formal in the body, which is then expanded.
abbrev pub call_written : Expander → List ℕ → List (List ℕ) → Body → List Form → Paid Form
call_written within name formals b args =
    if length args == length formals then within name false (replaced (bindings formals args) b) else fails (201, name)

-- A call of a macro expands its arguments from left to right, and then the body with these in it.
abbrev pub macro_called : Expander → List ℕ → List (List ℕ) → Body → List Body → Paid Form
macro_called within name formals b args = charged name (each (within name false) args >>= call_written within name formals b)

-- `(.pmacro (arg ..) body)`: its formals, which are distinct symbols, and its body
unfoldable pub pmacro : List Body → Answer (List (List ℕ) × Body)
pmacro (head ∷ formals ∷ b ∷ []) = choose (formal_names formals) (λ names. Ok (names, b)) (Err (misfit own.Pmacro))
pmacro _ = Err (miscounted own.Pmacro)

-- A `.pmacro` form in the place of a head is called, and isn't expanded.
unfoldable pub call_pmacro : Expander → List Body → List Body → Paid Form
call_pmacro within form args = do
  m ← lift (pmacro form)
  macro_called within (codes ".pmacro") m.0 m.1 args

-- a `.pmacro` form that is neither a head nor mapped or applied
abbrev pub stray_pmacro : List Body → Answer Form
stray_pmacro (formals ∷ b ∷ []) = Err (misfit own.Pmacro)
stray_pmacro _ = Err (miscounted own.Pmacro)

-- `.if`, `.cond` and `.case` expand what they take, and nothing is `()`.
abbrev pub chosen : Expander → BuiltIn → Paid (Option Body) → Paid Form
chosen within b taking = do
  taken ← taking
  choose taken (within (name_of b) false) (pure (form.Items []))

-- the one of the arguments behind c that is taken
abbrev pub branch : List Body → Form → Answer (Option Body)
branch (a ∷ []) c = Ok (if is_false c then None else Some a)
branch (a ∷ b ∷ []) c = Ok (Some (if is_false c then b else a))
branch _ c = Err (miscounted own.If)

-- `(.if c a [b])`: a where c isn't `#f`, else b
abbrev pub take_if : Expander → List Body → Paid (Option Body)
take_if within [] = fails (miscounted own.If)
take_if within (c ∷ branches) = do
  f ← within (codes ".if") false c
  lift (branch branches f)

-- the arm is the last, headed by the symbol `else`
abbrev pub is_else : Body → List Body → Bool
is_else c [] = is_named (codes "else") (own_symbol c)
is_else c (_ ∷ _) = false

-- this arm where its c isn't `#f`, else what the rest take
abbrev pub arm_or : Expander → Body × Body → Paid (Option Body) → Paid (Option Body)
arm_or within arm rest = do
  c ← within (codes ".cond") false arm.0
  if is_false c then rest else pure (Some arm.1)

-- the first arm whose c isn't `#f`, up to one that isn't a list of two
abbrev pub first_arm : Expander → List Body → Paid (Option Body)
first_arm within [] = pure None
first_arm within (arm ∷ arms) =
    choose (pair_of arm)
    (λ p. if is_else p.0 arms then pure (Some p.1) else arm_or within p (first_arm within arms))
    (pure None)

-- it is a list of two
abbrev pub is_pair : Body → Bool
is_pair b = is_some (pair_of b)

-- `(.cond (c e) .. [(else e)])`: the first e whose c isn't `#f`. Each arm is a list of two, also one that isn't reached.
abbrev pub take_cond : Expander → List Body → Paid (Option Body)
take_cond within arms = do
  taken ← first_arm within arms
  if list_all is_pair arms then pure taken else fails (misfit own.Cond)

-- Each arm of `.case` is a list of two, whose first is a list of values or, in the last, `else`.
abbrev pub are_arms : List Body → Bool
are_arms [] = true
are_arms (arm ∷ arms) = choose (pair_of arm) (λ p. is_else p.0 arms || is_list p.0) false && are_arms arms

-- the value is among those of an arm as written; `else` has all
abbrev pub holds : Form → Body → Bool
holds value c = choose (elements c) (λ vs. list_any (λ v. same_form (written v) value) vs) true

-- the first arm with the value among its values
abbrev pub arm_of : Form → List Body → Option Body
arm_of value [] = None
arm_of value (arm ∷ arms) = choose (pair_of arm) (λ p. if holds value p.0 then Some p.1 else arm_of value arms) None

-- `(.case e ((v ..) r) .. [(else r)])`: the first r with e among its v as written
abbrev pub take_case : Expander → List Body → Paid (Option Body)
take_case within [] = fails (miscounted own.Case)
take_case within (e ∷ arms) = do
  value ← within (codes ".case") false e
  if are_arms arms then pure (arm_of value arms) else fails (misfit own.Case)

-- `.let`: the forms of the bindings are expanded from left to right, each as it stands.
abbrev pub let_binding : Expander → BuiltIn → List ℕ × Body → Paid Binding
let_binding within b p = do
  f ← within (name_of b) false p.1
  pure (record { name = p.0; value = f })

-- `.let*`: each is expanded with the earlier ones in place, so the table of these belongs to the meaning. A later one hides
-- an earlier one of its name.
abbrev pub let_in_order : Expander → BuiltIn → Table → List (List ℕ × Body) → Paid Table
let_in_order within b earlier [] = pure earlier
let_in_order within b earlier (p ∷ ps) = do
  f ← within (name_of b) false (replaced earlier p.1)
  let_in_order within b (without earlier (p.0 ∷ []) ++ record { name = p.0; value = f } ∷ []) ps

-- it is a binding `(n e)`
abbrev pub is_binding : Body → Bool
is_binding b = is_some (binding b)

-- a list of bindings `(n e)`, each n a symbol
abbrev pub are_bindings : Body → Bool
are_bindings b = choose (elements b) (list_all is_binding) false

-- the bindings of the first argument
abbrev pub let_bindings : List Body → List Body
let_bindings [] = []
let_bindings (b ∷ bs) = unwrap_or (elements b) []

-- the body with the names of the table replaced, expanded
abbrev pub let_body : Expander → BuiltIn → List Body → Table → Paid Form
let_body within b (bs ∷ e ∷ []) table = if are_bindings bs then within (name_of b) false (replaced table e) else fails (misfit b)
let_body within b _ table = fails (miscounted b)

-- `(.let ((n e) ..) body)` and `.let*`: the body with the expansions of the e's in the place of the names. What isn't a binding
-- binds nothing, and is refused behind the faults of the e's.
abbrev pub let_result : Expander → BuiltIn → (List (List ℕ × Body) → Paid Table) → List Body → Paid Form
let_result within b bound args = bound (filter_map binding (let_bindings args)) >>= let_body within b args

-- the elements of a list
abbrev pub elements_or_none : Form → List Form
elements_or_none f = unwrap_or (elements_of f) []

-- it is a call of `.unsplice`
abbrev pub is_unsplice : Body → Bool
is_unsplice b = choose (elements b) (λ bs. is_named (codes ".unsplice") (head_name bs)) false

-- the whole list's elements, or the form alone
abbrev pub added : Bool → Form → List Form
added whole f = if whole then elements_or_none f else f ∷ []

-- an argument of `.splice`, and in the place of an `(.unsplice l)` the elements of the list l
abbrev pub spliced : Expander → Body → Paid (List Form)
spliced within b = do
  f ← within (codes ".splice") (is_unsplice b) b
  pure (added (is_unsplice b) f)

-- `(.splice a ..)`: the list of its arguments
abbrev pub spliced_list : Expander → List Body → Paid Form
spliced_list within args = listed (each_joined (spliced within) args)

-- The first argument of `.map`, `.for-each` and `.apply`, as the head of a call: a `.pmacro` form stands for itself.
unfoldable pub head_of : Expander → BuiltIn → Body → Paid Body
head_of within b e =
    choose (pmacro_form e)
    (λ form. lift (pmacro form) >>= λ m. pure e)
    (within (name_of b) false e >>= λ f. pure (Quoted f))

-- the arguments and the body of a macro with arguments
abbrev pub with_arguments : Option Macro → Option (List (List ℕ) × Body)
with_arguments None = None
with_arguments (Some m) = choose m.formals (λ names. Some (names, m.body)) None

-- a name that may be mapped or applied: of a macro with arguments, or of a built-in that isn't one of the six
abbrev pub may_be_called : List Macro → List ℕ → Bool
may_be_called macros name = is_some (with_arguments (macro_named macros name)) || choose (built_in name) (λ b. not (is_lazy b)) false

-- m is a `.pmacro` form, or a symbol with such a name
abbrev pub is_callable : List Macro → Body → Bool
is_callable macros m = is_some (pmacro_form m) || choose (called m) (may_be_called macros) false

-- The call of m on arguments, which aren't expanded again.
abbrev pub call_of : Body → List Form → Body
call_of m args = Items (m ∷ map Quoted args)

-- the elements of several lists at one place
abbrev pub row : ℕ → List Form → List Form
row k ls = filter_map (λ l. slice_get (elements_or_none l) k) ls

abbrev pub is_list_of : ℕ → Form → Bool
is_list_of n f = choose (elements_of f) (λ fs. length fs == n) false

-- the arguments are lists that are equally long
abbrev pub are_lists : List Form → Bool
are_lists [] = true
are_lists (l ∷ ls) = choose (elements_of l) (λ fs. list_all (is_list_of (length fs)) (l ∷ ls)) false

-- the results of m on the lists' elements, place by place
abbrev pub results : Expander → BuiltIn → Body → List Form → List ℕ → Paid (List Form)
results within b m ls places = each (λ k. within (name_of b) false (call_of m (row k ls))) places

-- `(.map m l ..)`: the list of m's results on the lists' elements. That of `(.for-each m l ..)` has the symbol `begin` in front.
-- A wrong count comes before an argument that isn't of its kind.
abbrev pub mapped : List Macro → Expander → BuiltIn → List Form → Body → List Form → Paid Form
mapped macros within b front m [] = fails (miscounted b)
mapped macros within b front m (l ∷ ls) =
    if is_callable macros m && are_lists (l ∷ ls)
    then (results within b m (l ∷ ls) (range_with_len 0 (length (elements_or_none l))) >>= λ fs. pure (form.Items (front ++ fs)))
    else fails (misfit b)

-- `(.apply m l)`: m called with the elements of l
abbrev pub applied : List Macro → Expander → Body → List Form → Paid Form
applied macros within m (l ∷ []) =
    if is_callable macros m && are_lists (l ∷ []) then within (codes ".apply") false (call_of m (elements_or_none l))
    else fails (misfit own.Apply)
applied macros within m ls = fails (miscounted own.Apply)

-- m, then the lists, and what comes of them
abbrev pub m_and_lists : Expander → BuiltIn → (Body → List Form → Paid Form) → List Body → Paid Form
m_and_lists within b next [] = fails (miscounted b)
m_and_lists within b next (e ∷ args) = do
  m ← head_of within b e
  ls ← each (within (name_of b) false) args
  next m ls

-- What a built-in macro gives. All but the six, `.splice` and those that call an m expand their arguments from left to right.
abbrev pub own_result : List Macro → Expander → BuiltIn → Bool → List Body → Paid Form
own_result macros within own.If in_splice args = chosen within own.If (take_if within args)
own_result macros within own.Cond in_splice args = chosen within own.Cond (take_cond within args)
own_result macros within own.Case in_splice args = chosen within own.Case (take_case within args)
own_result macros within own.Let in_splice args = let_result within own.Let (each (let_binding within own.Let)) args
own_result macros within own.LetStar in_splice args = let_result within own.LetStar (let_in_order within own.LetStar []) args
own_result macros within own.Pmacro in_splice args = lift (stray_pmacro args)
own_result macros within own.Splice in_splice args = spliced_list within args
own_result macros within own.Map in_splice args = m_and_lists within own.Map (mapped macros within own.Map []) args
own_result macros within own.ForEach in_splice args =
    m_and_lists within own.ForEach (mapped macros within own.ForEach (form.Symbol (codes "begin") ∷ [])) args
own_result macros within own.Apply in_splice args = m_and_lists within own.Apply (applied macros within) args
own_result macros within own.Iota in_splice args = each (within (name_of own.Iota) false) args >>= λ fs. lift (iota_of fs)
own_result macros within b in_splice args = each (within (name_of b) false) args >>= λ fs. lift (ordinary b in_splice fs)

-- a call of a built-in macro, with its cost
unfoldable pub own_called : List Macro → Expander → BuiltIn → Bool → List Body → Paid Form
own_called macros within b in_splice args = charged (name_of b) (own_result macros within b in_splice args)

-- What a form is to expansion: a form that is itself; a symbol that names a macro without arguments, and its body; a call of a
-- macro by its name, with its formals, its body and the arguments; of a `.pmacro` form; of a built-in macro; or a list that
-- isn't a call, with the symbol that heads it.
pub data Kind : Type 0 where
  itself : Form → Kind
  macro_symbol : List ℕ → Body → Kind
  macro_call : List ℕ → List (List ℕ) → Body → List Body → Kind
  pmacro_call : List Body → List Body → Kind
  own_call : BuiltIn → List Body → Kind
  other_list : Option (List ℕ) → List Body → Kind

-- the body of a macro without arguments
abbrev pub without_arguments : Option Macro → Option Body
without_arguments None = None
without_arguments (Some m) = choose m.formals (λ names. None) (Some m.body)

-- A symbol that names a macro without arguments stands for its body. Another symbol is itself.
abbrev pub symbol_kind : List Macro → List ℕ → Kind
symbol_kind macros s = choose (without_arguments (macro_named macros s)) (macro_symbol s) (itself (form.Symbol s))

-- A list whose head is a symbol that names a macro with arguments or a built-in macro is a call.
abbrev pub named_kind : List Macro → List ℕ → List Body → Kind
named_kind macros name bs =
    choose (with_arguments (macro_named macros name))
    (λ m. macro_call name m.0 m.1 (drop 1 bs))
    (choose (built_in name) (λ b. own_call b (drop 1 bs)) (other_list (Some name) bs))

-- So is one whose head is a `.pmacro` form. Any other isn't.
unfoldable pub list_kind : List Macro → List Body → Kind
list_kind macros bs =
    choose (pmacro_head bs)
    (λ form. pmacro_call form (drop 1 bs))
    (choose (head_name bs) (λ name. named_kind macros name bs) (other_list None bs))

-- A quoted leaf is its content and nothing else. A number, a string or a flag is itself.
abbrev pub layer_kind : List Macro → Body-F Body → Kind
layer_kind macros (body.Quoted f) = itself f
layer_kind macros (body.Number n) = itself (form.Number n)
layer_kind macros (body.Symbol s) = symbol_kind macros s
layer_kind macros (body.Str s) = itself (form.Str s)
layer_kind macros (body.Flag b) = itself (form.Flag b)
layer_kind macros (body.Items bs) = list_kind macros bs

-- what a form is, among these macros
abbrev pub kind_of : List Macro → Body → Kind
kind_of macros b = layer_kind macros (out-Body b)

-- A call comes to what is called, and a symbol to the expansion of its body, each with its cost. A list that isn't a call is
-- the list of the expansions of its elements, from left to right; its head may not begin with a dot.
abbrev pub comes_to : List Macro → Expander → List ℕ → Bool → Kind → Paid Form
comes_to macros within inner in_splice (itself f) = pure f
comes_to macros within inner in_splice (macro_symbol name b) = charged name (within name false b)
comes_to macros within inner in_splice (macro_call name formals b args) = macro_called within name formals b args
comes_to macros within inner in_splice (pmacro_call form args) = call_pmacro within form args
comes_to macros within inner in_splice (own_call b args) = own_called macros within b in_splice args
comes_to macros within inner in_splice (other_list None bs) = listed (each (within inner false) bs)
comes_to macros within inner in_splice (other_list (Some name) bs) =
    if begins_with_dot name then fails (207, name) else listed (each (within inner false) bs)

-- Where nothing may stand deeper, only a form that is itself expands. The fault has the name of the macro, and in a list that
-- isn't a call that of the innermost one around it.
abbrev pub too_deep : List ℕ → Kind → Paid Form
too_deep inner (itself f) = pure f
too_deep inner (macro_symbol name b) = fails (204, name)
too_deep inner (macro_call name formals b args) = fails (204, name)
too_deep inner (pmacro_call form args) = fails (204, codes ".pmacro")
too_deep inner (own_call b args) = fails (204, name_of b)
too_deep inner (other_list name bs) = fails (204, inner)

-- What a form expands to, where lists, and symbols that name a macro without arguments, may still stand so deep one within
-- another. The fault of the depth comes before all others.
unfoldable pub expanded : List Macro → ℕ → Expander
expanded macros zero inner in_splice b = too_deep inner (kind_of macros b)
expanded macros (suc k) inner in_splice b = comes_to macros (expanded macros k) inner in_splice (kind_of macros b)
