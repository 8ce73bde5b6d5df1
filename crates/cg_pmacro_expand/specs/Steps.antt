-- What the crate's private functions say of their steps. The meaning of expansion doesn't need it.
use Rattle.std.specs.Prelude.{ℕ, zero, suc, ◌==◌, ◌&&◌, nat_lt, length, filter_map, Bool, true, false, List, [], ◌∷◌, ◌++◌, Option, Ok, Err, codes, if◌then◌else◌}
use Rattle.cg_base.specs.declared.form.Form.{Form}
use Rattle.cg_base.specs.declared.form.Form.TheVariants as form
use Rattle.std.specs.List.{range_with_len}
use Rattle.cg_pmacro_builtin.specs.declared.body.Body.{Body}
use Rattle.cg_pmacro_builtin.specs.declared.body.Macro.{Macro}
use Rattle.cg_pmacro_builtin.specs.declared.built_in.BuiltIn.{BuiltIn}
use Rattle.cg_pmacro_builtin.specs.declared.built_in.BuiltIn.TheVariants as own
use Rattle.cg_pmacro_builtin.specs.declared.built_in.Manner.{Manner}
use Rattle.cg_pmacro_builtin.specs.declared.built_in.Manner.TheVariants as way
use Rattle.cg_pmacro_builtin.specs.Outcome.{Answer, Paid, ◌>>=◌, pure, fails, lift, each}
use Rattle.cg_pmacro_builtin.specs.Shapes.{binding}
use Rattle.cg_pmacro_builtin.specs.BuiltIns.{name_of, miscounted, misfit, iota_of, ordinary}
use Rattle.cg_pmacro_builtin.specs.Replacing.{Table, without}
use Rattle.cg_pmacro_expand.specs.Expansion.{Expander, Kind, too_deep, comes_to, expanded, chosen, take_if, take_cond, take_case, let_binding, let_in_order, let_bindings, let_body, stray_pmacro, is_callable, are_lists, results, call_of, elements_or_none, m_and_lists, spliced_list}
use Rattle.cg_pmacro_builtin.specs.Manners.{affordable, manner, is_for_each, is_apply}

-- what a form of a kind comes to, where lists and symbols that expand may still stand so deep
abbrev pub at_depth : List Macro → ℕ → List ℕ → Bool → Kind → Paid Form
at_depth macros zero inner in_splice kind = too_deep inner kind
at_depth macros (suc k) inner in_splice kind = comes_to macros (expanded macros k) inner in_splice kind

-- what `.if`, `.cond` and `.case` take
abbrev pub take : Expander → BuiltIn → List Body → Paid (Option Body)
take within own.If args = take_if within args
take within own.Cond args = take_cond within args
take within _ args = take_case within args

-- what stands in front of the results: the symbol `begin`, where they are to be top forms
abbrev pub beginning : BuiltIn → List Form
beginning b = if is_for_each b then form.Symbol (codes "begin") ∷ [] else []

-- what `.map` and `.for-each`, and what `.apply` make of m and lists, once these are tested
unfoldable pub mapped : Expander → BuiltIn → Body → List Form → Paid Form
mapped within b m [] = fails (misfit b)
mapped within b m (l ∷ ls) = do
  fs ← results within b m (l ∷ ls) (range_with_len 0 (length (elements_or_none l)))
  pure (form.Items (beginning b ++ fs))

unfoldable pub applied : Expander → Body → List Form → Paid Form
applied within m [] = fails (misfit own.Apply)
applied within m (l ∷ ls) = within (codes ".apply") false (call_of m (elements_or_none l))

-- how many lists they take
abbrev pub takes_lists : BuiltIn → ℕ → Bool
takes_lists b n = if is_apply b then n == 1 else nat_lt 0 n

unfoldable pub over_checked : List Macro → BuiltIn → Body → List Form → Answer (Unit {0})
over_checked macros b m args =
    if takes_lists b (length args) then if is_callable macros m && are_lists args then Ok tt else Err (misfit b)
    else Err (miscounted b)

unfoldable pub over : List Macro → Expander → BuiltIn → Body → List Form → Paid Form
over macros within b m args = do
  _ ← lift (over_checked macros b m args)
  if is_apply b then applied within m args else mapped within b m args

abbrev pub call_over : List Macro → Expander → BuiltIn → List Body → Paid Form
call_over macros within b args = m_and_lists within b (over macros within b) args

-- what a `.let` or, in order, a `.let*` binds
abbrev pub bind : Expander → BuiltIn → Bool → List Body → Paid Table
bind within b ordered bs =
    if ordered then let_in_order within b [] (filter_map binding bs) else each (let_binding within b) (filter_map binding bs)

abbrev pub call_let : Expander → BuiltIn → Bool → List Body → Paid Form
call_let within b ordered args = bind within b ordered (let_bindings args) >>= let_body within b args

-- the call of a built-in, by its manner; the list of an `.iota` isn't made where it costs too much
abbrev pub call_by : Manner → List Macro → Expander → BuiltIn → Bool → List Body → Paid Form
call_by way.Choice macros within b spliced args = chosen within b (take within b args)
call_by way.Let macros within b spliced args = call_let within b false args
call_by way.LetStar macros within b spliced args = call_let within b true args
call_by way.Pmacro macros within b spliced args = lift (stray_pmacro args)
call_by way.Over macros within b spliced args = call_over macros within b args
call_by way.Splice macros within b spliced args = spliced_list within args
call_by way.Iota macros within b spliced args = do
  fs ← each (within (name_of b) false) args
  λ left. lift (affordable left (iota_of fs)) left
call_by way.Ordinary macros within b spliced args = do
  fs ← each (within (name_of b) false) args
  lift (ordinary b spliced fs)

abbrev pub call_built_in : List Macro → Expander → BuiltIn → Bool → List Body → Paid Form
call_built_in macros within b spliced args = call_by (manner b) macros within b spliced args

-- how the code adds a binding of a `.let` or, hiding an earlier one of its name, of a `.let*`
abbrev pub with_binding : Bool → Table → List ℕ → Form → Table
with_binding ordered table name value = (if ordered then without table (name ∷ []) else table) ++ record { name = name; value = value } ∷ []
