-- Names replaced in a body by the forms that stand for them (docs/LANGUAGE.md, "Macros").
use Rattle.std.specs.Prelude.{ℕ, zero, suc, not, List, [], ◌∷◌, map, Option, None, codes, if◌then◌else◌}
use Rattle.std.specs.List.{find, filter, filter_map}
use Rattle.cg_base.specs.Texts.{is_among, is_named, same_text}
use Rattle.cg_pmacro_builtin.specs.declared.body.Body.{Body, out-Body}
use Rattle.cg_pmacro_builtin.specs.declared.body.Body.TheOpen as body
use Rattle.cg_pmacro_builtin.specs.declared.body.Body.TheOpen.{Body-F}
use Rattle.cg_pmacro_builtin.specs.declared.body.Body.TheVariants.{Quoted, Symbol, Items}
use Rattle.cg_pmacro_builtin.specs.declared.body.Binding.{Binding}
use Rattle.cg_pmacro_builtin.specs.Outcome.{choose}
use Rattle.cg_pmacro_builtin.specs.Sizes.{levels}
use Rattle.cg_pmacro_builtin.specs.Shapes.{head_name, own_symbol, first_symbol, elements}

-- each name of a table, and the form that stands for it
abbrev pub Table : Type 0
Table = List Binding

-- a quoted leaf for a name of the table; of two of one name the first
abbrev pub looked_up : Table → List ℕ → Body
looked_up table name = choose (find (λ b. same_text b.name name) table) (λ b. Quoted b.value) (Symbol name)

-- the table without some names
abbrev pub without : Table → List (List ℕ) → Table
without table names = filter (λ b. not (is_among names b.name)) table

-- the symbols among the elements of a list
abbrev pub symbols_among : List Body → List (List ℕ)
symbols_among bs = filter_map own_symbol bs

-- the name that an element of the bindings binds: the first element of a list, where it is a symbol
abbrev pub bound_name : Body → Option (List ℕ)
bound_name b = choose (elements b) first_symbol None

-- The names that bindings bind are hidden from what they bind.
abbrev pub hidden : Table → List Body → Table
hidden table bs = without table (filter_map bound_name bs)

-- how a name is replaced in a form that stands one list further in
abbrev pub Replacer : Type 0
Replacer = Table → Body → Body

-- the elements behind the first, which stays in its place
abbrev pub kept_first : Replacer → Table → List Body → List Body
kept_first within table [] = []
kept_first within table (b ∷ bs) = b ∷ map (within table) bs

-- A bound name stays in its place.
abbrev pub binding_replaced : Replacer → Table → Body → Body
binding_replaced within table b = choose (bound_name b) (λ name. choose (elements b) (λ bs. Items (kept_first within table bs)) b) (within table b)

-- the bindings of a `.let`, which don't see one another
abbrev pub side_by_side : Replacer → Table → List Body → List Body
side_by_side within table bs = map (binding_replaced within table) bs

-- the bindings of a `.let*`, in each of which the names that those before it bind are hidden
abbrev pub in_order : Replacer → Table → List Body → List Body
in_order within table [] = []
in_order within table (b ∷ bs) = binding_replaced within table b ∷ in_order within (hidden table (b ∷ [])) bs

-- the elements of a `.pmacro` form behind the head: its own arguments aren't replaced in its body
abbrev pub pmacro_replaced : Replacer → Table → List Body → List Body
pmacro_replaced within table [] = []
pmacro_replaced within table (formals ∷ bs) =
    choose (elements formals) (λ names. formals ∷ map (within (without table (symbols_among names))) bs) (map (within table) (formals ∷ bs))

-- the elements of a `.let` or `.let*` behind the head: the bound names aren't replaced in its body
abbrev pub let_replaced : Replacer → (Table → List Body → List Body) → Table → List Body → List Body
let_replaced within bound table [] = []
let_replaced within bound table (bindings ∷ bs) =
    choose (elements bindings)
    (λ each. Items (bound table each) ∷ map (within (hidden table each)) bs)
    (map (within table) (bindings ∷ bs))

-- the elements of a list
abbrev pub elements_replaced : Replacer → Table → Option (List ℕ) → List Body → List Body
elements_replaced within table name [] = []
elements_replaced within table name (b ∷ bs) =
    if is_named (codes ".pmacro") name then within table b ∷ pmacro_replaced within table bs
    else if is_named (codes ".let") name then within table b ∷ let_replaced within (side_by_side within) table bs
    else if is_named (codes ".let*") name then within table b ∷ let_replaced within (in_order within) table bs
    else map (within table) (b ∷ bs)

-- A symbol is looked up, and a list becomes what is said of its elements. All others stay.
abbrev pub replaced_in : Table → (List Body → Body) → Body → Body-F Body → Body
replaced_in table list b (body.Symbol s) = looked_up table s
replaced_in table list b (body.Items bs) = list bs
replaced_in table list b _ = b

-- the names of the table replaced, so many lists inwards; in a form without lists there is nothing inwards
abbrev pub replaced_to : ℕ → Replacer
replaced_to zero table b = replaced_in table Items b (out-Body b)
replaced_to (suc k) table b = replaced_in table (λ bs. Items (elements_replaced (replaced_to k) table (head_name bs) bs)) b (out-Body b)

-- Each name of the table is replaced by a quoted leaf, but for the places where the name is bound again.
abbrev pub replaced : Replacer
replaced table b = replaced_to (levels b) table b
