-- What the crate's private functions say of their steps. The meaning of replacing doesn't need it.
use Rattle.std.specs.Prelude.{ℕ, Bool, List, [], ◌∷◌, Option, Some, None, if◌then◌else◌}
use Rattle.cg_pmacro_builtin.specs.declared.body.Body.{Body}
use Rattle.cg_pmacro_builtin.specs.Replacing.{Table, Replacer, without, side_by_side, in_order}

-- what hides a binding's name from what stands behind it
abbrev pub hiding : Table → Option (List ℕ) → Table
hiding table None = table
hiding table (Some name) = without table (name ∷ [])

-- the bindings of a `.let` or, in order, of a `.let*`, replaced
abbrev pub bindings_replaced : Replacer → Bool → Table → List Body → List Body
bindings_replaced within ordered table bs = if ordered then in_order within table bs else side_by_side within table bs
