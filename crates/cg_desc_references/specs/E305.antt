-- E305: a name that stands already, among those that share their names; also a second arch, and a unit that stands twice in a model.
use Rattle.std.specs.Prelude.{ℕ, ◌+◌, Bool, ◌&&◌, ◌==◌, if◌then◌else◌, List, [], ◌∷◌, ◌++◌, take, Option, Some, None, codes}
use Rattle.std.specs.List.{list_any}
use Rattle.cg_base.specs.declared.form.Form.{Form}
use Rattle.cg_base.specs.Parts.{headed_in, Headed}
use Rattle.cg_base.specs.Texts.{same_text, is_named, passes}
use Rattle.cg_attrs.specs.Clauses.{Clause}
use Rattle.cg_desc_elements.specs.declared.element.Element.{Element}
use Rattle.cg_desc_elements.specs.declared.kind.Namespace.TheVariants.{Constants}
use Rattle.cg_desc_elements.specs.Kinds.{namespace_of}
use Rattle.cg_desc_elements.specs.Elements.{kind_of, name_of}
use Rattle.cg_desc_names.specs.declared.items.Item.{Item}
use Rattle.cg_desc_names.specs.declared.names.Standing.{Standing}
use Rattle.cg_desc_names.specs.Items.{constants_in}
use Rattle.cg_desc_names.specs.Table.{Table, counted_name}
use Rattle.cg_desc_references.specs.Clauses.{clauses_of}

-- The first of the name stands in this form and at this place in it.
abbrev pub stands_here : ℕ → ℕ → Option Standing → Bool
stands_here form item at = passes (λ s. s.form == form && s.item == item) at

-- The form's own name.
unfoldable pub own_repeated : Table → ℕ → Element → List (List ℕ)
own_repeated at form e = if stands_here form 0 (at (namespace_of (kind_of e)) (counted_name e)) then [] else name_of e ∷ []

-- The names of those constants that aren't the first with their name; the first of the list has the place `item`.
abbrev pub items_repeated : Table → ℕ → ℕ → List Item → List (List ℕ)
items_repeated at form item [] = []
items_repeated at form item (x ∷ xs) = (if stands_here form item (at Constants x.name) then [] else x.name ∷ []) ++ items_repeated at form (item + 1) xs

unfoldable pub constants_repeated : Table → ℕ → Element → List (List ℕ)
constants_repeated at form e = items_repeated at form 1 (constants_in e)

-- The unit of a clause `unit`.
abbrev pub first_symbol : Option Headed → Option (List ℕ)
first_symbol None = None
first_symbol (Some x) = Some x.0

abbrev pub unit_name : Clause → Option (List ℕ)
unit_name c = if same_text (codes "unit") c.name then first_symbol (headed_in c.content) else None

-- A unit of this name stands in one of the clauses.
abbrev pub is_unit_named : List ℕ → Clause → Bool
is_unit_named name c = is_named name (unit_name c)

abbrev pub has_unit : List ℕ → List Clause → Bool
has_unit name cs = list_any (is_unit_named name) cs

-- A unit of the same name as this one stands before.
abbrev pub named_before : List Clause → Option (List ℕ) → List (List ℕ)
named_before before None = []
named_before before (Some name) = if has_unit name before then name ∷ [] else []

unfoldable pub unit_repeated : List Clause → Clause → List (List ℕ)
unit_repeated before c = named_before before (unit_name c)

-- The names in a clause, behind those before it.
unfoldable pub repeated_in : Table → ℕ → Element → List Clause → Clause → List (List ℕ)
repeated_in at form e before c =
    if same_text (codes "name") c.name then own_repeated at form e
    else if same_text (codes "values") c.name then constants_repeated at form e
    else unit_repeated before c

-- The names in a clause, which stands behind the first `count` of all.
unfoldable pub repeated_at : Table → ℕ → Element → List Clause → ℕ → Clause → List (List ℕ)
repeated_at at form e all count c = repeated_in at form e (take count all) c

-- The names in the clauses `cs`, which stand behind the first `count` of all.
abbrev pub repeated_behind : Table → ℕ → Element → List Clause → ℕ → List Clause → List (List ℕ)
repeated_behind at form e all count [] = []
repeated_behind at form e all count (c ∷ cs) = repeated_at at form e all count c ++ repeated_behind at form e all (count + 1) cs

abbrev pub repeated : Table → ℕ → Element → List Clause → List (List ℕ)
repeated at form e cs = repeated_behind at form e cs 0 cs

-- The names in the form of this number that gives this element, in the order of their places.
abbrev pub e305 : Table → ℕ → Element → Form → List (List ℕ)
e305 at form e f = repeated at form e (clauses_of (kind_of e) f)
