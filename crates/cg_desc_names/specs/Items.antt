-- The constants of enums: each has a name, behind the enum's prefix, and a value.
use Rattle.std.specs.Prelude.{ℕ, ℤ, pos, if◌then◌else◌, List, [], ◌∷◌, ◌++◌, Option, Some, None, codes}
use Rattle.std.specs.Option.{unwrap_or}
use Rattle.std.specs.Fmt.{signed_decimal}
use Rattle.cg_base.specs.declared.form.Form.{Form, out-Form}
use Rattle.cg_base.specs.declared.form.Form.TheOpen.{Number, Symbol, Str}
use Rattle.cg_base.specs.Parts.{◌>>=◌, Layer, elements_of}
use Rattle.cg_base.specs.Texts.{same_text}
use Rattle.cg_attrs.specs.Contents.{item_value, next_value}
use Rattle.cg_attrs.specs.declared.frame.Frame.TheVariants.{Enum, InsnEnum}
use Rattle.cg_desc_elements.specs.declared.element.Element.{Element}
use Rattle.cg_desc_elements.specs.declared.element.Element.TheVariants.{Frame}
use Rattle.cg_desc_names.specs.declared.items.Item.{Item}

-- the text of a symbol, a string, or a number in decimal
abbrev pub written_in : Layer → List ℕ
written_in (Symbol s) = s
written_in (Str s) = s
written_in (Number n) = signed_decimal n
written_in _ = []

abbrev pub written : Form → List ℕ
written f = written_in (out-Form f)

-- The name of an item: itself, or the first element of its list.
abbrev pub first_written : List Form → List ℕ
first_written [] = []
first_written (f ∷ fs) = written f

abbrev pub item_name_by : Form → Option (List Form) → List ℕ
item_name_by f None = written f
item_name_by f (Some fs) = first_written fs

abbrev pub item_name : Form → List ℕ
item_name f = item_name_by f (elements_of f)

-- An item in front of others: the name `-` makes none, and counts.
abbrev pub item_before : List ℕ → List ℕ → Option ℤ → List Item → List Item
item_before prefix name None rest = rest
item_before prefix name (Some value) rest = if same_text (codes "-") name then rest else record { name = prefix ++ name; value = value } ∷ rest

-- The items of forms, where a name alone in front has the value `plain`.
abbrev pub items_from : List ℕ → Option ℤ → List Form → List Item
items_from prefix plain [] = []
items_from prefix plain (f ∷ fs) = item_before prefix (item_name f) (item_value plain f) (items_from prefix (item_value plain f >>= next_value) fs)

abbrev pub items_of : List ℕ → List Form → List Item
items_of prefix fs = items_from prefix (Some (pos 0)) fs

-- The constants that an element defines.
abbrev pub constants_in : Element → List Item
constants_in (Frame (Enum form)) = items_of (unwrap_or form.prefix []) (unwrap_or (elements_of form.values) [])
constants_in (Frame (InsnEnum form)) = items_of form.prefix (unwrap_or (elements_of form.values) [])
constants_in _ = []
