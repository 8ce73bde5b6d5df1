-- Which elements a machine has, by their attributes `MACH` and `ISA`.
use Rattle.std.specs.Prelude.{ℕ, Bool, true, false, not, ◌&&◌, ◌||◌, List, Option, Some, None, codes}
use Rattle.std.specs.List.{list_any}
use Rattle.cg_base.specs.Texts.{same_text, is_among, passes}
use Rattle.cg_attrs.specs.declared.attr.Attr.{Attr}
use Rattle.cg_attrs.specs.declared.attr.AttrValue.{AttrValue}
use Rattle.cg_attrs.specs.declared.attr.AttrValue.TheVariants.{Names}
use Rattle.cg_desc_elements.specs.declared.kind.Kind.{Kind}
use Rattle.cg_desc_elements.specs.declared.kind.Kind.TheVariants.{Arch, Mach}
use Rattle.cg_desc_elements.specs.declared.element.Element.{Element}
use Rattle.cg_desc_elements.specs.Elements.{kind_of, attrs_of}

-- an attribute of this name
abbrev pub is_attr_named : List ℕ → Attr → Bool
is_attr_named name a = same_text a.name name

-- a set of words that has this one
abbrev pub has_word : List ℕ → AttrValue → Bool
has_word word (Names words) = is_among words word
has_word word _ = false

abbrev pub is_attr_with : List ℕ → List ℕ → Attr → Bool
is_attr_with name word a = is_attr_named name a && has_word word a.value

-- The attributes have one of this name, and one of this name that has this word.
abbrev pub has_attr : List ℕ → List Attr → Bool
has_attr name attrs = list_any (is_attr_named name) attrs

abbrev pub has_attr_with : List ℕ → List ℕ → List Attr → Bool
has_attr_with name word attrs = list_any (is_attr_with name word) attrs

-- `MACH` is absent, or names `base` or the machine.
abbrev pub belongs_to_machine : List ℕ → List Attr → Bool
belongs_to_machine machine attrs =
    not (has_attr (codes "MACH") attrs) || has_attr_with (codes "MACH") (codes "base") attrs || has_attr_with (codes "MACH") machine attrs

-- `ISA` is absent, or names the machine's instruction set. Where the machine has none, no name is that of it.
abbrev pub belongs_to_isa : Option (List ℕ) → List Attr → Bool
belongs_to_isa isa attrs = not (has_attr (codes "ISA") attrs) || passes (λ name. has_attr_with (codes "ISA") name attrs) isa

-- What `ISA` says of the arch and of machines is passed over: they stand above instruction sets.
abbrev pub is_above_isas : Kind → Bool
is_above_isas Arch = true
is_above_isas Mach = true
is_above_isas _ = false

-- The element takes part in the selection of this machine with this instruction set.
unfoldable pub takes_part : List ℕ → Option (List ℕ) → Element → Bool
takes_part machine isa e =
    belongs_to_machine machine (attrs_of e) && (is_above_isas (kind_of e) || belongs_to_isa isa (attrs_of e))
