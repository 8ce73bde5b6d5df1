-- What lines lay down, with the parts of bundles by the numbers of their instructions, in a source of one instruction set.
use Rattle.std.specs.Prelude.{ℕ, ◌+◌, ◌-◌, ◌*◌, ◌==◌, if◌then◌else◌, List, [], ◌∷◌, length, codes}
use Rattle.cg_asm_directives.specs.declared.content.Content as declared
use Rattle.cg_asm_directives.specs.declared.content.Content.TheVariants as laid
use Rattle.cg_asm_directives.specs.declared.order.Order as declared_order
use Rattle.cg_asm_directives.specs.declared.order.Order.TheVariants.{Data, Bytes, Space, Origin, Align, Malformed}
use Rattle.cg_asm_directives.specs.declared.order.Width.{Width}
use Rattle.cg_asm_directives.specs.declared.order.Width.TheVariants.{Byte, Half, Word}
use Rattle.cg_base.specs.Texts.{same_text}
use Rattle.cg_model_source.specs.Lining.{Statement}
use Rattle.cg_model_source.specs.Sourcing.{Order, data_of, text, space, origin, align, in_set, malformed, data_order, text_order, space_order, origin_order, align_order, Content, order, parts, content_of, up_to_multiple, Label, only_set, Place}
use Rattle.cg_model.specs.declared.machine.Machine.{Machine}
use Rattle.cg_syntax.specs.Telling.{told_parts, part_size}
use Rattle.cg_syntax.specs.declared.bundle.Part.{Part}

-- How wide the numbers of a directive are, and how many bytes that is.
abbrev pub width_for : ℕ → Width
width_for n = if n == 1 then Byte else if n == 2 then Half else Word

abbrev pub width_bytes : Width → ℕ
width_bytes Byte = 1
width_bytes Half = 2
width_bytes Word = 4

-- A directive. None of a source of one instruction set chooses another.
abbrev pub told_order : Order → declared_order.Order
told_order (data_of name width ss) = Data name (width_for width) ss
told_order (text t) = Bytes t
told_order (space n) = Space n
told_order (origin n) = Origin n
told_order (align n) = Align n
told_order (in_set m) = Malformed []
told_order (malformed name) = Malformed name

-- What the directive of a name says where there is one instruction set, with these words.
abbrev pub room_order : List ℕ → List ℕ → Order
room_order name rest =
    if same_text name (codes ".space") then space_order name rest
    else if same_text name (codes ".org") then origin_order name rest
    else if same_text name (codes ".align") then align_order name rest
    else malformed name

abbrev pub one_set_order : List (List ℕ) → List ℕ → List ℕ → Order
one_set_order words name rest =
    if same_text name (codes ".byte") then data_order words name 1 rest
    else if same_text name (codes ".half") then data_order words name 2 rest
    else if same_text name (codes ".word") then data_order words name 4 rest
    else if same_text name (codes ".ascii") then text_order name rest
    else room_order name rest

abbrev pub told_content : Content → declared.Content
told_content (order o) = laid.Directive (told_order o)
told_content (parts ps) = laid.Bundle (told_parts ps)

-- A place in a source of one instruction set.
abbrev pub place_in : Machine → ℕ → List Label → Place
place_in m address labels = record { address = address; machine = m; labels = labels }

-- What a statement lays down at an address.
abbrev pub content_at : Machine → ℕ → Statement → declared.Content
content_at m address s = told_content (content_of (only_set m) (place_in m address []) s)

-- How many bytes that is.
abbrev pub order_size : ℕ → declared_order.Order → ℕ
order_size address (Data name width ss) = width_bytes width * length ss
order_size address (Bytes t) = length t
order_size address (Space n) = n
order_size address (Origin n) = n - address
order_size address (Align n) = up_to_multiple n address
order_size address (Malformed name) = 0

abbrev pub parts_size : Machine → List Part → ℕ
parts_size m [] = 0
parts_size m (p ∷ ps) = part_size m p + parts_size m ps

abbrev pub content_size : Machine → ℕ → declared.Content → ℕ
content_size m address (laid.Directive o) = order_size address o
content_size m address (laid.Bundle ps) = parts_size m ps
