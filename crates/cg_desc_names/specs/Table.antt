-- Which names a machine knows: where the first with a name stands, among those that share their names.
use Rattle.std.specs.Prelude.{◌≡◌, ℕ, ◌+◌, pos, Bool, true, false, ◌&&◌, ◌==◌, if◌then◌else◌, List, [], ◌∷◌, Option, Some, None, codes}
use Rattle.std.specs.Option.{option_or}
use Rattle.indexmap.specs.IndexMap.{get}
use Rattle.cg_base.specs.Texts.{same_text, is_among, passes}
use Rattle.cg_desc_elements.specs.declared.kind.Kind.{Kind}
use Rattle.cg_desc_elements.specs.declared.kind.Kind.TheVariants as kind
use Rattle.cg_desc_elements.specs.declared.kind.Namespace.{Namespace}
use Rattle.cg_desc_elements.specs.declared.kind.Namespace.TheVariants.{Archs, Isas, Cpus, Machs, Models, Attrs, Enums, Keywords, Fields, Hardwares, Operands, Insns, Macros, Constants}
use Rattle.cg_desc_elements.specs.declared.element.Element.{Element}
use Rattle.cg_desc_elements.specs.Kinds.{namespace_of}
use Rattle.cg_desc_elements.specs.Elements.{kind_of, name_of}
use Rattle.cg_desc_elements.specs.Belonging.{takes_part}
use Rattle.cg_desc_names.specs.declared.items.Item.{Item}
use Rattle.cg_desc_names.specs.declared.names.Standing.{Standing}
use Rattle.cg_desc_names.specs.declared.names.Two.{Two}
use Rattle.cg_desc_names.specs.declared.names.Four.{Four}
use Rattle.cg_desc_names.specs.declared.names.FrameNames.{FrameNames}
use Rattle.cg_desc_names.specs.declared.names.ElementNames.{ElementNames}
use Rattle.cg_desc_names.specs.declared.names.Names.{Names}
use Rattle.cg_desc_names.specs.Items.{constants_in}

-- For those that share their names: where the first with a name stands, which is the number of its form, 0 for what is built in, and
-- the place of a constant among those of its form, 0 for the form's own name; and the value of a constant, 0 of all else.
abbrev pub Table : Type 0
Table = Namespace → List ℕ → Option Standing

abbrev pub standing : ℕ → ℕ → Kind → Standing
standing form item k = record { form = form; item = item; kind = k; value = pos 0 }

abbrev pub constant_standing : ℕ → ℕ → Kind → Item → Standing
constant_standing form item k x = record { form = form; item = item; kind = k; value = x.value }

abbrev pub same_namespace : Namespace → Namespace → Bool
same_namespace Archs Archs = true
same_namespace Isas Isas = true
same_namespace Cpus Cpus = true
same_namespace Machs Machs = true
same_namespace Models Models = true
same_namespace Attrs Attrs = true
same_namespace Enums Enums = true
same_namespace Keywords Keywords = true
same_namespace Fields Fields = true
same_namespace Hardwares Hardwares = true
same_namespace Operands Operands = true
same_namespace Insns Insns = true
same_namespace Macros Macros = true
same_namespace Constants Constants = true
same_namespace _ _ = false

-- An element that takes part is one of these.
unfoldable pub counts_among : List ℕ → Option (List ℕ) → Namespace → Element → Bool
counts_among machine isa among e = takes_part machine isa e && same_namespace among (namespace_of (kind_of e))

-- All archs count under one name.
abbrev pub counted_as : Kind → List ℕ → List ℕ
counted_as kind.Arch name = []
counted_as k name = name

unfoldable pub counted_name : Element → List ℕ
counted_name e = counted_as (kind_of e) (name_of e)

-- what stands there says of a name: that it has it
abbrev pub at_name : List ℕ → Standing → List ℕ → Option Standing
at_name own at name = if same_text own name then Some at else None

-- Where the first element stands that takes part, is one of these and has this name, where the forms are numbered from `form` on.
abbrev pub first_from : List ℕ → Option (List ℕ) → Namespace → List ℕ → ℕ → List Element → Option Standing
first_from machine isa among name form [] = None
first_from machine isa among name form (e ∷ es) =
    if counts_among machine isa among e
    then option_or (at_name (counted_name e) (standing form 0 (kind_of e)) name) (first_from machine isa among name (form + 1) es)
    else first_from machine isa among name (form + 1) es

-- what is kept of names is what the elements say that are of these
unfoldable pub Keeps : List ℕ → Option (List ℕ) → Namespace → List Element → (List ℕ → Option Standing) → Type 0
Keeps machine isa among es held = (name : List ℕ) → held name ≡ first_from machine isa among name 1 es

-- The constants of `define-normal-insn-enum` are those of a field.
abbrev pub constant_kind : Kind → Kind
constant_kind kind.InsnEnum = kind.FieldConstant
constant_kind _ = kind.Constant

-- Where the first constant with this name stands among those of a form, the first of which has the place `item`.
abbrev pub first_item : ℕ → Kind → List ℕ → ℕ → List Item → Option Standing
first_item form k name item [] = None
first_item form k name item (x ∷ xs) = option_or (at_name x.name (constant_standing form item k x) name) (first_item form k name (item + 1) xs)

unfoldable pub first_constant_in : ℕ → List ℕ → Element → Option Standing
first_constant_in form name e = first_item form (constant_kind (kind_of e)) name 1 (constants_in e)

-- The same among all elements that take part.
abbrev pub first_constant : List ℕ → Option (List ℕ) → List ℕ → ℕ → List Element → Option Standing
first_constant machine isa name form [] = None
first_constant machine isa name form (e ∷ es) =
    if takes_part machine isa e
    then option_or (first_constant_in form name e) (first_constant machine isa name (form + 1) es)
    else first_constant machine isa name (form + 1) es

-- what is kept of constants is what the elements say
unfoldable pub KeepsConstants : List ℕ → Option (List ℕ) → List Element → (List ℕ → Option Standing) → Type 0
KeepsConstants machine isa es held = (name : List ℕ) → held name ≡ first_constant machine isa name 1 es

-- What is built in stands before all forms: five kinds of hardware, and the operand `pc`.
abbrev pub built_in_hardware : List (List ℕ)
built_in_hardware = codes "h-memory" ∷ codes "h-sint" ∷ codes "h-uint" ∷ codes "h-addr" ∷ codes "h-iaddr" ∷ []

abbrev pub built_in : Namespace → List ℕ → Option Standing
built_in Hardwares name = if is_among built_in_hardware name then Some (standing 0 0 kind.Hardware) else None
built_in Operands name = if same_text (codes "pc") name then Some (standing 0 0 kind.Pc) else None
built_in _ name = None

-- The names that a machine knows when it is selected with this instruction set.
abbrev pub table_of : List ℕ → Option (List ℕ) → List Element → Table
table_of machine isa es Constants name = first_constant machine isa name 1 es
table_of machine isa es among name = option_or (built_in among name) (first_from machine isa among name 1 es)

-- the same of two kinds, and of each four
unfoldable pub KeepsTwo : List ℕ → Option (List ℕ) → Namespace → Namespace → List Element → Two → Type 0
KeepsTwo machine isa first second es two = Keeps machine isa first es (get same_text two.first) × Keeps machine isa second es (get same_text two.second)

unfoldable pub KeepsFrames : List ℕ → Option (List ℕ) → List Element → Four → Type 0
KeepsFrames machine isa es names = KeepsTwo machine isa Archs Machs es names.first × KeepsTwo machine isa Isas Cpus es names.second

unfoldable pub KeepsWords : List ℕ → Option (List ℕ) → List Element → Four → Type 0
KeepsWords machine isa es names = KeepsTwo machine isa Models Attrs es names.first × KeepsTwo machine isa Enums Keywords es names.second

unfoldable pub KeepsElements : List ℕ → Option (List ℕ) → List Element → Four → Type 0
KeepsElements machine isa es names = KeepsTwo machine isa Fields Hardwares es names.first × KeepsTwo machine isa Operands Insns es names.second

-- and of all
unfoldable pub KeepsOthers : List ℕ → Option (List ℕ) → List Element → Two → Type 0
KeepsOthers machine isa es names = Keeps machine isa Macros es (get same_text names.first) × KeepsConstants machine isa es (get same_text names.second)

unfoldable pub KeepsFrameNames : List ℕ → Option (List ℕ) → List Element → FrameNames → Type 0
KeepsFrameNames machine isa es names = KeepsFrames machine isa es names.frames × KeepsWords machine isa es names.words

unfoldable pub KeepsElementNames : List ℕ → Option (List ℕ) → List Element → ElementNames → Type 0
KeepsElementNames machine isa es names = KeepsElements machine isa es names.elements × KeepsOthers machine isa es names.others

unfoldable pub KeepsAll : List ℕ → Option (List ℕ) → List Element → Names → Type 0
KeepsAll machine isa es names = KeepsFrameNames machine isa es names.frames × KeepsElementNames machine isa es names.elements

-- The table that the program keeps.
abbrev pub kept : Names → Table
kept names Archs name = get same_text names.frames.frames.first.first name
kept names Isas name = get same_text names.frames.frames.second.first name
kept names Cpus name = get same_text names.frames.frames.second.second name
kept names Machs name = get same_text names.frames.frames.first.second name
kept names Models name = get same_text names.frames.words.first.first name
kept names Attrs name = get same_text names.frames.words.first.second name
kept names Enums name = get same_text names.frames.words.second.first name
kept names Keywords name = get same_text names.frames.words.second.second name
kept names Fields name = get same_text names.elements.elements.first.first name
kept names Hardwares name = get same_text names.elements.elements.first.second name
kept names Operands name = get same_text names.elements.elements.second.first name
kept names Insns name = get same_text names.elements.elements.second.second name
kept names Macros name = get same_text names.elements.others.first name
kept names Constants name = get same_text names.elements.others.second name

unfoldable pub known : Names → Table
known names among name = option_or (built_in among name) (kept names among name)

-- The form of this number gives the selected instruction set.
abbrev pub gives_isa : Table → Option (List ℕ) → ℕ → Bool
gives_isa at isa form = passes (λ name. passes (λ s. s.form == form) (at Isas name)) isa
