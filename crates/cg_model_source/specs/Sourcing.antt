-- What the lines of a source lay down, each at its own address.
use Rattle.std.specs.Prelude.{ℕ, ◌+◌, ◌-◌, ◌%◌, Bool, true, false, ◌&&◌, ◌==◌, nat_le, if◌then◌else◌, List, [], ◌∷◌, ◌++◌, length, Option, Some, None}
use Rattle.std.specs.List.{flat_map}
use Rattle.std.specs.Option.{option_map}
use Rattle.cg_base.specs.Numerals.{number_written}
use Rattle.cg_base.specs.Texts.{same_text}
use Rattle.cg_model_source.specs.Bundling.{BundlePart, empty, refused, stands, parts_at}
use Rattle.cg_model_source.specs.Choosing.{Choice}
use Rattle.cg_model_source.specs.Lining.{Line, Statement, nothing, directive, bundle, parted_at, trimmed_all, read_line}
use Rattle.cg_model.specs.Matching.{length_of}
use Rattle.cg_model_source.specs.Spelling.{keywords, sum_of}
use Rattle.cg_model.specs.declared.machine.Machine.{Machine}
use Rattle.cg_model_source.specs.declared.written.Sum.{Sum}
use Rattle.std.specs.Prelude.{codes}

-- An instruction set: its name, and its machine.
pub record InstructionSet : Type 0 where
  pub name : List ℕ
  pub machine : Machine

-- The instruction sets of a source. It begins in the first. Whether lines may choose among them is said too.
pub record InstructionSets : Type 0 where
  pub first : InstructionSet
  pub others : List InstructionSet
  pub chosen : Bool

-- A machine by itself.
abbrev pub only_set : Machine → InstructionSets
only_set m = record { first = record { name = m.name; machine = m }; others = []; chosen = false }

-- A keyword of any of the sets is no label.
abbrev pub all_keywords : InstructionSets → List (List ℕ)
all_keywords s = flat_map (λ set. keywords set.machine) (s.first ∷ s.others)

abbrev pub set_named : List ℕ → List InstructionSet → Option Machine
set_named name [] = None
set_named name (x ∷ xs) = if same_text name x.name then Some x.machine else set_named name xs

-- What a directive says: sums, each in so many bytes; bytes; so many zeros; zeros up to an address, or up to a multiple of a number;
-- the instruction set of the lines behind it; or nothing, since it isn't as such a directive is.
pub data Order : Type 0 where
  data_of : (name : List ℕ) → (width : ℕ) → List Sum → Order
  text : List ℕ → Order
  space : ℕ → Order
  origin : ℕ → Order
  align : ℕ → Order
  in_set : Machine → Order
  malformed : (name : List ℕ) → Order

abbrev pub sum_in_front : Option Sum → Option (List Sum) → Option (List Sum)
sum_in_front (Some s) (Some ss) = Some (s ∷ ss)
sum_in_front _ _ = None

abbrev pub sums_of : List (List ℕ) → List (List ℕ) → Option (List Sum)
sums_of words [] = Some []
sums_of words (t ∷ ts) = sum_in_front (sum_of words t) (sums_of words ts)

-- Sums, separated by commas.
abbrev pub data_order : List (List ℕ) → List ℕ → ℕ → List ℕ → Order
data_order words name width rest = elim (sums_of words (trimmed_all (parted_at 44 rest))) [ None ↦ malformed name | Some ss ↦ data_of name width ss ]

-- What stands up to a `"` that ends the text.
abbrev pub up_to_quote : List ℕ → Option (List ℕ)
up_to_quote [] = None
up_to_quote (b ∷ []) = if b == 34 then Some [] else None
up_to_quote (b ∷ c ∷ cs) = if b == 34 then None else option_map (λ t. b ∷ t) (up_to_quote (c ∷ cs))

abbrev pub quoted : List ℕ → Option (List ℕ)
quoted [] = None
quoted (b ∷ bs) = if b == 34 then up_to_quote bs else None

abbrev pub text_order : List ℕ → List ℕ → Order
text_order name rest = elim (quoted rest) [ None ↦ malformed name | Some t ↦ text t ]

abbrev pub space_order : List ℕ → List ℕ → Order
space_order name rest = elim (number_written rest) [ None ↦ malformed name | Some n ↦ space n ]

abbrev pub origin_order : List ℕ → List ℕ → Order
origin_order name rest = elim (number_written rest) [ None ↦ malformed name | Some n ↦ origin n ]

abbrev pub align_by : List ℕ → ℕ → Order
align_by name n = if nat_le 1 n && nat_le n 4096 then align n else malformed name

abbrev pub align_order : List ℕ → List ℕ → Order
align_order name rest = elim (number_written rest) [ None ↦ malformed name | Some n ↦ align_by name n ]

abbrev pub set_order : InstructionSets → List ℕ → List ℕ → Order
set_order s name rest = elim (if s.chosen then set_named rest (s.first ∷ s.others) else None) [ None ↦ malformed name | Some m ↦ in_set m ]

-- What the directive of a name says, with what stands behind the name.
abbrev pub order_of : InstructionSets → List ℕ → List ℕ → Order
order_of s name rest =
    if same_text name (codes ".byte") then data_order (all_keywords s) name 1 rest
    else if same_text name (codes ".half") then data_order (all_keywords s) name 2 rest
    else if same_text name (codes ".word") then data_order (all_keywords s) name 4 rest
    else if same_text name (codes ".ascii") then text_order name rest
    else if same_text name (codes ".space") then space_order name rest
    else if same_text name (codes ".org") then origin_order name rest
    else if same_text name (codes ".align") then align_order name rest
    else set_order s name rest

-- A label and its address.
pub record Label : Type 0 where
  pub name : List ℕ
  pub address : ℕ

-- Where a line stands: its address, the machine of its instruction set, and the labels of the lines before it.
pub record Place : Type 0 where
  pub address : ℕ
  pub machine : Machine
  pub labels : List Label

-- What a line says at its place: a directive, or the instructions of a bundle, of which an empty line has none.
pub data Content : Type 0 where
  order : Order → Content
  parts : List BundlePart → Content

pub record Reading : Type 0 where
  pub label : Option (List ℕ)
  pub content : Content

abbrev pub content_of : InstructionSets → Place → Statement → Content
content_of s p nothing = parts []
content_of s p (directive name rest) = order (order_of s name rest)
content_of s p (bundle texts) = parts (parts_at p.machine (all_keywords s) p.address texts)

abbrev pub reading_of : InstructionSets → Place → Line → Reading
reading_of s p l = record { label = l.label; content = content_of s p l.statement }

unfoldable pub reading : InstructionSets → Place → List ℕ → Reading
reading s p line = reading_of s p (read_line line)

-- What is laid down: bytes, a gap of zeros, a datum of a directive, or an instruction at an address, in front of another one or not.
pub data Item : Type 0 where
  bytes : List ℕ → Item
  gap : ℕ → Item
  datum : (name : List ℕ) → (width : ℕ) → Sum → Item
  instruction : (address : ℕ) → Choice → (more : Bool) → Item

abbrev pub data_items : List ℕ → ℕ → List Sum → List Item
data_items name width [] = []
data_items name width (s ∷ ss) = datum name width s ∷ data_items name width ss

-- How far it is from an address to the next multiple of a number.
abbrev pub up_to_multiple : ℕ → ℕ → ℕ
up_to_multiple n address = (n - address % n) % n

abbrev pub order_items : ℕ → Order → List Item
order_items address (data_of name width ss) = data_items name width ss
order_items address (text t) = bytes t ∷ []
order_items address (space n) = gap n ∷ []
order_items address (origin n) = gap (n - address) ∷ []
order_items address (align n) = gap (up_to_multiple n address) ∷ []
order_items address (in_set m) = []
order_items address (malformed name) = []

abbrev pub is_more : List BundlePart → Bool
is_more [] = false
is_more (p ∷ ps) = true

abbrev pub part_items : BundlePart → Bool → List Item
part_items empty more = []
part_items (refused fault) more = []
part_items (stands address c) more = instruction address c more ∷ []

abbrev pub parts_items : List BundlePart → List Item
parts_items [] = []
parts_items (p ∷ ps) = part_items p (is_more ps) ++ parts_items ps

abbrev pub items_of : ℕ → Content → List Item
items_of address (order o) = order_items address o
items_of address (parts ps) = parts_items ps

abbrev pub item_size : Machine → Item → ℕ
item_size m (bytes t) = length t
item_size m (gap n) = n
item_size m (datum name width s) = width
item_size m (instruction address c more) = length_of m c.insn

abbrev pub items_size : Machine → List Item → ℕ
items_size m [] = 0
items_size m (x ∷ xs) = item_size m x + items_size m xs

-- How many bytes a line lays down.
abbrev pub line_size : Place → Reading → ℕ
line_size p r = items_size p.machine (items_of p.address r.content)

-- The machine of the lines behind.
abbrev pub machine_after : Machine → Content → Machine
machine_after m (order (in_set x)) = x
machine_after m _ = m

abbrev pub labels_with : Option (List ℕ) → ℕ → List Label → List Label
labels_with None address labels = labels
labels_with (Some name) address labels = record { name = name; address = address } ∷ labels

-- The place behind a line. Its label has the line's own address.
abbrev pub place_after : Place → Reading → Place
place_after p r = record { address = p.address + line_size p r; machine = machine_after p.machine r.content; labels = labels_with r.label p.address p.labels }

-- The address of a label.
abbrev pub address_of : List Label → List ℕ → Option ℕ
address_of [] name = None
address_of (l ∷ ls) name = if same_text l.name name then Some l.address else address_of ls name
