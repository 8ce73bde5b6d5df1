-- The image of a source: each line at the address behind the lines before it, and each label at its line's address.
use Rattle.std.specs.Prelude.{ℕ, suc, ◌+◌, ◌*◌, ◌-◌, ◌^◌, min, if◌then◌else◌, List, [], ◌∷◌, ◌++◌, replicate, Option, Some, None, Result, Ok, Err}
use Rattle.cg_base.specs.Bytes.{bytes_of}
use Rattle.cg_base.specs.Operations.{wrapped}
use Rattle.cg_base.specs.Refusing.{first}
use Rattle.cg_model_source.specs.Bundling.{instruction_bytes}
use Rattle.cg_model_source.specs.Choosing.{SourceFault}
use Rattle.cg_model_source.specs.Lining.{is_readable, parted_at}
use Rattle.cg_model_source.specs.Sourcing.{InstructionSets, all_keywords, Label, Place, Reading, reading, line_size, place_after, Item, items_of, bytes, gap, datum, instruction}
use Rattle.cg_model.specs.declared.machine.Machine.{Machine}
use Rattle.cg_model_source.specs.E601.{unknown_texts}
use Rattle.cg_model_source.specs.E602.{unfit_texts}
use Rattle.cg_model_source.specs.E603.{taken_label}
use Rattle.cg_model_source.specs.E604.{undefined_items}
use Rattle.cg_model_source.specs.E605.{unfit_items, number_with, numbers_with}
use Rattle.cg_model_source.specs.E606.{below_address}
use Rattle.cg_model_source.specs.E607.{too_large}
use Rattle.cg_model_source.specs.E608.{malformed_line, malformed_content}
use Rattle.cg_model_source.specs.E609.{too_wide_content}

-- Why a source is refused, and on which line.
pub record SourceRefusal : Type 0 where
  pub number : ℕ
  pub line : ℕ
  pub text : List ℕ
  pub other : List ℕ

-- A line past 2 ^ 32 - 1 is said to be that one.
abbrev pub on_line : ℕ → SourceFault → SourceRefusal
on_line n fault = record { number = fault.number; line = min n (2 ^ 32 - 1); text = fault.text; other = fault.other }

-- What is wrong with a line at its place while labels aren't known, by number and then from left to right. The image begins at a base.
abbrev pub reading_faults : InstructionSets → ℕ → Place → Reading → List SourceFault
reading_faults s base p r =
    unknown_texts r.content ++ unfit_texts r.content ++ taken_label (all_keywords s) p.labels r.label ++ below_address p.address r.content ++
    too_large p.machine.word_bits base (p.address + line_size p r) ++ malformed_content r.content ++ too_wide_content p.machine.width r.content

-- The first of them. A line that can't be read has no other.
abbrev pub line_fault : InstructionSets → ℕ → Place → List ℕ → Option SourceFault
line_fault s base p line = if is_readable 4096 line then first (reading_faults s base p (reading s p line)) else Some malformed_line

-- A line that has its place: its number, the machine of its instruction set, and what it lays down.
pub record Laid : Type 0 where
  pub number : ℕ
  pub machine : Machine
  pub items : List Item

-- All lines in their places, and all labels.
pub record Layout : Type 0 where
  pub lines : List Laid
  pub labels : List Label

abbrev pub laid : ℕ → Place → Reading → Laid
laid n p r = record { number = n; machine = p.machine; items = items_of p.address r.content }

abbrev pub laid_before : Laid → Result Layout SourceRefusal → Result Layout SourceRefusal
laid_before line (Ok rest) = Ok (record { lines = line ∷ rest.lines; labels = rest.labels })
laid_before line (Err refusal) = Err refusal

abbrev pub unless_refused : ℕ → Option SourceFault → Result Layout SourceRefusal → Result Layout SourceRefusal
unless_refused n None layout = layout
unless_refused n (Some fault) layout = Err (on_line n fault)

-- The lines from number n on, the first of them at this place; or the first that is at fault.
abbrev pub layout_from : InstructionSets → ℕ → ℕ → Place → List (List ℕ) → Result Layout SourceRefusal
layout_from s base n p [] = Ok (record { lines = []; labels = p.labels })
layout_from s base n p (line ∷ lines) =
    unless_refused n (line_fault s base p line) (laid_before (laid n p (reading s p line)) (layout_from s base (suc n) (place_after p (reading s p line)) lines))

-- What is wrong with a line once all labels are known.
abbrev pub laid_faults : List Label → Laid → List SourceFault
laid_faults labels line = undefined_items labels line.items ++ unfit_items line.machine labels line.items

abbrev pub item_bytes : Machine → List Label → Item → List ℕ
item_bytes m labels (bytes t) = t
item_bytes m labels (gap n) = replicate n 0
item_bytes m labels (datum name width s) = bytes_of m.data_endian width (wrapped (8 * width) (number_with labels s))
item_bytes m labels (instruction address c more) = instruction_bytes m more address c (numbers_with labels c.sums)

abbrev pub items_bytes : Machine → List Label → List Item → List ℕ
items_bytes m labels [] = []
items_bytes m labels (x ∷ xs) = item_bytes m labels x ++ items_bytes m labels xs

abbrev pub in_front : List ℕ → Result (List ℕ) SourceRefusal → Result (List ℕ) SourceRefusal
in_front front (Ok rest) = Ok (front ++ rest)
in_front front (Err refusal) = Err refusal

abbrev pub unless_unfit : ℕ → Option SourceFault → Result (List ℕ) SourceRefusal → Result (List ℕ) SourceRefusal
unless_unfit n None image = image
unless_unfit n (Some fault) image = Err (on_line n fault)

-- The bytes of lines that have their places, all labels known; or the first line that is at fault now.
abbrev pub joined : List Label → List Laid → Result (List ℕ) SourceRefusal
joined labels [] = Ok []
joined labels (line ∷ lines) = unless_unfit line.number (first (laid_faults labels line)) (in_front (items_bytes line.machine labels line.items) (joined labels lines))

abbrev pub image_of : Result Layout SourceRefusal → Result (List ℕ) SourceRefusal
image_of (Ok layout) = joined layout.labels layout.lines
image_of (Err refusal) = Err refusal

-- The place of the first line.
abbrev pub start : InstructionSets → ℕ → Place
start s base = record { address = base; machine = s.first.machine; labels = [] }

abbrev pub image_from : InstructionSets → ℕ → Option SourceFault → List ℕ → Result (List ℕ) SourceRefusal
image_from s base (Some fault) source = Err (on_line 0 fault)
image_from s base None source = image_of (layout_from s base 1 (start s base) (parted_at 10 source))

-- The image of a source at a base, or why it is refused. That the base itself is too high is said of no line.
unfoldable pub image : InstructionSets → ℕ → List ℕ → Result (List ℕ) SourceRefusal
image s base source = image_from s base (first (too_large s.first.machine.word_bits base base)) source
