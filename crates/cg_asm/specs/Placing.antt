-- Lines in their places, one by one, in a source of one instruction set.
use Rattle.std.specs.Prelude.{ℕ, suc, ◌+◌, List, [], ◌∷◌, ◌++◌, Option, Some, None, Result, Ok, Err}
use Rattle.cg_asm_directives.specs.Faulting.{told_first, on_line}
use Rattle.cg_asm_labels.specs.Joining.{lines_put}
use Rattle.cg_asm_directives.specs.Telling.{told_content, place_in}
use Rattle.cg_asm_directives.specs.declared.content.Content.{Content}
use Rattle.cg_asm_labels.specs.declared.joining.Laid.{Laid}
use Rattle.cg_asm.specs.declared.placing.Layout.{Layout}
use Rattle.cg_asm.specs.declared.assembling.AsmStop.{AsmStop}
use Rattle.cg_asm.specs.declared.assembling.AsmStop.TheVariants as stop
use Rattle.cg_asm.specs.declared.assembling.SourceRefusal as declared
use Rattle.cg_base.specs.declared.refusal.Refusal.{Refusal}
use Rattle.cg_syntax_choose.specs.Trying.{fault_refusal}
use Rattle.cg_model_source.specs.Imaging.{SourceRefusal, reading_faults, line_fault}
use Rattle.cg_model_source.specs.Lining.{Line}
use Rattle.cg_model_source.specs.Sourcing.{Place, Reading, reading, reading_of, only_set, labels_with, line_size}
use Rattle.cg_model.specs.declared.machine.Machine.{Machine}
use Rattle.std.specs.Option.{option_map}

abbrev pub place_of : Machine → Layout → Place
place_of m l = place_in m l.address l.labels

-- A line that has its place.
abbrev pub laid_line : ℕ → ℕ → Content → Laid
laid_line n address content = record { line = n; address = address; content = content }

abbrev pub placed : ℕ → ℕ → Reading → Laid
placed n address r = laid_line n address (told_content r.content)

abbrev pub line_behind : Machine → ℕ → Layout → Reading → Layout
line_behind m n l r = record { labels = labels_with r.label l.address l.labels; lines = l.lines ++ placed n l.address r ∷ []; address = l.address + line_size (place_of m l) r }

abbrev pub unless_at_fault : ℕ → Option Refusal → Layout → Result Layout Refusal
unless_at_fault n None l = Ok l
unless_at_fault n (Some r) l = Err (on_line n r)

-- The line of this number, behind others, as it reads; and by its text.
abbrev pub read_laid : Machine → ℕ → ℕ → Layout → Line → Result Layout Refusal
read_laid m base n l line =
    let r = reading_of (only_set m) (place_of m l) line in
    unless_at_fault n (told_first (reading_faults (only_set m) base (place_of m l) r)) (line_behind m n l r)

abbrev pub line_laid : Machine → ℕ → ℕ → Layout → List ℕ → Result Layout Refusal
line_laid m base n l text = unless_at_fault n (option_map fault_refusal (line_fault (only_set m) base (place_of m l) text)) (line_behind m n l (reading (only_set m) (place_of m l) text))

abbrev pub then_laid : (Layout → Result Layout Refusal) → Result Layout Refusal → Result Layout Refusal
then_laid next (Ok l) = next l
then_laid next (Err r) = Err r

-- The lines from a number on.
abbrev pub lines_laid : Machine → ℕ → ℕ → Layout → List (List ℕ) → Result Layout Refusal
lines_laid m base n l [] = Ok l
lines_laid m base n l (t ∷ ts) = then_laid (λ k. lines_laid m base (suc n) k ts) (line_laid m base n l t)

abbrev pub no_lines : ℕ → Layout
no_lines base = record { labels = []; lines = []; address = base }

-- The bytes of lines in their places.
abbrev pub layout_bytes : Machine → Result Layout Refusal → Result (List ℕ) Refusal
layout_bytes m (Ok l) = lines_put m l.labels l.lines []
layout_bytes m (Err r) = Err r

-- A refusal of a source, of whatever file.
abbrev pub told_refusal : Refusal → declared.SourceRefusal
told_refusal r = record { number = r.number; line = r.line; text = r.text; other = r.other }

-- The same of the definitions.
abbrev pub image_refusal : SourceRefusal → Refusal
image_refusal r = record { number = r.number; file = 0; line = r.line; text = r.text; other = r.other }

abbrev pub told_image : Result (List ℕ) SourceRefusal → Result (List ℕ) Refusal
told_image (Ok bytes) = Ok bytes
told_image (Err r) = Err (image_refusal r)

abbrev pub seen_refusal : declared.SourceRefusal → SourceRefusal
seen_refusal r = record { number = r.number; line = r.line; text = r.text; other = r.other }

-- What was answered is such, or its refusal is such, or memory ran out.
abbrev pub AnswersSource : {A : Type 0} → (A → Type 0) → (declared.SourceRefusal → Type 0) → Result A AsmStop → Type 0
AnswersSource is refuses (Ok answer) = is answer
AnswersSource is refuses (Err (stop.Refused r)) = refuses r
AnswersSource is refuses (Err stop.NoMemory) = Unit {0}
