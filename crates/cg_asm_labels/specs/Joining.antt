-- The bytes of lines that have their places, all labels known, and what is wrong with one now.
use Rattle.std.specs.Prelude.{ℕ, ◌*◌, Bool, List, [], ◌∷◌, ◌++◌, replicate, ℤ, Option, Some, None, Result, Ok, Err}
use Rattle.std.specs.Option.{option_or, option_map}
use Rattle.cg_asm_directives.specs.Faulting.{told_first, on_line, unfit_in, unfit_refusal}
use Rattle.cg_asm_directives.specs.Telling.{width_bytes, order_size}
use Rattle.cg_asm_directives.specs.declared.content.Content.{Content}
use Rattle.cg_asm_directives.specs.declared.content.Content.TheVariants.{Directive, Bundle}
use Rattle.cg_asm_labels.specs.declared.joining.Laid.{Laid}
use Rattle.cg_asm_directives.specs.declared.order.Order.{Order}
use Rattle.cg_asm_directives.specs.declared.order.Order.TheVariants.{Data, Bytes, Space, Origin, Align, Malformed}
use Rattle.cg_asm_directives.specs.declared.order.Width.{Width}
use Rattle.cg_base.specs.Bytes.{bytes_of}
use Rattle.cg_base.specs.Operations.{wrapped}
use Rattle.cg_base.specs.declared.refusal.Refusal.{Refusal}
use Rattle.cg_syntax_fit.specs.Misfits.{refused_for}
use Rattle.cg_model_source.specs.Sourcing.{Label}
use Rattle.cg_model.specs.declared.machine.Machine.{Machine}
use Rattle.cg_model_source.specs.declared.written.Sum.{Sum}
use Rattle.cg_model_source.specs.E604.{undefined_sums}
use Rattle.cg_model_source.specs.E605.{number_with, numbers_with}
use Rattle.cg_syntax.specs.Laying.{AreWithin, objection_at, bytes_at, is_more}
use Rattle.cg_syntax.specs.declared.bundle.Part.{Part}
use Rattle.cg_syntax.specs.declared.bundle.Part.TheVariants.{Stands}

-- E604.
abbrev pub undefined_part : List Label → Part → Option Refusal
undefined_part labels (Stands address c) = told_first (undefined_sums labels c.sums)
undefined_part labels _ = None

abbrev pub undefined_parts : List Label → List Part → Option Refusal
undefined_parts labels [] = None
undefined_parts labels (p ∷ ps) = option_or (undefined_part labels p) (undefined_parts labels ps)

abbrev pub undefined_in : List Label → Content → Option Refusal
undefined_in labels (Directive (Data name width ss)) = told_first (undefined_sums labels ss)
undefined_in labels (Directive _) = None
undefined_in labels (Bundle ps) = undefined_parts labels ps

-- E605.
abbrev pub first_unfit_with : List Label → Width → List Sum → Option ℤ
first_unfit_with labels width [] = None
first_unfit_with labels width (s ∷ ss) = option_or (unfit_in width (number_with labels s)) (first_unfit_with labels width ss)

abbrev pub unfit_part : Machine → List Label → Part → Option Refusal
unfit_part m labels (Stands address c) = option_map (refused_for 605) (objection_at m c (numbers_with labels c.sums) address)
unfit_part m labels _ = None

abbrev pub unfit_parts : Machine → List Label → List Part → Option Refusal
unfit_parts m labels [] = None
unfit_parts m labels (p ∷ ps) = option_or (unfit_part m labels p) (unfit_parts m labels ps)

abbrev pub unfit_order : List Label → Order → Option Refusal
unfit_order labels (Data name width ss) = option_map (unfit_refusal 605 name) (first_unfit_with labels width ss)
unfit_order labels _ = None

abbrev pub unfit_content : Machine → List Label → Content → Option Refusal
unfit_content m labels (Directive o) = unfit_order labels o
unfit_content m labels (Bundle ps) = unfit_parts m labels ps

-- The bytes.
abbrev pub datum_bytes : Machine → List Label → Width → Sum → List ℕ
datum_bytes m labels width s = bytes_of m.data_endian (width_bytes width) (wrapped (8 * width_bytes width) (number_with labels s))

abbrev pub data_bytes : Machine → List Label → Width → List Sum → List ℕ
data_bytes m labels width [] = []
data_bytes m labels width (s ∷ ss) = datum_bytes m labels width s ++ data_bytes m labels width ss

abbrev pub order_bytes : Machine → List Label → ℕ → Order → List ℕ
order_bytes m labels address (Data name width ss) = data_bytes m labels width ss
order_bytes m labels address (Bytes t) = t
order_bytes m labels address (Space n) = replicate n 0
order_bytes m labels address (Origin n) = replicate (order_size address (Origin n)) 0
order_bytes m labels address (Align n) = replicate (order_size address (Align n)) 0
order_bytes m labels address (Malformed name) = []

abbrev pub part_bytes : Machine → List Label → Part → Bool → List ℕ
part_bytes m labels (Stands address c) more = bytes_at m c (numbers_with labels c.sums) address more
part_bytes m labels _ more = []

abbrev pub parts_bytes : Machine → List Label → List Part → List ℕ
parts_bytes m labels [] = []
parts_bytes m labels (p ∷ ps) = part_bytes m labels p (is_more ps) ++ parts_bytes m labels ps

abbrev pub content_bytes : Machine → List Label → ℕ → Content → List ℕ
content_bytes m labels address (Directive o) = order_bytes m labels address o
content_bytes m labels address (Bundle ps) = parts_bytes m labels ps

-- Each instruction is one that there is.
abbrev pub ContentWithin : Machine → Content → Type 0
ContentWithin m (Directive o) = Unit {0}
ContentWithin m (Bundle ps) = AreWithin m ps

abbrev pub AllWithin : Machine → List Laid → Type 0
AllWithin m [] = Unit {0}
AllWithin m (x ∷ xs) = ContentWithin m x.content × AllWithin m xs

-- A line behind others, or why it is refused; and lines one by one.
abbrev pub unless_refused : ℕ → Option Refusal → List ℕ → Result (List ℕ) Refusal
unless_refused n None bytes = Ok bytes
unless_refused n (Some r) bytes = Err (on_line n r)

abbrev pub line_put : Machine → List Label → Laid → List ℕ → Result (List ℕ) Refusal
line_put m labels x out = unless_refused x.line (option_or (undefined_in labels x.content) (unfit_content m labels x.content)) (out ++ content_bytes m labels x.address x.content)

abbrev pub then_put : (List ℕ → Result (List ℕ) Refusal) → Result (List ℕ) Refusal → Result (List ℕ) Refusal
then_put next (Ok out) = next out
then_put next (Err r) = Err r

abbrev pub lines_put : Machine → List Label → List Laid → List ℕ → Result (List ℕ) Refusal
lines_put m labels [] out = Ok out
lines_put m labels (x ∷ xs) out = then_put (lines_put m labels xs) (line_put m labels x out)
