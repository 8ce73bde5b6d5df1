-- What is wrong with a line, as refusals of no file and no line.
use Rattle.std.specs.Prelude.{ℕ, nat_lt, if◌then◌else◌, List, [], ◌∷◌, ℤ, Option, Some, None}
use Rattle.std.specs.Option.{option_or, option_map}
use Rattle.cg_asm_directives.specs.Faulting.{told_first, unfit_in, unfit_refusal}
use Rattle.cg_asm_directives.specs.declared.content.Content.{Content}
use Rattle.cg_asm_directives.specs.declared.content.Content.TheVariants.{Directive, Bundle}
use Rattle.cg_asm_directives.specs.declared.order.Order.{Order}
use Rattle.cg_asm_directives.specs.declared.order.Order.TheVariants.{Data, Origin, Malformed}
use Rattle.cg_asm_directives.specs.declared.order.Width.{Width}
use Rattle.cg_base.specs.Numerals.{hex_text}
use Rattle.cg_base.specs.declared.refusal.Refusal.{Refusal}
use Rattle.cg_model_source.specs.Choosing.{known}
use Rattle.cg_model_source.specs.Sourcing.{Label}
use Rattle.cg_model.specs.declared.machine.Machine.{Machine}
use Rattle.cg_model_source.specs.declared.written.Sum.{Sum}
use Rattle.cg_model_source.specs.E603.{taken_label}
use Rattle.cg_model_source.specs.E607.{too_large}
use Rattle.cg_syntax.specs.Faulting.{said_alone, where_empty, where_wide}
use Rattle.cg_syntax.specs.Telling.{first_refused}

-- A number of a directive without labels that does not fit.
abbrev pub unfit_known : Width → Option ℤ → Option ℤ
unfit_known width None = None
unfit_known width (Some z) = unfit_in width z

abbrev pub first_unfit : Width → List Sum → Option ℤ
first_unfit width [] = None
first_unfit width (s ∷ ss) = option_or (unfit_known width (known s)) (first_unfit width ss)

-- E602 of a directive.
abbrev pub unfit_data : Order → Option Refusal
unfit_data (Data name width ss) = option_map (unfit_refusal 602 name) (first_unfit width ss)
unfit_data _ = None

-- E601 and E602.
abbrev pub text_fault : Content → Option Refusal
text_fault (Directive o) = unfit_data o
text_fault (Bundle ps) = option_or (first_refused 601 ps) (first_refused 602 ps)

-- E606.
abbrev pub origin_fault : ℕ → Content → Option Refusal
origin_fault address (Directive (Origin n)) = if nat_lt n address then Some (said_alone 606 (hex_text n)) else None
origin_fault address _ = None

-- E608 and E609.
abbrev pub form_fault : ℕ → Content → Option Refusal
form_fault width (Directive (Malformed name)) = Some (said_alone 608 name)
form_fault width (Directive _) = None
form_fault width (Bundle ps) = option_or (where_empty ps) (where_wide width ps)

-- All of them of a line that stands at an address, in front of an end. The image begins at a base.
abbrev pub content_fault : Machine → List (List ℕ) → ℕ → ℕ → ℕ → List Label → Option (List ℕ) → Content → Option Refusal
content_fault m words base address end labels label c =
    option_or (text_fault c) (option_or (told_first (taken_label words labels label)) (option_or (origin_fault address c) (option_or (told_first (too_large m.word_bits base end)) (form_fault m.width c))))
