-- Refusals of no line, and on one; numbers of directives that don't fit.
use Rattle.std.specs.Prelude.{ℕ, ◌*◌, ◌^◌, ◌-◌, min, if◌then◌else◌, List, ℤ, Option, Some, None}
use Rattle.std.specs.Fmt.{signed_decimal}
use Rattle.std.specs.Option.{option_map}
use Rattle.cg_asm_directives.specs.Telling.{width_bytes}
use Rattle.cg_asm_directives.specs.declared.order.Width.{Width}
use Rattle.cg_base.specs.Refusing.{first}
use Rattle.cg_base.specs.declared.refusal.Refusal.{Refusal}
use Rattle.cg_syntax_choose.specs.Trying.{fault_refusal}
use Rattle.cg_model_source.specs.Choosing.{SourceFault, is_within}

-- The first fault of several.
abbrev pub told_first : List SourceFault → Option Refusal
told_first faults = option_map fault_refusal (first faults)

-- A refusal on a line. A line past 2 ^ 32 - 1 is said to be that one.
abbrev pub on_line : ℕ → Refusal → Refusal
on_line n r = record { number = r.number; file = 0; line = min n (2 ^ 32 - 1); text = r.text; other = r.other }

-- A number without labels, or with their addresses, that does not fit.
abbrev pub unfit_in : Width → ℤ → Option ℤ
unfit_in width z = if is_within (8 * width_bytes width) z then None else Some z

-- What a directive says of it.
abbrev pub unfit_refusal : ℕ → List ℕ → ℤ → Refusal
unfit_refusal number name z = record { number = number; file = 0; line = 0; text = name; other = signed_decimal z }
