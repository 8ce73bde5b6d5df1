-- What is wrong with a statement, by the least number.
use Rattle.std.specs.Prelude.{ℕ, nat_lt, if◌then◌else◌, List, [], length, pos, Option, Some, None, Result, Ok, Err, codes}
use Rattle.std.specs.Fmt.{signed_decimal}
use Rattle.std.specs.Option.{option_or, option_map}
use Rattle.cg_base.specs.declared.refusal.Refusal.{Refusal}
use Rattle.cg_syntax_choose.specs.Trying.{fault_refusal}
use Rattle.cg_model_source.specs.Choosing.{SourceFault}
use Rattle.cg_model.specs.declared.machine.Machine.{Machine}
use Rattle.cg_syntax.specs.Telling.{first_refused, first_label, has_empty}
use Rattle.cg_syntax.specs.declared.bundle.Part.{Part}

abbrev pub said_alone : ℕ → List ℕ → Refusal
said_alone number text = record { number = number; file = 0; line = 0; text = text; other = [] }

abbrev pub where_empty : List Part → Option Refusal
where_empty ps = if has_empty ps then Some (said_alone 608 (codes "line")) else None

abbrev pub where_wide : ℕ → List Part → Option Refusal
where_wide width ps = if nat_lt width (length ps) then Some (said_alone 609 (signed_decimal (pos width))) else None

abbrev pub statement_fault : Machine → Option (List ℕ) → List Part → Option Refusal
statement_fault m label ps =
    option_or (first_refused 601 ps) (option_or (first_refused 602 ps) (option_or (option_map (said_alone 604) label) (option_or (option_map (said_alone 604) (first_label ps)) (option_or (where_empty ps) (where_wide m.width ps)))))

-- What is refused, as a refusal of no file and no line.
abbrev pub refusal_of : Result (List ℕ) SourceFault → Option Refusal
refusal_of (Ok bytes) = None
refusal_of (Err fault) = Some (fault_refusal fault)
