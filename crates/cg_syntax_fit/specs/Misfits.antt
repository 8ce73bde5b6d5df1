-- What keeps an instruction from standing for numbers.
use Rattle.std.specs.Prelude.{ℕ, if◌then◌else◌, List, [], ◌∷◌, ℤ, Option, Some, None, slice_get, codes}
use Rattle.std.specs.Fmt.{signed_decimal}
use Rattle.std.specs.Option.{option_or}
use Rattle.cg_base.specs.declared.refusal.Refusal.{Refusal}
use Rattle.cg_syntax_fit.specs.declared.misfit.Misfit.{Misfit}
use Rattle.cg_syntax_fit.specs.declared.misfit.Misfit.TheVariants.{OutOfRange, Assertion}
use Rattle.cg_model_source.specs.Choosing.{Objection, is_in_range, first_out_of_range, assertion_objection}
use Rattle.cg_model.specs.Slots.{slots_of, values}
use Rattle.cg_model.specs.declared.insn.Insn.{Insn}
use Rattle.cg_model.specs.declared.machine.Machine.{Machine}
use Rattle.cg_model.specs.declared.operand.Operand.{Operand}

-- The name of an operand of a number.
abbrev pub operand_name : Machine → ℕ → List ℕ
operand_name m k = elim (slice_get m.operands k) [ None ↦ [] | Some o ↦ o.name ]

-- What a misfit says.
abbrev pub said : Machine → Misfit → Objection
said m (OutOfRange k z) = record { text = operand_name m k; other = signed_decimal z }
said m Assertion = record { text = codes "ifield-assertion"; other = [] }

-- The refusal of a number that says so.
abbrev pub refused_for : ℕ → Objection → Refusal
refused_for number o = record { number = number; file = 0; line = 0; text = o.text; other = o.other }

-- A slot of an operand, by its number: what is wrong with a number that came back so.
abbrev pub range_misfit : Machine → ℕ → Operand → Option ℤ → ℕ → Option Misfit
range_misfit m k o None back = None
range_misfit m k o (Some z) back = if is_in_range m o z back then None else Some (OutOfRange k z)

abbrev pub misfit_at : Machine → ℕ → Option ℤ → ℕ → Option Misfit
misfit_at m k n back = elim (slice_get m.operands k) [ None ↦ None | Some o ↦ range_misfit m k o n back ]

abbrev pub first_misfit : Machine → List ℕ → List (Option ℤ) → List ℕ → Option Misfit
first_misfit m (k ∷ ks) (n ∷ ns) (back ∷ backs) = option_or (misfit_at m k n back) (first_misfit m ks ns backs)
first_misfit m _ _ _ = None

-- What keeps an instruction with these bytes from standing for numbers, at an address within the word.
abbrev pub fits_in : Machine → Insn → List (Option ℤ) → ℕ → List ℕ → Option Objection
fits_in m i numbers pc bytes = option_or (first_out_of_range m (slots_of m i.parts) numbers (values m i bytes pc)) (assertion_objection m i numbers bytes)
