-- What a text may be, tried in order.
use Rattle.std.specs.Prelude.{ℕ, List, [], ◌∷◌, ◌++◌, Option, Some, None, Result, Ok, Err, slice_get}
use Rattle.std.specs.Option.{option_or, option_map}
use Rattle.cg_base.specs.declared.refusal.Refusal.{Refusal}
use Rattle.cg_syntax_choose.specs.declared.trying.Choice as declared
use Rattle.cg_syntax_fit.specs.Misfits.{said, refused_for}
use Rattle.cg_syntax_fit.specs.declared.misfit.Misfit.{Misfit}
use Rattle.cg_model_source.specs.Choosing.{Choice, Objection, SourceFault, choice_objection, as_written, as_emitted, split_by_insn, split_by_macro, insns_splitting, macros_splitting}
use Rattle.cg_model.specs.declared.insn.Insn.{Insn}
use Rattle.cg_model.specs.declared.machine.Machine.{Machine}
use Rattle.cg_model_faults.specs.E313.{slot_operands}

-- What is chosen, by the number of the instruction.
abbrev pub told_choice : Choice → declared.Choice
told_choice c = record { insn = c.number; sums = c.sums }

-- A fault as a refusal, of no file and no line.
abbrev pub fault_refusal : SourceFault → Refusal
fault_refusal f = record { number = f.number; file = 0; line = 0; text = f.text; other = f.other }

abbrev pub told : Result Choice SourceFault → Result declared.Choice Refusal
told (Ok c) = Ok (told_choice c)
told (Err fault) = Err (fault_refusal fault)

-- What came of trying: what is chosen, and what is wrong with the first that is not.
pub record Outcome : Type 0 where
  pub chosen : Option declared.Choice
  pub first : Option Objection

abbrev pub outcome : Machine → Option declared.Choice → Option Misfit → Outcome
outcome m chosen first = record { chosen = chosen; first = option_map (said m) first }

-- Each is tried until one fits.
abbrev pub trying : Machine → ℕ → Option Objection → List Choice → Outcome
trying m pc first [] = record { chosen = None; first = first }
trying m pc first (c ∷ cs) = elim (choice_objection m pc c) [ None ↦ record { chosen = Some (told_choice c); first = first } | Some o ↦ trying m pc (option_or first (Some o)) cs ]

-- A choice of this instruction.
abbrev pub as_choice : declared.Choice → Insn → Choice
as_choice c i = record { number = c.insn; insn = i; sums = c.sums }

abbrev pub choice_at : Machine → declared.Choice → List Choice
choice_at m c = elim (slice_get m.insns c.insn) [ None ↦ [] | Some i ↦ as_choice c i ∷ [] ]

abbrev pub operands_at : Machine → ℕ → List ℕ
operands_at m k = elim (slice_get m.insns k) [ None ↦ [] | Some i ↦ slot_operands i.parts ]

-- What a squeezed text may be by the instruction of a number, and by the macro instruction of a number.
abbrev pub written_at : Machine → List (List ℕ) → List ℕ → ℕ → List Choice
written_at m words text k = elim (slice_get m.insns k) [ None ↦ [] | Some i ↦ as_written k i (split_by_insn m words text i) ]

abbrev pub emitted_at : Machine → List (List ℕ) → List ℕ → ℕ → List Choice
emitted_at m words text k = elim (slice_get m.macros k) [ None ↦ [] | Some x ↦ as_emitted x (slice_get m.insns x.target) (split_by_macro m words text x) ]

abbrev pub splitting_squeezed : Machine → List (List ℕ) → List ℕ → List Choice
splitting_squeezed m words text = insns_splitting m words text 0 m.insns ++ macros_splitting m words text m.macros

-- Why a squeezed text is no instruction.
abbrev pub unfit_refusal : Option Objection → List ℕ → Refusal
unfit_refusal (Some o) text = refused_for 602 o
unfit_refusal None text = record { number = 601; file = 0; line = 0; text = text; other = [] }
