-- E312: a slot is not delimited.
use Rattle.std.specs.Prelude.{ℕ, if◌then◌else◌, List, [], ◌++◌, map, Option, Some, None}
use Rattle.std.specs.List.{flat_map}
use Rattle.cg_base.specs.Refusing.{first}
use Rattle.cg_insn.specs.declared.form.MacroForm.{MacroForm}
use Rattle.cg_desc_elements.specs.declared.element.Element.{Element}
use Rattle.cg_model.specs.declared.machine.Machine.{Machine}
use Rattle.cg_model_faults.specs.E312.{undelimited}
use Rattle.cg_desc_choices.specs.declared.written.Written.{Written}
use Rattle.cg_desc_choices.specs.declared.written.WrittenPiece.{WrittenPiece}
use Rattle.cg_desc_insns.specs.Written.{all_pieces}
use Rattle.cg_desc_scope.specs.Described.{Described}
use Rattle.cg_desc_machine.specs.Instructions.{slot_names, pieces_of, number_or_none}
use Rattle.cg_desc_machine.specs.Macros.{macro_in, macro_slots}
use Rattle.cg_desc_fault_report.specs.declared.saying.Saying.{Saying}
use Rattle.cg_desc_fault_report.specs.declared.saying.Placed.{Placed}
use Rattle.cg_desc_fault_report.specs.Saying.{earliest_said}
use Rattle.cg_desc_fault_report.specs.Spots.{at_piece, kept_spots, first_at}

-- In a syntax whose slots have these names, at the first slot that isn't.
abbrev pub of_syntax : Described → Machine → List ℕ → List (List ℕ) → List WrittenPiece → List Placed
of_syntax d m own slots ps = first_at (at_piece m own (kept_spots slots ps)) (first (undelimited m (map (number_or_none d.operand_numbers) slots) (pieces_of slots ps)))

abbrev pub of_written : Described → Machine → Written → List Placed
of_written d m w = of_syntax d m w.name (slot_names d w) w.pieces

abbrev pub of_macro_form : Described → Machine → MacroForm → List Placed
of_macro_form d m form = of_syntax d m form.name (macro_slots d.operand_numbers form) (all_pieces form.syntax)

abbrev pub of_macro : Described → Machine → Option MacroForm → List Placed
of_macro d m None = []
of_macro d m (Some form) = of_macro_form d m form

-- The instructions of a form, or a macro instruction, where sizes are known.
abbrev pub e312 : Described → Machine → Element → List Written → List Saying
e312 d m e ws = if d.framing.is_sized then earliest_said (flat_map (of_written d m) ws ++ of_macro d m (macro_in e)) else []
