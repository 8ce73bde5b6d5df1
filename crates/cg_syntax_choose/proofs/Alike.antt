-- What is chosen depends on which texts are keywords, and not on how they are listed.
use Rattle.std.specs.Prelude.{ℕ, suc, ◌==◌, if◌then◌else◌, List, [], ◌∷◌, ◌++◌, Option, Some, None, slice_get}
use Rattle.std.proofs.Common.{◌≡◌, refl, ap, ◌∙◌}
use Rattle.cg_model_source.specs.Choosing.{as_written, as_emitted, split_by_insn, split_by_macro, insns_splitting, macros_splitting, splitting, chosen_among, chosen}
use Rattle.cg_model_source.specs.Spelling.{spelled}
use Rattle.cg_model.specs.Words.{lower}
use Rattle.cg_model_source.specs.Splitting.{Spelling, operand_at, run_of, behind_run, spelling_in_front, split}
use Rattle.cg_model_source.specs.Squeezing.{squeezed, squeezed_syntax}
use Rattle.cg_model.specs.declared.insn.Insn.{Insn}
use Rattle.cg_model.specs.declared.insn.MacroInsn.{MacroInsn}
use Rattle.cg_model.specs.declared.machine.Machine.{Machine}
use Rattle.cg_model.specs.declared.operand.Operand.{Operand}
use Rattle.cg_model_source.specs.declared.written.Mark.{Mark}
use Rattle.cg_model_source.specs.declared.written.Mark.TheVariants.{Byte, Slot}
use Rattle.cg_model_faults.specs.E313.{slot_operands}
use Rattle.cg_syntax_spelling.specs.Laws.{SpellAlike}
use Rattle.cg_syntax_spelling.specs.Lowered.{SameKeywords}
use Rattle.cg_syntax_spelling.proofs.Alike.{alike}

of_operand : (v w : List (List ℕ)) → SpellAlike v w → (m : Machine) (operands : List ℕ) (k : ℕ) (ms : List Mark) → ((text : List ℕ) → split m v operands ms text ≡ split m w operands ms text) → (text : List ℕ) (o : Option Operand) →
    (elim o as (λ x. Option (List Spelling)) [ None ↦ None | Some o ↦ spelling_in_front k (run_of m o text) (spelled m v o (run_of m o text)) (split m v operands ms (behind_run m o text)) ])
    ≡ (elim o as (λ x. Option (List Spelling)) [ None ↦ None | Some o ↦ spelling_in_front k (run_of m o text) (spelled m w o (run_of m o text)) (split m w operands ms (behind_run m o text)) ])
of_operand v w same m operands k ms later text None = refl
of_operand v w same m operands k ms later text (Some o) =
    ap (λ s. spelling_in_front k (run_of m o text) s (split m v operands ms (behind_run m o text))) (same.slot m o (run_of m o text))
    ∙ ap (spelling_in_front k (run_of m o text) (spelled m w o (run_of m o text))) (later (behind_run m o text))

split_alike : (v w : List (List ℕ)) → SpellAlike v w → (m : Machine) (operands : List ℕ) (ms : List Mark) (text : List ℕ) → split m v operands ms text ≡ split m w operands ms text
unfolding split
split_alike v w same m operands [] [] = refl
split_alike v w same m operands [] (c ∷ text) = refl
split_alike v w same m operands (Byte b ∷ ms) [] = refl
split_alike v w same m operands (Byte b ∷ ms) (c ∷ text) = ap (λ r. if lower b == lower c then r else None) (split_alike v w same m operands ms text)
split_alike v w same m operands (Slot k ∷ ms) text = of_operand v w same m operands k ms (split_alike v w same m operands ms) text (operand_at m operands k)

insns_alike : (v w : List (List ℕ)) → SpellAlike v w → (m : Machine) (text : List ℕ) (k : ℕ) (is : List Insn) → insns_splitting m v text k is ≡ insns_splitting m w text k is
insns_alike v w same m text k [] = refl
insns_alike v w same m text k (i ∷ is) =
    ap (λ r. as_written k i r ++ insns_splitting m v text (suc k) is) (split_alike v w same m (slot_operands i.parts) (squeezed_syntax i.pieces) text)
    ∙ ap (λ cs. as_written k i (split_by_insn m w text i) ++ cs) (insns_alike v w same m text (suc k) is)

macros_alike : (v w : List (List ℕ)) → SpellAlike v w → (m : Machine) (text : List ℕ) (xs : List MacroInsn) → macros_splitting m v text xs ≡ macros_splitting m w text xs
macros_alike v w same m text [] = refl
macros_alike v w same m text (x ∷ xs) =
    ap (λ r. as_emitted x (slice_get m.insns x.target) r ++ macros_splitting m v text xs) (split_alike v w same m x.operands (squeezed_syntax x.pieces) text)
    ∙ ap (λ cs. as_emitted x (slice_get m.insns x.target) (split_by_macro m w text x) ++ cs) (macros_alike v w same m text xs)

pub splitting_alike : (v w : List (List ℕ)) → SameKeywords v w → (m : Machine) (text : List ℕ) → splitting m v text ≡ splitting m w text
splitting_alike v w same m text =
    ap (λ cs. cs ++ macros_splitting m v (squeezed text) m.macros) (insns_alike v w (alike v w same) m (squeezed text) 0 m.insns)
    ∙ ap (λ cs. insns_splitting m w (squeezed text) 0 m.insns ++ cs) (macros_alike v w (alike v w same) m (squeezed text) m.macros)

pub chosen_alike : (v w : List (List ℕ)) → SameKeywords v w → (m : Machine) (pc : ℕ) (text : List ℕ) → chosen m v pc text ≡ chosen m w pc text
unfolding chosen
chosen_alike v w same m pc text = ap (chosen_among m pc text) (splitting_alike v w same m text)
