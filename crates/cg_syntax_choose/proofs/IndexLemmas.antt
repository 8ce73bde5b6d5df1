-- How the instructions of a machine are written.
use Rattle.std.specs.Prelude.{ℕ, zero, suc, ◌+◌, ◌<◌, List, [], ◌∷◌, length, drop, Some, slice_get}
use Rattle.std.proofs.Common.{◌≡◌, refl, sym, ap, ◌∙◌, get_or, arith}
use Rattle.std.proofs.Math.Seq.{drop-cons}
use Rattle.cg_syntax_choose.proofs.FrontLemmas.{same_some, none_is_none}
use Rattle.cg_syntax_choose.specs.Fronts.{front_of}
use Rattle.cg_syntax_choose.specs.Indexing.{pattern_of, insn_pattern, insn_patterns, macro_pattern, macro_patterns, IsIndex}
use Rattle.cg_syntax_choose.specs.declared.index.Index.{Index}
use Rattle.cg_syntax_choose.specs.declared.index.Pattern.{Pattern}
use Rattle.cg_model.specs.declared.insn.Insn.{Insn}
use Rattle.cg_model.specs.declared.insn.MacroInsn.{MacroInsn}
use Rattle.cg_model.specs.declared.insn.Piece.{Piece}
use Rattle.cg_model.specs.declared.machine.Machine.{Machine}

pub next_insn : (is : List Insn) (k : ℕ) (d : Insn) → k < length is → insn_patterns (drop k is) ≡ insn_pattern (get_or is k d) ∷ insn_patterns (drop (k + 1) is)
next_insn is k d within =
    let next : suc k ≡ k + 1 = omega arith in
    ap insn_patterns (drop-cons is k d within) ∙ ap (λ n. insn_pattern (get_or is k d) ∷ insn_patterns (drop n is)) next

pub next_macro : (xs : List MacroInsn) (k : ℕ) (d : MacroInsn) → k < length xs → macro_patterns (drop k xs) ≡ macro_pattern (get_or xs k d) ∷ macro_patterns (drop (k + 1) xs)
next_macro xs k d within =
    let next : suc k ≡ k + 1 = omega arith in
    ap macro_patterns (drop-cons xs k d within) ∙ ap (λ n. macro_pattern (get_or xs k d) ∷ macro_patterns (drop n xs)) next

pub as_many_insns : (is : List Insn) → length (insn_patterns is) ≡ length is
as_many_insns [] = refl
as_many_insns (i ∷ is) = ap suc (as_many_insns is)

pub as_many_macros : (xs : List MacroInsn) → length (macro_patterns xs) ≡ length xs
as_many_macros [] = refl
as_many_macros (x ∷ xs) = ap suc (as_many_macros xs)

insn_at : (is : List Insn) (k : ℕ) (i : Insn) → slice_get is k ≡ Some i → slice_get (insn_patterns is) k ≡ Some (insn_pattern i)
insn_at [] k i e = absurd (none_is_none e)
insn_at (x ∷ is) zero i e = ap (λ y. Some (insn_pattern y)) (same_some e)
insn_at (x ∷ is) (suc k) i e = insn_at is k i e

macro_at : (xs : List MacroInsn) (k : ℕ) (x : MacroInsn) → slice_get xs k ≡ Some x → slice_get (macro_patterns xs) k ≡ Some (macro_pattern x)
macro_at [] k x e = absurd (none_is_none e)
macro_at (y ∷ xs) zero x e = ap (λ z. Some (macro_pattern z)) (same_some e)
macro_at (y ∷ xs) (suc k) x e = macro_at xs k x e

-- The pattern of a number is that of the instruction of the number.
pub insn_pattern_is : (m : Machine) (x : Index) (k : ℕ) (i : Insn) (p : Pattern) → IsIndex m x → slice_get m.insns k ≡ Some i → slice_get x.insns k ≡ Some p → p ≡ insn_pattern i
insn_pattern_is m x k i p index at here = same_some (sym here ∙ ap (λ ps. slice_get ps k) index.insns ∙ insn_at m.insns k i at)

pub macro_pattern_is : (m : Machine) (x : Index) (k : ℕ) (i : MacroInsn) (p : Pattern) → IsIndex m x → slice_get m.macros k ≡ Some i → slice_get x.macros k ≡ Some p → p ≡ macro_pattern i
macro_pattern_is m x k i p index at here = same_some (sym here ∙ ap (λ ps. slice_get ps k) index.macros ∙ macro_at m.macros k i at)

-- A pattern begins as its marks do.
pub pattern_front : (p : Pattern) (pieces : List Piece) (operands : List ℕ) → p ≡ pattern_of pieces operands → p.front ≡ front_of p.marks
pattern_front p pieces operands e = ap (λ q. q.front) e ∙ sym (ap (λ q. front_of q.marks) e)
