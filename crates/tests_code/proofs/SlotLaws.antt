-- Numbers for slots, part by part.
use Rattle.std.proofs.Common.{◌≡◌, ℕ, suc, ◌+◌, ◌^◌, ◌<◌, ◌≤◌, drop, get_or, length, List, [], ◌∷◌, Option, Some, None, slice_get, sym, ap, ◌∙◌, subst, arith}
use Rattle.std.proofs.lemmas.Grind.{common_steps}
use Rattle.std.proofs.Math.Seq.{drop-cons}
use Rattle.std.proofs.lemmas.List.{drop_all}
use Rattle.cg_base.specs.Modes.{bits_of}
use Rattle.cg_code.specs.Coding.{AreValues}
use Rattle.cg_model.specs.Encoding.{AreFor}
use Rattle.cg_model.specs.Slots.{slots_of, slot_mode}
use Rattle.cg_model.specs.declared.insn.Insn.{Insn}
use Rattle.cg_model.specs.declared.insn.Part.{Part}
use Rattle.cg_model.specs.declared.insn.Part.TheVariants.{Constant, Slot}
use Rattle.cg_model.specs.declared.machine.Machine.{Machine}
use Rattle.cg_model.specs.declared.operand.Operand.{Operand}

next_part : (ps : List Part) (i : ℕ) (d : Part) → i < length ps → drop i ps ≡ get_or ps i d ∷ drop (i + 1) ps
next_part ps i d within =
    let next : suc i ≡ i + 1 = omega arith in
    drop-cons ps i d within ∙ ap (λ k. get_or ps i d ∷ drop k ps) next

next_number : (vs : List ℕ) (i d : ℕ) → i < length vs → drop i vs ≡ get_or vs i d ∷ drop (i + 1) vs
next_number vs i d within =
    let next : suc i ≡ i + 1 = omega arith in
    drop-cons vs i d within ∙ ap (λ k. get_or vs i d ∷ drop k vs) next

-- a constant is no slot
pub past_constant : (m : Machine) (ps : List Part) (i : ℕ) (d : Part) (k c : ℕ) → i < length ps → get_or ps i d ≡ Constant k c → slots_of m (drop i ps) ≡ slots_of m (drop (i + 1) ps)
past_constant m ps i d k c within is = ap (slots_of m) (next_part ps i d within ∙ ap (λ p. p ∷ drop (i + 1) ps) is)

abbrev slots_by : Machine → List Part → Option Operand → List Operand
slots_by m ps None = slots_of m ps
slots_by m ps (Some o) = o ∷ slots_of m ps

pub past_slot : (m : Machine) (ps : List Part) (i : ℕ) (d : Part) (k : ℕ) (o : Operand) → i < length ps → get_or ps i d ≡ Slot k → slice_get m.operands k ≡ Some o → slots_of m (drop i ps) ≡ o ∷ slots_of m (drop (i + 1) ps)
past_slot m ps i d k o within is there = ap (slots_of m) (next_part ps i d within ∙ ap (λ p. p ∷ drop (i + 1) ps) is) ∙ ap (slots_by m (drop (i + 1) ps)) there

pub past_none : (m : Machine) (ps : List Part) (i : ℕ) (d : Part) (k : ℕ) → i < length ps → get_or ps i d ≡ Slot k → slice_get m.operands k ≡ None → slots_of m (drop i ps) ≡ slots_of m (drop (i + 1) ps)
past_none m ps i d k within is none = ap (slots_of m) (next_part ps i d within ∙ ap (λ p. p ∷ drop (i + 1) ps) is) ∙ ap (slots_by m (drop (i + 1) ps)) none

pub one_more : (m : Machine) (ps : List Part) (i : ℕ) (d : Part) (k : ℕ) (o : Operand) (vs : List ℕ) (j e : ℕ) → i < length ps → get_or ps i d ≡ Slot k → slice_get m.operands k ≡ Some o → j < length vs → get_or vs j e < 2 ^ bits_of (slot_mode m o)
    → AreFor m (slots_of m (drop (i + 1) ps)) (drop (j + 1) vs) → AreFor m (slots_of m (drop i ps)) (drop j vs)
one_more m ps i d k o vs j e within is there inside fits rest =
    subst (λ os. AreFor m os (drop j vs)) (sym (past_slot m ps i d k o within is there)) (subst (λ ns. AreFor m (o ∷ slots_of m (drop (i + 1) ps)) ns) (sym (next_number vs j e inside)) (fits, rest))

pub no_more : (m : Machine) (ps : List Part) (i : ℕ) (vs : List ℕ) (j : ℕ) → length ps ≤ i → length vs ≤ j → AreFor m (slots_of m (drop i ps)) (drop j vs)
no_more m ps i vs j past over = subst (λ xs. AreFor m (slots_of m xs) (drop j vs)) (sym (drop_all i ps past)) (subst (λ ns. AreFor m [] ns) (sym (drop_all j vs over)) tt)

abbrev Values : Machine → List ℕ → Option Insn → Type 0
Values m vs None = ⊥
Values m vs (Some i) = AreFor m (slots_of m i.parts) vs

pub at_insn : (m : Machine) (k : ℕ) (vs : List ℕ) (i : Insn) → slice_get m.insns k ≡ Some i → AreFor m (slots_of m i.parts) vs → AreValues m k vs
at_insn m k vs i is h = subst (Values m vs) (sym is) h

pub ruleset slot_laws = (common_steps, past_constant, past_none)

pub ruleset value_laws = (common_steps, at_insn)
