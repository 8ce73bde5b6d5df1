-- The slots of a format by the numbers of their operands.
use Rattle.std.specs.Prelude.{ℕ, zero, suc, ◌<◌, true, false, List, [], ◌∷◌, length, Option, Some, None, slice_get}
use Rattle.std.proofs.Common.{◌≡◌, refl, ap, ◌∙◌, arith}
use Rattle.std.proofs.lemmas.Bool.{both_ways}
use Rattle.cg_model.specs.Slots.{slots_of}
use Rattle.cg_model.specs.Sound.{AreApart, is_there}
use Rattle.cg_model.specs.declared.insn.Part.{Part}
use Rattle.cg_model.specs.declared.insn.Part.TheVariants.{Constant, Slot}
use Rattle.cg_model.specs.declared.machine.Machine.{Machine}
use Rattle.cg_model.specs.declared.operand.Operand.{Operand}
use Rattle.cg_model_faults.specs.E313.{slot_operands}
use Rattle.cg_syntax_fit.specs.Slots.{operands_of, AreThere}

one_slot : (m : Machine) (ps : List Part) (o : Option Operand) → slots_of m ps ≡ operands_of m (slot_operands ps) →
    elim o as (λ x. List Operand) [ None ↦ slots_of m ps | Some x ↦ x ∷ slots_of m ps ] ≡ elim o as (λ x. List Operand) [ None ↦ operands_of m (slot_operands ps) | Some x ↦ x ∷ operands_of m (slot_operands ps) ]
one_slot m ps None e = e
one_slot m ps (Some x) e = ap (λ os. x ∷ os) e

pub by_number : (m : Machine) (ps : List Part) → slots_of m ps ≡ operands_of m (slot_operands ps)
by_number m [] = refl
by_number m (Constant k c ∷ ps) = by_number m ps
by_number m (Slot o ∷ ps) = one_slot m ps (slice_get m.operands o) (by_number m ps)

within : {A : Type 0} (xs : List A) (k : ℕ) → is_there (slice_get xs k) ≡ true → k < length xs
within [] k there = absurd (both_ways false refl there)
within (x ∷ xs) zero there = omega arith
within (x ∷ xs) (suc k) there = omega (arith, within xs k there)

pub gotten : {A : Type 0} (xs : List A) (k : ℕ) → k < length xs → (x : A) × (slice_get xs k ≡ Some x)
gotten [] k below = absurd (omega (arith, below))
gotten (x ∷ xs) zero below = (x, refl)
gotten (x ∷ xs) (suc k) below = gotten xs k (omega (arith, below))

pub later_there : (m : Machine) (k : ℕ) (ks : List ℕ) → AreThere m (k ∷ ks) → AreThere m ks
later_there m k ks there j below = there (suc j) (omega (arith, below))

more_there : (m : Machine) (k : ℕ) (ks : List ℕ) → k < length m.operands → AreThere m ks → AreThere m (k ∷ ks)
more_there m k ks here there zero below = here
more_there m k ks here there (suc j) below = there j (omega (arith, below))

pub apart_there : (m : Machine) (ps : List Part) → AreApart m ps → AreThere m (slot_operands ps)
apart_there m [] apart = λ j below. absurd (omega (arith, below))
apart_there m (Constant k c ∷ ps) apart = apart_there m ps apart.2
apart_there m (Slot o ∷ ps) apart = more_there m o (slot_operands ps) (within m.operands o apart.0) (apart_there m ps apart.2)

pub first_there : (m : Machine) (k : ℕ) (ks : List ℕ) (o : Operand) → slice_get m.operands k ≡ Some o → operands_of m (k ∷ ks) ≡ o ∷ operands_of m ks
first_there m k ks o at = ap (λ x. elim x as (λ y. List Operand) [ None ↦ operands_of m ks | Some p ↦ p ∷ operands_of m ks ]) at

pub as_many : (m : Machine) (ks : List ℕ) → AreThere m ks → length (operands_of m ks) ≡ length ks
as_many m [] there = refl
as_many m (k ∷ ks) there =
    let here : (o : Operand) × (slice_get m.operands k ≡ Some o) = gotten m.operands k (there 0 (omega arith)) in
    ap length (first_there m k ks here.0 here.1) ∙ ap suc (as_many m ks (later_there m k ks there))
