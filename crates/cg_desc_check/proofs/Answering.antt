-- What is refused isn't faultless.
use Rattle.std.proofs.Common.{◌≡◌, ◌∙◌, ℕ, Bool, true, false, List, take, Option, Some, None, Result, Ok, Err, sym, ap}
use Rattle.std.specs.Prelude.{⊤}
use Rattle.cg_base.specs.Answering.{Answered}
use Rattle.cg_base.specs.declared.refusal.Stop.{Stop}
use Rattle.cg_base.specs.declared.refusal.Stop.TheVariants.{Refused, NoMemory}
use Rattle.std.proofs.lemmas.Bool.{false≢true}
use Rattle.cg_base.specs.declared.refusal.Refusal.{Refusal}
use Rattle.cg_model.specs.Clashing.{NoClash, FirstClash, FirstClashIn}
use Rattle.cg_model_faults.specs.Refusing.{Refuses, by_element, by_clash, IsFaultless, first_refusal, clash_refusal}
use Rattle.cg_model.specs.declared.machine.Machine.{Machine}
use Rattle.std.proofs.lemmas.Grind.{common_steps}

no_some : (r : Refusal) → Some r ≡ None → ⊥
no_some r e = false≢true (ap none e) where
  none : Option Refusal → Bool
  none None = true
  none (Some x) = false

pub refused_is_faulty : (m : Machine) (r : Refusal) → Refuses m r → IsFaultless m → ⊥
refused_is_faulty m r (by_element some) sound = no_some r (sym some ∙ sound.elements)
refused_is_faulty m r (by_clash none i j bytes clash is) sound = sound.no_clash.none i j bytes clash.clashes

pub clear_is_faultless : (m : Machine) → first_refusal m ≡ None → NoClash m → IsFaultless m
clear_is_faultless m none clash = record { elements = none; no_clash = clash }

pub clash_refuses : (m : Machine) (i j len : ℕ) (bytes : List ℕ) (r : Refusal) → first_refusal m ≡ None → FirstClashIn m i j len bytes → r ≡ clash_refusal m i j (take len bytes) → Refuses m r
clash_refuses m i j len bytes r none clash is = by_clash none i j (take len bytes) clash.first is

pub element_refuses : (m : Machine) (r : Refusal) → first_refusal m ≡ Some r → Refuses m r
element_refuses m r some = by_element some

-- A refusal, and no answer, says that a machine isn't faultless.
pub refused_exactly : (m : Machine) (r : Result (Unit {0}) Stop) → Answered (λ _. IsFaultless m) (Refuses m) r → Answered (λ _. ⊤) (λ _. IsFaultless m → ⊥) r
refused_exactly m (Ok x) h = tt
refused_exactly m (Err (Refused r)) h = refused_is_faulty m r h
refused_exactly m (Err NoMemory) h = tt

pub ruleset answering = (common_steps, refused_is_faulty, clear_is_faultless, clash_refuses, element_refuses)
