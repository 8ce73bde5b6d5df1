-- An expression that has a mode has a value.
use Rattle.std.proofs.Common.{◌≡◌, ℕ, ◌^◌, ◌<◌, Bool, true, false, if◌then◌else◌, [], Option, Ok, Err, ap, ◌∙◌, arith}
use Rattle.std.proofs.lemmas.Grind.{common_steps}
use Rattle.cg_base.specs.declared.Mode.{Mode}
use Rattle.cg_base.specs.Modes.{bits_of}
use Rattle.cg_model.specs.Checked.{Verdict, and_then, mode_in, mode_of, fault}
use Rattle.cg_model.specs.Placed.{small}
use Rattle.cg_model.specs.Pure.{Around, pure_value}
use Rattle.cg_model.specs.Sound.{Gives}
use Rattle.cg_model.specs.declared.judged.ModeFault.{ModeFault}
use Rattle.cg_model.specs.declared.machine.Machine.{Machine}
use Rattle.cg_model.specs.declared.rtl.Rtl.{Rtl}
use Rattle.cg_model_pure_eval.specs.Typed.{Answer}
use Rattle.cg_model_pure_eval.specs.Typing.{typed, paired}
use Rattle.cg_model_pure_eval.specs.declared.typed.Typed.{Typed}

no_fault : (e : ModeFault) (k : Mode) → Err e ≡ Ok k → ⊥
no_fault e k h = grind (arith, common_steps)

small_is : (v : Verdict) (b : Bool) (k : Mode) → and_then v (λ j. if b then Ok j else Err (fault 406)) ≡ Ok k → v ≡ Ok k
small_is (Ok j) true k h = h
small_is (Ok j) false k h = absurd (no_fault (fault 406) k h)
small_is (Err e) b k h = absurd (no_fault e k h)

pub mode_within_is : (m : Machine) (r : Rtl) (want : Option Mode) (k : Mode) → mode_of m r want ≡ Ok k → mode_in m r [] want ≡ Ok k
mode_within_is m r want k h = small_is (mode_in m r [] want) (small m r) k h

typed_is : (m : Machine) (a : Around) (r : Rtl) (want : Option Mode) (k : Mode) → mode_of m r want ≡ Ok k → typed m a r want ≡ Ok (record { mode = k; value = pure_value m a r want })
unfolding typed
typed_is m a r want k h = ap (λ v. paired v (pure_value m a r want)) (mode_within_is m r want k h)

value_in : (s t : Typed) → ◌≡◌ {A = Answer} (Ok s) (Ok t) → s.value ≡ t.value
value_in s t h = grind (arith, common_steps)

fits_in : (s t : Typed) → ◌≡◌ {A = Answer} (Ok s) (Ok t) → s.value < 2 ^ bits_of s.mode → s.value < 2 ^ bits_of t.mode
fits_in s t h f = grind (arith, common_steps)

no_answer : (e : ModeFault) (t : Typed) → ◌≡◌ {A = Answer} (Err e) (Ok t) → ⊥
no_answer e t h = grind (arith, common_steps)

pub valued_is : (m : Machine) (a : Around) (r : Rtl) (want : Option Mode) (t : Typed) → Gives m want r → Ok t ≡ typed m a r want → t.value ≡ pure_value m a r want
valued_is m a r want t g h = value_in t (record { mode = g.mode; value = pure_value m a r want }) (h ∙ typed_is m a r want g.mode g.moded)

pub valued_fits : (m : Machine) (a : Around) (r : Rtl) (want : Option Mode) (t : Typed) (k : Mode) → Ok t ≡ typed m a r want → t.value < 2 ^ bits_of t.mode → mode_of m r want ≡ Ok k → t.value < 2 ^ bits_of k
valued_fits m a r want t k h f e = fits_in t (record { mode = k; value = pure_value m a r want }) (h ∙ typed_is m a r want k e) f

pub never_faulty : (m : Machine) (a : Around) (r : Rtl) (want : Option Mode) (e : ModeFault) → Gives m want r → Err e ≡ typed m a r want → ⊥
never_faulty m a r want e g h = no_answer e (record { mode = g.mode; value = pure_value m a r want }) (h ∙ typed_is m a r want g.mode g.moded)

pub faulty_value : (m : Machine) (a : Around) (r : Rtl) (want : Option Mode) (e : ModeFault) (n : ℕ) → Gives m want r → Err e ≡ typed m a r want → n ≡ pure_value m a r want
faulty_value m a r want e n g h = absurd (never_faulty m a r want e g h)

pub faulty_fits : (m : Machine) (a : Around) (r : Rtl) (want : Option Mode) (e : ModeFault) (n : ℕ) (k : Mode) → Gives m want r → Err e ≡ typed m a r want → mode_of m r want ≡ Ok k → n < 2 ^ bits_of k
faulty_fits m a r want e n k g h f = absurd (never_faulty m a r want e g h)

pub ruleset value_rules = (common_steps, valued_is, valued_fits)
