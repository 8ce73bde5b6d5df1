-- Laws of effects: an equation at each expression, and that an effect is judged as its expression is.
use Rattle.std.proofs.Common.{◌≡◌, ℕ, suc, refl, ap, List, [], map, Option, ℤ}
use Rattle.cg_base.specs.declared.Mode.{Mode}
use Rattle.cg_model.proofs.Meanings.{meaning_checked, meaning_at, gives_out, pure_at, pure_gives_at, out_at, verdict_at, said_at, checked_at}
use Rattle.cg_model.specs.Checked.{Locals, checked}
use Rattle.cg_model.specs.Values.{meaning_step}
use Rattle.cg_model.specs.Slots.{in_rule}
use Rattle.cg_model_effects.specs.Asking.{Held}
use Rattle.cg_model_effects.specs.Effects.{Before, Situation, around, term, in_turn, effect_gives, effect_steps, effect_meaning, rules_within, alone}
use Rattle.cg_model.specs.declared.machine.Machine.{Machine}
use Rattle.cg_model.specs.declared.rtl.Op.{Op}
use Rattle.cg_model.specs.declared.rtl.Rtl.{Rtl, out-Rtl, roll-Rtl}

pub effect_checked : (s : Situation) (r : Rtl) → (effect_meaning s r).checked ≡ checked s.machine r
unfolding effect_meaning
effect_checked s r = meaning_checked s.machine in_turn (effect_steps s) r

pub effect_out : (s : Situation) (r : Rtl) (l : Locals) (want : Option Mode) →
    (effect_meaning s r).gives l want ≡ effect_gives s (out-Rtl r).op (term (out-Rtl r).mode (out-Rtl r).number (map (effect_meaning s) (out-Rtl r).items) l want)
unfolding effect_meaning
effect_out s r l want = gives_out s.machine in_turn (effect_steps s) r l want

pub effect_at : (s : Situation) (o : Op) (mode : Option Mode) (n : ℤ) (items : List Rtl) →
    effect_meaning s (roll-Rtl (record { op = o; mode = mode; number = n; items = items }))
    ≡ meaning_step s.machine in_turn (effect_steps s) (record { op = o; mode = mode; number = n; items = map (effect_meaning s) items })
unfolding effect_meaning
effect_at s o mode n items = meaning_at s.machine in_turn (effect_steps s) o mode n items

pub effect_gives_at : (s : Situation) (o : Op) (mode : Option Mode) (n : ℤ) (items : List Rtl) (l : Locals) (want : Option Mode) (h : Held) →
    (effect_meaning s (roll-Rtl (record { op = o; mode = mode; number = n; items = items }))).gives l want h ≡ effect_gives s o (term mode n (map (effect_meaning s) items) l want) h
effect_gives_at s o mode n items l want h = ap (λ c. c.gives l want h) (effect_at s o mode n items)

-- A rule that is put in place.
pub rule_at : (n : ℕ) (m : Machine) (b : Before) (rule : Rtl) (want : Option Mode) (index new : ℕ) (h : Held) → rules_within (suc n) m b rule want index new h ≡ alone ((effect_meaning (around m b (rules_within n m b) (in_rule m index new)) rule).gives [] want) h
unfolding rules_within
rule_at n m b rule want index new h = refl

pub outer_rule_at : (m : Machine) (b : Before) (rule : Rtl) (want : Option Mode) (index new : ℕ) (h : Held) → rules_within 64 m b rule want index new h ≡ alone ((effect_meaning (around m b (rules_within 63 m b) (in_rule m index new)) rule).gives [] want) h
outer_rule_at m b rule want index new h = rule_at 63 m b rule want index new h

-- What computes an expression that is written out.
pub ruleset effects_written_out = (pure_at, pure_gives_at, effect_at, effect_gives_at, outer_rule_at, out_at, verdict_at, said_at, checked_at)
