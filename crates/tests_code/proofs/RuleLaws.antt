-- Rules and assertions.
use Rattle.std.proofs.Common.{◌≡◌, ℕ, true, List, Option, Some, None, refl, subst}
use Rattle.cg_base.specs.declared.Mode.{Mode}
use Rattle.cg_base.specs.Modes.{bits_of}
use Rattle.cg_model.specs.Pure.{is_pure, is_pure_op}
use Rattle.cg_model.specs.Sound.{Allowed, is_allowed, Gives, IsRule}
use Rattle.cg_model.specs.declared.machine.Machine.{Machine}
use Rattle.cg_model.specs.declared.rtl.Rtl.{Rtl}
use Rattle.cg_model_pure.specs.Evaluable.{is_held, all_held}
use Rattle.tests_code.specs.Judged.{HasMode, IsRuleWhere}

pub pure_allowed : (r : Rtl) → is_allowed (λ o mode n. is_pure_op o n) r ≡ is_pure r
unfolding is_allowed is_pure
pure_allowed r = refl

pub gives_of : (m : Machine) (want : Option Mode) (r : Rtl) (k : Mode) → HasMode m want r k → Gives m want r
gives_of m want r k h = record { pure = h.pure; mode = k; moded = h.moded; valued = h.valued }

pub rule_of : (m : Machine) (own : Mode) (ok : Allowed) (r : Rtl) (k : Mode) → HasMode m (Some own) r k → bits_of k ≡ bits_of own → is_allowed ok r ≡ true → IsRule m own ok r
rule_of m own ok r k h same allowed = record { gives = record { pure = h.pure; mode = k; moded = h.moded; valued = h.valued }; same = same; allowed = allowed }

abbrev RuleHere : Machine → Mode → Allowed → Option Rtl → Type 0
RuleHere m own ok None = Unit {0}
RuleHere m own ok (Some r) = IsRule m own ok r

pub rule_there : (m : Machine) (own : Mode) (ok : Allowed) (r : Rtl) → IsRule m own ok r → IsRuleWhere m own ok (Some r)
rule_there m own ok r h x is = subst (RuleHere m own ok) is h

pub held : (m : Machine) (value : ℕ) (bytes : List ℕ) (r : Rtl) → is_allowed (is_held m value bytes) r ≡ true → all_held m value bytes r ≡ true
unfolding all_held
held m value bytes r h = h
