-- What stands around an expression matters only where the expression names it.
use Rattle.std.proofs.Common.{◌≡◌, ℕ, Bool, true, false, not, ◌&&◌, ◌==◌, List, [], ◌∷◌, map, ℤ, Option, Some, None, sym, ap, ◌∙◌, refl, subst}
use Rattle.std.specs.List.{list_all}
use Rattle.std.proofs.lemmas.Bool.{false≢true}
use Rattle.cg_base.specs.declared.mode.Mode.{Mode}
use Rattle.cg_model.specs.declared.machine.Machine.{Machine}
use Rattle.cg_model.specs.declared.insn.Insn.{Insn}
use Rattle.cg_model.specs.declared.rtl.Op.{Op}
use Rattle.cg_model.specs.declared.rtl.Op.TheVariants as op
use Rattle.cg_model.specs.declared.rtl.Rtl.{Rtl, roll-Rtl, Rtl-F, map-Rtl, fold-roll-Rtl, ind-Rtl}
use Rattle.cg_model.specs.Values.{Meaning, at_once, meaning_step}
use Rattle.cg_model.specs.Pure.{Around, pure_steps, pure_meaning, pure_value}
use Rattle.cg_model.proofs.Meanings.{pure_at}
use Rattle.cg_model.specs.Fields.{around_value, around_fields, around}
use Rattle.cg_model.specs.Matching.{asserts, fields_of_parts}
use Rattle.cg_model.specs.Sound.{Allowed, allowed_step, is_allowed, of_value, of_fields, of_format, SoundInsn, Gives}

pub first_true : (a b : Bool) → (a && b) ≡ true → a ≡ true
first_true true b e = refl
first_true false b e = e

pub second_true : (a b : Bool) → (a && b) ≡ true → b ≡ true
second_true true b e = e
second_true false b e = absurd (false≢true e)

layer : Machine → Around → Op → Option Mode → ℤ → List (Meaning ℕ) → Meaning ℕ
layer m a o mode n items = meaning_step m at_once (pure_steps m a) (record { op = o; mode = mode; number = n; items = items })

-- what is allowed at a node gives the same among both
record Alike (m : Machine) (ok : Allowed) (a b : Around) : Type 0 where
  at : (o : Op) (mode : Option Mode) (n : ℤ) (items : List (Meaning ℕ)) → ok o mode n ≡ true → layer m a o mode n items ≡ layer m b o mode n items

Same : Machine → Allowed → Around → Around → Rtl → Type 0
Same m ok a b r = is_allowed ok r ≡ true → pure_meaning m a r ≡ pure_meaning m b r

same_items : (m : Machine) (ok : Allowed) (a b : Around) (items : List ((r : Rtl) × Same m ok a b r)) → list_all (λ x. x) (map (is_allowed ok) (map (λ e. e.0) items)) ≡ true
    → map (pure_meaning m a) (map (λ e. e.0) items) ≡ map (pure_meaning m b) (map (λ e. e.0) items)
unfolding Same
same_items m ok a b [] h = refl
same_items m ok a b (e ∷ es) h =
    let first = e.1 (first_true (is_allowed ok e.0) _ h) in
    let rest = same_items m ok a b es (second_true (is_allowed ok e.0) _ h) in
    ap (λ x. x ∷ map (pure_meaning m a) (map (λ e. e.0) es)) first ∙ ap (λ x. pure_meaning m b e.0 ∷ x) rest

pub allowed_out : (ok : Allowed) (x : Rtl-F Rtl) → is_allowed ok (roll-Rtl x) ≡ (ok x.op x.mode x.number && list_all (λ b. b) (map (is_allowed ok) x.items))
unfolding is_allowed
allowed_out ok x = fold-roll-Rtl Bool (allowed_step ok) x

meaning_out : (m : Machine) (a : Around) (x : Rtl-F Rtl) → pure_meaning m a (roll-Rtl x) ≡ layer m a x.op x.mode x.number (map (pure_meaning m a) x.items)
unfolding layer
meaning_out m a x = pure_at m a x.op x.mode x.number x.items

same_step : (m : Machine) (ok : Allowed) (a b : Around) → Alike m ok a b → (x : Rtl-F Rtl) (y : Rtl-F ((r : Rtl) × Same m ok a b r))
    → map-Rtl ((r : Rtl) × Same m ok a b r) Rtl (λ e. e.0) y ≡ x → Same m ok a b (roll-Rtl x)
unfolding Same
same_step m ok a b alike x y is = subst (Same m ok a b) (ap roll-Rtl is) (λ h.
    let z : Rtl-F Rtl = map-Rtl ((r : Rtl) × Same m ok a b r) Rtl (λ e. e.0) y in
    let both : (ok y.op y.mode y.number && list_all (λ b. b) (map (is_allowed ok) (map (λ e. e.0) y.items))) ≡ true = sym (allowed_out ok z) ∙ h in
    let items = same_items m ok a b y.items (second_true (ok y.op y.mode y.number) _ both) in
    meaning_out m a z
    ∙ alike.at y.op y.mode y.number (map (pure_meaning m a) (map (λ e. e.0) y.items)) (first_true (ok y.op y.mode y.number) _ both)
    ∙ ap (layer m b y.op y.mode y.number) items
    ∙ sym (meaning_out m b z))

same_meaning : (m : Machine) (ok : Allowed) (a b : Around) (r : Rtl) → Alike m ok a b → is_allowed ok r ≡ true → pure_meaning m a r ≡ pure_meaning m b r
unfolding Same
same_meaning m ok a b r alike h = ind-Rtl (Same m ok a b) (same_step m ok a b alike) r h

value_layer : (m : Machine) (own : Mode) (v pc : ℕ) (bytes : List ℕ) (o : Op) (mode : Option Mode) (n : ℤ) (items : List (Meaning ℕ)) → of_value own o mode n ≡ true
    → layer m (around m v pc bytes) o mode n items ≡ layer m (around_value v pc) o mode n items
unfolding layer
value_layer m own v pc bytes op.FieldRef mode n items h = absurd (false≢true h)
value_layer m own v pc bytes op.MultiRef mode n items h = absurd (false≢true h)
value_layer m own v pc bytes o mode n items h = refl

-- A rule of a value means the same whatever the bytes.
pub rule_of_value : (m : Machine) (own : Mode) (v pc : ℕ) (bytes : List ℕ) (r : Rtl) (want : Option Mode) → is_allowed (of_value own) r ≡ true → pure_value m (around m v pc bytes) r want ≡ pure_value m (around_value v pc) r want
rule_of_value m own v pc bytes r want h = ap (λ (x : Meaning ℕ). x.gives [] want) (same_meaning m (of_value own) (around m v pc bytes) (around_value v pc) r (record { at = value_layer m own v pc bytes }) h)

fields_layer : (m : Machine) (ks : List ℕ) (pc : ℕ) (bytes : List ℕ) (o : Op) (mode : Option Mode) (n : ℤ) (items : List (Meaning ℕ)) → of_fields ks o mode n ≡ true
    → layer m (around m 0 pc bytes) o mode n items ≡ layer m (around_fields m bytes pc) o mode n items
unfolding layer
fields_layer m ks pc bytes op.MultiRef mode n items h = absurd (false≢true h)
fields_layer m ks pc bytes o mode n items h = refl

-- A rule of fields names no multi field.
pub rule_of_fields : (m : Machine) (ks : List ℕ) (pc : ℕ) (bytes : List ℕ) (r : Rtl) (want : Option Mode) → is_allowed (of_fields ks) r ≡ true → pure_value m (around m 0 pc bytes) r want ≡ pure_value m (around_fields m bytes pc) r want
rule_of_fields m ks pc bytes r want h = ap (λ (x : Meaning ℕ). x.gives [] want) (same_meaning m (of_fields ks) (around m 0 pc bytes) (around_fields m bytes pc) r (record { at = fields_layer m ks pc bytes }) h)

format_layer : (m : Machine) (ks : List ℕ) (bytes : List ℕ) (o : Op) (mode : Option Mode) (n : ℤ) (items : List (Meaning ℕ)) → of_format m ks o mode n ≡ true
    → layer m (around m 0 0 bytes) o mode n items ≡ layer m (around_fields m bytes 0) o mode n items
unfolding layer
format_layer m ks bytes op.MultiRef mode n items h = absurd (false≢true h)
format_layer m ks bytes o mode n items h = refl

-- So does an assertion.
pub assertion_of_fields : (m : Machine) (ks : List ℕ) (bytes : List ℕ) (r : Rtl) (want : Option Mode) → is_allowed (of_format m ks) r ≡ true → pure_value m (around m 0 0 bytes) r want ≡ pure_value m (around_fields m bytes 0) r want
assertion_of_fields m ks bytes r want h = ap (λ (x : Meaning ℕ). x.gives [] want) (same_meaning m (of_format m ks) (around m 0 0 bytes) (around_fields m bytes 0) r (record { at = format_layer m ks bytes }) h)

-- what an assertion gives where code evaluates it
pub asserted_as : (m : Machine) (i : Insn) (bytes : List ℕ) (r : Rtl) (n : ℕ) → i.assertion ≡ Some r → SoundInsn m i → n ≡ pure_value m (around m 0 0 bytes) r None → not (n == 0) ≡ asserts m i bytes
asserted_as m i bytes r n is sound gives =
    let same : n ≡ pure_value m (around_fields m bytes 0) r None = gives ∙ assertion_of_fields m (fields_of_parts m i.parts) bytes r None (sound.assertion r is).allowed in
    ap (λ x. not (x == 0)) same ∙ sym (ap (λ o. elim o as (λ _. Bool) [ None ↦ true | Some rule ↦ not (pure_value m (around_fields m bytes 0) rule None == 0) ]) is)

pub assertion_gives : (m : Machine) (i : Insn) (r : Rtl) → i.assertion ≡ Some r → SoundInsn m i → Gives m None r
assertion_gives m i r is sound = (sound.assertion r is).gives

pub ruleset asserting = (asserted_as)
