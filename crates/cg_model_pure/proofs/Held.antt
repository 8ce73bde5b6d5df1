-- What code evaluates can be had.
use Rattle.std.proofs.Common.{◌≡◌, ℕ, ◌*◌, ◌^◌, ◌<◌, ◌≤◌, Bool, true, false, ◌&&◌, ◌||◌, ◌==◌, nat_lt, nat_le, List, [], ◌∷◌, length, map, ℤ, pos, negsuc, Option, Some, None, slice_get, sym, ap, ◌∙◌, refl, subst, ◌⊎◌, inl, inr, arith}
use Rattle.std.specs.List.{list_all}
use Rattle.std.proofs.lemmas.Bool.{false≢true, eqb-true}
use Rattle.std.proofs.lemmas.Bool.Decides.{nat_tests}
use Rattle.cg_base.specs.declared.mode.Mode.{Mode}
use Rattle.cg_base.specs.Modes.{bits_of, address_mode}
use Rattle.cg_model.specs.declared.field.Field.{Field}
use Rattle.cg_model.specs.declared.field.Multi.{Multi}
use Rattle.cg_model.specs.declared.machine.Machine.{Machine}
use Rattle.cg_model.specs.declared.rtl.Op.{Op}
use Rattle.cg_model.specs.declared.rtl.Op.TheVariants as op
use Rattle.cg_model.specs.declared.rtl.Rtl.{Rtl, roll-Rtl, Rtl-F, map-Rtl, fold-roll-Rtl, ind-Rtl}
use Rattle.cg_model.specs.Matching.{end_of, last_end}
use Rattle.cg_model.specs.Sound.{Allowed, allowed_step, is_allowed, is_among, names_among, of_value, of_fields, is_word, IsSound, SoundField, SoundMulti}
use Rattle.cg_model_pure_eval.specs.Seen.{is_had, all_had, below}
use Rattle.cg_model_pure.specs.Evaluable.{is_held, all_held}
use Rattle.cg_model_pure.specs.Surroundings.{seen_value, seen_fields, seen_all, IsReadable}

pub first_true : (a b : Bool) → (a && b) ≡ true → a ≡ true
first_true true b e = refl
first_true false b e = e

pub second_true : (a b : Bool) → (a && b) ≡ true → b ≡ true
second_true true b e = e
second_true false b e = absurd (false≢true e)

pub allowed_out : (ok : Allowed) (x : Rtl-F Rtl) → is_allowed ok (roll-Rtl x) ≡ (ok x.op x.mode x.number && list_all (λ b. b) (map (is_allowed ok) x.items))
unfolding is_allowed
allowed_out ok x = fold-roll-Rtl Bool (allowed_step ok) x

-- What is allowed at each node by one rule is so by another.
pub record Implies (ok more : Allowed) : Type 0 where
  pub at : (o : Op) (mode : Option Mode) (n : ℤ) → ok o mode n ≡ true → more o mode n ≡ true

Wider : Allowed → Allowed → Rtl → Type 0
Wider ok more r = is_allowed ok r ≡ true → is_allowed more r ≡ true

both_true : (a b : Bool) → a ≡ true → b ≡ true → (a && b) ≡ true
both_true a b e f = ap (λ x. x && b) e ∙ f

wider_items : (ok more : Allowed) (items : List ((r : Rtl) × Wider ok more r)) → list_all (λ x. x) (map (is_allowed ok) (map (λ e. e.0) items)) ≡ true
    → list_all (λ x. x) (map (is_allowed more) (map (λ e. e.0) items)) ≡ true
unfolding Wider
wider_items ok more [] h = refl
wider_items ok more (e ∷ es) h = both_true (is_allowed more e.0) _ (e.1 (first_true (is_allowed ok e.0) _ h)) (wider_items ok more es (second_true (is_allowed ok e.0) _ h))

wider_step : (ok more : Allowed) → Implies ok more → (x : Rtl-F Rtl) (y : Rtl-F ((r : Rtl) × Wider ok more r))
    → map-Rtl ((r : Rtl) × Wider ok more r) Rtl (λ e. e.0) y ≡ x → Wider ok more (roll-Rtl x)
unfolding Wider
wider_step ok more implies x y is = subst (Wider ok more) (ap roll-Rtl is) (λ h.
    let z : Rtl-F Rtl = map-Rtl ((r : Rtl) × Wider ok more r) Rtl (λ e. e.0) y in
    let both : (ok y.op y.mode y.number && list_all (λ b. b) (map (is_allowed ok) (map (λ e. e.0) y.items))) ≡ true = sym (allowed_out ok z) ∙ h in
    allowed_out more z ∙ both_true (more y.op y.mode y.number) _ (implies.at y.op y.mode y.number (first_true (ok y.op y.mode y.number) _ both)) (wider_items ok more y.items (second_true (ok y.op y.mode y.number) _ both)))

pub wider : (ok more : Allowed) (r : Rtl) → Implies ok more → is_allowed ok r ≡ true → is_allowed more r ≡ true
unfolding Wider
wider ok more r implies h = ind-Rtl (Wider ok more) (wider_step ok more implies) r h

pub lt_true : (a b : ℕ) → a < b → nat_lt a b ≡ true
lt_true a b h = grind (arith, nat_tests)

pub le_true : (a b : ℕ) → a ≤ b → nat_le a b ≡ true
le_true a b h = grind (arith, nat_tests)

-- An address has as many bits as the cpu's word.
address_bits : (bits : ℕ) → is_word bits ≡ true → bits_of (address_mode bits) ≡ bits
address_bits bits h = grind (arith, nat_tests)

address_fits : (m : Machine) (pc : ℕ) → IsReadable m pc → below (address_mode m.word_bits) pc ≡ true
address_fits m pc x = lt_true pc (2 ^ bits_of (address_mode m.word_bits)) (subst (λ b. pc < 2 ^ b) (sym (address_bits m.word_bits x.sound.word)) x.word)

-- Around any expression.
held_node : (m : Machine) (v pc : ℕ) (bytes : List ℕ) → IsReadable m pc → (o : Op) (mode : Option Mode) (n : ℤ) → is_held m v bytes o mode n ≡ true → is_had m (seen_all m v pc bytes) o mode n ≡ true
unfolding is_held is_had
held_node m v pc bytes x op.Value mode n h = h
held_node m v pc bytes x op.Pc mode n h = address_fits m pc x
held_node m v pc bytes x op.FieldRef mode n h = h
held_node m v pc bytes x op.MultiRef mode n h = h
held_node m v pc bytes x o mode n h = refl

pub had_of_held : (m : Machine) (v pc : ℕ) (bytes : List ℕ) (r : Rtl) → IsReadable m pc → all_held m v bytes r ≡ true → all_had m (seen_all m v pc bytes) r ≡ true
unfolding all_held all_had
had_of_held m v pc bytes r x h = wider (is_held m v bytes) (is_had m (seen_all m v pc bytes)) r (record { at = held_node m v pc bytes x }) h

-- The rule's own value stands in a mode of so many bits.
value_node : (m : Machine) (own : Mode) (v pc : ℕ) → IsReadable m pc → v < 2 ^ bits_of own → (o : Op) (mode : Option Mode) (n : ℤ) → of_value own o mode n ≡ true → is_had m (seen_value v pc) o mode n ≡ true
unfolding is_had
value_node m own v pc x fits op.Value None n h = absurd (false≢true h)
value_node m own v pc x fits op.Value (Some k) n h = lt_true v (2 ^ bits_of k) (subst (λ b. v < 2 ^ b) (sym (eqb-true (bits_of k) (bits_of own) h)) fits)
value_node m own v pc x fits op.Pc mode n h = address_fits m pc x
value_node m own v pc x fits op.FieldRef mode n h = absurd (false≢true h)
value_node m own v pc x fits op.MultiRef mode n h = absurd (false≢true h)
value_node m own v pc x fits o mode n h = refl

pub had_to_decode : (m : Machine) (f : Field) (r : Rtl) (v pc : ℕ) → f.decode ≡ Some r → SoundField m f → IsSound m → pc < 2 ^ m.word_bits → v < 2 ^ bits_of f.mode → all_had m (seen_value v pc) r ≡ true
unfolding all_had
had_to_decode m f r v pc is field sound word fits = wider (of_value f.mode) (is_had m (seen_value v pc)) r (record { at = value_node m f.mode v pc (record { sound = sound; word = word }) fits }) (field.decode r is).allowed

either_true : (a b : Bool) → (a || b) ≡ true → (a ≡ true) ⊎ (b ≡ true)
either_true true b h = inl refl
either_true false b h = inr h

-- The word of one of some fields ends where the last of theirs does, or before.
pub among_inside : (m : Machine) (ks : List ℕ) (k : ℕ) → is_among k ks ≡ true → end_of (slice_get m.fields k) ≤ last_end m ks
among_inside m [] k h = absurd (false≢true h)
among_inside m (j ∷ ks) k h = elim (either_true (k == j) (is_among k ks) h) [
  | inl is ↦ (let e : end_of (slice_get m.fields k) ≡ end_of (slice_get m.fields j) = ap (λ n. end_of (slice_get m.fields n)) (eqb-true k j is) in omega (arith, e))
  | inr rest ↦ omega (arith, among_inside m ks k rest)
]

named_node : (m : Machine) (ks : List ℕ) (bytes : List ℕ) (pc : ℕ) → last_end m ks ≤ 8 * length bytes → (n : ℤ) (mode : Option Mode) → names_among ks n ≡ true → is_had m (seen_fields m bytes pc) op.FieldRef mode n ≡ true
unfolding is_had
named_node m ks bytes pc inside (pos k) mode h = le_true _ _ (omega (arith, among_inside m ks k h, inside))
named_node m ks bytes pc inside (negsuc k) mode h = absurd (false≢true h)

fields_node : (m : Machine) (ks : List ℕ) (bytes : List ℕ) (pc : ℕ) → IsReadable m pc → last_end m ks ≤ 8 * length bytes → (o : Op) (mode : Option Mode) (n : ℤ) → of_fields ks o mode n ≡ true → is_had m (seen_fields m bytes pc) o mode n ≡ true
unfolding is_had
fields_node m ks bytes pc x inside op.Value mode n h = absurd (false≢true h)
fields_node m ks bytes pc x inside op.Pc mode n h = address_fits m pc x
fields_node m ks bytes pc x inside op.FieldRef mode n h = named_node m ks bytes pc inside n mode h
fields_node m ks bytes pc x inside op.MultiRef mode n h = absurd (false≢true h)
fields_node m ks bytes pc x inside o mode n h = refl

pub had_to_extract : (m : Machine) (x : Multi) (bytes : List ℕ) (pc : ℕ) → SoundMulti m x → IsSound m → pc < 2 ^ m.word_bits → last_end m x.subs ≤ 8 * length bytes → all_had m (seen_fields m bytes pc) x.extract ≡ true
unfolding all_had
had_to_extract m x bytes pc multi sound word inside = wider (of_fields x.subs) (is_had m (seen_fields m bytes pc)) x.extract (record { at = fields_node m x.subs bytes pc (record { sound = sound; word = word }) inside }) multi.extract.allowed
