-- What code evaluates can be had.
use Rattle.std.proofs.Common.{◌≡◌, ℕ, ◌*◌, ◌^◌, ◌<◌, ◌≤◌, Bool, true, false, ◌&&◌, ◌||◌, ◌==◌, nat_lt, nat_le, List, [], ◌∷◌, length, map, ℤ, pos, negsuc, Option, Some, None, slice_get, sym, ap, ◌∙◌, refl, subst, ◌⊎◌, inl, inr, arith}
use Rattle.std.specs.List.{list_all}
use Rattle.std.proofs.lemmas.Bool.{false≢true, eqb-true}
use Rattle.std.proofs.lemmas.Bool.Decides.{nat_tests}
use Rattle.cg_base.specs.declared.mode.Mode.{Mode}
use Rattle.cg_base.specs.Modes.{bits_of}
use Rattle.cg_model.specs.declared.field.Field.{Field}
use Rattle.cg_model.specs.declared.field.Multi.{Multi}
use Rattle.cg_model.specs.declared.insn.Insn.{Insn}
use Rattle.cg_model.specs.declared.machine.Machine.{Machine}
use Rattle.cg_model.specs.declared.rtl.Op.{Op}
use Rattle.cg_model.specs.declared.rtl.Op.TheVariants as op
use Rattle.cg_model.specs.declared.rtl.Rtl.{Rtl, roll-Rtl, Rtl-F, map-Rtl, ind-Rtl}
use Rattle.cg_model.specs.Matching.{end_of, last_end, length_of, fields_of_parts}
use Rattle.cg_model.specs.Sound.{Allowed, is_allowed, is_among, names_among, of_value, of_fields, of_format, is_plain, IsSound, SoundField, SoundMulti, SoundInsn, IsRule}
use Rattle.cg_model_pure.specs.Evaluable.{is_held, all_held}
use Rattle.cg_model_pure.proofs.Held.{Implies, wider, lt_true, le_true}
use Rattle.cg_code.proofs.Around.{first_true, second_true, allowed_out}
use Rattle.cg_code.proofs.Matched.{ends_inside}

-- the rule's own value stands in a mode of so many bits
value_node : (m : Machine) (own : Mode) (v : ℕ) (bytes : List ℕ) → v < 2 ^ bits_of own → (o : Op) (mode : Option Mode) (n : ℤ) → of_value own o mode n ≡ true → is_held m v bytes o mode n ≡ true
unfolding is_held
value_node m own v bytes fits op.Value None n h = absurd (false≢true h)
value_node m own v bytes fits op.Value (Some k) n h = lt_true v (2 ^ bits_of k) (subst (λ b. v < 2 ^ b) (sym (eqb-true (bits_of k) (bits_of own) h)) fits)
value_node m own v bytes fits op.FieldRef mode n h = absurd (false≢true h)
value_node m own v bytes fits op.MultiRef mode n h = absurd (false≢true h)
value_node m own v bytes fits o mode n h = refl

pub held_by_value : (m : Machine) (mode own : Mode) (v : ℕ) (bytes : List ℕ) (r : Rtl) → IsRule m mode (of_value own) r → v < 2 ^ bits_of own → all_held m v bytes r ≡ true
unfolding all_held
held_by_value m mode own v bytes r rule fits = wider (of_value own) (is_held m v bytes) r (record { at = value_node m own v bytes fits }) rule.allowed

either_true : (a b : Bool) → (a || b) ≡ true → (a ≡ true) ⊎ (b ≡ true)
either_true true b h = inl refl
either_true false b h = inr h

-- the word of one of some fields ends where the last of theirs does, or before
among_inside : (m : Machine) (ks : List ℕ) (k : ℕ) → is_among k ks ≡ true → end_of (slice_get m.fields k) ≤ last_end m ks
among_inside m [] k h = absurd (false≢true h)
among_inside m (j ∷ ks) k h = elim (either_true (k == j) (is_among k ks) h) [
  | inl is ↦ (let e : end_of (slice_get m.fields k) ≡ end_of (slice_get m.fields j) = ap (λ n. end_of (slice_get m.fields n)) (eqb-true k j is) in omega (arith, e))
  | inr rest ↦ omega (arith, among_inside m ks k rest)
]

named_node : (m : Machine) (ks : List ℕ) (bytes : List ℕ) → last_end m ks ≤ 8 * length bytes → (n : ℤ) (mode : Option Mode) (v : ℕ) → names_among ks n ≡ true → is_held m v bytes op.FieldRef mode n ≡ true
unfolding is_held
named_node m ks bytes inside (pos k) mode v h = le_true _ _ (omega (arith, among_inside m ks k h, inside))
named_node m ks bytes inside (negsuc k) mode v h = absurd (false≢true h)

fields_node : (m : Machine) (ks : List ℕ) (v : ℕ) (bytes : List ℕ) → last_end m ks ≤ 8 * length bytes → (o : Op) (mode : Option Mode) (n : ℤ) → of_fields ks o mode n ≡ true → is_held m v bytes o mode n ≡ true
unfolding is_held
fields_node m ks v bytes inside op.Value mode n h = absurd (false≢true h)
fields_node m ks v bytes inside op.FieldRef mode n h = named_node m ks bytes inside n mode v h
fields_node m ks v bytes inside op.MultiRef mode n h = absurd (false≢true h)
fields_node m ks v bytes inside o mode n h = refl

pub held_by_fields : (m : Machine) (own : Mode) (ks : List ℕ) (v : ℕ) (bytes : List ℕ) (r : Rtl) → IsRule m own (of_fields ks) r → last_end m ks ≤ 8 * length bytes → all_held m v bytes r ≡ true
unfolding all_held
held_by_fields m own ks v bytes r rule inside = wider (of_fields ks) (is_held m v bytes) r (record { at = fields_node m ks v bytes inside }) rule.allowed

format_node : (m : Machine) (ks : List ℕ) (v : ℕ) (bytes : List ℕ) → last_end m ks ≤ 8 * length bytes → (o : Op) (mode : Option Mode) (n : ℤ) → of_format m ks o mode n ≡ true → is_held m v bytes o mode n ≡ true
unfolding is_held
format_node m ks v bytes inside op.Value mode n h = absurd (false≢true h)
format_node m ks v bytes inside op.Pc mode n h = refl
format_node m ks v bytes inside op.FieldRef mode n h = named_node m ks bytes inside n mode v (first_true (names_among ks n) (is_plain m n) h)
format_node m ks v bytes inside op.MultiRef mode n h = absurd (false≢true h)
format_node m ks v bytes inside o mode n h = refl

pub held_by_format : (m : Machine) (i : Insn) (v : ℕ) (bytes : List ℕ) (r : Rtl) → i.assertion ≡ Some r → IsSound m → SoundInsn m i → length_of m i ≤ length bytes → all_held m v bytes r ≡ true
unfolding all_held
held_by_format m i v bytes r is sound own long = wider (of_format m (fields_of_parts m i.parts)) (is_held m v bytes) r (record { at = format_node m (fields_of_parts m i.parts) v bytes (ends_inside m i (length bytes) sound long) }) (own.assertion r is).allowed

pub held_to_encode : (m : Machine) (f : Field) (r : Rtl) (v : ℕ) (bytes : List ℕ) → f.encode ≡ Some r → SoundField m f → v < 2 ^ bits_of f.mode → all_held m v bytes r ≡ true
held_to_encode m f r v bytes is sound fits = held_by_value m f.mode f.mode v bytes r (sound.encode r is) fits

pub held_to_extract : (m : Machine) (x : Multi) (v : ℕ) (bytes : List ℕ) → SoundMulti m x → last_end m x.subs ≤ 8 * length bytes → all_held m v bytes x.extract ≡ true
held_to_extract m x v bytes sound inside = held_by_fields m x.mode x.subs v bytes x.extract sound.extract inside
