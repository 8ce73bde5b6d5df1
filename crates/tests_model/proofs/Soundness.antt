-- A machine that is sound.
use Rattle.std.proofs.Common.{◌≡◌, ℕ, zero, suc, ◌<◌, ◌≤◌, ◌+◌, ◌*◌, ◌^◌, Bool, true, false, ◌&&◌, bit_or, count_ones, codes, List, [], ◌∷◌, map, ℤ, pos, Option, Some, None, option_map, Ok, slice_get, refl, ap, ◌∙◌, subst, arith}
use Rattle.std.specs.List.{list_all}
use Rattle.std.specs.Int.Count.{ones_cat}
use Rattle.std.proofs.lemmas.Nat.{pow_pos, ones-le, ones_le_self}
use Rattle.cg_base.specs.declared.Mode.{Mode}
use Rattle.cg_base.specs.declared.Mode.TheVariants.{Bi, Si, Usi}
use Rattle.cg_model.specs.Checked.{mode_of}
use Rattle.cg_model.specs.Covers.{named_bits, named_step, own_bits, all_bits}
use Rattle.cg_model.specs.Operators.{kind_of}
use Rattle.cg_model.specs.Placed.{small, few, both, nodes_of_items, nodes_of_rule, nodes_to, rule_of, is_set, goes_to}
use Rattle.cg_model.specs.Pure.{is_pure, pure_step, is_pure_op}
use Rattle.cg_model.specs.Sound.{Allowed, allowed_step, is_allowed, of_value, of_fields, IsRule, SoundField, SoundMulti, SoundHardware, SoundOperand, AreApart, IsAssertion, SoundInsn, IsSound}
use Rattle.cg_model.specs.declared.field.Field.{Field}
use Rattle.cg_model.specs.declared.machine.Machine.{Machine}
use Rattle.cg_model.specs.declared.rtl.Op.{Op}
use Rattle.cg_model.specs.declared.rtl.Op.TheVariants as op
use Rattle.cg_model.specs.declared.rtl.Rtl.{Rtl, Rtl-F, roll-Rtl, out-roll-Rtl}
use Rattle.cg_model.specs.declared.rtl.Rtl.TheFolds.{fold-roll-Rtl}
use Rattle.cg_model_effects.proofs.Effects.{effects_written_out}
use Rattle.tests_model.specs.Examples.{rtl, nibble, number, on_two, field_named, tiny, displacement, apart, add_below_15, twin, add_parts}

-- what holds of a thing that may be there
abbrev Given : {A : Type 0} → (A → Type 0) → Option A → Type 0
Given P None = Unit {0}
Given P (Some x) = P x

given : {A : Type 0} (P : A → Type 0) (o : Option A) (x : A) → Given P o → o ≡ Some x → P x
given P o x h is = subst (Given P) is h

-- what holds of each of some things
abbrev Each : {A : Type 0} → (A → Type 0) → List A → Type 0
Each P [] = Unit {0}
Each P (x ∷ xs) = P x × Each P xs

each : {A : Type 0} (P : A → Type 0) (xs : List A) (k : ℕ) (x : A) → Each P xs → slice_get xs k ≡ Some x → P x
each P [] k x h is = subst (Given P) is tt
each P (y ∷ ys) zero x h is = subst (Given P) is h.0
each P (y ∷ ys) (suc k) x h is = each P ys k x h.1 is

-- folds over expressions that are written out
pure_out : (o : Op) (mode : Option Mode) (n : ℤ) (items : List Rtl) → is_pure (roll-Rtl (record { op = o; mode = mode; number = n; items = items })) ≡ (is_pure_op o n && list_all (λ b. b) (map is_pure items))
unfolding is_pure
pure_out o mode n items = fold-roll-Rtl Bool pure_step (record { op = o; mode = mode; number = n; items = items })

allowed_out : (ok : Allowed) (o : Op) (mode : Option Mode) (n : ℤ) (items : List Rtl) → is_allowed ok (roll-Rtl (record { op = o; mode = mode; number = n; items = items })) ≡ (ok o mode n && list_all (λ b. b) (map (is_allowed ok) items))
unfolding is_allowed
allowed_out ok o mode n items = fold-roll-Rtl Bool (allowed_step ok) (record { op = o; mode = mode; number = n; items = items })

named_out : (m : Machine) (o : Op) (mode : Option Mode) (n : ℤ) (items : List Rtl) → named_bits m (roll-Rtl (record { op = o; mode = mode; number = n; items = items })) ≡ bit_or (own_bits m o n) (all_bits (map (named_bits m) items))
unfolding named_bits
named_out m o mode n items = fold-roll-Rtl ℕ (named_step m) (record { op = o; mode = mode; number = n; items = items })

ruleset folds = (effects_written_out, pure_out, allowed_out, named_out)

-- how many nodes expressions have
nodes_layer : Machine → ℕ → Rtl-F Rtl → Option ℕ
nodes_layer m d x = option_map suc (both (nodes_of_items (nodes_to m d) (is_set x.op) x.items) (nodes_of_rule (nodes_to m d) (rule_of m false x)))

nodes_out : (m : Machine) (d : ℕ) (x : Rtl-F Rtl) → nodes_to m (suc d) false (roll-Rtl x) ≡ nodes_layer m d x
unfolding nodes_layer goes_to
nodes_out m d x = ap (nodes_layer m d) (out-roll-Rtl x)

number_nodes : (d n : ℕ) → nodes_to tiny (suc d) false (number n) ≡ Some 1
unfolding nodes_layer goes_to
number_nodes d n = nodes_out tiny d (record { op = op.Number; mode = None; number = pos n; items = [] })

value_nodes : (d : ℕ) (k : Mode) → nodes_to tiny (suc d) false (rtl op.Value (Some k) (pos 0) []) ≡ Some 1
unfolding nodes_layer goes_to
value_nodes d k = nodes_out tiny d (record { op = op.Value; mode = Some k; number = pos 0; items = [] })

pc_nodes : (d : ℕ) → nodes_to tiny (suc d) false (rtl op.Pc None (pos 0) []) ≡ Some 1
unfolding nodes_layer goes_to
pc_nodes d = nodes_out tiny d (record { op = op.Pc; mode = None; number = pos 0; items = [] })

field_nodes : (d k : ℕ) → nodes_to tiny (suc d) false (field_named k) ≡ Some 1
unfolding nodes_layer goes_to
field_nodes d k = nodes_out tiny d (record { op = op.FieldRef; mode = None; number = pos k; items = [] })

two_nodes : (d place : ℕ) (mode : Option Mode) (x y : Rtl) (a b : ℕ) → nodes_to tiny d false x ≡ Some a → nodes_to tiny d false y ≡ Some b → nodes_to tiny (suc d) false (on_two place mode x y) ≡ Some (suc (a + (b + 0) + 0))
unfolding nodes_layer goes_to
two_nodes d place mode x y a b e f = nodes_out tiny d (record { op = op.Binary; mode = mode; number = pos place; items = x ∷ y ∷ [] }) ∙ ap (λ o. option_map suc (both (both o (both (nodes_to tiny d false y) (Some 0))) (Some 0))) e ∙ ap (λ o. option_map suc (both (both (Some a) (both o (Some 0))) (Some 0))) f

-- the rules of the displacement
abbrev own : Mode → Rtl
own k = rtl op.Value (Some k) (pos 0) []

abbrev here : Rtl
here = rtl op.Pc None (pos 0) []

abbrev to_words : Rtl
to_words = on_two 12 (Some Si) (on_two 1 (Some Si) (own Si) here) (number 1)

to_words_small : small tiny to_words ≡ true
unfolding small
to_words_small = ap few (two_nodes 63 12 (Some Si) _ _ 3 1 (two_nodes 62 1 (Some Si) _ _ 1 1 (value_nodes 61 Si) (pc_nodes 61)) (number_nodes 62 1))

to_words_moded : mode_of tiny to_words (Some Si) ≡ Ok Si
unfolding kind_of
to_words_moded = simp (folds, to_words_small)

to_words_rule : IsRule tiny Si (of_value Si) to_words
to_words_rule = record { gives = record { pure = simp folds; mode = Si; moded = to_words_moded; valued = omega arith }; same = refl; allowed = simp folds }

abbrev from_words : Rtl
from_words = on_two 0 (Some Si) (on_two 10 (Some Si) (own Si) (number 1)) here

from_words_small : small tiny from_words ≡ true
unfolding small
from_words_small = ap few (two_nodes 63 0 (Some Si) _ _ 3 1 (two_nodes 62 10 (Some Si) _ _ 1 1 (value_nodes 61 Si) (number_nodes 61 1)) (pc_nodes 62))

from_words_moded : mode_of tiny from_words (Some Si) ≡ Ok Si
unfolding kind_of
from_words_moded = simp (folds, from_words_small)

from_words_rule : IsRule tiny Si (of_value Si) from_words
from_words_rule = record { gives = record { pure = simp folds; mode = Si; moded = from_words_moded; valued = omega arith }; same = refl; allowed = simp folds }

-- the rules of the multi field
abbrev high : Rtl
high = on_two 11 None (own Usi) (number 4)

high_small : small tiny high ≡ true
unfolding small
high_small = ap few (two_nodes 63 11 None _ _ 1 1 (value_nodes 62 Usi) (number_nodes 62 4))

high_moded : mode_of tiny high (Some Usi) ≡ Ok Usi
unfolding kind_of
high_moded = simp (folds, high_small)

high_rule : IsRule tiny Usi (of_value Usi) high
high_rule = record { gives = record { pure = simp folds; mode = Usi; moded = high_moded; valued = omega arith }; same = refl; allowed = simp folds }

abbrev low : Rtl
low = on_two 7 None (own Usi) (number 15)

low_small : small tiny low ≡ true
unfolding small
low_small = ap few (two_nodes 63 7 None _ _ 1 1 (value_nodes 62 Usi) (number_nodes 62 15))

low_moded : mode_of tiny low (Some Usi) ≡ Ok Usi
unfolding kind_of
low_moded = simp (folds, low_small)

low_rule : IsRule tiny Usi (of_value Usi) low
low_rule = record { gives = record { pure = simp folds; mode = Usi; moded = low_moded; valued = omega arith }; same = refl; allowed = simp folds }

abbrev joined : Rtl
joined = on_two 8 None (on_two 10 None (field_named 1) (number 4)) (field_named 3)

joined_small : small tiny joined ≡ true
unfolding small
joined_small = ap few (two_nodes 63 8 None _ _ 3 1 (two_nodes 62 10 None _ _ 1 1 (field_nodes 61 1) (number_nodes 61 4)) (field_nodes 62 3))

joined_moded : mode_of tiny joined (Some Usi) ≡ Ok Usi
unfolding kind_of
joined_moded = simp (folds, joined_small)

joined_rule : IsRule tiny Usi (of_fields (1 ∷ 3 ∷ [])) joined
joined_rule = record { gives = record { pure = simp folds; mode = Usi; moded = joined_moded; valued = omega arith }; same = refl; allowed = simp folds }

-- the assertions, by the place of the comparison
abbrev compared : ℕ → Rtl
compared place = on_two place None (field_named 1) (number 15)

compared_small : (place : ℕ) → small tiny (compared place) ≡ true
unfolding small
compared_small place = ap few (two_nodes 63 place None _ _ 1 1 (field_nodes 62 1) (number_nodes 62 15))

differs_moded : mode_of tiny (compared 16) None ≡ Ok Bi
unfolding kind_of
differs_moded = simp (folds, compared_small 16)

equals_moded : mode_of tiny (compared 15) None ≡ Ok Bi
unfolding kind_of
equals_moded = simp (folds, compared_small 15)

-- four bits above 120 others
four_ones : count_ones (15 * 2 ^ 120) ≤ 4
four_ones = let apart : count_ones (15 * 2 ^ 120 + 0) ≡ count_ones 15 + count_ones 0 = ones_cat 120 15 0 (pow_pos 120) in omega (arith, apart, ones-le 4 15 (omega arith), ones_le_self 0)

differs_few : count_ones (named_bits tiny (compared 16)) ≤ 8
differs_few = let e : named_bits tiny (compared 16) ≡ 15 * 2 ^ 120 = simp folds in omega (arith, ap count_ones e, four_ones)

equals_few : count_ones (named_bits tiny (compared 15)) ≤ 8
equals_few = let e : named_bits tiny (compared 15) ≡ 15 * 2 ^ 120 = simp folds in omega (arith, ap count_ones e, four_ones)

differs_asserts : IsAssertion tiny add_below_15 (compared 16)
differs_asserts = record { gives = record { pure = simp folds; mode = Bi; moded = differs_moded; valued = omega arith }; allowed = simp folds; few = differs_few }

equals_asserts : IsAssertion tiny twin (compared 15)
equals_asserts = record { gives = record { pure = simp folds; mode = Bi; moded = equals_moded; valued = omega arith }; allowed = simp folds; few = equals_few }

-- the fields
nibble_sound : (name : List ℕ) (shift : ℕ) → shift ≤ 12 → SoundField tiny (nibble name shift)
nibble_sound name shift le = record {
  placed = record { bytes = refl; offset = refl; some = omega arith; few = omega arith; own = omega arith; within = omega (arith, le) };
  fits = omega arith;
  encode = λ r is. given (λ x. IsRule tiny Usi (of_value Usi) x) None r tt is;
  decode = λ r is. given (λ x. IsRule tiny Usi (of_value Usi) x) None r tt is;
}

displacement_sound : SoundField tiny displacement
displacement_sound = record {
  placed = record { bytes = refl; offset = refl; some = omega arith; few = omega arith; own = omega arith; within = omega arith };
  fits = omega arith;
  encode = λ r is. given (λ x. IsRule tiny Si (of_value Si) x) (Some to_words) r to_words_rule is;
  decode = λ r is. given (λ x. IsRule tiny Si (of_value Si) x) (Some from_words) r from_words_rule is;
}

nibble_rule : (name : List ℕ) (shift : ℕ) (r : Rtl) → IsRule tiny Usi (of_value Usi) r → (f : Field) → Some (nibble name shift) ≡ Some f → IsRule tiny f.mode (of_value Usi) r
nibble_rule name shift r rule f is = given (λ (g : Field). IsRule tiny g.mode (of_value Usi) r) (Some (nibble name shift)) f rule is

apart_sound : SoundMulti tiny apart
apart_sound = record {
  valued = omega arith;
  subs = refl;
  insert = (nibble_rule (codes "f-rd") 8 high high_rule, (nibble_rule (codes "f-x") 0 low low_rule, tt));
  extract = joined_rule;
}

-- the instructions
constant_fits : (name : List ℕ) (shift c : ℕ) → c < 2 ^ 4 → (f : Field) → Some (nibble name shift) ≡ Some f → c < 2 ^ f.length
constant_fits name shift c h f is = given (λ (g : Field). c < 2 ^ g.length) (Some (nibble name shift)) f h is

add_apart : AreApart tiny add_parts
add_apart = ((refl, constant_fits (codes "f-op") 12 1 (omega arith)), refl, (refl, refl, (refl, refl, ((refl, constant_fits (codes "f-x") 0 0 (omega arith)), refl, tt))))

add_sound : SoundInsn tiny add_below_15
add_sound = record { short = omega arith; parts = add_apart; slots = omega arith; assertion = λ r is. given (IsAssertion tiny add_below_15) (Some (compared 16)) r differs_asserts is }

twin_sound : SoundInsn tiny twin
twin_sound = record { short = omega arith; parts = add_apart; slots = omega arith; assertion = λ r is. given (IsAssertion tiny twin) (Some (compared 15)) r equals_asserts is }

all_fields : Each (SoundField tiny) tiny.fields
all_fields = (nibble_sound (codes "f-op") 12 (omega arith), (nibble_sound (codes "f-rd") 8 (omega arith), (nibble_sound (codes "f-rs") 4 (omega arith), (nibble_sound (codes "f-x") 0 (omega arith), (displacement_sound, tt)))))

-- the machine
pub tiny_sound : IsSound tiny
tiny_sound = record {
  word = refl;
  base = record { bytes = refl; some = omega arith; few = omega arith };
  fields = λ k f is. each (SoundField tiny) tiny.fields k f all_fields is;
  multis = λ k x is. each (SoundMulti tiny) tiny.multis k x (apart_sound, tt) is;
  hardware = λ k h is. each SoundHardware tiny.hardware k h (record { valued = omega arith }, (record { valued = omega arith }, tt)) is;
  operands = λ k o is. each (SoundOperand tiny) tiny.operands k o (record { hardware = refl; source = refl }, (record { hardware = refl; source = refl }, tt)) is;
  few = omega arith;
  insns = λ k i is. each (SoundInsn tiny) tiny.insns k i (add_sound, (twin_sound, tt)) is;
}
