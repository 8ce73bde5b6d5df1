-- How code gathers the constants of a format.
use Rattle.std.proofs.Common.{suc, map, ◌≡◌, ℕ, ◌+◌, ◌<◌, ◌≤◌, bit_or, List, [], ◌∷◌, length, drop, get_or, Bool, true, Some, slice_get, sym, ap, ◌∙◌, subst, arith}
use Rattle.std.proofs.lemmas.Nat.Bits.{bit_at_or, bit_at-zero, same_from_bits}
use Rattle.std.proofs.lemmas.Bool.Decides.{nat_tests}
use Rattle.std.proofs.Math.Seq.{drop-cons}
use Rattle.std.proofs.lemmas.List.{drop_all}
use Rattle.cg_model.specs.declared.rtl.Rtl.{Rtl, out-Rtl, fold_out-Rtl}
use Rattle.cg_model.specs.declared.field.Field.{Field}
use Rattle.cg_model.specs.declared.insn.Part.{Part}
use Rattle.cg_model.specs.declared.insn.Part.TheVariants.{Constant}
use Rattle.cg_model.specs.declared.machine.Machine.{Machine}
use Rattle.cg_model.specs.Covers.{IsInWord, IsPlaced, is_near}
use Rattle.cg_model.specs.Covers.{own_bits, all_bits, named_step, named_bits}
use Rattle.cg_code_mask.specs.Constants.{IsFitting, AreFitting, part_cover, part_value, parts_cover, parts_value}

pub or_assoc : (a b c : ℕ) → bit_or (bit_or a b) c ≡ bit_or a (bit_or b c)
or_assoc a b c = same_from_bits _ _ (λ i. simp bit_at_or (omega arith))

pub or_zero : (a : ℕ) → bit_or a 0 ≡ a
or_zero a = same_from_bits _ _ (λ i. simp (bit_at_or, bit_at-zero) (omega arith))

pub zero_or : (a : ℕ) → bit_or 0 a ≡ a
zero_or a = same_from_bits _ _ (λ i. simp (bit_at_or, bit_at-zero) (omega arith))

pub near_placed : (f : Field) → IsInWord f → is_near f ≡ true → IsPlaced f
near_placed f w near =
    let le : f.word_offset + f.word_bits ≤ 128 = grind (arith, nat_tests) in
    record { bytes = w.bytes; offset = w.offset; some = w.some; few = w.few; inside = le; own = w.own; within = w.within }

-- what is gathered, with what is still to come, is all
pub record Gathered (m : Machine) (all rest : List Part) (cover value : ℕ) : Type 0 where
  pub covered : bit_or cover (parts_cover m rest) ≡ parts_cover m all
  pub valued : bit_or value (parts_value m rest) ≡ parts_value m all
  pub fitting : AreFitting m rest

pub gather : (m : Machine) (all ps : List Part) (i c v a b : ℕ) (d : Part) → i < length ps → Gathered m all (drop i ps) c v → a ≡ part_cover m (get_or ps i d) → b ≡ part_value m (get_or ps i d)
    → Gathered m all (drop (i + 1) ps) (bit_or c a) (bit_or v b)
gather m all ps i c v a b d within so_far cover value =
    let next : suc i ≡ i + 1 = omega arith in
    let split : drop i ps ≡ get_or ps i d ∷ drop (i + 1) ps = drop-cons ps i d within ∙ ap (λ k. get_or ps i d ∷ drop k ps) next in
    let step : Gathered m all (get_or ps i d ∷ drop (i + 1) ps) c v = subst (λ rest. Gathered m all rest c v) split so_far in
    record {
      covered = ap (λ x. bit_or (bit_or c x) (parts_cover m (drop (i + 1) ps))) cover ∙ or_assoc c (part_cover m (get_or ps i d)) (parts_cover m (drop (i + 1) ps)) ∙ step.covered;
      valued = ap (λ x. bit_or (bit_or v x) (parts_value m (drop (i + 1) ps))) value ∙ or_assoc v (part_value m (get_or ps i d)) (parts_value m (drop (i + 1) ps)) ∙ step.valued;
      fitting = step.fitting.2;
    }

at_end : (m : Machine) (all ps : List Part) (i c v : ℕ) → length ps ≤ i → Gathered m all (drop i ps) c v → Gathered m all [] c v
at_end m all ps i c v past so_far = subst (λ rest. Gathered m all rest c v) (drop_all i ps past) so_far

pub gathered_cover : (m : Machine) (all ps : List Part) (i c v : ℕ) → length ps ≤ i → Gathered m all (drop i ps) c v → c ≡ parts_cover m all
gathered_cover m all ps i c v past so_far = sym (or_zero c) ∙ (at_end m all ps i c v past so_far).covered

pub gathered_value : (m : Machine) (all ps : List Part) (i c v : ℕ) → length ps ≤ i → Gathered m all (drop i ps) c v → v ≡ parts_value m all
gathered_value m all ps i c v past so_far = sym (or_zero v) ∙ (at_end m all ps i c v past so_far).valued

-- the bits that an expression names, and those that some of its items do
pub named_all : (m : Machine) (r : Rtl) → named_bits m r ≡ bit_or (own_bits m (out-Rtl r).op (out-Rtl r).number) (all_bits (map (named_bits m) (out-Rtl r).items))
unfolding named_bits
named_all m r = fold_out-Rtl ℕ (named_step m) r

pub record StillNamed (m : Machine) (r : Rtl) (rest : List Rtl) (bits : ℕ) : Type 0 where
  pub all : bit_or bits (all_bits (map (named_bits m) rest)) ≡ named_bits m r

pub names_at_start : (m : Machine) (r : Rtl) (own : ℕ) (items : List Rtl) → own ≡ own_bits m (out-Rtl r).op (out-Rtl r).number → items ≡ (out-Rtl r).items → StillNamed m r items own
names_at_start m r own items e f = record { all = ap (λ x. bit_or x (all_bits (map (named_bits m) items))) e ∙ ap (λ x. bit_or (own_bits m (out-Rtl r).op (out-Rtl r).number) (all_bits (map (named_bits m) x))) f ∙ sym (named_all m r) }

pub names_more : (m : Machine) (r : Rtl) (items : List Rtl) (i bits own : ℕ) (d : Rtl) → i < length items → StillNamed m r (drop i items) bits → own ≡ named_bits m (get_or items i d)
    → StillNamed m r (drop (i + 1) items) (bit_or bits own)
names_more m r items i bits own d within so_far is =
    let next : suc i ≡ i + 1 = omega arith in
    let split : drop i items ≡ get_or items i d ∷ drop (i + 1) items = drop-cons items i d within ∙ ap (λ k. get_or items i d ∷ drop k items) next in
    let step : StillNamed m r (get_or items i d ∷ drop (i + 1) items) bits = subst (λ rest. StillNamed m r rest bits) split so_far in
    record { all = ap (λ x. bit_or (bit_or bits x) (all_bits (map (named_bits m) (drop (i + 1) items)))) is ∙ or_assoc bits (named_bits m (get_or items i d)) (all_bits (map (named_bits m) (drop (i + 1) items))) ∙ step.all }

pub names_at_end : (m : Machine) (r : Rtl) (items : List Rtl) (i bits : ℕ) → length items ≤ i → StillNamed m r (drop i items) bits → bits ≡ named_bits m r
names_at_end m r items i bits past so_far =
    let last : StillNamed m r [] bits = subst (λ rest. StillNamed m r rest bits) (drop_all i items past) so_far in
    sym (or_zero bits) ∙ last.all

pub constant_placed : (m : Machine) (p : Part) (k v : ℕ) (f : Field) → p ≡ Constant k v → IsFitting m p → slice_get m.fields k ≡ Some f → IsPlaced f
constant_placed m p k v f is fits at = (subst (IsFitting m) is fits f at).1

pub ruleset of_part = (near_placed)

pub ruleset of_parts = (or_assoc, or_zero, zero_or, gather, gathered_cover, gathered_value)

pub ruleset of_items = (names_at_start, names_more, names_at_end)
