-- What was encoded is read, and what comes back is encoded.
use Rattle.std.proofs.Common.{◌≡◌, ℕ, ◌-◌, ◌*◌, ◌/◌, ◌%◌, ◌^◌, ◌<◌, ◌≤◌, min, bit_and, bit_or, Bool, true, false, ◌&&◌, nat_le, List, [], length, take, slice_index, replicate, Some, None, slice_get, sym, ap, ◌∙◌, refl, subst, inl, inr, arith, length-take}
use Rattle.std.specs.Int.{bit_at}
use Rattle.std.specs.List.{list_all}
use Rattle.std.proofs.lemmas.Bool.{cases_lt, false≢true}
use Rattle.std.proofs.lemmas.Bool.Decides.{nat_tests}
use Rattle.std.proofs.lemmas.List.{get_or-take, get_or_past, get_or-replicate, length-replicate, length-map}
use Rattle.std.proofs.lemmas.Nat.Bits.{bit_at_and, bit_at_or, bit_at-zero, bit_at_above, same_from_bits}
use Rattle.cg_ambig.proofs.Sounding.{has_patterns}
use Rattle.cg_ambig.proofs.Strings.{same_bytes}
use Rattle.cg_ambig.specs.Patterns.{HasPatterns}
use Rattle.cg_code.specs.Coding.{IsEncodedAt}
use Rattle.cg_model.specs.Clashing.{AreBytes}
use Rattle.cg_model.specs.Covers.{covered_by_all}
use Rattle.cg_model.specs.Encoding.{Setting, settings, in_place, candidate, Encodes}
use Rattle.cg_model.specs.Matching.{length_of, last_end, fields_of_parts, part_stands, asserts, matches}
use Rattle.cg_model.specs.Slots.{slots_of, source_value, values}
use Rattle.cg_model.specs.Sound.{IsSound, SoundInsn}
use Rattle.cg_model.specs.declared.insn.Insn.{Insn}
use Rattle.cg_model.specs.declared.machine.Machine.{Machine}
use Rattle.cg_code_mask.specs.Constants.{parts_cover, parts_value}
use Rattle.cg_code_mask.specs.View.{whole}
use Rattle.cg_code_mask.proofs.Standing.{parts_from_whole}
use Rattle.cg_code_mask.proofs.Within.{last_within, covered}
use Rattle.cg_code_mask.proofs.Wholes.{whole_bit, whole_fits, front_bytes, whole_of_short, low_bit}
use Rattle.cg_code_laws.specs.Laws.{AreHeld, IsBare, ComesBack, Reads, EncodingLaws}
use Rattle.cg_code_laws.proofs.Settings.{AreFine, covers, IsUnder, shown_whole, all_length, all_bytes, set_under, set_again}
use Rattle.cg_code_laws.proofs.Plain.{plain_back}
use Rattle.cg_code_laws.proofs.Formats.{parts_fine, covers_parts, constants_stand, parts_held}

no_bits : (w : ℕ) → bit_and w 0 ≡ 0
no_bits w = same_from_bits _ _ (λ i. simp (bit_at_and, bit_at-zero) (omega arith))

nothing_or : (a : ℕ) → bit_or 0 a ≡ a
nothing_or a = same_from_bits _ _ (λ q. simp (bit_at_or, bit_at-zero) (omega arith))

first_true : (a b : Bool) → (a && b) ≡ true → a ≡ true
first_true true b e = refl
first_true false b e = e

second_true : (a b : Bool) → (a && b) ≡ true → b ≡ true
second_true true b e = e
second_true false b e = absurd (false≢true e)

both_true : (a b : Bool) → a ≡ true → b ≡ true → (a && b) ≡ true
both_true a b e f = rw (e, f) refl

-- the bits of the front of some bytes
front_low : (n q : ℕ) (bytes : List ℕ) → AreBytes bytes → n ≤ 16 → q < 8 * (16 - n) → bit_at (whole (take n bytes)) q ≡ 0
front_low n q bytes are few below = whole_of_short (take n bytes) n (front_bytes n bytes are) (omega (arith, length-take n bytes)) few q below

front_high : (n q : ℕ) (bytes : List ℕ) → AreBytes bytes → n ≤ 16 → 8 * (16 - n) ≤ q → bit_at (whole (take n bytes)) q ≡ bit_at (whole bytes) q
front_high n q bytes are few above =
    let front : AreBytes (take n bytes) = front_bytes n bytes are in
    elim (cases_lt q 128) [
      | inl lt ↦ whole_bit (take n bytes) q front lt ∙ ap (λ x. bit_at x (q % 8)) (get_or-take n bytes (15 - q / 8) 0 (omega (arith, lt, above, few))) ∙ sym (whole_bit bytes q are lt)
      | inr ge ↦ bit_at_above (whole (take n bytes)) 128 q (whole_fits (take n bytes) front) ge ∙ sym (bit_at_above (whole bytes) 128 q (whole_fits bytes are) ge)
    ]

front_under : (n : ℕ) (bytes : List ℕ) → AreBytes bytes → n ≤ 16 → IsUnder (whole (take n bytes)) (whole bytes)
front_under n bytes are few = record {
  each = λ q. elim (cases_lt q (8 * (16 - n))) [
    | inl lt ↦ omega (arith, front_low n q bytes are few lt)
    | inr ge ↦ omega (arith, front_high n q bytes are few ge)
  ];
}

front_shows : (n c : ℕ) (bytes : List ℕ) → AreBytes bytes → n ≤ 16 → c % 2 ^ (8 * (16 - n)) ≡ 0 → bit_and (whole (take n bytes)) c ≡ bit_and (whole bytes) c
front_shows n c bytes are few low = same_from_bits _ _ (λ q. bit_at_and (whole (take n bytes)) c q ∙ elim (cases_lt q (8 * (16 - n))) [
  | inl lt ↦ omega (arith, bit_at_and (whole bytes) c q, low_bit c (8 * (16 - n)) q low lt)
  | inr ge ↦ ap (λ x. min x (bit_at c q)) (front_high n q bytes are few ge) ∙ sym (bit_at_and (whole bytes) c q)
])

front_all : (n : ℕ) (bytes : List ℕ) → AreBytes bytes → n ≤ 16 → ((q : ℕ) → q < 8 * (16 - n) → bit_at (whole bytes) q ≡ 0) → whole (take n bytes) ≡ whole bytes
front_all n bytes are few low = same_from_bits _ _ (λ q. elim (cases_lt q (8 * (16 - n))) [
  | inl lt ↦ front_low n q bytes are few lt ∙ sym (low q lt)
  | inr ge ↦ front_high n q bytes are few ge
])

-- 16 bytes of 0
zero_length : length (replicate {A = ℕ} 16 0) ≡ 16
zero_length = length-replicate {A = ℕ} 16 0

zero_at : (k : ℕ) → slice_index (replicate 16 0) k ≡ 0
zero_at k = elim (cases_lt k 16) [ inl lt ↦ get_or-replicate 16 k 0 0 lt | inr ge ↦ get_or_past (replicate 16 0) k 0 (omega (arith, zero_length)) ]

zero_bytes : AreBytes (replicate 16 0)
zero_bytes = record { below = λ k. omega (arith, zero_at k) }

zero_whole : whole (replicate 16 0) ≡ 0
zero_whole = same_from_bits _ _ (λ q. elim (cases_lt q 128) [
  | inl lt ↦ whole_bit (replicate 16 0) q zero_bytes lt ∙ ap (λ x. bit_at x (q % 8)) (zero_at (15 - q / 8)) ∙ bit_at-zero (q % 8) ∙ sym (bit_at-zero q)
  | inr ge ↦ bit_at_above (whole (replicate 16 0)) 128 q (whole_fits (replicate 16 0) zero_bytes) ge ∙ sym (bit_at-zero q)
])

-- what is put in place for some values, as many as there are slots
record Put (m : Machine) (i : Insn) (vs : List ℕ) (pc : ℕ) : Type 0 where
  apart : SoundInsn m i
  fine : AreFine (settings m pc i.parts vs)
  covered_all : covers m (settings m pc i.parts vs) ≡ covered_by_all m i.parts
  long : length (in_place m i vs pc) ≡ 16
  are : AreBytes (in_place m i vs pc)
  few : length_of m i ≤ 16
  near : last_end m (fields_of_parts m i.parts) ≤ 128
  front_long : length (candidate m i vs pc) ≡ length_of m i

put : (m : Machine) (k : ℕ) (i : Insn) (vs : List ℕ) (pc : ℕ) → IsSound m → slice_get m.insns k ≡ Some i → length vs ≡ length (slots_of m i.parts) → Put m i vs pc
put m k i vs pc sound is many =
    let s : SoundInsn m i = sound.insns k i is in
    let h : HasPatterns m = has_patterns m sound in
    let near : last_end m (fields_of_parts m i.parts) ≤ 128 = omega (arith, last_within m i h.placed, s.short) in
    let fine : AreFine (settings m pc i.parts vs) = parts_fine m pc i.parts vs sound s.parts near in
    let long : length (in_place m i vs pc) ≡ 16 = all_length m (settings m pc i.parts vs) (replicate 16 0) fine zero_length in
    let few : length_of m i ≤ 16 = s.short in
    record {
      apart = s;
      fine = fine;
      covered_all = covers_parts m pc i.parts vs sound s.parts many;
      long = long;
      are = all_bytes m (settings m pc i.parts vs) (replicate 16 0) fine zero_length zero_bytes;
      few = few;
      near = near;
      front_long = omega (arith, length-take (length_of m i) (in_place m i vs pc), long, few);
    }

-- as many values as slots
as_many : (m : Machine) (i : Insn) (vs : List ℕ) (pc : ℕ) (b : List ℕ) → Encodes m i vs pc b → length vs ≡ length (slots_of m i.parts)
as_many m i vs pc b e = sym (ap length e.back) ∙ length-map (slots_of m i.parts) (source_value m b pc)

-- an encoding matches
pub matched : (m : Machine) (k : ℕ) (i : Insn) (vs : List ℕ) (pc : ℕ) (b : List ℕ) → IsSound m → slice_get m.insns k ≡ Some i → Encodes m i vs pc b → matches m i b ≡ true
matched m k i vs pc b sound is e =
    let h : HasPatterns m = has_patterns m sound in
    let many : length vs ≡ length (slots_of m i.parts) = as_many m i vs pc b e in
    let x : Put m i vs pc = put m k i vs pc sound is many in
    let c : List ℕ = candidate m i vs pc in
    let stand : bit_and (whole c) (parts_cover m i.parts) ≡ parts_value m i.parts =
    front_shows (length_of m i) (parts_cover m i.parts) (in_place m i vs pc) x.are x.few (covered m i h.placed)
    ∙ constants_stand m pc i.parts vs (replicate 16 0) sound x.apart.parts x.near many zero_length zero_bytes in
    let there : list_all (part_stands m c) i.parts ≡ true = parts_from_whole m i.parts c (h.fitting k i is) (front_bytes (length_of m i) (in_place m i vs pc) x.are) stand in
    let long : length c ≡ length_of m i = x.front_long in
    let enough : nat_le (length_of m i) (length c) ≡ true = grind (arith, nat_tests) in
    let holds : asserts m i c ≡ true = ap (asserts m i) (sym e.is_candidate) ∙ e.asserted in
    ap (matches m i) e.is_candidate ∙ both_true _ (asserts m i c) (both_true (nat_le (length_of m i) (length c)) _ enough there) holds

-- and has no bit but those that the parts cover
pub bare : (m : Machine) (k : ℕ) (i : Insn) (vs : List ℕ) (pc : ℕ) (b : List ℕ) → IsSound m → slice_get m.insns k ≡ Some i → Encodes m i vs pc b → IsBare m i b
bare m k i vs pc b sound is e =
    let x : Put m i vs pc = put m k i vs pc sound is (as_many m i vs pc b e) in
    let row : List Setting = settings m pc i.parts vs in
    let nothing : IsUnder (whole (replicate 16 0)) 0 = record { each = λ q. omega (arith, ap (λ w. bit_at w q) zero_whole) } in
    let all : IsUnder (whole (in_place m i vs pc)) (bit_or 0 (covers m row)) = set_under m row (replicate 16 0) 0 x.fine zero_length zero_bytes nothing in
    let front : IsUnder (whole (candidate m i vs pc)) (whole (in_place m i vs pc)) = front_under (length_of m i) (in_place m i vs pc) x.are x.few in
    let under : IsUnder (whole (candidate m i vs pc)) (covered_by_all m i.parts) = record {
      each = λ q. omega (arith, front.each q, all.each q, bit_at_or 0 (covers m row) q, bit_at-zero q, ap (λ w. bit_at w q) x.covered_all);
    } in
    subst (IsBare m i) (sym e.is_candidate) (record { bare = shown_whole (whole (candidate m i vs pc)) (covered_by_all m i.parts) under })

-- bytes that come back are the encoding of their values
pub comes_back : (m : Machine) (k : ℕ) (i : Insn) (pc : ℕ) (b : List ℕ) → IsSound m → slice_get m.insns k ≡ Some i → ComesBack m i pc b → Encodes m i (values m i b pc) pc b
comes_back m k i pc b sound is c =
    let vs : List ℕ = values m i b pc in
    let many : length vs ≡ length (slots_of m i.parts) = length-map (slots_of m i.parts) (source_value m b pc) in
    let x : Put m i vs pc = put m k i vs pc sound is many in
    let row : List Setting = settings m pc i.parts vs in
    let front : (nat_le (length_of m i) (length b) && list_all (part_stands m b) i.parts) ≡ true = first_true _ (asserts m i b) c.matching in
    let held : AreHeld m b row = parts_held m pc i.parts b x.apart.parts (second_true (nat_le (length_of m i) (length b)) _ front) c.slots in
    let nothing : whole (replicate 16 0) ≡ bit_and (whole b) 0 = zero_whole ∙ sym (no_bits (whole b)) in
    let again : whole (in_place m i vs pc) ≡ whole b =
    set_again m row (replicate 16 0) b 0 x.fine zero_length zero_bytes c.are_bytes held nothing
    ∙ ap (bit_and (whole b)) (nothing_or (covers m row) ∙ x.covered_all) ∙ c.bare.bare in
    let low : (q : ℕ) → q < 8 * (16 - length_of m i) → bit_at (whole (in_place m i vs pc)) q ≡ 0 =
    λ q below. ap (λ w. bit_at w q) again ∙ whole_of_short b (length_of m i) c.are_bytes (omega (arith, c.long)) x.few q below in
    let same : whole b ≡ whole (candidate m i vs pc) = sym again ∙ sym (front_all (length_of m i) (in_place m i vs pc) x.are x.few low) in
    record {
      is_candidate = same_bytes (length_of m i) b (candidate m i vs pc) c.are_bytes (front_bytes (length_of m i) (in_place m i vs pc) x.are) c.long x.front_long x.few same;
      asserted = second_true (nat_le (length_of m i) (length b) && list_all (part_stands m b) i.parts) _ c.matching;
      back = refl;
    }

reads : (m : Machine) (k : ℕ) (vs : List ℕ) (pc len : ℕ) (out : List ℕ) → IsSound m → IsEncodedAt m k vs pc len out → Reads m k vs pc (take len out)
reads m k vs pc len out sound x = record {
  matching = ap (λ o. elim o as (λ _. Bool) [ None ↦ false | Some i ↦ matches m i (take len out) ]) x.at ∙ matched m k x.insn vs pc (take len out) sound x.at x.encoded.encodes;
  same = ap (λ o. elim o as (λ _. List ℕ) [ None ↦ [] | Some i ↦ values m i (take len out) pc ]) x.at ∙ x.encoded.encodes.back;
}

-- The laws of encodings hold of a sound machine.
pub encoding_laws : (m : Machine) → IsSound m → EncodingLaws m
encoding_laws m sound = record {
  only = λ i vs pc b c first second. first.is_candidate ∙ sym second.is_candidate;
  reads = λ k vs pc len out x. reads m k vs pc len out sound x;
  bare = λ k i vs pc b is e. bare m k i vs pc b sound is e;
  plain = λ o pc b x. plain_back m o pc b sound x;
  back = λ k i pc b is c. comes_back m k i pc b sound is c;
}
