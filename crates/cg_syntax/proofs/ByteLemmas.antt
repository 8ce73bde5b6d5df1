-- The bytes of instructions, and those of a bundle.
use Rattle.std.specs.Prelude.{ℕ, zero, suc, nat_lt, ◌+◌, ◌-◌, ◌/◌, ◌^◌, ◌<◌, ◌≤◌, Bool, true, false, if◌then◌else◌, List, [], ◌∷◌, ◌++◌, length, take, drop, ℤ, Option, Some, None, slice_get}
use Rattle.std.proofs.Common.{◌≡◌, refl, sym, ap, ◌∙◌, subst, get_or, arith}
use Rattle.std.proofs.lemmas.Bool.Decides.{nat_tests}
use Rattle.std.proofs.lemmas.List.{take-take, drop-take, length-take-le, length-append}
use Rattle.cg_syntax_fit.proofs.Values.{drop_next}
use Rattle.byteorder.specs.Numbers.{big_from-take, little_from-take, length-bytes_high_first, length-bytes_low_first}
use Rattle.cg_base.specs.Bytes.{number_of, bytes_of}
use Rattle.cg_base.specs.declared.mode.Endian.{Endian}
use Rattle.cg_base.specs.declared.mode.Endian.TheVariants.{Big, Little}
use Rattle.cg_syntax_choose.proofs.TryingLemmas.{insns_within}
use Rattle.cg_syntax_choose.specs.Trying.{as_choice}
use Rattle.cg_syntax_choose.specs.declared.trying.Choice as declared
use Rattle.cg_model_source.specs.Bundling.{with_bundle_bit, instruction_bytes}
use Rattle.cg_model_source.specs.Choosing.{bytes_for, objection}
use Rattle.cg_model.specs.Covers.{IsInWord, is_near}
use Rattle.cg_model.specs.Encoding.{with_bits, with_word, word_with}
use Rattle.cg_model.specs.Fields.{word_of}
use Rattle.cg_model.specs.Matching.{length_of}
use Rattle.cg_model.specs.Sound.{IsSound}
use Rattle.cg_model.specs.declared.field.Field.{Field}
use Rattle.cg_model.specs.declared.insn.Insn.{Insn}
use Rattle.cg_model.specs.declared.machine.Machine.{Machine}
use Rattle.cg_syntax.specs.Laying.{HasBundleBit, objection_at, bytes_at, IsWithin, AreWithin, part_bytes, is_more, told_bytes}
use Rattle.cg_syntax.specs.declared.bundle.Part.{Part}

-- The bundle's bit fits its field, which lies in its word.
pub one_fits : (f : Field) → f.length ≡ 1 → 1 < 2 ^ f.length
one_fits f e = subst (λ n. 1 < 2 ^ n) (sym e) (omega arith)

pub bit_fits : (m : Machine) (k : ℕ) (f : Field) → HasBundleBit m → m.bundle ≡ Some k → slice_get m.fields k ≡ Some f → 1 < 2 ^ f.length
bit_fits m k f has at here = one_fits f (has k f at here).0

pub bit_placed : (m : Machine) (k : ℕ) (f : Field) → IsSound m → slice_get m.fields k ≡ Some f → IsInWord f
bit_placed m k f sound here = (sound.fields k f here).placed

pub set_bit : (m : Machine) (k : ℕ) (f : Field) (old : List ℕ) → m.bundle ≡ Some k → slice_get m.fields k ≡ Some f → with_bundle_bit m m.bundle old ≡ with_bits m f 1 old
set_bit m k f old at here =
    ap (λ b. with_bundle_bit m b old) at ∙ ap (λ o. elim o as (λ x. List ℕ) [ None ↦ old | Some g ↦ with_bits m g 1 old ]) here

pub no_field : (m : Machine) (k : ℕ) (old : List ℕ) → m.bundle ≡ Some k → slice_get m.fields k ≡ None → with_bundle_bit m m.bundle old ≡ old
no_field m k old at here = ap (λ b. with_bundle_bit m b old) at ∙ ap (λ o. elim o as (λ x. List ℕ) [ None ↦ old | Some g ↦ with_bits m g 1 old ]) here

pub no_bundle : (m : Machine) (old : List ℕ) → m.bundle ≡ None → with_bundle_bit m m.bundle old ≡ old
no_bundle m old at = ap (λ b. with_bundle_bit m b old) at

pub ruleset setting = (bit_fits, bit_placed, set_bit, no_field, no_bundle)

-- A word in the first bytes may be set in all of them.
reads_front : (e : Endian) (n k : ℕ) (xs : List ℕ) → n ≤ k → number_of e n (take k xs) ≡ number_of e n xs
reads_front Big n k xs le = big_from-take 0 n k xs (omega (arith, le))
reads_front Little n k xs le = little_from-take 0 n k xs (omega (arith, le))

pub bytes_long : (e : Endian) (n v : ℕ) → length (bytes_of e n v) ≡ n
bytes_long Big n v = length-bytes_high_first n v
bytes_long Little n v = length-bytes_low_first 0 n v

take_past : {A : Type 0} (xs ys : List A) (k : ℕ) → take (length xs + k) (xs ++ ys) ≡ xs ++ take k ys
take_past [] ys k = let e : 0 + k ≡ k = omega arith in ap (λ n. take n ys) e
take_past (x ∷ xs) ys k =
    let e : suc (length xs) + k ≡ suc (length xs + k) = omega arith in
    ap (λ n. take n (x ∷ (xs ++ ys))) e ∙ ap (λ t. x ∷ t) (take_past xs ys k)

drop_of_take : {A : Type 0} (k len : ℕ) (xs : List A) → k ≤ len → drop k (take len xs) ≡ take (len - k) (drop k xs)
drop_of_take k len xs le = let e : len ≡ k + (len - k) = omega (arith, le) in ap (λ n. drop k (take n xs)) e ∙ drop-take k (len - k) xs

word_in_front : (m : Machine) (f : Field) (n len : ℕ) (bytes : List ℕ) → f.word_offset / 8 + f.word_bits / 8 ≤ len → len ≤ length bytes → with_word m f n (take len bytes) ≡ take len (with_word m f n bytes)
word_in_front m f n len bytes fits within =
    let o : ℕ = f.word_offset / 8 in
    let w : ℕ = f.word_bits / 8 in
    let front : take o (take len bytes) ≡ take o bytes = take-take o len bytes (omega (arith, fits)) in
    let word : word_of m f (take len bytes) ≡ word_of m f bytes =
    ap (number_of m.insn_endian w) (drop_of_take o len bytes (omega (arith, fits))) ∙ reads_front m.insn_endian w (len - o) (drop o bytes) (omega (arith, fits)) in
    let back : drop (o + w) (take len bytes) ≡ take (len - (o + w)) (drop (o + w) bytes) = drop_of_take (o + w) len bytes fits in
    let set : List ℕ = take o bytes ++ bytes_of m.insn_endian w (word_with f n (word_of m f bytes)) in
    let long : length set ≡ o + w =
    length-append (take o bytes) (bytes_of m.insn_endian w (word_with f n (word_of m f bytes))) ∙ ap (λ k. k + length (bytes_of m.insn_endian w (word_with f n (word_of m f bytes)))) (length-take-le o bytes (omega (arith, fits, within)))
    ∙ ap (λ k. o + k) (bytes_long m.insn_endian w (word_with f n (word_of m f bytes))) in
    let whole : len ≡ length set + (len - (o + w)) = omega (arith, long, fits) in
    ap (λ t. (t ++ bytes_of m.insn_endian w (word_with f n (word_of m f (take len bytes)))) ++ drop (o + w) (take len bytes)) front
    ∙ ap (λ x. (take o bytes ++ bytes_of m.insn_endian w (word_with f n x)) ++ drop (o + w) (take len bytes)) word
    ∙ ap (λ t. set ++ t) back
    ∙ sym (ap (λ k. take k (set ++ drop (o + w) bytes)) whole ∙ take_past set (drop (o + w) bytes) (len - (o + w)))

bits_by : (m : Machine) (f : Field) (n len : ℕ) (bytes : List ℕ) (near : Bool) → f.word_offset / 8 + f.word_bits / 8 ≤ len → len ≤ length bytes →
    take len (if near then with_word m f n bytes else bytes) ≡ (if near then with_word m f n (take len bytes) else take len bytes)
bits_by m f n len bytes true fits within = sym (word_in_front m f n len bytes fits within)
bits_by m f n len bytes false fits within = refl

bundle_by : (m : Machine) (f : Option Field) (len : ℕ) (bytes : List ℕ) → ((g : Field) → f ≡ Some g → g.word_offset / 8 + g.word_bits / 8 ≤ len) → len ≤ length bytes →
    take len (elim f as (λ x. List ℕ) [ None ↦ bytes | Some g ↦ with_bits m g 1 bytes ]) ≡ (elim f as (λ x. List ℕ) [ None ↦ take len bytes | Some g ↦ with_bits m g 1 (take len bytes) ])
bundle_by m None len bytes fits within = refl
bundle_by m (Some g) len bytes fits within = bits_by m g 1 len bytes (is_near g) (fits g refl) within

bundle_of : (m : Machine) (b : Option ℕ) (len : ℕ) (bytes : List ℕ) → ((k : ℕ) (g : Field) → b ≡ Some k → slice_get m.fields k ≡ Some g → g.word_offset / 8 + g.word_bits / 8 ≤ len) → len ≤ length bytes →
    take len (with_bundle_bit m b bytes) ≡ with_bundle_bit m b (take len bytes)
bundle_of m None len bytes fits within = refl
bundle_of m (Some k) len bytes fits within = bundle_by m (slice_get m.fields k) len bytes (λ g at. fits k g refl at) within

base_fits : (m : Machine) (i : Insn) (o w : ℕ) → o + w ≤ m.base_bits → o / 8 + w / 8 ≤ length_of m i
base_fits m i o w le = omega (arith, le)

pub bundle_in_front : (m : Machine) (i : Insn) (len : ℕ) (bytes : List ℕ) → HasBundleBit m → len ≡ length_of m i → len ≤ length bytes → take len (with_bundle_bit m m.bundle bytes) ≡ with_bundle_bit m m.bundle (take len bytes)
bundle_in_front m i len bytes has e within =
    bundle_of m m.bundle len bytes (λ k g at here. subst (λ n. g.word_offset / 8 + g.word_bits / 8 ≤ n) (sym e) (base_fits m i g.word_offset g.word_bits (has k g at here).1)) within

-- What is put for a choice.
at_choice : (m : Machine) (c : declared.Choice) (numbers : List (Option ℤ)) (address : ℕ) (more : Bool) (i : Insn) → slice_get m.insns c.insn ≡ Some i → bytes_at m c numbers address more ≡ instruction_bytes m more address (as_choice c i) numbers
at_choice m c numbers address more i at = ap (λ o. elim o as (λ x. List ℕ) [ None ↦ [] | Some j ↦ instruction_bytes m more address (as_choice c j) numbers ]) at

more_or_not : (m : Machine) (i : Insn) (len : ℕ) (bytes : List ℕ) (more : Bool) → HasBundleBit m → len ≡ length_of m i → len ≤ length bytes →
    take len (if more then with_bundle_bit m m.bundle bytes else bytes) ≡ (if more then with_bundle_bit m m.bundle (take len bytes) else take len bytes)
more_or_not m i len bytes true has e within = bundle_in_front m i len bytes has e within
more_or_not m i len bytes false has e within = refl

pub bytes_put : (m : Machine) (c : declared.Choice) (i : Insn) (numbers : List (Option ℤ)) (address len : ℕ) (bytes set : List ℕ) (more : Bool) → HasBundleBit m → slice_get m.insns c.insn ≡ Some i → len ≡ length_of m i → len ≤ length bytes →
    take len bytes ≡ bytes_for m i numbers address → set ≡ (if more then with_bundle_bit m m.bundle bytes else bytes) → take len set ≡ bytes_at m c numbers address more
bytes_put m c i numbers address len bytes set more has at e within b s =
    ap (take len) s ∙ more_or_not m i len bytes more has e within ∙ ap (λ t. if more then with_bundle_bit m m.bundle t else t) b ∙ sym (at_choice m c numbers address more i at)

pub objection_put : (m : Machine) (c : declared.Choice) (i : Insn) (numbers : List (Option ℤ)) (address : ℕ) → slice_get m.insns c.insn ≡ Some i → objection m i numbers address ≡ objection_at m c numbers address
objection_put m c i numbers address at = sym (ap (λ o. elim o [ None ↦ None | Some j ↦ objection m j numbers address ]) at)

pub ruleset laying = (bytes_put, objection_put, insns_within)

-- The parts of a bundle, one by one.
pub more_by : (ps : List Part) (n : ℕ) → is_more (drop n ps) ≡ nat_lt n (length ps)
more_by [] zero = let e : nat_lt 0 0 ≡ false = grind (arith, nat_tests) in sym e
more_by [] (suc n) = let e : nat_lt (suc n) 0 ≡ false = grind (arith, nat_tests) in sym e
more_by (p ∷ ps) zero = let e : nat_lt 0 (suc (length ps)) ≡ true = grind (arith, nat_tests) in sym e
more_by (p ∷ ps) (suc n) = let e : nat_lt (suc n) (suc (length ps)) ≡ nat_lt n (length ps) = grind (arith, nat_tests) in more_by ps n ∙ sym e

more_left : (ps : List Part) (k : ℕ) (more : Bool) → nat_lt (k + 1) (length ps) ≡ more → is_more (drop (k + 1) ps) ≡ more
more_left ps k more e = more_by ps (k + 1) ∙ e

pub next_bytes : (m : Machine) (ps : List Part) (k : ℕ) (d : Part) (more : Bool) → k < length ps → nat_lt (k + 1) (length ps) ≡ more → told_bytes m (drop k ps) ≡ part_bytes m (get_or ps k d) more ++ told_bytes m (drop (k + 1) ps)
next_bytes m ps k d more within e =
    ap (told_bytes m) (drop_next ps k d within) ∙ ap (λ b. part_bytes m (get_or ps k d) b ++ told_bytes m (drop (k + 1) ps)) (more_left ps k more e)

pub within_at : (m : Machine) (ps : List Part) (k : ℕ) (d : Part) → k < length ps → AreWithin m ps → IsWithin m (get_or ps k d)
within_at m [] k d below are = absurd (omega (arith, below))
within_at m (p ∷ ps) zero d below are = are.0
within_at m (p ∷ ps) (suc k) d below are = within_at m ps k d (omega (arith, below)) are.1

pub ruleset putting = (next_bytes, within_at)
