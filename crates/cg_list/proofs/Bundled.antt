-- How a bundle is decoded and shown.
use Rattle.std.proofs.Common.{◌≡◌, ℕ, zero, suc, ◌+◌, ◌-◌, ◌*◌, ◌/◌, ◌%◌, ◌^◌, ◌<◌, ◌≤◌, max, Bool, true, false, not, ◌&&◌, ◌||◌, ◌==◌, nat_le, cond, if◌then◌else◌, List, [], ◌∷◌, ◌++◌, length, take, drop, map, ℤ, pos, negsuc, unsigned_abs, Option, Some, None, slice_get, sym, ap, ◌∙◌, refl, subst, inl, inr, arith}
use Rattle.std.specs.Int.{int_rem_euclid}
use Rattle.std.specs.List.{find, list_all, list_any}
use Rattle.std.proofs.lemmas.Bool.{false≢true, and_parts, or_cases, eqb-true, le-leb, lt-leb}
use Rattle.std.proofs.lemmas.List.{length-take-le}
use Rattle.std.proofs.lemmas.Bool.Decides.{nat_tests}
use Rattle.std.proofs.lemmas.Nat.{pow_pos, mod_below}
use Rattle.std.proofs.lemmas.Option.{slice_get_within}
use Rattle.cg_base.specs.Modes.{bits_of, is_signed}
use Rattle.cg_base.specs.Operations.{wrapped, as_signed, converted}
use Rattle.cg_base.specs.declared.mode.Mode.{Mode}
use Rattle.cg_code.specs.Coded.{matches_at, values_at, Holds}
use Rattle.cg_code.specs.Coding.{AreValues}
use Rattle.cg_code.proofs.Ranged.{held}
use Rattle.cg_model.specs.Clashing.{length_at}
use Rattle.cg_model.specs.Encoding.{own_pc, AreFor}
use Rattle.cg_model.specs.Fields.{field_value, multi_value}
use Rattle.cg_model_source.specs.Listing.{Decoder, Shown, shown, goes_on_by, bars_before, bundle_from, bundle_at, insn_at, is_showable, showable}
use Rattle.cg_model.specs.Matching.{length_of, last_end, fields_of_parts, part_stands, asserts, matches}
use Rattle.cg_model.specs.Slots.{slot_mode, slots_of, field_as, multi_as, fixed_value, source_value, values}
use Rattle.cg_model.specs.Sound.{IsSound, SoundField, is_word}
use Rattle.cg_model.specs.Covers.{IsInWord}
use Rattle.cg_model.specs.declared.field.Field.{Field}
use Rattle.cg_model.specs.declared.field.Multi.{Multi}
use Rattle.cg_model.specs.declared.insn.Insn.{Insn}
use Rattle.cg_model.specs.declared.insn.Values.{Values}
use Rattle.cg_model.specs.declared.machine.Machine.{Machine}
use Rattle.cg_model.specs.declared.operand.Operand.{Operand}
use Rattle.cg_model.specs.declared.operand.Source.{Source}
use Rattle.cg_model.specs.declared.operand.Source.TheVariants as source
use Rattle.cg_syntax.specs.Laying.{HasBundleBit}
use Rattle.cg_syntax.specs.Showing.{shown_at}
use Rattle.cg_tree.specs.declared.tree.Tree.{Tree}
use Rattle.cg_tree.specs.Finding.{found, leaf_for}
use Rattle.cg_list.specs.Bundles.{with_text, bundle_by}

-- ---- addresses

at_bits : (w a b : ℕ) → is_word w ≡ true → a % 2 ^ 64 ≡ b → a % 2 ^ w ≡ b % 2 ^ w
at_bits w a b word e = elim (or_cases (w == 8 || w == 16 || w == 32) (w == 64) word) [
  | inr last ↦ subst (λ k. a % 2 ^ k ≡ b % 2 ^ k) (sym (eqb-true w 64 last)) (omega (arith, e))
  | inl three ↦ elim (or_cases (w == 8 || w == 16) (w == 32) three) [
    | inr third ↦ subst (λ k. a % 2 ^ k ≡ b % 2 ^ k) (sym (eqb-true w 32 third)) (omega (arith, e))
    | inl two ↦ elim (or_cases (w == 8) (w == 16) two) [
      | inr second ↦ subst (λ k. a % 2 ^ k ≡ b % 2 ^ k) (sym (eqb-true w 16 second)) (omega (arith, e))
      | inl first ↦ subst (λ k. a % 2 ^ k ≡ b % 2 ^ k) (sym (eqb-true w 8 first)) (omega (arith, e))
    ]
  ]
]

-- an address may be cut to 64 bits
pub pc_same : (m : Machine) (a b : ℕ) → IsSound m → a % 2 ^ 64 ≡ b → own_pc m a ≡ own_pc m b
pc_same m a b sound e = at_bits m.word_bits a b sound.word e

-- ---- what is decoded

found_by_test : (p : ℕ → Bool) (x k : ℕ) (rest : Option ℕ) (b : Bool) → p x ≡ b → cond b (Some x) rest ≡ Some k → (rest ≡ Some k → p k ≡ true) → p k ≡ true
found_by_test p x k rest true test e others = let same : x ≡ k = cc in subst (λ n. p n ≡ true) same test
found_by_test p x k rest false test e others = others e

found_passes : (p : ℕ → Bool) (xs : List ℕ) (k : ℕ) → find p xs ≡ Some k → p k ≡ true
found_passes p [] k e = absurd (cc)
found_passes p (x ∷ xs) k e = found_by_test p x k (find p xs) (p x) refl e (found_passes p xs k)

pub found_matches : (t : Tree) (m : Machine) (bytes : List ℕ) (k : ℕ) → found t m bytes ≡ Some k → matches_at m k bytes ≡ true
found_matches t m bytes k e = found_passes (λ j. matches_at m j bytes) (leaf_for t bytes) k e

-- an instruction that matches bytes
pub record Matched (m : Machine) (bytes : List ℕ) (k : ℕ) : Type 0 where
  pub insn : Insn
  pub at : slice_get m.insns k ≡ Some insn
  pub fits : matches m insn bytes ≡ true

matched_at : (m : Machine) (bytes : List ℕ) (k : ℕ) (o : Option Insn) → slice_get m.insns k ≡ o → elim o as (λ _. Bool) [ None ↦ false | Some i ↦ matches m i bytes ] ≡ true → Matched m bytes k
matched_at m bytes k None at e = absurd (false≢true e)
matched_at m bytes k (Some i) at e = record { insn = i; at = at; fits = e }

matched : (m : Machine) (bytes : List ℕ) (k : ℕ) → matches_at m k bytes ≡ true → Matched m bytes k
matched m bytes k e = matched_at m bytes k (slice_get m.insns k) refl e

pub matching_within : (m : Machine) (bytes : List ℕ) (k : ℕ) → matches_at m k bytes ≡ true → k < length m.insns
matching_within m bytes k e = let x : Matched m bytes k = matched m bytes k e in slice_get_within m.insns k x.insn x.at

length_is : (m : Machine) (k : ℕ) (i : Insn) → slice_get m.insns k ≡ Some i → length_at m k ≡ length_of m i
length_is m k i is = ap (λ o. elim o as (λ _. ℕ) [ None ↦ 0 | Some x ↦ length_of m x ]) is

pub matching_long : (m : Machine) (bytes : List ℕ) (k : ℕ) → matches_at m k bytes ≡ true → length_at m k ≤ length bytes
matching_long m bytes k e =
    let x : Matched m bytes k = matched m bytes k e in
    let front = and_parts (nat_le (length_of m x.insn) (length bytes) && list_all (part_stands m bytes) x.insn.parts) (asserts m x.insn bytes) x.fits in
    let inner : nat_le (length_of m x.insn) (length bytes) ≡ true = (and_parts (nat_le (length_of m x.insn) (length bytes)) (list_all (part_stands m bytes) x.insn.parts) front.0).0 in
    let same : length_at m k ≡ length_of m x.insn = length_is m k x.insn x.at in
    grind (arith, nat_tests, inner, same)

above_base : (base end : ℕ) → base ≡ 8 * (base / 8) → base ≤ 8 * (max base end / 8)
above_base base end whole = omega (arith, whole)

pub base_within : (m : Machine) (bytes : List ℕ) (k : ℕ) → IsSound m → matches_at m k bytes ≡ true → m.base_bits ≤ 8 * length_at m k
base_within m bytes k sound e =
    let x : Matched m bytes k = matched m bytes k e in
    subst (λ n. m.base_bits ≤ 8 * n) (sym (length_is m k x.insn x.at)) (above_base m.base_bits (last_end m (fields_of_parts m x.insn.parts)) sound.base.bytes)

-- ---- values

wrapped_below : (k : ℕ) (z : ℤ) → wrapped k z < 2 ^ k
wrapped_below k (pos a) = mod_below a (2 ^ k) (pow_pos k)
wrapped_below k (negsuc a) = omega (arith, mod_below a (2 ^ k) (pow_pos k), pow_pos k)

field_below : (m : Machine) (mode : Mode) (o : Option Field) (value : ℕ) → elim o as (λ _. ℕ) [ None ↦ 0 | Some f ↦ converted f.mode mode value ] < 2 ^ bits_of mode
field_below m mode None value = pow_pos (bits_of mode)
field_below m mode (Some f) value = wrapped_below (bits_of mode) (if is_signed f.mode then as_signed (bits_of f.mode) value else pos value)

multi_below : (m : Machine) (mode : Mode) (o : Option Multi) (value : ℕ) → elim o as (λ _. ℕ) [ None ↦ 0 | Some x ↦ converted x.mode mode value ] < 2 ^ bits_of mode
multi_below m mode None value = pow_pos (bits_of mode)
multi_below m mode (Some x) value = wrapped_below (bits_of mode) (if is_signed x.mode then as_signed (bits_of x.mode) value else pos value)

fixed_below : (bits : ℕ) (s : Source) → elim s as (λ _. ℕ) [ source.Fixed n ↦ n % 2 ^ bits | _ ↦ 0 ] < 2 ^ bits
fixed_below bits source.None = pow_pos bits
fixed_below bits (source.Field k) = pow_pos bits
fixed_below bits (source.Multi k) = pow_pos bits
fixed_below bits (source.Fixed n) = mod_below n (2 ^ bits) (pow_pos bits)

source_below : (m : Machine) (bytes : List ℕ) (pc : ℕ) (o : Operand) (s : Source)
    → elim s as (λ _. ℕ) [ source.Field k ↦ field_as m (slot_mode m o) k (field_value m bytes pc (pos k)) | source.Multi k ↦ multi_as m (slot_mode m o) k (multi_value m bytes pc (pos k)) | _ ↦ fixed_value m o ] < 2 ^ bits_of (slot_mode m o)
source_below m bytes pc o source.None = fixed_below (bits_of (slot_mode m o)) o.source
source_below m bytes pc o (source.Field k) = field_below m (slot_mode m o) (slice_get m.fields k) (field_value m bytes pc (pos k))
source_below m bytes pc o (source.Multi k) = multi_below m (slot_mode m o) (slice_get m.multis k) (multi_value m bytes pc (pos k))
source_below m bytes pc o (source.Fixed n) = fixed_below (bits_of (slot_mode m o)) o.source

values_fit : (m : Machine) (bytes : List ℕ) (pc : ℕ) (os : List Operand) → AreFor m os (map (source_value m bytes pc) os)
values_fit m bytes pc [] = tt
values_fit m bytes pc (o ∷ os) = (source_below m bytes pc o o.source, values_fit m bytes pc os)

values_at_insn : (m : Machine) (k : ℕ) (i : Insn) (bytes : List ℕ) (pc : ℕ) → slice_get m.insns k ≡ Some i → values_at m k bytes pc ≡ values m i bytes pc
values_at_insn m k i bytes pc at = ap (λ o. elim o as (λ _. List ℕ) [ None ↦ [] | Some x ↦ values m x bytes pc ]) at

are_values : (m : Machine) (k : ℕ) (i : Insn) (vs : List ℕ) → slice_get m.insns k ≡ Some i → AreFor m (slots_of m i.parts) vs → AreValues m k vs
are_values m k i vs at fit = subst (λ o. elim o as (λ _. Type 0) [ None ↦ ⊥ | Some x ↦ AreFor m (slots_of m x.parts) vs ]) (sym at) fit

-- what was extracted can be shown
pub shown_values : (m : Machine) (bytes : List ℕ) (k pc : ℕ) (x : Values) → matches_at m k bytes ≡ true → Holds x (values_at m k bytes pc) → AreValues m k (take x.count x.numbers)
shown_values m bytes k pc x e h =
    let y : Matched m bytes k = matched m bytes k e in
    let is : take x.count x.numbers ≡ values m y.insn bytes pc = held x (values_at m k bytes pc) h ∙ values_at_insn m k y.insn bytes pc y.at in
    are_values m k y.insn (take x.count x.numbers) y.at (subst (AreFor m (slots_of m y.insn.parts)) (sym is) (values_fit m bytes pc (slots_of m y.insn.parts)))

pub few_values : (x : Values) (vs : List ℕ) → Holds x vs → x.count ≤ 16
few_values x vs h = omega (arith, h.count, h.few)

pub shown_same : (m : Machine) (k : ℕ) (x : Values) (vs : List ℕ) (r : Option (List ℕ)) → Holds x vs → r ≡ shown_at m k (take x.count x.numbers) → r ≡ shown_at m k vs
shown_same m k x vs r h e = e ∙ ap (shown_at m k) (held x vs h)

pub ruleset showing = (few_values, shown_same)

-- ---- the bundle's bit

bit_inside : (offset bits base n : ℕ) → bits ≡ 8 * (bits / 8) → offset ≡ 8 * (offset / 8) → offset + bits ≤ base → base ≤ 8 * n → offset / 8 + bits / 8 ≤ n
bit_inside offset bits base n b o within long = omega (arith, b, o, within, long)

pub bit_read : (m : Machine) (k n : ℕ) (f : Field) → IsSound m → HasBundleBit m → m.base_bits ≤ 8 * n → m.bundle ≡ Some k → slice_get m.fields k ≡ Some f → f.word_offset / 8 + f.word_bits / 8 ≤ n
bit_read m k n f sound bit long is at =
    let w : IsInWord f = (sound.fields k f at).placed in
    bit_inside f.word_offset f.word_bits m.base_bits n w.bytes w.offset (bit k f is at).1 long

pub ruleset going = (bit_read)

pub sound_field : (m : Machine) (k : ℕ) (f : Field) → IsSound m → slice_get m.fields k ≡ Some f → SoundField m f
sound_field m k f sound at = sound.fields k f at

pub ruleset fields = (sound_field)

-- ---- the bundle

abbrev from_insn : Machine → Decoder → ℕ → ℕ → List ℕ → Option Insn → Option Shown
from_insn m f n a bytes q = elim q [
  | None ↦ None
  | Some i ↦ elim (shown m i (values m i bytes (own_pc m a))) [
    | None ↦ None
    | Some text ↦ if goes_on_by m (take (length_of m i) bytes) m.bundle then bars_before text (length_of m i) (bundle_from m f n (a + length_of m i) (drop (length_of m i) bytes)) else Some (record { text = text; size = length_of m i })
  ]
]

by_text : (m : Machine) (f : Decoder) (n a : ℕ) (bytes : List ℕ) (size : ℕ) (t : Option (List ℕ)) → elim t as (λ _. Option Shown) [ None ↦ None | Some text ↦ if goes_on_by m (take size bytes) m.bundle then bars_before text size (bundle_from m f n (a + size) (drop size bytes)) else Some (record { text = text; size = size }) ] ≡ with_text m f n a bytes size t
by_text m f n a bytes size None = refl
by_text m f n a bytes size (Some text) = refl

by_insn : (m : Machine) (f : Decoder) (n a : ℕ) (bytes : List ℕ) (q : Option Insn)
    → from_insn m f n a bytes q ≡ with_text m f n a bytes (elim q as (λ _. ℕ) [ None ↦ 0 | Some i ↦ length_of m i ]) (elim q as (λ _. Option (List ℕ)) [ None ↦ None | Some i ↦ shown m i (elim q as (λ _. List ℕ) [ None ↦ [] | Some j ↦ values m j bytes (own_pc m a) ]) ])
by_insn m f n a bytes None = refl
by_insn m f n a bytes (Some i) = by_text m f n a bytes (length_of m i) (shown m i (values m i bytes (own_pc m a)))

by_found : (m : Machine) (f : Decoder) (n a : ℕ) (bytes : List ℕ) (o : Option ℕ) → f bytes ≡ o → bundle_from m f (suc n) a bytes ≡ bundle_by m f n a bytes o
by_found m f n a bytes None e = ap (λ o. from_insn m f n a bytes (insn_at m o)) e
by_found m f n a bytes (Some k) e = ap (λ o. from_insn m f n a bytes (insn_at m o)) e ∙ by_insn m f n a bytes (slice_get m.insns k)

bundle_step : (m : Machine) (f : Decoder) (n a : ℕ) (bytes : List ℕ) (o : Option ℕ) → 0 < n → f bytes ≡ o → bundle_from m f n a bytes ≡ bundle_by m f (n - 1) a bytes o
bundle_step m f zero a bytes o some e = absurd (omega (arith, some))
bundle_step m f (suc n) a bytes o some e = let less : n ≡ suc n - 1 = omega arith in by_found m f n a bytes o e ∙ ap (λ j. bundle_by m f j a bytes o) less

pub by_zero : (m : Machine) (f : Decoder) (n a : ℕ) (bytes : List ℕ) → n ≡ 0 → None ≡ bundle_from m f n a bytes
by_zero m f n a bytes e = sym (ap (λ k. bundle_from m f k a bytes) e)

pub by_none : (m : Machine) (f : Decoder) (n a : ℕ) (bytes : List ℕ) → (n ≡ 0 → ⊥) → f bytes ≡ None → None ≡ bundle_from m f n a bytes
by_none m f n a bytes some e = let more : 0 < n = omega (arith, some) in sym (bundle_step m f n a bytes None more e)

at_pc : (m : Machine) (k a b : ℕ) (bytes : List ℕ) (t : Option (List ℕ)) → IsSound m → a % 2 ^ 64 ≡ b → t ≡ shown_at m k (values_at m k bytes (own_pc m b)) → shown_at m k (values_at m k bytes (own_pc m a)) ≡ t
at_pc m k a b bytes t sound same e = ap (λ p. shown_at m k (values_at m k bytes p)) (pc_same m a b sound same) ∙ sym e

pub by_hidden : (m : Machine) (f : Decoder) (n a b k : ℕ) (bytes : List ℕ) → IsSound m → (n ≡ 0 → ⊥) → f bytes ≡ Some k → a % 2 ^ 64 ≡ b → None ≡ shown_at m k (values_at m k bytes (own_pc m b)) → None ≡ bundle_from m f n a bytes
by_hidden m f n a b k bytes sound some e same t =
    let more : 0 < n = omega (arith, some) in
    sym (bundle_step m f n a bytes (Some k) more e ∙ ap (with_text m f (n - 1) a bytes (length_at m k)) (at_pc m k a b bytes None sound same t))

pub by_last : (m : Machine) (f : Decoder) (n a b k size : ℕ) (bytes text : List ℕ) → IsSound m → (n ≡ 0 → ⊥) → f bytes ≡ Some k → a % 2 ^ 64 ≡ b → size ≡ length_at m k → Some text ≡ shown_at m k (values_at m k bytes (own_pc m b)) → goes_on_by m (take size bytes) m.bundle ≡ false
    → Some (record { text = text; size = size }) ≡ bundle_from m f n a bytes
by_last m f n a b k size bytes text sound some e same long t ends =
    let more : 0 < n = omega (arith, some) in
    sym (bundle_step m f n a bytes (Some k) more e ∙ ap (with_text m f (n - 1) a bytes (length_at m k)) (at_pc m k a b bytes (Some text) sound same t)
    ∙ ap (λ s. with_text m f (n - 1) a bytes s (Some text)) (sym long)
    ∙ ap (λ g. if g then bars_before text size (bundle_from m f (n - 1) (a + size) (drop size bytes)) else Some (record { text = text; size = size })) ends)

-- the address behind an instruction
behind_same : (a b c size : ℕ) → a % 2 ^ 64 ≡ b → c ≡ (b + size) % 2 ^ 64 → (a + size) % 2 ^ 64 ≡ c
behind_same a b c size e f = omega (arith, e, f)

-- an instruction in front of what stands behind it, wherever that lies
pub by_more : (m : Machine) (f : Decoder) (n a b c k size : ℕ) (bytes text : List ℕ) (rest r : Option Shown) → IsSound m → (n ≡ 0 → ⊥) → f bytes ≡ Some k → a % 2 ^ 64 ≡ b → size ≡ length_at m k → Some text ≡ shown_at m k (values_at m k bytes (own_pc m b)) → goes_on_by m (take size bytes) m.bundle ≡ true
    → c ≡ (b + size) % 2 ^ 64 → ((d : ℕ) → d % 2 ^ 64 ≡ c → rest ≡ bundle_from m f (n - 1) d (drop size bytes)) → r ≡ bars_before text size rest → r ≡ bundle_from m f n a bytes
by_more m f n a b c k size bytes text rest r sound some e same long t goes next behind is =
    let more : 0 < n = omega (arith, some) in
    is ∙ ap (bars_before text size) (behind (a + size) (behind_same a b c size same next)) ∙ sym (bundle_step m f n a bytes (Some k) more e ∙ ap (with_text m f (n - 1) a bytes (length_at m k)) (at_pc m k a b bytes (Some text) sound same t)
    ∙ ap (λ s. with_text m f (n - 1) a bytes s (Some text)) (sym long)
    ∙ ap (λ g. if g then bars_before text size (bundle_from m f (n - 1) (a + size) (drop size bytes)) else Some (record { text = text; size = size })) goes)

pub ruleset bundling = (found_matches, matching_within, matching_long, base_within, by_zero, by_none, by_hidden, by_last, by_more)

-- the front of an instruction that matches
pub front_within : (m : Machine) (bytes : List ℕ) (k size : ℕ) → matches_at m k bytes ≡ true → size ≡ length_at m k → size ≤ length bytes
front_within m bytes k size e long = let within = matching_long m bytes k e in omega (arith, within, long)

pub front_long : (m : Machine) (bytes : List ℕ) (k size : ℕ) → matches_at m k bytes ≡ true → size ≡ length_at m k → size ≡ length (take size bytes)
front_long m bytes k size e long = sym (length-take-le size bytes (front_within m bytes k size e long))

pub front_base : (m : Machine) (bytes : List ℕ) (k size : ℕ) → IsSound m → matches_at m k bytes ≡ true → size ≡ length_at m k → m.base_bits ≤ 8 * length (take size bytes)
front_base m bytes k size sound e long =
    let base = base_within m bytes k sound e in
    let own = front_long m bytes k size e long in
    omega (arith, base, own, long)

-- whether a text can be shown
and_true : (b : Bool) → b && true ≡ b
and_true true = refl
and_true false = refl

and_false : (b : Bool) → b && false ≡ false
and_false true = refl
and_false false = refl

pub short_shown : (text : List ℕ) (ends : Bool) → list_any (λ b. b == 10) text ≡ ends → length text ≤ 3800 → not ends ≡ is_showable text
short_shown text ends e short =
    let le : nat_le (length text) 3800 ≡ true = le-leb (length text) 3800 short in
    sym (ap (λ x. not (list_any (λ b. b == 10) text) && x) le ∙ and_true (not (list_any (λ b. b == 10) text)) ∙ ap not e)

pub long_hidden : (text : List ℕ) → 3800 < length text → false ≡ is_showable text
long_hidden text long =
    let gt : nat_le (length text) 3800 ≡ false = lt-leb (length text) 3800 long in
    sym (ap (λ x. not (list_any (λ b. b == 10) text) && x) gt ∙ and_false (not (list_any (λ b. b == 10) text)))

pub ruleset showable_tests = (short_shown, long_hidden)

-- the bundle where it can be shown
shown_test : (s : Shown) (b : Bool) → is_showable s.text ≡ b → showable (Some s) ≡ (if b then Some s else None)
shown_test s b e = ap (λ x. if x then Some s else None) e

pub can_show : (m : Machine) (f : Decoder) (a b : ℕ) (bytes : List ℕ) (s : Shown) → a % 2 ^ 64 ≡ b → ((d : ℕ) → d % 2 ^ 64 ≡ b → Some s ≡ bundle_from m f m.width d bytes) → is_showable s.text ≡ true → Some s ≡ bundle_at m f a bytes
can_show m f a b bytes s same found e = sym (shown_test s true e) ∙ ap showable (found a same)

pub can_not_show : (m : Machine) (f : Decoder) (a b : ℕ) (bytes : List ℕ) (s : Shown) → a % 2 ^ 64 ≡ b → ((d : ℕ) → d % 2 ^ 64 ≡ b → Some s ≡ bundle_from m f m.width d bytes) → is_showable s.text ≡ false → None ≡ bundle_at m f a bytes
can_not_show m f a b bytes s same found e = sym (shown_test s false e) ∙ ap showable (found a same)

pub none_shown : (m : Machine) (f : Decoder) (a b : ℕ) (bytes : List ℕ) → a % 2 ^ 64 ≡ b → ((d : ℕ) → d % 2 ^ 64 ≡ b → None ≡ bundle_from m f m.width d bytes) → None ≡ bundle_at m f a bytes
none_shown m f a b bytes same found = ap showable (found a same)

pub ruleset showable_rules = (can_show, can_not_show, none_shown)
