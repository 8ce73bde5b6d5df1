-- How long the bytes of instructions are.
use Rattle.std.proofs.Common.{◌≡◌, ℕ, zero, suc, ◌+◌, ◌*◌, ◌/◌, ◌≤◌, max, Bool, List, [], ◌∷◌, ◌++◌, length, take, drop, replicate, ℤ, Option, Some, None, slice_get, ap, ◌∙◌, refl, arith}
use Rattle.std.specs.Int.{bytes_high_first, bytes_low_first}
use Rattle.std.proofs.lemmas.Bool.{cond_both, leb-true}
use Rattle.std.proofs.lemmas.List.{length-append, length-drop, length-take-le}
use Rattle.cg_base.specs.Bytes.{bytes_of}
use Rattle.cg_base.specs.declared.mode.Endian.{Endian}
use Rattle.cg_base.specs.declared.mode.Endian.TheVariants.{Big, Little}
use Rattle.cg_model_source.specs.Bundling.{with_bundle_bit, instruction_bytes}
use Rattle.cg_model_source.specs.Choosing.{Choice, bytes_for, values_for}
use Rattle.cg_model.specs.Covers.{is_near}
use Rattle.cg_model.specs.Encoding.{Setting, settings, word_with, with_word, with_bits, with_all, in_place, candidate, own_pc}
use Rattle.cg_model.specs.Fields.{word_of}
use Rattle.cg_model.specs.Matching.{length_of, last_end, fields_of_parts}
use Rattle.cg_model.specs.Slots.{slots_of}
use Rattle.cg_model.specs.declared.field.Field.{Field}
use Rattle.cg_model.specs.declared.insn.Insn.{Insn}
use Rattle.cg_model.specs.declared.machine.Machine.{Machine}

high_long : (n x : ℕ) → length (bytes_high_first n x) ≡ n
high_long zero x = refl
high_long (suc n) x = ap suc (high_long n x)

low_long : (i n x : ℕ) → length (bytes_low_first i n x) ≡ n
low_long i zero x = refl
low_long i (suc n) x = ap suc (low_long (suc i) n x)

bytes_long : (e : Endian) (n x : ℕ) → length (bytes_of e n x) ≡ n
bytes_long Big n x = high_long n x
bytes_long Little n x = low_long 0 n x

put_long : (o w : ℕ) (ys bytes : List ℕ) → length ys ≡ w → o + w ≤ length bytes → length (take o bytes ++ ys ++ drop (o + w) bytes) ≡ length bytes
put_long o w ys bytes long within =
    let front = length-append (take o bytes) ys in
    let all = length-append (take o bytes ++ ys) (drop (o + w) bytes) in
    let first = length-take-le o bytes (omega (arith, within)) in
    let last = length-drop (o + w) bytes in
    omega (arith, front, all, first, last, long, within)

pub word_long : (m : Machine) (f : Field) (n : ℕ) (bytes : List ℕ) → f.word_offset / 8 + f.word_bits / 8 ≤ length bytes → length (with_word m f n bytes) ≡ length bytes
word_long m f n bytes within =
    let x : ℕ = word_with f n (word_of m f bytes) in
    put_long (f.word_offset / 8) (f.word_bits / 8) (bytes_of m.insn_endian (f.word_bits / 8) x) bytes (bytes_long m.insn_endian (f.word_bits / 8) x) within

near_within : (offset bits n : ℕ) → offset + bits ≤ 8 * n → offset / 8 + bits / 8 ≤ n
near_within offset bits n e = omega (arith, e)

bits_long : (m : Machine) (f : Field) (n : ℕ) (bytes : List ℕ) → length bytes ≡ 16 → length (with_bits m f n bytes) ≡ 16
bits_long m f n bytes long =
    cond_both (is_near f) (with_word m f n bytes) bytes (λ xs. length xs ≡ 16)
    (λ near. let end : f.word_offset + f.word_bits ≤ 128 = leb-true (f.word_offset + f.word_bits) 128 near in
    word_long m f n bytes (omega (arith, near_within f.word_offset f.word_bits 16 (omega (arith, end)), long)) ∙ long)
    (λ far. long)

all_long : (m : Machine) (xs : List Setting) (bytes : List ℕ) → length bytes ≡ 16 → length (with_all m xs bytes) ≡ 16
all_long m [] bytes long = long
all_long m (x ∷ xs) bytes long = all_long m xs (with_bits m x.field x.bits bytes) (bits_long m x.field x.bits bytes long)

candidate_long : (m : Machine) (i : Insn) (vs : List ℕ) (pc : ℕ) → length_of m i ≤ 16 → length (candidate m i vs pc) ≡ length_of m i
candidate_long m i vs pc short =
    let long : length (in_place m i vs pc) ≡ 16 = all_long m (settings m pc i.parts vs) (replicate 16 0) refl in
    length-take-le (length_of m i) (in_place m i vs pc) (omega (arith, short, long))

-- the bundle's bit lies in the shortest instruction
abbrev pub HasNearBit : Machine → Type 0
HasNearBit m = (k : ℕ) (f : Field) → m.bundle ≡ Some k → slice_get m.fields k ≡ Some f → f.word_offset + f.word_bits ≤ m.base_bits

abbrev with_field : Machine → Option Field → List ℕ → List ℕ
with_field m o bytes = elim o [ None ↦ bytes | Some f ↦ with_bits m f 1 bytes ]

field_long : (m : Machine) (o : Option Field) (bytes : List ℕ) → ((f : Field) → o ≡ Some f → f.word_offset + f.word_bits ≤ 8 * length bytes) → length (with_field m o bytes) ≡ length bytes
field_long m None bytes within = refl
field_long m (Some f) bytes within =
    cond_both (is_near f) (with_word m f 1 bytes) bytes (λ xs. length xs ≡ length bytes) (λ near. word_long m f 1 bytes (near_within f.word_offset f.word_bits (length bytes) (within f refl))) (λ far. refl)

bundle_long : (m : Machine) (o : Option ℕ) (bytes : List ℕ) → ((k : ℕ) (f : Field) → o ≡ Some k → slice_get m.fields k ≡ Some f → f.word_offset + f.word_bits ≤ 8 * length bytes) → length (with_bundle_bit m o bytes) ≡ length bytes
bundle_long m None bytes within = refl
bundle_long m (Some k) bytes within = field_long m (slice_get m.fields k) bytes (λ f is. within k f refl is)

above_base : (base end : ℕ) → base ≡ 8 * (base / 8) → base ≤ 8 * (max base end / 8)
above_base base end whole = omega (arith, whole)

pub instruction_long : (m : Machine) (more : Bool) (a : ℕ) (c : Choice) (numbers : List (Option ℤ)) → m.base_bits ≡ 8 * (m.base_bits / 8) → HasNearBit m → length_of m c.insn ≤ 16 → length (instruction_bytes m more a c numbers) ≡ length_of m c.insn
instruction_long m more a c numbers whole near short =
    let own : List ℕ = bytes_for m c.insn numbers a in
    let long : length own ≡ length_of m c.insn = candidate_long m c.insn (values_for m (slots_of m c.insn.parts) numbers) (own_pc m a) short in
    let base : m.base_bits ≤ 8 * length_of m c.insn = above_base m.base_bits (last_end m (fields_of_parts m c.insn.parts)) whole in
    cond_both more (with_bundle_bit m m.bundle own) own (λ xs. length xs ≡ length_of m c.insn) (λ goes. bundle_long m m.bundle own (λ k f is at. omega (arith, near k f is at, base, long)) ∙ long) (λ last. long)
