-- There is one first clash, or none at all.
use Rattle.std.proofs.Common.{◌≡◌, ◌⊎◌, inl, inr, ℕ, zero, suc, ◌+◌, ◌*◌, ◌^◌, ◌<◌, ◌≤◌, Bool, true, false, List, [], ◌∷◌, length, slice_index, Option, Some, None, slice_get, refl, sym, ap, ◌∙◌, subst, arith, append-nil}
use Rattle.std.proofs.lemmas.Bool.{cases_lt, false≢true}
use Rattle.std.proofs.lemmas.Nat.{same_from_place}
use Rattle.std.proofs.lemmas.Option.{slice_get_within}
use Rattle.byteorder.specs.Endian.{big_from}
use Rattle.byteorder.specs.Numbers.{big_from-cons, big_from-lt, big_number-reads_back, length-bytes_high_first}
use Rattle.cg_base.specs.declared.mode.Endian.TheVariants.{Big}
use Rattle.cg_base.specs.Bytes.{number_of, bytes_of}
use Rattle.cg_model.specs.Clashing.{AreBytes, longer, Clashes, NoClash, FirstClash}
use Rattle.cg_model.specs.Matching.{matches, IsMatch}
use Rattle.cg_model.specs.declared.insn.Insn.{Insn}
use Rattle.cg_model.specs.declared.machine.Machine.{Machine}
use Rattle.cg_code_mask.proofs.Masks.{are_bytes}

-- bytes of one length that are one number are the same
same_bytes : (xs ys : List ℕ) → AreBytes xs → AreBytes ys → length xs ≡ length ys → big_from 0 (length xs) xs ≡ big_from 0 (length ys) ys → xs ≡ ys
same_bytes [] [] h k long e = refl
same_bytes [] (y ∷ ys) h k long e = absurd (omega (arith, long))
same_bytes (x ∷ xs) [] h k long e = absurd (omega (arith, long))
same_bytes (x ∷ xs) (y ∷ ys) h k long e =
    let tails : length xs ≡ length ys = omega (arith, long) in
    let left : AreBytes xs = record { below = λ n. h.below (suc n) } in
    let right : AreBytes ys = record { below = λ n. k.below (suc n) } in
    let numbers : x * 256 ^ length xs + big_from 0 (length xs) xs ≡ y * 256 ^ length xs + big_from 0 (length ys) ys =
    ap (λ r. x * 256 ^ length xs + r) (sym (big_from-cons 0 (length xs) x xs))
    ∙ e
    ∙ ap (λ r. y * 256 ^ length ys + r) (big_from-cons 0 (length ys) y ys)
    ∙ ap (λ n. y * 256 ^ n + big_from 0 (length ys) ys) (sym tails) in
    let fits : big_from 0 (length xs) xs < 256 ^ length xs = big_from-lt 0 (length xs) xs left.below in
    let too : big_from 0 (length ys) ys < 256 ^ length xs = subst (λ n. big_from 0 (length ys) ys < 256 ^ n) (sym tails) (big_from-lt 0 (length ys) ys right.below) in
    let both : (x ≡ y) × (big_from 0 (length xs) xs ≡ big_from 0 (length ys) ys) = same_from_place x (big_from 0 (length xs) xs) y (big_from 0 (length ys) ys) (256 ^ length xs) fits too numbers in
    ap (λ z. z ∷ xs) both.0 ∙ ap (λ zs. y ∷ zs) (same_bytes xs ys left right tails both.1)

same_clash : (m : Machine) (i j : ℕ) (xs ys : List ℕ) → Clashes m i j xs → Clashes m i j ys → number_of Big (longer m i j) xs ≡ number_of Big (longer m i j) ys → xs ≡ ys
same_clash m i j xs ys c d e =
    same_bytes xs ys c.are_bytes d.are_bytes (c.long ∙ sym d.long) (ap (λ n. big_from 0 n xs) c.long ∙ e ∙ ap (λ n. big_from 0 n ys) (sym d.long))

-- Two first clashes are the same.
pub record AreSame (i j k l : ℕ) (xs ys : List ℕ) : Type 0 where
  pub first : i ≡ k
  pub second : j ≡ l
  pub bytes : xs ≡ ys

same_strings : (m : Machine) (i j : ℕ) (xs ys : List ℕ) → FirstClash m i j xs → FirstClash m i j ys → xs ≡ ys
same_strings m i j xs ys a b = same_clash m i j xs ys a.clashes b.clashes (omega (arith, a.least ys b.clashes, b.least xs a.clashes))

same_seconds : (m : Machine) (i j l : ℕ) (xs ys : List ℕ) → FirstClash m i j xs → FirstClash m i l ys → AreSame i j i l xs ys
same_seconds m i j l xs ys a b =
    let second : j ≡ l = omega (arith, a.by_second l ys b.clashes, b.by_second j xs a.clashes) in
    record { first = refl; second = second; bytes = same_strings m i j xs ys a (subst (λ n. FirstClash m i n ys) (sym second) b) }

pub same_first : (m : Machine) (i j k l : ℕ) (xs ys : List ℕ) → FirstClash m i j xs → FirstClash m k l ys → AreSame i j k l xs ys
same_first m i j k l xs ys a b =
    let first : i ≡ k = omega (arith, a.by_first k l ys b.clashes, b.by_first i j xs a.clashes) in
    let rest : AreSame i j i l xs ys = same_seconds m i j l xs ys a (subst (λ n. FirstClash m n l ys) (sym first) b) in
    record { first = first; second = rest.second; bytes = rest.bytes }

-- The least number below a bound of which something holds, or none.
data Least (P : ℕ → Type 0) (n : ℕ) : Type 0 where
  least : (k : ℕ) → k < n → P k → ((l : ℕ) → P l → k ≤ l) → Least P n
  never : ((l : ℕ) → l < n → P l → ⊥) → Least P n

least_of : (P : ℕ → Type 0) → ((k : ℕ) → P k ⊎ (P k → ⊥)) → (n : ℕ) → Least P n
least_of P decide zero = never (λ l h p. absurd (omega (arith, h)))
least_of P decide (suc n) = at (least_of P decide n) where
  none_before : ((l : ℕ) → l < n → P l → ⊥) → (l : ℕ) → P l → n ≤ l
  none_before f l p = elim (cases_lt l n) [ inl below ↦ absurd (f l below p) | inr past ↦ past ]

  none_at : ((l : ℕ) → l < n → P l → ⊥) → (P n → ⊥) → (l : ℕ) → l < suc n → P l → ⊥
  none_at f refuted l h p = elim (cases_lt l n) [ inl below ↦ f l below p | inr past ↦ let same : l ≡ n = omega (arith, h, past) in refuted (subst P same p) ]

  here : ((l : ℕ) → l < n → P l → ⊥) → P n ⊎ (P n → ⊥) → Least P (suc n)
  here f (inl p) = least n (omega arith) p (none_before f)
  here f (inr refuted) = never (none_at f refuted)

  at : Least P n → Least P (suc n)
  at (least k h p f) = least k (omega (arith, h)) p f
  at (never f) = here f (decide n)

-- whether some bytes match an instruction
match_or_none : (m : Machine) (bytes : List ℕ) (k : ℕ) → IsMatch m bytes k ⊎ (IsMatch m bytes k → ⊥)
match_or_none m bytes k = at (slice_get m.insns k) refl where
  same_insn : (i : Insn) → slice_get m.insns k ≡ Some i → (x : IsMatch m bytes k) → Some i ≡ Some x.insn
  same_insn i is x = sym is ∙ x.within

  in_hand : Insn → Option Insn → Insn
  in_hand i None = i
  in_hand i (Some j) = j

  tested : (i : Insn) → slice_get m.insns k ≡ Some i → (a b : Bool) → i.decodable ≡ a → matches m i bytes ≡ b → IsMatch m bytes k ⊎ (IsMatch m bytes k → ⊥)
  tested i is true true d h = inl (record { insn = i; within = is; decodable = d; matching = h })
  tested i is false b d h = inr (λ x. false≢true (sym d ∙ ap (λ (o : Option Insn). (in_hand i o).decodable) (same_insn i is x) ∙ x.decodable))
  tested i is true false d h = inr (λ x. false≢true (sym h ∙ ap (λ (o : Option Insn). matches m (in_hand i o) bytes) (same_insn i is x) ∙ x.matching))

  nothing : slice_get m.insns k ≡ None → IsMatch m bytes k → ⊥
  nothing is x = false≢true (ap (λ (o : Option Insn). elim o as (λ _. Bool) [ None ↦ false | Some i ↦ true ]) (sym is ∙ x.within))

  at : (o : Option Insn) → slice_get m.insns k ≡ o → IsMatch m bytes k ⊎ (IsMatch m bytes k → ⊥)
  at None is = inr (nothing is)
  at (Some i) is = tested i is i.decodable (matches m i bytes) refl refl

-- the string of a number, as long as the longer of two instructions
abbrev string_of : Machine → ℕ → ℕ → ℕ → List ℕ
string_of m i j v = bytes_of Big (longer m i j) v

clash_or_none : (m : Machine) (i j v : ℕ) → Clashes m i j (string_of m i j v) ⊎ (Clashes m i j (string_of m i j v) → ⊥)
clash_or_none m i j v = ordered (cases_lt i j) where
  bytes : List ℕ
  bytes = string_of m i j v

  both : i < j → IsMatch m bytes i ⊎ (IsMatch m bytes i → ⊥) → IsMatch m bytes j ⊎ (IsMatch m bytes j → ⊥) → Clashes m i j bytes ⊎ (Clashes m i j bytes → ⊥)
  both before (inl a) (inl b) = inl (record { before = before; first = a; second = b; are_bytes = are_bytes Big (longer m i j) v; long = length-bytes_high_first (longer m i j) v })
  both before (inr refuted) b = inr (λ c. refuted c.first)
  both before (inl a) (inr refuted) = inr (λ c. refuted c.second)

  ordered : i < j ⊎ j ≤ i → Clashes m i j bytes ⊎ (Clashes m i j bytes → ⊥)
  ordered (inl before) = both before (match_or_none m bytes i) (match_or_none m bytes j)
  ordered (inr behind) = inr (λ c. absurd (omega (arith, behind, c.before)))

-- the string of the number that a clash's bytes are is these bytes
abbrev number_at : (m : Machine) (i j : ℕ) (xs : List ℕ) → ℕ
number_at m i j xs = number_of Big (longer m i j) xs

number_below : (m : Machine) (i j : ℕ) (xs : List ℕ) → Clashes m i j xs → number_at m i j xs < 256 ^ longer m i j
number_below m i j xs c = big_from-lt 0 (longer m i j) xs c.are_bytes.below

number_back : (m : Machine) (i j v : ℕ) → v < 256 ^ longer m i j → number_at m i j (string_of m i j v) ≡ v
number_back m i j v h = ap (number_of Big (longer m i j)) (sym (append-nil (string_of m i j v))) ∙ big_number-reads_back (longer m i j) v [] h

string_back : (m : Machine) (i j : ℕ) (xs : List ℕ) → Clashes m i j xs → xs ≡ string_of m i j (number_at m i j xs)
string_back m i j xs c =
    let n : ℕ = longer m i j in
    let v : ℕ = number_at m i j xs in
    let long : length (string_of m i j v) ≡ n = length-bytes_high_first n v in
    same_bytes xs (string_of m i j v) c.are_bytes (are_bytes Big n v) (c.long ∙ sym long)
    (ap (λ k. big_from 0 k xs) c.long ∙ sym (number_back m i j v (number_below m i j xs c)) ∙ ap (λ k. big_from 0 k (string_of m i j v)) (sym long))

on_numbers : (m : Machine) (i j : ℕ) (xs : List ℕ) → Clashes m i j xs → Clashes m i j (string_of m i j (number_at m i j xs))
on_numbers m i j xs c = subst (Clashes m i j) (string_back m i j xs c) c

-- Two instructions clash nowhere, or on some bytes first.
record LeastBytes (m : Machine) (i j : ℕ) : Type 0 where
  bytes : List ℕ
  clashes : Clashes m i j bytes
  least : (other : List ℕ) → Clashes m i j other → number_at m i j bytes ≤ number_at m i j other

bytes_or_none : (m : Machine) (i j : ℕ) → LeastBytes m i j ⊎ ((xs : List ℕ) → Clashes m i j xs → ⊥)
bytes_or_none m i j = at (least_of P (clash_or_none m i j) (256 ^ longer m i j)) where
  P : ℕ → Type 0
  P v = Clashes m i j (string_of m i j v)

  at : Least P (256 ^ longer m i j) → LeastBytes m i j ⊎ ((xs : List ℕ) → Clashes m i j xs → ⊥)
  at (least v h p f) = inl (record {
    bytes = string_of m i j v;
    clashes = p;
    least = λ other c. let low : v ≤ number_at m i j other = f (number_at m i j other) (on_numbers m i j other c) in
        subst (λ n. n ≤ number_at m i j other) (sym (number_back m i j v h)) low;
  })
  at (never f) = inr (λ xs c. f (number_at m i j xs) (number_below m i j xs c) (on_numbers m i j xs c))

-- An instruction clashes with none behind it, or with one first.
record LeastSecond (m : Machine) (i : ℕ) : Type 0 where
  second : ℕ
  bytes : LeastBytes m i second
  by_second : (l : ℕ) (other : List ℕ) → Clashes m i l other → second ≤ l

within_insns : (m : Machine) (bytes : List ℕ) (k : ℕ) → IsMatch m bytes k → k < length m.insns
within_insns m bytes k x = slice_get_within m.insns k x.insn x.within

second_or_none : (m : Machine) (i : ℕ) → LeastSecond m i ⊎ ((l : ℕ) (xs : List ℕ) → Clashes m i l xs → ⊥)
second_or_none m i = at (least_of (LeastBytes m i) decide (length m.insns)) where
  some : (l : ℕ) (xs : List ℕ) → Clashes m i l xs → LeastBytes m i l ⊎ ((ys : List ℕ) → Clashes m i l ys → ⊥) → LeastBytes m i l
  some l xs c (inl b) = b
  some l xs c (inr refuted) = absurd (refuted xs c)

  from : (l : ℕ) (xs : List ℕ) → Clashes m i l xs → LeastBytes m i l
  from l xs c = some l xs c (bytes_or_none m i l)

  decide : (l : ℕ) → LeastBytes m i l ⊎ (LeastBytes m i l → ⊥)
  decide l = by (bytes_or_none m i l) where
    by : LeastBytes m i l ⊎ ((xs : List ℕ) → Clashes m i l xs → ⊥) → LeastBytes m i l ⊎ (LeastBytes m i l → ⊥)
    by (inl b) = inl b
    by (inr refuted) = inr (λ b. refuted b.bytes b.clashes)

  at : Least (LeastBytes m i) (length m.insns) → LeastSecond m i ⊎ ((l : ℕ) (xs : List ℕ) → Clashes m i l xs → ⊥)
  at (least k h b f) = inl (record { second = k; bytes = b; by_second = λ l other c. f l (from l other c) })
  at (never f) = inr (λ l xs c. f l (within_insns m xs l c.second) (from l xs c))

-- No two instructions clash, or two do first.
pub record HasFirst (m : Machine) : Type 0 where
  pub first : ℕ
  pub second : ℕ
  pub bytes : List ℕ
  pub is : FirstClash m first second bytes

pub first_or_none : (m : Machine) → HasFirst m ⊎ NoClash m
first_or_none m = at (least_of (LeastSecond m) decide (length m.insns)) where
  some : (k l : ℕ) (xs : List ℕ) → Clashes m k l xs → LeastSecond m k ⊎ ((l : ℕ) (ys : List ℕ) → Clashes m k l ys → ⊥) → LeastSecond m k
  some k l xs c (inl s) = s
  some k l xs c (inr refuted) = absurd (refuted l xs c)

  from : (k l : ℕ) (xs : List ℕ) → Clashes m k l xs → LeastSecond m k
  from k l xs c = some k l xs c (second_or_none m k)

  decide : (k : ℕ) → LeastSecond m k ⊎ (LeastSecond m k → ⊥)
  decide k = by (second_or_none m k) where
    by : LeastSecond m k ⊎ ((l : ℕ) (xs : List ℕ) → Clashes m k l xs → ⊥) → LeastSecond m k ⊎ (LeastSecond m k → ⊥)
    by (inl s) = inl s
    by (inr refuted) = inr (λ s. refuted s.second s.bytes.bytes s.bytes.clashes)

  at : Least (LeastSecond m) (length m.insns) → HasFirst m ⊎ NoClash m
  at (least i h s f) = inl (record {
    first = i;
    second = s.second;
    bytes = s.bytes.bytes;
    is = record {
      clashes = s.bytes.clashes;
      by_first = λ k l other c. f k (from k l other c);
      by_second = s.by_second;
      least = s.bytes.least;
    };
  })
  at (never f) = inr (record { none = λ i j xs c. f i (within_insns m xs i c.first) (from i j xs c) })
