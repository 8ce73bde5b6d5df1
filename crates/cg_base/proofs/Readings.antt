-- Numbers that texts write.
use Rattle.std.proofs.Common.{◌≡◌, ℕ, suc, ◌+◌, ◌*◌, ◌^◌, ◌<◌, ◌≤◌, Bool, true, false, cond, ◌&&◌, ◌==◌, nat_lt, List, [], ◌∷◌, length, get_or, drop, Some, None, Result, Ok, Err, IfOk, refl, sym, ap, subst, ◌∙◌, arith}
use Rattle.std.proofs.Math.Seq.{drop-cons}
use Rattle.std.proofs.Math.ListN.{drop_of_length-le}
use Rattle.std.proofs.Math.Nat.{le-mul_of_pos_right}
use Rattle.std.proofs.lemmas.Bool.Decides.{nat_tests}
use Rattle.std.proofs.lemmas.Fmt.{digits_is_IsNumeral, decimal_is_IsNumeral}
use Rattle.std.proofs.lemmas.Str.Parse.{digit_from_value}
use Rattle.std.proofs.Math.Bool.{and-false}
use Rattle.std.specs.Char.{digit_value}
use Rattle.std.specs.Str.Parse.{AllDigits, IsNumeral, digits_value, digits_value_after}
use Rattle.std.specs.Fmt.{digits, decimal}
use Rattle.std.specs.List.{list_all}
use Rattle.cg_base.specs.Numerals.{is_digit_of, number_in, begins_with_0x, number_written, hex_text}

-- what digits write is no less than what those in front of them do
no_less : (base n : ℕ) (text : List ℕ) → 0 < base → n ≤ digits_value_after base n text
no_less base n [] some = omega arith
no_less base n (b ∷ bs) some = omega (arith, le-mul_of_pos_right n some, no_less base (n * base + digit_value b) bs some)

too_large : (base : ℕ) (text : List ℕ) → 2 ^ 64 ≤ digits_value base text → number_in base text ≡ None
too_large base text h =
    let some = nat_lt 0 (length text) && list_all (is_digit_of base) text in
    let number = Some (digits_value base text) in
    let large : nat_lt (digits_value base text) (2 ^ 64) ≡ false = grind (arith, nat_tests) in
    ap (λ b. cond (some && b) number None) large ∙ ap (λ b. cond b number None) (and-false some)

picked : (a b c : Bool) (n : ℕ) → a ≡ true → b ≡ true → c ≡ true → cond (a && b && c) (Some n) None ≡ Some n
picked a b c n p q r = rw (p, q, r) refl

in_range : (base : ℕ) (text : List ℕ) → 0 < length text → list_all (is_digit_of base) text ≡ true → digits_value base text < 2 ^ 64 → number_in base text ≡ Some (digits_value base text)
in_range base text some all fits =
    let first : nat_lt 0 (length text) ≡ true = grind (arith, nat_tests) in
    let last : nat_lt (digits_value base text) (2 ^ 64) ≡ true = grind (arith, nat_tests) in
    picked (nat_lt 0 (length text)) (list_all (is_digit_of base) text) (nat_lt (digits_value base text) (2 ^ 64)) (digits_value base text) first all last

-- the number so far, of the first i digits, is too large behind one more
pub grows_too_large : (base v i : ℕ) (text : List ℕ) → 0 < base → i < length text → digits_value_after base v (drop i text) ≡ digits_value base text
    → 2 ^ 64 ≤ v * base + digit_value (get_or text i 0) → number_in base text ≡ None
grows_too_large base v i text some within same large =
    let e = ap (digits_value_after base v) (drop-cons text i 0 within) in
    too_large base text (omega (arith, e, same, no_less base (v * base + digit_value (get_or text i 0)) (drop (suc i) text) some))

pub read_to_the_end : (base v i : ℕ) (text : List ℕ) → 0 < length text → length text ≤ i → list_all (is_digit_of base) (drop i text) ≡ list_all (is_digit_of base) text
    → digits_value_after base v (drop i text) ≡ digits_value base text → v < 2 ^ 64 → Some v ≡ number_in base text
read_to_the_end base v i text some end digits same fits =
    let e = drop_of_length-le text end in
    let all : list_all (is_digit_of base) text ≡ true = sym digits ∙ ap (list_all (is_digit_of base)) e in
    let value : v ≡ digits_value base text = sym (ap (digits_value_after base v) e) ∙ same in
    ap Some value ∙ sym (in_range base text some all (omega arith))

all_digits : (base : ℕ) (text : List ℕ) → AllDigits base text → list_all (is_digit_of base) text ≡ true
all_digits base [] h = refl
all_digits base (b ∷ bs) h =
    let below = h.0 in
    let first : is_digit_of base b ≡ true = grind (arith, nat_tests) in
    rw first (all_digits base bs h.1)

numeral_read : (base : ℕ) (text : List ℕ) (n : ℕ) → IsNumeral base text → digits_value base text ≡ n → n < 2 ^ 64 → number_in base text ≡ Some n
numeral_read base text n numeral value fits = in_range base text numeral.0 (all_digits base text numeral.1) (omega arith) ∙ ap Some value

-- no `x` stands among decimal digits
decimal_plain : (text : List ℕ) → AllDigits 10 text → begins_with_0x text ≡ false
decimal_plain [] h = refl
decimal_plain (a ∷ []) h = and-false (a == 48)
decimal_plain (a ∷ b ∷ bs) h =
    let range = digit_from_value b h.1.0 in
    let other : b == 120 ≡ false = grind (arith, nat_tests) in
    ap (λ c. (a == 48) && c) other ∙ and-false (a == 48)

pub decimal_reads_back : (n : ℕ) → n < 2 ^ 64 → number_written (decimal n) ≡ Some n
decimal_reads_back n fits =
    let numeral = decimal_is_IsNumeral n fits in
    ap (λ b. cond b (number_in 16 (drop 2 (decimal n))) (number_in 10 (decimal n))) (decimal_plain (decimal n) numeral.0.1)
    ∙ numeral_read 10 (decimal n) n numeral.0 numeral.1 fits

pub hex_reads_back : (n : ℕ) → n < 2 ^ 64 → number_written (hex_text n) ≡ Some n
hex_reads_back n fits =
    let numeral = digits_is_IsNumeral 16 false (omega arith) (omega arith) n (omega arith) in
    numeral_read 16 (digits 16 false n) n numeral.0 numeral.1 fits

-- what holds of a text holds of the result that is this text
pub if_this : {E : Type 0} (r : Result (List ℕ) E) (text : List ℕ) (Q : List ℕ → Type 0) → IfOk r (λ t. t ≡ text) → Q text → IfOk r Q
if_this (Ok t) text Q same holds = subst Q (sym same) holds
if_this (Err e) text Q same holds = tt
