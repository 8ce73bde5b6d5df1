-- A text parted, part by part.
use Rattle.std.specs.Prelude.{ℕ, suc, ◌+◌, ◌-◌, ◌≤◌, Bool, true, false, not, ◌&&◌, ◌==◌, cond, if◌then◌else◌, List, [], ◌∷◌, ◌++◌, length, take, drop}
use Rattle.std.specs.List.{prefix_len}
use Rattle.std.proofs.Common.{◌≡◌, refl, sym, ap, ◌∙◌, get_or, append_assoc, arith}
use Rattle.std.proofs.lemmas.List.{take_all}
use Rattle.cg_model.specs.Formed.{begins_with_bar}
use Rattle.cg_model_source.specs.Lining.{put_in_front, parted_at, parted_at_bars}
use Rattle.cg_syntax_lines.specs.Parts.{bars_at}

-- What stands behind a part: a byte that parts, and the other parts.
abbrev pub after_part : ℕ → List ℕ → List (List ℕ)
after_part byte [] = []
after_part byte (b ∷ bs) = parted_at byte bs

abbrev part_length : ℕ → List ℕ → ℕ
part_length byte text = prefix_len (λ b. not (b == byte)) text

one_longer : (b n : ℕ) (bs : List ℕ) (behind : List ℕ → List (List ℕ)) (rest : List (List ℕ)) → rest ≡ take n bs ∷ behind (drop n bs) → put_in_front b rest ≡ take (1 + n) (b ∷ bs) ∷ behind (drop (1 + n) (b ∷ bs))
one_longer b n bs behind rest e =
    let more : 1 + n ≡ suc n = omega arith in
    rw more (ap (put_in_front b) e)

at_byte : (byte b : ℕ) (bs : List ℕ) (same : Bool) → (b == byte) ≡ same → parted_at byte bs ≡ take (part_length byte bs) bs ∷ after_part byte (drop (part_length byte bs) bs) →
    (if same then [] ∷ parted_at byte bs else put_in_front b (parted_at byte bs)) ≡ take (cond (not same) (1 + part_length byte bs) 0) (b ∷ bs) ∷ after_part byte (drop (cond (not same) (1 + part_length byte bs) 0) (b ∷ bs))
at_byte byte b bs true e rest = refl
at_byte byte b bs false e rest = one_longer b (part_length byte bs) bs (after_part byte) (parted_at byte bs) rest

first_part : (byte : ℕ) (text : List ℕ) → parted_at byte text ≡ take (part_length byte text) text ∷ after_part byte (drop (part_length byte text) text)
first_part byte [] = refl
first_part byte (b ∷ bs) = at_byte byte b bs (b == byte) refl (first_part byte bs)

-- The parts so far, with those of what is left.
pub part_last : (byte n : ℕ) (done whole : List (List ℕ)) (rest part behind : List ℕ) → n ≡ prefix_len (λ b. not (b == byte)) rest → part ≡ take n rest → behind ≡ drop n rest → length behind ≤ 0 → done ++ parted_at byte rest ≡ whole →
    done ++ part ∷ [] ≡ whole
part_last byte n done whole rest part [] len p b none so =
    ap (λ t. done ++ t ∷ []) p
    ∙ ap (λ t. done ++ take n rest ∷ after_part byte t) b
    ∙ ap (λ k. done ++ take k rest ∷ after_part byte (drop k rest)) len
    ∙ ap (λ t. done ++ t) (sym (first_part byte rest)) ∙ so
part_last byte n done whole rest part (x ∷ behind) len p b none so = absurd (omega (arith, none))

pub part_next : (byte n x : ℕ) (done whole : List (List ℕ)) (rest part behind after : List ℕ) → n ≡ prefix_len (λ b. not (b == byte)) rest → part ≡ take n rest → behind ≡ drop n rest → behind ≡ x ∷ after → done ++ parted_at byte rest ≡ whole →
    (done ++ part ∷ []) ++ parted_at byte after ≡ whole
part_next byte n x done whole rest part behind after len p b more so =
    append_assoc done (part ∷ []) (parted_at byte after)
    ∙ ap (λ t. done ++ t ∷ parted_at byte after) p
    ∙ ap (λ t. done ++ take n rest ∷ after_part byte t) (sym more ∙ b)
    ∙ ap (λ k. done ++ take k rest ∷ after_part byte (drop k rest)) len
    ∙ ap (λ t. done ++ t) (sym (first_part byte rest)) ∙ so

pub behind_first : (xs : List ℕ) → 1 ≤ length xs → xs ≡ get_or xs 0 0 ∷ take (length xs - 1) (drop 1 xs)
behind_first [] some = absurd (omega (arith, some))
behind_first (x ∷ xs) some =
    let less : suc (length xs) - 1 ≡ length xs = omega arith in
    ap (λ t. x ∷ t) (sym (ap (λ n. take n xs) less ∙ take_all (length xs) xs (omega arith)))

pub behind_two : (xs : List ℕ) → 2 ≤ length xs → xs ≡ get_or xs 0 0 ∷ get_or xs 1 0 ∷ take (length xs - 2) (drop 2 xs)
behind_two [] some = absurd (omega (arith, some))
behind_two (x ∷ []) some = absurd (omega (arith, some))
behind_two (x ∷ y ∷ xs) some =
    let less : suc (suc (length xs)) - 2 ≡ length xs = omega arith in
    ap (λ t. x ∷ y ∷ t) (sym (ap (λ n. take n xs) less ∙ take_all (length xs) xs (omega arith)))

-- The same at `||`.
abbrev pub after_bars : List ℕ → List (List ℕ)
after_bars [] = []
after_bars (b ∷ []) = []
after_bars (b ∷ c ∷ cs) = parted_at_bars cs

at_bars : (b c : ℕ) (cs : List ℕ) (both : Bool) → parted_at_bars (c ∷ cs) ≡ take (bars_at (c ∷ cs)) (c ∷ cs) ∷ after_bars (drop (bars_at (c ∷ cs)) (c ∷ cs)) →
    (if both then [] ∷ parted_at_bars cs else put_in_front b (parted_at_bars (c ∷ cs))) ≡ take (if both then 0 else 1 + bars_at (c ∷ cs)) (b ∷ c ∷ cs) ∷ after_bars (drop (if both then 0 else 1 + bars_at (c ∷ cs)) (b ∷ c ∷ cs))
at_bars b c cs true rest = refl
at_bars b c cs false rest = one_longer b (bars_at (c ∷ cs)) (c ∷ cs) after_bars (parted_at_bars (c ∷ cs)) rest

first_bars : (text : List ℕ) → parted_at_bars text ≡ take (bars_at text) text ∷ after_bars (drop (bars_at text) text)
first_bars [] = refl
first_bars (b ∷ []) = refl
first_bars (b ∷ c ∷ cs) = at_bars b c cs (b == 124 && c == 124) (first_bars (c ∷ cs))

pub bars_last : (n : ℕ) (done whole : List (List ℕ)) (rest part behind : List ℕ) → n ≡ bars_at rest → part ≡ take n rest → behind ≡ drop n rest → length behind ≤ 1 → done ++ parted_at_bars rest ≡ whole → done ++ part ∷ [] ≡ whole
bars_last n done whole rest part [] len p b few so =
    ap (λ t. done ++ t ∷ []) p ∙ ap (λ t. done ++ take n rest ∷ after_bars t) b ∙ ap (λ k. done ++ take k rest ∷ after_bars (drop k rest)) len ∙ ap (λ t. done ++ t) (sym (first_bars rest)) ∙ so
bars_last n done whole rest part (x ∷ []) len p b few so =
    ap (λ t. done ++ t ∷ []) p ∙ ap (λ t. done ++ take n rest ∷ after_bars t) b ∙ ap (λ k. done ++ take k rest ∷ after_bars (drop k rest)) len ∙ ap (λ t. done ++ t) (sym (first_bars rest)) ∙ so
bars_last n done whole rest part (x ∷ y ∷ behind) len p b few so = absurd (omega (arith, few))

pub bars_next : (n x y : ℕ) (done whole : List (List ℕ)) (rest part behind after : List ℕ) → n ≡ bars_at rest → part ≡ take n rest → behind ≡ drop n rest → behind ≡ x ∷ y ∷ after → done ++ parted_at_bars rest ≡ whole →
    (done ++ part ∷ []) ++ parted_at_bars after ≡ whole
bars_next n x y done whole rest part behind after len p b more so =
    append_assoc done (part ∷ []) (parted_at_bars after)
    ∙ ap (λ t. done ++ t ∷ parted_at_bars after) p
    ∙ ap (λ t. done ++ take n rest ∷ after_bars t) (sym more ∙ b)
    ∙ ap (λ k. done ++ take k rest ∷ after_bars (drop k rest)) len
    ∙ ap (λ t. done ++ t) (sym (first_bars rest)) ∙ so

-- Where the first `||` stands, character by character.
both_false : (a : Bool) (n : ℕ) → (if a && false then 0 else n) ≡ n
both_false true n = refl
both_false false n = refl

pub bars_step : (b : ℕ) (after : List ℕ) → bars_at (b ∷ after) ≡ (if b == 124 && begins_with_bar after then 0 else 1 + bars_at after)
bars_step b [] = sym (both_false (b == 124) 1)
bars_step b (c ∷ cs) = refl

within_either : (both : Bool) (n m : ℕ) → n ≤ m → (if both then 0 else 1 + n) ≤ suc m
within_either true n m le = omega arith
within_either false n m le = omega (arith, le)

pub bars_within : (text : List ℕ) → bars_at text ≤ length text
bars_within [] = omega arith
bars_within (b ∷ []) = omega arith
bars_within (b ∷ c ∷ cs) = within_either (b == 124 && c == 124) (bars_at (c ∷ cs)) (length (c ∷ cs)) (bars_within (c ∷ cs))

pub ruleset barring = (bars_step, bars_within)
