-- The parts of a text between its signs.
use Rattle.std.specs.Prelude.{ℕ, suc, ◌+◌, ◌≤◌, Bool, true, false, not, List, [], ◌∷◌, length, take, drop, Some}
use Rattle.std.specs.List.{prefix_len}
use Rattle.std.proofs.Common.{◌≡◌, refl, ap, arith}
use Rattle.std.proofs.lemmas.List.Sums.{prefix_len-le-length}
use Rattle.cg_model_source.specs.Spelling.{Signed, is_sign, parted, sum_parts}
use Rattle.cg_syntax_spelling.specs.Adding.{first_part, next_part, parts_from, left_parts}

pub at_most : (test : ℕ → Bool) (text : List ℕ) → prefix_len test text ≤ length text
at_most test text = prefix_len-le-length test text

-- A part goes up to the next sign.
abbrev pub part_length : List ℕ → ℕ
part_length text = prefix_len (λ b. not (is_sign b)) text

-- Of a text, its first part and what is left behind it.
abbrev first_signed : Bool → List ℕ → Signed
first_signed minus text = record { minus = minus; text = take (part_length text) text }

-- One character more in front of the first part.
grown : ℕ → List Signed → List Signed
grown b [] = []
grown b (t ∷ ts) = record { minus = t.minus; text = b ∷ t.text } ∷ ts

one_more : (minus : Bool) (b : ℕ) (bs : List ℕ) (n : ℕ) → parts_from minus bs ≡ record { minus = minus; text = take n bs } ∷ left_parts (next_part (drop n bs)) →
    record { minus = minus; text = b ∷ (parted bs).front } ∷ (parted bs).signed ≡ record { minus = minus; text = take (1 + n) (b ∷ bs) } ∷ left_parts (next_part (drop (1 + n) (b ∷ bs)))
unfolding grown
one_more minus b bs n rest =
    let more : 1 + n ≡ suc n = omega arith in
    rw more (ap (grown b) rest)

first_by : (minus : Bool) (b : ℕ) (bs : List ℕ) (sign : Bool) → is_sign b ≡ sign → parts_from minus bs ≡ first_signed minus bs ∷ left_parts (next_part (drop (part_length bs) bs)) →
    parts_from minus (b ∷ bs) ≡ first_signed minus (b ∷ bs) ∷ left_parts (next_part (drop (part_length (b ∷ bs)) (b ∷ bs)))
first_by minus b bs true e rest = rw e refl
first_by minus b bs false e rest = rw e (one_more minus b bs (part_length bs) rest)

pub first_is : (minus : Bool) (text : List ℕ) → parts_from minus text ≡ first_signed minus text ∷ left_parts (next_part (drop (part_length text) text))
first_is minus [] = refl
first_is minus (b ∷ bs) = first_by minus b bs (is_sign b) refl (first_is minus bs)

-- A sum's parts are those of its text, with the sign in front.
parts_by : (b : ℕ) (bs : List ℕ) (sign : Bool) → is_sign b ≡ sign → sum_parts (b ∷ bs) ≡ left_parts (Some (first_part (b ∷ bs)))
parts_by b bs true e = rw e refl
parts_by b bs false e = rw e (rw e refl)

pub parts_are : (text : List ℕ) → sum_parts text ≡ left_parts (Some (first_part text))
parts_are [] = refl
parts_are (b ∷ bs) = parts_by b bs (is_sign b) refl
