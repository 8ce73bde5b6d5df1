-- How many of some texts are new is how many they are, each counted once.
use Rattle.std.proofs.Common.{◌≡◌, ◌∙◌, ℕ, suc, ◌+◌, Bool, true, false, ◌||◌, if◌then◌else◌, List, [], ◌∷◌, ◌++◌, length, refl, sym, ap, arith}
use Rattle.cg_base.specs.Texts.{same_text, is_among}
use Rattle.cg_desc_laws_forms.proofs.Clauses.{equal_texts}
use Rattle.cg_desc_fault_count.specs.Known.{Standing, nothing, with_one, with_all, count_new}
use Rattle.cg_desc_insns.specs.Choices.{distinct_behind, distinct}

abbrev Same : Standing → List (List ℕ) → Type 0
Same st before = (name : List ℕ) → st name ≡ is_among before name

or_same : (a b c : Bool) → ((a || b) || c) ≡ (a || (b || c))
or_same true b c = refl
or_same false b c = refl

or_none : (a : Bool) → (a || false) ≡ a
or_none true = refl
or_none false = refl

-- one more stands at the end
pub among_more : (before : List (List ℕ)) (x name : List ℕ) → is_among (before ++ x ∷ []) name ≡ (is_among before name || same_text x name)
among_more [] x name = or_none (same_text x name)
among_more (y ∷ ys) x name = ap (λ b. same_text y name || b) (among_more ys x name) ∙ sym (or_same (same_text y name) (is_among ys name) (same_text x name))

one_more : (st : Standing) (before : List (List ℕ)) (x : List ℕ) → Same st before → Same (with_one st x) (before ++ x ∷ [])
one_more st before x same name = ap (λ b. b || same_text x name) (same name) ∙ sym (among_more before x name)

-- one that stands already is none more
absorbed : (a b : Bool) → (b ≡ true → a ≡ true) → (a || b) ≡ a
absorbed true b h = refl
absorbed false true h = sym (h refl)
absorbed false false h = refl

none_more : (st : Standing) (before : List (List ℕ)) (x : List ℕ) → Same st before → is_among before x ≡ true → Same (with_one st x) before
none_more st before x same there name = absorbed (st name) (same_text x name) (λ e. ap st (sym (equal_texts x name e)) ∙ same x ∙ there) ∙ same name

sum_none : (a c d : ℕ) → a ≡ 0 → c ≡ d → a + c ≡ d
sum_none a c d e f = omega (arith, e, f)

sum_next : (a c d : ℕ) → a ≡ 1 → c ≡ d → a + c ≡ suc d
sum_next a c d e f = omega (arith, e, f)

counted_behind : (st : Standing) (before : List (List ℕ)) → Same st before → (xs : List (List ℕ)) → count_new st xs ≡ length (distinct_behind before xs)
counted_behind st before same [] = refl
counted_behind st before same (x ∷ xs) = at (λ st now h. counted_behind st now h xs) (is_among before x) refl where
  at : ((now : Standing) (ones : List (List ℕ)) → Same now ones → count_new now xs ≡ length (distinct_behind ones xs))
      → (b : Bool) → is_among before x ≡ b → count_new st (x ∷ xs) ≡ length (if is_among before x then distinct_behind before xs else x ∷ distinct_behind (before ++ x ∷ []) xs)
  at later true there =
      let new : (if st x then 0 else 1) ≡ 0 = ap (λ b. if b then 0 else 1) (same x ∙ there) in
      let rest : count_new (with_one st x) xs ≡ length (distinct_behind before xs) = later (with_one st x) before (none_more st before x same there) in
      let whole : length (distinct_behind before xs) ≡ length (if is_among before x then distinct_behind before xs else x ∷ distinct_behind (before ++ x ∷ []) xs) = ap (λ b. length (if b then distinct_behind before xs else x ∷ distinct_behind (before ++ x ∷ []) xs)) (sym there) in
      sum_none (if st x then 0 else 1) (count_new (with_one st x) xs) (length (distinct_behind before xs)) new rest ∙ whole
  at later false there =
      let new : (if st x then 0 else 1) ≡ 1 = ap (λ b. if b then 0 else 1) (same x ∙ there) in
      let rest : count_new (with_one st x) xs ≡ length (distinct_behind (before ++ x ∷ []) xs) = later (with_one st x) (before ++ x ∷ []) (one_more st before x same) in
      let whole : suc (length (distinct_behind (before ++ x ∷ []) xs)) ≡ length (if is_among before x then distinct_behind before xs else x ∷ distinct_behind (before ++ x ∷ []) xs) = ap (λ b. length (if b then distinct_behind before xs else x ∷ distinct_behind (before ++ x ∷ []) xs)) (sym there) in
      sum_next (if st x then 0 else 1) (count_new (with_one st x) xs) (length (distinct_behind (before ++ x ∷ []) xs)) new rest ∙ whole

pub counted_once : (xs : List (List ℕ)) → count_new nothing xs ≡ length (distinct xs)
counted_once xs = counted_behind nothing [] (λ name. refl) xs

pub counted_append : (st : Standing) (xs ys : List (List ℕ)) → count_new st (xs ++ ys) ≡ count_new st xs + count_new (with_all st xs) ys
counted_append st [] ys = plain (count_new st ys) where
  plain : (n : ℕ) → n ≡ 0 + n
  plain n = omega arith
counted_append st (x ∷ xs) ys =
    let rest : count_new (with_one st x) (xs ++ ys) ≡ count_new (with_one st x) xs + count_new (with_all (with_one st x) xs) ys = counted_append (with_one st x) xs ys in
    omega (arith, rest)
