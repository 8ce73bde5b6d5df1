-- Blanks at the ends of a text, and its comment.
use Rattle.std.specs.Prelude.{ℕ, suc, ◌+◌, ◌<◌, ◌≤◌, Bool, true, false, not, ◌&&◌, ◌==◌, if◌then◌else◌, List, [], ◌∷◌, ◌++◌, length, take, drop}
use Rattle.std.specs.List.{list_all, prefix_len}
use Rattle.std.proofs.Common.{◌≡◌, refl, sym, ap, ◌∙◌, get_or, append_assoc, arith}
use Rattle.std.proofs.Math.Seq.{drop-cons, take-suc}
use Rattle.std.proofs.lemmas.List.{append-nil, take_all, drop_all}
use Rattle.std.proofs.lemmas.List.Sums.{prefix_len-le-length}
use Rattle.cg_model_source.specs.Lining.{without_end, uncommented}
use Rattle.cg_model_source.specs.Squeezing.{is_blank}

pub at_most : (test : ℕ → Bool) (text : List ℕ) → prefix_len test text ≤ length text
at_most test text = prefix_len-le-length test text

both_true : (a : Bool) → (a && true) ≡ a
both_true true = refl
both_true false = refl

both_false : (a : Bool) → (a && false) ≡ false
both_false true = refl
both_false false = refl

-- Whether all are blanks does not depend on a blank behind; a character behind them ends it.
all_blank : (xs : List ℕ) (b : ℕ) → is_blank b ≡ true → list_all is_blank (xs ++ b ∷ []) ≡ list_all is_blank xs
all_blank [] b e = ap (λ t. t && true) e
all_blank (x ∷ xs) b e = ap (λ t. is_blank x && t) (all_blank xs b e)

not_all : (xs : List ℕ) (b : ℕ) → is_blank b ≡ false → list_all is_blank (xs ++ b ∷ []) ≡ false
not_all [] b e = ap (λ t. t && true) e
not_all (x ∷ xs) b e = ap (λ t. is_blank x && t) (not_all xs b e) ∙ both_false (is_blank x)

end_blank : (xs : List ℕ) (b : ℕ) → is_blank b ≡ true → without_end (xs ++ b ∷ []) ≡ without_end xs
end_blank [] b e = ap (λ t. if t && true then [] else b ∷ []) e
end_blank (x ∷ xs) b e =
    ap (λ t. if is_blank x && t then [] else x ∷ without_end (xs ++ b ∷ [])) (all_blank xs b e) ∙ ap (λ t. if is_blank x && list_all is_blank xs then [] else x ∷ t) (end_blank xs b e)

end_other : (xs : List ℕ) (b : ℕ) → is_blank b ≡ false → without_end (xs ++ b ∷ []) ≡ xs ++ b ∷ []
end_other [] b e = ap (λ t. if t && true then [] else b ∷ []) e
end_other (x ∷ xs) b e =
    ap (λ t. if t then [] else x ∷ without_end (xs ++ b ∷ [])) (ap (λ t. is_blank x && t) (not_all xs b e) ∙ both_false (is_blank x)) ∙ ap (λ t. x ∷ t) (end_other xs b e)

pub blank_more : (rest front : List ℕ) (b : ℕ) → rest ≡ front ++ b ∷ [] → is_blank b ≡ true → without_end rest ≡ without_end front
blank_more rest front b e blank = ap without_end e ∙ end_blank front b blank

pub other_stops : (rest front : List ℕ) (b : ℕ) → rest ≡ front ++ b ∷ [] → is_blank b ≡ false → without_end rest ≡ rest
other_stops rest front b e other = ap without_end e ∙ end_other front b other ∙ sym e

pub ruleset ending = (blank_more, other_stops)

take_next : (xs : List ℕ) (k : ℕ) → k < length xs → take (k + 1) xs ≡ take k xs ++ get_or xs k 0 ∷ []
take_next xs k within =
    let next : k + 1 ≡ suc k = omega arith in
    ap (λ n. take n xs) next ∙ take-suc xs k 0 within

drop_next : (xs : List ℕ) (k : ℕ) → k < length xs → drop k xs ≡ get_or xs k 0 ∷ drop (k + 1) xs
drop_next xs k within =
    let next : suc k ≡ k + 1 = omega arith in
    drop-cons xs k 0 within ∙ ap (λ n. get_or xs k 0 ∷ drop n xs) next

-- What stands in front of the comment, up to a place, and from there on.
abbrev pub Uncommented : List ℕ → ℕ → Bool → Type 0
Uncommented text k in_string = take k text ++ uncommented in_string (drop k text) ≡ uncommented false text

pub comment_start : (text : List ℕ) → Uncommented text 0 false
comment_start text = refl

pub comment_here : (text : List ℕ) (k : ℕ) → k < length text → get_or text k 0 ≡ 59 → Uncommented text k false → take k text ≡ uncommented false text
comment_here text k within e so =
    let none : uncommented false (drop k text) ≡ [] =
    ap (uncommented false) (drop_next text k within) ∙ ap (λ b. uncommented false (b ∷ drop (k + 1) text)) e in
    sym (append-nil (take k text)) ∙ ap (λ t. take k text ++ t) (sym none) ∙ so

one_more : (b : ℕ) (bs : List ℕ) (in_string : Bool) (stops quote : Bool) → (b == 59 && not in_string) ≡ stops → (b == 34) ≡ quote →
    uncommented in_string (b ∷ bs) ≡ (if stops then [] else b ∷ uncommented (if quote then not in_string else in_string) bs)
one_more b bs in_string stops quote s q =
    ap (λ t. if t then [] else b ∷ uncommented (if b == 34 then not in_string else in_string) bs) s ∙ ap (λ t. if stops then [] else b ∷ uncommented (if t then not in_string else in_string) bs) q

pub comment_more : (text : List ℕ) (k : ℕ) (in_string quote : Bool) → k < length text → (get_or text k 0 == 59 && not in_string) ≡ false → (get_or text k 0 == 34) ≡ quote → Uncommented text k in_string →
    Uncommented text (k + 1) (if quote then not in_string else in_string)
comment_more text k in_string quote within goes q so =
    ap (λ t. t ++ uncommented (if quote then not in_string else in_string) (drop (k + 1) text)) (take_next text k within)
    ∙ append_assoc (take k text) (get_or text k 0 ∷ []) (uncommented (if quote then not in_string else in_string) (drop (k + 1) text))
    ∙ ap (λ t. take k text ++ t) (sym (ap (uncommented in_string) (drop_next text k within) ∙ one_more (get_or text k 0) (drop (k + 1) text) in_string false quote goes q))
    ∙ so

pub comment_none : (text : List ℕ) (k : ℕ) (in_string : Bool) → length text ≤ k → Uncommented text k in_string → text ≡ uncommented false text
comment_none text k in_string past so =
    sym (ap (λ t. t ++ []) (take_all k text past) ∙ append-nil text) ∙ ap (λ t. take k text ++ uncommented in_string t) (sym (drop_all k text past)) ∙ so

pub ruleset commenting = (comment_start, comment_here, comment_more, comment_none)
