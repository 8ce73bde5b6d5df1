-- The steps of finding ways.
use Rattle.std.proofs.Common.{◌≡◌, ℕ, ◌+◌, ◌<◌, ◌≤◌, List, ◌++◌, map, take, drop, length, get_or, sym, ap, ◌∙◌, append_assoc, arith}
use Rattle.std.proofs.lemmas.List.{length-map, length-take, drop_more, drop_all, take_all}
use Rattle.std.specs.List.{flat_map}
use Rattle.cg_desc_choices.specs.declared.written.Anyof.{Anyof}
use Rattle.cg_desc_choices.specs.declared.written.Chosen as declared
use Rattle.cg_desc_choices.specs.Choices.{Chosen}
use Rattle.cg_desc_choices.specs.Ways.{with_each, ways_behind, most}
use Rattle.cg_desc_choices.specs.Walking.{seen_way}
use Rattle.cg_desc_choices.proofs.Taking.{take_over, full, ended, first_behind}

abbrev Lent : Type 0
Lent = List declared.Chosen

within : (xs : List Lent) → length xs ≤ most → length (map seen_way xs) ≤ most
within xs h = omega (arith, length-map xs seen_way)

-- ways of which there are as many as may be
pub ways_full : (xs : List Lent) (ys t : List (List Chosen)) → length xs ≤ most → most ≤ length xs → take most (map seen_way xs ++ ys) ≡ t → map seen_way xs ≡ t
ways_full xs ys t room past is = full most (map seen_way xs) ys t (within xs room) (omega (arith, length-map xs seen_way)) is

-- ways that are the front of others
pub ways_room : (xs : List Lent) (ys : List (List Chosen)) → map seen_way xs ≡ take most ys → length xs ≤ most
ways_room xs ys is = omega (arith, length-map xs seen_way, ap length is, length-take most ys)

-- no choice is left
pub choices_ended : {A : Type 0} (f : A → List Chosen) (xs : List Lent) (cs : List A) (i : ℕ) (t : List (List Chosen)) → length xs ≤ most → length cs ≤ i →
    take most (map seen_way xs ++ map f (drop i cs)) ≡ t → map seen_way xs ≡ t
choices_ended f xs cs i t room past is =
    ended most (map seen_way xs) t (within xs room) (ap (λ ys. take most (map seen_way xs ++ map f ys)) (sym (drop_all i cs past)) ∙ is)

-- no way so far is left
pub ways_ended : (a : Anyof) (xs ws : List Lent) (i : ℕ) (t : List (List Chosen)) → length xs ≤ most → length ws ≤ i →
    take most (map seen_way xs ++ flat_map (with_each a) (map seen_way (drop i ws))) ≡ t → map seen_way xs ≡ t
ways_ended a xs ws i t room past is =
    ended most (map seen_way xs) t (within xs room)
    (ap (λ ys. take most (map seen_way xs ++ flat_map (with_each a) (map seen_way ys))) (sym (drop_all i ws past)) ∙ is)

-- no operand is left
pub anyofs_ended : (xs : List Anyof) (ws : List Lent) (i : ℕ) (t : List (List Chosen)) → length ws ≤ most → length xs ≤ i →
    take most (ways_behind (map seen_way ws) (drop i xs)) ≡ t → map seen_way ws ≡ t
anyofs_ended xs ws i t room past is =
    sym (take_all most (map seen_way ws) (within ws room))
    ∙ ap (λ ys. take most (ways_behind (map seen_way ws) ys)) (sym (drop_all i xs past)) ∙ is

-- one way so far more
pub ways_more : (a : Anyof) (list new ws : List Lent) (i : ℕ) (w s : Lent) (t : List (List Chosen)) → i < length ws → w ≡ get_or ws i w → s ≡ w →
    map seen_way new ≡ take most (map seen_way list ++ with_each a (seen_way s)) →
    take most (map seen_way list ++ flat_map (with_each a) (map seen_way (drop i ws))) ≡ t →
    take most (map seen_way new ++ flat_map (with_each a) (map seen_way (drop (i + 1) ws))) ≡ t
ways_more a list new ws i w s t less is lent here same =
    ap (λ v. take most (v ++ flat_map (with_each a) (map seen_way (drop (i + 1) ws)))) (here ∙ ap (λ v. take most (map seen_way list ++ with_each a (seen_way v))) lent)
    ∙ take_over most (map seen_way list ++ with_each a (seen_way w)) (flat_map (with_each a) (map seen_way (drop (i + 1) ws)))
    ∙ ap (take most) (append_assoc (map seen_way list) (with_each a (seen_way w)) (flat_map (with_each a) (map seen_way (drop (i + 1) ws))))
    ∙ ap (λ v. take most (map seen_way list ++ (with_each a (seen_way v) ++ flat_map (with_each a) (map seen_way (drop (i + 1) ws))))) is
    ∙ ap (λ ys. take most (map seen_way list ++ flat_map (with_each a) (map seen_way ys))) (sym (drop_more ws i w less))
    ∙ same

-- one operand more
pub anyofs_more : (xs : List Anyof) (i : ℕ) (a : Anyof) (ws s new : List Lent) (t : List (List Chosen)) → i < length xs → a ≡ get_or xs i a → s ≡ ws →
    map seen_way new ≡ take most (flat_map (with_each a) (map seen_way s)) →
    take most (ways_behind (map seen_way ws) (drop i xs)) ≡ t →
    take most (ways_behind (map seen_way new) (drop (i + 1) xs)) ≡ t
anyofs_more xs i a ws s new t less is lent here same =
    ap (λ v. take most (ways_behind v (drop (i + 1) xs))) (here ∙ ap (λ v. take most (flat_map (with_each a) (map seen_way v))) lent)
    ∙ first_behind most (drop (i + 1) xs) (flat_map (with_each a) (map seen_way ws))
    ∙ ap (λ v. take most (ways_behind (flat_map (with_each v) (map seen_way ws)) (drop (i + 1) xs))) is
    ∙ ap (λ ys. take most (ways_behind (map seen_way ws) ys)) (sym (drop_more xs i a less))
    ∙ same
