-- Slots that have no address in common stay so, and one of them at most holds an access.
use Rattle.std.proofs.Common.{◌≡◌, ℕ, zero, suc, ◌&&◌, false, if◌then◌else◌, refl, rules, ◌<◌, ◌≤◌, Bool, true, List, [], ◌∷◌, ◌++◌, length, get_or, remove, slice_get, slice_set, Some, map, inl, inr, sym, ◌∙◌, ap, arith}
use Rattle.std.proofs.lemmas.Bool.{cases_order}
use Rattle.std.proofs.lemmas.Grind.{common_steps}
use Rattle.std.proofs.lemmas.List.Quantifiers.{all_pairs_push, all_pairs_remove}
use Rattle.std.proofs.lemmas.Option.{slice_get_within, get_or_from_slice_get}
use Rattle.std.proofs.Math.ListN.{get_or-map}
use Rattle.std.proofs.lemmas.List.{length-set}
use Rattle.std.proofs.Math.Seq.{map-set_same}
use Rattle.std.specs.List.{list_all}
use Rattle.cg_bus.specs.Slots.{AreApart, are_apart, is_free, covers, Holds, HasOneHolder}
use Rattle.cg_bus.specs.declared.range.Range.{Range}

and_first : (a b : Bool) → (a && b) ≡ true → a ≡ true
and_first true b both = refl
and_first false b both = both

and_second : (a b : Bool) → (a && b) ≡ true → b ≡ true
and_second true b both = both
and_second false b both = absurd (search rules)

-- two ranges that hold one access have an address in common
no_two_hold : (top address width : ℕ) (a b : Range) → 1 ≤ width → are_apart top a b ≡ true → covers top address width a ≡ true → covers top address width b ≡ true → ⊥
no_two_hold top address width a b wide apart in_a in_b = grind (arith, common_steps)

holders_in_order : {S : Type 0} (range : S → Range) (top address width : ℕ) (slots : List S) (i j : ℕ) → 1 ≤ width → AreApart range top slots → Holds range top address width slots i → Holds range top address width slots j → i < j → ⊥
holders_in_order range top address width slots i j wide apart at_i at_j before =
    let first = get_or_from_slice_get slots i at_i.0 at_i.0 at_i.1 in
    let second = get_or_from_slice_get slots j at_j.0 at_i.0 at_j.1 in
    let both = apart i j at_i.0 before (slice_get_within slots j at_j.0 at_j.1) in
    no_two_hold top address width (range at_i.0) (range at_j.0) wide (rw first at (rw second at both)) at_i.2 at_j.2

pub one_holder : {S : Type 0} (range : S → Range) (top address width : ℕ) (slots : List S) → 1 ≤ width → AreApart range top slots → HasOneHolder range top address width slots
one_holder range top address width slots wide apart i j at_i at_j =
    elim (cases_order i j) as (λ _. i ≡ j) [ inl same ↦ same | inr other ↦ elim other as (λ _. i ≡ j) [ inl before ↦ absurd (holders_in_order range top address width slots i j wide apart at_i at_j before) | inr after ↦ absurd (holders_in_order range top address width slots j i wide apart at_j at_i after) ] ]

-- two ranges are apart in either order
apart_back : (top : ℕ) (a b : Range) → are_apart top a b ≡ true → are_apart top b a ≡ true
apart_back top a b apart = grind (arith, common_steps)

-- a range that meets none of these meets no one of them
apart_each : {S : Type 0} (range : S → Range) (top : ℕ) (r : Range) (slots : List S) (k : ℕ) (d : S) → list_all (are_apart top r) (map range slots) ≡ true → k < length slots → are_apart top (range (get_or slots k d)) r ≡ true
apart_each range top r [] k d all within = absurd (omega (arith, within))
apart_each range top r (x ∷ xs) zero d all within = apart_back top r (range x) (and_first _ _ all)
apart_each range top r (x ∷ xs) (suc k) d all within = apart_each range top r xs k d (and_second _ _ all) (omega (arith, within))

-- a slot is put behind those that it doesn't meet
pub apart_push : {S : Type 0} (range : S → Range) (top ram : ℕ) (slots : List S) (s : S) → AreApart range top slots → is_free top ram (range s) (map range slots) ≡ true → AreApart range top (slots ++ s ∷ [])
apart_push range top ram slots s apart free = all_pairs_push (λ s t. are_apart top (range s) (range t) ≡ true) slots s apart (λ k d within. apart_each range top (range s) slots k d (and_second _ _ free) within)

-- a slot that meets none of the others is put behind them, or not
pub apart_attached : {S : Type 0} (range : S → Range) (top ram : ℕ) (slots now : List S) (s : S) (done : Bool) → now ≡ if done then slots ++ s ∷ [] else slots → is_free top ram (range s) (map range slots) ≡ true → AreApart range top slots → AreApart range top now
apart_attached range top ram slots now s true is free apart = rw is (apart_push range top ram slots s apart free)
apart_attached range top ram slots now s false is free apart = rw is apart

-- a slot is taken out
pub apart_remove : {S : Type 0} (range : S → Range) (top : ℕ) (slots : List S) (k : ℕ) → k < length slots → AreApart range top slots → AreApart range top (remove slots k)
apart_remove range top slots k within apart = all_pairs_remove (λ s t. are_apart top (range s) (range t) ≡ true) slots k within apart

-- each slot stands where it stood
ranges_kept : {S : Type 0} (range : S → Range) (slots : List S) (k : ℕ) (s t : S) → slice_get slots k ≡ Some s → range t ≡ range s → (i : ℕ) (d : S) → range (get_or (slice_set slots k t) i d) ≡ range (get_or slots i d)
ranges_kept range slots k s t found stays i d =
    let same = map-set_same range slots k t s (stays ∙ ap range (sym (get_or_from_slice_get slots k s s found))) in
    sym (get_or-map range (slice_set slots k t) i d) ∙ ap (λ rs. get_or rs i (range d)) same ∙ get_or-map range slots i d

-- a slot is changed and stays where it is
pub apart_set : {S : Type 0} (range : S → Range) (top : ℕ) (slots : List S) (k : ℕ) (s t : S) → slice_get slots k ≡ Some s → range t ≡ range s → AreApart range top slots → AreApart range top (slice_set slots k t)
apart_set range top slots k s t found stays apart i j d before within =
    let kept = ranges_kept range slots k s t found stays in
    let both = apart i j d before (rw (sym (length-set slots k t)) within) in
    rw (kept i d, kept j d) both
