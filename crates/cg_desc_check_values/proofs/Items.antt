-- An expression, item by item.
use Rattle.std.proofs.Common.{◌≡◌, ℕ, suc, ◌+◌, ◌<◌, ◌≤◌, Bool, true, false, ◌&&◌, map, drop, get_or, length, List, [], ◌∷◌, refl, sym, ap, ◌∙◌, arith}
use Rattle.std.proofs.lemmas.Grind.{common_steps}
use Rattle.std.proofs.lemmas.List.{drop_all}
use Rattle.std.proofs.Math.Seq.{drop-cons}
use Rattle.cg_model.specs.Formed.{As, arm, Standing, has_mode, has_number, inside_stand, stands_at, formed_step, stands, greatest, depth_step, depth}
use Rattle.cg_model.specs.declared.rtl.Rtl.{Rtl, Rtl-F, map-Rtl, out-Rtl, fold_out-Rtl}
use Rattle.cg_desc_check_values.specs.Places.{counts, place_of, is_head, each_at}
use Rattle.cg_desc_check_values.proofs.Placing.{items_law, tests_law}

inside_law : (f : Rtl-F Standing) (place : As) → inside_stand f place ≡ (counts f.op f.number place (length f.items) && each_at (place_of f.op f.number place (length f.items)) 0 f.items)
inside_law f (arm of_case last) = tests_law of_case last f.number f.items
inside_law f place = items_law f.op f.number f.items

three : (a b c d e : Bool) → ((((a && b) && c) && (d && e))) ≡ ((a && (b && c)) && (d && e))
three true b c d e = refl
three false b c d e = refl

length_map : (rs : List Rtl) → length (map stands rs) ≡ length rs
length_map [] = refl
length_map (r ∷ rs) = ap suc (length_map rs)

-- what an expression stands as, by its outermost node and its items
pub stands_of : (r : Rtl) (place : As) → stands r place ≡ ((stands_at (out-Rtl r).op place && is_head (out-Rtl r).op (out-Rtl r).mode (out-Rtl r).number) && (counts (out-Rtl r).op (out-Rtl r).number place (length (out-Rtl r).items) && each_at (place_of (out-Rtl r).op (out-Rtl r).number place (length (out-Rtl r).items)) 0 (map stands (out-Rtl r).items)))
unfolding stands
stands_of r place =
    let f : Rtl-F Standing = map-Rtl Rtl Standing stands (out-Rtl r) in
    ap (λ s. s place) (fold_out-Rtl Standing formed_step r)
    ∙ ap (λ b. stands_at f.op place && has_mode f && has_number f && b) (inside_law f place)
    ∙ three (stands_at f.op place) (has_mode f) (has_number f) (counts f.op f.number place (length f.items)) (each_at (place_of f.op f.number place (length f.items)) 0 f.items)
    ∙ ap (λ len. (stands_at f.op place && is_head f.op f.mode f.number) && (counts f.op f.number place len && each_at (place_of f.op f.number place len) 0 f.items)) (length_map (out-Rtl r).items)

-- what is left, as the whole
pub record Left (r : Rtl) (place : As) (rs : List Rtl) (k : ℕ) : Type 0 where
  pub whole : stands r place ≡ each_at (place_of (out-Rtl r).op (out-Rtl r).number place (length rs)) k (map stands (drop k rs))

both_true : (a b c : Bool) (d : Bool) → a ≡ true → b ≡ true → c ≡ true → ((a && b) && (c && d)) ≡ d
both_true a b c d e f g = rw (e, f, g) refl

pub left_start : (r : Rtl) (place : As) (rs : List Rtl) → rs ≡ (out-Rtl r).items → true ≡ stands_at (out-Rtl r).op place → true ≡ is_head (out-Rtl r).op (out-Rtl r).mode (out-Rtl r).number → true ≡ counts (out-Rtl r).op (out-Rtl r).number place (length rs) → Left r place rs 0
left_start r place rs is first head count = record {
  whole =
      stands_of r place
      ∙ ap (λ xs. (stands_at (out-Rtl r).op place && is_head (out-Rtl r).op (out-Rtl r).mode (out-Rtl r).number) && (counts (out-Rtl r).op (out-Rtl r).number place (length xs) && each_at (place_of (out-Rtl r).op (out-Rtl r).number place (length xs)) 0 (map stands xs))) (sym is)
      ∙ both_true (stands_at (out-Rtl r).op place) (is_head (out-Rtl r).op (out-Rtl r).mode (out-Rtl r).number) (counts (out-Rtl r).op (out-Rtl r).number place (length rs)) (each_at (place_of (out-Rtl r).op (out-Rtl r).number place (length rs)) 0 (map stands rs)) (sym first) (sym head) (sym count);
}

each_next : (at : ℕ → As) (rs : List Rtl) (k : ℕ) (d : Rtl) → k < length rs → each_at at k (map stands (drop k rs)) ≡ (stands (get_or rs k d) (at k) && each_at at (k + 1) (map stands (drop (k + 1) rs)))
each_next at rs k d within =
    let next : suc k ≡ k + 1 = omega arith in
    let split : drop k rs ≡ get_or rs k d ∷ drop (k + 1) rs = drop-cons rs k d within ∙ ap (λ i. get_or rs k d ∷ drop i rs) next in
    ap (λ xs. each_at at k (map stands xs)) split ∙ ap (λ i. stands (get_or rs k d) (at k) && each_at at i (map stands (drop (k + 1) rs))) next

-- the next item stands as its place says, or it doesn't
by_next : (r : Rtl) (place p : As) (rs : List Rtl) (k : ℕ) (d : Rtl) (b : Bool) → k < length rs → Left r place rs k → p ≡ place_of (out-Rtl r).op (out-Rtl r).number place (length rs) k → b ≡ stands (get_or rs k d) p
    → stands r place ≡ (b && each_at (place_of (out-Rtl r).op (out-Rtl r).number place (length rs)) (k + 1) (map stands (drop (k + 1) rs)))
by_next r place p rs k d b within left is answer =
    let at : ℕ → As = place_of (out-Rtl r).op (out-Rtl r).number place (length rs) in
    left.whole ∙ each_next at rs k d within ∙ ap (λ q. stands (get_or rs k d) q && each_at at (k + 1) (map stands (drop (k + 1) rs))) (sym is) ∙ ap (λ c. c && each_at at (k + 1) (map stands (drop (k + 1) rs))) (sym answer)

pub left_next : (r : Rtl) (place p : As) (rs : List Rtl) (k : ℕ) (d : Rtl) (b : Bool) → k < length rs → Left r place rs k → p ≡ place_of (out-Rtl r).op (out-Rtl r).number place (length rs) k → b ≡ stands (get_or rs k d) p → b ≡ true → Left r place rs (k + 1)
left_next r place p rs k d b within left is answer so = record {
  whole = by_next r place p rs k d b within left is answer ∙ ap (λ c. c && each_at (place_of (out-Rtl r).op (out-Rtl r).number place (length rs)) (k + 1) (map stands (drop (k + 1) rs))) so;
}

pub left_not : (r : Rtl) (place p : As) (rs : List Rtl) (k : ℕ) (d : Rtl) (b : Bool) → k < length rs → Left r place rs k → p ≡ place_of (out-Rtl r).op (out-Rtl r).number place (length rs) k → b ≡ stands (get_or rs k d) p → b ≡ false → false ≡ stands r place
left_not r place p rs k d b within left is answer not_so =
    sym (by_next r place p rs k d b within left is answer ∙ ap (λ c. c && each_at (place_of (out-Rtl r).op (out-Rtl r).number place (length rs)) (k + 1) (map stands (drop (k + 1) rs))) not_so)

pub left_end : (r : Rtl) (place : As) (rs : List Rtl) (k : ℕ) → length rs ≤ k → Left r place rs k → true ≡ stands r place
left_end r place rs k past left = sym (left.whole ∙ ap (λ xs. each_at (place_of (out-Rtl r).op (out-Rtl r).number place (length rs)) k (map stands xs)) (drop_all k rs past))

pub ruleset standing_rules = (common_steps, stands_of, left_start, left_next, left_not, left_end)

-- levels
pub depth_of : (r : Rtl) → depth r ≡ suc (greatest (map depth (out-Rtl r).items))
unfolding depth
depth_of r = fold_out-Rtl ℕ depth_step r

pub ruleset depth_rules = (common_steps, depth_of)
