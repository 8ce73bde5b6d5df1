-- What an operation on items stands as.
use Rattle.std.proofs.Common.{◌≡◌, ℕ, zero, suc, ◌+◌, ◌<◌, ◌≤◌, Bool, true, false, not, ◌&&◌, ◌||◌, ◌==◌, nat_le, List, [], ◌∷◌, ◌++◌, map, length, ℤ, pos, Option, Some, None, is_some, refl, sym, ap, ◌∙◌, arith}
use Rattle.std.specs.List.{list_all}
use Rattle.std.proofs.lemmas.Bool.{false≢true}
use Rattle.std.proofs.lemmas.Bool.Decides.{nat_tests}
use Rattle.cg_base.specs.declared.mode.Mode.{Mode}
use Rattle.cg_model.specs.Formed.{As, expression, Standing, stand_as, are_just, are_some, is_moded, is_numbered, is_zero, has_mode, has_number, stands_at, inside_stand, formed_step, stands}
use Rattle.cg_model.specs.declared.rtl.Op.{Op}
use Rattle.cg_model.specs.declared.rtl.Rtl.{Rtl, Rtl-F, fold-roll-Rtl}
use Rattle.cg_rtl_resolve.specs.Names.{node}

-- both of two
pub first_true : (a b : Bool) → (a && b) ≡ true → a ≡ true
first_true true b e = refl
first_true false b e = absurd (false≢true e)

pub second_true : (a b : Bool) → (a && b) ≡ true → b ≡ true
second_true true b e = e
second_true false b e = absurd (false≢true e)

pub both_true : (a b : Bool) → a ≡ true → b ≡ true → (a && b) ≡ true
both_true true b e f = f
both_true false b e f = absurd (false≢true e)

-- an operation, by its parts
abbrev pub standing_items : List Rtl → List Standing
standing_items xs = map stands xs

abbrev pub layer : Op → Option Mode → ℤ → List Rtl → Rtl-F Standing
layer o mode n xs = record { op = o; mode = mode; number = n; items = standing_items xs }

node_stands : (o : Op) (mode : Option Mode) (n : ℤ) (xs : List Rtl) (place : As) → stands (node o mode n xs) place ≡ (stands_at o place && has_mode (layer o mode n xs) && has_number (layer o mode n xs) && inside_stand (layer o mode n xs) place)
unfolding stands
node_stands o mode n xs place = ap (λ s. s place) (fold-roll-Rtl Standing formed_step (record { op = o; mode = mode; number = n; items = xs }))

four_true : (a b c d : Bool) → a ≡ true → b ≡ true → c ≡ true → d ≡ true → (a && b && c && d) ≡ true
four_true a b c d e f g h = rw (e, f, g, h) refl

pub built : (o : Op) (mode : Option Mode) (n : ℤ) (xs : List Rtl) (place : As) → stands_at o place ≡ true → (not (is_moded o) || is_some mode) ≡ true → (is_numbered o || is_zero n) ≡ true → inside_stand (layer o mode n xs) place ≡ true → stands (node o mode n xs) place ≡ true
built o mode n xs place at moded numbered inside =
    node_stands o mode n xs place
    ∙ four_true (stands_at o place) (has_mode (layer o mode n xs)) (has_number (layer o mode n xs)) (inside_stand (layer o mode n xs) place) at moded numbered inside

-- expressions
abbrev pub is_expression : Standing → Bool
is_expression x = x expression

abbrev pub are_expressions : List Rtl → Bool
are_expressions xs = list_all is_expression (standing_items xs)

pub length_standing : (xs : List Rtl) → length (standing_items xs) ≡ length xs
length_standing [] = refl
length_standing (x ∷ xs) = ap suc (length_standing xs)

exact : (c n : ℕ) → nat_le c n ≡ true → nat_le n c ≡ true → (n == c) ≡ true
exact c n e f = grind (arith, nat_tests)

pub just : (c : ℕ) (xs : List Standing) → nat_le c (length xs) ≡ true → nat_le (length xs) c ≡ true → list_all is_expression xs ≡ true → are_just c xs ≡ true
just c xs least most all = both_true (length xs == c) (list_all is_expression xs) (exact c (length xs) least most) all

pub some : (c : ℕ) (xs : List Standing) → nat_le c (length xs) ≡ true → list_all is_expression xs ≡ true → are_some c xs ≡ true
some c xs least all = both_true (nat_le c (length xs)) (list_all is_expression xs) least all

-- so many in front that stand as a place says, and expressions behind them
pub in_front : (place : As) (xs ys : List Standing) → list_all (λ x. x place) xs ≡ true → list_all is_expression ys ≡ true → nat_le 1 (length ys) ≡ true → stand_as place (length xs) (xs ++ ys) ≡ true
in_front place [] [] all rest some = absurd (false≢true some)
in_front place [] (y ∷ ys) all rest some = rest
in_front place (x ∷ xs) ys all rest some =
    both_true (x place) (stand_as place (length xs) (xs ++ ys)) (first_true (x place) (list_all (λ x. x place) xs) all)
    (in_front place xs ys (second_true (x place) (list_all (λ x. x place) xs) all) rest some)

pub standing_append : (xs ys : List Rtl) → standing_items (xs ++ ys) ≡ standing_items xs ++ standing_items ys
standing_append [] ys = refl
standing_append (x ∷ xs) ys = ap (λ zs. stands x ∷ zs) (standing_append xs ys)
