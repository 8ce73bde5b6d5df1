-- What parts side by side, and `andif` and `orif`, give with their modes.
use Rattle.std.proofs.Common.{◌≡◌, ℕ, ◌+◌, ◌*◌, ◌/◌, ◌^◌, ◌==◌, Bool, true, false, not, ◌&&◌, ◌||◌, if◌then◌else◌, ◌∙◌, refl, ap, List, [], ◌∷◌, map, length, Option, Some, None, ℤ, Ok, Err, arith}
use Rattle.std.proofs.lemmas.Grind.{common_steps}
use Rattle.cg_base.specs.declared.Mode.{Mode}
use Rattle.cg_base.specs.declared.Mode.TheVariants.{Bi}
use Rattle.cg_base.specs.Modes.{bits_of}
use Rattle.cg_model.specs.Checked.{and_then, checked, stated, fault, joined_mode, each_part, part_turn, judged_any, each_any}
use Rattle.cg_model.specs.Pure.{Around, pure_meaning}
use Rattle.cg_model.specs.Values.{at_once, any_gives, mode_at, mode_or_void, joined_gives, all_hold, some_holds}
use Rattle.cg_model.specs.declared.machine.Machine.{Machine}
use Rattle.cg_model.specs.declared.rtl.Op.TheVariants as op
use Rattle.cg_model.specs.declared.rtl.Rtl.{Rtl, out-Rtl}
use Rattle.cg_model.proofs.Meanings.{pure_checked}
use Rattle.cg_model_pure_eval.specs.Typing.{paired, moded, typed, any_typed}
use Rattle.cg_model_pure_eval.specs.Joining.{part_typed, behind, parts_typed, filled_typed, join_typed, held_with, held_typed}
use Rattle.cg_model_pure_eval.proofs.Typings.{after_value, after_mode, then_then, layer, typed_at}

parts_law : (m : Machine) (a : Around) (to part : Mode) (n : ℕ) (xs : List Rtl) →
    paired (and_then (each_part [] part (map (checked m) xs)) (λ k. Ok to)) (joined_gives at_once [] part n (map (pure_meaning m a) xs)) ≡ parts_typed m a to part n xs
unfolding part_typed parts_typed behind
parts_law m a to part n [] = refl
parts_law m a to part n (x ∷ xs) =
    let v : ℕ = (pure_meaning m a x).gives [] (Some part) in
    let all : ℕ = joined_gives at_once [] part (n * 2 ^ bits_of part + v) (map (pure_meaning m a) xs) in
    ap (λ u. paired u all) (then_then (part_turn [] part (checked m x)) (λ k. each_part [] part (map (checked m) xs)) (λ k. Ok to))
    ∙ after_value (part_turn [] part (checked m x)) (λ k. and_then (each_part [] part (map (checked m) xs)) (λ j. Ok to)) v all (λ t. parts_typed m a to part (behind part n t.value) xs)
    (λ k ek. parts_law m a to part (n * 2 ^ bits_of part + v) xs)

mapped : (m : Machine) (xs : List Rtl) → length (map (checked m) xs) ≡ length xs
mapped m xs = grind (arith, common_steps)

filled_law : (m : Machine) (a : Around) (to part : Mode) (xs : List Rtl) →
    paired (joined_mode to (map (checked m) xs) [] part) (joined_gives at_once [] part 0 (map (pure_meaning m a) xs)) ≡ filled_typed m a to part xs
unfolding filled_typed
filled_law m a to part xs =
    ap (λ n. paired (if bits_of to / bits_of part == n then and_then (each_part [] part (map (checked m) xs)) (λ k. Ok to) else Err (fault 402)) (joined_gives at_once [] part 0 (map (pure_meaning m a) xs))) (mapped m xs)
    ∙ by (bits_of to / bits_of part == length xs) where
      by : (b : Bool) → paired (if b then and_then (each_part [] part (map (checked m) xs)) (λ k. Ok to) else Err (fault 402)) (joined_gives at_once [] part 0 (map (pure_meaning m a) xs)) ≡ (if b then parts_typed m a to part 0 xs else Err (fault 402))
      by true = parts_law m a to part 0 xs
      by false = refl

part_is : (m : Machine) (a : Around) (x : Rtl) (k : Mode) → (checked m x).verdict [] None ≡ Ok k → mode_at (pure_meaning m a x) [] None ≡ k
part_is m a x k e = rw (pure_checked m a x) (ap mode_or_void e)

join_listed : (m : Machine) (a : Around) (written want : Option Mode) (n : ℤ) (xs : List Rtl) → layer m a op.Join written n xs want ≡ join_typed m a written xs
unfolding join_typed
join_listed m a written want n [] = refl
join_listed m a written want n (x ∷ xs) =
    let at : Mode = mode_at (pure_meaning m a x) [] None in
    let all : ℕ = joined_gives at_once [] at 0 (map (pure_meaning m a) xs) in
    after_mode (stated written) (λ to. and_then ((checked m x).verdict [] None) (joined_mode to (map (checked m) xs) [])) all (λ to. moded ((checked m x).verdict [] None) (λ part. filled_typed m a to part xs)) (λ to et.
    after_mode ((checked m x).verdict [] None) (joined_mode to (map (checked m) xs) []) all (λ part. filled_typed m a to part xs) (λ part ep.
    ap (λ j. paired (joined_mode to (map (checked m) xs) [] part) (joined_gives at_once [] j 0 (map (pure_meaning m a) xs))) (part_is m a x part ep) ∙ filled_law m a to part xs))

pub join_law : (m : Machine) (a : Around) (r : Rtl) (want : Option Mode) → (out-Rtl r).op ≡ op.Join → typed m a r want ≡ join_typed m a (out-Rtl r).mode (out-Rtl r).items
join_law m a r want o = typed_at m a r want op.Join o ∙ join_listed m a (out-Rtl r).mode want (out-Rtl r).number (out-Rtl r).items

-- What holds so far, with what is left.
abbrev holding : Machine → Around → Bool → Bool → List Rtl → ℕ
holding m a true held xs = if held then all_hold at_once [] (map (pure_meaning m a) xs) else 0
holding m a false held xs = if held then 1 else some_holds at_once [] (map (pure_meaning m a) xs)

holding_next : (m : Machine) (a : Around) (every held : Bool) (x : Rtl) (xs : List Rtl) → holding m a every held (x ∷ xs) ≡ holding m a every (held_with every held (any_gives (pure_meaning m a x) [])) xs
holding_next m a true false x xs = refl
holding_next m a false true x xs = refl
holding_next m a true true x xs = by (any_gives (pure_meaning m a x) [] == 0) where
  by : (b : Bool) → ◌≡◌ {A = ℕ} (if b then 0 else all_hold at_once [] (map (pure_meaning m a) xs)) (if true && not b then all_hold at_once [] (map (pure_meaning m a) xs) else 0)
  by true = refl
  by false = refl
holding_next m a false false x xs = by (any_gives (pure_meaning m a x) [] == 0) where
  by : (b : Bool) → ◌≡◌ {A = ℕ} (if b then some_holds at_once [] (map (pure_meaning m a) xs) else 1) (if false || not b then 1 else some_holds at_once [] (map (pure_meaning m a) xs))
  by true = refl
  by false = refl

held_law : (m : Machine) (a : Around) (every held : Bool) (xs : List Rtl) → paired (and_then (each_any [] (map (checked m) xs)) (λ k. Ok Bi)) (holding m a every held xs) ≡ held_typed m a every held xs
unfolding held_typed any_typed
held_law m a true true [] = refl
held_law m a true false [] = refl
held_law m a false true [] = refl
held_law m a false false [] = refl
held_law m a every held (x ∷ xs) =
    let n : ℕ = any_gives (pure_meaning m a x) [] in
    let all : ℕ = holding m a every held (x ∷ xs) in
    ap (λ u. paired u all) (then_then (judged_any [] (checked m x)) (λ k. each_any [] (map (checked m) xs)) (λ k. Ok Bi))
    ∙ after_value (judged_any [] (checked m x)) (λ k. and_then (each_any [] (map (checked m) xs)) (λ j. Ok Bi)) n all (λ t. held_typed m a every (held_with every held t.value) xs)
    (λ k ek. ap (paired (and_then (each_any [] (map (checked m) xs)) (λ j. Ok Bi))) (holding_next m a every held x xs) ∙ held_law m a every (held_with every held n) xs)

pub andif_law : (m : Machine) (a : Around) (r : Rtl) (want : Option Mode) → (out-Rtl r).op ≡ op.AndIf → typed m a r want ≡ held_typed m a true true (out-Rtl r).items
andif_law m a r want o = typed_at m a r want op.AndIf o ∙ held_law m a true true (out-Rtl r).items

pub orif_law : (m : Machine) (a : Around) (r : Rtl) (want : Option Mode) → (out-Rtl r).op ≡ op.OrIf → typed m a r want ≡ held_typed m a false false (out-Rtl r).items
orif_law m a r want o = typed_at m a r want op.OrIf o ∙ held_law m a false false (out-Rtl r).items
