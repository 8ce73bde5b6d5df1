-- Where a local stands among those of a scope.
use Rattle.std.proofs.Common.{◌≡◌, ℕ, zero, suc, ◌+◌, ◌-◌, ◌≤◌, List, [], ◌∷◌, ◌++◌, map, length, Option, Some, None, Result, Ok, Err, refl, ap, ◌∙◌, sym, arith, option_map, Bor}
use Rattle.std.specs.List.{slice_get}
use Rattle.std.proofs.lemmas.Option.{slice_get-map}
use Rattle.std.proofs.lemmas.Grind.{common_steps}
use Rattle.cg_model.specs.Checked.{Locals, from_outside, beyond}
use Rattle.cg_model.specs.declared.judged.Local.{Local}
use Rattle.cg_model.specs.declared.rtl.Rtl.{Rtl}
use Rattle.cg_modes_leaf.specs.Scope.{locals_of, locals_step, found_in, found_of, beside, IsPast, declared_by}
use Rattle.cg_modes_leaf.specs.declared.scope.Scope.{Scope}
use Rattle.cg_modes_leaf.specs.declared.scope.Scope.TheFolds.{fold-roll-Scope}
use Rattle.cg_modes_leaf.specs.declared.scope.Scope.TheVariants.{Outside, Sequence, Parallel, rolls-Outside, rolls-Sequence, rolls-Parallel}

get_left : (l d : Locals) (n : ℕ) (x : Local) → slice_get l n ≡ Some x → slice_get (l ++ d) n ≡ Some x
get_left [] d n x h = absurd (cc)
get_left (y ∷ l) d zero x h = h
get_left (y ∷ l) d (suc n) x h = get_left l d n x h

get_right : (l d : Locals) (n : ℕ) → slice_get l n ≡ None → slice_get (l ++ d) n ≡ slice_get d (n - length l)
get_right [] d n h = grind (arith, common_steps)
get_right (y ∷ l) d zero h = absurd (cc)
get_right (y ∷ l) d (suc n) h = get_right l d n h ∙ ap (slice_get d) (omega arith)

found_ok : (o : Option Local) (k : ℕ) (x : Local) → found_of o k ≡ Ok x → o ≡ Some x
found_ok (Some y) k x h = cc
found_ok None k x h = absurd (cc)

found_err : (o : Option Local) (k j : ℕ) → found_of o k ≡ Err j → o ≡ None
found_err (Some y) k j h = absurd (cc)
found_err None k j h = refl

counted : (o : Option Local) (k j : ℕ) → found_of o k ≡ Err j → k ≡ j
counted (Some y) k j h = absurd (cc)
counted None k j h = cc

pub found_left : (l d : Locals) (n : ℕ) (x : Local) → found_in l n ≡ Ok x → found_in (l ++ d) n ≡ Ok x
found_left l d n x h = ap (λ o. found_of o (length (l ++ d))) (get_left l d n x (found_ok (slice_get l n) (length l) x h))

pub found_right : (l : Locals) (d : List Rtl) (n k : ℕ) → found_in l n ≡ Err k → found_in (l ++ map declared_by d) n ≡ found_of (option_map declared_by (slice_get d (n - k))) (k + length d)
found_right l d n k h =
    let none = found_err (slice_get l n) (length l) k h in
    let same = counted (slice_get l n) (length l) k h in
    grind (arith, common_steps, get_right l (map declared_by d) n none, slice_get-map declared_by d (n - k), same)

pub beyond_ok : (l : Locals) (n : ℕ) (x : Local) → found_in l n ≡ Ok x → found_in (from_outside l) n ≡ Ok (beyond x)
beyond_ok l n x h = grind (arith, common_steps, slice_get-map beyond l n, found_ok (slice_get l n) (length l) x h)

pub beyond_err : (l : Locals) (n k : ℕ) → found_in l n ≡ Err k → found_in (from_outside l) n ≡ Err k
beyond_err l n k h =
    grind (arith, common_steps, slice_get-map beyond l n, found_err (slice_get l n) (length l) k h, counted (slice_get l n) (length l) k h)

beside_by : (r : Result Local ℕ) (l : Locals) (d : List Rtl) (n : ℕ) → found_in l n ≡ r → found_in (l ++ map declared_by d) n ≡ beside r d n
beside_by (Ok x) l d n h = found_left l (map declared_by d) n x h
beside_by (Err k) l d n h = found_right l d n k h

pub found_beside : (l : Locals) (d : List Rtl) (n : ℕ) → found_in (l ++ map declared_by d) n ≡ beside (found_in l n) d n
found_beside l d n = beside_by (found_in l n) l d n refl

past_of : (l : Locals) (n : ℕ) → slice_get l n ≡ None → length l ≤ n
past_of [] n h = omega arith
past_of (x ∷ l) zero h = absurd (cc)
past_of (x ∷ l) (suc n) h = omega (arith, past_of l n h)

past_by : (r : Result Local ℕ) (l : Locals) (n : ℕ) → found_in l n ≡ r → IsPast r n
past_by (Ok x) l n h = tt
past_by (Err k) l n h = omega (arith, past_of l n (found_err (slice_get l n) (length l) k h), counted (slice_get l n) (length l) k h)

pub found_past : (l : Locals) (n : ℕ) → IsPast (found_in l n) n
found_past l n = past_by (found_in l n) l n refl

pub locals_outside : locals_of Outside ≡ []
locals_outside = ap locals_of (sym rolls-Outside) ∙ fold-roll-Scope Locals locals_step _

pub locals_sequence : (o : Bor Scope) (d : Bor (List Rtl)) → locals_of (Sequence o d) ≡ locals_of o.now ++ map declared_by d.now
locals_sequence o d = ap locals_of (sym (rolls-Sequence o d)) ∙ fold-roll-Scope Locals locals_step _

pub locals_parallel : (o : Bor Scope) → locals_of (Parallel o) ≡ from_outside (locals_of o.now)
locals_parallel o = ap locals_of (sym (rolls-Parallel o)) ∙ fold-roll-Scope Locals locals_step _

pub ruleset scope_rules = (common_steps, locals_outside, locals_sequence, locals_parallel, found_beside, found_past, beyond_ok, beyond_err)
