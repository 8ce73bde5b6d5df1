-- How much is left to search: by the steps that are left, and by the size of the expression in hand.
use Rattle.std.proofs.Common.{◌≡◌, ◌<◌, ◌≤◌, ℕ, zero, suc, ◌+◌, ◌-◌, ◌*◌, Bool, true, false, if◌then◌else◌, List, [], ◌∷◌, Option, Some, None, slice_get, refl, ap, arith}
use Rattle.cg_model.specs.Placed.{RuleName, rule_named}
use Rattle.cg_model.specs.declared.hardware.Hardware.{Hardware}
use Rattle.cg_model.specs.declared.machine.Machine.{Machine}
use Rattle.cg_model.specs.declared.rtl.Rtl.{Rtl}
use Rattle.cg_model.proofs.rtl.Rtl.TheLaws.{the_size}

abbrev pub size_of : Option Rtl → ℕ
size_of None = 0
size_of (Some x) = the_size x

-- the size of all rules together
abbrev pub sizes : List Hardware → ℕ
sizes [] = 0
sizes (h ∷ hs) = size_of h.get + size_of h.set + sizes hs

-- what is left, where this much is left of the expression in hand
abbrev pub left : Machine → ℕ → ℕ → ℕ
left m steps size = 3 * (steps * suc (sizes m.hardware) + size)

one_at_most : (hs : List Hardware) (k : ℕ) (sets : Bool) (x : Rtl) → elim (slice_get hs k) [ None ↦ None | Some h ↦ if sets then h.set else h.get ] ≡ Some x → the_size x ≤ sizes hs
one_at_most [] k sets x e = absurd (cc)
one_at_most (h ∷ hs) zero true x e = let s : size_of h.set ≡ the_size x = ap size_of e in omega (arith, s)
one_at_most (h ∷ hs) zero false x e = let s : size_of h.get ≡ the_size x = ap size_of e in omega (arith, s)
one_at_most (h ∷ hs) (suc k) sets x e = omega (arith, one_at_most hs k sets x e)

fewer : (w steps size : ℕ) → size < w → 3 * (steps * w + size) + 2 < 3 * (suc steps * w)
fewer w steps size h = let e : suc steps * w ≡ steps * w + w = grind (arith) in omega (arith, e, h)

-- a rule is searched in one step fewer
pub rule_left : (m : Machine) (steps : ℕ) (r : RuleName) (x : Rtl) → (steps ≡ 0 → ⊥) → rule_named m r ≡ Some x → left m (steps - 1) (the_size x) + 2 < left m steps 0
rule_left m zero r x h e = absurd (h refl)
rule_left m (suc steps) r x h e =
    let w = suc (sizes m.hardware) in
    let size : the_size x ≤ sizes m.hardware = one_at_most m.hardware r.hardware r.sets x e in
    let less : 3 * (steps * w + the_size x) + 2 < 3 * (suc steps * w) = fewer w steps (the_size x) (omega (arith, size)) in
    let one : suc steps - 1 ≡ steps = omega arith in
    rw one (omega (arith, less))
