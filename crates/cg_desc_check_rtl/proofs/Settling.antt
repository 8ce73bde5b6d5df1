-- A table that doesn't grow in a step never grows.
use Rattle.std.proofs.Common.{if◌then◌else◌, ◌⊎◌, inl, inr, Some, None, subst, ◌<◌, ◌≤◌, ◌≡◌, ℕ, suc, zero, ◌+◌, ◌-◌, ◌*◌, Bool, true, false, length, refl, sym, ap, ◌∙◌, arith}
use Rattle.std.proofs.lemmas.Bool.{cases_lt}
use Rattle.std.proofs.lemmas.Option.{slice_get_past}
use Rattle.std.proofs.lemmas.Grind.{common_steps}
use Rattle.cg_model.specs.declared.machine.Machine.{Machine}
use Rattle.cg_model.specs.Placed.{RuleName, rule_named, needed}
use Rattle.cg_model_faults.specs.E314.{leads_in, needs}
use Rattle.cg_desc_check_rtl.specs.Tables.{in_table, IsNext, Knows, IsAlike, AreAlike}
use Rattle.cg_desc_check_rtl.specs.declared.rule.Table.{Table}
use Rattle.cg_desc_check_rtl.proofs.Leading.{leads_alike, unled, unruled, knows_start, knows_round, knows_next, knows_all}

pub alike_start : (t u : Table) → AreAlike 0 t u
alike_start t u = record { at = λ j h. absurd (omega (arith, h)) }

pub alike_more : (t u : Table) (k : ℕ) → AreAlike k t u → IsAlike t u k → AreAlike (k + 1) t u
alike_more t u k so_far here = record { at = λ j h. by j (cases_lt j k) h } where
  by : (j : ℕ) → (j < k) ⊎ (k ≤ j) → j < k + 1 → IsAlike t u j
  by j (inl lt) h = so_far.at j lt
  by j (inr ge) h =
      let e : k ≡ j = omega (arith, ge, h) in
      subst (λ i. IsAlike t u i) e here

pub alike_end : (t u : Table) (k n : ℕ) → n ≤ k → AreAlike k t u → AreAlike n t u
alike_end t u k n past so_far = record { at = λ j h. so_far.at j (omega (arith, past, h)) }

pub ruleset alike_rules = (common_steps, alike_start, alike_more, alike_end)

-- what leads in as many steps as a table knows is what leads in one more
one_more : (m : Machine) (k : ℕ) (s : RuleName) (t u : Table) → Knows m k s t → IsNext m t s u → AreAlike (length m.hardware) t u → (r : RuleName) → leads_in m (suc k) s r ≡ leads_in m k s r
one_more m k s t u known next alike r = by (cases_lt r.hardware (length m.hardware)) where
  side : (j : ℕ) (b : Bool) → IsAlike t u j → in_table t (record { hardware = j; sets = b }) ≡ in_table u (record { hardware = j; sets = b })
  side j true here = here.sets
  side j false here = here.gets

  by : (r.hardware < length m.hardware) ⊎ (length m.hardware ≤ r.hardware) → leads_in m (suc k) s r ≡ leads_in m k s r
  by (inl lt) = sym ((knows_next m k s t u known next).at r) ∙ sym (side r.hardware r.sets (alike.at r.hardware lt)) ∙ known.at r
  by (inr ge) =
      let none : rule_named m r ≡ None = ap (λ x. elim x [ None ↦ None | Some h ↦ if r.sets then h.set else h.get ]) (slice_get_past m.hardware r.hardware ge) in
      unled m (suc k) s r none ∙ sym (unled m k s r none)

-- so it is what leads in any number of steps more
many_more : (m : Machine) (k : ℕ) (s : RuleName) → ((r : RuleName) → leads_in m (suc k) s r ≡ leads_in m k s r) → (j n : ℕ) (r : RuleName) → n ≡ j + k → leads_in m n s r ≡ leads_in m k s r
many_more m k s still zero n r e =
    let none : n ≡ k = omega (arith, e) in
    ap (λ i. leads_in m i s r) none
many_more m k s still (suc j) n r e =
    let one : n ≡ suc (j + k) = omega (arith, e) in
    ap (λ i. leads_in m i s r) one ∙ leads_alike (leads_in m (j + k) s) (leads_in m k s) s (needed m r) (λ q. many_more m k s still j (j + k) q refl) ∙ still r

pub settled_all : (m : Machine) (k : ℕ) (s r : RuleName) (t u : Table) → k < length m.hardware → Knows m (2 * k) s t → IsNext m t s u → AreAlike (length m.hardware) t u → in_table t r ≡ needs m r s
unfolding needs
settled_all m k s r t u within known next alike =
    let left : 2 * length m.hardware ≡ (2 * length m.hardware - 2 * k) + 2 * k = omega (arith, within) in
    known.at r ∙ sym (many_more m (2 * k) s (one_more m (2 * k) s t u known next alike) (2 * length m.hardware - 2 * k) (2 * length m.hardware) r left)

pub ruleset settling_rules = (common_steps, knows_start, knows_round, unruled, knows_all, settled_all)
