-- E314: a get or set rule needs itself.
use Rattle.std.specs.Prelude.{ℕ, zero, suc, ◌*◌, Bool, true, false, not, ◌&&◌, ◌||◌, ◌==◌, List, [], ◌∷◌, length}
use Rattle.cg_model.specs.Placed.{RuleName, needed}
use Rattle.cg_model_faults.specs.Finding.{Faults, at_place, where_so}
use Rattle.cg_model_faults.specs.declared.fault.Said.TheVariants as said
use Rattle.cg_model.specs.declared.machine.Machine.{Machine}

abbrev pub same_side : Bool → Bool → Bool
same_side true b = b
same_side false b = not b

abbrev pub is_same : RuleName → RuleName → Bool
is_same r s = r.hardware == s.hardware && same_side r.sets s.sets

-- One of some rules is this one, or needs it in at most so many steps.
abbrev pub one_leads : (RuleName → Bool) → RuleName → List RuleName → Bool
one_leads leads s [] = false
one_leads leads s (r ∷ rs) = is_same r s || leads r || one_leads leads s rs

abbrev pub leads_in : Machine → ℕ → RuleName → RuleName → Bool
leads_in m zero s r = false
leads_in m (suc steps) s r = one_leads (leads_in m steps s) s (needed m r)

-- A rule needs another, at once or by others. There are two rules for each hardware, so no more steps than that are needed.
unfoldable pub needs : Machine → RuleName → RuleName → Bool
needs m r s = leads_in m (2 * length m.hardware) s r

abbrev pub needs_itself : Machine → ℕ → Bool → Bool
needs_itself m k sets = needs m (record { hardware = k; sets = sets }) (record { hardware = k; sets = sets })

-- Of the hardware of a number.
abbrev pub circular : Machine → ℕ → Faults
circular m k = where_so (needs_itself m k false || needs_itself m k true) (at_place 314 0 said.Own said.Nothing)
