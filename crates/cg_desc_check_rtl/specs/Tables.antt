-- Tables of which rules lead to one rule.
use Rattle.std.specs.Prelude.{◌≡◌, ◌<◌, ℕ, Bool, true, false, if◌then◌else◌, List, Some, None, slice_get}
use Rattle.cg_desc_check_rtl.specs.declared.rule.RuleName as declared
use Rattle.cg_desc_check_rtl.specs.declared.rule.Table.{Table}
use Rattle.cg_model.specs.declared.machine.Machine.{Machine}
use Rattle.cg_model.specs.Placed.{RuleName, needed}
use Rattle.cg_model_faults.specs.E314.{one_leads, leads_in}

abbrev pub seen_rule : declared.RuleName → RuleName
seen_rule r = record { hardware = r.hardware; sets = r.sets }

-- What stands in a row, and nothing behind it.
abbrev pub in_row : List Bool → ℕ → Bool
in_row row k = elim (slice_get row k) [ None ↦ false | Some b ↦ b ]

abbrev pub in_table : Table → RuleName → Bool
in_table t r = if r.sets then in_row t.sets.items r.hardware else in_row t.gets.items r.hardware

-- A rule leads to another, at once or by one that a table has.
abbrev pub leads_by : Machine → Table → RuleName → RuleName → Bool
leads_by m t s r = one_leads (in_table t) s (needed m r)

-- The row of a table that has those that lead by another.
pub record IsRow (m : Machine) (t : Table) (s : RuleName) (sets : Bool) (row : List Bool) : Type 0 where
  pub at : (k : ℕ) → in_row row k ≡ leads_by m t s (record { hardware = k; sets = sets })

-- The table that has those that lead by another.
pub record IsNext (m : Machine) (t : Table) (s : RuleName) (next : Table) : Type 0 where
  pub at : (r : RuleName) → in_table next r ≡ leads_by m t s r

-- The table has the rules that lead to this one in at most so many steps.
pub record Knows (m : Machine) (steps : ℕ) (s : RuleName) (t : Table) : Type 0 where
  pub at : (r : RuleName) → in_table t r ≡ leads_in m steps s r

-- Two tables have the same rules of the hardware of a number, and of all hardware below a number.
pub record IsAlike (t u : Table) (k : ℕ) : Type 0 where
  pub gets : in_table t (record { hardware = k; sets = false }) ≡ in_table u (record { hardware = k; sets = false })
  pub sets : in_table t (record { hardware = k; sets = true }) ≡ in_table u (record { hardware = k; sets = true })

pub record AreAlike (count : ℕ) (t u : Table) : Type 0 where
  pub at : (k : ℕ) → k < count → IsAlike t u k
