-- How a `delay` or a halt is looked for in an expression and in the rules that it needs.
use Rattle.std.specs.Prelude.{◌≡◌, ℕ, Bool, false, ◌||◌, if◌then◌else◌, List, [], ◌∷◌, map, length, Option, Some, None, slice_get}
use Rattle.std.specs.List.{list_any}
use Rattle.cg_modes_leaf.specs.declared.needed.RuleName as declared
use Rattle.cg_modes_leaf.specs.declared.table.Table.{Table}
use Rattle.cg_model.specs.declared.machine.Machine.{Machine}
use Rattle.cg_model.specs.declared.rtl.Rtl.{Rtl, out-Rtl}
use Rattle.cg_model.specs.Placed.{RuleName, rule_named, needed_at, needed_by, needed, each_needed, delays_itself, delays_where, one_delays, rule_delays}

abbrev pub seen_rule : declared.RuleName → RuleName
seen_rule r = record { hardware = r.hardware; sets = r.sets }

-- One rule, or none.
abbrev pub seen_rules : Option declared.RuleName → List RuleName
seen_rules None = []
seen_rules (Some r) = seen_rule r ∷ []

-- One stands in an expression, or in a rule that it needs in at most so many steps.
unfoldable pub delays_by : Machine → ℕ → Bool → Rtl → Bool
delays_by m steps is_place r = delays_itself r || one_delays (rule_delays m steps) (needed_by m r is_place)

-- The same of items, of which the first may be a place.
unfoldable pub items_delay_by : Machine → ℕ → Bool → List Rtl → Bool
items_delay_by m steps is_place xs = list_any (λ b. b) (map delays_itself xs) || one_delays (rule_delays m steps) (each_needed is_place (map (needed_by m) xs))

-- None stands in an expression, in items, or in the rule that an expression's outermost node needs, however many steps are made.
pub record IsFree (m : Machine) (is_place : Bool) (r : Rtl) : Type 0 where
  pub at : (steps : ℕ) → delays_by m steps is_place r ≡ false

pub record AreFree (m : Machine) (is_place : Bool) (xs : List Rtl) : Type 0 where
  pub at : (steps : ℕ) → items_delay_by m steps is_place xs ≡ false

unfoldable pub node_delays_by : Machine → ℕ → Bool → Rtl → Bool
node_delays_by m steps is_place r = one_delays (rule_delays m steps) (needed_at m is_place (out-Rtl r).op (out-Rtl r).number)

pub record NeedsFree (m : Machine) (is_place : Bool) (r : Rtl) : Type 0 where
  pub at : (steps : ℕ) → node_delays_by m steps is_place r ≡ false

-- What stands in a row, and nothing behind it.
abbrev pub in_row : List Bool → ℕ → Bool
in_row row k = elim (slice_get row k) [ None ↦ false | Some b ↦ b ]

abbrev pub in_table : Table → RuleName → Bool
in_table t r = if r.sets then in_row t.sets r.hardware else in_row t.gets r.hardware

-- One stands in a rule, or in one that it needs at once and that a table has.
abbrev pub delays_beside : Machine → Table → RuleName → Bool
delays_beside m t r = delays_where (rule_named m r) || one_delays (in_table t) (needed m r)

-- The table of one step more.
pub record IsNext (m : Machine) (t next : Table) : Type 0 where
  pub at : (r : RuleName) → in_table next r ≡ delays_beside m t r

-- The table has the rules in which one stands, or in one that they need in fewer than so many steps.
pub record Knows (m : Machine) (steps : ℕ) (t : Table) : Type 0 where
  pub at : (r : RuleName) → in_table t r ≡ rule_delays m steps r

-- A row of so many hardware elements has nothing.
pub record IsEmpty (count : ℕ) (row : List Bool) : Type 0 where
  pub long : length row ≡ count
  pub at : (k : ℕ) → in_row row k ≡ false

-- What stands in a row of the table of one step more.
pub record IsRow (m : Machine) (t : Table) (sets : Bool) (row : List Bool) : Type 0 where
  pub at : (k : ℕ) → in_row row k ≡ delays_beside m t (record { hardware = k; sets = sets })
