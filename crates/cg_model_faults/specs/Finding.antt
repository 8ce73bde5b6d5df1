-- How faults of a machine are listed. What is wrong with an element under one number is a list of faults, in the order of their places.
use Rattle.std.specs.Prelude.{ℕ, Bool, false, ◌||◌, ◌==◌, if◌then◌else◌, List, [], ◌∷◌, ◌++◌, ℤ, Option}
use Rattle.cg_base.specs.declared.mode.Mode.{Mode}
use Rattle.cg_model_faults.specs.declared.fault.MachineFault.{MachineFault}
use Rattle.cg_model_faults.specs.declared.fault.Said.{Said}
use Rattle.cg_model.specs.declared.rtl.Op.{Op}
use Rattle.cg_model.specs.declared.rtl.Rtl.{Rtl}
use Rattle.cg_model.specs.declared.rtl.Rtl.TheOpen.{Rtl-F}
use Rattle.cg_model.specs.declared.rtl.Rtl.TheFolds.{fold-Rtl}

abbrev pub Faults : Type 0
Faults = List MachineFault

-- A fault of this number at a place.
abbrev pub at_place : ℕ → ℕ → Said → Said → MachineFault
at_place number place text other = record { number = number; place = place; text = text; other = other }

-- The one fault of this number where the test holds, and none where it doesn't.
abbrev pub where_so : Bool → MachineFault → Faults
where_so holds fault = if holds then fault ∷ [] else []

-- The faults of several, in their order.
abbrev pub of_each : List Faults → Faults
of_each [] = []
of_each (x ∷ xs) = x ++ of_each xs

-- The faults that count only where there are none before.
abbrev pub where_none : Faults → Faults → Faults
where_none [] later = later
where_none (x ∷ xs) later = []

-- The number stands among these.
abbrev pub stands_in : List ℕ → ℕ → Bool
stands_in [] n = false
stands_in (k ∷ ks) n = k == n || stands_in ks n

-- The faults of a node of an expression, by its operation, mode and number.
abbrev pub AtNode : Type 0
AtNode = Op → Option Mode → ℤ → Faults

abbrev pub node_step : AtNode → Rtl-F Faults → Faults
node_step at f = at f.op f.mode f.number ++ of_each f.items

-- Those of all nodes of an expression, from left to right.
unfoldable pub in_nodes : AtNode → Rtl → Faults
in_nodes at rtl = fold-Rtl Faults (node_step at) rtl
