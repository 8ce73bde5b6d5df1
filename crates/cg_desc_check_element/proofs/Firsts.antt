-- What the first of several faults is, and how nodes are counted.
use Rattle.std.proofs.Common.{append_assoc, ◌≡◌, ℕ, suc, ◌+◌, map, List, [], ◌∷◌, ◌++◌, Option, Some, None, refl}
use Rattle.std.specs.Option.{option_or}
use Rattle.std.proofs.lemmas.Grind.{common_steps}
use Rattle.cg_base.specs.Refusing.{first}
use Rattle.cg_model_faults.specs.declared.fault.MachineFault.{MachineFault}
use Rattle.cg_model.specs.declared.rtl.Rtl.{Rtl, out-Rtl, fold_out-Rtl}
use Rattle.cg_model_faults.specs.Finding.{Faults, where_none}
use Rattle.cg_model_faults.specs.E308.{sum_of, nodes_step, nodes}

pub first_append : {A : Type 0} (xs ys : List A) → first (xs ++ ys) ≡ option_or (first xs) (first ys)
first_append [] ys = refl
first_append (x ∷ xs) ys = refl

-- nothing later counts behind a fault
abbrev pub unless_some : Option MachineFault → Option MachineFault → Option MachineFault
unless_some None later = later
unless_some (Some fault) later = None

pub first_where_none : (xs ys : Faults) → first (where_none xs ys) ≡ unless_some (first xs) (first ys)
first_where_none [] ys = refl
first_where_none (x ∷ xs) ys = refl

pub ruleset first_rules = (common_steps, first_append, first_where_none)

pub nodes_of : (r : Rtl) → nodes r ≡ suc (sum_of (map nodes (out-Rtl r).items))
unfolding nodes
nodes_of r = fold_out-Rtl ℕ nodes_step r

pub ruleset node_rules = (common_steps, nodes_of)

pub ruleset slot_rules = (common_steps, append_assoc)
