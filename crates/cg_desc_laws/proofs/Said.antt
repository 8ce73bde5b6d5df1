-- Where nothing is said of a clause, nothing is said of what stands in its expressions.
use Rattle.std.proofs.Common.{◌≡◌, ◌∙◌, true, ◌&&◌, if◌then◌else◌, List, [], ◌∷◌, ◌++◌, Some, None, refl, sym, ap}
use Rattle.std.specs.List.{list_all, flat_map}
use Rattle.cg_desc_laws_forms.proofs.Lists.{append_none}
use Rattle.cg_model.specs.declared.machine.Machine.{Machine}
use Rattle.cg_desc_names.specs.Table.{Table}
use Rattle.cg_rtl_uses.specs.declared.uses.Use.{Use}
use Rattle.cg_rtl_uses.specs.declared.uses.Use.TheVariants as stands
use Rattle.cg_rtl_uses.specs.declared.uses.PlacedUse.{PlacedUse}
use Rattle.cg_rtl_laws.specs.Named.{is_defined, is_defined_at}
use Rattle.cg_desc_fault_report.specs.declared.saying.Placed.{Placed}
use Rattle.cg_desc_fault_report.specs.Saying.{only_text, earliest_said}
use Rattle.cg_desc_fault_rtl.specs.declared.asking.Expression.{Expression}
use Rattle.cg_desc_fault_rtl.specs.Asking.{asks_meaning}
use Rattle.cg_desc_fault_rtl.specs.Judging.{Says, placed_where, of_use, of_expression, of_expressions}
use Rattle.cg_desc_fault_name.specs.E306.{missing}

-- the earliest of some is one
pub none_placed : (xs : List Placed) → earliest_said xs ≡ [] → xs ≡ []
none_placed [] e = refl
none_placed (x ∷ xs) e = absurd cc

-- what isn't said of any isn't said of one
pub both_silent : (says : Says) (x : Expression) (xs : List Expression) → of_expressions says (x ∷ xs) ≡ [] → (of_expression says x ≡ []) × (of_expressions says xs ≡ [])
both_silent says x xs e = append_none (of_expression says x) (of_expressions says xs) e

-- Where no name is missing of which it is asked, each name of a kind is defined.
module _ (at : Table) (m : Machine) (x : Expression) (asks : asks_meaning x.asking.asked ≡ true) where
  defined_here : (u : PlacedUse) → of_use (missing at m) x u ≡ [] → is_defined_at u ≡ true
  unfolding missing
  defined_here u e = by u.what refl where
    by : (w : Use) → u.what ≡ w → is_defined u.what ≡ true
    by (stands.Undefined name) is =
        let said : placed_where (x.asking.at ++ u.place) (if asks_meaning x.asking.asked then Some (only_text name) else None) ≡ [] = sym (ap (λ w. placed_where (x.asking.at ++ u.place) (missing at m x w)) is) ∙ e in
        let never : placed_where (x.asking.at ++ u.place) (Some (only_text name)) ≡ [] = sym (ap (λ b. placed_where (x.asking.at ++ u.place) (if b then Some (only_text name) else None)) asks) ∙ said in absurd cc
    by (stands.Node o mode n) is = ap is_defined is
    by (stands.Constant name n) is = ap is_defined is
    by (stands.Unknown name) is = ap is_defined is

  all_defined : (us : List PlacedUse) → flat_map (of_use (missing at m) x) us ≡ [] → list_all is_defined_at us ≡ true
  all_defined [] e = refl
  all_defined (u ∷ us) e =
      let both : (of_use (missing at m) x u ≡ []) × (flat_map (of_use (missing at m) x) us ≡ []) = append_none (of_use (missing at m) x u) (flat_map (of_use (missing at m) x) us) e in
      ap (λ b. b && list_all is_defined_at us) (defined_here u both.0) ∙ all_defined us both.1

  pub uses_defined : of_expression (missing at m) x ≡ [] → list_all is_defined_at x.uses ≡ true
  uses_defined e = all_defined x.uses e
