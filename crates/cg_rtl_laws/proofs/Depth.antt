-- An expression that has a mode is at most 64 deep.
use Rattle.std.proofs.Common.{◌≡◌, ℕ, zero, suc, ◌+◌, ◌≤◌, max, Bool, true, false, nat_le, if◌then◌else◌, List, [], ◌∷◌, map, Option, Some, None, Result, Ok, Err, refl, sym, ap, ◌∙◌, subst, arith}
use Rattle.std.specs.Option.{option_map}
use Rattle.std.proofs.lemmas.Bool.{false≢true}
use Rattle.std.proofs.lemmas.Bool.Decides.{nat_tests}
use Rattle.cg_base.specs.declared.mode.Mode.{Mode}
use Rattle.cg_model.specs.Checked.{Verdict, and_then, fault, mode_in, mode_of}
use Rattle.cg_model.specs.Formed.{greatest, depth_step, depth}
use Rattle.cg_model.specs.Placed.{Level, is_set, rule_of, both, nodes_of_items, nodes_of_rule, nodes_to, few, small}
use Rattle.cg_model.specs.declared.machine.Machine.{Machine}
use Rattle.cg_model.specs.declared.rtl.Rtl.{Rtl, out-Rtl, fold_out-Rtl}
use Rattle.cg_rtl_laws.specs.Depth.{AreShallow}

pub depth_of : (r : Rtl) → depth r ≡ suc (greatest (map depth (out-Rtl r).items))
unfolding depth
depth_of r = fold_out-Rtl ℕ depth_step r

no_more : (a b d : ℕ) → a ≤ d → b ≤ d → max a b ≤ d
no_more a b d e f = omega (arith, e, f)

-- where there are nodes of items, there are of each
abbrev Known : Option ℕ → Type 0
Known None = ⊥
Known (Some n) = Unit {0}

module _ (m : Machine) where
  items_deep : (d : ℕ) → ((p : Bool) (x : Rtl) → Known (nodes_to m d p x) → depth x ≤ d) → (p : Bool) (xs : List Rtl) → Known (nodes_of_items (nodes_to m d) p xs) → greatest (map depth xs) ≤ d
  items_deep d deep p [] e = omega arith
  items_deep d deep p (x ∷ xs) e = at (nodes_to m d p x) (nodes_of_items (nodes_to m d) false xs) (deep p x) (items_deep d deep false xs) e where
    at : (a b : Option ℕ) → (Known a → depth x ≤ d) → (Known b → greatest (map depth xs) ≤ d) → Known (both a b) → max (depth x) (greatest (map depth xs)) ≤ d
    at None b first rest e = absurd e
    at (Some j) None first rest e = absurd e
    at (Some j) (Some k) first rest e = no_more (depth x) (greatest (map depth xs)) d (first tt) (rest tt)

  nodes_deep : (d : ℕ) (p : Bool) (r : Rtl) → Known (nodes_to m d p r) → depth r ≤ d
  nodes_deep zero p r e = absurd e
  nodes_deep (suc d) p r e =
      let inner : greatest (map depth (out-Rtl r).items) ≤ d =
      items_deep d (nodes_deep d) (is_set (out-Rtl r).op) (out-Rtl r).items (of_items (nodes_of_items (nodes_to m d) (is_set (out-Rtl r).op) (out-Rtl r).items) (nodes_of_rule (nodes_to m d) (rule_of m p (out-Rtl r))) e) in
      subst (λ n. n ≤ suc d) (sym (depth_of r)) (omega (arith, inner)) where
        of_items : (a b : Option ℕ) → Known (option_map suc (both a b)) → Known a
        of_items None b e = e
        of_items (Some j) b e = tt

  few_known : (o : Option ℕ) → few o ≡ true → Known o
  few_known None e = absurd (false≢true e)
  few_known (Some n) e = tt

  small_deep : (r : Rtl) → small m r ≡ true → nat_le (depth r) 64 ≡ true
  unfolding small
  small_deep r e = let deep : depth r ≤ 64 = nodes_deep 64 false r (few_known (nodes_to m 64 false r) e) in grind (arith, nat_tests)

pub shallow_law : (m : Machine) → AreShallow m
shallow_law m = record { shallow = moded } where
  by_size : (r : Rtl) (j k : Mode) (b : Bool) → small m r ≡ b → (if b then Ok j else Err (fault 406)) ≡ Ok k → nat_le (depth r) 64 ≡ true
  by_size r j k true is e = small_deep m r is
  by_size r j k false is e = absurd cc

  by_mode : (r : Rtl) (k : Mode) (v : Verdict) → and_then v (λ j. if small m r then Ok j else Err (fault 406)) ≡ Ok k → nat_le (depth r) 64 ≡ true
  by_mode r k (Ok j) e = by_size r j k (small m r) refl e
  by_mode r k (Err x) e = absurd cc

  moded : (r : Rtl) (want : Option Mode) (k : Mode) → mode_of m r want ≡ Ok k → nat_le (depth r) 64 ≡ true
  moded r want k e = by_mode r k (mode_in m r [] want) e

pub ruleset shallow = (shallow_law)
