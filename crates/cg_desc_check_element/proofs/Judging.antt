-- The faults of the expressions of an element, some by some.
use Rattle.std.proofs.Common.{◌≡◌, ℕ, ◌≤◌, length, drop, List, [], ◌∷◌, ◌++◌, refl, sym, ap, ◌∙◌, append_assoc}
use Rattle.std.proofs.lemmas.Grind.{common_steps}
use Rattle.std.proofs.lemmas.List.{drop_all}
use Rattle.cg_base.specs.declared.mode.Mode.{Mode}
use Rattle.cg_model.specs.declared.rtl.Rtl.{Rtl}
use Rattle.cg_model_faults.specs.Elements.{inserts_judged}
use Rattle.cg_model.specs.declared.machine.Machine.{Machine}
use Rattle.cg_model_faults.specs.Judging.{Judged, outside_rules, mode_faults, all_outside, all_modes}
use Rattle.cg_desc_check_element.proofs.Firsts.{first_append}

pub outside_append : (xs ys : List Judged) → all_outside (xs ++ ys) ≡ all_outside xs ++ all_outside ys
outside_append [] ys = refl
outside_append (x ∷ xs) ys = ap (λ z. outside_rules x.purpose x.rtl ++ z) (outside_append xs ys) ∙ sym (append_assoc (outside_rules x.purpose x.rtl) (all_outside xs) (all_outside ys))

pub modes_append : (m : Machine) (xs ys : List Judged) → all_modes m (xs ++ ys) ≡ all_modes m xs ++ all_modes m ys
modes_append m [] ys = refl
modes_append m (x ∷ xs) ys = ap (λ z. mode_faults m x ++ z) (modes_append m xs ys) ∙ sym (append_assoc (mode_faults m x) (all_modes m xs) (all_modes m ys))

no_inserts : (m : Machine) (own : Mode) (ks : List ℕ) → inserts_judged m own ks [] ≡ []
no_inserts m own [] = refl
no_inserts m own (k ∷ ks) = refl

-- past the last expression
pub inserts_past : (m : Machine) (own : Mode) (ks : List ℕ) (rs : List Rtl) (k : ℕ) → length rs ≤ k → inserts_judged m own ks (drop k rs) ≡ []
inserts_past m own ks rs k h = ap (inserts_judged m own ks) (drop_all k rs h) ∙ no_inserts m own ks

pub ruleset judged_rules = (common_steps, first_append, outside_append, modes_append, inserts_past)
