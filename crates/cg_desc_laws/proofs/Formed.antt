-- An expression of which nothing is said stands for one that is formed.
use Rattle.std.proofs.Common.{◌≡◌, ℕ, Bool, true, false, ◌&&◌, nat_le, List, [], ◌∷◌, map, Option, Ok, Err, refl}
use Rattle.cg_base.specs.declared.form.Form.{Form}
use Rattle.cg_base.specs.declared.mode.Mode.{Mode}
use Rattle.cg_model.specs.Checked.{Verdict, mode_of}
use Rattle.cg_model.specs.Formed.{expression, stands, depth, is_formed}
use Rattle.cg_model.specs.declared.machine.Machine.{Machine}
use Rattle.cg_model.specs.declared.rtl.Rtl.{Rtl}
use Rattle.cg_model_faults.specs.Judging.{Judged, other_modes, verdict_faults, mode_faults}
use Rattle.cg_desc_check_element.specs.declared.moded.Wanted.{Wanted}
use Rattle.cg_desc_check_element.specs.Wanting.{judged}
use Rattle.cg_desc_laws_forms.proofs.Lists.{append_none}
use Rattle.cg_desc_names.specs.Table.{Table}
use Rattle.cg_rtl_resolve.specs.Names.{rtl_of}
use Rattle.cg_rtl_resolve.specs.declared.scope.Scope.{Scope}
use Rattle.cg_rtl.specs.Shapes.{faults_in}
use Rattle.cg_rtl_laws.specs.Shaped.{gives_value}
use Rattle.cg_rtl_laws.specs.Named.{AreNamed}
use Rattle.cg_rtl_laws.specs.Depth.{AreShallow}
use Rattle.cg_rtl_laws.proofs.Named.{named_law}
use Rattle.cg_rtl_laws.proofs.Depth.{shallow_law}
use Rattle.cg_desc_fault_rtl.specs.declared.asking.Asking.{Asking}
use Rattle.cg_desc_fault_rtl.specs.declared.asking.Expression.{Expression}
use Rattle.cg_desc_fault_rtl.specs.Asking.{asks_meaning, expression_of}
use Rattle.cg_desc_fault_rtl.specs.Judging.{of_expression, of_expressions}
use Rattle.cg_desc_fault_least.specs.Modes.{of_rtl}
use Rattle.cg_desc_fault_name.specs.E306.{missing}
use Rattle.cg_desc_laws.proofs.Said.{both_silent, uses_defined}

-- It has a mode.
record HasMode (m : Machine) (r : Rtl) (want : Option Mode) : Type 0 where
  mode : Mode
  is : mode_of m r want ≡ Ok mode

moded : (m : Machine) (j : Judged) → mode_faults m j ≡ [] → HasMode m j.rtl j.want
moded m j e = by (mode_of m j.rtl j.want) refl (append_none (other_modes j.own j.rtl) (verdict_faults j (mode_of m j.rtl j.want)) e).1 where
  by : (v : Verdict) → mode_of m j.rtl j.want ≡ v → verdict_faults j v ≡ [] → HasMode m j.rtl j.want
  by (Ok k) is none = record { mode = k; is = is }
  by (Err x) is none = absurd cc

none_mapped : {A B : Type 0} (f : A → B) (xs : List A) → map f xs ≡ [] → xs ≡ []
none_mapped f [] e = refl
none_mapped f (x ∷ xs) e = absurd cc

joined : (a b : Bool) → a ≡ true → b ≡ true → (a && b) ≡ true
joined true b e f = f
joined false b e f = e

-- What stands as an expression and has a mode is formed.
pub formed_moded : (m : Machine) (r : Rtl) (own : List ℕ) (w : Wanted) → stands r expression ≡ true → of_rtl m own w r ≡ [] → is_formed r ≡ true
formed_moded m r own w stand modes =
    let mode : HasMode m r w.want = moded m (judged w r) (none_mapped _ (mode_faults m (judged w r)) modes) in
    let all : AreShallow m = shallow_law m in
    joined (stands r expression) (nat_le (depth r) 64) stand (all.shallow r w.want mode.mode mode.is)

-- An expression stands as one, where its shapes are right and its names are there.
pub stands_named : (at : Table) (m : Machine) (s : Scope) (f : Form) (a : Asking) → asks_meaning a.asked ≡ true → gives_value s ≡ true → faults_in f ≡ [] → of_expression (missing at m) (expression_of m s f a) ≡ [] → stands (rtl_of s f) expression ≡ true
stands_named at m s f a asks value clear names =
    let x : Expression = expression_of m s f a in
    let named : AreNamed s = named_law s value in
    named.formed f clear (uses_defined at m x asks names)

pub formed : (at : Table) (m : Machine) (s : Scope) (f : Form) (a : Asking) (own : List ℕ) (w : Wanted) → asks_meaning a.asked ≡ true → gives_value s ≡ true → faults_in f ≡ [] → of_expressions (missing at m) (expression_of m s f a ∷ []) ≡ [] → of_rtl m own w (rtl_of s f) ≡ [] → is_formed (rtl_of s f) ≡ true
formed at m s f a own w asks value clear names modes =
    formed_moded m (rtl_of s f) own w (stands_named at m s f a asks value clear (both_silent (missing at m) (expression_of m s f a) [] names).0) modes
