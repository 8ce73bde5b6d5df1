-- The equations of expansion, which recurses on how deep lists may stand.
use Rattle.std.proofs.Common.{◌≡◌, ◌≢◌, ℕ, zero, suc, ◌+◌, ◌-◌, ◌==◌, ◌&&◌, nat_lt, length, codes, if◌then◌else◌, Bool, true, false, List, [], ◌∷◌, Option, Some, None, Result, Ok, Err, ap, refl, sym, arith}
use Rattle.std.specs.List.{range_with_len}
use Rattle.std.proofs.lemmas.Grind.{common_steps}
use Rattle.cg_base.specs.declared.form.Form.{Form}
use Rattle.cg_base.specs.declared.form.Form.TheVariants as form
use Rattle.cg_base.specs.Refusing.{Fault}
use Rattle.cg_pmacro_builtin.specs.declared.fault.Halt.{Halt}
use Rattle.cg_pmacro_builtin.specs.declared.fault.Halt.TheVariants.{Faulty, NoMemory}
use Rattle.cg_pmacro_builtin.specs.declared.body.Body.{Body}
use Rattle.cg_pmacro_builtin.specs.declared.body.Macro.{Macro}
use Rattle.cg_pmacro_builtin.specs.declared.built_in.BuiltIn.TheVariants as own
use Rattle.cg_pmacro_builtin.specs.Outcome.{Answer, Paid, ◌>>=◌, onward, choose, each, fails, lift}
use Rattle.cg_pmacro_builtin.specs.Reports.{Comes, Leaves, Halts, IsHalt}
use Rattle.cg_pmacro_expand.specs.Expansion as meant
use Rattle.cg_pmacro_expand.specs.Steps as steps
use Rattle.std.proofs.lemmas.Bool.Decides.{nat_tests}
use Rattle.cg_pmacro_builtin.specs.Manners.{affordable}
use Rattle.cg_pmacro_expand.specs.Steps.{over, over_checked, at_depth, call_built_in}
use Rattle.cg_pmacro_builtin.specs.declared.built_in.BuiltIn.{BuiltIn}
use Rattle.cg_pmacro_builtin.specs.Shapes.{macro_named}
use Rattle.cg_pmacro_builtin.specs.BuiltIns.{name_of, misfit, iota_of}
use Rattle.cg_pmacro_builtin.proofs.Fronts.{in_front, none_in_front, one_in_front, more_in_front}
use Rattle.cg_pmacro_expand.specs.Expansion.{Expander, Kind, too_deep, comes_to, itself, macro_symbol, symbol_kind, kind_of, without_arguments, own_called, expanded, charge, charged, call_of, row, results}

pub expanded_out : (macros : List Macro) (k : ℕ) (inner : List ℕ) (spliced : Bool) (b : Body) (left : ℕ) → expanded macros k inner spliced b left ≡ at_depth macros k inner spliced (kind_of macros b) left
unfolding expanded
expanded_out macros zero inner spliced b left = refl
expanded_out macros (suc k) inner spliced b left = refl

pub at_leaf : (macros : List Macro) (k : ℕ) (inner : List ℕ) (spliced : Bool) (f : Form) (left : ℕ) → at_depth macros k inner spliced (itself f) left ≡ Ok (f, left)
at_leaf macros zero inner spliced f left = refl
at_leaf macros (suc k) inner spliced f left = refl

pub at_zero : (macros : List Macro) (k : ℕ) (inner : List ℕ) (spliced : Bool) (kind : Kind) (left : ℕ) → k ≡ 0 → at_depth macros k inner spliced kind left ≡ too_deep inner kind left
at_zero macros zero inner spliced kind left h = refl
at_zero macros (suc k) inner spliced kind left h = absurd (omega arith)

pub at_more : (macros : List Macro) (k : ℕ) (inner : List ℕ) (spliced : Bool) (kind : Kind) (left : ℕ) → k ≢ 0 → at_depth macros k inner spliced kind left ≡ comes_to macros (expanded macros (k - 1)) inner spliced kind left
at_more macros zero inner spliced kind left h = absurd (h refl)
at_more macros (suc k) inner spliced kind left h = let e : suc k - 1 ≡ k = omega arith in rw e refl

-- Where a symbol stands doesn't matter.
pub symbol_anywhere : (macros : List Macro) (k : ℕ) (inner : List ℕ) (spliced : Bool) (s : List ℕ) (left : ℕ) → at_depth macros k inner spliced (symbol_kind macros s) left ≡ at_depth macros k [] false (symbol_kind macros s) left
symbol_anywhere macros k inner spliced s left = by_body k (without_arguments (macro_named macros s))
  where
    by_body : (n : ℕ) (b : Option Body) → at_depth macros n inner spliced (choose b (macro_symbol s) (itself (form.Symbol s))) left ≡ at_depth macros n [] false (choose b (macro_symbol s) (itself (form.Symbol s))) left
    by_body zero None = refl
    by_body zero (Some b) = refl
    by_body (suc n) None = refl
    by_body (suc n) (Some b) = refl

pub halts_of : (A : Type 0) (x : Fault) (h : Halt) → IsHalt x h → Halts {A = A} (Err x) h
halts_of A x NoMemory e = tt
halts_of A x (Faulty n y) e = ap Err e

pub leaves_lifted : {A : Type 0} (out : Answer A) (r : Result A Halt) (left : ℕ) → Comes out r → Leaves (lift out left) r left
leaves_lifted (Ok a) (Ok b) left e = cc
leaves_lifted (Err x) (Ok b) left e = absurd (cc)
leaves_lifted (Ok a) (Err NoMemory) left e = tt
leaves_lifted (Err x) (Err NoMemory) left e = tt
leaves_lifted (Ok a) (Err (Faulty n y)) left e = absurd (cc)
leaves_lifted (Err x) (Err (Faulty n y)) left e = cc

pub results_none : (within : Expander) (b : BuiltIn) (m : Body) (ls : List Form) (k n left : ℕ) → n ≡ 0 → results within b m ls (range_with_len k n) left ≡ Ok ([], left)
results_none within b m ls k zero left h = refl
results_none within b m ls k (suc n) left h = absurd (omega arith)

pub results_more : (within : Expander) (b : BuiltIn) (m : Body) (ls : List Form) (k n left : ℕ) → n ≢ 0 → results within b m ls (range_with_len k n) left ≡ onward (within (name_of b) false (call_of m (row k ls)) left) (λ r. in_front (r.0 ∷ []) (results within b m ls (range_with_len (k + 1) (n - 1)) r.1))
results_more within b m ls k zero left h = absurd (h refl)
results_more within b m ls k (suc n) left h = let e : suc n - 1 ≡ n = omega arith in rw e refl

-- The cost of an answer that is too much is refused, whether it is tested before or charged.
charged_lifted : (name : List ℕ) (left : ℕ) (out : Answer Form) → charged name (lift (affordable left out)) left ≡ charged name (lift out) left
charged_lifted name left (Ok f) = grind arith
charged_lifted name left (Err x) = refl

charged_iota : (name : List ℕ) (args : Paid (List Form)) (made : List Form → Answer Form) (left : ℕ) → charged name (args >>= λ fs rest. lift (affordable rest (made fs)) rest) left ≡ charged name (args >>= λ fs. lift (made fs)) left
charged_iota name args made left = of_args (args left)
  where
    of_args : (out : Answer (List Form × ℕ)) → onward (onward out (λ r. lift (affordable r.1 (made r.0)) r.1)) (λ r. charge name r.0 r.1) ≡ onward (onward out (λ r. lift (made r.0) r.1)) (λ r. charge name r.0 r.1)
    of_args (Ok r) = charged_lifted name r.1 (made r.0)
    of_args (Err x) = refl

-- What is made of m and lists once they are tested is what is made of them with the tests.
abbrev passed : Bool → Fault → Answer (Unit {0})
passed fit x = if fit then Ok tt else Err x

tested : (fit : Bool) (x : Fault) (run : Paid Form) (left : ℕ) → (if fit then run else fails x) left ≡ (lift (passed fit x) >>= λ _. run) left
tested true x run left = refl
tested false x run left = refl

some_lists : (l : Form) (ls : List Form) → nat_lt 0 (length (l ∷ ls)) ≡ true
some_lists l ls = grind (arith, nat_tests)

one_list : (l : Form) → (length (l ∷ []) == 1) ≡ true
one_list l = grind (arith, nat_tests)

more_lists : (l k : Form) (ls : List Form) → (length (l ∷ k ∷ ls) == 1) ≡ false
more_lists l k ls = grind (arith, nat_tests)

over_map : (macros : List Macro) (within : Expander) (m : Body) (ls : List Form) (left : ℕ) → meant.mapped macros within own.Map [] m ls left ≡ over macros within own.Map m ls left
unfolding over over_checked steps.mapped
over_map macros within m [] left = refl
over_map macros within m (l ∷ ls) left = rw (some_lists l ls) (tested (meant.is_callable macros m && meant.are_lists (l ∷ ls)) (misfit own.Map) (steps.mapped within own.Map m (l ∷ ls)) left)

over_for_each : (macros : List Macro) (within : Expander) (m : Body) (ls : List Form) (left : ℕ) → meant.mapped macros within own.ForEach (form.Symbol (codes "begin") ∷ []) m ls left ≡ over macros within own.ForEach m ls left
unfolding over over_checked steps.mapped
over_for_each macros within m [] left = refl
over_for_each macros within m (l ∷ ls) left = rw (some_lists l ls) (tested (meant.is_callable macros m && meant.are_lists (l ∷ ls)) (misfit own.ForEach) (steps.mapped within own.ForEach m (l ∷ ls)) left)

over_apply : (macros : List Macro) (within : Expander) (m : Body) (ls : List Form) (left : ℕ) → meant.applied macros within m ls left ≡ over macros within own.Apply m ls left
unfolding over over_checked steps.applied
over_apply macros within m [] left = refl
over_apply macros within m (l ∷ []) left = rw (one_list l) (tested (meant.is_callable macros m && meant.are_lists (l ∷ [])) (misfit own.Apply) (steps.applied within m (l ∷ [])) left)
over_apply macros within m (l ∷ k ∷ ls) left = rw (more_lists l k ls) refl

-- A call of a built-in by its manner gives what the built-in gives.
pub own_called_by : (macros : List Macro) (within : Expander) (b : BuiltIn) (spliced : Bool) (args : List Body) (left : ℕ) → own_called macros within b spliced args left ≡ charged (name_of b) (call_built_in macros within b spliced args) left
unfolding own_called
own_called_by macros within own.Iota spliced args left = sym (charged_iota (name_of own.Iota) (each (within (name_of own.Iota) false) args) iota_of left)
own_called_by macros within own.Map spliced args left = λ i. charged (name_of own.Map) (meant.m_and_lists within own.Map (λ m ls n. over_map macros within m ls n i) args) left
own_called_by macros within own.ForEach spliced args left = λ i. charged (name_of own.ForEach) (meant.m_and_lists within own.ForEach (λ m ls n. over_for_each macros within m ls n i) args) left
own_called_by macros within own.Apply spliced args left = λ i. charged (name_of own.Apply) (meant.m_and_lists within own.Apply (λ m ls n. over_apply macros within m ls n i) args) left
own_called_by macros within b spliced args left = refl

pub ruleset leaving_rules = (common_steps, halts_of, leaves_lifted)

pub ruleset depth_rules = (leaving_rules, at_leaf, at_zero, at_more)

pub ruleset front_rules = (leaving_rules, none_in_front, one_in_front, more_in_front)

pub ruleset result_rules = (front_rules, results_none, results_more)

pub ruleset own_rules = (leaving_rules, own_called_by)
