-- The equations of the meanings of top forms, which recurse on how deep lists may stand.
use Rattle.std.proofs.Common.{◌≡◌, ◌≢◌, ℕ, zero, suc, ◌-◌, List, [], ◌∷◌, drop, Some, Ok, Err, true, codes, refl, sym, ap, ◌∙◌, arith}
use Rattle.std.proofs.lemmas.Grind.{common_steps}
use Rattle.cg_base.specs.declared.form.Form.{Form}
use Rattle.cg_base.specs.Texts.{is_named}
use Rattle.cg_pmacro_builtin.specs.declared.body.Body.{Body}
use Rattle.cg_base.specs.declared.form.Top.{Top}
use Rattle.cg_base.specs.declared.refusal.Stop.{Stop}
use Rattle.cg_base.specs.declared.refusal.Stop.TheVariants as stops
use Rattle.cg_base.specs.Answering.{Stops}
use Rattle.cg_pmacro_builtin.specs.declared.fault.Halt.{Halt}
use Rattle.cg_pmacro_builtin.specs.declared.fault.Halt.TheVariants.{Faulty, NoMemory}
use Rattle.cg_pmacro_builtin.specs.Reports.{Halts}
use Rattle.cg_pmacro_builtin.specs.Outcome.{Answer, each_joined}
use Rattle.cg_pmacro_builtin.specs.Shapes.{elements, head_name}
use Rattle.cg_pmacro.specs.Splitting.{split_by, split_each, split_to}
use Rattle.cg_pmacro.specs.Steps.{further_top, further_split, Refuses}
use Rattle.cg_pmacro.specs.Tops.{State, in_place, no_forms, top_by, top_to}
use Rattle.cg_pmacro_builtin.proofs.Fronts.{none_in_front, more_in_front, answer_none_in_front, answer_more_in_front}
use Rattle.cg_pmacro_expand.proofs.Rules.{halts_of}

pub top_out : (k : ℕ) (b : Body) (s : State) → top_to k b s ≡ top_by (further_top k) b s
top_out zero b s = refl
top_out (suc k) b s = refl

no_tops : (bs : List Body) (s : State) → each_joined no_forms bs s ≡ Ok ([], s)
no_tops [] s = refl
no_tops (b ∷ bs) s = rw (no_tops bs s) refl

-- At depth 0 a `begin` stands for nothing.
pub begin_nothing : (k : ℕ) (b : Body) (bs : List Body) (s : State) → k ≡ 0 → elements b ≡ Some bs → is_named (codes "begin") (head_name bs) ≡ true → top_to k b s ≡ Ok ([], s)
begin_nothing zero b bs s h e n = rw e (rw n (no_tops (drop 1 bs) s))
begin_nothing (suc k) b bs s h e n = absurd (omega arith)

pub further_top_some : (k : ℕ) → k ≢ 0 → further_top k ≡ top_to (k - 1)
further_top_some zero h = absurd (h refl)
further_top_some (suc k) h = let e : suc k - 1 ≡ k = omega arith in rw e refl

pub split_out : (k : ℕ) (f : Form) → split_to k f ≡ split_by (further_split k) f
split_out zero f = refl
split_out (suc k) f = refl

pub no_parts : (k : ℕ) (fs : List Form) → k ≡ 0 → split_each (further_split k) fs ≡ Ok []
no_parts zero [] h = refl
no_parts zero (f ∷ fs) h = rw (no_parts zero fs refl) refl
no_parts (suc k) fs h = absurd (omega arith)

pub further_split_some : (k : ℕ) → k ≢ 0 → further_split k ≡ split_to (k - 1)
further_split_some zero h = absurd (h refl)
further_split_some (suc k) h = let e : suc k - 1 ≡ k = omega arith in rw e refl

-- The refusal of a halt in a top form is that of its outcome.
pub refused_at_top : (t : Top) (out : Answer (List Form × State)) (h : Halt) (stop : Stop) → Halts out h → Stops (Refuses t h) stop → Stops (λ refusal. in_place t out ≡ Err refusal) stop
refused_at_top t out NoMemory (stops.Refused r) e x = absurd x
refused_at_top t out (Faulty n y) (stops.Refused r) e x = ap (in_place t) e ∙ ap Err (sym x)
refused_at_top t out h stops.NoMemory e x = tt

pub ruleset top_rules = (common_steps, none_in_front, more_in_front, answer_none_in_front, answer_more_in_front, halts_of, top_out, begin_nothing, further_top_some, split_out, no_parts, further_split_some)
