-- What the crate's private functions say of their steps. The meaning of top forms doesn't need it.
use Rattle.std.specs.Prelude.{◌≡◌, ℕ, zero, suc, List, Result, Ok, Err}
use Rattle.cg_base.specs.declared.form.Form.{Form}
use Rattle.cg_base.specs.declared.form.Top.{Top}
use Rattle.cg_base.specs.declared.refusal.Stop.{Stop}
use Rattle.cg_base.specs.Answering.{Stops}
use Rattle.cg_base.specs.declared.refusal.Refusal.{Refusal}
use Rattle.cg_pmacro_builtin.specs.declared.body.Body.{Body}
use Rattle.cg_pmacro_builtin.specs.declared.body.Macro.{Macro}
use Rattle.cg_base.specs.Refusing.{Fault, refusal_at}
use Rattle.cg_pmacro_builtin.specs.declared.fault.Halt.{Halt}
use Rattle.cg_pmacro_builtin.specs.declared.fault.Halt.TheVariants.{Faulty, NoMemory}
use Rattle.cg_pmacro_builtin.specs.Outcome.{Answer, Run}
use Rattle.cg_pmacro_builtin.specs.Reports.{Halts}
use Rattle.cg_pmacro.specs.Splitting.{split_to, nothing}
use Rattle.cg_pmacro.specs.Tops.{State, state, in_place, top_to, no_forms}

-- this is the outcome of a top form, with the macros that are known then and the units that are left
abbrev pub LeavesTop : {A : Type 0} → Answer (A × State) → Result A Halt → List Macro → ℕ → Type 0
LeavesTop out (Ok a) macros left = out ≡ Ok (a, state macros left)
LeavesTop out (Err h) macros left = Halts out h

-- the refusal of what came to a halt in a top form
abbrev pub Refuses : Top → Halt → Refusal → Type 0
Refuses t NoMemory refusal = ⊥
Refuses t (Faulty number text) refusal = refusal ≡ refusal_at t.file t.line (number, text)

-- this was answered of a top form of that outcome, with the macros that are known then and the units that are left
abbrev pub AnswersTop : Top → Answer (List Form × State) → Result (List Form) Stop → List Macro → ℕ → Type 0
AnswersTop t out (Ok fs) macros left = out ≡ Ok (fs, state macros left)
AnswersTop t out (Err stop) macros left = Stops (λ refusal. in_place t out ≡ Err refusal) stop

-- how top forms within a `begin` stand
abbrev pub further_top : ℕ → Body → Run State Fault (List Form)
further_top zero = no_forms
further_top (suc k) = top_to k

-- how results within a `begin` split
abbrev pub further_split : ℕ → Form → Answer (List Form)
further_split zero = nothing
further_split (suc k) = split_to k
