-- What is answered of the machine of a description.
use Rattle.std.specs.Prelude.{◌≡◌, ℕ, List, Result, Ok, Err}
use Rattle.cg_base.specs.Answering.{Answered}
use Rattle.cg_base.specs.declared.form.Forms.{Forms}
use Rattle.cg_base.specs.declared.refusal.Refusal.{Refusal}
use Rattle.cg_base.specs.declared.refusal.Stop.{Stop}
use Rattle.cg_desc.specs.Answering.{GivesDescription}
use Rattle.cg_model.specs.declared.machine.Machine.{Machine}
use Rattle.cg_pmacro.specs.Tops.{expansion}

-- What is answered of a name by expanded forms, or where expansion is refused.
abbrev pub LoadsFrom : List ℕ → Result Forms Refusal → Result Machine Stop → Type 0
LoadsFrom name (Ok forms) answer = GivesDescription name forms.tops answer
LoadsFrom name (Err refusal) answer = Answered (λ m. ⊥) (λ r. r ≡ refusal) answer

-- The machine NAME that the forms describe once their macros are expanded, or why there is none.
abbrev pub Loads : Forms → List ℕ → Result Machine Stop → Type 0
Loads forms name answer = LoadsFrom name (expansion forms) answer
