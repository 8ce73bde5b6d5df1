-- What a text reads as, and how it is refused.
use Rattle.std.specs.Prelude.{◌≡◌, ℕ, List, [], ◌∷◌, ◌++◌, map}
use Rattle.std.specs.List.{zip}
use Rattle.cg_base.specs.declared.form.Form.{Form}
use Rattle.cg_base.specs.declared.form.Top.{Top}
use Rattle.cg_base.specs.declared.form.Forms.{Forms}
use Rattle.cg_base.specs.declared.refusal.Refusal.{Refusal}
use Rattle.cg_base.specs.Grammar.{Spells}
use Rattle.cg_base.specs.Faults.{Faults}

-- A form with its file and line.
abbrev pub top : ℕ → Form × ℕ → Top
top file x = record { form = x.0; file = file; line = x.1 }

-- The text with its last line ended: so a comment ends where the text does. Nothing else turns on it.
abbrev pub ended : List ℕ → List ℕ
ended bytes = bytes ++ 10 ∷ []

-- This is the list of the forms that the text spells, with lists at most 200 deep.
pub record Reads (bytes : List ℕ) (file : ℕ) (answer : Forms) : Type 0 where
  pub forms : List Form
  pub lines : List ℕ
  pub spelled : Spells 200 1 forms lines (ended bytes)
  pub tops : answer.tops ≡ map (top file) (zip forms lines)

-- This is the refusal of the first fault in the text.
abbrev pub IsFault : List ℕ → ℕ → Refusal → Type 0
IsFault bytes file refusal = Faults file [] 1 (ended bytes) refusal
