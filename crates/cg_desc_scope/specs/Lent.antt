-- What the code hands on, as definitions see it.
use Rattle.std.specs.Prelude.{ℕ, List, map}
use Rattle.std.specs.Borrow.{Bor}
use Rattle.cg_base.specs.declared.form.Form.{Form}

-- Units that are lent.
abbrev pub seen_unit : Bor (List ℕ) × ℕ → List ℕ × ℕ
seen_unit x = (x.0.now, x.1)

abbrev pub seen_units : List (Bor (List ℕ) × ℕ) → List (List ℕ × ℕ)
seen_units xs = map seen_unit xs

-- Forms that are lent.
abbrev pub seen_form : Bor Form → Form
seen_form x = x.now

abbrev pub seen_forms : List (Bor Form) → List Form
seen_forms xs = map seen_form xs
