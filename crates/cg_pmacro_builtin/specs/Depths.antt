-- How deep lists stand in a form.
use Rattle.std.specs.Prelude.{ℕ, ◌+◌, max, List, [], ◌∷◌}
use Rattle.cg_base.specs.declared.form.Form.{Form, fold-Form}
use Rattle.cg_base.specs.declared.form.Form.TheOpen as layer
use Rattle.cg_base.specs.declared.form.Form.TheOpen.{Form-F}

abbrev pub greatest_of : List ℕ → ℕ
greatest_of [] = 0
greatest_of (n ∷ ns) = max n (greatest_of ns)

abbrev pub lists_step : Form-F ℕ → ℕ
lists_step (layer.Items ns) = 1 + greatest_of ns
lists_step _ = 0

-- how many lists stand one within another
abbrev pub lists : Form → ℕ
lists = fold-Form ℕ lists_step
