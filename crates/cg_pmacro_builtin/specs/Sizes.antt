-- How large forms are.
use Rattle.std.specs.Prelude.{ℕ, ◌+◌, sum}
use Rattle.cg_base.specs.declared.form.Form.{Form, fold-Form}
use Rattle.cg_base.specs.declared.form.Form.TheOpen as layer
use Rattle.cg_base.specs.declared.form.Form.TheOpen.{Form-F}
use Rattle.cg_pmacro_builtin.specs.declared.body.Body.{Body, fold-Body}
use Rattle.cg_pmacro_builtin.specs.declared.body.Body.TheOpen as body
use Rattle.cg_pmacro_builtin.specs.declared.body.Body.TheOpen.{Body-F}
pub use Rattle.cg_pmacro_builtin.specs.Depths.{greatest_of, lists}

abbrev pub nodes_step : Form-F ℕ → ℕ
nodes_step (layer.Items ns) = 1 + sum ns
nodes_step _ = 1

-- A leaf has one node. A list has one more than its elements have.
abbrev pub nodes : Form → ℕ
nodes = fold-Form ℕ nodes_step

abbrev pub levels_step : Body-F ℕ → ℕ
levels_step (body.Items ns) = 1 + greatest_of ns
levels_step _ = 0

-- the same of a form with quoted leaves, whose quoted leaves are no lists
abbrev pub levels : Body → ℕ
levels = fold-Body ℕ levels_step
