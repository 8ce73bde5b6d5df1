-- Fewer lists stand one within another in an element of a value than in the value.
use Rattle.std.specs.Prelude.{◌≡◌, ℕ, ◌+◌, ◌≤◌, max, map, List, [], ◌∷◌}
use Rattle.std.proofs.Common.{ap, sym, ◌∙◌, arith}
use denote.Param.Weighed.{most}
use Rattle.cg_base.specs.declared.form.Form.{Form}
use Rattle.cg_base.specs.declared.form.Form.TheOpen as layer
use Rattle.cg_base.specs.declared.form.Form.TheViews.{rolls-Items}
use Rattle.cg_base.specs.declared.form.Form.TheFolds.{fold-roll-Form}
use Rattle.cg_base.specs.declared.form.Form.TheVariants as form
use Rattle.cg_pmacro_builtin.specs.declared.value.Node.{Node}
use Rattle.cg_pmacro_builtin.specs.declared.value.Node.TheVariants.{Number, Symbol, Str, Flag, Items}
use Rattle.cg_pmacro_builtin.specs.declared.value.Value.TheDeep.{deep-Node}
use Rattle.cg_pmacro_builtin.specs.Depths.{greatest_of, lists_step, lists}
use Rattle.cg_pmacro_builtin.specs.Values.{form_of}

pub lists_items : (fs : List Form) → lists (form.Items fs) ≡ 1 + greatest_of (map lists fs)
lists_items fs = ap lists (sym (rolls-Items fs)) ∙ fold-roll-Form ℕ lists_step (layer.Items fs)

most_lists : (fs : List Form) → most (λ f. lists f + 1) fs ≤ greatest_of (map lists fs) + 1
most_lists [] = omega arith
most_lists (f ∷ fs) = omega (arith, most_lists fs)

pub elements_fall : (n : Node) → max (deep-Node n) 0 ≤ lists (form_of n)
elements_fall (Number n) = omega arith
elements_fall (Symbol s) = omega arith
elements_fall (Str s) = omega arith
elements_fall (Flag b) = omega arith
elements_fall (Items d fs) = omega (arith, lists_items fs.value, most_lists fs.value)
