-- The equations of what is seen of a form.
use Rattle.std.specs.Prelude.{sum}
use Rattle.std.proofs.Common.{◌≡◌, ◌+◌, ℕ, ℤ, Bool, map, List, ap, sym, ◌∙◌}
use Rattle.std.proofs.lemmas.Grind.{common_steps}
use Rattle.cg_base.specs.declared.form.Form.{Form}
use Rattle.cg_base.specs.declared.form.Form.TheOpen as layer
use Rattle.cg_base.specs.declared.form.Form.TheViews.{rolls-Number, rolls-Symbol, rolls-Str, rolls-Flag, rolls-Items, outs-Number, outs-Symbol, outs-Str, outs-Flag, outs-Items}
use Rattle.cg_base.specs.declared.form.Form.TheFolds.{fold-roll-Form}
use Rattle.cg_base.specs.declared.form.Form.TheVariants.{Number, Symbol, Str, Flag, Items}
use Rattle.cg_pmacro_builtin.specs.Sizes.{nodes, nodes_step, lists}
use Rattle.cg_pmacro_builtin.specs.Depths.{lists_step}
use Rattle.cg_pmacro_builtin.specs.Falls.{lists_items}

pub nodes_items : (fs : List Form) → nodes (Items fs) ≡ 1 + sum (map nodes fs)
nodes_items fs = ap nodes (sym (rolls-Items fs)) ∙ fold-roll-Form ℕ nodes_step (layer.Items fs)

pub nodes_number : (n : ℤ) → nodes (Number n) ≡ 1
nodes_number n = ap nodes (sym (rolls-Number n)) ∙ fold-roll-Form ℕ nodes_step (layer.Number n)

pub nodes_symbol : (s : List ℕ) → nodes (Symbol s) ≡ 1
nodes_symbol s = ap nodes (sym (rolls-Symbol s)) ∙ fold-roll-Form ℕ nodes_step (layer.Symbol s)

pub nodes_string : (s : List ℕ) → nodes (Str s) ≡ 1
nodes_string s = ap nodes (sym (rolls-Str s)) ∙ fold-roll-Form ℕ nodes_step (layer.Str s)

pub nodes_flag : (b : Bool) → nodes (Flag b) ≡ 1
nodes_flag b = ap nodes (sym (rolls-Flag b)) ∙ fold-roll-Form ℕ nodes_step (layer.Flag b)

pub lists_number : (n : ℤ) → lists (Number n) ≡ 0
lists_number n = ap lists (sym (rolls-Number n)) ∙ fold-roll-Form ℕ lists_step (layer.Number n)

pub lists_symbol : (s : List ℕ) → lists (Symbol s) ≡ 0
lists_symbol s = ap lists (sym (rolls-Symbol s)) ∙ fold-roll-Form ℕ lists_step (layer.Symbol s)

pub lists_string : (s : List ℕ) → lists (Str s) ≡ 0
lists_string s = ap lists (sym (rolls-Str s)) ∙ fold-roll-Form ℕ lists_step (layer.Str s)

pub lists_flag : (b : Bool) → lists (Flag b) ≡ 0
lists_flag b = ap lists (sym (rolls-Flag b)) ∙ fold-roll-Form ℕ lists_step (layer.Flag b)

pub ruleset value_rules = (common_steps, outs-Number, outs-Symbol, outs-Str, outs-Flag, outs-Items, nodes_items, lists_items, nodes_number, nodes_symbol, nodes_string, nodes_flag, lists_number, lists_symbol, lists_string, lists_flag)
