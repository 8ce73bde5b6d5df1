-- What each kind of form expands to.
use Rattle.std.proofs.Common.{◌≡◌, ℕ, Bool, ℤ, List, [], false, Ok, ap, ◌∙◌}
use Rattle.std.proofs.lemmas.Grind.{common_steps}
use Rattle.cg_base.specs.declared.form.Form.{Form}
use Rattle.cg_base.specs.declared.form.Form.TheVariants as form
use Rattle.cg_pmacro_builtin.specs.declared.body.Body.{Body}
use Rattle.cg_pmacro_builtin.specs.declared.body.Body.TheOpen.{Body-F}
use Rattle.cg_pmacro_builtin.specs.declared.body.Body.TheViews.{outs-Quoted, outs-Number, outs-Symbol, outs-Str, outs-Flag, outs-Items}
use Rattle.cg_pmacro_builtin.specs.declared.body.Body.TheVariants.{Quoted, Number, Symbol, Str, Flag, Items}
use Rattle.cg_pmacro_builtin.specs.declared.body.Macro.{Macro}
use Rattle.cg_pmacro_expand.specs.Expansion.{layer_kind, symbol_kind, list_kind, expanded}
use Rattle.cg_pmacro_expand.specs.Steps.{at_depth}
use Rattle.cg_pmacro_expand.proofs.Rules.{expanded_out, at_leaf, symbol_anywhere}

pub expanded_quoted : (macros : List Macro) (k : ℕ) (inner : List ℕ) (spliced : Bool) (f : Form) (left : ℕ) → expanded macros k inner spliced (Quoted f) left ≡ Ok (f, left)
expanded_quoted macros k inner spliced f left = expanded_out macros k inner spliced (Quoted f) left ∙ ap (λ (x : Body-F Body). at_depth macros k inner spliced (layer_kind macros x) left) (outs-Quoted f) ∙ at_leaf macros k inner spliced f left

pub expanded_number : (macros : List Macro) (k : ℕ) (inner : List ℕ) (spliced : Bool) (n : ℤ) (left : ℕ) → expanded macros k inner spliced (Number n) left ≡ Ok (form.Number n, left)
expanded_number macros k inner spliced n left = expanded_out macros k inner spliced (Number n) left ∙ ap (λ (x : Body-F Body). at_depth macros k inner spliced (layer_kind macros x) left) (outs-Number n) ∙ at_leaf macros k inner spliced (form.Number n) left

pub expanded_symbol : (macros : List Macro) (k : ℕ) (inner : List ℕ) (spliced : Bool) (s : List ℕ) (left : ℕ) → expanded macros k inner spliced (Symbol s) left ≡ at_depth macros k [] false (symbol_kind macros s) left
expanded_symbol macros k inner spliced s left = expanded_out macros k inner spliced (Symbol s) left ∙ ap (λ (x : Body-F Body). at_depth macros k inner spliced (layer_kind macros x) left) (outs-Symbol s) ∙ symbol_anywhere macros k inner spliced s left

pub expanded_string : (macros : List Macro) (k : ℕ) (inner : List ℕ) (spliced : Bool) (s : List ℕ) (left : ℕ) → expanded macros k inner spliced (Str s) left ≡ Ok (form.Str s, left)
expanded_string macros k inner spliced s left = expanded_out macros k inner spliced (Str s) left ∙ ap (λ (x : Body-F Body). at_depth macros k inner spliced (layer_kind macros x) left) (outs-Str s) ∙ at_leaf macros k inner spliced (form.Str s) left

pub expanded_flag : (macros : List Macro) (k : ℕ) (inner : List ℕ) (spliced : Bool) (b : Bool) (left : ℕ) → expanded macros k inner spliced (Flag b) left ≡ Ok (form.Flag b, left)
expanded_flag macros k inner spliced b left = expanded_out macros k inner spliced (Flag b) left ∙ ap (λ (x : Body-F Body). at_depth macros k inner spliced (layer_kind macros x) left) (outs-Flag b) ∙ at_leaf macros k inner spliced (form.Flag b) left

pub expanded_items : (macros : List Macro) (k : ℕ) (inner : List ℕ) (spliced : Bool) (bs : List Body) (left : ℕ) → expanded macros k inner spliced (Items bs) left ≡ at_depth macros k inner spliced (list_kind macros bs) left
expanded_items macros k inner spliced bs left = expanded_out macros k inner spliced (Items bs) left ∙ ap (λ (x : Body-F Body). at_depth macros k inner spliced (layer_kind macros x) left) (outs-Items bs)

pub ruleset expand_rules = (common_steps, expanded_quoted, expanded_number, expanded_symbol, expanded_string, expanded_flag, expanded_items)
