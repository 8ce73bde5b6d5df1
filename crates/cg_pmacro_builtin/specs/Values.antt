-- The form that a value is.
use Rattle.cg_base.specs.declared.form.Form.{Form}
use Rattle.cg_base.specs.declared.form.Form.TheVariants as form
use Rattle.cg_pmacro_builtin.specs.declared.value.Node.{Node}
use Rattle.cg_pmacro_builtin.specs.declared.value.Node.TheVariants.{Number, Symbol, Str, Flag, Items}

-- its kind with its content, wherever that lies
abbrev pub form_of : Node → Form
form_of (Number n) = form.Number n
form_of (Symbol s) = form.Symbol s.value
form_of (Str s) = form.Str s.value
form_of (Flag b) = form.Flag b
form_of (Items d fs) = form.Items fs.value
