-- How built-in macros are called, and what a result would cost: what private functions say of it. The meaning of expansion doesn't need it.
use Rattle.std.specs.Prelude.{ℕ, ◌+◌, nat_lt, Bool, true, false, Ok, Err, codes, if◌then◌else◌}
use Rattle.cg_base.specs.declared.form.Form.{Form}
use Rattle.cg_pmacro_builtin.specs.declared.built_in.BuiltIn.{BuiltIn}
use Rattle.cg_pmacro_builtin.specs.declared.built_in.BuiltIn.TheVariants as own
use Rattle.cg_pmacro_builtin.specs.declared.built_in.Manner.{Manner}
use Rattle.cg_pmacro_builtin.specs.declared.built_in.Manner.TheVariants as way
use Rattle.cg_pmacro_builtin.specs.Outcome.{Answer}
use Rattle.cg_pmacro_builtin.specs.Sizes.{nodes}

-- an answer whose cost, were it charged, is not more than what is left
abbrev pub affordable : ℕ → Answer Form → Answer Form
affordable left (Ok f) = if nat_lt left (1 + nodes f) then Err (203, codes "4000000") else Ok f
affordable left (Err x) = Err x

-- how the code calls a built-in
abbrev pub manner : BuiltIn → Manner
manner own.If = way.Choice
manner own.Cond = way.Choice
manner own.Case = way.Choice
manner own.Let = way.Let
manner own.LetStar = way.LetStar
manner own.Pmacro = way.Pmacro
manner own.Map = way.Over
manner own.ForEach = way.Over
manner own.Apply = way.Over
manner own.Splice = way.Splice
manner own.Iota = way.Iota
manner _ = way.Ordinary

abbrev pub is_for_each : BuiltIn → Bool
is_for_each own.ForEach = true
is_for_each _ = false

abbrev pub is_apply : BuiltIn → Bool
is_apply own.Apply = true
is_apply _ = false
