use Rattle.std.proofs.Common.{◌≡◌, ◌++◌, drop}
use Rattle.cg_desc_choices.proofs.putting.each_alone.Given as goal

-- what stands and what is left are the whole
abbrev pub invariant-loop-form : goal.invariant-loop-form
invariant-loop-form l = l.list ++ drop l.form-index l.forms ≡ l.initial.list ++ l.forms
