use Rattle.std.proofs.Common.{◌≡◌, ◌++◌, drop}
use Rattle.std.specs.List.{filter_map}
use Rattle.cg_base.specs.Parts.{symbol_of}
use Rattle.cg_operand.proofs.read.texts.Given as goal

-- the texts so far, with those of what is left, are those of the whole
abbrev pub invariant-loop-form : goal.invariant-loop-form
invariant-loop-form l = l.texts ++ filter_map symbol_of (drop l.form-index l.forms) ≡ filter_map symbol_of l.forms
