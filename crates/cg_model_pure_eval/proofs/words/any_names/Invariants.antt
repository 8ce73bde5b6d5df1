use Rattle.std.proofs.Common.{◌≡◌, drop}
use Rattle.std.specs.List.{list_any}
use Rattle.cg_base.specs.Modes.{bits_of}
use Rattle.cg_model.specs.Values.{names_value}
use Rattle.cg_model_pure_eval.proofs.words.any_names.Given as goal

abbrev pub invariant-loop-test : goal.invariant-loop-test
invariant-loop-test l = list_any (names_value (bits_of l.a.mode) l.a.value) (drop l.test-index l.tests) ≡ list_any (names_value (bits_of l.a.mode) l.a.value) l.tests
