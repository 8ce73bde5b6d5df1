-- The bytes of a statement that stands alone.
use Rattle.std.specs.Prelude.{ℕ, Bool, if◌then◌else◌, List, [], ◌∷◌, ◌++◌, Option, Some, None, Result, Ok, Err}
use Rattle.cg_base.specs.Refusing.{first}
use Rattle.cg_model_source.specs.Bundling.{BundlePart, stands, parts_at, instruction_bytes}
use Rattle.cg_model_source.specs.Choosing.{SourceFault, alone, known_all}
use Rattle.cg_model_source.specs.Lining.{Statement, nothing, directive, bundle, is_readable, read_line}
use Rattle.cg_model_source.specs.Sourcing.{is_more}
use Rattle.cg_model_source.specs.Spelling.{keywords}
use Rattle.cg_model.specs.declared.machine.Machine.{Machine}
use Rattle.cg_model_source.specs.E601.{unknown_parts}
use Rattle.cg_model_source.specs.E602.{unfit_parts}
use Rattle.cg_model_source.specs.E604.{undefined_sums}
use Rattle.cg_model_source.specs.E608.{malformed_line, empty_parts}
use Rattle.cg_model_source.specs.E609.{too_wide}

-- E604: it defines a label, or names one. None is defined outside of it.
abbrev pub defined_label : Option (List ℕ) → List SourceFault
defined_label None = []
defined_label (Some name) = alone 604 name ∷ []

abbrev pub named_labels : BundlePart → List SourceFault
named_labels (stands address c) = undefined_sums [] c.sums
named_labels _ = []

abbrev pub all_named_labels : List BundlePart → List SourceFault
all_named_labels [] = []
all_named_labels (p ∷ ps) = named_labels p ++ all_named_labels ps

-- What is wrong with the parts of a statement, by number and then from left to right.
abbrev pub statement_faults : Machine → Option (List ℕ) → List BundlePart → List SourceFault
statement_faults m label ps = unknown_parts ps ++ unfit_parts ps ++ defined_label label ++ all_named_labels ps ++ empty_parts ps ++ too_wide m.width ps

abbrev pub part_bytes : Machine → BundlePart → Bool → List ℕ
part_bytes m (stands address c) more = instruction_bytes m more address c (known_all c.sums)
part_bytes m _ more = []

abbrev pub parts_bytes : Machine → List BundlePart → List ℕ
parts_bytes m [] = []
parts_bytes m (p ∷ ps) = part_bytes m p (is_more ps) ++ parts_bytes m ps

abbrev pub unless_at_fault : Option SourceFault → List ℕ → Result (List ℕ) SourceFault
unless_at_fault None bytes = Ok bytes
unless_at_fault (Some fault) bytes = Err fault

abbrev pub stated_parts : Machine → Option (List ℕ) → List BundlePart → Result (List ℕ) SourceFault
stated_parts m label ps = unless_at_fault (first (statement_faults m label ps)) (parts_bytes m ps)

abbrev pub stated_line : Machine → ℕ → Option (List ℕ) → Statement → Result (List ℕ) SourceFault
stated_line m pc label nothing = stated_parts m label []
stated_line m pc label (directive name rest) = Err (alone 608 name)
stated_line m pc label (bundle texts) = stated_parts m label (parts_at m (keywords m) pc texts)

-- The bytes of a statement at a pc.
unfoldable pub stated : Machine → ℕ → List ℕ → Result (List ℕ) SourceFault
stated m pc text = if is_readable 3800 text then stated_line m pc (read_line text).label (read_line text).statement else Err malformed_line
