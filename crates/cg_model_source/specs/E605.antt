-- E605: with the addresses of its labels a sum is out of range, in an instruction or a directive, or only the assertion fails.
use Rattle.std.specs.Prelude.{List, [], ◌∷◌, ◌++◌, ℤ, Option, Some, None, unwrap_or}
use Rattle.cg_model_source.specs.Choosing.{Objection, objection, SourceFault, said_as}
use Rattle.cg_model_source.specs.Sourcing.{Label, address_of, Item, bytes, gap, datum, instruction}
use Rattle.cg_model_source.specs.Spelling.{sum_value}
use Rattle.cg_model.specs.declared.machine.Machine.{Machine}
use Rattle.cg_model_source.specs.declared.written.Sum.{Sum}
use Rattle.cg_model_source.specs.E602.{unfit_number}

-- The number of a sum, with the labels' addresses. One that isn't defined counts 0; it is refused by itself.
abbrev pub number_with : List Label → Sum → ℤ
number_with labels s = sum_value (λ name. unwrap_or (address_of labels name) 0) s

abbrev pub numbers_with : List Label → List Sum → List (Option ℤ)
numbers_with labels [] = []
numbers_with labels (s ∷ ss) = Some (number_with labels s) ∷ numbers_with labels ss

abbrev pub objected : Option Objection → List SourceFault
objected None = []
objected (Some o) = said_as 605 o ∷ []

abbrev pub unfit_item : Machine → List Label → Item → List SourceFault
unfit_item m labels (bytes t) = []
unfit_item m labels (gap n) = []
unfit_item m labels (datum name width s) = unfit_number 605 name width (number_with labels s)
unfit_item m labels (instruction address c more) = objected (objection m c.insn (numbers_with labels c.sums) address)

abbrev pub unfit_items : Machine → List Label → List Item → List SourceFault
unfit_items m labels [] = []
unfit_items m labels (x ∷ xs) = unfit_item m labels x ++ unfit_items m labels xs
