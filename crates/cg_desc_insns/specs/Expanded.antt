-- The instructions of a description: those that take part, each with anyof operands replaced by one for each way to choose.
use Rattle.std.specs.Prelude.{ℕ, ◌+◌, if◌then◌else◌, List, [], ◌∷◌, ◌++◌, Option}
use Rattle.cg_insn.specs.declared.form.InsnForm.TheVariants.{Instruction}
use Rattle.cg_desc_elements.specs.declared.element.Element.{Element}
use Rattle.cg_desc_elements.specs.declared.element.Element.TheVariants.{Insn}
use Rattle.cg_desc_elements.specs.Belonging.{takes_part}
use Rattle.cg_desc_names.specs.Table.{Table}
use Rattle.cg_desc_choices.specs.declared.written.Written.{Written}
use Rattle.cg_desc_choices.specs.Ways.{each_choice}
use Rattle.cg_desc_insns.specs.Written.{written_of}
use Rattle.cg_desc_insns.specs.Choices.{anyofs_of}

-- The instructions that one, as it is written, becomes.
abbrev pub choices_put : Table → List Element → Written → List Written
choices_put at es w = each_choice (anyofs_of at es w.parts) w

-- Those that the form of this number says.
abbrev pub instructions_in : Table → List Element → ℕ → Element → List Written
instructions_in at es form (Insn (Instruction i)) = choices_put at es (written_of at es form i)
instructions_in at es form _ = []

-- Those that the form gives where its element takes part.
abbrev pub instructions_at : Table → List ℕ → Option (List ℕ) → List Element → ℕ → Element → List Written
instructions_at at machine isa es form e = if takes_part machine isa e then instructions_in at es form e else []

-- Those of these forms, which are numbered from `form` on.
abbrev pub expanded_from : Table → List ℕ → Option (List ℕ) → List Element → ℕ → List Element → List Written
expanded_from at machine isa es form [] = []
expanded_from at machine isa es form (e ∷ rest) =
    instructions_at at machine isa es form e ++ expanded_from at machine isa es (form + 1) rest

-- All instructions of a description, in its order, among the names that the machine knows. Forms are numbered from 1.
unfoldable pub expanded : Table → List ℕ → Option (List ℕ) → List Element → List Written
expanded at machine isa es = expanded_from at machine isa es 1 es
