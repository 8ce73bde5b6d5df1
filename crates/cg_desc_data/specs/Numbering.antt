-- The numbers of a machine's elements: each kind is numbered from 0 in the order of the description, what is built in first.
use Rattle.std.specs.Prelude.{◌≡◌, ℕ, ◌+◌, min, if◌then◌else◌, List, [], ◌∷◌, map, ◌++◌, Option, Some, None}
use Rattle.std.specs.Option.{option_or, option_map}
use Rattle.cg_base.specs.Texts.{same_text}
use Rattle.cg_ifield.specs.declared.form.PlainForm.{PlainForm}
use Rattle.cg_ifield.specs.declared.form.MultiForm.{MultiForm}
use Rattle.cg_ifield.specs.declared.form.FieldForm.TheVariants as field
use Rattle.cg_hw.specs.declared.form.HardwareForm.{HardwareForm}
use Rattle.cg_operand.specs.declared.form.PlainOperandForm.{PlainOperandForm}
use Rattle.cg_operand.specs.declared.form.OperandForm.TheVariants as operand
use Rattle.cg_desc_elements.specs.declared.element.Element.{Element}
use Rattle.cg_desc_elements.specs.declared.element.Element.TheVariants as element
use Rattle.cg_rtl_resolve.specs.Names.{place_of}
use Rattle.cg_desc_names.specs.Table.{built_in_hardware}
use Rattle.cg_desc_data.specs.Selecting.{Selection, members}

abbrev pub field_in : Element → Option PlainForm
field_in (element.Field (field.Plain form)) = Some form
field_in _ = None

abbrev pub multi_in : Element → Option MultiForm
multi_in (element.Field (field.Multi form)) = Some form
multi_in _ = None

abbrev pub hardware_in : Element → Option HardwareForm
hardware_in (element.Hardware form) = Some form
hardware_in _ = None

abbrev pub operand_in : Element → Option PlainOperandForm
operand_in (element.Operand (operand.Plain form)) = Some form
operand_in _ = None

-- The names of each kind, in the order of their numbers.
abbrev pub field_names : Selection → List (List ℕ)
field_names s = map (λ form. form.name) (members s field_in)

abbrev pub multi_names : Selection → List (List ℕ)
multi_names s = map (λ form. form.name) (members s multi_in)

abbrev pub hardware_names : Selection → List (List ℕ)
hardware_names s = built_in_hardware ++ map (λ form. form.name) (members s hardware_in)

abbrev pub operand_names : Selection → List (List ℕ)
operand_names s = map (λ form. form.name) (members s operand_in)

-- The number of a name is that of the first that has it. Numbers go up to 65,535. A machine has at most 1,024 of a kind, so a description
-- with more is refused.
abbrev pub short : ℕ → ℕ
short n = min n 65535

abbrev pub Numbering : Type 0
Numbering = List ℕ → Option ℕ

abbrev pub numbered : List (List ℕ) → Numbering
numbered names name = option_map short (place_of name names)

-- the same, counted: what a name says that has this number, and the first of names that are numbered from `number` on
abbrev pub at_name : List ℕ → ℕ → List ℕ → Option ℕ
at_name own number name = if same_text own name then Some number else None

abbrev pub numbered_from : ℕ → List ℕ → List (List ℕ) → Option ℕ
numbered_from number name [] = None
numbered_from number name (x ∷ xs) = option_or (at_name x (short number) name) (numbered_from (number + 1) name xs)

-- what is kept of names is their numbers
unfoldable pub Keeps : List (List ℕ) → Numbering → Type 0
Keeps names held = (name : List ℕ) → held name ≡ numbered_from 0 name names

-- The numbers of names by their kinds.
pub record Numbers : Type 0 where
  pub fields : Numbering
  pub multis : Numbering
  pub hardware : Numbering

abbrev pub numbers : Selection → Numbers
numbers s = record { fields = numbered (field_names s); multis = numbered (multi_names s); hardware = numbered (hardware_names s) }
