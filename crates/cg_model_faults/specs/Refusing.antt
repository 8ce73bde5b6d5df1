-- How a machine in hand is refused: its elements in the order of a table file, first by their data and then by the modes of their
-- expressions; and last for its first two instructions that clash.
use Rattle.std.specs.Prelude.{◌≡◌, ℕ, suc, ◌+◌, List, [], ◌∷◌, ◌++◌, pos, Option, Some, None, slice_get, codes}
use Rattle.std.specs.Fmt.{signed_decimal}
use Rattle.cg_base.specs.Faults.{hex_byte}
use Rattle.cg_base.specs.Modes.{mode_word}
use Rattle.cg_base.specs.declared.refusal.Refusal.{Refusal}
use Rattle.cg_model.specs.Clashing.{FirstClash, NoClash}
use Rattle.cg_model_faults.specs.Finding.{Faults}
use Rattle.cg_model_faults.specs.E308.{field_nodes, multi_nodes, hardware_nodes, insn_nodes, all_field_nodes, all_multi_nodes, all_hardware_nodes}
use Rattle.cg_model_faults.specs.Elements.{of_bundle, of_field, of_multi, of_hardware, of_operand, of_insn, of_macro, of_texts, field_modes, multi_modes, hardware_modes, insn_modes}
use Rattle.cg_model_faults.specs.declared.fault.MachineFault.{MachineFault}
use Rattle.cg_model_faults.specs.declared.fault.Said.{Said}
use Rattle.cg_model_faults.specs.declared.fault.Said.TheVariants as said
use Rattle.cg_model.specs.declared.field.Field.{Field}
use Rattle.cg_model.specs.declared.field.Multi.{Multi}
use Rattle.cg_model.specs.declared.hardware.Hardware.{Hardware}
use Rattle.cg_model.specs.declared.insn.Insn.{Insn}
use Rattle.cg_model.specs.declared.insn.MacroInsn.{MacroInsn}
use Rattle.cg_model.specs.declared.machine.Machine.{Machine}
use Rattle.cg_model.specs.declared.operand.Operand.{Operand}
use Rattle.cg_model.specs.declared.rtl.Op.{Op}
use Rattle.cg_model.specs.declared.rtl.Op.TheVariants as op

-- By which name a rule names its value, its index and its new value.
abbrev pub own_name : Op → List ℕ
own_name op.Value = codes "value"
own_name op.Index = codes "index"
own_name op.NewVal = codes "newval"
own_name _ = []

abbrev pub name_where : {A : Type 0} → (A → List ℕ) → Option A → List ℕ
name_where name None = []
name_where name (Some x) = name x

abbrev pub field_name : Machine → ℕ → List ℕ
field_name m k = name_where (λ f. f.name) (slice_get m.fields k)

-- Two texts, a blank between.
abbrev pub spaced : List ℕ → List ℕ → List ℕ
spaced a b = a ++ 32 ∷ b

-- What a text of a refusal says of an element that has this name.
abbrev pub said_text : Machine → List ℕ → Said → List ℕ
said_text m own said.Nothing = []
said_text m own said.Own = own
said_text m own (said.Field k) = field_name m k
said_text m own (said.Fields j k) = spaced (field_name m j) (field_name m k)
said_text m own (said.Multi k) = name_where (λ x. x.name) (slice_get m.multis k)
said_text m own (said.Hardware k) = name_where (λ h. h.name) (slice_get m.hardware k)
said_text m own (said.Operand k) = name_where (λ o. o.name) (slice_get m.operands k)
said_text m own (said.Count n) = signed_decimal (pos n)
said_text m own (said.Number n) = signed_decimal n
said_text m own (said.Modes k l) = spaced (mode_word k) (mode_word l)
said_text m own (said.Name o) = own_name o

-- An element's name, and what is wrong with it.
abbrev pub Found : Type 0
Found = List ℕ × Faults

-- By their data, each kind of elements from the one on that so many stand before.
abbrev pub of_fields : Machine → ℕ → ℕ → List Field → List Found
of_fields m before spent [] = []
of_fields m before spent (f ∷ fs) = (f.name, of_field m before spent f) ∷ of_fields m (suc before) (spent + field_nodes f) fs

abbrev pub of_multis : Machine → ℕ → ℕ → List Multi → List Found
of_multis m before spent [] = []
of_multis m before spent (x ∷ xs) = (x.name, of_multi m before spent x) ∷ of_multis m (suc before) (spent + multi_nodes x) xs

abbrev pub of_all_hardware : Machine → ℕ → ℕ → ℕ → List Hardware → List Found
of_all_hardware m before cells spent [] = []
of_all_hardware m before cells spent (h ∷ hs) =
    (h.name, of_hardware m before cells spent h) ∷ of_all_hardware m (suc before) (cells + h.count) (spent + hardware_nodes h) hs

abbrev pub of_operands : Machine → ℕ → List Operand → List Found
of_operands m before [] = []
of_operands m before (o ∷ os) = (o.name, of_operand m before o) ∷ of_operands m (suc before) os

abbrev pub of_insns : Machine → ℕ → ℕ → List Insn → List Found
of_insns m before spent [] = []
of_insns m before spent (i ∷ is) = (i.name, of_insn m before spent i) ∷ of_insns m (suc before) (spent + insn_nodes i) is

abbrev pub of_macros : Machine → ℕ → List MacroInsn → List Found
of_macros m before [] = []
of_macros m before (x ∷ xs) = (x.name, of_macro m before x) ∷ of_macros m (suc before) xs

abbrev pub spent_on_fields : Machine → ℕ
spent_on_fields m = all_field_nodes m.fields

abbrev pub spent_on_multis : Machine → ℕ
spent_on_multis m = spent_on_fields m + all_multi_nodes m.multis

abbrev pub spent_on_hardware : Machine → ℕ
spent_on_hardware m = spent_on_multis m + all_hardware_nodes m.hardware

abbrev pub by_data : Machine → List Found
by_data m =
    ([], of_bundle m)
    ∷ of_fields m 0 0 m.fields
    ++ of_multis m 0 (spent_on_fields m) m.multis
    ++ of_all_hardware m 0 0 (spent_on_multis m) m.hardware
    ++ of_operands m 0 m.operands
    ++ of_insns m 0 (spent_on_hardware m) m.insns
    ++ of_macros m 0 m.macros
    ++ ([], of_texts m) ∷ []

-- By the modes of their expressions.
abbrev pub of_field_modes : Machine → List Field → List Found
of_field_modes m [] = []
of_field_modes m (f ∷ fs) = (f.name, field_modes m f) ∷ of_field_modes m fs

abbrev pub of_multi_modes : Machine → List Multi → List Found
of_multi_modes m [] = []
of_multi_modes m (x ∷ xs) = (x.name, multi_modes m x) ∷ of_multi_modes m xs

abbrev pub of_hardware_modes : Machine → List Hardware → List Found
of_hardware_modes m [] = []
of_hardware_modes m (h ∷ hs) = (h.name, hardware_modes m h) ∷ of_hardware_modes m hs

abbrev pub of_insn_modes : Machine → List Insn → List Found
of_insn_modes m [] = []
of_insn_modes m (i ∷ is) = (i.name, insn_modes m i) ∷ of_insn_modes m is

abbrev pub by_modes : Machine → List Found
by_modes m = of_field_modes m m.fields ++ of_multi_modes m m.multis ++ of_hardware_modes m m.hardware ++ of_insn_modes m m.insns

-- A refusal of a machine in hand names no file and no line.
abbrev pub refused_for : Machine → List ℕ → MachineFault → Refusal
refused_for m own f = record { number = f.number; file = 0; line = 0; text = said_text m own f.text; other = said_text m own f.other }

-- The first fault of the first element that has one.
abbrev pub first_found : Machine → List Found → Option Refusal
first_found m [] = None
first_found m ((own, []) ∷ xs) = first_found m xs
first_found m ((own, f ∷ fs) ∷ xs) = Some (refused_for m own f)

abbrev pub first_refusal : Machine → Option Refusal
first_refusal m = first_found m (by_data m ++ by_modes m)

abbrev pub hex_bytes : List ℕ → List ℕ
hex_bytes [] = []
hex_bytes (b ∷ bs) = hex_byte b ++ hex_bytes bs

abbrev pub insn_name : Machine → ℕ → List ℕ
insn_name m k = name_where (λ i. i.name) (slice_get m.insns k)

-- E501: the first of two that clash; the second and the bytes.
abbrev pub clash_refusal : Machine → ℕ → ℕ → List ℕ → Refusal
clash_refusal m i j bytes = record { number = 501; file = 0; line = 0; text = insn_name m i; other = spaced (insn_name m j) (hex_bytes bytes) }

-- A machine is refused so.
pub data Refuses (m : Machine) (r : Refusal) : Type 0 where
  by_element : first_refusal m ≡ Some r → Refuses m r
  by_clash : first_refusal m ≡ None → (i j : ℕ) (bytes : List ℕ) → FirstClash m i j bytes → r ≡ clash_refusal m i j bytes → Refuses m r

-- It is refused for nothing.
pub record IsFaultless (m : Machine) : Type 0 where
  pub elements : first_refusal m ≡ None
  pub no_clash : NoClash m
