-- The values of an instruction's slots, and what names of operands and fields give by them.
use Rattle.std.specs.Prelude.{ℕ, ◌%◌, ◌^◌, Bool, false, ◌==◌, if◌then◌else◌, List, [], ◌∷◌, map, ℤ, pos, negsuc, Option, Some, None, slice_get}
use Rattle.cg_base.specs.declared.Mode.{Mode}
use Rattle.cg_base.specs.declared.Mode.TheVariants.{Usi, Void}
use Rattle.cg_base.specs.Modes.{bits_of}
use Rattle.cg_base.specs.Operations.{converted}
use Rattle.cg_model.specs.Fields.{decoded, field_value, multi_value}
use Rattle.cg_model.specs.Placed.{is_register}
use Rattle.cg_model.specs.declared.field.Field.{Field}
use Rattle.cg_model.specs.declared.field.Multi.{Multi}
use Rattle.cg_model.specs.declared.insn.Insn.{Insn}
use Rattle.cg_model.specs.declared.insn.Part.{Part}
use Rattle.cg_model.specs.declared.insn.Part.TheVariants.{Constant, Slot}
use Rattle.cg_model.specs.declared.machine.Machine.{Machine}
use Rattle.cg_model.specs.declared.operand.Operand.{Operand}
use Rattle.cg_model.specs.declared.operand.Source.{Source}
use Rattle.cg_model.specs.declared.operand.Source.TheVariants as source

-- The mode of an operand's value: that of its hardware, but on a register the value is an index, and its mode is UINT.
abbrev pub slot_mode : Machine → Operand → Mode
slot_mode m o = elim (slice_get m.hardware o.hardware) [ None ↦ Void | Some h ↦ if is_register h.kind then Usi else h.mode ]

-- The value of an operand that has no field: its fixed number in its mode, or 0.
abbrev pub fixed_value : Machine → Operand → ℕ
fixed_value m o = elim o.source [ source.Fixed n ↦ n % 2 ^ bits_of (slot_mode m o) | _ ↦ 0 ]

-- The value that a field has in some mode, where there is such a field.
abbrev pub field_as : Machine → Mode → ℕ → ℕ → ℕ
field_as m mode k value = elim (slice_get m.fields k) [ None ↦ 0 | Some f ↦ converted f.mode mode value ]

abbrev pub multi_as : Machine → Mode → ℕ → ℕ → ℕ
multi_as m mode k value = elim (slice_get m.multis k) [ None ↦ 0 | Some x ↦ converted x.mode mode value ]

-- The value of an operand in bytes: that of its field or multi field, converted to the operand's mode.
abbrev pub source_value : Machine → List ℕ → ℕ → Operand → ℕ
source_value m bytes pc o = elim o.source [
  | source.Field k ↦ field_as m (slot_mode m o) k (field_value m bytes pc (pos k))
  | source.Multi k ↦ multi_as m (slot_mode m o) k (multi_value m bytes pc (pos k))
  | _ ↦ fixed_value m o
]

-- A slot of a format: the number of its operand, the operand, and the slot's value.
pub record Filled : Type 0 where
  pub number : ℕ
  pub operand : Operand
  pub value : ℕ

-- The slots of a format, with these values in order.
abbrev pub filled : Machine → List Part → List ℕ → List Filled
filled m [] vs = []
filled m (Constant k c ∷ ps) vs = filled m ps vs
filled m (Slot o ∷ ps) [] = []
filled m (Slot o ∷ ps) (v ∷ vs) = elim (slice_get m.operands o) [ None ↦ filled m ps vs | Some x ↦ record { number = o; operand = x; value = v } ∷ filled m ps vs ]

-- The operands of a format's slots, in order.
abbrev pub slots_of : Machine → List Part → List Operand
slots_of m [] = []
slots_of m (Constant k c ∷ ps) = slots_of m ps
slots_of m (Slot o ∷ ps) = elim (slice_get m.operands o) [ None ↦ slots_of m ps | Some x ↦ x ∷ slots_of m ps ]

-- The values of an instruction's slots in bytes that are decoded at this pc.
abbrev pub values : Machine → Insn → List ℕ → ℕ → List ℕ
values m i bytes pc = map (source_value m bytes pc) (slots_of m i.parts)

-- The value of the slot of an operand.
abbrev pub value_of : List Filled → ℕ → ℕ
value_of [] o = 0
value_of (x ∷ xs) o = if x.number == o then x.value else value_of xs o

-- The value of an operand: what its slot holds, where it has a field or multi field, and else its fixed number or 0.
abbrev pub operand_value : Machine → List Filled → ℕ → Operand → ℕ
operand_value m xs k o = elim o.source [ source.Field f ↦ value_of xs k | source.Multi f ↦ value_of xs k | _ ↦ fixed_value m o ]

abbrev pub is_field : ℕ → Source → Bool
is_field k (source.Field f) = f == k
is_field k _ = false

abbrev pub is_multi : ℕ → Source → Bool
is_multi k (source.Multi f) = f == k
is_multi k _ = false

-- The first slot whose operand has such a source.
abbrev pub sourced : (Source → Bool) → List Filled → Option Filled
sourced f [] = None
sourced f (x ∷ xs) = if f x.operand.source then Some x else sourced f xs

-- A slot's value in the mode of its field or multi field.
abbrev pub turned : Machine → Mode → Filled → ℕ
turned m mode x = converted (slot_mode m x.operand) mode x.value

-- The constant of a field in a format.
abbrev pub constant_of : List Part → ℕ → ℕ
constant_of [] k = 0
constant_of (Constant f c ∷ ps) k = if f == k then c else constant_of ps k
constant_of (Slot o ∷ ps) k = constant_of ps k

-- What a field of a format is: the value of its slot, or its constant, decoded at the instruction's own address.
abbrev pub format_field : Machine → ℕ → List Part → List Filled → ℕ → Field → ℕ
format_field m at parts xs k f = elim (sourced (is_field k) xs) [ Some x ↦ turned m f.mode x | None ↦ decoded m f at (constant_of parts k) ]

abbrev pub format_multi : Machine → List Filled → ℕ → Multi → ℕ
format_multi m xs k f = elim (sourced (is_multi k) xs) [ Some x ↦ turned m f.mode x | None ↦ 0 ]

-- What the names in semantics give: operands, fields and multi fields by their numbers; and in a get or set rule its index and
-- its new value.
pub record Named : Type 0 where
  pub operand : ℕ → Operand → ℕ
  pub field : ℤ → ℕ
  pub multi : ℤ → ℕ
  pub index : ℕ
  pub new : ℕ

abbrev pub named_field : Machine → ℕ → List Part → List Filled → ℤ → ℕ
named_field m at parts xs (pos k) = elim (slice_get m.fields k) [ None ↦ 0 | Some f ↦ format_field m at parts xs k f ]
named_field m at parts xs (negsuc k) = 0

abbrev pub named_multi : Machine → List Filled → ℤ → ℕ
named_multi m xs (pos k) = elim (slice_get m.multis k) [ None ↦ 0 | Some f ↦ format_multi m xs k f ]
named_multi m xs (negsuc k) = 0

-- In the semantics of an instruction at an address, with these values of its slots.
abbrev pub in_semantics : Machine → Insn → List ℕ → ℕ → Named
in_semantics m i vs at = record {
  operand = operand_value m (filled m i.parts vs);
  field = named_field m at i.parts (filled m i.parts vs);
  multi = named_multi m (filled m i.parts vs);
  index = 0;
  new = 0;
}

-- In a get or set rule. It names no operand that has a field, and no field.
abbrev pub in_rule : Machine → ℕ → ℕ → Named
in_rule m index new = record { operand = operand_value m []; field = λ k. 0; multi = λ k. 0; index = index; new = new }
