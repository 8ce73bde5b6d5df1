-- E306, of a machine in hand: a number names nothing, or an expression names what can't be named where it stands.
use Rattle.std.specs.Prelude.{ℕ, ◌+◌, Bool, true, false, not, nat_lt, if◌then◌else◌, List, [], ◌∷◌, ◌++◌, length, ℤ, pos, negsuc, Option, Some, None, slice_get}
use Rattle.cg_model.specs.Matching.{fields_of_parts}
use Rattle.cg_model.specs.Operators.{at_number, unary_ops, binary_ops, ternary_ops}
use Rattle.cg_model_faults.specs.Finding.{Faults, at_place, where_so, stands_in, AtNode, in_nodes}
use Rattle.cg_model_faults.specs.E313.{slot_operands}
use Rattle.cg_model_faults.specs.declared.fault.Said.{Said}
use Rattle.cg_model_faults.specs.declared.fault.Said.TheVariants as said
use Rattle.cg_model.specs.declared.insn.Given.{Given}
use Rattle.cg_model.specs.declared.insn.Given.TheVariants as given
use Rattle.cg_model.specs.declared.insn.MacroInsn.{MacroInsn}
use Rattle.cg_model.specs.declared.insn.Part.{Part}
use Rattle.cg_model.specs.declared.insn.Part.TheVariants.{Constant, Slot}
use Rattle.cg_model.specs.declared.insn.Piece.{Piece}
use Rattle.cg_model.specs.declared.insn.Piece.TheVariants as piece
use Rattle.cg_model.specs.declared.machine.Machine.{Machine}
use Rattle.cg_model.specs.declared.operand.Operand.{Operand}
use Rattle.cg_model.specs.declared.operand.Source.{Source}
use Rattle.cg_model.specs.declared.operand.Source.TheVariants as source
use Rattle.cg_model.specs.declared.rtl.Op.{Op}
use Rattle.cg_model.specs.declared.rtl.Op.TheVariants as op
use Rattle.cg_model.specs.declared.rtl.Rtl.{Rtl}
use Rattle.cg_model.specs.declared.rtl.Rtl.TheOpen.{Rtl-F}
use Rattle.cg_model.specs.declared.rtl.Rtl.TheFolds.{fold-Rtl}

-- Numbers outside of expressions. A number of something of which there are so many; it stands at a place.
abbrev pub beyond : ℕ → ℕ → ℕ → Faults
beyond count place n = where_so (not (nat_lt n count)) (at_place 306 place (said.Count n) said.Nothing)

-- The numbers of fields, from a place on.
abbrev pub beyond_from : ℕ → ℕ → List ℕ → Faults
beyond_from count place [] = []
beyond_from count place (n ∷ ns) = beyond count place n ++ beyond_from count (place + 1) ns

abbrev pub no_bundle : Machine → Faults
no_bundle m = elim m.bundle [ None ↦ [] | Some k ↦ beyond (length m.fields) 0 k ]

abbrev pub no_subs : Machine → List ℕ → Faults
no_subs m subs = beyond_from (length m.fields) 0 subs

abbrev pub no_source : Machine → Source → Faults
no_source m (source.Field k) = beyond (length m.fields) 0 k
no_source m (source.Multi k) = beyond (length m.multis) 0 k
no_source m _ = []

abbrev pub of_operand : Machine → Operand → Faults
of_operand m o = beyond (length m.hardware) 0 o.hardware ++ no_source m o.source

-- The slots of a syntax, of which there are so many.
abbrev pub no_slot : ℕ → ℕ → Piece → Faults
no_slot slots place (piece.Literal text) = []
no_slot slots place (piece.Slot s) = beyond slots place s

abbrev pub no_slots : ℕ → ℕ → List Piece → Faults
no_slots slots place [] = []
no_slots slots place (p ∷ ps) = no_slot slots place p ++ no_slots slots (place + 1) ps

abbrev pub no_part : Machine → ℕ → Part → Faults
no_part m place (Constant k c) = beyond (length m.fields) place k
no_part m place (Slot o) = beyond (length m.operands) place o

abbrev pub no_parts : Machine → ℕ → List Part → Faults
no_parts m place [] = []
no_parts m place (p ∷ ps) = no_part m place p ++ no_parts m (place + 1) ps

-- Of an instruction's syntax and format.
abbrev pub of_shape : Machine → List Piece → List Part → Faults
of_shape m pieces parts = no_slots (length (slot_operands parts)) 0 pieces ++ no_parts m 0 parts

abbrev pub no_given : ℕ → ℕ → Given → Faults
no_given slots place (given.Number n) = []
no_given slots place (given.Slot s) = beyond slots place s

abbrev pub no_givens : ℕ → ℕ → List Given → Faults
no_givens slots place [] = []
no_givens slots place (g ∷ gs) = no_given slots place g ++ no_givens slots (place + 1) gs

abbrev pub of_macro : Machine → MacroInsn → Faults
of_macro m x = no_slots (length x.operands) 0 x.pieces ++ beyond_from (length m.operands) 0 x.operands ++ beyond (length m.insns) 0 x.target ++ no_givens (length x.operands) 0 x.given

-- Numbers in expressions. How many there are of what an operation names, inside of so many locals.
unfoldable pub count_of : Machine → ℕ → Op → Option ℕ
count_of m locals op.Local = Some locals
count_of m locals op.OperandRef = Some (length m.operands)
count_of m locals op.IndexOf = Some (length m.operands)
count_of m locals op.FieldRef = Some (length m.fields)
count_of m locals op.MultiRef = Some (length m.multis)
count_of m locals op.Reg = Some (length m.hardware)
count_of m locals op.RawReg = Some (length m.hardware)
count_of m locals op.Error = Some (length m.texts)
count_of m locals op.Unary = Some (length unary_ops)
count_of m locals op.Binary = Some (length binary_ops)
count_of m locals op.Ternary = Some (length ternary_ops)
count_of m locals _ = None

abbrev pub is_below : Option ℕ → ℤ → Bool
is_below None n = true
is_below (Some count) (pos n) = nat_lt n count
is_below (Some count) (negsuc n) = false

abbrev pub unnamed_at : Machine → ℕ → Op → ℤ → Faults
unnamed_at m locals o n = where_so (not (is_below (count_of m locals o) n)) (at_place 306 0 (said.Number n) said.Nothing)

-- A sequence declares as many locals as its number says.
unfoldable pub declared_by : Op → ℤ → ℕ
declared_by op.Sequence (pos n) = n
declared_by _ n = 0

abbrev pub Within : Type 0
Within = ℕ → Faults

abbrev pub each_within : ℕ → List Within → Faults
each_within locals [] = []
each_within locals (x ∷ xs) = x locals ++ each_within locals xs

abbrev pub unnamed_step : Machine → Rtl-F Within → Within
unnamed_step m f = λ locals. unnamed_at m locals f.op f.number ++ each_within (locals + declared_by f.op f.number) f.items

unfoldable pub unnamed_in : Machine → Rtl → Within
unnamed_in m rtl = fold-Rtl Within (unnamed_step m) rtl

-- Of an expression that stands alone, from left to right.
abbrev pub unnamed : Machine → Rtl → Faults
unnamed m rtl = unnamed_in m rtl 0

-- What an expression may name: fields, multi fields, and operands that have one of these.
pub record Nameable : Type 0 where
  pub fields : List ℕ
  pub multis : List ℕ
  pub operands : List ℕ

-- The fields of constants, and of slots that have a field.
abbrev pub field_of_source : Source → List ℕ
field_of_source (source.Field k) = k ∷ []
field_of_source _ = []

abbrev pub multi_of_source : Source → List ℕ
multi_of_source (source.Multi k) = k ∷ []
multi_of_source _ = []

abbrev pub by_operand : (Source → List ℕ) → Option Operand → List ℕ
by_operand f None = []
by_operand f (Some o) = f o.source

abbrev pub part_fields : Machine → Part → List ℕ
part_fields m (Constant k c) = k ∷ []
part_fields m (Slot o) = by_operand field_of_source (slice_get m.operands o)

abbrev pub part_multis : Machine → Part → List ℕ
part_multis m (Constant k c) = []
part_multis m (Slot o) = by_operand multi_of_source (slice_get m.operands o)

abbrev pub format_fields : Machine → List Part → List ℕ
format_fields m [] = []
format_fields m (p ∷ ps) = part_fields m p ++ format_fields m ps

abbrev pub format_multis : Machine → List Part → List ℕ
format_multis m [] = []
format_multis m (p ∷ ps) = part_multis m p ++ format_multis m ps

-- In semantics, in an assertion, and in a get or set rule.
abbrev pub in_semantics : Machine → List Part → Nameable
in_semantics m parts = record { fields = format_fields m parts; multis = format_multis m parts; operands = slot_operands parts }

abbrev pub in_assertion : Machine → List Part → Nameable
in_assertion m parts = record { fields = fields_of_parts m parts; multis = format_multis m parts; operands = slot_operands parts }

abbrev pub in_hardware : Nameable
in_hardware = record { fields = []; multis = []; operands = [] }

abbrev pub names : List ℕ → ℤ → Bool
names ks (pos n) = stands_in ks n
names ks (negsuc n) = false

-- The operand has a field or a multi field.
abbrev pub has_field : Source → Bool
has_field (source.Field k) = true
has_field (source.Multi k) = true
has_field _ = false

abbrev pub lies_in_fields : Option Operand → Bool
lies_in_fields None = false
lies_in_fields (Some o) = has_field o.source

abbrev pub stray : List ℕ → (ℕ → Said) → ℤ → Faults
stray ks said_of (pos n) = where_so (not (stands_in ks n)) (at_place 306 0 (said_of n) said.Nothing)
stray ks said_of (negsuc n) = []

abbrev pub stray_operand : Machine → List ℕ → ℤ → Faults
stray_operand m ks n = if lies_in_fields (at_number m.operands n) then stray ks said.Operand n else []

unfoldable pub stray_at : Machine → Nameable → AtNode
stray_at m may op.FieldRef mode n = stray may.fields said.Field n
stray_at m may op.MultiRef mode n = stray may.multis said.Multi n
stray_at m may op.OperandRef mode n = stray_operand m may.operands n
stray_at m may op.IndexOf mode n = stray_operand m may.operands n
stray_at m may _ mode n = []

-- Of an expression that may name these alone.
abbrev pub strays : Machine → Nameable → Rtl → Faults
strays m may rtl = in_nodes (stray_at m may) rtl
