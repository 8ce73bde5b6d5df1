-- E304, of a machine in hand: a `reg` or `raw-reg` whose hardware is neither a register nor the pc, and a get or set rule on
-- hardware that is no register.
use Rattle.std.specs.Prelude.{Bool, true, false, not, ◌&&◌, ◌||◌, is_some, [], ℤ, pos, negsuc, Some, None, slice_get}
use Rattle.cg_model.specs.Placed.{is_register}
use Rattle.cg_model_faults.specs.Finding.{Faults, at_place, where_so, AtNode, in_nodes}
use Rattle.cg_model_faults.specs.declared.fault.Said.TheVariants as said
use Rattle.cg_model.specs.declared.hardware.Hardware.{Hardware}
use Rattle.cg_model.specs.declared.hardware.HwKind.{HwKind}
use Rattle.cg_model.specs.declared.hardware.HwKind.TheVariants as kind
use Rattle.cg_model.specs.declared.machine.Machine.{Machine}
use Rattle.cg_model.specs.declared.rtl.Op.TheVariants as op
use Rattle.cg_model.specs.declared.rtl.Rtl.{Rtl}

-- Hardware that has a cell or is the pc.
abbrev pub is_cell : HwKind → Bool
is_cell kind.Register = true
is_cell kind.Pc = true
is_cell _ = false

abbrev pub no_cell : Machine → ℤ → Faults
no_cell m (pos k) = elim (slice_get m.hardware k) [ None ↦ [] | Some h ↦ where_so (not (is_cell h.kind)) (at_place 304 0 (said.Hardware k) said.Nothing) ]
no_cell m (negsuc k) = []

unfoldable pub no_cell_at : Machine → AtNode
no_cell_at m op.Reg mode n = no_cell m n
no_cell_at m op.RawReg mode n = no_cell m n
no_cell_at m _ mode n = []

-- Of an expression.
abbrev pub no_cells : Machine → Rtl → Faults
no_cells m rtl = in_nodes (no_cell_at m) rtl

-- Of hardware.
abbrev pub no_register : Hardware → Faults
no_register h = where_so (not (is_register h.kind) && (is_some h.get || is_some h.set)) (at_place 304 0 said.Own said.Nothing)
