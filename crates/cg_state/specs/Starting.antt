-- The state in which a machine starts: the pc at a base, and all else 0.
use Rattle.std.specs.Prelude.{ℕ, ◌+◌, true, false, if◌then◌else◌, List, [], ◌∷◌, replicate, None}
use Rattle.cg_model.specs.Placed.{is_register}
use Rattle.cg_model.specs.declared.hardware.Hardware.{Hardware}
use Rattle.cg_model.specs.declared.machine.Machine.{Machine}
use Rattle.cg_model_effects.specs.Effects.{ram_size}
use Rattle.cg_state.specs.declared.register.Register.{Register}
use Rattle.cg_state.specs.Seen.{Seen}

-- How many cells hardware has: none where it is no register.
abbrev pub cells_in : Hardware → ℕ
cells_in h = if is_register h.kind then h.count else 0

-- The registers of hardware, with their cells from a number on.
abbrev pub registers_from : ℕ → List Hardware → List Register
registers_from n [] = []
registers_from n (h ∷ hs) = record { first = n; count = cells_in h } ∷ registers_from (n + cells_in h) hs

-- How many cells all hardware has.
abbrev pub all_cells : List Hardware → ℕ
all_cells [] = 0
all_cells (h ∷ hs) = cells_in h + all_cells hs

abbrev pub start : Machine → ℕ → ℕ → Seen
start m base room = record {
  pc = base;
  registers = registers_from 0 m.hardware;
  cells = replicate (all_cells m.hardware) 0;
  ram = replicate (ram_size m.word_bits) 0;
  word_bits = m.word_bits;
  endian = m.data_endian;
  due = [];
  room = room;
  ended = None;
  steps = 0;
  cycles = 0;
}
