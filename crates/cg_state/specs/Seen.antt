-- What a state of a machine is seen as, and what each call makes of it.
use Rattle.std.specs.Prelude.{◌≡◌, ℕ, ◌+◌, ◌-◌, ◌^◌, ◌==◌, min, Bool, true, false, ◌&&◌, nat_le, nat_lt, if◌then◌else◌, List, [], ◌∷◌, ◌++◌, length, take, drop, Option, Some, None, MatchOption, position, remove, slice_get, slice_set}
use Rattle.cg_base.specs.Bytes.{bytes_of}
use Rattle.cg_base.specs.declared.mode.Endian.{Endian}
use Rattle.cg_model_effects.specs.declared.outcome.Due.{Due}
use Rattle.cg_model_effects.specs.declared.outcome.Write.{Write}
use Rattle.cg_model_effects.specs.declared.outcome.Place.TheVariants.{Pc, Cell, Memory}
use Rattle.cg_model_effects.specs.declared.outcome.Outcome.{Outcome}
use Rattle.cg_state.specs.declared.register.Register.{Register}

-- The pc; for each hardware, where its cells stand among all cells; the cells of all registers; RAM, the bits of a word, and the order
-- of the bytes of a number in RAM; the writes that come later, in the order in which they were added, and the room for them; how the
-- run ended; the counts.
pub record Seen : Type 0 where
  pub pc : ℕ
  pub registers : List Register
  pub cells : List ℕ
  pub ram : List ℕ
  pub word_bits : ℕ
  pub endian : Endian
  pub due : List Due
  pub room : ℕ
  pub ended : Option Outcome
  pub steps : ℕ
  pub cycles : ℕ

-- The cells of registers stand one behind the other, from one number on and up to another.
abbrev pub stand : ℕ → List Register → ℕ → Bool
stand from [] to = from == to
stand from (r ∷ rs) to = r.first == from && stand (from + r.count) rs to

-- The number of a register's cell among all cells.
abbrev pub cell_number : List Register → ℕ → ℕ → Option ℕ
cell_number rs hardware index = elim (slice_get rs hardware) [ None ↦ None | Some r ↦ if nat_lt index r.count then Some (r.first + index) else None ]

-- What a register's cell holds.
abbrev pub cell_of : Seen → ℕ → ℕ → Option ℕ
cell_of s hardware index = elim (cell_number s.registers hardware index) [ None ↦ None | Some n ↦ slice_get s.cells n ]

abbrev pub with_pc : ℕ → Seen → Seen
with_pc v s = record s { pc = v }

abbrev pub with_cell : ℕ → ℕ → Seen → Seen
with_cell n v s = record s { cells = slice_set s.cells n v }

abbrev pub with_bytes : ℕ → List ℕ → Seen → Seen
with_bytes address bytes s = record s { ram = (take address s.ram ++ bytes) ++ drop (address + length bytes) s.ram }

-- Whether bytes lie whole in RAM from an address on.
abbrev pub are_inside : ℕ → List ℕ → Seen → Bool
are_inside address bytes s = nat_le (address + length bytes) (length s.ram)

abbrev pub with_number : ℕ → ℕ → ℕ → Seen → Seen
with_number address width v s = record s { ram = (take address s.ram ++ bytes_of s.endian width v) ++ drop (address + width) s.ram }

abbrev pub with_due : List Due → Seen → Seen
with_due ds s = record s { due = ds }

abbrev pub with_ended : Outcome → Seen → Seen
with_ended o s = record s { ended = Some o }

-- What a write makes of a cell. None: there is no such cell.
abbrev pub put_cell : Option ℕ → ℕ → Seen → Option Seen
put_cell None v s = None
put_cell (Some n) v s = if nat_lt n (length s.cells) then Some (with_cell n v s) else None

-- What a write makes of RAM. None: it doesn't lie whole in it.
abbrev pub put_number : ℕ → ℕ → ℕ → Seen → Option Seen
put_number address width v s = if nat_le (address + width) (length s.ram) then Some (with_number address width v s) else None

-- What a write makes of a state. None: its place isn't in it.
abbrev pub put : Write → Seen → Option Seen
put w s = elim w.place [
  | Pc ↦ Some (with_pc w.value s)
  | Cell hardware index ↦ put_cell (cell_number s.registers hardware index) w.value s
  | Memory address width ↦ put_number address width w.value s
]

-- A write to memory is of 1 to 8 bytes that hold its value.
abbrev pub is_sized : Write → Bool
is_sized w = elim w.place [ Memory address width ↦ nat_le 1 width && nat_le width 8 && nat_lt w.value (256 ^ width) | _ ↦ true ]

-- A count that stays at the end of its type.
abbrev pub counted : ℕ → ℕ → ℕ
counted n m = min (n + m) (2 ^ 64 - 1)

abbrev pub with_count : ℕ → Seen → Seen
with_count cycles s = record s { steps = counted s.steps 1; cycles = counted s.cycles cycles }

-- A later write, one bundle on.
abbrev pub turned : Due → Due
turned d = record d { left = d.left - 1 }

abbrev pub has_landed : Due → Bool
has_landed d = d.left == 0

-- A later write joins the others, where there is room.
abbrev pub added : Due → Seen → Seen
added d s = if nat_lt (length s.due) s.room then with_due (s.due ++ d ∷ []) s else s

-- The first of the later writes that has landed leaves them.
abbrev pub TakesDue : Seen → Seen → Option Write → Type 0
TakesDue old new answer = MatchOption (position has_landed old.due)
    ((answer ≡ None) × (new ≡ old))
    (λ k. (d : Due) × (slice_get old.due k ≡ Some d) × (answer ≡ Some d.write) × (new ≡ with_due (remove old.due k) old))

-- A step back: what a step made of the later writes, the counts and the end is undone.
abbrev pub restored : List Due → ℕ → ℕ → Seen → Seen
restored due steps cycles s = record s { due = due; ended = None; steps = steps; cycles = cycles }
