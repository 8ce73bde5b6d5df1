-- What the semantics of an instruction do: the entries that they make, or the trap that ends them, and the devices that they ask.
use Rattle.std.specs.Prelude.{ℕ, zero, suc, ◌+◌, ◌-◌, ◌/◌, ◌%◌, ◌^◌, min, Bool, true, false, not, ◌&&◌, ◌||◌, ◌==◌, nat_le, nat_lt, if◌then◌else◌, List, [], ◌∷◌, ◌++◌, map, length, take, drop, slice_index, slice_set, ℤ, pos, negsuc, unsigned_abs, Option, Some, None, slice_get}
use Rattle.std.specs.Option.{unwrap_or}
use Rattle.cg_base.specs.declared.Endian.{Endian}
use Rattle.cg_base.specs.declared.Mode.{Mode}
use Rattle.cg_base.specs.declared.Mode.TheVariants.{Usi, Void}
use Rattle.cg_base.specs.Bytes.{number_of, bytes_of}
use Rattle.cg_base.specs.Modes.{bits_of, address_mode}
use Rattle.cg_base.specs.Operations.{converted}
use Rattle.cg_model.specs.Operators.{at_number}
use Rattle.cg_model.specs.Checked.{Locals, from_outside, local_of}
use Rattle.cg_model.specs.Values.{Meaning, Way, Steps, mode_at, any_gives, in_order_gives, shared_gives, meaning}
use Rattle.cg_model.specs.Slots.{Named, slot_mode, in_semantics, in_rule}
use Rattle.cg_model_effects.specs.Asking.{Held, nothing_held, Ask, bind, Effect, trap}
use Rattle.cg_model_effects.specs.Asking.Ask.{Done, Trapped, Asked}
use Rattle.cg_model.specs.declared.hardware.Hardware.{Hardware}
use Rattle.cg_model.specs.declared.hardware.HwKind.TheVariants as kind
use Rattle.cg_model.specs.declared.insn.Insn.{Insn}
use Rattle.cg_model.specs.declared.machine.Alignment.{Alignment}
use Rattle.cg_model.specs.declared.machine.Alignment.TheVariants.{Aligned, Forced}
use Rattle.cg_model.specs.declared.machine.Machine.{Machine}
use Rattle.cg_model.specs.declared.operand.Operand.{Operand}
use Rattle.cg_model_effects.specs.declared.outcome.Change.{Change}
use Rattle.cg_model_effects.specs.declared.outcome.Change.TheVariants.{Now, Later, Halt}
use Rattle.cg_model_effects.specs.declared.outcome.Place.{Place}
use Rattle.cg_model_effects.specs.declared.outcome.Place.TheVariants.{Pc, Cell, Memory}
use Rattle.cg_model.specs.declared.rtl.Op.{Op}
use Rattle.cg_model.specs.declared.rtl.Op.TheVariants as op
use Rattle.cg_model.specs.declared.rtl.Rtl.{Rtl}

-- What an instruction sees of the state before its step: its own address, the cells of registers by hardware and index, the bytes
-- of RAM, and whether one device holds all addresses of a range.
pub record Before : Type 0 where
  pub at : ℕ
  pub cell : ℕ → ℕ → ℕ
  pub byte : ℕ → ℕ
  pub holds : ℕ → ℕ → Bool

-- In turn: what follows starts from what was made. A quotient by 0 is a trap.
abbrev pub in_turn : Way Effect
in_turn = record { value = λ n h. Done n h; after = λ x f h. bind (x h) f; zero_divisor = λ h. Trapped (trap 5) }

-- A write that comes at once, or so many bundles later.
abbrev pub change_of : Option ℕ → Place → ℕ → Change
change_of None place v = Now (record { place = place; value = v })
change_of (Some n) place v = Later (record { left = n; write = record { place = place; value = v } })

abbrev pub with_entry : Change → Held → Held
with_entry c h = record h { entries = h.entries ++ c ∷ [] }

-- A write of a value goes behind the entries so far.
abbrev pub written : Place → ℕ → Effect
written place v h = Done 0 (with_entry (change_of h.left place v) h)

-- A place is set: the value comes, then it is written.
abbrev pub set_place : Place → Effect → Effect
set_place place e h = bind (e h) (λ v g. written place v g)

-- What gives no value.
abbrev pub dropping : Effect → Effect
dropping x h = bind (x h) (λ v g. Done 0 g)

-- A read takes the latest write now of its place, else what the state held.
abbrev pub pc_after : Change → ℕ → ℕ
pc_after (Now w) held = elim w.place [ Pc ↦ w.value | _ ↦ held ]
pc_after _ held = held

abbrev pub latest_pc : List Change → ℕ → ℕ
latest_pc [] held = held
latest_pc (c ∷ cs) held = latest_pc cs (pc_after c held)

abbrev pub read_pc : Before → Effect
read_pc b h = Done (latest_pc h.entries b.at) h

abbrev pub cell_after : ℕ → ℕ → Change → ℕ → ℕ
cell_after k i (Now w) held = elim w.place [ Cell hardware index ↦ if hardware == k && index == i then w.value else held | _ ↦ held ]
cell_after k i _ held = held

abbrev pub latest_cell : ℕ → ℕ → List Change → ℕ → ℕ
latest_cell k i [] held = held
latest_cell k i (c ∷ cs) held = latest_cell k i cs (cell_after k i c held)

-- A cell of a register that has so many. Its index is checked before all else.
abbrev pub at_cell : ℕ → ℕ → Effect → Effect
at_cell count i f h = if nat_lt i count then f h else Trapped (trap 6)

-- A cell of the register of a number that has so many is read and set.
abbrev pub read_cell : Before → ℕ → ℕ → ℕ → Effect
read_cell b count k i h = at_cell count i (λ g. Done (latest_cell k i g.entries (b.cell k i)) g) h

abbrev pub set_cell : ℕ → ℕ → ℕ → Effect → Effect
set_cell count k i e h = at_cell count i (set_place (Cell k i) e) h

-- In memory byte by byte.
abbrev pub byte_after : Endian → ℕ → Change → ℕ → ℕ
byte_after e a (Now w) held =
    elim w.place [ Memory from width ↦ if nat_le from a && nat_lt a (from + width) then slice_index (bytes_of e width w.value) (a - from) else held | _ ↦ held ]
byte_after e a _ held = held

abbrev pub latest_byte : Endian → ℕ → List Change → ℕ → ℕ
latest_byte e a [] held = held
latest_byte e a (c ∷ cs) held = latest_byte e a cs (byte_after e a c held)

abbrev pub latest_bytes : Endian → Before → List Change → ℕ → ℕ → List ℕ
latest_bytes e b cs zero a = []
latest_bytes e b cs (suc n) a = latest_byte e a cs (b.byte a) ∷ latest_bytes e b cs n (suc a)

-- How many bytes of RAM there are, from address 0 on.
abbrev pub ram_size : ℕ → ℕ
ram_size word_bits = min (2 ^ 20) (2 ^ word_bits / 2)

-- What is to know of memory: the word's bits, how accesses are aligned, and the order of bytes.
pub record Ram : Type 0 where
  pub word_bits : ℕ
  pub alignment : Alignment
  pub data_endian : Endian

abbrev pub ram_of : Machine → Ram
ram_of m = record { word_bits = m.word_bits; alignment = m.alignment; data_endian = m.data_endian }

abbrev pub in_ram : Ram → ℕ → ℕ → Bool
in_ram ram a width = nat_le (a + width) (ram_size ram.word_bits)

abbrev pub is_misaligned : Alignment → ℕ → ℕ → Bool
is_misaligned Aligned a width = not (a % width == 0)
is_misaligned _ a width = false

-- Where an access begins: `forced` clears the low bits of its address.
abbrev pub begins : Alignment → ℕ → ℕ → ℕ
begins Forced a width = a - a % width
begins _ a width = a

-- An access must be aligned, and lie whole in RAM or in one device.
abbrev pub at_memory : Ram → Before → ℕ → ℕ → (ℕ → Effect) → Effect
at_memory ram b width a f h =
    if is_misaligned ram.alignment a width then Trapped (trap 4)
    else (let place = begins ram.alignment a width in if in_ram ram place width || b.holds place width then f place h else Trapped (trap 3))

-- A device's answer, or that it failed.
abbrev pub answered : Option ℕ → Effect
answered (Some v) h = Done v h
answered None h = Trapped (trap 8)

-- A read of RAM, or of a device: it is asked, whatever was written.
abbrev pub memory_read : Ram → Before → ℕ → ℕ → Effect
memory_read ram b width a h =
    if in_ram ram a width then Done (number_of ram.data_endian width (latest_bytes ram.data_endian b h.entries width a)) h
    else Asked a width (λ r. answered r h)

-- A read of so many bytes: the address comes, then they are read.
abbrev pub read_memory : Ram → Before → ℕ → Effect → Effect
read_memory ram b width address h = bind (address h) (λ a g. at_memory ram b width a (memory_read ram b width) g)

-- A write of so many bytes: the address comes, then the value, and the place is checked when the write is made.
abbrev pub set_memory : Ram → Before → ℕ → Effect → Effect → Effect
set_memory ram b width address e h = bind (address h) (λ a g. bind (e g) (λ v j. at_memory ram b width a (λ place. written (Memory place width) v) j))

-- A local is read, and set at once.
abbrev pub local_value : List ℕ → ℤ → ℕ
local_value locals n = unwrap_or (at_number locals n) 0

abbrev pub with_local : List ℕ → ℤ → ℕ → List ℕ
with_local locals (pos n) v = slice_set locals n v
with_local locals (negsuc n) v = locals

abbrev pub read_local : ℤ → Effect
read_local n h = Done (local_value h.locals n) h

abbrev pub set_local : ℤ → Effect → Effect
set_local n e h = bind (e h) (λ v g. Done 0 (record g { locals = with_local g.locals n v }))

-- Among locals that are declared. They begin at 0, and end with what they are for.
abbrev pub with_own : {A : Type 0} → List A → Effect → Effect
with_own declared x h =
    bind (x (record h { locals = h.locals ++ map (λ y. 0) declared })) (λ v g. Done v (record g { locals = take (length h.locals) g.locals }))

-- Each of them starts from the entries at the beginning; what it makes comes behind what those before made.
abbrev pub side_by_side : List Effect → List Change → Effect
side_by_side [] start h = Done 0 h
side_by_side (x ∷ xs) start h =
    bind (x (record h { entries = start })) (λ v g. side_by_side xs start (record g { entries = h.entries ++ drop (length start) g.entries }))

-- The writes in it come so many bundles later.
abbrev pub delayed : ℕ → Effect → Effect
delayed n x h = bind (x (record h { left = Some n })) (λ v g. Done 0 (record g { left = h.left }))

-- The run ends with its value.
abbrev pub halting : Effect → Effect
halting x h = bind (x h) (λ v g. Done 0 (with_entry (Halt v) g))

-- What a get or set rule does that is put in place, by the mode that is wanted of it, its index and its new value.
abbrev pub Rules : Type 0
Rules = Rtl → Option Mode → ℕ → ℕ → Effect

-- A rule has locals of its own.
abbrev pub alone : Effect → Effect
alone x h = bind (x (record h { locals = [] })) (λ v g. Done v (record g { locals = h.locals }))

-- What stands around an expression: the machine, the state before the step, what rules do, and what names give.
pub record Situation : Type 0 where
  pub machine : Machine
  pub before : Before
  pub rules : Rules
  pub names : Named

abbrev pub around : Machine → Before → Rules → Named → Situation
around m b rules names = record { machine = m; before = b; rules = rules; names = names }

-- An operation where it stands: the mode that is written at it, its number, what its items mean, the locals around it, and the mode
-- that is wanted of it.
pub record Term : Type 0 where
  pub written : Option Mode
  pub number : ℤ
  pub items : List (Meaning Effect)
  pub locals : Locals
  pub want : Option Mode

abbrev pub term : Option Mode → ℤ → List (Meaning Effect) → Locals → Option Mode → Term
term written n xs l want = record { written = written; number = n; items = xs; locals = l; want = want }

-- A register is read by its get rule, or itself.
abbrev pub read_register : Situation → Option Rtl → Hardware → ℕ → ℕ → Effect
read_register s (Some rule) x k i h = s.rules rule (Some x.mode) (i % 2 ^ 32) 0 h
read_register s None x k i h = read_cell s.before x.count k i h

abbrev pub rule_unless : Bool → Option Rtl → Option Rtl
rule_unless true rule = None
rule_unless false rule = rule

-- A read of hardware at an index: the pc, or a register.
abbrev pub read_hardware : Situation → Bool → ℕ → ℕ → Effect
read_hardware s raw k i h = elim (slice_get s.machine.hardware k) [
  | None ↦ Done 0 h
  | Some x ↦ elim x.kind [ kind.Pc ↦ read_pc s.before h | kind.Register ↦ read_register s (rule_unless raw x.get) x k i h | _ ↦ Done 0 h ]
]

-- A write of hardware at an index: first the index is checked, then the value comes, then the write is made.
abbrev pub write_register : Situation → Option Rtl → Hardware → ℕ → ℕ → Effect → Effect
write_register s (Some rule) x k i e h = bind (e h) (λ v g. dropping (s.rules rule None (i % 2 ^ 32) v) g)
write_register s None x k i e h = set_cell x.count k i e h

abbrev pub write_hardware : Situation → Bool → ℕ → ℕ → Effect → Effect
write_hardware s raw k i e h = elim (slice_get s.machine.hardware k) [
  | None ↦ Done 0 h
  | Some x ↦ elim x.kind [ kind.Pc ↦ set_place Pc e h | kind.Register ↦ write_register s (rule_unless raw x.set) x k i e h | _ ↦ Done 0 h ]
]

-- The index of a register, 0 where none stands.
abbrev pub index_gives : List (Meaning Effect) → Locals → Effect
index_gives [] l h = Done 0 h
index_gives (x ∷ xs) l h = any_gives x l h

-- The address of memory.
abbrev pub address_gives : Ram → List (Meaning Effect) → Locals → Effect
address_gives ram [] l h = Done 0 h
address_gives ram (x ∷ xs) l h = x.gives l (Some (address_mode ram.word_bits)) h

abbrev pub width_of : Option Mode → ℕ
width_of written = bits_of (unwrap_or written Void) / 8

-- An operand: a cell by the value of its slot, the pc, or the value itself.
abbrev pub read_operand : Situation → ℕ → Operand → Effect
read_operand s k o h = elim (slice_get s.machine.hardware o.hardware) [
  | None ↦ Done 0 h
  | Some x ↦ elim x.kind [
    | kind.Register ↦ read_hardware s false o.hardware (s.names.operand k o) h
    | kind.Pc ↦ read_hardware s false o.hardware (s.names.operand k o) h
    | _ ↦ Done (s.names.operand k o) h
  ]
]

abbrev pub operand_gives : Situation → ℤ → Effect
operand_gives s (pos k) h = elim (slice_get s.machine.operands k) [ None ↦ Done 0 h | Some o ↦ read_operand s k o h ]
operand_gives s (negsuc k) h = Done 0 h

abbrev pub operand_puts : Situation → ℤ → Effect → Effect
operand_puts s (pos k) e h = elim (slice_get s.machine.operands k) [ None ↦ Done 0 h | Some o ↦ write_hardware s false o.hardware (s.names.operand k o) e h ]
operand_puts s (negsuc k) e h = Done 0 h

-- The value of an operand as UINT.
abbrev pub index_of : Situation → ℤ → ℕ
index_of s (pos k) = elim (slice_get s.machine.operands k) [ None ↦ 0 | Some o ↦ converted (slot_mode s.machine o) Usi (s.names.operand k o) ]
index_of s (negsuc k) = 0

abbrev pub register_gives : Situation → Bool → ℤ → Effect → Effect
register_gives s raw (pos k) index h = bind (index h) (λ i g. read_hardware s raw k i g)
register_gives s raw (negsuc k) index h = Done 0 h

abbrev pub register_puts : Situation → Bool → ℤ → Effect → Effect → Effect
register_puts s raw (pos k) index e h = bind (index h) (λ i g. write_hardware s raw k i e g)
register_puts s raw (negsuc k) index e h = Done 0 h

-- What setting a place does. Its index or its address comes first, then the value, then the write.
abbrev pub effect_puts : Situation → Op → Term → Effect → Effect
effect_puts s op.Local x e h = set_local x.number e h
effect_puts s op.Pc x e h = set_place Pc e h
effect_puts s op.OperandRef x e h = operand_puts s x.number e h
effect_puts s op.Reg x e h = register_puts s false x.number (index_gives x.items x.locals) e h
effect_puts s op.RawReg x e h = register_puts s true x.number (index_gives x.items x.locals) e h
effect_puts s op.Mem x e h = let ram = ram_of s.machine in set_memory ram s.before (width_of x.written) (address_gives ram x.items x.locals) e h
effect_puts s o x e h = Done 0 h

-- The value is judged in the place's mode.
abbrev pub set_gives : List (Meaning Effect) → Locals → Effect
set_gives (d ∷ e ∷ []) l h = let k = mode_at d l None in d.puts l (e.gives l (Some k)) h
set_gives xs l h = Done 0 h

-- A `sequence` has locals of its own.
abbrev pub sequence_gives : ℕ → List (Meaning Effect) → Locals → Option Mode → Effect
sequence_gives n xs l want h =
    let declared = take n xs in with_own declared (in_order_gives in_turn (l ++ map (λ x. local_of x.checked.said) declared) want (drop n xs)) h

-- The arms of a `parallel` see the locals around, and don't set them.
abbrev pub parallel_gives : List (Meaning Effect) → Locals → Effect
parallel_gives xs l h = side_by_side (map (λ x. x.gives (from_outside l) None) xs) h.entries h

abbrev pub delay_gives : ℕ → List (Meaning Effect) → Locals → Effect
delay_gives n (x ∷ []) l h = delayed n (x.gives l None) h
delay_gives n xs l h = Done 0 h

abbrev pub halt_gives : List (Meaning Effect) → Locals → Effect
halt_gives (x ∷ []) l h = halting (any_gives x l) h
halt_gives xs l h = Done 0 h

-- What semantics do.
abbrev pub effect_gives : Situation → Op → Term → Effect
effect_gives s op.Local x h = read_local x.number h
effect_gives s op.OperandRef x h = operand_gives s x.number h
effect_gives s op.Index x h = Done s.names.index h
effect_gives s op.NewVal x h = Done s.names.new h
effect_gives s op.Pc x h = read_pc s.before h
effect_gives s op.FieldRef x h = Done (s.names.field x.number) h
effect_gives s op.MultiRef x h = Done (s.names.multi x.number) h
effect_gives s op.IndexOf x h = Done (index_of s x.number) h
effect_gives s op.Reg x h = register_gives s false x.number (index_gives x.items x.locals) h
effect_gives s op.RawReg x h = register_gives s true x.number (index_gives x.items x.locals) h
effect_gives s op.Mem x h = let ram = ram_of s.machine in read_memory ram s.before (width_of x.written) (address_gives ram x.items x.locals) h
effect_gives s op.Set x h = set_gives x.items x.locals h
effect_gives s op.Sequence x h = sequence_gives (unsigned_abs x.number) x.items x.locals x.want h
effect_gives s op.Parallel x h = parallel_gives x.items x.locals h
effect_gives s op.Delay x h = delay_gives (unsigned_abs x.number) x.items x.locals h
effect_gives s op.Error x h = Trapped (record { number = 7; text = unsigned_abs x.number })
effect_gives s op.Halt x h = halt_gives x.items x.locals h
effect_gives s o x h = shared_gives s.machine in_turn o x.written x.number x.items x.locals x.want h

abbrev pub effect_steps : Situation → Steps Effect
effect_steps s = record {
  gives = λ o written n xs l want. effect_gives s o (term written n xs l want);
  puts = λ o written n xs l. effect_puts s o (term written n xs l None);
}

-- What an expression of semantics or of a get or set rule means.
unfoldable pub effect_meaning : Situation → Rtl → Meaning Effect
effect_meaning s r = meaning s.machine in_turn (effect_steps s) r

-- Rules that read or set by rules, which do so in turn, this many times.
unfoldable pub rules_within : ℕ → Machine → Before → Rules
rules_within zero m b rule want index new h = Done 0 h
rules_within (suc n) m b rule want index new h = alone ((effect_meaning (around m b (rules_within n m b) (in_rule m index new)) rule).gives [] want) h

-- With its rules put in place an expression is at most 64 deep, so rules don't stand deeper in one another.
abbrev pub all_rules : Machine → Before → Rules
all_rules m b = rules_within 64 m b

-- What an instruction does at its own address, with these values of its slots.
abbrev pub effect : Machine → Insn → List ℕ → Before → Ask
effect m i vs b = (effect_meaning (around m b (all_rules m b) (in_semantics m i vs b.at)) i.semantics).gives [] None nothing_held
