-- Files and a sink in memory.
use Rattle.std.specs.Prelude.{◌≡◌, ℕ, nat_lt, List, length, map, reverse, if◌then◌else◌, Option, Some, None, Result, Ok, Err, Vec, refl}
use Rattle.std.specs.Coded.{Coded, code_by, coded×, coded_list, coded_ℕ}
use Rattle.std.specs.FinMap.{from_entries, get, code}
use Rattle.std.specs.declared.alloc.Global.{Global}
use Rattle.cg_io.specs.Asking.{Asking, askings_code}
use Rattle.cg_io.specs.Calls.{calls_code}
use Rattle.cg_io.specs.declared.calls.Calls.{Calls}
use Rattle.cg_io.specs.declared.files.FileFault.{FileFault}
use Rattle.cg_io.specs.declared.files.FileFault.TheVariants.{Missing, TooLong, Failed, NoMemory}
use Rattle.cg_io.specs.declared.memory.Entry.{Entry}
use Rattle.cg_io.specs.Held.{Held}

-- files in memory: what they hold, which of their calls fail, and what they were asked for
pub record MemoryFiles : Type 0 where
  pub held : Held
  pub calls : Calls
  pub asked : List Asking

-- a sink in memory: what was put, and which of its calls fail
pub record MemorySink : Type 0 where
  pub wrote : List ℕ
  pub calls : Calls

-- files are stored as the tuple of their fields
abbrev pub files_code : Coded MemoryFiles
files_code =
    code_by (Held × (Calls × List Asking)) (coded× (code (coded_list coded_ℕ) (coded_list coded_ℕ)) (coded× calls_code askings_code))
    (λ f. (f.held, (f.calls, f.asked))) (λ p. record { held = p.0; calls = p.1.0; asked = p.1.1 }) (λ _. refl)

-- and so is a sink
abbrev pub sink_code : Coded MemorySink
sink_code =
    code_by (List ℕ × Calls) (coded× (coded_list coded_ℕ) calls_code)
    (λ s. (s.wrote, s.calls)) (λ p. record { wrote = p.0; calls = p.1 }) (λ _. refl)

-- an entry as a name with bytes
abbrev pub pair : Entry → List ℕ × List ℕ
pair e = (e.name, e.bytes)

-- what some entries hold: of two entries of one name the later stands
abbrev pub held_by : List Entry → Held
held_by es = from_entries (map pair (reverse es))

-- a name's bytes, if it has them and they are within the limit
abbrev pub within : ℕ → Option (List ℕ) → Result (List ℕ) FileFault
within limit None = Err Missing
within limit (Some bytes) = if nat_lt limit (length bytes) then Err TooLong else Ok bytes

-- what a reading answers where memory is found and the call doesn't fail
abbrev pub read_from : Held → List ℕ → ℕ → Result (List ℕ) FileFault
read_from m name limit = within limit (get m name)

-- the first is what the second says, or tells that memory ran out
abbrev pub AnswersOrNoMemory : Result (Vec ℕ Global) FileFault → Result (List ℕ) FileFault → Type 0
AnswersOrNoMemory (Ok bytes) answer = answer ≡ Ok bytes.items
AnswersOrNoMemory (Err Missing) answer = answer ≡ Err Missing
AnswersOrNoMemory (Err TooLong) answer = answer ≡ Err TooLong
AnswersOrNoMemory (Err Failed) answer = ⊥
AnswersOrNoMemory (Err NoMemory) answer = Unit {0}
