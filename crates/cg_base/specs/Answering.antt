-- What a call answers that may refuse what it is given. Want of memory is the one free answer.
use Rattle.std.specs.Prelude.{◌≡◌, ℕ, Option, Some, None, Result, Ok, Err}
use Rattle.std.specs.Option.{option_map}
use Rattle.cg_base.specs.declared.refusal.Refusal.{Refusal}
use Rattle.cg_base.specs.declared.refusal.Stop.{Stop}
use Rattle.cg_base.specs.declared.refusal.Stop.TheVariants.{Refused, NoMemory}
use Rattle.cg_base.specs.Refusing.{Fault, refusal_at}

-- What stopped a call is a refusal that is such, or memory ran out.
abbrev pub Stops : (Refusal → Type 0) → Stop → Type 0
Stops refuses (Refused refusal) = refuses refusal
Stops refuses NoMemory = Unit {0}

-- What was answered is such, or its refusal is such, or memory ran out.
abbrev pub Answered : {A : Type 0} → (A → Type 0) → (Refusal → Type 0) → Result A Stop → Type 0
Answered is refuses (Ok answer) = is answer
Answered is refuses (Err (Refused refusal)) = refuses refusal
Answered is refuses (Err NoMemory) = Unit {0}

-- This was answered, be it an answer or a refusal. Memory may run out.
abbrev pub Gives : {A : Type 0} → Result A Refusal → Result A Stop → Type 0
Gives answer (Ok given) = answer ≡ Ok given
Gives answer (Err (Refused refusal)) = answer ≡ Err refusal
Gives answer (Err NoMemory) = Unit {0}

-- What a call answers that leaves its answer in what it was handed, where that holds this now.
abbrev pub leaving : {A B : Type 0} → B → Result A Stop → Result B Stop
leaving now (Ok done) = Ok now
leaving now (Err stop) = Err stop

-- What a reader answers of a form that begins on this line of this file: what the form says, where it has no fault, and else
-- the refusal of its least fault. Memory may run out.
abbrev pub GivesForm : {A : Type 0} → ℕ → ℕ → Option Fault → Option A → Result A Stop → Type 0
GivesForm file line fault said (Ok given) = (fault ≡ None) × (said ≡ Some given)
GivesForm file line fault said (Err (Refused refusal)) = option_map (refusal_at file line) fault ≡ Some refusal
GivesForm file line fault said (Err NoMemory) = Unit {0}
