-- What a refusal says: its text, and the rest of it; and of which place in a clause.
use Rattle.std.specs.Prelude.{ℕ, Bool, true, false, ◌==◌, nat_lt, if◌then◌else◌, List, [], ◌∷◌, map, Option, Some, None}
use Rattle.std.specs.Option.{option_or, option_map}
use Rattle.cg_base.specs.Refusing.{first}
use Rattle.cg_base.specs.declared.refusal.Refusal.{Refusal}
use Rattle.cg_model_faults.specs.declared.fault.MachineFault.{MachineFault}
use Rattle.cg_model.specs.declared.machine.Machine.{Machine}
use Rattle.cg_model_faults.specs.Finding.{Faults}
use Rattle.cg_model_faults.specs.Refusing.{said_text}
use Rattle.cg_desc_fault_report.specs.declared.saying.Saying.{Saying}
use Rattle.cg_desc_fault_report.specs.declared.saying.Placed.{Placed}

abbrev pub saying : List ℕ → List ℕ → Saying
saying text other = record { text = text; other = other }

abbrev pub only_text : List ℕ → Saying
only_text text = saying text []

-- What a fault of a machine's data says of an element that has this name.
abbrev pub fault_said : Machine → List ℕ → MachineFault → Saying
fault_said m own f = saying (said_text m own f.text) (said_text m own f.other)

abbrev pub faults_said : Machine → List ℕ → Faults → List Saying
faults_said m own fs = map (fault_said m own) fs

-- What is said where the test holds, and nothing where it doesn't.
abbrev pub said_where : Bool → Saying → List Saying
said_where holds said = if holds then said ∷ [] else []

-- What is at fault in a form under each number, in the order of the numbers. The least is the first of the first that has one.
abbrev pub Numbered : Type 0
Numbered = List (ℕ × List Saying)

abbrev pub with_number : ℕ → Saying → ℕ × Saying
with_number number said = (number, said)

abbrev pub least_said : Numbered → Option (ℕ × Saying)
least_said [] = None
least_said (x ∷ xs) = option_or (option_map (with_number x.0) (first x.1)) (least_said xs)

-- Its refusal, on this line of this file.
abbrev pub refusal_of : ℕ → ℕ → ℕ × Saying → Refusal
refusal_of file line x = record { number = x.0; file = file; line = line; text = x.1.text; other = x.1.other }

-- What is said of a place in a clause: the places of elements in their lists, from the outermost inwards.
abbrev pub placed : List ℕ → Saying → Placed
placed place said = record { place = place; said = said }

-- A list stands before what is in it, and what is in it from left to right.
abbrev pub is_before : List ℕ → List ℕ → Bool
is_before ps [] = false
is_before [] (q ∷ qs) = true
is_before (p ∷ ps) (q ∷ qs) = if p == q then is_before ps qs else nat_lt p q

-- The earliest, and of one place the first.
abbrev pub earlier : Placed → Option Placed → Placed
earlier x None = x
earlier x (Some y) = if is_before y.place x.place then y else x

abbrev pub earliest : List Placed → Option Placed
earliest [] = None
earliest (x ∷ xs) = Some (earlier x (earliest xs))

abbrev pub said_in : Option Placed → List Saying
said_in None = []
said_in (Some x) = x.said ∷ []

-- What is said of a clause: the earliest, where anything is.
abbrev pub earliest_said : List Placed → List Saying
earliest_said xs = said_in (earliest xs)
