-- What is at fault, which of several faults is the least, and how it is refused.
use Rattle.std.specs.Prelude.{ℕ, List, [], ◌∷◌, Option, Some, None}
use Rattle.std.specs.Option.{option_or, option_map}
use Rattle.cg_base.specs.declared.refusal.Refusal.{Refusal}
use Rattle.cg_base.specs.declared.fault.Fault as declared

-- A fault: the number of its refusal, and the text of it.
abbrev pub Fault : Type 0
Fault = ℕ × List ℕ

abbrev pub seen_fault : declared.Fault → Fault
seen_fault f = (f.number, f.text.now)

-- The refusal of a fault on this line of this file.
abbrev pub refusal_at : ℕ → ℕ → Fault → Refusal
refusal_at file line fault = record { number = fault.0; file = file; line = line; text = fault.1; other = [] }

abbrev pub first : {A : Type 0} → List A → Option A
first [] = None
first (x ∷ xs) = Some x

abbrev pub numbered : ℕ → List ℕ → Fault
numbered number text = (number, text)

-- The texts at fault under each number, in the order of the numbers.
abbrev pub FaultTexts : Type 0
FaultTexts = List (ℕ × List (List ℕ))

-- The least fault: the first text of the first list that isn't empty.
abbrev pub least : FaultTexts → Option Fault
least [] = None
least (x ∷ xs) = option_or (option_map (numbered x.0) (first x.1)) (least xs)
