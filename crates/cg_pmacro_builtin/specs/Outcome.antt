-- What an expansion comes to: an answer, or the first fault.
use Rattle.std.specs.Prelude.{ℕ, List, [], ◌∷◌, ◌++◌, Option, Some, None, Result, Ok, Err}
use Rattle.cg_base.specs.Refusing.{Fault}

-- an answer, or the fault that comes in its place: the number of its refusal, and the text of it
abbrev pub Answer : Type 0 → Type 0
Answer A = Result A Fault

-- what comes of an answer; a fault stays the fault
abbrev pub onward : {A B X : Type 0} → Result A X → (A → Result B X) → Result B X
onward (Ok a) next = next a
onward (Err x) next = Err x

-- what is made of what an option holds, or what stands for none
abbrev pub choose : {A B : Type 0} → Option A → (A → B) → B → B
choose (Some a) made none = made a
choose None made none = none

-- A run takes a state, as the units that are left, and comes to an answer and the state behind it, or to the first fault.
abbrev pub Run : Type 0 → Type 0 → Type 0 → Type 0
Run S X A = S → Result (A × S) X

-- an answer that is paid for with units of the budget
abbrev pub Paid : Type 0 → Type 0
Paid A = Run ℕ Fault A

-- This answer, at no cost.
abbrev pub pure : {S X A : Type 0} → A → Run S X A
pure a s = Ok (a, s)

-- This fault.
abbrev pub fails : {S X A : Type 0} → X → Run S X A
fails x s = Err x

-- This answer or fault, at no cost.
abbrev pub lift : {S X A : Type 0} → Result A X → Run S X A
lift (Ok a) = pure a
lift (Err x) = fails x

-- One after the other: the second has the state that the first left, and a fault ends them.
infixl 10 ◌>>=◌
abbrev pub ◌>>=◌ : {S X A B : Type 0} → Run S X A → (A → Run S X B) → Run S X B
(first >>= next) s = onward (first s) (λ r. next r.0 r.1)

-- The elements of a list from left to right: what the first gives, and then what the rest give.
abbrev pub each : {S X A B : Type 0} → (A → Run S X B) → List A → Run S X (List B)
each one [] = pure []
each one (a ∷ rest) = do
  b ← one a
  bs ← each one rest
  pure (b ∷ bs)

-- The same where each gives a list, joined.
abbrev pub each_joined : {S X A B : Type 0} → (A → Run S X (List B)) → List A → Run S X (List B)
each_joined one [] = pure []
each_joined one (a ∷ rest) = do
  bs ← one a
  cs ← each_joined one rest
  pure (bs ++ cs)
