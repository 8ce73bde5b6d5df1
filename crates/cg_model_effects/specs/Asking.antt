-- Computations that ask devices on their way. What an expression does is a tree of questions: a read of a device may be answered
-- in any way, and what follows goes by the answer. So each access of a device and its place in order is part of what it does.
use Rattle.std.specs.Prelude.{ℕ, List, [], ◌∷◌, ◌++◌, Option, None, Result, Ok, Err}
use Rattle.cg_model_effects.specs.declared.outcome.Change.{Change}
use Rattle.cg_model_effects.specs.declared.outcome.Trap.{Trap}

-- What an expression has made so far: its entries, in order; the values of the locals around, from the outermost on; and after how
-- many bundles its writes come, where they stand in a `delay`.
pub record Held : Type 0 where
  pub entries : List Change
  pub locals : List ℕ
  pub left : Option ℕ

-- Nothing was made so far.
abbrev pub nothing_held : Held
nothing_held = record { entries = []; locals = []; left = None }

-- A value with what was made, a trap, or a read of a device by its address and width, and what follows its answer: a number, or
-- none where the device failed.
pub data Ask : Type 0 where
  Done : ℕ → Held → Ask
  Trapped : Trap → Ask
  Asked : (address width : ℕ) → (Option ℕ → Ask) → Ask

-- One after the other. A trap ends it.
abbrev pub bind : Ask → (ℕ → Held → Ask) → Ask
bind (Done n h) f = f n h
bind (Trapped t) f = Trapped t
bind (Asked address width k) f = Asked address width (λ r. bind (k r) f)

-- What an expression does, from what was made before it.
abbrev pub Effect : Type 0
Effect = Held → Ask

-- A trap that has no text.
abbrev pub trap : ℕ → Trap
trap n = record { number = n; text = 0 }

-- A question that was asked, and its answer.
pub record Access : Type 0 where
  pub address : ℕ
  pub width : ℕ
  pub answer : Option ℕ

-- How a computation ended: with its entries or a trap; what became of the devices; and what they were asked, in order.
pub record Ending (S : Type 0) : Type 0 where
  pub outcome : Result (List Change) Trap
  pub devices : S
  pub accesses : List Access

-- The ending of a computation where devices answer like this, from what they are.
abbrev pub ending : {S : Type 0} → (ℕ → ℕ → S → Option ℕ × S) → Ask → S → List Access → Ending S
ending f (Done n h) s past = record { outcome = Ok h.entries; devices = s; accesses = past }
ending f (Trapped t) s past = record { outcome = Err t; devices = s; accesses = past }
ending f (Asked address width k) s past =
    let r = f address width s in ending f (k r.0) r.1 (past ++ record { address = address; width = width; answer = r.0 } ∷ [])
