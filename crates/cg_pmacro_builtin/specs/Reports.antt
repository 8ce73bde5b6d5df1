-- What the crate's private functions say of their results. The meaning of expansion doesn't need it.
use Rattle.std.specs.Prelude.{◌≡◌, ℕ, List, Option, Result, Ok, Err}
use Rattle.std.specs.Option.{option_copied}
use Rattle.std.specs.Borrow.{Bor}
use Rattle.cg_pmacro_builtin.specs.declared.body.Body.{Body}
use Rattle.cg_base.specs.Refusing.{Fault}
use Rattle.cg_pmacro_builtin.specs.declared.fault.Halt.{Halt}
use Rattle.cg_pmacro_builtin.specs.declared.fault.Halt.TheVariants.{Faulty, NoMemory}
use Rattle.cg_pmacro_builtin.specs.Outcome.{Answer}

-- what came to a halt had that fault, or memory ran out
abbrev pub Halts : {A : Type 0} → Result A Fault → Halt → Type 0
Halts out NoMemory = Unit {0}
Halts out (Faulty number text) = out ≡ Err (number, text)

-- what came to a halt had this fault, or memory ran out
abbrev pub IsHalt : Fault → Halt → Type 0
IsHalt x NoMemory = Unit {0}
IsHalt x (Faulty number text) = x ≡ (number, text)

-- this is the answer, or its fault; memory may run out
abbrev pub Comes : {A : Type 0} → Answer A → Result A Halt → Type 0
Comes out (Ok a) = out ≡ Ok a
Comes out (Err h) = Halts out h

-- this is the outcome, with the units that are left; memory may run out
abbrev pub Leaves : {A : Type 0} → Answer (A × ℕ) → Result A Halt → ℕ → Type 0
Leaves out (Ok a) left = out ≡ Ok (a, left)
Leaves out (Err h) left = Halts out h

-- the same of an outcome that refers to a part of what was given
abbrev pub LeavesPart : {A : Type 0} → Answer (Option A × ℕ) → Result (Option (Bor A)) Halt → ℕ → Type 0
LeavesPart out (Ok a) left = out ≡ Ok (option_copied a, left)
LeavesPart out (Err h) left = Halts out h

-- these are the formals and the body of a macro
abbrev pub ComesMacro : Answer (List (List ℕ) × Body) → Result (List (List ℕ) × Bor Body) Halt → Type 0
ComesMacro out (Ok p) = out ≡ Ok (p.0, p.1.now)
ComesMacro out (Err h) = Halts out h
