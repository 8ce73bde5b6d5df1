-- What `encode` answers.
use Rattle.std.specs.Prelude.{◌≡◌, ℕ, ◌-◌, List, ◌++◌, take, replicate, Some, None, slice_get}
use Rattle.cg_code.specs.declared.encoding.NotInRange.{NotInRange}
use Rattle.cg_model.specs.declared.insn.Insn.{Insn}
use Rattle.cg_model.specs.declared.machine.Machine.{Machine}
use Rattle.cg_model.specs.Encoding.{Encodes, InRange, first_out, AreFor}
use Rattle.cg_model.specs.Matching.{length_of}
use Rattle.cg_model.specs.Slots.{slots_of}

-- Some bytes in front of 16 are the encoding of values, and zeros stand behind.
pub record IsEncoded (m : Machine) (i : Insn) (vs : List ℕ) (pc len : ℕ) (out : List ℕ) : Type 0 where
  pub length : len ≡ length_of m i
  pub encodes : Encodes m i vs pc (take len out)
  pub behind : out ≡ take len out ++ replicate (16 - len) 0

-- Values have no encoding, and the first slot that is out of range is named. The bytes stay.
pub record IsNotInRange (m : Machine) (i : Insn) (vs : List ℕ) (pc : ℕ) (e : NotInRange) (old new : List ℕ) : Type 0 where
  pub none : InRange m i vs pc → ⊥
  pub operand : e.operand ≡ (first_out m i vs pc).operand
  pub value : e.value ≡ (first_out m i vs pc).value
  pub same : new ≡ old

-- The same of the instruction of a number.
pub record IsEncodedAt (m : Machine) (k : ℕ) (vs : List ℕ) (pc len : ℕ) (out : List ℕ) : Type 0 where
  pub insn : Insn
  pub at : slice_get m.insns k ≡ Some insn
  pub encoded : IsEncoded m insn vs pc len out

pub record IsNotInRangeAt (m : Machine) (k : ℕ) (vs : List ℕ) (pc : ℕ) (e : NotInRange) (old new : List ℕ) : Type 0 where
  pub insn : Insn
  pub at : slice_get m.insns k ≡ Some insn
  pub out : IsNotInRange m insn vs pc e old new

-- Just one number for each slot of the instruction of a number, below 2 ^ bits of the slot's mode.
abbrev pub AreValues : Machine → ℕ → List ℕ → Type 0
AreValues m k vs = elim (slice_get m.insns k) [ None ↦ ⊥ | Some i ↦ AreFor m (slots_of m i.parts) vs ]
