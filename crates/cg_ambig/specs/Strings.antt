-- Another account of the first clash, by few strings. Two instructions match the same bytes exactly where they match one of at most
-- 65,536 strings: the constants of both in place, some setting of the bits that their assertions name and no constant covers, and 0
-- elsewhere.
use Rattle.std.specs.Prelude.{◌≡◌, ℕ, ◌+◌, ◌≤◌, List, take, Some, slice_get, count_ones}
use Rattle.cg_base.specs.declared.mode.Endian.TheVariants.{Big}
use Rattle.cg_base.specs.Bytes.{number_of}
use Rattle.cg_model.specs.declared.insn.Insn.{Insn}
use Rattle.cg_model.specs.declared.machine.Machine.{Machine}
use Rattle.cg_model.specs.Clashing.{longer, Clashes, NoClash, FirstClash}
use Rattle.cg_ambig_pattern.specs.Settings.{IsPart}
use Rattle.cg_ambig_pattern.specs.Together.{contradictions, constants, open_bits}
use Rattle.cg_code_mask.specs.View.{bytes_of_whole}
use Rattle.cg_ambig.specs.Patterns.{pattern}

-- One of the strings of two instructions. Where constants of both contradict each other there is none.
pub record IsString (m : Machine) (i j : ℕ) (bytes : List ℕ) : Type 0 where
  pub first : Insn
  pub second : Insn
  pub first_at : slice_get m.insns i ≡ Some first
  pub second_at : slice_get m.insns j ≡ Some second
  pub agree : contradictions (pattern m first) (pattern m second) ≡ 0
  pub set : ℕ
  pub part : IsPart set (open_bits (pattern m first) (pattern m second))
  pub few : count_ones (open_bits (pattern m first) (pattern m second)) ≤ 16
  pub is : bytes ≡ take (longer m i j) (bytes_of_whole (constants (pattern m first) (pattern m second) + set))

-- Two instructions clash on such a string.
pub record ClashesOnString (m : Machine) (i j : ℕ) (bytes : List ℕ) : Type 0 where
  pub clashes : Clashes m i j bytes
  pub is_string : IsString m i j bytes

-- No two instructions clash on such a string.
pub record NoClashOnStrings (m : Machine) : Type 0 where
  pub none : (i j : ℕ) (bytes : List ℕ) → ClashesOnString m i j bytes → ⊥

-- The first pair that clashes on such a string, by i and then by j, with the least string.
pub record FirstOnStrings (m : Machine) (i j : ℕ) (bytes : List ℕ) : Type 0 where
  pub clashes : ClashesOnString m i j bytes
  pub by_first : (k l : ℕ) (other : List ℕ) → ClashesOnString m k l other → i ≤ k
  pub by_second : (l : ℕ) (other : List ℕ) → ClashesOnString m i l other → j ≤ l
  pub least : (other : List ℕ) → ClashesOnString m i j other → number_of Big (longer m i j) bytes ≤ number_of Big (longer m i j) other

-- Both accounts say the same.
pub record SameOnStrings (m : Machine) : Type 0 where
  pub none_to : NoClash m → NoClashOnStrings m
  pub none_from : NoClashOnStrings m → NoClash m
  pub first_to : (i j : ℕ) (bytes : List ℕ) → FirstClash m i j bytes → FirstOnStrings m i j bytes
  pub first_from : (i j : ℕ) (bytes : List ℕ) → FirstOnStrings m i j bytes → FirstClash m i j bytes
