-- When two instructions match the same bytes, and the first two that do.
use Rattle.std.specs.Prelude.{◌≡◌, ℕ, suc, ◌<◌, ◌≤◌, max, ◌&&◌, if◌then◌else◌, List, [], ◌∷◌, length, take, slice_index, Option, Some, None, slice_get}
use Rattle.cg_base.specs.declared.mode.Endian.TheVariants.{Big}
use Rattle.cg_base.specs.Bytes.{number_of}
use Rattle.cg_model.specs.declared.insn.Insn.{Insn}
use Rattle.cg_model.specs.declared.machine.Machine.{Machine}
use Rattle.cg_model.specs.Matching.{length_of, matches, IsMatch}

-- A list of numbers is a string of bytes where each is below 256.
pub record AreBytes (bytes : List ℕ) : Type 0 where
  pub below : (k : ℕ) → slice_index bytes k < 256

-- How long the instruction of a number is.
abbrev pub length_at : Machine → ℕ → ℕ
length_at m k = elim (slice_get m.insns k) [ None ↦ 0 | Some i ↦ length_of m i ]

-- The length of the longer of two instructions.
abbrev pub longer : Machine → ℕ → ℕ → ℕ
longer m i j = max (length_at m i) (length_at m j)

-- Instructions i and j, i before j, are both decodable and both match these bytes, which are as long as the longer of the two.
pub record Clashes (m : Machine) (i j : ℕ) (bytes : List ℕ) : Type 0 where
  pub before : i < j
  pub first : IsMatch m bytes i
  pub second : IsMatch m bytes j
  pub are_bytes : AreBytes bytes
  pub long : length bytes ≡ longer m i j

-- No two instructions clash.
pub record NoClash (m : Machine) : Type 0 where
  pub none : (i j : ℕ) (bytes : List ℕ) → Clashes m i j bytes → ⊥

-- The first pair that clashes, by i and then by j, with the least bytes that both match. Bytes of one length compare as the numbers that
-- they are, the first byte the highest.
pub record FirstClash (m : Machine) (i j : ℕ) (bytes : List ℕ) : Type 0 where
  pub clashes : Clashes m i j bytes
  pub by_first : (k l : ℕ) (other : List ℕ) → Clashes m k l other → i ≤ k
  pub by_second : (l : ℕ) (other : List ℕ) → Clashes m i l other → j ≤ l
  pub least : (other : List ℕ) → Clashes m i j other → number_of Big (longer m i j) bytes ≤ number_of Big (longer m i j) other

-- It stands in front of 16 bytes, with zeros behind it.
pub record FirstClashIn (m : Machine) (i j len : ℕ) (bytes : List ℕ) : Type 0 where
  pub first : FirstClash m i j (take len bytes)
  pub behind : (k : ℕ) → len ≤ k → k < 16 → slice_index bytes k ≡ 0

-- The number of the first instruction, from number k on, that bytes are decoded to.
abbrev pub decoded_from : Machine → List ℕ → ℕ → List Insn → Option ℕ
decoded_from m bytes k [] = None
decoded_from m bytes k (i ∷ is) = if i.decodable && matches m i bytes then Some k else decoded_from m bytes (suc k) is

-- The number of the instruction that bytes are decoded to: the first that is decodable and matches. Where no two clash, it is the only
-- one.
abbrev pub decoded_to : Machine → List ℕ → Option ℕ
decoded_to m bytes = decoded_from m bytes 0 m.insns
