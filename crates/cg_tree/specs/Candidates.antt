-- Which instructions bytes may still be decoded to where some of their bits are known.
use Rattle.std.specs.Prelude.{◌≡◌, ℕ, suc, Bool, true, false, not, if◌then◌else◌, List, [], ◌∷◌, map, Option, Some, None, slice_get}
use Rattle.std.specs.List.{filter, list_all}
use Rattle.cg_model.specs.declared.insn.Insn.{Insn}
use Rattle.cg_model.specs.declared.machine.Machine.{Machine}
use Rattle.cg_model.specs.Sound.{is_among}
use Rattle.cg_code_mask.specs.declared.format.Constants.{Constants}
use Rattle.cg_code_mask.specs.Constants.{parts_cover, parts_value}
use Rattle.cg_tree.specs.Trees.{is_set, Tested, Node}
use Rattle.cg_tree.specs.Trees.Node.{leaf_at, test_at}

-- The bits that an instruction's constants cover, and what they say there.
abbrev pub said_by : Machine → Insn → Constants
said_by m i = record { cover = parts_cover m i.parts; value = parts_value m i.parts }

-- The same of each instruction.
abbrev pub table_of : Machine → List Constants
table_of m = map (said_by m) m.insns

-- What the constants of an instruction say of a bit: 0, 1, or nothing where none covers it.
abbrev pub constant_in : Option Constants → ℕ → Option Bool
constant_in None bit = None
constant_in (Some c) bit = if is_set c.cover bit then Some (is_set c.value bit) else None

-- The same of instruction k.
abbrev pub constant_at : List Constants → ℕ → ℕ → Option Bool
constant_at table k bit = constant_in (slice_get table k) bit

-- A constant bit has the answer that it is. Any other bit may have either.
abbrev pub agrees : Option Bool → Bool → Bool
agrees None answer = true
agrees (Some true) answer = answer
agrees (Some false) answer = not answer

-- No constant bit of instruction k contradicts a test.
abbrev pub passes : List Constants → ℕ → Tested → Bool
passes table k t = agrees (constant_at table k t.bit) t.answer

-- None contradicts the tests on a path.
abbrev pub is_candidate : List Constants → List Tested → ℕ → Bool
is_candidate table path k = list_all (passes table k) path

-- The candidates of a node at the end of a path, among instructions of these numbers, in order.
abbrev pub candidates : List Constants → List ℕ → List Tested → List ℕ
candidates table ks path = filter (is_candidate table path) ks

-- The numbers of the instructions that bytes are decoded to, from number k on.
abbrev pub decodable_from : ℕ → List Insn → List ℕ
decodable_from k [] = []
decodable_from k (i ∷ is) = if i.decodable then k ∷ decodable_from (suc k) is else decodable_from (suc k) is

abbrev pub decodables : Machine → List ℕ
decodables m = decodable_from 0 m.insns

-- A bit tells two of some instructions apart: it is a constant 0 in one of them and a constant 1 in another.
pub record TellsApart (table : List Constants) (ks : List ℕ) (bit : ℕ) : Type 0 where
  pub first : ℕ
  pub second : ℕ
  pub first_among : is_among first ks ≡ true
  pub second_among : is_among second ks ≡ true
  pub first_clear : constant_at table first bit ≡ Some false
  pub second_set : constant_at table second bit ≡ Some true

-- A node is tight. A leaf lists just its candidates, in order, and a bit tells two of them apart only where the tree is full. The bit of a
-- test tells two candidates of its node apart.
abbrev pub IsTightAt : List Constants → List ℕ → Type 0 → Node → Type 0
IsTightAt table ks full (leaf_at path numbers) = (numbers ≡ candidates table ks path) × ((bit : ℕ) → TellsApart table numbers bit → full)
IsTightAt table ks full (test_at path bit) = TellsApart table (candidates table ks path) bit

abbrev pub AreTight : List Constants → List ℕ → Type 0 → List Node → Type 0
AreTight table ks full [] = Unit {0}
AreTight table ks full (n ∷ ns) = IsTightAt table ks full n × AreTight table ks full ns
