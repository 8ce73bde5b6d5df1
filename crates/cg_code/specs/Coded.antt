-- What is asked of the instruction of a number.
use Rattle.std.specs.Prelude.{◌≡◌, ℕ, ◌-◌, ◌≤◌, Bool, false, List, [], ◌++◌, length, replicate, Some, None, slice_get}
use Rattle.cg_model.specs.declared.field.Field.{Field}
use Rattle.cg_model.specs.Encoding.{ruled}
use Rattle.cg_model.specs.declared.insn.Values.{Values}
use Rattle.cg_model.specs.declared.machine.Machine.{Machine}
use Rattle.cg_model.specs.Matching.{matches}
use Rattle.cg_model.specs.Slots.{values}

-- Whether the instruction of a number matches bytes. Where there is none, nothing matches.
abbrev pub matches_at : Machine → ℕ → List ℕ → Bool
matches_at m k bytes = elim (slice_get m.insns k) [ None ↦ false | Some i ↦ matches m i bytes ]

-- The values of the slots of the instruction of a number.
abbrev pub values_at : Machine → ℕ → List ℕ → ℕ → List ℕ
values_at m k bytes pc = elim (slice_get m.insns k) [ None ↦ [] | Some i ↦ values m i bytes pc ]

-- Values hold some numbers: as many as they count, and zeros behind them.
pub record Holds (x : Values) (vs : List ℕ) : Type 0 where
  pub count : x.count ≡ length vs
  pub numbers : x.numbers ≡ vs ++ replicate (16 - length vs) 0
  pub few : length vs ≤ 16

-- What a field's rule `encode` gives for a value, or the value itself.
abbrev pub encoded : Machine → ℕ → ℕ → Field → ℕ
encoded m pc value f = elim f.encode [ None ↦ value | Some rule ↦ ruled m pc value f rule ]
