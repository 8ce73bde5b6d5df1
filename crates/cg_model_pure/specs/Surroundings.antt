-- What stands around pure expressions: the rule's own value and the pc; the fields of bytes; or both, and multi fields. What doesn't
-- stand there counts as 0, which can always be had.
use Rattle.std.specs.Prelude.{ℕ, ◌^◌, ◌<◌, true, List}
use Rattle.cg_model.specs.Fields.{around, around_value, around_fields}
use Rattle.cg_model.specs.Sound.{IsSound}
use Rattle.cg_model.specs.declared.machine.Machine.{Machine}
use Rattle.cg_model_pure_eval.specs.Seen.{Seen}
use Rattle.cg_model_pure.specs.Evaluable.{holds_field, holds_multi}

abbrev pub seen_value : ℕ → ℕ → Seen
seen_value value pc = record { around = around_value value pc; has_field = λ n. true; has_multi = λ n. true }

abbrev pub seen_fields : Machine → List ℕ → ℕ → Seen
seen_fields m bytes pc = record { around = around_fields m bytes pc; has_field = holds_field m bytes; has_multi = λ n. true }

abbrev pub seen_all : Machine → ℕ → ℕ → List ℕ → Seen
seen_all m value pc bytes = record { around = around m value pc bytes; has_field = holds_field m bytes; has_multi = holds_multi m bytes }

-- Fields are read in a machine that is sound, at a pc below 2 ^ bits of its word.
pub record IsReadable (m : Machine) (pc : ℕ) : Type 0 where
  pub sound : IsSound m
  pub word : pc < 2 ^ m.word_bits
