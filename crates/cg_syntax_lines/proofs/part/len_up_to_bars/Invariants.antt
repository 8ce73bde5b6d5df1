use Rattle.std.proofs.Common.{◌≡◌, ◌+◌, length}
use Rattle.cg_syntax_lines.specs.Parts.{bars_at}
use Rattle.cg_syntax_lines.proofs.part.len_up_to_bars.Given as goal

-- with what is left it is as far as in the whole
abbrev pub invariant-loop-rest : goal.invariant-loop-rest
invariant-loop-rest l = record {
  count : l.count + bars_at l.rest ≡ bars_at l.text;
  within : l.count + length l.rest ≡ length l.text;
}

abbrev pub decreases-loop-rest : goal.decreases-loop-rest
decreases-loop-rest l = length l.rest
