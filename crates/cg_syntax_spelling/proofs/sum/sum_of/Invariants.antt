use Rattle.std.proofs.Common.{◌-◌, ◌*◌, ◌^◌, ◌≤◌, length}
use Rattle.std.specs.Prelude.{pos, neg_ℤ, ◌≤ℤ◌, Some}
use Rattle.cg_syntax_spelling.proofs.Adding.{Leaves}
use Rattle.cg_syntax_spelling.proofs.sum.sum_of.Given as goal

-- with what is left it is the sum; and it is no more than the characters before can write
abbrev pub invariant-parts : goal.invariant-parts
invariant-parts l = record {
  leaves : Leaves l.keywords l.sum (Some (l.minus, l.rest)) l.text;
  within : length l.rest ≤ length l.text;
  high : l.sum.number ≤ℤ pos ((length l.text - length l.rest) * 2 ^ 64);
  low : neg_ℤ (pos ((length l.text - length l.rest) * 2 ^ 64)) ≤ℤ l.sum.number;
}

abbrev pub decreases-parts : goal.decreases-parts
decreases-parts l = length l.rest
