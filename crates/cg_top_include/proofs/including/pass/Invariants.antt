use Rattle.std.proofs.Common.{◌≡◌, ◌++◌, length}
use Rattle.cg_top_include.specs.Including.{parted}
use Rattle.cg_top_include.proofs.including.pass.Given as goal

-- what is passed, with what is passed of those that are left, is what is passed of all; include and rest are the same
abbrev pub invariant-loop-top : goal.invariant-loop-top
invariant-loop-top l = record {
  before : l.passed ++ (parted l.short l.pending).before ≡ l.fn.passed ++ (parted l.short l.fn.pending).before;
  include : (parted l.short l.pending).include ≡ (parted l.short l.fn.pending).include;
  behind : (parted l.short l.pending).behind ≡ (parted l.short l.fn.pending).behind;
}

abbrev pub decreases-loop-top : goal.decreases-loop-top
decreases-loop-top l = length l.pending
