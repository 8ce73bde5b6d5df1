use Rattle.std.proofs.Common.{◌+◌, ◌-◌, ◌*◌, length}
use Rattle.std.specs.Prelude.{if◌then◌else◌}
use Rattle.cg_top_include.proofs.gathering.+reading.Given as goal

-- Each file that is opened leaves fewer that may be, and the short forms come once.
abbrev pub decreases-gather : goal.decreases-gather
decreases-gather g l = 4 * (65 - length l.sources.names) + (if l.sources.short then 1 else 3)

abbrev pub decreases-open : goal.decreases-open
decreases-open g l = 4 * (65 - length l.sources.names) + (if l.sources.short then 0 else 2)
