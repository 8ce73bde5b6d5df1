-- `read_all` goes by the room that is left below the limit, and what it has is what the reader lost.
use Rattle.std.proofs.Common.{◌≤◌, ◌-◌, length}
use Rattle.std.specs.Io.KnownBytes.{Consumes}
use Rattle.cg_io.proofs.host.read_all.Given as goal

abbrev pub invariant-loop-count : goal.invariant-loop-count
invariant-loop-count g l = (length l.bytes.items ≤ l.limit) × Consumes (g.R.Read.remaining l.initial.input) (g.R.Read.remaining l.input) l.bytes.items

abbrev pub decreases-loop-count : goal.decreases-loop-count
decreases-loop-count g l = l.limit - length l.bytes.items
