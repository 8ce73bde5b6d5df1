use Rattle.std.proofs.Common.{◌≡◌, drop}
use Rattle.cg_desc_machine.specs.Seen.{place_from}
use Rattle.cg_desc_machine.proofs.slots.place_of.Given as goal

-- the first place from here on is the first of all
abbrev pub invariant-loop-place : goal.invariant-loop-place
invariant-loop-place l =
    place_from l.place l.name (drop l.place l.names) ≡ place_from 0 l.name l.names
