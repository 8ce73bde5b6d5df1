use Rattle.std.proofs.Common.{◌≡◌, map, drop}
use Rattle.cg_desc_machine.specs.Macros.{written_name}
use Rattle.cg_desc_machine.specs.Seen.{place_from}
use Rattle.cg_desc_machine.proofs.macros.place_under.Given as goal

-- the first place from here on is the first of all
abbrev pub invariant-loop-place : goal.invariant-loop-place
invariant-loop-place l =
    place_from l.place l.name (map written_name (drop l.place l.written)) ≡ place_from 0 l.name (map written_name l.written)
