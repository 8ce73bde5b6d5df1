use Rattle.std.proofs.Common.{◌≡◌, drop}
use Rattle.std.specs.Option.{option_or}
use Rattle.cg_desc_scope.specs.Timing.{last_cycles}
use Rattle.cg_desc_scope.proofs.timing.last_cycles.Given as goal

-- what is left says the last, and else it is the last so far
abbrev pub invariant-loop-note : goal.invariant-loop-note
invariant-loop-note l =
    option_or (last_cycles (drop l.note-index l.notes)) l.last ≡ last_cycles l.notes
