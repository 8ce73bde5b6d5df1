use Rattle.std.proofs.Common.{◌≡◌, ◌++◌, drop}
use Rattle.std.specs.List.{filter_map}
use Rattle.cg_desc_data.specs.Seen.{seen_numbering}
use Rattle.cg_desc_data.proofs.multis.numbers_among.Given as goal

-- what is there so far, with what is left, is what the whole gives
abbrev pub invariant-loop-name : goal.invariant-loop-name
invariant-loop-name l =
    l.numbers ++ filter_map (seen_numbering l.numbering) (drop l.name-index l.names) ≡ filter_map (seen_numbering l.numbering) l.names
