use Rattle.std.proofs.Common.{◌≡◌, bit_or, drop}
use Rattle.cg_model.specs.Covers.{fields_cover}
use Rattle.tests_code.proofs.sound.fields_cover.Given as goal

-- the bits so far, with those of what is left, are the bits of all
abbrev pub invariant-loop-k : goal.invariant-loop-k
invariant-loop-k l = bit_or l.all (fields_cover l.machine (drop l.k-index l.fields)) ≡ fields_cover l.machine l.fields
