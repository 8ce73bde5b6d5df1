use Rattle.std.proofs.Common.{◌≡◌, bit_or, drop}
use Rattle.cg_model.specs.Covers.{covered_by_all}
use Rattle.tests_code.proofs.sound.parts_cover.Given as goal

-- the bits so far, with those of what is left, are the bits of all
abbrev pub invariant-loop-part : goal.invariant-loop-part
invariant-loop-part l = bit_or l.all (covered_by_all l.machine (drop l.part-index l.parts)) ≡ covered_by_all l.machine l.parts
