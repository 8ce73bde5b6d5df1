use Rattle.std.proofs.Common.{◌≡◌, drop, map, bit_or}
use Rattle.cg_model.specs.Covers.{all_bits}
use Rattle.cg_model_faults.specs.E315.{bits_named}
use Rattle.cg_desc_check_rtl.proofs.purity.+bits_named.Given as goal

-- what is gathered, with what is left, is the whole
abbrev pub invariant-loop-item : goal.invariant-loop-item
invariant-loop-item l = bit_or l.bits (all_bits (map (bits_named l.machine) (drop l.item-index l.item-items))) ≡ bits_named l.machine l.rtl
