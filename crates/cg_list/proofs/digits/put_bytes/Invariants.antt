use Rattle.std.proofs.Common.{◌≡◌, ◌++◌, drop}
use Rattle.std.specs.List.{flat_map}
use Rattle.cg_base.specs.Faults.{hex_byte}
use Rattle.cg_list.proofs.digits.put_bytes.Given as goal

abbrev pub invariant-loop-byte : goal.invariant-loop-byte
invariant-loop-byte l = l.text ++ flat_map hex_byte (drop l.byte-index l.bytes) ≡ l.initial.text ++ flat_map hex_byte l.bytes
