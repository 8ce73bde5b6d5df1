use Rattle.std.proofs.Common.{◌≡◌, ◌++◌, drop}
use Rattle.cg_model_faults.specs.Refusing.{hex_bytes}
use Rattle.cg_desc_check.proofs.clash.hex_bytes.Given as goal

abbrev pub invariant-loop-byte : goal.invariant-loop-byte
invariant-loop-byte l = l.text ++ hex_bytes (drop l.byte-index l.bytes) ≡ hex_bytes l.bytes
