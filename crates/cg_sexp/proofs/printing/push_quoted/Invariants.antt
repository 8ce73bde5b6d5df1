use Rattle.std.proofs.Common.{◌≡◌, ◌++◌, drop}
use Rattle.cg_base.specs.Printing.{quoted_bytes}
use Rattle.cg_sexp.proofs.printing.push_quoted.Given as goal

abbrev pub invariant-loop-byte : goal.invariant-loop-byte
invariant-loop-byte l = l.out ++ quoted_bytes (drop l.byte-index l.bytes) ≡ l.fn.out ++ quoted_bytes l.bytes
