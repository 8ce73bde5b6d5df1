use Rattle.std.proofs.Common.{◌≡◌, ◌++◌, drop}
use Rattle.cg_list.specs.Bundles.{texts_behind}
use Rattle.cg_list.proofs.digits.put_more.Given as goal

abbrev pub invariant-loop-byte : goal.invariant-loop-byte
invariant-loop-byte l = l.text ++ texts_behind (drop l.byte-index l.bytes) ≡ l.initial.text ++ texts_behind l.bytes
