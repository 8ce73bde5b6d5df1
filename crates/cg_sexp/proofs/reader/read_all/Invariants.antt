use Rattle.std.proofs.Common.{◌≡◌, ◌++◌, ◌∷◌, [], drop}
use Rattle.cg_base.specs.Reading.{ended}
use Rattle.cg_sexp.specs.Machine.{ends, read_all}
use Rattle.cg_sexp.specs.Held.{state_of}
use Rattle.cg_sexp.proofs.reader.read_all.Given as goal

-- what is left gives what the whole gives
abbrev pub invariant-loop-byte : goal.invariant-loop-byte
invariant-loop-byte l = ends (state_of l.reader) (drop l.byte-index l.bytes ++ 10 ∷ []) ≡ read_all l.fn.file (ended l.bytes)
