use Rattle.std.proofs.Common.{◌≡◌, ◌++◌, map, drop}
use Rattle.cg_model_source.specs.declared.written.Mark.TheVariants.{Byte}
use Rattle.cg_syntax_split.proofs.squeeze.put_literal.Given as goal

-- with what is left they are what is wanted
abbrev pub invariant-loop-byte : goal.invariant-loop-byte
invariant-loop-byte l = l.marks.items ++ map Byte (drop l.byte-index l.text) ≡ l.initial.marks.items ++ map Byte l.text
