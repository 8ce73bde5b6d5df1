use Rattle.std.proofs.Common.{◌≡◌, ◌≤◌, drop}
use Rattle.std.specs.Prelude.{is_some}
use Rattle.cg_io.specs.Held.{appended}
use Rattle.cg_top.specs.Top.{text_of}
use Rattle.cg_top.proofs.top.tell.Given as goal

-- what was written so far, with the lines that are left, is what was written before with all lines
abbrev pub invariant-loop-line : goal.invariant-loop-line
invariant-loop-line g l = record {
  told : appended (g.K.Sink.wrote l.out) (text_of (drop l.line-index l.lines)) ≡ appended (g.K.Sink.wrote l.fn.out) (text_of l.lines);
  tells : is_some (g.K.Sink.wrote l.out) ≡ is_some (g.K.Sink.wrote l.fn.out);
  later : g.K.Sink.faults l.fn.out ≤ g.K.Sink.faults l.out;
}
