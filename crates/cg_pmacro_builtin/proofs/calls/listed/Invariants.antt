use Rattle.std.proofs.Common.{◌≡◌, ◌<◌, ◌+ℤ◌, ◌*ℤ◌, pos}
use Rattle.cg_pmacro_builtin.specs.BuiltIns.{numbers}
use Rattle.cg_pmacro_builtin.proofs.calls.listed.Given as goal

-- the numbers so far, and the next
abbrev pub invariant-loop-k : goal.invariant-loop-k
invariant-loop-k l = record {
  made : l.forms ≡ numbers l._k l.start l.step;
  next : l._k < l.count → l.value ≡ l.start +ℤ (pos l._k *ℤ l.step);
}
