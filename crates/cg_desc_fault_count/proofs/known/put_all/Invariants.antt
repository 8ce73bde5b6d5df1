use Rattle.std.proofs.Common.{◌≡◌, ◌+◌, drop}
use Rattle.cg_desc_fault_count.specs.Known.{seen_known, count_new, with_all}
use Rattle.cg_desc_fault_count.proofs.known.put_all.Given as goal

-- those counted, with those of what is left, are those of the whole; and what stands, with what is left, is the whole
abbrev pub invariant-loop-text : goal.invariant-loop-text
invariant-loop-text l =
    record {
      count : l.count + count_new (seen_known l.known) (drop l.text-index l.texts) ≡ count_new (seen_known l.initial.known) l.texts;
      now : with_all (seen_known l.known) (drop l.text-index l.texts) ≡ with_all (seen_known l.initial.known) l.texts;
    }
