use Rattle.std.proofs.Common.{◌≡◌, ◌++◌, drop}
use Rattle.indexmap.specs.IndexMap.{get}
use Rattle.cg_base.specs.Texts.{same_text}
use Rattle.cg_desc_insns.specs.Choices.{distinct_behind, distinct}
use Rattle.cg_desc_scope.specs.Once.{Knows}
use Rattle.cg_desc_scope.proofs.once.distinct.Given as goal

-- those so far, with the others of what is left, are those of the whole; and they are known
abbrev pub invariant-loop-text : goal.invariant-loop-text
invariant-loop-text l = record {
  whole : l.list ++ distinct_behind l.list (drop l.text-index l.texts) ≡ distinct l.texts;
  known : Knows l.list (get same_text l.known);
}
