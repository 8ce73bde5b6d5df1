use Rattle.cg_desc_data.specs.Seen.{seen}
use Rattle.cg_desc_scope.specs.Seen.{seen_described}
use Rattle.cg_desc_machine.specs.Seen.{base}
use Rattle.cg_desc_laws.proofs.CountedWhole.{within_of, known_of}
use Rattle.cg_desc_laws.proofs.counted.counts_are_kept.Goals as goal

pub returns : goal.returns
returns c = record {
  within = within_of (seen_described c.args.described.now) (seen c.args.selection.now) (base c.args.scope.now) c.args.machine.now c.args.tops.now
      c.requires.described c.requires.scope c.requires.machine c.requires.alone c.requires.elements c.requires.unsaid c.requires.chosen;
  known = known_of (seen_described c.args.described.now) (seen c.args.selection.now) (base c.args.scope.now) c.args.machine.now c.args.tops.now
      c.requires.described c.requires.alone c.requires.elements c.requires.unsaid c.requires.chosen;
}
