use Rattle.cg_desc_data.specs.Seen.{seen}
use Rattle.cg_desc_scope.specs.Seen.{seen_described}
use Rattle.cg_desc_machine.specs.Seen.{base}
use Rattle.cg_desc_laws.proofs.NumberedWhole.{numbers_of}
use Rattle.cg_desc_laws.proofs.numbered.numbers_name_elements.Goals as goal

pub returns : goal.returns
returns c =
    numbers_of (seen_described c.args.described.now) (seen c.args.selection.now) (base c.args.scope.now) c.args.machine.now c.args.tops.now
    c.requires.described c.requires.machine c.requires.alone c.requires.elements c.requires.unsaid c.requires.names
