use Rattle.std.specs.Prelude.{map}
use Rattle.std.proofs.Common.{◌+◌, ◌%◌, refl}
use Rattle.cg_base.specs.Texts.{seen_text}
use Rattle.cg_model_source.specs.Bundling.{parts_at}
use Rattle.cg_model_source.specs.Spelling.{keywords}
use Rattle.cg_syntax.proofs.BundleLemmas.{part_more}
use Rattle.cg_syntax.proofs.bundle.parts_at.Goals as goal
use Rattle.cg_syntax.specs.Telling.{told_parts}

pub loop-text-preserved : goal.loop-text-preserved
loop-text-preserved c =
    let m = c.args.machine.now in
    part_more seen_text m (keywords m) c.args.texts.now c.loop-text.text-index _ c.loop-text.parts c.push.new.self (told_parts (parts_at m (keywords m) c.args.address (map seen_text c.args.texts.now))) c.loop-text.at
    ((c.loop-text.at + c.part_size.result) % 18446744073709551616) c.part_size.result c.in_ok-part.part c.requires.sound c.requires.given c.loop-text-test.true c.in_ok-part.ensures c.part_size.ensures refl c.in_ok-push.ensures.ok c.loop-text.invariant
