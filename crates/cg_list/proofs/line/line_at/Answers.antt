use Rattle.std.proofs.Common.{sym, ap, ◌∙◌}
use Rattle.std.specs.Option.{option_map}
use Rattle.cg_model_source.specs.Listing.{line_for}
use Rattle.cg_tree.specs.Finding.{found}
use Rattle.cg_list.specs.Seen.{seen, seen_line}
use Rattle.cg_list.proofs.Lined.{line_by}
use Rattle.cg_list.proofs.line.line_at.Goals as goal

pub returns-in_ok-line_of-in-Some : goal.returns-in_ok-line_of-in-Some
returns-in_ok-line_of-in-Some c a same =
    line_by c.args.machine.now (found c.args.tree.now c.args.machine.now) a c.args.address c.word_pc-pc.result c.args.bytes.now (option_map seen c.in_ok-bundle.field-0) (seen_line c.in_ok-line_of-in-Some.field-0) c.requires.sound same
    c.word_pc-pc.ensures.value c.in_ok-bundle.ensures.shown
    (c.in_ok-line_of-in-Some.ensures ∙ ap (λ o. line_for c.args.machine.now c.word_pc-pc.result c.args.bytes.now (option_map seen o)) (sym c.in-Some.is))

pub returns-in_ok-as_bytes-in-None : goal.returns-in_ok-as_bytes-in-None
returns-in_ok-as_bytes-in-None c a same =
    line_by c.args.machine.now (found c.args.tree.now c.args.machine.now) a c.args.address c.word_pc-pc.result c.args.bytes.now (option_map seen c.in_ok-bundle.field-0) (seen_line c.in_ok-as_bytes-in-None.field-0) c.requires.sound same
    c.word_pc-pc.ensures.value c.in_ok-bundle.ensures.shown
    (c.in_ok-as_bytes-in-None.ensures ∙ ap (λ o. line_for c.args.machine.now c.word_pc-pc.result c.args.bytes.now (option_map seen o)) (sym c.in-None.is))
