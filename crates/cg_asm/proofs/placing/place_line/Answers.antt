use Rattle.std.specs.Option.{option_map}
use Rattle.std.specs.Prelude.{Err, ◌+◌}
use Rattle.std.proofs.Common.{refl, sym, ap, ◌∙◌}
use Rattle.cg_asm.proofs.PlacingLemmas.{line_refused, line_stands, stands_low, word_few}
use Rattle.cg_asm.proofs.placing.place_line.Goals as goal
use Rattle.cg_asm.specs.declared.placing.Layout.{Layout}
use Rattle.cg_base.specs.Texts.{seen_text}
use Rattle.cg_syntax_lines.specs.Seen.{seen_statement}

pub returns-in-Some-clause-laid : goal.returns-in-Some-clause-laid
returns-in-Some-clause-laid c =
    let m = c.args.machine.now in
    let l = c.args.layout.now in
    let size = ap (λ n. l.address + n) c.content_size.ensures.value in
    let refused = line_refused m c.args.index.now c.args.base c.args.number l (option_map seen_text c.args.line.label) (seen_statement c.args.line.statement) c.in_ok-content.content (l.address + c.content_size.result) c.in-Some.refusal c.requires.given c.requires.index
    c.in_ok-content.ensures size (sym c.in-Some.is ∙ c.in_ok-refusal.ensures) in
    refused ∙ ap Err (sym c.on_line.ensures)

pub returns-clause-laid : goal.returns-clause-laid
returns-clause-laid c =
    let m = c.args.machine.now in
    let l = c.args.layout.now in
    let end = l.address + c.content_size.result in
    let size = ap (λ n. l.address + n) c.content_size.ensures.value in
    let k : Layout = record { labels = c.define.new.self; lines = c.push.new.self; address = end } in
    line_stands m c.args.index.now c.args.base c.args.number l k (option_map seen_text c.args.line.label) (seen_statement c.args.line.statement) c.in_ok-content.content end c.requires.given c.requires.index c.in_ok-content.ensures size
    (sym c.in_default.is ∙ c.in_ok-refusal.ensures) c.in_ok-define.ensures c.in_ok-push.ensures.ok refl

pub returns-clause-low : goal.returns-clause-low
returns-clause-low c =
    let m = c.args.machine.now in
    let l = c.args.layout.now in
    stands_low m c.args.index.now.keywords c.args.base l.address (l.address + c.content_size.result) l.labels (option_map seen_text c.args.line.label) c.in_ok-content.content (word_few m.word_bits c.requires.sound.word) (sym c.in_default.is ∙ c.in_ok-refusal.ensures)
