use Rattle.std.proofs.Common.{sym, ap, ◌∙◌}
use Rattle.cg_asm_directives.proofs.ContentLemmas.{directive_read}
use Rattle.cg_asm_directives.proofs.content.content_of.Goals as goal
use Rattle.cg_asm_directives.specs.Telling.{content_at}
use Rattle.cg_syntax_lines.specs.Seen.{seen_statement}

pub returns-in_ok-order-in-Directive : goal.returns-in_ok-order-in-Directive
returns-in_ok-order-in-Directive c =
    let m = c.args.machine.now in
    let read = directive_read m c.args.index.now c.args.address c.in-Directive.name.now c.in-Directive.rest.now c.in_ok-order-in-Directive.order c.requires.index c.in_ok-order-in-Directive.ensures in
    read ∙ sym (ap (λ s. content_at m c.args.address (seen_statement s)) c.in-Directive.is)
