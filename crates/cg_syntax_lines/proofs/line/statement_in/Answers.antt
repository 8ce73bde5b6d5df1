use Rattle.std.specs.Prelude.{◌==◌, false, length}
use Rattle.std.proofs.Common.{◌≡◌}
use Rattle.cg_syntax_lines.specs.Seen.{seen_statement}
use Rattle.cg_syntax_lines.proofs.Named.{worded}
use Rattle.cg_syntax_lines.proofs.line.statement_in.Goals as goal

pub returns : goal.returns
returns c =
    let some : (length c.args.text.now == 0) ≡ false = cc in
    worded (seen_statement c.with_name.result) c.args.text.now c.first_word.result.now some c.first_word.ensures c.with_name.ensures
