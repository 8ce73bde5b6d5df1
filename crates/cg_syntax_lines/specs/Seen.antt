-- What the parts of a line say that are lent.
use Rattle.std.specs.Option.{option_map}
use Rattle.cg_base.specs.Texts.{seen_text}
use Rattle.cg_syntax_lines.specs.declared.line.Labelled as declared
use Rattle.cg_syntax_lines.specs.declared.line.Line as declared_line
use Rattle.cg_syntax_lines.specs.declared.line.Statement as declared_statement
use Rattle.cg_syntax_lines.specs.declared.line.Statement.TheVariants as lent
use Rattle.cg_model_source.specs.Lining.{Labelled, Line, Statement, nothing, directive, bundle, parted_at_bars, trimmed_all}

abbrev pub seen_labelled : declared.Labelled → Labelled
seen_labelled l = record { label = option_map seen_text l.label; rest = l.rest.now }

abbrev pub seen_statement : declared_statement.Statement → Statement
seen_statement lent.Nothing = nothing
seen_statement (lent.Directive name rest) = directive name.now rest.now
seen_statement (lent.Bundle text) = bundle (trimmed_all (parted_at_bars text.now))

abbrev pub seen_line : declared_line.Line → Line
seen_line l = record { label = option_map seen_text l.label; statement = seen_statement l.statement }
