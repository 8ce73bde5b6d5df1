-- What the reader's fields mean, and what they are to the machine.
use Rattle.std.specs.Prelude.{reverse}
use Rattle.cg_sexp.specs.declared.stack.Stack.{Stack}
use Rattle.cg_sexp.specs.declared.reader.Reader.{Reader}
use Rattle.cg_sexp.specs.Machine.{Nest, State}

abbrev pub nest_of : Stack → Nest
nest_of s = record { file = s.file; tops = s.tops; lists = reverse s.lists.items }

abbrev pub state_of : Reader → State
state_of r = record { mode = r.mode; held = r.held; line = r.line; nest = nest_of r.stack }
