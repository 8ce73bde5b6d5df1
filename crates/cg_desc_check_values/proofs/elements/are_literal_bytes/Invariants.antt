use Rattle.std.proofs.Common.{◌≡◌, drop}
use Rattle.std.specs.List.{list_all}
use Rattle.cg_model.specs.Formed.{is_literal_byte}
use Rattle.cg_desc_check_values.proofs.elements.are_literal_bytes.Given as goal

abbrev pub invariant-loop-byte : goal.invariant-loop-byte
invariant-loop-byte l = list_all is_literal_byte (drop l.byte-index l.bytes) ≡ list_all is_literal_byte l.bytes
