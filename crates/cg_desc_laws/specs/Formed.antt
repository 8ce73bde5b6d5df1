-- What of a description's machine is formed, where nothing is said of any form that takes part: all but the expressions
-- of its instructions, and how many of them a bundle has.
use Rattle.std.specs.Prelude.{◌≡◌, Bool, true}
use Rattle.std.specs.List.{list_all}
use Rattle.cg_model.specs.Formed.{is_cpu_word, is_size, is_field, is_multi, is_hardware, is_piece, is_macro}
use Rattle.cg_model.specs.declared.insn.Insn.{Insn}
use Rattle.cg_model.specs.declared.machine.Machine.{Machine}
use Rattle.cg_rtl_resolve.specs.declared.scope.Scope.{Scope}
use Rattle.cg_desc_scope.specs.Described.{Described}
use Rattle.cg_desc_machine.specs.Rules.{ruled_fields, ruled_multis, ruled_hardwares}
use Rattle.cg_desc_machine.specs.Instructions.{insns_of}
use Rattle.cg_desc_machine.specs.Macros.{macros_of}

-- The literals of an instruction are literals.
abbrev pub has_literals : Insn → Bool
has_literals i = list_all is_piece i.pieces

-- What is said of hardware speaks of a machine with this word.
pub record AreFormed (d : Described) (scope : Scope) : Type 0 where
  pub word : is_cpu_word d.framing.word_bits ≡ true
  pub base : is_size d.framing.base_bits ≡ true
  pub fields : list_all is_field (ruled_fields d scope) ≡ true
  pub multis : list_all is_multi (ruled_multis d scope) ≡ true
  pub hardware : (m : Machine) → m.word_bits ≡ d.framing.word_bits → list_all (is_hardware m) (ruled_hardwares d scope) ≡ true
  pub literals : list_all has_literals (insns_of d scope) ≡ true
  pub macros : list_all is_macro (macros_of d) ≡ true
