-- What a machine is formed by, as tests: its own numbers, and its elements.
use Rattle.std.specs.Prelude.{Bool, ◌&&◌}
use Rattle.std.specs.List.{list_all}
use Rattle.cg_model.specs.Formed.{is_cpu_word, is_size, is_width, is_field, is_multi, is_hardware, is_insn, is_macro}
use Rattle.cg_model.specs.declared.machine.Machine.{Machine}

abbrev pub is_frame : Machine → Bool
is_frame m = is_cpu_word m.word_bits && is_size m.base_bits && is_width m

abbrev pub are_elements : Machine → Bool
are_elements m = list_all is_field m.fields && list_all is_multi m.multis && list_all (is_hardware m) m.hardware && list_all is_insn m.insns && list_all is_macro m.macros
