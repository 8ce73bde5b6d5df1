-- What the code hands on, as definitions see it.
use Rattle.std.specs.Option.{option_copied}
use Rattle.indexmap.specs.IndexMap.{get}
use Rattle.cg_base.specs.Texts.{same_text}
use Rattle.cg_desc_names.specs.Table.{known}
use Rattle.cg_desc_data.specs.Selecting.{Selection}
use Rattle.cg_desc_data.specs.Numbering as numbering
use Rattle.cg_desc_data.specs.declared.selecting.Selection as declared
use Rattle.cg_desc_data.specs.declared.numbering.Numbering as declared_numbering
use Rattle.cg_desc_data.specs.declared.numbering.Numbers as declared_numbers

abbrev pub seen : declared.Selection → Selection
seen s = record { machine = s.machine.now; form = s.form; mach = s.mach.now; isa = option_copied s.isa; elements = s.elements.now; at = known s.names.now }

abbrev pub seen_numbering : declared_numbering.Numbering → numbering.Numbering
seen_numbering n = get same_text n.numbers

abbrev pub seen_numbers : declared_numbers.Numbers → numbering.Numbers
seen_numbers n = record { fields = seen_numbering n.fields; multis = seen_numbering n.multis; hardware = seen_numbering n.hardware }
