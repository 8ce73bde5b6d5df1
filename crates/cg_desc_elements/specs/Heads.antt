-- Which reader reads a form: the one that has the symbol that heads it among its own.
use Rattle.std.specs.Prelude.{ℕ, List, map, ◌++◌, Option}
use Rattle.cg_attrs.specs.Judging.{Named, kind_among}
use Rattle.cg_attrs.specs.Tables as frames
use Rattle.cg_ifield.specs.Tables as fields
use Rattle.cg_hw.specs.Tables as hardware
use Rattle.cg_operand.specs.Tables as operands
use Rattle.cg_insn.specs.Tables as insns
use Rattle.cg_desc_elements.specs.declared.reading.Reader.{Reader}
use Rattle.cg_desc_elements.specs.declared.reading.Reader.TheVariants.{Frames, Fields, Hardware, Operands, Insns}

-- the symbol heads a form of this reader
abbrev pub reads : {K : Type 0} → Reader → Named K → Named Reader
reads reader x = (x.0, reader)

-- The symbols that head forms, each with the reader that has it.
abbrev pub heads : List (Named Reader)
heads =
    map (reads Frames) frames.heads ++ map (reads Fields) fields.heads ++ map (reads Hardware) hardware.heads ++
    map (reads Operands) operands.heads ++ map (reads Insns) insns.heads

-- The reader of the forms that a symbol heads.
unfoldable pub reader_named : List ℕ → Option Reader
reader_named head = kind_among head heads
