-- E308: a count is passed that a machine, or an element of it, may have. It is passed by the element with which it is.
use Rattle.std.specs.Prelude.{ℕ, suc, ◌+◌, ◌&&◌, nat_le, nat_lt, List, [], ◌∷◌, ◌++◌, length, Option, Some, None}
use Rattle.cg_model.specs.Matching.{length_of}
use Rattle.cg_model_faults.specs.Finding.{Faults, at_place, where_so}
use Rattle.cg_model_faults.specs.E313.{slot_operands}
use Rattle.cg_model_faults.specs.declared.fault.Said.TheVariants.{Count}
use Rattle.cg_model.specs.declared.field.Field.{Field}
use Rattle.cg_model.specs.declared.field.Multi.{Multi}
use Rattle.cg_model.specs.declared.hardware.Hardware.{Hardware}
use Rattle.cg_model.specs.declared.hardware.Keyword.{Keyword}
use Rattle.cg_model.specs.declared.hardware.NamedValue.{NamedValue}
use Rattle.cg_model.specs.declared.insn.Insn.{Insn}
use Rattle.cg_model.specs.declared.insn.MacroInsn.{MacroInsn}
use Rattle.cg_model.specs.declared.insn.Piece.{Piece}
use Rattle.cg_model.specs.declared.insn.Piece.TheVariants.{Literal, Slot}
use Rattle.cg_model.specs.declared.machine.Machine.{Machine}
use Rattle.cg_model.specs.declared.operand.Operand.{Operand}
use Rattle.cg_model.specs.declared.rtl.Rtl.{Rtl}
use Rattle.cg_model.specs.declared.rtl.Rtl.TheOpen.{Rtl-F}
use Rattle.cg_model.specs.declared.rtl.Rtl.TheFolds.{fold-Rtl}

-- A limit is passed by what makes so many before so many now.
abbrev pub passing : ℕ → ℕ → ℕ → Faults
passing limit before now = where_so (nat_le before limit && nat_lt limit now) (at_place 308 0 (Count limit) (Count now))

-- A limit of one element is passed.
abbrev pub too_many : ℕ → ℕ → Faults
too_many limit count = passing limit 0 count

-- A text has too many bytes: one text, one of some, a word of hardware, and a literal of a syntax.
abbrev pub long_text : List ℕ → Faults
long_text text = too_many 4194304 (length text)

abbrev pub long_texts : List (List ℕ) → Faults
long_texts [] = []
long_texts (t ∷ ts) = long_text t ++ long_texts ts

abbrev pub long_words : List NamedValue → Faults
long_words [] = []
long_words (w ∷ ws) = long_text w.word ++ long_words ws

abbrev pub long_words_where : Option Keyword → Faults
long_words_where None = []
long_words_where (Some k) = long_words k.words

abbrev pub long_piece : Piece → Faults
long_piece (Literal text) = long_text text
long_piece (Slot s) = []

abbrev pub long_literals : List Piece → Faults
long_literals [] = []
long_literals (p ∷ ps) = long_piece p ++ long_literals ps

-- How many nodes an expression has, and some have together.
abbrev pub sum_of : List ℕ → ℕ
sum_of [] = 0
sum_of (n ∷ ns) = n + sum_of ns

abbrev pub nodes_step : Rtl-F ℕ → ℕ
nodes_step f = suc (sum_of f.items)

unfoldable pub nodes : Rtl → ℕ
nodes rtl = fold-Rtl ℕ nodes_step rtl

abbrev pub nodes_where : Option Rtl → ℕ
nodes_where None = 0
nodes_where (Some rtl) = nodes rtl

abbrev pub nodes_of_all : List Rtl → ℕ
nodes_of_all [] = 0
nodes_of_all (r ∷ rs) = nodes r + nodes_of_all rs

-- The nodes of the expressions of an element.
abbrev pub field_nodes : Field → ℕ
field_nodes f = nodes_where f.encode + nodes_where f.decode

abbrev pub multi_nodes : Multi → ℕ
multi_nodes x = nodes_of_all x.insert + nodes x.extract

abbrev pub hardware_nodes : Hardware → ℕ
hardware_nodes h = nodes_where h.get + nodes_where h.set

abbrev pub insn_nodes : Insn → ℕ
insn_nodes i = nodes_where i.assertion + nodes i.semantics

-- What all of some elements have together.
abbrev pub all_field_nodes : List Field → ℕ
all_field_nodes [] = 0
all_field_nodes (f ∷ fs) = field_nodes f + all_field_nodes fs

abbrev pub all_multi_nodes : List Multi → ℕ
all_multi_nodes [] = 0
all_multi_nodes (x ∷ xs) = multi_nodes x + all_multi_nodes xs

abbrev pub all_hardware_nodes : List Hardware → ℕ
all_hardware_nodes [] = 0
all_hardware_nodes (h ∷ hs) = hardware_nodes h + all_hardware_nodes hs

abbrev pub all_cells : List Hardware → ℕ
all_cells [] = 0
all_cells (h ∷ hs) = h.count + all_cells hs

abbrev pub words_of : Hardware → ℕ
words_of h = elim h.keyword [ None ↦ 0 | Some k ↦ length k.words ]

-- Of elements that so many of their kind stand before, and so many nodes of expressions.
abbrev pub of_field : ℕ → ℕ → Field → Faults
of_field before spent f = passing 1024 before (suc before) ++ passing 1000000 spent (spent + field_nodes f) ++ long_text f.name

abbrev pub of_multi : ℕ → ℕ → Multi → Faults
of_multi before spent x = passing 1024 before (suc before) ++ passing 1000000 spent (spent + multi_nodes x) ++ long_text x.name

abbrev pub of_hardware : ℕ → ℕ → ℕ → Hardware → Faults
of_hardware before cells spent h =
    passing 256 before (suc before) ++ passing 65536 cells (cells + h.count) ++ too_many 1024 (words_of h) ++ passing 1000000 spent (spent + hardware_nodes h)
    ++ long_text h.name ++ long_words_where h.keyword

abbrev pub of_operand : ℕ → Operand → Faults
of_operand before o = passing 1024 before (suc before) ++ long_text o.name

-- The limits of a syntax: its pieces and its slots.
abbrev pub of_syntax : ℕ → ℕ → Faults
of_syntax pieces slots = too_many 64 pieces ++ too_many 16 slots

-- Those of an instruction by itself: its pieces and slots, its bytes, and its cycles.
abbrev pub of_shape : Machine → Insn → Faults
of_shape m i = of_syntax (length i.pieces) (length (slot_operands i.parts)) ++ too_many 16 (length_of m i) ++ too_many 67107840 i.cycles

abbrev pub of_insn : ℕ → Insn → Faults
of_insn spent i = passing 1000000 spent (spent + insn_nodes i) ++ long_text i.name ++ long_literals i.pieces

abbrev pub of_macro : ℕ → MacroInsn → Faults
of_macro before x = passing 1024 before (suc before) ++ long_text x.name ++ long_literals x.pieces

abbrev pub of_texts : Machine → Faults
of_texts m = too_many 1000000 (length m.texts) ++ long_texts m.texts
