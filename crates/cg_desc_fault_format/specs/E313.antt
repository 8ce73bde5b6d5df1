-- E313: the slots of syntax and format, or of `emit`, differ, or a slot stands twice in one syntax or format.
use Rattle.std.specs.Prelude.{ℕ, Bool, false, not, ◌&&◌, ◌||◌, ◌==◌, if◌then◌else◌, List, [], ◌∷◌, ◌++◌, filter, map, slice_get, is_some, Option, Some, None, codes}
use Rattle.std.specs.List.{filter_map, flat_map, list_any}
use Rattle.std.specs.Option.{option_map}
use Rattle.cg_base.specs.declared.form.Form.{Form}
use Rattle.cg_base.specs.Texts.{same_text, is_among, passes}
use Rattle.cg_attrs.specs.Clauses.{Clause}
use Rattle.cg_insn.specs.declared.form.MacroForm.{MacroForm}
use Rattle.cg_insn.specs.declared.form.InsnForm.TheVariants as insn
use Rattle.cg_desc_elements.specs.declared.element.Element.{Element}
use Rattle.cg_desc_elements.specs.declared.element.Element.TheVariants as element
use Rattle.cg_desc_elements.specs.Elements.{kind_of}
use Rattle.cg_model.specs.declared.insn.Given.{Given}
use Rattle.cg_model.specs.declared.insn.Given.TheVariants as given
use Rattle.cg_rtl_resolve.specs.Names.{place_of}
use Rattle.cg_desc_references.specs.Clauses.{clauses_of}
use Rattle.cg_desc_choices.specs.declared.written.Written.{Written}
use Rattle.cg_desc_choices.specs.declared.written.Spot.{Spot}
use Rattle.cg_desc_choices.specs.declared.written.WrittenPart.{WrittenPart}
use Rattle.cg_desc_choices.specs.declared.written.WrittenPiece.{WrittenPiece}
use Rattle.cg_desc_insns.specs.Choices.{slot_name}
use Rattle.cg_desc_insns.specs.Written.{all_pieces}
use Rattle.cg_desc_scope.specs.Described.{Described}
use Rattle.cg_desc_machine.specs.Instructions.{slot_of, slot_names}
use Rattle.cg_desc_machine.specs.Macros.{macro_slots, items_of, target_of, given_by}
use Rattle.cg_desc_fault_report.specs.declared.saying.Saying.{Saying}
use Rattle.cg_desc_fault_report.specs.declared.saying.Placed.{Placed}
use Rattle.cg_desc_fault_report.specs.Saying.{saying, said_where, earliest_said}
use Rattle.cg_desc_fault_report.specs.Spots.{at_spot}

-- A slot of a syntax that stands among those before it, or fails this test.
abbrev pub piece_at : (List ℕ → Bool) → List ℕ → List (List ℕ) → WrittenPiece → List ℕ → List Placed
piece_at fails own before p name = if is_among before name || fails name then at_spot p.spot (saying own name) ∷ [] else []

abbrev pub pieces_behind : (List ℕ → Bool) → List ℕ → List (List ℕ) → List WrittenPiece → List Placed
pieces_behind fails own before [] = []
pieces_behind fails own before (p ∷ ps) = elim (slot_of p) [
  | None ↦ pieces_behind fails own before ps
  | Some name ↦ piece_at fails own before p name ++ pieces_behind fails own (before ++ name ∷ []) ps
]

-- In the syntax of an instruction: a slot that the format lacks.
abbrev pub is_lacking : List (List ℕ) → List ℕ → Bool
is_lacking slots name = not (is_among slots name)

abbrev pub in_syntax : Described → Written → List Placed
in_syntax d w = pieces_behind (is_lacking (slot_names d w)) w.name [] w.pieces

-- In its format: a slot that stands among those before it, or that the syntax lacks.
abbrev pub slot_at : List ℕ → List (List ℕ) → List (List ℕ) → Spot → List ℕ → List Placed
slot_at own written before spot name = if is_among before name || not (is_among written name) then at_spot spot (saying own name) ∷ [] else []

abbrev pub parts_behind : List ℕ → List (List ℕ) → List (List ℕ) → List WrittenPart → List Placed
parts_behind own written before [] = []
parts_behind own written before (p ∷ ps) = elim (slot_name p) [
  | None ↦ parts_behind own written before ps
  | Some name ↦ slot_at own written before p.spot name ++ parts_behind own written (before ++ name ∷ []) ps
]

abbrev pub in_format : Written → List Placed
in_format w = parts_behind w.name (filter_map slot_of w.pieces) [] w.parts

abbrev pub of_syntaxes : Described → List Written → List Saying
of_syntaxes d ws = earliest_said (flat_map (in_syntax d) ws)

abbrev pub of_formats : List Written → List Saying
of_formats ws = earliest_said (flat_map in_format ws)

abbrev pub of_insn : Described → List Written → List ℕ → List Saying
of_insn d ws name =
    if same_text (codes "syntax") name then of_syntaxes d ws
    else if same_text (codes "format") name then of_formats ws
    else []

-- An item of a macro instruction. Those whose operands aren't the machine's are passed over.
abbrev pub Item : Type 0
Item = List ℕ × Option Form

abbrev pub is_known : Described → Item → Bool
is_known d x = is_some (d.operand_numbers x.0)

abbrev pub known_items : Described → MacroForm → List Item
known_items d form = filter (is_known d) (items_of form)

-- The slots that items are given, by their numbers.
abbrev pub slot_given : Option Given → Option ℕ
slot_given (Some (given.Slot k)) = Some k
slot_given _ = None

abbrev pub slot_used : Described → List (List ℕ) → Item → Option ℕ
slot_used d slots x = slot_given (given_by d slots x.0 x.1)

abbrev pub has_number : List ℕ → ℕ → Bool
has_number used k = list_any (λ n. n == k) used

abbrev pub is_used : List ℕ → Option ℕ → Bool
is_used used place = passes (has_number used) place

-- In its syntax: a slot that stands again, or that no item is given. Names that are no operands are passed over.
abbrev pub is_unused : List (List ℕ) → List ℕ → List ℕ → Bool
is_unused slots used name = is_among slots name && not (is_used used (place_of name slots))

abbrev pub used_by : Described → MacroForm → List (List ℕ) → List ℕ
used_by d form slots = filter_map (slot_used d slots) (known_items d form)

abbrev pub in_macro_syntax : Described → MacroForm → List (List ℕ) → List Placed
in_macro_syntax d form slots = pieces_behind (is_unused slots (used_by d form slots)) form.name [] (all_pieces form.syntax)

-- In what it emits: a slot of the emitted instruction without an item; then an item of another operand, one that stands again, and an
-- operand alone that is no slot of the syntax.
abbrev pub first_name : Item → List ℕ
first_name x = x.0

abbrev pub not_given : List ℕ → List Item → List ℕ → List Saying
not_given own known name = said_where (not (is_among (map first_name known) name)) (saying own name)

abbrev pub is_alone : List (List ℕ) → Item → Bool
is_alone slots x = elim x.1 [ None ↦ not (is_among slots x.0) | Some f ↦ false ]

abbrev pub is_wrong : List (List ℕ) → List (List ℕ) → List (List ℕ) → Item → Bool
is_wrong slots wanted before x = not (is_among wanted x.0) || is_among before x.0 || is_alone slots x

abbrev pub item_at : List ℕ → List (List ℕ) → List (List ℕ) → List (List ℕ) → Item → List Saying
item_at own slots wanted before x = said_where (is_wrong slots wanted before x) (saying own x.0)

abbrev pub items_behind : List ℕ → List (List ℕ) → List (List ℕ) → List (List ℕ) → List Item → List Saying
items_behind own slots wanted before [] = []
items_behind own slots wanted before (x ∷ xs) = item_at own slots wanted before x ++ items_behind own slots wanted (before ++ x.0 ∷ []) xs

abbrev pub in_emit : Described → MacroForm → List (List ℕ) → List (List ℕ) → List Saying
in_emit d form slots wanted = flat_map (not_given form.name (known_items d form)) wanted ++ items_behind form.name slots wanted [] (known_items d form)

-- The slots of the emitted instruction.
abbrev pub slots_at : Described → Option ℕ → Option (List (List ℕ))
slots_at d None = None
slots_at d (Some k) = option_map (slot_names d) (slice_get d.written k)

abbrev pub emitted_slots : Described → MacroForm → Option (List (List ℕ))
emitted_slots d form = slots_at d (target_of d.written form)

abbrev pub of_macro_syntax : Described → MacroForm → List (List ℕ) → List Saying
of_macro_syntax d form slots = earliest_said (in_macro_syntax d form slots)

-- The clause in which `emit` stands has two names.
abbrev pub gives_emitted : List ℕ → Bool
gives_emitted name = same_text (codes "expansions") name || same_text (codes "expansion") name

abbrev pub of_macro : Described → MacroForm → List (List ℕ) → List (List ℕ) → List ℕ → List Saying
of_macro d form slots wanted name =
    if same_text (codes "syntax") name then of_macro_syntax d form slots
    else if gives_emitted name then in_emit d form slots wanted
    else []

abbrev pub by_wanted : Described → MacroForm → List (List ℕ) → List ℕ → List Saying
by_wanted d form wanted name = of_macro d form (macro_slots d.operand_numbers form) wanted name

abbrev pub macro_clause : Described → MacroForm → Option (List (List ℕ)) → List ℕ → List Saying
macro_clause d form None name = []
macro_clause d form (Some wanted) name = by_wanted d form wanted name

abbrev pub in_clause : Described → Element → List Written → Clause → List Saying
in_clause d (element.Insn (insn.Instruction form)) ws c = of_insn d ws c.name
in_clause d (element.Insn (insn.Macro form)) ws c = macro_clause d form (emitted_slots d form) c.name
in_clause d _ ws c = []

abbrev pub e313 : Described → Element → Form → List Written → List Saying
e313 d e f ws = flat_map (in_clause d e ws) (clauses_of (kind_of e) f)
