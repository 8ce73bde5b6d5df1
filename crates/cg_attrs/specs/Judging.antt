-- What is at fault in a form, by the kinds of form that its reader reads: for each refusal, the texts at fault, in the order
-- of their places in the form from left to right.
use Rattle.std.specs.Prelude.{◌≡◌, ℕ, if◌then◌else◌, List, [], ◌∷◌, length, drop, map, Option, Some, None, Result, Ok, Err, codes}
use Rattle.std.specs.List.{flat_map, zip}
use Rattle.std.specs.Borrow.{Bor}
use Rattle.cg_base.specs.declared.form.Form.{Form}
use Rattle.cg_base.specs.declared.fault.Fault as declared
use Rattle.cg_attrs.specs.declared.judge.Named as declared_named
use Rattle.cg_attrs.specs.declared.judge.Table as declared_table
use Rattle.cg_attrs.specs.declared.judge.Table.TheVariants as table
use Rattle.cg_base.specs.Parts.{Headed, headed}
use Rattle.cg_base.specs.Texts.{same_text}
use Rattle.cg_base.specs.Refusing.{FaultTexts, seen_fault, least}
use Rattle.cg_attrs.specs.Clauses.{Row, Texts, seen, clause_faults}

-- A word, and what it names: as a symbol, and the form that it heads.
abbrev pub Named : Type 0 → Type 0
Named K = List ℕ × K

abbrev pub seen_named : {K : Type 0} → declared_named.Named K → Named K
seen_named h = (h.name.now, h.kind)

-- What a word names among these.
abbrev pub kind_among : {K : Type 0} → List ℕ → List (Named K) → Option K
kind_among name [] = None
kind_among name (x ∷ xs) = if same_text x.0 name then Some x.1 else kind_among name xs

-- What may stand behind the head of a form: clauses in any order, or arguments by their places.
pub data Table (C : Type 0) : Type 0 where
  Clauses : List (Row C) → Table C
  Arguments : List (Row C) → Table C

abbrev pub seen_table : {C : Type 0} → declared_table.Table C → Table C
seen_table (table.Clauses rows) = Clauses (map seen rows.now)
seen_table (table.Arguments rows) = Arguments (map seen rows.now)

-- The symbol that heads an argument, else `clause`.
abbrev pub heading_in : Option Headed → List ℕ
heading_in None = codes "clause"
heading_in (Some x) = x.0

abbrev pub heading : Form → List ℕ
heading f = heading_in (headed f)

-- E302 of arguments by their places: the headings of those that have no row.
abbrev pub extra : {C : Type 0} → List (Row C) → List Form → List (List ℕ)
extra rows arguments = map heading (drop (length rows) arguments)

-- E303: the names of the rows that have no argument.
abbrev pub missing : {C : Type 0} → List (Row C) → List Form → List (List ℕ)
missing rows arguments = map (λ r. r.name) (drop (length arguments) rows)

-- E304: each argument is judged as a clause that has it alone behind its row's name.
abbrev pub wrong_argument : {C : Type 0} → Texts C → Row C × Form → List (List ℕ)
wrong_argument texts x = texts x.0.content (record { name = x.0.name; content = x.1 ∷ []; elements = [] })

abbrev pub wrong_arguments : {C : Type 0} → Texts C → List (Row C) → List Form → List (List ℕ)
wrong_arguments texts rows arguments = flat_map (wrong_argument texts) (zip rows arguments)

-- The faults of arguments by their places.
abbrev pub argument_faults : {C : Type 0} → Texts C → List (Row C) → List Form → FaultTexts
argument_faults wrongs rows arguments = (302, extra rows arguments) ∷ (303, missing rows arguments) ∷ (304, wrong_arguments wrongs rows arguments) ∷ []

-- The faults of the elements behind the head of a form that has this table.
abbrev pub table_faults : {C : Type 0} → Texts C → Texts C → Table C → List Form → FaultTexts
table_faults wrongs left_outs (Clauses rows) elements = clause_faults wrongs left_outs rows elements
table_faults wrongs left_outs (Arguments rows) elements = argument_faults wrongs rows elements

-- The same of a form of this kind.
abbrev pub own_faults : {K C : Type 0} → Texts C → Texts C → (K → Table C) → K → List Form → FaultTexts
own_faults wrongs left_outs tables k elements = table_faults wrongs left_outs (tables k) elements

-- What a form is to a reader: no list that a symbol heads; the form `if`, which is left out; a form that another symbol heads;
-- a form that it reads, with the elements behind its head.
pub data Recognized (K : Type 0) : Type 0 where
  Headless : Recognized K
  TheFormIf : Recognized K
  Unknown : List ℕ → Recognized K
  Known : K → List Form → Recognized K

abbrev pub recognized_by : {K : Type 0} → Headed → Option K → Recognized K
recognized_by x None = Unknown x.0
recognized_by x (Some k) = Known k x.1

abbrev pub recognized_in : {K : Type 0} → (List ℕ → Option K) → Option Headed → Recognized K
recognized_in named None = Headless
recognized_in named (Some x) = if same_text (codes "if") x.0 then TheFormIf else recognized_by x (named x.0)

abbrev pub recognized : {K : Type 0} → (List ℕ → Option K) → Form → Recognized K
recognized named f = recognized_in named (headed f)

-- What is at fault in a form.
abbrev pub form_faults : {K : Type 0} → (K → List Form → FaultTexts) → Recognized K → FaultTexts
form_faults own Headless = (301, codes "form" ∷ []) ∷ []
form_faults own TheFormIf = (307, codes "if" ∷ []) ∷ []
form_faults own (Unknown head) = (301, head ∷ []) ∷ []
form_faults own (Known k elements) = own k elements

-- What a form says, by what the elements behind its head say.
abbrev pub said : {K A : Type 0} → (K → List Form → A) → Recognized K → Option A
said says (Known k elements) = Some (says k elements)
said says _ = None

-- A form without fault is of this kind and has these elements; otherwise this is its least fault.
abbrev pub Judged : {K : Type 0} → (K → List Form → FaultTexts) → Recognized K → Result (K × Bor (List Form)) declared.Fault → Type 0
Judged own form (Ok x) = (least (form_faults own form) ≡ None) × (form ≡ Known x.0 x.1.now)
Judged own form (Err fault) = least (form_faults own form) ≡ Some (seen_fault fault)
