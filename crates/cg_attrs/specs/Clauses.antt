-- The clauses of a form, by a table that has a row for each.
use Rattle.std.specs.Prelude.{ℕ, Bool, true, false, not, ◌&&◌, ◌||◌, ◌==◌, if◌then◌else◌, List, [], ◌∷◌, length, take, Option, Some, None, codes}
use Rattle.std.specs.List.{find, list_any, filter_map, flat_map, enumerate_from}
use Rattle.cg_base.specs.declared.form.Form.{Form}
use Rattle.cg_attrs.specs.declared.clauses.Clause as declared_clause
use Rattle.cg_attrs.specs.declared.clauses.Row as declared
use Rattle.cg_attrs.specs.declared.clauses.Role as declared_role
use Rattle.cg_attrs.specs.declared.clauses.Role.TheVariants as role
use Rattle.cg_base.specs.Parts.{◌>>=◌, Headed, headed, only_flag}
use Rattle.cg_base.specs.Texts.{same_text, is_among, passes}
use Rattle.cg_base.specs.Refusing.{FaultTexts}
use Rattle.cg_attrs.specs.Attrs.{wrong_attrs}

-- A clause as it stands in a form: its name as written, what stands behind the name, and the elements behind the form's
-- head. An argument that stands by its place is seen as a clause that knows no other elements.
pub record Clause : Type 0 where
  pub name : List ℕ
  pub content : List Form
  pub elements : List Form

abbrev pub seen_clause : declared_clause.Clause → Clause
seen_clause c = record { name = c.name.now; content = c.content.now; elements = c.elements.now }

-- What a clause is to its form: it has to stand; it has to stand where the clause of another name stands; it may stand; it may
-- stand again; it may stand and has no effect; it is left out; it is another spelling of the clause of that name.
pub data Role : Type 0 where
  Wanted : Role
  WantedBeside : List ℕ → Role
  Optional : Role
  Repeated : Role
  Plain : Role
  LeftOut : Role
  SpellingOf : List ℕ → Role

abbrev pub seen_role : declared_role.Role → Role
seen_role role.Wanted = Wanted
seen_role (role.WantedBeside name) = WantedBeside name.now
seen_role role.Optional = Optional
seen_role role.Repeated = Repeated
seen_role role.Plain = Plain
seen_role role.LeftOut = LeftOut
seen_role (role.SpellingOf name) = SpellingOf name.now

-- A clause that a form may have: its name, what it is to the form, and what has to stand behind the name.
pub record Row (C : Type 0) : Type 0 where
  pub name : List ℕ
  pub role : Role
  pub content : C

abbrev pub seen : {C : Type 0} → declared.Row C → Row C
seen r = record { name = r.name.now; role = seen_role r.role; content = r.content }

-- The row of the clause with this name.
abbrev pub row_named : {C : Type 0} → List (Row C) → List ℕ → Option (Row C)
row_named rows name = find (λ r. same_text r.name name) rows

-- The clauses that every form may have besides its rows.
abbrev pub is_besides : List ℕ → Bool
is_besides name = is_among (codes "comment" ∷ codes "attrs" ∷ []) name

-- The clauses that hold a rule.
abbrev pub holds_rule : List ℕ → Bool
holds_rule name = is_among (codes "encode" ∷ codes "decode" ∷ codes "insert" ∷ codes "extract" ∷ codes "get" ∷ codes "set" ∷ []) name

-- A clause with nothing behind its name counts as absent, and so does one with `#f` behind the name of a rule, in whatever form
-- it stands.
abbrev pub counts_absent : List ℕ → List Form → Bool
counts_absent name content = length content == 0 || (holds_rule name && passes not (only_flag content))

-- A clause of this name, as written, that doesn't count as absent.
abbrev pub is_clause : List ℕ → Option Headed → Bool
is_clause name None = false
is_clause name (Some x) = same_text x.0 name && not (counts_absent x.0 x.1)

abbrev pub stands_as : List ℕ → Form → Bool
stands_as name f = is_clause name (headed f)

-- What stands behind the name of the first clause of this name that doesn't count as absent.
abbrev pub content_in : Headed → Option (List Form)
content_in x = Some x.1

unfoldable pub content_of : Form → Option (List Form)
content_of f = headed f >>= content_in

unfoldable pub content_at : List ℕ → List Form → Option (List Form)
content_at name fs = find (stands_as name) fs >>= content_of

-- The name under which a clause counts: the other one, where its row is another spelling.
abbrev pub name_by : List ℕ → Role → List ℕ
name_by name (SpellingOf other) = other
name_by name _ = name

abbrev pub name_in : {C : Type 0} → List ℕ → Option (Row C) → List ℕ
name_in name None = name
name_in name (Some r) = name_by name r.role

abbrev pub counts_as : {C : Type 0} → List (Row C) → List ℕ → List ℕ
counts_as rows name = name_in name (row_named rows name)

-- A clause that counts under this name, and doesn't count as absent.
abbrev pub is_counted : {C : Type 0} → List (Row C) → List ℕ → Option Headed → Bool
is_counted rows name None = false
is_counted rows name (Some x) = same_text (counts_as rows x.0) name && not (counts_absent x.0 x.1)

abbrev pub stands_for : {C : Type 0} → List (Row C) → List ℕ → Form → Bool
stands_for rows name f = is_counted rows name (headed f)

-- A clause that may stand again.
abbrev pub is_repeated : Role → Bool
is_repeated Repeated = true
is_repeated _ = false

-- A clause may stand behind those before it where a row has its name, unless another that counts under the same name stands
-- there and it may not be repeated.
abbrev pub may_stand_by : {C : Type 0} → List (Row C) → List Form → List ℕ → Option (Row C) → Bool
may_stand_by rows before name None = false
may_stand_by rows before name (Some r) = is_repeated r.role || not (list_any (stands_for rows (name_by name r.role)) before)

abbrev pub may_stand : {C : Type 0} → List (Row C) → List Form → List ℕ → Bool
may_stand rows before name =
    if is_besides name then not (list_any (stands_for rows name) before)
    else may_stand_by rows before name (row_named rows name)

-- The text of E302 of an element behind those before it: the name of a clause that may not stand there, and `clause` where it
-- is no list headed by a symbol.
abbrev pub misplaced_as : {C : Type 0} → List (Row C) → List Form → Option Headed → Option (List ℕ)
misplaced_as rows before None = Some (codes "clause")
misplaced_as rows before (Some x) = if counts_absent x.0 x.1 || may_stand rows before x.0 then None else Some x.0

abbrev pub misplaced_at : {C : Type 0} → List (Row C) → List Form → Form → Option (List ℕ)
misplaced_at rows before f = misplaced_as rows before (headed f)

-- the element at a place, behind as many as the place says
abbrev pub misplaced_among : {C : Type 0} → List (Row C) → List Form → ℕ × Form → Option (List ℕ)
misplaced_among rows elements x = misplaced_at rows (take x.0 elements) x.1

-- E302: the texts of the elements that may not stand behind those before them.
abbrev pub misplaced : {C : Type 0} → List (Row C) → List Form → List (List ℕ)
misplaced rows elements = filter_map (misplaced_among rows elements) (enumerate_from 0 elements)

-- A clause is wanted for its role alone, or where the clause stands that it stands beside.
abbrev pub is_wanted : {C : Type 0} → List (Row C) → List Form → Role → Bool
is_wanted rows elements Wanted = true
is_wanted rows elements (WantedBeside other) = list_any (stands_for rows other) elements
is_wanted rows elements _ = false

-- the name of a row whose clause is wanted and absent
abbrev pub absent_at : {C : Type 0} → List (Row C) → List Form → Row C → Option (List ℕ)
absent_at rows elements r = if is_wanted rows elements r.role && not (list_any (stands_for rows r.name) elements) then Some r.name else None

-- E303: the names of the wanted clauses that are absent, in the order of the rows.
abbrev pub absent : {C : Type 0} → List (Row C) → List Form → List (List ℕ)
absent rows elements = filter_map (absent_at rows elements) rows

-- The clauses that stand among the elements: each list that a symbol heads, but for those that count as absent.
abbrev pub standing_as : List Form → Headed → Option Clause
standing_as elements x = if counts_absent x.0 x.1 then None else Some (record { name = x.0; content = x.1; elements = elements })

unfoldable pub standing : List Form → Form → Option Clause
standing elements f = headed f >>= standing_as elements

abbrev pub clauses : List Form → List Clause
clauses elements = filter_map (standing elements) elements

-- What a content says of a clause that has it: the texts at fault, in the order of their places.
abbrev pub Texts : Type 0 → Type 0
Texts C = C → Clause → List (List ℕ)

-- E304 of a clause: the texts that its row's content gives, and `attrs` where that clause has an element that is no attribute.
abbrev pub wrong_by : {C : Type 0} → Texts C → Clause → Option (Row C) → List (List ℕ)
wrong_by texts c None = []
wrong_by texts c (Some r) = texts r.content c

abbrev pub wrong_standing : {C : Type 0} → Texts C → List (Row C) → Clause → List (List ℕ)
wrong_standing texts rows c = if same_text (codes "attrs") c.name then wrong_attrs c.content else wrong_by texts c (row_named rows c.name)

-- E304: the texts of all clauses.
abbrev pub wrong : {C : Type 0} → Texts C → List (Row C) → List Form → List (List ℕ)
wrong texts rows elements = flat_map (wrong_standing texts rows) (clauses elements)

-- E307 of a clause: its name where it is left out, else the texts that its row's content gives.
abbrev pub left_out_as : {C : Type 0} → Texts C → Clause → Row C → Role → List (List ℕ)
left_out_as texts c r LeftOut = r.name ∷ []
left_out_as texts c r _ = texts r.content c

abbrev pub left_out_by : {C : Type 0} → Texts C → Clause → Option (Row C) → List (List ℕ)
left_out_by texts c None = []
left_out_by texts c (Some r) = left_out_as texts c r r.role

abbrev pub left_out_standing : {C : Type 0} → Texts C → List (Row C) → Clause → List (List ℕ)
left_out_standing texts rows c = left_out_by texts c (row_named rows c.name)

-- E307: the texts of all clauses.
abbrev pub left_out : {C : Type 0} → Texts C → List (Row C) → List Form → List (List ℕ)
left_out texts rows elements = flat_map (left_out_standing texts rows) (clauses elements)

-- The texts at fault under each number, of the elements behind the head of a form.
abbrev pub clause_faults : {C : Type 0} → Texts C → Texts C → List (Row C) → List Form → FaultTexts
clause_faults wrongs left_outs rows elements =
    (302, misplaced rows elements) ∷ (303, absent rows elements) ∷ (304, wrong wrongs rows elements) ∷ (307, left_out left_outs rows elements) ∷ []
