-- The reader's steps, one byte at a time.
use Rattle.std.specs.Prelude.{ℕ, ◌==◌, nat_lt, if◌then◌else◌, List, [], ◌∷◌, ◌++◌, length, Option, Some, None, Result, Ok, Err, codes}
use Rattle.cg_base.specs.declared.kind.Kind.{Kind}
use Rattle.cg_base.specs.declared.kind.Kind.TheVariants.{Blank, Opening, Closing, Quote, Semicolon}
use Rattle.cg_base.specs.declared.kind.NoToken.{NoToken}
use Rattle.cg_base.specs.declared.form.Form.{Form}
use Rattle.cg_base.specs.declared.form.Form.TheVariants.{Str, Items}
use Rattle.cg_base.specs.declared.form.Top.{Top}
use Rattle.cg_base.specs.declared.refusal.Refusal.{Refusal}
use Rattle.cg_base.specs.Grammar.{kind_of, is_letter, is_string_byte, escape, token, next_line}
use Rattle.cg_base.specs.Refusing.{refusal_at}
use Rattle.cg_base.specs.Faults.{hex_byte, refused_as}
use Rattle.cg_base.specs.Reading.{top}
use Rattle.cg_sexp.specs.declared.stack.Open.{Open}
use Rattle.cg_sexp.specs.declared.reader.Mode.{Mode}
use Rattle.cg_sexp.specs.declared.reader.Mode.TheVariants.{Outside, Quoted, Escaping, Comment}

abbrev pub and_then : {A B E : Type 0} → (A → Result B E) → Result A E → Result B E
and_then f (Ok a) = f a
and_then f (Err e) = Err e

-- The forms so far: those that stand in no other, and the lists that are open, the innermost first.
pub record Nest : Type 0 where
  pub file : ℕ
  pub tops : List Top
  pub lists : List Open

-- The list holds one form more.
abbrev pub held_by : Form → Open → Open
held_by f o = record { forms = o.forms ++ f ∷ []; line = o.line }

-- The form that begins on line l stands in the innermost list, or in none.
abbrev pub put_in : ℕ → List Top → List Open → Form → ℕ → Nest
put_in file tops [] f l = record { file = file; tops = tops ++ top file (f, l) ∷ []; lists = [] }
put_in file tops (o ∷ os) f l = record { file = file; tops = tops; lists = held_by f o ∷ os }

abbrev pub put : Form → ℕ → Nest → Nest
put f l n = put_in n.file n.tops n.lists f l

-- A list begins on line l.
abbrev pub pushed : ℕ → Nest → Nest
pushed l n = record { file = n.file; tops = n.tops; lists = record { forms = []; line = l } ∷ n.lists }

abbrev pub opened : ℕ → Nest → Result Nest Refusal
opened l n = if nat_lt (length n.lists) 200 then Ok (pushed l n) else Err (refusal_at n.file l (105, codes "200"))

-- The innermost list ends on line l.
abbrev pub closed_in : ℕ → List Top → List Open → ℕ → Result Nest Refusal
closed_in file tops [] l = Err (refusal_at file l (103, codes ")"))
closed_in file tops (o ∷ os) l = Ok (put_in file tops os (Items o.forms) o.line)

abbrev pub closed : ℕ → Nest → Result Nest Refusal
closed l n = closed_in n.file n.tops n.lists l

-- The text ends.
abbrev pub whole_in : ℕ → List Top → List Open → Result (List Top) Refusal
whole_in file tops [] = Ok tops
whole_in file tops (o ∷ os) = Err (refusal_at file o.line (102, codes "list"))

abbrev pub whole : Nest → Result (List Top) Refusal
whole n = whole_in n.file n.tops n.lists

-- Where the reader stands: `held` are the bytes so far of a token or string.
pub record State : Type 0 where
  pub mode : Mode
  pub held : List ℕ
  pub line : ℕ
  pub nest : Nest

abbrev pub outside : List ℕ → ℕ → Nest → State
outside held l n = record { mode = Outside; held = held; line = l; nest = n }

abbrev pub between : ℕ → Nest → State
between l n = outside [] l n

abbrev pub in_string : ℕ → List ℕ → ℕ → Nest → State
in_string start held l n = record { mode = Quoted start; held = held; line = l; nest = n }

abbrev pub in_escape : ℕ → List ℕ → ℕ → Nest → State
in_escape start held l n = record { mode = Escaping start; held = held; line = l; nest = n }

abbrev pub in_comment : ℕ → Nest → State
in_comment l n = record { mode = Comment; held = []; line = l; nest = n }

-- The token on line l stands for this form, or for none.
abbrev pub read_as : Result Form NoToken → List ℕ → ℕ → Nest → Result Nest Refusal
read_as (Ok f) held l n = Ok (put f l n)
read_as (Err fault) held l n = Err (refusal_at n.file l (refused_as fault, held))

-- A token ends, if there is one.
abbrev pub settled : List ℕ → ℕ → Nest → Result Nest Refusal
settled [] l n = Ok n
settled (b ∷ bs) l n = read_as (token (b ∷ bs)) (b ∷ bs) l n

-- A byte that stands in no token.
abbrev pub apart : Kind → ℕ → ℕ → Nest → Result State Refusal
apart Blank b l n = Ok (between (next_line l b) n)
apart Opening b l n = and_then (λ m. Ok (between l m)) (opened l n)
apart Closing b l n = and_then (λ m. Ok (between l m)) (closed l n)
apart Quote b l n = Ok (in_string l [] l n)
apart Semicolon b l n = Ok (in_comment l n)
apart _ b l n = Err (refusal_at n.file l (101, hex_byte b))

abbrev pub outside_step : List ℕ → ℕ → ℕ → Nest → Result State Refusal
outside_step held b l n =
    if is_letter (kind_of b) then Ok (outside (held ++ b ∷ []) l n)
    else and_then (apart (kind_of b) b l) (settled held l n)

abbrev pub string_step : ℕ → List ℕ → ℕ → ℕ → Nest → Result State Refusal
string_step start held b l n =
    if b == 34 then Ok (between l (put (Str held) start n))
    else if b == 92 then Ok (in_escape start held l n)
    else if is_string_byte b then Ok (in_string start (held ++ b ∷ []) (next_line l b) n)
    else Err (refusal_at n.file l (101, hex_byte b))

-- `\` and byte b stand for these bytes, or for none.
abbrev pub escape_as : Option (List ℕ) → ℕ → List ℕ → ℕ → ℕ → Nest → Result State Refusal
escape_as (Some m) start held b l n = Ok (in_string start (held ++ m) (next_line l b) n)
escape_as None start held b l n = Err (refusal_at n.file l (101, hex_byte 92))

abbrev pub escape_step : ℕ → List ℕ → ℕ → ℕ → Nest → Result State Refusal
escape_step start held b l n = escape_as (escape b) start held b l n

abbrev pub comment_step : List ℕ → ℕ → ℕ → Nest → State
comment_step held b l n = if b == 10 then outside held (next_line l b) n else record { mode = Comment; held = held; line = l; nest = n }

abbrev pub step : State → ℕ → Result State Refusal
step s b = elim s.mode [ Outside ↦ outside_step s.held b s.line s.nest | Quoted start ↦ string_step start s.held b s.line s.nest | Escaping start ↦ escape_step start s.held b s.line s.nest | Comment ↦ Ok (comment_step s.held b s.line s.nest) ]

-- The text ends.
abbrev pub finish : State → Result (List Top) Refusal
finish s = elim s.mode [ Outside ↦ and_then whole (settled s.held s.line s.nest) | Quoted start ↦ Err (refusal_at s.nest.file start (102, codes "string")) | Escaping start ↦ Err (refusal_at s.nest.file start (102, codes "string")) | Comment ↦ whole s.nest ]

abbrev pub ends : State → List ℕ → Result (List Top) Refusal
ends s [] = finish s
ends s (b ∷ bs) = and_then (λ t. ends t bs) (step s b)

abbrev pub empty_nest : ℕ → Nest
empty_nest file = record { file = file; tops = []; lists = [] }

abbrev pub read_all : ℕ → List ℕ → Result (List Top) Refusal
read_all file bytes = ends (between 1 (empty_nest file)) bytes
