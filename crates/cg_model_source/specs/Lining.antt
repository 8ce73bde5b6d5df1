-- What a line of source says: its label, and its statement.
use Rattle.std.specs.Prelude.{ℕ, Bool, true, false, not, ◌&&◌, ◌||◌, ◌==◌, nat_le, if◌then◌else◌, List, [], ◌∷◌, length, drop, Option, Some, None, codes}
use Rattle.std.specs.List.{list_all, prefix_len, take_while}
use Rattle.cg_base.specs.Texts.{is_among}
use Rattle.cg_model_source.specs.Spelling.{is_label, is_in_label}
use Rattle.cg_model_source.specs.Squeezing.{is_blank}

-- A byte that may stand in a line: a tab, a carriage return, a blank and the printable characters.
abbrev pub is_line_byte : ℕ → Bool
is_line_byte b = b == 9 || b == 13 || (nat_le 32 b && nat_le b 126)

-- A line may be read: it has such bytes alone, and no more of them than this.
abbrev pub is_readable : ℕ → List ℕ → Bool
is_readable longest line = list_all is_line_byte line && nat_le (length line) longest

-- Without the blanks in front; and without those at the end.
abbrev pub without_front : List ℕ → List ℕ
without_front text = drop (prefix_len is_blank text) text

abbrev pub without_end : List ℕ → List ℕ
without_end [] = []
without_end (b ∷ bs) = if list_all is_blank (b ∷ bs) then [] else b ∷ without_end bs

abbrev pub trimmed : List ℕ → List ℕ
trimmed text = without_end (without_front text)

-- A line up to its comment, which begins at the first `;` outside a string. Each `"` opens a string or ends it.
abbrev pub uncommented : Bool → List ℕ → List ℕ
uncommented in_string [] = []
uncommented in_string (b ∷ bs) = if b == 59 && not in_string then [] else b ∷ uncommented (if b == 34 then not in_string else in_string) bs

-- A text parted at each byte such as this.
abbrev pub put_in_front : ℕ → List (List ℕ) → List (List ℕ)
put_in_front b [] = (b ∷ []) ∷ []
put_in_front b (t ∷ ts) = (b ∷ t) ∷ ts

abbrev pub parted_at : ℕ → List ℕ → List (List ℕ)
parted_at byte [] = [] ∷ []
parted_at byte (b ∷ bs) = if b == byte then [] ∷ parted_at byte bs else put_in_front b (parted_at byte bs)

-- A text parted at each `||`, from the left on.
abbrev pub parted_at_bars : List ℕ → List (List ℕ)
parted_at_bars [] = [] ∷ []
parted_at_bars (b ∷ []) = (b ∷ []) ∷ []
parted_at_bars (b ∷ c ∷ cs) = if b == 124 && c == 124 then [] ∷ parted_at_bars cs else put_in_front b (parted_at_bars (c ∷ cs))

abbrev pub trimmed_all : List (List ℕ) → List (List ℕ)
trimmed_all [] = []
trimmed_all (t ∷ ts) = trimmed t ∷ trimmed_all ts

-- The first word of a text.
abbrev pub first_word : List ℕ → List ℕ
first_word text = take_while (λ b. not (is_blank b)) (without_front text)

-- A label in front of a line, and what stands behind it.
pub record Labelled : Type 0 where
  pub label : Option (List ℕ)
  pub rest : List ℕ

abbrev pub unlabelled : List ℕ → Labelled
unlabelled line = record { label = None; rest = line }

-- Behind a label stand `:`, and then a blank or nothing.
abbrev pub ends_label : List ℕ → Bool
ends_label [] = true
ends_label (b ∷ bs) = is_blank b

abbrev pub label_before : List ℕ → List ℕ → List ℕ → Labelled
label_before line name [] = unlabelled line
label_before line name (b ∷ bs) = if is_label name && b == 58 && ends_label bs then record { label = Some name; rest = bs } else unlabelled line

abbrev pub label_in : List ℕ → List ℕ → Labelled
label_in line text = label_before line (take_while is_in_label text) (drop (prefix_len is_in_label text) text)

abbrev pub labelled : List ℕ → Labelled
labelled line = label_in line (without_front line)

-- The directives of a source.
abbrev pub directives : List (List ℕ)
directives = codes ".byte" ∷ codes ".half" ∷ codes ".word" ∷ codes ".ascii" ∷ codes ".space" ∷ codes ".org" ∷ codes ".align" ∷ codes ".isa" ∷ []

-- A statement: none, a directive with what stands behind its name, or instructions joined by `||`.
pub data Statement : Type 0 where
  nothing : Statement
  directive : (name rest : List ℕ) → Statement
  bundle : List (List ℕ) → Statement

abbrev pub with_name : List ℕ → List ℕ → Statement
with_name text name = if is_among directives name then directive name (trimmed (drop (length name) text)) else bundle (trimmed_all (parted_at_bars text))

abbrev pub statement_in : List ℕ → Statement
statement_in [] = nothing
statement_in (b ∷ bs) = with_name (b ∷ bs) (first_word (b ∷ bs))

-- What a line says.
pub record Line : Type 0 where
  pub label : Option (List ℕ)
  pub statement : Statement

abbrev pub line_of : Labelled → Line
line_of l = record { label = l.label; statement = statement_in (trimmed (uncommented false l.rest)) }

unfoldable pub read_line : List ℕ → Line
read_line line = line_of (labelled line)
