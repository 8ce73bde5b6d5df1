-- The type of hardware: `register MODE`, `register MODE (count)`, `memory ..`, `pc`, `immediate MODE`, `immediate (MODE n)`,
-- `address` or `iaddress`.
use Rattle.std.specs.Prelude.{ℕ, Bool, false, ◌&&◌, ◌||◌, ◌==◌, if◌then◌else◌, List, [], ◌∷◌, length, Option, Some, None, is_some, codes}
use Rattle.cg_base.specs.declared.form.Form.{Form}
use Rattle.cg_base.specs.Parts.{◌>>=◌, Headed, headed_in, symbol_of, number_of, elements_of, only_natural}
use Rattle.cg_base.specs.Texts.{passes}
use Rattle.cg_attrs.specs.Clauses.{content_at}
use Rattle.cg_attrs.specs.Judging.{Named, kind_among}
use Rattle.cg_attrs.specs.Contents.{misfit}
use Rattle.cg_base.specs.ModeWords.{is_value_mode}
use Rattle.cg_hw.specs.declared.kind.Cells.{Cells}
use Rattle.cg_hw.specs.declared.kind.Cells.TheVariants.{Single, Counted, Other}
use Rattle.cg_hw.specs.declared.kind.TypeWord.{TypeWord}
use Rattle.cg_hw.specs.declared.kind.TypeWord.TheVariants as word

-- the form is the name of a mode
abbrev pub names_mode : Form → Bool
names_mode f = passes is_value_mode (symbol_of f)

-- the form is a count in a list of its own
abbrev pub is_count : Form → Bool
is_count f = passes (λ fs. is_some (only_natural fs)) (elements_of f)

-- Registers: one where no count is written, or as many as are written.
abbrev pub registers : List Form → Option Cells
registers (mode ∷ []) = if names_mode mode then Some Single else None
registers (mode ∷ count ∷ []) = if names_mode mode && is_count count then Some Counted else None
registers _ = None

-- `(MODE n)`
abbrev pub is_sized_in : List Form → Bool
is_sized_in (mode ∷ n ∷ []) = names_mode mode && is_some (number_of n)
is_sized_in _ = false

abbrev pub is_sized : Form → Bool
is_sized f = passes is_sized_in (elements_of f)

-- what stands behind `immediate`
abbrev pub is_immediate : List Form → Bool
is_immediate (f ∷ []) = names_mode f || is_sized f
is_immediate _ = false

-- The words of the types. A type of another word is left out.
abbrev pub type_words : List (Named TypeWord)
type_words =
    (codes "register", word.Register) ∷
    (codes "memory", word.Memory) ∷
    (codes "pc", word.Bare) ∷
    (codes "immediate", word.Immediate) ∷
    (codes "address", word.Bare) ∷
    (codes "iaddress", word.Bare) ∷ []

abbrev pub type_named : List ℕ → Option TypeWord
type_named name = kind_among name type_words

-- The cells that hardware of this type has, where what stands behind the type's word is of its kind.
abbrev pub cells_by : TypeWord → List Form → Option Cells
cells_by word.Register fs = registers fs
cells_by word.Memory fs = Some Other
cells_by word.Immediate fs = if is_immediate fs then Some Other else None
cells_by word.Bare fs = if length fs == 0 then Some Other else None

unfoldable pub cells_in : Headed → Option Cells
cells_in x = type_named x.0 >>= (λ w. cells_by w x.1)

unfoldable pub cells_of : List Form → Option Cells
cells_of fs = headed_in fs >>= cells_in

-- The cells that the clause `type` among these elements gives, where it is of its kind.
unfoldable pub cells_at : List Form → Option Cells
cells_at elements = content_at (codes "type") elements >>= cells_of

-- E304 of a type: the clause's name, where no symbol stands in front, or what stands behind its word isn't of its kind.
abbrev pub wrong_type_by : List ℕ → List Form → Option TypeWord → List (List ℕ)
wrong_type_by name fs None = []
wrong_type_by name fs (Some w) = misfit (is_some (cells_by w fs)) name

abbrev pub wrong_type : List ℕ → Option Headed → List (List ℕ)
wrong_type name None = name ∷ []
wrong_type name (Some x) = wrong_type_by name x.1 (type_named x.0)

-- E307 of a type: its word, where no type has it.
abbrev pub left_out_type_by : List ℕ → Option TypeWord → List (List ℕ)
left_out_type_by name None = name ∷ []
left_out_type_by name (Some w) = []

abbrev pub left_out_type : Option Headed → List (List ℕ)
left_out_type None = []
left_out_type (Some x) = left_out_type_by x.0 (type_named x.0)
