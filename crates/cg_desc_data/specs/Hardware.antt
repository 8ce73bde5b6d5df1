-- The hardware of a machine, without its rules.
use Rattle.std.specs.Prelude.{ℕ, min, Bool, true, false, if◌then◌else◌, List, [], ◌∷◌, ◌++◌, map, Option, Some, None, codes}
use Rattle.std.specs.Option.{option_or, option_map, unwrap_or}
use Rattle.cg_base.specs.declared.form.Form.{Form}
use Rattle.cg_base.specs.declared.mode.Mode.{Mode}
use Rattle.cg_base.specs.declared.mode.Mode.TheVariants.{Si, Usi}
use Rattle.cg_base.specs.Operations.{wrapped}
use Rattle.cg_base.specs.Parts.{◌>>=◌, Headed, headed, symbol_of, word_of, elements_of, only_symbol, only_natural}
use Rattle.cg_base.specs.Texts.{same_text}
use Rattle.cg_attrs.specs.declared.frame.KeywordForm.{KeywordForm}
use Rattle.cg_attrs.specs.declared.frame.Frame.TheVariants as frame
use Rattle.cg_rtl.specs.Shapes.{first_symbol}
use Rattle.cg_hw.specs.declared.form.HardwareForm.{HardwareForm}
use Rattle.cg_desc_elements.specs.declared.element.Element.{Element}
use Rattle.cg_desc_elements.specs.declared.element.Element.TheVariants.{Frame}
use Rattle.cg_desc_elements.specs.declared.kind.Namespace.TheVariants.{Keywords}
use Rattle.cg_base.specs.Modes.{address_mode}
use Rattle.cg_model.specs.declared.hardware.Hardware.{Hardware}
use Rattle.cg_model.specs.declared.hardware.HwKind.{HwKind}
use Rattle.cg_model.specs.declared.hardware.HwKind.TheVariants.{Register, Memory, Pc, Immediate, Address}
use Rattle.cg_model.specs.declared.hardware.Keyword.{Keyword}
use Rattle.cg_model.specs.declared.hardware.NamedValue.{NamedValue}
use Rattle.cg_desc_names.specs.declared.items.Item.{Item}
use Rattle.cg_desc_names.specs.Items.{items_of}
use Rattle.cg_desc_data.specs.declared.framing.Framing.{Framing}
use Rattle.cg_desc_data.specs.Selecting.{Selection, named, members}
use Rattle.cg_desc_data.specs.Numbering.{hardware_in}
use Rattle.cg_desc_data.specs.Extents.{mode_or_uint}

-- The kind that a type's word says.
abbrev pub kind_named : List ℕ → HwKind
kind_named word =
    if same_text (codes "register") word then Register
    else if same_text (codes "memory") word then Memory
    else if same_text (codes "pc") word then Pc
    else if same_text (codes "immediate") word then Immediate
    else Address

-- The kinds whose types have a mode. All others hold addresses.
abbrev pub is_moded : HwKind → Bool
is_moded Register = true
is_moded Immediate = true
is_moded _ = false

-- The word for the mode behind a type's word: `MODE`, or `(MODE n)`.
abbrev pub mode_word_of : Form → Option (List ℕ)
mode_word_of f = option_or (symbol_of f) (elements_of f >>= first_symbol)

abbrev pub mode_word : List Form → Option (List ℕ)
mode_word [] = None
mode_word (f ∷ fs) = mode_word_of f

abbrev pub mode_by : Framing → HwKind → List Form → Mode
mode_by b k fs = if is_moded k then mode_or_uint b (mode_word fs) else address_mode b.word_bits

-- How many cells are written behind a register's type: one where there is no count.
abbrev pub count_in : Form → ℕ
count_in f = unwrap_or (elements_of f >>= only_natural) 1

abbrev pub cells_written : List Form → ℕ
cells_written (mode ∷ count ∷ fs) = count_in count
cells_written _ = 1

abbrev pub cells_by : HwKind → List Form → ℕ
cells_by Register fs = cells_written fs
cells_by k fs = 0

-- A machine keeps counts up to 2^32 - 1. That it has many fewer cells is a rule of its own.
abbrev pub counted : ℕ → ℕ
counted n = min n 4294967295

-- What a type says: its word, and what stands behind it.
abbrev pub type_of : HardwareForm → Headed
type_of f = unwrap_or (headed f.kind) ([], [])

abbrev pub cells_of : HardwareForm → ℕ
cells_of f = cells_by (kind_named (type_of f).0) (type_of f).1

-- Words and their values, which are kept modulo 2^64.
abbrev pub word_in : Item → NamedValue
word_in i = record { word = i.name; value = wrapped 64 i.value }

abbrev pub keyword_of : List ℕ → List Form → Keyword
keyword_of prefix fs = record { words = map word_in (items_of prefix fs) }

-- `prefix ((name value) ..)`
unfoldable pub own_words : List Form → Option Keyword
own_words (prefix ∷ items ∷ []) = Some (keyword_of (unwrap_or (word_of prefix) []) (unwrap_or (elements_of items) []))
own_words _ = None

-- The words of a `define-keyword`.
abbrev pub keyword_in : Element → Option KeywordForm
keyword_in (Frame (frame.Keyword form)) = Some form
keyword_in _ = None

abbrev pub words_of : KeywordForm → Keyword
words_of f = keyword_of (unwrap_or f.prefix []) (unwrap_or (elements_of f.values) [])

abbrev pub keyword_named : Selection → List ℕ → Option KeywordForm
keyword_named s name = named s Keywords name >>= keyword_in

abbrev pub words_named : Selection → List ℕ → Option Keyword
words_named s name = option_map words_of (keyword_named s name)

-- `keyword ..` or `extern-keyword ..`
abbrev pub extern_words : Selection → List Form → Option Keyword
extern_words s fs = only_symbol fs >>= words_named s

abbrev pub words_behind : Selection → Headed → Option Keyword
words_behind s x = if same_text (codes "extern-keyword") x.0 then extern_words s x.1 else own_words x.1

abbrev pub words_in : Selection → Form → Option Keyword
words_in s f = headed f >>= words_behind s

-- Hardware has the words of its indices, else of its values.
abbrev pub words : Selection → HardwareForm → Option Keyword
words s f = option_or f.indices f.values >>= words_in s

abbrev pub hardware_by : Selection → Framing → HardwareForm → HwKind → List Form → Hardware
hardware_by s b f k fs = record { name = f.name; kind = k; mode = mode_by b k fs; count = counted (cells_by k fs); keyword = words s f; get = None; set = None }

abbrev pub hardware_of : Selection → Framing → HardwareForm → Hardware
hardware_of s b f = hardware_by s b f (kind_named (type_of f).0) (type_of f).1

-- What is built in.
abbrev pub plain_hardware : List ℕ → HwKind → Mode → Hardware
plain_hardware name k mode = record { name = name; kind = k; mode = mode; count = 0; keyword = None; get = None; set = None }

abbrev pub built_in : Framing → List Hardware
built_in b =
    plain_hardware (codes "h-memory") Memory (address_mode b.word_bits)
    ∷ plain_hardware (codes "h-sint") Immediate Si
    ∷ plain_hardware (codes "h-uint") Immediate Usi
    ∷ plain_hardware (codes "h-addr") Address (address_mode b.word_bits)
    ∷ plain_hardware (codes "h-iaddr") Address (address_mode b.word_bits) ∷ []

-- The hardware of a machine: what is built in, and then in the order of the description.
abbrev pub hardware_list : Selection → Framing → List Hardware
hardware_list s b = built_in b ++ map (hardware_of s b) (members s hardware_in)
