-- What may stand behind the name of a clause.
use Rattle.std.specs.Prelude.{ℕ, ℤ, pos, ◌+ℤ◌, ◌%◌, Bool, true, false, ◌&&◌, ◌||◌, ◌==◌, nat_le, int_lt, if◌then◌else◌, List, [], ◌∷◌, Option, Some, None, is_some, codes}
use Rattle.std.specs.List.{list_all}
use Rattle.cg_base.specs.declared.form.Form.{Form, out-Form}
use Rattle.cg_base.specs.declared.form.Form.TheOpen.{Flag, Items}
use Rattle.cg_attrs.specs.declared.content.Content.{Content}
use Rattle.cg_attrs.specs.declared.content.Content.TheVariants as content
use Rattle.cg_base.specs.Parts.{◌>>=◌, Layer, only, elements_of, number_of, natural_of, word_of, is_symbol, only_symbol, only_word, only_flag, only_natural}
use Rattle.cg_base.specs.Texts.{is_among, passes}
use Rattle.cg_attrs.specs.Attrs.{is_attr}
use Rattle.cg_attrs.specs.Clauses.{Clause}

-- What happens to accesses that are not aligned.
abbrev pub is_alignment : List ℕ → Bool
is_alignment text = is_among (codes "aligned" ∷ codes "unaligned" ∷ codes "forced" ∷ []) text

-- An order of bytes. `either` is one, and left out.
abbrev pub is_endian : List ℕ → Bool
is_endian text = is_among (codes "big" ∷ codes "little" ∷ codes "either" ∷ []) text

-- A number of bits: whole bytes, at most 8 of them.
abbrev pub is_bit_size : ℕ → Bool
is_bit_size n = nat_le 8 n && nat_le n 64 && n % 8 == 0

-- The bits of a word.
abbrev pub is_word_size : ℕ → Bool
is_word_size n = n == 8 || n == 16 || n == 32 || n == 64

-- A number from 0 to 65,535.
abbrev pub is_small : Form → Bool
is_small f = passes (λ n. nat_le n 65535) (natural_of f)

-- A unit of a model: `name comment attrs issue done state inputs outputs profile`.
abbrev pub is_unit : List Form → Bool
is_unit (name ∷ comment ∷ attrs ∷ issue ∷ done ∷ state ∷ inputs ∷ outputs ∷ profile ∷ []) = is_symbol name && is_small done
is_unit _ = false

-- The name of an item of an enum or a keyword: a symbol, a string or a number.
abbrev pub is_item_name : Form → Bool
is_item_name f = is_some (word_of f) || is_some (number_of f)

-- the value of `(name value ..)`
abbrev pub valued : List Form → Option ℤ
valued (name ∷ value ∷ more) = if is_item_name name then number_of value else None
valued _ = None

-- the value of an item, where a name alone has this value
abbrev pub item_value_in : Option ℤ → Layer → Option ℤ
item_value_in plain (Items fs) = valued fs
item_value_in plain (Flag b) = None
item_value_in plain _ = plain

abbrev pub item_value : Option ℤ → Form → Option ℤ
item_value plain f = item_value_in plain (out-Form f)

-- the value of a name alone behind an item of this value, where it has 64 bits with a sign
abbrev pub next_value : ℤ → Option ℤ
next_value n = if int_lt n (pos 9223372036854775807) then Some (n +ℤ pos 1) else None

-- Each form is an item with a value, the first of the value `plain` where it is a name alone.
abbrev pub are_items : Option ℤ → List Form → Bool
are_items plain [] = true
are_items plain (f ∷ fs) = passes (λ n. are_items (next_value n) fs) (item_value plain f)

-- the elements of the one list
unfoldable pub only_elements : List Form → Option (List Form)
only_elements fs = only fs >>= elements_of

-- What stands behind a clause's name is of its kind.
abbrev pub fits : Content → List Form → Bool
fits content.Symbol fs = is_some (only_symbol fs)
fits content.Symbols fs = list_all is_symbol fs
fits content.Word fs = is_some (only_word fs)
fits content.Flag fs = is_some (only_flag fs)
fits content.Alignment fs = passes is_alignment (only_symbol fs)
fits content.Endian fs = passes is_endian (only_symbol fs)
fits content.BitSize fs = passes is_bit_size (only_natural fs)
fits content.WordSize fs = passes is_word_size (only_natural fs)
fits content.Positive fs = passes (λ n. nat_le 1 n) (only_natural fs)
fits content.Small fs = passes is_small (only fs)
fits content.Unit fs = is_unit fs
fits content.Items fs = are_items (Some (pos 0)) fs
fits content.AttributeList fs = passes (list_all is_attr) (only_elements fs)
fits content.ItemList fs = passes (are_items (Some (pos 0))) (only_elements fs)
fits content.Anything fs = true

-- The text of E304 of a clause that is no more than of its kind or not: its name.
abbrev pub misfit : Bool → List ℕ → List (List ℕ)
misfit of_its_kind name = if of_its_kind then [] else name ∷ []

abbrev pub wrong : Content → Clause → List (List ℕ)
wrong content clause = misfit (fits content clause.content) clause.name

-- What is left out of what stands behind a clause's name.
abbrev pub either : List Form → List (List ℕ)
either fs = if passes (is_among (codes "either" ∷ [])) (only_symbol fs) then codes "either" ∷ [] else []

abbrev pub left_out_of : Content → List Form → List (List ℕ)
left_out_of content.Endian fs = either fs
left_out_of _ fs = []

abbrev pub left_out : Content → Clause → List (List ℕ)
left_out content clause = left_out_of content clause.content
