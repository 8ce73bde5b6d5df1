-- The words of hardware's indices or values: `keyword prefix ((name value) ..)` or `extern-keyword name`.
use Rattle.std.specs.Prelude.{ℕ, pos, Bool, false, not, ◌&&◌, ◌||◌, ◌==◌, nat_le, if◌then◌else◌, List, [], ◌∷◌, length, Option, Some, None, is_some, codes}
use Rattle.std.specs.List.{list_all}
use Rattle.cg_base.specs.declared.form.Form.{Form, out-Form}
use Rattle.cg_base.specs.declared.form.Form.TheOpen.{Number, Symbol, Str}
use Rattle.cg_base.specs.Parts.{Layer, Headed, headed_in, word_of, elements_of, only_symbol}
use Rattle.cg_base.specs.Texts.{same_text, passes}
use Rattle.cg_attrs.specs.Contents.{are_items}

-- The bytes of a word: letters, digits, `_`, `.`, `%` and `$`.
abbrev pub is_word_byte : ℕ → Bool
is_word_byte b =
    (nat_le 48 b && nat_le b 57) || (nat_le 65 b && nat_le b 90) || (nat_le 97 b && nat_le b 122) ||
    b == 95 || b == 46 || b == 37 || b == 36

-- Prefix and name together are a word, which isn't empty.
abbrev pub is_word : List ℕ → List ℕ → Bool
is_word prefix name = list_all is_word_byte prefix && list_all is_word_byte name && not (length prefix == 0 && length name == 0)

-- An item's name, which is a symbol, a string or a number, makes a word behind the prefix; the name `-` makes none and may stand.
abbrev pub may_name : List ℕ → List ℕ → Bool
may_name prefix name = same_text (codes "-") name || is_word prefix name

abbrev pub names_word_in : List ℕ → Layer → Bool
names_word_in prefix (Symbol name) = may_name prefix name
names_word_in prefix (Str name) = may_name prefix name
names_word_in prefix (Number (pos n)) = list_all is_word_byte prefix
names_word_in prefix _ = false

abbrev pub names_word : List ℕ → Form → Bool
names_word prefix name = names_word_in prefix (out-Form name)

-- the same of an item: a name alone, or a list that a name begins
abbrev pub makes_word_in : List ℕ → Form → Option (List Form) → Bool
makes_word_in prefix f None = names_word prefix f
makes_word_in prefix f (Some []) = false
makes_word_in prefix f (Some (name ∷ fs)) = names_word prefix name

abbrev pub makes_word : List ℕ → Form → Bool
makes_word prefix f = makes_word_in prefix f (elements_of f)

-- Items whose names make words.
abbrev pub are_words : List ℕ → List Form → Bool
are_words prefix fs = are_items (Some (pos 0)) fs && list_all (makes_word prefix) fs

-- `prefix ((name value) ..)`
abbrev pub has_words_by : Option (List ℕ) → Option (List Form) → Bool
has_words_by (Some prefix) (Some fs) = are_words prefix fs
has_words_by _ _ = false

abbrev pub has_words : List Form → Bool
has_words (prefix ∷ items ∷ []) = has_words_by (word_of prefix) (elements_of items)
has_words _ = false

abbrev pub is_keyword_in : Headed → Bool
is_keyword_in x =
    if same_text (codes "keyword") x.0 then has_words x.1
    else if same_text (codes "extern-keyword") x.0 then is_some (only_symbol x.1)
    else false

-- What may stand behind `indices` and `values`.
abbrev pub is_keyword : List Form → Bool
is_keyword fs = passes is_keyword_in (headed_in fs)
