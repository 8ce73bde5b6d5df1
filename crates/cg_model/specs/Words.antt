-- The words of hardware, and the value of one: letter case counts for nothing.
use Rattle.std.specs.Prelude.{ℕ, ◌+◌, Bool, ◌&&◌, nat_le, if◌then◌else◌, List, [], ◌∷◌, map, Option, Some, None}
use Rattle.cg_base.specs.Texts.{same_text}
use Rattle.cg_model.specs.declared.hardware.Hardware.{Hardware}
use Rattle.cg_model.specs.declared.hardware.Keyword.{Keyword}
use Rattle.cg_model.specs.declared.hardware.NamedValue.{NamedValue}

-- The small letter of a letter. All else stays.
abbrev pub lower : ℕ → ℕ
lower b = if nat_le 65 b && nat_le b 90 then b + 32 else b

-- Two texts are the same, letter case aside.
abbrev pub same_word : List ℕ → List ℕ → Bool
same_word v w = same_text (map lower v) (map lower w)

-- The words of hardware.
abbrev pub named_values : Option Keyword → List NamedValue
named_values None = []
named_values (Some k) = k.words

abbrev pub words_of : Hardware → List (List ℕ)
words_of h = map (λ w. w.word) (named_values h.keyword)

-- The value of a word: that of the first that it is, letter case aside.
abbrev pub word_value : List NamedValue → List ℕ → Option ℕ
word_value [] text = None
word_value (w ∷ ws) text = if same_word w.word text then Some w.value else word_value ws text
