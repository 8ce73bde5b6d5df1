-- How blanks count in a statement, and in a syntax.
use Rattle.std.specs.Prelude.{ℕ, Bool, true, false, not, ◌&&◌, ◌||◌, ◌==◌, if◌then◌else◌, List, [], ◌∷◌, ◌++◌, map}
use Rattle.cg_model.specs.declared.insn.Piece.{Piece}
use Rattle.cg_model.specs.declared.insn.Piece.TheVariants as piece
use Rattle.cg_model_source.specs.declared.written.Mark.{Mark}
use Rattle.cg_model_source.specs.declared.written.Mark.TheVariants.{Byte, Slot}
use Rattle.cg_base.specs.Characters.{is_in_word}

-- A blank or a tab.
abbrev pub is_blank : ℕ → Bool
is_blank b = b == 32 || b == 9

-- Letters, digits and `_ . % $ + -`: a blank keeps two of these apart. Beside any other character it says nothing.
abbrev pub is_joining : ℕ → Bool
is_joining b = is_in_word b || b == 43 || b == 45

-- The text goes on with other than a blank.
abbrev pub goes_on : {A : Type 0} → (A → Bool) → List A → Bool
goes_on blank [] = false
goes_on blank (x ∷ xs) = not (blank x)

-- A character in front of the first word, or as a word of its own.
abbrev pub put_first : {A : Type 0} → A → Bool → List (List A) → List (List A)
put_first x true (w ∷ ws) = (x ∷ w) ∷ ws
put_first x true [] = (x ∷ []) ∷ []
put_first x false ws = (x ∷ []) ∷ ws

-- The words of a text: its runs of other than blanks.
abbrev pub words : {A : Type 0} → (A → Bool) → List A → List (List A)
words blank [] = []
words blank (x ∷ xs) = if blank x then words blank xs else put_first x (goes_on blank xs) (words blank xs)

abbrev pub begins : {A : Type 0} → (A → Bool) → List A → Bool
begins test [] = false
begins test (x ∷ xs) = test x

abbrev pub ends : {A : Type 0} → (A → Bool) → List A → Bool
ends test [] = false
ends test (x ∷ []) = test x
ends test (x ∷ y ∷ ys) = ends test (y ∷ ys)

-- Words behind another: a space stands between two where the characters on both sides join.
abbrev pub behind : {A : Type 0} → (A → Bool) → A → List A → List (List A) → List A
behind joining space w [] = []
behind joining space w (v ∷ vs) = (if ends joining w && begins joining v then space ∷ v else v) ++ behind joining space v vs

-- Words with single spaces: one stands behind the first word, whatever the characters, and others where both sides join.
abbrev pub spaced : {A : Type 0} → (A → Bool) → A → List (List A) → List A
spaced joining space [] = []
spaced joining space (w ∷ []) = w
spaced joining space (w ∷ v ∷ vs) = w ++ space ∷ v ++ behind joining space v vs

-- A text squeezed.
abbrev pub squeezed : List ℕ → List ℕ
squeezed text = spaced is_joining 32 (words is_blank text)

-- The characters and slots of a syntax.
abbrev pub marks : List Piece → List Mark
marks [] = []
marks (piece.Literal text ∷ ps) = map Byte text ++ marks ps
marks (piece.Slot k ∷ ps) = Slot k ∷ marks ps

abbrev pub is_blank_mark : Mark → Bool
is_blank_mark (Byte b) = is_blank b
is_blank_mark (Slot k) = false

-- A slot counts as a letter.
abbrev pub is_joining_mark : Mark → Bool
is_joining_mark (Byte b) = is_joining b
is_joining_mark (Slot k) = true

-- A syntax squeezed.
abbrev pub squeezed_syntax : List Piece → List Mark
squeezed_syntax pieces = spaced is_joining_mark (Byte 32) (words is_blank_mark (marks pieces))
