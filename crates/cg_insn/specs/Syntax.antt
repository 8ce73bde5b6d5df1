-- What a syntax is: `$name` and `${name}` are slots, and all else is literal.
use Rattle.std.specs.Prelude.{◌≡◌, ℕ, zero, suc, ◌+◌, ◌-◌, Bool, true, false, not, ◌&&◌, ◌||◌, ◌==◌, nat_le, if◌then◌else◌, List, [], ◌∷◌, ◌++◌, length, take, Option, Some, None, is_some, codes}
use Rattle.std.specs.List.{list_all, prefix_len, position}
use Rattle.std.specs.Option.{option_map}
use Rattle.cg_base.specs.Grammar.{is_string_byte}
use Rattle.cg_base.specs.Parts.{◌>>=◌}
use Rattle.cg_base.specs.Refusing.{FaultTexts}
use Rattle.cg_attrs.specs.Contents.{misfit}
use Rattle.cg_insn.specs.declared.syntax.NamedPiece.{NamedPiece}
use Rattle.cg_insn.specs.declared.syntax.NamedPiece.TheVariants.{Literal, Slot}
use Rattle.cg_insn.specs.declared.syntax.LentPiece as declared
use Rattle.cg_insn.specs.declared.syntax.LentPiece.TheVariants as lent

-- a piece that is lent
abbrev pub seen_piece : declared.LentPiece → NamedPiece
seen_piece (lent.Literal text) = Literal text.now
seen_piece (lent.Slot name) = Slot name.now

-- The bytes of a slot's name: letters, digits and `_`.
abbrev pub is_name_byte : ℕ → Bool
is_name_byte b = (nat_le 48 b && nat_le b 57) || (nat_le 65 b && nat_le b 90) || (nat_le 97 b && nat_le b 122) || b == 95

-- `$`, which begins a slot, and `}`, which ends a name in braces
abbrev pub is_dollar : ℕ → Bool
is_dollar b = b == 36

abbrev pub is_closing : ℕ → Bool
is_closing b = b == 125

-- The bytes of a literal: those of a string but `"` and `;`.
abbrev pub is_literal_byte : ℕ → Bool
is_literal_byte b = is_string_byte b && not (b == 34) && not (b == 59)

-- `||` stands in the text.
abbrev pub begins_with_bar : List ℕ → Bool
begins_with_bar [] = false
begins_with_bar (b ∷ bs) = b == 124

abbrev pub has_bars : List ℕ → Bool
has_bars [] = false
has_bars (b ∷ bs) = (b == 124 && begins_with_bar bs) || has_bars bs

abbrev pub is_literal : List ℕ → Bool
is_literal text = list_all is_literal_byte text && not (has_bars text)

-- the text goes on with such a byte
abbrev pub goes_on : (ℕ → Bool) → List ℕ → Bool
goes_on test [] = false
goes_on test (b ∷ bs) = test b

abbrev pub is_not_dollar : ℕ → Bool
is_not_dollar b = not (is_dollar b)

abbrev pub is_not_closing : ℕ → Bool
is_not_closing b = not (is_closing b)

-- How pieces are written in a text: a literal as it is, up to a `$` or the end; a slot as `$name`, with all bytes of a name that
-- stand there, or as `${name}`, with any bytes up to a `}`.
pub data Writes : List NamedPiece → List ℕ → Type 0 where
  nothing : Writes [] []
  as_it_is : {ps : List NamedPiece} {bs : List ℕ} (text : List ℕ) → (length text == 0) ≡ false → is_literal text ≡ true → list_all is_not_dollar text ≡ true → goes_on is_not_dollar bs ≡ false → Writes ps bs → Writes (Literal text ∷ ps) (text ++ bs)
  bare : {ps : List NamedPiece} {bs : List ℕ} (name : List ℕ) → (length name == 0) ≡ false → list_all is_name_byte name ≡ true → goes_on is_name_byte bs ≡ false → Writes ps bs → Writes (Slot name ∷ ps) (36 ∷ name ++ bs)
  in_braces : {ps : List NamedPiece} {bs : List ℕ} (name : List ℕ) → (length name == 0) ≡ false → list_all is_not_closing name ≡ true → Writes ps bs → Writes (Slot name ∷ ps) (36 ∷ 123 ∷ name ++ 125 ∷ bs)

-- How a text is read: piece by piece from the front. First, a piece, and how many bytes it has behind its first.
abbrev pub Spelled : Type 0
Spelled = NamedPiece × ℕ

-- a slot, which has a name
abbrev pub slot_named : List ℕ → ℕ → Option Spelled
slot_named name more = if length name == 0 then None else Some (Slot name, more)

-- Behind `${` the name goes up to the first `}`, whatever its bytes.
abbrev pub slot_in_braces : List ℕ → Option Spelled
slot_in_braces bs = position is_closing bs >>= (λ n. slot_named (take n bs) (n + 2))

-- Behind `$` it has as many bytes of a name as stand there.
abbrev pub bare_slot : List ℕ → Option Spelled
bare_slot bs = slot_named (take (prefix_len is_name_byte bs) bs) (prefix_len is_name_byte bs)

abbrev pub slot : List ℕ → Option Spelled
slot [] = None
slot (b ∷ bs) = if b == 123 then slot_in_braces bs else bare_slot (b ∷ bs)

-- A literal goes up to the next `$`.
abbrev pub up_to_slot : List ℕ → ℕ
up_to_slot bs = prefix_len (λ b. not (is_dollar b)) bs

abbrev pub literal_of : List ℕ → Option Spelled
literal_of text = if is_literal text then Some (Literal text, length text - 1) else None

abbrev pub literal : List ℕ → Option Spelled
literal bs = literal_of (take (up_to_slot bs) bs)

-- The piece that a text begins with. There is none where `$` has no name behind it, or a literal has what it may not have.
abbrev pub first_piece : List ℕ → Option Spelled
first_piece [] = None
first_piece (b ∷ bs) = if is_dollar b then slot bs else literal (b ∷ bs)

-- the piece stands in front of others, if there are any pieces
abbrev pub in_front : NamedPiece → Option (List NamedPiece) → Option (List NamedPiece)
in_front piece pieces = option_map (λ ps. piece ∷ ps) pieces

-- The pieces of a text behind so many of its bytes, which an earlier piece has: the first of them, and those behind it.
unfoldable pub pieces_behind : ℕ → List ℕ → Option (List NamedPiece)
pieces_behind n [] = Some []
pieces_behind (suc n) (b ∷ bs) = pieces_behind n bs
pieces_behind zero (b ∷ bs) = first_piece (b ∷ bs) >>= (λ x. in_front x.0 (pieces_behind x.1 bs))

-- The pieces of a syntax, in order. A text that is no syntax has none.
abbrev pub pieces_of : List ℕ → Option (List NamedPiece)
pieces_of text = pieces_behind 0 text

abbrev pub is_syntax : List ℕ → Bool
is_syntax text = is_some (pieces_of text)

-- E304 of a text that is no syntax.
abbrev pub syntax_faults : List ℕ → FaultTexts
syntax_faults text = (304, misfit (is_syntax text) (codes "syntax")) ∷ []

-- What is written in a text is what it is read as.
abbrev pub Rereads : List ℕ → Type 0
Rereads text = (ps : List NamedPiece) → Writes ps text → pieces_of text ≡ Some ps
