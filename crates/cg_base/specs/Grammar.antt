-- Which forms a text spells, and on which lines they begin.
use Rattle.std.specs.Prelude.{◌≡◌, ℕ, suc, ◌+◌, ◌-◌, ◌^◌, min, Bool, true, false, ◌&&◌, ◌||◌, ◌==◌, nat_lt, nat_le, if◌then◌else◌, List, [], ◌∷◌, ◌++◌, length, Option, Some, None, Result, Ok, Err, pos, negsuc}
use Rattle.std.specs.List.{list_all}
use Rattle.std.specs.Str.Parse.{digits_value}
use Rattle.cg_base.specs.declared.kind.Kind.{Kind}
use Rattle.cg_base.specs.declared.kind.Kind.TheVariants.{Blank, Letter, Opening, Closing, Quote, Semicolon, Foreign}
use Rattle.cg_base.specs.declared.kind.NoToken.{NoToken}
use Rattle.cg_base.specs.declared.kind.NoToken.TheVariants.{Unknown, OutOfRange}
use Rattle.cg_base.specs.declared.form.Form.{Form}
use Rattle.cg_base.specs.declared.form.Form.TheVariants.{Number, Symbol, Str, Flag, Items}
use Rattle.cg_base.specs.Numerals.{is_digit_of}

-- What a byte does outside strings and comments.
abbrev pub kind_of : ℕ → Kind
kind_of b =
    if b == 9 || b == 10 || b == 12 || b == 13 || b == 32 then Blank
    else if b == 34 then Quote
    else if b == 40 then Opening
    else if b == 41 then Closing
    else if b == 59 then Semicolon
    else if nat_le 33 b && nat_le b 126 then Letter
    else Foreign

abbrev pub is_letter : Kind → Bool
is_letter Letter = true
is_letter _ = false

abbrev pub AreLetters : List ℕ → Type 0
AreLetters [] = Unit {0}
AreLetters (b ∷ bs) = (kind_of b ≡ Letter) × AreLetters bs

-- The text goes on with a byte of a token.
abbrev pub starts_token : List ℕ → Bool
starts_token [] = false
starts_token (b ∷ bs) = is_letter (kind_of b)

-- one digit of the base or more
abbrev pub are_digits : ℕ → List ℕ → Bool
are_digits base bs = nat_lt 0 (length bs) && list_all (is_digit_of base) bs

-- n as a number of 64 bits with a sign
abbrev pub positive : ℕ → Result Form NoToken
positive n = if nat_lt n (2 ^ 63) then Ok (Number (pos n)) else Err OutOfRange

-- -n as a number of 64 bits with a sign
abbrev pub negative : ℕ → Result Form NoToken
negative n = if n == 0 then Ok (Number (pos 0)) else if nat_le n (2 ^ 63) then Ok (Number (negsuc (n - 1))) else Err OutOfRange

-- What stands behind `#x`, `#o` or `#b`: digits of the base, with `-` before them or not.
abbrev pub based : ℕ → List ℕ → Result Form NoToken
based base [] = Err Unknown
based base (b ∷ bs) =
    if b == 45 && are_digits base bs then negative (digits_value base bs)
    else if are_digits base (b ∷ bs) then positive (digits_value base (b ∷ bs))
    else Err Unknown

-- What stands behind `#`.
abbrev pub marked : List ℕ → Result Form NoToken
marked [] = Err Unknown
marked (b ∷ bs) =
    if b == 120 then based 16 bs
    else if b == 111 then based 8 bs
    else if b == 98 then based 2 bs
    else if b == 116 && length bs == 0 then Ok (Flag true)
    else if b == 102 && length bs == 0 then Ok (Flag false)
    else Err Unknown

-- What a token stands for. Decimal digits, with a sign or none, are a number, as are `#x`, `#o` and `#b` with digits of
-- their base. `#t` and `#f` are flags. A token that begins with ', ` or , or is another with # stands for nothing. Any
-- other is a symbol.
unfoldable pub token : List ℕ → Result Form NoToken
token [] = Err Unknown
token (b ∷ bs) =
    if b == 39 || b == 96 || b == 44 then Err Unknown
    else if b == 35 then marked bs
    else if b == 43 && are_digits 10 bs then positive (digits_value 10 bs)
    else if b == 45 && are_digits 10 bs then negative (digits_value 10 bs)
    else if are_digits 10 (b ∷ bs) then positive (digits_value 10 (b ∷ bs))
    else Ok (Symbol (b ∷ bs))

-- The bytes that may stand in a string.
abbrev pub is_string_byte : ℕ → Bool
is_string_byte b = b == 9 || b == 10 || b == 13 || (nat_le 32 b && nat_le b 126)

-- What `\` and this byte behind it stand for in a string: `\` before the end of a line stands for nothing.
abbrev pub escape : ℕ → Option (List ℕ)
escape b =
    if b == 34 || b == 92 then Some (b ∷ [])
    else if b == 110 then Some (10 ∷ [])
    else if b == 116 then Some (9 ∷ [])
    else if b == 10 then Some []
    else None

-- The bytes of a string, and how they are written between its quotes.
pub data Written : List ℕ → List ℕ → Type 0 where
  empty : Written [] []
  byte : {s w : List ℕ} (b : ℕ) → (b == 34) ≡ false → (b == 92) ≡ false → is_string_byte b ≡ true → Written s w → Written (b ∷ s) (b ∷ w)
  escaped : {m s w : List ℕ} (b : ℕ) → escape b ≡ Some m → Written s w → Written (m ++ s) (92 ∷ b ∷ w)

-- no end of a line
abbrev pub IsInOneLine : List ℕ → Type 0
IsInOneLine [] = Unit {0}
IsInOneLine (b ∷ bs) = ((b == 10) ≡ false) × IsInOneLine bs

-- Bytes that stand for no form: a blank, or a comment, which runs to the end of its line and may hold any byte.
pub data IsSpace : List ℕ → Type 0 where
  blank : (b : ℕ) → kind_of b ≡ Blank → IsSpace (b ∷ [])
  comment : (c : List ℕ) → IsInOneLine c → IsSpace (59 ∷ c ++ 10 ∷ [])

-- Bytes that stand for a form that is no list, where others follow: a token, which ends where no byte of a token follows,
-- or a string.
pub data IsLeaf : Form → List ℕ → List ℕ → Type 0 where
  word : {f : Form} {rest : List ℕ} (w : List ℕ) → AreLetters w → token w ≡ Ok f → starts_token rest ≡ false → IsLeaf f w rest
  quoted : {s rest : List ℕ} (w : List ℕ) → Written s w → IsLeaf (Str s) (34 ∷ w ++ 34 ∷ []) rest

-- The line behind a byte. Lines past 2 ^ 32 - 1 are held as 2 ^ 32 - 1.
abbrev pub next_line : ℕ → ℕ → ℕ
next_line l b = if b == 10 then min (l + 1) 4294967295 else l

-- The line behind some bytes.
abbrev pub line_after : ℕ → List ℕ → ℕ
line_after l [] = l
line_after l (b ∷ bs) = line_after (next_line l b) bs

-- Bytes that begin on line l spell these forms, which begin on these lines, with lists at most n deep.
pub data Spells : ℕ → ℕ → List Form → List ℕ → List ℕ → Type 0 where
  done : {n l : ℕ} → Spells n l [] [] []
  space : {n l : ℕ} {fs : List Form} {ls bs : List ℕ} (w : List ℕ) → IsSpace w → Spells n (line_after l w) fs ls bs → Spells n l fs ls (w ++ bs)
  leaf : {n l : ℕ} {f : Form} {fs : List Form} {ls bs : List ℕ} (w : List ℕ) → IsLeaf f w bs → Spells n (line_after l w) fs ls bs → Spells n l (f ∷ fs) (l ∷ ls) (w ++ bs)
  list : {n l : ℕ} {gs fs : List Form} {ks ls ms bs : List ℕ} → Spells n l gs ks ms → Spells (suc n) (line_after l ms) fs ls bs → Spells (suc n) l (Items gs ∷ fs) (l ∷ ls) (40 ∷ ms ++ 41 ∷ bs)
