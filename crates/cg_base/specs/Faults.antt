-- The first fault of a text.
use Rattle.std.specs.Prelude.{◌≡◌, ℕ, ◌/◌, ◌%◌, true, false, nat_lt, List, [], ◌∷◌, ◌++◌, length, None, Err, codes}
use Rattle.std.specs.Char.{digit_char}
use Rattle.cg_base.specs.declared.kind.Kind.TheVariants.{Foreign}
use Rattle.cg_base.specs.declared.kind.NoToken.{NoToken}
use Rattle.cg_base.specs.declared.kind.NoToken.TheVariants.{Unknown, OutOfRange}
use Rattle.cg_base.specs.declared.form.Form.{Form}
use Rattle.cg_base.specs.declared.refusal.Refusal.{Refusal}
use Rattle.cg_base.specs.Refusing.{refusal_at}
use Rattle.cg_base.specs.Grammar.{kind_of, AreLetters, starts_token, token, is_string_byte, escape, Written, IsSpace, IsLeaf, line_after}

-- A byte in two hexadecimal digits.
abbrev pub hex_byte : ℕ → List ℕ
hex_byte b = digit_char (b / 16) ∷ digit_char (b % 16) ∷ []

-- The number of the refusal of a token.
abbrev pub refused_as : NoToken → ℕ
refused_as Unknown = 101
refused_as OutOfRange = 104

-- What stands in front of these bytes, which begin on line l, has no place in a text. The lists that are open begin on the
-- lines os, the innermost first.
pub data Offends (file : ℕ) : List ℕ → ℕ → List ℕ → Refusal → Type 0 where
  foreign_byte : {os bs : List ℕ} {l : ℕ} (b : ℕ) → kind_of b ≡ Foreign → Offends file os l (b ∷ bs) (refusal_at file l (101, hex_byte b))
  no_token : {os : List ℕ} {l : ℕ} {fault : NoToken} (b : ℕ) (w bs : List ℕ) → AreLetters (b ∷ w) → token (b ∷ w) ≡ Err fault → starts_token bs ≡ false → Offends file os l (b ∷ w ++ bs) (refusal_at file l (refused_as fault, b ∷ w))
  foreign_in_string : {os s w : List ℕ} {l : ℕ} (b : ℕ) (bs : List ℕ) → Written s w → is_string_byte b ≡ false → Offends file os l (34 ∷ w ++ b ∷ bs) (refusal_at file (line_after l w) (101, hex_byte b))
  no_escape : {os s w : List ℕ} {l : ℕ} (b : ℕ) (bs : List ℕ) → Written s w → escape b ≡ None → Offends file os l (34 ∷ w ++ 92 ∷ b ∷ bs) (refusal_at file (line_after l w) (101, hex_byte 92))
  open_string : {os s w : List ℕ} {l : ℕ} → Written s w → Offends file os l (34 ∷ w) (refusal_at file l (102, codes "string"))
  open_list : {os : List ℕ} {l o : ℕ} → Offends file (o ∷ os) l [] (refusal_at file o (102, codes "list"))
  no_list_is_open : {bs : List ℕ} {l : ℕ} → Offends file [] l (41 ∷ bs) (refusal_at file l (103, codes ")"))
  too_deep : {os bs : List ℕ} {l : ℕ} → nat_lt (length os) 200 ≡ false → Offends file os l (40 ∷ bs) (refusal_at file l (105, codes "200"))

-- The first fault of these bytes, which begin on line l where lists are open that begin on the lines os: all that stands
-- before it has its place.
pub data Faults (file : ℕ) : List ℕ → ℕ → List ℕ → Refusal → Type 0 where
  here : {os bs : List ℕ} {l : ℕ} {r : Refusal} → Offends file os l bs r → Faults file os l bs r
  behind_space : {os bs : List ℕ} {l : ℕ} {r : Refusal} (w : List ℕ) → IsSpace w → Faults file os (line_after l w) bs r → Faults file os l (w ++ bs) r
  behind_leaf : {os bs : List ℕ} {l : ℕ} {r : Refusal} {f : Form} (w : List ℕ) → IsLeaf f w bs → Faults file os (line_after l w) bs r → Faults file os l (w ++ bs) r
  behind_opening : {os bs : List ℕ} {l : ℕ} {r : Refusal} → nat_lt (length os) 200 ≡ true → Faults file (l ∷ os) l bs r → Faults file os l (40 ∷ bs) r
  behind_closing : {os bs : List ℕ} {l o : ℕ} {r : Refusal} → Faults file os l bs r → Faults file (o ∷ os) l (41 ∷ bs) r
