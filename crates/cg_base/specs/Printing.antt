-- How forms are written.
use Rattle.std.specs.Prelude.{◌≡◌, ℕ, suc, ◌^◌, ◌<◌, Bool, true, ◌==◌, ◌||◌, if◌then◌else◌, List, [], ◌∷◌, ◌++◌, Ok, codes, pos, negsuc}
use Rattle.std.specs.List.{list_all}
use Rattle.std.specs.Fmt.{signed_decimal}
use Rattle.cg_base.specs.declared.form.Form.{Form}
use Rattle.cg_base.specs.declared.form.Form.TheVariants as form
use Rattle.cg_base.specs.declared.form.Form.TheOpen.{Form-F, Number, Symbol, Str, Flag, Items}
use Rattle.cg_base.specs.declared.form.Form.TheFolds.{fold-Form}
use Rattle.cg_base.specs.Grammar.{AreLetters, token, is_string_byte}

-- The bytes of a string as they are written between its quotes: `\` stands before `"` and `\`.
abbrev pub quoted_bytes : List ℕ → List ℕ
quoted_bytes [] = []
quoted_bytes (b ∷ bs) = if b == 34 || b == 92 then 92 ∷ b ∷ quoted_bytes bs else b ∷ quoted_bytes bs

-- each behind a blank
abbrev pub behind_blanks : List (List ℕ) → List ℕ
behind_blanks [] = []
behind_blanks (x ∷ xs) = 32 ∷ x ++ behind_blanks xs

-- one blank apart
abbrev pub spaced : List (List ℕ) → List ℕ
spaced [] = []
spaced (x ∷ xs) = x ++ behind_blanks xs

-- How a form is written whose elements are written so.
abbrev pub printed_step : Form-F (List ℕ) → List ℕ
printed_step (Number n) = signed_decimal n
printed_step (Symbol s) = s
printed_step (Str s) = 34 ∷ quoted_bytes s ++ 34 ∷ []
printed_step (Flag b) = if b then codes "#t" else codes "#f"
printed_step (Items texts) = 40 ∷ spaced texts ++ 41 ∷ []

-- How a form is written: numbers in decimal, elements one blank apart.
abbrev pub printed : Form → List ℕ
printed = fold-Form (List ℕ) printed_step

-- What is written of these forms reads as them again: each symbol is a token that stands for it, strings hold bytes that
-- may stand in one, and lists are at most n deep. Numbers have 64 bits, as all numbers of forms do.
pub data Readable : ℕ → List Form → Type 0 where
  none : {n : ℕ} → Readable n []
  natural : {n : ℕ} {fs : List Form} (i : ℕ) → i < 2 ^ 63 → Readable n fs → Readable n (form.Number (pos i) ∷ fs)
  below_zero : {n : ℕ} {fs : List Form} (i : ℕ) → i < 2 ^ 63 → Readable n fs → Readable n (form.Number (negsuc i) ∷ fs)
  symbol : {n : ℕ} {fs : List Form} (w : List ℕ) → AreLetters w → token w ≡ Ok (form.Symbol w) → Readable n fs → Readable n (form.Symbol w ∷ fs)
  string : {n : ℕ} {fs : List Form} (s : List ℕ) → list_all is_string_byte s ≡ true → Readable n fs → Readable n (form.Str s ∷ fs)
  flag : {n : ℕ} {fs : List Form} (b : Bool) → Readable n fs → Readable n (form.Flag b ∷ fs)
  list : {n : ℕ} {gs fs : List Form} → Readable n gs → Readable (suc n) fs → Readable (suc n) (form.Items gs ∷ fs)
