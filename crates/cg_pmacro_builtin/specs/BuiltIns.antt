-- The language's own macros: their names, and what those give that expand all their arguments before
-- (docs/LANGUAGE.md, "Macros").
use Rattle.std.specs.Prelude.{ℕ, zero, suc, ◌-◌, ◌^◌, ◌==◌, nat_lt, nat_le, Bool, true, false, not, ◌&&◌, ◌||◌, ℤ, pos, negsuc, ◌+ℤ◌, ◌-ℤ◌, ◌*ℤ◌, int_lt, List, [], ◌∷◌, ◌++◌, map, length, take, drop, replicate, slice_get, Option, Some, None, ok_or, Ok, Err, codes, if◌then◌else◌}
use Rattle.std.specs.Char.{to_ascii_uppercase, to_ascii_lowercase}
use Rattle.std.specs.Fmt.{digits, signed_decimal}
use Rattle.std.specs.List.{find}
use Rattle.cg_base.specs.declared.form.Form.{Form, out-Form}
use Rattle.cg_base.specs.declared.form.Form.TheOpen as layer
use Rattle.cg_base.specs.declared.form.Form.TheOpen.{Form-F}
use Rattle.cg_base.specs.declared.form.Form.TheVariants.{Number, Symbol, Str, Flag, Items}
use Rattle.cg_base.specs.Texts.{same_text}
use Rattle.cg_pmacro_builtin.specs.declared.built_in.BuiltIn.{BuiltIn}
use Rattle.cg_pmacro_builtin.specs.declared.built_in.BuiltIn.TheVariants as own
use Rattle.cg_base.specs.Refusing.{Fault}
use Rattle.cg_pmacro_builtin.specs.Outcome.{Answer, onward}
use Rattle.cg_base.specs.Parts.{word_of, number_of, natural_of, elements_of}
use Rattle.cg_pmacro_builtin.specs.Shapes.{same_form}

-- one answer after the other; a fault ends them
infixl 10 ◌>>=◌
abbrev ◌>>=◌ : {A B : Type 0} → Answer A → (A → Answer B) → Answer B
first >>= next = onward first next

-- the name that calls it
abbrev pub name_of : BuiltIn → List ℕ
name_of own.Sym = codes ".sym"
name_of own.Str = codes ".str"
name_of own.Hex = codes ".hex"
name_of own.Upcase = codes ".upcase"
name_of own.Downcase = codes ".downcase"
name_of own.Substring = codes ".substring"
name_of own.Splice = codes ".splice"
name_of own.Unsplice = codes ".unsplice"
name_of own.Iota = codes ".iota"
name_of own.Map = codes ".map"
name_of own.ForEach = codes ".for-each"
name_of own.Apply = codes ".apply"
name_of own.Pmacro = codes ".pmacro"
name_of own.Let = codes ".let"
name_of own.LetStar = codes ".let*"
name_of own.If = codes ".if"
name_of own.Cond = codes ".cond"
name_of own.Case = codes ".case"
name_of own.List = codes ".list"
name_of own.Ref = codes ".ref"
name_of own.Length = codes ".length"
name_of own.Add = codes ".add"
name_of own.Sub = codes ".sub"
name_of own.Mul = codes ".mul"
name_of own.Eq = codes ".eq"
name_of own.Ne = codes ".ne"
name_of own.Lt = codes ".lt"
name_of own.Gt = codes ".gt"
name_of own.Le = codes ".le"
name_of own.Ge = codes ".ge"
name_of own.Not = codes ".not"
name_of own.Error = codes ".error"

-- all of them
abbrev pub all_built_ins : List BuiltIn
all_built_ins =
    own.Sym ∷ own.Str ∷ own.Hex ∷ own.Upcase ∷ own.Downcase ∷ own.Substring ∷ own.Splice ∷ own.Unsplice ∷ own.Iota ∷ own.Map ∷ own.ForEach ∷ own.Apply ∷ own.Pmacro ∷ own.Let ∷ own.LetStar ∷ own.If ∷ own.Cond ∷ own.Case ∷ own.List ∷ own.Ref ∷ own.Length ∷ own.Add ∷ own.Sub ∷ own.Mul ∷ own.Eq ∷ own.Ne ∷ own.Lt ∷ own.Gt ∷ own.Le ∷ own.Ge ∷ own.Not ∷ own.Error ∷ []

-- the first of them that has this name
abbrev pub first_named : List BuiltIn → List ℕ → Option BuiltIn
first_named all name = find (λ b. same_text (name_of b) name) all

-- the one that has this name
unfoldable pub built_in : List ℕ → Option BuiltIn
built_in name = first_named all_built_ins name

-- The six that expand only what they take. They can't be mapped or applied.
abbrev pub is_lazy : BuiltIn → Bool
is_lazy own.If = true
is_lazy own.Cond = true
is_lazy own.Case = true
is_lazy own.Let = true
is_lazy own.LetStar = true
is_lazy own.Pmacro = true
is_lazy _ = false

-- a wrong count of arguments
abbrev pub miscounted : BuiltIn → Fault
miscounted b = (201, name_of b)

-- an argument that isn't of its kind
abbrev pub misfit : BuiltIn → Fault
misfit b = (202, name_of b)

abbrev pub kept_layer : Form-F Form → List ℕ → Form
kept_layer (layer.Symbol s) t = Symbol t
kept_layer _ t = Str t

-- a symbol or string with another text, of the same kind
abbrev pub with_text : Form → List ℕ → Form
with_text f t = kept_layer (out-Form f) t

abbrev pub shown_layer : Form-F Form → Option (List ℕ)
shown_layer (layer.Number n) = Some (signed_decimal n)
shown_layer (layer.Symbol s) = Some s
shown_layer (layer.Str s) = Some s
shown_layer _ = None

-- the text of a symbol, a string or a number
abbrev pub shown : Form → Option (List ℕ)
shown f = shown_layer (out-Form f)

abbrev pub false_layer : Form-F Form → Bool
false_layer (layer.Flag b) = not b
false_layer _ = false

-- the form is `#f`
abbrev pub is_false : Form → Bool
is_false f = false_layer (out-Form f)

-- the number that an argument is
abbrev pub number_for : BuiltIn → Form → Answer ℤ
number_for b f = ok_or (number_of f) (misfit b)

-- the number that an argument is, where it isn't negative
abbrev pub natural_for : BuiltIn → Form → Answer ℕ
natural_for b f = ok_or (natural_of f) (misfit b)

-- the text of an argument that is a symbol or string
abbrev pub text_for : BuiltIn → Form → Answer (List ℕ)
text_for b f = ok_or (word_of f) (misfit b)

-- the elements of an argument that is a list
abbrev pub elements_for : BuiltIn → Form → Answer (List Form)
elements_for b f = ok_or (elements_of f) (misfit b)

-- the texts of symbols, strings and numbers joined
abbrev pub joined : BuiltIn → List Form → Answer (List ℕ)
joined b [] = Ok []
joined b (f ∷ fs) = do
  t ← ok_or (shown f) (misfit b)
  ts ← joined b fs
  Ok (t ++ ts)

-- `(.error a ..)` is the fault 205 with the joined text.
abbrev pub error_of : List Form → Answer Form
error_of args = joined own.Error args >>= λ t. Err (205, t)

-- the last w of the digits of n in base 16, with zeros in front of them
abbrev pub last_digits : ℕ → ℕ → List ℕ
last_digits w n = drop (length (digits 16 false n)) (replicate w 48 ++ digits 16 false n)

-- `(.hex n [w])`: the lower-case digits of n, which isn't negative; with w from 1 to 16 the last w, zeros in front.
abbrev pub hex_of : List Form → Answer Form
hex_of (x ∷ []) = do
  n ← natural_for own.Hex x
  Ok (Str (digits 16 false n))
hex_of (x ∷ y ∷ []) = do
  n ← natural_for own.Hex x
  w ← natural_for own.Hex y
  if nat_le 1 w && nat_le w 16 then Ok (Str (last_digits w n)) else Err (misfit own.Hex)
hex_of _ = Err (miscounted own.Hex)

-- `(.upcase a)` and `(.downcase a)`: a symbol or string with its letters changed
abbrev pub letters_of : BuiltIn → (ℕ → ℕ) → List Form → Answer Form
letters_of b change (f ∷ []) = do
  t ← text_for b f
  Ok (with_text f (map change t))
letters_of b change _ = Err (miscounted b)

-- `(.substring a i j)`: the places i to j - 1 of a symbol or string
abbrev pub substring_of : List Form → Answer Form
substring_of (f ∷ x ∷ y ∷ []) = do
  t ← text_for own.Substring f
  i ← natural_for own.Substring x
  j ← natural_for own.Substring y
  if nat_le i j && nat_le j (length t) then Ok (with_text f (take (j - i) (drop i t))) else Err (misfit own.Substring)
substring_of _ = Err (miscounted own.Substring)

-- the number has 64 bits with a sign
abbrev pub fits_64 : ℤ → Bool
fits_64 (pos n) = nat_lt n (2 ^ 63)
fits_64 (negsuc n) = nat_lt n (2 ^ 63)

-- so many numbers, from start by step
abbrev pub numbers : ℕ → ℤ → ℤ → List Form
numbers zero start step = []
numbers (suc n) start step = Number start ∷ numbers n (start +ℤ step) step

-- the last of so many numbers has 64 bits, where there is one
abbrev pub iota_fits : ℕ → ℤ → ℤ → Bool
iota_fits n start step = n == 0 || fits_64 (start +ℤ (pos (n - 1) *ℤ step))

-- the list of so many numbers, where all have 64 bits
abbrev pub iota_from : ℕ → ℤ → ℤ → Answer Form
iota_from n start step = if iota_fits n start step then Ok (Items (numbers n start step)) else Err (misfit own.Iota)

-- `(.iota n [start [step]])`: n numbers, from 0 by 1 where no more is said
abbrev pub iota_of : List Form → Answer Form
iota_of (x ∷ []) = do
  n ← natural_for own.Iota x
  iota_from n (pos 0) (pos 1)
iota_of (x ∷ y ∷ []) = do
  n ← natural_for own.Iota x
  start ← number_for own.Iota y
  iota_from n start (pos 1)
iota_of (x ∷ y ∷ z ∷ []) = do
  n ← natural_for own.Iota x
  start ← number_for own.Iota y
  step ← number_for own.Iota z
  iota_from n start step
iota_of _ = Err (miscounted own.Iota)

-- `(.ref l i)`: the element of a list at a place, counted from 0
abbrev pub ref_of : List Form → Answer Form
ref_of (l ∷ x ∷ []) = do
  fs ← elements_for own.Ref l
  i ← natural_for own.Ref x
  ok_or (slice_get fs i) (misfit own.Ref)
ref_of _ = Err (miscounted own.Ref)

abbrev pub length_layer : Form-F Form → Option ℕ
length_layer (layer.Symbol s) = Some (length s)
length_layer (layer.Str s) = Some (length s)
length_layer (layer.Items fs) = Some (length fs)
length_layer _ = None

-- `(.length a)`: how many elements a list has, or bytes a symbol or string
abbrev pub length_of : List Form → Answer Form
length_of (f ∷ []) = do
  n ← ok_or (length_layer (out-Form f)) (misfit own.Length)
  Ok (Number (pos n))
length_of _ = Err (miscounted own.Length)

-- the two numbers that the arguments are
abbrev pub two_numbers : BuiltIn → List Form → Answer (ℤ × ℤ)
two_numbers b (x ∷ y ∷ []) = do
  m ← number_for b x
  n ← number_for b y
  Ok (m, n)
two_numbers b _ = Err (miscounted b)

-- `(.add a b)`, `(.sub a b)` and `(.mul a b)`: a number of 64 bits
abbrev pub calculated : BuiltIn → (ℤ → ℤ → ℤ) → List Form → Answer Form
calculated b operation args = do
  p ← two_numbers b args
  if fits_64 (operation p.0 p.1) then Ok (Number (operation p.0 p.1)) else Err (misfit b)

-- `(.lt a b)`, `(.gt a b)`, `(.le a b)` and `(.ge a b)`: whether it holds of two numbers
abbrev pub compared : BuiltIn → (ℤ → ℤ → Bool) → List Form → Answer Form
compared b holds args = do
  p ← two_numbers b args
  Ok (Flag (holds p.0 p.1))

-- `(.eq a b)`: whether two forms are of the same kind with the same content
abbrev pub eq_of : List Form → Answer Form
eq_of (x ∷ y ∷ []) = Ok (Flag (same_form x y))
eq_of _ = Err (miscounted own.Eq)

-- `(.ne a b)`
abbrev pub ne_of : List Form → Answer Form
ne_of (x ∷ y ∷ []) = Ok (Flag (not (same_form x y)))
ne_of _ = Err (miscounted own.Ne)

-- `(.not a)`: whether it is `#f`
abbrev pub not_of : List Form → Answer Form
not_of (f ∷ []) = Ok (Flag (is_false f))
not_of _ = Err (miscounted own.Not)

-- `(.unsplice l)` is its list as an argument of `.splice`. Elsewhere no argument is of its kind.
abbrev pub unsplice_of : Bool → List Form → Answer Form
unsplice_of true (f ∷ []) = elements_for own.Unsplice f >>= λ fs. Ok f
unsplice_of false (f ∷ []) = Err (misfit own.Unsplice)
unsplice_of _ _ = Err (miscounted own.Unsplice)

-- What a built-in gives whose arguments are all expanded before, and whether it is an argument of `.splice`. `.iota` stands
-- above; the others give the list of their arguments.
abbrev pub ordinary : BuiltIn → Bool → List Form → Answer Form
ordinary own.Sym spliced args = joined own.Sym args >>= λ t. Ok (Symbol t)
ordinary own.Str spliced args = joined own.Str args >>= λ t. Ok (Str t)
ordinary own.Hex spliced args = hex_of args
ordinary own.Upcase spliced args = letters_of own.Upcase to_ascii_uppercase args
ordinary own.Downcase spliced args = letters_of own.Downcase to_ascii_lowercase args
ordinary own.Substring spliced args = substring_of args
ordinary own.Unsplice spliced args = unsplice_of spliced args
ordinary own.Ref spliced args = ref_of args
ordinary own.Length spliced args = length_of args
ordinary own.Add spliced args = calculated own.Add (λ m n. m +ℤ n) args
ordinary own.Sub spliced args = calculated own.Sub (λ m n. m -ℤ n) args
ordinary own.Mul spliced args = calculated own.Mul (λ m n. m *ℤ n) args
ordinary own.Eq spliced args = eq_of args
ordinary own.Ne spliced args = ne_of args
ordinary own.Lt spliced args = compared own.Lt (λ m n. int_lt m n) args
ordinary own.Gt spliced args = compared own.Gt (λ m n. int_lt n m) args
ordinary own.Le spliced args = compared own.Le (λ m n. not (int_lt n m)) args
ordinary own.Ge spliced args = compared own.Ge (λ m n. not (int_lt m n)) args
ordinary own.Not spliced args = not_of args
ordinary own.Error spliced args = error_of args
ordinary _ spliced args = Ok (Items args)
