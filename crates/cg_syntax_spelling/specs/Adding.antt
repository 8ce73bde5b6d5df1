-- A sum, added up from the front.
use Rattle.std.specs.Prelude.{◌≡◌, ℕ, Bool, false, ◌==◌, if◌then◌else◌, List, [], ◌∷◌, ◌++◌, ◌+ℤ◌, Option, Some, None}
use Rattle.std.specs.Option.{option_map}
use Rattle.cg_base.specs.Parts.{◌>>=◌}
use Rattle.cg_model_source.specs.Spelling.{Signed, is_sign, parted, plus}
use Rattle.cg_model_source.specs.declared.written.Sum.{Sum}

-- What is left of a text from a part on, and whether that part is taken off.
abbrev pub Left : Type 0
Left = Bool × List ℕ

-- A sign in front may be left out.
abbrev pub first_part : List ℕ → Left
first_part [] = (false, [])
first_part (b ∷ bs) = if is_sign b then (b == 45, bs) else (false, b ∷ bs)

-- Behind a part stands a sign, or nothing.
abbrev pub next_part : List ℕ → Option Left
next_part [] = None
next_part (b ∷ bs) = Some (b == 45, bs)

abbrev pub parts_from : Bool → List ℕ → List Signed
parts_from minus text = record { minus = minus; text = (parted text).front } ∷ (parted text).signed

abbrev pub left_parts : Option Left → List Signed
left_parts None = []
left_parts (Some x) = parts_from x.0 x.1

-- Two sums together.
abbrev pub added : Sum → Sum → Sum
added a b = record { number = a.number +ℤ b.number; terms = a.terms ++ b.terms }

-- A part put to a sum gives, with any sum behind, what the sum gives with the part and that behind. Where it is no part of a sum,
-- there is none.
abbrev pub Adds : List (List ℕ) → Sum → Signed → Bool → Sum → Type 0
Adds words before part is now = (behind : Option Sum) → option_map (added before) (behind >>= plus words part) ≡ (if is then option_map (added now) behind else None)
