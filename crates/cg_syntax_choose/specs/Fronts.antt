-- What a text begins with: all up to its first blank, in small letters.
use Rattle.std.specs.Prelude.{ℕ, Bool, true, ◌==◌, if◌then◌else◌, List, [], ◌∷◌, Option, Some, None}
use Rattle.std.specs.Option.{option_map}
use Rattle.cg_base.specs.Texts.{same_text}
use Rattle.cg_model.specs.Words.{lower}
use Rattle.cg_model_source.specs.declared.written.Mark.{Mark}
use Rattle.cg_model_source.specs.declared.written.Mark.TheVariants.{Byte, Slot}

abbrev pub text_front : List ℕ → List ℕ
text_front [] = []
text_front (c ∷ text) = if c == 32 then [] else lower c ∷ text_front text

-- The same of a syntax. There is none where a slot stands before the first blank.
abbrev pub front_of : List Mark → Option (List ℕ)
front_of [] = Some []
front_of (Byte b ∷ ms) = if b == 32 then Some [] else option_map (λ t. lower b ∷ t) (front_of ms)
front_of (Slot k ∷ ms) = None

-- A text that begins so may be written by a syntax that begins so.
abbrev pub may_split : Option (List ℕ) → List ℕ → Bool
may_split None front = true
may_split (Some own) front = same_text own front
