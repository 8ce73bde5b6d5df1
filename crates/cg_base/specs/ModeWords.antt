-- The words for modes (docs/LANGUAGE.md, "Modes").
use Rattle.std.specs.Prelude.{ℕ, Bool, ◌||◌, List, [], ◌∷◌, codes}
use Rattle.cg_base.specs.Texts.{same_text, is_among}

-- The word is a mode that a value may have.
abbrev pub is_value_mode : List ℕ → Bool
is_value_mode word =
    is_among (
    codes "BI" ∷ codes "QI" ∷ codes "HI" ∷ codes "SI" ∷ codes "DI" ∷ codes "UQI" ∷ codes "UHI" ∷ codes "USI" ∷ codes "UDI" ∷ codes "INT" ∷ codes "UINT" ∷ codes "WI" ∷ codes "UWI" ∷ codes "AI" ∷ codes "IAI" ∷ []
    ) word

-- The word gives a mode: one that a value may have, or `VOID`.
abbrev pub gives_mode : List ℕ → Bool
gives_mode word = same_text word (codes "VOID") || is_value_mode word

-- The word is a mode. `DFLT` is one that is as no mode written.
abbrev pub is_mode : List ℕ → Bool
is_mode word = same_text word (codes "DFLT") || gives_mode word
