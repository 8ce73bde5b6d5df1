-- Texts that are compared.
use Rattle.std.specs.Prelude.{ℕ, Bool, false, nat_eq, List, Option, Some, None}
use Rattle.std.specs.Borrow.{Bor}
use Rattle.std.specs.List.{list_any}
use Rattle.std.specs.Cmp.Lexicographic.{pointwise}

-- Two texts have the same bytes.
abbrev pub same_text : List ℕ → List ℕ → Bool
same_text = pointwise nat_eq

-- a text that is lent
abbrev pub seen_text : Bor (List ℕ) → List ℕ
seen_text text = text.now

-- The text is one of these.
abbrev pub is_among : List (List ℕ) → List ℕ → Bool
is_among texts text = list_any (λ each. same_text each text) texts

-- There is a value, and it passes the test.
abbrev pub passes : {A : Type 0} → (A → Bool) → Option A → Bool
passes test None = false
passes test (Some x) = test x

-- There is a name, and it is this one.
abbrev pub is_named : List ℕ → Option (List ℕ) → Bool
is_named name found = passes (λ text. same_text text name) found
