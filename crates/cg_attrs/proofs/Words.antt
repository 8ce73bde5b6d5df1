-- Words that are read from left to right.
use Rattle.std.proofs.Common.{◌≡◌, ℕ, Bool, true, false, List, [], ◌∷◌, ◌++◌, ◌==◌, if◌then◌else◌, refl, sym, ap, ◌∙◌, append-nil, append_assoc, rules}
use Rattle.cg_attrs.specs.Attrs.{in_front, words_of}

-- the words of a text behind those bytes of the first
abbrev pub words_behind : List ℕ → List ℕ → List (List ℕ)
words_behind word [] = word ∷ []
words_behind word (b ∷ bs) = if b == 44 then word ∷ words_behind [] bs else words_behind (word ++ b ∷ []) bs

-- a front of the first word
abbrev pub joined : List ℕ → List (List ℕ) → List (List ℕ)
joined word [] = word ∷ []
joined word (w ∷ ws) = (word ++ w) ∷ ws

in_front_joined : (word : List ℕ) (b : ℕ) (ws : List (List ℕ)) → joined (word ++ b ∷ []) ws ≡ joined word (in_front b ws)
in_front_joined word b [] = refl
in_front_joined word b (w ∷ ws) = ap (λ first. first ∷ ws) (append_assoc word (b ∷ []) w)

none_joined : (bs : List ℕ) → joined [] (words_of bs) ≡ words_of bs
none_joined [] = refl
none_joined (b ∷ bs) = grind rules

-- one byte more, be it a comma or not
words_joined_if : (comma : Bool) (word : List ℕ) (b : ℕ) (bs : List ℕ) →
    words_behind [] bs ≡ words_of bs → words_behind (word ++ b ∷ []) bs ≡ joined (word ++ b ∷ []) (words_of bs) →
    (if comma then word ∷ words_behind [] bs else words_behind (word ++ b ∷ []) bs) ≡ joined word (if comma then [] ∷ words_of bs else in_front b (words_of bs))
words_joined_if true word b bs p q = rw (p, append-nil word) refl
words_joined_if false word b bs p q = q ∙ in_front_joined word b (words_of bs)

words_joined : (word bs : List ℕ) → words_behind word bs ≡ joined word (words_of bs)
words_joined word [] = ap (λ first. first ∷ []) (sym (append-nil word))
words_joined word (b ∷ bs) =
    words_joined_if (b == 44) word b bs (words_joined [] bs ∙ none_joined bs) (words_joined (word ++ b ∷ []) bs)

pub words_read : (bs : List ℕ) → words_of bs ≡ words_behind [] bs
words_read bs = sym (words_joined [] bs ∙ none_joined bs)
