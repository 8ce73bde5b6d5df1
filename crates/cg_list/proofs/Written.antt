-- Bytes in hexadecimal digits, one behind the other.
use Rattle.std.proofs.Common.{◌≡◌, ℕ, List, [], ◌∷◌, ◌++◌, append_assoc, append-nil, codes, sym, ap, ◌∙◌, refl}
use Rattle.std.proofs.lemmas.Grind.{common_steps}
use Rattle.cg_model_source.specs.Listing.{byte_text, byte_texts}
use Rattle.cg_list.specs.Bundles.{texts_behind}

regroup : (a b c d : List ℕ) → (a ++ b) ++ (c ++ d) ≡ a ++ ((b ++ c) ++ d)
regroup a b c d = append_assoc a b (c ++ d) ∙ ap (λ xs. a ++ xs) (sym (append_assoc b c d))

-- the first byte, and those behind it
pub texts_split : (b : ℕ) (bs : List ℕ) → byte_texts (b ∷ bs) ≡ byte_text b ++ texts_behind bs
texts_split b [] = sym (append-nil (byte_text b))
texts_split b (c ∷ cs) = ap (λ xs. byte_text b ++ codes ", " ++ xs) (texts_split c cs) ∙ regroup (byte_text b) (codes ", ") (byte_text c) (texts_behind cs)

pub ruleset digit_rules = (common_steps, append_assoc, texts_split)
