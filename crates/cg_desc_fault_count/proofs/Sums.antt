-- Long texts and sums of lists that are joined, and lists of one.
use Rattle.std.proofs.Common.{◌≡◌, ◌∙◌, ℕ, List, [], ◌∷◌, ◌++◌, append_assoc, refl, sym, ap}
use Rattle.std.proofs.lemmas.Grind.{common_steps}
use Rattle.cg_model_faults.specs.E308.{long_text, long_texts}
use Rattle.cg_desc_fault_report.proofs.Firsts.{first_append}

pub long_append : (xs ys : List (List ℕ)) → long_texts (xs ++ ys) ≡ long_texts xs ++ long_texts ys
long_append [] ys = refl
long_append (x ∷ xs) ys = ap (λ zs. long_text x ++ zs) (long_append xs ys) ∙ sym (append_assoc (long_text x) (long_texts xs) (long_texts ys))

pub none_after : {A : Type 0} (xs : List A) → xs ++ [] ≡ xs
none_after [] = refl
none_after (z ∷ xs) = ap (λ t. z ∷ t) (none_after xs)

pub ruleset long_rules = (common_steps, first_append, long_append)

pub ruleset sum_rules = (common_steps, none_after)
