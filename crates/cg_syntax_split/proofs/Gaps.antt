-- Words with single spaces, put one by one.
use Rattle.std.specs.Prelude.{Bool, ◌&&◌, if◌then◌else◌, List, [], ◌∷◌, ◌++◌}
use Rattle.std.proofs.Common.{◌≡◌, refl, sym, ap, ◌∙◌, append_assoc}
use Rattle.std.proofs.lemmas.List.{append-nil}
use Rattle.cg_model_source.specs.Squeezing.{begins, ends, behind, spaced}
use Rattle.cg_syntax_split.specs.Gaps.{words_behind}
use Rattle.cg_syntax_split.specs.declared.squeeze.Gap.TheVariants.{Start, Joining}

joined_behind : {A : Type 0} (joining : A → Bool) (space : A) (w : List A) (ws : List (List A)) → words_behind joining space (Joining (ends joining w)) ws ≡ behind joining space w ws
joined_behind joining space w [] = refl
joined_behind joining space w (v ∷ vs) = ap (λ t. (if ends joining w && begins joining v then space ∷ v else v) ++ t) (joined_behind joining space v vs)

pub spacing : {A : Type 0} (joining : A → Bool) (space : A) (ws : List (List A)) → words_behind joining space Start ws ≡ spaced joining space ws
spacing joining space [] = refl
spacing joining space (w ∷ []) = append-nil w
spacing joining space (w ∷ v ∷ vs) = ap (λ t. w ++ ((space ∷ v) ++ t)) (joined_behind joining space v vs) ∙ sym (append_assoc w (space ∷ v) (behind joining space v vs))
