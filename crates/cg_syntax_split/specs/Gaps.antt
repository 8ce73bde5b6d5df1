-- Words that follow one another: where a space stands in front of the next.
use Rattle.std.specs.Prelude.{Bool, true, false, ◌&&◌, if◌then◌else◌, List, [], ◌∷◌, ◌++◌}
use Rattle.cg_model_source.specs.Squeezing.{begins, ends}
use Rattle.cg_syntax_split.specs.declared.squeeze.Gap.{Gap}
use Rattle.cg_syntax_split.specs.declared.squeeze.Gap.TheVariants.{Start, Space, Joining}

abbrev pub wants_space : Gap → Bool → Bool
wants_space Start joins = false
wants_space Space joins = true
wants_space (Joining before) joins = before && joins

abbrev pub gap_behind : Gap → Bool → Gap
gap_behind Start joins = Space
gap_behind Space joins = Joining joins
gap_behind (Joining before) joins = Joining joins

-- A word, with a space in front where one stands.
abbrev pub with_space : {A : Type 0} → (A → Bool) → A → Gap → List A → List A
with_space joining space gap w = if wants_space gap (begins joining w) then space ∷ w else w

-- The words from there on.
abbrev pub words_behind : {A : Type 0} → (A → Bool) → A → Gap → List (List A) → List A
words_behind joining space gap [] = []
words_behind joining space gap (w ∷ ws) = with_space joining space gap w ++ words_behind joining space (gap_behind gap (ends joining w)) ws
