-- The lines of a text make the text.
use Rattle.std.proofs.Common.{◌≡◌, ℕ, Bool, true, false, ◌==◌, if◌then◌else◌, List, [], ◌∷◌, refl, ap, ◌∙◌, sym}
use Rattle.std.proofs.lemmas.Bool.{eqb-true}
use Rattle.cg_model_source.specs.Lining.{parted_at, put_in_front}
use Rattle.cg_top.specs.Lines.{lines_by, lines_of}
use Rattle.cg_top.specs.Top.{text_of}

-- a text has a part
front_some : (b : ℕ) (ps : List (List ℕ)) → put_in_front b ps ≡ [] → ⊥
front_some b [] e = cc
front_some b (p ∷ ps) e = cc

part_there_by : (b : ℕ) (ps : List (List ℕ)) (c : Bool) → (if c then [] ∷ ps else put_in_front b ps) ≡ [] → ⊥
part_there_by b ps true e = cc
part_there_by b ps false e = front_some b ps e

part_there : (t : List ℕ) → parted_at 10 t ≡ [] → ⊥
part_there [] e = cc
part_there (b ∷ bs) e = part_there_by b (parted_at 10 bs) (b == 10) e

-- an end of a line in front
end_before : (t : List ℕ) (ps : List (List ℕ)) → parted_at 10 t ≡ ps → text_of (lines_by ([] ∷ ps)) ≡ 10 ∷ text_of (lines_by ps)
end_before t [] e = absurd (part_there t e)
end_before t (p ∷ ps) e = refl

-- another byte in front
byte_before : (b : ℕ) (ps : List (List ℕ)) → text_of (lines_by (put_in_front b ps)) ≡ b ∷ text_of (lines_by ps)
byte_before b [] = refl
byte_before b ([] ∷ []) = refl
byte_before b ((c ∷ cs) ∷ []) = refl
byte_before b (p ∷ q ∷ qs) = refl

whole_by : (b : ℕ) (bs : List ℕ) (c : Bool) → (b == 10) ≡ c → text_of (lines_of bs) ≡ bs → text_of (lines_by (if c then [] ∷ parted_at 10 bs else put_in_front b (parted_at 10 bs))) ≡ b ∷ bs
whole_by b bs true e below = end_before bs (parted_at 10 bs) refl ∙ ap (λ t. 10 ∷ t) below ∙ ap (λ x. x ∷ bs) (sym (eqb-true b 10 e))
whole_by b bs false e below = byte_before b (parted_at 10 bs) ∙ ap (λ t. b ∷ t) below

pub lines_whole : (t : List ℕ) → text_of (lines_of t) ≡ t
lines_whole [] = refl
lines_whole (b ∷ bs) = whole_by b bs (b == 10) refl (lines_whole bs)
