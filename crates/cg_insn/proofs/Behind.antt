-- What is read behind some bytes of a syntax.
use Rattle.std.proofs.Common.{◌≡◌, ℕ, zero, suc, List, [], ◌∷◌, ◌++◌, drop, Option, Some, None, refl, sym, ap, ◌∙◌, append_assoc}
use Rattle.std.specs.Option.{option_map}
use Rattle.cg_base.specs.Parts.{◌>>=◌}
use Rattle.cg_insn.specs.declared.syntax.NamedPiece.{NamedPiece}
use Rattle.cg_insn.specs.Syntax.{Spelled, first_piece, pieces_behind, in_front, pieces_of}

-- those that are passed are dropped
pub passed : (n : ℕ) (bs : List ℕ) → pieces_behind n bs ≡ pieces_behind 0 (drop n bs)
unfolding pieces_behind
passed zero [] = refl
passed zero (b ∷ bs) = refl
passed (suc n) [] = refl
passed (suc n) (b ∷ bs) = passed n bs

-- a piece behind others stands in front of those behind it
pub joined : (before : List NamedPiece) (piece : NamedPiece) (rest : Option (List NamedPiece)) → option_map (λ ps. (before ++ piece ∷ []) ++ ps) rest ≡ option_map (λ ps. before ++ ps) (in_front piece rest)
joined before piece None = refl
joined before piece (Some ps) = ap Some (append_assoc before (piece ∷ []) ps)

-- The pieces so far, and those of what is left, stay the pieces of the whole where the first piece of what is left goes over.
pub carried : (before now : List NamedPiece) (piece : NamedPiece) (more first : ℕ) (after rest left text : List ℕ) → now ≡ before ++ piece ∷ [] → Some (piece, more) ≡ first_piece rest → rest ≡ first ∷ after → left ≡ drop more after → option_map (λ ps. before ++ ps) (pieces_of rest) ≡ pieces_of text → option_map (λ ps. now ++ ps) (pieces_of left) ≡ pieces_of text
unfolding pieces_behind
carried before now piece more first after rest left text put read split passes h =
    ap (λ (n : List NamedPiece). option_map (λ ps. n ++ ps) (pieces_of left)) put ∙
    ap (λ (l : List ℕ). option_map (λ ps. (before ++ piece ∷ []) ++ ps) (pieces_of l)) passes ∙
    joined before piece (pieces_behind 0 (drop more after)) ∙
    ap (λ (r : Option (List NamedPiece)). option_map (λ ps. before ++ ps) (in_front piece r)) (sym (passed more after)) ∙
    ap (λ (s : Option Spelled). option_map (λ ps. before ++ ps) (s >>= (λ x. in_front x.0 (pieces_behind x.1 after)))) (read ∙ ap first_piece split) ∙
    ap (λ (l : List ℕ). option_map (λ ps. before ++ ps) (pieces_of l)) (sym split) ∙
    h
