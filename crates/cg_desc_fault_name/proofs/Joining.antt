-- Names at fault among those of several pieces and parts.
use Rattle.std.proofs.Common.{◌≡◌, ◌∙◌, ℕ, suc, Bool, List, [], ◌∷◌, ◌++◌, append_assoc, refl, sym, ap}
use Rattle.std.specs.List.{flat_map}
use Rattle.std.proofs.lemmas.Grind.{common_steps}
use Rattle.cg_desc_references.specs.declared.reference.Reference.{Reference}
use Rattle.cg_desc_choices.specs.declared.written.WrittenPiece.{WrittenPiece}
use Rattle.cg_desc_fault_report.specs.declared.saying.Placed.{Placed}
use Rattle.cg_desc_fault_name.specs.Names.{PlacedName, of_name, of_names, piece_names, of_piece, of_pieces}

pub names_append : (wrong : Reference → Bool) (xs ys : List PlacedName) → of_names wrong (xs ++ ys) ≡ of_names wrong xs ++ of_names wrong ys
names_append wrong [] ys = refl
names_append wrong (x ∷ xs) ys =
    ap (λ zs. of_name wrong x ++ zs) (names_append wrong xs ys) ∙ sym (append_assoc (of_name wrong x) (of_names wrong xs) (of_names wrong ys))

-- those of pieces, piece by piece
pub by_pieces : (wrong : Reference → Bool) (ps : List WrittenPiece) → of_names wrong (flat_map piece_names ps) ≡ of_pieces wrong ps
by_pieces wrong [] = refl
by_pieces wrong (p ∷ ps) = names_append wrong (piece_names p) (flat_map piece_names ps) ∙ ap (λ zs. of_piece wrong p ++ zs) (by_pieces wrong ps)

pub ruleset joining_rules = (common_steps, names_append, by_pieces)
