-- Arguments that stand by their places.
use Rattle.std.proofs.Common.{◌≡◌, List, [], ◌∷◌, length, map, refl, arith}
use Rattle.std.specs.Prelude.{slice_get}
use Rattle.std.specs.List.{zip}
use Rattle.std.specs.Option.{option_map}
use Rattle.cg_base.specs.declared.form.Form.{Form}
use Rattle.cg_attrs.specs.declared.clauses.Row.{Row}
use Rattle.cg_base.specs.Refusing.{first}
use Rattle.cg_attrs.specs.Clauses.{seen}
use Rattle.cg_attrs.specs.Judging.{heading, extra, missing}

-- the first that has no row stands behind as many as there are rows
pub first_extra : {C : Type 0} (rows : List (Row C)) (fs : List Form) → first (extra (map seen rows) fs) ≡ option_map heading (slice_get fs (length rows))
first_extra [] [] = refl
first_extra [] (f ∷ fs) = refl
first_extra (r ∷ rs) [] = refl
first_extra (r ∷ rs) (f ∷ fs) = first_extra rs fs

-- the first row that has no argument stands behind as many as there are arguments
pub first_missing : {C : Type 0} (rows : List (Row C)) (fs : List Form) → first (missing (map seen rows) fs) ≡ option_map (λ r. r.name.now) (slice_get rows (length fs))
first_missing [] [] = refl
first_missing [] (f ∷ fs) = refl
first_missing (r ∷ rs) [] = refl
first_missing (r ∷ rs) (f ∷ fs) = first_missing rs fs

-- without rows or without arguments there are no pairs
pub no_rows : {C : Type 0} (rows : List (Row C)) (fs : List Form) → length rows ≡ 0 → zip (map seen rows) fs ≡ []
no_rows [] fs h = refl
no_rows (r ∷ rs) fs h = absurd (omega arith)

pub no_arguments : {C : Type 0} (rows : List (Row C)) (fs : List Form) → length fs ≡ 0 → zip (map seen rows) fs ≡ []
no_arguments [] fs h = refl
no_arguments (r ∷ rs) [] h = refl
no_arguments (r ∷ rs) (f ∷ fs) h = absurd (omega arith)
