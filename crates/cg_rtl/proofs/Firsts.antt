-- The first text of faults that are joined.
use Rattle.std.proofs.Common.{◌≡◌, List, [], ◌∷◌, ◌++◌, Bool, true, false, refl, if◌then◌else◌}
use Rattle.std.specs.Option.{option_or}
use Rattle.cg_base.specs.Refusing.{first}
use Rattle.cg_rtl.specs.declared.faults.Flaw.{Flaw}
use Rattle.cg_rtl.specs.Shapes.{Flawed, is_flaw, texts}

pub first_append : (flaw : Flaw) (xs ys : List Flawed) → first (texts flaw (xs ++ ys)) ≡ option_or (first (texts flaw xs)) (first (texts flaw ys))
first_append flaw [] ys = refl
first_append flaw (x ∷ xs) ys = by (is_flaw flaw x.0) (first_append flaw xs ys) where
  by : (b : Bool) → first (texts flaw (xs ++ ys)) ≡ option_or (first (texts flaw xs)) (first (texts flaw ys)) →
      first (if b then x.1 ∷ texts flaw (xs ++ ys) else texts flaw (xs ++ ys)) ≡ option_or (first (if b then x.1 ∷ texts flaw xs else texts flaw xs)) (first (texts flaw ys))
  by true h = refl
  by false h = h
