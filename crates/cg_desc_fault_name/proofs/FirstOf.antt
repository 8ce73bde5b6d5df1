-- The first of what is said of several, where one says something.
use Rattle.std.proofs.Common.{◌≡◌, ◌∙◌, ℕ, suc, ◌<◌, List, [], ◌∷◌, ◌++◌, map, drop, length, get_or, Option, Some, None, refl, sym, ap}
use Rattle.std.specs.List.{flat_map}
use Rattle.std.specs.Option.{option_or}
use Rattle.std.proofs.Math.Seq.{drop-cons}
use Rattle.cg_base.specs.Refusing.{first}
use Rattle.cg_desc_fault_report.proofs.Firsts.{first_append}

-- it is the first of all, where those before it say nothing
pub first_here : {A B C : Type 0} (f : B → List C) (see : A → B) (xs : List A) (k : ℕ) (d x : A) (s : C) → k < length xs → x ≡ get_or xs k d → Some s ≡ first (f (see x))
    → first (flat_map f (map see (drop k xs))) ≡ first (flat_map f (map see xs)) → Some s ≡ first (flat_map f (map see xs))
first_here {A} {B} {C} f see xs k d x s within is here same =
    let own : Option C = first (f (see (get_or xs k d))) in
    let others : Option C = first (flat_map f (map see (drop (suc k) xs))) in
    let found : own ≡ Some s = sym (here ∙ ap (λ y. first (f (see y))) is) in
    let joined : first (flat_map f (map see (drop k xs))) ≡ option_or own others =
    ap (λ ys. first (flat_map f (map see ys))) (drop-cons xs k d within) ∙ first_append (f (see (get_or xs k d))) (flat_map f (map see (drop (suc k) xs))) in
    let whole : option_or own others ≡ Some s = ap (λ o. option_or o others) found in
    sym (joined ∙ whole) ∙ same
