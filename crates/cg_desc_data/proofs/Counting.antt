-- The number of a name is that of its first place.
use Rattle.std.proofs.Common.{◌≡◌, ℕ, suc, ◌+◌, Bool, true, false, List, [], ◌∷◌, Option, Some, None, refl, ap, ◌∙◌, if◌then◌else◌, arith}
use Rattle.std.specs.Option.{option_or, option_map}
use Rattle.cg_base.specs.Texts.{same_text}
use Rattle.cg_rtl_resolve.specs.Names.{place_of}
use Rattle.cg_desc_data.specs.Numbering.{short, Numbering, numbered, numbered_from, Keeps}

-- a number behind so many others
counted : ℕ → ℕ → ℕ
counted k n = short (k + n)

later : (k : ℕ) (a : Option ℕ) → option_map (counted (k + 1)) a ≡ option_map (counted k) (option_map suc a)
unfolding counted
later k None = refl
later k (Some n) =
    let e : k + 1 + n ≡ k + suc n = omega arith in ap (λ j. Some (short j)) e

here : (b : Bool) (k : ℕ) (a : Option ℕ) → option_or (if b then Some (short k) else None) (option_map (counted (k + 1)) a) ≡ option_map (counted k) (if b then Some 0 else option_map suc a)
unfolding counted
here true k a =
    let e : k ≡ k + 0 = omega arith in ap (λ j. Some (short j)) e
here false k a = later k a

from_is : (k : ℕ) (name : List ℕ) (xs : List (List ℕ)) → numbered_from k name xs ≡ option_map (counted k) (place_of name xs)
from_is k name [] = refl
from_is k name (x ∷ xs) =
    ap (option_or (if same_text x name then Some (short k) else None)) (from_is (k + 1) name xs) ∙ here (same_text x name) k (place_of name xs)

whole : (a : Option ℕ) → option_map (counted 0) a ≡ option_map short a
unfolding counted
whole None = refl
whole (Some n) =
    let e : 0 + n ≡ n = omega arith in ap (λ j. Some (short j)) e

pub numbered_is : (names : List (List ℕ)) (held : Numbering) → Keeps names held → held ≡ numbered names
unfolding Keeps
numbered_is names held keeps = λ i name. (keeps name ∙ from_is 0 name names ∙ whole (place_of name names)) i
