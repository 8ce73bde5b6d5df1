-- The first place of a name, counted.
use Rattle.std.proofs.Common.{◌≡◌, ℕ, suc, ◌+◌, Bool, true, false, List, [], ◌∷◌, Option, Some, None, refl, sym, ap, ◌∙◌, if◌then◌else◌, arith}
use Rattle.std.specs.Option.{option_map}
use Rattle.std.proofs.lemmas.Grind.{common_steps}
use Rattle.cg_base.specs.Texts.{same_text}
use Rattle.cg_rtl_resolve.specs.Names.{place_of}
use Rattle.cg_desc_machine.specs.Seen.{place_from}

-- a place behind so many others
behind : ℕ → ℕ → ℕ
behind k n = k + n

later : (k : ℕ) (a : Option ℕ) → option_map (behind (k + 1)) a ≡ option_map (behind k) (option_map suc a)
unfolding behind
later k None = refl
later k (Some n) =
    let e : k + 1 + n ≡ k + suc n = omega arith in ap Some e

here : (b : Bool) (k : ℕ) (a : Option ℕ) → (if b then Some k else option_map (behind (k + 1)) a) ≡ option_map (behind k) (if b then Some 0 else option_map suc a)
unfolding behind
here true k a =
    let e : k ≡ k + 0 = omega arith in ap Some e
here false k a = later k a

from_is : (k : ℕ) (name : List ℕ) (xs : List (List ℕ)) → place_from k name xs ≡ option_map (behind k) (place_of name xs)
from_is k name [] = refl
from_is k name (x ∷ xs) =
    ap (λ a. if same_text x name then Some k else a) (from_is (k + 1) name xs) ∙ here (same_text x name) k (place_of name xs)

whole : (a : Option ℕ) → option_map (behind 0) a ≡ a
unfolding behind
whole None = refl
whole (Some n) =
    let e : 0 + n ≡ n = omega arith in ap Some e

pub place_is : (name : List ℕ) (xs : List (List ℕ)) → place_of name xs ≡ place_from 0 name xs
place_is name xs = sym (from_is 0 name xs ∙ whole (place_of name xs))

pub ruleset place_rules = (common_steps, place_is)
