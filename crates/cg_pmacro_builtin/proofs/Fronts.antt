-- What is put in front of the elements that an outcome has.
use Rattle.std.proofs.Common.{◌≡◌, ◌++◌, List, [], ◌∷◌, Result, Ok, Err, refl, sym, ap, append_assoc}
use Rattle.std.proofs.lemmas.Grind.{common_steps}
use Rattle.cg_pmacro_builtin.specs.Outcome.{onward}

-- an outcome with these elements in front of its own
abbrev pub in_front : {S X A : Type 0} → List A → Result (List A × S) X → Result (List A × S) X
in_front {S} {X} {A} front out = onward {A = List A × S} {B = List A × S} out (λ r. Ok (front ++ r.0, r.1))

pub none_in_front : {S X A : Type 0} (out : Result (List A × S) X) → in_front [] out ≡ out
none_in_front (Ok r) = refl
none_in_front (Err x) = refl

pub more_in_front : {S X A : Type 0} (front back : List A) (out : Result (List A × S) X) → in_front front (in_front back out) ≡ in_front (front ++ back) out
more_in_front {S} {X} {A} front back (Ok r) = let move : List A → Result (List A × S) X = λ ys. Ok (ys, r.1) in ap move (sym (append_assoc front back r.0))
more_in_front front back (Err x) = refl

pub one_in_front : {S X A : Type 0} (front : List A) (y : A) (out : Result (List A × S) X) → in_front front (in_front (y ∷ []) out) ≡ in_front (front ++ y ∷ []) out
one_in_front front y out = more_in_front front (y ∷ []) out

-- the same of an answer without a state
abbrev pub answer_in_front : {X A : Type 0} → List A → Result (List A) X → Result (List A) X
answer_in_front {X} {A} front out = onward {A = List A} {B = List A} out (λ ys. Ok (front ++ ys))

pub answer_none_in_front : {X A : Type 0} (out : Result (List A) X) → answer_in_front [] out ≡ out
answer_none_in_front (Ok ys) = refl
answer_none_in_front (Err x) = refl

pub answer_more_in_front : {X A : Type 0} (front back : List A) (out : Result (List A) X) → answer_in_front front (answer_in_front back out) ≡ answer_in_front (front ++ back) out
answer_more_in_front {X} {A} front back (Ok ys) = let whole : List A → Result (List A) X = λ zs. Ok zs in ap whole (sym (append_assoc front back ys))
answer_more_in_front front back (Err x) = refl

pub ruleset front_rules = (common_steps, none_in_front, one_in_front, more_in_front, answer_none_in_front, answer_more_in_front)
