-- Names of formals put in front of others.
use Rattle.std.proofs.Common.{◌≡◌, ℕ, Bool, true, false, ◌||◌, List, [], ◌∷◌, ◌++◌, Option, Some, None, refl, ap, ◌∙◌, append_assoc, arith, if◌then◌else◌}
use Rattle.std.specs.List.{list_any}
use Rattle.std.proofs.lemmas.Grind.{common_steps}
use Rattle.std.proofs.lemmas.Bool.Decides.{nat_tests}
use Rattle.cg_base.specs.Parts.{◌>>=◌}
use Rattle.cg_base.specs.Texts.{is_among, same_text}
use Rattle.cg_pmacro_builtin.specs.Shapes.{own_symbol, names_of}
use Rattle.cg_pmacro_builtin.specs.declared.body.Body.{Body}

-- the names in front of those of the rest, where they are distinct from these
abbrev pub names_in_front : List (List ℕ) → Option (List (List ℕ)) → Option (List (List ℕ))
names_in_front front rest = rest >>= λ names. if list_any (λ n. is_among names n) front then None else Some (front ++ names)

pub no_names_in_front : (rest : Option (List (List ℕ))) → names_in_front [] rest ≡ rest
no_names_in_front (Some names) = refl
no_names_in_front None = refl

-- a name in front of those of the rest
abbrev pub name_in_front : List ℕ → Option (List (List ℕ)) → Option (List (List ℕ))
name_in_front name rest = rest >>= λ names. if is_among names name then None else Some (name ∷ names)

pub same_text_sym : (a b : List ℕ) → same_text a b ≡ same_text b a
same_text_sym [] [] = refl
same_text_sym [] (y ∷ b) = refl
same_text_sym (x ∷ a) [] = refl
same_text_sym (x ∷ a) (y ∷ b) = let e = same_text_sym a b in grind (arith, nat_tests)

-- whether a name of the first stands among the last
abbrev meet : List (List ℕ) → List (List ℕ) → Bool
meet front names = list_any (λ n. is_among names n) front

apart : (front names : List (List ℕ)) (name : List ℕ) → is_among front name ≡ false → meet front (name ∷ names) ≡ meet front names
apart [] names name h = refl
apart (n ∷ front) names name h = let e = same_text_sym n name in let more = apart front names name in grind arith

met : (front names : List (List ℕ)) (name : List ℕ) → is_among front name ≡ true → meet front (name ∷ names) ≡ true
met [] names name h = absurd (cc)
met (n ∷ front) names name h = let e = same_text_sym n name in let more = met front names name in grind arith

met_last : (front names : List (List ℕ)) (name : List ℕ) → meet (front ++ name ∷ []) names ≡ meet front names || is_among names name
met_last [] names name = grind arith
met_last (n ∷ front) names name = let more = met_last front names name in grind arith

pub new_name_in_front : (front : List (List ℕ)) (name : List ℕ) (rest : Option (List (List ℕ))) → is_among front name ≡ false → names_in_front front (name_in_front name rest) ≡ names_in_front (front ++ name ∷ []) rest
new_name_in_front front name None h = refl
new_name_in_front front name (Some names) h = let e = apart front names name h in let last = met_last front names name in let move = append_assoc front (name ∷ []) names in grind arith

pub old_name_in_front : (front : List (List ℕ)) (name : List ℕ) (rest : Option (List (List ℕ))) → is_among front name ≡ true → names_in_front front (name_in_front name rest) ≡ None
old_name_in_front front name None h = refl
old_name_in_front front name (Some names) h = let e = met front names name h in grind arith

-- an element whose symbol is among those in front, and one whose symbol isn't
pub again : (front : List (List ℕ)) (bs rest : List Body) (b : Body) (name : List ℕ) → bs ≡ b ∷ rest → own_symbol b ≡ Some name → is_among front name ≡ true → names_in_front front (names_of bs) ≡ None
again front bs rest b name e s h = ap (λ xs. names_in_front front (names_of xs)) e ∙ ap (λ o. names_in_front front (o >>= λ n. name_in_front n (names_of rest))) s ∙ old_name_in_front front name (names_of rest) h

pub next : (front : List (List ℕ)) (bs rest : List Body) (b : Body) (name : List ℕ) → bs ≡ b ∷ rest → own_symbol b ≡ Some name → is_among front name ≡ false → names_in_front front (names_of bs) ≡ names_in_front (front ++ name ∷ []) (names_of rest)
next front bs rest b name e s h = ap (λ xs. names_in_front front (names_of xs)) e ∙ ap (λ o. names_in_front front (o >>= λ n. name_in_front n (names_of rest))) s ∙ new_name_in_front front name (names_of rest) h

met_nothing : (front : List (List ℕ)) → meet front [] ≡ false
met_nothing [] = refl
met_nothing (n ∷ front) = met_nothing front

pub names_in_front_of_none : (front : List (List ℕ)) → names_in_front front (Some []) ≡ Some front
names_in_front_of_none front = let e = met_nothing front in grind (arith, common_steps)

pub ruleset name_rules = (common_steps, names_in_front_of_none, no_names_in_front, new_name_in_front, old_name_in_front)
