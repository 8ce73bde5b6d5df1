-- Names and their numbers: each number is that of one name.
use Rattle.std.proofs.Common.{◌≡◌, ◌∙◌, ℕ, zero, suc, pred, ◌≤◌, ◌<◌, min, Bool, true, false, ◌||◌, if◌then◌else◌, List, [], ◌∷◌, length, Option, Some, None, slice_get, refl, sym, ap, subst, arith}
use Rattle.std.specs.Cmp.Lexicographic.{bytes_decides}
use Rattle.std.specs.Option.{option_map}
use Rattle.std.proofs.lemmas.Bool.{false≢true}
use Rattle.cg_base.specs.Texts.{same_text, is_among}
use Rattle.cg_desc_laws_forms.proofs.Clauses.{equal_texts}
use Rattle.cg_desc_laws_forms.proofs.Lists.{the_found}
use Rattle.cg_rtl_resolve.specs.Names.{place_of}
use Rattle.cg_desc_data.specs.Numbering.{short, numbered}
use Rattle.cg_desc_machine.specs.Instructions.{slot_number}

-- what stands at a place, stands within
pub within : {A : Type 0} (xs : List A) (k : ℕ) (x : A) → slice_get xs k ≡ Some x → k < length xs
within [] k x is = absurd cc
within (y ∷ ys) zero x is = omega arith
within (y ∷ ys) (suc k) x is = let rest = within ys k x is in omega (arith, rest)

-- at the first place of a name, it stands
pub place_is : (name : List ℕ) (xs : List (List ℕ)) (k : ℕ) → place_of name xs ≡ Some k → slice_get xs k ≡ Some name
place_is name [] k is = absurd cc
place_is name (x ∷ xs) k is = at (λ n there. place_is name xs n there) (same_text x name) refl (place_of name xs) refl k is where
  at : ((n : ℕ) → place_of name xs ≡ Some n → slice_get xs n ≡ Some name) → (b : Bool) → same_text x name ≡ b → (o : Option ℕ) → place_of name xs ≡ o → (j : ℕ) → (if b then Some 0 else option_map suc o) ≡ Some j → slice_get (x ∷ xs) j ≡ Some name
  at rest true same o there zero e = ap Some (equal_texts x name same)
  at rest true same o there (suc j) e = absurd cc
  at rest false same None there j e = absurd cc
  at rest false same (Some n) there zero e = absurd cc
  at rest false same (Some n) there (suc j) e = rest j (there ∙ ap (option_map pred) e)

-- a name that is one of some has a place among them
pub record HasPlace (xs : List (List ℕ)) (name : List ℕ) : Type 0 where
  pub place : ℕ
  pub is : place_of name xs ≡ Some place

pub placed : (xs : List (List ℕ)) (name : List ℕ) → is_among xs name ≡ true → HasPlace xs name
placed [] name h = absurd (false≢true h)
placed (x ∷ xs) name h = at (placed xs name) (same_text x name) refl h where
  at : (is_among xs name ≡ true → HasPlace xs name) → (b : Bool) → same_text x name ≡ b → (b || is_among xs name) ≡ true → HasPlace (x ∷ xs) name
  at rest true same e = record { place = 0; is = ap (λ b. if b then Some 0 else option_map suc (place_of name xs)) same }
  at rest false same e =
      let r : HasPlace xs name = rest e in
      record { place = suc r.place; is = ap (λ b. if b then Some 0 else option_map suc (place_of name xs)) same ∙ ap (option_map suc) r.is }

-- A name with its number, at which it stands.
pub record HasNumber (numbers : List ℕ → Option ℕ) (names : List (List ℕ)) (name : List ℕ) : Type 0 where
  pub number : ℕ
  pub is : numbers name ≡ Some number
  pub there : slice_get names number ≡ Some name

-- one number, one name
pub same_name : (numbers : List ℕ → Option ℕ) (names : List (List ℕ)) (a b : List ℕ) (x : HasNumber numbers names a) (y : HasNumber numbers names b) → x.number ≡ y.number → a ≡ b
same_name numbers names a b x y same = the_found a b (sym x.there ∙ ap (slice_get names) same ∙ y.there)

-- Among so few names each has its place for a number.
pub cut_short : (names : List (List ℕ)) (name : List ℕ) (most place : ℕ) → length names ≤ suc most → slice_get names place ≡ Some name → min place most ≡ place
cut_short names name most place few there = let below = within names place name there in omega (arith, below)

pub numbered_at : (names : List (List ℕ)) (name : List ℕ) → length names ≤ 65536 → is_among names name ≡ true → HasNumber (numbered names) names name
numbered_at names name few h =
    let p : HasPlace names name = placed names name h in
    let there : slice_get names p.place ≡ Some name = place_is name names p.place p.is in
    record { number = p.place; is = ap (option_map short) p.is ∙ ap Some (cut_short names name 65535 p.place few there); there = there }

pub slot_at : (slots : List (List ℕ)) (name : List ℕ) → length slots ≤ 256 → is_among slots name ≡ true → HasNumber (slot_number slots) slots name
slot_at slots name few h =
    let p : HasPlace slots name = placed slots name h in
    let there : slice_get slots p.place ≡ Some name = place_is name slots p.place p.is in
    record { number = p.place; is = ap (option_map (λ k. min k 255)) p.is ∙ ap Some (cut_short slots name 255 p.place few there); there = there }

-- the name of a slot of a number stands there
pub slot_there : (slots : List (List ℕ)) (name : List ℕ) (k : ℕ) → length slots ≤ 256 → slot_number slots name ≡ Some k → slice_get slots k ≡ Some name
slot_there slots name k few is = at (place_of name slots) refl is where
  at : (o : Option ℕ) → place_of name slots ≡ o → option_map (λ n. min n 255) o ≡ Some k → slice_get slots k ≡ Some name
  at None place e = absurd cc
  at (Some n) place e =
      let there : slice_get slots n ≡ Some name = place_is name slots n place in
      let same : n ≡ k = sym (cut_short slots name 255 n few there) ∙ the_found (min n 255) k e in
      subst (λ j. slice_get slots j ≡ Some name) same there

pub is_own : (name : List ℕ) → same_text name name ≡ true
is_own name = (bytes_decides name name).1 refl

-- a name that has a place among some is one of them
pub among_place : (xs : List (List ℕ)) (name : List ℕ) (k : ℕ) → place_of name xs ≡ Some k → is_among xs name ≡ true
among_place [] name k is = absurd cc
among_place (x ∷ xs) name k is = at (λ n there. among_place xs name n there) (same_text x name) (place_of name xs) refl k is where
  at : ((n : ℕ) → place_of name xs ≡ Some n → is_among xs name ≡ true) → (b : Bool) (o : Option ℕ) → place_of name xs ≡ o → (j : ℕ) → (if b then Some 0 else option_map suc o) ≡ Some j → (b || is_among xs name) ≡ true
  at rest true o there j e = refl
  at rest false None there j e = absurd cc
  at rest false (Some n) there j e = rest n there
