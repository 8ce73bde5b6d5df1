-- A number that a name has is below the count of the names.
use Rattle.std.proofs.Common.{◌≡◌, ℕ, suc, ◌+◌, ◌≤◌, min, Bool, true, false, not, ◌||◌, nat_lt, if◌then◌else◌, List, [], ◌∷◌, length, Option, Some, None, is_some, refl, arith}
use Rattle.std.specs.Option.{option_map, unwrap_or}
use Rattle.std.proofs.lemmas.Bool.{false≢true}
use Rattle.std.proofs.lemmas.Bool.Decides.{nat_tests}
use Rattle.cg_base.specs.Texts.{same_text, is_among}
use Rattle.cg_desc_laws_forms.proofs.Lists.{the_found}
use Rattle.cg_desc_data.specs.Numbering.{short, numbered}
use Rattle.cg_model_faults.specs.E306.{beyond, beyond_from}
use Rattle.cg_model_faults.specs.Finding.{at_place}
use Rattle.cg_model_faults.specs.declared.fault.Said.TheVariants as said
use Rattle.cg_rtl_resolve.specs.Names.{place_of}
use Rattle.cg_desc_machine.specs.Instructions.{number_or_none}
use Rattle.cg_desc_laws.proofs.CountedLimits.{none_where}
use Rattle.cg_desc_laws.proofs.CountedWithin.{none_joined}
use Rattle.cg_desc_laws.proofs.Members.{AllHold}

-- a number that is below
abbrev pub IsBelow : ℕ → ℕ → Type 0
IsBelow count n = suc n ≤ count

pub there : (count place n : ℕ) → IsBelow count n → beyond count place n ≡ []
there count place n below =
    let never : not (nat_lt n count) ≡ false = grind (arith, nat_tests) in
    none_where (not (nat_lt n count)) (at_place 306 place (said.Count n) said.Nothing) never

pub all_there : (count place : ℕ) (ns : List ℕ) → AllHold (IsBelow count) ns → beyond_from count place ns ≡ []
all_there count place [] all = refl
all_there count place (n ∷ ns) all = none_joined (beyond count place n) (beyond_from count (place + 1) ns) (there count place n all.0) (all_there count (place + 1) ns all.1)

pub place_below : (name : List ℕ) (names : List (List ℕ)) (k : ℕ) → place_of name names ≡ Some k → IsBelow (length names) k
place_below name [] k is = absurd cc
place_below name (x ∷ xs) k is = by (same_text x name) is (place_below name xs) where
  next : (o : Option ℕ) → option_map suc o ≡ Some k → ((n : ℕ) → o ≡ Some n → IsBelow (length xs) n) → IsBelow (suc (length xs)) k
  next None e rest = absurd cc
  next (Some n) e rest =
      let below : suc n ≤ length xs = rest n refl in
      let same : suc n ≡ k = the_found (suc n) k e in
      omega (arith, below, same)

  first : Some 0 ≡ Some k → IsBelow (suc (length xs)) k
  first e = let same : 0 ≡ k = the_found 0 k e in omega (arith, same)

  by : (b : Bool) → (if b then Some 0 else option_map suc (place_of name xs)) ≡ Some k → ((n : ℕ) → place_of name xs ≡ Some n → IsBelow (length xs) n) → IsBelow (suc (length xs)) k
  by true e rest = first e
  by false e rest = next (place_of name xs) e rest

-- in short
pub number_below : (names : List (List ℕ)) (name : List ℕ) (k : ℕ) → numbered names name ≡ Some k → IsBelow (length names) k
number_below names name k is = by (place_of name names) refl is where
  least : (n most : ℕ) → min n most ≤ n
  least n most = omega arith

  by : (o : Option ℕ) → place_of name names ≡ o → option_map short o ≡ Some k → IsBelow (length names) k
  by None place e = absurd cc
  by (Some n) place e =
      let below : suc n ≤ length names = place_below name names n place in
      let same : short n ≡ k = the_found (short n) k e in
      let fewer : short n ≤ n = least n 65535 in
      omega (arith, below, same, fewer)

-- A name among names has a number.
pub named_below : (names : List (List ℕ)) (name : List ℕ) → is_some (numbered names name) ≡ true → IsBelow (length names) (number_or_none (numbered names) name)
named_below names name some = by (numbered names name) refl some where
  by : (o : Option ℕ) → numbered names name ≡ o → is_some o ≡ true → IsBelow (length names) (unwrap_or o 0)
  by None is e = absurd (false≢true e)
  by (Some k) is e = number_below names name k is

mapped_some : {A B : Type 0} (f : A → B) (o : Option A) → is_some o ≡ true → is_some (option_map f o) ≡ true
mapped_some f None h = absurd (false≢true h)
mapped_some f (Some x) h = refl

pub among_placed : (names : List (List ℕ)) (name : List ℕ) → is_among names name ≡ true → is_some (place_of name names) ≡ true
among_placed [] name e = absurd (false≢true e)
among_placed (x ∷ xs) name e = by (same_text x name) e (among_placed xs name) where
  by : (b : Bool) → (b || is_among xs name) ≡ true → (is_among xs name ≡ true → is_some (place_of name xs) ≡ true) → is_some (if b then Some 0 else option_map suc (place_of name xs)) ≡ true
  by true e rest = refl
  by false e rest = mapped_some suc (place_of name xs) (rest e)

pub among_numbered : (names : List (List ℕ)) (name : List ℕ) → is_among names name ≡ true → is_some (numbered names name) ≡ true
among_numbered names name e = mapped_some short (place_of name names) (among_placed names name e)
