-- Where each name stands at its own form, no two have one name: the place of a name among all is that of what has it.
use Rattle.std.proofs.Common.{◌≡◌, ◌∙◌, ℕ, suc, ◌+◌, ◌≤◌, ◌==◌, Bool, true, false, if◌then◌else◌, List, [], ◌∷◌, ◌++◌, map, length, Option, Some, None, slice_get, refl, sym, ap, subst, arith}
use Rattle.std.specs.List.{filter_map, cons_option}
use Rattle.std.specs.Option.{option_map}
use Rattle.std.specs.Cmp.Lexicographic.{bytes_decides}
use Rattle.std.proofs.lemmas.Bool.{false≢true}
use Rattle.std.proofs.lemmas.Bool.Decides.{nat_tests}
use Rattle.cg_base.specs.Texts.{same_text}
use Rattle.cg_desc_laws_forms.proofs.Members.{IsMember}
use Rattle.cg_desc_laws_forms.proofs.Clauses.{equal_texts, first_true}
use Rattle.cg_desc_data.specs.Selecting.{Selection, takes_part_in, member, members}
use Rattle.cg_desc_elements.specs.declared.element.Element.{Element}
use Rattle.cg_desc_elements.specs.declared.kind.Namespace.{Namespace}
use Rattle.cg_desc_names.specs.declared.names.Standing.{Standing}
use Rattle.cg_desc_names.specs.Table.{Table}
use Rattle.cg_rtl_resolve.specs.Names.{place_of}
use Rattle.cg_desc_references.specs.E305.{stands_here}
use Rattle.cg_desc_laws.proofs.Members.{AllHold, all_append}
use Rattle.cg_desc_laws.proofs.CountedGroups.{all_so}

-- The first of a name stands in a form before this one.
pub record StandsBefore (at : Table) (among : Namespace) (number : ℕ) (name : List ℕ) : Type 0 where
  pub standing : Standing
  pub is : at among name ≡ Some standing
  pub before : suc standing.form ≤ number

later : (at : Table) (among : Namespace) (number : ℕ) (name : List ℕ) → StandsBefore at among number name → StandsBefore at among (suc number) name
later at among number name x = record { standing = x.standing; is = x.is; before = more x.standing.form number x.before } where
  more : (n k : ℕ) → suc n ≤ k → suc n ≤ suc k
  more n k h = omega (arith, h)

-- what stands in the form itself stands before the next
stands_there : (at : Table) (among : Namespace) (number : ℕ) (name : List ℕ) → stands_here number 0 (at among name) ≡ true → StandsBefore at among (suc number) name
stands_there at among number name here = by (at among name) refl here where
  by : (o : Option Standing) → at among name ≡ o → stands_here number 0 o ≡ true → StandsBefore at among (suc number) name
  by None is e = absurd (false≢true e)
  by (Some x) is e = record { standing = x; is = is; before = less x.form number (first_true (x.form == number) (x.item == 0) e) } where
    less : (n k : ℕ) → (n == k) ≡ true → suc n ≤ suc k
    less n k same = grind (arith, nat_tests)

-- a name that stands in a form isn't one that stands before it
is_another : (at : Table) (among : Namespace) (number : ℕ) (name other : List ℕ) → stands_here number 0 (at among name) ≡ true → StandsBefore at among number other → same_text other name ≡ false
is_another at among number name other here x = by (same_text other name) refl where
  never : (o : Option Standing) → Some x.standing ≡ o → stands_here number 0 o ≡ true → ⊥
  never None is e = absurd cc
  never (Some y) is e =
      let same : (y.form == number) ≡ true = first_true (y.form == number) (y.item == 0) e in
      let less : suc x.standing.form ≤ number = x.before in
      let forms : x.standing.form ≡ y.form = ap (λ o. passing x.standing o) is in
      apart x.standing.form y.form number less forms same where
        passing : Standing → Option Standing → ℕ
        passing z None = z.form
        passing z (Some w) = w.form

        apart : (a b n : ℕ) → suc a ≤ n → a ≡ b → (b == n) ≡ true → ⊥
        apart a b n less forms same = grind (arith, nat_tests)

  by : (b : Bool) → same_text other name ≡ b → same_text other name ≡ false
  by false is = is
  by true is = absurd (never (at among name) (sym x.is ∙ ap (at among) (equal_texts other name is)) here)

-- the place of a name behind others
place_behind : (name : List ℕ) (front rest : List (List ℕ)) → AllHold (λ n. same_text n name ≡ false) front → place_of name (front ++ name ∷ rest) ≡ Some (length front)
place_behind name [] rest all = ap (λ b. if b then Some 0 else option_map suc (place_of name rest)) ((bytes_decides name name).1 refl)
place_behind name (x ∷ front) rest all =
    ap (λ b. if b then Some 0 else option_map suc (place_of name (front ++ name ∷ rest))) all.0 ∙ ap (option_map suc) (place_behind name front rest all.1)

-- Each of these has the place that it has among the names, from a place on.
abbrev pub ArePlaced : {A : Type 0} → (A → List ℕ) → List (List ℕ) → ℕ → List A → Type 0
ArePlaced name names k [] = Unit {0}
ArePlaced name names k (x ∷ xs) = (place_of (name x) names ≡ Some k) × ArePlaced name names (suc k) xs

long_more : {A : Type 0} (xs : List A) (x : A) → length (xs ++ x ∷ []) ≡ suc (length xs)
long_more [] x = refl
long_more (y ∷ ys) x = ap suc (long_more ys x)

pub joined_more : {A : Type 0} (xs : List A) (x : A) (ys : List A) → (xs ++ x ∷ []) ++ ys ≡ xs ++ x ∷ ys
joined_more [] x ys = refl
joined_more (y ∷ xs) x ys = ap (λ zs. y ∷ zs) (joined_more xs x ys)

module _ {A : Type 0} (s : Selection) (among : Namespace) (given : Element → Option A) (name : A → List ℕ)
    (here : (e : Element) (a : A) (x : IsMember s given e a) → stands_here (x.there.place + 1) 0 (s.at among (name a)) ≡ true) (names : List (List ℕ)) where
  -- the names of these and of those behind them
  abbrev behind : List Element → List (List ℕ)
  behind es = map name (filter_map (member s given) es)

  placed_from : (place : ℕ) (es : List Element) (front : List (List ℕ)) → ((k : ℕ) (e : Element) → slice_get es k ≡ Some e → slice_get s.elements (k + place) ≡ Some e)
      → AllHold (StandsBefore s.at among (suc place)) front → names ≡ front ++ behind es → ArePlaced name names (length front) (filter_map (member s given) es)
  placed_from place [] front there all same = tt
  placed_from place (e ∷ es) front there all same =
      by (λ next stand is. placed_from (suc place) es next (λ k f is. ap (λ n. slice_get s.elements n) (moved k place) ∙ there (suc k) f is) stand is)
      (takes_part_in s e) refl (given e) refl same where
        moved : (k place : ℕ) → k + suc place ≡ suc k + place
        moved k place = omega arith

        own_place : place ≡ 0 + place
        own_place = omega arith

        next_place : suc place ≡ place + 1
        next_place = omega arith

        at_place : slice_get s.elements place ≡ Some e
        at_place = ap (λ n. slice_get s.elements n) own_place ∙ there 0 e refl

        Later : List (List ℕ) → Type 0
        Later next = AllHold (StandsBefore s.at among (suc (suc place))) next → names ≡ next ++ behind es → ArePlaced name names (length next) (filter_map (member s given) es)

        kept : AllHold (StandsBefore s.at among (suc (suc place))) front
        kept = all_so (StandsBefore s.at among (suc place)) (StandsBefore s.at among (suc (suc place))) (later s.at among (suc place)) front all

        one : (a : A) → given e ≡ Some a → takes_part_in s e ≡ true → ((next : List (List ℕ)) → Later next) → names ≡ front ++ name a ∷ behind es → ArePlaced name names (length front) (a ∷ filter_map (member s given) es)
        one a gives part rest is =
            let own : stands_here (suc place) 0 (s.at among (name a)) ≡ true = ap (λ n. stands_here n 0 (s.at among (name a))) next_place ∙ here e a (record { there = record { place = place; is = at_place }; part = part; gives = gives }) in
            let others : AllHold (λ n. same_text n (name a) ≡ false) front = all_so (StandsBefore s.at among (suc place)) (λ n. same_text n (name a) ≡ false) (λ n x. is_another s.at among (suc place) (name a) n own x) front all in
            let more : AllHold (StandsBefore s.at among (suc (suc place))) (front ++ name a ∷ []) = all_append (StandsBefore s.at among (suc (suc place))) front (name a ∷ []) kept (stands_there s.at among (suc place) (name a) own, tt) in
            let last : ArePlaced name names (length (front ++ name a ∷ [])) (filter_map (member s given) es) = rest (front ++ name a ∷ []) more (is ∙ sym (joined_more front (name a) (behind es))) in
            (ap (place_of (name a)) is ∙ place_behind (name a) front (behind es) others, subst (λ n. ArePlaced name names n (filter_map (member s given) es)) (long_more front (name a)) last)

        by : ((next : List (List ℕ)) → Later next) → (b : Bool) → takes_part_in s e ≡ b → (o : Option A) → given e ≡ o
            → names ≡ front ++ map name (cons_option (member s given e) (filter_map (member s given) es)) → ArePlaced name names (length front) (cons_option (member s given e) (filter_map (member s given) es))
        by rest false part o gives is =
            let none : member s given e ≡ None = ap (λ c. if c then given e else None) part in
            subst (λ x. ArePlaced name names (length front) (cons_option x (filter_map (member s given) es))) (sym none)
            (rest front kept (is ∙ ap (λ x. front ++ map name (cons_option x (filter_map (member s given) es))) none))
        by rest true part None gives is =
            let none : member s given e ≡ None = ap (λ c. if c then given e else None) part ∙ gives in
            subst (λ x. ArePlaced name names (length front) (cons_option x (filter_map (member s given) es))) (sym none)
            (rest front kept (is ∙ ap (λ x. front ++ map name (cons_option x (filter_map (member s given) es))) none))
        by rest true part (Some a) gives is =
            let some : member s given e ≡ Some a = ap (λ c. if c then given e else None) part ∙ gives in
            subst (λ x. ArePlaced name names (length front) (cons_option x (filter_map (member s given) es))) (sym some)
            (one a gives part rest (is ∙ ap (λ x. front ++ map name (cons_option x (filter_map (member s given) es))) some))

  -- Those of all forms, behind what is built in.
  pub all_placed : (front : List (List ℕ)) → AllHold (StandsBefore s.at among 1) front → names ≡ front ++ map name (members s given) → ArePlaced name names (length front) (members s given)
  all_placed front all same = placed_from 0 s.elements front (λ k e is. ap (λ n. slice_get s.elements n) (plain k) ∙ is) all same where
    plain : (k : ℕ) → k + 0 ≡ k
    plain k = omega arith
