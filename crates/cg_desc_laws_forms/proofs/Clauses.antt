-- What stands in a form whose clauses have no fault.
use Rattle.std.proofs.Common.{◌≡◌, ℕ, Bool, true, false, not, ◌&&◌, if◌then◌else◌, List, [], ◌∷◌, Option, Some, None, refl, sym, ap, ◌∙◌, subst}
use Rattle.std.specs.List.{list_any, list_all, find, filter_map, flat_map}
use Rattle.std.specs.Prelude.{codes}
use Rattle.std.specs.Cmp.Lexicographic.{bytes_decides}
use Rattle.std.proofs.lemmas.Bool.{false≢true}
use Rattle.cg_base.specs.declared.form.Form.{Form}
use Rattle.cg_base.specs.Parts.{◌>>=◌, Headed, headed}
use Rattle.cg_base.specs.Refusing.{FaultTexts, first, least}
use Rattle.cg_base.specs.Texts.{same_text}
use Rattle.cg_attrs.specs.Attrs.{wrong_attrs}
use Rattle.cg_attrs.specs.Clauses.{Clause, Role, Row, Texts, Wanted, WantedBeside, Optional, Repeated, Plain, LeftOut, SpellingOf, row_named, counts_absent, is_clause, stands_as, content_in, content_of, content_at, name_by, name_in, counts_as, is_counted, stands_for, misplaced, is_wanted, absent_at, absent, standing_as, standing, clauses, wrong_by, wrong_standing, wrong, left_out_as, left_out_by, left_out_standing, left_out, clause_faults}
use Rattle.cg_desc_laws_forms.proofs.Lists.{given_none, joined_none, found_passes, found_of_all, Found, any_found, any_same}

-- texts that are the same are equal
pub equal_texts : (a b : List ℕ) → same_text a b ≡ true → a ≡ b
equal_texts a b e = (bytes_decides a b).0 e

-- no least fault: no text under any number
first_none : {A : Type 0} (xs : List A) → first xs ≡ None → xs ≡ []
first_none [] e = refl
first_none (x ∷ xs) e = absurd cc

pub least_none : (number : ℕ) (texts : List (List ℕ)) (rest : FaultTexts) → least ((number, texts) ∷ rest) ≡ None → (texts ≡ []) × (least rest ≡ None)
least_none number [] rest e = (refl, e)
least_none number (t ∷ ts) rest e = absurd cc

-- No clause is lacking, and each is of its kind.
pub record Clean {C : Type 0} (wrongs : Texts C) (rows : List (Row C)) (elements : List Form) : Type 0 where
  pub present : absent rows elements ≡ []
  pub fitting : wrong wrongs rows elements ≡ []

pub clean : {C : Type 0} (wrongs left_outs : Texts C) (rows : List (Row C)) (elements : List Form) → least (clause_faults wrongs left_outs rows elements) ≡ None → Clean wrongs rows elements
clean wrongs left_outs rows elements e =
    let last : FaultTexts = (307, left_out left_outs rows elements) ∷ [] in
    let behind : FaultTexts = (304, wrong wrongs rows elements) ∷ last in
    let more : FaultTexts = (303, absent rows elements) ∷ behind in
    let a : (misplaced rows elements ≡ []) × (least more ≡ None) = least_none 302 (misplaced rows elements) more e in
    let b : (absent rows elements ≡ []) × (least behind ≡ None) = least_none 303 (absent rows elements) behind a.1 in
    let c : (wrong wrongs rows elements ≡ []) × (least last ≡ None) = least_none 304 (wrong wrongs rows elements) last b.1 in
    record { present = b.0; fitting = c.0 }

-- Nothing is left out.
pub complete : {C : Type 0} (wrongs left_outs : Texts C) (rows : List (Row C)) (elements : List Form) → least (clause_faults wrongs left_outs rows elements) ≡ None → left_out left_outs rows elements ≡ []
complete wrongs left_outs rows elements e =
    let none : FaultTexts = [] in
    let last : FaultTexts = (307, left_out left_outs rows elements) ∷ none in
    let behind : FaultTexts = (304, wrong wrongs rows elements) ∷ last in
    let more : FaultTexts = (303, absent rows elements) ∷ behind in
    let a : (misplaced rows elements ≡ []) × (least more ≡ None) = least_none 302 (misplaced rows elements) more e in
    let b : (absent rows elements ≡ []) × (least behind ≡ None) = least_none 303 (absent rows elements) behind a.1 in
    let c : (wrong wrongs rows elements ≡ []) × (least last ≡ None) = least_none 304 (wrong wrongs rows elements) last b.1 in
    let d : (left_out left_outs rows elements ≡ []) × (least none ≡ None) = least_none 307 (left_out left_outs rows elements) none c.1 in
    d.0

-- A clause of this name stands there, with this behind its name.
pub record Stands (elements : List Form) (name : List ℕ) : Type 0 where
  pub element : Form
  pub found : find (stands_as name) elements ≡ Some element
  pub content : List Form
  pub is : headed element ≡ Some (name, content)
  pub counts : counts_absent name content ≡ false

pub first_true : (a b : Bool) → (a && b) ≡ true → a ≡ true
first_true true b e = refl
first_true false b e = absurd (false≢true e)

pub second_true : (a b : Bool) → (a && b) ≡ true → b ≡ true
second_true true b e = e
second_true false b e = absurd (false≢true e)

pub not_true : (b : Bool) → not b ≡ true → b ≡ false
not_true true e = absurd (false≢true e)
not_true false e = refl

stands_found : (elements : List Form) (name : List ℕ) → Found (stands_as name) elements → Stands elements name
stands_found elements name d = at (headed d.what) refl (found_passes (stands_as name) d.what elements d.is) where
  at : (o : Option Headed) → headed d.what ≡ o → is_clause name (headed d.what) ≡ true → Stands elements name
  at None is passes = absurd (false≢true (sym (ap (is_clause name) is) ∙ passes))
  at (Some (word, content)) is passes =
      let both : (same_text word name && not (counts_absent word content)) ≡ true = sym (ap (is_clause name) is) ∙ passes in
      let same : word ≡ name = equal_texts word name (first_true (same_text word name) (not (counts_absent word content)) both) in
      let counts : counts_absent word content ≡ false = not_true (counts_absent word content) (second_true (same_text word name) (not (counts_absent word content)) both) in
      record {
        element = d.what;
        found = d.is;
        content = content;
        is = is ∙ ap (λ w. Some (w, content)) same;
        counts = subst (λ w. counts_absent w content ≡ false) same counts;
      }

-- what is looked up stands
pub content_stands : (elements : List Form) (name : List ℕ) (x : Stands elements name) → content_at name elements ≡ Some x.content
unfolding content_at content_of
content_stands elements name x = ap (λ o. o >>= content_of) x.found ∙ ap (λ o. o >>= content_in) x.is

-- a clause of its row's kind
pub standing_is : (elements : List Form) (name : List ℕ) (x : Stands elements name) → standing elements x.element ≡ Some (record { name = name; content = x.content; elements = elements })
unfolding standing
standing_is elements name x =
    ap (λ o. o >>= standing_as elements) x.is
    ∙ ap (λ b. if b then None else Some (record { name = name; content = x.content; elements = elements })) x.counts

pub fits : {C : Type 0} (wrongs : Texts C) (rows : List (Row C)) (elements : List Form) (name : List ℕ) (r : Row C) (x : Stands elements name) → Clean wrongs rows elements → same_text (codes "attrs") name ≡ false → row_named rows name ≡ Some r
    → wrongs r.content (record { name = name; content = x.content; elements = elements }) ≡ []
fits wrongs rows elements name r x h other row =
    let c : Clause = record { name = name; content = x.content; elements = elements } in
    let none : wrong_standing wrongs rows c ≡ [] = joined_none (wrong_standing wrongs rows) (standing elements) (stands_as name) x.element c elements h.fitting x.found (standing_is elements name x) in
    sym (ap (wrong_by wrongs c) row) ∙ sym (ap (λ b. if b then wrong_attrs x.content else wrong_by wrongs c (row_named rows name)) other) ∙ none

-- what a clause leaves out, by its row's kind
abbrev pub is_kept : Role → Bool
is_kept LeftOut = false
is_kept _ = true

kept_texts : {C : Type 0} (texts : Texts C) (c : Clause) (r : Row C) (role : Role) → is_kept role ≡ true → left_out_as texts c r role ≡ texts r.content c
kept_texts texts c r Wanted e = refl
kept_texts texts c r (WantedBeside other) e = refl
kept_texts texts c r Optional e = refl
kept_texts texts c r Repeated e = refl
kept_texts texts c r Plain e = refl
kept_texts texts c r LeftOut e = absurd (false≢true e)
kept_texts texts c r (SpellingOf other) e = refl

pub keeps : {C : Type 0} (left_outs : Texts C) (rows : List (Row C)) (elements : List Form) (name : List ℕ) (r : Row C) (x : Stands elements name) → left_out left_outs rows elements ≡ [] → row_named rows name ≡ Some r → is_kept r.role ≡ true
    → left_outs r.content (record { name = name; content = x.content; elements = elements }) ≡ []
keeps left_outs rows elements name r x h row kept =
    let c : Clause = record { name = name; content = x.content; elements = elements } in
    let none : left_out_standing left_outs rows c ≡ [] = joined_none (left_out_standing left_outs rows) (standing elements) (stands_as name) x.element c elements h x.found (standing_is elements name x) in
    sym (kept_texts left_outs c r r.role kept) ∙ sym (ap (left_out_by left_outs c) row) ∙ none

-- Rows of which none is another spelling.
abbrev pub is_own : Role → Bool
is_own (SpellingOf name) = false
is_own _ = true

abbrev pub has_own_name : {C : Type 0} → Row C → Bool
has_own_name r = is_own r.role

own_name : (name : List ℕ) (role : Role) → is_own role ≡ true → name_by name role ≡ name
own_name name Wanted e = refl
own_name name (WantedBeside other) e = refl
own_name name Optional e = refl
own_name name Repeated e = refl
own_name name Plain e = refl
own_name name LeftOut e = refl
own_name name (SpellingOf other) e = absurd (false≢true e)

counts_own : {C : Type 0} (rows : List (Row C)) (name : List ℕ) → list_all has_own_name rows ≡ true → counts_as rows name ≡ name
counts_own {C} rows name all = at (row_named rows name) refl where
  at : (o : Option (Row C)) → row_named rows name ≡ o → name_in name (row_named rows name) ≡ name
  at None is = ap (name_in name) is
  at (Some r) is = ap (name_in name) is ∙ own_name name r.role (found_of_all (λ x. same_text x.name name) r has_own_name rows all is)

stands_own : {C : Type 0} (rows : List (Row C)) (name : List ℕ) → ((w : List ℕ) → same_text (counts_as rows w) name ≡ same_text w name) → (f : Form) → stands_for rows name f ≡ stands_as name f
stands_own rows name same f = at (headed f) where
  at : (o : Option Headed) → is_counted rows name o ≡ is_clause name o
  at None = refl
  at (Some x) = ap (λ b. b && not (counts_absent x.0 x.1)) (same x.0)

-- a wanted clause stands
there : (b : Bool) (name : List ℕ) → (if not b then Some name else None) ≡ None → b ≡ true
there true name e = refl
there false name e = absurd cc

wanted_by : {C : Type 0} (wrongs : Texts C) (rows : List (Row C)) (elements : List Form) (name : List ℕ) (r : Row C) → Clean wrongs rows elements → ((w : List ℕ) → same_text (counts_as rows w) name ≡ same_text w name) → row_named rows name ≡ Some r → r.role ≡ Wanted → Stands elements name
wanted_by {C} wrongs rows elements name r h counted row wanted =
    let none : absent_at rows elements r ≡ None = given_none (absent_at rows elements) (λ x. same_text x.name name) r rows h.present row in
    let as_wanted : (if not (list_any (stands_for rows r.name) elements) then Some r.name else None) ≡ None =
    sym (ap (λ role. if is_wanted rows elements role && not (list_any (stands_for rows r.name) elements) then Some r.name else None) wanted) ∙ none in
    let any : list_any (stands_for rows r.name) elements ≡ true = there (list_any (stands_for rows r.name) elements) r.name as_wanted in
    let same : r.name ≡ name = equal_texts r.name name (found_passes (λ (x : Row C). same_text x.name name) r rows row) in
    let named : list_any (stands_for rows name) elements ≡ true = subst (λ w. list_any (stands_for rows w) elements ≡ true) same any in
    stands_found elements name (any_found (stands_as name) elements (sym (any_same (stands_for rows name) (stands_as name) elements (stands_own rows name counted)) ∙ named))

pub wanted_stands : {C : Type 0} (wrongs : Texts C) (rows : List (Row C)) (elements : List Form) (name : List ℕ) (r : Row C) → Clean wrongs rows elements → list_all has_own_name rows ≡ true → row_named rows name ≡ Some r → r.role ≡ Wanted → Stands elements name
wanted_stands wrongs rows elements name r h all row wanted = wanted_by wrongs rows elements name r h (λ w. ap (λ text. same_text text name) (counts_own rows w all)) row wanted

-- The same where another spelling is none of this clause, and counts as none of its name.
abbrev pub is_apart_in : List ℕ → List ℕ → Role → Bool
is_apart_in name own (SpellingOf other) = not (same_text other name) && not (same_text own name)
is_apart_in name own _ = true

abbrev pub is_apart : {C : Type 0} → List ℕ → Row C → Bool
is_apart name r = is_apart_in name r.name r.role

counts_apart : {C : Type 0} (rows : List (Row C)) (name : List ℕ) → list_all (is_apart name) rows ≡ true → (w : List ℕ) → same_text (counts_as rows w) name ≡ same_text w name
counts_apart {C} rows name all w = at (row_named rows w) refl where
  by_role : (own : List ℕ) (role : Role) → own ≡ w → is_apart_in name own role ≡ true → same_text (name_by w role) name ≡ same_text w name
  by_role own Wanted same e = refl
  by_role own (WantedBeside other) same e = refl
  by_role own Optional same e = refl
  by_role own Repeated same e = refl
  by_role own Plain same e = refl
  by_role own LeftOut same e = refl
  by_role own (SpellingOf other) same e =
      let target : same_text other name ≡ false = not_true (same_text other name) (first_true (not (same_text other name)) (not (same_text own name)) e) in
      let source : same_text own name ≡ false = not_true (same_text own name) (second_true (not (same_text other name)) (not (same_text own name)) e) in
      target ∙ sym source ∙ ap (λ text. same_text text name) same

  at : (o : Option (Row C)) → row_named rows w ≡ o → same_text (counts_as rows w) name ≡ same_text w name
  at None is = ap (λ x. same_text (name_in w x) name) is
  at (Some r) is =
      ap (λ x. same_text (name_in w x) name) is
      ∙ by_role r.name r.role (equal_texts r.name w (found_passes (λ (x : Row C). same_text x.name w) r rows is)) (found_of_all (λ (x : Row C). same_text x.name w) r (is_apart name) rows all is)

pub wanted_stands_apart : {C : Type 0} (wrongs : Texts C) (rows : List (Row C)) (elements : List Form) (name : List ℕ) (r : Row C) → Clean wrongs rows elements → list_all (is_apart name) rows ≡ true → row_named rows name ≡ Some r → r.role ≡ Wanted → Stands elements name
wanted_stands_apart wrongs rows elements name r h all row wanted = wanted_by wrongs rows elements name r h (counts_apart rows name all) row wanted

-- What is looked up stands.
pub record StandsWith (elements : List Form) (name : List ℕ) (content : List Form) : Type 0 where
  pub stands : Stands elements name
  pub same : stands.content ≡ content

abbrev content_or : List Form → Option (List Form) → List Form
content_or fs None = fs
content_or fs (Some gs) = gs

nothing_there : (elements : List Form) (name : List ℕ) → find (stands_as name) elements ≡ None → content_at name elements ≡ None
unfolding content_at
nothing_there elements name none = ap (λ o. o >>= content_of) none

pub looked_up : (elements : List Form) (name : List ℕ) (content : List Form) → content_at name elements ≡ Some content → StandsWith elements name content
looked_up elements name content is = at (find (stands_as name) elements) refl where
  at : (o : Option Form) → find (stands_as name) elements ≡ o → StandsWith elements name content
  at None none = let never : Some content ≡ None = sym is ∙ nothing_there elements name none in absurd cc
  at (Some element) found =
      let x : Stands elements name = stands_found elements name (record { what = element; is = found }) in
      record { stands = x; same = ap (content_or content) (sym (content_stands elements name x) ∙ is) }
