-- What a macro instruction emits: each slot of the emitted instruction is given something, and each own slot is given on.
use Rattle.std.proofs.Common.{◌≡◌, ◌∙◌, ℕ, suc, ◌+◌, Bool, true, false, not, ◌||◌, ◌==◌, nat_lt, if◌then◌else◌, is_some, List, [], ◌∷◌, ◌++◌, map, filter, length, drop, Option, Some, None, slice_get, pos, refl, sym, ap, arith}
use Rattle.std.specs.List.{filter_map, cons_option}
use Rattle.std.specs.Option.{unwrap_or}
use Rattle.std.proofs.lemmas.Bool.{false≢true}
use Rattle.std.proofs.lemmas.Bool.Decides.{nat_tests}
use Rattle.cg_base.specs.Texts.{same_text, is_among}
use Rattle.cg_desc_laws_forms.proofs.Clauses.{equal_texts}
use Rattle.cg_desc_laws_forms.proofs.Lists.{append_none, the_found}
use Rattle.cg_insn.specs.declared.syntax.NamedPiece.{NamedPiece}
use Rattle.cg_insn.specs.declared.syntax.NamedPiece.TheVariants as named
use Rattle.cg_model.specs.declared.insn.Given.{Given}
use Rattle.cg_model.specs.declared.insn.Given.TheVariants as given
use Rattle.cg_model_faults.specs.declared.fault.Said.TheVariants.{Own, Operand}
use Rattle.cg_model_faults.specs.declared.fault.Said.TheVariants as said
use Rattle.cg_model_faults.specs.E313.{ungiven_from, ungiven, is_giving, is_given, unused_from}
use Rattle.cg_model_faults.specs.Finding.{at_place}
use Rattle.cg_desc_choices.specs.declared.written.WrittenPiece.{WrittenPiece}
use Rattle.cg_desc_scope.proofs.Among.{among_more}
use Rattle.cg_desc_scope.specs.Described.{Described}
use Rattle.cg_desc_fault_format.specs.E313.{Item, is_known, slot_given, slot_used, has_number, is_alone, is_wrong, item_at, items_behind, piece_at, pieces_behind}
use Rattle.cg_desc_machine.specs.Instructions.{slot_of}
use Rattle.cg_desc_machine.specs.Macros.{given_by, given_in, given_or_zero}
use Rattle.cg_desc_laws.proofs.FittedDistinct.{both_false}
use Rattle.cg_desc_laws.proofs.FittedNames.{is_own}
use Rattle.cg_desc_laws.proofs.FittedSlots.{neither, never_so}

-- as many are given as there are slots
dropped : {A B C : Type 0} (f : A → B) (g : A → C) (xs : List A) → drop (length (map f xs)) (map g xs) ≡ []
dropped f g [] = refl
dropped f g (x ∷ xs) = dropped f g xs

as_many : {A B C : Type 0} (f : A → B) (g : A → C) (xs : List A) → length (map f xs) ≡ length (map g xs)
as_many f g [] = refl
as_many f g (x ∷ xs) = ap suc (as_many f g xs)

not_less : (n : ℕ) → nat_lt n n ≡ false
not_less n = grind (arith, nat_tests)

pub none_ungiven : (f : List ℕ → Given) (g : List ℕ → ℕ) (slots : List (List ℕ)) → ungiven (map f slots) (map g slots) ≡ []
none_ungiven f g slots =
    let n : ℕ = length (map f slots) in
    let none : nat_lt (length (map g slots)) n ≡ false = ap (λ k. nat_lt k n) (sym (as_many f g slots)) ∙ not_less n in
    ap (λ ks. ungiven_from n ks ++ (if nat_lt (length (map g slots)) n then at_place 313 (length (map g slots)) Own said.Nothing ∷ [] else [])) (dropped f g slots) ∙ never_so (nat_lt (length (map g slots)) n) _ none

-- Where each slot is given on, none is unused.
pub none_unused : (gs : List Given) (g : List ℕ → ℕ) (slots : List (List ℕ)) (place : ℕ) → ((k : ℕ) (x : List ℕ) → slice_get slots k ≡ Some x → is_given (k + place) gs ≡ true) → unused_from gs place (map g slots) ≡ []
none_unused gs g [] place h = refl
none_unused gs g (x ∷ xs) place h =
    let plain : 0 + place ≡ place = omega arith in
    let here : is_given place gs ≡ true = ap (λ n. is_given n gs) (sym plain) ∙ h 0 x refl in
    ap (λ ys. ys ++ unused_from gs (suc place) (map g xs)) (never_so (not (is_given place gs)) (at_place 313 place Own (Operand (g x))) (ap not here))
    ∙ none_unused gs g xs (suc place) (λ k y is. ap (λ n. is_given n gs) (moved k place) ∙ h (suc k) y is) where
      moved : (k place : ℕ) → k + suc place ≡ suc k + place
      moved k place = omega arith

-- what isn't said of pieces doesn't hold of their names
module _ (fails : List ℕ → Bool) (own : List ℕ) where
  pub none_fails : (ps : List WrittenPiece) (before : List (List ℕ)) → pieces_behind fails own before ps ≡ [] → (x : List ℕ) → is_among (filter_map slot_of ps) x ≡ true → fails x ≡ false
  none_fails [] before none x h = absurd (false≢true h)
  none_fails (p ∷ ps) before none x h = by (λ names e there. none_fails ps names e x there) p.piece none h where
    here : ((names : List (List ℕ)) → pieces_behind fails own names ps ≡ [] → is_among (filter_map slot_of ps) x ≡ true → fails x ≡ false) → (name : List ℕ) → fails name ≡ false → pieces_behind fails own (before ++ name ∷ []) ps ≡ []
        → (b : Bool) → same_text name x ≡ b → (b || is_among (filter_map slot_of ps) x) ≡ true → fails x ≡ false
    here rest name holds none true same e = ap fails (sym (equal_texts name x same)) ∙ holds
    here rest name holds none false same e = rest (before ++ name ∷ []) none e

    by : ((names : List (List ℕ)) → pieces_behind fails own names ps ≡ [] → is_among (filter_map slot_of ps) x ≡ true → fails x ≡ false) → (q : NamedPiece) → pieces_behind fails own before (record { piece = q; spot = p.spot } ∷ ps) ≡ []
        → is_among (cons_option (elim q [ named.Literal text ↦ None | named.Slot n ↦ Some n ]) (filter_map slot_of ps)) x ≡ true → fails x ≡ false
    by rest (named.Literal text) e there = rest before e there
    by rest (named.Slot name) e there =
        let both : (piece_at fails own before p name ≡ []) × (pieces_behind fails own (before ++ name ∷ []) ps ≡ []) = append_none (piece_at fails own before p name) (pieces_behind fails own (before ++ name ∷ []) ps) e in
        here rest name (neither (is_among before name) (fails name) _ both.0).1 both.1 (same_text name x) refl there

-- An item whose operand is a slot of the emitted instruction, and which gives it this slot.
pub record GivesOn (d : Described) (slots wanted before : List (List ℕ)) (xs : List Item) (k : ℕ) : Type 0 where
  pub name : List ℕ
  pub known : is_some (d.operand_numbers name) ≡ true
  pub new : is_among before name ≡ false
  pub there : is_among wanted name ≡ true
  pub gives : given_in d slots xs name ≡ Some (given.Slot k)

slot_is : (g : Option Given) (k : ℕ) → slot_given g ≡ Some k → g ≡ Some (given.Slot k)
slot_is None k e = absurd cc
slot_is (Some (given.Number n)) k e = absurd cc
slot_is (Some (given.Slot j)) k e = ap (λ n. Some (given.Slot n)) (the_found j k e)

three_false : (a b c : Bool) → (a || b || c) ≡ false → (a ≡ false) × (b ≡ false) × (c ≡ false)
three_false true b c e = absurd (false≢true (sym e))
three_false false true c e = absurd (false≢true (sym e))
three_false false false true e = absurd (false≢true (sym e))
three_false false false false e = (refl, refl, refl)

pub unsaid : {A : Type 0} (b : Bool) (x : A) → (if b then x ∷ [] else []) ≡ [] → b ≡ false
unsaid true x e = absurd cc
unsaid false x e = refl

not_false : (b : Bool) → not b ≡ false → b ≡ true
not_false true e = refl
not_false false e = absurd (false≢true (sym e))

module _ (d : Described) (own : List ℕ) (slots wanted : List (List ℕ)) (k : ℕ) where
  -- an item further, of another operand
  further : (x : Item) (xs : List Item) (before : List (List ℕ)) (r : GivesOn d slots wanted before xs k) → same_text x.0 r.name ≡ false → GivesOn d slots wanted before (x ∷ xs) k
  further x xs before r other = record {
    name = r.name;
    known = r.known;
    new = r.new;
    there = r.there;
    gives = ap (λ b. if b then given_by d slots r.name x.1 else given_in d slots xs r.name) other ∙ r.gives;
  }

  pub gives_on : (xs : List Item) (before : List (List ℕ)) → items_behind own slots wanted before (filter (is_known d) xs) ≡ [] → has_number (filter_map (slot_used d slots) (filter (is_known d) xs)) k ≡ true → GivesOn d slots wanted before xs k
  gives_on [] before none h = absurd (false≢true h)
  gives_on (x ∷ xs) before none h = at (λ names e f. gives_on xs names e f) (is_known d x) refl none h where
    -- of an operand that isn't the machine's
    unknown : (r : GivesOn d slots wanted before xs k) → is_some (d.operand_numbers x.0) ≡ false → same_text x.0 r.name ≡ false
    unknown r other = by (same_text x.0 r.name) refl where
      by : (b : Bool) → same_text x.0 r.name ≡ b → b ≡ false
      by true same = absurd (false≢true (sym other ∙ ap (λ n. is_some (d.operand_numbers n)) (equal_texts x.0 r.name same) ∙ r.known))
      by false same = refl

    behind : (r : GivesOn d slots wanted (before ++ x.0 ∷ []) xs k) → GivesOn d slots wanted before (x ∷ xs) k
    behind r =
        let apart : (is_among before r.name ≡ false) × (same_text x.0 r.name ≡ false) = both_false (is_among before r.name) (same_text x.0 r.name) (sym (among_more before x.0 r.name) ∙ r.new) in
        further x xs before (record { name = r.name; known = r.known; new = apart.0; there = r.there; gives = r.gives }) apart.1

    here : is_known d x ≡ true → is_among before x.0 ≡ false → is_among wanted x.0 ≡ true → slot_used d slots x ≡ Some k → GivesOn d slots wanted before (x ∷ xs) k
    here known new there used = record {
      name = x.0;
      known = known;
      new = new;
      there = there;
      gives = ap (λ b. if b then given_by d slots x.0 x.1 else given_in d slots xs x.0) (is_own x.0) ∙ slot_is (given_by d slots x.0 x.1) k used;
    }

    by_slot : is_known d x ≡ true → is_among before x.0 ≡ false → is_among wanted x.0 ≡ true → (has_number (filter_map (slot_used d slots) (filter (is_known d) xs)) k ≡ true → GivesOn d slots wanted (before ++ x.0 ∷ []) xs k)
        → (o : Option ℕ) → slot_used d slots x ≡ o → has_number (cons_option o (filter_map (slot_used d slots) (filter (is_known d) xs))) k ≡ true → GivesOn d slots wanted before (x ∷ xs) k
    by_slot known new there rest None used e = behind (rest e)
    by_slot known new there rest (Some j) used e = by (j == k) refl e where
      by : (b : Bool) → (j == k) ≡ b → (b || has_number (filter_map (slot_used d slots) (filter (is_known d) xs)) k) ≡ true → GivesOn d slots wanted before (x ∷ xs) k
      by true same f = let equal : j ≡ k = grind (arith, nat_tests) in here known new there (used ∙ ap Some equal)
      by false same f = behind (rest f)

    at : ((names : List (List ℕ)) → items_behind own slots wanted names (filter (is_known d) xs) ≡ [] → has_number (filter_map (slot_used d slots) (filter (is_known d) xs)) k ≡ true → GivesOn d slots wanted names xs k) → (b : Bool) → is_known d x ≡ b
        → items_behind own slots wanted before (if b then x ∷ filter (is_known d) xs else filter (is_known d) xs) ≡ [] → has_number (filter_map (slot_used d slots) (if b then x ∷ filter (is_known d) xs else filter (is_known d) xs)) k ≡ true → GivesOn d slots wanted before (x ∷ xs) k
    at rest false known none f = let r : GivesOn d slots wanted before xs k = rest before none f in further x xs before r (unknown r known)
    at rest true known none f =
        let both : (item_at own slots wanted before x ≡ []) × (items_behind own slots wanted (before ++ x.0 ∷ []) (filter (is_known d) xs) ≡ []) =
        append_none (item_at own slots wanted before x) (items_behind own slots wanted (before ++ x.0 ∷ []) (filter (is_known d) xs)) none in
        let right : (not (is_among wanted x.0) ≡ false) × (is_among before x.0 ≡ false) × (is_alone slots x ≡ false) = three_false (not (is_among wanted x.0)) (is_among before x.0) (is_alone slots x) (unsaid (is_wrong slots wanted before x) _ both.0) in
        by_slot known right.1 (not_false (is_among wanted x.0) right.0) (λ e. rest (before ++ x.0 ∷ []) both.1 e) (slot_used d slots x) refl f

  -- so the slot is given on
  pub is_given_on : (xs : List Item) → GivesOn d slots wanted [] xs k → is_given k (map (given_or_zero d slots xs) wanted) ≡ true
  is_given_on xs r = among wanted r.there where
    gives : given_or_zero d slots xs r.name ≡ given.Slot k
    gives = ap (λ o. unwrap_or o (given.Number (pos 0))) r.gives

    equal_numbers : (k == k) ≡ true
    equal_numbers = grind (arith, nat_tests)

    among : (names : List (List ℕ)) → is_among names r.name ≡ true → is_given k (map (given_or_zero d slots xs) names) ≡ true
    among [] e = absurd (false≢true e)
    among (y ∷ ys) e = at (λ f. among ys f) (same_text y r.name) refl e where
      either : (a b : Bool) → b ≡ true → (a || b) ≡ true
      either true b f = refl
      either false b f = f

      at : (is_among ys r.name ≡ true → is_given k (map (given_or_zero d slots xs) ys) ≡ true) → (b : Bool) → same_text y r.name ≡ b → (b || is_among ys r.name) ≡ true → is_given k (map (given_or_zero d slots xs) (y ∷ ys)) ≡ true
      at rest true same f =
          let own_slot : given_or_zero d slots xs y ≡ given.Slot k = ap (given_or_zero d slots xs) (equal_texts y r.name same) ∙ gives in
          ap (λ g. is_giving k g || is_given k (map (given_or_zero d slots xs) ys)) own_slot ∙ ap (λ b. b || is_given k (map (given_or_zero d slots xs) ys)) equal_numbers
      at rest false same f = either (is_giving k (given_or_zero d slots xs y)) (is_given k (map (given_or_zero d slots xs) ys)) (rest f)
