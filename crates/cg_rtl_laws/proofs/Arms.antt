-- Lists of expressions, and the arms of `cond` and `case`.
use Rattle.std.proofs.Common.{◌≡◌, ℕ, zero, suc, ◌+◌, ◌<◌, ◌≤◌, Bool, true, false, not, ◌&&◌, ◌||◌, ◌==◌, nat_lt, nat_le, if◌then◌else◌, List, [], ◌∷◌, ◌++◌, map, length, drop, ℤ, pos, Option, Some, None, is_some, refl, sym, ap, ◌∙◌, subst, arith}
use Rattle.std.specs.List.{list_all, flat_map}
use Rattle.std.specs.Option.{option_map, unwrap_or}
use Rattle.std.proofs.lemmas.Bool.{false≢true, eq-eqb}
use Rattle.std.proofs.lemmas.Bool.Decides.{nat_tests}
use Rattle.cg_base.specs.declared.form.Form.{Form, out-Form}
use Rattle.cg_base.specs.declared.form.Form.TheOpen.{Number, Symbol, Str, Flag, Items}
use Rattle.cg_base.specs.Parts.{◌>>=◌, Layer, symbol_in, number_in, elements_of}
use Rattle.cg_base.specs.Refusing.{first}
use Rattle.cg_base.specs.Texts.{passes}
use Rattle.cg_model.specs.Formed.{As, expression, named, arm, Standing, stand_as, are_arms, tests_stand, is_moded, is_numbered, stands_at, stands}
use Rattle.cg_model.specs.declared.rtl.Op.{Op}
use Rattle.cg_model.specs.declared.rtl.Op.TheVariants as op
use Rattle.cg_model.specs.declared.rtl.Rtl.{Rtl}
use Rattle.cg_rtl_resolve.specs.Names.{node, nothing, enum_value, constant_named, elements_first, elements_or_none, arm_of, arm_at, value_in, value_of, choice_of, choice_at, rtl_to, Lacking, lacks, value_lacks, arm_lacks, choice_lacks, arm_lacks_at, choice_lacks_at, lacks_to, names_lacking, is_lack}
use Rattle.cg_rtl_resolve.specs.Names as names
use Rattle.cg_rtl_resolve.specs.declared.scope.Lack.{Lack}
use Rattle.cg_rtl_resolve.specs.declared.scope.Lack.TheVariants.{Undefined, Unknown}
use Rattle.cg_rtl_resolve.specs.declared.scope.Scope.{Scope}
use Rattle.cg_rtl.specs.Functions.{Shape, item_at}
use Rattle.cg_rtl.specs.Shapes.{Flawed, wants, is_value, are_values, has_values, is_else, headed_faults, may_be_else, is_choice, arm_faults, listed, item_faults, items_faults, faults_to}
use Rattle.cg_rtl.specs.declared.functions.Item.{Item}
use Rattle.cg_rtl.specs.declared.functions.Item.TheVariants as item
use Rattle.cg_rtl_laws.proofs.Nodes.{first_true, second_true, both_true, standing_items, is_expression, are_expressions, length_standing, standing_append, built, in_front}
use Rattle.cg_rtl_laws.proofs.Leaves.{named_number}

-- nothing is at fault in both
pub append_none : {A : Type 0} (xs ys : List A) → xs ++ ys ≡ [] → (xs ≡ []) × (ys ≡ [])
append_none [] ys e = (refl, e)
append_none (x ∷ xs) ys e = absurd cc

pub wants_none : (b : Bool) (name : List ℕ) → wants b name ≡ [] → b ≡ true
wants_none true name e = refl
wants_none false name e = absurd cc

-- No name of a kind is undefined.
abbrev pub Silent : List Lacking → Type 0
Silent xs = names_lacking Undefined xs ≡ []

lacking_append : (lack : Lack) (xs ys : List Lacking) → names_lacking lack (xs ++ ys) ≡ names_lacking lack xs ++ names_lacking lack ys
lacking_append lack [] ys = refl
lacking_append lack (x ∷ xs) ys = at (lacking_append lack xs ys) (is_lack lack x.0) where
  at : names_lacking lack (xs ++ ys) ≡ names_lacking lack xs ++ names_lacking lack ys → (b : Bool) → (if b then x.1 ∷ names_lacking lack (xs ++ ys) else names_lacking lack (xs ++ ys)) ≡ (if b then x.1 ∷ names_lacking lack xs else names_lacking lack xs) ++ names_lacking lack ys
  at rest true = ap (λ zs. x.1 ∷ zs) rest
  at rest false = rest

pub silent_both : (xs ys : List Lacking) → Silent (xs ++ ys) → Silent xs × Silent ys
silent_both xs ys h = append_none (names_lacking Undefined xs) (names_lacking Undefined ys) (sym (lacking_append Undefined xs ys) ∙ h)

-- Expressions so many lists inwards stand for expressions.
abbrev pub Good : Scope → ℕ → Type 0
Good s k = (l : List (List ℕ)) (holder : List ℕ) (f : Form) → faults_to k holder f ≡ [] → Silent (lacks_to k s l f) → stands (rtl_to k s l f) expression ≡ true

pub length_mapped : {A B : Type 0} (f : A → B) (xs : List A) → length (map f xs) ≡ length xs
length_mapped f [] = refl
length_mapped f (x ∷ xs) = ap suc (length_mapped f xs)

module _ (s : Scope) (k : ℕ) (good : Good s k) where
  pub expressions : (l : List (List ℕ)) (holder : List ℕ) (fs : List Form) → flat_map (faults_to k holder) fs ≡ [] → Silent (flat_map (lacks_to k s l) fs) → are_expressions (map (rtl_to k s l) fs) ≡ true
  expressions l holder [] h silent = refl
  expressions l holder (f ∷ fs) h silent =
      let both : (faults_to k holder f ≡ []) × (flat_map (faults_to k holder) fs ≡ []) = append_none (faults_to k holder f) (flat_map (faults_to k holder) fs) h in
      let quiet : Silent (lacks_to k s l f) × Silent (flat_map (lacks_to k s l) fs) = silent_both (lacks_to k s l f) (flat_map (lacks_to k s l) fs) silent in
      both_true (stands (rtl_to k s l f) expression) (are_expressions (map (rtl_to k s l) fs)) (good l holder f both.0 quiet.0) (expressions l holder fs both.1 quiet.1)

pub length_items : (g : Form → Rtl) (fs : List Form) → length (standing_items (map g fs)) ≡ length fs
length_items g fs = length_standing (map g fs) ∙ length_mapped g fs

-- An arm that is headed by `else` is the last.
pub else_stands : (of_case : Bool) (rest : List Rtl) → are_expressions rest ≡ true → nat_le 1 (length (standing_items rest)) ≡ true → stands (names.arm [] rest) (arm of_case true) ≡ true
unfolding stands_at is_moded is_numbered
else_stands of_case rest all some = built op.Arm None (pos 0) rest (arm of_case true) refl refl refl (in_front expression [] (standing_items rest) refl all some)

-- one in front of one or more
one_in_front : (xs : List Standing) → list_all is_expression xs ≡ true → nat_le 2 (length xs) ≡ true → stand_as expression 1 xs ≡ true
one_in_front [] all some = absurd (false≢true some)
one_in_front (x ∷ []) all some = absurd (false≢true some)
one_in_front (x ∷ y ∷ ys) all some = all

plain_tests : (last : Bool) (xs : List Standing) → list_all is_expression xs ≡ true → nat_le 2 (length xs) ≡ true → tests_stand false last (pos 1) xs ≡ true
plain_tests true xs all some = one_in_front xs all some
plain_tests false xs all some = one_in_front xs all some

plain_stands : (last : Bool) (xs : List Rtl) → are_expressions xs ≡ true → nat_le 2 (length (standing_items xs)) ≡ true → stands (node op.Arm None (pos 1) xs) (arm false last) ≡ true
unfolding stands_at is_moded is_numbered
plain_stands last xs all some = built op.Arm None (pos 1) xs (arm false last) refl refl refl (plain_tests last (standing_items xs) all some)

named_tests : (last : Bool) (n : ℕ) (xs : List Standing) → stand_as named (suc n) xs ≡ true → tests_stand true last (pos (suc n)) xs ≡ true
named_tests true n xs h = h
named_tests false n xs h = h

named_stands : (last : Bool) (test : Rtl) (tests rest : List Rtl) → list_all (λ x. x named) (standing_items (test ∷ tests)) ≡ true → are_expressions rest ≡ true → nat_le 1 (length (standing_items rest)) ≡ true → stands (names.arm (test ∷ tests) rest) (arm true last) ≡ true
unfolding stands_at is_moded is_numbered
named_stands last test tests rest all more some =
    let front : stand_as named (suc (length tests)) (standing_items ((test ∷ tests) ++ rest)) ≡ true =
    ap (λ n. stand_as named (suc n) (standing_items ((test ∷ tests) ++ rest))) (sym (length_standing tests))
    ∙ ap (λ xs. stand_as named (suc (length (standing_items tests))) xs) (standing_append (test ∷ tests) rest)
    ∙ in_front named (standing_items (test ∷ tests)) (standing_items rest) all more some in
    built op.Arm None (pos (suc (length tests))) ((test ∷ tests) ++ rest) (arm true last) refl refl refl (named_tests last (length tests) (standing_items ((test ∷ tests) ++ rest)) front)

-- the values that a `case` names
constant_named_stands : (s : Scope) (name : List ℕ) → Silent (lacks Undefined name (constant_named s name)) → stands (unwrap_or (constant_named s name) nothing) named ≡ true
constant_named_stands s name silent = at (enum_value name s.enums) silent where
  at : (o : Option ℤ) → Silent (lacks Undefined name (names.numbered op.Number None o)) → stands (unwrap_or (names.numbered op.Number None o) nothing) named ≡ true
  at None silent = absurd cc
  at (Some n) silent = named_number n

value_layer : (s : Scope) (l : Layer) → (is_some (number_in l) || is_some (symbol_in l)) ≡ true → Silent (names.value_lacks_in s l) → stands (unwrap_or (value_in s l) nothing) named ≡ true
value_layer s (Number n) h silent = named_number n
value_layer s (Symbol name) h silent = constant_named_stands s name silent
value_layer s (Str text) h silent = absurd (false≢true h)
value_layer s (Flag b) h silent = absurd (false≢true h)
value_layer s (Items fs) h silent = absurd (false≢true h)

values_named : (s : Scope) (vs : List Form) → list_all is_value vs ≡ true → Silent (flat_map (value_lacks s) vs) → list_all (λ x. x named) (standing_items (map (value_of s) vs)) ≡ true
values_named s [] all silent = refl
values_named s (v ∷ vs) all silent =
    let quiet : Silent (value_lacks s v) × Silent (flat_map (value_lacks s) vs) = silent_both (value_lacks s v) (flat_map (value_lacks s) vs) silent in
    both_true (stands (value_of s v) named) (list_all (λ x. x named) (standing_items (map (value_of s) vs)))
    (value_layer s (out-Form v) (first_true (is_value v) (list_all is_value vs) all) quiet.0)
    (values_named s vs (second_true (is_value v) (list_all is_value vs) all) quiet.1)

-- The items of a `cond` and of a `case`.
abbrev pub cond_item : Bool → Item
cond_item true = item.LastArm
cond_item false = item.Arm

abbrev pub case_item : Bool → Item
case_item true = item.LastChoice
case_item false = item.Choice

at_least_two : (n : ℕ) → nat_lt n 2 ≡ false → nat_le 2 n ≡ true
at_least_two n h = grind (arith, nat_tests)

one_behind : (fs : List Form) → nat_lt (length fs) 2 ≡ false → nat_le 1 (length (drop 1 fs)) ≡ true
one_behind [] h = absurd (false≢true (sym h))
one_behind (f ∷ []) h = absurd (false≢true (sym h))
one_behind (f ∷ g ∷ fs) h = grind (arith, nat_tests)

behind_stand : (g : Form → Rtl) (fs : List Form) → nat_lt (length fs) 2 ≡ false → nat_le 1 (length (standing_items (map g (drop 1 fs)))) ≡ true
behind_stand g fs h = ap (nat_le 1) (length_items g (drop 1 fs)) ∙ one_behind fs h

module _ (s : Scope) (k : ℕ) (good : Good s k) (l : List (List ℕ)) (name : List ℕ) where
  -- headed by `else`
  else_case : (of_case last : Bool) (fs : List Form) → nat_lt (length fs) 2 ≡ false → headed_faults (faults_to k) name last fs ≡ [] → Silent (flat_map (lacks_to k s l) (drop 1 fs)) → stands (names.arm [] (map (rtl_to k s l) (drop 1 fs))) (arm of_case last) ≡ true
  else_case of_case last fs many h silent =
      let both : (wants last name ≡ []) × (flat_map (faults_to k name) (drop 1 fs) ≡ []) = append_none (wants last name) (flat_map (faults_to k name) (drop 1 fs)) h in
      let all : are_expressions (map (rtl_to k s l) (drop 1 fs)) ≡ true = expressions s k good l name (drop 1 fs) both.1 silent in
      subst (λ b. stands (names.arm [] (map (rtl_to k s l) (drop 1 fs))) (arm of_case b) ≡ true) (sym (wants_none last name both.0))
      (else_stands of_case (map (rtl_to k s l) (drop 1 fs)) all (behind_stand (rtl_to k s l) fs many))

  else_of_cond : (last : Bool) → may_be_else (cond_item last) ≡ last
  else_of_cond true = refl
  else_of_cond false = refl

  no_choice : (last : Bool) → is_choice (cond_item last) ≡ false
  no_choice true = refl
  no_choice false = refl

  else_of_case : (last : Bool) → may_be_else (case_item last) ≡ last
  else_of_case true = refl
  else_of_case false = refl

  a_choice : (last : Bool) → is_choice (case_item last) ≡ true
  a_choice true = refl
  a_choice false = refl

  -- an arm of a `cond`
  cond_arm : (last : Bool) (fs : List Form) → arm_faults (faults_to k) name (cond_item last) fs ≡ [] → Silent (arm_lacks (lacks_to k s) l fs) → stands (arm_of (rtl_to k s) l fs) (arm false last) ≡ true
  cond_arm last fs h silent = at (nat_lt (length fs) 2) (is_else fs) refl refl where
    plain : List Flawed
    plain = if is_choice (cond_item last) then headed_faults (faults_to k) name (has_values fs) fs else flat_map (faults_to k name) fs

    at : (a b : Bool) → nat_lt (length fs) 2 ≡ a → is_else fs ≡ b → stands (arm_of (rtl_to k s) l fs) (arm false last) ≡ true
    at true b few other = let never : wants false name ≡ [] = sym (ap (λ c. if c then wants false name else if is_else fs then headed_faults (faults_to k) name (may_be_else (cond_item last)) fs else plain) few) ∙ h in absurd cc
    at false true few other =
        let faults : headed_faults (faults_to k) name last fs ≡ [] =
        ap (λ c. headed_faults (faults_to k) name c fs) (sym (else_of_cond last))
        ∙ sym (ap (λ c. if c then headed_faults (faults_to k) name (may_be_else (cond_item last)) fs else plain) other)
        ∙ sym (ap (λ c. if c then wants false name else if is_else fs then headed_faults (faults_to k) name (may_be_else (cond_item last)) fs else plain) few) ∙ h in
        let quiet : Silent (flat_map (lacks_to k s l) (drop 1 fs)) = ap (λ c. names_lacking Undefined (flat_map (lacks_to k s l) (if c then drop 1 fs else fs))) (sym other) ∙ silent in
        ap (λ c. stands (if c then names.arm [] (map (rtl_to k s l) (drop 1 fs)) else node op.Arm None (pos 1) (map (rtl_to k s l) fs)) (arm false last)) other
        ∙ else_case false last fs few faults quiet
    at false false few other =
        let faults : flat_map (faults_to k name) fs ≡ [] =
        sym (ap (λ c. if c then headed_faults (faults_to k) name (has_values fs) fs else flat_map (faults_to k name) fs) (no_choice last))
        ∙ sym (ap (λ c. if c then headed_faults (faults_to k) name (may_be_else (cond_item last)) fs else plain) other)
        ∙ sym (ap (λ c. if c then wants false name else if is_else fs then headed_faults (faults_to k) name (may_be_else (cond_item last)) fs else plain) few) ∙ h in
        let quiet : Silent (flat_map (lacks_to k s l) fs) = ap (λ c. names_lacking Undefined (flat_map (lacks_to k s l) (if c then drop 1 fs else fs))) (sym other) ∙ silent in
        ap (λ c. stands (if c then names.arm [] (map (rtl_to k s l) (drop 1 fs)) else node op.Arm None (pos 1) (map (rtl_to k s l) fs)) (arm false last)) other
        ∙ plain_stands last (map (rtl_to k s l) fs) (expressions s k good l name fs faults quiet) (ap (nat_le 2) (length_items (rtl_to k s l) fs) ∙ at_least_two (length fs) few)

  -- an arm of a `case`, by the values that it names
  valued : (last : Bool) (vs fs : List Form) → nat_lt (length fs) 2 ≡ false → are_values vs ≡ true → flat_map (faults_to k name) (drop 1 fs) ≡ [] → Silent (flat_map (value_lacks s) vs ++ flat_map (lacks_to k s l) (drop 1 fs))
      → stands (names.arm (map (value_of s) vs) (map (rtl_to k s l) (drop 1 fs))) (arm true last) ≡ true
  valued last [] fs few values h silent = absurd (false≢true values)
  valued last (v ∷ vs) fs few values h silent =
      let quiet : Silent (flat_map (value_lacks s) (v ∷ vs)) × Silent (flat_map (lacks_to k s l) (drop 1 fs)) = silent_both (flat_map (value_lacks s) (v ∷ vs)) (flat_map (lacks_to k s l) (drop 1 fs)) silent in
      let all : list_all is_value (v ∷ vs) ≡ true = second_true (not (length (v ∷ vs) == 0)) (list_all is_value (v ∷ vs)) values in
      named_stands last (value_of s v) (map (value_of s) vs) (map (rtl_to k s l) (drop 1 fs)) (values_named s (v ∷ vs) all quiet.0) (expressions s k good l name (drop 1 fs) h quiet.1) (behind_stand (rtl_to k s l) fs few)

  values_of : (o : Option (List Form)) → passes are_values o ≡ true → are_values (unwrap_or o []) ≡ true
  values_of None h = absurd (false≢true h)
  values_of (Some vs) h = h

  case_arm : (last : Bool) (fs : List Form) → arm_faults (faults_to k) name (case_item last) fs ≡ [] → Silent (choice_lacks s (lacks_to k s) l fs) → stands (choice_of s (rtl_to k s) l fs) (arm true last) ≡ true
  case_arm last fs h silent = at (nat_lt (length fs) 2) (is_else fs) refl refl where
    plain : List Flawed
    plain = if is_choice (case_item last) then headed_faults (faults_to k) name (has_values fs) fs else flat_map (faults_to k name) fs

    elsewise : List Lacking
    elsewise = flat_map (lacks_to k s l) (drop 1 fs)

    quietly : List Lacking
    quietly = flat_map (value_lacks s) (elements_first fs) ++ flat_map (lacks_to k s l) (drop 1 fs)

    by_else : Rtl
    by_else = names.arm [] (map (rtl_to k s l) (drop 1 fs))

    by_values : Rtl
    by_values = names.arm (map (value_of s) (elements_first fs)) (map (rtl_to k s l) (drop 1 fs))

    at : (a b : Bool) → nat_lt (length fs) 2 ≡ a → is_else fs ≡ b → stands (choice_of s (rtl_to k s) l fs) (arm true last) ≡ true
    at true b few other = let never : wants false name ≡ [] = sym (ap (λ c. if c then wants false name else if is_else fs then headed_faults (faults_to k) name (may_be_else (case_item last)) fs else plain) few) ∙ h in absurd cc
    at false true few other =
        let faults : headed_faults (faults_to k) name last fs ≡ [] =
        ap (λ c. headed_faults (faults_to k) name c fs) (sym (else_of_case last))
        ∙ sym (ap (λ c. if c then headed_faults (faults_to k) name (may_be_else (case_item last)) fs else plain) other)
        ∙ sym (ap (λ c. if c then wants false name else if is_else fs then headed_faults (faults_to k) name (may_be_else (case_item last)) fs else plain) few) ∙ h in
        let quiet : Silent elsewise = ap (λ c. names_lacking Undefined (if c then elsewise else quietly)) (sym other) ∙ silent in
        ap (λ c. stands (if c then by_else else by_values) (arm true last)) other ∙ else_case true last fs few faults quiet
    at false false few other =
        let faults : headed_faults (faults_to k) name (has_values fs) fs ≡ [] =
        sym (ap (λ c. if c then headed_faults (faults_to k) name (has_values fs) fs else flat_map (faults_to k name) fs) (a_choice last))
        ∙ sym (ap (λ c. if c then headed_faults (faults_to k) name (may_be_else (case_item last)) fs else plain) other)
        ∙ sym (ap (λ c. if c then wants false name else if is_else fs then headed_faults (faults_to k) name (may_be_else (case_item last)) fs else plain) few) ∙ h in
        let both : (wants (has_values fs) name ≡ []) × (flat_map (faults_to k name) (drop 1 fs) ≡ []) = append_none (wants (has_values fs) name) (flat_map (faults_to k name) (drop 1 fs)) faults in
        let quiet : Silent quietly = ap (λ c. names_lacking Undefined (if c then elsewise else quietly)) (sym other) ∙ silent in
        ap (λ c. stands (if c then by_else else by_values) (arm true last)) other
        ∙ valued last (elements_first fs) fs few (values_of (first fs >>= elements_of) (wants_none (has_values fs) name both.0)) both.1 quiet

  -- the same as items
  pub cond_item_stands : (last : Bool) (f : Form) → item_faults (faults_to k) name (cond_item last) f ≡ [] → Silent (arm_lacks_at (lacks_to k s) l f) → stands (arm_at (rtl_to k s) l f) (arm false last) ≡ true
  cond_item_stands last f h silent = at (elements_of f) (by_item last h) silent where
    by_item : (b : Bool) → item_faults (faults_to k) name (cond_item b) f ≡ [] → listed (arm_faults (faults_to k) name (cond_item b)) name (elements_of f) ≡ []
    by_item true h = h
    by_item false h = h

    at : (o : Option (List Form)) → listed (arm_faults (faults_to k) name (cond_item last)) name o ≡ [] → Silent (arm_lacks (lacks_to k s) l (unwrap_or o [])) → stands (arm_of (rtl_to k s) l (unwrap_or o [])) (arm false last) ≡ true
    at None h silent = absurd cc
    at (Some fs) h silent = cond_arm last fs h silent

  pub case_item_stands : (last : Bool) (f : Form) → item_faults (faults_to k) name (case_item last) f ≡ [] → Silent (choice_lacks_at s (lacks_to k s) l f) → stands (choice_at s (rtl_to k s) l f) (arm true last) ≡ true
  case_item_stands last f h silent = at (elements_of f) (by_item last h) silent where
    by_item : (b : Bool) → item_faults (faults_to k) name (case_item b) f ≡ [] → listed (arm_faults (faults_to k) name (case_item b)) name (elements_of f) ≡ []
    by_item true h = h
    by_item false h = h

    at : (o : Option (List Form)) → listed (arm_faults (faults_to k) name (case_item last)) name o ≡ [] → Silent (choice_lacks s (lacks_to k s) l (unwrap_or o [])) → stands (choice_of s (rtl_to k s) l (unwrap_or o [])) (arm true last) ≡ true
    at None h silent = absurd cc
    at (Some fs) h silent = case_arm last fs h silent

-- Arms one behind the other, of which the last may be the one for all else.
module _ (within : List ℕ → Form → List Flawed) (name : List ℕ) (shape : Shape) (of_case : Bool) (each : Bool → Item) (one : Form → Rtl) (lacking : Form → List Lacking) (from : ℕ)
    (stand : (last : Bool) (f : Form) → item_faults within name (each last) f ≡ [] → Silent (lacking f) → stands (one f) (arm of_case last) ≡ true)
    (places : (count j : ℕ) → from ≤ j → item_at shape count j ≡ each (j + 1 == count)) where
  more_behind : (count j n : ℕ) → count ≡ j + suc (suc n) → (j + 1 == count) ≡ false
  more_behind count j n e = grind (arith, nat_tests)

  one_arm : (count j : ℕ) (f : Form) (last : Bool) → from ≤ j → (j + 1 == count) ≡ last → item_faults within name (item_at shape count j) f ≡ [] → Silent (lacking f) → stands (one f) (arm of_case last) ≡ true
  one_arm count j f last at is h silent = stand last f (ap (λ i. item_faults within name i f) (sym (places count j at ∙ ap each is)) ∙ h) silent

  pub arms_stand : (count j : ℕ) (f : Form) (fs : List Form) → from ≤ j → count ≡ j + suc (length fs) → items_faults within name shape count j (f ∷ fs) ≡ [] → Silent (flat_map lacking (f ∷ fs)) → are_arms of_case (standing_items (map one (f ∷ fs))) ≡ true
  arms_stand count j f [] at e h silent =
      let both : (item_faults within name (item_at shape count j) f ≡ []) × (items_faults within name shape count (suc j) [] ≡ []) = append_none (item_faults within name (item_at shape count j) f) [] h in
      let quiet : Silent (lacking f) × Silent [] = silent_both (lacking f) [] silent in
      one_arm count j f true at (eq-eqb (j + 1) count (omega (arith, e))) both.0 quiet.0
  arms_stand count j f (g ∷ gs) at e h silent =
      let both : (item_faults within name (item_at shape count j) f ≡ []) × (items_faults within name shape count (suc j) (g ∷ gs) ≡ []) = append_none (item_faults within name (item_at shape count j) f) (items_faults within name shape count (suc j) (g ∷ gs)) h in
      let quiet : Silent (lacking f) × Silent (flat_map lacking (g ∷ gs)) = silent_both (lacking f) (flat_map lacking (g ∷ gs)) silent in
      both_true (stands (one f) (arm of_case false)) (are_arms of_case (standing_items (map one (g ∷ gs))))
      (one_arm count j f false at (more_behind count j (length gs) e) both.0 quiet.0)
      (arms_stand count (suc j) g gs (omega (arith, at)) (omega (arith, e)) both.1 quiet.1)
