-- An expression in which nothing is wrong stands for one that is formed, function by function.
use Rattle.std.proofs.Common.{◌≡◌, ℕ, zero, suc, ◌+◌, ◌<◌, ◌≤◌, Bool, true, false, not, ◌&&◌, ◌||◌, ◌==◌, nat_lt, nat_le, if◌then◌else◌, List, [], ◌∷◌, ◌++◌, map, length, take, drop, ℤ, pos, Option, Some, None, is_some, slice_get, refl, sym, ap, ◌∙◌, subst, arith}
use Rattle.std.specs.Prelude.{codes}
use Rattle.std.specs.List.{list_all, flat_map}
use Rattle.std.specs.Option.{unwrap_or}
use Rattle.std.proofs.lemmas.Bool.{false≢true}
use Rattle.std.proofs.lemmas.Bool.Decides.{nat_tests}
use Rattle.cg_base.specs.declared.form.Form.{Form, out-Form}
use Rattle.cg_base.specs.declared.form.Form.TheOpen.{Number, Symbol, Str, Flag, Items}
use Rattle.cg_base.specs.declared.mode.Mode.{Mode}
use Rattle.cg_base.specs.Parts.{◌>>=◌, Layer, Headed, headed, symbol_of, is_symbol, elements_of}
use Rattle.cg_base.specs.Refusing.{first}
use Rattle.cg_base.specs.Texts.{passes}
use Rattle.cg_base.specs.ModeWords.{gives_mode}
use Rattle.cg_model.specs.Formed.{As, expression, declared, arm, Standing, stand_as, are_just, are_some, are_arms, are_cases, items_stand, is_moded, is_numbered, is_zero, stands_at, stands}
use Rattle.cg_model.specs.declared.rtl.Op.{Op}
use Rattle.cg_model.specs.declared.rtl.Op.TheVariants as op
use Rattle.cg_model.specs.declared.rtl.Rtl.{Rtl}
use Rattle.cg_rtl_resolve.specs.Names.{readings, function_of, mode_named, mode_first, node, nothing, number_first, name_first, text_first, elements_first, elements_or_none, arm_at, choice_at, declare_of, local_name, register_named, operand_index, sequence_of, function_rtl, known_rtl, call_rtl, layer_rtl, rtl_to, rtl_of, number_named, field_named, Lacking, arm_lacks_at, choice_lacks_at, hardware_lacks, function_lacks, known_lacks, call_lacks, layer_lacks, lacks_to, lacks_of, names_lacking}
use Rattle.cg_rtl_resolve.specs.declared.function.Function.{Function}
use Rattle.cg_rtl_resolve.specs.declared.function.Function.TheVariants as function
use Rattle.cg_rtl_resolve.specs.declared.scope.Lack.TheVariants.{Undefined}
use Rattle.cg_rtl_resolve.specs.declared.scope.Scope.{Scope}
use Rattle.cg_rtl.specs.Functions.{Shape, operands, items, with_mode, shape_of, item_at, is_within, allows}
use Rattle.cg_rtl.specs.Shapes.{Flawed, wants, is_local_in, is_local, gives_mode_word, first_symbol, is_plain as is_plain_item, item_faults, items_faults, behind_mode, has_mode, shaped_faults, calls_another, known_faults, call_faults, layer_faults, faults_to, deepest, faults_in}
use Rattle.cg_rtl.specs.declared.faults.Flaw.TheVariants.{LeftOut}
use Rattle.cg_rtl.specs.declared.functions.Item.{Item}
use Rattle.cg_rtl.specs.declared.functions.Item.TheVariants as item
use Rattle.cg_rtl_laws.specs.Shaped.{gives_value, AreFormed}
use Rattle.cg_rtl_laws.proofs.Nodes.{first_true, second_true, both_true, standing_items, is_expression, are_expressions, standing_append, length_standing, built, just, some, in_front}
use Rattle.cg_rtl_laws.proofs.Functions.{operation_shape, behind_shape, register_shape, shape_for, is_plain, read_agrees}
use Rattle.cg_rtl_laws.proofs.Leaves.{nothing_stands, or_nothing, StandsWhere, field_stands, symbol_stands, index_of_stands, number_stands, error_stands, declared_local, mode_given}
use Rattle.cg_rtl_laws.proofs.Arms.{append_none, wants_none, Silent, silent_both, Good, expressions, length_items, cond_item, case_item, cond_item_stands, case_item_stands, arms_stand}

-- the same item, whichever place is the last
same_item : (b : Bool) (x : Item) → (if b then x else x) ≡ x
same_item true x = refl
same_item false x = refl

-- what is asked of the counts of items
record Allowed (sh : Shape) (given : Bool) (n : ℕ) : Type 0 where
  moded : (given || not sh.wants_mode) ≡ true
  least : nat_le sh.least n ≡ true
  most : is_within sh.most n ≡ true

allowed : (sh : Shape) (given : Bool) (n : ℕ) → allows sh given n ≡ true → Allowed sh given n
allowed sh given n h = record {
  moded = first_true (given || not sh.wants_mode) (nat_le sh.least n) (first_true ((given || not sh.wants_mode) && nat_le sh.least n) (is_within sh.most n) h);
  least = second_true (given || not sh.wants_mode) (nat_le sh.least n) (first_true ((given || not sh.wants_mode) && nat_le sh.least n) (is_within sh.most n) h);
  most = second_true ((given || not sh.wants_mode) && nat_le sh.least n) (is_within sh.most n) h;
}

-- a mode stands where it is wanted
moded_by : (wanted given : Bool) (mode : Option Mode) → (given || not wanted) ≡ true → (given ≡ true → is_some mode ≡ true) → wanted ≡ true → is_some mode ≡ true
moded_by true true mode h m w = m refl
moded_by true false mode h m w = absurd (false≢true h)
moded_by false given mode h m w = absurd (false≢true w)

moded_op : (o : Bool) (given : Bool) (mode : Option Mode) → (given || not o) ≡ true → (given ≡ true → is_some mode ≡ true) → (not o || is_some mode) ≡ true
moded_op true given mode h m = moded_by true given mode h m refl
moded_op false given mode h m = refl

module _ (s : Scope) (k : ℕ) (value : gives_value s ≡ true) (good : Good s k) (l : List (List ℕ)) (name : List ℕ) (given : Bool) (mode : Option Mode) (m : given ≡ true → is_some mode ≡ true) where
  -- faults of items, all of them expressions from a place on
  all_from : (sh : Shape) (count from j : ℕ) (fs : List Form) → ((i : ℕ) → from ≤ i → item_at sh count i ≡ item.Expression) → from ≤ j → items_faults (faults_to k) name sh count j fs ≡ [] → flat_map (faults_to k name) fs ≡ []
  all_from sh count from j [] plain at h = refl
  all_from sh count from j (f ∷ fs) plain at h =
      let both : (item_faults (faults_to k) name (item_at sh count j) f ≡ []) × (items_faults (faults_to k) name sh count (suc j) fs ≡ []) = append_none (item_faults (faults_to k) name (item_at sh count j) f) (items_faults (faults_to k) name sh count (suc j) fs) h in
      let here : faults_to k name f ≡ [] = ap (λ i. item_faults (faults_to k) name i f) (sym (plain j at)) ∙ both.0 in
      ap (λ xs. xs ++ flat_map (faults_to k name) fs) here ∙ all_from sh count from (suc j) fs plain (omega (arith, at)) both.1

  no_front : (wanted : Bool) (least : ℕ) (most : Option ℕ) (count i : ℕ) → item_at (record { wants_mode = wanted; least = least; most = most; front = []; rest = item.Expression }) count i ≡ item.Expression
  no_front wanted least most count i = same_item (i + 1 == count) item.Expression

  past_one : (wanted : Bool) (least : ℕ) (most : Option ℕ) (x : Item) (count i : ℕ) → 1 ≤ i → item_at (record { wants_mode = wanted; least = least; most = most; front = x ∷ []; rest = item.Expression }) count i ≡ item.Expression
  past_one wanted least most x count zero at = absurd (omega (arith, at))
  past_one wanted least most x count (suc i) at = same_item (suc i + 1 == count) item.Expression

  -- an operation on expressions alone
  plain_operation : (o : Op) (n : ℕ) (wanted : Bool) (least : ℕ) (most : Option ℕ) (fs : List Form) → stands_at o expression ≡ true → is_moded o ≡ wanted → (is_numbered o || n == 0) ≡ true
      → ((xs : List Standing) → nat_le least (length xs) ≡ true → is_within most (length xs) ≡ true → list_all is_expression xs ≡ true → items_stand o (pos n) xs ≡ true)
      → shaped_faults (faults_to k) name (record { wants_mode = wanted; least = least; most = most; front = []; rest = item.Expression }) given fs ≡ [] → Silent (flat_map (lacks_to k s l) fs)
      → stands (node o mode (pos n) (map (rtl_to k s l) fs)) expression ≡ true
  plain_operation o n wanted least most fs at moded number inside h silent =
      let sh : Shape = record { wants_mode = wanted; least = least; most = most; front = []; rest = item.Expression } in
      let both : (wants (allows sh given (length fs)) name ≡ []) × (items_faults (faults_to k) name sh (length fs) 0 fs ≡ []) = append_none (wants (allows sh given (length fs)) name) (items_faults (faults_to k) name sh (length fs) 0 fs) h in
      let counts : Allowed sh given (length fs) = allowed sh given (length fs) (wants_none (allows sh given (length fs)) name both.0) in
      let xs : List Rtl = map (rtl_to k s l) fs in
      let all : are_expressions xs ≡ true = expressions s k good l name fs (all_from sh (length fs) 0 0 fs (λ i at. no_front wanted least most (length fs) i) (omega arith) both.1) silent in
      let len : length (standing_items xs) ≡ length fs = length_items (rtl_to k s l) fs in
      built o mode (pos n) xs expression at (ap (λ b. not b || is_some mode) moded ∙ moded_op wanted given mode counts.moded m) number
      (inside (standing_items xs) (ap (nat_le least) len ∙ counts.least) (ap (is_within most) len ∙ counts.most) all)

  abbrev shape_or : Shape → Option Shape → Shape
  shape_or sh None = sh
  shape_or sh (Some x) = x

  operation : (o : Op) (n : ℕ) (sh : Shape) (fs : List Form) → Some sh ≡ operation_shape o → (is_numbered o || n == 0) ≡ true → shaped_faults (faults_to k) name sh given fs ≡ [] → Silent (flat_map (lacks_to k s l) fs) → stands (node o mode (pos n) (map (rtl_to k s l) fs)) expression ≡ true
  unfolding stands_at is_moded items_stand
  operation op.Unary n sh fs is number h silent = plain_operation op.Unary n false 1 (Some 1) fs refl refl number (λ xs a b e. just 1 xs a b e) (subst (λ x. shaped_faults (faults_to k) name x given fs ≡ []) (ap (shape_or sh) is) h) silent
  operation op.Binary n sh fs is number h silent = plain_operation op.Binary n false 2 (Some 2) fs refl refl number (λ xs a b e. just 2 xs a b e) (subst (λ x. shaped_faults (faults_to k) name x given fs ≡ []) (ap (shape_or sh) is) h) silent
  operation op.Ternary n sh fs is number h silent = plain_operation op.Ternary n false 3 (Some 3) fs refl refl number (λ xs a b e. just 3 xs a b e) (subst (λ x. shaped_faults (faults_to k) name x given fs ≡ []) (ap (shape_or sh) is) h) silent
  operation op.AndIf n sh fs is number h silent = plain_operation op.AndIf n false 2 None fs refl refl number (λ xs a b e. some 2 xs a e) (subst (λ x. shaped_faults (faults_to k) name x given fs ≡ []) (ap (shape_or sh) is) h) silent
  operation op.OrIf n sh fs is number h silent = plain_operation op.OrIf n false 2 None fs refl refl number (λ xs a b e. some 2 xs a e) (subst (λ x. shaped_faults (faults_to k) name x given fs ≡ []) (ap (shape_or sh) is) h) silent
  operation op.Ext n sh fs is number h silent = plain_operation op.Ext n true 1 (Some 1) fs refl refl number (λ xs a b e. just 1 xs a b e) (subst (λ x. shaped_faults (faults_to k) name x given fs ≡ []) (ap (shape_or sh) is) h) silent
  operation op.Zext n sh fs is number h silent = plain_operation op.Zext n true 1 (Some 1) fs refl refl number (λ xs a b e. just 1 xs a b e) (subst (λ x. shaped_faults (faults_to k) name x given fs ≡ []) (ap (shape_or sh) is) h) silent
  operation op.Trunc n sh fs is number h silent = plain_operation op.Trunc n true 1 (Some 1) fs refl refl number (λ xs a b e. just 1 xs a b e) (subst (λ x. shaped_faults (faults_to k) name x given fs ≡ []) (ap (shape_or sh) is) h) silent
  operation op.Mem n sh fs is number h silent = plain_operation op.Mem n true 1 (Some 1) fs refl refl number (λ xs a b e. just 1 xs a b e) (subst (λ x. shaped_faults (faults_to k) name x given fs ≡ []) (ap (shape_or sh) is) h) silent
  operation op.If n sh fs is number h silent = plain_operation op.If n false 2 (Some 3) fs refl refl number (λ xs a b e. both_true (are_some 2 xs) (nat_le (length xs) 3) (some 2 xs a e) b) (subst (λ x. shaped_faults (faults_to k) name x given fs ≡ []) (ap (shape_or sh) is) h) silent
  operation op.Set n sh fs is number h silent = plain_operation op.Set n false 2 (Some 2) fs refl refl number (λ xs a b e. just 2 xs a b e) (subst (λ x. shaped_faults (faults_to k) name x given fs ≡ []) (ap (shape_or sh) is) h) silent
  operation op.Nop n sh fs is number h silent = plain_operation op.Nop n false 0 (Some 0) fs refl refl number (λ xs a b e. just 0 xs a b e) (subst (λ x. shaped_faults (faults_to k) name x given fs ≡ []) (ap (shape_or sh) is) h) silent
  operation _ n sh fs is number h silent = absurd cc

  -- What is known of one item in front of expressions.
  record InFront (wanted : Bool) (least : ℕ) (most : Option ℕ) (x : Item) (f : Form) (rest : List Form) : Type 0 where
    first : item_faults (faults_to k) name x f ≡ []
    faults : flat_map (faults_to k name) rest ≡ []
    few : nat_le least (length rest) ≡ true
    many : is_within most (suc (length rest)) ≡ true
    moded : (given || not wanted) ≡ true

  one_less : (a n : ℕ) → nat_le (suc a) (suc n) ≡ true → nat_le a n ≡ true
  one_less a n h = grind (arith, nat_tests)

  abbrev fronted : Bool → ℕ → Option ℕ → Item → Shape
  fronted wanted least most x = record { wants_mode = wanted; least = least; most = most; front = x ∷ []; rest = item.Expression }

  in_front_of : (wanted : Bool) (least : ℕ) (most : Option ℕ) (x : Item) (f : Form) (rest : List Form) → ((count : ℕ) → item_at (fronted wanted (suc least) most x) count 0 ≡ x)
      → shaped_faults (faults_to k) name (fronted wanted (suc least) most x) given (f ∷ rest) ≡ [] → InFront wanted least most x f rest
  in_front_of wanted least most x f rest is h =
      let sh : Shape = fronted wanted (suc least) most x in
      let count : ℕ = suc (length rest) in
      let all : (wants (allows sh given count) name ≡ []) × (items_faults (faults_to k) name sh count 0 (f ∷ rest) ≡ []) = append_none (wants (allows sh given count) name) (items_faults (faults_to k) name sh count 0 (f ∷ rest)) h in
      let counts : Allowed sh given count = allowed sh given count (wants_none (allows sh given count) name all.0) in
      let both : (item_faults (faults_to k) name (item_at sh count 0) f ≡ []) × (items_faults (faults_to k) name sh count 1 rest ≡ []) = append_none (item_faults (faults_to k) name (item_at sh count 0) f) (items_faults (faults_to k) name sh count 1 rest) all.1 in
      record {
        first = ap (λ i. item_faults (faults_to k) name i f) (sym (is count)) ∙ both.0;
        faults = all_from sh count 1 1 rest (λ i at. past_one wanted (suc least) most x count i at) (omega arith) both.1;
        few = one_less least (length rest) counts.least;
        many = counts.most;
        moded = counts.moded;
      }

  -- without any item
  none_few : (n : ℕ) → nat_le (suc n) 0 ≡ true → ⊥
  none_few n h = let never : suc n ≤ 0 = grind (arith, nat_tests) in omega (arith, never)

  no_item : (sh : Shape) (least : ℕ) → sh.least ≡ suc least → shaped_faults (faults_to k) name sh given [] ≡ [] → ⊥
  no_item sh least is h =
      let all : (wants (allows sh given 0) name ≡ []) × ([] ≡ []) = append_none (wants (allows sh given 0) name) [] h in
      let counts : Allowed sh given 0 = allowed sh given 0 (wants_none (allows sh given 0) name all.0) in
      none_few least (ap (λ n. nat_le n 0) (sym is) ∙ counts.least)

  as_shape : (sh known : Shape) (fs : List Form) → Some sh ≡ Some known → shaped_faults (faults_to k) name sh given fs ≡ [] → shaped_faults (faults_to k) name known given fs ≡ []
  as_shape sh known fs is h = subst (λ x. shaped_faults (faults_to k) name x given fs ≡ []) (ap (shape_or sh) is) h

  length_rest : (rest : List Form) → length (standing_items (map (rtl_to k s l) rest)) ≡ length rest
  length_rest rest = length_items (rtl_to k s l) rest

  fewer : (n : ℕ) → is_within (Some 2) (suc n) ≡ true → nat_le n 1 ≡ true
  fewer n h = one_less n 1 h

  parallel : (sh : Shape) (fs : List Form) → Some sh ≡ behind_shape op.Parallel → shaped_faults (faults_to k) name sh given fs ≡ [] → Silent (flat_map (lacks_to k s l) (drop 1 fs)) → stands (node op.Parallel mode (pos 0) (map (rtl_to k s l) (drop 1 fs))) expression ≡ true
  unfolding stands_at is_moded is_numbered items_stand
  parallel sh [] is h silent = absurd (no_item (items 2 None (item.NoLocals ∷ []) item.Expression) 1 refl (as_shape sh (items 2 None (item.NoLocals ∷ []) item.Expression) [] is h))
  parallel sh (f ∷ rest) is h silent =
      let p : InFront false 1 None item.NoLocals f rest = in_front_of false 1 None item.NoLocals f rest (λ count. same_item (0 + 1 == count) item.NoLocals) (as_shape sh (items 2 None (item.NoLocals ∷ []) item.Expression) (f ∷ rest) is h) in
      built op.Parallel mode (pos 0) (map (rtl_to k s l) rest) expression refl refl refl
      (some 1 (standing_items (map (rtl_to k s l) rest)) (ap (nat_le 1) (length_rest rest) ∙ p.few) (expressions s k good l name rest p.faults silent))

  halt : (sh : Shape) (fs : List Form) → Some sh ≡ behind_shape op.Halt → shaped_faults (faults_to k) name sh given fs ≡ [] → Silent (flat_map (lacks_to k s l) (drop 1 fs)) → stands (node op.Halt mode (pos 0) (map (rtl_to k s l) (drop 1 fs))) expression ≡ true
  unfolding stands_at is_moded is_numbered items_stand
  halt sh [] is h silent = absurd (no_item (items 2 (Some 2) (item.Str ∷ []) item.Expression) 1 refl (as_shape sh (items 2 (Some 2) (item.Str ∷ []) item.Expression) [] is h))
  halt sh (f ∷ rest) is h silent =
      let p : InFront false 1 (Some 2) item.Str f rest = in_front_of false 1 (Some 2) item.Str f rest (λ count. same_item (0 + 1 == count) item.Str) (as_shape sh (items 2 (Some 2) (item.Str ∷ []) item.Expression) (f ∷ rest) is h) in
      built op.Halt mode (pos 0) (map (rtl_to k s l) rest) expression refl refl refl
      (just 1 (standing_items (map (rtl_to k s l) rest)) (ap (nat_le 1) (length_rest rest) ∙ p.few) (ap (λ n. nat_le n 1) (length_rest rest) ∙ fewer (length rest) p.many) (expressions s k good l name rest p.faults silent))

  delay : (fs : List Form) → shaped_faults (faults_to k) name (items 2 (Some 2) (item.Number ∷ []) item.Expression) given fs ≡ [] → Silent (flat_map (lacks_to k s l) (drop 1 fs)) → stands (node op.Delay mode (number_first fs) (map (rtl_to k s l) (drop 1 fs))) expression ≡ true
  unfolding stands_at is_moded is_numbered items_stand
  delay [] h silent = absurd (no_item (items 2 (Some 2) (item.Number ∷ []) item.Expression) 1 refl h)
  delay (f ∷ rest) h silent =
      let p : InFront false 1 (Some 2) item.Number f rest = in_front_of false 1 (Some 2) item.Number f rest (λ count. same_item (0 + 1 == count) item.Number) h in
      built op.Delay mode (number_first (f ∷ rest)) (map (rtl_to k s l) rest) expression refl refl refl
      (just 1 (standing_items (map (rtl_to k s l) rest)) (ap (nat_le 1) (length_rest rest) ∙ p.few) (ap (λ n. nat_le n 1) (length_rest rest) ∙ fewer (length rest) p.many) (expressions s k good l name rest p.faults silent))

  no_more : (n : ℕ) → nat_le 0 n ≡ true
  no_more n = grind (arith, nat_tests)

  register_items : (rest : List Form) → nat_le (length rest) 1 ≡ true → are_expressions (map (rtl_to k s l) rest) ≡ true
      → (are_some 0 (standing_items (map (rtl_to k s l) rest)) && nat_le (length (standing_items (map (rtl_to k s l) rest))) 1) ≡ true
  register_items rest few all =
      let xs : List Standing = standing_items (map (rtl_to k s l) rest) in
      both_true (are_some 0 xs) (nat_le (length xs) 1) (some 0 xs (no_more (length xs)) all) (ap (λ n. nat_le n 1) (length_rest rest) ∙ few)

  register_where : (o : Op) (n : Option ℤ) (rest : List Form) → nat_le (length rest) 1 ≡ true → are_expressions (map (rtl_to k s l) rest) ≡ true → ((i : ℤ) → stands (node o mode i (map (rtl_to k s l) rest)) expression ≡ true)
      → stands (unwrap_or (elim n [ None ↦ None | Some i ↦ Some (node o mode i (map (rtl_to k s l) rest)) ]) nothing) expression ≡ true
  register_where o None rest few all h = nothing_stands
  register_where o (Some i) rest few all h = h i

  register : (o : Op) (sh : Shape) (fs : List Form) → Some sh ≡ register_shape o → shaped_faults (faults_to k) name sh given fs ≡ [] → Silent (flat_map (lacks_to k s l) (drop 1 fs)) → stands (unwrap_or (register_named s o mode (name_first fs) (map (rtl_to k s l) (drop 1 fs))) nothing) expression ≡ true
  unfolding stands_at is_moded is_numbered items_stand
  register op.Reg sh [] is h silent = absurd (no_item (items 1 (Some 2) (item.Name ∷ []) item.Expression) 0 refl (as_shape sh (items 1 (Some 2) (item.Name ∷ []) item.Expression) [] is h))
  register op.Reg sh (f ∷ rest) is h silent =
      let p : InFront false 0 (Some 2) item.Name f rest = in_front_of false 0 (Some 2) item.Name f rest (λ count. same_item (0 + 1 == count) item.Name) (as_shape sh (items 1 (Some 2) (item.Name ∷ []) item.Expression) (f ∷ rest) is h) in
      let all : are_expressions (map (rtl_to k s l) rest) ≡ true = expressions s k good l name rest p.faults silent in
      register_where op.Reg (number_named (name_first (f ∷ rest)) s.hardware) rest (fewer (length rest) p.many) all
      (λ i. built op.Reg mode i (map (rtl_to k s l) rest) expression refl refl refl (register_items rest (fewer (length rest) p.many) all))
  register op.RawReg sh [] is h silent = absurd (no_item (items 1 (Some 2) (item.Name ∷ []) item.Expression) 0 refl (as_shape sh (items 1 (Some 2) (item.Name ∷ []) item.Expression) [] is h))
  register op.RawReg sh (f ∷ rest) is h silent =
      let p : InFront false 0 (Some 2) item.Name f rest = in_front_of false 0 (Some 2) item.Name f rest (λ count. same_item (0 + 1 == count) item.Name) (as_shape sh (items 1 (Some 2) (item.Name ∷ []) item.Expression) (f ∷ rest) is h) in
      let all : are_expressions (map (rtl_to k s l) rest) ≡ true = expressions s k good l name rest p.faults silent in
      register_where op.RawReg (number_named (name_first (f ∷ rest)) s.hardware) rest (fewer (length rest) p.many) all
      (λ i. built op.RawReg mode i (map (rtl_to k s l) rest) expression refl refl refl (register_items rest (fewer (length rest) p.many) all))
  register _ sh fs is h silent = absurd cc

  -- locals
  local_declared : (o : Option (List Form)) → passes is_local_in o ≡ true → is_some (mode_first s.word_bits (unwrap_or o [])) ≡ true
  local_declared None h = absurd (false≢true h)
  local_declared (Some []) h = absurd (false≢true h)
  local_declared (Some (a ∷ [])) h = absurd (false≢true h)
  local_declared (Some (a ∷ b ∷ [])) h = mode_given s.word_bits (symbol_of a) (first_true (gives_mode_word a) (is_symbol b) h)
  local_declared (Some (a ∷ b ∷ c ∷ cs)) h = absurd (false≢true h)

  locals_declared : (fs : List Form) → list_all is_local fs ≡ true → list_all (λ x. x declared) (standing_items (map (declare_of s.word_bits) fs)) ≡ true
  locals_declared [] all = refl
  locals_declared (f ∷ fs) all =
      both_true (stands (declare_of s.word_bits f) declared) (list_all (λ x. x declared) (standing_items (map (declare_of s.word_bits) fs)))
      (declared_local (mode_first s.word_bits (elements_or_none f)) (local_declared (elements_of f) (first_true (is_local f) (list_all is_local fs) all)))
      (locals_declared fs (second_true (is_local f) (list_all is_local fs) all))

  locals_of : (o : Option (List Form)) → passes (list_all is_local) o ≡ true → list_all is_local (unwrap_or o []) ≡ true
  locals_of None h = absurd (false≢true h)
  locals_of (Some fs) h = h

  sequence : (fs : List Form) → shaped_faults (faults_to k) name (items 2 None (item.Locals ∷ []) item.Expression) given fs ≡ [] → Silent (flat_map (lacks_to k s (l ++ map local_name (elements_first fs))) (drop 1 fs)) → stands (sequence_of s (rtl_to k s) l mode (elements_first fs) (drop 1 fs)) expression ≡ true
  unfolding stands_at is_moded is_numbered items_stand
  sequence [] h silent = absurd (no_item (items 2 None (item.Locals ∷ []) item.Expression) 1 refl h)
  sequence (f ∷ rest) h silent =
      let p : InFront false 1 None item.Locals f rest = in_front_of false 1 None item.Locals f rest (λ count. same_item (0 + 1 == count) item.Locals) h in
      let locals : List Form = elements_first (f ∷ rest) in
      let among : List (List ℕ) = l ++ map local_name locals in
      let decls : List Rtl = map (declare_of s.word_bits) locals in
      let bodies : List Rtl = map (rtl_to k s among) rest in
      let are : list_all is_local locals ≡ true = locals_of (elements_of f) (wants_none (is_plain_item item.Locals f) name p.first) in
      let all : are_expressions bodies ≡ true = expressions s k good among name rest p.faults silent in
      let some_bodies : nat_le 1 (length (standing_items bodies)) ≡ true = ap (nat_le 1) (length_items (rtl_to k s among) rest) ∙ p.few in
      let stand : stand_as declared (length locals) (standing_items (decls ++ bodies)) ≡ true =
      ap (λ n. stand_as declared n (standing_items (decls ++ bodies))) (sym (length_items (declare_of s.word_bits) locals))
      ∙ ap (λ xs. stand_as declared (length (standing_items decls)) xs) (standing_append decls bodies)
      ∙ in_front declared (standing_items decls) (standing_items bodies) (locals_declared locals are) all some_bodies in
      built op.Sequence mode (pos (length locals)) (decls ++ bodies) expression refl refl refl stand

  join : (fs : List Form) → shaped_faults (faults_to k) name (with_mode 2 None (item.Mode ∷ [])) given fs ≡ [] → Silent (flat_map (lacks_to k s l) (drop 1 fs))
      → stands (node op.Join mode (pos 0) (node op.Declare (mode_first s.word_bits fs) (pos 0) [] ∷ map (rtl_to k s l) (drop 1 fs))) expression ≡ true
  unfolding stands_at is_moded is_numbered items_stand
  join [] h silent = absurd (no_item (with_mode 2 None (item.Mode ∷ [])) 1 refl h)
  join (f ∷ rest) h silent =
      let p : InFront true 1 None item.Mode f rest = in_front_of true 1 None item.Mode f rest (λ count. same_item (0 + 1 == count) item.Mode) h in
      let decl : Rtl = node op.Declare (mode_first s.word_bits (f ∷ rest)) (pos 0) [] in
      let bodies : List Rtl = map (rtl_to k s l) rest in
      let front : stands decl declared ≡ true = declared_local (mode_first s.word_bits (f ∷ rest)) (mode_given s.word_bits (symbol_of f) (wants_none (is_plain_item item.Mode f) name p.first)) in
      let all : are_expressions bodies ≡ true = expressions s k good l name rest p.faults silent in
      let some_bodies : nat_le 1 (length (standing_items bodies)) ≡ true = ap (nat_le 1) (length_rest rest) ∙ p.few in
      built op.Join mode (pos 0) (decl ∷ bodies) expression refl (moded_by true given mode p.moded m refl) refl
      (in_front declared (stands decl ∷ []) (standing_items bodies) (both_true (stands decl declared) true front refl) all some_bodies)

  subword : (fs : List Form) → shaped_faults (faults_to k) name (with_mode 2 (Some 2) (item.Expression ∷ item.Number ∷ [])) given fs ≡ [] → Silent (flat_map (lacks_to k s l) (take 1 fs)) → stands (node op.Subword mode (number_first (drop 1 fs)) (map (rtl_to k s l) (take 1 fs))) expression ≡ true
  unfolding stands_at is_moded is_numbered items_stand
  subword fs h silent = at fs h silent where
    sh : Shape
    sh = with_mode 2 (Some 2) (item.Expression ∷ item.Number ∷ [])

    counted : (gs : List Form) → shaped_faults (faults_to k) name sh given gs ≡ [] → Allowed sh given (length gs)
    counted gs h =
        let all : (wants (allows sh given (length gs)) name ≡ []) × (items_faults (faults_to k) name sh (length gs) 0 gs ≡ []) = append_none (wants (allows sh given (length gs)) name) (items_faults (faults_to k) name sh (length gs) 0 gs) h in
        allowed sh given (length gs) (wants_none (allows sh given (length gs)) name all.0)

    too_many : (n : ℕ) → nat_le (suc (suc (suc n))) 2 ≡ true → ⊥
    too_many n h = let never : suc (suc (suc n)) ≤ 2 = grind (arith, nat_tests) in omega (arith, never)

    at : (gs : List Form) → shaped_faults (faults_to k) name sh given gs ≡ [] → Silent (flat_map (lacks_to k s l) (take 1 gs)) → stands (node op.Subword mode (number_first (drop 1 gs)) (map (rtl_to k s l) (take 1 gs))) expression ≡ true
    at [] h silent = absurd (no_item sh 1 refl h)
    at (f ∷ []) h silent = let c : Allowed sh given 1 = counted (f ∷ []) h in absurd (false≢true c.least)
    at (f ∷ g ∷ e ∷ es) h silent = let c : Allowed sh given (suc (suc (suc (length es)))) = counted (f ∷ g ∷ e ∷ es) h in absurd (too_many (length es) c.most)
    at (f ∷ g ∷ []) h silent =
        let c : Allowed sh given 2 = counted (f ∷ g ∷ []) h in
        let all : (wants (allows sh given 2) name ≡ []) × (items_faults (faults_to k) name sh 2 0 (f ∷ g ∷ []) ≡ []) = append_none (wants (allows sh given 2) name) (items_faults (faults_to k) name sh 2 0 (f ∷ g ∷ [])) h in
        let both : (faults_to k name f ≡ []) × (items_faults (faults_to k) name sh 2 1 (g ∷ []) ≡ []) = append_none (faults_to k name f) (items_faults (faults_to k) name sh 2 1 (g ∷ [])) all.1 in
        let quiet : Silent (lacks_to k s l f) × Silent [] = silent_both (lacks_to k s l f) [] silent in
        built op.Subword mode (number_first (g ∷ [])) (rtl_to k s l f ∷ []) expression refl (moded_by true given mode c.moded m refl) refl
        (just 1 (standing_items (rtl_to k s l f ∷ [])) refl refl (both_true (stands (rtl_to k s l f) expression) true (good l name f both.0 quiet.0) refl))

  -- arms
  cond_place : (b : Bool) → (if b then item.LastArm else item.Arm) ≡ cond_item b
  cond_place true = refl
  cond_place false = refl

  case_place : (b : Bool) → (if b then item.LastChoice else item.Choice) ≡ case_item b
  case_place true = refl
  case_place false = refl

  choice_place : (count j : ℕ) → 1 ≤ j → item_at (items 2 None (item.Expression ∷ []) item.Choice) count j ≡ case_item (j + 1 == count)
  choice_place count zero at = absurd (omega (arith, at))
  choice_place count (suc i) at = case_place (suc i + 1 == count)

  cond : (fs : List Form) → shaped_faults (faults_to k) name (items 1 None [] item.Arm) given fs ≡ [] → Silent (flat_map (arm_lacks_at (lacks_to k s) l) fs) → stands (node op.Cond mode (pos 0) (map (arm_at (rtl_to k s) l) fs)) expression ≡ true
  unfolding stands_at is_moded is_numbered items_stand
  cond [] h silent = absurd (no_item (items 1 None [] item.Arm) 0 refl h)
  cond (f ∷ fs) h silent =
      let sh : Shape = items 1 None [] item.Arm in
      let count : ℕ = suc (length fs) in
      let all : (wants (allows sh given count) name ≡ []) × (items_faults (faults_to k) name sh count 0 (f ∷ fs) ≡ []) = append_none (wants (allows sh given count) name) (items_faults (faults_to k) name sh count 0 (f ∷ fs)) h in
      built op.Cond mode (pos 0) (map (arm_at (rtl_to k s) l) (f ∷ fs)) expression refl refl refl
      (arms_stand (faults_to k) name sh false cond_item (arm_at (rtl_to k s) l) (arm_lacks_at (lacks_to k s) l) 0 (λ last g e q. cond_item_stands s k good l name last g e q) (λ n j at. cond_place (j + 1 == n)) count 0 f fs (omega arith) (omega arith) all.1 silent)

  case : (fs : List Form) → shaped_faults (faults_to k) name (items 2 None (item.Expression ∷ []) item.Choice) given fs ≡ [] → Silent (flat_map (lacks_to k s l) (take 1 fs) ++ flat_map (choice_lacks_at s (lacks_to k s) l) (drop 1 fs))
      → stands (node op.Case mode (pos 0) (map (rtl_to k s l) (take 1 fs) ++ map (choice_at s (rtl_to k s) l) (drop 1 fs))) expression ≡ true
  unfolding stands_at is_moded is_numbered items_stand
  case [] h silent = absurd (no_item (items 2 None (item.Expression ∷ []) item.Choice) 1 refl h)
  case (f ∷ []) h silent =
      let sh : Shape = items 2 None (item.Expression ∷ []) item.Choice in
      let all : (wants (allows sh given 1) name ≡ []) × (items_faults (faults_to k) name sh 1 0 (f ∷ []) ≡ []) = append_none (wants (allows sh given 1) name) (items_faults (faults_to k) name sh 1 0 (f ∷ [])) h in
      let c : Allowed sh given 1 = allowed sh given 1 (wants_none (allows sh given 1) name all.0) in
      absurd (false≢true c.least)
  case (f ∷ g ∷ gs) h silent =
      let sh : Shape = items 2 None (item.Expression ∷ []) item.Choice in
      let count : ℕ = suc (suc (length gs)) in
      let all : (wants (allows sh given count) name ≡ []) × (items_faults (faults_to k) name sh count 0 (f ∷ g ∷ gs) ≡ []) = append_none (wants (allows sh given count) name) (items_faults (faults_to k) name sh count 0 (f ∷ g ∷ gs)) h in
      let both : (item_faults (faults_to k) name (item_at sh count 0) f ≡ []) × (items_faults (faults_to k) name sh count 1 (g ∷ gs) ≡ []) = append_none (item_faults (faults_to k) name (item_at sh count 0) f) (items_faults (faults_to k) name sh count 1 (g ∷ gs)) all.1 in
      let here : faults_to k name f ≡ [] = ap (λ i. item_faults (faults_to k) name i f) (sym (same_item (0 + 1 == count) item.Expression)) ∙ both.0 in
      let quiet : Silent (flat_map (lacks_to k s l) (f ∷ [])) × Silent (flat_map (choice_lacks_at s (lacks_to k s) l) (g ∷ gs)) = silent_both (flat_map (lacks_to k s l) (f ∷ [])) (flat_map (choice_lacks_at s (lacks_to k s) l) (g ∷ gs)) silent in
      let own : Silent (lacks_to k s l f) × Silent [] = silent_both (lacks_to k s l f) [] quiet.0 in
      built op.Case mode (pos 0) (rtl_to k s l f ∷ map (choice_at s (rtl_to k s) l) (g ∷ gs)) expression refl refl refl
      (both_true (stands (rtl_to k s l f) expression) (are_arms true (standing_items (map (choice_at s (rtl_to k s) l) (g ∷ gs)))) (good l name f here own.0)
      (arms_stand (faults_to k) name sh true case_item (choice_at s (rtl_to k s) l) (choice_lacks_at s (lacks_to k s) l) 1 (λ last e a q. case_item_stands s k good l name last e a q) (λ n j at. choice_place n j at) count 1 g gs (omega arith) (omega arith) both.1 quiet.1))

  behind : (o : Op) (sh : Shape) (fs : List Form) → Some sh ≡ behind_shape o → shaped_faults (faults_to k) name sh given fs ≡ [] → Silent (flat_map (lacks_to k s l) (drop 1 fs)) → stands (node o mode (pos 0) (map (rtl_to k s l) (drop 1 fs))) expression ≡ true
  behind op.Parallel sh fs is h silent = parallel sh fs is h silent
  behind op.Halt sh fs is h silent = halt sh fs is h silent
  behind _ sh fs is h silent = absurd cc

  by_function : (f : Function) (sh : Shape) (fs : List Form) → Some sh ≡ shape_for f → is_plain f ≡ true → shaped_faults (faults_to k) name sh given fs ≡ [] → Silent (function_lacks s (lacks_to k s) l fs f) → stands (function_rtl s (rtl_to k s) l mode fs f) expression ≡ true
  by_function (function.Operation o n) sh fs is plain h silent = operation o n sh fs is plain h silent
  by_function (function.Behind o) sh fs is plain h silent = behind o sh fs is h silent
  by_function function.Constant sh fs is plain h silent = number_stands mode (number_first fs)
  by_function function.Subword sh fs is plain h silent = subword fs (as_shape sh (with_mode 2 (Some 2) (item.Expression ∷ item.Number ∷ [])) fs is h) silent
  by_function function.Join sh fs is plain h silent = join fs (as_shape sh (with_mode 2 None (item.Mode ∷ [])) fs is h) silent
  by_function function.Cond sh fs is plain h silent = cond fs (as_shape sh (items 1 None [] item.Arm) fs is h) silent
  by_function function.Case sh fs is plain h silent = case fs (as_shape sh (items 2 None (item.Expression ∷ []) item.Choice) fs is h) silent
  by_function function.Sequence sh fs is plain h silent = sequence fs (as_shape sh (items 2 None (item.Locals ∷ []) item.Expression) fs is h) silent
  by_function function.Delay sh fs is plain h silent = delay fs (as_shape sh (items 2 (Some 2) (item.Number ∷ []) item.Expression) fs is h) silent
  by_function function.Error sh fs is plain h silent = error_stands mode (unwrap_or (number_named (text_first fs) s.texts) (pos 0))
  by_function function.FieldNamed sh fs is plain h silent = or_nothing (field_named s mode (name_first fs)) (field_stands s mode (name_first fs) value)
  by_function (function.Register o) sh fs is plain h silent = register o sh fs is h (silent_both (hardware_lacks s (name_first fs)) (flat_map (lacks_to k s l) (drop 1 fs)) silent).1
  by_function function.IndexOf sh fs is plain h silent = or_nothing (operand_index s mode (name_first fs)) (index_of_stands s mode (name_first fs))

-- a call
module _ (s : Scope) (k : ℕ) (value : gives_value s ≡ true) (good : Good s k) (l : List (List ℕ)) where
  another : (b : Bool) (name : List ℕ) (rest : List Flawed) → (if b then (LeftOut, name) ∷ [] else rest) ≡ [] → rest ≡ []
  another true name rest h = absurd cc
  another false name rest h = h

  called : (name : List ℕ) (behind : List Form) (f : Function) → function_of name ≡ Some f → known_faults (faults_to k) name behind (shape_of name) ≡ [] → Silent (function_lacks s (lacks_to k s) l (behind_mode behind) f)
      → stands (function_rtl s (rtl_to k s) l (mode_first s.word_bits behind) (behind_mode behind) f) expression ≡ true
  unfolding function_of
  called name behind f is h silent = at (shape_of name) refl h where
    agrees : (shape_of name ≡ shape_for f) × (is_plain f ≡ true)
    agrees = read_agrees name f is

    at : (o : Option Shape) → shape_of name ≡ o → known_faults (faults_to k) name behind o ≡ [] → stands (function_rtl s (rtl_to k s) l (mode_first s.word_bits behind) (behind_mode behind) f) expression ≡ true
    at None shape h = absurd cc
    at (Some sh) shape h =
        let faults : shaped_faults (faults_to k) name sh (has_mode behind) (behind_mode behind) ≡ [] = another (calls_another name (behind_mode behind)) name (shaped_faults (faults_to k) name sh (has_mode behind) (behind_mode behind)) h in
        by_function s k value good l name (has_mode behind) (mode_first s.word_bits behind) (mode_given s.word_bits (first_symbol behind)) f sh (behind_mode behind) (sym shape ∙ agrees.0) agrees.1 faults silent

  call : (holder : List ℕ) (o : Option Headed) → call_faults (faults_to k) holder o ≡ [] → Silent (call_lacks s (lacks_to k s) l o) → stands (call_rtl s (rtl_to k s) l o) expression ≡ true
  call holder None h silent = absurd cc
  call holder (Some x) h silent = at (function_of x.0) refl silent where
    at : (o : Option Function) → function_of x.0 ≡ o → Silent (known_lacks s (lacks_to k s) l x.1 o) → stands (known_rtl s (rtl_to k s) l x.1 o) expression ≡ true
    at None is silent = nothing_stands
    at (Some f) is silent = called x.0 x.1 f is h silent

  layered : (holder : List ℕ) (f : Form) (x : Layer) → layer_faults (call_faults (faults_to k) holder (headed f)) holder x ≡ [] → Silent (layer_lacks s l (call_lacks s (lacks_to k s) l (headed f)) x) → stands (layer_rtl s l (call_rtl s (rtl_to k s) l (headed f)) x) expression ≡ true
  layered holder f (Number n) h silent = number_stands None n
  layered holder f (Symbol name) h silent = symbol_stands s l name value
  layered holder f (Str text) h silent = absurd cc
  layered holder f (Flag b) h silent = absurd cc
  layered holder f (Items fs) h silent = call holder (headed f) h silent

goods : (s : Scope) → gives_value s ≡ true → (k : ℕ) → Good s k
goods s value zero l holder f h silent = nothing_stands
goods s value (suc k) l holder f h silent = layered s k value (goods s value k) l holder f (out-Form f) h silent

pub formed_law : (s : Scope) → gives_value s ≡ true → AreFormed s
unfolding rtl_of lacks_of faults_in
formed_law s value = record { formed = λ f h silent. goods s value deepest [] (codes "rtl") f h silent }

pub ruleset shaped = (formed_law)
