-- All numbers in what an expression stands for name something, function by function.
use Rattle.std.proofs.Common.{◌≡◌, ℕ, zero, suc, ◌+◌, ◌<◌, ◌≤◌, Bool, true, false, not, ◌&&◌, ◌==◌, nat_lt, if◌then◌else◌, List, [], ◌∷◌, ◌++◌, map, length, take, drop, ℤ, pos, Option, Some, None, refl, sym, ap, ◌∙◌, subst, arith}
use Rattle.std.specs.Prelude.{codes}
use Rattle.std.specs.List.{list_all}
use Rattle.std.specs.Option.{option_or, option_map, unwrap_or}
use Rattle.std.proofs.lemmas.Bool.{false≢true}
use Rattle.std.proofs.lemmas.Bool.Decides.{nat_tests}
use Rattle.cg_base.specs.declared.form.Form.{Form, out-Form}
use Rattle.cg_base.specs.declared.form.Form.TheOpen.{Number, Symbol, Str, Flag, Items}
use Rattle.cg_base.specs.declared.mode.Mode.{Mode}
use Rattle.cg_base.specs.Parts.{Layer, Headed, headed}
use Rattle.cg_base.specs.Texts.{same_text}
use Rattle.cg_model.specs.Operators.{unary_ops, binary_ops, ternary_ops}
use Rattle.cg_model_faults.specs.declared.fault.Said.TheVariants as said
use Rattle.cg_model.specs.declared.machine.Machine.{Machine}
use Rattle.cg_model.specs.declared.rtl.Op.{Op}
use Rattle.cg_model.specs.declared.rtl.Op.TheVariants as op
use Rattle.cg_model.specs.declared.rtl.Rtl.{Rtl, fold-roll-Rtl}
use Rattle.cg_model_faults.specs.E306.{Within, count_of, is_below, unnamed_at, declared_by, each_within, unnamed_step, unnamed_in, unnamed}
use Rattle.cg_model_faults.specs.Finding.{AtNode, at_place, where_so}
use Rattle.cg_rtl_resolve.specs.Names.{found_under, place_of, number_named, last_place, node, leaf, nothing, numbered, given_where, rule_name, named_by_rule, is_own, is_pure, field_named, bare_field, enum_value, constant_named, operand_or_constant, named_beyond, symbol_named, symbol_rtl, number_first, name_first, text_first, elements_first, elements_or_none, arm, arm_at, value_in, value_of, choice_at, declare_of, local_name, operand_index, readings, function_rtl, known_rtl, call_rtl, layer_rtl, rtl_to, rtl_of, mode_first, function_of}
use Rattle.cg_rtl_resolve.specs.declared.function.Function.{Function}
use Rattle.cg_rtl_resolve.specs.declared.function.Function.TheVariants as function
use Rattle.cg_rtl_resolve.specs.declared.scope.Rule.{Rule}
use Rattle.cg_rtl_resolve.specs.declared.scope.Rule.TheVariants as rule
use Rattle.cg_rtl_resolve.specs.declared.scope.Scope.{Scope}
use Rattle.cg_rtl.specs.Shapes.{behind_mode, is_else, deepest}
use Rattle.cg_rtl_uses.specs.Uses.{inside, at as placed_at, each_at, arm_use, arm_uses_of, value_use, choice_by, choice_uses_of, local_use, register_use, function_uses, first_item, known_uses, call_uses, layer_uses, uses_to, uses_of}
use Rattle.cg_rtl_uses.specs.declared.uses.PlacedUse.{PlacedUse}
use Rattle.cg_rtl_laws.specs.Covered.{AreSilent}
use Rattle.cg_rtl_laws.specs.Numbered.{HasEach, no_text_at, AreNumbered}
use Rattle.cg_rtl_laws.proofs.Covered.{length_mapped}

-- Places of names are below their count.
abbrev Below : ℕ → Option ℤ → Type 0
Below count None = Unit {0}
Below count (Some n) = is_below (Some count) n ≡ true

below_next : (n count : ℕ) → nat_lt n count ≡ true → nat_lt (suc n) (suc count) ≡ true
below_next n count h = grind (arith, nat_tests)

none_below : (count : ℕ) → nat_lt 0 (suc count) ≡ true
none_below count = let first : 0 < suc count = omega arith in grind (arith, nat_tests)

abbrev BelowPlace : ℕ → Option ℕ → Type 0
BelowPlace count None = Unit {0}
BelowPlace count (Some n) = nat_lt n count ≡ true

next_place : (count : ℕ) (o : Option ℕ) → BelowPlace count o → BelowPlace (suc count) (option_map suc o)
next_place count None h = tt
next_place count (Some n) h = below_next n count h

place_below : (name : List ℕ) (xs : List (List ℕ)) → BelowPlace (length xs) (place_of name xs)
place_below name [] = tt
place_below name (x ∷ xs) = by (same_text x name) (place_below name xs) where
  by : (b : Bool) → BelowPlace (length xs) (place_of name xs) → BelowPlace (suc (length xs)) (if b then Some 0 else option_map suc (place_of name xs))
  by true rest = none_below (length xs)
  by false rest = next_place (length xs) (place_of name xs) rest

last_below : (name : List ℕ) (xs : List (List ℕ)) → BelowPlace (length xs) (last_place name xs)
last_below name [] = tt
last_below name (x ∷ xs) = by (option_map suc (last_place name xs)) (same_text x name) (next_place (length xs) (last_place name xs) (last_below name xs)) where
  by : (o : Option ℕ) (b : Bool) → BelowPlace (suc (length xs)) o → BelowPlace (suc (length xs)) (option_or o (if b then Some 0 else None))
  by (Some n) b h = h
  by None true h = none_below (length xs)
  by None false h = tt

as_number : (count : ℕ) (o : Option ℕ) → BelowPlace count o → Below count (option_map pos o)
as_number count None h = tt
as_number count (Some n) h = h

number_below : (name : List ℕ) (xs : List (List ℕ)) → Below (length xs) (number_named name xs)
unfolding number_named
number_below name xs = as_number (length xs) (place_of name xs) (place_below name xs)

-- Operations that functions have, with their numbers.
abbrev is_known : Op → ℕ → Bool
is_known op.Unary n = nat_lt n (length unary_ops)
is_known op.Binary n = nat_lt n (length binary_ops)
is_known op.Ternary n = nat_lt n (length ternary_ops)
is_known op.AndIf n = true
is_known op.OrIf n = true
is_known op.Ext n = true
is_known op.Zext n = true
is_known op.Trunc n = true
is_known op.If n = true
is_known op.Set n = true
is_known op.Mem n = true
is_known op.Nop n = true
is_known op.Parallel n = true
is_known op.Halt n = true
is_known _ n = false

abbrev is_register : Op → Bool
is_register op.Reg = true
is_register op.RawReg = true
is_register _ = false

abbrev knows : Function → Bool
knows (function.Operation o n) = is_known o n
knows (function.Behind o) = is_known o 0
knows (function.Register o) = is_register o
knows _ = true

abbrev reads_known : List ℕ × Function → Bool
reads_known x = knows x.1

abbrev known_where : Option Function → Bool
known_where None = true
known_where (Some f) = knows f

first_of : (a b : Bool) → (a && b) ≡ true → a ≡ true
first_of true b e = refl
first_of false b e = absurd (false≢true e)

rest_of : (a b : Bool) → (a && b) ≡ true → b ≡ true
rest_of true b e = e
rest_of false b e = absurd (false≢true e)

found_known : (name : List ℕ) (xs : List (List ℕ × Function)) → list_all reads_known xs ≡ true → known_where (found_under name xs) ≡ true
found_known name [] all = refl
found_known name (x ∷ xs) all = by (same_text x.0 name) (found_known name xs (rest_of (reads_known x) (list_all reads_known xs) all)) where
  by : (b : Bool) → known_where (found_under name xs) ≡ true → known_where (if b then Some x.1 else found_under name xs) ≡ true
  by true rest = first_of (reads_known x) (list_all reads_known xs) all
  by false rest = rest

all_known : list_all reads_known readings ≡ true
unfolding readings
all_known = refl

read_known : (name : List ℕ) → known_where (function_of name) ≡ true
unfolding function_of
read_known name = found_known name readings all_known

known_declares : (o : Op) (n : ℕ) → is_known o n ≡ true → declared_by o (pos n) ≡ 0
unfolding declared_by
known_declares op.Sequence n h = absurd (false≢true h)
known_declares _ n h = refl

pub length_both : {A : Type 0} (xs ys : List A) → length (xs ++ ys) ≡ length xs + length ys
length_both [] ys = let plain : length ys ≡ 0 + length ys = omega arith in plain
length_both (x ∷ xs) ys = let rest : length (xs ++ ys) ≡ length xs + length ys = length_both xs ys in omega (arith, rest)

length_joined : {A B : Type 0} (g : A → B) (xs : List A) (ys : List B) → length (ys ++ map g xs) ≡ length ys + length xs
length_joined g xs ys = length_both ys (map g xs) ∙ ap (λ n. length ys + n) (length_mapped g xs)

none_more : (n k : ℕ) → k ≡ 0 → n + k ≡ n
none_more n k h = omega (arith, h)

module _ (m : Machine) where
  -- All numbers of these expressions name something, inside of so many locals.
  abbrev pub AllNamed : ℕ → List Rtl → Type 0
  AllNamed locals [] = Unit {0}
  AllNamed locals (x ∷ xs) = (unnamed_in m x locals ≡ []) × AllNamed locals xs

  named_append : (locals : ℕ) (xs ys : List Rtl) → AllNamed locals xs → AllNamed locals ys → AllNamed locals (xs ++ ys)
  named_append locals [] ys h g = g
  named_append locals (x ∷ xs) ys h g = (h.0, named_append locals xs ys h.1 g)

  none_within : (locals : ℕ) (xs : List Rtl) → AllNamed locals xs → each_within locals (map (unnamed_in m) xs) ≡ []
  none_within locals [] h = refl
  none_within locals (x ∷ xs) h = ap (λ fs. fs ++ each_within locals (map (unnamed_in m) xs)) h.0 ∙ none_within locals xs h.1

  named_node : (locals within : ℕ) (o : Op) (mode : Option Mode) (n : ℤ) (items : List Rtl) → is_below (count_of m locals o) n ≡ true → locals + declared_by o n ≡ within → AllNamed within items → unnamed_in m (node o mode n items) locals ≡ []
  unfolding unnamed_in
  named_node locals within o mode n items h is g =
      ap (λ (w : Within). w locals) (fold-roll-Rtl Within (unnamed_step m) (record { op = o; mode = mode; number = n; items = items }))
      ∙ ap (λ b. where_so (not b) (at_place 306 0 (said.Number n) said.Nothing) ++ each_within (locals + declared_by o n) (map (unnamed_in m) items)) h
      ∙ ap (λ k. each_within k (map (unnamed_in m) items)) is ∙ none_within within items g

  named_leaf : (locals : ℕ) (o : Op) (mode : Option Mode) (n : ℤ) → is_below (count_of m locals o) n ≡ true → unnamed_in m (leaf o mode n) locals ≡ []
  named_leaf locals o mode n h = named_node locals (locals + declared_by o n) o mode n [] h refl tt

  -- where nothing of an operation is counted
  uncounted : (locals : ℕ) (o : Op) (n : ℤ) → count_of m locals o ≡ None → is_below (count_of m locals o) n ≡ true
  uncounted locals o n h = ap (λ c. is_below c n) h

  pub nothing_named : (locals : ℕ) → unnamed_in m nothing locals ≡ []
  unfolding count_of
  nothing_named locals = named_leaf locals op.Nop None (pos 0) (uncounted locals op.Nop (pos 0) refl)

  number_leaf : (locals : ℕ) (mode : Option Mode) (n : ℤ) → unnamed_in m (leaf op.Number mode n) locals ≡ []
  unfolding count_of
  number_leaf locals mode n = named_leaf locals op.Number mode n (uncounted locals op.Number n refl)

  declare_leaf : (locals : ℕ) (mode : Option Mode) → unnamed_in m (leaf op.Declare mode (pos 0)) locals ≡ []
  unfolding count_of
  declare_leaf locals mode = named_leaf locals op.Declare mode (pos 0) (uncounted locals op.Declare (pos 0) refl)

  known_below : (locals : ℕ) (o : Op) (n : ℕ) → is_known o n ≡ true → is_below (count_of m locals o) (pos n) ≡ true
  unfolding count_of
  known_below locals op.Unary n h = h
  known_below locals op.Binary n h = h
  known_below locals op.Ternary n h = h
  known_below locals op.AndIf n h = refl
  known_below locals op.OrIf n h = refl
  known_below locals op.Ext n h = refl
  known_below locals op.Zext n h = refl
  known_below locals op.Trunc n h = refl
  known_below locals op.If n h = refl
  known_below locals op.Set n h = refl
  known_below locals op.Mem n h = refl
  known_below locals op.Nop n h = refl
  known_below locals op.Parallel n h = refl
  known_below locals op.Halt n h = refl
  known_below locals _ n h = absurd (false≢true h)

  pub known_node : (locals : ℕ) (o : Op) (mode : Option Mode) (n : ℕ) (items : List Rtl) → is_known o n ≡ true → AllNamed locals items → unnamed_in m (node o mode (pos n) items) locals ≡ []
  known_node locals o mode n items h g = named_node locals locals o mode (pos n) items (known_below locals o n h) (none_more locals (declared_by o (pos n)) (known_declares o n h)) g

  -- Names, inside of so many locals.
  abbrev Named : ℕ → Option Rtl → Type 0
  Named locals None = Unit {0}
  Named locals (Some r) = unnamed_in m r locals ≡ []

  or_nothing : (locals : ℕ) (o : Option Rtl) → Named locals o → unnamed_in m (unwrap_or o nothing) locals ≡ []
  or_nothing locals None h = nothing_named locals
  or_nothing locals (Some r) h = h

  either : (locals : ℕ) (a b : Option Rtl) → Named locals a → Named locals b → Named locals (option_or a b)
  either locals None b h g = g
  either locals (Some r) b h g = h

  where_given : (locals : ℕ) (b : Bool) (r : Rtl) → unnamed_in m r locals ≡ [] → Named locals (given_where b r)
  where_given locals true r h = h
  where_given locals false r h = tt

  first_or : (locals : ℕ) (b : Bool) (r : Rtl) (other : Option Rtl) → unnamed_in m r locals ≡ [] → Named locals other → Named locals (if b then Some r else other)
  first_or locals true r other h g = h
  first_or locals false r other h g = g

  only_if : (locals : ℕ) (b : Bool) (o : Option Rtl) → Named locals o → Named locals (if b then o else None)
  only_if locals true o h = h
  only_if locals false o h = tt

  below_named : (locals count : ℕ) (o : Op) (mode : Option Mode) (n : Option ℤ) → count_of m locals o ≡ Some count → Below count n → Named locals (numbered o mode n)
  below_named locals count o mode None is h = tt
  below_named locals count o mode (Some n) is h = named_leaf locals o mode n (ap (λ c. is_below c n) is ∙ h)

  value_leaf : (locals : ℕ) (own : Option Mode) → unnamed_in m (leaf op.Value own (pos 0)) locals ≡ []
  unfolding count_of
  value_leaf locals own = named_leaf locals op.Value own (pos 0) (uncounted locals op.Value (pos 0) refl)

  index_leaf : (locals : ℕ) → unnamed_in m (leaf op.Index None (pos 0)) locals ≡ []
  unfolding count_of
  index_leaf locals = named_leaf locals op.Index None (pos 0) (uncounted locals op.Index (pos 0) refl)

  new_leaf : (locals : ℕ) (own : Option Mode) → unnamed_in m (leaf op.NewVal own (pos 0)) locals ≡ []
  unfolding count_of
  new_leaf locals own = named_leaf locals op.NewVal own (pos 0) (uncounted locals op.NewVal (pos 0) refl)

  pc_leaf : (locals : ℕ) → unnamed_in m (leaf op.Pc None (pos 0)) locals ≡ []
  unfolding count_of
  pc_leaf locals = named_leaf locals op.Pc None (pos 0) (uncounted locals op.Pc (pos 0) refl)

  rule_named : (locals : ℕ) (r : Rule) (own : Option Mode) (name : List ℕ) → Named locals (rule_name r own name)
  rule_named locals rule.Get own name = where_given locals (same_text name (codes "index")) (leaf op.Index None (pos 0)) (index_leaf locals)
  rule_named locals rule.Set own name =
      first_or locals (same_text name (codes "index")) (leaf op.Index None (pos 0)) (given_where (same_text name (codes "newval")) (leaf op.NewVal own (pos 0))) (index_leaf locals)
      (where_given locals (same_text name (codes "newval")) (leaf op.NewVal own (pos 0)) (new_leaf locals own))
  rule_named locals rule.Encode own name = where_given locals (same_text name (codes "value")) (leaf op.Value own (pos 0)) (value_leaf locals own)
  rule_named locals rule.Decode own name = where_given locals (same_text name (codes "value")) (leaf op.Value own (pos 0)) (value_leaf locals own)
  rule_named locals _ own name = tt

  constant_in : (locals : ℕ) (n : Option ℤ) → Named locals (numbered op.Number None n)
  constant_in locals None = tt
  constant_in locals (Some n) = number_leaf locals None n

  module _ (s : Scope) (each : HasEach s m) where
    -- names of a kind
    of_kind : (locals : ℕ) (o : Op) (mode : Option Mode) (name : List ℕ) (names : List (List ℕ)) (count : ℕ) → length names ≡ count → count_of m locals o ≡ Some count → Named locals (numbered o mode (number_named name names))
    of_kind locals o mode name names count same is = below_named locals count o mode (number_named name names) is (subst (λ k. Below k (number_named name names)) same (number_below name names))

    field_in : (locals : ℕ) (mode : Option Mode) (name : List ℕ) → Named locals (field_named s mode name)
    unfolding count_of
    field_in locals mode name =
        first_or locals (is_own s.rule name) (leaf op.Value s.own (pos 0)) (option_or (numbered op.FieldRef mode (number_named name s.fields)) (numbered op.MultiRef mode (number_named name s.multis))) (value_leaf locals s.own)
        (either locals (numbered op.FieldRef mode (number_named name s.fields)) (numbered op.MultiRef mode (number_named name s.multis))
        (of_kind locals op.FieldRef mode name s.fields (length m.fields) each.fields refl) (of_kind locals op.MultiRef mode name s.multis (length m.multis) each.multis refl))

    operand_in : (locals : ℕ) (name : List ℕ) → Named locals (numbered op.OperandRef None (number_named name s.operands))
    unfolding count_of
    operand_in locals name = of_kind locals op.OperandRef None name s.operands (length m.operands) each.operands refl

    index_in : (locals : ℕ) (mode : Option Mode) (name : List ℕ) → Named locals (operand_index s mode name)
    unfolding count_of
    index_in locals mode name = of_kind locals op.IndexOf mode name s.operands (length m.operands) each.operands refl

    beyond_in : (locals : ℕ) (name : List ℕ) → Named locals (named_beyond s name)
    unfolding named_beyond
    beyond_in locals name =
        either locals (named_by_rule s name) (option_or (bare_field s name) (operand_or_constant s name))
        (first_or locals (same_text name (codes "pc")) (leaf op.Pc None (pos 0)) (rule_name s.rule s.own name) (pc_leaf locals) (rule_named locals s.rule s.own name))
        (either locals (bare_field s name) (operand_or_constant s name) (only_if locals (is_pure s.rule) (field_named s None name) (field_in locals None name))
        (either locals (numbered op.OperandRef None (number_named name s.operands)) (constant_named s name) (operand_in locals name) (constant_in locals (enum_value name s.enums))))

    local_in : (l : List (List ℕ)) (name : List ℕ) → Named (length l) (numbered op.Local None (option_map pos (last_place name l)))
    unfolding count_of
    local_in l name = below_named (length l) (length l) op.Local None (option_map pos (last_place name l)) refl (as_number (length l) (last_place name l) (last_below name l))

    symbol_in : (l : List (List ℕ)) (name : List ℕ) → unnamed_in m (symbol_rtl s l name) (length l) ≡ []
    unfolding symbol_rtl
    symbol_in l name =
        or_nothing (length l) (symbol_named s l name)
        (either (length l) (numbered op.Local None (option_map pos (last_place name l))) (named_beyond s name) (local_in l name) (beyond_in (length l) name))

    value_in_layer : (locals : ℕ) (x : Layer) → Named locals (value_in s x)
    value_in_layer locals (Number n) = number_leaf locals None n
    value_in_layer locals (Symbol name) = constant_in locals (enum_value name s.enums)
    value_in_layer locals (Str text) = nothing_named locals
    value_in_layer locals (Flag b) = nothing_named locals
    value_in_layer locals (Items fs) = nothing_named locals

    values_in : (locals : ℕ) (fs : List Form) → AllNamed locals (map (value_of s) fs)
    values_in locals [] = tt
    values_in locals (f ∷ fs) = (or_nothing locals (value_in s (out-Form f)) (value_in_layer locals (out-Form f)), values_in locals fs)

    locals_in : (locals : ℕ) (fs : List Form) → AllNamed locals (map (declare_of s.word_bits) fs)
    locals_in locals [] = tt
    locals_in locals (f ∷ fs) = (declare_leaf locals (mode_first s.word_bits (elements_or_none f)), locals_in locals fs)

    -- what stands at several places
    abbrev Quiet : List PlacedUse → Type 0
    Quiet us = AreSilent (no_text_at m) us

    quiet_both : (us vs : List PlacedUse) → Quiet (us ++ vs) → Quiet us × Quiet vs
    quiet_both [] vs h = (tt, h)
    quiet_both (u ∷ us) vs h = let rest : Quiet us × Quiet vs = quiet_both us vs h.1 in ((h.0, rest.0), rest.1)

    quiet_inside : (k : ℕ) (us : List PlacedUse) → Quiet (placed_at k us) → Quiet us
    quiet_inside k [] h = tt
    quiet_inside k (u ∷ us) h = (h.0, quiet_inside k us h.1)

    module _ (locals : ℕ) (uses : Form → List PlacedUse) (rtl : Form → Rtl) (named : (f : Form) → Quiet (uses f) → unnamed_in m (rtl f) locals ≡ []) where
      named_each : (k : ℕ) (fs : List Form) → Quiet (each_at uses k fs) → AllNamed locals (map rtl fs)
      named_each k [] h = tt
      named_each k (f ∷ fs) h =
          let both : Quiet (placed_at k (uses f)) × Quiet (each_at uses (suc k) fs) = quiet_both (placed_at k (uses f)) (each_at uses (suc k) fs) h in
          (named f (quiet_inside k (uses f) both.0), named_each (suc k) fs both.1)

    module _ (depth : ℕ) (named : (l : List (List ℕ)) (f : Form) → Quiet (uses_to depth s l f) → unnamed_in m (rtl_to depth s l f) (length l) ≡ []) where
      all : (l : List (List ℕ)) (k : ℕ) (fs : List Form) → Quiet (each_at (uses_to depth s l) k fs) → AllNamed (length l) (map (rtl_to depth s l) fs)
      all l k fs h = named_each (length l) (uses_to depth s l) (rtl_to depth s l) (named l) k fs h

      plain_node : (locals : ℕ) (o : Op) (mode : Option Mode) (n : ℤ) (items : List Rtl) → count_of m locals o ≡ None → declared_by o n ≡ 0 → AllNamed locals items → unnamed_in m (node o mode n items) locals ≡ []
      plain_node locals o mode n items is without g = named_node locals locals o mode n items (uncounted locals o n is) (none_more locals (declared_by o n) without) g

      arm_node : (locals : ℕ) (n : ℤ) (items : List Rtl) → AllNamed locals items → unnamed_in m (node op.Arm None n items) locals ≡ []
      unfolding count_of declared_by
      arm_node locals n items g = plain_node locals op.Arm None n items refl refl g

      arm_named : (l : List (List ℕ)) (f : Form) → Quiet (arm_uses_of (uses_to depth s) l f) → unnamed_in m (arm_at (rtl_to depth s) l f) (length l) ≡ []
      arm_named l f h = by (is_else (elements_or_none f)) h where
        fs : List Form
        fs = elements_or_none f

        by : (b : Bool) → Quiet (if b then arm_use 0 ∷ each_at (uses_to depth s l) 1 (drop 1 fs) else arm_use 1 ∷ each_at (uses_to depth s l) 0 fs)
            → unnamed_in m (if b then arm [] (map (rtl_to depth s l) (drop 1 fs)) else node op.Arm None (pos 1) (map (rtl_to depth s l) fs)) (length l) ≡ []
        by true h = arm_node (length l) (pos 0) (map (rtl_to depth s l) (drop 1 fs)) (all l 1 (drop 1 fs) h.1)
        by false h = arm_node (length l) (pos 1) (map (rtl_to depth s l) fs) (all l 0 fs h.1)

      choice_named : (l : List (List ℕ)) (f : Form) → Quiet (choice_uses_of s (uses_to depth s) l f) → unnamed_in m (choice_at s (rtl_to depth s) l f) (length l) ≡ []
      choice_named l f h = by (is_else (elements_or_none f)) h where
        fs : List Form
        fs = elements_or_none f

        values : List Form
        values = elements_first fs

        by : (b : Bool) → Quiet (if b then arm_use 0 ∷ each_at (uses_to depth s l) 1 (drop 1 fs) else choice_by s (uses_to depth s) l values (drop 1 fs))
            → unnamed_in m (if b then arm [] (map (rtl_to depth s l) (drop 1 fs)) else arm (map (value_of s) values) (map (rtl_to depth s l) (drop 1 fs))) (length l) ≡ []
        by true h = arm_node (length l) (pos 0) (map (rtl_to depth s l) (drop 1 fs)) (all l 1 (drop 1 fs) h.1)
        by false h =
            let both : Quiet (placed_at 0 (each_at (value_use s) 0 values)) × Quiet (each_at (uses_to depth s l) 1 (drop 1 fs)) = quiet_both (placed_at 0 (each_at (value_use s) 0 values)) (each_at (uses_to depth s l) 1 (drop 1 fs)) h.1 in
            arm_node (length l) (pos (length (map (value_of s) values))) (map (value_of s) values ++ map (rtl_to depth s l) (drop 1 fs))
            (named_append (length l) (map (value_of s) values) (map (rtl_to depth s l) (drop 1 fs)) (values_in (length l) values) (all l 1 (drop 1 fs) both.1))

      register_below : (locals : ℕ) (o : Op) (n : ℤ) → is_register o ≡ true → Below (length m.hardware) (Some n) → is_below (count_of m locals o) n ≡ true
      unfolding count_of
      register_below locals op.Reg n h g = g
      register_below locals op.RawReg n h g = g
      register_below locals _ n h g = absurd (false≢true h)

      register_declares : (o : Op) (n : ℤ) → is_register o ≡ true → declared_by o n ≡ 0
      unfolding declared_by
      register_declares op.Reg n h = refl
      register_declares op.RawReg n h = refl
      register_declares _ n h = absurd (false≢true h)

      register_named_in : (l : List (List ℕ)) (k : ℕ) (o : Op) (mode : Option Mode) (name : List ℕ) (n : Option ℤ) (fs : List Form) → is_register o ≡ true → Below (length m.hardware) n → Quiet (register_use k o mode name n ∷ each_at (uses_to depth s l) (k + 1) fs)
          → unnamed_in m (unwrap_or (elim n [ None ↦ None | Some i ↦ Some (node o mode i (map (rtl_to depth s l) fs)) ]) nothing) (length l) ≡ []
      register_named_in l k o mode name None fs reg below h = nothing_named (length l)
      register_named_in l k o mode name (Some i) fs reg below h =
          named_node (length l) (length l) o mode i (map (rtl_to depth s l) fs) (register_below (length l) o i reg below) (none_more (length l) (declared_by o i) (register_declares o i reg)) (all l (k + 1) fs h.1)

      -- an error, whose text is one of the machine's, or the first
      some_text : (count : ℕ) → (where_so (count == 0) (at_place 306 0 said.Own said.Nothing)) ≡ [] → nat_lt 0 count ≡ true
      some_text zero h = absurd cc
      some_text (suc n) h = none_below n

      text_or_first : (count : ℕ) (o : Option ℤ) → Below count o → nat_lt 0 count ≡ true → is_below (Some count) (unwrap_or o (pos 0)) ≡ true
      text_or_first count None h first = first
      text_or_first count (Some n) h first = h

      error_leaf : (locals : ℕ) (mode : Option Mode) (text : List ℕ) → no_text_at m op.Error mode (pos 0) ≡ [] → unnamed_in m (leaf op.Error mode (unwrap_or (number_named text s.texts) (pos 0))) locals ≡ []
      unfolding no_text_at count_of
      error_leaf locals mode text h =
          named_leaf locals op.Error mode (unwrap_or (number_named text s.texts) (pos 0))
          (text_or_first (length m.texts) (number_named text s.texts) (subst (λ k. Below k (number_named text s.texts)) each.texts (number_below text s.texts)) (some_text (length m.texts) h))

      sequence_node : (l : List (List ℕ)) (mode : Option Mode) (locals : List Form) (items : List Rtl) → AllNamed (length (l ++ map local_name locals)) items → unnamed_in m (node op.Sequence mode (pos (length locals)) items) (length l) ≡ []
      unfolding count_of declared_by
      sequence_node l mode locals items g =
          named_node (length l) (length (l ++ map local_name locals)) op.Sequence mode (pos (length locals)) items (uncounted (length l) op.Sequence (pos (length locals)) refl) (sym (length_joined local_name locals l)) g

      function_named : (l : List (List ℕ)) (k : ℕ) (mode : Option Mode) (fs : List Form) (f : Function) → knows f ≡ true → Quiet (function_uses s (uses_to depth s) l k mode fs f) → unnamed_in m (function_rtl s (rtl_to depth s) l mode fs f) (length l) ≡ []
      unfolding count_of declared_by
      function_named l k mode fs (function.Operation o n) g h = known_node (length l) o mode n (map (rtl_to depth s l) fs) g (all l k fs h.1)
      function_named l k mode fs (function.Behind o) g h = known_node (length l) o mode 0 (map (rtl_to depth s l) (drop 1 fs)) g (all l (k + 1) (drop 1 fs) h.1)
      function_named l k mode fs function.Constant g h = number_leaf (length l) mode (number_first fs)
      function_named l k mode fs function.Subword g h = plain_node (length l) op.Subword mode (number_first (drop 1 fs)) (map (rtl_to depth s l) (take 1 fs)) refl refl (all l k (take 1 fs) h.1)
      function_named l k mode fs function.Join g h =
          plain_node (length l) op.Join mode (pos 0) (leaf op.Declare (mode_first s.word_bits fs) (pos 0) ∷ map (rtl_to depth s l) (drop 1 fs)) refl refl (declare_leaf (length l) (mode_first s.word_bits fs), all l (k + 1) (drop 1 fs) h.1.1)
      function_named l k mode fs function.Cond g h = plain_node (length l) op.Cond mode (pos 0) (map (arm_at (rtl_to depth s) l) fs) refl refl (named_each (length l) (arm_uses_of (uses_to depth s) l) (arm_at (rtl_to depth s) l) (arm_named l) k fs h.1)
      function_named l k mode fs function.Case g h =
          let both : Quiet (each_at (uses_to depth s l) k (take 1 fs)) × Quiet (each_at (choice_uses_of s (uses_to depth s) l) (k + 1) (drop 1 fs)) =
          quiet_both (each_at (uses_to depth s l) k (take 1 fs)) (each_at (choice_uses_of s (uses_to depth s) l) (k + 1) (drop 1 fs)) h.1 in
          plain_node (length l) op.Case mode (pos 0) (map (rtl_to depth s l) (take 1 fs) ++ map (choice_at s (rtl_to depth s) l) (drop 1 fs)) refl refl
          (named_append (length l) (map (rtl_to depth s l) (take 1 fs)) (map (choice_at s (rtl_to depth s) l) (drop 1 fs)) (all l k (take 1 fs) both.0)
          (named_each (length l) (choice_uses_of s (uses_to depth s) l) (choice_at s (rtl_to depth s) l) (choice_named l) (k + 1) (drop 1 fs) both.1))
      function_named l k mode fs function.Sequence g h =
          let locals : List Form = elements_first fs in
          let among : List (List ℕ) = l ++ map local_name locals in
          let both : Quiet (placed_at k (each_at (local_use s.word_bits) 0 locals)) × Quiet (each_at (uses_to depth s among) (k + 1) (drop 1 fs)) =
          quiet_both (placed_at k (each_at (local_use s.word_bits) 0 locals)) (each_at (uses_to depth s among) (k + 1) (drop 1 fs)) h.1 in
          sequence_node l mode locals (map (declare_of s.word_bits) locals ++ map (rtl_to depth s among) (drop 1 fs))
          (named_append (length among) (map (declare_of s.word_bits) locals) (map (rtl_to depth s among) (drop 1 fs)) (locals_in (length among) locals) (all among (k + 1) (drop 1 fs) both.1))
      function_named l k mode fs function.Delay g h = plain_node (length l) op.Delay mode (number_first fs) (map (rtl_to depth s l) (drop 1 fs)) refl refl (all l (k + 1) (drop 1 fs) h.1)
      function_named l k mode fs function.Error g h = error_leaf (length l) mode (text_first fs) h.0
      function_named l k mode fs function.FieldNamed g h = or_nothing (length l) (field_named s mode (name_first fs)) (field_in (length l) mode (name_first fs))
      function_named l k mode fs (function.Register o) g h =
          register_named_in l k o mode (name_first fs) (number_named (name_first fs) s.hardware) (drop 1 fs) g (subst (λ c. Below c (number_named (name_first fs) s.hardware)) each.hardware (number_below (name_first fs) s.hardware)) h
      function_named l k mode fs function.IndexOf g h = or_nothing (length l) (operand_index s mode (name_first fs)) (index_in (length l) mode (name_first fs))

      known_named : (l : List (List ℕ)) (behind : List Form) (o : Option Function) → known_where o ≡ true → Quiet (known_uses s (uses_to depth s) l behind o) → unnamed_in m (known_rtl s (rtl_to depth s) l behind o) (length l) ≡ []
      known_named l behind None g h = nothing_named (length l)
      known_named l behind (Some f) g h = function_named l (first_item behind) (mode_first s.word_bits behind) (behind_mode behind) f g h

      call_named : (l : List (List ℕ)) (o : Option Headed) → Quiet (call_uses s (uses_to depth s) l o) → unnamed_in m (call_rtl s (rtl_to depth s) l o) (length l) ≡ []
      call_named l None h = nothing_named (length l)
      call_named l (Some x) h = known_named l x.1 (function_of x.0) (read_known x.0) h

      layer_named : (l : List (List ℕ)) (o : Option Headed) (x : Layer) → Quiet (layer_uses s l (call_uses s (uses_to depth s) l o) x) → unnamed_in m (layer_rtl s l (call_rtl s (rtl_to depth s) l o) x) (length l) ≡ []
      layer_named l o (Number n) h = number_leaf (length l) None n
      layer_named l o (Symbol name) h = symbol_in l name
      layer_named l o (Str text) h = nothing_named (length l)
      layer_named l o (Flag b) h = nothing_named (length l)
      layer_named l o (Items fs) h = call_named l o h

    named_to : (depth : ℕ) (l : List (List ℕ)) (f : Form) → Quiet (uses_to depth s l f) → unnamed_in m (rtl_to depth s l f) (length l) ≡ []
    named_to zero l f h = nothing_named (length l)
    named_to (suc depth) l f h = layer_named depth (named_to depth) l (headed f) (out-Form f) h

numbered_by : (s : Scope) (m : Machine) → HasEach s m → (f : Form) → AreSilent (no_text_at m) (uses_of s f) → unnamed m (rtl_of s f) ≡ []
unfolding uses_of rtl_of
numbered_by s m each f h = named_to m s each deepest [] f h

pub numbered_law : (s : Scope) (m : Machine) → AreNumbered s m
numbered_law s m = record { numbered = λ each f h. numbered_by s m each f h }

pub ruleset numbers = (numbered_law)
