-- An expression without a fault in which there is no text has no error in it.
use Rattle.std.proofs.Common.{◌≡◌, ◌∙◌, ℕ, zero, suc, ◌+◌, ◌<◌, ◌≤◌, max, Bool, true, false, not, ◌&&◌, ◌||◌, ◌==◌, nat_lt, nat_le, if◌then◌else◌, List, [], ◌∷◌, ◌++◌, map, length, take, drop, ℤ, pos, Option, Some, None, is_some, refl, sym, ap, subst, arith}
use Rattle.std.specs.Prelude.{codes}
use Rattle.std.specs.List.{list_all, flat_map}
use Rattle.std.specs.Option.{option_or, option_map, unwrap_or}
use Rattle.std.specs.Cmp.Lexicographic.{bytes_decides}
use Rattle.std.proofs.Math.Nat.{le-max_left, le-max_right}
use Rattle.std.proofs.lemmas.Bool.{false≢true}
use Rattle.std.proofs.lemmas.Bool.Decides.{nat_tests}
use Rattle.cg_base.specs.declared.form.Form.{Form, out-Form}
use Rattle.cg_base.specs.declared.form.Form.TheOpen.{Number, Symbol, Str, Flag, Items}
use Rattle.cg_base.specs.declared.mode.Mode.{Mode}
use Rattle.cg_base.specs.Parts.{◌>>=◌, Layer, Headed, headed, headed_by, headed_in, symbol_of, string_of, elements_of}
use Rattle.cg_base.specs.Refusing.{first}
use Rattle.cg_base.specs.Texts.{same_text}
use Rattle.cg_model.specs.Formed.{greatest, depth_step, depth}
use Rattle.cg_model_faults.specs.declared.fault.Said.TheVariants as said
use Rattle.cg_model.specs.declared.machine.Machine.{Machine}
use Rattle.cg_model.specs.declared.rtl.Op.{Op}
use Rattle.cg_model.specs.declared.rtl.Op.TheVariants as op
use Rattle.cg_model.specs.declared.rtl.Rtl.{Rtl, Rtl-F, out-Rtl, fold_out-Rtl, fold-roll-Rtl, out-roll-Rtl}
use Rattle.cg_model_faults.specs.Finding.{AtNode, at_place, where_so}
use Rattle.cg_rtl_resolve.specs.Names.{readings, found_under, node, leaf, nothing, numbered, number_named, given_where, rule_name, named_by_rule, is_own, is_pure, field_named, bare_field, enum_value, constant_named, last_place, value_in, value_named, value_of, name_first, number_first, elements_first, elements_or_none, arm, arm_at, choice_at, declare_of, local_name, register_named, operand_index, sequence_of, function_rtl, known_rtl, call_rtl, layer_rtl, rtl_to, rtl_of, mode_first, function_of}
use Rattle.cg_rtl_resolve.specs.declared.function.Function.{Function}
use Rattle.cg_rtl_resolve.specs.declared.function.Function.TheVariants as function
use Rattle.cg_rtl_resolve.specs.declared.scope.Rule.{Rule}
use Rattle.cg_rtl_resolve.specs.declared.scope.Rule.TheVariants as rule
use Rattle.cg_rtl_resolve.specs.declared.scope.Scope.{Scope}
use Rattle.cg_rtl.specs.Functions.{Shape, operands, items, with_mode, shape_of, item_at, is_within, allows}
use Rattle.cg_rtl.specs.Shapes.{Flawed, wants, has_values, is_else, headed_faults, may_be_else, is_choice, arm_faults, listed, is_plain, item_faults, items_faults, behind_mode, has_mode, shaped_faults, calls_another, known_faults, call_faults, layer_faults, faults_to, deepest, faults_in}
use Rattle.cg_rtl.specs.declared.faults.Flaw.TheVariants.{LeftOut}
use Rattle.cg_rtl.specs.declared.functions.Item.{Item}
use Rattle.cg_rtl.specs.declared.functions.Item.TheVariants as item
use Rattle.cg_rtl_laws.proofs.Arms.{append_none, wants_none}
use Rattle.cg_rtl_laws.specs.Named.{is_defined, is_defined_at}
use Rattle.cg_rtl_laws.proofs.Nodes.{first_true, second_true}
use Rattle.cg_rtl_laws.proofs.Functions.{Agrees, operation_shape, behind_shape, register_shape, shape_for, read_agrees}
use Rattle.cg_rtl_uses.specs.Uses.{here, inside, at as placed_at, each_at, use_of, named_use, constant_use, symbol_by, symbol_use, arm_use, arm_uses_of, value_use, choice_by, choice_uses_of, local_use, register_use, operand_use, function_uses, first_item, known_uses, call_uses, layer_uses, uses_to, uses_of}
use Rattle.cg_rtl_uses.specs.declared.uses.PlacedUse.{PlacedUse}
use Rattle.cg_rtl_uses.specs.declared.uses.Use.{Use}
use Rattle.cg_rtl_uses.specs.declared.uses.Use.TheVariants as stands
use Rattle.cg_rtl_laws.specs.Covered.{IsSilent, AreSilent}
use Rattle.cg_rtl_laws.specs.Numbered.{no_text_at}
use Rattle.cg_desc_scope.specs.Texts.{error_text, text_of_error, texts_by, texts_to, texts_in}

-- depths
deepest_node : (o : Op) (mode : Option Mode) (n : ℤ) (xs : List Rtl) → depth (node o mode n xs) ≡ suc (greatest (map depth xs))
unfolding depth
deepest_node o mode n xs = fold-roll-Rtl ℕ depth_step (record { op = o; mode = mode; number = n; items = xs })

items_depth : (t : ℕ) (o : Op) (mode : Option Mode) (n : ℤ) (xs : List Rtl) → depth (node o mode n xs) ≤ suc t → greatest (map depth xs) ≤ t
items_depth t o mode n xs h = let same : depth (node o mode n xs) ≡ suc (greatest (map depth xs)) = deepest_node o mode n xs in omega (arith, h, same)

never_flat : (o : Op) (mode : Option Mode) (n : ℤ) (xs : List Rtl) → depth (node o mode n xs) ≤ 0 → ⊥
never_flat o mode n xs h = let same : depth (node o mode n xs) ≡ suc (greatest (map depth xs)) = deepest_node o mode n xs in omega (arith, h, same)

first_depth : (t a b : ℕ) → max a b ≤ t → a ≤ t
first_depth t a b h = let low : a ≤ max a b = le-max_left a b in omega (arith, h, low)

rest_depth : (t a b : ℕ) → max a b ≤ t → b ≤ t
rest_depth t a b h = let low : b ≤ max a b = le-max_right a b in omega (arith, h, low)

back_depth : (t : ℕ) (xs ys : List Rtl) → greatest (map depth (xs ++ ys)) ≤ t → greatest (map depth ys) ≤ t
back_depth t [] ys h = h
back_depth t (x ∷ xs) ys h = back_depth t xs ys (rest_depth t (depth x) (greatest (map depth (xs ++ ys))) h)

front_depth : (t : ℕ) (xs ys : List Rtl) → greatest (map depth (xs ++ ys)) ≤ t → greatest (map depth xs) ≤ t
front_depth t [] ys h = omega arith
front_depth t (x ∷ xs) ys h = both (depth x) (greatest (map depth xs)) (first_depth t (depth x) (greatest (map depth (xs ++ ys))) h) (front_depth t xs ys (rest_depth t (depth x) (greatest (map depth (xs ++ ys))) h)) where
  both : (a b : ℕ) → a ≤ t → b ≤ t → max a b ≤ t
  both a b h g = omega (arith, h, g)

positive : (r : Rtl) → depth r ≤ 0 → ⊥
unfolding depth
positive r h = let same : depth r ≡ suc (greatest (map depth (out-Rtl r).items)) = fold_out-Rtl ℕ depth_step r in omega (arith, h, same)

-- texts of what is in a list
taken_none : {A B : Type 0} (g : A → List B) (n : ℕ) (fs : List A) → flat_map g fs ≡ [] → flat_map g (take n fs) ≡ []
taken_none g zero fs h = refl
taken_none g (suc n) [] h = refl
taken_none g (suc n) (f ∷ fs) h =
    let both : (g f ≡ []) × (flat_map g fs ≡ []) = append_none (g f) (flat_map g fs) h in
    ap (λ xs. xs ++ flat_map g (take n fs)) both.0 ∙ taken_none g n fs both.1

dropped_none : {A B : Type 0} (g : A → List B) (n : ℕ) (fs : List A) → flat_map g fs ≡ [] → flat_map g (drop n fs) ≡ []
dropped_none g zero fs h = h
dropped_none g (suc n) [] h = refl
dropped_none g (suc n) (f ∷ fs) h = dropped_none g n fs (append_none (g f) (flat_map g fs) h).1

behind_none : {B : Type 0} (g : Form → List B) (fs : List Form) → flat_map g fs ≡ [] → flat_map g (behind_mode fs) ≡ []
behind_none g fs h = by _ where
  by : (b : Bool) → flat_map g (if b then drop 1 fs else fs) ≡ []
  by true = dropped_none g 1 fs h
  by false = h

-- what is in a form, where there is no text in it and it isn't an error
pub within_none : (t : ℕ) (f : Form) → texts_to (suc t) f ≡ [] → flat_map (texts_to t) (unwrap_or (elements_of f) []) ≡ []
within_none t f h = by (text_of_error f) h where
  by : (o : Option (List ℕ)) → texts_by (texts_to t) (unwrap_or (elements_of f) []) o ≡ [] → flat_map (texts_to t) (unwrap_or (elements_of f) []) ≡ []
  by None h = h
  by (Some text) h = absurd cc

no_error_text : (t : ℕ) (f : Form) → texts_to (suc t) f ≡ [] → text_of_error f ≡ None
no_error_text t f h = by (text_of_error f) h where
  by : (o : Option (List ℕ)) → texts_by (texts_to t) (unwrap_or (elements_of f) []) o ≡ [] → o ≡ None
  by None h = refl
  by (Some text) h = absurd cc

behind_head : {B : Type 0} (g : Form → List B) (f : Form) (x : Headed) → headed f ≡ Some x → flat_map g (unwrap_or (elements_of f) []) ≡ [] → flat_map g x.1 ≡ []
unfolding headed
behind_head {B} g f x is h = by (elements_of f) is h where
  second : List Form → Option Headed → List Form
  second fs None = fs
  second fs (Some y) = y.1

  one : (o : Option (List ℕ)) (a : Form) (fs : List Form) → headed_by o fs ≡ Some x → flat_map g (a ∷ fs) ≡ [] → flat_map g x.1 ≡ []
  one None a fs is h = absurd cc
  one (Some name) a fs is h = ap (flat_map g) (sym (ap (second fs) is)) ∙ (append_none (g a) (flat_map g fs) h).1

  by : (o : Option (List Form)) → (o >>= headed_in) ≡ Some x → flat_map g (unwrap_or o []) ≡ [] → flat_map g x.1 ≡ []
  by None is h = absurd cc
  by (Some []) is h = absurd cc
  by (Some (a ∷ fs)) is h = one (symbol_of a) a fs is h

-- items that are expressions from a place on
same_item : (b : Bool) (x : Item) → (if b then x else x) ≡ x
same_item true x = refl
same_item false x = refl

module _ (k : ℕ) (name : List ℕ) where
  all_from : (sh : Shape) (count from j : ℕ) (fs : List Form) → ((i : ℕ) → from ≤ i → item_at sh count i ≡ item.Expression) → from ≤ j → items_faults (faults_to k) name sh count j fs ≡ [] → flat_map (faults_to k name) fs ≡ []
  all_from sh count from j [] plain at h = refl
  all_from sh count from j (f ∷ fs) plain at h =
      let both : (item_faults (faults_to k) name (item_at sh count j) f ≡ []) × (items_faults (faults_to k) name sh count (suc j) fs ≡ []) = append_none (item_faults (faults_to k) name (item_at sh count j) f) (items_faults (faults_to k) name sh count (suc j) fs) h in
      let here : faults_to k name f ≡ [] = ap (λ i. item_faults (faults_to k) name i f) (sym (plain j at)) ∙ both.0 in
      ap (λ xs. xs ++ flat_map (faults_to k name) fs) here ∙ all_from sh count from (suc j) fs plain (omega (arith, at)) both.1

  past_one : (wanted : Bool) (least : ℕ) (most : Option ℕ) (x : Item) (count i : ℕ) → 1 ≤ i → item_at (record { wants_mode = wanted; least = least; most = most; front = x ∷ []; rest = item.Expression }) count i ≡ item.Expression
  past_one wanted least most x count zero at = absurd (omega (arith, at))
  past_one wanted least most x count (suc i) at = same_item (suc i + 1 == count) item.Expression

  -- of a function with expressions alone, and with one other item in front
  just_expressions : (wanted : Bool) (least : ℕ) (most : Option ℕ) (given : Bool) (fs : List Form) → shaped_faults (faults_to k) name (record { wants_mode = wanted; least = least; most = most; front = []; rest = item.Expression }) given fs ≡ [] → flat_map (faults_to k name) fs ≡ []
  just_expressions wanted least most given fs h =
      all_from (record { wants_mode = wanted; least = least; most = most; front = []; rest = item.Expression }) (length fs) 0 0 fs (λ i at. same_item (i + 1 == length fs) item.Expression) (omega arith) (append_none (wants _ name) _ h).1

  behind_one : (wanted : Bool) (least : ℕ) (most : Option ℕ) (x : Item) (given : Bool) (fs : List Form) → shaped_faults (faults_to k) name (record { wants_mode = wanted; least = least; most = most; front = x ∷ []; rest = item.Expression }) given fs ≡ [] → flat_map (faults_to k name) (drop 1 fs) ≡ []
  behind_one wanted least most x given [] h = refl
  behind_one wanted least most x given (f ∷ fs) h =
      let sh : Shape = record { wants_mode = wanted; least = least; most = most; front = x ∷ []; rest = item.Expression } in
      let count : ℕ = suc (length fs) in
      let all : items_faults (faults_to k) name sh count 0 (f ∷ fs) ≡ [] = (append_none (wants _ name) (items_faults (faults_to k) name sh count 0 (f ∷ fs)) h).1 in
      all_from sh count 1 1 fs (λ i at. past_one wanted least most x count i at) (omega arith) (append_none (item_faults (faults_to k) name (item_at sh count 0) f) (items_faults (faults_to k) name sh count 1 fs) all).1

abbrev shape_or : Shape → Option Shape → Shape
shape_or sh None = sh
shape_or sh (Some x) = x

-- What stands for a name is no error.
module _ (m : Machine) where
  abbrev Quiet : List PlacedUse → Type 0
  Quiet us = AreSilent (no_text_at m) us

  leaf_silent : (o : Op) (mode : Option Mode) (n : ℤ) → no_text_at m o mode n ≡ [] → IsSilent (no_text_at m) (use_of (leaf o mode n))
  leaf_silent o mode n h = ap (λ (x : Rtl-F Rtl). no_text_at m x.op x.mode x.number) (out-roll-Rtl (record { op = o; mode = mode; number = n; items = [] })) ∙ h

  abbrev QuietWhere : Option Rtl → Type 0
  QuietWhere None = Unit {0}
  QuietWhere (Some r) = IsSilent (no_text_at m) (use_of r)

  numbered_silent : (o : Op) (mode : Option Mode) (n : Option ℤ) → ((i : ℤ) → no_text_at m o mode i ≡ []) → QuietWhere (numbered o mode n)
  numbered_silent o mode None h = tt
  numbered_silent o mode (Some n) h = leaf_silent o mode n (h n)

  either : (a b : Option Rtl) → QuietWhere a → QuietWhere b → QuietWhere (option_or a b)
  either None b h g = g
  either (Some r) b h g = h

  first_or : (b : Bool) (r : Rtl) (other : Option Rtl) → IsSilent (no_text_at m) (use_of r) → QuietWhere other → QuietWhere (if b then Some r else other)
  first_or true r other h g = h
  first_or false r other h g = g

  only_if : (b : Bool) (o : Option Rtl) → QuietWhere o → QuietWhere (if b then o else None)
  only_if true o h = h
  only_if false o h = tt

  where_given : (b : Bool) (r : Rtl) → IsSilent (no_text_at m) (use_of r) → QuietWhere (given_where b r)
  where_given true r h = h
  where_given false r h = tt

  rule_silent : (r : Rule) (own : Option Mode) (name : List ℕ) → QuietWhere (rule_name r own name)
  unfolding no_text_at
  rule_silent rule.Get own name = where_given (same_text name (codes "index")) (leaf op.Index None (pos 0)) (leaf_silent op.Index None (pos 0) refl)
  rule_silent rule.Set own name =
      first_or (same_text name (codes "index")) (leaf op.Index None (pos 0)) (given_where (same_text name (codes "newval")) (leaf op.NewVal own (pos 0))) (leaf_silent op.Index None (pos 0) refl)
      (where_given (same_text name (codes "newval")) (leaf op.NewVal own (pos 0)) (leaf_silent op.NewVal own (pos 0) refl))
  rule_silent rule.Encode own name = where_given (same_text name (codes "value")) (leaf op.Value own (pos 0)) (leaf_silent op.Value own (pos 0) refl)
  rule_silent rule.Decode own name = where_given (same_text name (codes "value")) (leaf op.Value own (pos 0)) (leaf_silent op.Value own (pos 0) refl)
  rule_silent _ own name = tt

  field_silent : (s : Scope) (mode : Option Mode) (name : List ℕ) → QuietWhere (field_named s mode name)
  unfolding no_text_at
  field_silent s mode name =
      first_or (is_own s.rule name) (leaf op.Value s.own (pos 0)) (option_or (numbered op.FieldRef mode (number_named name s.fields)) (numbered op.MultiRef mode (number_named name s.multis))) (leaf_silent op.Value s.own (pos 0) refl)
      (either (numbered op.FieldRef mode (number_named name s.fields)) (numbered op.MultiRef mode (number_named name s.multis)) (numbered_silent op.FieldRef mode (number_named name s.fields) (λ i. refl)) (numbered_silent op.MultiRef mode (number_named name s.multis) (λ i. refl)))

  named_silent : (name : List ℕ) (o : Option Rtl) → QuietWhere o → IsSilent (no_text_at m) (named_use name o)
  named_silent name None h = tt
  named_silent name (Some r) h = h

  by_symbol : (s : Scope) (name : List ℕ) (a b c d : Option Rtl) → QuietWhere a → QuietWhere b → QuietWhere c → QuietWhere d → IsSilent (no_text_at m) (symbol_by s name (option_or a (option_or b (option_or c d))))
  by_symbol s name (Some r) b c d h i j k = h
  by_symbol s name None (Some r) c d h i j k = i
  by_symbol s name None None (Some r) d h i j k = j
  by_symbol s name None None None (Some r) h i j k = k
  by_symbol s name None None None None h i j k = constant (enum_value name s.enums) where
    constant : (n : Option ℤ) → IsSilent (no_text_at m) (constant_use name n)
    constant None = tt
    constant (Some n) = tt

  symbol_silent : (s : Scope) (l : List (List ℕ)) (name : List ℕ) → IsSilent (no_text_at m) (symbol_use s l name)
  unfolding symbol_use no_text_at
  symbol_silent s l name =
      by_symbol s name (numbered op.Local None (option_map pos (last_place name l))) (named_by_rule s name) (bare_field s name) (numbered op.OperandRef None (number_named name s.operands))
      (numbered_silent op.Local None (option_map pos (last_place name l)) (λ i. refl))
      (first_or (same_text name (codes "pc")) (leaf op.Pc None (pos 0)) (rule_name s.rule s.own name) (leaf_silent op.Pc None (pos 0) refl) (rule_silent s.rule s.own name))
      (only_if (is_pure s.rule) (field_named s None name) (field_silent s None name))
      (numbered_silent op.OperandRef None (number_named name s.operands) (λ i. refl))

  value_silent : (s : Scope) (x : Layer) → QuietWhere (value_in s x)
  unfolding no_text_at
  value_silent s (Number n) = leaf_silent op.Number None n refl
  value_silent s (Symbol name) = numbered_silent op.Number None (enum_value name s.enums) (λ i. refl)
  value_silent s (Str text) = leaf_silent op.Nop None (pos 0) refl
  value_silent s (Flag b) = leaf_silent op.Nop None (pos 0) refl
  value_silent s (Items fs) = leaf_silent op.Nop None (pos 0) refl

  -- No name is lacking by its kind.
  abbrev AreDefined : List PlacedUse → Type 0
  AreDefined [] = Unit {0}
  AreDefined (u ∷ us) = (is_defined u.what ≡ true) × AreDefined us

  defined_both : (us vs : List PlacedUse) → AreDefined (us ++ vs) → AreDefined us × AreDefined vs
  defined_both [] vs h = (tt, h)
  defined_both (u ∷ us) vs h = let rest : AreDefined us × AreDefined vs = defined_both us vs h.1 in ((h.0, rest.0), rest.1)

  defined_inside : (j : ℕ) (us : List PlacedUse) → AreDefined (placed_at j us) → AreDefined us
  defined_inside j [] h = tt
  defined_inside j (u ∷ us) h = (h.0, defined_inside j us h.1)

  all_defined : (us : List PlacedUse) → list_all is_defined_at us ≡ true → AreDefined us
  all_defined [] h = tt
  all_defined (u ∷ us) h = (first_true (is_defined_at u) (list_all is_defined_at us) h, all_defined us (second_true (is_defined_at u) (list_all is_defined_at us) h))

  quiet_append : (us vs : List PlacedUse) → Quiet us → Quiet vs → Quiet (us ++ vs)
  quiet_append [] vs h g = g
  quiet_append (u ∷ us) vs h g = (h.0, quiet_append us vs h.1 g)

  quiet_at : (k : ℕ) (us : List PlacedUse) → Quiet us → Quiet (placed_at k us)
  quiet_at k [] h = tt
  quiet_at k (u ∷ us) h = (h.0, quiet_at k us h.1)

  values_silent : (s : Scope) (k : ℕ) (fs : List Form) → Quiet (each_at (value_use s) k fs)
  values_silent s k [] = tt
  values_silent s k (f ∷ fs) = (named_silent (name_first (f ∷ [])) (value_in s (out-Form f)) (value_silent s (out-Form f)), values_silent s (suc k) fs)

  locals_silent : (bits k : ℕ) (fs : List Form) → Quiet (each_at (local_use bits) k fs)
  unfolding no_text_at
  locals_silent bits k [] = tt
  locals_silent bits k (f ∷ fs) = (refl, locals_silent bits (suc k) fs)

  module _ (s : Scope) where
    -- Expressions so many lists inwards, in which there is no text so many lists inwards, and which are so deep.
    abbrev Told : ℕ → Type 0
    Told k = (t : ℕ) (l : List (List ℕ)) (holder : List ℕ) (f : Form) → faults_to k holder f ≡ [] → depth (rtl_to k s l f) ≤ t → texts_to t f ≡ [] → AreDefined (uses_to k s l f) → Quiet (uses_to k s l f)

    module _ (k : ℕ) (told : Told k) where
      each : (t : ℕ) (l : List (List ℕ)) (name : List ℕ) (j : ℕ) (fs : List Form) → flat_map (faults_to k name) fs ≡ [] → greatest (map depth (map (rtl_to k s l) fs)) ≤ t → flat_map (texts_to t) fs ≡ [] → AreDefined (each_at (uses_to k s l) j fs) → Quiet (each_at (uses_to k s l) j fs)
      each t l name j [] clear deep none known = tt
      each t l name j (f ∷ fs) clear deep none known =
          let names : AreDefined (placed_at j (uses_to k s l f)) × AreDefined (each_at (uses_to k s l) (suc j) fs) = defined_both (placed_at j (uses_to k s l f)) (each_at (uses_to k s l) (suc j) fs) known in
          let faults : (faults_to k name f ≡ []) × (flat_map (faults_to k name) fs ≡ []) = append_none (faults_to k name f) (flat_map (faults_to k name) fs) clear in
          let texts : (texts_to t f ≡ []) × (flat_map (texts_to t) fs ≡ []) = append_none (texts_to t f) (flat_map (texts_to t) fs) none in
          quiet_append (placed_at j (uses_to k s l f)) (each_at (uses_to k s l) (suc j) fs)
          (quiet_at j (uses_to k s l f) (told t l name f faults.0 (first_depth t (depth (rtl_to k s l f)) (greatest (map depth (map (rtl_to k s l) fs))) deep) texts.0 (defined_inside j (uses_to k s l f) names.0)))
          (each t l name (suc j) fs faults.1 (rest_depth t (depth (rtl_to k s l f)) (greatest (map depth (map (rtl_to k s l) fs))) deep) texts.1 names.1)

      -- an arm, whose expressions are one list further inwards
      arm_told : (t : ℕ) (l : List (List ℕ)) (name : List ℕ) (i : Item) (f : Form) → is_choice i ≡ false → listed (arm_faults (faults_to k) name i) name (elements_of f) ≡ [] → depth (arm_at (rtl_to k s) l f) ≤ t → texts_to t f ≡ [] → AreDefined (arm_uses_of (uses_to k s) l f) → Quiet (arm_uses_of (uses_to k s) l f)
      unfolding no_text_at
      arm_told t l name i f other h deep none known = by t deep none where
        rtl_by : Bool → List Form → Rtl
        rtl_by b fs = if b then arm [] (map (rtl_to k s l) (drop 1 fs)) else node op.Arm None (pos 1) (map (rtl_to k s l) fs)

        uses_by : Bool → List Form → List PlacedUse
        uses_by b fs = if b then arm_use 0 ∷ each_at (uses_to k s l) 1 (drop 1 fs) else arm_use 1 ∷ each_at (uses_to k s l) 0 fs

        judged_by : Bool → Bool → Bool → List Form → List Flawed
        judged_by few a c fs = if few then wants false name else if a then headed_faults (faults_to k) name (may_be_else i) fs else if c then headed_faults (faults_to k) name (has_values fs) fs else flat_map (faults_to k name) fs

        quiet_by : (u : ℕ) (fs : List Form) (few a c : Bool) → c ≡ false → judged_by few a c fs ≡ [] → depth (rtl_by a fs) ≤ suc u → flat_map (texts_to u) fs ≡ [] → AreDefined (uses_by a fs) → Quiet (uses_by a fs)
        quiet_by u fs true a c is h deep none known = absurd cc
        quiet_by u fs false a true is h deep none known = absurd (false≢true (sym is))
        quiet_by u fs false true false is h deep none known =
            (refl, each u l name 1 (drop 1 fs) (append_none (wants (may_be_else i) name) (flat_map (faults_to k name) (drop 1 fs)) h).1 (items_depth u op.Arm None (pos 0) (map (rtl_to k s l) (drop 1 fs)) deep) (dropped_none (texts_to u) 1 fs none) known.1)
        quiet_by u fs false false false is h deep none known = (refl, each u l name 0 fs h (items_depth u op.Arm None (pos 1) (map (rtl_to k s l) fs) deep) none known.1)

        elements : (u : ℕ) (o : Option (List Form)) → listed (arm_faults (faults_to k) name i) name o ≡ [] → depth (rtl_by (is_else (unwrap_or o [])) (unwrap_or o [])) ≤ suc u → flat_map (texts_to u) (unwrap_or o []) ≡ [] → AreDefined (uses_by (is_else (unwrap_or o [])) (unwrap_or o [])) → Quiet (uses_by (is_else (unwrap_or o [])) (unwrap_or o []))
        elements u None h deep none known = absurd cc
        elements u (Some fs) h deep none known = quiet_by u fs (nat_lt (length fs) 2) (is_else fs) (is_choice i) other h deep none known

        flat : (b : Bool) (fs : List Form) → depth (rtl_by b fs) ≤ 0 → ⊥
        flat true fs h = never_flat op.Arm None (pos 0) (map (rtl_to k s l) (drop 1 fs)) h
        flat false fs h = never_flat op.Arm None (pos 1) (map (rtl_to k s l) fs) h

        by : (u : ℕ) → depth (arm_at (rtl_to k s) l f) ≤ u → texts_to u f ≡ [] → Quiet (arm_uses_of (uses_to k s) l f)
        by zero deep none = absurd (flat (is_else (elements_or_none f)) (elements_or_none f) deep)
        by (suc u) deep none = elements u (elements_of f) h deep (within_none u f none) known

      choice_told : (t : ℕ) (l : List (List ℕ)) (name : List ℕ) (i : Item) (f : Form) → is_choice i ≡ true → listed (arm_faults (faults_to k) name i) name (elements_of f) ≡ [] → depth (choice_at s (rtl_to k s) l f) ≤ t → texts_to t f ≡ [] → AreDefined (choice_uses_of s (uses_to k s) l f) → Quiet (choice_uses_of s (uses_to k s) l f)
      unfolding no_text_at
      choice_told t l name i f chooses h deep none known = by t deep none where
        rtl_by : Bool → List Form → Rtl
        rtl_by b fs = if b then arm [] (map (rtl_to k s l) (drop 1 fs)) else arm (map (value_of s) (elements_first fs)) (map (rtl_to k s l) (drop 1 fs))

        uses_by : Bool → List Form → List PlacedUse
        uses_by b fs = if b then arm_use 0 ∷ each_at (uses_to k s l) 1 (drop 1 fs) else choice_by s (uses_to k s) l (elements_first fs) (drop 1 fs)

        quiet_by : (u : ℕ) (fs : List Form) (b : Bool) → flat_map (faults_to k name) (drop 1 fs) ≡ [] → depth (rtl_by b fs) ≤ suc u → flat_map (texts_to u) (drop 1 fs) ≡ [] → AreDefined (uses_by b fs) → Quiet (uses_by b fs)
        quiet_by u fs true clear deep none known = (refl, each u l name 1 (drop 1 fs) clear (items_depth u op.Arm None (pos 0) (map (rtl_to k s l) (drop 1 fs)) deep) none known.1)
        quiet_by u fs false clear deep none known =
            let values : List Rtl = map (value_of s) (elements_first fs) in
            let low : greatest (map depth (values ++ map (rtl_to k s l) (drop 1 fs))) ≤ u = items_depth u op.Arm None (pos (length values)) (values ++ map (rtl_to k s l) (drop 1 fs)) deep in (
              refl,
              quiet_append (placed_at 0 (each_at (value_use s) 0 (elements_first fs))) (each_at (uses_to k s l) 1 (drop 1 fs)) (quiet_at 0 (each_at (value_use s) 0 (elements_first fs)) (values_silent s 0 (elements_first fs)))
                  (each u l name 1 (drop 1 fs) clear (back_depth u values (map (rtl_to k s l) (drop 1 fs)) low) none (defined_both (placed_at 0 (each_at (value_use s) 0 (elements_first fs))) (each_at (uses_to k s l) 1 (drop 1 fs)) known.1).1),
            )

        judged_by : Bool → Bool → Bool → List Form → List Flawed
        judged_by few a c fs = if few then wants false name else if a then headed_faults (faults_to k) name (may_be_else i) fs else if c then headed_faults (faults_to k) name (has_values fs) fs else flat_map (faults_to k name) fs

        rest_clear : (few a c : Bool) (fs : List Form) → c ≡ true → judged_by few a c fs ≡ [] → flat_map (faults_to k name) (drop 1 fs) ≡ []
        rest_clear true a c fs is h = absurd cc
        rest_clear false true c fs is h = (append_none (wants (may_be_else i) name) (flat_map (faults_to k name) (drop 1 fs)) h).1
        rest_clear false false true fs is h = (append_none (wants (has_values fs) name) (flat_map (faults_to k name) (drop 1 fs)) h).1
        rest_clear false false false fs is h = absurd (false≢true is)

        elements : (u : ℕ) (o : Option (List Form)) → listed (arm_faults (faults_to k) name i) name o ≡ [] → depth (rtl_by (is_else (unwrap_or o [])) (unwrap_or o [])) ≤ suc u → flat_map (texts_to u) (unwrap_or o []) ≡ [] → AreDefined (uses_by (is_else (unwrap_or o [])) (unwrap_or o [])) → Quiet (uses_by (is_else (unwrap_or o [])) (unwrap_or o []))
        elements u None h deep none known = absurd cc
        elements u (Some fs) h deep none known = quiet_by u fs (is_else fs) (rest_clear (nat_lt (length fs) 2) (is_else fs) (is_choice i) fs chooses h) deep (dropped_none (texts_to u) 1 fs none) known

        flat : (b : Bool) (fs : List Form) → depth (rtl_by b fs) ≤ 0 → ⊥
        flat true fs h = never_flat op.Arm None (pos 0) (map (rtl_to k s l) (drop 1 fs)) h
        flat false fs h = never_flat op.Arm None (pos (length (map (value_of s) (elements_first fs)))) (map (value_of s) (elements_first fs) ++ map (rtl_to k s l) (drop 1 fs)) h

        by : (u : ℕ) → depth (choice_at s (rtl_to k s) l f) ≤ u → texts_to u f ≡ [] → Quiet (choice_uses_of s (uses_to k s) l f)
        by zero deep none = absurd (flat (is_else (elements_or_none f)) (elements_or_none f) deep)
        by (suc u) deep none = elements u (elements_of f) h deep (within_none u f none) known

      -- arms of a `cond` and choices of a `case`, from a place on
      abbrev arm_item : Bool → Item
      arm_item b = if b then item.LastArm else item.Arm

      abbrev choice_item : Bool → Item
      choice_item b = if b then item.LastChoice else item.Choice

      one_arm : (t : ℕ) (l : List (List ℕ)) (name : List ℕ) (b : Bool) (f : Form) → item_faults (faults_to k) name (arm_item b) f ≡ [] → depth (arm_at (rtl_to k s) l f) ≤ t → texts_to t f ≡ [] → AreDefined (arm_uses_of (uses_to k s) l f) → Quiet (arm_uses_of (uses_to k s) l f)
      one_arm t l name true f h deep none known = arm_told t l name item.LastArm f refl h deep none known
      one_arm t l name false f h deep none known = arm_told t l name item.Arm f refl h deep none known

      one_choice : (t : ℕ) (l : List (List ℕ)) (name : List ℕ) (b : Bool) (f : Form) → item_faults (faults_to k) name (choice_item b) f ≡ [] → depth (choice_at s (rtl_to k s) l f) ≤ t → texts_to t f ≡ [] → AreDefined (choice_uses_of s (uses_to k s) l f) → Quiet (choice_uses_of s (uses_to k s) l f)
      one_choice t l name true f h deep none known = choice_told t l name item.LastChoice f refl h deep none known
      one_choice t l name false f h deep none known = choice_told t l name item.Choice f refl h deep none known

      module _ (t : ℕ) (l : List (List ℕ)) (name : List ℕ) (sh : Shape) (count : ℕ) (place : Bool → Item) (uses : Form → List PlacedUse) (rtl : Form → Rtl)
          (one : (b : Bool) (f : Form) → item_faults (faults_to k) name (place b) f ≡ [] → depth (rtl f) ≤ t → texts_to t f ≡ [] → AreDefined (uses f) → Quiet (uses f)) where
        all_told : (i j : ℕ) (fs : List Form) → ((n : ℕ) → i ≤ n → item_at sh count n ≡ place (n + 1 == count)) → items_faults (faults_to k) name sh count i fs ≡ [] → greatest (map depth (map rtl fs)) ≤ t → flat_map (texts_to t) fs ≡ [] → AreDefined (each_at uses j fs) → Quiet (each_at uses j fs)
        all_told i j [] at h deep none known = tt
        all_told i j (f ∷ fs) at h deep none known =
            let faults : (item_faults (faults_to k) name (item_at sh count i) f ≡ []) × (items_faults (faults_to k) name sh count (suc i) fs ≡ []) = append_none (item_faults (faults_to k) name (item_at sh count i) f) (items_faults (faults_to k) name sh count (suc i) fs) h in
            let texts : (texts_to t f ≡ []) × (flat_map (texts_to t) fs ≡ []) = append_none (texts_to t f) (flat_map (texts_to t) fs) none in
            let names : AreDefined (placed_at j (uses f)) × AreDefined (each_at uses (suc j) fs) = defined_both (placed_at j (uses f)) (each_at uses (suc j) fs) known in
            let itself : i ≤ i = omega arith in
            quiet_append (placed_at j (uses f)) (each_at uses (suc j) fs)
            (quiet_at j (uses f) (one (i + 1 == count) f (sym (ap (λ x. item_faults (faults_to k) name x f) (at i itself)) ∙ faults.0) (first_depth t (depth (rtl f)) (greatest (map depth (map rtl fs))) deep) texts.0 (defined_inside j (uses f) names.0)))
            (all_told (suc i) (suc j) fs (λ n up. at n (omega (arith, up))) faults.1 (rest_depth t (depth (rtl f)) (greatest (map depth (map rtl fs))) deep) texts.1 names.1)

      cond_at : (count n : ℕ) → item_at (items 1 None [] item.Arm) count n ≡ arm_item (n + 1 == count)
      cond_at count n = refl

      case_at : (count n : ℕ) → 1 ≤ n → item_at (items 2 None (item.Expression ∷ []) item.Choice) count n ≡ choice_item (n + 1 == count)
      case_at count zero at = absurd (omega (arith, at))
      case_at count (suc n) at = refl

      register_told : (t : ℕ) (l : List (List ℕ)) (holder : List ℕ) (j : ℕ) (o : Op) (mode : Option Mode) (name : List ℕ) (n : Option ℤ) (fs : List Form) → ((i : ℤ) → no_text_at m o mode i ≡ []) → flat_map (faults_to k holder) fs ≡ []
          → depth (unwrap_or (elim n [ None ↦ None | Some i ↦ Some (node o mode i (map (rtl_to k s l) fs)) ]) nothing) ≤ suc t → flat_map (texts_to t) fs ≡ [] → AreDefined (register_use j o mode name n ∷ each_at (uses_to k s l) (j + 1) fs) → Quiet (register_use j o mode name n ∷ each_at (uses_to k s l) (j + 1) fs)
      register_told t l holder j o mode name None fs silent clear deep none known = absurd (false≢true known.0)
      register_told t l holder j o mode name (Some i) fs silent clear deep none known = (silent i, each t l holder (j + 1) fs clear (items_depth t o mode i (map (rtl_to k s l) fs) deep) none known.1)

      -- operations that aren't errors
      abbrev is_error : Op → Bool
      is_error op.Error = true
      is_error _ = false

      no_error_here : (o : Op) (mode : Option Mode) (n : ℤ) → is_error o ≡ false → no_text_at m o mode n ≡ []
      unfolding no_text_at
      no_error_here op.Error mode n h = absurd (false≢true (sym h))
      no_error_here _ mode n h = refl

      operation_told : (t : ℕ) (l : List (List ℕ)) (name : List ℕ) (j : ℕ) (mode : Option Mode) (given : Bool) (o : Op) (n : ℕ) (sh : Shape) (fs : List Form) → Some sh ≡ operation_shape o → shaped_faults (faults_to k) name sh given fs ≡ []
          → greatest (map depth (map (rtl_to k s l) fs)) ≤ t → flat_map (texts_to t) fs ≡ [] → AreDefined (each_at (uses_to k s l) j fs) → Quiet (here (stands.Node o mode (pos n)) ∷ each_at (uses_to k s l) j fs)
      operation_told t l name j mode given o n sh fs is h deep none known = (no_error_here o mode (pos n) (plain o is), each t l name j fs (clear o is) deep none known) where
        plain : (o : Op) → Some sh ≡ operation_shape o → is_error o ≡ false
        plain op.Error is = absurd cc
        plain _ is = refl

        plainly : (w : Bool) (least : ℕ) (most : Option ℕ) → Some sh ≡ Some (record { wants_mode = w; least = least; most = most; front = []; rest = item.Expression }) → flat_map (faults_to k name) fs ≡ []
        plainly w least most is = just_expressions k name w least most given fs (subst (λ x. shaped_faults (faults_to k) name x given fs ≡ []) (ap (shape_or sh) is) h)

        clear : (o : Op) → Some sh ≡ operation_shape o → flat_map (faults_to k name) fs ≡ []
        clear op.Unary is = plainly false 1 (Some 1) is
        clear op.Binary is = plainly false 2 (Some 2) is
        clear op.Ternary is = plainly false 3 (Some 3) is
        clear op.AndIf is = plainly false 2 None is
        clear op.OrIf is = plainly false 2 None is
        clear op.Ext is = plainly true 1 (Some 1) is
        clear op.Zext is = plainly true 1 (Some 1) is
        clear op.Trunc is = plainly true 1 (Some 1) is
        clear op.Mem is = plainly true 1 (Some 1) is
        clear op.If is = plainly false 2 (Some 3) is
        clear op.Set is = plainly false 2 (Some 2) is
        clear op.Nop is = plainly false 0 (Some 0) is
        clear _ is = absurd cc

      behind_told : (t : ℕ) (l : List (List ℕ)) (name : List ℕ) (j : ℕ) (mode : Option Mode) (given : Bool) (o : Op) (sh : Shape) (fs : List Form) → Some sh ≡ behind_shape o → shaped_faults (faults_to k) name sh given fs ≡ []
          → greatest (map depth (map (rtl_to k s l) (drop 1 fs))) ≤ t → flat_map (texts_to t) (drop 1 fs) ≡ [] → AreDefined (each_at (uses_to k s l) j (drop 1 fs)) → Quiet (here (stands.Node o mode (pos 0)) ∷ each_at (uses_to k s l) j (drop 1 fs))
      behind_told t l name j mode given o sh fs is h deep none known = (no_error_here o mode (pos 0) (plain o is), each t l name j (drop 1 fs) (clear o is) deep none known) where
        plain : (o : Op) → Some sh ≡ behind_shape o → is_error o ≡ false
        plain op.Error is = absurd cc
        plain _ is = refl

        clear : (o : Op) → Some sh ≡ behind_shape o → flat_map (faults_to k name) (drop 1 fs) ≡ []
        clear op.Parallel is = behind_one k name false 2 None item.NoLocals given fs (subst (λ x. shaped_faults (faults_to k) name x given fs ≡ []) (ap (shape_or sh) is) h)
        clear op.Halt is = behind_one k name false 2 (Some 2) item.Str given fs (subst (λ x. shaped_faults (faults_to k) name x given fs ≡ []) (ap (shape_or sh) is) h)
        clear _ is = absurd cc

      registers_clear : (name : List ℕ) (given : Bool) (o : Op) (sh : Shape) (fs : List Form) → Some sh ≡ register_shape o → shaped_faults (faults_to k) name sh given fs ≡ [] → (flat_map (faults_to k name) (drop 1 fs) ≡ []) × (is_error o ≡ false)
      registers_clear name given op.Reg sh fs is h = (behind_one k name false 1 (Some 2) item.Name given fs (subst (λ x. shaped_faults (faults_to k) name x given fs ≡ []) (ap (shape_or sh) is) h), refl)
      registers_clear name given op.RawReg sh fs is h = (behind_one k name false 1 (Some 2) item.Name given fs (subst (λ x. shaped_faults (faults_to k) name x given fs ≡ []) (ap (shape_or sh) is) h), refl)
      registers_clear name given _ sh fs is h = absurd cc

      -- of an error the text is a string
      is_text : (name : List ℕ) (given : Bool) (fs : List Form) → shaped_faults (faults_to k) name (items 1 (Some 1) [] item.Str) given fs ≡ [] → is_some (first fs >>= string_of) ≡ true
      is_text name given [] h =
          let sh : Shape = items 1 (Some 1) [] item.Str in
          let counts : allows sh given 0 ≡ true = wants_none (allows sh given 0) name (append_none (wants (allows sh given 0) name) [] h).0 in
          absurd (false≢true (second_true (given || not sh.wants_mode) (nat_le sh.least 0) (first_true ((given || not sh.wants_mode) && nat_le sh.least 0) (is_within sh.most 0) counts)))
      is_text name given (f ∷ fs) h =
          let sh : Shape = items 1 (Some 1) [] item.Str in
          let count : ℕ = suc (length fs) in
          let all : items_faults (faults_to k) name sh count 0 (f ∷ fs) ≡ [] = (append_none (wants (allows sh given count) name) (items_faults (faults_to k) name sh count 0 (f ∷ fs)) h).1 in
          let one : item_faults (faults_to k) name (item_at sh count 0) f ≡ [] = (append_none (item_faults (faults_to k) name (item_at sh count 0) f) (items_faults (faults_to k) name sh count 1 fs) all).0 in
          let plain : item_at sh count 0 ≡ item.Str = same_item (0 + 1 == count) item.Str in
          wants_none (is_plain item.Str f) name (sym (ap (λ i. item_faults (faults_to k) name i f) plain) ∙ one)

      -- the first item of a function, where that is an expression, and those behind it
      first_clear : (name : List ℕ) (sh : Shape) (given : Bool) (fs : List Form) → item_at sh (length fs) 0 ≡ item.Expression → shaped_faults (faults_to k) name sh given fs ≡ [] → flat_map (faults_to k name) (take 1 fs) ≡ []
      first_clear name sh given [] is h = refl
      first_clear name sh given (f ∷ fs) is h =
          let all : items_faults (faults_to k) name sh (suc (length fs)) 0 (f ∷ fs) ≡ [] = (append_none (wants (allows sh given (suc (length fs))) name) (items_faults (faults_to k) name sh (suc (length fs)) 0 (f ∷ fs)) h).1 in
          let one : item_faults (faults_to k) name (item_at sh (suc (length fs)) 0) f ≡ [] = (append_none (item_faults (faults_to k) name (item_at sh (suc (length fs)) 0) f) (items_faults (faults_to k) name sh (suc (length fs)) 1 fs) all).0 in
          ap (λ xs. xs ++ []) (sym (ap (λ i. item_faults (faults_to k) name i f) is) ∙ one)

      rest_items : (name : List ℕ) (sh : Shape) (given : Bool) (fs : List Form) → shaped_faults (faults_to k) name sh given fs ≡ [] → items_faults (faults_to k) name sh (length fs) 1 (drop 1 fs) ≡ []
      rest_items name sh given [] h = refl
      rest_items name sh given (f ∷ fs) h =
          let all : items_faults (faults_to k) name sh (suc (length fs)) 0 (f ∷ fs) ≡ [] = (append_none (wants (allows sh given (suc (length fs))) name) (items_faults (faults_to k) name sh (suc (length fs)) 0 (f ∷ fs)) h).1 in
          (append_none (item_faults (faults_to k) name (item_at sh (suc (length fs)) 0) f) (items_faults (faults_to k) name sh (suc (length fs)) 1 fs) all).1

      abbrev is_error_function : Function → Bool
      is_error_function function.Error = true
      is_error_function _ = false

      module _ (t : ℕ) (l : List (List ℕ)) (name : List ℕ) (j : ℕ) (mode : Option Mode) (given : Bool) (fs : List Form) where
        function_told : (g : Function) (sh : Shape) → Some sh ≡ shape_for g → shaped_faults (faults_to k) name sh given fs ≡ [] → (is_error_function g ≡ true → is_some (first fs >>= string_of) ≡ false) → depth (function_rtl s (rtl_to k s) l mode fs g) ≤ suc t → flat_map (texts_to t) fs ≡ []
            → AreDefined (function_uses s (uses_to k s) l j mode fs g) → Quiet (function_uses s (uses_to k s) l j mode fs g)
        unfolding no_text_at
        function_told (function.Operation o n) sh is h error deep none known = operation_told t l name j mode given o n sh fs is h (items_depth t o mode (pos n) (map (rtl_to k s l) fs) deep) none known.1
        function_told (function.Behind o) sh is h error deep none known = behind_told t l name (j + 1) mode given o sh fs is h (items_depth t o mode (pos 0) (map (rtl_to k s l) (drop 1 fs)) deep) (dropped_none (texts_to t) 1 fs none) known.1
        function_told function.Constant sh is h error deep none known = (refl, tt)
        function_told function.Subword sh is h error deep none known =
            let plain : shaped_faults (faults_to k) name (with_mode 2 (Some 2) (item.Expression ∷ item.Number ∷ [])) given fs ≡ [] = subst (λ x. shaped_faults (faults_to k) name x given fs ≡ []) (ap (shape_or sh) is) h in
            (refl, each t l name j (take 1 fs) (first_clear name (with_mode 2 (Some 2) (item.Expression ∷ item.Number ∷ [])) given fs (same_item (0 + 1 == length fs) item.Expression) plain) (items_depth t op.Subword mode (number_first (drop 1 fs)) (map (rtl_to k s l) (take 1 fs)) deep) (taken_none (texts_to t) 1 fs none) known.1)
        function_told function.Join sh is h error deep none known =
            let plain : shaped_faults (faults_to k) name (with_mode 2 None (item.Mode ∷ [])) given fs ≡ [] = subst (λ x. shaped_faults (faults_to k) name x given fs ≡ []) (ap (shape_or sh) is) h in
            let decl : Rtl = leaf op.Declare (mode_first s.word_bits fs) (pos 0) in
            let low : greatest (map depth (decl ∷ map (rtl_to k s l) (drop 1 fs))) ≤ t = items_depth t op.Join mode (pos 0) (decl ∷ map (rtl_to k s l) (drop 1 fs)) deep in
            (refl, (refl, each t l name (j + 1) (drop 1 fs) (behind_one k name true 2 None item.Mode given fs plain) (rest_depth t (depth decl) (greatest (map depth (map (rtl_to k s l) (drop 1 fs)))) low) (dropped_none (texts_to t) 1 fs none) known.1.1))
        function_told function.Cond sh is h error deep none known =
            let plain : shaped_faults (faults_to k) name (items 1 None [] item.Arm) given fs ≡ [] = subst (λ x. shaped_faults (faults_to k) name x given fs ≡ []) (ap (shape_or sh) is) h in
            let all : items_faults (faults_to k) name (items 1 None [] item.Arm) (length fs) 0 fs ≡ [] = (append_none (wants (allows (items 1 None [] item.Arm) given (length fs)) name) (items_faults (faults_to k) name (items 1 None [] item.Arm) (length fs) 0 fs) plain).1 in
            (refl, all_told t l name (items 1 None [] item.Arm) (length fs) arm_item (arm_uses_of (uses_to k s) l) (arm_at (rtl_to k s) l) (one_arm t l name) 0 j fs (λ n up. cond_at (length fs) n) all (items_depth t op.Cond mode (pos 0) (map (arm_at (rtl_to k s) l) fs) deep) none known.1)
        function_told function.Case sh is h error deep none known =
            let shape : Shape = items 2 None (item.Expression ∷ []) item.Choice in
            let plain : shaped_faults (faults_to k) name shape given fs ≡ [] = subst (λ x. shaped_faults (faults_to k) name x given fs ≡ []) (ap (shape_or sh) is) h in
            let value : List Rtl = map (rtl_to k s l) (take 1 fs) in
            let choices : List Rtl = map (choice_at s (rtl_to k s) l) (drop 1 fs) in
            let low : greatest (map depth (value ++ choices)) ≤ t = items_depth t op.Case mode (pos 0) (value ++ choices) deep in
            let names : AreDefined (each_at (uses_to k s l) j (take 1 fs)) × AreDefined (each_at (choice_uses_of s (uses_to k s) l) (j + 1) (drop 1 fs)) = defined_both (each_at (uses_to k s l) j (take 1 fs)) (each_at (choice_uses_of s (uses_to k s) l) (j + 1) (drop 1 fs)) known.1 in (
              refl,
              quiet_append (each_at (uses_to k s l) j (take 1 fs)) (each_at (choice_uses_of s (uses_to k s) l) (j + 1) (drop 1 fs))
                  (each t l name j (take 1 fs) (first_clear name shape given fs (same_item (0 + 1 == length fs) item.Expression) plain) (front_depth t value choices low) (taken_none (texts_to t) 1 fs none) names.0)
                  (all_told t l name shape (length fs) choice_item (choice_uses_of s (uses_to k s) l) (choice_at s (rtl_to k s) l) (one_choice t l name) 1 (j + 1) (drop 1 fs) (λ n up. case_at (length fs) n up) (rest_items name shape given fs plain) (back_depth t value choices low) (dropped_none (texts_to t) 1 fs none) names.1),
            )
        function_told function.Sequence sh is h error deep none known =
            let plain : shaped_faults (faults_to k) name (items 2 None (item.Locals ∷ []) item.Expression) given fs ≡ [] = subst (λ x. shaped_faults (faults_to k) name x given fs ≡ []) (ap (shape_or sh) is) h in
            let locals : List Form = elements_first fs in
            let among : List (List ℕ) = l ++ map local_name locals in
            let decls : List Rtl = map (declare_of s.word_bits) locals in
            let bodies : List Rtl = map (rtl_to k s among) (drop 1 fs) in
            let low : greatest (map depth (decls ++ bodies)) ≤ t = items_depth t op.Sequence mode (pos (length locals)) (decls ++ bodies) deep in
            let names : AreDefined (placed_at j (each_at (local_use s.word_bits) 0 locals)) × AreDefined (each_at (uses_to k s among) (j + 1) (drop 1 fs)) = defined_both (placed_at j (each_at (local_use s.word_bits) 0 locals)) (each_at (uses_to k s among) (j + 1) (drop 1 fs)) known.1 in (
              refl,
              quiet_append (placed_at j (each_at (local_use s.word_bits) 0 locals)) (each_at (uses_to k s among) (j + 1) (drop 1 fs)) (quiet_at j (each_at (local_use s.word_bits) 0 locals) (locals_silent s.word_bits 0 locals))
                  (each t among name (j + 1) (drop 1 fs) (behind_one k name false 2 None item.Locals given fs plain) (back_depth t decls bodies low) (dropped_none (texts_to t) 1 fs none) names.1),
            )
        function_told function.Delay sh is h error deep none known =
            let plain : shaped_faults (faults_to k) name (items 2 (Some 2) (item.Number ∷ []) item.Expression) given fs ≡ [] = subst (λ x. shaped_faults (faults_to k) name x given fs ≡ []) (ap (shape_or sh) is) h in
            (refl, each t l name (j + 1) (drop 1 fs) (behind_one k name false 2 (Some 2) item.Number given fs plain) (items_depth t op.Delay mode (number_first fs) (map (rtl_to k s l) (drop 1 fs)) deep) (dropped_none (texts_to t) 1 fs none) known.1)
        function_told function.Error sh is h error deep none known =
            let plain : shaped_faults (faults_to k) name (items 1 (Some 1) [] item.Str) given fs ≡ [] = subst (λ x. shaped_faults (faults_to k) name x given fs ≡ []) (ap (shape_or sh) is) h in
            absurd (false≢true (sym (error refl) ∙ is_text name given fs plain))
        function_told function.FieldNamed sh is h error deep none known = (named_silent (name_first fs) (field_named s mode (name_first fs)) (field_silent s mode (name_first fs)), tt)
        function_told (function.Register o) sh is h error deep none known =
            let both : (flat_map (faults_to k name) (drop 1 fs) ≡ []) × (is_error o ≡ false) = registers_clear name given o sh fs is h in
            register_told t l name j o mode (name_first fs) (number_named (name_first fs) s.hardware) (drop 1 fs) (λ i. no_error_here o mode i both.1) both.0 deep (dropped_none (texts_to t) 1 fs none) known
        function_told function.IndexOf sh is h error deep none known = (index_told (number_named (name_first fs) s.operands) known.0, tt) where
          index_told : (n : Option ℤ) → is_defined (operand_use j (name_first fs) (numbered op.IndexOf mode n)).what ≡ true → IsSilent (no_text_at m) (operand_use j (name_first fs) (numbered op.IndexOf mode n)).what
          index_told None known = absurd (false≢true known)
          index_told (Some i) known = leaf_silent op.IndexOf mode i refl

      -- which function is an error
      abbrev names_error : List ℕ × Function → Bool
      names_error x = not (is_error_function x.1) || same_text (codes "error") x.0

      error_named : (name : List ℕ) (g : Function) (xs : List (List ℕ × Function)) → list_all names_error xs ≡ true → found_under name xs ≡ Some g → is_error_function g ≡ true → same_text (codes "error") name ≡ true
      error_named name g [] all found is = absurd cc
      error_named name g (x ∷ xs) all found is = by (error_named name g xs (second_true (names_error x) (list_all names_error xs) all)) (same_text x.0 name) refl where
        function_or : Function → Option Function → Function
        function_or f None = f
        function_or f (Some h) = h

        either_true : (a b : Bool) → (not a || b) ≡ true → a ≡ true → b ≡ true
        either_true true b h e = h
        either_true false b h e = absurd (false≢true e)

        by : (found_under name xs ≡ Some g → is_error_function g ≡ true → same_text (codes "error") name ≡ true) → (b : Bool) → same_text x.0 name ≡ b → same_text (codes "error") name ≡ true
        by rest true same =
            let text : x.0 ≡ name = (bytes_decides x.0 name).0 same in
            let this : x.1 ≡ g = ap (function_or g) (sym (ap (λ c. if c then Some x.1 else found_under name xs) same) ∙ found) in
            subst (λ n. same_text (codes "error") n ≡ true) text (either_true (is_error_function x.1) (same_text (codes "error") x.0) (first_true (names_error x) (list_all names_error xs) all) (ap is_error_function this ∙ is))
        by rest false same = rest (sym (ap (λ c. if c then Some x.1 else found_under name xs) same) ∙ found) is

      all_name_errors : list_all names_error readings ≡ true
      unfolding readings
      all_name_errors = refl

      none_is_false : (o : Option (List ℕ)) → o ≡ None → is_some o ≡ false
      none_is_false o h = ap is_some h

      error_said : (f : Form) (x : Headed) → headed f ≡ Some x → text_of_error f ≡ None → same_text (codes "error") x.0 ≡ true → (first (behind_mode x.1) >>= string_of) ≡ None
      error_said f x is none error = sym (ap (λ b. if b then first (behind_mode x.1) >>= string_of else None) error) ∙ sym (ap (λ o. o >>= error_text) is) ∙ none

      known_told : (t : ℕ) (l : List (List ℕ)) (f : Form) (x : Headed) → headed f ≡ Some x → (o : Option Function) → function_of x.0 ≡ o → (holder : List ℕ) → known_faults (faults_to k) x.0 x.1 (shape_of x.0) ≡ [] → depth (known_rtl s (rtl_to k s) l x.1 o) ≤ suc t → texts_to (suc t) f ≡ []
          → AreDefined (known_uses s (uses_to k s) l x.1 o) → Quiet (known_uses s (uses_to k s) l x.1 o)
      unfolding function_of
      known_told t l f x is None found holder h deep none known = tt
      known_told t l f x is (Some g) found holder h deep none known = by (shape_of x.0) agrees.0 h where
        found_reading : found_under x.0 readings ≡ Some g
        found_reading = found

        agrees : Agrees x.0 g
        agrees = read_agrees x.0 g found_reading

        behind : List Form
        behind = behind_mode x.1

        shaped : (sh : Shape) → known_faults (faults_to k) x.0 x.1 (Some sh) ≡ [] → shaped_faults (faults_to k) x.0 sh (has_mode x.1) behind ≡ []
        shaped sh h = one (calls_another x.0 behind) h where
          one : (b : Bool) → (if b then (LeftOut, x.0) ∷ [] else shaped_faults (faults_to k) x.0 sh (has_mode x.1) behind) ≡ [] → shaped_faults (faults_to k) x.0 sh (has_mode x.1) behind ≡ []
          one true h = absurd cc
          one false h = h

        by : (o : Option Shape) → o ≡ shape_for g → known_faults (faults_to k) x.0 x.1 o ≡ [] → Quiet (known_uses s (uses_to k s) l x.1 (Some g))
        by None same h = absurd cc
        by (Some sh) same h =
            function_told t l x.0 (first_item x.1) (mode_first s.word_bits x.1) (has_mode x.1) behind g sh same (shaped sh h)
            (λ error. none_is_false (first behind >>= string_of) (error_said f x is (no_error_text t f none) (error_named x.0 g readings all_name_errors found_reading error)))
            deep (behind_none (texts_to t) x.1 (behind_head (texts_to t) f x is (within_none t f none))) known

      call_told : (t : ℕ) (l : List (List ℕ)) (f : Form) (o : Option Headed) → headed f ≡ o → (holder : List ℕ) → call_faults (faults_to k) holder o ≡ [] → depth (call_rtl s (rtl_to k s) l o) ≤ suc t → texts_to (suc t) f ≡ [] → AreDefined (call_uses s (uses_to k s) l o) → Quiet (call_uses s (uses_to k s) l o)
      call_told t l f None is holder h deep none known = tt
      call_told t l f (Some x) is holder h deep none known = known_told t l f x is (function_of x.0) refl holder h deep none known

      layer_told : (t : ℕ) (l : List (List ℕ)) (holder : List ℕ) (f : Form) (x : Layer) → layer_faults (call_faults (faults_to k) holder (headed f)) holder x ≡ [] → depth (layer_rtl s l (call_rtl s (rtl_to k s) l (headed f)) x) ≤ suc t → texts_to (suc t) f ≡ []
          → AreDefined (layer_uses s l (call_uses s (uses_to k s) l (headed f)) x) → Quiet (layer_uses s l (call_uses s (uses_to k s) l (headed f)) x)
      unfolding no_text_at
      layer_told t l holder f (Number n) h deep none known = (refl, tt)
      layer_told t l holder f (Symbol name) h deep none known = (symbol_silent s l name, tt)
      layer_told t l holder f (Str text) h deep none known = tt
      layer_told t l holder f (Flag b) h deep none known = tt
      layer_told t l holder f (Items fs) h deep none known = call_told t l f (headed f) refl holder h deep none known

    told_to : (k : ℕ) → Told k
    told_to zero t l holder f h deep none known = tt
    told_to (suc k) zero l holder f h deep none known = absurd (positive (rtl_to (suc k) s l f) deep)
    told_to (suc k) (suc t) l holder f h deep none known = layer_told k (told_to k) t l holder f (out-Form f) h deep none known

-- Nothing deeper than so many lists stands in an expression that has a mode, so its texts are found.
pub told : (s : Scope) (m : Machine) (f : Form) → faults_in f ≡ [] → nat_le (depth (rtl_of s f)) 64 ≡ true → texts_in f ≡ [] → list_all is_defined_at (uses_of s f) ≡ true → AreSilent (no_text_at m) (uses_of s f)
unfolding faults_in rtl_of texts_in uses_of
told s m f clear deep none known = told_to m s deepest deepest [] (codes "rtl") f clear (far (depth (rtl_to deepest s [] f)) deep) none (all_defined m (uses_to deepest s [] f) known) where
  far : (n : ℕ) → nat_le n 64 ≡ true → n ≤ deepest
  far n h = let low : n ≤ 64 = grind (arith, nat_tests) in omega (arith, low)
