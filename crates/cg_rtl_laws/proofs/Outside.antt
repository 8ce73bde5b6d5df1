-- A value, an index or a new value stands in an expression only where its rule has one.
use Rattle.std.proofs.Common.{◌≡◌, ℕ, zero, suc, ◌+◌, Bool, true, false, ◌&&◌, if◌then◌else◌, List, [], ◌∷◌, ◌++◌, map, length, take, drop, ℤ, pos, Option, Some, None, refl, sym, ap, ◌∙◌}
use Rattle.std.specs.Prelude.{codes}
use Rattle.std.specs.List.{list_all}
use Rattle.std.specs.Option.{option_or, option_map, unwrap_or}
use Rattle.std.proofs.lemmas.Bool.{false≢true}
use Rattle.cg_base.specs.declared.form.Form.{Form, out-Form}
use Rattle.cg_base.specs.declared.form.Form.TheOpen.{Number, Symbol, Str, Flag, Items}
use Rattle.cg_base.specs.declared.mode.Mode.{Mode}
use Rattle.cg_base.specs.Parts.{Layer, Headed, headed}
use Rattle.cg_base.specs.Texts.{same_text}
use Rattle.cg_model_faults.specs.declared.fault.Purpose.{Purpose}
use Rattle.cg_model.specs.declared.rtl.Op.{Op}
use Rattle.cg_model.specs.declared.rtl.Op.TheVariants as op
use Rattle.cg_model.specs.declared.rtl.Rtl.{Rtl}
use Rattle.cg_model_faults.specs.Finding.{AtNode, in_nodes}
use Rattle.cg_model_faults.specs.Judging.{outside, has_value, has_index, has_new_value, outside_at, outside_rules}
use Rattle.cg_rtl_resolve.specs.Names.{found_under, node, leaf, nothing, numbered, given_where, rule_name, named_by_rule, is_own, is_pure, field_named, bare_field, enum_value, constant_named, operand_or_constant, named_beyond, number_named, last_place, symbol_named, symbol_rtl, number_first, name_first, text_first, elements_first, elements_or_none, arm, arm_at, value_of, choice_at, declare_of, local_name, operand_index, readings, function_rtl, known_rtl, call_rtl, layer_rtl, rtl_to, rtl_of, mode_first, function_of}
use Rattle.cg_rtl_resolve.specs.declared.function.Function.{Function}
use Rattle.cg_rtl_resolve.specs.declared.function.Function.TheVariants as function
use Rattle.cg_rtl_resolve.specs.declared.scope.Rule.{Rule}
use Rattle.cg_rtl_resolve.specs.declared.scope.Rule.TheVariants as rule
use Rattle.cg_rtl_resolve.specs.declared.scope.Scope.{Scope}
use Rattle.cg_rtl.specs.Shapes.{behind_mode, is_else, deepest}
use Rattle.cg_rtl_laws.specs.Covered.{IsPlain}
use Rattle.cg_rtl_laws.specs.Outside.{Fits, AreInside}
use Rattle.cg_rtl_laws.proofs.Covered.{AllQuiet, quiet_append, quiet_node, quiet_nothing, constant_quiet, values_quiet}

-- The operations that any rule may have.
abbrev is_common : Op → Bool
is_common op.Value = false
is_common op.Index = false
is_common op.NewVal = false
is_common _ = true

common_inside : (p : Purpose) (o : Op) (mode : Option Mode) (n : ℤ) → is_common o ≡ true → outside_at p o mode n ≡ []
unfolding outside_at
common_inside p op.Value mode n h = absurd (false≢true h)
common_inside p op.Index mode n h = absurd (false≢true h)
common_inside p op.NewVal mode n h = absurd (false≢true h)
common_inside p _ mode n h = refl

-- Those of functions.
abbrev has_common : Function → Bool
has_common (function.Operation o n) = is_common o
has_common (function.Behind o) = is_common o
has_common (function.Register o) = is_common o
has_common _ = true

abbrev reads_common : List ℕ × Function → Bool
reads_common x = has_common x.1

abbrev common_where : Option Function → Bool
common_where None = true
common_where (Some f) = has_common f

first_of : (a b : Bool) → (a && b) ≡ true → a ≡ true
first_of true b e = refl
first_of false b e = absurd (false≢true e)

rest_of : (a b : Bool) → (a && b) ≡ true → b ≡ true
rest_of true b e = e
rest_of false b e = absurd (false≢true e)

found_common : (name : List ℕ) (xs : List (List ℕ × Function)) → list_all reads_common xs ≡ true → common_where (found_under name xs) ≡ true
found_common name [] all = refl
found_common name (x ∷ xs) all = by (same_text x.0 name) (found_common name xs (rest_of (reads_common x) (list_all reads_common xs) all)) where
  by : (b : Bool) → common_where (found_under name xs) ≡ true → common_where (if b then Some x.1 else found_under name xs) ≡ true
  by true rest = first_of (reads_common x) (list_all reads_common xs) all
  by false rest = rest

all_common : list_all reads_common readings ≡ true
unfolding readings
all_common = refl

read_common : (name : List ℕ) → common_where (function_of name) ≡ true
unfolding function_of
read_common name = found_common name readings all_common

module _ (p : Purpose) where
  abbrev at : AtNode
  at = outside_at p

  pub plain : IsPlain at
  unfolding outside_at
  plain = record { nothing = refl; constant = λ n. refl; error = λ mode n h. refl }

  abbrev Inside : Option Rtl → Type 0
  Inside None = Unit {0}
  Inside (Some r) = in_nodes at r ≡ []

  common_leaf : (o : Op) (mode : Option Mode) (n : ℤ) → is_common o ≡ true → in_nodes at (leaf o mode n) ≡ []
  common_leaf o mode n h = quiet_node at plain o mode n [] (common_inside p o mode n h) tt

  common_numbered : (o : Op) (mode : Option Mode) (n : Option ℤ) → is_common o ≡ true → Inside (numbered o mode n)
  common_numbered o mode None h = tt
  common_numbered o mode (Some n) h = common_leaf o mode n h

  either : (a b : Option Rtl) → Inside a → Inside b → Inside (option_or a b)
  either None b h g = g
  either (Some r) b h g = h

  where_given : (b : Bool) (r : Rtl) → in_nodes at r ≡ [] → Inside (given_where b r)
  where_given true r h = h
  where_given false r h = tt

  first_or : (b : Bool) (r : Rtl) (other : Option Rtl) → in_nodes at r ≡ [] → Inside other → Inside (if b then Some r else other)
  first_or true r other h g = h
  first_or false r other h g = g

  only_if : (b : Bool) (o : Option Rtl) → Inside o → Inside (if b then o else None)
  only_if true o h = h
  only_if false o h = tt

  or_nothing : (o : Option Rtl) → Inside o → in_nodes at (unwrap_or o nothing) ≡ []
  or_nothing None h = quiet_nothing at plain
  or_nothing (Some r) h = h

  -- what its rule has
  value_leaf : (own : Option Mode) → has_value p ≡ true → in_nodes at (leaf op.Value own (pos 0)) ≡ []
  unfolding outside_at
  value_leaf own h = quiet_node at plain op.Value own (pos 0) [] (ap (λ b. outside b op.Value) h) tt

  index_leaf : has_index p ≡ true → in_nodes at (leaf op.Index None (pos 0)) ≡ []
  unfolding outside_at
  index_leaf h = quiet_node at plain op.Index None (pos 0) [] (ap (λ b. outside b op.Index) h) tt

  new_leaf : (own : Option Mode) → has_new_value p ≡ true → in_nodes at (leaf op.NewVal own (pos 0)) ≡ []
  unfolding outside_at
  new_leaf own h = quiet_node at plain op.NewVal own (pos 0) [] (ap (λ b. outside b op.NewVal) h) tt

  rule_inside : (r : Rule) → Fits r p → (own : Option Mode) (name : List ℕ) → Inside (rule_name r own name)
  rule_inside rule.Get fits own name = where_given (same_text name (codes "index")) (leaf op.Index None (pos 0)) (index_leaf fits)
  rule_inside rule.Set fits own name =
      first_or (same_text name (codes "index")) (leaf op.Index None (pos 0)) (given_where (same_text name (codes "newval")) (leaf op.NewVal own (pos 0))) (index_leaf fits.0)
      (where_given (same_text name (codes "newval")) (leaf op.NewVal own (pos 0)) (new_leaf own fits.1))
  rule_inside rule.Encode fits own name = where_given (same_text name (codes "value")) (leaf op.Value own (pos 0)) (value_leaf own fits)
  rule_inside rule.Decode fits own name = where_given (same_text name (codes "value")) (leaf op.Value own (pos 0)) (value_leaf own fits)
  rule_inside _ fits own name = tt

  -- in `insert` the multi field itself is the value
  own_inside : (r : Rule) → Fits r p → (own : Option Mode) (name : List ℕ) (other : Option Rtl) → Inside other → Inside (if is_own r name then Some (leaf op.Value own (pos 0)) else other)
  own_inside (rule.Insert multi) fits own name other h = first_or (same_text name multi) (leaf op.Value own (pos 0)) other (value_leaf own fits) h
  own_inside _ fits own name other h = h

module _ (s : Scope) (p : Purpose) (fits : Fits s.rule p) where
  field_inside : (mode : Option Mode) (name : List ℕ) → Inside p (field_named s mode name)
  field_inside mode name =
      own_inside p s.rule fits s.own name (option_or (numbered op.FieldRef mode (number_named name s.fields)) (numbered op.MultiRef mode (number_named name s.multis)))
      (either p (numbered op.FieldRef mode (number_named name s.fields)) (numbered op.MultiRef mode (number_named name s.multis)) (common_numbered p op.FieldRef mode (number_named name s.fields) refl) (common_numbered p op.MultiRef mode (number_named name s.multis) refl))

  beyond_inside : (name : List ℕ) → Inside p (named_beyond s name)
  unfolding named_beyond
  beyond_inside name =
      either p (named_by_rule s name) (option_or (bare_field s name) (operand_or_constant s name))
      (first_or p (same_text name (codes "pc")) (leaf op.Pc None (pos 0)) (rule_name s.rule s.own name) (common_leaf p op.Pc None (pos 0) refl) (rule_inside p s.rule fits s.own name))
      (either p (bare_field s name) (operand_or_constant s name) (only_if p (is_pure s.rule) (field_named s None name) (field_inside None name))
      (either p (numbered op.OperandRef None (number_named name s.operands)) (constant_named s name) (common_numbered p op.OperandRef None (number_named name s.operands) refl) (common_numbered p op.Number None (enum_value name s.enums) refl)))

  symbol_inside : (l : List (List ℕ)) (name : List ℕ) → in_nodes (at p) (symbol_rtl s l name) ≡ []
  unfolding symbol_rtl
  symbol_inside l name =
      or_nothing p (symbol_named s l name)
      (either p (numbered op.Local None (option_map pos (last_place name l))) (named_beyond s name) (common_numbered p op.Local None (option_map pos (last_place name l)) refl) (beyond_inside name))

  module _ (depth : ℕ) (inside : (l : List (List ℕ)) (f : Form) → in_nodes (at p) (rtl_to depth s l f) ≡ []) where
    each : (l : List (List ℕ)) (fs : List Form) → AllQuiet (at p) (plain p) (map (rtl_to depth s l) fs)
    each l [] = tt
    each l (f ∷ fs) = (inside l f, each l fs)

    common_node : (o : Op) (mode : Option Mode) (n : ℤ) (items : List Rtl) → is_common o ≡ true → AllQuiet (at p) (plain p) items → in_nodes (at p) (node o mode n items) ≡ []
    common_node o mode n items h g = quiet_node (at p) (plain p) o mode n items (common_inside p o mode n h) g

    arm_inside : (l : List (List ℕ)) (f : Form) → in_nodes (at p) (arm_at (rtl_to depth s) l f) ≡ []
    arm_inside l f = by (is_else (elements_or_none f)) where
      fs : List Form
      fs = elements_or_none f

      by : (b : Bool) → in_nodes (at p) (if b then arm [] (map (rtl_to depth s l) (drop 1 fs)) else node op.Arm None (pos 1) (map (rtl_to depth s l) fs)) ≡ []
      by true = common_node op.Arm None (pos 0) (map (rtl_to depth s l) (drop 1 fs)) refl (each l (drop 1 fs))
      by false = common_node op.Arm None (pos 1) (map (rtl_to depth s l) fs) refl (each l fs)

    choice_inside : (l : List (List ℕ)) (f : Form) → in_nodes (at p) (choice_at s (rtl_to depth s) l f) ≡ []
    choice_inside l f = by (is_else (elements_or_none f)) where
      fs : List Form
      fs = elements_or_none f

      values : List Form
      values = elements_first fs

      by : (b : Bool) → in_nodes (at p) (if b then arm [] (map (rtl_to depth s l) (drop 1 fs)) else arm (map (value_of s) values) (map (rtl_to depth s l) (drop 1 fs))) ≡ []
      by true = common_node op.Arm None (pos 0) (map (rtl_to depth s l) (drop 1 fs)) refl (each l (drop 1 fs))
      by false =
          common_node op.Arm None (pos (length (map (value_of s) values))) (map (value_of s) values ++ map (rtl_to depth s l) (drop 1 fs)) refl
          (quiet_append (at p) (plain p) (map (value_of s) values) (map (rtl_to depth s l) (drop 1 fs)) (values_quiet (at p) (plain p) s values) (each l (drop 1 fs)))

    all_of : (g : Form → Rtl) → ((f : Form) → in_nodes (at p) (g f) ≡ []) → (fs : List Form) → AllQuiet (at p) (plain p) (map g fs)
    all_of g h [] = tt
    all_of g h (f ∷ fs) = (h f, all_of g h fs)

    register_inside : (l : List (List ℕ)) (o : Op) (mode : Option Mode) (n : Option ℤ) (fs : List Form) → is_common o ≡ true → in_nodes (at p) (unwrap_or (elim n [ None ↦ None | Some i ↦ Some (node o mode i (map (rtl_to depth s l) fs)) ]) nothing) ≡ []
    register_inside l o mode None fs h = quiet_nothing (at p) (plain p)
    register_inside l o mode (Some i) fs h = common_node o mode i (map (rtl_to depth s l) fs) h (each l fs)

    function_inside : (l : List (List ℕ)) (mode : Option Mode) (fs : List Form) (f : Function) → has_common f ≡ true → in_nodes (at p) (function_rtl s (rtl_to depth s) l mode fs f) ≡ []
    function_inside l mode fs (function.Operation o n) h = common_node o mode (pos n) (map (rtl_to depth s l) fs) h (each l fs)
    function_inside l mode fs (function.Behind o) h = common_node o mode (pos 0) (map (rtl_to depth s l) (drop 1 fs)) h (each l (drop 1 fs))
    function_inside l mode fs function.Constant h = common_node op.Number mode (number_first fs) [] refl tt
    function_inside l mode fs function.Subword h = common_node op.Subword mode (number_first (drop 1 fs)) (map (rtl_to depth s l) (take 1 fs)) refl (each l (take 1 fs))
    function_inside l mode fs function.Join h = common_node op.Join mode (pos 0) (leaf op.Declare (mode_first s.word_bits fs) (pos 0) ∷ map (rtl_to depth s l) (drop 1 fs)) refl (common_leaf p op.Declare (mode_first s.word_bits fs) (pos 0) refl, each l (drop 1 fs))
    function_inside l mode fs function.Cond h = common_node op.Cond mode (pos 0) (map (arm_at (rtl_to depth s) l) fs) refl (all_of (arm_at (rtl_to depth s) l) (arm_inside l) fs)
    function_inside l mode fs function.Case h =
        common_node op.Case mode (pos 0) (map (rtl_to depth s l) (take 1 fs) ++ map (choice_at s (rtl_to depth s) l) (drop 1 fs)) refl
        (quiet_append (at p) (plain p) (map (rtl_to depth s l) (take 1 fs)) (map (choice_at s (rtl_to depth s) l) (drop 1 fs)) (each l (take 1 fs)) (all_of (choice_at s (rtl_to depth s) l) (choice_inside l) (drop 1 fs)))
    function_inside l mode fs function.Sequence h =
        let locals : List Form = elements_first fs in
        let among : List (List ℕ) = l ++ map local_name locals in
        common_node op.Sequence mode (pos (length locals)) (map (declare_of s.word_bits) locals ++ map (rtl_to depth s among) (drop 1 fs)) refl
        (quiet_append (at p) (plain p) (map (declare_of s.word_bits) locals) (map (rtl_to depth s among) (drop 1 fs)) (all_of (declare_of s.word_bits) (λ f. common_leaf p op.Declare (mode_first s.word_bits (elements_or_none f)) (pos 0) refl) locals) (each among (drop 1 fs)))
    function_inside l mode fs function.Delay h = common_node op.Delay mode (number_first fs) (map (rtl_to depth s l) (drop 1 fs)) refl (each l (drop 1 fs))
    function_inside l mode fs function.Error h = common_node op.Error mode (unwrap_or (number_named (text_first fs) s.texts) (pos 0)) [] refl tt
    function_inside l mode fs function.FieldNamed h = or_nothing p (field_named s mode (name_first fs)) (field_inside mode (name_first fs))
    function_inside l mode fs (function.Register o) h = register_inside l o mode (number_named (name_first fs) s.hardware) (drop 1 fs) h
    function_inside l mode fs function.IndexOf h = or_nothing p (operand_index s mode (name_first fs)) (common_numbered p op.IndexOf mode (number_named (name_first fs) s.operands) refl)

    known_inside : (l : List (List ℕ)) (behind : List Form) (o : Option Function) → common_where o ≡ true → in_nodes (at p) (known_rtl s (rtl_to depth s) l behind o) ≡ []
    known_inside l behind None h = quiet_nothing (at p) (plain p)
    known_inside l behind (Some f) h = function_inside l (mode_first s.word_bits behind) (behind_mode behind) f h

    call_inside : (l : List (List ℕ)) (o : Option Headed) → in_nodes (at p) (call_rtl s (rtl_to depth s) l o) ≡ []
    call_inside l None = quiet_nothing (at p) (plain p)
    call_inside l (Some x) = known_inside l x.1 (function_of x.0) (read_common x.0)

    layer_inside : (l : List (List ℕ)) (o : Option Headed) (x : Layer) → in_nodes (at p) (layer_rtl s l (call_rtl s (rtl_to depth s) l o) x) ≡ []
    layer_inside l o (Number n) = common_leaf p op.Number None n refl
    layer_inside l o (Symbol name) = symbol_inside l name
    layer_inside l o (Str text) = quiet_nothing (at p) (plain p)
    layer_inside l o (Flag b) = quiet_nothing (at p) (plain p)
    layer_inside l o (Items fs) = call_inside l o

  inside_to : (depth : ℕ) (l : List (List ℕ)) (f : Form) → in_nodes (at p) (rtl_to depth s l f) ≡ []
  inside_to zero l f = quiet_nothing (at p) (plain p)
  inside_to (suc depth) l f = layer_inside depth (inside_to depth) l (headed f) (out-Form f)

pub inside_by : (s : Scope) (p : Purpose) → Fits s.rule p → (f : Form) → outside_rules p (rtl_of s f) ≡ []
unfolding rtl_of
inside_by s p fits f = inside_to s p fits deepest [] f

pub inside_law : (s : Scope) → AreInside s
inside_law s = record { inside = λ p fits f. inside_by s p fits f }

pub ruleset inside = (inside_law)
