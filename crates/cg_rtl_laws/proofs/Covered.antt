-- What is said of no node that stands in an expression is said of no node of what it stands for, function by function.
use Rattle.std.proofs.Common.{◌≡◌, ℕ, zero, suc, ◌+◌, Bool, true, false, if◌then◌else◌, List, [], ◌∷◌, ◌++◌, map, length, take, drop, ℤ, pos, Option, Some, None, refl, sym, ap, ◌∙◌}
use Rattle.std.specs.Option.{option_or, option_map, unwrap_or}
use Rattle.cg_base.specs.declared.form.Form.{Form, out-Form}
use Rattle.cg_base.specs.declared.form.Form.TheOpen.{Number, Symbol, Str, Flag, Items}
use Rattle.cg_base.specs.declared.mode.Mode.{Mode}
use Rattle.cg_base.specs.Parts.{Layer, Headed, headed}
use Rattle.cg_base.specs.Texts.{same_text}
use Rattle.std.specs.Prelude.{codes}
use Rattle.cg_model.specs.declared.rtl.Op.{Op}
use Rattle.cg_model.specs.declared.rtl.Op.TheVariants as op
use Rattle.cg_model.specs.declared.rtl.Rtl.{Rtl, out-Rtl, Rtl-F, roll-Rtl, fold-roll-Rtl, out-roll-Rtl}
use Rattle.cg_model_faults.specs.Finding.{Faults, AtNode, of_each, node_step, in_nodes}
use Rattle.cg_rtl_resolve.specs.Names.{node, leaf, nothing, numbered, given_where, rule_name, named_by_rule, is_own, is_pure, field_named, bare_field, enum_value, constant_named, operand_or_constant, named_beyond, number_named, last_place, symbol_named, symbol_rtl, number_first, name_first, text_first, elements_first, elements_or_none, arm, arm_of, arm_at, value_in, value_named, value_of, choice_of, choice_at, declare_of, local_name, register_named, operand_index, sequence_of, function_rtl, known_rtl, call_rtl, layer_rtl, rtl_to, rtl_of, mode_first, function_of}
use Rattle.cg_rtl_resolve.specs.declared.function.Function.{Function}
use Rattle.cg_rtl_resolve.specs.declared.function.Function.TheVariants as function
use Rattle.cg_rtl_resolve.specs.declared.scope.Rule.{Rule}
use Rattle.cg_rtl_resolve.specs.declared.scope.Rule.TheVariants as rule
use Rattle.cg_rtl_resolve.specs.declared.scope.Scope.{Scope}
use Rattle.cg_rtl.specs.Shapes.{behind_mode, is_else, deepest}
use Rattle.cg_rtl_uses.specs.Uses.{here, inside, at as placed_at, each_at, use_of, named_use, named_before, constant_use, symbol_by, symbol_use, arm_use, arm_uses, arm_uses_of, value_use, choice_by, choice_uses, choice_uses_of, declare_use, local_use, sequence_uses, register_use, operand_use, function_uses, first_item, known_uses, call_uses, layer_uses, uses_to, uses_of}
use Rattle.cg_rtl_uses.specs.declared.uses.PlacedUse.{PlacedUse}
use Rattle.cg_rtl_uses.specs.declared.uses.Use.{Use}
use Rattle.cg_rtl_uses.specs.declared.uses.Use.TheVariants.{Node, Constant, Undefined, Unknown}
use Rattle.cg_rtl_laws.specs.Covered.{IsSilent, AreSilent, IsPlain, AreCovered}

-- items that are written out have as many of them
pub length_mapped : {A B : Type 0} (f : A → B) (xs : List A) → length (map f xs) ≡ length xs
length_mapped f [] = refl
length_mapped f (x ∷ xs) = ap suc (length_mapped f xs)

module _ (at : AtNode) (plain : IsPlain at) where
  -- Nothing is said of these expressions.
  abbrev pub AllQuiet : List Rtl → Type 0
  AllQuiet [] = Unit {0}
  AllQuiet (x ∷ xs) = (in_nodes at x ≡ []) × AllQuiet xs

  pub quiet_append : (xs ys : List Rtl) → AllQuiet xs → AllQuiet ys → AllQuiet (xs ++ ys)
  quiet_append [] ys h g = g
  quiet_append (x ∷ xs) ys h g = (h.0, quiet_append xs ys h.1 g)

  none_of_each : (xs : List Rtl) → AllQuiet xs → of_each (map (in_nodes at) xs) ≡ []
  none_of_each [] h = refl
  none_of_each (x ∷ xs) h = ap (λ fs. fs ++ of_each (map (in_nodes at) xs)) h.0 ∙ none_of_each xs h.1

  pub quiet_node : (o : Op) (mode : Option Mode) (n : ℤ) (items : List Rtl) → at o mode n ≡ [] → AllQuiet items → in_nodes at (node o mode n items) ≡ []
  unfolding in_nodes
  quiet_node o mode n items h g =
      fold-roll-Rtl Faults (node_step at) (record { op = o; mode = mode; number = n; items = items })
      ∙ ap (λ fs. fs ++ of_each (map (in_nodes at) items)) h ∙ none_of_each items g

  pub quiet_nothing : in_nodes at nothing ≡ []
  quiet_nothing = quiet_node op.Nop None (pos 0) [] plain.nothing tt

  -- what stands at several places
  silent_both : (us vs : List PlacedUse) → AreSilent at (us ++ vs) → AreSilent at us × AreSilent at vs
  silent_both [] vs h = (tt, h)
  silent_both (u ∷ us) vs h = let rest : AreSilent at us × AreSilent at vs = silent_both us vs h.1 in ((h.0, rest.0), rest.1)

  silent_inside : (k : ℕ) (us : List PlacedUse) → AreSilent at (placed_at k us) → AreSilent at us
  silent_inside k [] h = tt
  silent_inside k (u ∷ us) h = (h.0, silent_inside k us h.1)

  module _ (uses : Form → List PlacedUse) (rtl : Form → Rtl) (quiet : (f : Form) → AreSilent at (uses f) → in_nodes at (rtl f) ≡ []) where
    quiet_each : (k : ℕ) (fs : List Form) → AreSilent at (each_at uses k fs) → AllQuiet (map rtl fs)
    quiet_each k [] h = tt
    quiet_each k (f ∷ fs) h =
        let both : AreSilent at (placed_at k (uses f)) × AreSilent at (each_at uses (suc k) fs) = silent_both (placed_at k (uses f)) (each_at uses (suc k) fs) h in
        (quiet f (silent_inside k (uses f) both.0), quiet_each (suc k) fs both.1)

  -- A name stands for a leaf of which nothing is said where nothing is said of its use.
  abbrev Agrees : Option Rtl → Type 0
  Agrees None = Unit {0}
  Agrees (Some r) = IsSilent at (use_of r) → in_nodes at r ≡ []

  leaf_agrees : (o : Op) (mode : Option Mode) (n : ℤ) → IsSilent at (use_of (leaf o mode n)) → in_nodes at (leaf o mode n) ≡ []
  leaf_agrees o mode n h =
      let out : out-Rtl (leaf o mode n) ≡ record { op = o; mode = mode; number = n; items = [] } = out-roll-Rtl (record { op = o; mode = mode; number = n; items = [] }) in
      quiet_node o mode n [] (sym (ap (λ (x : Rtl-F Rtl). at x.op x.mode x.number) out) ∙ h) tt

  numbered_agrees : (o : Op) (mode : Option Mode) (n : Option ℤ) → Agrees (numbered o mode n)
  numbered_agrees o mode None = tt
  numbered_agrees o mode (Some n) = leaf_agrees o mode n

  either : (a b : Option Rtl) → Agrees a → Agrees b → Agrees (option_or a b)
  either None b h g = g
  either (Some r) b h g = h

  where_given : (b : Bool) (o : Op) (mode : Option Mode) (n : ℤ) → Agrees (given_where b (leaf o mode n))
  where_given true o mode n = leaf_agrees o mode n
  where_given false o mode n = tt

  first_or : (b : Bool) (o : Op) (mode : Option Mode) (n : ℤ) (other : Option Rtl) → Agrees other → Agrees (if b then Some (leaf o mode n) else other)
  first_or true o mode n other h = leaf_agrees o mode n
  first_or false o mode n other h = h

  only_if : (b : Bool) (o : Option Rtl) → Agrees o → Agrees (if b then o else None)
  only_if true o h = h
  only_if false o h = tt

  rule_agrees : (r : Rule) (own : Option Mode) (name : List ℕ) → Agrees (rule_name r own name)
  rule_agrees rule.Get own name = where_given (same_text name (codes "index")) op.Index None (pos 0)
  rule_agrees rule.Set own name = first_or (same_text name (codes "index")) op.Index None (pos 0) (given_where (same_text name (codes "newval")) (leaf op.NewVal own (pos 0))) (where_given (same_text name (codes "newval")) op.NewVal own (pos 0))
  rule_agrees rule.Encode own name = where_given (same_text name (codes "value")) op.Value own (pos 0)
  rule_agrees rule.Decode own name = where_given (same_text name (codes "value")) op.Value own (pos 0)
  rule_agrees _ own name = tt

  module _ (s : Scope) where
    by_rule_agrees : (name : List ℕ) → Agrees (named_by_rule s name)
    by_rule_agrees name = first_or (same_text name (codes "pc")) op.Pc None (pos 0) (rule_name s.rule s.own name) (rule_agrees s.rule s.own name)

    field_agrees : (mode : Option Mode) (name : List ℕ) → Agrees (field_named s mode name)
    field_agrees mode name =
        first_or (is_own s.rule name) op.Value s.own (pos 0) (option_or (numbered op.FieldRef mode (number_named name s.fields)) (numbered op.MultiRef mode (number_named name s.multis)))
        (either (numbered op.FieldRef mode (number_named name s.fields)) (numbered op.MultiRef mode (number_named name s.multis)) (numbered_agrees op.FieldRef mode (number_named name s.fields)) (numbered_agrees op.MultiRef mode (number_named name s.multis)))

    -- names that are asked for by their kind
    named_quiet : (name : List ℕ) (o : Option Rtl) → Agrees o → IsSilent at (named_use name o) → in_nodes at (unwrap_or o nothing) ≡ []
    named_quiet name None h silent = quiet_nothing
    named_quiet name (Some r) h silent = h silent

    pub constant_quiet : (name : List ℕ) (n : Option ℤ) → in_nodes at (unwrap_or (numbered op.Number None n) nothing) ≡ []
    constant_quiet name None = quiet_nothing
    constant_quiet name (Some n) = quiet_node op.Number None n [] (plain.constant n) tt

    -- bare symbols
    one_of_five : (name : List ℕ) (a b c d : Option Rtl) → Agrees a → Agrees b → Agrees c → Agrees d → IsSilent at (symbol_by s name (option_or a (option_or b (option_or c d))))
        → in_nodes at (unwrap_or (option_or a (option_or b (option_or c (option_or d (constant_named s name))))) nothing) ≡ []
    one_of_five name (Some r) b c d h i j k silent = h silent
    one_of_five name None (Some r) c d h i j k silent = i silent
    one_of_five name None None (Some r) d h i j k silent = j silent
    one_of_five name None None None (Some r) h i j k silent = k silent
    one_of_five name None None None None h i j k silent = constant_quiet name (enum_value name s.enums)

    symbol_quiet : (l : List (List ℕ)) (name : List ℕ) → IsSilent at (symbol_use s l name) → in_nodes at (symbol_rtl s l name) ≡ []
    unfolding symbol_use symbol_rtl named_beyond
    symbol_quiet l name silent =
        one_of_five name (numbered op.Local None (option_map pos (last_place name l))) (named_by_rule s name) (bare_field s name) (numbered op.OperandRef None (number_named name s.operands))
        (numbered_agrees op.Local None (option_map pos (last_place name l))) (by_rule_agrees name) (only_if (is_pure s.rule) (field_named s None name) (field_agrees None name)) (numbered_agrees op.OperandRef None (number_named name s.operands)) silent

    -- values of a `case`
    value_quiet_in : (x : Layer) → in_nodes at (unwrap_or (value_in s x) nothing) ≡ []
    value_quiet_in (Number n) = quiet_node op.Number None n [] (plain.constant n) tt
    value_quiet_in (Symbol name) = constant_quiet name (enum_value name s.enums)
    value_quiet_in (Str text) = quiet_nothing
    value_quiet_in (Flag b) = quiet_nothing
    value_quiet_in (Items fs) = quiet_nothing

    pub values_quiet : (fs : List Form) → AllQuiet (map (value_of s) fs)
    values_quiet [] = tt
    values_quiet (f ∷ fs) = (value_quiet_in (out-Form f), values_quiet fs)

    locals_quiet : (k : ℕ) (fs : List Form) → AreSilent at (each_at (local_use s.word_bits) k fs) → AllQuiet (map (declare_of s.word_bits) fs)
    locals_quiet k [] h = tt
    locals_quiet k (f ∷ fs) h = (quiet_node op.Declare (mode_first s.word_bits (elements_or_none f)) (pos 0) [] h.0 tt, locals_quiet (suc k) fs h.1)

    module _ (depth : ℕ) (quiet : (l : List (List ℕ)) (f : Form) → AreSilent at (uses_to depth s l f) → in_nodes at (rtl_to depth s l f) ≡ []) where
      each : (l : List (List ℕ)) (k : ℕ) (fs : List Form) → AreSilent at (each_at (uses_to depth s l) k fs) → AllQuiet (map (rtl_to depth s l) fs)
      each l k fs h = quiet_each (uses_to depth s l) (rtl_to depth s l) (quiet l) k fs h

      arm_quiet : (l : List (List ℕ)) (f : Form) → AreSilent at (arm_uses_of (uses_to depth s) l f) → in_nodes at (arm_at (rtl_to depth s) l f) ≡ []
      arm_quiet l f h = by (is_else (elements_or_none f)) h where
        fs : List Form
        fs = elements_or_none f

        by : (b : Bool) → AreSilent at (if b then arm_use 0 ∷ each_at (uses_to depth s l) 1 (drop 1 fs) else arm_use 1 ∷ each_at (uses_to depth s l) 0 fs)
            → in_nodes at (if b then arm [] (map (rtl_to depth s l) (drop 1 fs)) else node op.Arm None (pos 1) (map (rtl_to depth s l) fs)) ≡ []
        by true h = quiet_node op.Arm None (pos 0) (map (rtl_to depth s l) (drop 1 fs)) h.0 (each l 1 (drop 1 fs) h.1)
        by false h = quiet_node op.Arm None (pos 1) (map (rtl_to depth s l) fs) h.0 (each l 0 fs h.1)

      choice_quiet : (l : List (List ℕ)) (f : Form) → AreSilent at (choice_uses_of s (uses_to depth s) l f) → in_nodes at (choice_at s (rtl_to depth s) l f) ≡ []
      choice_quiet l f h = by (is_else (elements_or_none f)) h where
        fs : List Form
        fs = elements_or_none f

        values : List Form
        values = elements_first fs

        by : (b : Bool) → AreSilent at (if b then arm_use 0 ∷ each_at (uses_to depth s l) 1 (drop 1 fs) else choice_by s (uses_to depth s) l values (drop 1 fs))
            → in_nodes at (if b then arm [] (map (rtl_to depth s l) (drop 1 fs)) else arm (map (value_of s) values) (map (rtl_to depth s l) (drop 1 fs))) ≡ []
        by true h = quiet_node op.Arm None (pos 0) (map (rtl_to depth s l) (drop 1 fs)) h.0 (each l 1 (drop 1 fs) h.1)
        by false h =
            let both : AreSilent at (placed_at 0 (each_at (value_use s) 0 values)) × AreSilent at (each_at (uses_to depth s l) 1 (drop 1 fs)) = silent_both (placed_at 0 (each_at (value_use s) 0 values)) (each_at (uses_to depth s l) 1 (drop 1 fs)) h.1 in
            quiet_node op.Arm None (pos (length (map (value_of s) values))) (map (value_of s) values ++ map (rtl_to depth s l) (drop 1 fs))
            (ap (λ n. at op.Arm None (pos n)) (length_mapped (value_of s) values) ∙ h.0)
            (quiet_append (map (value_of s) values) (map (rtl_to depth s l) (drop 1 fs)) (values_quiet values) (each l 1 (drop 1 fs) both.1))

      register_quiet : (l : List (List ℕ)) (k : ℕ) (o : Op) (mode : Option Mode) (name : List ℕ) (n : Option ℤ) (fs : List Form) → AreSilent at (register_use k o mode name n ∷ each_at (uses_to depth s l) (k + 1) fs)
          → in_nodes at (unwrap_or (elim n [ None ↦ None | Some i ↦ Some (node o mode i (map (rtl_to depth s l) fs)) ]) nothing) ≡ []
      register_quiet l k o mode name None fs h = quiet_nothing
      register_quiet l k o mode name (Some i) fs h = quiet_node o mode i (map (rtl_to depth s l) fs) h.0 (each l (k + 1) fs h.1)

      index_quiet : (k : ℕ) (mode : Option Mode) (name : List ℕ) (n : Option ℤ) → IsSilent at (operand_use k name (numbered op.IndexOf mode n)).what → in_nodes at (unwrap_or (numbered op.IndexOf mode n) nothing) ≡ []
      index_quiet k mode name None h = quiet_nothing
      index_quiet k mode name (Some i) h = leaf_agrees op.IndexOf mode i h

      function_quiet : (l : List (List ℕ)) (k : ℕ) (mode : Option Mode) (fs : List Form) (f : Function) → AreSilent at (function_uses s (uses_to depth s) l k mode fs f) → in_nodes at (function_rtl s (rtl_to depth s) l mode fs f) ≡ []
      function_quiet l k mode fs (function.Operation o n) h = quiet_node o mode (pos n) (map (rtl_to depth s l) fs) h.0 (each l k fs h.1)
      function_quiet l k mode fs (function.Behind o) h = quiet_node o mode (pos 0) (map (rtl_to depth s l) (drop 1 fs)) h.0 (each l (k + 1) (drop 1 fs) h.1)
      function_quiet l k mode fs function.Constant h = quiet_node op.Number mode (number_first fs) [] h.0 tt
      function_quiet l k mode fs function.Subword h = quiet_node op.Subword mode (number_first (drop 1 fs)) (map (rtl_to depth s l) (take 1 fs)) h.0 (each l k (take 1 fs) h.1)
      function_quiet l k mode fs function.Join h =
          quiet_node op.Join mode (pos 0) (leaf op.Declare (mode_first s.word_bits fs) (pos 0) ∷ map (rtl_to depth s l) (drop 1 fs)) h.0
          (quiet_node op.Declare (mode_first s.word_bits fs) (pos 0) [] h.1.0 tt, each l (k + 1) (drop 1 fs) h.1.1)
      function_quiet l k mode fs function.Cond h = quiet_node op.Cond mode (pos 0) (map (arm_at (rtl_to depth s) l) fs) h.0 (quiet_each (arm_uses_of (uses_to depth s) l) (arm_at (rtl_to depth s) l) (arm_quiet l) k fs h.1)
      function_quiet l k mode fs function.Case h =
          let both : AreSilent at (each_at (uses_to depth s l) k (take 1 fs)) × AreSilent at (each_at (choice_uses_of s (uses_to depth s) l) (k + 1) (drop 1 fs)) =
          silent_both (each_at (uses_to depth s l) k (take 1 fs)) (each_at (choice_uses_of s (uses_to depth s) l) (k + 1) (drop 1 fs)) h.1 in
          quiet_node op.Case mode (pos 0) (map (rtl_to depth s l) (take 1 fs) ++ map (choice_at s (rtl_to depth s) l) (drop 1 fs)) h.0
          (quiet_append (map (rtl_to depth s l) (take 1 fs)) (map (choice_at s (rtl_to depth s) l) (drop 1 fs)) (each l k (take 1 fs) both.0)
          (quiet_each (choice_uses_of s (uses_to depth s) l) (choice_at s (rtl_to depth s) l) (choice_quiet l) (k + 1) (drop 1 fs) both.1))
      function_quiet l k mode fs function.Sequence h =
          let locals : List Form = elements_first fs in
          let among : List (List ℕ) = l ++ map local_name locals in
          let both : AreSilent at (placed_at k (each_at (local_use s.word_bits) 0 locals)) × AreSilent at (each_at (uses_to depth s among) (k + 1) (drop 1 fs)) =
          silent_both (placed_at k (each_at (local_use s.word_bits) 0 locals)) (each_at (uses_to depth s among) (k + 1) (drop 1 fs)) h.1 in
          quiet_node op.Sequence mode (pos (length locals)) (map (declare_of s.word_bits) locals ++ map (rtl_to depth s among) (drop 1 fs)) h.0
          (quiet_append (map (declare_of s.word_bits) locals) (map (rtl_to depth s among) (drop 1 fs)) (locals_quiet 0 locals (silent_inside k (each_at (local_use s.word_bits) 0 locals) both.0)) (each among (k + 1) (drop 1 fs) both.1))
      function_quiet l k mode fs function.Delay h = quiet_node op.Delay mode (number_first fs) (map (rtl_to depth s l) (drop 1 fs)) h.0 (each l (k + 1) (drop 1 fs) h.1)
      function_quiet l k mode fs function.Error h = quiet_node op.Error mode (unwrap_or (number_named (text_first fs) s.texts) (pos 0)) [] (plain.error mode (unwrap_or (number_named (text_first fs) s.texts) (pos 0)) h.0) tt
      function_quiet l k mode fs function.FieldNamed h = named_quiet (name_first fs) (field_named s mode (name_first fs)) (field_agrees mode (name_first fs)) h.0
      function_quiet l k mode fs (function.Register o) h = register_quiet l k o mode (name_first fs) (number_named (name_first fs) s.hardware) (drop 1 fs) h
      function_quiet l k mode fs function.IndexOf h = index_quiet k mode (name_first fs) (number_named (name_first fs) s.operands) h.0

      known_quiet : (l : List (List ℕ)) (behind : List Form) (o : Option Function) → AreSilent at (known_uses s (uses_to depth s) l behind o) → in_nodes at (known_rtl s (rtl_to depth s) l behind o) ≡ []
      known_quiet l behind None h = quiet_nothing
      known_quiet l behind (Some f) h = function_quiet l (first_item behind) (mode_first s.word_bits behind) (behind_mode behind) f h

      call_quiet : (l : List (List ℕ)) (o : Option Headed) → AreSilent at (call_uses s (uses_to depth s) l o) → in_nodes at (call_rtl s (rtl_to depth s) l o) ≡ []
      call_quiet l None h = quiet_nothing
      call_quiet l (Some x) h = known_quiet l x.1 (function_of x.0) h

      layer_quiet : (l : List (List ℕ)) (o : Option Headed) (x : Layer) → AreSilent at (layer_uses s l (call_uses s (uses_to depth s) l o) x) → in_nodes at (layer_rtl s l (call_rtl s (rtl_to depth s) l o) x) ≡ []
      layer_quiet l o (Number n) h = quiet_node op.Number None n [] h.0 tt
      layer_quiet l o (Symbol name) h = symbol_quiet l name h.0
      layer_quiet l o (Str text) h = quiet_nothing
      layer_quiet l o (Flag b) h = quiet_nothing
      layer_quiet l o (Items fs) h = call_quiet l o h

    quiet_to : (depth : ℕ) (l : List (List ℕ)) (f : Form) → AreSilent at (uses_to depth s l f) → in_nodes at (rtl_to depth s l f) ≡ []
    quiet_to zero l f h = quiet_nothing
    quiet_to (suc depth) l f h = layer_quiet depth (quiet_to depth) l (headed f) (out-Form f) h

covered_by : (at : AtNode) → IsPlain at → (s : Scope) (f : Form) → AreSilent at (uses_of s f) → in_nodes at (rtl_of s f) ≡ []
unfolding uses_of rtl_of
covered_by at plain s f h = quiet_to at plain s deepest [] f h

pub covered_law : (s : Scope) → AreCovered s
covered_law s = record { covered = λ at plain f h. covered_by at plain s f h }

pub ruleset covered = (covered_law)
