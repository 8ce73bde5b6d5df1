-- The names that stand for nothing among what stands in an expression are those that the expression lacks.
use Rattle.std.proofs.Common.{◌≡◌, ℕ, zero, suc, ◌+◌, Bool, true, false, if◌then◌else◌, List, [], ◌∷◌, ◌++◌, map, length, take, drop, ℤ, pos, Option, Some, None, refl, sym, ap, ◌∙◌}
use Rattle.std.specs.List.{filter_map, cons_option, flat_map}
use Rattle.std.specs.Option.{option_or, option_map, unwrap_or}
use Rattle.cg_base.specs.declared.form.Form.{Form, out-Form}
use Rattle.cg_base.specs.declared.form.Form.TheOpen.{Number, Symbol, Str, Flag, Items}
use Rattle.cg_base.specs.declared.mode.Mode.{Mode}
use Rattle.cg_base.specs.Parts.{Layer, Headed, headed, symbol_in}
use Rattle.cg_model.specs.declared.rtl.Op.{Op}
use Rattle.cg_model.specs.declared.rtl.Op.TheVariants as op
use Rattle.cg_model.specs.declared.rtl.Rtl.{Rtl}
use Rattle.cg_rtl_resolve.specs.Names.{leaf, nothing, numbered, number_named, is_own, field_named, named_by_rule, bare_field, constant_named, operand_or_constant, named_beyond, last_place, enum_value, symbol_named, elements_first, elements_or_none, name_first, value_in, value_named, local_name, operand_index, mode_first, function_of, Lacking, lacks, symbol_lacks, value_lacks_in, value_lacks, arm_lacks, choice_lacks, arm_lacks_at, choice_lacks_at, hardware_lacks, function_lacks, known_lacks, call_lacks, layer_lacks, lacks_to, lacks_of}
use Rattle.cg_rtl_resolve.specs.declared.function.Function.{Function}
use Rattle.cg_rtl_resolve.specs.declared.function.Function.TheVariants as function
use Rattle.cg_rtl_resolve.specs.declared.scope.Lack.TheVariants as lack
use Rattle.cg_rtl_resolve.specs.declared.scope.Scope.{Scope}
use Rattle.cg_rtl.specs.Shapes.{behind_mode, is_else, deepest}
use Rattle.cg_rtl_uses.specs.Uses.{inside, here, at as placed_at, each_at, use_of, named_use, named_before, constant_use, symbol_by, symbol_use, arm_use, arm_uses, arm_uses_of, value_use, choice_by, choice_uses, choice_uses_of, local_use, register_use, operand_use, function_uses, first_item, known_uses, call_uses, layer_uses, uses_to, uses_of}
use Rattle.cg_rtl_uses.specs.declared.uses.PlacedUse.{PlacedUse}
use Rattle.cg_rtl_uses.specs.declared.uses.Use.{Use}
use Rattle.cg_rtl_uses.specs.declared.uses.Use.TheVariants.{Node, Constant, Undefined, Unknown}

abbrev pub lack_in : Use → Option Lacking
lack_in (Undefined name) = Some (lack.Undefined, name)
lack_in (Unknown name) = Some (lack.Unknown, name)
lack_in _ = None

abbrev pub lack_at : PlacedUse → Option Lacking
lack_at u = lack_in u.what

abbrev pub lacking : List PlacedUse → List Lacking
lacking us = filter_map lack_at us

-- part by part
lacking_append : (us vs : List PlacedUse) → lacking (us ++ vs) ≡ lacking us ++ lacking vs
lacking_append [] vs = refl
lacking_append (u ∷ us) vs = at (lacking_append us vs) (lack_at u) where
  at : lacking (us ++ vs) ≡ lacking us ++ lacking vs → (o : Option Lacking) → cons_option o (lacking (us ++ vs)) ≡ cons_option o (lacking us) ++ lacking vs
  at rest None = rest
  at rest (Some x) = ap (λ xs. x ∷ xs) rest

lacking_at : (k : ℕ) (us : List PlacedUse) → lacking (placed_at k us) ≡ lacking us
lacking_at k [] = refl
lacking_at k (u ∷ us) = ap (cons_option (lack_at u)) (lacking_at k us)

module _ (uses : Form → List PlacedUse) (lacks_in : Form → List Lacking) (same : (f : Form) → lacking (uses f) ≡ lacks_in f) where
  lacking_each : (k : ℕ) (fs : List Form) → lacking (each_at uses k fs) ≡ flat_map lacks_in fs
  lacking_each k [] = refl
  lacking_each k (f ∷ fs) =
      lacking_append (placed_at k (uses f)) (each_at uses (suc k) fs)
      ∙ ap (λ xs. xs ++ lacking (each_at uses (suc k) fs)) (lacking_at k (uses f) ∙ same f)
      ∙ ap (λ xs. lacks_in f ++ xs) (lacking_each (suc k) fs)

-- names
named_lacks : (name : List ℕ) (o : Option Rtl) → lacking (here (named_use name o) ∷ []) ≡ lacks lack.Undefined name o
named_lacks name None = refl
named_lacks name (Some r) = refl

constant_lacks : (name : List ℕ) (n : Option ℤ) → lacking (here (constant_use name n) ∷ []) ≡ lacks lack.Unknown name (numbered op.Number None n)
constant_lacks name None = refl
constant_lacks name (Some n) = refl

symbol_by_lacks : (s : Scope) (name : List ℕ) (a b c d : Option Rtl) → lacking (here (symbol_by s name (option_or a (option_or b (option_or c d)))) ∷ []) ≡ lacks lack.Unknown name (option_or a (option_or b (option_or c (option_or d (constant_named s name)))))
symbol_by_lacks s name (Some r) b c d = refl
symbol_by_lacks s name None (Some r) c d = refl
symbol_by_lacks s name None None (Some r) d = refl
symbol_by_lacks s name None None None (Some r) = refl
symbol_by_lacks s name None None None None = constant_lacks name (enum_value name s.enums)

symbol_agrees : (s : Scope) (l : List (List ℕ)) (name : List ℕ) → lacking (here (symbol_use s l name) ∷ []) ≡ symbol_lacks s l name
unfolding symbol_use symbol_lacks named_beyond
symbol_agrees s l name =
    symbol_by_lacks s name (numbered op.Local None (option_map pos (last_place name l))) (named_by_rule s name) (bare_field s name) (numbered op.OperandRef None (number_named name s.operands))

-- whatever mode is written
either_lacks : (name : List ℕ) (b : Bool) (own : Rtl) (mode : Option Mode) (f x : Option ℤ) → lacks lack.Undefined name (if b then Some own else option_or (numbered op.FieldRef mode f) (numbered op.MultiRef mode x)) ≡ lacks lack.Undefined name (if b then Some own else option_or (numbered op.FieldRef None f) (numbered op.MultiRef None x))
either_lacks name true own mode f x = refl
either_lacks name false own mode (Some n) x = refl
either_lacks name false own mode None (Some n) = refl
either_lacks name false own mode None None = refl

field_lacks : (s : Scope) (mode : Option Mode) (name : List ℕ) → lacking (here (named_use name (field_named s mode name)) ∷ []) ≡ lacks lack.Undefined name (field_named s None name)
field_lacks s mode name = named_lacks name (field_named s mode name) ∙ either_lacks name (is_own s.rule name) (leaf op.Value s.own (pos 0)) mode (number_named name s.fields) (number_named name s.multis)

register_lacks : (k : ℕ) (o : Op) (mode : Option Mode) (name : List ℕ) (n : Option ℤ) (rest : List PlacedUse) → lacking (register_use k o mode name n ∷ rest) ≡ elim n [ None ↦ (lack.Undefined, name) ∷ [] | Some i ↦ [] ] ++ lacking rest
register_lacks k o mode name None rest = refl
register_lacks k o mode name (Some i) rest = refl

index_lacks : (k : ℕ) (mode : Option Mode) (name : List ℕ) (n : Option ℤ) → lacking (operand_use k name (numbered op.IndexOf mode n) ∷ []) ≡ lacks lack.Undefined name (numbered op.IndexOf None n)
index_lacks k mode name None = refl
index_lacks k mode name (Some i) = refl

-- values of a `case`
value_layer : (s : Scope) (x : Layer) → lacking (here (named_use (unwrap_or (symbol_in x) []) (value_in s x)) ∷ []) ≡ value_lacks_in s x
value_layer s (Number n) = refl
value_layer s (Symbol name) = named_lacks name (constant_named s name)
value_layer s (Str text) = refl
value_layer s (Flag b) = refl
value_layer s (Items fs) = refl

value_agrees : (s : Scope) (f : Form) → lacking (value_use s f) ≡ value_lacks s f
value_agrees s f = value_layer s (out-Form f)

no_local : (bits k : ℕ) (fs : List Form) → lacking (each_at (local_use bits) k fs) ≡ []
no_local bits k [] = refl
no_local bits k (f ∷ fs) = no_local bits (suc k) fs

module _ (s : Scope) (depth : ℕ) (same : (l : List (List ℕ)) (f : Form) → lacking (uses_to depth s l f) ≡ lacks_to depth s l f) where
  each : (l : List (List ℕ)) (k : ℕ) (fs : List Form) → lacking (each_at (uses_to depth s l) k fs) ≡ flat_map (lacks_to depth s l) fs
  each l k fs = lacking_each (uses_to depth s l) (lacks_to depth s l) (same l) k fs

  arm_agrees : (l : List (List ℕ)) (f : Form) → lacking (arm_uses_of (uses_to depth s) l f) ≡ arm_lacks_at (lacks_to depth s) l f
  arm_agrees l f = at (is_else (elements_or_none f)) where
    fs : List Form
    fs = elements_or_none f

    at : (b : Bool) → lacking (if b then arm_use 0 ∷ each_at (uses_to depth s l) 1 (drop 1 fs) else arm_use 1 ∷ each_at (uses_to depth s l) 0 fs) ≡ flat_map (lacks_to depth s l) (if b then drop 1 fs else fs)
    at true = each l 1 (drop 1 fs)
    at false = each l 0 fs

  choice_agrees : (l : List (List ℕ)) (f : Form) → lacking (choice_uses_of s (uses_to depth s) l f) ≡ choice_lacks_at s (lacks_to depth s) l f
  choice_agrees l f = at (is_else (elements_or_none f)) where
    fs : List Form
    fs = elements_or_none f

    values : List Form
    values = elements_first fs

    at : (b : Bool) → lacking (if b then arm_use 0 ∷ each_at (uses_to depth s l) 1 (drop 1 fs) else choice_by s (uses_to depth s) l values (drop 1 fs))
        ≡ (if b then flat_map (lacks_to depth s l) (drop 1 fs) else flat_map (value_lacks s) values ++ flat_map (lacks_to depth s l) (drop 1 fs))
    at true = each l 1 (drop 1 fs)
    at false =
        lacking_append (placed_at 0 (each_at (value_use s) 0 values)) (each_at (uses_to depth s l) 1 (drop 1 fs))
        ∙ ap (λ xs. xs ++ lacking (each_at (uses_to depth s l) 1 (drop 1 fs))) (lacking_at 0 (each_at (value_use s) 0 values) ∙ lacking_each (value_use s) (value_lacks s) (value_agrees s) 0 values)
        ∙ ap (λ xs. flat_map (value_lacks s) values ++ xs) (each l 1 (drop 1 fs))

  function_agrees : (l : List (List ℕ)) (k : ℕ) (mode : Option Mode) (fs : List Form) (f : Function) → lacking (function_uses s (uses_to depth s) l k mode fs f) ≡ function_lacks s (lacks_to depth s) l fs f
  function_agrees l k mode fs (function.Operation o n) = each l k fs
  function_agrees l k mode fs (function.Behind o) = each l (k + 1) (drop 1 fs)
  function_agrees l k mode fs function.Constant = refl
  function_agrees l k mode fs function.Subword = each l k (take 1 fs)
  function_agrees l k mode fs function.Join = each l (k + 1) (drop 1 fs)
  function_agrees l k mode fs function.Cond = lacking_each (arm_uses_of (uses_to depth s) l) (arm_lacks_at (lacks_to depth s) l) (arm_agrees l) k fs
  function_agrees l k mode fs function.Case =
      lacking_append (each_at (uses_to depth s l) k (take 1 fs)) (each_at (choice_uses_of s (uses_to depth s) l) (k + 1) (drop 1 fs))
      ∙ ap (λ xs. xs ++ lacking (each_at (choice_uses_of s (uses_to depth s) l) (k + 1) (drop 1 fs))) (each l k (take 1 fs))
      ∙ ap (λ xs. flat_map (lacks_to depth s l) (take 1 fs) ++ xs) (lacking_each (choice_uses_of s (uses_to depth s) l) (choice_lacks_at s (lacks_to depth s) l) (choice_agrees l) (k + 1) (drop 1 fs))
  function_agrees l k mode fs function.Sequence =
      lacking_append (placed_at k (each_at (local_use s.word_bits) 0 (elements_first fs))) (each_at (uses_to depth s (l ++ map local_name (elements_first fs))) (k + 1) (drop 1 fs))
      ∙ ap (λ xs. xs ++ lacking (each_at (uses_to depth s (l ++ map local_name (elements_first fs))) (k + 1) (drop 1 fs))) (lacking_at k (each_at (local_use s.word_bits) 0 (elements_first fs)) ∙ no_local s.word_bits 0 (elements_first fs))
      ∙ each (l ++ map local_name (elements_first fs)) (k + 1) (drop 1 fs)
  function_agrees l k mode fs function.Delay = each l (k + 1) (drop 1 fs)
  function_agrees l k mode fs function.Error = refl
  function_agrees l k mode fs function.FieldNamed = field_lacks s mode (name_first fs)
  function_agrees l k mode fs (function.Register o) =
      register_lacks k o mode (name_first fs) (number_named (name_first fs) s.hardware) (each_at (uses_to depth s l) (k + 1) (drop 1 fs))
      ∙ ap (λ xs. hardware_lacks s (name_first fs) ++ xs) (each l (k + 1) (drop 1 fs))
  function_agrees l k mode fs function.IndexOf = index_lacks k mode (name_first fs) (number_named (name_first fs) s.operands)

  known_agrees : (l : List (List ℕ)) (behind : List Form) (o : Option Function) → lacking (known_uses s (uses_to depth s) l behind o) ≡ known_lacks s (lacks_to depth s) l behind o
  known_agrees l behind None = refl
  known_agrees l behind (Some f) = function_agrees l (first_item behind) (mode_first s.word_bits behind) (behind_mode behind) f

  call_agrees : (l : List (List ℕ)) (o : Option Headed) → lacking (call_uses s (uses_to depth s) l o) ≡ call_lacks s (lacks_to depth s) l o
  call_agrees l None = refl
  call_agrees l (Some x) = known_agrees l x.1 (function_of x.0)

  layer_agrees : (l : List (List ℕ)) (o : Option Headed) (x : Layer) → lacking (layer_uses s l (call_uses s (uses_to depth s) l o) x) ≡ layer_lacks s l (call_lacks s (lacks_to depth s) l o) x
  layer_agrees l o (Number n) = refl
  layer_agrees l o (Symbol name) = symbol_agrees s l name
  layer_agrees l o (Str text) = refl
  layer_agrees l o (Flag b) = refl
  layer_agrees l o (Items fs) = call_agrees l o

agree_to : (s : Scope) (depth : ℕ) (l : List (List ℕ)) (f : Form) → lacking (uses_to depth s l f) ≡ lacks_to depth s l f
agree_to s zero l f = refl
agree_to s (suc depth) l f = layer_agrees s depth (agree_to s depth) l (headed f) (out-Form f)

pub lacking_agrees : (s : Scope) (f : Form) → lacking (uses_of s f) ≡ lacks_of s f
unfolding uses_of lacks_of
lacking_agrees s f = agree_to s deepest [] f
