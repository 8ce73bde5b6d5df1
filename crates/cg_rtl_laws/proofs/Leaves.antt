-- What names stand for is formed.
use Rattle.std.proofs.Common.{◌≡◌, ℕ, Bool, true, false, not, ◌||◌, ◌&&◌, if◌then◌else◌, List, [], ◌∷◌, ◌++◌, map, ℤ, pos, Option, Some, None, is_some, refl, sym, ap, ◌∙◌, subst}
use Rattle.std.specs.Prelude.{codes}
use Rattle.std.specs.List.{list_all, list_any}
use Rattle.std.specs.Option.{option_or, option_map, unwrap_or}
use Rattle.std.specs.Cmp.Lexicographic.{bytes_decides}
use Rattle.std.proofs.lemmas.Bool.{false≢true}
use Rattle.cg_base.specs.ModeWords.{gives_mode}
use Rattle.cg_base.specs.declared.form.Form.{Form, out-Form}
use Rattle.cg_base.specs.declared.mode.Mode.{Mode}
use Rattle.cg_base.specs.Parts.{◌>>=◌}
use Rattle.cg_base.specs.Texts.{same_text, is_among, passes}
use Rattle.cg_model.specs.Formed.{As, expression, named, declared, is_moded, is_numbered, is_zero, stands_at, items_stand, stands}
use Rattle.cg_model.specs.declared.rtl.Op.{Op}
use Rattle.cg_model.specs.declared.rtl.Op.TheVariants as op
use Rattle.cg_model.specs.declared.rtl.Rtl.{Rtl}
use Rattle.cg_rtl_resolve.specs.Names.{found_under, mode_words, meant, mode_named, mode_first, node, leaf, nothing, numbered, given_where, rule_name, named_by_rule, is_own, is_pure, field_named, bare_field, enum_value, constant_named, operand_or_constant, named_beyond, number_named, last_place, symbol_named, symbol_rtl, operand_index}
use Rattle.cg_rtl_resolve.specs.declared.scope.Rule.{Rule as Ruled}
use Rattle.cg_rtl_resolve.specs.declared.scope.Rule.TheVariants as rule
use Rattle.cg_rtl_resolve.specs.declared.scope.Scope.{Scope}
use Rattle.cg_rtl_resolve.specs.declared.words.Wording.{Wording}
use Rattle.cg_rtl.specs.Shapes.{first_symbol}
use Rattle.cg_rtl_laws.specs.Shaped.{has_value, gives_value}
use Rattle.cg_rtl_laws.proofs.Nodes.{built}

-- Leaves, by their operations.
abbrev pub is_leaf : Op → Bool
is_leaf op.Number = true
is_leaf op.Local = true
is_leaf op.OperandRef = true
is_leaf op.Value = true
is_leaf op.Index = true
is_leaf op.NewVal = true
is_leaf op.Pc = true
is_leaf op.FieldRef = true
is_leaf op.MultiRef = true
is_leaf op.IndexOf = true
is_leaf op.Nop = true
is_leaf op.Error = true
is_leaf _ = false

leaf_inside : (o : Op) (n : ℤ) → is_leaf o ≡ true → items_stand o n [] ≡ true
unfolding items_stand
leaf_inside op.Number n h = refl
leaf_inside op.Local n h = refl
leaf_inside op.OperandRef n h = refl
leaf_inside op.Value n h = refl
leaf_inside op.Index n h = refl
leaf_inside op.NewVal n h = refl
leaf_inside op.Pc n h = refl
leaf_inside op.FieldRef n h = refl
leaf_inside op.MultiRef n h = refl
leaf_inside op.IndexOf n h = refl
leaf_inside op.Nop n h = refl
leaf_inside op.Error n h = refl
leaf_inside _ n h = absurd (false≢true h)

leaf_at : (o : Op) → is_leaf o ≡ true → stands_at o expression ≡ true
unfolding stands_at
leaf_at op.Number h = refl
leaf_at op.Local h = refl
leaf_at op.OperandRef h = refl
leaf_at op.Value h = refl
leaf_at op.Index h = refl
leaf_at op.NewVal h = refl
leaf_at op.Pc h = refl
leaf_at op.FieldRef h = refl
leaf_at op.MultiRef h = refl
leaf_at op.IndexOf h = refl
leaf_at op.Nop h = refl
leaf_at op.Error h = refl
leaf_at _ h = absurd (false≢true h)

pub leaf_stands : (o : Op) (mode : Option Mode) (n : ℤ) → is_leaf o ≡ true → (not (is_moded o) || is_some mode) ≡ true → (is_numbered o || is_zero n) ≡ true → stands (leaf o mode n) expression ≡ true
leaf_stands o mode n h moded number = built o mode n [] expression (leaf_at o h) moded number (leaf_inside o n h)

pub nothing_stands : stands nothing expression ≡ true
unfolding is_moded is_numbered
nothing_stands = leaf_stands op.Nop None (pos 0) refl refl refl

-- where there is something, it stands
abbrev pub StandsWhere : Option Rtl → Type 0
StandsWhere None = Unit {0}
StandsWhere (Some r) = stands r expression ≡ true

pub or_nothing : (o : Option Rtl) → StandsWhere o → stands (unwrap_or o nothing) expression ≡ true
or_nothing None h = nothing_stands
or_nothing (Some r) h = h

either : (a b : Option Rtl) → StandsWhere a → StandsWhere b → StandsWhere (option_or a b)
either None b h k = k
either (Some r) b h k = h

numbered_stands : (o : Op) (mode : Option Mode) (n : Option ℤ) → is_leaf o ≡ true → is_moded o ≡ false → is_numbered o ≡ true → StandsWhere (numbered o mode n)
numbered_stands o mode None h moded number = tt
numbered_stands o mode (Some n) h moded number = leaf_stands o mode n h (ap (λ b. not b || is_some mode) moded) (ap (λ b. b || is_zero n) number)

where_given : (b : Bool) (r : Rtl) → stands r expression ≡ true → StandsWhere (given_where b r)
where_given true r h = h
where_given false r h = tt

value_stands : (o : Op) (own : Option Mode) → is_leaf o ≡ true → is_numbered o ≡ false → is_some own ≡ true → stands (leaf o own (pos 0)) expression ≡ true
value_stands o own h number some = leaf_stands o own (pos 0) h (either_true (not (is_moded o)) (is_some own) some) (zero_number (is_numbered o)) where
  either_true : (a b : Bool) → b ≡ true → (a || b) ≡ true
  either_true true b e = refl
  either_true false b e = e

  zero_number : (b : Bool) → (b || is_zero (pos 0)) ≡ true
  zero_number true = refl
  zero_number false = refl

index_stands : stands (leaf op.Index None (pos 0)) expression ≡ true
unfolding is_moded is_numbered
index_stands = leaf_stands op.Index None (pos 0) refl refl refl

pc_stands : stands (leaf op.Pc None (pos 0)) expression ≡ true
unfolding is_moded is_numbered
pc_stands = leaf_stands op.Pc None (pos 0) refl refl refl

own_is_some : (a : Bool) (own : Option Mode) → (not a || is_some own) ≡ true → a ≡ true → is_some own ≡ true
own_is_some true own h e = h
own_is_some false own h e = absurd (false≢true e)

index_or : (a b : Bool) (own : Option Mode) → is_some own ≡ true → StandsWhere (if a then Some (leaf op.Index None (pos 0)) else given_where b (leaf op.NewVal own (pos 0)))
unfolding is_numbered
index_or true b own some = index_stands
index_or false b own some = where_given b (leaf op.NewVal own (pos 0)) (value_stands op.NewVal own refl refl some)

rule_stands : (r : Ruled) (own : Option Mode) (name : List ℕ) → (not (has_value r) || is_some own) ≡ true → StandsWhere (rule_name r own name)
unfolding is_numbered
rule_stands rule.Semantics own name h = tt
rule_stands rule.Get own name h = where_given (same_text name (codes "index")) (leaf op.Index None (pos 0)) index_stands
rule_stands rule.Set own name h = index_or (same_text name (codes "index")) (same_text name (codes "newval")) own h
rule_stands rule.Encode own name h = where_given (same_text name (codes "value")) (leaf op.Value own (pos 0)) (value_stands op.Value own refl refl h)
rule_stands rule.Decode own name h = where_given (same_text name (codes "value")) (leaf op.Value own (pos 0)) (value_stands op.Value own refl refl h)
rule_stands _ own name h = tt

pc_or : (b : Bool) (o : Option Rtl) → StandsWhere o → StandsWhere (if b then Some (leaf op.Pc None (pos 0)) else o)
pc_or true o h = pc_stands
pc_or false o h = h

own_has_value : (r : Ruled) (name : List ℕ) → is_own r name ≡ true → has_value r ≡ true
own_has_value (rule.Insert multi) name h = refl
own_has_value _ name h = absurd (false≢true h)

pub field_stands : (s : Scope) (mode : Option Mode) (name : List ℕ) → gives_value s ≡ true → StandsWhere (field_named s mode name)
unfolding is_moded is_numbered
field_stands s mode name given = at (is_own s.rule name) refl where
  other : Option Rtl
  other = option_or (numbered op.FieldRef mode (number_named name s.fields)) (numbered op.MultiRef mode (number_named name s.multis))

  other_stands : StandsWhere other
  other_stands =
      either (numbered op.FieldRef mode (number_named name s.fields)) (numbered op.MultiRef mode (number_named name s.multis))
      (numbered_stands op.FieldRef mode (number_named name s.fields) refl refl refl) (numbered_stands op.MultiRef mode (number_named name s.multis) refl refl refl)

  at : (b : Bool) → is_own s.rule name ≡ b → StandsWhere (if is_own s.rule name then Some (leaf op.Value s.own (pos 0)) else other)
  at true is = subst (λ b. StandsWhere (if b then Some (leaf op.Value s.own (pos 0)) else other)) (sym is) (value_stands op.Value s.own refl refl (own_is_some (has_value s.rule) s.own given (own_has_value s.rule name is)))
  at false is = subst (λ b. StandsWhere (if b then Some (leaf op.Value s.own (pos 0)) else other)) (sym is) other_stands

if_stands : (b : Bool) (o : Option Rtl) → StandsWhere o → StandsWhere (if b then o else None)
if_stands true o h = h
if_stands false o h = tt

pub constant_stands : (s : Scope) (name : List ℕ) → StandsWhere (constant_named s name)
unfolding is_moded is_numbered
constant_stands s name = numbered_stands op.Number None (enum_value name s.enums) refl refl refl

beyond_stands : (s : Scope) (name : List ℕ) → gives_value s ≡ true → StandsWhere (named_beyond s name)
unfolding named_beyond is_moded is_numbered
beyond_stands s name given =
    either (named_by_rule s name) (option_or (bare_field s name) (operand_or_constant s name))
    (pc_or (same_text name (codes "pc")) (rule_name s.rule s.own name) (rule_stands s.rule s.own name given))
    (either (bare_field s name) (operand_or_constant s name)
    (if_stands (is_pure s.rule) (field_named s None name) (field_stands s None name given))
    (either (numbered op.OperandRef None (number_named name s.operands)) (constant_named s name) (numbered_stands op.OperandRef None (number_named name s.operands) refl refl refl) (constant_stands s name)))

pub symbol_stands : (s : Scope) (l : List (List ℕ)) (name : List ℕ) → gives_value s ≡ true → stands (symbol_rtl s l name) expression ≡ true
unfolding symbol_rtl is_moded is_numbered
symbol_stands s l name given =
    or_nothing (symbol_named s l name)
    (either (numbered op.Local None (option_map pos (last_place name l))) (named_beyond s name) (numbered_stands op.Local None (option_map pos (last_place name l)) refl refl refl) (beyond_stands s name given))

pub index_of_stands : (s : Scope) (mode : Option Mode) (name : List ℕ) → StandsWhere (operand_index s mode name)
unfolding is_moded is_numbered
index_of_stands s mode name = numbered_stands op.IndexOf mode (number_named name s.operands) refl refl refl

pub number_stands : (mode : Option Mode) (n : ℤ) → stands (leaf op.Number mode n) expression ≡ true
unfolding is_moded is_numbered
number_stands mode n = leaf_stands op.Number mode n refl refl refl

pub error_stands : (mode : Option Mode) (n : ℤ) → stands (leaf op.Error mode n) expression ≡ true
unfolding is_moded is_numbered
error_stands mode n = leaf_stands op.Error mode n refl refl refl

-- a number that a `case` names, and a local that is declared
pub named_number : (n : ℤ) → stands (leaf op.Number None n) named ≡ true
unfolding stands_at is_moded is_numbered items_stand
named_number n = built op.Number None n [] named refl refl refl refl

pub declared_local : (mode : Option Mode) → is_some mode ≡ true → stands (leaf op.Declare mode (pos 0)) declared ≡ true
unfolding stands_at is_moded is_numbered items_stand
declared_local mode some = built op.Declare mode (pos 0) [] declared refl some refl refl

-- A word for a mode gives one.
abbrev gives_some : List ℕ → Bool
gives_some word = is_some (found_under word mode_words)

any_gives : (words : List (List ℕ)) (word : List ℕ) → list_all gives_some words ≡ true → list_any (λ each. same_text each word) words ≡ true → gives_some word ≡ true
any_gives [] word all any = absurd (false≢true any)
any_gives (w ∷ ws) word all any = at (any_gives ws word (rest_of (gives_some w) (list_all gives_some ws) all)) (same_text w word) refl where
  first_of : (a b : Bool) → (a && b) ≡ true → a ≡ true
  first_of true b e = refl
  first_of false b e = absurd (false≢true e)

  rest_of : (a b : Bool) → (a && b) ≡ true → b ≡ true
  rest_of true b e = e
  rest_of false b e = absurd (false≢true e)

  at : (list_any (λ each. same_text each word) ws ≡ true → gives_some word ≡ true) → (b : Bool) → same_text w word ≡ b → gives_some word ≡ true
  at rest true is = subst (λ x. gives_some x ≡ true) ((bytes_decides w word).0 is) (first_of (gives_some w) (list_all gives_some ws) all)
  at rest false is = rest (sym (ap (λ b. b || list_any (λ each. same_text each word) ws) is) ∙ any)

abbrev all_words : List (List ℕ)
all_words = codes "BI" ∷ codes "QI" ∷ codes "HI" ∷ codes "SI" ∷ codes "DI" ∷ codes "UQI" ∷ codes "UHI" ∷ codes "USI" ∷ codes "UDI" ∷ codes "INT" ∷ codes "UINT" ∷ codes "WI" ∷ codes "UWI" ∷ codes "AI" ∷ codes "IAI" ∷ []

all_give : list_all gives_some all_words ≡ true
unfolding mode_words
all_give = refl

void_gives : gives_some (codes "VOID") ≡ true
unfolding mode_words
void_gives = refl

given_word : (word : List ℕ) → gives_mode word ≡ true → gives_some word ≡ true
given_word word h = at (same_text word (codes "VOID")) refl h where
  at : (b : Bool) → same_text word (codes "VOID") ≡ b → (same_text word (codes "VOID") || is_among all_words word) ≡ true → gives_some word ≡ true
  at true is h = subst (λ x. gives_some x ≡ true) (sym ((bytes_decides word (codes "VOID")).0 is)) void_gives
  at false is h = any_gives all_words word all_give (sym (ap (λ b. b || is_among all_words word) is) ∙ h)

mapped_some : {A B : Type 0} (f : A → B) (o : Option A) → is_some o ≡ true → is_some (option_map f o) ≡ true
mapped_some f None e = absurd (false≢true e)
mapped_some f (Some x) e = refl

pub mode_given : (bits : ℕ) (o : Option (List ℕ)) → passes gives_mode o ≡ true → is_some (o >>= mode_named bits) ≡ true
mode_given bits None h = absurd (false≢true h)
mode_given bits (Some word) h = mapped_some (meant bits) (found_under word mode_words) (given_word word h)
