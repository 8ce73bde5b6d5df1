-- An expression none of whose nodes has a fault is pure, and has what it may have at each node.
use Rattle.std.proofs.Common.{◌≡◌, ℕ, zero, suc, ◌+◌, ◌<◌, Bool, true, false, not, ◌&&◌, ◌||◌, ◌==◌, nat_lt, if◌then◌else◌, List, [], ◌∷◌, ◌++◌, map, length, ℤ, pos, negsuc, Option, Some, None, slice_get, sym, ap, ◌∙◌, refl, subst, arith}
use Rattle.std.specs.List.{list_all}
use Rattle.std.proofs.lemmas.Bool.{false≢true, eqb-true, eq-eqb}
use Rattle.std.proofs.lemmas.Bool.Decides.{nat_tests}
use Rattle.cg_base.specs.Modes.{bits_of, mode_place}
use Rattle.cg_base.specs.declared.mode.Mode.{Mode}
use Rattle.cg_base.specs.declared.mode.Mode.TheVariants as mode
use Rattle.cg_model.specs.Operators.{at_number}
use Rattle.cg_model.specs.Pure.{is_pure_op, is_pure}
use Rattle.cg_model.specs.Sound.{Allowed, allowed_step, is_allowed, is_among, names_among, is_there, is_mode, of_value, of_fields, of_format, has_rules, is_plain}
use Rattle.cg_model_faults.specs.declared.fault.Purpose.{Purpose}
use Rattle.cg_model_faults.specs.declared.fault.Purpose.TheVariants as purpose
use Rattle.cg_model.specs.declared.field.Field.{Field}
use Rattle.cg_model.specs.declared.machine.Machine.{Machine}
use Rattle.cg_model.specs.declared.rtl.Op.{Op}
use Rattle.cg_model.specs.declared.rtl.Op.TheVariants as op
use Rattle.cg_model.specs.declared.rtl.Rtl.{Rtl, roll-Rtl, Rtl-F, map-Rtl, fold-roll-Rtl, ind-Rtl}
use Rattle.cg_model_faults.specs.E306.{Nameable, Within, count_of, is_below, unnamed_at, declared_by, each_within, unnamed_step, unnamed_in, stray_at, names}
use Rattle.cg_model_faults.specs.E315.{is_impure, is_ruled, names_field, names_other, names_ruled, may_not_name, impure_at}
use Rattle.cg_model_faults.specs.Finding.{Faults, AtNode, of_each, node_step, in_nodes, stands_in}
use Rattle.cg_model_faults.specs.Judging.{has_value, has_index, has_new_value, outside_at, has_other, other_at}
use Rattle.cg_model_laws.proofs.Clear.{front_none, back_none, test_false, not_true}

-- the faults of an expression that is written out
nodes_out : (at : AtNode) (x : Rtl-F Rtl) → in_nodes at (roll-Rtl x) ≡ at x.op x.mode x.number ++ of_each (map (in_nodes at) x.items)
unfolding in_nodes
nodes_out at x = fold-roll-Rtl Faults (node_step at) x

unnamed_out : (m : Machine) (x : Rtl-F Rtl) (locals : ℕ) → unnamed_in m (roll-Rtl x) locals ≡ unnamed_at m locals x.op x.number ++ each_within (locals + declared_by x.op x.number) (map (unnamed_in m) x.items)
unfolding unnamed_in
unnamed_out m x locals = ap (λ (w : Within). w locals) (fold-roll-Rtl Within (unnamed_step m) x)

allowed_out : (ok : Allowed) (x : Rtl-F Rtl) → is_allowed ok (roll-Rtl x) ≡ (ok x.op x.mode x.number && list_all (λ b. b) (map (is_allowed ok) x.items))
unfolding is_allowed
allowed_out ok x = fold-roll-Rtl Bool (allowed_step ok) x

-- what is known of each node: it has no fault of its own, and no local stands there
pub record NodeClear (m : Machine) (a b c d : AtNode) (o : Op) (mode : Option Mode) (n : ℤ) : Type 0 where
  pub first : a o mode n ≡ []
  pub second : b o mode n ≡ []
  pub third : c o mode n ≡ []
  pub fourth : d o mode n ≡ []
  pub named : unnamed_at m 0 o n ≡ []

-- No faults are found in an expression.
pub record Clear (m : Machine) (a b c d : AtNode) (r : Rtl) : Type 0 where
  pub first : in_nodes a r ≡ []
  pub second : in_nodes b r ≡ []
  pub third : in_nodes c r ≡ []
  pub fourth : in_nodes d r ≡ []
  pub named : unnamed_in m r 0 ≡ []

-- a node without fault declares no local
abbrev pub Declaring : AtNode → Type 0
Declaring a = (o : Op) (mode : Option Mode) (n : ℤ) → a o mode n ≡ [] → declared_by o n ≡ 0

Right : Machine → AtNode → AtNode → AtNode → AtNode → Allowed → Rtl → Type 0
Right m a b c d ok r = Clear m a b c d r → is_allowed ok r ≡ true

pub both_true : (a b : Bool) → a ≡ true → b ≡ true → (a && b) ≡ true
both_true a b e f = rw (e, f) refl

items_right : (m : Machine) (a b c d : AtNode) (ok : Allowed) (items : List ((r : Rtl) × Right m a b c d ok r)) → of_each (map (in_nodes a) (map (λ e. e.0) items)) ≡ [] → of_each (map (in_nodes b) (map (λ e. e.0) items)) ≡ [] → of_each (map (in_nodes c) (map (λ e. e.0) items)) ≡ [] → of_each (map (in_nodes d) (map (λ e. e.0) items)) ≡ []
    → each_within 0 (map (unnamed_in m) (map (λ e. e.0) items)) ≡ [] → list_all (λ x. x) (map (is_allowed ok) (map (λ e. e.0) items)) ≡ true
unfolding Right
items_right m a b c d ok [] h k u v l = refl
items_right m a b c d ok (e ∷ es) h k u v l =
    both_true (is_allowed ok e.0) _
    (e.1 (record { first = front_none (in_nodes a e.0) _ h; second = front_none (in_nodes b e.0) _ k; third = front_none (in_nodes c e.0) _ u; fourth = front_none (in_nodes d e.0) _ v; named = front_none (unnamed_in m e.0 0) _ l }))
    (items_right m a b c d ok es (back_none (in_nodes a e.0) _ h) (back_none (in_nodes b e.0) _ k) (back_none (in_nodes c e.0) _ u) (back_none (in_nodes d e.0) _ v) (back_none (unnamed_in m e.0 0) _ l))

step_right : (m : Machine) (a b c d : AtNode) (ok : Allowed) → Declaring a → ((o : Op) (mode : Option Mode) (n : ℤ) → NodeClear m a b c d o mode n → ok o mode n ≡ true) → (x : Rtl-F Rtl) (y : Rtl-F ((r : Rtl) × Right m a b c d ok r))
    → map-Rtl ((r : Rtl) × Right m a b c d ok r) Rtl (λ e. e.0) y ≡ x → Right m a b c d ok (roll-Rtl x)
unfolding Right
step_right m a b c d ok plain at x y is = subst (Right m a b c d ok) (ap roll-Rtl is) (λ clear.
    let z : Rtl-F Rtl = map-Rtl ((r : Rtl) × Right m a b c d ok r) Rtl (λ e. e.0) y in
    let first : a y.op y.mode y.number ++ of_each (map (in_nodes a) (map (λ e. e.0) y.items)) ≡ [] = sym (nodes_out a z) ∙ clear.first in
    let second : b y.op y.mode y.number ++ of_each (map (in_nodes b) (map (λ e. e.0) y.items)) ≡ [] = sym (nodes_out b z) ∙ clear.second in
    let third : c y.op y.mode y.number ++ of_each (map (in_nodes c) (map (λ e. e.0) y.items)) ≡ [] = sym (nodes_out c z) ∙ clear.third in
    let fourth : d y.op y.mode y.number ++ of_each (map (in_nodes d) (map (λ e. e.0) y.items)) ≡ [] = sym (nodes_out d z) ∙ clear.fourth in
    let named : unnamed_at m 0 y.op y.number ++ each_within (0 + declared_by y.op y.number) (map (unnamed_in m) (map (λ e. e.0) y.items)) ≡ [] = sym (unnamed_out m z 0) ∙ clear.named in
    let own : a y.op y.mode y.number ≡ [] = front_none (a y.op y.mode y.number) _ first in
    let none : 0 + declared_by y.op y.number ≡ 0 = omega (arith, plain y.op y.mode y.number own) in
    let inner : each_within 0 (map (unnamed_in m) (map (λ e. e.0) y.items)) ≡ [] = ap (λ k. each_within k (map (unnamed_in m) (map (λ e. e.0) y.items))) (sym none) ∙ back_none (unnamed_at m 0 y.op y.number) _ named in
    let here : ok y.op y.mode y.number ≡ true = at y.op y.mode y.number (record { first = own; second = front_none (b y.op y.mode y.number) _ second; third = front_none (c y.op y.mode y.number) _ third; fourth = front_none (d y.op y.mode y.number) _ fourth; named = front_none (unnamed_at m 0 y.op y.number) _ named }) in
    allowed_out ok z ∙ both_true (ok y.op y.mode y.number) _ here (items_right m a b c d ok y.items (back_none (a y.op y.mode y.number) _ first) (back_none (b y.op y.mode y.number) _ second) (back_none (c y.op y.mode y.number) _ third) (back_none (d y.op y.mode y.number) _ fourth) inner))

-- Where no node has a fault, all are allowed.
pub all_right : (m : Machine) (a b c d : AtNode) (ok : Allowed) → Declaring a → ((o : Op) (mode : Option Mode) (n : ℤ) → NodeClear m a b c d o mode n → ok o mode n ≡ true) → (r : Rtl) → Clear m a b c d r → is_allowed ok r ≡ true
unfolding Right
all_right m a b c d ok plain at r clear = ind-Rtl (Right m a b c d ok) (step_right m a b c d ok plain at) r clear

pub pure_allowed : (r : Rtl) → is_allowed (λ o mode n. is_pure_op o n) r ≡ is_pure r
unfolding is_allowed is_pure
pure_allowed r = refl

either_first : (a b : Bool) → (a || b) ≡ false → a ≡ false
either_first false b h = refl
either_first true b h = absurd (false≢true (sym h))

either_second : (a b : Bool) → (a || b) ≡ false → b ≡ false
either_second false b h = h
either_second true b h = absurd (false≢true (sym h))

pub of_not : (b : Bool) → not b ≡ false → b ≡ true
of_not true h = refl
of_not false h = absurd (false≢true (sym h))

below_none : (n : ℤ) → is_below (Some 0) n ≡ true → ⊥
below_none (pos k) h = let e : nat_lt k 0 ≡ false = grind (arith, nat_tests) in false≢true (sym e ∙ h)
below_none (negsuc k) h = false≢true h

-- an expression without fault has no sequence
pub declares_none : (m : Machine) (p : Purpose) (subs : List ℕ) → Declaring (impure_at m p subs)
unfolding impure_at is_impure declared_by
declares_none m p subs op.Sequence mode n h = absurd (false≢true (sym (test_false _ _ h)))
declares_none m p subs o mode n h = refl

-- each node is pure
pub pure_node : (m : Machine) (p : Purpose) (subs : List ℕ) (c d : AtNode) → has_index p ≡ false → has_new_value p ≡ false → (o : Op) (mode : Option Mode) (n : ℤ) → NodeClear m (impure_at m p subs) (outside_at p) c d o mode n → is_pure_op o n ≡ true
unfolding impure_at is_impure outside_at count_of
pure_node m p subs c d no_index no_new op.Local mode n h = absurd (below_none n (not_true (is_below (Some 0) n) _ h.named))
pure_node m p subs c d no_index no_new op.Index mode n h = absurd (false≢true (sym no_index ∙ not_true (has_index p) _ h.second))
pure_node m p subs c d no_index no_new op.NewVal mode n h = absurd (false≢true (sym no_new ∙ not_true (has_new_value p) _ h.second))
pure_node m p subs c d no_index no_new o mode n h = of_not (is_pure_op o n) (either_first _ (may_not_name m p subs o n) (test_false _ _ h.first))

-- modes of one place have as many bits
bits_at_place : ℕ → ℕ
bits_at_place n = if n == 0 then 1 else if n == 1 || n == 5 then 8 else if n == 2 || n == 6 then 16 else if n == 3 || n == 7 then 32 else if n == 9 then 0 else 64

bits_by_place : (k : Mode) → bits_of k ≡ bits_at_place (mode_place k)
unfolding bits_at_place
bits_by_place mode.Bi = refl
bits_by_place mode.Qi = refl
bits_by_place mode.Hi = refl
bits_by_place mode.Si = refl
bits_by_place mode.Di = refl
bits_by_place mode.Uqi = refl
bits_by_place mode.Uhi = refl
bits_by_place mode.Usi = refl
bits_by_place mode.Udi = refl
bits_by_place mode.Void = refl

own_mode : (own : Mode) (mode : Option Mode) → has_other mode (Some own) ≡ false → is_mode own mode ≡ true
own_mode own None h = absurd (false≢true (sym h))
own_mode own (Some k) h =
    let same : mode_place k ≡ mode_place own = eqb-true (mode_place k) (mode_place own) (of_not (mode_place k == mode_place own) h) in
    eq-eqb (bits_of k) (bits_of own) (bits_by_place k ∙ ap bits_at_place same ∙ sym (bits_by_place own))

-- in a rule of one value
pub value_node : (m : Machine) (p : Purpose) (subs : List ℕ) (own : Mode) (d : AtNode) → ((o : Op) (n : ℤ) → may_not_name m p subs o n ≡ names_field o n) → (o : Op) (mode : Option Mode) (n : ℤ)
    → NodeClear m (impure_at m p subs) (outside_at p) (other_at (Some own)) d o mode n → of_value own o mode n ≡ true
unfolding impure_at names_field other_at
value_node m p subs own d field op.Value mode n h = own_mode own mode (test_false _ _ h.third)
value_node m p subs own d field op.FieldRef mode n h = absurd (false≢true (sym (sym (field op.FieldRef n) ∙ either_second (is_impure op.FieldRef n) _ (test_false _ _ h.first))))
value_node m p subs own d field op.MultiRef mode n h = absurd (false≢true (sym (sym (field op.MultiRef n) ∙ either_second (is_impure op.MultiRef n) _ (test_false _ _ h.first))))
value_node m p subs own d field o mode n h = refl

-- what stands among numbers
one_of : (P : Type 0) (a b : Bool) → (a ≡ true → P) → (b ≡ true → P) → (a || b) ≡ true → P
one_of P true b f g h = f refl
one_of P false b f g h = g h

or_first : (a b : Bool) → a ≡ true → (a || b) ≡ true
or_first a b e = rw e refl

or_second : (a b : Bool) → b ≡ true → (a || b) ≡ true
or_second true b e = refl
or_second false b e = e

among : (ks : List ℕ) (n : ℕ) → stands_in ks n ≡ true → is_among n ks ≡ true
among [] n h = h
among (k ∷ ks) n h = one_of _ (k == n) (stands_in ks n)
    (λ e. or_first (n == k) (is_among n ks) (eq-eqb n k (sym (eqb-true k n e))))
    (λ e. or_second (n == k) (is_among n ks) (among ks n e)) h

names_them : (ks : List ℕ) (n : ℤ) → names ks n ≡ true → names_among ks n ≡ true
names_them ks (pos n) h = among ks n h
names_them ks (negsuc n) h = h

-- in a rule of fields
pub fields_node : (m : Machine) (ks : List ℕ) (c d : AtNode) → (o : Op) (mode : Option Mode) (n : ℤ) → NodeClear m (impure_at m purpose.Extract ks) (outside_at purpose.Extract) c d o mode n → of_fields ks o mode n ≡ true
unfolding impure_at may_not_name names_other outside_at has_value
fields_node m ks c d op.Value mode n h = not_true _ _ h.second
fields_node m ks c d op.FieldRef mode n h = names_them ks n (of_not (names ks n) (either_second (is_impure op.FieldRef n) _ (test_false _ _ h.first)))
fields_node m ks c d op.MultiRef mode n h = sym (either_second (is_impure op.MultiRef n) _ (test_false _ _ h.first))
fields_node m ks c d o mode n h = refl

-- in an assertion
pub there : {A : Type 0} (xs : List A) (k : ℕ) → nat_lt k (length xs) ≡ true → is_there (slice_get xs k) ≡ true
there [] k h = let e : nat_lt k 0 ≡ false = grind (arith, nat_tests) in absurd (false≢true (sym e ∙ h))
there (x ∷ xs) zero h = refl
there (x ∷ xs) (suc k) h = there xs k (let lt : k < length xs = grind (arith, nat_tests) in grind (arith, nat_tests))

plain_where : (o : Option Field) → is_there o ≡ true → is_ruled o ≡ false → elim o as (λ _. Bool) [ None ↦ false | Some f ↦ not (has_rules f) ] ≡ true
plain_where None h k = h
plain_where (Some f) h k = ap not k

format_field : (m : Machine) (may : Nameable) (n : ℤ) → is_below (Some (length m.fields)) n ≡ true → stray_at m may op.FieldRef None n ≡ [] → is_ruled (at_number m.fields n) ≡ false → (names_among may.fields n && is_plain m n) ≡ true
unfolding stray_at
format_field m may (pos k) below here bare = both_true (is_among k may.fields) _ (among may.fields k (not_true _ _ here)) (plain_where (slice_get m.fields k) (there m.fields k below) bare)
format_field m may (negsuc k) below here bare = absurd (false≢true below)

pub format_node : (m : Machine) (may : Nameable) (subs : List ℕ) (c : AtNode) → (o : Op) (mode : Option Mode) (n : ℤ) → NodeClear m (impure_at m purpose.Assertion subs) (outside_at purpose.Assertion) c (stray_at m may) o mode n → of_format m may.fields o mode n ≡ true
unfolding impure_at may_not_name names_ruled outside_at has_value count_of stray_at
format_node m may subs c op.Value mode n h = not_true _ _ h.second
format_node m may subs c op.Pc mode n h = sym (either_second (is_impure op.Pc n) _ (test_false _ _ h.first))
format_node m may subs c op.FieldRef mode n h = format_field m may n (not_true _ _ h.named) h.fourth (either_second (is_impure op.FieldRef n) _ (test_false _ _ h.first))
format_node m may subs c op.MultiRef mode n h = sym (either_second (is_impure op.MultiRef n) _ (test_false _ _ h.first))
format_node m may subs c o mode n h = refl
