-- No refusal: each list of faults is empty.
use Rattle.std.proofs.Common.{◌≡◌, ℕ, zero, suc, ◌+◌, ◌≤◌, Bool, true, false, not, ◌&&◌, ◌==◌, List, [], ◌∷◌, ◌++◌, length, Option, Some, None, slice_get, sym, ap, refl, subst, arith}
use Rattle.std.specs.List.{list_all}
use Rattle.std.proofs.lemmas.Bool.{false≢true}
use Rattle.std.proofs.lemmas.Bool.Decides.{nat_tests}
use Rattle.cg_model_faults.specs.declared.fault.MachineFault.{MachineFault}
use Rattle.cg_model.specs.declared.field.Field.{Field}
use Rattle.cg_model.specs.declared.field.Multi.{Multi}
use Rattle.cg_model.specs.declared.insn.Insn.{Insn}
use Rattle.cg_model.specs.declared.machine.Machine.{Machine}
use Rattle.cg_model.specs.declared.operand.Operand.{Operand}
use Rattle.cg_model_faults.specs.E308.{field_nodes, multi_nodes, insn_nodes}
use Rattle.cg_model_faults.specs.E317.{too_many_insns}
use Rattle.cg_model_faults.specs.Elements.{of_field, of_multi, of_operand, of_insn, field_modes, multi_modes, insn_modes}
use Rattle.cg_model_faults.specs.Finding.{Faults, where_so, where_none}
use Rattle.cg_model_faults.specs.Refusing.{Found, first_found, of_fields, of_multis, of_operands, of_insns, of_field_modes, of_multi_modes, of_insn_modes}

-- what holds of each of some things
abbrev pub Each : {A : Type 0} → (A → Type 0) → List A → Type 0
Each P [] = Unit {0}
Each P (x ∷ xs) = P x × Each P xs

-- what holds of a thing that may be there
abbrev pub Given : {A : Type 0} → (A → Type 0) → Option A → Type 0
Given P None = Unit {0}
Given P (Some x) = P x

pub given : {A : Type 0} (P : A → Type 0) (o : Option A) (x : A) → Given P o → o ≡ Some x → P x
given P o x h is = subst (Given P) is h

pub each : {A : Type 0} (P : A → Type 0) (xs : List A) (k : ℕ) (x : A) → Each P xs → slice_get xs k ≡ Some x → P x
each P [] k x h is = subst (Given P) is tt
each P (y ∷ ys) zero x h is = subst (Given P) is h.0
each P (y ∷ ys) (suc k) x h is = each P ys k x h.1 is

-- lists of which nothing is left
abbrev is_none : {A : Type 0} → List A → Bool
is_none [] = true
is_none (x ∷ xs) = false

abbrev is_some : {A : Type 0} → Option A → Bool
is_some None = false
is_some (Some x) = true

some_none : {A : Type 0} {x : A} → Some x ≡ None → ⊥
some_none e = false≢true (sym (ap is_some e))

pub front_none : {A : Type 0} (xs ys : List A) → xs ++ ys ≡ [] → xs ≡ []
front_none [] ys h = refl
front_none (x ∷ xs) ys h = absurd (false≢true (ap is_none h))

pub back_none : {A : Type 0} (xs ys : List A) → xs ++ ys ≡ [] → ys ≡ []
back_none [] ys h = h
back_none (x ∷ xs) ys h = absurd (false≢true (ap is_none h))

pub test_false : (b : Bool) (f : MachineFault) → where_so b f ≡ [] → b ≡ false
test_false false f h = refl
test_false true f h = absurd (false≢true (ap is_none h))

pub not_true : (b : Bool) (f : MachineFault) → where_so (not b) f ≡ [] → b ≡ true
not_true true f h = refl
not_true false f h = absurd (false≢true (ap is_none h))

pub later_none : (xs ys : Faults) → xs ≡ [] → where_none xs ys ≡ [] → ys ≡ []
later_none [] ys e h = h
later_none (x ∷ xs) ys e h = absurd (false≢true (ap is_none e))

-- several lists, one behind the other
abbrev pub joined : {A : Type 0} → List A → List (List A) → List A
joined xs [] = xs
joined xs (ys ∷ zs) = joined (xs ++ ys) zs

abbrev pub AreNone : List Faults → Type 0
AreNone = Each (λ xs. xs ≡ [])

pub all_none : (xs : Faults) (ys : List Faults) → joined xs ys ≡ [] → AreNone (xs ∷ ys)
all_none xs [] h = (h, tt)
all_none xs (ys ∷ zs) h =
    let later : AreNone ((xs ++ ys) ∷ zs) = all_none (xs ++ ys) zs h in
    (front_none xs ys later.0, (back_none xs ys later.0, later.1))

-- several tests, each of which holds
abbrev pub both : Bool → List Bool → Bool
both b [] = b
both b (c ∷ cs) = both (b && c) cs

abbrev pub AreTrue : List Bool → Type 0
AreTrue = Each (λ b. b ≡ true)

first_true : (b c : Bool) → (b && c) ≡ true → b ≡ true
first_true true c h = refl
first_true false c h = h

second_true : (b c : Bool) → (b && c) ≡ true → c ≡ true
second_true true c h = h
second_true false c h = absurd (false≢true h)

pub all_true : (b : Bool) (cs : List Bool) → both b cs ≡ true → AreTrue (b ∷ cs)
all_true b [] h = (h, tt)
all_true b (c ∷ cs) h =
    let later : AreTrue ((b && c) ∷ cs) = all_true (b && c) cs h in
    (first_true b c later.0, (second_true b c later.0, later.1))

-- what holds of each of some things by a test
pub every : {A : Type 0} (p : A → Bool) (xs : List A) → list_all p xs ≡ true → Each (λ x. p x ≡ true) xs
every p [] h = tt
every p (x ∷ xs) h = (first_true (p x) (list_all p xs) h, every p xs (second_true (p x) (list_all p xs) h))

-- each element that was found has no fault
abbrev pub AllClear : List Found → Type 0
AllClear [] = Unit {0}
AllClear (x ∷ xs) = (x.1 ≡ []) × AllClear xs

clear_from : (m : Machine) (own : List ℕ) (fs : Faults) (xs : List Found) → first_found m ((own, fs) ∷ xs) ≡ None → (fs ≡ []) × (first_found m xs ≡ None)
clear_from m own [] xs h = (refl, h)
clear_from m own (f ∷ fs) xs h = absurd (some_none h)

pub clear : (m : Machine) (xs : List Found) → first_found m xs ≡ None → AllClear xs
clear m [] h = tt
clear m (x ∷ xs) h = let both = clear_from m x.0 x.1 xs h in (both.0, clear m xs both.1)

pub clear_front : (xs ys : List Found) → AllClear (xs ++ ys) → AllClear xs
clear_front [] ys h = tt
clear_front (x ∷ xs) ys h = (h.0, clear_front xs ys h.1)

pub clear_back : (xs ys : List Found) → AllClear (xs ++ ys) → AllClear ys
clear_back [] ys h = h
clear_back (x ∷ xs) ys h = clear_back xs ys h.1

pub all_clear : (xs : List Found) (ys : List (List Found)) → AllClear (joined xs ys) → Each AllClear (xs ∷ ys)
all_clear xs [] h = (h, tt)
all_clear xs (ys ∷ zs) h =
    let later : Each AllClear ((xs ++ ys) ∷ zs) = all_clear (xs ++ ys) zs h in
    (clear_front xs ys later.0, (clear_back xs ys later.0, later.1))

-- elements of each kind
pub record FieldClear (m : Machine) (f : Field) : Type 0 where
  pub before : ℕ
  pub spent : ℕ
  pub none : of_field m before spent f ≡ []

pub fields_clear : (m : Machine) (before spent : ℕ) (fs : List Field) → AllClear (of_fields m before spent fs) → Each (FieldClear m) fs
fields_clear m before spent [] h = tt
fields_clear m before spent (f ∷ fs) h = (record { before = before; spent = spent; none = h.0 }, fields_clear m (suc before) (spent + field_nodes f) fs h.1)

pub record MultiClear (m : Machine) (x : Multi) : Type 0 where
  pub before : ℕ
  pub spent : ℕ
  pub none : of_multi m before spent x ≡ []

pub multis_clear : (m : Machine) (before spent : ℕ) (xs : List Multi) → AllClear (of_multis m before spent xs) → Each (MultiClear m) xs
multis_clear m before spent [] h = tt
multis_clear m before spent (x ∷ xs) h = (record { before = before; spent = spent; none = h.0 }, multis_clear m (suc before) (spent + multi_nodes x) xs h.1)

pub record OperandClear (m : Machine) (o : Operand) : Type 0 where
  pub before : ℕ
  pub none : of_operand m before o ≡ []

pub operands_clear : (m : Machine) (before : ℕ) (os : List Operand) → AllClear (of_operands m before os) → Each (OperandClear m) os
operands_clear m before [] h = tt
operands_clear m before (o ∷ os) h = (record { before = before; none = h.0 }, operands_clear m (suc before) os h.1)

pub record InsnClear (m : Machine) (i : Insn) : Type 0 where
  pub before : ℕ
  pub spent : ℕ
  pub none : of_insn m before spent i ≡ []

pub insns_clear : (m : Machine) (before spent : ℕ) (is : List Insn) → AllClear (of_insns m before spent is) → Each (InsnClear m) is
insns_clear m before spent [] h = tt
insns_clear m before spent (i ∷ is) h = (record { before = before; spent = spent; none = h.0 }, insns_clear m (suc before) (spent + insn_nodes i) is h.1)

-- and their modes
pub field_modes_clear : (m : Machine) (fs : List Field) → AllClear (of_field_modes m fs) → Each (λ f. field_modes m f ≡ []) fs
field_modes_clear m [] h = tt
field_modes_clear m (f ∷ fs) h = (h.0, field_modes_clear m fs h.1)

pub multi_modes_clear : (m : Machine) (xs : List Multi) → AllClear (of_multi_modes m xs) → Each (λ x. multi_modes m x ≡ []) xs
multi_modes_clear m [] h = tt
multi_modes_clear m (x ∷ xs) h = (h.0, multi_modes_clear m xs h.1)

pub insn_modes_clear : (m : Machine) (is : List Insn) → AllClear (of_insn_modes m is) → Each (λ i. insn_modes m i ≡ []) is
insn_modes_clear m [] h = tt
insn_modes_clear m (i ∷ is) h = (h.0, insn_modes_clear m is h.1)

not_past : (m : Machine) (before spent : ℕ) (i : Insn) → of_insn m before spent i ≡ [] → (before == 4096) ≡ false
not_past m before spent i h = test_false (before == 4096) _ (back_none _ (too_many_insns before) h)

-- there are 4,096 instructions at most
pub few_insns : (m : Machine) (before spent : ℕ) (is : List Insn) → before ≤ 4096 → AllClear (of_insns m before spent is) → before + length is ≤ 4096
few_insns m before spent [] le h = omega (arith, le)
few_insns m before spent (i ∷ is) le h =
    let not_last : (before == 4096) ≡ false = not_past m before spent i h.0 in
    let below : suc before ≤ 4096 = grind (arith, nat_tests) in
    omega (arith, few_insns m (suc before) (spent + insn_nodes i) is below h.1)
