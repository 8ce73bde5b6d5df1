-- Elements whose counts stay within the limits, all together, stay within them one by one.
use Rattle.std.proofs.Common.{◌≡◌, ℕ, suc, ◌+◌, ◌≤◌, ◌==◌, false, List, [], ◌∷◌, ◌++◌, map, length, refl, arith}
use Rattle.std.proofs.lemmas.Bool.Decides.{nat_tests}
use Rattle.cg_model_faults.specs.declared.fault.Said.TheVariants.{Count, Nothing}
use Rattle.cg_model.specs.declared.field.Field.{Field}
use Rattle.cg_model.specs.declared.field.Multi.{Multi}
use Rattle.cg_model.specs.declared.hardware.Hardware.{Hardware}
use Rattle.cg_model.specs.declared.insn.Insn.{Insn}
use Rattle.cg_model.specs.declared.insn.MacroInsn.{MacroInsn}
use Rattle.cg_model.specs.declared.operand.Operand.{Operand}
use Rattle.cg_model_faults.specs.Finding.{Faults, at_place}
use Rattle.cg_model_faults.specs.E308.{passing, too_many, long_text, long_words_where, long_literals, field_nodes, multi_nodes, hardware_nodes, insn_nodes, all_field_nodes, all_multi_nodes, all_hardware_nodes, all_cells, sum_of, words_of}
use Rattle.cg_model_faults.specs.E308 as e308
use Rattle.cg_model_faults.specs.E317.{too_many_insns}
use Rattle.cg_desc_laws.specs.InHand.{of_fields, of_multis, of_all_hardware, of_operands, of_insns, of_macros, of_numbers}
use Rattle.cg_desc_laws.proofs.CountedLimits.{not_passed, none_where}
use Rattle.cg_desc_laws.proofs.CountedOwn.{IsShort}
use Rattle.cg_desc_laws.proofs.Members.{AllHold}

pub none_joined : {A : Type 0} (xs ys : List A) → xs ≡ [] → ys ≡ [] → xs ++ ys ≡ []
none_joined [] ys a b = b
none_joined (x ∷ xs) ys a b = absurd cc

-- What is said of one element of each kind, where nothing is said of all.
pub fields_within : (before spent : ℕ) (fs : List Field) → AllHold (λ f. IsShort f.name) fs → before + length fs ≤ 1024 → spent + all_field_nodes fs ≤ 1000000 → of_fields before spent fs ≡ []
fields_within before spent [] names few nodes = refl
fields_within before spent (f ∷ fs) names few nodes =
    none_joined (e308.of_field before spent f) (of_fields (suc before) (spent + field_nodes f) fs)
    (none_joined (passing 1024 before (suc before) ++ passing 1000000 spent (spent + field_nodes f)) (long_text f.name)
    (none_joined (passing 1024 before (suc before)) (passing 1000000 spent (spent + field_nodes f)) (not_passed 1024 before (suc before) (omega (arith, few))) (not_passed 1000000 spent (spent + field_nodes f) (omega (arith, nodes)))) names.0)
    (fields_within (suc before) (spent + field_nodes f) fs names.1 (omega (arith, few)) (omega (arith, nodes)))

pub multis_within : (before spent : ℕ) (xs : List Multi) → AllHold (λ x. IsShort x.name) xs → before + length xs ≤ 1024 → spent + all_multi_nodes xs ≤ 1000000 → of_multis before spent xs ≡ []
multis_within before spent [] names few nodes = refl
multis_within before spent (x ∷ xs) names few nodes =
    none_joined (e308.of_multi before spent x) (of_multis (suc before) (spent + multi_nodes x) xs)
    (none_joined (passing 1024 before (suc before) ++ passing 1000000 spent (spent + multi_nodes x)) (long_text x.name)
    (none_joined (passing 1024 before (suc before)) (passing 1000000 spent (spent + multi_nodes x)) (not_passed 1024 before (suc before) (omega (arith, few))) (not_passed 1000000 spent (spent + multi_nodes x) (omega (arith, nodes)))) names.0)
    (multis_within (suc before) (spent + multi_nodes x) xs names.1 (omega (arith, few)) (omega (arith, nodes)))

-- its words and its name
pub record HasFewWords (h : Hardware) : Type 0 where
  pub count : too_many 1024 (words_of h) ≡ []
  pub name : IsShort h.name
  pub words : long_words_where h.keyword ≡ []

pub hardware_within : (before cells spent : ℕ) (hs : List Hardware) → AllHold HasFewWords hs → before + length hs ≤ 256 → cells + all_cells hs ≤ 65536 → spent + all_hardware_nodes hs ≤ 1000000 → of_all_hardware before cells spent hs ≡ []
hardware_within before cells spent [] texts few more nodes = refl
hardware_within before cells spent (h ∷ hs) texts few more nodes =
    let a : passing 256 before (suc before) ≡ [] = not_passed 256 before (suc before) (omega (arith, few)) in
    let b : passing 65536 cells (cells + h.count) ≡ [] = not_passed 65536 cells (cells + h.count) (omega (arith, more)) in
    let c : passing 1000000 spent (spent + hardware_nodes h) ≡ [] = not_passed 1000000 spent (spent + hardware_nodes h) (omega (arith, nodes)) in
    let ab : passing 256 before (suc before) ++ passing 65536 cells (cells + h.count) ≡ [] = none_joined _ _ a b in
    let abc : passing 256 before (suc before) ++ passing 65536 cells (cells + h.count) ++ too_many 1024 (words_of h) ≡ [] = none_joined _ _ ab texts.0.count in
    let abcd : passing 256 before (suc before) ++ passing 65536 cells (cells + h.count) ++ too_many 1024 (words_of h) ++ passing 1000000 spent (spent + hardware_nodes h) ≡ [] = none_joined _ _ abc c in
    none_joined (e308.of_hardware before cells spent h) (of_all_hardware (suc before) (cells + h.count) (spent + hardware_nodes h) hs)
    (none_joined _ _ (none_joined _ _ abcd texts.0.name) texts.0.words)
    (hardware_within (suc before) (cells + h.count) (spent + hardware_nodes h) hs texts.1 (omega (arith, few)) (omega (arith, more)) (omega (arith, nodes)))

pub operands_within : (before : ℕ) (os : List Operand) → AllHold (λ o. IsShort o.name) os → before + length os ≤ 1024 → of_operands before os ≡ []
operands_within before [] names few = refl
operands_within before (o ∷ os) names few =
    none_joined (e308.of_operand before o) (of_operands (suc before) os)
    (none_joined (passing 1024 before (suc before)) (long_text o.name) (not_passed 1024 before (suc before) (omega (arith, few))) names.0)
    (operands_within (suc before) os names.1 (omega (arith, few)))

-- its name and its literals
pub record HasShortTexts (own : List ℕ) (long : Faults) : Type 0 where
  pub name : IsShort own
  pub literals : long ≡ []

pub insns_within : (spent : ℕ) (is : List Insn) → AllHold (λ i. HasShortTexts i.name (long_literals i.pieces)) is → spent + sum_of (map insn_nodes is) ≤ 1000000 → of_insns spent is ≡ []
insns_within spent [] texts nodes = refl
insns_within spent (i ∷ is) texts nodes =
    none_joined (e308.of_insn spent i) (of_insns (spent + insn_nodes i) is)
    (none_joined (passing 1000000 spent (spent + insn_nodes i) ++ long_text i.name) (long_literals i.pieces)
    (none_joined (passing 1000000 spent (spent + insn_nodes i)) (long_text i.name) (not_passed 1000000 spent (spent + insn_nodes i) (omega (arith, nodes))) texts.0.name) texts.0.literals)
    (insns_within (spent + insn_nodes i) is texts.1 (omega (arith, nodes)))

pub macros_within : (before : ℕ) (xs : List MacroInsn) → AllHold (λ x. HasShortTexts x.name (long_literals x.pieces)) xs → before + length xs ≤ 1024 → of_macros before xs ≡ []
macros_within before [] texts few = refl
macros_within before (x ∷ xs) texts few =
    none_joined (e308.of_macro before x) (of_macros (suc before) xs)
    (none_joined (passing 1024 before (suc before) ++ long_text x.name) (long_literals x.pieces)
    (none_joined (passing 1024 before (suc before)) (long_text x.name) (not_passed 1024 before (suc before) (omega (arith, few))) texts.0.name) texts.0.literals)
    (macros_within (suc before) xs texts.1 (omega (arith, few)))

-- Of no more than 4,096 instructions none is one too many.
not_over : (before : ℕ) → suc before ≤ 4096 → too_many_insns before ≡ []
not_over before few =
    let never : (before == 4096) ≡ false = grind (arith, nat_tests) in
    none_where (before == 4096) (at_place 317 0 (Count 4096) Nothing) never

pub numbers_within : (before : ℕ) (is : List Insn) → before + length is ≤ 4096 → of_numbers before is ≡ []
numbers_within before [] few = refl
numbers_within before (i ∷ is) few =
    none_joined (too_many_insns before) (of_numbers (suc before) is) (not_over before (omega (arith, few))) (numbers_within (suc before) is (omega (arith, few)))
