-- What is chosen is an instruction of the machine, and each of its slots is given a sum.
use Rattle.std.specs.Prelude.{ℕ, suc, ◌+◌, Bool, true, false, cond, List, [], ◌∷◌, ◌++◌, length, Option, Some, None, Ok, find, slice_get}
use Rattle.std.specs.Result.{result_ok}
use Rattle.std.proofs.Common.{◌≡◌, refl, ap, ◌∙◌, subst, arith}
use Rattle.cg_syntax_choose.proofs.FrontLemmas.{same_some, none_is_none}
use Rattle.cg_syntax_choose.specs.Indexing.{GivesAll}
use Rattle.cg_model_source.specs.Choosing.{Choice, SourceFault, sums_from, given_sums, as_written, as_emitted, split_by_insn, split_by_macro, insns_splitting, macros_splitting, splitting, fits, chosen_of, unchosen, chosen}
use Rattle.cg_model_source.specs.Splitting.{Spelling}
use Rattle.cg_model_source.specs.Squeezing.{squeezed}
use Rattle.cg_model.specs.declared.insn.Given.{Given}
use Rattle.cg_model.specs.declared.insn.Insn.{Insn}
use Rattle.cg_model.specs.declared.insn.MacroInsn.{MacroInsn}
use Rattle.cg_model.specs.declared.machine.Machine.{Machine}
use Rattle.cg_model_faults.specs.E313.{slot_operands}

-- A choice of an instruction of the machine.
pub record IsOf (m : Machine) (c : Choice) : Type 0 where
  pub at : slice_get m.insns c.number ≡ Some c.insn
  pub as_many : length c.sums ≡ length (slot_operands c.insn.parts)

abbrev AreOf : Machine → List Choice → Type 0
AreOf m [] = Unit {0}
AreOf m (c ∷ cs) = IsOf m c × AreOf m cs

both_of : (m : Machine) (cs ds : List Choice) → AreOf m cs → AreOf m ds → AreOf m (cs ++ ds)
both_of m [] ds a b = b
both_of m (c ∷ cs) ds a b = (a.0, both_of m cs ds a.1 b)

sums_long : (k : ℕ) (os : List ℕ) (found : List Spelling) → length (sums_from k os found) ≡ length os
sums_long k [] found = refl
sums_long k (o ∷ os) found = ap suc (sums_long (suc k) os found)

given_long : (found : List Spelling) (gs : List Given) → length (given_sums found gs) ≡ length gs
given_long found [] = refl
given_long found (g ∷ gs) = ap suc (given_long found gs)

written_of : (m : Machine) (k : ℕ) (i : Insn) (r : Option (List Spelling)) → slice_get m.insns k ≡ Some i → AreOf m (as_written k i r)
written_of m k i None at = tt
written_of m k i (Some found) at = (record { at = at; as_many = sums_long 0 (slot_operands i.parts) found }, tt)

insns_of : (m : Machine) (words : List (List ℕ)) (text : List ℕ) (k : ℕ) (is : List Insn) → ((j : ℕ) (i : Insn) → slice_get is j ≡ Some i → slice_get m.insns (k + j) ≡ Some i) → AreOf m (insns_splitting m words text k is)
insns_of m words text k [] at = tt
insns_of m words text k (i ∷ is) at =
    let here : k + 0 ≡ k = omega arith in
    both_of m (as_written k i (split_by_insn m words text i)) (insns_splitting m words text (suc k) is)
    (written_of m k i (split_by_insn m words text i) (subst (λ n. slice_get m.insns n ≡ Some i) here (at 0 i refl)))
    (insns_of m words text (suc k) is (λ j x e. let next : k + suc j ≡ suc k + j = omega arith in subst (λ n. slice_get m.insns n ≡ Some x) next (at (suc j) x e)))

emitted_of : (m : Machine) (x : MacroInsn) (i : Option Insn) (r : Option (List Spelling)) → slice_get m.insns x.target ≡ i → ((j : Insn) → slice_get m.insns x.target ≡ Some j → length x.given ≡ length (slot_operands j.parts)) → AreOf m (as_emitted x i r)
emitted_of m x None r at gives = tt
emitted_of m x (Some i) None at gives = tt
emitted_of m x (Some i) (Some found) at gives = (record { at = at; as_many = given_long found x.given ∙ gives i at }, tt)

macros_of : (m : Machine) (words : List (List ℕ)) (text : List ℕ) (xs : List MacroInsn) → ((j : ℕ) (x : MacroInsn) (i : Insn) → slice_get xs j ≡ Some x → slice_get m.insns x.target ≡ Some i → length x.given ≡ length (slot_operands i.parts)) →
    AreOf m (macros_splitting m words text xs)
macros_of m words text [] gives = tt
macros_of m words text (x ∷ xs) gives =
    both_of m (as_emitted x (slice_get m.insns x.target) (split_by_macro m words text x)) (macros_splitting m words text xs)
    (emitted_of m x (slice_get m.insns x.target) (split_by_macro m words text x) refl (λ i at. gives 0 x i refl at))
    (macros_of m words text xs (λ j y i e at. gives (suc j) y i e at))

all_of : (m : Machine) (words : List (List ℕ)) (text : List ℕ) → GivesAll m → AreOf m (splitting m words text)
all_of m words text gives =
    both_of m (insns_splitting m words (squeezed text) 0 m.insns) (macros_splitting m words (squeezed text) m.macros)
    (insns_of m words (squeezed text) 0 m.insns (λ j i e. let same : j ≡ 0 + j = omega arith in subst (λ n. slice_get m.insns n ≡ Some i) same e))
    (macros_of m words (squeezed text) m.macros gives)

found_by : (m : Machine) (test : Choice → Bool) (b : Bool) (d : Choice) (ds : List Choice) (c : Choice) → IsOf m d → ((x : Choice) → find test ds ≡ Some x → IsOf m x) → cond b (Some d) (find test ds) ≡ Some c → IsOf m c
found_by m test true d ds c is later e = subst (IsOf m) (same_some e) is
found_by m test false d ds c is later e = later c e

found_of : (m : Machine) (test : Choice → Bool) (cs : List Choice) (c : Choice) → AreOf m cs → find test cs ≡ Some c → IsOf m c
found_of m test [] c are e = absurd (none_is_none e)
found_of m test (d ∷ ds) c are e = found_by m test (test d) d ds c are.0 (λ x. found_of m test ds x are.1) e

ok_is : (fault : SourceFault) (r : Option Choice) (c : Choice) → chosen_of fault r ≡ Ok c → r ≡ Some c
ok_is fault None c e = absurd (none_is_none (ap result_ok e))
ok_is fault (Some x) c e = ap result_ok e

pub chosen_of_machine : (m : Machine) (words : List (List ℕ)) (pc : ℕ) (text : List ℕ) (c : Choice) → GivesAll m → chosen m words pc text ≡ Ok c → IsOf m c
unfolding chosen
chosen_of_machine m words pc text c gives e =
    found_of m (fits m pc) (splitting m words text) c (all_of m words text gives) (ok_is (unchosen m pc text (splitting m words text)) (find (fits m pc) (splitting m words text)) c e)
