-- What the constants of instructions say, and which instructions bytes are decoded to.
use Rattle.std.proofs.Common.{◌≡◌, ℕ, suc, ◌+◌, ◌<◌, ◌≤◌, true, false, if◌then◌else◌, List, [], ◌∷◌, ◌++◌, length, drop, get_or, refl, sym, ap, ◌∙◌, arith, append_assoc, append-nil}
use Rattle.std.proofs.Math.Seq.{drop-cons}
use Rattle.std.proofs.lemmas.List.{drop_all}
use Rattle.cg_model.specs.declared.insn.Insn.{Insn}
use Rattle.cg_model.specs.declared.machine.Machine.{Machine}
use Rattle.cg_code_mask.specs.declared.format.Constants.{Constants}
use Rattle.cg_code_mask.specs.Constants.{parts_cover, parts_value}
use Rattle.cg_tree.specs.Candidates.{said_by, decodable_from, decodables}

abbrev both : ℕ → ℕ → Constants
both cover value = record { cover = cover; value = value }

pub said : (m : Machine) (i : Insn) (c : Constants) → c.cover ≡ parts_cover m i.parts → c.value ≡ parts_value m i.parts → c ≡ said_by m i
said m i c cover value = ap (λ x. both x c.value) cover ∙ ap (λ x. both (parts_cover m i.parts) x) value

pub ruleset tables = (said)

-- the numbers so far, with those of what is left, are those of all
pub record Listing (m : Machine) (k : ℕ) (list : List ℕ) : Type 0 where
  pub same : list ++ decodable_from k (drop k m.insns) ≡ decodables m

parts : (is : List Insn) (k : ℕ) (d : Insn) → k < length is → drop k is ≡ get_or is k d ∷ drop (k + 1) is
parts is k d within =
    let next : suc k ≡ k + 1 = omega arith in
    drop-cons is k d within ∙ ap (λ j. get_or is k d ∷ drop j is) next

pub list_none : (m : Machine) → Listing m 0 []
list_none m = record { same = refl }

pub list_one : (m : Machine) (k : ℕ) (d : Insn) (list : List ℕ) → k < length m.insns → (get_or m.insns k d).decodable ≡ true → Listing m k list → Listing m (k + 1) (list ++ k ∷ [])
list_one m k d list within yes_it_is x =
    let next : k + 1 ≡ suc k = omega arith in
    let rest : List Insn = drop (k + 1) m.insns in
    record {
      same =
          append_assoc list (k ∷ []) (decodable_from (k + 1) rest)
          ∙ ap (λ j. list ++ (k ∷ decodable_from j rest)) next
          ∙ sym (ap (λ b. list ++ (if b then k ∷ decodable_from (suc k) rest else decodable_from (suc k) rest)) yes_it_is)
          ∙ sym (ap (λ is. list ++ decodable_from k is) (parts m.insns k d within))
          ∙ x.same;
    }

pub leave_one : (m : Machine) (k : ℕ) (d : Insn) (list : List ℕ) → k < length m.insns → (get_or m.insns k d).decodable ≡ false → Listing m k list → Listing m (k + 1) list
leave_one m k d list within it_is_not x =
    let next : k + 1 ≡ suc k = omega arith in
    let rest : List Insn = drop (k + 1) m.insns in
    record {
      same =
          ap (λ j. list ++ decodable_from j rest) next
          ∙ sym (ap (λ b. list ++ (if b then k ∷ decodable_from (suc k) rest else decodable_from (suc k) rest)) it_is_not)
          ∙ sym (ap (λ is. list ++ decodable_from k is) (parts m.insns k d within))
          ∙ x.same;
    }

pub all_listed : (m : Machine) (k : ℕ) (list : List ℕ) → length m.insns ≤ k → Listing m k list → list ≡ decodables m
all_listed m k list past x = sym (append-nil list) ∙ sym (ap (λ is. list ++ decodable_from k is) (drop_all k m.insns past)) ∙ x.same

pub ruleset listing = (list_none, list_one, leave_one, all_listed)
