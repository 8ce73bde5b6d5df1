-- Which instruction is found in bytes, and what its slots say.
use Rattle.std.proofs.Common.{◌≡◌, ℕ, suc, ◌+◌, ◌-◌, ◌<◌, ◌≤◌, Bool, true, false, cond, List, [], ◌∷◌, ◌++◌, length, take, drop, get_or, replicate, Option, Some, None, slice_get, refl, sym, ap, ◌∙◌, subst, append_assoc, arith}
use Rattle.std.specs.List.{find}
use Rattle.std.proofs.lemmas.Bool.{false≢true}
use Rattle.std.proofs.lemmas.Option.{slice_get_within}
use Rattle.std.proofs.Math.Seq.{drop-cons}
use Rattle.cg_base.specs.declared.mode.Mode.{Mode}
use Rattle.cg_base.specs.declared.mode.Mode.TheVariants as mode
use Rattle.cg_base.specs.Modes.{bits_of, is_signed}
use Rattle.cg_code.specs.Coded.{matches_at, values_at, Holds}
use Rattle.cg_list.specs.Decoding.{slots_text, slot_text, no_line, insn_line, line_at}
use Rattle.cg_model.specs.Encoding.{own_pc}
use Rattle.cg_model.specs.Matching.{matches}
use Rattle.cg_model.specs.Slots.{slots_of, values}
use Rattle.cg_model.specs.declared.insn.Insn.{Insn}
use Rattle.cg_model.specs.declared.insn.Part.{Part}
use Rattle.cg_model.specs.declared.insn.Part.TheVariants.{Constant, Slot}
use Rattle.cg_model.specs.declared.machine.Machine.{Machine}
use Rattle.cg_model.specs.declared.operand.Operand.{Operand}
use Rattle.cg_model.specs.declared.insn.Values.{Values}
use Rattle.cg_tree.specs.declared.tree.Tree.{Tree}
use Rattle.cg_tree.specs.Finding.{found, leaf_for}

-- a mode that is signed has bits
pub signed_bits : (k : Mode) → is_signed k ≡ true → (1 ≤ bits_of k) × (bits_of k ≤ 64)
signed_bits mode.Bi h = absurd cc
signed_bits mode.Qi h = (omega arith, omega arith)
signed_bits mode.Hi h = (omega arith, omega arith)
signed_bits mode.Si h = (omega arith, omega arith)
signed_bits mode.Di h = (omega arith, omega arith)
signed_bits mode.Uqi h = absurd cc
signed_bits mode.Uhi h = absurd cc
signed_bits mode.Usi h = absurd cc
signed_bits mode.Udi h = absurd cc
signed_bits mode.Void h = absurd cc

pub ruleset widths = (signed_bits)

-- ---- what is found by a tree

found_by_test : (p : ℕ → Bool) (x k : ℕ) (rest : Option ℕ) (b : Bool) → p x ≡ b → cond b (Some x) rest ≡ Some k → (rest ≡ Some k → p k ≡ true) → p k ≡ true
found_by_test p x k rest true test e others = let same : x ≡ k = cc in subst (λ n. p n ≡ true) same test
found_by_test p x k rest false test e others = others e

found_passes : (p : ℕ → Bool) (xs : List ℕ) (k : ℕ) → find p xs ≡ Some k → p k ≡ true
found_passes p [] k e = absurd cc
found_passes p (x ∷ xs) k e = found_by_test p x k (find p xs) (p x) refl e (found_passes p xs k)

-- it matches
pub found_matches : (t : Tree) (m : Machine) (bytes : List ℕ) (k : ℕ) → found t m bytes ≡ Some k → matches_at m k bytes ≡ true
found_matches t m bytes k e = found_passes (λ j. matches_at m j bytes) (leaf_for t bytes) k e

within_by : (m : Machine) (bytes : List ℕ) (k : ℕ) (o : Option Insn) → slice_get m.insns k ≡ o → elim o as (λ _. Bool) [ None ↦ false | Some i ↦ matches m i bytes ] ≡ true → k < length m.insns
within_by m bytes k None at e = absurd (false≢true e)
within_by m bytes k (Some i) at e = slice_get_within m.insns k i at

-- and the machine has it
pub matching_within : (m : Machine) (bytes : List ℕ) (k : ℕ) → matches_at m k bytes ≡ true → k < length m.insns
matching_within m bytes k e = within_by m bytes k (slice_get m.insns k) refl e

-- ---- what its slots say

-- the slots of parts one behind the other
pub slots_append : (m : Machine) (ps qs : List Part) → slots_of m (ps ++ qs) ≡ slots_of m ps ++ slots_of m qs
slots_append m [] qs = refl
slots_append m (Constant k c ∷ ps) qs = slots_append m ps qs
slots_append m (Slot o ∷ ps) qs = at (slots_append m ps qs) (slice_get m.operands o) where
  at : slots_of m (ps ++ qs) ≡ slots_of m ps ++ slots_of m qs → (x : Option Operand) → elim x as (λ _. List Operand) [ None ↦ slots_of m (ps ++ qs) | Some y ↦ y ∷ slots_of m (ps ++ qs) ]
      ≡ elim x as (λ _. List Operand) [ None ↦ slots_of m ps | Some y ↦ y ∷ slots_of m ps ] ++ slots_of m qs
  at rest None = rest
  at rest (Some y) = ap (λ xs. y ∷ xs) rest

pub text_append : (m : Machine) (xs ys : List Operand) (vs : List ℕ) → slots_text m (xs ++ ys) vs ≡ slots_text m xs vs ++ slots_text m ys (drop (length xs) vs)
text_append m [] ys vs = refl
text_append m (x ∷ xs) [] [] = refl
text_append m (x ∷ xs) (y ∷ ys) [] = refl
text_append m (x ∷ xs) ys (v ∷ vs) = ap (λ zs. slot_text m x v ++ zs) (text_append m xs ys vs) ∙ sym (append_assoc (slot_text m x v) (slots_text m xs vs) (slots_text m ys (drop (length xs) vs)))

-- What was put so far, with the slots of the parts that are left, is what all say.
pub record Putting (m : Machine) (old : List ℕ) (all : List Part) (vs : List ℕ) (now : List ℕ) (left : List Part) (rest : List ℕ) : Type 0 where
  pub same : now ++ slots_text m (slots_of m left) rest ≡ old ++ slots_text m (slots_of m all) vs

pub put_more : (m : Machine) (old : List ℕ) (all : List Part) (vs now next : List ℕ) (p : Part) (left : List Part) (rest after : List ℕ) → next ≡ now ++ slots_text m (slots_of m (p ∷ [])) rest → after ≡ drop (length (slots_of m (p ∷ []))) rest
    → Putting m old all vs now (p ∷ left) rest → Putting m old all vs next left after
put_more m old all vs now next p left rest after put behind h =
    let own : List Operand = slots_of m (p ∷ []) in
    let others : List Operand = slots_of m left in
    let first : next ++ slots_text m others after ≡ (now ++ slots_text m own rest) ++ slots_text m others (drop (length own) rest) =
    ap (λ x. x ++ slots_text m others after) put ∙ ap (λ x. (now ++ slots_text m own rest) ++ slots_text m others x) behind in
    let second : (now ++ slots_text m own rest) ++ slots_text m others (drop (length own) rest) ≡ now ++ (slots_text m own rest ++ slots_text m others (drop (length own) rest)) =
    append_assoc now (slots_text m own rest) (slots_text m others (drop (length own) rest)) in
    let third : now ++ (slots_text m own rest ++ slots_text m others (drop (length own) rest)) ≡ now ++ slots_text m (own ++ others) rest = ap (λ x. now ++ x) (sym (text_append m own others rest)) in
    let fourth : now ++ slots_text m (own ++ others) rest ≡ now ++ slots_text m (slots_of m (p ∷ left)) rest = ap (λ x. now ++ slots_text m x rest) (sym (slots_append m (p ∷ []) left)) in
    record { same = first ∙ (second ∙ (third ∙ (fourth ∙ h.same))) }

pub put_split : (m : Machine) (old : List ℕ) (all : List Part) (vs now : List ℕ) (ps : List Part) (k : ℕ) (d : Part) (rest : List ℕ) → k < length ps → Putting m old all vs now (drop k ps) rest → Putting m old all vs now (get_or ps k d ∷ drop (k + 1) ps) rest
put_split m old all vs now ps k d rest within h =
    let next : suc k ≡ k + 1 = omega arith in
    let split : drop k ps ≡ get_or ps k d ∷ drop (k + 1) ps = drop-cons ps k d within ∙ ap (λ j. get_or ps k d ∷ drop j ps) next in
    subst (λ left. Putting m old all vs now left rest) split h

pub ruleset slots = (slots_append, text_append)

-- values that are held, without the zeros behind them
front : (vs ws : List ℕ) → take (length vs) (vs ++ ws) ≡ vs
front [] ws = refl
front (v ∷ vs) ws = ap (λ xs. v ∷ xs) (front vs ws)

pub numbers_held : (x : Values) (vs : List ℕ) → Holds x vs → take x.count x.numbers ≡ vs
numbers_held x vs h = ap (λ n. take n x.numbers) h.count ∙ ap (take (length vs)) h.numbers ∙ front vs (replicate (16 - length vs) 0)

pub few_held : (x : Values) (vs : List ℕ) → Holds x vs → x.count ≤ 16
few_held x vs h = omega (arith, h.count, h.few)

-- the line of the instruction of a number
pub line_is : (m : Machine) (bytes : List ℕ) (k : ℕ) (i : Insn) → slice_get m.insns k ≡ Some i → insn_line m bytes i ≡ line_at m bytes k
line_is m bytes k i is = sym (ap (λ o. elim o as (λ _. List ℕ) [ None ↦ no_line | Some x ↦ insn_line m bytes x ]) is)

pub values_are : (m : Machine) (bytes : List ℕ) (k : ℕ) (i : Insn) → slice_get m.insns k ≡ Some i → values_at m k bytes (own_pc m 0) ≡ values m i bytes (own_pc m 0)
values_are m bytes k i is = ap (λ o. elim o as (λ _. List ℕ) [ None ↦ [] | Some x ↦ values m x bytes (own_pc m 0) ]) is

pub ruleset lines = (numbers_held, few_held, line_is, values_are, found_matches)
