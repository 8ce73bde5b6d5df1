-- By a tight tree the decodable instruction is found that matches.
use Rattle.std.proofs.Common.{◌≡◌, ℕ, zero, suc, ◌+◌, ◌*◌, ◌<◌, ◌≤◌, min, bit_and, Bool, true, false, ◌&&◌, ◌==◌, nat_le, cond, if◌then◌else◌, List, [], ◌∷◌, length, map, Option, Some, None, slice_get, sym, ap, ◌∙◌, refl, subst, arith}
use Rattle.std.specs.Int.{bit_at}
use Rattle.std.specs.List.{filter, find, list_all}
use Rattle.std.proofs.lemmas.Nat.Bits.{bit_at_and, bit_at-lt}
use Rattle.std.proofs.lemmas.Bool.{and_from, and_parts}
use Rattle.std.proofs.lemmas.Option.{slice_get-map}
use Rattle.cg_ambig.proofs.Sounding.{has_patterns}
use Rattle.cg_code.specs.Coded.{matches_at}
use Rattle.cg_model.specs.Clashing.{AreBytes, decoded_from, decoded_to}
use Rattle.cg_model.specs.Matching.{length_of, part_stands, asserts, matches}
use Rattle.cg_model.specs.Sound.{IsSound}
use Rattle.cg_model.specs.declared.insn.Insn.{Insn}
use Rattle.cg_model.specs.declared.machine.Machine.{Machine}
use Rattle.cg_code_mask.specs.View.{whole}
use Rattle.cg_code_mask.specs.Constants.{parts_cover, parts_value}
use Rattle.cg_code_mask.specs.declared.format.Constants.{Constants}
use Rattle.cg_code_mask.proofs.Standing.{parts_to_whole}
use Rattle.cg_tree.specs.declared.tree.Tree.{Tree}
use Rattle.cg_tree.specs.Trees.{is_set, reached, all_nodes, size, Tested}
use Rattle.cg_tree.specs.Candidates.{said_by, table_of, constant_in, constant_at, agrees, passes, is_candidate, candidates, decodable_from, decodables}
use Rattle.cg_tree.specs.Finding.{found, most_nodes, IsTight}
use Rattle.cg_tree.proofs.Reaching.{gives, Reaches, leads}

-- where a constant stands, a bit that gives an answer agrees with it
agrees_there : (x c v : ℕ) (answer : Bool) → c < 2 → min x c ≡ v → x < 2 → agrees (Some (x == 1)) answer ≡ true → agrees (if c == 1 then Some (v == 1) else None) answer ≡ true
agrees_there x zero v answer h e k ok = refl
agrees_there x (suc zero) v answer h e k ok = let same : x ≡ v = omega (arith, e, k) in subst (λ n. agrees (Some (n == 1)) answer ≡ true) same ok
agrees_there x (suc (suc c)) v answer h e k ok = absurd (omega (arith, h))

-- what matches has its constants in the bytes
stands : (m : Machine) (k : ℕ) (i : Insn) (bytes : List ℕ) → IsSound m → AreBytes bytes → slice_get m.insns k ≡ Some i → matches m i bytes ≡ true → bit_and (whole bytes) (parts_cover m i.parts) ≡ parts_value m i.parts
stands m k i bytes sound h is fits =
    let front = (and_parts (nat_le (length_of m i) (length bytes) && list_all (part_stands m bytes) i.parts) (asserts m i bytes) fits).0 in
    parts_to_whole m i.parts bytes ((has_patterns m sound).fitting k i is) h (and_parts (nat_le (length_of m i) (length bytes)) (list_all (part_stands m bytes) i.parts) front).1

-- so it is a candidate behind all tests whose answers the bytes give
passing : (m : Machine) (i : Insn) (w : ℕ) (a : Tested) → bit_and w (parts_cover m i.parts) ≡ parts_value m i.parts → gives w a ≡ true → agrees (constant_in (Some (said_by m i)) a.bit) a.answer ≡ true
passing m i w a e ok =
    agrees_there (bit_at w a.bit) (bit_at (parts_cover m i.parts) a.bit) (bit_at (parts_value m i.parts) a.bit) a.answer (bit_at-lt (parts_cover m i.parts) a.bit)
    (sym (bit_at_and w (parts_cover m i.parts) a.bit) ∙ ap (λ x. bit_at x a.bit) e) (bit_at-lt w a.bit) ok

said_at : (m : Machine) (k : ℕ) (i : Insn) → slice_get m.insns k ≡ Some i → slice_get (table_of m) k ≡ Some (said_by m i)
said_at m k i is = slice_get-map (said_by m) m.insns k ∙ ap (λ o. elim o as (λ _. Option Constants) [ None ↦ None | Some x ↦ Some (said_by m x) ]) is

among : (m : Machine) (k : ℕ) (i : Insn) (w : ℕ) (path : List Tested) → slice_get m.insns k ≡ Some i → bit_and w (parts_cover m i.parts) ≡ parts_value m i.parts → list_all (gives w) path ≡ true → is_candidate (table_of m) path k ≡ true
among m k i w [] is e given = refl
among m k i w (a ∷ path) is e given =
    let both = and_parts (gives w a) (list_all (gives w) path) given in
    and_from (passes (table_of m) k a) (is_candidate (table_of m) path k)
    (ap (λ o. agrees (constant_in o a.bit) a.answer) (said_at m k i is) ∙ passing m i w a e both.0)
    (among m k i w path is e both.1)

matching_at : (m : Machine) (k : ℕ) (i : Insn) (bytes : List ℕ) → slice_get m.insns k ≡ Some i → matches_at m k bytes ≡ matches m i bytes
matching_at m k i bytes is = ap (λ o. elim o as (λ _. Bool) [ None ↦ false | Some x ↦ matches m x bytes ]) is

-- one instruction among the candidates, and the others
skipped : (p q : ℕ → Bool) (k : ℕ) (rest : List ℕ) (b : Bool) → p k ≡ false → find p (cond b (k ∷ filter q rest) (filter q rest)) ≡ find p (filter q rest)
skipped p q k rest true e = ap (λ c. cond c (Some k) (find p (filter q rest))) e
skipped p q k rest false e = refl

one : (p q : ℕ → Bool) (k : ℕ) (rest : List ℕ) (d t : Bool) (after : Option ℕ) → p k ≡ t → (t ≡ true → q k ≡ true) → find p (filter q rest) ≡ after → find p (filter q (if d then k ∷ rest else rest)) ≡ (if d && t then Some k else after)
one p q k rest false t after e f others = others
one p q k rest true true after e f others = ap (λ b. find p (cond b (k ∷ filter q rest) (filter q rest))) (f refl) ∙ ap (λ c. cond c (Some k) (find p (filter q rest))) e
one p q k rest true false after e f others = skipped p q k rest (q k) e ∙ others

-- some instructions stand in a machine from number k on
abbrev pub StandFrom : Machine → ℕ → List Insn → Type 0
StandFrom m k is = (j : ℕ) (i : Insn) → slice_get is j ≡ Some i → slice_get m.insns (k + j) ≡ Some i

first_from : (m : Machine) (bytes : List ℕ) (path : List Tested) → IsSound m → AreBytes bytes → list_all (gives (whole bytes)) path ≡ true → (k : ℕ) (is : List Insn) → StandFrom m k is
    → find (λ j. matches_at m j bytes) (filter (is_candidate (table_of m) path) (decodable_from k is)) ≡ decoded_from m bytes k is
first_from m bytes path sound h given k [] stand = refl
first_from m bytes path sound h given k (i ∷ is) stand =
    let here : k + 0 ≡ k = omega arith in
    let at : slice_get m.insns k ≡ Some i = subst (λ n. slice_get m.insns n ≡ Some i) here (stand 0 i refl) in
    one (λ j. matches_at m j bytes) (is_candidate (table_of m) path) k (decodable_from (suc k) is) i.decodable (matches m i bytes) (decoded_from m bytes (suc k) is)
    (matching_at m k i bytes at)
    (λ fits. among m k i (whole bytes) path at (stands m k i bytes sound h at fits) given)
    (first_from m bytes path sound h given (suc k) is (λ j x e. let next : k + suc j ≡ suc k + j = omega arith in subst (λ n. slice_get m.insns n ≡ Some x) next (stand (suc j) x e)))

pub from_zero : (m : Machine) → StandFrom m 0 m.insns
from_zero m j i e = let same : j ≡ 0 + j = omega arith in subst (λ n. slice_get m.insns n ≡ Some i) same e

-- By a tight tree of a machine bytes are decoded as by the machine itself.
pub tight_decodes : (t : Tree) (m : Machine) (bytes : List ℕ) → IsSound m → AreBytes bytes → IsTight t m → found t m bytes ≡ decoded_to m bytes
tight_decodes t m bytes sound h tight =
    let x : Reaches (table_of m) (decodables m) (whole bytes) (reached t.root (whole bytes)) = leads (table_of m) (decodables m) (most_nodes m < size t.root + 2) (whole bytes) t.root tight.each in
    ap (find (λ k. matches_at m k bytes)) x.is ∙ first_from m bytes x.path sound h x.given 0 m.insns (from_zero m)
