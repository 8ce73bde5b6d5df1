-- The characters in front of a text that a slot may have.
use Rattle.std.specs.Prelude.{ℕ, ◌≤◌, Bool, true, false, if◌then◌else◌, cond, List, [], ◌∷◌, ◌++◌, length, take, drop}
use Rattle.std.specs.List.{list_all, prefix_len, take_while}
use Rattle.std.proofs.Common.{◌≡◌, refl, sym, ap, ◌∙◌, arith}
use Rattle.std.proofs.Math.Seq.{take-append_seam, drop-append_seam}
use Rattle.std.proofs.lemmas.Bool.{and_parts, and_from}
use Rattle.std.proofs.lemmas.Bool.Decides.{nat_tests}
use Rattle.std.proofs.lemmas.List.Sums.{take_while-cons, prefix_len-le-length}
use Rattle.cg_model.specs.Words.{lower}
use Rattle.cg_model_source.specs.Squeezing.{begins}
use Rattle.cg_model.specs.declared.machine.Machine.{Machine}
use Rattle.cg_model.specs.declared.operand.Operand.{Operand}
use Rattle.cg_model_faults.specs.E312.{has_words, may_have}
use Rattle.cg_base.specs.Characters.{is_in_word, is_in_sum}

-- A run ends where a text begins that goes on with other characters.
pub run_ends : (test : ℕ → Bool) (w text : List ℕ) → list_all test w ≡ true → begins test text ≡ false → prefix_len test (w ++ text) ≡ length w
run_ends test [] [] all stop = refl
run_ends test [] (b ∷ text) all stop =
    let here : test b ≡ false = stop in
    rw here refl
run_ends test (b ∷ w) text all stop =
    let here : test b ≡ true = (and_parts (test b) (list_all test w) all).0 in
    let rest : prefix_len test (w ++ text) ≡ length w = run_ends test w text (and_parts (test b) (list_all test w) all).1 stop in
    rw (here, rest) (omega arith)

pub run_taken : (test : ℕ → Bool) (w text : List ℕ) → list_all test w ≡ true → begins test text ≡ false → take_while test (w ++ text) ≡ w
run_taken test w text all stop = ap (λ n. take n (w ++ text)) (run_ends test w text all stop) ∙ take-append_seam w text

pub run_dropped : (test : ℕ → Bool) (w text : List ℕ) → list_all test w ≡ true → begins test text ≡ false → drop (prefix_len test (w ++ text)) (w ++ text) ≡ text
run_dropped test w text all stop = ap (λ n. drop n (w ++ text)) (run_ends test w text all stop) ∙ drop-append_seam w text

passes_on : (test : ℕ → Bool) (b : ℕ) (text : List ℕ) (t : Bool) → test b ≡ t → list_all test (take_while test text) ≡ true → list_all test (cond t (b ∷ take_while test text) []) ≡ true
passes_on test b text true e rest = and_from (test b) (list_all test (take_while test text)) e rest
passes_on test b text false e rest = refl

-- The characters of a run are such.
pub run_passes : (test : ℕ → Bool) (text : List ℕ) → list_all test (take_while test text) ≡ true
run_passes test [] = refl
run_passes test (b ∷ text) = ap (list_all test) (take_while-cons test b text) ∙ passes_on test b text (test b) refl (run_passes test text)

word_alike : (b : ℕ) → is_in_word (lower b) ≡ is_in_word b
word_alike b = grind (arith, nat_tests)

sum_alike : (b : ℕ) → is_in_sum (lower b) ≡ is_in_sum b
sum_alike b = grind (arith, nat_tests)

picked_alike : (h : Bool) (b : ℕ) → (if h then is_in_word (lower b) else is_in_sum (lower b)) ≡ (if h then is_in_word b else is_in_sum b)
picked_alike true b = word_alike b
picked_alike false b = sum_alike b

-- Letter case doesn't matter for what an operand's text may have.
pub alike : (m : Machine) (o : Operand) (b c : ℕ) → lower b ≡ lower c → may_have m o b ≡ may_have m o c
alike m o b c e = sym (picked_alike (has_words m o) b) ∙ ap (may_have m o) e ∙ picked_alike (has_words m o) c

pub at_most : (test : ℕ → Bool) (text : List ℕ) → prefix_len test text ≤ length text
at_most test text = prefix_len-le-length test text
