-- What slots are given, in the format's order.
use Rattle.std.specs.Prelude.{ℕ, suc, ◌+◌, ◌<◌, ◌==◌, if◌then◌else◌, List, [], ◌∷◌, ◌++◌, length, drop, ℤ, Option, Some, slice_get}
use Rattle.std.proofs.Common.{◌≡◌, refl, sym, ap, ◌∙◌, get_or, append_assoc, arith}
use Rattle.std.proofs.lemmas.Option.{slice_get-get_or}
use Rattle.cg_syntax_fit.proofs.Values.{drop_next}
use Rattle.cg_syntax_choose.proofs.FrontLemmas.{same_some}
use Rattle.cg_syntax_choose.specs.Ordering.{filled_sum, filled_sums, given_one, given_all}
use Rattle.cg_model_source.specs.Choosing.{sum_at, sums_from, given_sum, given_sums, known, known_all}
use Rattle.cg_model_source.specs.Splitting.{Spelling}
use Rattle.cg_model.specs.declared.insn.Given.{Given}
use Rattle.cg_model.specs.declared.insn.Given.TheVariants as given
use Rattle.cg_model_source.specs.declared.written.Sum.{Sum}
use Rattle.cg_syntax_split.specs.Passing.{filled}
use Rattle.cg_syntax_split.specs.declared.splitting.Filled.{Filled}

-- Where spellings fill the slots, what slots are given is what is written in them.
pub sum_is : (k : ℕ) (ws : List Spelling) → filled_sum k (filled ws) ≡ sum_at k ws
sum_is k [] = refl
sum_is k (w ∷ ws) = ap (λ s. if w.slot == k then w.sum else s) (sum_is k ws)

pub sums_are : (k : ℕ) (os : List ℕ) (ws : List Spelling) → filled_sums k os (filled ws) ≡ sums_from k os ws
sums_are k [] ws = refl
sums_are k (o ∷ os) ws = ap (λ s. s ∷ filled_sums (suc k) os (filled ws)) (sum_is k ws) ∙ ap (λ ss. sum_at k ws ∷ ss) (sums_are (suc k) os ws)

one_given : (ws : List Spelling) (g : Given) → given_one (filled ws) g ≡ given_sum ws g
one_given ws (given.Number n) = refl
one_given ws (given.Slot k) = sum_is k ws

pub given_are : (ws : List Spelling) (gs : List Given) → given_all (filled ws) gs ≡ given_sums ws gs
given_are ws [] = refl
given_are ws (g ∷ gs) = ap (λ s. s ∷ given_all (filled ws) gs) (one_given ws g) ∙ ap (λ ss. given_sum ws g ∷ ss) (given_are ws gs)

pub as_many_sums : (k : ℕ) (os : List ℕ) (fs : List Filled) → length (filled_sums k os fs) ≡ length os
as_many_sums k [] fs = refl
as_many_sums k (o ∷ os) fs = ap suc (as_many_sums (suc k) os fs)

pub as_many_given : (fs : List Filled) (gs : List Given) → length (given_all fs gs) ≡ length gs
as_many_given fs [] = refl
as_many_given fs (g ∷ gs) = ap suc (as_many_given fs gs)

-- one slot more
pub next_slot : (os : List ℕ) (fs : List Filled) (k : ℕ) → k < length os → filled_sums k (drop k os) fs ≡ filled_sum k fs ∷ filled_sums (k + 1) (drop (k + 1) os) fs
next_slot os fs k within =
    let next : suc k ≡ k + 1 = omega arith in
    ap (λ xs. filled_sums k xs fs) (drop_next os k 0 within) ∙ ap (λ n. filled_sum k fs ∷ filled_sums n (drop (k + 1) os) fs) next

pub slot_more : (os : List ℕ) (fs : List Filled) (k : ℕ) (s : Sum) (old new whole : List Sum) → k < length os → s ≡ filled_sum k fs → new ≡ old ++ s ∷ [] → old ++ filled_sums k (drop k os) fs ≡ whole →
    new ++ filled_sums (k + 1) (drop (k + 1) os) fs ≡ whole
slot_more os fs k s old new whole within e n so =
    ap (λ xs. xs ++ filled_sums (k + 1) (drop (k + 1) os) fs) n
    ∙ append_assoc old (s ∷ []) (filled_sums (k + 1) (drop (k + 1) os) fs)
    ∙ ap (λ x. old ++ x ∷ filled_sums (k + 1) (drop (k + 1) os) fs) e
    ∙ ap (λ xs. old ++ xs) (sym (next_slot os fs k within)) ∙ so

pub next_given : (fs : List Filled) (gs : List Given) (k : ℕ) (d : Given) → k < length gs → given_all fs (drop k gs) ≡ given_one fs (get_or gs k d) ∷ given_all fs (drop (k + 1) gs)
next_given fs gs k d within = ap (given_all fs) (drop_next gs k d within)

pub ruleset giving = (next_given)

-- one known number more
pub next_known : (ss : List Sum) (k : ℕ) (s : Sum) → k < length ss → slice_get ss k ≡ Some s → known_all (drop k ss) ≡ known s ∷ known_all (drop (k + 1) ss)
next_known ss k s within at =
    let here : get_or ss k s ≡ s = same_some (sym (slice_get-get_or ss k s within) ∙ at) in
    ap known_all (drop_next ss k s within) ∙ ap (λ x. known x ∷ known_all (drop (k + 1) ss)) here

pub known_more : (ss : List Sum) (k : ℕ) (s : Sum) (n : Option ℤ) (old new whole : List (Option ℤ)) → k < length ss → slice_get ss k ≡ Some s → n ≡ known s → new ≡ old ++ n ∷ [] → old ++ known_all (drop k ss) ≡ whole →
    new ++ known_all (drop (k + 1) ss) ≡ whole
known_more ss k s n old new whole within at e more so =
    ap (λ xs. xs ++ known_all (drop (k + 1) ss)) more
    ∙ append_assoc old (n ∷ []) (known_all (drop (k + 1) ss))
    ∙ ap (λ x. old ++ x ∷ known_all (drop (k + 1) ss)) e
    ∙ ap (λ xs. old ++ xs) (sym (next_known ss k s within at)) ∙ so

pub as_many_known : (ss : List Sum) → length (known_all ss) ≡ length ss
as_many_known [] = refl
as_many_known (s ∷ ss) = ap suc (as_many_known ss)
