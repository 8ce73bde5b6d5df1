-- Of a writer's and a reader's known bytes, over the calls of a loop.
use Rattle.std.proofs.Common.{◌≡◌, ℕ, ◌+◌, ◌-◌, List, [], ◌++◌, length, take, drop, Option, None, Some, sym, ap, ◌∙◌, subst, append_assoc, append-nil, take-append-drop}
use Rattle.std.proofs.lemmas.List.{take_rest}
use Rattle.std.proofs.Math.Seq.{take-append-add}
use Rattle.std.specs.Io.KnownBytes.{Appends, Keeps}
use Rattle.std.proofs.KnownBytes.{Appends-trans}

-- what is done and what is left stay the whole when n bytes move from one to the other
pub moves_front : (all done rest : List ℕ) (n : ℕ) → all ≡ done ++ rest → all ≡ (done ++ take n rest) ++ take (length rest - n) (drop n rest)
moves_front all done rest n split =
    split ∙ ap (λ l. done ++ l) (sym (take-append-drop n rest)) ∙ sym (append_assoc done (take n rest) (drop n rest))
    ∙ ap (λ l. (done ++ take n rest) ++ l) (sym (take_rest rest n))

-- what is done, and then n bytes of what is left, are a front of the whole
pub front_more : (old mid new : Option (List ℕ)) (all done rest : List ℕ) (n : ℕ) → all ≡ done ++ rest
    → Appends old mid done → Appends mid new (take n rest) → Appends old new (take (length done + n) all)
front_more old mid new all done rest n split first second =
    subst (Appends old new) (sym (ap (take (length done + n)) split ∙ take-append-add done rest n)) (Appends-trans old mid new done (take n rest) first second)

-- bytes that stayed grew by nothing
pub kept_nothing : (old new : Option (List ℕ)) → Keeps old new → Appends old new []
kept_nothing None new kept = tt
kept_nothing (Some bytes) None kept = absurd kept
kept_nothing (Some bytes) (Some after) kept = kept ∙ sym (append-nil bytes)
