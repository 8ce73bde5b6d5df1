-- A text has one split at most where all slots are delimited, and it is found.
use Rattle.std.specs.Prelude.{ℕ, Bool, true, false, ◌==◌, if◌then◌else◌, List, [], ◌∷◌, ◌++◌, Option, Some, None}
use Rattle.std.specs.List.{prefix_len}
use Rattle.std.proofs.Common.{◌≡◌, refl, sym, ap, ◌∙◌, subst}
use Rattle.std.proofs.lemmas.Bool.{both_ways, eqb-true}
use Rattle.std.proofs.lemmas.List.{take-append-drop}
use Rattle.cg_model_source.specs.Spelling.{spelled}
use Rattle.cg_model.specs.Words.{lower}
use Rattle.cg_model_source.specs.Splitting.{Spelling, operand_at, Splits, done, byte, slot, run_of, behind_run, spelling_in_front, split}
use Rattle.cg_model_source.specs.Squeezing.{begins, squeezed_syntax}
use Rattle.cg_model.specs.declared.insn.Piece.{Piece}
use Rattle.cg_model.specs.declared.machine.Machine.{Machine}
use Rattle.cg_model.specs.declared.operand.Operand.{Operand}
use Rattle.cg_model_source.specs.declared.written.Mark.{Mark}
use Rattle.cg_model_source.specs.declared.written.Mark.TheVariants.{Byte, Slot}
use Rattle.cg_model_source.specs.declared.written.Sum.{Sum}
use Rattle.cg_model_faults.specs.E312.{may_have}
use Rattle.cg_syntax_split.specs.Laws.{SplitLaws}
use Rattle.cg_syntax_split.proofs.Delimited.{follows, AreDelimited, syntax_delimited, same_some, none_is_none}
use Rattle.cg_syntax_split.proofs.Runs.{run_taken, run_dropped, run_passes, alike}

-- Where marks stop the text of an operand, so does each text that they split.
text_stops : (m : Machine) (words : List (List ℕ)) (operands : List ℕ) (o : Operand) {ms : List Mark} {text : List ℕ} {found : List Spelling} → Splits m words operands ms text found → follows (may_have m o) ms ≡ false → begins (may_have m o) text ≡ false
text_stops m words operands o done e = refl
text_stops m words operands o (byte b c same rest) e = sym (alike m o b c (eqb-true (lower b) (lower c) same)) ∙ e
text_stops m words operands o (slot k x w sum at spelled rest) e = absurd (both_ways true e refl)

put_in_front : (k : ℕ) (w : List ℕ) (sum : Sum) (found : List Spelling) {v : List ℕ} {said : Option Sum} {rest : Option (List Spelling)} → v ≡ w → said ≡ Some sum → rest ≡ Some found →
    spelling_in_front k v said rest ≡ Some (record { slot = k; text = w; sum = sum } ∷ found)
put_in_front k w sum found taken so later = rw (taken, so, later) refl

-- Each split is found where all slots are delimited.
pub complete : (m : Machine) (words : List (List ℕ)) (operands : List ℕ) {ms : List Mark} {text : List ℕ} {found : List Spelling} → AreDelimited m operands ms → Splits m words operands ms text found → split m words operands ms text ≡ Some found
unfolding split
complete m words operands d done = refl
complete m words operands d (byte b c same rest) = rw same (complete m words operands d rest)
complete m words operands d (slot {ms} {text} {found} k o w sum at said rest) =
    let stop : begins (may_have m o) text ≡ false = text_stops m words operands o rest (d.0 o at) in
    let taken : run_of m o (w ++ text) ≡ w = run_taken (may_have m o) w text said.run stop in
    let dropped : behind_run m o (w ++ text) ≡ text = run_dropped (may_have m o) w text said.run stop in
    let so : spelled m words o (run_of m o (w ++ text)) ≡ Some sum = ap (spelled m words o) taken ∙ said.stands_for in
    let later : split m words operands ms (behind_run m o (w ++ text)) ≡ Some found = ap (split m words operands ms) dropped ∙ complete m words operands d.1 rest in
    subst (λ x. (elim x as (λ y. Option (List Spelling)) [ None ↦ None | Some p ↦ spelling_in_front k (run_of m p (w ++ text)) (spelled m words p (run_of m p (w ++ text))) (split m words operands ms (behind_run m p (w ++ text))) ]) ≡ Some (record { slot = k; text = w; sum = sum } ∷ found)) (sym at) (put_in_front k w sum found taken so later)

at_byte : (m : Machine) (words : List (List ℕ)) (operands : List ℕ) (b c : ℕ) (ms : List Mark) (text : List ℕ) (found : List Spelling) (same : Bool) → (lower b == lower c) ≡ same →
    ((rest : List Spelling) → split m words operands ms text ≡ Some rest → Splits m words operands ms text rest) →
    (if same then split m words operands ms text else None) ≡ Some found → Splits m words operands (Byte b ∷ ms) (c ∷ text) found
at_byte m words operands b c ms text found true at sound e = byte b c at (sound found e)
at_byte m words operands b c ms text found false at sound e = absurd (none_is_none e)

at_spelling : (m : Machine) (words : List (List ℕ)) (operands : List ℕ) (k : ℕ) (o : Operand) (ms : List Mark) (text : List ℕ) (found : List Spelling) → operand_at m operands k ≡ Some o →
    (said : Option Sum) → spelled m words o (run_of m o text) ≡ said →
    (rest : Option (List Spelling)) → ((known : List Spelling) → rest ≡ Some known → Splits m words operands ms (behind_run m o text) known) →
    spelling_in_front k (run_of m o text) said rest ≡ Some found → Splits m words operands (Slot k ∷ ms) text found
at_spelling m words operands k o ms text found at None said rest sound e = absurd (none_is_none e)
at_spelling m words operands k o ms text found at (Some sum) said None sound e = absurd (none_is_none e)
at_spelling m words operands k o ms text found at (Some sum) said (Some known) sound e =
    let whole : Splits m words operands (Slot k ∷ ms) (run_of m o text ++ behind_run m o text) (record { slot = k; text = run_of m o text; sum = sum } ∷ known) =
    slot k o (run_of m o text) sum at (record { run = run_passes (may_have m o) text; stands_for = said }) (sound known refl) in
    let same : Splits m words operands (Slot k ∷ ms) text (record { slot = k; text = run_of m o text; sum = sum } ∷ known) =
    subst (λ t. Splits m words operands (Slot k ∷ ms) t (record { slot = k; text = run_of m o text; sum = sum } ∷ known)) (take-append-drop (prefix_len (may_have m o) text) text) whole in
    subst (λ f. Splits m words operands (Slot k ∷ ms) text f) (same_some e) same

at_slot : (m : Machine) (words : List (List ℕ)) (operands : List ℕ) (k : ℕ) (ms : List Mark) (text : List ℕ) (found : List Spelling) (o : Option Operand) → operand_at m operands k ≡ o →
    ((text : List ℕ) (known : List Spelling) → split m words operands ms text ≡ Some known → Splits m words operands ms text known) →
    (elim o as (λ x. Option (List Spelling)) [ None ↦ None | Some o ↦ spelling_in_front k (run_of m o text) (spelled m words o (run_of m o text)) (split m words operands ms (behind_run m o text)) ]) ≡ Some found →
    Splits m words operands (Slot k ∷ ms) text found
at_slot m words operands k ms text found None at sound e = absurd (none_is_none e)
at_slot m words operands k ms text found (Some o) at sound e =
    at_spelling m words operands k o ms text found at (spelled m words o (run_of m o text)) refl (split m words operands ms (behind_run m o text)) (sound (behind_run m o text)) e

sound : (m : Machine) (words : List (List ℕ)) (operands : List ℕ) (ms : List Mark) (text : List ℕ) (found : List Spelling) → split m words operands ms text ≡ Some found → Splits m words operands ms text found
unfolding split
sound m words operands [] [] found e = subst (λ f. Splits m words operands [] [] f) (same_some e) done
sound m words operands [] (c ∷ text) found e = absurd (none_is_none e)
sound m words operands (Byte b ∷ ms) [] found e = absurd (none_is_none e)
sound m words operands (Byte b ∷ ms) (c ∷ text) found e = at_byte m words operands b c ms text found (lower b == lower c) refl (sound m words operands ms text) e
sound m words operands (Slot k ∷ ms) text found e = at_slot m words operands k ms text found (operand_at m operands k) refl (sound m words operands ms) e

same_found : {one other : List Spelling} (x : Option (List Spelling)) → x ≡ Some one → x ≡ Some other → one ≡ other
same_found x a b = same_some (sym a ∙ b)

pub split_laws : (m : Machine) (operands : List ℕ) (pieces : List Piece) → SplitLaws m operands pieces
split_laws m operands pieces = record {
  sound = λ words text found e. sound m words operands (squeezed_syntax pieces) text found e;
  complete = λ e words text found s. complete m words operands (syntax_delimited m operands pieces e) s;
  one = λ e words text found other s t.
      same_found (split m words operands (squeezed_syntax pieces) text) (complete m words operands (syntax_delimited m operands pieces e) s) (complete m words operands (syntax_delimited m operands pieces e) t);
}
