-- What is written is read so.
use Rattle.std.proofs.Common.{◌≡◌, ℕ, suc, ◌+◌, ◌-◌, Bool, true, false, cond, ◌==◌, ◌&&◌, nat_lt, List, [], ◌∷◌, ◌++◌, length, take, drop, Option, Some, None, refl, ap, ◌∙◌, arith}
use Rattle.std.proofs.Math.Seq.{take-append_seam, drop-append_seam}
use Rattle.std.proofs.lemmas.List.{length-append}
use Rattle.std.proofs.lemmas.Bool.Decides.{nat_tests}
use Rattle.std.specs.List.{list_all, prefix_len}
use Rattle.cg_base.specs.Parts.{◌>>=◌}
use Rattle.cg_insn.specs.declared.syntax.NamedPiece.{NamedPiece}
use Rattle.cg_insn.specs.declared.syntax.NamedPiece.TheVariants.{Literal, Slot}
use Rattle.cg_insn.specs.Syntax.{Spelled, Rereads, Writes, nothing, as_it_is, bare, in_braces, is_name_byte, is_dollar, is_not_closing, is_not_dollar, goes_on, is_literal, slot_named, slot_in_braces, bare_slot, slot, literal_of, literal, first_piece, in_front, pieces_behind, pieces_of}
use Rattle.cg_insn.proofs.Behind.{passed}

both : (a b : Bool) → (a && b) ≡ true → (a ≡ true) × (b ≡ true)
both true b h = (refl, h)
both false b h = absurd cc

run : (p : ℕ → Bool) (xs ys : List ℕ) → list_all p xs ≡ true → goes_on p ys ≡ false → prefix_len p (xs ++ ys) ≡ length xs
run p [] [] all stop = refl
run p [] (y ∷ ys) all stop = rw stop refl
run p (x ∷ xs) ys all stop =
    let each = both (p x) (list_all p xs) all in
    let rest = run p xs ys each.1 stop in
    let more : 1 + prefix_len p (xs ++ ys) ≡ suc (length xs) = omega (arith, rest) in
    rw each.0 more

named_so : (name : List ℕ) (more : ℕ) → (length name == 0) ≡ false → slot_named name more ≡ Some (Slot name, more)
named_so name more some = rw some refl

step : (x : Spelled) (b : ℕ) (text bs : List ℕ) (ps : List NamedPiece) → first_piece (b ∷ text) ≡ Some x → drop x.1 text ≡ bs → pieces_of bs ≡ Some ps → pieces_of (b ∷ text) ≡ Some (x.0 ∷ ps)
unfolding pieces_behind
step x b text bs ps first rest read =
    ap (λ (s : Option Spelled). s >>= (λ y. in_front y.0 (pieces_behind y.1 text))) first ∙ ap (λ (r : Option (List NamedPiece)). in_front x.0 r) (passed x.1 text ∙ ap pieces_of rest ∙ read)

literal_first : (b : ℕ) (text bs : List ℕ) → is_literal (b ∷ text) ≡ true → list_all is_not_dollar (b ∷ text) ≡ true → goes_on is_not_dollar bs ≡ false → first_piece (b ∷ text ++ bs) ≡ Some (Literal (b ∷ text), length text)
literal_first b text bs fits all stop =
    let each = both (is_not_dollar b) (list_all is_not_dollar text) all in
    let plain : is_dollar b ≡ false = grind (arith, nat_tests, each.0) in
    let count = run is_not_dollar (b ∷ text) bs all stop in
    let less : length (b ∷ text) - 1 ≡ length text = omega arith in
    ap (λ e. cond e (slot (text ++ bs)) (literal (b ∷ text ++ bs))) plain ∙
    ap (λ (n : ℕ). literal_of (take n (b ∷ text ++ bs))) count ∙
    ap literal_of (take-append_seam (b ∷ text) bs) ∙
    ap (λ e. cond e (Some (Literal (b ∷ text), length (b ∷ text) - 1)) None) fits ∙
    ap (λ (n : ℕ). Some (Literal (b ∷ text), n)) less

bare_so : (name bs : List ℕ) → (length name == 0) ≡ false → list_all is_name_byte name ≡ true → goes_on is_name_byte bs ≡ false → bare_slot (name ++ bs) ≡ Some (Slot name, length name)
bare_so name bs some all stop =
    ap (λ (n : ℕ). slot_named (take n (name ++ bs)) n) (run is_name_byte name bs all stop) ∙ ap (λ (l : List ℕ). slot_named l (length name)) (take-append_seam name bs) ∙ named_so name (length name) some

slot_so : (name bs : List ℕ) → (length name == 0) ≡ false → list_all is_name_byte name ≡ true → goes_on is_name_byte bs ≡ false → slot (name ++ bs) ≡ Some (Slot name, length name)
slot_so [] bs some all stop = absurd cc
slot_so (b ∷ name) bs some all stop =
    let each = both (is_name_byte b) (list_all is_name_byte name) all in
    let other : (b == 123) ≡ false = grind (arith, nat_tests, each.0) in
    ap (λ e. cond e (slot_in_braces (name ++ bs)) (bare_slot (b ∷ name ++ bs))) other ∙ bare_so (b ∷ name) bs some all stop

braces_so : (name bs : List ℕ) → (length name == 0) ≡ false → list_all is_not_closing name ≡ true → slot_in_braces (name ++ 125 ∷ bs) ≡ Some (Slot name, suc (suc (length name)))
braces_so name bs some all =
    let count = run is_not_closing name (125 ∷ bs) all refl in
    let long = length-append name (125 ∷ bs) in
    let within : nat_lt (length name) (length (name ++ 125 ∷ bs)) ≡ true = grind (arith, nat_tests, long) in
    let two : length name + 2 ≡ suc (suc (length name)) = omega arith in
    ap (λ (n : ℕ). cond (nat_lt n (length (name ++ 125 ∷ bs))) (Some n) None >>= (λ m. slot_named (take m (name ++ 125 ∷ bs)) (m + 2))) count ∙
    ap (λ e. cond e (Some (length name)) None >>= (λ m. slot_named (take m (name ++ 125 ∷ bs)) (m + 2))) within ∙
    ap (λ (l : List ℕ). slot_named l (length name + 2)) (take-append_seam name (125 ∷ bs)) ∙
    named_so name (length name + 2) some ∙
    ap (λ (n : ℕ). Some (Slot name, n)) two

behind_braces : (name bs : List ℕ) → drop (suc (length name)) (name ++ 125 ∷ bs) ≡ bs
behind_braces [] bs = refl
behind_braces (b ∷ name) bs = behind_braces name bs

pub reads : (ps : List NamedPiece) (bs : List ℕ) → Writes ps bs → pieces_of bs ≡ Some ps
unfolding pieces_behind
reads _ _ nothing = refl
reads _ _ (as_it_is [] some fits all stop w) = absurd cc
reads _ _ (as_it_is {ps = ps} {bs = bs} (b ∷ text) some fits all stop w) =
    step (Literal (b ∷ text), length text) b (text ++ bs) bs ps (literal_first b text bs fits all stop) (drop-append_seam text bs) (reads ps bs w)
reads _ _ (bare {ps = ps} {bs = bs} name some all stop w) =
    step (Slot name, length name) 36 (name ++ bs) bs ps (slot_so name bs some all stop) (drop-append_seam name bs) (reads ps bs w)
reads _ _ (in_braces {ps = ps} {bs = bs} name some all w) =
    step (Slot name, suc (suc (length name))) 36 (123 ∷ name ++ 125 ∷ bs) bs ps (braces_so name bs some all) (behind_braces name bs) (reads ps bs w)

pub reread : (text : List ℕ) → Rereads text
reread text ps w = reads ps text w
