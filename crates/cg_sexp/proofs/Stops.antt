-- The reader's steps stop at the first fault.
use Rattle.std.specs.Prelude.{◌≡◌, ℕ, suc, true, false, ◌==◌, nat_lt, List, [], ◌∷◌, length, Ok, Err, codes, refl}
use Rattle.std.proofs.Common.{arith, ◌∙◌, ap, sym, subst}
use Rattle.std.proofs.lemmas.List.{append-nil}
use Rattle.std.proofs.lemmas.Bool.Decides.{nat_tests}
use Rattle.cg_base.specs.declared.form.Form.{Form}
use Rattle.cg_base.specs.declared.form.Form.TheVariants.{Items}
use Rattle.cg_base.specs.declared.form.Top.{Top}
use Rattle.cg_base.specs.declared.refusal.Refusal.{Refusal}
use Rattle.cg_base.specs.Grammar.{is_string_byte, line_after}
use Rattle.cg_base.specs.Refusing.{refusal_at}
use Rattle.cg_base.specs.Faults.{Offends, foreign_byte, no_token, foreign_in_string, no_escape, open_string, open_list, no_list_is_open, too_deep, Faults, here, behind_space, behind_leaf, behind_opening, behind_closing}
use Rattle.cg_sexp.specs.declared.stack.Open.{Open}
use Rattle.cg_sexp.specs.Machine.{and_then, Nest, put, pushed, put_in, closed_in, whole_in, between, in_string, escape_as, ends}
use Rattle.cg_sexp.proofs.Taken.{letters_held, token_faults, string_held, space_taken, leaf_taken}

-- The lines of the lists that are open, the innermost first.
abbrev pub lines_of : List Open → List ℕ
lines_of [] = []
lines_of (o ∷ os) = o.line ∷ lines_of os

pub lines_length : (os : List Open) → length (lines_of os) ≡ length os
lines_length [] = refl
lines_length (o ∷ os) = ap (λ n. suc n) (lines_length os)

pub put_lines : (f : Form) (l : ℕ) (n : Nest) → lines_of (put f l n).lists ≡ lines_of n.lists
put_lines f l n = from n.file n.tops n.lists where
  from : (file : ℕ) (tops : List Top) (os : List Open) → lines_of (put_in file tops os f l).lists ≡ lines_of os
  from file tops [] = refl
  from file tops (o ∷ os) = refl

pub put_file : (f : Form) (l : ℕ) (n : Nest) → (put f l n).file ≡ n.file
put_file f l n = from n.file n.tops n.lists where
  from : (file : ℕ) (tops : List Top) (os : List Open) → (put_in file tops os f l).file ≡ file
  from file tops [] = refl
  from file tops (o ∷ os) = refl

no_quote : (b : ℕ) → is_string_byte b ≡ false → ((b == 34) ≡ false) × ((b == 92) ≡ false)
no_quote b h = grind (arith, nat_tests)

whole_open : (file : ℕ) (tops : List Top) (xs : List Open) (o : ℕ) (os : List ℕ) → lines_of xs ≡ o ∷ os → whole_in file tops xs ≡ Err (refusal_at file o (102, codes "list"))
whole_open file tops [] o os e = absurd cc
whole_open file tops (x ∷ xs) o os e = cc

closed_none : (file : ℕ) (tops : List Top) (xs : List Open) (l : ℕ) → lines_of xs ≡ [] → closed_in file tops xs l ≡ Err (refusal_at file l (103, codes ")"))
closed_none file tops [] l e = refl
closed_none file tops (x ∷ xs) l e = absurd cc

-- An offence stops the reader.
pub offence_stops : (n : Nest) {os bs : List ℕ} {l : ℕ} {r : Refusal} → Offends n.file os l bs r → lines_of n.lists ≡ os → ends (between l n) bs ≡ Err r
offence_stops n (foreign_byte b k) e = rw k
offence_stops n (no_token {l} {fault} b w bs letters at s) e = letters_held (b ∷ w) [] l n letters bs ∙ token_faults b w l n fault at bs s
offence_stops n (foreign_in_string {s} {w} {l} b bs x h) e =
    let q = no_quote b h in string_held x l [] l n (b ∷ bs) ∙ rw (q.0, q.1, h)
offence_stops n (no_escape {s} {w} {l} b bs x h) e =
    string_held x l [] l n (92 ∷ b ∷ bs) ∙ ap (λ r. and_then (λ t. ends t bs) (escape_as r l s b (line_after l w) n)) h
offence_stops n (open_string {s} {w} {l} x) e = ap (ends (in_string l [] l n)) (sym (append-nil w)) ∙ string_held x l [] l n []
offence_stops n (open_list {os} {l} {o}) e = whole_open n.file n.tops n.lists o os e
offence_stops n (no_list_is_open {bs} {l}) e = ap (λ r. and_then (λ t. ends t bs) (and_then (λ m. Ok (between l m)) r)) (closed_none n.file n.tops n.lists l e)
offence_stops n (too_deep {os} {bs} {l} h) e =
    let k : nat_lt (length n.lists) 200 ≡ false = ap (λ m. nat_lt m 200) (sym (lines_length n.lists) ∙ ap (λ (xs : List ℕ). length xs) e) ∙ h in
    rw k

-- The first fault stops the reader.
pub fault_stops : (file : ℕ) {os bs : List ℕ} {l : ℕ} {r : Refusal} → Faults file os l bs r → (n : Nest) → n.file ≡ file → lines_of n.lists ≡ os → ends (between l n) bs ≡ Err r
fault_stops file (here {os} {bs} {l} {r} o) n p e =
    let P : ℕ → Type 0 = λ x. Offends x os l bs r in
    offence_stops n (subst P (sym p) o) e
fault_stops file (behind_space {os} {bs} {l} w x s) n p e = space_taken x l n bs ∙ fault_stops file s n p e
fault_stops file (behind_leaf {os} {bs} {l} {r} {f} w x s) n p e =
    leaf_taken x l n ∙ fault_stops file s (put f l n) (put_file f l n ∙ p) (put_lines f l n ∙ e)
fault_stops file (behind_opening {os} {bs} {l} h s) n p e =
    let k : nat_lt (length n.lists) 200 ≡ true = ap (λ m. nat_lt m 200) (sym (lines_length n.lists) ∙ ap (λ (xs : List ℕ). length xs) e) ∙ h in
    rw k (fault_stops file s (pushed l n) p (ap (λ (xs : List ℕ). l ∷ xs) e))
fault_stops file (behind_closing {os} {bs} {l} {o} {r} s) n p e = from n.lists refl (λ m p e. fault_stops file s m p e) where
  from : (xs : List Open) → n.lists ≡ xs → ((m : Nest) → m.file ≡ file → lines_of m.lists ≡ os → ends (between l m) bs ≡ Err r) → ends (between l n) (41 ∷ bs) ≡ Err r
  from [] q rest = absurd (let g = sym (ap lines_of q) ∙ e in cc)
  from (x ∷ xs) q rest =
      let m : Nest = put_in n.file n.tops xs (Items x.forms) x.line in
      let around : Nest = record { file = n.file; tops = n.tops; lists = xs } in
      let t : lines_of xs ≡ os = let g : x.line ∷ lines_of xs ≡ o ∷ os = sym (ap lines_of q) ∙ e in cc in
      ap (λ ys. and_then (λ t. ends t bs) (and_then (λ m. Ok (between l m)) (closed_in n.file n.tops ys l))) q
      ∙ rest m (put_file (Items x.forms) x.line around ∙ p) (put_lines (Items x.forms) x.line around ∙ t)
