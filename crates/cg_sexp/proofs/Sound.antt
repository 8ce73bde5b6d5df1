-- What the reader's steps give is spelled, and where they stop is the first fault.
use Rattle.std.specs.Prelude.{◌≡◌, ℕ, suc, ◌+◌, ◌≤◌, Bool, true, false, nat_lt, List, [], ◌∷◌, ◌++◌, length, Result, Ok, Err, codes, refl}
use Rattle.std.proofs.Common.{zero, arith, append_assoc, ◌∙◌, ap, sym, subst}
use Rattle.std.proofs.lemmas.List.{length-append}
use Rattle.std.proofs.lemmas.Bool.{ltb-true}
use Rattle.cg_base.specs.declared.form.Form.{Form}
use Rattle.cg_base.specs.declared.form.Form.TheVariants.{Items}
use Rattle.cg_base.specs.declared.form.Top.{Top}
use Rattle.cg_base.specs.declared.refusal.Refusal.{Refusal}
use Rattle.cg_base.specs.Grammar.{Spells, done, space, leaf, list, IsSpace, IsLeaf, word, quoted, starts_token, line_after}
use Rattle.cg_base.specs.Refusing.{refusal_at}
use Rattle.cg_base.specs.Faults.{Offends, open_list, no_list_is_open, too_deep, Faults, here, behind_space, behind_leaf, behind_opening, behind_closing}
use Rattle.cg_sexp.specs.declared.stack.Open.{Open}
use Rattle.cg_sexp.specs.Machine.{and_then, Nest, put, pushed, closed, closed_in, whole, whole_in, between, ends}
use Rattle.cg_sexp.proofs.Taken.{line_after-append, space_taken, leaf_taken, puts, put_depth, list_closed}
use Rattle.cg_sexp.proofs.Stops.{lines_of, lines_length, put_lines, put_file, offence_stops}
use Rattle.cg_sexp.proofs.Front.{line_ends, line_ends-append, ends_anyway, Front, nothing, at_space, at_leaf, at_opening, at_closing, at_fault, front}

-- The bytes that are left close the d lists that are open, and the text has these forms then. Lists may be k deep within.
pub data Tail : ℕ → ℕ → ℕ → Nest → List ℕ → List Top → Type 0 where
  last : {k l : ℕ} {n : Nest} {fs : List Form} {ls bs : List ℕ} {tops : List Top} → Spells k l fs ls bs → whole (puts fs ls n) ≡ Ok tops → Tail 0 k l n bs tops
  closes : {d k l : ℕ} {n m : Nest} {fs : List Form} {ls ms rest : List ℕ} {tops : List Top} (q : ℕ) → line_after l ms ≡ q → Spells k l fs ls ms → closed q (puts fs ls n) ≡ Ok m → Tail d (suc k) q m rest tops → Tail (suc d) k l n (ms ++ 41 ∷ rest) tops

starts_token-front : (xs ys : List ℕ) → starts_token (xs ++ ys) ≡ false → starts_token xs ≡ false
starts_token-front [] ys h = refl
starts_token-front (x ∷ xs) ys h = h

leaf-front : {f : Form} {w bs : List ℕ} → IsLeaf f w bs → (xs ys : List ℕ) → bs ≡ xs ++ ys → IsLeaf f w xs
leaf-front (word w letters at s) xs ys e = word w letters at (starts_token-front xs ys (ap starts_token (sym e) ∙ s))
leaf-front (quoted w x) xs ys e = quoted w x

space_tail : {d k l : ℕ} {n : Nest} {bs : List ℕ} {tops : List Top} (w : List ℕ) → IsSpace w → Tail d k (line_after l w) n bs tops → Tail d k l n (w ++ bs) tops
space_tail w x (last s e) = last (space w x s) e
space_tail {d} {k} {l} {n} {bs} {tops} w x (closes {d = p} {ms} {rest} q e s c t) =
    let P : List ℕ → Type 0 = λ xs. Tail (suc p) k l n xs tops in
    subst P (append_assoc w ms (41 ∷ rest)) (closes q (line_after-append l w ms ∙ e) (space w x s) c t)

leaf_tail : {d k l : ℕ} {n : Nest} {bs : List ℕ} {tops : List Top} {f : Form} (w : List ℕ) → IsLeaf f w bs → Tail d k (line_after l w) (put f l n) bs tops → Tail d k l n (w ++ bs) tops
leaf_tail w x (last s e) = last (leaf w x s) e
leaf_tail {d} {k} {l} {n} {bs} {tops} w x (closes {d = p} {ms} {rest} q e s c t) =
    let P : List ℕ → Type 0 = λ xs. Tail (suc p) k l n xs tops in
    subst P (append_assoc w ms (41 ∷ rest)) (closes q (line_after-append l w ms ∙ e) (leaf w (leaf-front x ms (41 ∷ rest) refl) s) c t)

list_before : {d k l : ℕ} {n : Nest} {gs : List Form} {ks ms bs : List ℕ} {tops : List Top} → Spells k l gs ks ms → (q : ℕ) → line_after l ms ≡ q → Tail d (suc k) q (put (Items gs) l n) bs tops → Tail d (suc k) l n (40 ∷ ms ++ 41 ∷ bs) tops
list_before {k} {l} {ms} s q e (last {fs} {ls} {bs} t h) =
    let P : ℕ → Type 0 = λ x. Spells (suc k) x fs ls bs in
    last (list s (subst P (sym e) t)) h
list_before {d} {k} {l} {n} {ms} {tops} s q e (closes {d = p} {fs} {ls} {ms = xs} {rest} r g t c u) =
    let P : List ℕ → Type 0 = λ ys. Tail (suc p) (suc k) l n (40 ∷ ys) tops in
    let Q : ℕ → Type 0 = λ x. Spells (suc k) x fs ls xs in
    let line : line_after l (40 ∷ ms ++ 41 ∷ xs) ≡ r = line_after-append l ms (41 ∷ xs) ∙ ap (λ (x : ℕ). line_after x xs) e ∙ g in
    subst P (append_assoc ms (41 ∷ xs) (41 ∷ rest)) (closes r line (list s (subst Q (sym e) t)) c u)

same_ok : {A E : Type 0} {a b : A} {r : Result A E} → r ≡ Ok a → r ≡ Ok b → a ≡ b
same_ok p q = cc

list_tail : {d k l : ℕ} {n : Nest} {bs : List ℕ} {tops : List Top} → Tail (suc d) k l (pushed l n) bs tops → Tail d (suc k) l n (40 ∷ bs) tops
list_tail {d} {k} {l} {n} {tops} (closes {m} {fs} {ls} {ms} {rest} q e s c t) =
    let P : Nest → Type 0 = λ x. Tail d (suc k) q x rest tops in
    list_before s q e (subst P (same_ok c (list_closed s l q n)) t)

-- What the bytes that are left give.
abbrev pub Meets : ℕ → ℕ → ℕ → Nest → List ℕ → Result (List Top) Refusal → Type 0
Meets d k l n bs (Ok tops) = Tail d k l n bs tops
Meets d k l n bs (Err r) = Faults n.file (lines_of n.lists) l bs r

meets_space : (d k l : ℕ) (n : Nest) (bs : List ℕ) (w : List ℕ) → IsSpace w → (r : Result (List Top) Refusal) → Meets d k (line_after l w) n bs r → Meets d k l n (w ++ bs) r
meets_space d k l n bs w x (Ok tops) t = space_tail w x t
meets_space d k l n bs w x (Err r) t = behind_space w x t

meets_leaf : (d k l : ℕ) (n : Nest) (bs : List ℕ) (f : Form) (w : List ℕ) → IsLeaf f w bs → (r : Result (List Top) Refusal) → Meets d k (line_after l w) (put f l n) bs r → Meets d k l n (w ++ bs) r
meets_leaf d k l n bs f w x (Ok tops) t = leaf_tail w x t
meets_leaf d k l n bs f w x (Err r) t =
    let P : ℕ → Type 0 = λ file. Faults file (lines_of (put f l n).lists) (line_after l w) bs r in
    let Q : List ℕ → Type 0 = λ os. Faults n.file os (line_after l w) bs r in
    behind_leaf w x (subst Q (put_lines f l n) (subst P (put_file f l n) t))

meets_list : (d k l : ℕ) (n : Nest) (bs : List ℕ) → nat_lt (length n.lists) 200 ≡ true → (r : Result (List Top) Refusal) → Meets (suc d) k l (pushed l n) bs r → Meets d (suc k) l n (40 ∷ bs) r
meets_list d k l n bs h (Ok tops) t = list_tail t
meets_list d k l n bs h (Err r) t = behind_opening (ap (λ m. nat_lt m 200) (lines_length n.lists) ∙ h) t

shorter : (b m : ℕ) (w rest : List ℕ) → length (b ∷ w ++ rest) ≤ suc m → length rest ≤ m
shorter b m w rest h = omega (arith, h, length-append w rest)

-- The bytes behind others end a line where all do.
rest_ends : (w rest : List ℕ) → line_ends true (w ++ rest) ≡ true → line_ends true rest ≡ true
rest_ends w rest h = ends_anyway (line_ends true w) rest (sym (line_ends-append true w rest) ∙ h)

-- What was shown of fewer bytes.
abbrev Shown : ℕ → Type 0
Shown m = (bs : List ℕ) → length bs ≤ m → line_ends true bs ≡ true → (d k l : ℕ) (n : Nest) → length n.lists ≡ d → d + k ≡ 200 → Meets d k l n bs (ends (between l n) bs)

at_end : (d k l : ℕ) (n : Nest) → length n.lists ≡ d → Meets d k l n [] (ends (between l n) [])
at_end d k l n h = from d h n.lists refl where
  from : (d : ℕ) → length n.lists ≡ d → (xs : List Open) → n.lists ≡ xs → Meets d k l n [] (whole n)
  from zero h [] e =
      let P : Result (List Top) Refusal → Type 0 = λ r. Meets 0 k l n [] r in
      let g : whole n ≡ Ok n.tops = ap (whole_in n.file n.tops) e in
      subst P (sym g) (last done g)
  from (suc d) h [] e = absurd (let g = sym h ∙ ap (λ (ys : List Open). length ys) e in cc)
  from d h (x ∷ xs) e =
      let P : Result (List Top) Refusal → Type 0 = λ r. Meets d k l n [] r in
      let g : whole n ≡ Err (refusal_at n.file x.line (102, codes "list")) = ap (whole_in n.file n.tops) e in
      let Q : List ℕ → Type 0 = λ os. Faults n.file os l [] (refusal_at n.file x.line (102, codes "list")) in
      subst P (sym g) (subst Q (sym (ap lines_of e)) (here open_list))

at_list : (m : ℕ) → Shown m → (rest : List ℕ) → length rest ≤ m → line_ends true rest ≡ true → (d k l : ℕ) (n : Nest) → length n.lists ≡ d → d + k ≡ 200 → Meets d k l n (40 ∷ rest) (ends (between l n) (40 ∷ rest))
at_list m shown rest short ended d k l n h g = from k g (nat_lt (length n.lists) 200) refl where
  from : (k : ℕ) → d + k ≡ 200 → (r : Bool) → nat_lt (length n.lists) 200 ≡ r → Meets d k l n (40 ∷ rest) (ends (between l n) (40 ∷ rest))
  from zero g true e = absurd (omega (arith, h, g, ltb-true (length n.lists) 200 e))
  from (suc k) g true e =
      let P : Result (List Top) Refusal → Type 0 = λ r. Meets d (suc k) l n (40 ∷ rest) r in
      let t = meets_list d k l n rest e (ends (between l (pushed l n)) rest) (shown rest short ended (suc d) k l (pushed l n) (ap (λ (x : ℕ). suc x) h) (omega (arith, g))) in
      let q : ends (between l n) (40 ∷ rest) ≡ ends (between l (pushed l n)) rest = rw e in
      subst P (sym q) t
  from k g false e =
      let P : Result (List Top) Refusal → Type 0 = λ r. Meets d k l n (40 ∷ rest) r in
      let t = too_deep (ap (λ m. nat_lt m 200) (lines_length n.lists) ∙ e) in
      subst P (sym (offence_stops n t refl)) (here t)

meets_close : (d k l : ℕ) (n p : Nest) (rest : List ℕ) (o : ℕ) → closed l n ≡ Ok p → p.file ≡ n.file → lines_of n.lists ≡ o ∷ lines_of p.lists → (r : Result (List Top) Refusal) → Meets d (suc k) l p rest r → Meets (suc d) k l n (41 ∷ rest) r
meets_close d k l n p rest o c file lines (Ok tops) t = closes {ms = []} l refl done c t
meets_close d k l n p rest o c file lines (Err r) t =
    let P : List ℕ → Type 0 = λ os. Faults n.file os l (41 ∷ rest) r in
    let Q : ℕ → Type 0 = λ x. Faults x (lines_of p.lists) l rest r in
    subst P (sym lines) (behind_closing (subst Q file t))

at_close : (m : ℕ) → Shown m → (rest : List ℕ) → length rest ≤ m → line_ends true rest ≡ true → (d k l : ℕ) (n : Nest) → length n.lists ≡ d → d + k ≡ 200 → Meets d k l n (41 ∷ rest) (ends (between l n) (41 ∷ rest))
at_close m shown rest short ended d k l n h g = from d h g n.lists refl where
  from : (d : ℕ) → length n.lists ≡ d → d + k ≡ 200 → (xs : List Open) → n.lists ≡ xs → Meets d k l n (41 ∷ rest) (ends (between l n) (41 ∷ rest))
  from d h g [] e =
      let P : Result (List Top) Refusal → Type 0 = λ r. Meets d k l n (41 ∷ rest) r in
      let Q : List ℕ → Type 0 = λ os. Faults n.file os l (41 ∷ rest) (refusal_at n.file l (103, codes ")")) in
      subst P (sym (offence_stops n no_list_is_open (ap lines_of e))) (subst Q (sym (ap lines_of e)) (here no_list_is_open))
  from zero h g (x ∷ xs) e = absurd (let q = sym h ∙ ap (λ (ys : List Open). length ys) e in cc)
  from (suc d) h g (x ∷ xs) e =
      let P : Result (List Top) Refusal → Type 0 = λ r. Meets (suc d) k l n (41 ∷ rest) r in
      let around : Nest = record { file = n.file; tops = n.tops; lists = xs } in
      let p : Nest = put (Items x.forms) x.line around in
      let c : closed l n ≡ Ok p = ap (λ ys. closed_in n.file n.tops ys l) e in
      let q : length xs ≡ d = let z = sym h ∙ ap (λ (ys : List Open). length ys) e in cc in
      let lines : lines_of n.lists ≡ x.line ∷ lines_of p.lists = ap lines_of e ∙ ap (λ (os : List ℕ). x.line ∷ os) (sym (put_lines (Items x.forms) x.line around)) in
      let t = meets_close d k l n p rest x.line c (put_file (Items x.forms) x.line around) lines (ends (between l p) rest) (shown rest short ended d (suc k) l p (put_depth (Items x.forms) x.line around ∙ q) (omega (arith, g))) in
      subst P (sym (ap (λ r. and_then (λ t. ends t rest) (and_then (λ m. Ok (between l m)) r)) c)) t

next : (file m : ℕ) → Shown m → (bs : List ℕ) → Front file bs → length bs ≤ suc m → line_ends true bs ≡ true → (d k l : ℕ) (n : Nest) → n.file ≡ file → length n.lists ≡ d → d + k ≡ 200 → Meets d k l n bs (ends (between l n) bs)
next file m shown _ nothing short ended d k l n f h g = at_end d k l n h
next file m shown _ (at_space b w rest x) short ended d k l n f h g =
    let P : Result (List Top) Refusal → Type 0 = λ r. Meets d k l n (b ∷ w ++ rest) r in
    subst P (sym (space_taken x l n rest)) (meets_space d k l n rest (b ∷ w) x (ends (between (line_after l (b ∷ w)) n) rest)
    (shown rest (shorter b m w rest short) (rest_ends (b ∷ w) rest ended) d k (line_after l (b ∷ w)) n h g))
next file m shown _ (at_leaf {f = form} b w rest x) short ended d k l n f h g =
    let P : Result (List Top) Refusal → Type 0 = λ r. Meets d k l n (b ∷ w ++ rest) r in
    subst P (sym (leaf_taken x l n)) (meets_leaf d k l n rest form (b ∷ w) x (ends (between (line_after l (b ∷ w)) (put form l n)) rest)
    (shown rest (shorter b m w rest short) (rest_ends (b ∷ w) rest ended) d k (line_after l (b ∷ w)) (put form l n) (put_depth form l n ∙ h) g))
next file m shown _ (at_opening rest) short ended d k l n f h g = at_list m shown rest (omega (arith, short)) (rest_ends (40 ∷ []) rest ended) d k l n h g
next file m shown _ (at_closing rest) short ended d k l n f h g = at_close m shown rest (omega (arith, short)) (rest_ends (41 ∷ []) rest ended) d k l n h g
next file m shown bs (at_fault x) short ended d k l n f h g =
    let P : Result (List Top) Refusal → Type 0 = λ r. Meets d k l n bs r in
    let y = x (lines_of n.lists) l in
    let Q : ℕ → Type 0 = λ z. Offends z (lines_of n.lists) l bs y.0 in
    let o = subst Q (sym f) y.1 in
    subst P (sym (offence_stops n o refl)) (here o)

shown_all : (m : ℕ) → Shown m
shown_all zero [] short ended d k l n h g = at_end d k l n h
shown_all zero (b ∷ bs) short ended d k l n h g = absurd (omega (arith, short))
shown_all (suc m) bs short ended d k l n h g = next n.file m (shown_all m) bs (front n.file bs ended) short ended d k l n refl h g

-- What the bytes give, whose last line is ended.
pub sound : (bs : List ℕ) → line_ends true bs ≡ true → (l : ℕ) (n : Nest) → n.lists ≡ [] → Meets 0 200 l n bs (ends (between l n) bs)
sound bs ended l n e = shown_all (length bs) bs (omega arith) ended 0 200 l n (ap (λ (xs : List Open). length xs) e) refl
