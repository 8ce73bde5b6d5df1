-- What is written over the last element of a list.
use Rattle.std.specs.Prelude.{◌≡◌, ℕ, ◌+◌, List, [], ◌∷◌, ◌++◌, length, reverse, refl}
use Rattle.std.proofs.Common.{arith, get_or, set, ◌∙◌, ap, sym}
use Rattle.std.proofs.Math.Seq.{set-append_seam, get_or-append_seam}
use Rattle.std.proofs.lemmas.List.{reverse-append, reverse-reverse, length-reverse}
use Rattle.cg_base.specs.declared.form.Form.{Form}
use Rattle.cg_base.specs.declared.form.Top.{Top}
use Rattle.cg_sexp.specs.declared.stack.Open.{Open}
use Rattle.cg_sexp.specs.Machine.{Nest, held_by, put_in}

turned : {X : Type 0} (r : X) (rs : List X) → reverse (r ∷ rs) ≡ reverse rs ++ r ∷ []
turned r rs = reverse-append (r ∷ []) rs

set_last : {X : Type 0} (r a : X) (rs : List X) → reverse (set (reverse (r ∷ rs)) (length rs) a) ≡ a ∷ rs
set_last r a rs =
    ap (λ xs. reverse (set xs (length rs) a)) (turned r rs)
    ∙ ap (λ n. reverse (set (reverse rs ++ r ∷ []) n a)) (sym (length-reverse rs))
    ∙ ap reverse (set-append_seam (reverse rs) r [] a)
    ∙ reverse-append (reverse rs) (a ∷ [])
    ∙ ap (λ xs. a ∷ xs) (reverse-reverse rs)

get_last : {X : Type 0} (r d : X) (rs : List X) → get_or (reverse (r ∷ rs)) (length rs) d ≡ r
get_last r d rs =
    ap (λ xs. get_or xs (length rs) d) (turned r rs)
    ∙ ap (λ n. get_or (reverse rs ++ r ∷ []) n d) (sym (length-reverse rs))
    ∙ get_or-append_seam (reverse rs) r [] d

put_reversed : (file : ℕ) (tops : List Top) (rs : List Open) (n : ℕ) (o : Open) (f : Form) (l : ℕ) → n + 1 ≡ length rs → o ≡ get_or (reverse rs) n o →
    reverse (set (reverse rs) n (held_by f o)) ≡ (put_in file tops rs f l).lists
put_reversed file tops [] n o f l h e = absurd (omega (arith, h))
put_reversed file tops (r ∷ rs) n o f l h e =
    let k : n ≡ length rs = omega (arith, h) in
    let q : o ≡ r = e ∙ ap (λ m. get_or (reverse (r ∷ rs)) m o) k ∙ get_last r o rs in
    ap (λ m. reverse (set (reverse (r ∷ rs)) m (held_by f o))) k ∙ set_last r (held_by f o) rs ∙ ap (λ x. held_by f x ∷ rs) q

put_lists : (file : ℕ) (tops : List Top) (rs : List Open) (n : ℕ) (f : Form) (l : ℕ) → n + 1 ≡ length rs → ((put_in file tops rs f l).file ≡ file) × ((put_in file tops rs f l).tops ≡ tops)
put_lists file tops [] n f l h = absurd (omega (arith, h))
put_lists file tops (r ∷ rs) n f l h = (refl, refl)

same_nest : (a b : Nest) → a.file ≡ b.file → a.tops ≡ b.tops → a.lists ≡ b.lists → a ≡ b
same_nest a b p q r = λ i. record { file = p i; tops = q i; lists = r i }

-- a form that is put into the last list stands in the innermost one
pub put_last : (file : ℕ) (tops : List Top) (xs : List Open) (n : ℕ) (o : Open) (f : Form) (l : ℕ) → n + 1 ≡ length xs → o ≡ get_or xs n o →
    record { file = file; tops = tops; lists = reverse (set xs n (held_by f o)) } ≡ put_in file tops (reverse xs) f l
put_last file tops xs n o f l h e =
    let k : n + 1 ≡ length (reverse xs) = h ∙ sym (length-reverse xs) in
    let g : o ≡ get_or (reverse (reverse xs)) n o = e ∙ ap (λ ys. get_or ys n o) (sym (reverse-reverse xs)) in
    let t = put_lists file tops (reverse xs) n f l k in
    let u = ap (λ ys. reverse (set ys n (held_by f o))) (sym (reverse-reverse xs)) ∙ put_reversed file tops (reverse xs) n o f l k g in
    same_nest _ _ (sym t.0) (sym t.1) u
