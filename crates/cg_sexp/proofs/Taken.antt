-- What is spelled is what the reader's steps give, and a fault is where they stop.
use Rattle.std.specs.Prelude.{◌≡◌, ℕ, suc, ◌+◌, true, false, nat_lt, List, [], ◌∷◌, ◌++◌, length, Ok, Err, refl}
use Rattle.std.proofs.Common.{arith, append_assoc, ◌∙◌, ap, sym}
use Rattle.std.proofs.lemmas.List.{append-nil}
use Rattle.std.proofs.lemmas.Bool.Decides.{nat_tests}
use Rattle.cg_base.specs.declared.kind.Kind.TheVariants.{Letter}
use Rattle.cg_base.specs.declared.kind.NoToken.{NoToken}
use Rattle.cg_base.specs.declared.form.Form.{Form}
use Rattle.cg_base.specs.declared.form.Form.TheVariants.{Str, Items}
use Rattle.cg_base.specs.declared.form.Top.{Top}
use Rattle.cg_base.specs.Grammar.{Spells, done, space, leaf, list, IsSpace, blank, comment, IsLeaf, word, quoted, Written, empty, byte, escaped, kind_of, AreLetters, starts_token, token, IsInOneLine, next_line, line_after}
use Rattle.cg_base.specs.Refusing.{refusal_at}
use Rattle.cg_base.specs.Faults.{refused_as}
use Rattle.cg_sexp.specs.declared.stack.Open.{Open}
use Rattle.cg_sexp.specs.Machine.{and_then, Nest, put, pushed, closed, put_in, held_by, outside, between, in_string, in_comment, read_as, settled, escape_as, ends}

pub line_after-append : (l : ℕ) (a b : List ℕ) → line_after l (a ++ b) ≡ line_after (line_after l a) b
line_after-append l [] b = refl
line_after-append l (x ∷ a) b = line_after-append (next_line l x) a b

letter_line : (l b : ℕ) → kind_of b ≡ Letter → next_line l b ≡ l
letter_line l b k = grind (arith, nat_tests)

pub word_line : (l : ℕ) (w : List ℕ) → AreLetters w → line_after l w ≡ l
word_line l [] h = refl
word_line l (b ∷ w) h = ap (λ (x : ℕ). line_after x w) (letter_line l b h.0) ∙ word_line l w h.1

one_line : (l : ℕ) (c : List ℕ) → IsInOneLine c → line_after l c ≡ l
one_line l [] h = refl
one_line l (b ∷ c) h = rw h.0 (one_line l c h.1)

settled_form : (b : ℕ) (v : List ℕ) (l : ℕ) (n : Nest) (f : Form) → token (b ∷ v) ≡ Ok f → settled (b ∷ v) l n ≡ Ok (put f l n)
settled_form b v l n f at = ap (λ r. read_as r (b ∷ v) l n) at

settled_fault : (b : ℕ) (v : List ℕ) (l : ℕ) (n : Nest) (fault : NoToken) → token (b ∷ v) ≡ Err fault → settled (b ∷ v) l n ≡ Err (refusal_at n.file l (refused_as fault, b ∷ v))
settled_fault b v l n fault at = ap (λ r. read_as r (b ∷ v) l n) at

no_empty_token : {f : Form} → token [] ≡ Ok f → ⊥
unfolding token
no_empty_token at = cc

-- The bytes of a token are held.
pub letters_held : (w : List ℕ) (v : List ℕ) (l : ℕ) (n : Nest) → AreLetters w → (rest : List ℕ) → ends (outside v l n) (w ++ rest) ≡ ends (outside (v ++ w) l n) rest
letters_held [] v l n letters rest = rw append-nil
letters_held (b ∷ w) v l n letters rest = rw letters.0 (letters_held w (v ++ b ∷ []) l n letters.1 rest ∙ rw append_assoc)

-- A token that ends leaves its form.
token_ends : (b : ℕ) (v : List ℕ) (l : ℕ) (n : Nest) (f : Form) → token (b ∷ v) ≡ Ok f → (rest : List ℕ) → starts_token rest ≡ false →
    ends (outside (b ∷ v) l n) rest ≡ ends (between l (put f l n)) rest
token_ends b v l n f at [] s = rw (settled_form b v l n f at)
token_ends b v l n f at (c ∷ rest) s = rw (s, settled_form b v l n f at)

pub token_faults : (b : ℕ) (v : List ℕ) (l : ℕ) (n : Nest) (fault : NoToken) → token (b ∷ v) ≡ Err fault → (rest : List ℕ) → starts_token rest ≡ false →
    ends (outside (b ∷ v) l n) rest ≡ Err (refusal_at n.file l (refused_as fault, b ∷ v))
token_faults b v l n fault at [] s = rw (settled_fault b v l n fault at)
token_faults b v l n fault at (c ∷ rest) s = rw (s, settled_fault b v l n fault at)

-- The bytes of a string are held.
pub string_held : {s w : List ℕ} → Written s w → (start : ℕ) (v : List ℕ) (l : ℕ) (n : Nest) (rest : List ℕ) →
    ends (in_string start v l n) (w ++ rest) ≡ ends (in_string start (v ++ s) (line_after l w) n) rest
string_held empty start v l n rest = rw append-nil
string_held (byte {s} {w} b q e a x) start v l n rest = rw (q, e, a) (string_held x start (v ++ b ∷ []) (next_line l b) n rest ∙ rw append_assoc)
string_held (escaped {m} {s} {w} b e x) start v l n rest =
    ap (λ r. and_then (λ t. ends t (w ++ rest)) (escape_as r start v b l n)) e ∙ (string_held x start (v ++ m) (next_line l b) n rest ∙ rw append_assoc)

comment_passed : (c : List ℕ) (l : ℕ) (n : Nest) → IsInOneLine c → (rest : List ℕ) → ends (in_comment l n) (c ++ 10 ∷ rest) ≡ ends (between (next_line l 10) n) rest
comment_passed [] l n h rest = refl
comment_passed (b ∷ c) l n h rest = rw h.0 (comment_passed c l n h.1 rest)

-- Blanks and comments change nothing but the line.
pub space_taken : {w : List ℕ} → IsSpace w → (l : ℕ) (n : Nest) (rest : List ℕ) → ends (between l n) (w ++ rest) ≡ ends (between (line_after l w) n) rest
space_taken (blank b k) l n rest = rw k
space_taken (comment c h) l n rest =
    ap (ends (in_comment l n)) (append_assoc c (10 ∷ []) rest) ∙ comment_passed c l n h rest
    ∙ ap (λ (x : ℕ). ends (between x n) rest) (sym (line_after-append l c (10 ∷ []) ∙ ap (λ (x : ℕ). line_after x (10 ∷ [])) (one_line l c h)))

-- A leaf is put.
pub leaf_taken : {f : Form} {w rest : List ℕ} → IsLeaf f w rest → (l : ℕ) (n : Nest) → ends (between l n) (w ++ rest) ≡ ends (between (line_after l w) (put f l n)) rest
leaf_taken (word [] letters at s) l n = absurd (no_empty_token at)
leaf_taken (word {f} {rest} (b ∷ w) letters at s) l n =
    letters_held (b ∷ w) [] l n letters rest ∙ token_ends b w l n f at rest s
    ∙ ap (λ (x : ℕ). ends (between x (put f l n)) rest) (sym (word_line l (b ∷ w) letters))
leaf_taken (quoted {s} {rest} w x) l n =
    ap (ends (in_string l [] l n)) (append_assoc w (34 ∷ []) rest) ∙ string_held x l [] l n (34 ∷ rest)
    ∙ ap (λ (k : ℕ). ends (between k (put (Str s) l n)) rest) (sym (line_after-append l w (34 ∷ [])))

-- The forms are put, each with its line.
abbrev pub puts : List Form → List ℕ → Nest → Nest
puts [] ls n = n
puts (f ∷ fs) [] n = n
puts (f ∷ fs) (l ∷ ls) n = puts fs ls (put f l n)

-- These many lists are open.
abbrev pub depth : Nest → ℕ
depth n = length n.lists

pub put_depth : (f : Form) (l : ℕ) (n : Nest) → depth (put f l n) ≡ depth n
put_depth f l n = from n.file n.tops n.lists where
  from : (file : ℕ) (tops : List Top) (os : List Open) → length (put_in file tops os f l).lists ≡ length os
  from file tops [] = refl
  from file tops (o ∷ os) = refl

-- Forms that are put into an open list stand at its end.
puts_within : {k l : ℕ} {fs : List Form} {ls bs : List ℕ} → Spells k l fs ls bs → (file : ℕ) (tops : List Top) (o : Open) (os : List Open) →
    puts fs ls (record { file = file; tops = tops; lists = o ∷ os }) ≡ record { file = file; tops = tops; lists = record { forms = o.forms ++ fs; line = o.line } ∷ os }
puts_within done file tops o os = rw append-nil
puts_within (space w h s) file tops o os = puts_within s file tops o os
puts_within (leaf {f} w h s) file tops o os = puts_within s file tops (held_by f o) os ∙ rw append_assoc
puts_within (list {gs} s t) file tops o os = puts_within t file tops (held_by (Items gs) o) os ∙ rw append_assoc

-- A list that is opened, filled and closed is a form.
pub list_closed : {k l : ℕ} {fs : List Form} {ls bs : List ℕ} → Spells k l fs ls bs → (start end : ℕ) (n : Nest) → closed end (puts fs ls (pushed start n)) ≡ Ok (put (Items fs) start n)
list_closed {k} {l} {fs} s start end n = ap (closed end) (puts_within s n.file n.tops (record { forms = []; line = start }) n.lists)

room : (a k : ℕ) → a + suc k ≡ 200 → nat_lt a 200 ≡ true
room a k h = grind arith

starts_token-append : (bs rest : List ℕ) → starts_token bs ≡ false → starts_token rest ≡ false → starts_token (bs ++ rest) ≡ false
starts_token-append [] rest h e = e
starts_token-append (b ∷ bs) rest h e = h

pub leaf_before : {f : Form} {w bs : List ℕ} → IsLeaf f w bs → (rest : List ℕ) → starts_token rest ≡ false → IsLeaf f w (bs ++ rest)
leaf_before (word {f} {rest = bs} w letters at s) rest e = word w letters at (starts_token-append bs rest s e)
leaf_before (quoted w x) rest e = quoted w x

-- What is spelled is taken, whatever follows.
pub takes : {k l : ℕ} {fs : List Form} {ls bs : List ℕ} → Spells k l fs ls bs → (n : Nest) → depth n + k ≡ 200 → (rest : List ℕ) → starts_token rest ≡ false →
    ends (between l n) (bs ++ rest) ≡ ends (between (line_after l bs) (puts fs ls n)) rest
takes done n h rest e = refl
takes (space {n = k} {l} {fs} {ls} {bs} w x s) n h rest e =
    ap (ends (between l n)) (append_assoc w bs rest) ∙ space_taken x l n (bs ++ rest) ∙ takes s n h rest e
    ∙ ap (λ (m : ℕ). ends (between m (puts fs ls n)) rest) (sym (line_after-append l w bs))
takes (leaf {n = k} {l} {f} {fs} {ls} {bs} w x s) n h rest e =
    ap (ends (between l n)) (append_assoc w bs rest) ∙ leaf_taken (leaf_before x rest e) l n ∙ takes s (put f l n) (ap (λ d. d + k) (put_depth f l n) ∙ h) rest e
    ∙ ap (λ (m : ℕ). ends (between m (puts fs ls (put f l n))) rest) (sym (line_after-append l w bs))
takes (list {n = k} {l} {gs} {fs} {ks} {ls} {ms} {bs} s t) n h rest e =
    ap (λ (x : List ℕ). ends (between l n) (40 ∷ x)) (append_assoc ms (41 ∷ bs) rest)
    ∙ rw (room (depth n) k h) (takes s (pushed l n) (omega (arith, h)) (41 ∷ bs ++ rest) refl
    ∙ ap (λ r. and_then (λ t. ends t (bs ++ rest)) (and_then (λ m. Ok (between (line_after l ms) m)) r)) (list_closed s l (line_after l ms) n)
    ∙ (takes t (put (Items gs) l n) (ap (λ d. d + suc k) (put_depth (Items gs) l n) ∙ h) rest e)
    ∙ ap (λ (m : ℕ). ends (between m (puts fs ls (put (Items gs) l n))) rest) (sym (line_after-append l ms (41 ∷ bs))))
