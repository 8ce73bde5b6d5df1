-- What is printed of readable forms spells them.
use Rattle.std.specs.Prelude.{◌≡◌, ℕ, suc, ◌-◌, ◌<◌, ◌^◌, Bool, true, false, ◌||◌, ◌==◌, nat_lt, nat_le, if◌then◌else◌, List, [], ◌∷◌, ◌++◌, length, map, Some, Ok, codes, pos, negsuc, refl}
use Rattle.std.specs.List.{list_all}
use Rattle.std.specs.Char.{digit_value}
use Rattle.std.specs.Fmt.{decimal, signed_decimal}
use Rattle.std.specs.Str.Parse.{AllDigits, digits_value}
use Rattle.std.proofs.Common.{arith, append_assoc, ◌∙◌, ap, sym, subst}
use Rattle.std.proofs.lemmas.List.{append-nil}
use Rattle.std.proofs.lemmas.Bool.Decides.{nat_tests}
use Rattle.std.proofs.lemmas.Fmt.{decimal_is_IsNumeral}
use Rattle.std.proofs.lemmas.Str.Parse.{digit_from_value}
use Rattle.cg_base.specs.declared.kind.Kind.TheVariants.{Letter}
use Rattle.cg_base.specs.declared.form.Form.{Form}
use Rattle.cg_base.specs.declared.form.Form.TheVariants as form
use Rattle.cg_base.specs.declared.form.Form.TheOpen.{Number, Symbol, Str, Flag, Items}
use Rattle.cg_base.specs.declared.form.Form.TheFolds.{fold-roll-Form}
use Rattle.cg_base.specs.Numerals.{is_digit_of}
use Rattle.cg_base.specs.Grammar.{kind_of, AreLetters, starts_token, are_digits, positive, negative, token, is_string_byte, escape, Written, empty, byte, escaped, blank, IsLeaf, word, quoted, Spells, done, space, leaf, list, line_after}
use Rattle.cg_base.specs.Reading.{top, ended, Reads}
use Rattle.cg_sexp.proofs.Taken.{leaf_before}
use Rattle.cg_base.specs.Printing as r
use Rattle.cg_base.specs.Printing.{quoted_bytes, behind_blanks, spaced, printed_step, printed, Readable}

digit_byte : (b : ℕ) → digit_value b < 10 → (kind_of b ≡ Letter) × ((b == 39) ≡ false) × ((b == 96) ≡ false) × ((b == 44) ≡ false) × ((b == 35) ≡ false) × ((b == 43) ≡ false) × ((b == 45) ≡ false)
digit_byte b h = let r = digit_from_value b h in (grind (arith, nat_tests), grind (arith, nat_tests), grind (arith, nat_tests), grind (arith, nat_tests), grind (arith, nat_tests), grind (arith, nat_tests), grind (arith, nat_tests))

digit_letters : (ds : List ℕ) → AllDigits 10 ds → AreLetters ds
digit_letters [] h = tt
digit_letters (b ∷ ds) h = ((digit_byte b h.0).0, digit_letters ds h.1)

below : (a b : ℕ) → a < b → nat_lt a b ≡ true
below a b h = grind arith

all_digits : (ds : List ℕ) → AllDigits 10 ds → list_all (is_digit_of 10) ds ≡ true
all_digits [] h = refl
all_digits (b ∷ ds) h = rw (below (digit_value b) 10 h.0) (all_digits ds h.1)

are_digits_true : (ds : List ℕ) → 0 < length ds → AllDigits 10 ds → are_digits 10 ds ≡ true
are_digits_true ds n h = rw (below 0 (length ds) n) (all_digits ds h)

positive_small : (n : ℕ) → n < 2 ^ 63 → positive n ≡ Ok (form.Number (pos n))
positive_small n h = rw (below n (2 ^ 63) h)

negative_small : (i : ℕ) → i < 2 ^ 63 → negative (suc i) ≡ Ok (form.Number (negsuc i))
negative_small i h =
    let z : (suc i == 0) ≡ false = grind arith in
    let g : nat_le (suc i) (2 ^ 63) ≡ true = grind arith in
    let m : suc i - 1 ≡ i = omega arith in
    rw (z, g, m)

digits_token : (ds : List ℕ) → 0 < length ds → AllDigits 10 ds → token ds ≡ positive (digits_value 10 ds)
unfolding token
digits_token [] n h = absurd (omega (arith, n))
digits_token (b ∷ ds) n h = let t = digit_byte b h.0 in rw (t.1, t.2, t.3, t.4, t.5, t.6, are_digits_true (b ∷ ds) n h)

minus_token : (ds : List ℕ) → 0 < length ds → AllDigits 10 ds → token (45 ∷ ds) ≡ negative (digits_value 10 ds)
unfolding token
minus_token ds n h = rw (are_digits_true ds n h)

natural_leaf : (i : ℕ) → i < 2 ^ 63 → (rest : List ℕ) → starts_token rest ≡ false → IsLeaf (form.Number (pos i)) (decimal i) rest
natural_leaf i h rest s =
    let d = decimal_is_IsNumeral i (omega (arith, h)) in
    word (decimal i) (digit_letters (decimal i) d.0.1) (digits_token (decimal i) d.0.0 d.0.1 ∙ ap positive d.1 ∙ positive_small i h) s

below_zero_leaf : (i : ℕ) → i < 2 ^ 63 → (rest : List ℕ) → starts_token rest ≡ false → IsLeaf (form.Number (negsuc i)) (45 ∷ decimal (suc i)) rest
below_zero_leaf i h rest s =
    let d = decimal_is_IsNumeral (suc i) (omega (arith, h)) in
    word (45 ∷ decimal (suc i)) (refl, digit_letters (decimal (suc i)) d.0.1) (minus_token (decimal (suc i)) d.0.0 d.0.1 ∙ ap negative d.1 ∙ negative_small i h) s

escape_mark : (b : ℕ) → (b == 34 || b == 92) ≡ true → escape b ≡ Some (b ∷ [])
escape_mark b h = rw h

plain_mark : (b : ℕ) → (b == 34 || b == 92) ≡ false → ((b == 34) ≡ false) × ((b == 92) ≡ false)
plain_mark b h = grind (arith, nat_tests)

string_written : (s : List ℕ) → list_all is_string_byte s ≡ true → Written s (quoted_bytes s)
string_written [] h = empty
string_written (b ∷ s) h = from (b == 34 || b == 92) refl (is_string_byte b) refl (λ g. string_written s g) where
  from : (q : Bool) → (b == 34 || b == 92) ≡ q → (a : Bool) → is_string_byte b ≡ a → (list_all is_string_byte s ≡ true → Written s (quoted_bytes s)) → Written (b ∷ s) (quoted_bytes (b ∷ s))
  from q e false f more = absurd (let g = rw f at h in cc)
  from true e true f more = rw e (escaped b (escape_mark b e) (more (rw f at h)))
  from false e true f more = let t = plain_mark b e in rw e (byte b t.0 t.1 f (more (rw f at h)))

printed-Number : (i : _) → printed (form.Number i) ≡ signed_decimal i
printed-Number i = ap printed (sym (form.rolls-Number i)) ∙ fold-roll-Form (List ℕ) printed_step (Number i)

printed-Symbol : (w : List ℕ) → printed (form.Symbol w) ≡ w
printed-Symbol w = ap printed (sym (form.rolls-Symbol w)) ∙ fold-roll-Form (List ℕ) printed_step (Symbol w)

printed-Str : (s : List ℕ) → printed (form.Str s) ≡ 34 ∷ quoted_bytes s ++ 34 ∷ []
printed-Str s = ap printed (sym (form.rolls-Str s)) ∙ fold-roll-Form (List ℕ) printed_step (Str s)

printed-Flag : (b : Bool) → printed (form.Flag b) ≡ (if b then codes "#t" else codes "#f")
printed-Flag b = ap printed (sym (form.rolls-Flag b)) ∙ fold-roll-Form (List ℕ) printed_step (Flag b)

printed-Items : (fs : List Form) → printed (form.Items fs) ≡ 40 ∷ spaced (map printed fs) ++ 41 ∷ []
printed-Items fs = ap printed (sym (form.rolls-Items fs)) ∙ fold-roll-Form (List ℕ) printed_step (Items fs)

flag_token : (b : Bool) → token (if b then codes "#t" else codes "#f") ≡ Ok (form.Flag b)
unfolding token
flag_token true = refl
flag_token false = refl

flag_letters : (b : Bool) → AreLetters (if b then codes "#t" else codes "#f")
flag_letters true = (refl, (refl, tt))
flag_letters false = (refl, (refl, tt))

quiet : (fs : List Form) → starts_token (behind_blanks (map printed fs)) ≡ false
quiet [] = refl
quiet (f ∷ fs) = refl

behind : {n l : ℕ} (fs : List Form) {ks : List ℕ} → Spells n l fs ks (spaced (map printed fs)) → Spells n l fs ks (behind_blanks (map printed fs))
behind [] s = s
behind (f ∷ fs) s = space (32 ∷ []) (blank 32 refl) s

leaf_first : {n l : ℕ} {f : Form} {fs : List Form} (w : List ℕ) → IsLeaf f w (behind_blanks (map printed fs)) → printed f ≡ w →
    ((l : ℕ) → (ks : List ℕ) × Spells n l fs ks (spaced (map printed fs))) → (ks : List ℕ) × Spells n l (f ∷ fs) ks (spaced (map printed (f ∷ fs)))
leaf_first {n} {l} {f} {fs} w x e rest =
    let t = rest (line_after l w) in
    let P : List ℕ → Type 0 = λ v. Spells n l (f ∷ fs) (l ∷ t.0) (v ++ behind_blanks (map printed fs)) in
    (l ∷ t.0, subst P (sym e) (leaf w x (behind fs t.1)))

written : {n : ℕ} {fs : List Form} → Readable n fs → (l : ℕ) → (ks : List ℕ) × Spells n l fs ks (spaced (map printed fs))
written r.none l = ([], done)
written (r.natural {fs} i h x) l = leaf_first (decimal i) (natural_leaf i h (behind_blanks (map printed fs)) (quiet fs)) (printed-Number (pos i)) (written x)
written (r.below_zero {fs} i h x) l = leaf_first (45 ∷ decimal (suc i)) (below_zero_leaf i h (behind_blanks (map printed fs)) (quiet fs)) (printed-Number (negsuc i)) (written x)
written (r.symbol {fs} w letters at x) l = leaf_first w (word w letters at (quiet fs)) (printed-Symbol w) (written x)
written (r.string {fs} s h x) l = leaf_first (34 ∷ quoted_bytes s ++ 34 ∷ []) (quoted (quoted_bytes s) (string_written s h)) (printed-Str s) (written x)
written (r.flag {fs} b x) l = leaf_first (if b then codes "#t" else codes "#f") (word (if b then codes "#t" else codes "#f") (flag_letters b) (flag_token b) (quiet fs)) (printed-Flag b) (written x)
written (r.list {n} {gs} {fs} x y) l =
    let inner = written x l in
    let ms : List ℕ = spaced (map printed gs) in
    let t = written y (line_after l ms) in
    let P : List ℕ → Type 0 = λ v. Spells (suc n) l (form.Items gs ∷ fs) (l ∷ t.0) (v ++ behind_blanks (map printed fs)) in
    let Q : List ℕ → Type 0 = λ v. Spells (suc n) l (form.Items gs ∷ fs) (l ∷ t.0) (40 ∷ v) in
    (l ∷ t.0, subst P (sym (printed-Items gs)) (subst Q (sym (append_assoc ms (41 ∷ []) (behind_blanks (map printed fs)))) (list inner.1 (behind fs t.1))))

-- A last line's end may follow.
pub with_line_end : {n l : ℕ} {fs : List Form} {ls bs : List ℕ} → Spells n l fs ls bs → Spells n l fs ls (ended bs)
with_line_end done = space (10 ∷ []) (blank 10 refl) done
with_line_end (space {n} {l} {fs} {ls} {bs} w x s) =
    let P : List ℕ → Type 0 = λ v. Spells n l fs ls v in
    subst P (sym (append_assoc w bs (10 ∷ []))) (space w x (with_line_end s))
with_line_end (leaf {n} {l} {f} {fs} {ls} {bs} w x s) =
    let P : List ℕ → Type 0 = λ v. Spells n l (f ∷ fs) (l ∷ ls) v in
    subst P (sym (append_assoc w bs (10 ∷ []))) (leaf w (leaf_before x (10 ∷ []) refl) (with_line_end s))
with_line_end (list {n} {l} {gs} {fs} {ks} {ls} {ms} {bs} s t) =
    let P : List ℕ → Type 0 = λ v. Spells (suc n) l (form.Items gs ∷ fs) (l ∷ ls) (40 ∷ v) in
    subst P (sym (append_assoc ms (41 ∷ bs) (10 ∷ []))) (list s (with_line_end t))

one_line : {n : ℕ} {f : Form} (x : Readable n (f ∷ [])) (l : ℕ) → (written x l).0 ≡ l ∷ []
unfolding written leaf_first
one_line (r.natural i h r.none) l = refl
one_line (r.below_zero i h r.none) l = refl
one_line (r.symbol w letters at r.none) l = refl
one_line (r.string s h r.none) l = refl
one_line (r.flag b r.none) l = refl
one_line (r.list x r.none) l = refl

-- What is printed of a readable form reads as that form.
pub printed_reads : (f : Form) (file : ℕ) → Readable 200 (f ∷ []) → Reads (printed f) file (record { tops = top file (f, 1) ∷ [] })
printed_reads f file x =
    let t = written x 1 in
    let P : List ℕ → Type 0 = λ v. Spells 200 1 (f ∷ []) t.0 v in
    let Q : List ℕ → Type 0 = λ ls. Spells 200 1 (f ∷ []) ls (ended (printed f)) in
    record { forms = f ∷ []; lines = 1 ∷ []; spelled = subst Q (one_line x 1) (with_line_end (subst P (append-nil (printed f)) t.1)); tops = refl }
