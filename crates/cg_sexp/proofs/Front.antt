-- What stands in front of some bytes.
use Rattle.std.specs.Prelude.{◌≡◌, ℕ, Bool, true, false, ◌==◌, List, [], ◌∷◌, ◌++◌, Option, Some, None, Result, Ok, Err, refl}
use Rattle.std.proofs.Common.{arith, append_assoc, ◌∙◌, ap, sym, subst}
use Rattle.std.proofs.lemmas.Bool.{eqb-true}
use Rattle.std.proofs.lemmas.Bool.Decides.{nat_tests}
use Rattle.std.proofs.lemmas.Grind.{common_steps}
use Rattle.cg_base.specs.declared.kind.Kind.{Kind}
use Rattle.cg_base.specs.declared.kind.Kind.TheVariants.{Blank, Letter, Opening, Closing, Quote, Semicolon, Foreign}
use Rattle.cg_base.specs.declared.kind.NoToken.{NoToken}
use Rattle.cg_base.specs.declared.form.Form.{Form}
use Rattle.cg_base.specs.declared.refusal.Refusal.{Refusal}
use Rattle.cg_base.specs.Grammar.{IsSpace, blank, comment, IsLeaf, word, quoted, Written, empty, byte, escaped, kind_of, is_letter, AreLetters, starts_token, token, is_string_byte, escape, IsInOneLine}
use Rattle.cg_base.specs.Faults.{Offends, foreign_byte, no_token, foreign_in_string, no_escape, open_string}

-- The last byte ends a line; where there is no byte, it is as told.
abbrev pub line_ends : Bool → List ℕ → Bool
line_ends told [] = told
line_ends told (b ∷ bs) = line_ends (b == 10) bs

pub line_ends-append : (told : Bool) (xs ys : List ℕ) → line_ends told (xs ++ ys) ≡ line_ends (line_ends told xs) ys
line_ends-append told [] ys = refl
line_ends-append told (x ∷ xs) ys = line_ends-append (x == 10) xs ys

pub ends_anyway : (told : Bool) (bs : List ℕ) → line_ends told bs ≡ true → line_ends true bs ≡ true
ends_anyway told [] h = refl
ends_anyway told (b ∷ bs) h = h

-- Some bytes begin with a space, a leaf or a parenthesis, or with what has no place in any text.
pub data Front (file : ℕ) : List ℕ → Type 0 where
  nothing : Front file []
  at_space : (b : ℕ) (w rest : List ℕ) → IsSpace (b ∷ w) → Front file (b ∷ w ++ rest)
  at_leaf : {f : Form} (b : ℕ) (w rest : List ℕ) → IsLeaf f (b ∷ w) rest → Front file (b ∷ w ++ rest)
  at_opening : (rest : List ℕ) → Front file (40 ∷ rest)
  at_closing : (rest : List ℕ) → Front file (41 ∷ rest)
  at_fault : {bs : List ℕ} → ((os : List ℕ) (l : ℕ) → (r : Refusal) × Offends file os l bs r) → Front file bs

opening_byte : (b : ℕ) → kind_of b ≡ Opening → b ≡ 40
opening_byte b h = grind (arith, nat_tests)

closing_byte : (b : ℕ) → kind_of b ≡ Closing → b ≡ 41
closing_byte b h = grind (arith, common_steps)

quote_byte : (b : ℕ) → kind_of b ≡ Quote → b ≡ 34
quote_byte b h = grind arith

semicolon_byte : (b : ℕ) → kind_of b ≡ Semicolon → b ≡ 59
semicolon_byte b h = grind (arith, common_steps)

letter_kind : (k : Kind) → is_letter k ≡ true → k ≡ Letter
letter_kind Letter h = refl
letter_kind Blank h = absurd cc
letter_kind Opening h = absurd cc
letter_kind Closing h = absurd cc
letter_kind Quote h = absurd cc
letter_kind Semicolon h = absurd cc
letter_kind Foreign h = absurd cc

-- the bytes of tokens in front
pub record Letters (bs : List ℕ) : Type 0 where
  pub run : List ℕ
  pub rest : List ℕ
  pub letters : AreLetters run
  pub ends : starts_token rest ≡ false
  pub split : bs ≡ run ++ rest

more_letters : (b : ℕ) (bs : List ℕ) → Letters bs → (r : Bool) → is_letter (kind_of b) ≡ r → Letters (b ∷ bs)
more_letters b bs x true h = record { run = b ∷ x.run; rest = x.rest; letters = (letter_kind (kind_of b) h, x.letters); ends = x.ends; split = ap (λ (xs : List ℕ). b ∷ xs) x.split }
more_letters b bs x false h = record { run = []; rest = b ∷ bs; letters = tt; ends = h; split = refl }

letters_in_front : (bs : List ℕ) → Letters bs
letters_in_front [] = record { run = []; rest = []; letters = tt; ends = refl; split = refl }
letters_in_front (b ∷ bs) = more_letters b bs (letters_in_front bs) (is_letter (kind_of b)) refl

-- the rest of a line in front
pub record Line (bs : List ℕ) : Type 0 where
  pub run : List ℕ
  pub rest : List ℕ
  pub within : IsInOneLine run
  pub split : bs ≡ run ++ 10 ∷ rest

line_in_front : (bs : List ℕ) → line_ends false bs ≡ true → Line bs
line_in_front [] h = absurd (cc h)
line_in_front (b ∷ bs) h = from (b == 10) refl (λ g. line_in_front bs g) where
  from : (r : Bool) → (b == 10) ≡ r → (line_ends false bs ≡ true → Line bs) → Line (b ∷ bs)
  from true e more = record { run = []; rest = bs; within = tt; split = ap (λ (x : ℕ). x ∷ bs) (eqb-true b 10 e) }
  from false e more =
      let x = more (ap (λ r. line_ends r bs) (sym e) ∙ h) in
      record { run = b ∷ x.run; rest = x.rest; within = (e, x.within); split = ap (λ (xs : List ℕ). b ∷ xs) x.split }

-- Behind `"`: a string that ends or doesn't, or what has no place in one.
pub data InString : List ℕ → Type 0 where
  string_ends : {s w : List ℕ} (rest : List ℕ) → Written s w → InString (w ++ 34 ∷ rest)
  is_open : {s w : List ℕ} → Written s w → InString w
  has_foreign : {s w : List ℕ} (b : ℕ) (rest : List ℕ) → Written s w → is_string_byte b ≡ false → InString (w ++ b ∷ rest)
  has_no_escape : {s w : List ℕ} (b : ℕ) (rest : List ℕ) → Written s w → escape b ≡ None → InString (w ++ 92 ∷ b ∷ rest)

behind_byte : (b : ℕ) {bs : List ℕ} → (b == 34) ≡ false → (b == 92) ≡ false → is_string_byte b ≡ true → InString bs → InString (b ∷ bs)
behind_byte b q e a (string_ends rest x) = string_ends rest (byte b q e a x)
behind_byte b q e a (is_open x) = is_open (byte b q e a x)
behind_byte b q e a (has_foreign c rest x h) = has_foreign c rest (byte b q e a x) h
behind_byte b q e a (has_no_escape c rest x h) = has_no_escape c rest (byte b q e a x) h

behind_escape : {m : List ℕ} (b : ℕ) {bs : List ℕ} → escape b ≡ Some m → InString bs → InString (92 ∷ b ∷ bs)
behind_escape b e (string_ends rest x) = string_ends rest (escaped b e x)
behind_escape b e (is_open x) = is_open (escaped b e x)
behind_escape b e (has_foreign c rest x h) = has_foreign c rest (escaped b e x) h
behind_escape b e (has_no_escape c rest x h) = has_no_escape c rest (escaped b e x) h

pub record Quoted (bs : List ℕ) : Type 0 where
  pub at_string : line_ends true bs ≡ true → InString bs
  pub at_escape : line_ends false bs ≡ true → InString (92 ∷ bs)

quoted_more : (b : ℕ) (bs : List ℕ) → Quoted bs → Quoted (b ∷ bs)
quoted_more b bs x = record { at_string = λ h. in_string (b == 34) refl (b == 92) refl (is_string_byte b) refl h; at_escape = λ h. in_escape (escape b) refl h } where
  in_string : (q : Bool) → (b == 34) ≡ q → (e : Bool) → (b == 92) ≡ e → (a : Bool) → is_string_byte b ≡ a → line_ends (b == 10) bs ≡ true → InString (b ∷ bs)
  in_string true q e f a g h = let P : ℕ → Type 0 = λ c. InString (c ∷ bs) in subst P (sym (eqb-true b 34 q)) (string_ends bs empty)
  in_string false q true f a g h =
      let P : ℕ → Type 0 = λ c. InString (c ∷ bs) in
      let Q : ℕ → Type 0 = λ c. line_ends (c == 10) bs ≡ true in
      subst P (sym (eqb-true b 92 f)) (x.at_escape (subst Q (eqb-true b 92 f) h))
  in_string false q false f true g h = behind_byte b q f g (x.at_string (ends_anyway (b == 10) bs h))
  in_string false q false f false g h = has_foreign b bs empty g

  in_escape : (m : Option (List ℕ)) → escape b ≡ m → line_ends (b == 10) bs ≡ true → InString (92 ∷ b ∷ bs)
  in_escape (Some m) e h = behind_escape b e (x.at_string (ends_anyway (b == 10) bs h))
  in_escape None e h = has_no_escape b bs empty e

quoted_all : (bs : List ℕ) → Quoted bs
quoted_all [] = record { at_string = λ h. is_open empty; at_escape = λ h. absurd (cc h) }
quoted_all (b ∷ bs) = quoted_more b bs (quoted_all bs)

string_front : (file : ℕ) {bs : List ℕ} → InString bs → Front file (34 ∷ bs)
string_front file (string_ends {s} {w} rest x) =
    let P : List ℕ → Type 0 = λ xs. Front file (34 ∷ xs) in
    subst P (append_assoc w (34 ∷ []) rest) (at_leaf 34 (w ++ 34 ∷ []) rest (quoted w x))
string_front file (is_open x) = at_fault (λ os l. (_, open_string x))
string_front file (has_foreign b rest x h) = at_fault (λ os l. (_, foreign_in_string b rest x h))
string_front file (has_no_escape b rest x h) = at_fault (λ os l. (_, no_escape b rest x h))

token_front : (file b : ℕ) (w rest : List ℕ) → AreLetters (b ∷ w) → starts_token rest ≡ false → (r : Result Form NoToken) → token (b ∷ w) ≡ r → Front file (b ∷ w ++ rest)
token_front file b w rest letters s (Ok f) at = at_leaf b w rest (word (b ∷ w) letters at s)
token_front file b w rest letters s (Err fault) at = at_fault (λ os l. (_, no_token b w rest letters at s))

-- Where the last line is ended there is such a front.
pub front : (file : ℕ) (bs : List ℕ) → line_ends true bs ≡ true → Front file bs
front file [] h = nothing
front file (b ∷ bs) h = from (kind_of b) refl where
  from : (k : Kind) → kind_of b ≡ k → Front file (b ∷ bs)
  from Blank k = at_space b [] bs (blank b k)
  from Letter k =
      let x = letters_in_front bs in
      let P : List ℕ → Type 0 = λ xs. Front file (b ∷ xs) in
      subst P (sym x.split) (token_front file b x.run x.rest (k, x.letters) x.ends (token (b ∷ x.run)) refl)
  from Opening k = let P : ℕ → Type 0 = λ c. Front file (c ∷ bs) in subst P (sym (opening_byte b k)) (at_opening bs)
  from Closing k = let P : ℕ → Type 0 = λ c. Front file (c ∷ bs) in subst P (sym (closing_byte b k)) (at_closing bs)
  from Quote k =
      let P : ℕ → Type 0 = λ c. Front file (c ∷ bs) in
      subst P (sym (quote_byte b k)) (string_front file ((quoted_all bs).at_string (ends_anyway (b == 10) bs h)))
  from Semicolon k =
      let P : ℕ → Type 0 = λ c. Front file (c ∷ bs) in
      let Q : List ℕ → Type 0 = λ xs. Front file (59 ∷ xs) in
      let R : ℕ → Type 0 = λ c. line_ends (c == 10) bs ≡ true in
      let x = line_in_front bs (subst R (semicolon_byte b k) h) in
      subst P (sym (semicolon_byte b k)) (subst Q (append_assoc x.run (10 ∷ []) x.rest ∙ sym x.split) (at_space 59 (x.run ++ 10 ∷ []) x.rest (comment x.run x.within)))
  from Foreign k = at_fault (λ os l. (_, foreign_byte b k))
