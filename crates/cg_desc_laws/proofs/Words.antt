-- The words of hardware that writes them itself are words, where its form has no fault.
use Rattle.std.proofs.Common.{◌≡◌, ◌∙◌, ℕ, zero, suc, ◌/◌, ◌%◌, ◌<◌, ◌≤◌, ◌⊎◌, inl, inr, Bool, true, false, not, ◌&&◌, ◌||◌, ◌==◌, nat_le, if◌then◌else◌, List, [], ◌∷◌, ◌++◌, map, length, ℤ, pos, negsuc, Option, Some, None, refl, sym, ap, arith}
use Rattle.std.specs.Prelude.{codes}
use Rattle.std.specs.List.{list_all}
use Rattle.std.specs.Fmt.{digit_glyph, digits_onto, digits, decimal}
use Rattle.std.specs.Option.{unwrap_or}
use Rattle.std.proofs.lemmas.Bool.{false≢true}
use Rattle.std.proofs.lemmas.Bool.Decides.{nat_tests}
use Rattle.cg_base.specs.declared.form.Form.{Form, out-Form}
use Rattle.cg_base.specs.declared.form.Form.TheOpen.{Number, Symbol, Str, Flag, Items}
use Rattle.cg_base.specs.Parts.{◌>>=◌, Layer, word_of, elements_of}
use Rattle.cg_base.specs.Texts.{same_text}
use Rattle.cg_desc_laws_forms.proofs.Clauses.{first_true, second_true}
use Rattle.cg_hw.specs.Keywords as keywords
use Rattle.cg_hw.specs.Keywords.{is_word_byte, may_name, names_word_in, makes_word_in, makes_word, has_words_by, has_words}
use Rattle.cg_desc_names.specs.declared.items.Item.{Item}
use Rattle.cg_desc_names.specs.Items.{written_in, item_name_by, item_name, item_before, items_from}
use Rattle.cg_attrs.specs.Contents.{are_items, item_value, next_value}
use Rattle.cg_model.specs.Formed.{is_word, are_words}
use Rattle.cg_base.specs.Characters.{is_in_word}
use Rattle.cg_desc_data.specs.Hardware.{word_in, keyword_of, own_words}

-- the bytes of a word
same_byte : (b : ℕ) → is_in_word b ≡ is_word_byte b
same_byte b = refl

all_bytes : (bs : List ℕ) → list_all is_in_word bs ≡ list_all is_word_byte bs
all_bytes [] = refl
all_bytes (b ∷ bs) = ap (λ t. t && list_all is_in_word bs) (same_byte b) ∙ ap (λ t. is_word_byte b && t) (all_bytes bs)

all_append : (xs ys : List ℕ) → list_all is_in_word xs ≡ true → list_all is_in_word ys ≡ true → list_all is_in_word (xs ++ ys) ≡ true
all_append [] ys h g = g
all_append (x ∷ xs) ys h g = ap (λ t. t && list_all is_in_word (xs ++ ys)) (first_true (is_in_word x) (list_all is_in_word xs) h) ∙ all_append xs ys (second_true (is_in_word x) (list_all is_in_word xs) h) g

some_behind : (b : ℕ) (bs : List ℕ) → nat_le 1 (length (b ∷ bs)) ≡ true
some_behind b bs = let some : 1 ≤ length (b ∷ bs) = omega arith in grind (arith, nat_tests)

some_append : (xs ys : List ℕ) → not (length xs == 0 && length ys == 0) ≡ true → nat_le 1 (length (xs ++ ys)) ≡ true
some_append [] [] h = absurd (false≢true h)
some_append [] (y ∷ ys) h = some_behind y ys
some_append (x ∷ xs) ys h = some_behind x (xs ++ ys)

joined : (a b : Bool) → a ≡ true → b ≡ true → (a && b) ≡ true
joined true b e f = f
joined false b e f = e

-- Digits are bytes of words.
digit_word : (d : ℕ) → d < 10 → is_in_word (digit_glyph false d) ≡ true
digit_word zero h = refl
digit_word (suc zero) h = refl
digit_word (suc (suc zero)) h = refl
digit_word (suc (suc (suc zero))) h = refl
digit_word (suc (suc (suc (suc zero)))) h = refl
digit_word (suc (suc (suc (suc (suc zero))))) h = refl
digit_word (suc (suc (suc (suc (suc (suc zero)))))) h = refl
digit_word (suc (suc (suc (suc (suc (suc (suc zero))))))) h = refl
digit_word (suc (suc (suc (suc (suc (suc (suc (suc zero)))))))) h = refl
digit_word (suc (suc (suc (suc (suc (suc (suc (suc (suc zero))))))))) h = refl
digit_word (suc (suc (suc (suc (suc (suc (suc (suc (suc (suc d)))))))))) h = let never : ⊥ = omega (arith, h) in absurd never

abbrev is_text : List ℕ → Bool
is_text bs = nat_le 1 (length bs) && list_all is_in_word bs

text_of : (b : ℕ) (bs : List ℕ) → is_in_word b ≡ true → list_all is_in_word bs ≡ true → is_text (b ∷ bs) ≡ true
text_of b bs h g = joined (nat_le 1 (length (b ∷ bs))) (list_all is_in_word (b ∷ bs)) (some_behind b bs) (joined (is_in_word b) (list_all is_in_word bs) h g)

onto_text : (k n : ℕ) (acc : List ℕ) → is_text acc ≡ true → is_text (digits_onto k 10 false n acc) ≡ true
onto_text zero n acc h = h
onto_text (suc k) n acc h = by (onto_text k (n / 10)) (n / 10 == 0) where
  more : is_text (digit_glyph false (n % 10) ∷ acc) ≡ true
  more = text_of (digit_glyph false (n % 10)) acc (digit_word (n % 10) (omega arith)) (second_true (nat_le 1 (length acc)) (list_all is_in_word acc) h)

  by : ((bs : List ℕ) → is_text bs ≡ true → is_text (digits_onto k 10 false (n / 10) bs) ≡ true) → (b : Bool) → is_text (if b then digit_glyph false (n % 10) ∷ acc else digits_onto k 10 false (n / 10) (digit_glyph false (n % 10) ∷ acc)) ≡ true
  by rest true = more
  by rest false = rest (digit_glyph false (n % 10) ∷ acc) more

first_text : (k n : ℕ) → is_text (digits_onto (suc k) 10 false n []) ≡ true
first_text k n = by (n / 10 == 0) where
  one : is_text (digit_glyph false (n % 10) ∷ []) ≡ true
  one = text_of (digit_glyph false (n % 10)) [] (digit_word (n % 10) (omega arith)) refl

  by : (b : Bool) → is_text (if b then digit_glyph false (n % 10) ∷ [] else digits_onto k 10 false (n / 10) (digit_glyph false (n % 10) ∷ [])) ≡ true
  by true = one
  by false = onto_text k (n / 10) (digit_glyph false (n % 10) ∷ []) one

decimal_text : (n : ℕ) → is_text (decimal n) ≡ true
unfolding digits
decimal_text n = first_text 63 n

-- What a name makes behind its prefix is a word, but for `-`.
abbrev Makes : List ℕ → List ℕ → Type 0
Makes prefix name = (same_text (codes "-") name ≡ true) ⊎ (is_text (prefix ++ name) ≡ true)

named_text : (prefix name : List ℕ) → may_name prefix name ≡ true → Makes prefix name
named_text prefix name h = by (same_text (codes "-") name) refl where
  by : (b : Bool) → same_text (codes "-") name ≡ b → Makes prefix name
  by true is = inl is
  by false is =
      let word : keywords.is_word prefix name ≡ true = sym (ap (λ b. b || keywords.is_word prefix name) is) ∙ h in
      let bytes : (list_all is_word_byte prefix && list_all is_word_byte name) ≡ true = first_true (list_all is_word_byte prefix && list_all is_word_byte name) (not (length prefix == 0 && length name == 0)) word in
      let some : not (length prefix == 0 && length name == 0) ≡ true = second_true (list_all is_word_byte prefix && list_all is_word_byte name) (not (length prefix == 0 && length name == 0)) word in
      let one : list_all is_in_word prefix ≡ true = all_bytes prefix ∙ first_true (list_all is_word_byte prefix) (list_all is_word_byte name) bytes in
      let two : list_all is_in_word name ≡ true = all_bytes name ∙ second_true (list_all is_word_byte prefix) (list_all is_word_byte name) bytes in
      inr (joined (nat_le 1 (length (prefix ++ name))) (list_all is_in_word (prefix ++ name)) (some_append prefix name some) (all_append prefix name one two))

text_behind : (prefix name : List ℕ) → list_all is_word_byte prefix ≡ true → is_text name ≡ true → is_text (prefix ++ name) ≡ true
text_behind [] name h g = g
text_behind (x ∷ xs) name h g = joined (nat_le 1 (length (x ∷ xs ++ name))) (list_all is_in_word (x ∷ xs ++ name)) (some_behind x (xs ++ name)) (all_append (x ∷ xs) name (all_bytes (x ∷ xs) ∙ h) (second_true (nat_le 1 (length name)) (list_all is_in_word name) g))

layer_text : (prefix : List ℕ) (l : Layer) → names_word_in prefix l ≡ true → Makes prefix (written_in l)
layer_text prefix (Symbol name) h = named_text prefix name h
layer_text prefix (Str name) h = named_text prefix name h
layer_text prefix (Number (pos n)) h = inr (text_behind prefix (decimal n) h (decimal_text n))
layer_text prefix (Number (negsuc n)) h = absurd (false≢true h)
layer_text prefix (Flag b) h = absurd (false≢true h)
layer_text prefix (Items fs) h = absurd (false≢true h)

item_text : (prefix : List ℕ) (f : Form) → makes_word prefix f ≡ true → Makes prefix (item_name f)
item_text prefix f h = by (elements_of f) h where
  by : (o : Option (List Form)) → makes_word_in prefix f o ≡ true → Makes prefix (item_name_by f o)
  by None h = layer_text prefix (out-Form f) h
  by (Some []) h = absurd (false≢true h)
  by (Some (name ∷ fs)) h = layer_text prefix (out-Form name) h

-- All items.
before_words : (prefix name : List ℕ) (value : Option ℤ) (rest : List Item) → Makes prefix name → list_all is_word (map word_in rest) ≡ true → list_all is_word (map word_in (item_before prefix name value rest)) ≡ true
before_words prefix name None rest h g = g
before_words prefix name (Some value) rest (inl is) g = ap (λ c. list_all is_word (map word_in (if c then rest else record { name = prefix ++ name; value = value } ∷ rest))) is ∙ g
before_words prefix name (Some value) rest (inr is) g = by (same_text (codes "-") name) refl where
  by : (b : Bool) → same_text (codes "-") name ≡ b → list_all is_word (map word_in (item_before prefix name (Some value) rest)) ≡ true
  by true dash = ap (λ c. list_all is_word (map word_in (if c then rest else record { name = prefix ++ name; value = value } ∷ rest))) dash ∙ g
  by false dash = ap (λ c. list_all is_word (map word_in (if c then rest else record { name = prefix ++ name; value = value } ∷ rest))) dash ∙ joined (is_text (prefix ++ name)) (list_all is_word (map word_in rest)) is g

items_words : (prefix : List ℕ) (fs : List Form) (plain : Option ℤ) → list_all (makes_word prefix) fs ≡ true → list_all is_word (map word_in (items_from prefix plain fs)) ≡ true
items_words prefix [] plain h = refl
items_words prefix (f ∷ fs) plain h =
    before_words prefix (item_name f) (item_value plain f) (items_from prefix (item_value plain f >>= next_value) fs)
    (item_text prefix f (first_true (makes_word prefix f) (list_all (makes_word prefix) fs) h))
    (items_words prefix fs (item_value plain f >>= next_value) (second_true (makes_word prefix f) (list_all (makes_word prefix) fs) h))

-- Words that are written are words.
by_parts : (p : Option (List ℕ)) (o : Option (List Form)) → has_words_by p o ≡ true → are_words (Some (keyword_of (unwrap_or p []) (unwrap_or o []))) ≡ true
by_parts None o h = absurd (false≢true h)
by_parts (Some prefix) None h = absurd (false≢true h)
by_parts (Some prefix) (Some fs) h = items_words prefix fs (Some (pos 0)) (second_true (are_items (Some (pos 0)) fs) (list_all (makes_word prefix) fs) h)

pub own_are_words : (fs : List Form) → has_words fs ≡ true → are_words (own_words fs) ≡ true
unfolding own_words
own_are_words [] h = absurd (false≢true h)
own_are_words (a ∷ []) h = absurd (false≢true h)
own_are_words (a ∷ b ∷ []) h = by_parts (word_of a) (elements_of b) h
own_are_words (a ∷ b ∷ c ∷ fs) h = absurd (false≢true h)
