-- The words and modes of a described machine's fields are allowed, where no form is refused by itself.
use Rattle.std.proofs.Common.{◌≡◌, ℕ, ◌*◌, ◌/◌, ◌%◌, ◌≤◌, min, Bool, true, false, ◌||◌, ◌&&◌, ◌==◌, nat_le, if◌then◌else◌, List, [], ◌∷◌, ℤ, Option, Some, None, refl, sym, ap, ◌∙◌, subst, arith}
use Rattle.std.specs.Prelude.{codes}
use Rattle.std.specs.List.{list_all, filter_map}
use Rattle.std.specs.Option.{option_map, unwrap_or}
use Rattle.std.specs.Cmp.Lexicographic.{bytes_decides}
use Rattle.std.proofs.lemmas.Bool.{false≢true, eqb-true}
use Rattle.std.proofs.lemmas.Bool.Decides.{nat_tests}
use Rattle.std.proofs.Math.Nat.{mul_assoc, mul_comm}
use Rattle.cg_base.specs.declared.form.Top.{Top}
use Rattle.cg_base.specs.declared.mode.Mode.TheVariants.{Qi, Hi, Si, Di, Uqi, Uhi, Usi, Udi}
use Rattle.cg_base.specs.Texts.{same_text}
use Rattle.cg_attrs.specs.Contents.{is_bit_size}
use Rattle.cg_desc_laws_forms.specs.FormSizes.{IsNumber, HasPlace}
use Rattle.cg_desc_laws_forms.proofs.FormSizes.{sizes_law}
use Rattle.cg_desc_laws_forms.proofs.Elements.{Given}
use Rattle.cg_desc_data.specs.Selecting.{Selection}
use Rattle.cg_desc_data.specs.Framing.{cut, size, framing}
use Rattle.cg_desc_data.specs.Extents.{mode_or_uint, base_word, word_in, word_of}
use Rattle.cg_desc_data.specs.declared.framing.Framing.{Framing}
use Rattle.cg_desc_laws_forms.proofs.Framing.{IsElement, given_here, base_allowed, size_kept}
use Rattle.cg_desc_elements.specs.declared.element.Element.TheVariants as element
use Rattle.cg_desc_elements.specs.Reading.{element_at, first_refusal}
use Rattle.cg_ifield.specs.Contents.{is_field_mode, is_word_offset}
use Rattle.cg_ifield.specs.declared.form.FieldForm.TheVariants.{Plain}
use Rattle.cg_ifield.specs.declared.form.PlainForm.{PlainForm}
use Rattle.cg_model.specs.Formed.{is_size, has_bits}
use Rattle.cg_rtl_resolve.specs.Names.{found_under, mode_words, meant, mode_named}
use Rattle.cg_rtl_resolve.specs.declared.words.Wording.{Wording}
use Rattle.cg_rtl_resolve.specs.declared.words.Wording.TheVariants as wording

-- A word for a mode says one of values, but for `VOID`.
abbrev says_value : Wording → Bool
says_value (wording.Plain mode) = has_bits mode
says_value wording.Word = true
says_value wording.Address = true

abbrev is_good : List ℕ × Wording → Bool
is_good x = same_text x.0 (codes "VOID") || says_value x.1

all_good : list_all is_good mode_words ≡ true
unfolding mode_words
all_good = refl

pub some_word : (a b c : Bool) → has_bits (if a then Qi else if b then Hi else if c then Si else Di) ≡ true
some_word true b c = refl
some_word false true c = refl
some_word false false true = refl
some_word false false false = refl

pub some_address : (a b c : Bool) → has_bits (if a then Uqi else if b then Uhi else if c then Usi else Udi) ≡ true
some_address true b c = refl
some_address false true c = refl
some_address false false true = refl
some_address false false false = refl

meant_value : (bits : ℕ) (w : Wording) → says_value w ≡ true → has_bits (meant bits w) ≡ true
meant_value bits (wording.Plain mode) h = h
meant_value bits wording.Word h = some_word (bits == 8) (bits == 16) (bits == 32)
meant_value bits wording.Address h = some_address (bits == 8) (bits == 16) (bits == 32)

abbrev wording_or : Wording → Option Wording → Wording
wording_or w None = w
wording_or w (Some x) = x

either : (a b : Bool) → (a || b) ≡ true → a ≡ false → b ≡ true
either true b e f = absurd (false≢true (sym f))
either false b e f = e

pub first_of : (a b : Bool) → (a && b) ≡ true → a ≡ true
first_of true b e = refl
first_of false b e = absurd (false≢true e)

pub rest_of : (a b : Bool) → (a && b) ≡ true → b ≡ true
rest_of true b e = e
rest_of false b e = absurd (false≢true e)

found_value : (name : List ℕ) (xs : List (List ℕ × Wording)) (w : Wording) → list_all is_good xs ≡ true → found_under name xs ≡ Some w → same_text name (codes "VOID") ≡ false → says_value w ≡ true
found_value name [] w all found void = absurd cc
found_value name (x ∷ xs) w all found void = at (λ there. found_value name xs w (rest_of (is_good x) (list_all is_good xs) all) there void) (same_text x.0 name) refl where
  at : (found_under name xs ≡ Some w → says_value w ≡ true) → (b : Bool) → same_text x.0 name ≡ b → says_value w ≡ true
  at rest true is =
      let same : x.0 ≡ name = (bytes_decides x.0 name).0 is in
      let this : x.1 ≡ w = ap (wording_or w) (sym (ap (λ c. if c then Some x.1 else found_under name xs) is) ∙ found) in
      let good : (same_text x.0 (codes "VOID") || says_value x.1) ≡ true = first_of (is_good x) (list_all is_good xs) all in
      let other : same_text x.0 (codes "VOID") ≡ false = ap (λ t. same_text t (codes "VOID")) same ∙ void in
      subst (λ y. says_value y ≡ true) this (either (same_text x.0 (codes "VOID")) (says_value x.1) good other)
  at rest false is = rest (sym (ap (λ c. if c then Some x.1 else found_under name xs) is) ∙ found)

not_void : (text : List ℕ) → is_field_mode text ≡ true → same_text text (codes "VOID") ≡ false
not_void text h = at (same_text text (codes "VOID")) refl where
  at : (b : Bool) → same_text text (codes "VOID") ≡ b → same_text text (codes "VOID") ≡ false
  at false is = is
  at true is =
      let same : text ≡ codes "VOID" = (bytes_decides text (codes "VOID")).0 is in
      let never : is_field_mode (codes "VOID") ≡ true = subst (λ t. is_field_mode t ≡ true) same h in
      absurd (false≢true never)

-- The mode of a field.
named_bits : (bits : ℕ) (text : List ℕ) → is_field_mode text ≡ true → has_bits (unwrap_or (mode_named bits text) Usi) ≡ true
named_bits bits text h = at (found_under text mode_words) refl where
  at : (o : Option Wording) → found_under text mode_words ≡ o → has_bits (unwrap_or (mode_named bits text) Usi) ≡ true
  at None is = ap (λ o. has_bits (unwrap_or (option_map (meant bits) o) Usi)) is
  at (Some w) is = ap (λ o. has_bits (unwrap_or (option_map (meant bits) o) Usi)) is ∙ meant_value bits w (found_value text mode_words w all_good is (not_void text h))

pub mode_bits : (b : Framing) (o : Option (List ℕ)) → ((text : List ℕ) → o ≡ Some text → is_field_mode text ≡ true) → has_bits (mode_or_uint b o) ≡ true
mode_bits b None h = refl
mode_bits b (Some text) h = named_bits b.word_bits text (h text refl)

-- Whole bytes.
abbrev pub is_whole : ℕ → Bool
is_whole n = n == 8 * (n / 8)

whole_of : (n k : ℕ) → n ≡ 8 * k → is_whole n ≡ true
whole_of n k same = let back : n ≡ 8 * (n / 8) = omega (arith, same) in grind (arith, nat_tests)

offset_kept : (n : ℕ) → is_word_offset n ≡ true → is_whole (min n 65535) ≡ true
offset_kept n h =
    let few : n ≤ 65535 = grind (arith, nat_tests) in
    let even : n % 8 ≡ 0 = grind (arith, nat_tests) in
    let same : min n 65535 ≡ 8 * (n / 8) = omega (arith, few, even) in
    whole_of (min n 65535) (n / 8) same

size_is_whole : (n : ℕ) → is_size n ≡ true → n ≡ 8 * (n / 8)
size_is_whole n h = eqb-true n (8 * (n / 8)) (first_of (n == 8 * (n / 8)) (nat_le 8 n) (first_of (n == 8 * (n / 8) && nat_le 8 n) (nat_le n 64) h))

base_kept : (n k : ℕ) → is_size n ≡ true → is_whole (k * n) ≡ true
base_kept n k h =
    let c : ℕ = n / 8 in
    let same : k * n ≡ 8 * (k * c) =
    ap (λ x. k * x) (size_is_whole n h) ∙ sym (mul_assoc k 8 c) ∙ ap (λ x. x * c) (mul_comm k 8) ∙ mul_assoc 8 k c in
    whole_of (k * n) (k * c) same

-- The word of a field lies on whole bytes, and its size is allowed.
pub record HasWhole (offset bits : ℕ) : Type 0 where
  pub whole : is_whole offset ≡ true
  pub size : is_size bits ≡ true

base_whole : (b : Framing) (start : ℕ) → is_size b.base_bits ≡ true → HasWhole (base_word b start).offset (base_word b start).bits
base_whole b start h = at b.lsb0 refl where
  at : (l : Bool) → b.lsb0 ≡ l → HasWhole (base_word b start).offset (base_word b start).bits
  at true is = record {
    whole = ap (λ l. is_whole (base_word (record b { lsb0 = l }) start).offset) is;
    size = ap (λ l. is_size (base_word (record b { lsb0 = l }) start).bits) is ∙ h;
  }
  at false is = record {
    whole = ap (λ l. is_whole (base_word (record b { lsb0 = l }) start).offset) is ∙ base_kept b.base_bits (start / b.base_bits) h;
    size = ap (λ l. is_size (base_word (record b { lsb0 = l }) start).bits) is ∙ h;
  }

named_whole : (offset length : ℤ) → IsNumber is_word_offset offset → IsNumber is_bit_size length → HasWhole (cut 65535 offset) (size length)
named_whole offset length o l = record {
  whole = ap (λ z. is_whole (cut 65535 z)) o.is ∙ offset_kept o.number o.allowed;
  size = ap (λ z. is_size (size z)) l.is ∙ size_kept l.number l.allowed;
}

word_whole : (b : Framing) (start : ℕ) (o l : Option ℤ) → is_size b.base_bits ≡ true → ((n : ℤ) → o ≡ Some n → IsNumber is_word_offset n) → ((n : ℤ) → l ≡ Some n → IsNumber is_bit_size n)
    → HasWhole (word_in b start o l).offset (word_in b start o l).bits
word_whole b start None l h offset length = base_whole b start h
word_whole b start (Some o) None h offset length = base_whole b start h
word_whole b start (Some o) (Some l) h offset length = named_whole o l (offset o refl) (length l refl)

-- What is asked of a field's word and mode.
pub record HasShape (b : Framing) (form : PlainForm) : Type 0 where
  pub word : HasWhole (word_of b form).offset (word_of b form).bits
  pub mode : has_bits (mode_or_uint b form.mode) ≡ true

pub shape_of : (tops : List Top) (s : Selection) (form : PlainForm) → first_refusal tops ≡ None → s.elements ≡ filter_map element_at tops → IsElement s.elements (element.Field (Plain form)) → HasShape (framing s) form
shape_of tops s form clear same x =
    let g : Given (element.Field (Plain form)) = given_here tops s (element.Field (Plain form)) clear same x in
    let p : HasPlace form = sizes_law.places g.top.form form g.clear g.is in
    record {
      word = word_whole (framing s) (cut 65535 form.start) form.word_offset form.word_length (base_allowed tops s clear same) p.offset p.length;
      mode = mode_bits (framing s) form.mode p.mode;
    }
