-- What a line of a listing lays down.
use Rattle.std.proofs.Common.{◌≡◌, ℕ, zero, suc, ◌+◌, ◌-◌, ◌*◌, ◌/◌, ◌%◌, ◌^◌, ◌<◌, ◌≤◌, min, Bool, true, false, not, ◌&&◌, ◌||◌, ◌==◌, nat_lt, nat_le, if◌then◌else◌, List, [], ◌∷◌, ◌++◌, length, take, pos, is_some, Option, Some, None, codes, append_assoc, sym, ap, ◌∙◌, refl, subst, inl, inr, arith}
use Rattle.std.specs.Fmt.{digits, digits_onto, digit_glyph, signed_decimal}
use Rattle.std.specs.List.{list_all, flat_map}
use Rattle.std.proofs.Math.Nat.{mod-eq_of_lt, pow-suc}
use Rattle.std.proofs.lemmas.Bool.{false≢true, and_parts, and_from, cond_both, eqb-true, eqb-false, leb-true, ltb-false, le-leb, le-ltb, or_cases, or_from}
use Rattle.std.proofs.lemmas.List.{length-append, length-take, take_min}
use Rattle.cg_base.specs.Faults.{hex_byte}
use Rattle.cg_base.specs.Numerals.{hex_text}
use Rattle.cg_base.specs.Refusing.{first}
use Rattle.cg_model_source.specs.Bundling.{BundlePart}
use Rattle.cg_model_source.specs.Choosing.{alone}
use Rattle.cg_model.specs.Encoding.{own_pc}
use Rattle.cg_model.specs.Formed.{IsFormed, is_cpu_word}
use Rattle.cg_model_source.specs.Imaging.{reading_faults, line_fault, items_bytes}
use Rattle.cg_model_source.specs.Lining.{is_line_byte, is_readable, read_line}
use Rattle.cg_model_source.specs.Listing.{Decoder, Shown, ListedLine, byte_texts, gives, listed, besides, as_bytes, line_for, line_at, bundle_at}
use Rattle.cg_model.specs.Sound.{IsSound}
use Rattle.cg_model_source.specs.Sourcing.{only_set, Content, order, parts, data_of, content_of, Reading, reading_of, reading, items_of, items_size, machine_after, place_after}
use Rattle.cg_model_source.specs.Stating.{stated, parts_bytes}
use Rattle.cg_model_source.specs.E601.{unknown_texts}
use Rattle.cg_model_source.specs.E602.{unfit_texts}
use Rattle.cg_model_source.specs.E604.{undefined_items}
use Rattle.cg_model_source.specs.E605.{unfit_items}
use Rattle.cg_model_source.specs.E606.{below_address}
use Rattle.cg_model_source.specs.E607.{too_large}
use Rattle.cg_model_source.specs.E608.{malformed_line, malformed_content}
use Rattle.cg_model_source.specs.E609.{too_wide_content}
use Rattle.cg_model.specs.declared.machine.Machine.{Machine}
use Rattle.cg_list_laws.proofs.Shown.{is_plain_byte, append_kept, hex_plain, Ready, AllReady, bundle_ready}
use Rattle.cg_list_laws.proofs.Reading.{shown_line, reads_as, line_byte}
use Rattle.cg_list_laws.proofs.Sizes.{HasNearBit}
use Rattle.cg_list_laws.proofs.Stated.{place, Given, given, parts_defined, parts_clear, parts_given, parts_long, parts_few}
use Rattle.cg_list_laws.proofs.Written.{Below, digits_plain, digits_long, byte_line, byte_sums, byte_order, line_plain, line_unlabelled, line_says, texts_long, sums_fit, sums_defined, sums_clear, sums_given, sums_long}

-- ---- how long an address is

hex_few : (j k n : ℕ) (acc : List ℕ) → n < 16 ^ suc j → length (digits_onto k 16 false n acc) ≤ suc j + length acc
hex_few j zero n acc below = omega arith
hex_few zero (suc k) n acc below =
    let small : n < 16 = below in
    let none : n / 16 ≡ 0 = omega (arith, small) in
    cond_both (n / 16 == 0) (digit_glyph false (n % 16) ∷ acc) (digits_onto k 16 false (n / 16) (digit_glyph false (n % 16) ∷ acc)) (λ xs. length xs ≤ 1 + length acc) (λ last. omega arith) (λ goes. absurd (eqb-false (n / 16) 0 goes none))
hex_few (suc j) (suc k) n acc below =
    let power : 16 ^ suc (suc j) ≡ 16 ^ suc j * 16 = pow-suc 16 (suc j) in
    let less : n / 16 < 16 ^ suc j = div_less n (16 ^ suc j) (16 ^ suc (suc j)) power below in
    let rest = hex_few j k (n / 16) (digit_glyph false (n % 16) ∷ acc) less in
    cond_both (n / 16 == 0) (digit_glyph false (n % 16) ∷ acc) (digits_onto k 16 false (n / 16) (digit_glyph false (n % 16) ∷ acc)) (λ xs. length xs ≤ suc (suc j) + length acc) (λ last. omega arith) (λ goes. omega (arith, rest))
  where
    div_less : (x p q : ℕ) → q ≡ p * 16 → x < q → x / 16 < p
    div_less x p q e lt = omega (arith, e, lt)

hex_long : (n : ℕ) → n < 2 ^ 64 → length (hex_text n) ≤ 18
unfolding digits
hex_long n below = let few : length (digits_onto 64 16 false n []) ≤ suc 15 + 0 = hex_few 15 64 n [] below in omega (arith, few)

word_few : (w : ℕ) → is_cpu_word w ≡ true → 2 ^ w ≤ 2 ^ 64
word_few w e = elim (or_cases (w == 8 || w == 16 || w == 32) (w == 64) e) [
  | inr last ↦ subst (λ k. 2 ^ k ≤ 2 ^ 64) (sym (eqb-true w 64 last)) (omega arith)
  | inl three ↦ elim (or_cases (w == 8 || w == 16) (w == 32) three) [
    | inr third ↦ subst (λ k. 2 ^ k ≤ 2 ^ 64) (sym (eqb-true w 32 third)) (omega arith)
    | inl two ↦ elim (or_cases (w == 8) (w == 16) two) [
      | inr second ↦ subst (λ k. 2 ^ k ≤ 2 ^ 64) (sym (eqb-true w 16 second)) (omega arith)
      | inl one ↦ subst (λ k. 2 ^ k ≤ 2 ^ 64) (sym (eqb-true w 8 one)) (omega arith)
    ]
  ]
]

-- ---- a line by its content

-- content that nothing is wrong with, and that lays down these bytes
pub record Clean (m : Machine) (a : ℕ) (c : Content) (front : List ℕ) : Type 0 where
  pub unknown : unknown_texts c ≡ []
  pub unfit : unfit_texts c ≡ []
  pub below : below_address a c ≡ []
  pub formed : malformed_content c ≡ []
  pub narrow : too_wide_content m.width c ≡ []
  pub after : machine_after m c ≡ m
  pub defined : undefined_items [] (items_of a c) ≡ []
  pub clear : unfit_items m [] (items_of a c) ≡ []
  pub gives : items_bytes m [] (items_of a c) ≡ front
  pub long : items_size m (items_of a c) ≡ length front

-- an image from a base that may reach so far
pub record Reaches (m : Machine) (base end : ℕ) : Type 0 where
  pub small : end ≤ base + 2 ^ 20
  pub within : end ≤ 2 ^ m.word_bits

-- a line, without its end, that lays down these bytes at an address, and nothing else
pub record Lays (m : Machine) (base a : ℕ) (line front : List ℕ) : Type 0 where
  pub whole : list_all (λ b. not (b == 10)) line ≡ true
  pub fault : line_fault (only_set m) base (place m a) line ≡ None
  pub after : place_after (place m a) (reading (only_set m) (place m a) line) ≡ place m (a + length front)
  pub clear : undefined_items [] (items_of a (reading (only_set m) (place m a) line).content) ++ unfit_items m [] (items_of a (reading (only_set m) (place m a) line).content) ≡ []
  pub gives : items_bytes m [] (items_of a (reading (only_set m) (place m a) line).content) ≡ front

both_empty : {A : Type 0} (xs ys : List A) → xs ≡ [] → ys ≡ [] → xs ++ ys ≡ []
both_empty xs ys p q = ap (λ t. t ++ ys) p ∙ q

pub not_large : (m : Machine) (base end : ℕ) → Reaches m base end → too_large m.word_bits base end ≡ []
not_large m base end r =
    let small : nat_lt (2 ^ 20) (end - base) ≡ false = le-ltb (2 ^ 20) (end - base) (omega (arith, r.small)) in
    let within : nat_lt (2 ^ m.word_bits) end ≡ false = le-ltb (2 ^ m.word_bits) end r.within in
    ap (λ t. if t then alone 607 (codes "image") ∷ [] else []) (or_from (nat_lt (2 ^ 20) (end - base)) (nat_lt (2 ^ m.word_bits) end) small within)

abbrev labelled_as : Option (List ℕ) → Content → Reading
labelled_as label c = record { label = label; content = c }

abbrev pub read_as : Content → Reading
read_as c = labelled_as None c

no_faults : (m : Machine) (base a : ℕ) (c : Content) (front : List ℕ) → Clean m a c front → Reaches m base (a + length front) → reading_faults (only_set m) base (place m a) (read_as c) ≡ []
no_faults m base a c front clean r =
    let large : too_large m.word_bits base (a + items_size m (items_of a c)) ≡ [] = ap (λ n. too_large m.word_bits base (a + n)) clean.long ∙ not_large m base (a + length front) r in
    let two = both_empty (unknown_texts c) (unfit_texts c) clean.unknown clean.unfit in
    let three = both_empty (unknown_texts c ++ unfit_texts c) [] two refl in
    let four = both_empty (unknown_texts c ++ unfit_texts c ++ []) (below_address a c) three clean.below in
    let five = both_empty (unknown_texts c ++ unfit_texts c ++ [] ++ below_address a c) (too_large m.word_bits base (a + items_size m (items_of a c))) four large in
    let six = both_empty (unknown_texts c ++ unfit_texts c ++ [] ++ below_address a c ++ too_large m.word_bits base (a + items_size m (items_of a c))) (malformed_content c) five clean.formed in
    both_empty (unknown_texts c ++ unfit_texts c ++ [] ++ below_address a c ++ too_large m.word_bits base (a + items_size m (items_of a c)) ++ malformed_content c) (too_wide_content m.width c) six clean.narrow

pub lays : (m : Machine) (base a : ℕ) (line front : List ℕ) (c : Content) → is_readable 4096 line ≡ true → list_all (λ b. not (b == 10)) line ≡ true → reading (only_set m) (place m a) line ≡ read_as c → Clean m a c front → Reaches m base (a + length front)
    → Lays m base a line front
lays m base a line front c readable whole reads clean r = record {
  whole = whole;
  fault =
      ap (λ t. if t then first (reading_faults (only_set m) base (place m a) (reading (only_set m) (place m a) line)) else Some malformed_line) readable
      ∙ ap (λ x. first (reading_faults (only_set m) base (place m a) x)) reads
      ∙ ap first (no_faults m base a c front clean r);
  after =
      ap (place_after (place m a)) reads
      ∙ ap (λ n. place (machine_after m c) (a + n)) clean.long
      ∙ ap (λ x. place x (a + length front)) clean.after;
  clear = ap (λ x. undefined_items [] (items_of a x.content) ++ unfit_items m [] (items_of a x.content)) reads ∙ both_empty (undefined_items [] (items_of a c)) (unfit_items m [] (items_of a c)) clean.defined clean.clear;
  gives = ap (λ x. items_bytes m [] (items_of a x.content)) reads ∙ clean.gives;
}

-- ---- a text in its line

-- what stands behind a text, with its address, its bytes and what is said besides
abbrev tail_of : ℕ → List ℕ → List ℕ → List ℕ
tail_of a bytes said = hex_text a ++ codes ": " ++ flat_map hex_byte bytes ++ said

abbrev line_of : ℕ → List ℕ → List ℕ → List ℕ → List ℕ
line_of a text bytes said = shown_line text (32 ∷ tail_of a bytes said)

regrouped : (x c h d g b : List ℕ) → x ++ c ++ h ++ d ++ g ++ b ≡ x ++ (c ++ (h ++ d ++ g ++ b))
regrouped x c h d g b =
    ap (λ t. t ++ g ++ b) (append_assoc (x ++ c) h d)
    ∙ ap (λ t. t ++ b) (append_assoc (x ++ c) (h ++ d) g)
    ∙ append_assoc (x ++ c) (h ++ d ++ g) b
    ∙ append_assoc x c (h ++ d ++ g ++ b)

listed_is : (a : ℕ) (text bytes said : List ℕ) → listed a text bytes said ≡ line_of a text bytes said ++ 10 ∷ []
listed_is a text bytes said = ap (λ t. t ++ 10 ∷ []) (regrouped (codes "        " ++ text) (codes " ; ") (hex_text a) (codes ": ") (flat_map hex_byte bytes) said)

line_bytes : (text : List ℕ) → list_all is_plain_byte text ≡ true → list_all is_line_byte text ≡ true
line_bytes [] e = refl
line_bytes (b ∷ bs) e =
    let both = and_parts (is_plain_byte b) (list_all is_plain_byte bs) e in
    and_from (is_line_byte b) (list_all is_line_byte bs) (line_byte b both.0) (line_bytes bs both.1)

not_end : (b : ℕ) (test : Bool) → (b == 10) ≡ test → is_line_byte b ≡ true → not test ≡ true
not_end b true e line = absurd (false≢true (sym (ap is_line_byte (eqb-true b 10 e)) ∙ line))
not_end b false e line = refl

no_ends : (text : List ℕ) → list_all is_line_byte text ≡ true → list_all (λ b. not (b == 10)) text ≡ true
no_ends [] e = refl
no_ends (b ∷ bs) e =
    let both = and_parts (is_line_byte b) (list_all is_line_byte bs) e in
    and_from (not (b == 10)) (list_all (λ c. not (c == 10)) bs) (not_end b (b == 10) refl both.0) (no_ends bs both.1)

tail_plain : (a : ℕ) (bytes said : List ℕ) → Below bytes → list_all is_plain_byte said ≡ true → list_all is_plain_byte (tail_of a bytes said) ≡ true
tail_plain a bytes said below other =
    append_kept is_plain_byte (hex_text a ++ codes ": " ++ flat_map hex_byte bytes) said
    (append_kept is_plain_byte (hex_text a ++ codes ": ") (flat_map hex_byte bytes) (append_kept is_plain_byte (hex_text a) (codes ": ") (hex_plain a) refl) (digits_plain bytes below))
    other

line_all : (a : ℕ) (text bytes said : List ℕ) → list_all is_plain_byte text ≡ true → Below bytes → list_all is_plain_byte said ≡ true → list_all is_line_byte (line_of a text bytes said) ≡ true
line_all a text bytes said plain below other = append_kept is_line_byte (codes "        " ++ text) (32 ∷ 59 ∷ 32 ∷ tail_of a bytes said) (line_bytes text plain) (line_bytes (tail_of a bytes said) (tail_plain a bytes said below other))

line_length : (text rest : List ℕ) → length (shown_line text (32 ∷ rest)) ≡ 8 + length text + (3 + length rest)
line_length text rest = let all = length-append (codes "        " ++ text) (32 ∷ 59 ∷ 32 ∷ rest) in omega (arith, all)

-- a line isn't too long
line_short : (a : ℕ) (text bytes said : List ℕ) → a < 2 ^ 64 → length text + 2 * length bytes + length said ≤ 4065 → length (line_of a text bytes said) ≤ 4096
line_short a text bytes said small few =
    let address = hex_long a small in
    let digits = digits_long bytes in
    let one = length-append (hex_text a) (codes ": ") in
    let two = length-append (hex_text a ++ codes ": ") (flat_map hex_byte bytes) in
    let three = length-append (hex_text a ++ codes ": " ++ flat_map hex_byte bytes) said in
    let all : length (line_of a text bytes said) ≡ 8 + length text + (3 + length (tail_of a bytes said)) = line_length text (tail_of a bytes said) in
    omega (arith, address, digits, one, two, three, all, few)

-- ---- the line of a place

-- the first line of some bytes
pub record FirstLine (m : Machine) (base a : ℕ) (bytes : List ℕ) (line : ListedLine) : Type 0 where
  pub front : List ℕ
  pub text : line.text ≡ front ++ 10 ∷ []
  pub lays : Lays m base a front (take line.size bytes)
  pub some : 0 < line.size

shown_lays : (m : Machine) (base a : ℕ) (text bytes said : List ℕ) (c : Content) → a < 2 ^ 64 → list_all is_plain_byte text ≡ true → Below bytes → list_all is_plain_byte said ≡ true → length text + 2 * length bytes + length said ≤ 4065
    → (read_line text).label ≡ None → content_of (only_set m) (place m a) (read_line text).statement ≡ c → Clean m a c bytes → Reaches m base (a + length bytes) → Lays m base a (line_of a text bytes said) bytes
unfolding reading
shown_lays m base a text bytes said c small plain below other few label content clean r =
    let line : List ℕ = line_of a text bytes said in
    let all : list_all is_line_byte line ≡ true = line_all a text bytes said plain below other in
    let readable : is_readable 4096 line ≡ true = and_from (list_all is_line_byte line) (nat_le (length line) 4096) all (le-leb (length line) 4096 (line_short a text bytes said small few)) in
    let reads : reading (only_set m) (place m a) line ≡ read_as c =
    ap (reading_of (only_set m) (place m a)) (reads_as text (32 ∷ tail_of a bytes said) plain label)
    ∙ ap (λ o. labelled_as o (content_of (only_set m) (place m a) (read_line text).statement)) label
    ∙ ap read_as content in
    lays m base a line bytes c readable (no_ends line all) reads clean r

-- the line of a statement
stated_clean : (m : Machine) (a : ℕ) (text front : List ℕ) → IsSound m → HasNearBit m → (x : Given m a text front) → Clean m a (parts x.ps) front
stated_clean m a text front sound near x = record {
  unknown = x.unknown;
  unfit = x.unfit;
  below = refl;
  formed = x.empties;
  narrow = x.wide;
  after = refl;
  defined = parts_defined x.ps ∙ x.named;
  clear = parts_clear m x.ps x.fit x.named;
  gives = parts_given m x.ps x.named ∙ x.bytes;
  long = parts_long m x.ps sound.base.bytes near x.fit ∙ ap length x.bytes;
}

width_few : (m : Machine) → IsFormed m → m.width ≤ 8
width_few m formed = leb-true m.width 8 (and_parts (nat_le 1 m.width) (nat_le m.width 8) (and_parts (nat_le 1 m.width && nat_le m.width 8) (is_some m.bundle || m.width == 1) formed.width).0).1

narrow_few : (width : ℕ) (ps : List BundlePart) (wide : Bool) → nat_lt width (length ps) ≡ wide → (if wide then alone 609 (signed_decimal (pos width)) ∷ [] else []) ≡ [] → length ps ≤ width
narrow_few width ps true e none = absurd (cc)
narrow_few width ps false e none = ltb-false width (length ps) e

given_few : (m : Machine) (a : ℕ) (text front : List ℕ) → IsFormed m → IsSound m → HasNearBit m → Given m a text front → length front ≤ 128
given_few m a text front formed sound near x =
    let few = parts_few m x.ps sound.base.bytes near x.fit in
    let narrow : length x.ps ≤ m.width = narrow_few m.width x.ps (nat_lt m.width (length x.ps)) refl x.wide in
    let width = width_few m formed in
    let same : length (parts_bytes m x.ps) ≡ length front = ap length x.bytes in
    omega (arith, few, narrow, width, same)

text_few : (text : List ℕ) → is_readable 3800 text ≡ true → length text ≤ 3800
text_few text e = leb-true (length text) 3800 (and_parts (list_all is_line_byte text) (nat_le (length text) 3800) e).1

statement_line : (m : Machine) (base a : ℕ) (text front : List ℕ) → IsFormed m → IsSound m → HasNearBit m → a < 2 ^ 64 → list_all is_plain_byte text ≡ true → Below front → gives (stated m a text) front ≡ true → Reaches m base (a + length front)
    → Lays m base a (line_of a text front []) front
statement_line m base a text front formed sound near small plain below e r =
    let x : Given m a text front = given m a text front sound e in
    let few = given_few m a text front formed sound near x in
    let short = text_few text x.readable in
    shown_lays m base a text front [] (parts x.ps) small plain below refl (omega (arith, few, short)) x.label x.content (stated_clean m a text front sound near x) r

-- the line of bytes as they are
bytes_clean : (m : Machine) (a b : ℕ) (bs : List ℕ) → Below (b ∷ bs) → Clean m a (order (data_of (codes ".byte") 1 (byte_sums (b ∷ bs)))) (b ∷ bs)
bytes_clean m a b bs below = record {
  unknown = refl;
  unfit = sums_fit (b ∷ bs) below;
  below = refl;
  formed = refl;
  narrow = refl;
  after = refl;
  defined = sums_defined (b ∷ bs);
  clear = sums_clear m (b ∷ bs) below;
  gives = sums_given m (b ∷ bs) below;
  long = sums_long m (b ∷ bs);
}

byte_content : (m : Machine) (a b : ℕ) (bs : List ℕ) → Below (b ∷ bs) → content_of (only_set m) (place m a) (read_line (byte_line (b ∷ bs))).statement ≡ order (data_of (codes ".byte") 1 (byte_sums (b ∷ bs)))
byte_content m a b bs below = ap (content_of (only_set m) (place m a)) (line_says b bs below) ∙ ap order (byte_order (only_set m) b bs below)

bytes_line : (m : Machine) (base a : ℕ) (bytes said : List ℕ) → 0 < length bytes → length bytes ≤ 8 → length said ≤ 3801 → a < 2 ^ 64 → Below bytes → list_all is_plain_byte said ≡ true → Reaches m base (a + length bytes)
    → Lays m base a (line_of a (byte_line bytes) bytes said) bytes
bytes_line m base a [] said some few short small below other r = absurd (omega (arith, some))
bytes_line m base a (b ∷ bs) said some few short small below other r =
    let long = texts_long (b ∷ bs) in
    let line = length-append (codes ".byte ") (byte_texts (b ∷ bs)) in
    shown_lays m base a (byte_line (b ∷ bs)) (b ∷ bs) said (order (data_of (codes ".byte") 1 (byte_sums (b ∷ bs)))) small (line_plain (b ∷ bs) below) below other (omega (arith, long, line, few, short)) (line_unlabelled (b ∷ bs)) (byte_content m a b bs below) (bytes_clean m a b bs below) r

-- ---- by the bundle that was found

below_front : (k : ℕ) (bytes : List ℕ) → Below bytes → Below (take k bytes)
below_front zero bytes below = tt
below_front (suc k) [] below = tt
below_front (suc k) (b ∷ bs) below = (below.0, below_front k bs below.1)

said_plain : (o : Option Shown) → AllReady o → list_all is_plain_byte (besides o) ≡ true
said_plain None ready = refl
said_plain (Some s) ready = ready.plain

said_short : (o : Option Shown) → AllReady o → length (besides o) ≤ 3801
said_short None ready = omega arith
said_short (Some s) ready = let short = ready.short in omega (arith, short)

base_few : (m : Machine) → IsSound m → (0 < m.base_bits / 8) × (m.base_bits / 8 ≤ 8)
base_few m sound = let some = sound.base.some in let few = sound.base.few in (omega (arith, some), omega (arith, few))

reaches_front : (m : Machine) (base a k : ℕ) (bytes : List ℕ) → Reaches m base (a + length bytes) → Reaches m base (a + length (take k bytes))
reaches_front m base a k bytes r =
    let long = length-take k bytes in
    let small = r.small in
    let within = r.within in
    record { small = omega (arith, long, small); within = omega (arith, long, within) }

as_bytes_line : (m : Machine) (base a : ℕ) (bytes : List ℕ) (o : Option Shown) → IsSound m → 0 < length bytes → a < 2 ^ 64 → Below bytes → AllReady o → Reaches m base (a + length bytes) → FirstLine m base a bytes (as_bytes m a bytes o)
as_bytes_line m base a bytes o sound some small below ready r =
    let k : ℕ = m.base_bits / 8 in
    let word : List ℕ = take k bytes in
    let long : length word ≡ min k (length bytes) = length-take k bytes in
    let size = base_few m sound in
    let own : take (length word) bytes ≡ word = ap (λ n. take n bytes) long ∙ take_min k bytes in
    let more : 0 < length word = omega (arith, long, some, size.0) in
    record {
      front = line_of a (byte_line word) word (besides o);
      text = listed_is a (byte_line word) word (besides o);
      lays = subst (Lays m base a (line_of a (byte_line word) word (besides o))) (sym own) (bytes_line m base a word (besides o) more (omega (arith, long, size.1)) (said_short o ready) small (below_front k bytes below) (said_plain o ready) (reaches_front m base a k bytes r));
      some = more;
    }

by_gives : (m : Machine) (base a : ℕ) (bytes : List ℕ) (s : Shown) (b : Bool) → gives (stated m a s.text) (take s.size bytes) ≡ b → IsFormed m → IsSound m → HasNearBit m → 0 < length bytes → a < 2 ^ 64 → Below bytes → Ready s → Reaches m base (a + length bytes)
    → FirstLine m base a bytes (if b then record { text = listed a s.text (take s.size bytes) []; size = s.size } else as_bytes m a bytes (Some s))
by_gives m base a bytes s true e formed sound near some small below ready r = record {
  front = line_of a s.text (take s.size bytes) [];
  text = listed_is a s.text (take s.size bytes) [];
  lays = statement_line m base a s.text (take s.size bytes) formed sound near small ready.plain (below_front s.size bytes below) e (reaches_front m base a s.size bytes r);
  some = ready.some;
}
by_gives m base a bytes s false e formed sound near some small below ready r = as_bytes_line m base a bytes (Some s) sound some small below ready r

by_bundle : (m : Machine) (base a : ℕ) (bytes : List ℕ) (o : Option Shown) → IsFormed m → IsSound m → HasNearBit m → 0 < length bytes → a < 2 ^ 64 → Below bytes → AllReady o → Reaches m base (a + length bytes) → FirstLine m base a bytes (line_for m a bytes o)
by_bundle m base a bytes None formed sound near some small below ready r = as_bytes_line m base a bytes None sound some small below ready r
by_bundle m base a bytes (Some s) formed sound near some small below ready r = by_gives m base a bytes s (gives (stated m a s.text) (take s.size bytes)) refl formed sound near some small below ready r

-- the first line of bytes that lie below the end of the addresses
pub first_line : (m : Machine) (f : Decoder) (base a : ℕ) (bytes : List ℕ) → IsFormed m → IsSound m → HasNearBit m → 0 < length bytes → Below bytes → Reaches m base (a + length bytes) → FirstLine m base a bytes (line_at m f a bytes)
unfolding line_at
first_line m f base a bytes formed sound near some below r =
    let within = r.within in
    let own : a < 2 ^ m.word_bits = omega (arith, within, some) in
    let few = word_few m.word_bits formed.word in
    let same : own_pc m a ≡ a = mod-eq_of_lt own in
    subst (λ p. FirstLine m base a bytes (line_for m p bytes (bundle_at m f a bytes))) (sym same) (by_bundle m base a bytes (bundle_at m f a bytes) formed sound near some (omega (arith, own, few)) below (bundle_ready m f a bytes formed) r)
