-- What directives say.
use Rattle.std.specs.Prelude.{ℕ, Bool, true, false, not, ◌&&◌, ◌==◌, if◌then◌else◌, List, [], ◌∷◌, ◌++◌, length, Option, Some, None}
use Rattle.std.specs.List.{list_all}
use Rattle.std.specs.Option.{option_map}
use Rattle.std.proofs.Common.{◌≡◌, refl, sym, ap, ◌∙◌, append_assoc, arith}
use Rattle.std.proofs.lemmas.List.{append-nil}
use Rattle.cg_asm_directives.specs.Telling.{told_order, width_for, width_bytes}
use Rattle.cg_asm_directives.specs.declared.order.Order.TheVariants.{Data, Malformed}
use Rattle.cg_asm_directives.specs.declared.order.Width.{Width}
use Rattle.cg_asm_directives.specs.declared.order.Width.TheVariants.{Byte, Half, Word}
use Rattle.cg_model_source.specs.Lining.{parted_at, trimmed_all}
use Rattle.cg_model_source.specs.Sourcing.{Order, data_of, malformed, sum_in_front, sums_of, data_order, up_to_quote}
use Rattle.cg_model_source.specs.Spelling.{sum_of}
use Rattle.cg_model_source.specs.declared.written.Sum.{Sum}

-- Sums so far, with those of the texts that are left.
abbrev pub SumsLeft : List (List ℕ) → List Sum → List (List ℕ) → Option (List Sum) → Type 0
SumsLeft words done texts whole = option_map (λ ss. done ++ ss) (sums_of words texts) ≡ whole

one_more : (done : List Sum) (s : Sum) (rest : Option (List Sum)) → option_map (λ ss. (done ++ s ∷ []) ++ ss) rest ≡ option_map (λ ss. done ++ ss) (sum_in_front (Some s) rest)
one_more done s None = refl
one_more done s (Some ss) = ap Some (append_assoc done (s ∷ []) ss)

pub next_sum : (words : List (List ℕ)) (done : List Sum) (s : Sum) (t : List ℕ) (ts : List (List ℕ)) (whole : Option (List Sum)) → Some s ≡ sum_of words t → SumsLeft words done (t ∷ ts) whole → SumsLeft words (done ++ s ∷ []) ts whole
next_sum words done s t ts whole e so =
    one_more done s (sums_of words ts) ∙ ap (λ o. option_map (λ ss. done ++ ss) (sum_in_front o (sums_of words ts))) e ∙ so

pub no_sum : (words : List (List ℕ)) (done : List Sum) (t : List ℕ) (ts : List (List ℕ)) (whole : Option (List Sum)) → None ≡ sum_of words t → SumsLeft words done (t ∷ ts) whole → None ≡ whole
no_sum words done t ts whole e so = ap (λ o. option_map (λ ss. done ++ ss) (sum_in_front o (sums_of words ts))) e ∙ so

pub all_sums : (words : List (List ℕ)) (done : List Sum) (whole : Option (List Sum)) → SumsLeft words done [] whole → Some done ≡ whole
all_sums words done whole so = sym (ap Some (append-nil done)) ∙ so

pub ruleset summing = (next_sum, no_sum, all_sums)

-- Data.
width_again : (w : Width) → width_for (width_bytes w) ≡ w
width_again Byte = refl
width_again Half = refl
width_again Word = refl

pub data_told : (words texts : List (List ℕ)) (name rest : List ℕ) (w : Width) (ss : List Sum) → texts ≡ trimmed_all (parted_at 44 rest) → Some ss ≡ sums_of words texts → Data name w ss ≡ told_order (data_order words name (width_bytes w) rest)
data_told words texts name rest w ss t e =
    ap (λ x. Data name x ss) (sym (width_again w))
    ∙ ap (λ o. told_order (elim o as (λ x. Order) [ None ↦ malformed name | Some xs ↦ data_of name (width_bytes w) xs ])) (e ∙ ap (sums_of words) t)

pub data_malformed : (words texts : List (List ℕ)) (name rest : List ℕ) (width : ℕ) → texts ≡ trimmed_all (parted_at 44 rest) → None ≡ sums_of words texts → Malformed name ≡ told_order (data_order words name width rest)
data_malformed words texts name rest width t e =
    ap (λ o. told_order (elim o as (λ x. Order) [ None ↦ malformed name | Some xs ↦ data_of name width xs ])) (e ∙ ap (sums_of words) t)

pub ruleset ordering = (data_told, data_malformed)

-- A text in front of a `"` that ends it.
quote_behind : (b : ℕ) (front : List ℕ) (last : ℕ) → up_to_quote (b ∷ (front ++ last ∷ [])) ≡ (if b == 34 then None else option_map (λ t. b ∷ t) (up_to_quote (front ++ last ∷ [])))
quote_behind b [] last = refl
quote_behind b (c ∷ front) last = refl

turned : (b : ℕ) (front : List ℕ) (quote ends plain : Bool) → (if quote then None else option_map (λ t. b ∷ t) (if ends && plain then Some front else None)) ≡ (if ends && (not quote && plain) then Some (b ∷ front) else None)
turned b front true true true = refl
turned b front true true false = refl
turned b front true false plain = refl
turned b front false true true = refl
turned b front false true false = refl
turned b front false false plain = refl

ends_here : (ends : Bool) → (if ends then Some [] else None) ≡ (if ends && true then Some [] else (let none : Option (List ℕ) = None in none))
ends_here true = refl
ends_here false = refl

quote_of : (front : List ℕ) (last : ℕ) → up_to_quote (front ++ last ∷ []) ≡ (if last == 34 && list_all (λ b. not (b == 34)) front then Some front else None)
quote_of [] last = ends_here (last == 34)
quote_of (b ∷ front) last =
    quote_behind b front last ∙ ap (λ r. if b == 34 then None else option_map (λ t. b ∷ t) r) (quote_of front last)
    ∙ turned b front (b == 34) (last == 34) (list_all (λ c. not (c == 34)) front)

by_end : (text front : List ℕ) (last : ℕ) (ends : Bool) → text ≡ front ++ last ∷ [] → (last == 34 && list_all (λ b. not (b == 34)) front) ≡ ends → (if ends then Some front else None) ≡ up_to_quote text
by_end text front last ends t e = sym (ap up_to_quote t ∙ quote_of front last ∙ ap (λ x. if x then Some front else None) e)

pub quote_ends : (text front : List ℕ) (last : ℕ) → text ≡ front ++ last ∷ [] → (last == 34 && list_all (λ b. not (b == 34)) front) ≡ true → Some front ≡ up_to_quote text
quote_ends text front last t e = by_end text front last true t e

pub quote_stands : (text front : List ℕ) (last : ℕ) → text ≡ front ++ last ∷ [] → (last == 34 && list_all (λ b. not (b == 34)) front) ≡ false → None ≡ up_to_quote text
quote_stands text front last t e = by_end text front last false t e

pub no_quote : (text : List ℕ) → length text ≡ 0 → None ≡ up_to_quote text
no_quote [] none = refl
no_quote (b ∷ bs) none = absurd (omega (arith, none))

pub ruleset quoting = (quote_ends, quote_stands, no_quote)
