-- What lines lay down, and how much.
use Rattle.std.specs.Prelude.{ℕ, suc, ◌+◌, ◌-◌, ◌*◌, ◌%◌, ◌^◌, ◌<◌, Bool, true, false, if◌then◌else◌, List, [], ◌∷◌, ◌++◌, length, Option, Some, None, codes, nat_le, ◌&&◌}
use Rattle.std.proofs.Common.{◌≡◌, ◌≢◌, refl, sym, ap, ◌∙◌, arith}
use Rattle.std.proofs.lemmas.List.{append-nil}
use Rattle.std.proofs.lemmas.Nat.{mod_below}
use Rattle.cg_asm_directives.specs.Telling.{told_order, width_for, width_bytes, one_set_order, told_content, place_in, content_at, order_size, parts_size, content_size}
use Rattle.cg_asm_directives.specs.declared.content.Content.TheVariants.{Directive, Bundle}
use Rattle.cg_asm_directives.specs.declared.order.Order as declared_order
use Rattle.cg_base.specs.Numerals.{number_written}
use Rattle.cg_base.specs.Texts.{same_text}
use Rattle.cg_syntax_choose.specs.Indexing.{IsIndex, GivesAll}
use Rattle.cg_syntax_choose.specs.declared.index.Index.{Index}
use Rattle.cg_model_source.specs.Bundling as bundling
use Rattle.cg_model_source.specs.Bundling.{BundlePart, empty, refused, stands, parts_at, part_of}
use Rattle.cg_model_source.specs.Lining.{Statement, nothing, directive, bundle, parted_at, trimmed_all}
use Rattle.cg_model.specs.Sound.{IsSound}
use Rattle.cg_model_source.specs.Sourcing.{Order, data_of, text, space, origin, align, in_set, malformed, sum_in_front, sums_of, data_order, quoted, text_order, space_order, origin_order, align_by, align_order, order_of, only_set, all_keywords, Content, order, parts, content_of, Item, items_of, order_items, data_items, parts_items, part_items, is_more, items_size, up_to_multiple, machine_after, Label}
use Rattle.cg_model_source.specs.Spelling.{keywords, sum_of}
use Rattle.cg_model.specs.declared.machine.Machine.{Machine}
use Rattle.cg_model_source.specs.declared.written.Sum.{Sum}
use Rattle.cg_syntax_spelling.proofs.Alike.{alike}
use Rattle.cg_syntax_spelling.specs.Laws.{SpellAlike}
use Rattle.cg_syntax_spelling.specs.Lowered.{SameKeywords}
use Rattle.cg_syntax.proofs.BundleLemmas.{same_parts, told_size}
use Rattle.cg_syntax.specs.Telling.{told_part, told_parts, part_size}
use Rattle.cg_syntax.specs.declared.bundle.Part.{Part}

-- The words of a source of one instruction set are those of its machine.
pub own_words : (m : Machine) → all_keywords (only_set m) ≡ keywords m
own_words m = append-nil (keywords m)

-- Which texts are words decides what a directive says, and not how they are listed.
sums_alike : (v w : List (List ℕ)) → SpellAlike v w → (texts : List (List ℕ)) → sums_of v texts ≡ sums_of w texts
sums_alike v w same [] = refl
sums_alike v w same (t ∷ ts) = ap (λ s. sum_in_front s (sums_of v ts)) (same.sum t) ∙ ap (sum_in_front (sum_of w t)) (sums_alike v w same ts)

data_alike : (v w : List (List ℕ)) → SpellAlike v w → (name : List ℕ) (width : ℕ) (rest : List ℕ) → data_order v name width rest ≡ data_order w name width rest
data_alike v w same name width rest = ap (λ o. elim o as (λ x. Order) [ None ↦ malformed name | Some ss ↦ data_of name width ss ]) (sums_alike v w same (trimmed_all (parted_at 44 rest)))

abbrev behind_data : List ℕ → List ℕ → Order
behind_data name rest = if same_text name (codes ".ascii") then text_order name rest else if same_text name (codes ".space") then space_order name rest else if same_text name (codes ".org") then origin_order name rest else if same_text name (codes ".align") then align_order name rest else malformed name

abbrev with_data : List ℕ → List ℕ → Order → Order → Order → Order
with_data name rest a b c = if same_text name (codes ".byte") then a else if same_text name (codes ".half") then b else if same_text name (codes ".word") then c else behind_data name rest

orders_alike : (v w : List (List ℕ)) → SpellAlike v w → (name rest : List ℕ) → one_set_order v name rest ≡ one_set_order w name rest
orders_alike v w same name rest =
    ap (λ o. with_data name rest o (data_order v name 2 rest) (data_order v name 4 rest)) (data_alike v w same name 1 rest)
    ∙ ap (λ o. with_data name rest (data_order w name 1 rest) o (data_order v name 4 rest)) (data_alike v w same name 2 rest)
    ∙ ap (λ o. with_data name rest (data_order w name 1 rest) (data_order w name 2 rest) o) (data_alike v w same name 4 rest)

one_set : (m : Machine) (name rest : List ℕ) → one_set_order (all_keywords (only_set m)) name rest ≡ order_of (only_set m) name rest
one_set m name rest = refl

own_order : (m : Machine) (words : List (List ℕ)) (name rest : List ℕ) → SameKeywords words (keywords m) → one_set_order words name rest ≡ order_of (only_set m) name rest
own_order m words name rest same =
    orders_alike words (keywords m) (alike words (keywords m) same) name rest ∙ ap (λ w. one_set_order w name rest) (sym (own_words m)) ∙ one_set m name rest

pub directive_read : (m : Machine) (x : Index) (address : ℕ) (name rest : List ℕ) (o : declared_order.Order) → IsIndex m x → o ≡ told_order (one_set_order x.keywords name rest) → Directive o ≡ content_at m address (directive name rest)
directive_read m x address name rest o is e = ap Directive (e ∙ ap told_order (own_order m x.keywords name rest is.keywords))

pub bundle_read : (m : Machine) (address at : ℕ) (texts said : List (List ℕ)) (ps : List Part) → IsSound m → at ≡ address % 2 ^ 64 → texts ≡ said → ps ≡ told_parts (parts_at m (keywords m) at texts) → Bundle ps ≡ content_at m address (bundle said)
bundle_read m address at texts said ps sound a t p =
    let same : at % 2 ^ 64 ≡ address % 2 ^ 64 = omega (arith, a) in
    ap Bundle (p ∙ ap (λ ts. told_parts (parts_at m (keywords m) at ts)) t ∙ same_parts m (keywords m) at address said sound same ∙ ap (λ w. told_parts (parts_at m w address said)) (sym (own_words m)))

pub ruleset reading = (bundle_read)

-- How far it is to a multiple.
none_less : (k : ℕ) → 0 - k ≡ 0
none_less k = omega arith

pub no_multiple : (n address : ℕ) → n ≡ 0 → 0 ≡ up_to_multiple n address
no_multiple n address e = ap (λ k. k % 0) (sym (none_less (address % 0))) ∙ sym (ap (λ k. up_to_multiple k address) e)

pub rest_below : (address n : ℕ) → n ≢ 0 → address % n < n
rest_below address n some = mod_below address n (omega (arith, some))

pub multiple_small : (n address : ℕ) → n ≢ 0 → n < 2 ^ 64 → up_to_multiple n address < 2 ^ 64
multiple_small n address some small = omega (arith, mod_below (n - address % n) n (omega (arith, some)), small)

pub ruleset multiples = (no_multiple, rest_below, multiple_small)

-- How many bytes.
pub all_sized : (m : Machine) (size whole : ℕ) → size + parts_size m [] ≡ whole → size ≡ whole
all_sized m size whole e = omega (arith, e)

pub next_sized : (m : Machine) (size next whole : ℕ) (p : Part) (ps : List Part) → next ≡ size + part_size m p → size + parts_size m (p ∷ ps) ≡ whole → next + parts_size m ps ≡ whole
next_sized m size next whole p ps n e = omega (arith, n, e)

pub ruleset sizing = (all_sized, next_sized)

-- A directive of one instruction set has one of the widths, and chooses no other set.
abbrev pub IsProper : Order → Type 0
IsProper (data_of name width ss) = width_bytes (width_for width) ≡ width
IsProper (in_set m) = ⊥
IsProper _ = Unit {0}

data_by : (name : List ℕ) (width : ℕ) (r : Option (List Sum)) → width_bytes (width_for width) ≡ width → IsProper (elim r as (λ x. Order) [ None ↦ malformed name | Some ss ↦ data_of name width ss ])
data_by name width None e = tt
data_by name width (Some ss) e = e

text_by : (name : List ℕ) (r : Option (List ℕ)) → IsProper (elim r as (λ x. Order) [ None ↦ malformed name | Some t ↦ text t ])
text_by name None = tt
text_by name (Some t) = tt

space_by : (name : List ℕ) (r : Option ℕ) → IsProper (elim r as (λ x. Order) [ None ↦ malformed name | Some n ↦ space n ])
space_by name None = tt
space_by name (Some n) = tt

origin_by : (name : List ℕ) (r : Option ℕ) → IsProper (elim r as (λ x. Order) [ None ↦ malformed name | Some n ↦ origin n ])
origin_by name None = tt
origin_by name (Some n) = tt

aligned : (name : List ℕ) (n : ℕ) (within : Bool) → IsProper (if within then align n else malformed name)
aligned name n true = tt
aligned name n false = tt

align_read : (name : List ℕ) (r : Option ℕ) → IsProper (elim r as (λ x. Order) [ None ↦ malformed name | Some n ↦ align_by name n ])
align_read name None = tt
align_read name (Some n) = aligned name n (nat_le 1 n && nat_le n 4096)

either : (b : Bool) (o p : Order) → IsProper o → IsProper p → IsProper (if b then o else p)
either true o p is other = is
either false o p is other = other

pub proper_order : (m : Machine) (name rest : List ℕ) → IsProper (order_of (only_set m) name rest)
proper_order m name rest =
    let words : List (List ℕ) = all_keywords (only_set m) in
    either (same_text name (codes ".byte")) (data_order words name 1 rest) _ (data_by name 1 (sums_of words (trimmed_all (parted_at 44 rest))) refl)
    (either (same_text name (codes ".half")) (data_order words name 2 rest) _ (data_by name 2 (sums_of words (trimmed_all (parted_at 44 rest))) refl)
    (either (same_text name (codes ".word")) (data_order words name 4 rest) _ (data_by name 4 (sums_of words (trimmed_all (parted_at 44 rest))) refl)
    (either (same_text name (codes ".ascii")) (text_order name rest) _ (text_by name (quoted rest))
    (either (same_text name (codes ".space")) (space_order name rest) _ (space_by name (number_written rest))
    (either (same_text name (codes ".org")) (origin_order name rest) _ (origin_by name (number_written rest))
    (either (same_text name (codes ".align")) (align_order name rest) (malformed name) (align_read name (number_written rest)) tt))))))

abbrev pub IsOwn : Content → Type 0
IsOwn (order o) = IsProper o
IsOwn (parts ps) = Unit {0}

pub own_content : (m : Machine) (address : ℕ) (labels : List Label) (s : Statement) → IsOwn (content_of (only_set m) (place_in m address labels) s)
own_content m address labels nothing = tt
own_content m address labels (directive name rest) = proper_order m name rest
own_content m address labels (bundle texts) = tt

same_order : (o : Order) (m : Machine) → IsProper o → machine_after m (order o) ≡ m
same_order (data_of name width ss) m is = refl
same_order (text t) m is = refl
same_order (space n) m is = refl
same_order (origin n) m is = refl
same_order (align n) m is = refl
same_order (in_set x) m is = absurd is
same_order (malformed name) m is = refl

pub same_machine : (c : Content) (m : Machine) → IsOwn c → machine_after m c ≡ m
same_machine (order o) m is = same_order o m is
same_machine (parts ps) m is = refl

-- What a line lays down doesn't depend on the labels so far.
pub at_place : (m : Machine) (address : ℕ) (labels : List Label) (s : Statement) → content_at m address s ≡ told_content (content_of (only_set m) (place_in m address labels) s)
at_place m address labels nothing = refl
at_place m address labels (directive name rest) = refl
at_place m address labels (bundle texts) = refl

-- Told so, a line has the same size.
data_size : (m : Machine) (name : List ℕ) (width : ℕ) (ss : List Sum) → items_size m (data_items name width ss) ≡ width * length ss
data_size m name width [] = let none : 0 ≡ width * 0 = omega arith in none
data_size m name width (s ∷ ss) =
    let one : width + width * length ss ≡ width * suc (length ss) = omega (arith, rows_of width (length ss)) in
    ap (λ n. width + n) (data_size m name width ss) ∙ one
  where
    rows_of : (a b : ℕ) → a * suc b ≡ a + a * b
    rows_of a b = grind arith

only_one : (n : ℕ) → n + 0 ≡ n
only_one n = omega arith

told_order_size : (m : Machine) (address : ℕ) (o : Order) → IsProper o → items_size m (order_items address o) ≡ order_size address (told_order o)
told_order_size m address (data_of name width ss) is = data_size m name width ss ∙ ap (λ w. w * length ss) (sym is)
told_order_size m address (text t) is = only_one (length t)
told_order_size m address (space n) is = only_one n
told_order_size m address (origin n) is = only_one (n - address)
told_order_size m address (align n) is = only_one (up_to_multiple n address)
told_order_size m address (in_set x) is = absurd is
told_order_size m address (malformed name) is = refl

one_part : (m : Machine) (p : BundlePart) (more : Bool) (rest : List Item) → items_size m (part_items p more ++ rest) ≡ bundling.part_size m p + items_size m rest
one_part m empty more rest = let none : items_size m rest ≡ 0 + items_size m rest = omega arith in none
one_part m (refused fault) more rest = let none : items_size m rest ≡ 0 + items_size m rest = omega arith in none
one_part m (stands address c) more rest = refl

told_parts_size : (m : Machine) (words : List (List ℕ)) (address : ℕ) (texts : List (List ℕ)) → GivesAll m → items_size m (parts_items (parts_at m words address texts)) ≡ parts_size m (told_parts (parts_at m words address texts))
told_parts_size m words address [] gives = refl
told_parts_size m words address (t ∷ texts) gives =
    let p : BundlePart = part_of m words address t in
    let ps : List BundlePart = parts_at m words (address + bundling.part_size m p) texts in
    one_part m p (is_more ps) (parts_items ps) ∙ ap (λ n. n + items_size m (parts_items ps)) (sym (told_size m words address t gives))
    ∙ ap (λ n. part_size m (told_part p) + n) (told_parts_size m words (address + bundling.part_size m p) texts gives)

pub told_content_size : (m : Machine) (address : ℕ) (labels : List Label) (s : Statement) → GivesAll m →
    items_size m (items_of address (content_of (only_set m) (place_in m address labels) s)) ≡ content_size m address (told_content (content_of (only_set m) (place_in m address labels) s))
told_content_size m address labels nothing gives = refl
told_content_size m address labels (directive name rest) gives = told_order_size m address (order_of (only_set m) name rest) (proper_order m name rest)
told_content_size m address labels (bundle texts) gives = told_parts_size m (all_keywords (only_set m)) address texts gives
