-- What is wrong with a line while labels aren't known.
use Rattle.std.specs.Prelude.{ℕ, ◌+◌, Bool, true, false, ◌||◌, nat_lt, if◌then◌else◌, is_some, List, [], ◌∷◌, ◌++◌, ℤ, Option, Some, None}
use Rattle.std.specs.Option.{option_or, option_map}
use Rattle.std.proofs.Common.{◌≡◌, refl, sym, ap, ◌∙◌, append_assoc}
use Rattle.cg_asm_directives.proofs.ContentLemmas.{IsProper, IsOwn, own_words}
use Rattle.cg_asm_directives.proofs.DataLemmas.{unfit_told, map_or}
use Rattle.cg_asm.specs.Faulting.{unfit_known, first_unfit, unfit_data, text_fault, origin_fault, form_fault, content_fault}
use Rattle.cg_asm_directives.specs.Faulting.{told_first, unfit_refusal}
use Rattle.cg_asm_directives.specs.Telling.{told_order, width_for, width_bytes, told_content}
use Rattle.cg_asm_directives.specs.declared.order.Width.{Width}
use Rattle.cg_base.specs.Numerals.{hex_text}
use Rattle.cg_base.specs.declared.refusal.Refusal.{Refusal}
use Rattle.cg_model_source.specs.Bundling.{BundlePart}
use Rattle.cg_model_source.specs.Choosing.{SourceFault, alone, known}
use Rattle.cg_model_source.specs.Imaging.{reading_faults}
use Rattle.cg_model_source.specs.Sourcing.{Order, data_of, text, space, origin, align, in_set, malformed, Content, order, parts, only_set, all_keywords, Label, Place, Reading, line_size, address_of}
use Rattle.cg_model_source.specs.Spelling.{keywords, is_keyword}
use Rattle.cg_model.specs.declared.machine.Machine.{Machine}
use Rattle.cg_model_source.specs.declared.written.Sum.{Sum}
use Rattle.cg_model_source.specs.E601.{unknown_texts, unknown_parts}
use Rattle.cg_model_source.specs.E602.{unfit_sum, unfit_sums, unfit_texts, unfit_parts}
use Rattle.cg_model_source.specs.E603.{taken_label}
use Rattle.cg_model_source.specs.E606.{below_address}
use Rattle.cg_model_source.specs.E607.{too_large}
use Rattle.cg_model_source.specs.E608.{malformed_content, empty_parts}
use Rattle.cg_model_source.specs.E609.{too_wide_content, too_wide}
use Rattle.cg_syntax_spelling.specs.Lowered.{SameKeywords}
use Rattle.cg_syntax.proofs.FaultLemmas.{first_of_both, refused_told, empty_told, wide_told, or_again}
use Rattle.cg_syntax.specs.Faulting.{said_alone, where_empty}
use Rattle.cg_syntax.specs.Telling.{told_parts, first_refused}

-- Numbers of a directive.
one_told : (name : List ℕ) (w : Width) (k : Option ℤ) → told_first (unfit_sum name (width_bytes w) k) ≡ option_map (unfit_refusal 602 name) (unfit_known w k)
one_told name w None = refl
one_told name w (Some z) = unfit_told 602 name w z

sums_told : (name : List ℕ) (w : Width) (ss : List Sum) → told_first (unfit_sums name (width_bytes w) ss) ≡ option_map (unfit_refusal 602 name) (first_unfit w ss)
sums_told name w [] = refl
sums_told name w (s ∷ ss) =
    first_of_both (unfit_sum name (width_bytes w) (known s)) (unfit_sums name (width_bytes w) ss)
    ∙ ap (λ r. option_or r (told_first (unfit_sums name (width_bytes w) ss))) (one_told name w (known s))
    ∙ ap (option_or (option_map (unfit_refusal 602 name) (unfit_known w (known s)))) (sums_told name w ss)
    ∙ map_or 602 name (unfit_known w (known s)) (first_unfit w ss)

order_told : (o : Order) → IsProper o → told_first (unknown_texts (order o) ++ unfit_texts (order o)) ≡ unfit_data (told_order o)
order_told (data_of name width ss) is = ap (λ n. told_first (unfit_sums name n ss)) (sym is) ∙ sums_told name (width_for width) ss
order_told (text t) is = refl
order_told (space n) is = refl
order_told (origin n) is = refl
order_told (align n) is = refl
order_told (in_set m) is = absurd is
order_told (malformed name) is = refl

parts_told : (ps : List BundlePart) → told_first (unknown_parts ps ++ unfit_parts ps) ≡ option_or (first_refused 601 (told_parts ps)) (first_refused 602 (told_parts ps))
parts_told ps =
    first_of_both (unknown_parts ps) (unfit_parts ps) ∙ ap (λ r. option_or r (told_first (unfit_parts ps))) (refused_told 601 ps)
    ∙ ap (option_or (first_refused 601 (told_parts ps))) (refused_told 602 ps)

text_told : (c : Content) → IsOwn c → told_first (unknown_texts c ++ unfit_texts c) ≡ text_fault (told_content c)
text_told (order o) is = order_told o is
text_told (parts ps) is = parts_told ps

-- A label.
label_told : (m : Machine) (words : List (List ℕ)) (labels : List Label) (label : Option (List ℕ)) → SameKeywords words (keywords m) → taken_label (all_keywords (only_set m)) labels label ≡ taken_label words labels label
label_told m words labels None same = refl
label_told m words labels (Some name) same =
    ap (λ ws. if is_some (address_of labels name) || is_keyword ws name then alone 603 name ∷ [] else []) (own_words m)
    ∙ ap (λ b. if is_some (address_of labels name) || b then alone 603 name ∷ [] else []) (sym (same name))

-- `.org`.
by_below : (n : ℕ) (below : Bool) → told_first (if below then alone 606 (hex_text n) ∷ [] else []) ≡ (if below then Some (said_alone 606 (hex_text n)) else None)
by_below n true = refl
by_below n false = refl

origin_of : (address : ℕ) (o : Order) → IsProper o → told_first (below_address address (order o)) ≡ origin_fault address (told_content (order o))
origin_of address (data_of name width ss) is = refl
origin_of address (text t) is = refl
origin_of address (space n) is = refl
origin_of address (origin n) is = by_below n (nat_lt n address)
origin_of address (align n) is = refl
origin_of address (in_set m) is = absurd is
origin_of address (malformed name) is = refl

origin_told : (address : ℕ) (c : Content) → IsOwn c → told_first (below_address address c) ≡ origin_fault address (told_content c)
origin_told address (order o) is = origin_of address o is
origin_told address (parts ps) is = refl

-- The form of a line.
form_of : (width : ℕ) (o : Order) → IsProper o → told_first (malformed_content (order o) ++ too_wide_content width (order o)) ≡ form_fault width (told_content (order o))
form_of width (data_of name wide ss) is = refl
form_of width (text t) is = refl
form_of width (space n) is = refl
form_of width (origin n) is = refl
form_of width (align n) is = refl
form_of width (in_set m) is = absurd is
form_of width (malformed name) is = refl

form_told : (width : ℕ) (c : Content) → IsOwn c → told_first (malformed_content c ++ too_wide_content width c) ≡ form_fault width (told_content c)
form_told width (order o) is = form_of width o is
form_told width (parts ps) is =
    first_of_both (empty_parts ps) (too_wide width ps) ∙ ap (λ r. option_or r (told_first (too_wide width ps))) (empty_told ps)
    ∙ ap (option_or (where_empty (told_parts ps))) (wide_told width ps)

-- All of them, by number.
four_again : (b c d e : Option Refusal) → option_or (option_or (option_or b c) d) e ≡ option_or b (option_or c (option_or d e))
four_again None c d e = or_again c d e
four_again (Some x) c d e = refl

five_again : (a b c d e : Option Refusal) → option_or (option_or (option_or (option_or a b) c) d) e ≡ option_or a (option_or b (option_or c (option_or d e)))
five_again None b c d e = four_again b c d e
five_again (Some x) b c d e = refl

five : (a b c d e : List SourceFault) → told_first (a ++ b ++ c ++ d ++ e) ≡ option_or (told_first a) (option_or (told_first b) (option_or (told_first c) (option_or (told_first d) (told_first e))))
five a b c d e =
    first_of_both (a ++ b ++ c ++ d) e ∙ ap (λ x. option_or x (told_first e)) (first_of_both (a ++ b ++ c) d ∙ ap (λ x. option_or x (told_first d)) (first_of_both (a ++ b) c ∙ ap (λ x. option_or x (told_first c)) (first_of_both a b)))
    ∙ five_again (told_first a) (told_first b) (told_first c) (told_first d) (told_first e)

seven : (a b c d e f g : List SourceFault) → told_first (a ++ b ++ c ++ d ++ e ++ f ++ g) ≡ option_or (told_first (a ++ b)) (option_or (told_first c) (option_or (told_first d) (option_or (told_first e) (told_first (f ++ g)))))
seven a b c d e f g = ap told_first (append_assoc (a ++ b ++ c ++ d ++ e) f g) ∙ five (a ++ b) c d e (f ++ g)

pub reading_told : (m : Machine) (words : List (List ℕ)) (base end : ℕ) (p : Place) (r : Reading) → IsOwn r.content → SameKeywords words (keywords m) → p.machine ≡ m → end ≡ p.address + line_size p r →
    told_first (reading_faults (only_set m) base p r) ≡ content_fault m words base p.address end p.labels r.label (told_content r.content)
reading_told m words base end p r own same at e =
    seven (unknown_texts r.content) (unfit_texts r.content) (taken_label (all_keywords (only_set m)) p.labels r.label) (below_address p.address r.content)
    (too_large p.machine.word_bits base (p.address + line_size p r)) (malformed_content r.content) (too_wide_content p.machine.width r.content)
    ∙ ap (λ x. option_or x (option_or (told_first (taken_label (all_keywords (only_set m)) p.labels r.label)) (option_or (told_first (below_address p.address r.content)) (option_or (told_first (too_large p.machine.word_bits base (p.address + line_size p r))) (told_first (malformed_content r.content ++ too_wide_content p.machine.width r.content)))))) (text_told r.content own)
    ∙ ap (λ x. option_or (text_fault (told_content r.content)) (option_or (told_first x) (option_or (told_first (below_address p.address r.content)) (option_or (told_first (too_large p.machine.word_bits base (p.address + line_size p r))) (told_first (malformed_content r.content ++ too_wide_content p.machine.width r.content)))))) (label_told m words p.labels r.label same)
    ∙ ap (λ x. option_or (text_fault (told_content r.content)) (option_or (told_first (taken_label words p.labels r.label)) (option_or x (option_or (told_first (too_large p.machine.word_bits base (p.address + line_size p r))) (told_first (malformed_content r.content ++ too_wide_content p.machine.width r.content)))))) (origin_told p.address r.content own)
    ∙ ap (λ n. option_or (text_fault (told_content r.content)) (option_or (told_first (taken_label words p.labels r.label)) (option_or (origin_fault p.address (told_content r.content)) (option_or (told_first (too_large p.machine.word_bits base n)) (told_first (malformed_content r.content ++ too_wide_content p.machine.width r.content)))))) (sym e)
    ∙ ap (λ x. option_or (text_fault (told_content r.content)) (option_or (told_first (taken_label words p.labels r.label)) (option_or (origin_fault p.address (told_content r.content)) (option_or (told_first (too_large p.machine.word_bits base end)) x)))) (form_told p.machine.width r.content own)
    ∙ ap (λ k. option_or (text_fault (told_content r.content)) (option_or (told_first (taken_label words p.labels r.label)) (option_or (origin_fault p.address (told_content r.content)) (option_or (told_first (too_large k.word_bits base end)) (form_fault k.width (told_content r.content)))))) at
