-- The image of a source.
use Rattle.std.specs.Prelude.{ℕ, suc, ◌+◌, List, [], ◌∷◌, ◌++◌, Option, Some, None, Result, Ok, Err}
use Rattle.std.specs.Option.{option_or, option_map}
use Rattle.std.specs.Result.{result_ok, result_err}
use Rattle.std.proofs.Common.{◌≡◌, refl, sym, ap, ◌∙◌, subst, append_assoc}
use Rattle.std.proofs.lemmas.List.{append-nil}
use Rattle.cg_asm_directives.proofs.ContentLemmas.{own_content, same_machine}
use Rattle.cg_asm_labels.proofs.LineLemmas.{Stands, stands_at, content_undefined, content_unfit, content_put}
use Rattle.cg_asm_directives.specs.Faulting.{told_first}
use Rattle.cg_asm_labels.specs.Joining.{undefined_in, unfit_content, content_bytes, ContentWithin, AllWithin, unless_refused, line_put, then_put, lines_put}
use Rattle.cg_asm.specs.Placing.{place_of, laid_line, placed, line_behind, unless_at_fault, line_laid, then_laid, lines_laid, no_lines, layout_bytes, told_refusal, image_refusal, told_image, seen_refusal}
use Rattle.cg_asm_directives.specs.Telling.{told_content, place_in}
use Rattle.cg_asm_labels.specs.declared.joining.Laid as declared_laid
use Rattle.cg_asm.specs.declared.placing.Layout.{Layout}
use Rattle.cg_base.specs.Refusing.{first}
use Rattle.cg_base.specs.declared.refusal.Refusal.{Refusal}
use Rattle.cg_syntax_choose.proofs.FrontLemmas.{same_some, none_is_none}
use Rattle.cg_syntax_choose.specs.Indexing.{GivesAll}
use Rattle.cg_syntax_choose.specs.Trying.{fault_refusal}
use Rattle.cg_model_source.specs.Bundling.{parts_at}
use Rattle.cg_model_source.specs.Choosing.{SourceFault}
use Rattle.cg_model_source.specs.Imaging as imaging
use Rattle.cg_model_source.specs.Imaging.{SourceRefusal, line_fault, Layout as SpecLayout, laid, laid_before, unless_refused as unless_line_refused, layout_from, laid_faults, items_bytes, in_front, unless_unfit, joined, image_of, start, image_from, image}
use Rattle.cg_model_source.specs.Lining.{Statement, nothing, directive, bundle, read_line, parted_at}
use Rattle.cg_model.specs.Sound.{IsSound}
use Rattle.cg_model_source.specs.Sourcing.{Content, content_of, reading, reading_of, items_of, only_set, all_keywords, Label, Place, place_after, labels_with, line_size}
use Rattle.cg_model.specs.declared.machine.Machine.{Machine}
use Rattle.cg_model_source.specs.E604.{undefined_items}
use Rattle.cg_model_source.specs.E605.{unfit_items}
use Rattle.cg_model_source.specs.E607.{too_large}
use Rattle.cg_syntax.proofs.FaultLemmas.{first_of_both}
use Rattle.cg_syntax.proofs.StatingLemmas.{parts_within}
use Rattle.cg_syntax.specs.Telling.{told_parts}

-- A line behind others.
abbrev put_then : Result (List ℕ) SourceRefusal → Result (List ℕ) Refusal → Result (List ℕ) Refusal
put_then rest (Ok out) = told_image (in_front out rest)
put_then rest (Err r) = Err r

in_front_twice : (out front : List ℕ) (rest : Result (List ℕ) SourceRefusal) → told_image (in_front (out ++ front) rest) ≡ told_image (in_front out (in_front front rest))
in_front_twice out front (Ok bytes) = ap Ok (append_assoc out front bytes)
in_front_twice out front (Err r) = refl

by_fault : (n : ℕ) (fault : Option SourceFault) (out front : List ℕ) (rest : Result (List ℕ) SourceRefusal) →
    put_then rest (unless_refused n (option_map fault_refusal fault) (out ++ front)) ≡ told_image (in_front out (unless_unfit n fault (in_front front rest)))
by_fault n None out front rest = in_front_twice out front rest
by_fault n (Some f) out front rest = refl

fault_told : (m : Machine) (n : ℕ) (labels : List Label) (address : ℕ) (c : Content) → IsSound m → Stands m c →
    option_map fault_refusal (first (undefined_items labels (items_of address c) ++ unfit_items m labels (items_of address c))) ≡ option_or (undefined_in labels (told_content c)) (unfit_content m labels (told_content c))
fault_told m n labels address c sound stand =
    first_of_both (undefined_items labels (items_of address c)) (unfit_items m labels (items_of address c))
    ∙ ap (λ r. option_or r (told_first (unfit_items m labels (items_of address c)))) (content_undefined m labels address c stand)
    ∙ ap (option_or (undefined_in labels (told_content c))) (content_unfit m labels address c sound stand)

one_line : (m : Machine) (n address : ℕ) (labels : List Label) (out : List ℕ) (c : Content) (rest : Result (List ℕ) SourceRefusal) → IsSound m → Stands m c →
    put_then rest (line_put m labels (laid_line n address (told_content c)) out)
    ≡ told_image (in_front out (unless_unfit n (first (undefined_items labels (items_of address c) ++ unfit_items m labels (items_of address c))) (in_front (items_bytes m labels (items_of address c)) rest)))
one_line m n address labels out c rest sound stand =
    ap (λ f. put_then rest (unless_refused n f (out ++ content_bytes m labels address (told_content c)))) (sym (fault_told m n labels address c sound stand))
    ∙ ap (λ t. put_then rest (unless_refused n (option_map fault_refusal (first (undefined_items labels (items_of address c) ++ unfit_items m labels (items_of address c)))) (out ++ t))) (sym (content_put m labels address c sound stand))
    ∙ by_fault n (first (undefined_items labels (items_of address c) ++ unfit_items m labels (items_of address c))) out (items_bytes m labels (items_of address c)) rest

-- Lines behind others, and then one more.
then_by : (m : Machine) (labels : List Label) (xs : List declared_laid.Laid) (x : declared_laid.Laid) (r : Result (List ℕ) Refusal) → ((bytes : List ℕ) → lines_put m labels (xs ++ x ∷ []) bytes ≡ then_put (line_put m labels x) (lines_put m labels xs bytes)) →
    then_put (lines_put m labels (xs ++ x ∷ [])) r ≡ then_put (line_put m labels x) (then_put (lines_put m labels xs) r)
then_by m labels xs x (Ok bytes) later = later bytes
then_by m labels xs x (Err refusal) later = refl

then_one : (m : Machine) (labels : List Label) (xs : List declared_laid.Laid) (x : declared_laid.Laid) (out : List ℕ) → lines_put m labels (xs ++ x ∷ []) out ≡ then_put (line_put m labels x) (lines_put m labels xs out)
then_one m labels [] x out = only (line_put m labels x out)
  where
    only : (r : Result (List ℕ) Refusal) → then_put (lines_put m labels []) r ≡ r
    only (Ok bytes) = refl
    only (Err refusal) = refl
then_one m labels (y ∷ xs) x out = then_by m labels xs x (line_put m labels y out) (λ bytes. then_one m labels xs x bytes)

-- What stands, with what is left of the definition.
abbrev finished : Machine → List declared_laid.Laid → Result SpecLayout SourceRefusal → Result (List ℕ) Refusal
finished m done (Ok l) = put_then (joined l.labels l.lines) (lines_put m l.labels done [])
finished m done (Err r) = Err (image_refusal r)

abbrev LaidAs : Machine → declared_laid.Laid → imaging.Laid → Type 0
LaidAs m x y = (labels : List Label) (out : List ℕ) (rest : Result (List ℕ) SourceRefusal) → put_then rest (line_put m labels x out) ≡ told_image (in_front out (unless_unfit y.number (first (laid_faults labels y)) (in_front (items_bytes y.machine labels y.items) rest)))

moved : (m : Machine) (labels : List Label) (x : declared_laid.Laid) (y : imaging.Laid) (lines : List imaging.Laid) (r : Result (List ℕ) Refusal) → LaidAs m x y → put_then (joined labels (y ∷ lines)) r ≡ put_then (joined labels lines) (then_put (line_put m labels x) r)
moved m labels x y lines (Ok out) same = sym (same labels out (joined labels lines))
moved m labels x y lines (Err refusal) same = refl

line_more : (m : Machine) (done : List declared_laid.Laid) (x : declared_laid.Laid) (y : imaging.Laid) (rest : Result SpecLayout SourceRefusal) → LaidAs m x y → finished m done (laid_before y rest) ≡ finished m (done ++ x ∷ []) rest
line_more m done x y (Ok l) same = moved m l.labels x y l.lines (lines_put m l.labels done []) same ∙ ap (put_then (joined l.labels l.lines)) (sym (then_one m l.labels done x []))
line_more m done x y (Err r) same = refl

laid_as : (m : Machine) (n : ℕ) (l : Layout) (text : List ℕ) → IsSound m → GivesAll m → LaidAs m (placed n l.address (reading (only_set m) (place_of m l) text)) (laid n (place_of m l) (reading (only_set m) (place_of m l) text))
unfolding reading
laid_as m n l text sound gives labels out rest =
    one_line m n l.address labels out (content_of (only_set m) (place_in m l.address l.labels) (read_line text).statement) rest sound (stands_at m l.address l.labels (read_line text).statement gives)

place_again : (m : Machine) (n : ℕ) (l : Layout) (text : List ℕ) → place_of m (line_behind m n l (reading (only_set m) (place_of m l) text)) ≡ place_after (place_of m l) (reading (only_set m) (place_of m l) text)
unfolding reading
place_again m n l text =
    ap (λ x. let p : Place = record { address = l.address + line_size (place_of m l) (reading (only_set m) (place_of m l) text); machine = x; labels = labels_with (read_line text).label l.address l.labels } in p)
    (sym (same_machine (content_of (only_set m) (place_in m l.address l.labels) (read_line text).statement) m (own_content m l.address l.labels (read_line text).statement)))

fault_or_line : (m : Machine) (base n : ℕ) (l : Layout) (text : List ℕ) (texts : List (List ℕ)) (fault : Option SourceFault) → IsSound m → GivesAll m →
    ((k : Layout) → layout_bytes m (lines_laid m base (suc n) k texts) ≡ finished m k.lines (layout_from (only_set m) base (suc n) (place_of m k) texts)) →
    layout_bytes m (then_laid (λ k. lines_laid m base (suc n) k texts) (unless_at_fault n (option_map fault_refusal fault) (line_behind m n l (reading (only_set m) (place_of m l) text))))
    ≡ finished m l.lines (unless_line_refused n fault (laid_before (laid n (place_of m l) (reading (only_set m) (place_of m l) text)) (layout_from (only_set m) base (suc n) (place_after (place_of m l) (reading (only_set m) (place_of m l) text)) texts)))
fault_or_line m base n l text texts (Some f) sound gives later = refl
fault_or_line m base n l text texts None sound gives later =
    later (line_behind m n l (reading (only_set m) (place_of m l) text))
    ∙ ap (λ p. finished m (l.lines ++ placed n l.address (reading (only_set m) (place_of m l) text) ∷ []) (layout_from (only_set m) base (suc n) p texts)) (place_again m n l text)
    ∙ sym (line_more m l.lines (placed n l.address (reading (only_set m) (place_of m l) text)) (laid n (place_of m l) (reading (only_set m) (place_of m l) text)) (layout_from (only_set m) base (suc n) (place_after (place_of m l) (reading (only_set m) (place_of m l) text)) texts) (laid_as m n l text sound gives))

none_left : (r : Result (List ℕ) Refusal) → r ≡ put_then (Ok []) r
none_left (Ok out) = ap Ok (sym (append-nil out))
none_left (Err refusal) = refl

all_lines : (m : Machine) (base : ℕ) (texts : List (List ℕ)) → IsSound m → GivesAll m → (n : ℕ) (l : Layout) → layout_bytes m (lines_laid m base n l texts) ≡ finished m l.lines (layout_from (only_set m) base n (place_of m l) texts)
all_lines m base [] sound gives n l = none_left (lines_put m l.labels l.lines [])
all_lines m base (t ∷ texts) sound gives n l = fault_or_line m base n l t texts (line_fault (only_set m) base (place_of m l) t) sound gives (all_lines m base texts sound gives (suc n))

whole : (r : Result SpecLayout SourceRefusal) (m : Machine) → finished m [] r ≡ told_image (image_of r)
whole (Ok l) m = by (joined l.labels l.lines)
  where
    by : (rest : Result (List ℕ) SourceRefusal) → told_image (in_front [] rest) ≡ told_image rest
    by (Ok bytes) = refl
    by (Err r) = refl
whole (Err r) m = refl

-- The image.
base_or_lines : (m : Machine) (base : ℕ) (source : List ℕ) (fault : Option SourceFault) → IsSound m → GivesAll m → fault ≡ None → layout_bytes m (lines_laid m base 1 (no_lines base) (parted_at 10 source)) ≡ told_image (image_from (only_set m) base fault source)
base_or_lines m base source fault sound gives none =
    all_lines m base (parted_at 10 source) sound gives 1 (no_lines base) ∙ whole (layout_from (only_set m) base 1 (start (only_set m) base) (parted_at 10 source)) m
    ∙ sym (ap (λ f. told_image (image_from (only_set m) base f source)) none)

no_fault : (fault : Option SourceFault) → None ≡ option_map fault_refusal fault → fault ≡ None
no_fault None e = refl
no_fault (Some f) e = absurd (none_is_none e)

some_fault : (m : Machine) (base : ℕ) (source : List ℕ) (fault : Option SourceFault) (r : Refusal) → Some r ≡ option_map fault_refusal fault → told_image (image_from (only_set m) base fault source) ≡ Err r
some_fault m base source None r e = absurd (none_is_none (sym e))
some_fault m base source (Some f) r e = ap Err (sym (same_some e))

pub base_refused : (m : Machine) (base : ℕ) (source : List ℕ) (r : Refusal) → Some r ≡ told_first (too_large m.word_bits base base) → told_image (image (only_set m) base source) ≡ Err r
unfolding image
base_refused m base source r e = some_fault m base source (first (too_large m.word_bits base base)) r e

pub image_laid : (m : Machine) (base : ℕ) (source : List ℕ) (texts : List (List ℕ)) → IsSound m → GivesAll m → None ≡ told_first (too_large m.word_bits base base) → texts ≡ parted_at 10 source →
    layout_bytes m (lines_laid m base 1 (no_lines base) texts) ≡ told_image (image (only_set m) base source)
unfolding image
image_laid m base source texts sound gives e t =
    ap (λ ts. layout_bytes m (lines_laid m base 1 (no_lines base) ts)) t ∙ base_or_lines m base source (first (too_large m.word_bits base base)) sound gives (no_fault (first (too_large m.word_bits base base)) e)

pub lines_refused : (m : Machine) (base : ℕ) (source : List ℕ) (texts : List (List ℕ)) (r : Refusal) → IsSound m → GivesAll m → None ≡ told_first (too_large m.word_bits base base) → texts ≡ parted_at 10 source →
    lines_laid m base 1 (no_lines base) texts ≡ Err r → told_image (image (only_set m) base source) ≡ Err r
lines_refused m base source texts r sound gives e t is = sym (image_laid m base source texts sound gives e t) ∙ ap (layout_bytes m) is

pub lines_stand : (m : Machine) (base : ℕ) (source : List ℕ) (texts : List (List ℕ)) (l : Layout) (r : Result (List ℕ) Refusal) → IsSound m → GivesAll m → None ≡ told_first (too_large m.word_bits base base) → texts ≡ parted_at 10 source →
    lines_laid m base 1 (no_lines base) texts ≡ Ok l → lines_put m l.labels l.lines [] ≡ r → told_image (image (only_set m) base source) ≡ r
lines_stand m base source texts l r sound gives e t is put = sym (image_laid m base source texts sound gives e t) ∙ ap (layout_bytes m) is ∙ put

-- Each instruction of a line that has its place is one that there is.
content_within : (m : Machine) (address : ℕ) (labels : List Label) (s : Statement) → GivesAll m → ContentWithin m (told_content (content_of (only_set m) (place_in m address labels) s))
content_within m address labels nothing gives = tt
content_within m address labels (directive name rest) gives = tt
content_within m address labels (bundle texts) gives = parts_within m (all_keywords (only_set m)) address texts (told_parts (parts_at m (all_keywords (only_set m)) address texts)) gives refl

behind_within : (m : Machine) (xs : List declared_laid.Laid) (x : declared_laid.Laid) → AllWithin m xs → ContentWithin m x.content → AllWithin m (xs ++ x ∷ [])
behind_within m [] x all one = (one, tt)
behind_within m (y ∷ xs) x all one = (all.0, behind_within m xs x all.1 one)

same_ok : {A E : Type 0} {x y : A} → (let r : Result A E = Ok x in r) ≡ Ok y → x ≡ y
same_ok e = same_some (ap result_ok e)

line_of_within : (m : Machine) (n : ℕ) (l k : Layout) (text : List ℕ) (fault : Option Refusal) → GivesAll m → unless_at_fault n fault (line_behind m n l (reading (only_set m) (place_of m l) text)) ≡ Ok k → AllWithin m l.lines → AllWithin m k.lines
unfolding reading
line_of_within m n l k text None gives e all =
    subst (λ x. AllWithin m x.lines) (same_ok e)
    (behind_within m l.lines (placed n l.address (reading_of (only_set m) (place_of m l) (read_line text))) all (content_within m l.address l.labels (read_line text).statement gives))
line_of_within m n l k text (Some r) gives e all = absurd (none_is_none (ap result_ok e))

next_within : (m : Machine) (base n : ℕ) (k : Layout) (texts : List (List ℕ)) (r : Result Layout Refusal) → then_laid (λ j. lines_laid m base (suc n) j texts) r ≡ Ok k → ((j : Layout) → r ≡ Ok j → AllWithin m j.lines) →
    ((j : Layout) → lines_laid m base (suc n) j texts ≡ Ok k → AllWithin m j.lines → AllWithin m k.lines) → AllWithin m k.lines
next_within m base n k texts (Ok j) e here later = later j e (here j refl)
next_within m base n k texts (Err r) e here later = absurd (none_is_none (ap result_ok e))

laid_within : (m : Machine) (base : ℕ) (texts : List (List ℕ)) → GivesAll m → (n : ℕ) (l k : Layout) → lines_laid m base n l texts ≡ Ok k → AllWithin m l.lines → AllWithin m k.lines
laid_within m base [] gives n l k e all = subst (λ x. AllWithin m x.lines) (same_ok e) all
laid_within m base (t ∷ texts) gives n l k e all =
    next_within m base n k texts (line_laid m base n l t) e
    (λ j is. line_of_within m n l j t (option_map fault_refusal (line_fault (only_set m) base (place_of m l) t)) gives is all)
    (λ j is there. laid_within m base texts gives (suc n) j k is there)

pub all_within : (m : Machine) (base : ℕ) (texts : List (List ℕ)) (k : Layout) → GivesAll m → lines_laid m base 1 (no_lines base) texts ≡ Ok k → AllWithin m k.lines
all_within m base texts k gives e = laid_within m base texts gives 1 (no_lines base) k e tt

pub ruleset images = (base_refused, lines_refused)

-- What is told is what is meant.
pub image_is : (r : Result (List ℕ) SourceRefusal) (out : List ℕ) → told_image r ≡ Ok out → r ≡ Ok out
image_is (Ok x) out e = ap Ok (same_ok e)
image_is (Err r) out e = absurd (none_is_none (ap result_ok e))

pub image_refused : (r : Result (List ℕ) SourceRefusal) (refusal : Refusal) → told_image r ≡ Err refusal → r ≡ Err (seen_refusal (told_refusal refusal))
image_refused (Ok x) refusal e = absurd (none_is_none (ap result_err e))
image_refused (Err r) refusal e = ap (λ y. Err (seen_refusal (told_refusal y))) (same_some (ap result_err e))

pub ruleset assembling = (image_is, image_refused)
