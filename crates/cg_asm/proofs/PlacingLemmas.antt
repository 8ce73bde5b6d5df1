-- Lines, each at the address behind the lines before it.
use Rattle.std.specs.Prelude.{ℕ, suc, ◌+◌, ◌-◌, ◌^◌, ◌≤◌, Bool, true, false, ◌||◌, nat_lt, if◌then◌else◌, is_some, List, [], ◌∷◌, ◌++◌, Option, Some, None, Result, Ok, Err, codes}
use Rattle.std.specs.Option.{option_or, option_map}
use Rattle.std.proofs.Common.{◌≡◌, refl, sym, ap, ◌∙◌, arith}
use Rattle.std.proofs.lemmas.Bool.Decides.{nat_tests}
use Rattle.std.proofs.Math.Nat.{pow-le-pow_right}
use Rattle.cg_asm_directives.proofs.ContentLemmas.{own_content, at_place, told_content_size}
use Rattle.cg_asm.proofs.FaultLemmas.{reading_told}
use Rattle.cg_asm.specs.Faulting.{text_fault, origin_fault, content_fault}
use Rattle.cg_asm_directives.specs.Faulting.{told_first, on_line}
use Rattle.cg_asm_labels.specs.Labelling.{IsNew}
use Rattle.cg_asm.specs.Placing.{place_of, laid_line, placed, line_behind, unless_at_fault, read_laid, line_laid, then_laid, lines_laid}
use Rattle.cg_asm_directives.specs.Telling.{content_at, content_size}
use Rattle.cg_asm_directives.specs.declared.content.Content as declared
use Rattle.cg_asm_labels.specs.declared.joining.Laid.{Laid}
use Rattle.cg_asm.specs.declared.placing.Layout.{Layout}
use Rattle.cg_base.specs.Refusing.{first}
use Rattle.cg_base.specs.declared.refusal.Refusal.{Refusal}
use Rattle.cg_syntax_choose.proofs.FrontLemmas.{none_is_none}
use Rattle.cg_syntax_choose.specs.Indexing.{IsIndex, GivesAll}
use Rattle.cg_syntax_choose.specs.declared.index.Index.{Index}
use Rattle.cg_syntax_choose.specs.Trying.{fault_refusal}
use Rattle.cg_model_source.specs.Choosing.{alone}
use Rattle.cg_model_source.specs.Imaging.{reading_faults}
use Rattle.cg_model_source.specs.Lining.{Line, Statement, is_readable, read_line}
use Rattle.cg_model.specs.Sound.{is_word}
use Rattle.cg_model_source.specs.Sourcing.{reading, reading_of, only_set, Label, address_of, labels_with, line_size}
use Rattle.cg_model_source.specs.Spelling.{is_keyword}
use Rattle.cg_model.specs.declared.machine.Machine.{Machine}
use Rattle.cg_model_source.specs.E603.{taken_label}
use Rattle.cg_model_source.specs.E607.{too_large}
use Rattle.cg_model_source.specs.E608.{malformed_line}
use Rattle.cg_syntax.specs.Faulting.{said_alone}

-- A line that can be read.
size_at : (m : Machine) (l : Layout) (label : Option (List ℕ)) (s : Statement) (content : declared.Content) (end : ℕ) → GivesAll m → content ≡ content_at m l.address s → end ≡ l.address + content_size m l.address content →
    end ≡ l.address + line_size (place_of m l) (reading_of (only_set m) (place_of m l) (record { label = label; statement = s }))
size_at m l label s content end gives c e =
    e ∙ ap (λ x. l.address + content_size m l.address x) (c ∙ at_place m l.address l.labels s) ∙ ap (λ n. l.address + n) (sym (told_content_size m l.address l.labels s gives))

fault_at : (m : Machine) (x : Index) (base : ℕ) (l : Layout) (label : Option (List ℕ)) (s : Statement) (content : declared.Content) (end : ℕ) → GivesAll m → IsIndex m x → content ≡ content_at m l.address s → end ≡ l.address + content_size m l.address content →
    told_first (reading_faults (only_set m) base (place_of m l) (reading_of (only_set m) (place_of m l) (record { label = label; statement = s }))) ≡ content_fault m x.keywords base l.address end l.labels label content
fault_at m x base l label s content end gives is c e =
    reading_told m x.keywords base end (place_of m l) (reading_of (only_set m) (place_of m l) (record { label = label; statement = s })) (own_content m l.address l.labels s) is.keywords refl (size_at m l label s content end gives c e)
    ∙ ap (content_fault m x.keywords base l.address end l.labels label) (sym (c ∙ at_place m l.address l.labels s))

pub line_refused : (m : Machine) (x : Index) (base n : ℕ) (l : Layout) (label : Option (List ℕ)) (s : Statement) (content : declared.Content) (end : ℕ) (r : Refusal) → GivesAll m → IsIndex m x → content ≡ content_at m l.address s →
    end ≡ l.address + content_size m l.address content → Some r ≡ content_fault m x.keywords base l.address end l.labels label content → read_laid m base n l (record { label = label; statement = s }) ≡ Err (on_line n r)
line_refused m x base n l label s content end r gives is c e fault =
    ap (λ o. unless_at_fault n o (line_behind m n l (reading_of (only_set m) (place_of m l) (record { label = label; statement = s })))) (fault_at m x base l label s content end gives is c e ∙ sym fault)

same_layout : (labels : List Label) (lines : List Laid) (address : ℕ) (k : Layout) → k.labels ≡ labels → k.lines ≡ lines → k.address ≡ address → (let l : Layout = record { labels = labels; lines = lines; address = address } in l) ≡ k
same_layout labels lines address k a b c =
    ap (λ x. let l : Layout = record { labels = x; lines = lines; address = address } in l) (sym a)
    ∙ ap (λ x. let l : Layout = record { labels = k.labels; lines = x; address = address } in l) (sym b)
    ∙ ap (λ x. let l : Layout = record { labels = k.labels; lines = k.lines; address = x } in l) (sym c)

pub line_stands : (m : Machine) (x : Index) (base n : ℕ) (l k : Layout) (label : Option (List ℕ)) (s : Statement) (content : declared.Content) (end : ℕ) → GivesAll m → IsIndex m x → content ≡ content_at m l.address s →
    end ≡ l.address + content_size m l.address content → None ≡ content_fault m x.keywords base l.address end l.labels label content →
    k.labels ≡ labels_with label l.address l.labels → k.lines ≡ l.lines ++ laid_line n l.address content ∷ [] → k.address ≡ end → read_laid m base n l (record { label = label; statement = s }) ≡ Ok k
line_stands m x base n l k label s content end gives is c e fault labels lines address =
    ap (λ o. unless_at_fault n o (line_behind m n l (reading_of (only_set m) (place_of m l) (record { label = label; statement = s })))) (fault_at m x base l label s content end gives is c e ∙ sym fault)
    ∙ ap Ok (same_layout (labels_with label l.address l.labels) (l.lines ++ placed n l.address (reading_of (only_set m) (place_of m l) (record { label = label; statement = s })) ∷ [])
    (l.address + line_size (place_of m l) (reading_of (only_set m) (place_of m l) (record { label = label; statement = s }))) k labels
    (lines ∙ ap (λ y. l.lines ++ laid_line n l.address y ∷ []) (c ∙ at_place m l.address l.labels s)) (address ∙ size_at m l label s content end gives c e))

-- A line by its text.
readable_or_not : (m : Machine) (base n : ℕ) (l : Layout) (text : List ℕ) (readable : Bool) → is_readable 4096 text ≡ readable →
    line_laid m base n l text
    ≡ (if readable then read_laid m base n l (read_line text) else Err (on_line n (said_alone 608 (codes "line"))))
unfolding reading
readable_or_not m base n l text true e =
    ap (λ b. unless_at_fault n (option_map fault_refusal (if b then first (reading_faults (only_set m) base (place_of m l) (reading (only_set m) (place_of m l) text)) else Some malformed_line)) (line_behind m n l (reading (only_set m) (place_of m l) text))) e
readable_or_not m base n l text false e =
    ap (λ b. unless_at_fault n (option_map fault_refusal (if b then first (reading_faults (only_set m) base (place_of m l) (reading (only_set m) (place_of m l) text)) else Some malformed_line)) (line_behind m n l (reading (only_set m) (place_of m l) text))) e

pub line_read : (m : Machine) (base n : ℕ) (l : Layout) (text : List ℕ) (line : Line) → is_readable 4096 text ≡ true → line ≡ read_line text → line_laid m base n l text ≡ read_laid m base n l line
line_read m base n l text line e is = readable_or_not m base n l text true e ∙ ap (read_laid m base n l) (sym is)

pub line_unread : (m : Machine) (base n : ℕ) (l : Layout) (text : List ℕ) → is_readable 4096 text ≡ false → line_laid m base n l text ≡ Err (on_line n (said_alone 608 (codes "line")))
line_unread m base n l text e = readable_or_not m base n l text false e

pub ruleset reading_lines = (line_read, line_unread)

-- Lines, one by one.
pub next_laid : (m : Machine) (base n next : ℕ) (l k : Layout) (t : List ℕ) (ts : List (List ℕ)) (whole : Result Layout Refusal) → next ≡ n + 1 → line_laid m base n l t ≡ Ok k → lines_laid m base n l (t ∷ ts) ≡ whole → lines_laid m base next k ts ≡ whole
next_laid m base n next l k t ts whole e is so =
    let one : next ≡ suc n = omega (arith, e) in
    ap (λ i. lines_laid m base i k ts) one ∙ sym (ap (then_laid (λ j. lines_laid m base (suc n) j ts)) is) ∙ so

pub stop_laid : (m : Machine) (base n : ℕ) (l : Layout) (t : List ℕ) (ts : List (List ℕ)) (r : Refusal) (whole : Result Layout Refusal) → line_laid m base n l t ≡ Err r → lines_laid m base n l (t ∷ ts) ≡ whole → whole ≡ Err r
stop_laid m base n l t ts r whole is so = sym so ∙ ap (then_laid (λ j. lines_laid m base (suc n) j ts)) is

pub ruleset lines = (next_laid, stop_laid)

-- An end that E607 lets stand lies in 64 bits.
not_high : (bits : ℕ) (end : ℕ) (long high : Bool) → nat_lt (2 ^ bits) end ≡ high → told_first (if long || high then alone 607 (codes "image") ∷ [] else []) ≡ None → nat_lt (2 ^ bits) end ≡ false
not_high bits end true high h e = absurd (none_is_none (sym e))
not_high bits end false true h e = absurd (none_is_none (sym e))
not_high bits end false false h e = h

end_low : (bits base end : ℕ) → bits ≤ 64 → told_first (too_large bits base end) ≡ None → end ≤ 2 ^ 64
end_low bits base end few e =
    let low : nat_lt (2 ^ bits) end ≡ false = not_high bits end (nat_lt (2 ^ 20) (end - base)) (nat_lt (2 ^ bits) end) refl e in
    let within : end ≤ 2 ^ bits = grind (arith, nat_tests) in
    omega (arith, within, pow-le-pow_right {n = 2} (omega arith) {i = bits} {j = 64} few)

both_none : (a b : Option Refusal) → option_or a b ≡ None → (a ≡ None) × (b ≡ None)
both_none None b e = (refl, e)
both_none (Some r) b e = absurd (none_is_none (sym e))

pub stands_low : (m : Machine) (words : List (List ℕ)) (base address end : ℕ) (labels : List Label) (label : Option (List ℕ)) (c : declared.Content) → m.word_bits ≤ 64 → None ≡ content_fault m words base address end labels label c → end ≤ 2 ^ 64
stands_low m words base address end labels label c few e =
    let a = both_none (text_fault c) _ (sym e) in
    let b = both_none (told_first (taken_label words labels label)) _ a.1 in
    let d = both_none (origin_fault address c) _ b.1 in
    let f = both_none (told_first (too_large m.word_bits base end)) _ d.1 in
    end_low m.word_bits base end few f.0

-- A label that E603 lets stand isn't defined.
untaken : (labels : List Label) (name : List ℕ) (word : Bool) (r : Option ℕ) → address_of labels name ≡ r → told_first (if is_some r || word then alone 603 name ∷ [] else []) ≡ None → r ≡ None
untaken labels name word None at e = refl
untaken labels name word (Some address) at e = absurd (none_is_none (sym e))

new_by : (words : List (List ℕ)) (labels : List Label) (label : Option (List ℕ)) → told_first (taken_label words labels label) ≡ None → IsNew labels label
new_by words labels None e = tt
new_by words labels (Some name) e = untaken labels name (is_keyword words name) (address_of labels name) refl e

pub stands_new : (m : Machine) (words : List (List ℕ)) (base address end : ℕ) (labels : List Label) (label : Option (List ℕ)) (c : declared.Content) → None ≡ content_fault m words base address end labels label c → IsNew labels label
stands_new m words base address end labels label c e =
    let a = both_none (text_fault c) _ (sym e) in
    let b = both_none (told_first (taken_label words labels label)) _ a.1 in
    new_by words labels label b.0

-- A machine's word has at most 64 bits.
pub word_few : (bits : ℕ) → is_word bits ≡ true → bits ≤ 64
word_few bits h = grind arith

pub ruleset placing = (stands_new, word_few)
