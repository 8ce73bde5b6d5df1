-- Labels and their addresses.
use Rattle.std.specs.Prelude.{ℕ, suc, ◌+◌, ◌<◌, Bool, true, false, cond, if◌then◌else◌, List, [], ◌∷◌, ◌++◌, length, drop, ℤ, pos, ◌+ℤ◌, ◌-ℤ◌, Option, Some, None, unwrap_or, slice_get}
use Rattle.std.specs.Map.{lookup}
use Rattle.std.specs.Option.{option_or}
use Rattle.std.proofs.Common.{◌≡◌, refl, sym, ap, ◌∙◌, subst, get_or, append_assoc, arith}
use Rattle.std.proofs.lemmas.Int.{ints}
use Rattle.std.proofs.lemmas.Option.{slice_get-get_or}
use Rattle.cg_syntax_fit.proofs.Values.{drop_next}
use Rattle.cg_asm_directives.specs.Faulting.{told_first}
use Rattle.cg_asm_labels.specs.Labelling.{labels_onto, labels_in, KnowsAll, IsNew}
use Rattle.cg_base.specs.Texts.{same_text}
use Rattle.cg_base.specs.declared.refusal.Refusal.{Refusal}
use Rattle.cg_syntax_choose.proofs.FrontLemmas.{same_some}
use Rattle.cg_model_source.specs.Sourcing.{Label, address_of, labels_with}
use Rattle.cg_model_source.specs.Spelling.{plus_address, with_addresses}
use Rattle.cg_model_source.specs.declared.written.Sum.{Sum}
use Rattle.cg_model_source.specs.declared.written.Term.{Term}
use Rattle.cg_model_source.specs.E604.{undefined, undefined_terms, undefined_sums}
use Rattle.cg_model_source.specs.E605.{number_with, numbers_with}
use Rattle.cg_syntax.proofs.FaultLemmas.{first_of_both}
use Rattle.cg_syntax.specs.Faulting.{said_alone}
use Rattle.indexmap.proofs.CallerLemmas.{insert_entry-new}
use Rattle.indexmap.specs.IndexMap.{IndexMap, insert_entry, Updates}

-- No labels.
pub none_known : {S : Type 0} (m : IndexMap (List ℕ) ℕ S) → m.entries ≡ [] → KnowsAll m
none_known m e name = ap (lookup (same_text name)) e ∙ sym (ap (λ es. address_of (labels_onto [] es) name) e)

-- A label more.
listed_behind : (labels : List Label) (es : List (List ℕ × ℕ)) (e : List ℕ × ℕ) → labels_onto labels (es ++ e ∷ []) ≡ record { name = e.0; address = e.1 } ∷ labels_onto labels es
listed_behind labels [] e = refl
listed_behind labels (x ∷ es) e = listed_behind (record { name = x.0; address = x.1 } ∷ labels) es e

new_listed : {S T : Type 0} (m : IndexMap (List ℕ) ℕ S) (n : IndexMap (List ℕ) ℕ T) (name : List ℕ) (address : ℕ) → KnowsAll m → address_of (labels_in m) name ≡ None → n.entries ≡ insert_entry same_text m.entries name address →
    labels_in n ≡ record { name = name; address = address } ∷ labels_in m
new_listed m n name address knows new e =
    ap (labels_onto []) (e ∙ insert_entry-new same_text m name address (knows name ∙ new)) ∙ listed_behind [] m.entries (name, address)

new_known : {S : Type 0} (m n : IndexMap (List ℕ) ℕ S) (name : List ℕ) (address : ℕ) → KnowsAll m → address_of (labels_in m) name ≡ None → n.entries ≡ insert_entry same_text m.entries name address → Updates same_text m n name (Some address) → KnowsAll n
new_known m n name address knows new e updates other =
    updates.0 other ∙ ap (λ r. cond (same_text name other) (Some address) r) (knows other)
    ∙ sym (ap (λ ls. address_of ls other) (new_listed m n name address knows new e))

pub unchanged_known : {S : Type 0} (m n : IndexMap (List ℕ) ℕ S) → KnowsAll m → n.entries ≡ m.entries → KnowsAll n
unchanged_known m n knows e other = ap (lookup (same_text other)) e ∙ knows other ∙ sym (ap (λ es. address_of (labels_onto [] es) other) e)

-- A label that is given and isn't defined yet.
not_known : {S : Type 0} (m : IndexMap (List ℕ) ℕ S) (labels : List Label) (label : Option (List ℕ)) (text key : List ℕ) → labels_in m ≡ labels → IsNew labels label → label ≡ Some text → key ≡ text → address_of (labels_in m) key ≡ None
not_known m labels label text key view new is same = ap (λ ls. address_of ls key) view ∙ ap (address_of labels) same ∙ subst (IsNew labels) is new

abbrev labelled : List ℕ → ℕ → Label
labelled name address = record { name = name; address = address }

pub label_listed : {S T : Type 0} (m : IndexMap (List ℕ) ℕ S) (n : IndexMap (List ℕ) ℕ T) (labels : List Label) (label : Option (List ℕ)) (text key : List ℕ) (address : ℕ) → KnowsAll m → labels_in m ≡ labels → IsNew labels label → label ≡ Some text → key ≡ text →
    n.entries ≡ insert_entry same_text m.entries key address → labels_in n ≡ labels_with label address labels
label_listed m n labels label text key address knows view new is same e =
    new_listed m n key address knows (not_known m labels label text key view new is same) e
    ∙ ap (λ k. labelled k address ∷ labels_in m) same ∙ ap (λ ls. labelled text address ∷ ls) view ∙ sym (ap (λ l. labels_with l address labels) is)

pub label_known : {S : Type 0} (m n : IndexMap (List ℕ) ℕ S) (labels : List Label) (label : Option (List ℕ)) (text key : List ℕ) (address : ℕ) → KnowsAll m → labels_in m ≡ labels → IsNew labels label → label ≡ Some text → key ≡ text →
    n.entries ≡ insert_entry same_text m.entries key address → Updates same_text m n key (Some address) → KnowsAll n
label_known m n labels label text key address knows view new is same e updates = new_known m n key address knows (not_known m labels label text key view new is same) e updates

pub ruleset defining = (unchanged_known)

-- Labels that aren't defined.
pub term_undefined : (labels : List Label) (t : Term) (ts : List Term) → address_of labels t.label ≡ None → told_first (undefined_terms labels (t ∷ ts)) ≡ Some (said_alone 604 t.label)
term_undefined labels t ts e = ap (λ o. told_first (undefined t.label o ++ undefined_terms labels ts)) e

pub term_defined : (labels : List Label) (t : Term) (ts : List Term) (address : ℕ) → address_of labels t.label ≡ Some address → told_first (undefined_terms labels (t ∷ ts)) ≡ told_first (undefined_terms labels ts)
term_defined labels t ts address e = ap (λ o. told_first (undefined t.label o ++ undefined_terms labels ts)) e

pub ruleset next_term = (term_undefined, term_defined)

drop_at : {A : Type 0} (xs : List A) (k : ℕ) (x : A) → k < length xs → slice_get xs k ≡ Some x → drop k xs ≡ x ∷ drop (k + 1) xs
drop_at xs k x within at =
    let here : get_or xs k x ≡ x = same_some (sym (slice_get-get_or xs k x within) ∙ at) in
    drop_next xs k x within ∙ ap (λ y. y ∷ drop (k + 1) xs) here

next_undefined : (labels : List Label) (ss : List Sum) (k : ℕ) (s : Sum) → k < length ss → slice_get ss k ≡ Some s →
    told_first (undefined_sums labels (drop k ss)) ≡ option_or (told_first (undefined_terms labels s.terms)) (told_first (undefined_sums labels (drop (k + 1) ss)))
next_undefined labels ss k s within at =
    ap (λ xs. told_first (undefined_sums labels xs)) (drop_at ss k s within at) ∙ first_of_both (undefined_terms labels s.terms) (undefined_sums labels (drop (k + 1) ss))

pub sum_undefined : (labels : List Label) (ss : List Sum) (k : ℕ) (s : Sum) (refusal : Refusal) (whole : Option Refusal) → k < length ss → slice_get ss k ≡ Some s → Some refusal ≡ told_first (undefined_terms labels s.terms) →
    told_first (undefined_sums labels (drop k ss)) ≡ whole → Some refusal ≡ whole
sum_undefined labels ss k s refusal whole within at e so = ap (λ o. option_or o (told_first (undefined_sums labels (drop (k + 1) ss)))) e ∙ sym (next_undefined labels ss k s within at) ∙ so

pub sum_defined : (labels : List Label) (ss : List Sum) (k : ℕ) (s : Sum) (whole : Option Refusal) → k < length ss → slice_get ss k ≡ Some s → None ≡ told_first (undefined_terms labels s.terms) →
    told_first (undefined_sums labels (drop k ss)) ≡ whole → told_first (undefined_sums labels (drop (k + 1) ss)) ≡ whole
sum_defined labels ss k s whole within at e so = ap (λ o. option_or o (told_first (undefined_sums labels (drop (k + 1) ss)))) e ∙ sym (next_undefined labels ss k s within at) ∙ so

-- The number of a sum may be added up from the front.
swapped : (a b : Bool) (m n : ℕ) (z : ℤ) → (if a then (if b then z -ℤ pos n else z +ℤ pos n) -ℤ pos m else (if b then z -ℤ pos n else z +ℤ pos n) +ℤ pos m) ≡ (if b then (if a then z -ℤ pos m else z +ℤ pos m) -ℤ pos n else (if a then z -ℤ pos m else z +ℤ pos m) +ℤ pos n)
swapped true true m n z = omega (arith, ints)
swapped true false m n z = omega (arith, ints)
swapped false true m n z = omega (arith, ints)
swapped false false m n z = omega (arith, ints)

added_inside : (at : List ℕ → ℕ) (t : Term) (z : ℤ) (ts : List Term) → with_addresses at (plus_address at t z) ts ≡ plus_address at t (with_addresses at z ts)
added_inside at t z [] = refl
added_inside at t z (u ∷ ts) = ap (plus_address at u) (added_inside at t z ts) ∙ swapped u.minus t.minus (at u.label) (at t.label) (with_addresses at z ts)

abbrev pub known_address : List Label → List ℕ → ℕ
known_address labels name = unwrap_or (address_of labels name) 0

next_added : (labels : List Label) (z next : ℤ) (t : Term) (ts : List Term) (whole : ℤ) → next ≡ (if t.minus then z -ℤ pos (known_address labels t.label) else z +ℤ pos (known_address labels t.label)) →
    with_addresses (known_address labels) z (t ∷ ts) ≡ whole → with_addresses (known_address labels) next ts ≡ whole
next_added labels z next t ts whole n so = ap (λ x. with_addresses (known_address labels) x ts) n ∙ added_inside (known_address labels) t z ts ∙ so

pub term_added : (labels : List Label) (z next : ℤ) (t : Term) (ts items : List Term) (k a : ℕ) (whole : ℤ) → items ≡ ts → k < length items → t ≡ get_or items k t → a ≡ known_address labels t.label →
    next ≡ (if t.minus then z -ℤ pos a else z +ℤ pos a) → with_addresses (known_address labels) z (drop k ts) ≡ whole → with_addresses (known_address labels) next (drop (k + 1) ts) ≡ whole
term_added labels z next t ts items k a whole same within here at n so =
    let first : drop k ts ≡ t ∷ drop (k + 1) ts = drop_next ts k t (subst (λ xs. k < length xs) same within) ∙ ap (λ x. x ∷ drop (k + 1) ts) (sym (here ∙ ap (λ xs. get_or xs k t) same)) in
    next_added labels z next t (drop (k + 1) ts) whole (n ∙ ap (λ b. if t.minus then z -ℤ pos b else z +ℤ pos b) at) (ap (with_addresses (known_address labels) z) (sym first) ∙ so)

one_number : (labels : List Label) (ss : List Sum) (k : ℕ) (s : Sum) → k < length ss → slice_get ss k ≡ Some s → numbers_with labels (drop k ss) ≡ Some (number_with labels s) ∷ numbers_with labels (drop (k + 1) ss)
one_number labels ss k s within at = ap (numbers_with labels) (drop_at ss k s within at)

pub number_more : (labels : List Label) (ss : List Sum) (k : ℕ) (s : Sum) (n : ℤ) (old new whole : List (Option ℤ)) → k < length ss → slice_get ss k ≡ Some s → n ≡ number_with labels s → new ≡ old ++ Some n ∷ [] →
    old ++ numbers_with labels (drop k ss) ≡ whole → new ++ numbers_with labels (drop (k + 1) ss) ≡ whole
number_more labels ss k s n old new whole within at e more so =
    ap (λ xs. xs ++ numbers_with labels (drop (k + 1) ss)) more
    ∙ append_assoc old (Some n ∷ []) (numbers_with labels (drop (k + 1) ss))
    ∙ ap (λ x. old ++ Some x ∷ numbers_with labels (drop (k + 1) ss)) e
    ∙ ap (λ xs. old ++ xs) (sym (one_number labels ss k s within at)) ∙ so

-- As many numbers as sums.
pub as_many_numbers : (labels : List Label) (ss : List Sum) → length (numbers_with labels ss) ≡ length ss
as_many_numbers labels [] = refl
as_many_numbers labels (s ∷ ss) = ap suc (as_many_numbers labels ss)
