-- Told by the numbers of their instructions, lines lay down the same bytes and have the same faults.
use Rattle.std.specs.Prelude.{ℕ, ◌+◌, ◌*◌, ◌-◌, ◌%◌, ◌^◌, Bool, if◌then◌else◌, List, [], ◌∷◌, ◌++◌, replicate, ℤ, Option, Some, None, slice_get}
use Rattle.std.specs.Option.{option_or, option_map}
use Rattle.std.proofs.Common.{◌≡◌, refl, sym, ap, ◌∙◌, append_assoc, arith}
use Rattle.std.proofs.lemmas.List.{append-nil}
use Rattle.cg_asm_directives.proofs.ContentLemmas.{IsProper, own_content}
use Rattle.cg_asm_directives.proofs.DataLemmas.{unfit_told, map_or}
use Rattle.cg_asm_directives.specs.Faulting.{told_first, unfit_in, unfit_refusal}
use Rattle.cg_asm_labels.specs.Joining.{undefined_part, undefined_parts, undefined_in, first_unfit_with, unfit_part, unfit_parts, unfit_order, unfit_content, data_bytes, order_bytes, part_bytes, parts_bytes, content_bytes}
use Rattle.cg_asm_directives.specs.Telling.{told_order, width_for, width_bytes, told_content, place_in}
use Rattle.cg_asm_directives.specs.declared.order.Width.{Width}
use Rattle.cg_base.specs.Bytes.{bytes_of}
use Rattle.cg_base.specs.Operations.{wrapped}
use Rattle.cg_syntax_choose.specs.Indexing.{GivesAll}
use Rattle.cg_syntax_choose.specs.Trying.{told_choice, as_choice}
use Rattle.cg_syntax_fit.specs.Misfits.{refused_for}
use Rattle.cg_model_source.specs.Bundling.{BundlePart, empty, refused, stands, instruction_bytes, with_bundle_bit}
use Rattle.cg_model_source.specs.Choosing.{Choice, Objection, objection, bytes_for}
use Rattle.cg_model_source.specs.Imaging.{item_bytes, items_bytes}
use Rattle.cg_model_source.specs.Lining.{Statement, nothing, directive, bundle}
use Rattle.cg_model.specs.Sound.{IsSound}
use Rattle.cg_model_source.specs.Sourcing.{Order, data_of, text, space, origin, align, in_set, malformed, Content, order, parts, content_of, Item, datum, data_items, order_items, part_items, parts_items, items_of, is_more, only_set, all_keywords, Label, up_to_multiple}
use Rattle.cg_model.specs.declared.machine.Machine.{Machine}
use Rattle.cg_model_source.specs.declared.written.Sum.{Sum}
use Rattle.cg_model_source.specs.E604.{undefined_terms, undefined_sums, undefined_item, undefined_items}
use Rattle.cg_model_source.specs.E605.{number_with, numbers_with, objected, unfit_item, unfit_items}
use Rattle.cg_syntax.proofs.BundleLemmas.{same_pc, same_bytes, same_objection}
use Rattle.cg_syntax.proofs.FaultLemmas.{first_of_both}
use Rattle.cg_syntax.proofs.StatingLemmas.{Stand, AllStand, parts_stand}
use Rattle.cg_syntax.specs.Laying as laying
use Rattle.cg_syntax.specs.Laying.{objection_at, bytes_at}
use Rattle.cg_syntax.specs.Telling.{told_part, told_parts}

-- Data.
data_undefined : (labels : List Label) (name : List ℕ) (width : ℕ) (ss : List Sum) → undefined_items labels (data_items name width ss) ≡ undefined_sums labels ss
data_undefined labels name width [] = refl
data_undefined labels name width (s ∷ ss) = ap (λ fs. undefined_terms labels s.terms ++ fs) (data_undefined labels name width ss)

data_unfit : (m : Machine) (labels : List Label) (name : List ℕ) (w : Width) (ss : List Sum) → told_first (unfit_items m labels (data_items name (width_bytes w) ss)) ≡ option_map (unfit_refusal 605 name) (first_unfit_with labels w ss)
data_unfit m labels name w [] = refl
data_unfit m labels name w (s ∷ ss) =
    first_of_both (unfit_item m labels (datum name (width_bytes w) s)) (unfit_items m labels (data_items name (width_bytes w) ss))
    ∙ ap (λ r. option_or r (told_first (unfit_items m labels (data_items name (width_bytes w) ss)))) (unfit_told 605 name w (number_with labels s))
    ∙ ap (option_or (option_map (unfit_refusal 605 name) (unfit_in w (number_with labels s)))) (data_unfit m labels name w ss)
    ∙ map_or 605 name (unfit_in w (number_with labels s)) (first_unfit_with labels w ss)

data_put : (m : Machine) (labels : List Label) (name : List ℕ) (w : Width) (ss : List Sum) → items_bytes m labels (data_items name (width_bytes w) ss) ≡ data_bytes m labels w ss
data_put m labels name w [] = refl
data_put m labels name w (s ∷ ss) = ap (λ t. bytes_of m.data_endian (width_bytes w) (wrapped (8 * width_bytes w) (number_with labels s)) ++ t) (data_put m labels name w ss)

-- A directive.
order_undefined : (labels : List Label) (address : ℕ) (o : Order) → IsProper o → told_first (undefined_items labels (order_items address o)) ≡ undefined_in labels (told_content (order o))
order_undefined labels address (data_of name width ss) is = ap told_first (data_undefined labels name width ss)
order_undefined labels address (text t) is = refl
order_undefined labels address (space n) is = refl
order_undefined labels address (origin n) is = refl
order_undefined labels address (align n) is = refl
order_undefined labels address (in_set m) is = absurd is
order_undefined labels address (malformed name) is = refl

order_unfit : (m : Machine) (labels : List Label) (address : ℕ) (o : Order) → IsProper o → told_first (unfit_items m labels (order_items address o)) ≡ unfit_order labels (told_order o)
order_unfit m labels address (data_of name width ss) is = ap (λ n. told_first (unfit_items m labels (data_items name n ss))) (sym is) ∙ data_unfit m labels name (width_for width) ss
order_unfit m labels address (text t) is = refl
order_unfit m labels address (space n) is = refl
order_unfit m labels address (origin n) is = refl
order_unfit m labels address (align n) is = refl
order_unfit m labels address (in_set x) is = absurd is
order_unfit m labels address (malformed name) is = refl

order_put : (m : Machine) (labels : List Label) (address : ℕ) (o : Order) → IsProper o → items_bytes m labels (order_items address o) ≡ order_bytes m labels address (told_order o)
order_put m labels address (data_of name width ss) is = ap (λ n. items_bytes m labels (data_items name n ss)) (sym is) ∙ data_put m labels name (width_for width) ss
order_put m labels address (text t) is = append-nil t
order_put m labels address (space n) is = append-nil (replicate n 0)
order_put m labels address (origin n) is = append-nil (replicate (n - address) 0)
order_put m labels address (align n) is = append-nil (replicate (up_to_multiple n address) 0)
order_put m labels address (in_set x) is = absurd is
order_put m labels address (malformed name) is = refl

-- The parts of a bundle.
undefined_before : (labels : List Label) (xs ys : List Item) → undefined_items labels (xs ++ ys) ≡ undefined_items labels xs ++ undefined_items labels ys
undefined_before labels [] ys = refl
undefined_before labels (x ∷ xs) ys = ap (λ fs. undefined_item labels x ++ fs) (undefined_before labels xs ys) ∙ sym (append_assoc (undefined_item labels x) (undefined_items labels xs) (undefined_items labels ys))

unfit_before : (m : Machine) (labels : List Label) (xs ys : List Item) → unfit_items m labels (xs ++ ys) ≡ unfit_items m labels xs ++ unfit_items m labels ys
unfit_before m labels [] ys = refl
unfit_before m labels (x ∷ xs) ys = ap (λ fs. unfit_item m labels x ++ fs) (unfit_before m labels xs ys) ∙ sym (append_assoc (unfit_item m labels x) (unfit_items m labels xs) (unfit_items m labels ys))

put_before : (m : Machine) (labels : List Label) (xs ys : List Item) → items_bytes m labels (xs ++ ys) ≡ items_bytes m labels xs ++ items_bytes m labels ys
put_before m labels [] ys = refl
put_before m labels (x ∷ xs) ys = ap (λ t. item_bytes m labels x ++ t) (put_before m labels xs ys) ∙ sym (append_assoc (item_bytes m labels x) (items_bytes m labels xs) (items_bytes m labels ys))

one_undefined : (labels : List Label) (p : BundlePart) (more : Bool) → told_first (undefined_items labels (part_items p more)) ≡ undefined_part labels (told_part p)
one_undefined labels empty more = refl
one_undefined labels (refused f) more = refl
one_undefined labels (stands address c) more = ap told_first (append-nil (undefined_sums labels c.sums))

all_undefined : (labels : List Label) (ps : List BundlePart) → told_first (undefined_items labels (parts_items ps)) ≡ undefined_parts labels (told_parts ps)
all_undefined labels [] = refl
all_undefined labels (p ∷ ps) =
    ap told_first (undefined_before labels (part_items p (is_more ps)) (parts_items ps))
    ∙ first_of_both (undefined_items labels (part_items p (is_more ps))) (undefined_items labels (parts_items ps))
    ∙ ap (λ r. option_or r (told_first (undefined_items labels (parts_items ps)))) (one_undefined labels p (is_more ps))
    ∙ ap (option_or (undefined_part labels (told_part p))) (all_undefined labels ps)

-- An address counts modulo 2 ^ 64.
cut : (address : ℕ) → address % 2 ^ 64 % 2 ^ 64 ≡ address % 2 ^ 64
cut address = omega arith

objected_told : (o : Option Objection) → told_first (objected o ++ []) ≡ option_map (refused_for 605) o
objected_told None = refl
objected_told (Some o) = refl

at_insn : (m : Machine) (c : Choice) (numbers : List (Option ℤ)) (address : ℕ) → slice_get m.insns c.number ≡ Some c.insn → objection_at m (told_choice c) numbers address ≡ objection m c.insn numbers address
at_insn m c numbers address at = ap (λ o. elim o as (λ x. Option Objection) [ None ↦ None | Some i ↦ objection m i numbers address ]) at

one_unfit : (m : Machine) (labels : List Label) (p : BundlePart) (more : Bool) → IsSound m → Stand m p → told_first (unfit_items m labels (part_items p more)) ≡ unfit_part m labels (told_part p)
one_unfit m labels empty more sound stand = refl
one_unfit m labels (refused f) more sound stand = refl
one_unfit m labels (stands address c) more sound stand =
    objected_told (objection m c.insn (numbers_with labels c.sums) address)
    ∙ ap (option_map (refused_for 605)) (same_objection m c.insn (numbers_with labels c.sums) address (address % 2 ^ 64) (same_pc m address (address % 2 ^ 64) sound (sym (cut address))))
    ∙ ap (option_map (refused_for 605)) (sym (at_insn m c (numbers_with labels c.sums) (address % 2 ^ 64) stand.at))

all_unfit : (m : Machine) (labels : List Label) (ps : List BundlePart) → IsSound m → AllStand m ps → told_first (unfit_items m labels (parts_items ps)) ≡ unfit_parts m labels (told_parts ps)
all_unfit m labels [] sound stand = refl
all_unfit m labels (p ∷ ps) sound stand =
    ap told_first (unfit_before m labels (part_items p (is_more ps)) (parts_items ps))
    ∙ first_of_both (unfit_items m labels (part_items p (is_more ps))) (unfit_items m labels (parts_items ps))
    ∙ ap (λ r. option_or r (told_first (unfit_items m labels (parts_items ps)))) (one_unfit m labels p (is_more ps) sound stand.0)
    ∙ ap (option_or (unfit_part m labels (told_part p))) (all_unfit m labels ps sound stand.1)

bytes_at_insn : (m : Machine) (c : Choice) (numbers : List (Option ℤ)) (address : ℕ) (more : Bool) → slice_get m.insns c.number ≡ Some c.insn → bytes_at m (told_choice c) numbers address more ≡ instruction_bytes m more address c numbers
bytes_at_insn m c numbers address more at = ap (λ o. elim o as (λ x. List ℕ) [ None ↦ [] | Some i ↦ instruction_bytes m more address (as_choice (told_choice c) i) numbers ]) at

same_instruction : (m : Machine) (more : Bool) (c : Choice) (numbers : List (Option ℤ)) (a b : ℕ) → bytes_for m c.insn numbers a ≡ bytes_for m c.insn numbers b → instruction_bytes m more a c numbers ≡ instruction_bytes m more b c numbers
same_instruction m more c numbers a b e = ap (λ t. if more then with_bundle_bit m m.bundle t else t) e

one_put : (m : Machine) (labels : List Label) (p : BundlePart) (more : Bool) → IsSound m → Stand m p → items_bytes m labels (part_items p more) ≡ part_bytes m labels (told_part p) more
one_put m labels empty more sound stand = refl
one_put m labels (refused f) more sound stand = refl
one_put m labels (stands address c) more sound stand =
    append-nil (instruction_bytes m more address c (numbers_with labels c.sums))
    ∙ same_instruction m more c (numbers_with labels c.sums) address (address % 2 ^ 64) (same_bytes m c.insn (numbers_with labels c.sums) address (address % 2 ^ 64) (same_pc m address (address % 2 ^ 64) sound (sym (cut address))))
    ∙ sym (bytes_at_insn m c (numbers_with labels c.sums) (address % 2 ^ 64) more stand.at)

more_told : (ps : List BundlePart) → laying.is_more (told_parts ps) ≡ is_more ps
more_told [] = refl
more_told (p ∷ ps) = refl

all_put : (m : Machine) (labels : List Label) (ps : List BundlePart) → IsSound m → AllStand m ps → items_bytes m labels (parts_items ps) ≡ parts_bytes m labels (told_parts ps)
all_put m labels [] sound stand = refl
all_put m labels (p ∷ ps) sound stand =
    put_before m labels (part_items p (is_more ps)) (parts_items ps)
    ∙ ap (λ t. t ++ items_bytes m labels (parts_items ps)) (one_put m labels p (is_more ps) sound stand.0)
    ∙ ap (λ b. part_bytes m labels (told_part p) b ++ items_bytes m labels (parts_items ps)) (sym (more_told ps))
    ∙ ap (λ t. part_bytes m labels (told_part p) (laying.is_more (told_parts ps)) ++ t) (all_put m labels ps sound stand.1)

-- What a line lays down.
abbrev pub Stands : Machine → Content → Type 0
Stands m (order o) = IsProper o
Stands m (parts ps) = AllStand m ps

pub stands_at : (m : Machine) (address : ℕ) (labels : List Label) (s : Statement) → GivesAll m → Stands m (content_of (only_set m) (place_in m address labels) s)
stands_at m address labels nothing gives = tt
stands_at m address labels (directive name rest) gives = own_content m address labels (directive name rest)
stands_at m address labels (bundle texts) gives = parts_stand m (all_keywords (only_set m)) address texts gives

pub content_undefined : (m : Machine) (labels : List Label) (address : ℕ) (c : Content) → Stands m c → told_first (undefined_items labels (items_of address c)) ≡ undefined_in labels (told_content c)
content_undefined m labels address (order o) stand = order_undefined labels address o stand
content_undefined m labels address (parts ps) stand = all_undefined labels ps

pub content_unfit : (m : Machine) (labels : List Label) (address : ℕ) (c : Content) → IsSound m → Stands m c → told_first (unfit_items m labels (items_of address c)) ≡ unfit_content m labels (told_content c)
content_unfit m labels address (order o) sound stand = order_unfit m labels address o stand
content_unfit m labels address (parts ps) sound stand = all_unfit m labels ps sound stand

pub content_put : (m : Machine) (labels : List Label) (address : ℕ) (c : Content) → IsSound m → Stands m c → items_bytes m labels (items_of address c) ≡ content_bytes m labels address (told_content c)
content_put m labels address (order o) sound stand = order_put m labels address o stand
content_put m labels address (parts ps) sound stand = all_put m labels ps sound stand
