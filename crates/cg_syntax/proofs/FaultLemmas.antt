-- What is wrong with a statement, by the least number.
use Rattle.std.specs.Prelude.{ℕ, suc, Bool, true, false, ◌==◌, nat_lt, if◌then◌else◌, List, [], ◌∷◌, ◌++◌, length, pos, Option, Some, None}
use Rattle.std.specs.Fmt.{signed_decimal}
use Rattle.std.specs.Option.{option_or, option_map}
use Rattle.std.proofs.Common.{◌≡◌, refl, ap, ◌∙◌}
use Rattle.cg_base.specs.Refusing.{first}
use Rattle.cg_base.specs.declared.refusal.Refusal.{Refusal}
use Rattle.cg_syntax_choose.specs.Trying.{fault_refusal}
use Rattle.cg_model_source.specs.Bundling.{BundlePart, empty, refused, stands, all_refused_as}
use Rattle.cg_model_source.specs.Choosing.{SourceFault, alone}
use Rattle.cg_model_source.specs.Stating.{defined_label, named_labels, all_named_labels, statement_faults}
use Rattle.cg_model.specs.declared.machine.Machine.{Machine}
use Rattle.cg_model_source.specs.declared.written.Sum.{Sum}
use Rattle.cg_model_source.specs.declared.written.Term.{Term}
use Rattle.cg_model_source.specs.E601.{unknown_parts}
use Rattle.cg_model_source.specs.E602.{unfit_parts}
use Rattle.cg_model_source.specs.E604.{undefined_terms, undefined_sums}
use Rattle.cg_model_source.specs.E608.{empty_parts}
use Rattle.cg_model_source.specs.E609.{too_wide}
use Rattle.cg_syntax.specs.Faulting.{said_alone, where_empty, where_wide, statement_fault}
use Rattle.cg_syntax.specs.Telling.{told_part, told_parts, first_refused, label_of, first_term, part_label, first_label}

-- The first fault of two lists, told as a refusal.
abbrev pub first_told : List SourceFault → Option Refusal
first_told fs = option_map fault_refusal (first fs)

pub first_of_both : (fs gs : List SourceFault) → first_told (fs ++ gs) ≡ option_or (first_told fs) (first_told gs)
first_of_both [] gs = refl
first_of_both (f ∷ fs) gs = refl

-- Parts that are refused under a number.
refused_one : (number : ℕ) (f : SourceFault) (same : Bool) → first_told (if same then f ∷ [] else []) ≡ (if same then Some (fault_refusal f) else None)
refused_one number f true = refl
refused_one number f false = refl

refused_part : (number : ℕ) (p : BundlePart) (ps : List BundlePart) → first_told (all_refused_as number ps) ≡ first_refused number (told_parts ps) → first_told (all_refused_as number (p ∷ ps)) ≡ first_refused number (told_parts (p ∷ ps))
refused_part number empty ps later = later
refused_part number (stands address c) ps later = later
refused_part number (refused f) ps later =
    first_of_both (if f.number == number then f ∷ [] else []) (all_refused_as number ps)
    ∙ ap (λ x. option_or x (first_told (all_refused_as number ps))) (refused_one number f (f.number == number))
    ∙ ap (option_or (if f.number == number then Some (fault_refusal f) else None)) later

pub refused_told : (number : ℕ) (ps : List BundlePart) → first_told (all_refused_as number ps) ≡ first_refused number (told_parts ps)
refused_told number [] = refl
refused_told number (p ∷ ps) = refused_part number p ps (refused_told number ps)

-- A label that is defined.
defined_told : (label : Option (List ℕ)) → first_told (defined_label label) ≡ option_map (said_alone 604) label
defined_told None = refl
defined_told (Some name) = refl

-- Labels that are named.
terms_told : (ts : List Term) → first_told (undefined_terms [] ts) ≡ option_map (said_alone 604) (label_of ts)
terms_told [] = refl
terms_told (t ∷ ts) = refl

map_or : (a b : Option (List ℕ)) → option_or (option_map (said_alone 604) a) (option_map (said_alone 604) b) ≡ option_map (said_alone 604) (option_or a b)
map_or None b = refl
map_or (Some x) b = refl

sums_told : (ss : List Sum) → first_told (undefined_sums [] ss) ≡ option_map (said_alone 604) (first_term ss)
sums_told [] = refl
sums_told (s ∷ ss) =
    first_of_both (undefined_terms [] s.terms) (undefined_sums [] ss)
    ∙ ap (λ x. option_or x (first_told (undefined_sums [] ss))) (terms_told s.terms)
    ∙ ap (option_or (option_map (said_alone 604) (label_of s.terms))) (sums_told ss)
    ∙ map_or (label_of s.terms) (first_term ss)

named_part : (p : BundlePart) → first_told (named_labels p) ≡ option_map (said_alone 604) (part_label (told_part p))
named_part empty = refl
named_part (refused f) = refl
named_part (stands address c) = sums_told c.sums

named_told : (ps : List BundlePart) → first_told (all_named_labels ps) ≡ option_map (said_alone 604) (first_label (told_parts ps))
named_told [] = refl
named_told (p ∷ ps) =
    first_of_both (named_labels p) (all_named_labels ps)
    ∙ ap (λ x. option_or x (first_told (all_named_labels ps))) (named_part p)
    ∙ ap (option_or (option_map (said_alone 604) (part_label (told_part p)))) (named_told ps)
    ∙ map_or (part_label (told_part p)) (first_label (told_parts ps))

-- Nothing beside a `||`.
pub empty_told : (ps : List BundlePart) → first_told (empty_parts ps) ≡ where_empty (told_parts ps)
empty_told [] = refl
empty_told (empty ∷ ps) = refl
empty_told (refused f ∷ ps) = empty_told ps
empty_told (stands address c ∷ ps) = empty_told ps

told_length : (ps : List BundlePart) → length ps ≡ length (told_parts ps)
told_length [] = refl
told_length (p ∷ ps) = ap suc (told_length ps)

wide_by : (width : ℕ) (wide : Bool) → first_told (if wide then alone 609 (signed_decimal (pos width)) ∷ [] else []) ≡ (if wide then Some (said_alone 609 (signed_decimal (pos width))) else None)
wide_by width true = refl
wide_by width false = refl

pub wide_told : (width : ℕ) (ps : List BundlePart) → first_told (too_wide width ps) ≡ where_wide width (told_parts ps)
wide_told width ps = wide_by width (nat_lt width (length ps)) ∙ ap (λ n. if nat_lt width n then Some (said_alone 609 (signed_decimal (pos width))) else None) (told_length ps)

-- All of them, by number.
pub or_again : (x y z : Option Refusal) → option_or (option_or x y) z ≡ option_or x (option_or y z)
or_again None y z = refl
or_again (Some x) y z = refl

turned : (a b c d e f : Option Refusal) → option_or (option_or (option_or (option_or (option_or a b) c) d) e) f ≡ option_or a (option_or b (option_or c (option_or d (option_or e f))))
turned None b c d e f =
    ap (λ x. option_or (option_or x e) f) (or_again b c d) ∙ ap (λ x. option_or x f) (or_again b (option_or c d) e) ∙ or_again b (option_or (option_or c d) e) f
    ∙ ap (option_or b) (ap (λ x. option_or x f) (or_again c d e) ∙ or_again c (option_or d e) f ∙ ap (option_or c) (or_again d e f))
turned (Some x) b c d e f = refl

six : (a b c d e f : List SourceFault) → first_told (a ++ b ++ c ++ d ++ e ++ f) ≡ option_or (first_told a) (option_or (first_told b) (option_or (first_told c) (option_or (first_told d) (option_or (first_told e) (first_told f)))))
six a b c d e f =
    first_of_both (a ++ b ++ c ++ d ++ e) f ∙ ap (λ x. option_or x (first_told f)) (first_of_both (a ++ b ++ c ++ d) e ∙ ap (λ x. option_or x (first_told e)) (first_of_both (a ++ b ++ c) d ∙ ap (λ x. option_or x (first_told d)) (first_of_both (a ++ b) c ∙ ap (λ x. option_or x (first_told c)) (first_of_both a b))))
    ∙ turned (first_told a) (first_told b) (first_told c) (first_told d) (first_told e) (first_told f)

pub statement_told : (m : Machine) (label : Option (List ℕ)) (ps : List BundlePart) → first_told (statement_faults m label ps) ≡ statement_fault m label (told_parts ps)
statement_told m label ps =
    six (unknown_parts ps) (unfit_parts ps) (defined_label label) (all_named_labels ps) (empty_parts ps) (too_wide m.width ps)
    ∙ ap (λ x. option_or x (option_or (first_told (unfit_parts ps)) (option_or (first_told (defined_label label)) (option_or (first_told (all_named_labels ps)) (option_or (first_told (empty_parts ps)) (first_told (too_wide m.width ps))))))) (refused_told 601 ps)
    ∙ ap (λ x. option_or (first_refused 601 (told_parts ps)) (option_or x (option_or (first_told (defined_label label)) (option_or (first_told (all_named_labels ps)) (option_or (first_told (empty_parts ps)) (first_told (too_wide m.width ps))))))) (refused_told 602 ps)
    ∙ ap (λ x. option_or (first_refused 601 (told_parts ps)) (option_or (first_refused 602 (told_parts ps)) (option_or x (option_or (first_told (all_named_labels ps)) (option_or (first_told (empty_parts ps)) (first_told (too_wide m.width ps))))))) (defined_told label)
    ∙ ap (λ x. option_or (first_refused 601 (told_parts ps)) (option_or (first_refused 602 (told_parts ps)) (option_or (option_map (said_alone 604) label) (option_or x (option_or (first_told (empty_parts ps)) (first_told (too_wide m.width ps))))))) (named_told ps)
    ∙ ap (λ x. option_or (first_refused 601 (told_parts ps)) (option_or (first_refused 602 (told_parts ps)) (option_or (option_map (said_alone 604) label) (option_or (option_map (said_alone 604) (first_label (told_parts ps))) (option_or x (first_told (too_wide m.width ps))))))) (empty_told ps)
    ∙ ap (λ x. option_or (first_refused 601 (told_parts ps)) (option_or (first_refused 602 (told_parts ps)) (option_or (option_map (said_alone 604) label) (option_or (option_map (said_alone 604) (first_label (told_parts ps))) (option_or (where_empty (told_parts ps)) x))))) (wide_told m.width ps)

pub ruleset faulting = (or_again)
