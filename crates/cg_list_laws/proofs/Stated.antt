-- What a line lays down whose text is a statement that gives some bytes.
use Rattle.std.proofs.Common.{◌≡◌, ℕ, suc, ◌+◌, ◌*◌, ◌/◌, ◌≤◌, Bool, true, false, not, cond, if◌then◌else◌, List, [], ◌∷◌, ◌++◌, length, ℤ, Option, Some, None, slice_get, Err, is_some, append-nil, ap, ◌∙◌, refl, subst, arith}
use Rattle.std.specs.List.{find}
use Rattle.std.specs.Cmp.Lexicographic.{bytes_decides}
use Rattle.std.specs.Option.{unwrap_or}
use Rattle.std.proofs.lemmas.Bool.{false≢true}
use Rattle.std.proofs.lemmas.List.{length-append}
use Rattle.cg_base.specs.Refusing.{first}
use Rattle.cg_model_source.specs.Bundling.{BundlePart, empty, refused, stands, chosen_part, part_of, parts_at, part_size, instruction_bytes}
use Rattle.cg_model_source.specs.Choosing.{Choice, SourceFault, Objection, as_written, split_by_insn, insns_splitting, as_emitted, split_by_macro, macros_splitting, splitting, known_number, known, known_all, objection, choice_objection, fits, unchosen, chosen_of, chosen}
use Rattle.cg_model_source.specs.Lining.{Statement, nothing, directive, bundle, is_readable, read_line}
use Rattle.cg_model_source.specs.Listing.{gives}
use Rattle.cg_model.specs.Matching.{length_of}
use Rattle.cg_model_source.specs.Sourcing.{only_set, all_keywords, Place, parts, content_of, is_more, parts_items, items_size, address_of}
use Rattle.cg_model_source.specs.Imaging.{items_bytes}
use Rattle.cg_model.specs.Sound.{IsSound}
use Rattle.cg_model_source.specs.Spelling.{keywords, with_addresses}
use Rattle.cg_model_source.specs.Splitting.{Spelling}
use Rattle.cg_model_source.specs.Squeezing.{squeezed}
use Rattle.cg_model_source.specs.Stating.{defined_label, all_named_labels, statement_faults, parts_bytes, unless_at_fault, stated_parts, stated_line, stated}
use Rattle.cg_model_source.specs.E601.{unknown_parts}
use Rattle.cg_model_source.specs.E602.{unfit_parts}
use Rattle.cg_model_source.specs.E604.{undefined_terms, undefined_sums, undefined_items}
use Rattle.cg_model_source.specs.E605.{numbers_with, objected, unfit_items}
use Rattle.cg_model_source.specs.E608.{malformed_line, empty_parts}
use Rattle.cg_model_source.specs.E609.{too_wide}
use Rattle.cg_model.specs.declared.insn.Insn.{Insn}
use Rattle.cg_model.specs.declared.insn.MacroInsn.{MacroInsn}
use Rattle.cg_model.specs.declared.machine.Machine.{Machine}
use Rattle.cg_model_source.specs.declared.written.Sum.{Sum}
use Rattle.cg_model_source.specs.declared.written.Term.{Term}
use Rattle.cg_list_laws.proofs.Sizes.{HasNearBit, instruction_long}

-- ---- what is chosen fits, and has 16 bytes at most

abbrev AreShort : Machine → List Choice → Type 0
AreShort m [] = Unit {0}
AreShort m (c ∷ cs) = (length_of m c.insn ≤ 16) × AreShort m cs

both_short : (m : Machine) (cs ds : List Choice) → AreShort m cs → AreShort m ds → AreShort m (cs ++ ds)
both_short m [] ds p q = q
both_short m (c ∷ cs) ds p q = (p.0, both_short m cs ds p.1 q)

written_short : (m : Machine) (k : ℕ) (i : Insn) (o : Option (List Spelling)) → length_of m i ≤ 16 → AreShort m (as_written k i o)
written_short m k i None short = tt
written_short m k i (Some found) short = (short, tt)

insns_short : (m : Machine) (words : List (List ℕ)) (text : List ℕ) (k : ℕ) (is : List Insn) → ((j : ℕ) (i : Insn) → slice_get is j ≡ Some i → length_of m i ≤ 16) → AreShort m (insns_splitting m words text k is)
insns_short m words text k [] each = tt
insns_short m words text k (i ∷ is) each =
    both_short m (as_written k i (split_by_insn m words text i)) (insns_splitting m words text (suc k) is) (written_short m k i (split_by_insn m words text i) (each 0 i refl)) (insns_short m words text (suc k) is (λ j x at. each (suc j) x at))

emitted_short : (m : Machine) (x : MacroInsn) (q : Option Insn) (o : Option (List Spelling)) → ((i : Insn) → q ≡ Some i → length_of m i ≤ 16) → AreShort m (as_emitted x q o)
emitted_short m x None None each = tt
emitted_short m x None (Some found) each = tt
emitted_short m x (Some i) None each = tt
emitted_short m x (Some i) (Some found) each = (each i refl, tt)

macros_short : (m : Machine) (words : List (List ℕ)) (text : List ℕ) (xs : List MacroInsn) → IsSound m → AreShort m (macros_splitting m words text xs)
macros_short m words text [] sound = tt
macros_short m words text (x ∷ xs) sound =
    both_short m (as_emitted x (slice_get m.insns x.target) (split_by_macro m words text x)) (macros_splitting m words text xs) (emitted_short m x (slice_get m.insns x.target) (split_by_macro m words text x) (λ i at. (sound.insns x.target i at).short)) (macros_short m words text xs sound)

splitting_short : (m : Machine) (words : List (List ℕ)) (text : List ℕ) → IsSound m → AreShort m (splitting m words text)
splitting_short m words text sound =
    both_short m (insns_splitting m words (squeezed text) 0 m.insns) (macros_splitting m words (squeezed text) m.macros) (insns_short m words (squeezed text) 0 m.insns (λ j i at. (sound.insns j i at).short)) (macros_short m words (squeezed text) m.macros sound)

-- an instruction that nothing is against, of 16 bytes at most
pub record Fitting (m : Machine) (a : ℕ) (c : Choice) : Type 0 where
  pub short : length_of m c.insn ≤ 16
  pub clear : choice_objection m a c ≡ None

none_against : (o : Option Objection) → not (is_some o) ≡ true → o ≡ None
none_against None e = refl
none_against (Some x) e = absurd (false≢true e)

found_here : (m : Machine) (a : ℕ) (c d : Choice) (rest : Option Choice) (b : Bool) → fits m a c ≡ b → length_of m c.insn ≤ 16 → cond b (Some c) rest ≡ Some d → (rest ≡ Some d → Fitting m a d) → Fitting m a d
found_here m a c d rest true fit short e others = let same : c ≡ d = cc in subst (Fitting m a) same (record { short = short; clear = none_against (choice_objection m a c) fit })
found_here m a c d rest false fit short e others = others e

found_fits : (m : Machine) (a : ℕ) (cs : List Choice) (d : Choice) → AreShort m cs → find (fits m a) cs ≡ Some d → Fitting m a d
found_fits m a [] d short e = absurd (cc)
found_fits m a (c ∷ cs) d short e = found_here m a c d (find (fits m a) cs) (fits m a c) refl short.0 e (found_fits m a cs d short.1)

abbrev PartFits : Machine → BundlePart → Type 0
PartFits m empty = Unit {0}
PartFits m (refused fault) = Unit {0}
PartFits m (stands a c) = Fitting m a c

abbrev pub AllFit : Machine → List BundlePart → Type 0
AllFit m [] = Unit {0}
AllFit m (p ∷ ps) = PartFits m p × AllFit m ps

chosen_fits : (m : Machine) (a : ℕ) (fault : SourceFault) (o : Option Choice) → ((c : Choice) → o ≡ Some c → Fitting m a c) → PartFits m (chosen_part a (chosen_of fault o))
chosen_fits m a fault None each = tt
chosen_fits m a fault (Some c) each = each c refl

part_fits : (m : Machine) (words : List (List ℕ)) (a : ℕ) (text : List ℕ) → IsSound m → PartFits m (part_of m words a text)
unfolding chosen
part_fits m words a [] sound = tt
part_fits m words a (b ∷ bs) sound =
    let cs : List Choice = splitting m words (b ∷ bs) in
    chosen_fits m a (unchosen m a (b ∷ bs) cs) (find (fits m a) cs) (λ c is. found_fits m a cs c (splitting_short m words (b ∷ bs) sound) is)

pub parts_fit : (m : Machine) (words : List (List ℕ)) (a : ℕ) (texts : List (List ℕ)) → IsSound m → AllFit m (parts_at m words a texts)
parts_fit m words a [] sound = tt
parts_fit m words a (t ∷ ts) sound = (part_fits m words a t sound, parts_fit m words (a + part_size m (part_of m words a t)) ts sound)

-- ---- without labels all numbers are known

pub nothing_in : {A : Type 0} (xs ys : List A) → xs ++ ys ≡ [] → (xs ≡ []) × (ys ≡ [])
nothing_in [] ys e = (refl, e)
nothing_in (x ∷ xs) ys e = absurd (cc)

no_terms : (ts : List Term) → undefined_terms [] ts ≡ [] → ts ≡ []
no_terms [] e = refl
no_terms (t ∷ ts) e = absurd (cc)

number_known : (address : List ℕ → ℕ) (z : ℤ) (ts : List Term) → ts ≡ [] → Some (with_addresses address z ts) ≡ known_number z ts
number_known address z [] e = refl
number_known address z (t ∷ ts) e = absurd (cc)

pub numbers_known : (ss : List Sum) → undefined_sums [] ss ≡ [] → numbers_with [] ss ≡ known_all ss
numbers_known [] e = refl
numbers_known (s ∷ ss) e =
    let none = nothing_in (undefined_terms [] s.terms) (undefined_sums [] ss) e in
    ap (λ n. n ∷ numbers_with [] ss) (number_known (λ name. unwrap_or (address_of [] name) 0) s.number s.terms (no_terms s.terms none.0)) ∙ ap (λ ns. known s ∷ ns) (numbers_known ss none.1)

-- ---- the items of parts

pub parts_defined : (ps : List BundlePart) → undefined_items [] (parts_items ps) ≡ all_named_labels ps
parts_defined [] = refl
parts_defined (empty ∷ ps) = parts_defined ps
parts_defined (refused fault ∷ ps) = parts_defined ps
parts_defined (stands a c ∷ ps) = ap (λ xs. undefined_sums [] c.sums ++ xs) (parts_defined ps)

pub parts_clear : (m : Machine) (ps : List BundlePart) → AllFit m ps → all_named_labels ps ≡ [] → unfit_items m [] (parts_items ps) ≡ []
parts_clear m [] fit none = refl
parts_clear m (empty ∷ ps) fit none = parts_clear m ps fit.1 none
parts_clear m (refused fault ∷ ps) fit none = parts_clear m ps fit.1 none
parts_clear m (stands a c ∷ ps) fit none =
    let each = nothing_in (undefined_sums [] c.sums) (all_named_labels ps) none in
    ap (λ ns. objected (objection m c.insn ns a) ++ unfit_items m [] (parts_items ps)) (numbers_known c.sums each.0)
    ∙ ap (λ o. objected o ++ unfit_items m [] (parts_items ps)) fit.0.clear
    ∙ parts_clear m ps fit.1 each.1

pub parts_given : (m : Machine) (ps : List BundlePart) → all_named_labels ps ≡ [] → items_bytes m [] (parts_items ps) ≡ parts_bytes m ps
parts_given m [] none = refl
parts_given m (empty ∷ ps) none = parts_given m ps none
parts_given m (refused fault ∷ ps) none = parts_given m ps none
parts_given m (stands a c ∷ ps) none =
    let each = nothing_in (undefined_sums [] c.sums) (all_named_labels ps) none in
    ap (λ ns. instruction_bytes m (is_more ps) a c ns ++ items_bytes m [] (parts_items ps)) (numbers_known c.sums each.0)
    ∙ ap (λ bs. instruction_bytes m (is_more ps) a c (known_all c.sums) ++ bs) (parts_given m ps each.1)

pub parts_long : (m : Machine) (ps : List BundlePart) → m.base_bits ≡ 8 * (m.base_bits / 8) → HasNearBit m → AllFit m ps → items_size m (parts_items ps) ≡ length (parts_bytes m ps)
parts_long m [] whole near fit = refl
parts_long m (empty ∷ ps) whole near fit = parts_long m ps whole near fit.1
parts_long m (refused fault ∷ ps) whole near fit = parts_long m ps whole near fit.1
parts_long m (stands a c ∷ ps) whole near fit =
    let own : List ℕ = instruction_bytes m (is_more ps) a c (known_all c.sums) in
    let long : length own ≡ length_of m c.insn = instruction_long m (is_more ps) a c (known_all c.sums) whole near fit.0.short in
    let rest = parts_long m ps whole near fit.1 in
    let all = length-append own (parts_bytes m ps) in
    omega (arith, long, rest, all)

pub parts_few : (m : Machine) (ps : List BundlePart) → m.base_bits ≡ 8 * (m.base_bits / 8) → HasNearBit m → AllFit m ps → length (parts_bytes m ps) ≤ 16 * length ps
parts_few m [] whole near fit = omega arith
parts_few m (empty ∷ ps) whole near fit = let rest = parts_few m ps whole near fit.1 in omega (arith, rest)
parts_few m (refused fault ∷ ps) whole near fit = let rest = parts_few m ps whole near fit.1 in omega (arith, rest)
parts_few m (stands a c ∷ ps) whole near fit =
    let own : List ℕ = instruction_bytes m (is_more ps) a c (known_all c.sums) in
    let long : length own ≡ length_of m c.insn = instruction_long m (is_more ps) a c (known_all c.sums) whole near fit.0.short in
    let rest = parts_few m ps whole near fit.1 in
    let all = length-append own (parts_bytes m ps) in
    omega (arith, long, rest, all, fit.0.short)

-- ---- a statement that gives some bytes

-- the place of a line where no label was defined
abbrev pub place : Machine → ℕ → Place
place m a = record { address = a; machine = m; labels = [] }

pub record Given (m : Machine) (a : ℕ) (text front : List ℕ) : Type 0 where
  pub readable : is_readable 3800 text ≡ true
  pub label : (read_line text).label ≡ None
  pub ps : List BundlePart
  pub content : content_of (only_set m) (place m a) (read_line text).statement ≡ parts ps
  pub fit : AllFit m ps
  pub unknown : unknown_parts ps ≡ []
  pub unfit : unfit_parts ps ≡ []
  pub named : all_named_labels ps ≡ []
  pub empties : empty_parts ps ≡ []
  pub wide : too_wide m.width ps ≡ []
  pub bytes : parts_bytes m ps ≡ front

none_first : (xs : List SourceFault) → first xs ≡ None → xs ≡ []
none_first [] e = refl
none_first (x ∷ xs) e = absurd (cc)

no_label : (label : Option (List ℕ)) → defined_label label ≡ [] → label ≡ None
no_label None e = refl
no_label (Some name) e = absurd (cc)

record Unfaulted (o : Option SourceFault) (bytes front : List ℕ) : Type 0 where
  pub none : o ≡ None
  pub same : bytes ≡ front

unfaulted : (o : Option SourceFault) (bytes front : List ℕ) → gives (unless_at_fault o bytes) front ≡ true → Unfaulted o bytes front
unfaulted None bytes front e = record { none = refl; same = (bytes_decides bytes front).0 e }
unfaulted (Some fault) bytes front e = absurd (false≢true e)

by_parts : (m : Machine) (a : ℕ) (text front : List ℕ) (ps : List BundlePart) → is_readable 3800 text ≡ true → content_of (only_set m) (place m a) (read_line text).statement ≡ parts ps → AllFit m ps
    → gives (stated_parts m (read_line text).label ps) front ≡ true → Given m a text front
by_parts m a text front ps readable content fit e =
    let label : Option (List ℕ) = (read_line text).label in
    let x : Unfaulted (first (statement_faults m label ps)) (parts_bytes m ps) front = unfaulted (first (statement_faults m label ps)) (parts_bytes m ps) front e in
    let all = none_first (statement_faults m label ps) x.none in
    let five = nothing_in (unknown_parts ps ++ unfit_parts ps ++ defined_label label ++ all_named_labels ps ++ empty_parts ps) (too_wide m.width ps) all in
    let four = nothing_in (unknown_parts ps ++ unfit_parts ps ++ defined_label label ++ all_named_labels ps) (empty_parts ps) five.0 in
    let three = nothing_in (unknown_parts ps ++ unfit_parts ps ++ defined_label label) (all_named_labels ps) four.0 in
    let two = nothing_in (unknown_parts ps ++ unfit_parts ps) (defined_label label) three.0 in
    let one = nothing_in (unknown_parts ps) (unfit_parts ps) two.0 in
    record {
      readable = readable;
      label = no_label label two.1;
      ps = ps;
      content = content;
      fit = fit;
      unknown = one.0;
      unfit = one.1;
      named = three.1;
      empties = four.1;
      wide = five.1;
      bytes = x.same;
    }

only_keywords : (m : Machine) → all_keywords (only_set m) ≡ keywords m
only_keywords m = append-nil (keywords m)

by_statement : (m : Machine) (a : ℕ) (text front : List ℕ) (st : Statement) → IsSound m → is_readable 3800 text ≡ true → (read_line text).statement ≡ st → gives (stated_line m a (read_line text).label st) front ≡ true → Given m a text front
by_statement m a text front nothing sound readable is e = by_parts m a text front [] readable (ap (content_of (only_set m) (place m a)) is) tt e
by_statement m a text front (directive name rest) sound readable is e = absurd (false≢true e)
by_statement m a text front (bundle texts) sound readable is e =
    by_parts m a text front (parts_at m (keywords m) a texts) readable (ap (content_of (only_set m) (place m a)) is ∙ ap (λ words. parts (parts_at m words a texts)) (only_keywords m)) (parts_fit m (keywords m) a texts sound) e

by_readable : (m : Machine) (a : ℕ) (text front : List ℕ) (readable : Bool) → IsSound m → is_readable 3800 text ≡ readable
    → gives (if readable then stated_line m a (read_line text).label (read_line text).statement else Err malformed_line) front ≡ true → Given m a text front
by_readable m a text front true sound is e = by_statement m a text front (read_line text).statement sound is refl e
by_readable m a text front false sound is e = absurd (false≢true e)

pub given : (m : Machine) (a : ℕ) (text front : List ℕ) → IsSound m → gives (stated m a text) front ≡ true → Given m a text front
unfolding stated
given m a text front sound e = by_readable m a text front (is_readable 3800 text) sound refl e
