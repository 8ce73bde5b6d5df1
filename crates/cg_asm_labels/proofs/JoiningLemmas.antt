-- The bytes of lines, once all labels are known.
use Rattle.std.specs.Prelude.{ℕ, zero, suc, nat_lt, ◌+◌, ◌-◌, ◌*◌, ◌^◌, ◌<◌, ◌≤◌, Bool, List, [], ◌∷◌, ◌++◌, length, take, drop, replicate, ℤ, Option, Some, None, Result, Ok, Err}
use Rattle.std.specs.Option.{option_or, option_map}
use Rattle.std.proofs.Common.{◌≡◌, refl, sym, ap, ◌∙◌, get_or, arith}
use Rattle.std.proofs.lemmas.List.{take_all}
use Rattle.cg_asm_labels.proofs.LabelLemmas.{as_many_numbers}
use Rattle.cg_asm_directives.specs.Faulting.{told_first, on_line, unfit_in}
use Rattle.cg_asm_labels.specs.Joining.{undefined_part, undefined_parts, first_unfit_with, unfit_part, unfit_parts, part_bytes, parts_bytes, ContentWithin, AllWithin, unless_refused, line_put, then_put, lines_put}
use Rattle.cg_asm_directives.specs.Telling.{width_bytes}
use Rattle.cg_asm_labels.specs.declared.joining.Laid.{Laid}
use Rattle.cg_asm_directives.specs.declared.order.Width.{Width}
use Rattle.cg_asm_directives.specs.declared.order.Width.TheVariants.{Byte, Half, Word}
use Rattle.cg_base.specs.Bytes.{bytes_of}
use Rattle.cg_base.specs.Operations.{wrapped}
use Rattle.cg_base.specs.declared.mode.Endian.{Endian}
use Rattle.cg_base.specs.declared.refusal.Refusal.{Refusal}
use Rattle.cg_syntax_choose.specs.Trying.{operands_at}
use Rattle.cg_syntax_choose.specs.declared.trying.Choice.{Choice}
use Rattle.cg_syntax_fit.proofs.Values.{drop_next, wrapped_small}
use Rattle.cg_syntax_fit.specs.Misfits.{said, refused_for}
use Rattle.cg_syntax_fit.specs.declared.misfit.Misfit.{Misfit}
use Rattle.cg_model_source.specs.Choosing.{Objection}
use Rattle.cg_model_source.specs.Sourcing.{Label}
use Rattle.cg_model.specs.declared.machine.Machine.{Machine}
use Rattle.cg_model_source.specs.declared.written.Sum.{Sum}
use Rattle.cg_model_source.specs.E604.{undefined_terms, undefined_sums}
use Rattle.cg_model_source.specs.E605.{number_with, numbers_with}
use Rattle.cg_syntax.proofs.ByteLemmas.{bytes_long, more_by, within_at}
use Rattle.cg_syntax.proofs.FaultLemmas.{first_of_both}
use Rattle.cg_syntax.specs.declared.bundle.Part.{Part}

-- The first label of data that isn't defined.
pub first_sum : (labels : List Label) (s : Sum) (ss : List Sum) (r whole : Option Refusal) → r ≡ told_first (undefined_terms labels s.terms) → told_first (undefined_sums labels (s ∷ ss)) ≡ whole → option_or r (told_first (undefined_sums labels ss)) ≡ whole
first_sum labels s ss r whole e so = ap (λ x. option_or x (told_first (undefined_sums labels ss))) e ∙ sym (first_of_both (undefined_terms labels s.terms) (undefined_sums labels ss)) ∙ so

pub ruleset next_datum = (first_sum)

pub first_part : (labels : List Label) (p : Part) (ps : List Part) (r whole : Option Refusal) → r ≡ undefined_part labels p → undefined_parts labels (p ∷ ps) ≡ whole → option_or r (undefined_parts labels ps) ≡ whole
first_part labels p ps r whole e so = ap (λ x. option_or x (undefined_parts labels ps)) e ∙ so

pub ruleset next_undefined = (first_part)

-- The bytes of a number.
take_front : {A : Type 0} (xs ys : List A) → take (length xs) (xs ++ ys) ≡ xs
take_front [] ys = refl
take_front (x ∷ xs) ys = ap (λ t. x ∷ t) (take_front xs ys)

pub bytes_put : (e : Endian) (n v : ℕ) (old now : List ℕ) → now ≡ (take 0 old ++ bytes_of e n v) ++ drop (0 + n) old → take n now ≡ bytes_of e n v
bytes_put e n v old now is =
    ap (take n) is ∙ ap (λ k. take k ((take 0 old ++ bytes_of e n v) ++ drop (0 + n) old)) (sym (bytes_long e n v)) ∙ take_front (bytes_of e n v) (drop (0 + n) old)

pub number_fits : (w : Width) (z : ℤ) → wrapped (8 * width_bytes w) z < 256 ^ width_bytes w
number_fits Byte z = wrapped_small 8 z
number_fits Half z = wrapped_small 16 z
number_fits Word z = wrapped_small 32 z

pub ruleset datum = (bytes_put, number_fits)

-- Zeros.
pub zeros_put : (xs : List ℕ) (n count : ℕ) → n ≡ length xs + count → take n xs ++ replicate (n - length xs) 0 ≡ xs ++ replicate count 0
zeros_put xs n count e =
    let more : length xs ≤ n = omega (arith, e) in
    let rest : n - length xs ≡ count = omega (arith, e) in
    ap (λ t. t ++ replicate (n - length xs) 0) (take_all n xs more) ∙ ap (λ k. xs ++ replicate k 0) rest

pub ruleset zeros = (zeros_put)

-- A part of a bundle.
pub as_many : (m : Machine) (labels : List Label) (c : Choice) → length c.sums ≡ length (operands_at m c.insn) → length (numbers_with labels c.sums) ≡ length (operands_at m c.insn)
as_many m labels c e = as_many_numbers labels c.sums ∙ e

pub said_so : (m : Machine) (x : Misfit) (o : Option Objection) → option_map (said m) (Some x) ≡ o → Some (refused_for 605 (said m x)) ≡ option_map (refused_for 605) o
said_so m x o e = ap (option_map (refused_for 605)) e

pub nothing_said : (m : Machine) (o : Option Objection) → option_map (said m) None ≡ o → None ≡ option_map (refused_for 605) o
nothing_said m o e = ap (option_map (refused_for 605)) e

pub ruleset part = (as_many, said_so, nothing_said)

-- The parts of a bundle, one by one.
pub next_bytes : (m : Machine) (labels : List Label) (ps : List Part) (k : ℕ) (d : Part) (more : Bool) → k < length ps → nat_lt (k + 1) (length ps) ≡ more →
    parts_bytes m labels (drop k ps) ≡ part_bytes m labels (get_or ps k d) more ++ parts_bytes m labels (drop (k + 1) ps)
next_bytes m labels ps k d more within e =
    ap (parts_bytes m labels) (drop_next ps k d within) ∙ ap (λ b. part_bytes m labels (get_or ps k d) b ++ parts_bytes m labels (drop (k + 1) ps)) (more_by ps (k + 1) ∙ e)

or_again : (a b c : Option Refusal) → option_or (option_or a b) c ≡ option_or a (option_or b c)
or_again None b c = refl
or_again (Some x) b c = refl

pub next_unfit : (m : Machine) (labels : List Label) (ps : List Part) (k : ℕ) (d : Part) (first now whole : Option Refusal) → k < length ps → now ≡ unfit_part m labels (get_or ps k d) → option_or first (unfit_parts m labels (drop k ps)) ≡ whole →
    option_or (option_or first now) (unfit_parts m labels (drop (k + 1) ps)) ≡ whole
next_unfit m labels ps k d first now whole within e so =
    or_again first now (unfit_parts m labels (drop (k + 1) ps)) ∙ ap (λ x. option_or first (option_or x (unfit_parts m labels (drop (k + 1) ps)))) e
    ∙ ap (λ xs. option_or first (unfit_parts m labels xs)) (sym (drop_next ps k d within)) ∙ so

or_none : (a : Option Refusal) → option_or a None ≡ a
or_none None = refl
or_none (Some x) = refl

pub all_unfit : (m : Machine) (labels : List Label) (first whole : Option Refusal) → option_or first (unfit_parts m labels []) ≡ whole → first ≡ whole
all_unfit m labels first whole so = sym (or_none first) ∙ so

pub ruleset parts = (next_bytes, next_unfit, all_unfit, within_at)

-- The data of a directive, one by one.
int_or_again : (a b c : Option ℤ) → option_or (option_or a b) c ≡ option_or a (option_or b c)
int_or_again None b c = refl
int_or_again (Some x) b c = refl

pub next_number : (labels : List Label) (w : Width) (s : Sum) (ss : List Sum) (first now whole : Option ℤ) → now ≡ unfit_in w (number_with labels s) → option_or first (first_unfit_with labels w (s ∷ ss)) ≡ whole →
    option_or (option_or first now) (first_unfit_with labels w ss) ≡ whole
next_number labels w s ss first now whole e so = int_or_again first now (first_unfit_with labels w ss) ∙ ap (λ x. option_or first (option_or x (first_unfit_with labels w ss))) e ∙ so

int_or_none : (a : Option ℤ) → option_or a None ≡ a
int_or_none None = refl
int_or_none (Some x) = refl

pub all_numbers : (labels : List Label) (w : Width) (first whole : Option ℤ) → option_or first (first_unfit_with labels w []) ≡ whole → first ≡ whole
all_numbers labels w first whole so = sym (int_or_none first) ∙ so

pub ruleset numbering = (next_number, all_numbers)

-- A line.
pub line_undefined : (n : ℕ) (u f : Option Refusal) (bytes : List ℕ) (r : Refusal) → Some r ≡ u → unless_refused n (option_or u f) bytes ≡ Err (on_line n r)
line_undefined n u f bytes r e = ap (λ x. unless_refused n (option_or x f) bytes) (sym e)

pub line_unfit : (n : ℕ) (u f : Option Refusal) (bytes : List ℕ) (r : Refusal) → None ≡ u → Some r ≡ f → unless_refused n (option_or u f) bytes ≡ Err (on_line n r)
line_unfit n u f bytes r none e = ap (λ x. unless_refused n (option_or x f) bytes) (sym none) ∙ ap (λ x. unless_refused n x bytes) (sym e)

pub line_whole : (n : ℕ) (u f : Option Refusal) (bytes now : List ℕ) → None ≡ u → None ≡ f → now ≡ bytes → unless_refused n (option_or u f) bytes ≡ Ok now
line_whole n u f bytes now none e is = ap (λ x. unless_refused n (option_or x f) bytes) (sym none) ∙ ap (λ x. unless_refused n x bytes) (sym e) ∙ ap Ok (sym is)

pub ruleset line = (line_undefined, line_unfit, line_whole)

-- Lines, one by one.
pub next_line : (m : Machine) (labels : List Label) (x : Laid) (xs : List Laid) (out now : List ℕ) (whole : Result (List ℕ) Refusal) → line_put m labels x out ≡ Ok now → lines_put m labels (x ∷ xs) out ≡ whole → lines_put m labels xs now ≡ whole
next_line m labels x xs out now whole e so = sym (ap (then_put (lines_put m labels xs)) e) ∙ so

pub stop_line : (m : Machine) (labels : List Label) (x : Laid) (xs : List Laid) (out : List ℕ) (r : Refusal) (whole : Result (List ℕ) Refusal) → line_put m labels x out ≡ Err r → lines_put m labels (x ∷ xs) out ≡ whole → whole ≡ Err r
stop_line m labels x xs out r whole e so = sym so ∙ ap (then_put (lines_put m labels xs)) e

pub line_within : (m : Machine) (xs : List Laid) (k : ℕ) (d : Laid) → k < length xs → AllWithin m xs → ContentWithin m (get_or xs k d).content
line_within m [] k d below all = absurd (omega (arith, below))
line_within m (x ∷ xs) zero d below all = all.0
line_within m (x ∷ xs) (suc k) d below all = line_within m xs k d (omega (arith, below)) all.1

pub ruleset lines = (next_line, stop_line, line_within)
