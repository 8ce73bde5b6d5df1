-- A split, mark by mark.
use Rattle.std.specs.Prelude.{ℕ, suc, ◌+◌, ◌<◌, ◌≤◌, Bool, true, false, ◌==◌, if◌then◌else◌, List, [], ◌∷◌, ◌++◌, length, drop, Option, Some, None, option_to_list}
use Rattle.std.specs.List.{prefix_len}
use Rattle.std.specs.Option.{option_map}
use Rattle.std.proofs.Common.{◌≡◌, refl, sym, ap, ◌∙◌, get_or, append_assoc, arith}
use Rattle.std.proofs.Math.Seq.{drop-cons}
use Rattle.std.proofs.lemmas.List.{append-nil, drop_all}
use Rattle.cg_model_source.specs.Spelling.{spelled}
use Rattle.cg_model.specs.Words.{lower}
use Rattle.cg_model_source.specs.Splitting.{Spelling, operand_at, run_of, behind_run, spelling_in_front, split}
use Rattle.cg_model.specs.declared.machine.Machine.{Machine}
use Rattle.cg_model.specs.declared.operand.Operand.{Operand}
use Rattle.cg_model_source.specs.declared.written.Mark.{Mark}
use Rattle.cg_model_source.specs.declared.written.Mark.TheVariants.{Byte, Slot}
use Rattle.cg_model_source.specs.declared.written.Sum.{Sum}
use Rattle.cg_model_faults.specs.E312.{may_have}
use Rattle.cg_syntax_split.specs.Passing.{filled, takes, slot_passed, passed}
use Rattle.cg_syntax_split.specs.declared.splitting.Filled.{Filled}
use Rattle.cg_syntax_split.specs.declared.splitting.Taken.{Taken}

-- What fills the slots where a text is split.
abbrev pub split_filled : Machine → List (List ℕ) → List ℕ → List Mark → List ℕ → Option (List Filled)
split_filled m words operands ms text = option_map filled (split m words operands ms text)

abbrev in_front : Option Filled → Option (List Filled) → Option (List Filled)
in_front f rest = option_map (λ fs. option_to_list f ++ fs) rest

-- What the marks behind fill, once a mark has takes its part.
abbrev behind_mark : (Taken → Option (List Filled)) → Option Taken → Option (List Filled)
behind_mark rest None = None
behind_mark rest (Some p) = in_front p.filled (rest p)

no_front : (r : Option (List Spelling)) → option_map filled r ≡ in_front None (option_map filled r)
no_front None = refl
no_front (Some fs) = refl

-- a character
at_byte : (m : Machine) (words : List (List ℕ)) (operands : List ℕ) (ms : List Mark) (c : ℕ) (text : List ℕ) (same : Bool) →
    option_map filled (if same then split m words operands ms text else None)
    ≡ behind_mark (λ p. split_filled m words operands ms (drop p.count (c ∷ text))) (if same then Some (record { count = 1; filled = None }) else None)
at_byte m words operands ms c text true = no_front (split m words operands ms text)
at_byte m words operands ms c text false = refl

-- a slot
at_sum : (k count : ℕ) (text : List ℕ) (sum : Option Sum) (r : Option (List Spelling)) → option_map filled (spelling_in_front k text sum r) ≡ behind_mark (λ p. option_map filled r) (option_map (takes k count) sum)
at_sum k count text None r = refl
at_sum k count text (Some sum) None = refl
at_sum k count text (Some sum) (Some fs) = refl

-- what is left depends on how many characters the slot takes
at_spelled : (m : Machine) (words : List (List ℕ)) (operands : List ℕ) (k : ℕ) (ms : List Mark) (text : List ℕ) (o : Operand) (sum : Option Sum) →
    option_map filled (spelling_in_front k (run_of m o text) sum (split m words operands ms (behind_run m o text)))
    ≡ behind_mark (λ p. split_filled m words operands ms (drop p.count text)) (option_map (takes k (prefix_len (may_have m o) text)) sum)
at_spelled m words operands k ms text o None = refl
at_spelled m words operands k ms text o (Some sum) = at_sum k (prefix_len (may_have m o) text) (run_of m o text) (Some sum) (split m words operands ms (behind_run m o text))

at_operand : (m : Machine) (words : List (List ℕ)) (operands : List ℕ) (k : ℕ) (ms : List Mark) (text : List ℕ) (o : Option Operand) →
    option_map filled (elim o as (λ x. Option (List Spelling)) [ None ↦ None | Some o ↦ spelling_in_front k (run_of m o text) (spelled m words o (run_of m o text)) (split m words operands ms (behind_run m o text)) ])
    ≡ behind_mark (λ p. split_filled m words operands ms (drop p.count text)) (elim o as (λ x. Option Taken) [ None ↦ None | Some o ↦ slot_passed m words o k text ])
at_operand m words operands k ms text None = refl
at_operand m words operands k ms text (Some o) = at_spelled m words operands k ms text o (spelled m words o (run_of m o text))

-- What is split from a mark on: what the mark takes, and what the marks behind it fill.
mark_first : (m : Machine) (words : List (List ℕ)) (operands : List ℕ) (x : Mark) (ms : List Mark) (text : List ℕ) →
    split_filled m words operands (x ∷ ms) text ≡ behind_mark (λ p. split_filled m words operands ms (drop p.count text)) (passed m words operands x text)
unfolding split
mark_first m words operands (Byte b) ms [] = refl
mark_first m words operands (Byte b) ms (c ∷ text) = at_byte m words operands ms c text (lower b == lower c)
mark_first m words operands (Slot k) ms text = at_operand m words operands k ms text (operand_at m operands k)

-- What stands in slots already, with what is left.
abbrev pub Leaves : Machine → List (List ℕ) → List ℕ → List Filled → List Mark → List ℕ → Option (List Filled) → Type 0
Leaves m words operands found ms text whole = option_map (λ more. found ++ more) (split_filled m words operands ms text) ≡ whole

drop_next : (ms : List Mark) (k : ℕ) (d : Mark) → k < length ms → drop k ms ≡ get_or ms k d ∷ drop (k + 1) ms
drop_next ms k d within =
    let next : suc k ≡ k + 1 = omega arith in
    drop-cons ms k d within ∙ ap (λ n. get_or ms k d ∷ drop n ms) next

at_mark : (m : Machine) (words : List (List ℕ)) (operands : List ℕ) (found : List Filled) (ms : List Mark) (k : ℕ) (d : Mark) (text : List ℕ) (p : Option Taken) (whole : Option (List Filled)) →
    k < length ms → p ≡ passed m words operands (get_or ms k d) text → Leaves m words operands found (drop k ms) text whole →
    option_map (λ more. found ++ more) (behind_mark (λ p. split_filled m words operands (drop (k + 1) ms) (drop p.count text)) p) ≡ whole
at_mark m words operands found ms k d text p whole within takes leaves =
    ap (λ q. option_map (λ more. found ++ more) (behind_mark (λ p. split_filled m words operands (drop (k + 1) ms) (drop p.count text)) q)) takes
    ∙ ap (option_map (λ more. found ++ more)) (sym (mark_first m words operands (get_or ms k d) (drop (k + 1) ms) text))
    ∙ ap (λ xs. option_map (λ more. found ++ more) (split_filled m words operands xs text)) (sym (drop_next ms k d within))
    ∙ leaves

pub stops : (m : Machine) (words : List (List ℕ)) (operands : List ℕ) (found : List Filled) (ms : List Mark) (k : ℕ) (d : Mark) (text : List ℕ) (whole : Option (List Filled)) →
    k < length ms → None ≡ passed m words operands (get_or ms k d) text → Leaves m words operands found (drop k ms) text whole → (let none : Option (List Filled) = None in none) ≡ whole
stops m words operands found ms k d text whole within takes leaves = at_mark m words operands found ms k d text None whole within takes leaves

joined : (found : List Filled) (f rest : List Filled) → found ++ (f ++ rest) ≡ (found ++ f) ++ rest
joined found f rest = sym (append_assoc found f rest)

joined_where : (found f : List Filled) (rest : Option (List Filled)) → option_map (λ more. found ++ more) (option_map (λ fs. f ++ fs) rest) ≡ option_map (λ more. (found ++ f) ++ more) rest
joined_where found f None = refl
joined_where found f (Some rest) = ap Some (joined found f rest)

pub goes_on : (m : Machine) (words : List (List ℕ)) (operands : List ℕ) (found now : List Filled) (ms : List Mark) (k : ℕ) (d : Mark) (text behind : List ℕ) (p : Taken) (whole : Option (List Filled)) →
    k < length ms → Some p ≡ passed m words operands (get_or ms k d) text → now ≡ found ++ option_to_list p.filled → behind ≡ drop p.count text → Leaves m words operands found (drop k ms) text whole →
    Leaves m words operands now (drop (k + 1) ms) behind whole
goes_on m words operands found now ms k d text behind p whole within takes put left leaves =
    ap (λ fs. option_map (λ more. fs ++ more) (split_filled m words operands (drop (k + 1) ms) behind)) put
    ∙ ap (λ t. option_map (λ more. (found ++ option_to_list p.filled) ++ more) (split_filled m words operands (drop (k + 1) ms) t)) left
    ∙ sym (joined_where found (option_to_list p.filled) (split_filled m words operands (drop (k + 1) ms) (drop p.count text)))
    ∙ at_mark m words operands found ms k d text (Some p) whole within takes leaves

all_there : (fs : List Filled) (whole : Option (List Filled)) → option_map (λ more. fs ++ more) (Some []) ≡ whole → Some fs ≡ whole
all_there fs whole e = ap Some (sym (append-nil fs)) ∙ e

pub whole_split : (m : Machine) (words : List (List ℕ)) (operands : List ℕ) (found : List Filled) (ms : List Mark) (k : ℕ) (text : List ℕ) (whole : Option (List Filled)) → length ms ≤ k → length text ≡ 0 → Leaves m words operands found (drop k ms) text whole → Some found ≡ whole
unfolding split
whole_split m words operands found ms k [] whole past none leaves =
    all_there found whole (ap (λ xs. option_map (λ more. found ++ more) (split_filled m words operands xs [])) (sym (drop_all k ms past)) ∙ leaves)
whole_split m words operands found ms k (c ∷ text) whole past none leaves = absurd (omega (arith, none))

pub text_left : (m : Machine) (words : List (List ℕ)) (operands : List ℕ) (found : List Filled) (ms : List Mark) (k : ℕ) (text : List ℕ) (whole : Option (List Filled)) → length ms ≤ k → 1 ≤ length text → Leaves m words operands found (drop k ms) text whole →
    (let none : Option (List Filled) = None in none) ≡ whole
unfolding split
text_left m words operands found ms k [] whole past some leaves = absurd (omega (arith, some))
text_left m words operands found ms k (c ∷ text) whole past some leaves = ap (λ xs. option_map (λ more. found ++ more) (split_filled m words operands xs (c ∷ text))) (sym (drop_all k ms past)) ∙ leaves

nothing_yet : (r : Option (List Filled)) → option_map (λ more. [] ++ more) r ≡ r
nothing_yet None = refl
nothing_yet (Some fs) = refl

pub at_start : (m : Machine) (words : List (List ℕ)) (operands : List ℕ) (ms : List Mark) (text : List ℕ) → Leaves m words operands [] (drop 0 ms) text (split_filled m words operands ms text)
at_start m words operands ms text = nothing_yet (split_filled m words operands ms text)

pub ruleset passing = (stops, goes_on, whole_split, text_left, at_start)
