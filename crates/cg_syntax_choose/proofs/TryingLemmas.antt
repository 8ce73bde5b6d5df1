-- What a text may be, tried in order.
use Rattle.std.specs.Prelude.{ℕ, zero, suc, ◌+◌, ◌<◌, ◌≤◌, not, if◌then◌else◌, is_some, List, [], ◌∷◌, ◌++◌, length, drop, Option, Some, None, Result, Ok, Err, find, slice_get}
use Rattle.std.specs.Option.{option_or, option_map}
use Rattle.std.proofs.Common.{◌≡◌, refl, sym, ap, ◌∙◌, subst, arith}
use Rattle.std.proofs.lemmas.List.{drop_all}
use Rattle.cg_base.specs.declared.refusal.Refusal.{Refusal}
use Rattle.cg_syntax_choose.proofs.Alike.{chosen_alike}
use Rattle.cg_syntax_choose.proofs.FrontLemmas.{same_some, none_is_none}
use Rattle.cg_syntax_choose.proofs.IndexLemmas.{insn_pattern_is, macro_pattern_is, as_many_insns, as_many_macros}
use Rattle.cg_syntax_choose.proofs.OrderLemmas.{sums_are, given_are, as_many_sums, as_many_given}
use Rattle.cg_syntax_choose.specs.Indexing.{IsIndex, GivesAll, insn_pattern, macro_pattern}
use Rattle.cg_syntax_choose.specs.Ordering.{filled_sums, given_all}
use Rattle.cg_syntax_choose.specs.Trying.{Outcome, outcome, trying, told_choice, fault_refusal, told, as_choice, choice_at, operands_at, written_at, emitted_at, splitting_squeezed, unfit_refusal}
use Rattle.cg_syntax_choose.specs.declared.index.Index.{Index}
use Rattle.cg_syntax_choose.specs.declared.index.Pattern.{Pattern}
use Rattle.cg_syntax_choose.specs.declared.trying.Choice as declared
use Rattle.cg_syntax_fit.specs.Misfits.{said}
use Rattle.cg_syntax_fit.specs.declared.misfit.Misfit.{Misfit}
use Rattle.cg_model_source.specs.Choosing.{Choice, Objection, SourceFault, as_written, as_emitted, split_by_insn, split_by_macro, insns_splitting, macros_splitting, splitting, choice_objection, objection, known_all, fits, unfit, unchosen, chosen_of, chosen}
use Rattle.cg_model_source.specs.Spelling.{keywords}
use Rattle.cg_model_source.specs.Splitting.{Spelling, split}
use Rattle.cg_model_source.specs.Squeezing.{squeezed}
use Rattle.cg_model.specs.declared.insn.Insn.{Insn}
use Rattle.cg_model.specs.declared.insn.MacroInsn.{MacroInsn}
use Rattle.cg_model.specs.declared.machine.Machine.{Machine}
use Rattle.cg_model_faults.specs.E313.{slot_operands}
use Rattle.cg_syntax_split.specs.Passing.{filled}
use Rattle.cg_syntax_split.specs.declared.splitting.Filled.{Filled}

-- What comes of trying more, behind what came.
abbrev pub followed : Machine → ℕ → Outcome → List Choice → Outcome
followed m pc t cs = elim t.chosen [ None ↦ trying m pc t.first cs | Some c ↦ t ]

try_first : (m : Machine) (pc : ℕ) (first : Option Objection) (c : Choice) (cs ds : List Choice) (o : Option Objection) → ((f : Option Objection) → trying m pc f (cs ++ ds) ≡ followed m pc (trying m pc f cs) ds) →
    (elim o as (λ x. Outcome) [ None ↦ record { chosen = Some (told_choice c); first = first } | Some p ↦ trying m pc (option_or first (Some p)) (cs ++ ds) ])
    ≡ followed m pc (elim o as (λ x. Outcome) [ None ↦ record { chosen = Some (told_choice c); first = first } | Some p ↦ trying m pc (option_or first (Some p)) cs ]) ds
try_first m pc first c cs ds None later = refl
try_first m pc first c cs ds (Some p) later = later (option_or first (Some p))

pub try_both : (m : Machine) (pc : ℕ) (first : Option Objection) (cs ds : List Choice) → trying m pc first (cs ++ ds) ≡ followed m pc (trying m pc first cs) ds
try_both m pc first [] ds = refl
try_both m pc first (c ∷ cs) ds = try_first m pc first c cs ds (choice_objection m pc c) (λ f. try_both m pc f cs ds)

-- One that is judged.
judged_by : (m : Machine) (pc : ℕ) (first : Option Objection) (c : Choice) (o : Option Objection) → choice_objection m pc c ≡ o →
    trying m pc first (c ∷ []) ≡ (elim o as (λ x. Outcome) [ None ↦ record { chosen = Some (told_choice c); first = first } | Some p ↦ record { chosen = None; first = option_or first (Some p) } ])
judged_by m pc first c o e = ap (λ x. elim x as (λ y. Outcome) [ None ↦ record { chosen = Some (told_choice c); first = first } | Some p ↦ record { chosen = None; first = option_or first (Some p) } ]) e

said_or : (m : Machine) (first : Option Misfit) (x : Misfit) → option_map (said m) (option_or first (Some x)) ≡ option_or (option_map (said m) first) (Some (said m x))
said_or m None x = refl
said_or m (Some y) x = refl

pub nothing_against : (m : Machine) (pc : ℕ) (first : Option Misfit) (c : declared.Choice) (i : Insn) → (let none : Option Misfit = None in option_map (said m) none) ≡ objection m i (known_all c.sums) pc →
    outcome m (Some c) first ≡ trying m pc (option_map (said m) first) (as_choice c i ∷ [])
nothing_against m pc first c i e = sym (judged_by m pc (option_map (said m) first) (as_choice c i) None (sym e))

pub something_against : (m : Machine) (pc : ℕ) (first now : Option Misfit) (x : Misfit) (c : declared.Choice) (i : Insn) → option_map (said m) (Some x) ≡ objection m i (known_all c.sums) pc → now ≡ option_or first (Some x) →
    outcome m None now ≡ trying m pc (option_map (said m) first) (as_choice c i ∷ [])
something_against m pc first now x c i e n =
    ap (λ f. outcome m None f) n ∙ ap (λ f. (let t : Outcome = record { chosen = None; first = f } in t)) (said_or m first x) ∙ sym (judged_by m pc (option_map (said m) first) (as_choice c i) (Some (said m x)) (sym e))

pub ruleset judging = (nothing_against, something_against)

-- By the instruction of a number.
found_in : (m : Machine) (k : ℕ) (i : Insn) (fs : List Filled) (r : Option (List Spelling)) → Some fs ≡ option_map filled r → as_written k i r ≡ as_choice (record { insn = k; sums = filled_sums 0 (slot_operands i.parts) fs }) i ∷ []
found_in m k i fs None e = absurd (none_is_none (sym e))
found_in m k i fs (Some ws) e =
    ap (λ ss. (let c : Choice = record { number = k; insn = i; sums = ss } in c) ∷ []) (sym (sums_are 0 (slot_operands i.parts) ws) ∙ ap (filled_sums 0 (slot_operands i.parts)) (sym (same_some e)))

none_in : (k : ℕ) (i : Insn) (r : Option (List Spelling)) → (let none : Option (List Filled) = None in none) ≡ option_map filled r → as_written k i r ≡ []
none_in k i None e = refl
none_in k i (Some ws) e = absurd (none_is_none e)

at_insn : (m : Machine) (words : List (List ℕ)) (text : List ℕ) (k : ℕ) (i : Insn) → slice_get m.insns k ≡ Some i → written_at m words text k ≡ as_written k i (split_by_insn m words text i)
at_insn m words text k i at = ap (λ x. elim x as (λ y. List Choice) [ None ↦ [] | Some j ↦ as_written k j (split_by_insn m words text j) ]) at

-- what a pattern's fields are
split_by : (m : Machine) (words : List (List ℕ)) (text : List ℕ) (i : Insn) (p : Pattern) → p ≡ insn_pattern i → split m words p.operands p.marks text ≡ split_by_insn m words text i
split_by m words text i p e = ap (λ q. split m words q.operands q.marks text) e

pub insn_found : (m : Machine) (x : Index) (text : List ℕ) (k : ℕ) (i : Insn) (p : Pattern) (fs : List Filled) → IsIndex m x → slice_get m.insns k ≡ Some i → slice_get x.insns k ≡ Some p → Some fs ≡ option_map filled (split m x.keywords p.operands p.marks text) →
    as_choice (record { insn = k; sums = filled_sums 0 p.operands fs }) i ∷ [] ≡ written_at m x.keywords text k
insn_found m x text k i p fs index at here found =
    let e : p ≡ insn_pattern i = insn_pattern_is m x k i p index at here in
    ap (λ os. as_choice (record { insn = k; sums = filled_sums 0 os fs }) i ∷ []) (ap (λ q. q.operands) e)
    ∙ sym (at_insn m x.keywords text k i at ∙ found_in m k i fs (split_by_insn m x.keywords text i) (found ∙ ap (option_map filled) (split_by m x.keywords text i p e)))

pub insn_not_found : (m : Machine) (x : Index) (text : List ℕ) (k : ℕ) (i : Insn) (p : Pattern) → IsIndex m x → slice_get m.insns k ≡ Some i → slice_get x.insns k ≡ Some p →
    (let none : Option (List Filled) = None in none) ≡ option_map filled (split m x.keywords p.operands p.marks text) → [] ≡ written_at m x.keywords text k
insn_not_found m x text k i p index at here found =
    let e : p ≡ insn_pattern i = insn_pattern_is m x k i p index at here in
    sym (at_insn m x.keywords text k i at ∙ none_in k i (split_by_insn m x.keywords text i) (found ∙ ap (option_map filled) (split_by m x.keywords text i p e)))

-- what a call wants of a pattern
pub insn_operands : (m : Machine) (x : Index) (k : ℕ) (i : Insn) (p : Pattern) → IsIndex m x → slice_get m.insns k ≡ Some i → slice_get x.insns k ≡ Some p → p.operands ≡ slot_operands i.parts
insn_operands m x k i p index at here = ap (λ q. q.operands) (insn_pattern_is m x k i p index at here)

pub insns_within : (m : Machine) (x : Index) → IsIndex m x → length x.insns ≡ length m.insns
insns_within m x index = ap length index.insns ∙ as_many_insns m.insns

pub macros_within : (m : Machine) (x : Index) → IsIndex m x → length x.macros ≡ length m.macros
macros_within m x index = ap length index.macros ∙ as_many_macros m.macros

pub ruleset insn_trying = (insn_found, insn_not_found, insn_operands, insns_within, as_many_sums)

-- All instructions, from a number on.
at_place : {A : Type 0} (xs : List A) (k : ℕ) → k < length xs → (x : A) × (slice_get xs k ≡ Some x) × (drop k xs ≡ x ∷ drop (k + 1) xs)
at_place {A} [] k below = absurd (omega (arith, below))
at_place {A} (x ∷ xs) zero below = (x, refl, refl)
at_place {A} (x ∷ xs) (suc k) below =
    let rest : (y : A) × (slice_get xs k ≡ Some y) × (drop k xs ≡ y ∷ drop (k + 1) xs) = at_place xs k (omega (arith, below)) in
    let next : suc (k + 1) ≡ suc k + 1 = omega arith in
    (rest.0, rest.1, rest.2 ∙ ap (λ n. rest.0 ∷ drop n (x ∷ xs)) next)

rest_of_insns : (m : Machine) (words : List (List ℕ)) (text : List ℕ) (k : ℕ) → k < length m.insns → insns_splitting m words text k (drop k m.insns) ≡ written_at m words text k ++ insns_splitting m words text (k + 1) (drop (k + 1) m.insns)
rest_of_insns m words text k within =
    let here : (i : Insn) × (slice_get m.insns k ≡ Some i) × (drop k m.insns ≡ i ∷ drop (k + 1) m.insns) = at_place m.insns k within in
    let next : suc k ≡ k + 1 = omega arith in
    ap (insns_splitting m words text k) here.2
    ∙ ap (λ n. as_written k here.0 (split_by_insn m words text here.0) ++ insns_splitting m words text n (drop (k + 1) m.insns)) next
    ∙ ap (λ cs. cs ++ insns_splitting m words text (k + 1) (drop (k + 1) m.insns)) (sym (at_insn m words text k here.0 here.1))

-- What came so far, with the instructions that are left.
abbrev pub InsnsLeft : Machine → ℕ → List (List ℕ) → List ℕ → ℕ → Option Misfit → Outcome → Type 0
InsnsLeft m pc words text k first whole = trying m pc (option_map (said m) first) (insns_splitting m words text k (drop k m.insns)) ≡ whole

one_insn : (m : Machine) (pc : ℕ) (words : List (List ℕ)) (text : List ℕ) (k : ℕ) (before now : Option Misfit) (r : Option declared.Choice) (whole : Outcome) → k < length m.insns →
    outcome m r now ≡ trying m pc (option_map (said m) before) (written_at m words text k) → InsnsLeft m pc words text k before whole →
    followed m pc (outcome m r now) (insns_splitting m words text (k + 1) (drop (k + 1) m.insns)) ≡ whole
one_insn m pc words text k before now r whole within came so =
    ap (λ t. followed m pc t (insns_splitting m words text (k + 1) (drop (k + 1) m.insns))) came
    ∙ sym (try_both m pc (option_map (said m) before) (written_at m words text k) (insns_splitting m words text (k + 1) (drop (k + 1) m.insns)))
    ∙ ap (trying m pc (option_map (said m) before)) (sym (rest_of_insns m words text k within)) ∙ so

pub insn_chosen : (m : Machine) (pc : ℕ) (words : List (List ℕ)) (text : List ℕ) (k : ℕ) (before now : Option Misfit) (c : declared.Choice) (whole : Outcome) → k < length m.insns →
    outcome m (Some c) now ≡ trying m pc (option_map (said m) before) (written_at m words text k) → InsnsLeft m pc words text k before whole → outcome m (Some c) now ≡ whole
insn_chosen m pc words text k before now c whole within came so = one_insn m pc words text k before now (Some c) whole within came so

pub insn_passed : (m : Machine) (pc : ℕ) (words : List (List ℕ)) (text : List ℕ) (k : ℕ) (before now : Option Misfit) (whole : Outcome) → k < length m.insns →
    outcome m None now ≡ trying m pc (option_map (said m) before) (written_at m words text k) → InsnsLeft m pc words text k before whole → InsnsLeft m pc words text (k + 1) now whole
insn_passed m pc words text k before now whole within came so = one_insn m pc words text k before now None whole within came so

pub insns_passed : (m : Machine) (pc : ℕ) (words : List (List ℕ)) (text : List ℕ) (k : ℕ) (first : Option Misfit) (whole : Outcome) → length m.insns ≤ k → InsnsLeft m pc words text k first whole → outcome m None first ≡ whole
insns_passed m pc words text k first whole past so = ap (λ is. trying m pc (option_map (said m) first) (insns_splitting m words text k is)) (sym (drop_all k m.insns past)) ∙ so

pub insns_start : (m : Machine) (pc : ℕ) (words : List (List ℕ)) (text : List ℕ) (first : Option Misfit) → InsnsLeft m pc words text 0 first (trying m pc (option_map (said m) first) (insns_splitting m words text 0 m.insns))
insns_start m pc words text first = refl

pub ruleset insns_trying = (insn_chosen, insn_passed, insns_passed, insns_start)

-- By the macro instruction of a number.
at_macro : (m : Machine) (words : List (List ℕ)) (text : List ℕ) (k : ℕ) (x : MacroInsn) → slice_get m.macros k ≡ Some x → emitted_at m words text k ≡ as_emitted x (slice_get m.insns x.target) (split_by_macro m words text x)
at_macro m words text k x at = ap (λ o. elim o as (λ y. List Choice) [ None ↦ [] | Some z ↦ as_emitted z (slice_get m.insns z.target) (split_by_macro m words text z) ]) at

split_by_pattern : (m : Machine) (words : List (List ℕ)) (text : List ℕ) (x : MacroInsn) (p : Pattern) → p ≡ macro_pattern x → split m words p.operands p.marks text ≡ split_by_macro m words text x
split_by_pattern m words text x p e = ap (λ q. split m words q.operands q.marks text) e

emitted_in : (m : Machine) (x : MacroInsn) (fs : List Filled) (target : Option Insn) (r : Option (List Spelling)) → Some fs ≡ option_map filled r →
    as_emitted x target r ≡ (elim target as (λ y. List Choice) [ None ↦ [] | Some i ↦ as_choice (record { insn = x.target; sums = given_all fs x.given }) i ∷ [] ])
emitted_in m x fs None r e = refl
emitted_in m x fs (Some i) None e = absurd (none_is_none (sym e))
emitted_in m x fs (Some i) (Some ws) e =
    ap (λ ss. (let c : Choice = record { number = x.target; insn = i; sums = ss } in c) ∷ []) (sym (given_are ws x.given) ∙ ap (λ f. given_all f x.given) (sym (same_some e)))

none_emitted : (x : MacroInsn) (target : Option Insn) (r : Option (List Spelling)) → (let none : Option (List Filled) = None in none) ≡ option_map filled r → as_emitted x target r ≡ []
none_emitted x None r e = refl
none_emitted x (Some i) None e = refl
none_emitted x (Some i) (Some ws) e = absurd (none_is_none e)

no_target : (x : MacroInsn) (target : Option Insn) (r : Option (List Spelling)) → target ≡ None → as_emitted x target r ≡ []
no_target x None r e = refl
no_target x (Some i) r e = absurd (none_is_none (sym e))

past_end : {A : Type 0} (xs : List A) (k : ℕ) → length xs ≤ k → slice_get xs k ≡ None
past_end [] k past = refl
past_end (x ∷ xs) zero past = absurd (omega (arith, past))
past_end (x ∷ xs) (suc k) past = past_end xs k (omega (arith, past))

pub macro_found : (m : Machine) (x : Index) (text : List ℕ) (k : ℕ) (e : MacroInsn) (p : Pattern) (fs : List Filled) → IsIndex m x → slice_get m.macros k ≡ Some e → slice_get x.macros k ≡ Some p → Some fs ≡ option_map filled (split m x.keywords p.operands p.marks text) →
    choice_at m (record { insn = e.target; sums = given_all fs e.given }) ≡ emitted_at m x.keywords text k
macro_found m x text k e p fs index at here found =
    let same : p ≡ macro_pattern e = macro_pattern_is m x k e p index at here in
    sym (at_macro m x.keywords text k e at ∙ emitted_in m e fs (slice_get m.insns e.target) (split_by_macro m x.keywords text e) (found ∙ ap (option_map filled) (split_by_pattern m x.keywords text e p same)))

pub macro_not_found : (m : Machine) (x : Index) (text : List ℕ) (k : ℕ) (e : MacroInsn) (p : Pattern) → IsIndex m x → slice_get m.macros k ≡ Some e → slice_get x.macros k ≡ Some p →
    (let none : Option (List Filled) = None in none) ≡ option_map filled (split m x.keywords p.operands p.marks text) → [] ≡ emitted_at m x.keywords text k
macro_not_found m x text k e p index at here found =
    let same : p ≡ macro_pattern e = macro_pattern_is m x k e p index at here in
    sym (at_macro m x.keywords text k e at ∙ none_emitted e (slice_get m.insns e.target) (split_by_macro m x.keywords text e) (found ∙ ap (option_map filled) (split_by_pattern m x.keywords text e p same)))

pub macro_of_none : (m : Machine) (words : List (List ℕ)) (text : List ℕ) (k : ℕ) (e : MacroInsn) → slice_get m.macros k ≡ Some e → length m.insns ≤ e.target → [] ≡ emitted_at m words text k
macro_of_none m words text k e at past =
    sym (at_macro m words text k e at ∙ no_target e (slice_get m.insns e.target) (split_by_macro m words text e) (past_end m.insns e.target past))

at_target : (m : Machine) (k : ℕ) (i : Insn) → slice_get m.insns k ≡ Some i → operands_at m k ≡ slot_operands i.parts
at_target m k i at = ap (λ o. elim o as (λ y. List ℕ) [ None ↦ [] | Some j ↦ slot_operands j.parts ]) at

-- it gives each slot of what it emits
pub gives_as_many : (m : Machine) (k : ℕ) (e : MacroInsn) (fs : List Filled) → GivesAll m → slice_get m.macros k ≡ Some e → e.target < length m.insns → length (given_all fs e.given) ≡ length (operands_at m e.target)
gives_as_many m k e fs gives at within =
    let here : (i : Insn) × (slice_get m.insns e.target ≡ Some i) × (drop e.target m.insns ≡ i ∷ drop (e.target + 1) m.insns) = at_place m.insns e.target within in
    as_many_given fs e.given ∙ gives k e here.0 at here.1 ∙ sym (ap length (at_target m e.target here.0 here.1))

pub ruleset macro_trying = (macro_found, macro_not_found, macro_of_none, gives_as_many, macros_within)

pub emitted_choice : (m : Machine) (c : declared.Choice) (i : Insn) → slice_get m.insns c.insn ≡ Some i → choice_at m c ≡ as_choice c i ∷ []
emitted_choice m c i at = ap (λ o. elim o as (λ y. List Choice) [ None ↦ [] | Some j ↦ as_choice c j ∷ [] ]) at

pub emitted_operands : (m : Machine) (k : ℕ) (i : Insn) → slice_get m.insns k ≡ Some i → operands_at m k ≡ slot_operands i.parts
emitted_operands m k i at = at_target m k i at

pub ruleset emitting = (emitted_choice, emitted_operands, insn_operands, insns_within)

-- All macro instructions, from a number on.
rest_of_macros : (m : Machine) (words : List (List ℕ)) (text : List ℕ) (k : ℕ) → k < length m.macros → macros_splitting m words text (drop k m.macros) ≡ emitted_at m words text k ++ macros_splitting m words text (drop (k + 1) m.macros)
rest_of_macros m words text k within =
    let here : (x : MacroInsn) × (slice_get m.macros k ≡ Some x) × (drop k m.macros ≡ x ∷ drop (k + 1) m.macros) = at_place m.macros k within in
    ap (macros_splitting m words text) here.2 ∙ ap (λ cs. cs ++ macros_splitting m words text (drop (k + 1) m.macros)) (sym (at_macro m words text k here.0 here.1))

abbrev pub MacrosLeft : Machine → ℕ → List (List ℕ) → List ℕ → ℕ → Option Misfit → Outcome → Type 0
MacrosLeft m pc words text k first whole = trying m pc (option_map (said m) first) (macros_splitting m words text (drop k m.macros)) ≡ whole

one_macro : (m : Machine) (pc : ℕ) (words : List (List ℕ)) (text : List ℕ) (k : ℕ) (before now : Option Misfit) (r : Option declared.Choice) (whole : Outcome) → k < length m.macros →
    outcome m r now ≡ trying m pc (option_map (said m) before) (emitted_at m words text k) → MacrosLeft m pc words text k before whole →
    followed m pc (outcome m r now) (macros_splitting m words text (drop (k + 1) m.macros)) ≡ whole
one_macro m pc words text k before now r whole within came so =
    ap (λ t. followed m pc t (macros_splitting m words text (drop (k + 1) m.macros))) came
    ∙ sym (try_both m pc (option_map (said m) before) (emitted_at m words text k) (macros_splitting m words text (drop (k + 1) m.macros)))
    ∙ ap (trying m pc (option_map (said m) before)) (sym (rest_of_macros m words text k within)) ∙ so

pub macro_chosen : (m : Machine) (pc : ℕ) (words : List (List ℕ)) (text : List ℕ) (k : ℕ) (before now : Option Misfit) (c : declared.Choice) (whole : Outcome) → k < length m.macros →
    outcome m (Some c) now ≡ trying m pc (option_map (said m) before) (emitted_at m words text k) → MacrosLeft m pc words text k before whole → outcome m (Some c) now ≡ whole
macro_chosen m pc words text k before now c whole within came so = one_macro m pc words text k before now (Some c) whole within came so

pub macro_passed : (m : Machine) (pc : ℕ) (words : List (List ℕ)) (text : List ℕ) (k : ℕ) (before now : Option Misfit) (whole : Outcome) → k < length m.macros →
    outcome m None now ≡ trying m pc (option_map (said m) before) (emitted_at m words text k) → MacrosLeft m pc words text k before whole → MacrosLeft m pc words text (k + 1) now whole
macro_passed m pc words text k before now whole within came so = one_macro m pc words text k before now None whole within came so

pub macros_passed : (m : Machine) (pc : ℕ) (words : List (List ℕ)) (text : List ℕ) (k : ℕ) (first : Option Misfit) (whole : Outcome) → length m.macros ≤ k → MacrosLeft m pc words text k first whole → outcome m None first ≡ whole
macros_passed m pc words text k first whole past so = ap (λ xs. trying m pc (option_map (said m) first) (macros_splitting m words text xs)) (sym (drop_all k m.macros past)) ∙ so

pub macros_start : (m : Machine) (pc : ℕ) (words : List (List ℕ)) (text : List ℕ) (first : Option Misfit) → MacrosLeft m pc words text 0 first (trying m pc (option_map (said m) first) (macros_splitting m words text m.macros))
macros_start m pc words text first = refl

pub ruleset macros_trying = (macro_chosen, macro_passed, macros_passed, macros_start)

-- Instructions and then macro instructions.
both_tried : (m : Machine) (pc : ℕ) (words : List (List ℕ)) (text : List ℕ) (before now : Option Misfit) (r : Option declared.Choice) →
    outcome m r now ≡ trying m pc (option_map (said m) before) (insns_splitting m words text 0 m.insns) →
    followed m pc (outcome m r now) (macros_splitting m words text m.macros) ≡ trying m pc (option_map (said m) before) (splitting_squeezed m words text)
both_tried m pc words text before now r came =
    ap (λ t. followed m pc t (macros_splitting m words text m.macros)) came ∙ sym (try_both m pc (option_map (said m) before) (insns_splitting m words text 0 m.insns) (macros_splitting m words text m.macros))

pub insns_chosen : (m : Machine) (pc : ℕ) (words : List (List ℕ)) (text : List ℕ) (before now : Option Misfit) (c : declared.Choice) →
    outcome m (Some c) now ≡ trying m pc (option_map (said m) before) (insns_splitting m words text 0 m.insns) → outcome m (Some c) now ≡ trying m pc (option_map (said m) before) (splitting_squeezed m words text)
insns_chosen m pc words text before now c came = both_tried m pc words text before now (Some c) came

pub macros_tried : (m : Machine) (pc : ℕ) (words : List (List ℕ)) (text : List ℕ) (before between now : Option Misfit) (r : Option declared.Choice) →
    outcome m None between ≡ trying m pc (option_map (said m) before) (insns_splitting m words text 0 m.insns) → outcome m r now ≡ trying m pc (option_map (said m) between) (macros_splitting m words text m.macros) →
    outcome m r now ≡ trying m pc (option_map (said m) before) (splitting_squeezed m words text)
macros_tried m pc words text before between now r came more = more ∙ both_tried m pc words text before between None came

pub ruleset all_trying = (insns_chosen, macros_tried)

-- What is chosen is the first that fits; and what is wrong with the first that a text may be is noted where none does.
found_of : Machine → ℕ → List Choice → Option declared.Choice
found_of m pc cs = option_map told_choice (find (fits m pc) cs)

chosen_step : (m : Machine) (pc : ℕ) (first : Option Objection) (c : Choice) (cs : List Choice) (o : Option Objection) → ((f : Option Objection) → (trying m pc f cs).chosen ≡ option_map told_choice (find (fits m pc) cs)) →
    (elim o as (λ x. Outcome) [ None ↦ record { chosen = Some (told_choice c); first = first } | Some p ↦ trying m pc (option_or first (Some p)) cs ]).chosen ≡ option_map told_choice (if not (is_some o) then Some c else find (fits m pc) cs)
chosen_step m pc first c cs None later = refl
chosen_step m pc first c cs (Some p) later = later (option_or first (Some p))

tried_chosen : (m : Machine) (pc : ℕ) (first : Option Objection) (cs : List Choice) → (trying m pc first cs).chosen ≡ option_map told_choice (find (fits m pc) cs)
tried_chosen m pc first [] = refl
tried_chosen m pc first (c ∷ cs) = chosen_step m pc first c cs (choice_objection m pc c) (λ f. tried_chosen m pc f cs)

-- once something is noted it stays
kept_step : (m : Machine) (pc : ℕ) (o : Objection) (c : Choice) (cs : List Choice) (p : Option Objection) → (trying m pc (Some o) cs).first ≡ Some o →
    (elim p as (λ x. Outcome) [ None ↦ record { chosen = Some (told_choice c); first = Some o } | Some q ↦ trying m pc (option_or (Some o) (Some q)) cs ]).first ≡ Some o
kept_step m pc o c cs None later = refl
kept_step m pc o c cs (Some q) later = later

kept : (m : Machine) (pc : ℕ) (o : Objection) (cs : List Choice) → (trying m pc (Some o) cs).first ≡ Some o
kept m pc o [] = refl
kept m pc o (c ∷ cs) = kept_step m pc o c cs (choice_objection m pc c) (kept m pc o cs)

abbrev first_wrong : Machine → ℕ → List Choice → Option Objection
first_wrong m pc [] = None
first_wrong m pc (c ∷ cs) = choice_objection m pc c

noted_step : (m : Machine) (pc : ℕ) (c : Choice) (cs : List Choice) (p : Option Objection) →
    (elim p as (λ x. Outcome) [ None ↦ record { chosen = Some (told_choice c); first = None } | Some q ↦ trying m pc (option_or None (Some q)) cs ]).first ≡ p
noted_step m pc c cs None = refl
noted_step m pc c cs (Some q) = kept m pc q cs

noted : (m : Machine) (pc : ℕ) (cs : List Choice) → (trying m pc None cs).first ≡ first_wrong m pc cs
noted m pc [] = refl
noted m pc (c ∷ cs) = noted_step m pc c cs (choice_objection m pc c)

unfit_told : (o : Option Objection) (text : List ℕ) → fault_refusal (unfit o text) ≡ unfit_refusal o (squeezed text)
unfit_told None text = refl
unfit_told (Some o) text = refl

unchosen_told : (m : Machine) (pc : ℕ) (text : List ℕ) (cs : List Choice) → fault_refusal (unchosen m pc text cs) ≡ unfit_refusal (first_wrong m pc cs) (squeezed text)
unchosen_told m pc text [] = refl
unchosen_told m pc text (c ∷ cs) = unfit_told (choice_objection m pc c) text

told_of : (fault : SourceFault) (refusal : Refusal) (found : Option Choice) → fault_refusal fault ≡ refusal → (r : Option declared.Choice) → r ≡ option_map told_choice found →
    told (chosen_of fault found) ≡ (elim r as (λ x. Result declared.Choice Refusal) [ None ↦ Err refusal | Some c ↦ Ok c ])
told_of fault refusal None e r f = ap Err e ∙ sym (ap (λ x. elim x as (λ y. Result declared.Choice Refusal) [ None ↦ Err refusal | Some c ↦ Ok c ]) f)
told_of fault refusal (Some c) e r f = sym (ap (λ x. elim x as (λ y. Result declared.Choice Refusal) [ None ↦ Err refusal | Some c ↦ Ok c ]) f)

concluded : (m : Machine) (pc : ℕ) (words : List (List ℕ)) (text : List ℕ) (r : Option declared.Choice) (first : Option Misfit) → outcome m r first ≡ trying m pc None (splitting_squeezed m words (squeezed text)) →
    told (chosen m words pc text) ≡ (elim r as (λ x. Result declared.Choice Refusal) [ None ↦ Err (unfit_refusal (option_map (said m) first) (squeezed text)) | Some c ↦ Ok c ])
unfolding chosen
concluded m pc words text r first came =
    let noted_first : first_wrong m pc (splitting m words text) ≡ option_map (said m) first = sym (noted m pc (splitting m words text)) ∙ sym (ap (λ t. t.first) came) in
    told_of (unchosen m pc text (splitting m words text)) (unfit_refusal (option_map (said m) first) (squeezed text)) (find (fits m pc) (splitting m words text))
    (unchosen_told m pc text (splitting m words text) ∙ ap (λ o. unfit_refusal o (squeezed text)) noted_first) r (ap (λ t. t.chosen) came ∙ tried_chosen m pc None (splitting m words text))

pub chosen_is : (m : Machine) (x : Index) (pc : ℕ) (text squeezed_text : List ℕ) (c : declared.Choice) (first : Option Misfit) → IsIndex m x → squeezed_text ≡ squeezed text →
    outcome m (Some c) first ≡ trying m pc None (splitting_squeezed m x.keywords squeezed_text) → told (chosen m (keywords m) pc text) ≡ Ok c
chosen_is m x pc text squeezed_text c first index e came =
    ap told (sym (chosen_alike x.keywords (keywords m) index.keywords m pc text)) ∙ concluded m pc x.keywords text (Some c) first (subst (λ t. outcome m (Some c) first ≡ trying m pc None (splitting_squeezed m x.keywords t)) e came)

pub refused_is : (m : Machine) (x : Index) (pc : ℕ) (text squeezed_text : List ℕ) (refusal : Refusal) (first : Option Misfit) → IsIndex m x → squeezed_text ≡ squeezed text →
    outcome m None first ≡ trying m pc None (splitting_squeezed m x.keywords squeezed_text) → refusal ≡ unfit_refusal (option_map (said m) first) squeezed_text → told (chosen m (keywords m) pc text) ≡ Err refusal
refused_is m x pc text squeezed_text refusal first index e came r =
    ap told (sym (chosen_alike x.keywords (keywords m) index.keywords m pc text))
    ∙ concluded m pc x.keywords text None first (subst (λ t. outcome m None first ≡ trying m pc None (splitting_squeezed m x.keywords t)) e came)
    ∙ ap Err (ap (unfit_refusal (option_map (said m) first)) (sym e) ∙ sym r)

pub ruleset choosing = (chosen_is, refused_is)
