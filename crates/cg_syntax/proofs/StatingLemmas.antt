-- The bytes of a statement.
use Rattle.std.specs.Prelude.{ℕ, ◌%◌, ◌^◌, Bool, true, false, if◌then◌else◌, List, [], ◌∷◌, ◌++◌, length, Option, Some, None, Result, Ok, Err, slice_get, codes}
use Rattle.std.specs.Option.{option_map}
use Rattle.std.proofs.Common.{◌≡◌, ◌+◌, refl, sym, ap, ◌∙◌, subst, arith}
use Rattle.std.proofs.lemmas.Option.{slice_get_within}
use Rattle.cg_base.specs.Refusing.{first}
use Rattle.cg_base.specs.Texts.{seen_text}
use Rattle.cg_base.specs.declared.refusal.Refusal.{Refusal}
use Rattle.cg_syntax_choose.proofs.ChosenLemmas.{IsOf, chosen_of_machine}
use Rattle.cg_syntax_choose.proofs.FrontLemmas.{none_is_none}
use Rattle.cg_syntax_choose.specs.Indexing.{GivesAll}
use Rattle.cg_syntax_choose.specs.Trying.{told_choice, fault_refusal, as_choice, operands_at}
use Rattle.cg_syntax_lines.specs.Seen.{seen_statement, seen_line}
use Rattle.cg_syntax_lines.specs.declared.line.Line as declared_line
use Rattle.cg_model_source.specs.Bundling as spec
use Rattle.cg_model_source.specs.Bundling.{BundlePart, empty, refused, stands, chosen_part, part_of, parts_at, instruction_bytes, with_bundle_bit}
use Rattle.cg_model_source.specs.Choosing.{Choice, SourceFault, bytes_for, known_all, chosen}
use Rattle.cg_model_source.specs.Lining.{Statement, nothing, directive, bundle, is_readable, read_line}
use Rattle.cg_model.specs.Sound.{IsSound}
use Rattle.cg_model_source.specs.Sourcing as sourcing
use Rattle.cg_model_source.specs.Spelling.{keywords}
use Rattle.cg_model_source.specs.Stating as stating
use Rattle.cg_model_source.specs.Stating.{statement_faults, parts_bytes, unless_at_fault, stated_parts, stated_line, stated}
use Rattle.cg_model.specs.declared.insn.Insn.{Insn}
use Rattle.cg_model.specs.declared.machine.Machine.{Machine}
use Rattle.cg_model_faults.specs.E313.{slot_operands}
use Rattle.cg_model_source.specs.E608.{malformed_line}
use Rattle.cg_syntax.proofs.BundleLemmas.{same_pc, same_bytes}
use Rattle.cg_syntax.proofs.FaultLemmas.{statement_told}
use Rattle.cg_syntax.specs.Faulting.{said_alone, statement_fault, refusal_of}
use Rattle.cg_syntax.specs.Laying.{bytes_at, IsWithin, AreWithin, part_bytes, is_more, told_bytes}
use Rattle.cg_syntax.specs.Telling.{told_part, told_parts}
use Rattle.cg_syntax.specs.declared.bundle.Part.{Part}

-- Each part of a bundle that stands is of the machine.
abbrev pub Stand : Machine → BundlePart → Type 0
Stand m (stands address c) = IsOf m c
Stand m _ = Unit {0}

abbrev pub AllStand : Machine → List BundlePart → Type 0
AllStand m [] = Unit {0}
AllStand m (p ∷ ps) = Stand m p × AllStand m ps

stand_by : (m : Machine) (words : List (List ℕ)) (address : ℕ) (text : List ℕ) (r : Result Choice SourceFault) → GivesAll m → chosen m words address text ≡ r → Stand m (chosen_part address r)
stand_by m words address text (Ok c) gives e = chosen_of_machine m words address text c gives e
stand_by m words address text (Err fault) gives e = tt

part_stands : (m : Machine) (words : List (List ℕ)) (address : ℕ) (text : List ℕ) → GivesAll m → Stand m (part_of m words address text)
part_stands m words address [] gives = tt
part_stands m words address (b ∷ bs) gives = stand_by m words address (b ∷ bs) (chosen m words address (b ∷ bs)) gives refl

pub parts_stand : (m : Machine) (words : List (List ℕ)) (address : ℕ) (texts : List (List ℕ)) → GivesAll m → AllStand m (parts_at m words address texts)
parts_stand m words address [] gives = tt
parts_stand m words address (t ∷ texts) gives = (part_stands m words address t gives, parts_stand m words (address + spec.part_size m (part_of m words address t)) texts gives)

-- Told by the numbers of their instructions they give the same bytes.
operands_is : (m : Machine) (k : ℕ) (i : Insn) → slice_get m.insns k ≡ Some i → operands_at m k ≡ slot_operands i.parts
operands_is m k i at = ap (λ o. elim o as (λ x. List ℕ) [ None ↦ [] | Some j ↦ slot_operands j.parts ]) at

within_by : (m : Machine) (p : BundlePart) → Stand m p → IsWithin m (told_part p)
within_by m empty stand = tt
within_by m (refused fault) stand = tt
within_by m (stands address c) stand = (slice_get_within m.insns c.number c.insn stand.at, stand.as_many ∙ sym (ap length (operands_is m c.number c.insn stand.at)))

are_within : (m : Machine) (ps : List BundlePart) → AllStand m ps → AreWithin m (told_parts ps)
are_within m [] all = tt
are_within m (p ∷ ps) all = (within_by m p all.0, are_within m ps all.1)

pub parts_within : (m : Machine) (words : List (List ℕ)) (address : ℕ) (texts : List (List ℕ)) (parts : List Part) → GivesAll m → parts ≡ told_parts (parts_at m words address texts) → AreWithin m parts
parts_within m words address texts parts gives e = subst (AreWithin m) (sym e) (are_within m (parts_at m words address texts) (parts_stand m words address texts gives))

at_insn : (m : Machine) (c : Choice) (address : ℕ) (more : Bool) → slice_get m.insns c.number ≡ Some c.insn → bytes_at m (told_choice c) (known_all c.sums) address more ≡ instruction_bytes m more address c (known_all c.sums)
at_insn m c address more at = ap (λ o. elim o as (λ x. List ℕ) [ None ↦ [] | Some i ↦ instruction_bytes m more address (as_choice (told_choice c) i) (known_all c.sums) ]) at

same_instruction : (m : Machine) (more : Bool) (c : Choice) (a b : ℕ) → bytes_for m c.insn (known_all c.sums) a ≡ bytes_for m c.insn (known_all c.sums) b → instruction_bytes m more a c (known_all c.sums) ≡ instruction_bytes m more b c (known_all c.sums)
same_instruction m more c a b e = ap (λ t. if more then with_bundle_bit m m.bundle t else t) e

one_part : (m : Machine) (p : BundlePart) (more : Bool) → IsSound m → Stand m p → part_bytes m (told_part p) more ≡ stating.part_bytes m p more
one_part m empty more sound stand = refl
one_part m (refused fault) more sound stand = refl
one_part m (stands address c) more sound stand =
    let same : address % 2 ^ 64 % 2 ^ 64 ≡ address % 2 ^ 64 = omega arith in
    at_insn m c (address % 2 ^ 64) more stand.at ∙ same_instruction m more c (address % 2 ^ 64) address (same_bytes m c.insn (known_all c.sums) (address % 2 ^ 64) address (same_pc m (address % 2 ^ 64) address sound same))

more_told : (ps : List BundlePart) → is_more (told_parts ps) ≡ sourcing.is_more ps
more_told [] = refl
more_told (p ∷ ps) = refl

all_told : (m : Machine) (ps : List BundlePart) → IsSound m → AllStand m ps → told_bytes m (told_parts ps) ≡ parts_bytes m ps
all_told m [] sound all = refl
all_told m (p ∷ ps) sound all =
    ap (λ b. part_bytes m (told_part p) b ++ told_bytes m (told_parts ps)) (more_told ps)
    ∙ ap (λ t. t ++ told_bytes m (told_parts ps)) (one_part m p (sourcing.is_more ps) sound all.0)
    ∙ ap (λ t. stating.part_bytes m p (sourcing.is_more ps) ++ t) (all_told m ps sound all.1)

-- A statement of parts.
by_fault : (m : Machine) (fault : Option SourceFault) (bytes : List ℕ) (refusal : Refusal) → option_map fault_refusal fault ≡ Some refusal → refusal_of (unless_at_fault fault bytes) ≡ Some refusal
by_fault m None bytes refusal e = absurd (none_is_none e)
by_fault m (Some fault) bytes refusal e = e

no_fault : (fault : Option SourceFault) (bytes : List ℕ) → option_map fault_refusal fault ≡ None → unless_at_fault fault bytes ≡ Ok bytes
no_fault None bytes e = refl
no_fault (Some fault) bytes e = absurd (none_is_none (sym e))

pub at_fault : (m : Machine) (label : Option (List ℕ)) (address : ℕ) (texts : List (List ℕ)) (parts : List Part) (refusal : Refusal) → parts ≡ told_parts (parts_at m (keywords m) address texts) → Some refusal ≡ statement_fault m label parts →
    refusal_of (stated_parts m label (parts_at m (keywords m) address texts)) ≡ Some refusal
at_fault m label address texts parts refusal p e =
    by_fault m (first (statement_faults m label (parts_at m (keywords m) address texts))) (parts_bytes m (parts_at m (keywords m) address texts)) refusal
    (statement_told m label (parts_at m (keywords m) address texts) ∙ ap (statement_fault m label) (sym p) ∙ sym e)

pub without_fault : (m : Machine) (label : Option (List ℕ)) (address : ℕ) (texts : List (List ℕ)) (parts : List Part) (bytes : List ℕ) → IsSound m → GivesAll m → parts ≡ told_parts (parts_at m (keywords m) address texts) → None ≡ statement_fault m label parts →
    bytes ≡ told_bytes m parts → stated_parts m label (parts_at m (keywords m) address texts) ≡ Ok bytes
without_fault m label address texts parts bytes sound gives p e b =
    no_fault (first (statement_faults m label (parts_at m (keywords m) address texts))) (parts_bytes m (parts_at m (keywords m) address texts))
    (statement_told m label (parts_at m (keywords m) address texts) ∙ ap (statement_fault m label) (sym p) ∙ sym e)
    ∙ ap Ok (sym (b ∙ ap (told_bytes m) p ∙ all_told m (parts_at m (keywords m) address texts) sound (parts_stand m (keywords m) address texts gives)))

pub ruleset parts_stating = (at_fault, without_fault, parts_within)

-- A statement of a text.
readable_or_not : (m : Machine) (pc : ℕ) (text : List ℕ) (readable : Bool) → is_readable 3800 text ≡ readable → stated m pc text ≡ (if readable then stated_line m pc (read_line text).label (read_line text).statement else Err malformed_line)
unfolding stated
readable_or_not m pc text readable e = ap (λ b. if b then stated_line m pc (read_line text).label (read_line text).statement else Err malformed_line) e

pub not_readable : (m : Machine) (pc : ℕ) (text : List ℕ) → is_readable 3800 text ≡ false → refusal_of (stated m pc text) ≡ Some (said_alone 608 (codes "line"))
not_readable m pc text e = ap refusal_of (readable_or_not m pc text false e)

by_line : (m : Machine) (pc : ℕ) (text : List ℕ) (line : declared_line.Line) (s : Statement) → is_readable 3800 text ≡ true → seen_line line ≡ read_line text → seen_statement line.statement ≡ s →
    stated m pc text ≡ stated_line m pc (option_map seen_text line.label) s
by_line m pc text line s readable seen e =
    readable_or_not m pc text true readable ∙ ap (λ l. stated_line m pc l.label l.statement) (sym seen) ∙ ap (stated_line m pc (option_map seen_text line.label)) e

pub states_nothing : (m : Machine) (pc : ℕ) (text : List ℕ) (line : declared_line.Line) → is_readable 3800 text ≡ true → seen_line line ≡ read_line text → seen_statement line.statement ≡ nothing →
    stated m pc text ≡ stated_parts m (option_map seen_text line.label) (parts_at m (keywords m) pc [])
states_nothing m pc text line readable seen e = by_line m pc text line nothing readable seen e

pub states_directive : (m : Machine) (pc : ℕ) (text name rest : List ℕ) (line : declared_line.Line) → is_readable 3800 text ≡ true → seen_line line ≡ read_line text → seen_statement line.statement ≡ directive name rest →
    refusal_of (stated m pc text) ≡ Some (said_alone 608 name)
states_directive m pc text name rest line readable seen e = ap refusal_of (by_line m pc text line (directive name rest) readable seen e)

pub states_bundle : (m : Machine) (pc : ℕ) (text : List ℕ) (texts : List (List ℕ)) (line : declared_line.Line) → is_readable 3800 text ≡ true → seen_line line ≡ read_line text → seen_statement line.statement ≡ bundle texts →
    stated m pc text ≡ stated_parts m (option_map seen_text line.label) (parts_at m (keywords m) pc texts)
states_bundle m pc text texts line readable seen e = by_line m pc text line (bundle texts) readable seen e

pub ruleset reading = (not_readable, states_nothing, states_directive, states_bundle)
