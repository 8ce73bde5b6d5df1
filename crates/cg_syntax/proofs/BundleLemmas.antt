-- The parts of a bundle, with addresses modulo 2 ^ 64.
use Rattle.std.specs.Prelude.{ℕ, ◌+◌, ◌%◌, ◌^◌, ◌<◌, ◌≤◌, Bool, true, false, not, cond, is_some, List, [], ◌∷◌, ◌++◌, length, map, drop, ℤ, Option, Some, None, Result, Ok, Err, find, slice_get}
use Rattle.std.specs.Option.{option_or}
use Rattle.std.specs.Result.{result_ok, result_err}
use Rattle.std.proofs.Common.{◌≡◌, refl, sym, ap, ◌∙◌, get_or, append_assoc, arith}
use Rattle.std.proofs.lemmas.List.{append-nil}
use Rattle.std.proofs.lemmas.Option.{slice_get-get_or}
use Rattle.std.proofs.lemmas.Bool.{both_ways}
use Rattle.cg_base.proofs.Words.{lowest_of_lowest}
use Rattle.cg_base.specs.declared.refusal.Refusal.{Refusal}
use Rattle.cg_syntax_choose.proofs.ChosenLemmas.{chosen_of_machine}
use Rattle.cg_syntax_choose.proofs.FrontLemmas.{same_some}
use Rattle.cg_syntax_choose.specs.Indexing.{GivesAll}
use Rattle.cg_syntax_choose.specs.Trying.{told_choice, told}
use Rattle.cg_syntax_choose.specs.declared.trying.Choice as declared
use Rattle.cg_code.proofs.Extracted.{word_bits_few}
use Rattle.cg_syntax_fit.proofs.Values.{drop_next}
use Rattle.cg_model_source.specs.Bundling as spec
use Rattle.cg_model_source.specs.Bundling.{chosen_part, part_of, parts_at}
use Rattle.cg_model_source.specs.Choosing.{Choice, SourceFault, objection, bytes_for, values_for, first_out_of_range, assertion_objection, choice_objection, fits, unchosen, unfit, chosen_of, chosen, splitting, known_all}
use Rattle.cg_model.specs.Clashing.{length_at}
use Rattle.cg_model.specs.Encoding.{candidate, own_pc}
use Rattle.cg_model.specs.Matching.{length_of}
use Rattle.cg_model.specs.Slots.{slots_of, values}
use Rattle.cg_model.specs.Sound.{IsSound}
use Rattle.cg_model.specs.declared.insn.Insn.{Insn}
use Rattle.cg_model.specs.declared.machine.Machine.{Machine}
use Rattle.cg_model_source.specs.declared.written.Sum.{Sum}
use Rattle.cg_syntax.specs.Telling.{told_part, told_parts, part_size, label_of, first_term}
use Rattle.cg_syntax.specs.declared.bundle.Part.{Part}
use Rattle.cg_syntax.specs.declared.bundle.Part.TheVariants.{Empty, Refused, Stands}

-- Addresses that are the same modulo 2 ^ 64 are the same modulo 2 ^ bits of the word.
pub same_pc : (m : Machine) (a b : ℕ) → IsSound m → a % 2 ^ 64 ≡ b % 2 ^ 64 → own_pc m a ≡ own_pc m b
same_pc m a b sound e =
    sym (lowest_of_lowest m.word_bits a (word_bits_few m sound)) ∙ ap (λ n. n % 2 ^ m.word_bits) e ∙ lowest_of_lowest m.word_bits b (word_bits_few m sound)

pub same_objection : (m : Machine) (i : Insn) (numbers : List (Option ℤ)) (a b : ℕ) → own_pc m a ≡ own_pc m b → objection m i numbers a ≡ objection m i numbers b
unfolding objection
same_objection m i numbers a b e =
    ap (λ pc. option_or (first_out_of_range m (slots_of m i.parts) numbers (values m i (candidate m i (values_for m (slots_of m i.parts) numbers) pc) pc))
    (assertion_objection m i numbers (candidate m i (values_for m (slots_of m i.parts) numbers) pc))) e

pub same_bytes : (m : Machine) (i : Insn) (numbers : List (Option ℤ)) (a b : ℕ) → own_pc m a ≡ own_pc m b → bytes_for m i numbers a ≡ bytes_for m i numbers b
same_bytes m i numbers a b e = ap (candidate m i (values_for m (slots_of m i.parts) numbers)) e

same_choice : (m : Machine) (a b : ℕ) → own_pc m a ≡ own_pc m b → (c : Choice) → choice_objection m a c ≡ choice_objection m b c
same_choice m a b e c = same_objection m c.insn (known_all c.sums) a b e

found_alike : (f g : Choice → Bool) (cs : List Choice) → ((c : Choice) → f c ≡ g c) → find f cs ≡ find g cs
found_alike f g [] same = refl
found_alike f g (c ∷ cs) same = ap (λ t. cond t (Some c) (find f cs)) (same c) ∙ ap (cond (g c) (Some c)) (found_alike f g cs same)

unchosen_alike : (m : Machine) (a b : ℕ) (text : List ℕ) (cs : List Choice) → own_pc m a ≡ own_pc m b → unchosen m a text cs ≡ unchosen m b text cs
unchosen_alike m a b text [] e = refl
unchosen_alike m a b text (c ∷ cs) e = ap (λ o. unfit o text) (same_choice m a b e c)

pub same_chosen : (m : Machine) (words : List (List ℕ)) (a b : ℕ) (text : List ℕ) → own_pc m a ≡ own_pc m b → chosen m words a text ≡ chosen m words b text
unfolding chosen
same_chosen m words a b text e =
    ap (λ f. chosen_of f (find (fits m a) (splitting m words text))) (unchosen_alike m a b text (splitting m words text) e)
    ∙ ap (chosen_of (unchosen m b text (splitting m words text))) (found_alike (fits m a) (fits m b) (splitting m words text) (λ c. ap (λ o. not (is_some o)) (same_choice m a b e c)))

at_address : (a b : ℕ) (s : Result Choice SourceFault) → a % 2 ^ 64 ≡ b % 2 ^ 64 → told_part (chosen_part a s) ≡ told_part (chosen_part b s)
at_address a b (Ok c) e = ap (λ n. Stands n (told_choice c)) e
at_address a b (Err fault) e = refl

told_chosen : (a b : ℕ) (r s : Result Choice SourceFault) → a % 2 ^ 64 ≡ b % 2 ^ 64 → r ≡ s → told_part (chosen_part a r) ≡ told_part (chosen_part b s)
told_chosen a b r s e same = ap (λ x. told_part (chosen_part a x)) same ∙ at_address a b s e

pub same_part : (m : Machine) (words : List (List ℕ)) (a b : ℕ) (text : List ℕ) → IsSound m → a % 2 ^ 64 ≡ b % 2 ^ 64 → told_part (part_of m words a text) ≡ told_part (part_of m words b text)
same_part m words a b [] sound e = refl
same_part m words a b (c ∷ text) sound e = told_chosen a b (chosen m words a (c ∷ text)) (chosen m words b (c ∷ text)) e (same_chosen m words a b (c ∷ text) (same_pc m a b sound e))

-- the sizes don't depend on the address
size_of_chosen : (m : Machine) (a b : ℕ) (r : Result Choice SourceFault) → spec.part_size m (chosen_part a r) ≡ spec.part_size m (chosen_part b r)
size_of_chosen m a b (Ok c) = refl
size_of_chosen m a b (Err fault) = refl

same_size : (m : Machine) (words : List (List ℕ)) (a b : ℕ) (text : List ℕ) → IsSound m → a % 2 ^ 64 ≡ b % 2 ^ 64 → spec.part_size m (part_of m words a text) ≡ spec.part_size m (part_of m words b text)
same_size m words a b [] sound e = refl
same_size m words a b (c ∷ text) sound e =
    ap (λ r. spec.part_size m (chosen_part a r)) (same_chosen m words a b (c ∷ text) (same_pc m a b sound e)) ∙ size_of_chosen m a b (chosen m words b (c ∷ text))

same_sum : (a b s t : ℕ) → a % 2 ^ 64 ≡ b % 2 ^ 64 → s ≡ t → (a + s) % 2 ^ 64 ≡ (b + t) % 2 ^ 64
same_sum a b s t e f = omega (arith, e, f)

pub same_parts : (m : Machine) (words : List (List ℕ)) (a b : ℕ) (texts : List (List ℕ)) → IsSound m → a % 2 ^ 64 ≡ b % 2 ^ 64 → told_parts (parts_at m words a texts) ≡ told_parts (parts_at m words b texts)
same_parts m words a b [] sound e = refl
same_parts m words a b (t ∷ texts) sound e =
    ap (λ p. p ∷ told_parts (parts_at m words (a + spec.part_size m (part_of m words a t)) texts)) (same_part m words a b t sound e)
    ∙ ap (λ ps. told_part (part_of m words b t) ∷ ps)
    (same_parts m words (a + spec.part_size m (part_of m words a t)) (b + spec.part_size m (part_of m words b t)) texts sound (same_sum a b _ _ e (same_size m words a b t sound e)))

-- One part.
pub part_empty : (m : Machine) (words : List (List ℕ)) (address : ℕ) (text : List ℕ) → length text ≡ 0 → Empty ≡ told_part (part_of m words address text)
part_empty m words address [] none = refl
part_empty m words address (b ∷ bs) none = absurd (omega (arith, none))

is_ok : {A E : Type 0} → Result A E → Bool
is_ok (Ok x) = true
is_ok (Err e) = false

ok_or_err : {A E : Type 0} {x : A} {e : E} → (let r : Result A E = Err e in r) ≡ Ok x → ⊥
unfolding is_ok
ok_or_err h = both_ways false refl (ap is_ok h)

told_ok : (address : ℕ) (r : Result Choice SourceFault) (c : declared.Choice) → address < 2 ^ 64 → told r ≡ Ok c → Stands address c ≡ told_part (chosen_part address r)
told_ok address (Ok x) c fits e =
    let same : address ≡ address % 2 ^ 64 = omega (arith, fits) in
    ap (λ n. Stands n c) same ∙ ap (Stands (address % 2 ^ 64)) (sym (same_some (ap result_ok e)))
told_ok address (Err fault) c fits e = absurd (ok_or_err e)

told_err : (address : ℕ) (r : Result Choice SourceFault) (refusal : Refusal) → told r ≡ Err refusal → Refused refusal ≡ told_part (chosen_part address r)
told_err address (Ok x) refusal e = absurd (ok_or_err (sym e))
told_err address (Err fault) refusal e = ap Refused (sym (same_some (ap result_err e)))

pub part_stands : (m : Machine) (words : List (List ℕ)) (address : ℕ) (text : List ℕ) (c : declared.Choice) → 1 ≤ length text → address < 2 ^ 64 → told (chosen m words address text) ≡ Ok c → Stands address c ≡ told_part (part_of m words address text)
part_stands m words address [] c some fits e = absurd (omega (arith, some))
part_stands m words address (b ∷ bs) c some fits e = told_ok address (chosen m words address (b ∷ bs)) c fits e

pub part_refused : (m : Machine) (words : List (List ℕ)) (address : ℕ) (text : List ℕ) (refusal : Refusal) → 1 ≤ length text → told (chosen m words address text) ≡ Err refusal → Refused refusal ≡ told_part (part_of m words address text)
part_refused m words address [] refusal some e = absurd (omega (arith, some))
part_refused m words address (b ∷ bs) refusal some e = told_err address (chosen m words address (b ∷ bs)) refusal e

pub ruleset parting = (part_empty, part_stands, part_refused)

-- How many bytes a part has.
size_at : (m : Machine) (k : ℕ) (i : Insn) → slice_get m.insns k ≡ Some i → length_at m k ≡ length_of m i
size_at m k i at = ap (λ o. elim o as (λ x. ℕ) [ None ↦ 0 | Some j ↦ length_of m j ]) at

told_size_of : (m : Machine) (words : List (List ℕ)) (address : ℕ) (text : List ℕ) (r : Result Choice SourceFault) → GivesAll m → chosen m words address text ≡ r → part_size m (told_part (chosen_part address r)) ≡ spec.part_size m (chosen_part address r)
told_size_of m words address text (Ok c) gives e = size_at m c.number c.insn (chosen_of_machine m words address text c gives e).at
told_size_of m words address text (Err fault) gives e = refl

pub told_size : (m : Machine) (words : List (List ℕ)) (address : ℕ) (text : List ℕ) → GivesAll m → part_size m (told_part (part_of m words address text)) ≡ spec.part_size m (part_of m words address text)
told_size m words address [] gives = refl
told_size m words address (b ∷ bs) gives = told_size_of m words address (b ∷ bs) (chosen m words address (b ∷ bs)) gives refl

-- The parts so far, with those of the texts that are left.
abbrev pub PartsLeft : Machine → List (List ℕ) → List Part → ℕ → List (List ℕ) → List Part → Type 0
PartsLeft m words done at texts whole = done ++ told_parts (parts_at m words at texts) ≡ whole

pub next_part : (m : Machine) (words : List (List ℕ)) (done whole : List Part) (at next size : ℕ) (text : List ℕ) (texts : List (List ℕ)) (part : Part) → IsSound m → GivesAll m → part ≡ told_part (part_of m words at text) → size ≡ part_size m part →
    next ≡ (at + size) % 2 ^ 64 → PartsLeft m words done at (text ∷ texts) whole → PartsLeft m words (done ++ part ∷ []) next texts whole
next_part m words done whole at next size text texts part sound gives p s n so =
    let sizes : size ≡ spec.part_size m (part_of m words at text) = s ∙ ap (part_size m) p ∙ told_size m words at text gives in
    let here : next % 2 ^ 64 ≡ (at + spec.part_size m (part_of m words at text)) % 2 ^ 64 = omega (arith, n, sizes) in
    append_assoc done (part ∷ []) (told_parts (parts_at m words next texts))
    ∙ ap (λ x. done ++ x ∷ told_parts (parts_at m words next texts)) p
    ∙ ap (λ ps. done ++ told_part (part_of m words at text) ∷ ps) (same_parts m words next (at + spec.part_size m (part_of m words at text)) texts sound here)
    ∙ so

-- one part more
pub part_more : {A : Type 0} (see : A → List ℕ) (m : Machine) (words : List (List ℕ)) (xs : List A) (k : ℕ) (d : A) (old new whole : List Part) (at next size : ℕ) (part : Part) → IsSound m → GivesAll m → k < length xs →
    part ≡ told_part (part_of m words at (see (get_or xs k d))) → size ≡ part_size m part → next ≡ (at + size) % 2 ^ 64 → new ≡ old ++ part ∷ [] → PartsLeft m words old at (map see (drop k xs)) whole → PartsLeft m words new next (map see (drop (k + 1) xs)) whole
part_more see m words xs k d old new whole at next size part sound gives within p s n e so =
    ap (λ ps. ps ++ told_parts (parts_at m words next (map see (drop (k + 1) xs)))) e
    ∙ next_part m words old whole at next size (see (get_or xs k d)) (map see (drop (k + 1) xs)) part sound gives p s n
    (ap (λ ys. old ++ told_parts (parts_at m words at (map see ys))) (sym (drop_next xs k d within)) ∙ so)

pub no_part_left : (m : Machine) (words : List (List ℕ)) (done whole : List Part) (at : ℕ) → PartsLeft m words done at [] whole → done ≡ whole
no_part_left m words done whole at so = sym (append-nil done) ∙ so

pub ruleset all_parting = (no_part_left)

-- The first label of sums.
next_term : (ss : List Sum) (k : ℕ) (s : Sum) → k < length ss → slice_get ss k ≡ Some s → first_term (drop k ss) ≡ option_or (label_of s.terms) (first_term (drop (k + 1) ss))
next_term ss k s within at =
    let here : get_or ss k s ≡ s = same_some (sym (slice_get-get_or ss k s within) ∙ at) in
    ap first_term (drop_next ss k s within) ∙ ap (λ x. option_or (label_of x.terms) (first_term (drop (k + 1) ss))) here

pub term_found : (ss : List Sum) (k : ℕ) (s : Sum) (label : List ℕ) (whole : Option (List ℕ)) → k < length ss → slice_get ss k ≡ Some s → Some label ≡ label_of s.terms → first_term (drop k ss) ≡ whole → Some label ≡ whole
term_found ss k s label whole within at e so = ap (λ o. option_or o (first_term (drop (k + 1) ss))) e ∙ sym (next_term ss k s within at) ∙ so

pub term_passed : (ss : List Sum) (k : ℕ) (s : Sum) (whole : Option (List ℕ)) → k < length ss → slice_get ss k ≡ Some s → None ≡ label_of s.terms → first_term (drop k ss) ≡ whole → first_term (drop (k + 1) ss) ≡ whole
term_passed ss k s whole within at e so = ap (λ o. option_or o (first_term (drop (k + 1) ss))) e ∙ sym (next_term ss k s within at) ∙ so
