-- How instructions are shown, slots by the numbers of their operands.
use Rattle.std.specs.Prelude.{ℕ, zero, suc, ◌+◌, ◌<◌, ◌≤◌, Bool, true, false, if◌then◌else◌, List, [], ◌∷◌, ◌++◌, length, drop, Option, Some, None, slice_get}
use Rattle.std.specs.Option.{option_map}
use Rattle.std.proofs.Common.{◌≡◌, refl, sym, ap, ◌∙◌, get_or, append_assoc, arith}
use Rattle.std.proofs.lemmas.Bool.{false≢true}
use Rattle.std.proofs.lemmas.List.{append-nil, drop_all}
use Rattle.cg_syntax_fit.proofs.Values.{drop_next}
use Rattle.cg_code.proofs.Extracted.{few_bits}
use Rattle.cg_syntax_fit.proofs.Fits.{operands_there}
use Rattle.cg_syntax_fit.proofs.Slots.{by_number, first_there, gotten, later_there}
use Rattle.cg_syntax_fit.specs.Slots.{operands_of, AreThere}
use Rattle.cg_model_source.specs.Listing as spec
use Rattle.cg_model_source.specs.Listing.{shown_value, shown_before, shown_marks, shown}
use Rattle.cg_model.specs.Slots.{slots_of}
use Rattle.cg_model.specs.Sound.{SoundInsn}
use Rattle.cg_model_source.specs.Squeezing.{squeezed_syntax}
use Rattle.cg_model.specs.declared.insn.Insn.{Insn}
use Rattle.cg_model.specs.declared.machine.Machine.{Machine}
use Rattle.cg_model.specs.declared.operand.Operand.{Operand}
use Rattle.cg_model_source.specs.declared.written.Mark.{Mark}
use Rattle.cg_model_source.specs.declared.written.Mark.TheVariants.{Byte, Slot}
use Rattle.cg_model_faults.specs.E313.{slot_operands}
use Rattle.cg_syntax.specs.Showing.{slot_shown, mark_shown, marks_shown, shown_at}

pub ruleset wording = (few_bits)

pub ruleset signing = (few_bits)

-- A slot by the number of its operand.
one_slot : (m : Machine) (x : ℕ) (o : Operand) (value : Option ℕ) → slice_get m.operands x ≡ Some o → slot_shown m (Some x) value ≡ spec.shown_slot m (Some o) value
one_slot m x o None at = refl
one_slot m x o (Some v) at = ap (λ y. elim y as (λ z. Option (List ℕ)) [ None ↦ None | Some p ↦ shown_value m p v ]) at

slot_in : (m : Machine) (x : ℕ) (ks : List ℕ) (o : Operand) (k : ℕ) (value : Option ℕ) → slice_get m.operands x ≡ Some o → ((j : ℕ) → slot_shown m (slice_get ks j) value ≡ spec.shown_slot m (slice_get (operands_of m ks) j) value) →
    slot_shown m (slice_get (x ∷ ks) k) value ≡ spec.shown_slot m (slice_get (o ∷ operands_of m ks) k) value
slot_in m x ks o zero value at later = one_slot m x o value at
slot_in m x ks o (suc k) value at later = later k

slot_at : (m : Machine) (ks : List ℕ) (k : ℕ) (value : Option ℕ) → AreThere m ks → slot_shown m (slice_get ks k) value ≡ spec.shown_slot m (slice_get (operands_of m ks) k) value
slot_at m [] k None there = refl
slot_at m [] k (Some v) there = refl
slot_at m (x ∷ ks) k value there =
    let here : (o : Operand) × (slice_get m.operands x ≡ Some o) = gotten m.operands x (there 0 (omega arith)) in
    slot_in m x ks here.0 k value here.1 (λ j. slot_at m ks j value (later_there m x ks there)) ∙ ap (λ os. spec.shown_slot m (slice_get os k) value) (sym (first_there m x ks here.0 here.1))

mark_at : (m : Machine) (ks vs : List ℕ) (x : Mark) → AreThere m ks → mark_shown m ks vs x ≡ spec.shown_mark m (operands_of m ks) vs x
mark_at m ks vs (Byte b) there = refl
mark_at m ks vs (Slot k) there = slot_at m ks k (slice_get vs k) there

marks_at : (m : Machine) (ks vs : List ℕ) (ms : List Mark) → AreThere m ks → marks_shown m ks vs ms ≡ shown_marks m (operands_of m ks) vs ms
marks_at m ks vs [] there = refl
marks_at m ks vs (x ∷ ms) there = ap (λ t. shown_before t (marks_shown m ks vs ms)) (mark_at m ks vs x there) ∙ ap (shown_before (spec.shown_mark m (operands_of m ks) vs x)) (marks_at m ks vs ms there)

pub shown_is : (m : Machine) (k : ℕ) (i : Insn) (ks vs : List ℕ) (ms : List Mark) (text : Option (List ℕ)) → slice_get m.insns k ≡ Some i → SoundInsn m i → ks ≡ slot_operands i.parts → ms ≡ squeezed_syntax i.pieces → text ≡ marks_shown m ks vs ms →
    text ≡ shown_at m k vs
unfolding shown
shown_is m k i ks vs ms text at sound e s t =
    t ∙ marks_at m ks vs ms (operands_there m i ks sound e) ∙ ap (λ os. shown_marks m os vs ms) (ap (operands_of m) e ∙ sym (by_number m i.parts)) ∙ ap (shown_marks m (slots_of m i.parts) vs) s
    ∙ sym (ap (λ o. elim o as (λ x. Option (List ℕ)) [ None ↦ None | Some j ↦ shown_marks m (slots_of m j.parts) vs (squeezed_syntax j.pieces) ]) at)

pub ruleset showing = (shown_is)

-- The marks so far, with those that are left.
abbrev pub MarksLeft : Machine → List ℕ → List ℕ → List ℕ → List Mark → Option (List ℕ) → Type 0
MarksLeft m ks vs text ms whole = option_map (λ t. text ++ t) (marks_shown m ks vs ms) ≡ whole

before_more : (text : List ℕ) (a b : Option (List ℕ)) → option_map (λ t. text ++ t) (shown_before a b) ≡ (elim (option_map (λ t. text ++ t) a) as (λ x. Option (List ℕ)) [ None ↦ None | Some now ↦ option_map (λ t. now ++ t) b ])
before_more text None b = refl
before_more text (Some t) None = refl
before_more text (Some t) (Some u) = ap Some (sym (append_assoc text t u))

one_mark : (m : Machine) (ks vs text now : List ℕ) (ms : List Mark) (k : ℕ) (d : Mark) (whole : Option (List ℕ)) (can : Bool) → k < length ms → option_map (λ t. text ++ t) (mark_shown m ks vs (get_or ms k d)) ≡ (if can then Some now else None) →
    MarksLeft m ks vs text (drop k ms) whole → (if can then option_map (λ t. now ++ t) (marks_shown m ks vs (drop (k + 1) ms)) else None) ≡ whole
one_mark m ks vs text now ms k d whole true within e so =
    ap (λ x. elim x as (λ y. Option (List ℕ)) [ None ↦ None | Some n ↦ option_map (λ t. n ++ t) (marks_shown m ks vs (drop (k + 1) ms)) ]) (sym e)
    ∙ sym (before_more text (mark_shown m ks vs (get_or ms k d)) (marks_shown m ks vs (drop (k + 1) ms))) ∙ ap (λ xs. option_map (λ t. text ++ t) (marks_shown m ks vs xs)) (sym (drop_next ms k d within)) ∙ so
one_mark m ks vs text now ms k d whole false within e so =
    ap (λ x. elim x as (λ y. Option (List ℕ)) [ None ↦ None | Some n ↦ option_map (λ t. n ++ t) (marks_shown m ks vs (drop (k + 1) ms)) ]) (sym e)
    ∙ sym (before_more text (mark_shown m ks vs (get_or ms k d)) (marks_shown m ks vs (drop (k + 1) ms))) ∙ ap (λ xs. option_map (λ t. text ++ t) (marks_shown m ks vs xs)) (sym (drop_next ms k d within)) ∙ so

pub mark_put : (m : Machine) (ks vs text now : List ℕ) (ms : List Mark) (k : ℕ) (d : Mark) (whole : Option (List ℕ)) (can : Bool) → k < length ms → can ≡ true → option_map (λ t. text ++ t) (mark_shown m ks vs (get_or ms k d)) ≡ (if can then Some now else None) →
    MarksLeft m ks vs text (drop k ms) whole → MarksLeft m ks vs now (drop (k + 1) ms) whole
mark_put m ks vs text now ms k d whole true within can e so = one_mark m ks vs text now ms k d whole true within e so
mark_put m ks vs text now ms k d whole false within can e so = absurd (false≢true can)

pub mark_not_put : (m : Machine) (ks vs text now : List ℕ) (ms : List Mark) (k : ℕ) (d : Mark) (whole : Option (List ℕ)) → k < length ms → option_map (λ t. text ++ t) (mark_shown m ks vs (get_or ms k d)) ≡ (if false then Some now else None) →
    MarksLeft m ks vs text (drop k ms) whole → (let none : Option (List ℕ) = None in none) ≡ whole
mark_not_put m ks vs text now ms k d whole within e so = one_mark m ks vs text now ms k d whole false within e so

pub all_put : (m : Machine) (ks vs text : List ℕ) (ms : List Mark) (k : ℕ) (whole : Option (List ℕ)) → length ms ≤ k → MarksLeft m ks vs text (drop k ms) whole → Some text ≡ whole
all_put m ks vs text ms k whole past so = ap Some (sym (append-nil text)) ∙ ap (λ xs. option_map (λ t. text ++ t) (marks_shown m ks vs xs)) (sym (drop_all k ms past)) ∙ so

nothing_yet : (r : Option (List ℕ)) → option_map (λ t. [] ++ t) r ≡ r
nothing_yet None = refl
nothing_yet (Some t) = refl

pub none_put : (m : Machine) (ks vs : List ℕ) (ms : List Mark) → MarksLeft m ks vs [] (drop 0 ms) (marks_shown m ks vs ms)
none_put m ks vs ms = nothing_yet (marks_shown m ks vs ms)

pub ruleset marking = (mark_not_put, all_put, none_put)
