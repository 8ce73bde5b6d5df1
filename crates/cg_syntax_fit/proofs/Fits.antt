-- The bytes of an instruction for numbers, and what keeps it from standing for them.
use Rattle.std.specs.Prelude.{ℕ, ◌-◌, Bool, true, false, not, ◌&&◌, if◌then◌else◌, is_some, List, length, take, replicate, ℤ, Option, Some, None}
use Rattle.std.specs.List.{list_all}
use Rattle.std.specs.Option.{option_or, option_map}
use Rattle.std.proofs.Common.{◌≡◌, refl, sym, ap, ◌∙◌, subst}
use Rattle.std.proofs.lemmas.List.{length-map, take_at}
use Rattle.cg_code.specs.Coded.{Holds}
use Rattle.cg_model_source.specs.Choosing.{Objection, objection, bytes_for, values_for, first_out_of_range, assertion_objection}
use Rattle.cg_model.specs.Encoding.{AreFor, own_pc, in_place}
use Rattle.cg_model.specs.Matching.{asserts, length_of}
use Rattle.cg_model.specs.Slots.{slots_of, source_value, values}
use Rattle.cg_model.specs.Sound.{SoundInsn}
use Rattle.cg_model.specs.declared.insn.Insn.{Insn}
use Rattle.cg_model.specs.declared.insn.Values.{Values}
use Rattle.cg_model.specs.declared.machine.Machine.{Machine}
use Rattle.cg_model_faults.specs.E313.{slot_operands}
use Rattle.cg_syntax_fit.specs.Misfits.{said, first_misfit, fits_in}
use Rattle.cg_syntax_fit.specs.Slots.{operands_of, AreThere}
use Rattle.cg_syntax_fit.specs.declared.misfit.Misfit.{Misfit}
use Rattle.cg_syntax_fit.specs.declared.misfit.Misfit.TheVariants.{Assertion}
use Rattle.cg_syntax_fit.proofs.Misfits.{said_all}
use Rattle.cg_syntax_fit.proofs.Slots.{by_number, apart_there, as_many}
use Rattle.cg_syntax_fit.proofs.Values.{are_for}

sound_there : (m : Machine) (i : Insn) → SoundInsn m i → AreThere m (slot_operands i.parts)
sound_there m i sound = apart_there m i.parts sound.parts

pub operands_there : (m : Machine) (i : Insn) (ks : List ℕ) → SoundInsn m i → ks ≡ slot_operands i.parts → AreThere m ks
operands_there m i ks sound e = subst (AreThere m) (sym e) (sound_there m i sound)

-- What the code holds of the values that come back.
pub held_backs : (m : Machine) (i : Insn) (bytes : List ℕ) (pc : ℕ) (x : Values) → Holds x (values m i bytes pc) → take x.count x.numbers ≡ values m i bytes pc
held_backs m i bytes pc x h = ap (take x.count) h.numbers ∙ take_at (values m i bytes pc) (replicate (16 - length (values m i bytes pc)) 0) x.count (sym h.count)

pub as_many_backs : (m : Machine) (i : Insn) (ks : List ℕ) (bytes : List ℕ) (pc : ℕ) → SoundInsn m i → ks ≡ slot_operands i.parts → length (values m i bytes pc) ≡ length ks
as_many_backs m i ks bytes pc sound e =
    length-map (slots_of m i.parts) (source_value m bytes pc) ∙ ap length (by_number m i.parts) ∙ as_many m (slot_operands i.parts) (sound_there m i sound) ∙ sym (ap length e)

said_first : (m : Machine) (i : Insn) (ks : List ℕ) (numbers : List (Option ℤ)) (backs : List ℕ) → SoundInsn m i → ks ≡ slot_operands i.parts →
    option_map (said m) (first_misfit m ks numbers backs) ≡ first_out_of_range m (slots_of m i.parts) numbers backs
said_first m i ks numbers backs sound e =
    said_all m ks numbers backs (operands_there m i ks sound e) ∙ ap (λ os. first_out_of_range m os numbers backs) (ap (operands_of m) e ∙ sym (by_number m i.parts))

nothing_said : (known : Bool) (o : Objection) → (if known && not true then Some o else None) ≡ None
nothing_said true o = refl
nothing_said false o = refl

known_holds : (m : Machine) (i : Insn) (numbers : List (Option ℤ)) (bytes : List ℕ) (known holds : Bool) → list_all is_some numbers ≡ known → asserts m i bytes ≡ holds →
    assertion_objection m i numbers bytes ≡ (if known && not holds then Some (said m Assertion) else None)
known_holds m i numbers bytes known holds k h = rw (k, h) refl

-- a slot is out of range
pub out_of_range : (m : Machine) (i : Insn) (ks : List ℕ) (numbers : List (Option ℤ)) (pc : ℕ) (bytes backs : List ℕ) (x : Misfit) → SoundInsn m i → ks ≡ slot_operands i.parts → backs ≡ values m i bytes pc →
    Some x ≡ first_misfit m ks numbers backs → Some (said m x) ≡ fits_in m i numbers pc bytes
out_of_range m i ks numbers pc bytes backs x sound e back found =
    let first : Some (said m x) ≡ first_out_of_range m (slots_of m i.parts) numbers (values m i bytes pc) =
    ap (option_map (said m)) found ∙ said_first m i ks numbers backs sound e ∙ ap (first_out_of_range m (slots_of m i.parts) numbers) back in
    ap (λ x. option_or x (assertion_objection m i numbers bytes)) first

none_out : (m : Machine) (i : Insn) (ks : List ℕ) (numbers : List (Option ℤ)) (pc : ℕ) (bytes backs : List ℕ) → SoundInsn m i → ks ≡ slot_operands i.parts → backs ≡ values m i bytes pc →
    None ≡ first_misfit m ks numbers backs → assertion_objection m i numbers bytes ≡ fits_in m i numbers pc bytes
none_out m i ks numbers pc bytes backs sound e back found =
    let first : None ≡ first_out_of_range m (slots_of m i.parts) numbers (values m i bytes pc) =
    ap (option_map (said m)) found ∙ said_first m i ks numbers backs sound e ∙ ap (first_out_of_range m (slots_of m i.parts) numbers) back in
    ap (λ x. option_or x (assertion_objection m i numbers bytes)) first

-- only the assertion fails
pub assertion_fails : (m : Machine) (i : Insn) (ks : List ℕ) (numbers : List (Option ℤ)) (pc : ℕ) (bytes backs : List ℕ) → SoundInsn m i → ks ≡ slot_operands i.parts → backs ≡ values m i bytes pc →
    None ≡ first_misfit m ks numbers backs → list_all is_some numbers ≡ true → asserts m i bytes ≡ false → Some (said m Assertion) ≡ fits_in m i numbers pc bytes
assertion_fails m i ks numbers pc bytes backs sound e back found known fails =
    sym (known_holds m i numbers bytes true false known fails) ∙ none_out m i ks numbers pc bytes backs sound e back found

-- nothing is wrong
pub assertion_holds : (m : Machine) (i : Insn) (ks : List ℕ) (numbers : List (Option ℤ)) (pc : ℕ) (bytes backs : List ℕ) → SoundInsn m i → ks ≡ slot_operands i.parts → backs ≡ values m i bytes pc →
    None ≡ first_misfit m ks numbers backs → asserts m i bytes ≡ true → (let none : Option Objection = None in none) ≡ fits_in m i numbers pc bytes
assertion_holds m i ks numbers pc bytes backs sound e back found holds =
    sym (known_holds m i numbers bytes (list_all is_some numbers) true refl holds ∙ nothing_said (list_all is_some numbers) (said m Assertion)) ∙ none_out m i ks numbers pc bytes backs sound e back found

pub unknown_number : (m : Machine) (i : Insn) (ks : List ℕ) (numbers : List (Option ℤ)) (pc : ℕ) (bytes backs : List ℕ) → SoundInsn m i → ks ≡ slot_operands i.parts → backs ≡ values m i bytes pc →
    None ≡ first_misfit m ks numbers backs → list_all is_some numbers ≡ false → (let none : Option Objection = None in none) ≡ fits_in m i numbers pc bytes
unknown_number m i ks numbers pc bytes backs sound e back found unknown =
    sym (known_holds m i numbers bytes false (asserts m i bytes) unknown refl) ∙ none_out m i ks numbers pc bytes backs sound e back found

-- The bytes for numbers, and what is wrong, at an address that counts modulo 2 ^ bits of the word.
pub values_are_for : (m : Machine) (i : Insn) (ks : List ℕ) (numbers : List (Option ℤ)) (vs : List ℕ) → SoundInsn m i → ks ≡ slot_operands i.parts → length numbers ≡ length ks → vs ≡ values_for m (operands_of m ks) numbers →
    AreFor m (slots_of m i.parts) vs
values_are_for m i ks numbers vs sound e same v =
    let slots : operands_of m ks ≡ slots_of m i.parts = ap (operands_of m) e ∙ sym (by_number m i.parts) in
    subst (AreFor m (slots_of m i.parts)) (sym v) (subst (λ os. AreFor m os (values_for m (operands_of m ks) numbers)) slots (are_for m (operands_of m ks) numbers (same ∙ sym (as_many m ks (operands_there m i ks sound e)))))

pub bytes_are : (m : Machine) (i : Insn) (ks : List ℕ) (numbers : List (Option ℤ)) (vs bytes : List ℕ) (at pc len : ℕ) → ks ≡ slot_operands i.parts → vs ≡ values_for m (operands_of m ks) numbers → at ≡ own_pc m pc →
    bytes ≡ in_place m i vs at → len ≡ length_of m i → take len bytes ≡ bytes_for m i numbers pc
bytes_are m i ks numbers vs bytes at pc len e v a b l =
    let slots : operands_of m ks ≡ slots_of m i.parts = ap (operands_of m) e ∙ sym (by_number m i.parts) in
    ap (λ n. take n bytes) l ∙ ap (take (length_of m i)) (b ∙ ap (in_place m i vs) a ∙ ap (λ xs. in_place m i xs (own_pc m pc)) (v ∙ ap (λ os. values_for m os numbers) slots))

pub objection_is : (m : Machine) (i : Insn) (numbers : List (Option ℤ)) (at pc : ℕ) (bytes : List ℕ) (found : Option Misfit) → at ≡ own_pc m pc → bytes ≡ bytes_for m i numbers pc → option_map (said m) found ≡ fits_in m i numbers at bytes →
    option_map (said m) found ≡ objection m i numbers pc
unfolding objection
objection_is m i numbers at pc bytes found a b e = e ∙ ap (λ p. fits_in m i numbers p bytes) a ∙ ap (fits_in m i numbers (own_pc m pc)) b

pub ruleset misfits = (out_of_range, assertion_fails, assertion_holds, unknown_number, held_backs, as_many_backs)

pub ruleset fitting = (values_are_for, bytes_are, objection_is, operands_there)
