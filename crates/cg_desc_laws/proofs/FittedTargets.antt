-- The instruction that a macro instruction emits stands where its number says.
use Rattle.std.proofs.Common.{◌≡◌, ◌∙◌, ℕ, zero, suc, ◌≤◌, true, List, [], ◌∷◌, map, length, Option, Some, None, is_some, slice_get, refl, ap, arith}
use Rattle.std.specs.Option.{option_map}
use Rattle.std.proofs.lemmas.Bool.{false≢true}
use Rattle.cg_base.specs.Parts.{◌>>=◌}
use Rattle.cg_insn.specs.declared.form.InstructionForm.{InstructionForm}
use Rattle.cg_insn.specs.declared.form.MacroForm.{MacroForm}
use Rattle.cg_model.specs.declared.insn.Insn.{Insn}
use Rattle.cg_model.specs.declared.machine.Machine.{Machine}
use Rattle.cg_model_faults.specs.E313.{slot_operands}
use Rattle.cg_model_faults.specs.Elements.{emitted}
use Rattle.cg_rtl_resolve.specs.declared.scope.Scope.{Scope}
use Rattle.cg_desc_choices.specs.declared.written.Written.{Written}
use Rattle.cg_desc_data.specs.Selecting.{Selection}
use Rattle.cg_desc_data.specs.Selecting as selecting
use Rattle.cg_desc_data.specs.Numbering.{short}
use Rattle.cg_desc_scope.specs.Described.{described, written_in}
use Rattle.cg_desc_laws.proofs.Members.{AllHold, held}
use Rattle.cg_desc_laws.proofs.Origins.{FromForm, from_forms}
use Rattle.cg_desc_machine.specs.Instructions.{slot_names, number_or_none, parts_of, insn_by, instruction_in, form_of, insn_of, insns_of}
use Rattle.cg_desc_machine.specs.Macros.{emitted_name, written_name, target_of, macro_slots, macro_by}
use Rattle.cg_desc_machine.specs.Machines.{machine_of}
use Rattle.cg_desc_laws.proofs.FittedDelimited.{own_operands}
use Rattle.cg_desc_laws.proofs.FittedInsns.{given_at, all_so}
use Rattle.cg_desc_laws.proofs.FittedNames.{place_is, within}

-- What stands at a place.
pub record At {A : Type 0} (xs : List A) (k : ℕ) : Type 0 where
  pub what : A
  pub is : slice_get xs k ≡ Some what

mapped_at : {A B : Type 0} (f : A → B) (xs : List A) (k : ℕ) (y : B) → slice_get (map f xs) k ≡ Some y → At xs k
mapped_at f [] k y is = absurd cc
mapped_at f (x ∷ xs) zero y is = record { what = x; is = refl }
mapped_at f (x ∷ xs) (suc k) y is = let r = mapped_at f xs k y is in record { what = r.what; is = r.is }

pub aimed_at : (ws : List Written) (form : MacroForm) (target : ℕ) → target_of ws form ≡ Some target → At ws target
aimed_at ws form target is = mapped_at written_name ws target (emitted_name form) (place_is (emitted_name form) (map written_name ws) target is)

kept_number : (n count : ℕ) → count ≤ 65536 → suc n ≤ count → short n ≡ n
kept_number n count few below = omega arith

module _ (s : Selection) (scope : Scope) where
  -- each instruction has its form
  has_form : (w : Written) → FromForm s w → is_some (insn_of (described s) scope w) ≡ true
  has_form w o =
      ap (λ n. is_some (option_map (insn_by (described s) scope w) (selecting.element_at s.elements n >>= instruction_in))) o.number
      ∙ ap (λ e. is_some (option_map (insn_by (described s) scope w) (e >>= instruction_in))) o.is

  abbrev parts_in : Option Insn → List ℕ
  parts_in o = elim o [ None ↦ [] | Some i ↦ slot_operands i.parts ]

  given_parts : (w : Written) (o : Option InstructionForm) → is_some (option_map (insn_by (described s) scope w) o) ≡ true → parts_in (option_map (insn_by (described s) scope w) o) ≡ slot_operands (parts_of (described s) w)
  given_parts w None some = absurd (false≢true some)
  given_parts w (Some form) some = refl

  pub emitted_slots : (m : Machine) → m ≡ machine_of (described s) scope → (form : MacroForm) (target : ℕ) (w : Written) → length (written_in s) ≤ 65536 → slice_get (written_in s) target ≡ Some w
      → emitted m (macro_by (described s) form (macro_slots (described s).operand_numbers form) target) ≡ map (number_or_none (described s).operand_numbers) (slot_names (described s) w)
  emitted_slots m same form target w few there =
      let all : AllHold (λ x. is_some (insn_of (described s) scope x) ≡ true) (written_in s) = all_so (FromForm s) (λ x. is_some (insn_of (described s) scope x) ≡ true) has_form (written_in s) (from_forms s) in
      let below : suc target ≤ length (written_in s) = within (written_in s) target w there in
      let number : short target ≡ target = kept_number target (length (written_in s)) few below in
      let at : slice_get (insns_of (described s) scope) target ≡ insn_of (described s) scope w = given_at (insn_of (described s) scope) (written_in s) all target w there in
      let some : is_some (insn_of (described s) scope w) ≡ true = has_form w (held (FromForm s) (written_in s) w (from_forms s) (record { place = target; is = there })) in
      ap (λ y. parts_in (slice_get y.insns (short target))) same ∙ ap (λ n. parts_in (slice_get (insns_of (described s) scope) n)) number ∙ ap parts_in at
      ∙ given_parts w (form_of s w) some ∙ own_operands (described s) w
