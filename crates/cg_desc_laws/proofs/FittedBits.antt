-- The bits of formats: what is said of no form is said of no instruction.
use Rattle.std.proofs.Common.{◌≡◌, ◌∙◌, ℕ, suc, ◌+◌, true, if◌then◌else◌, List, [], sym, ap, arith}
use Rattle.std.specs.List.{flat_map}
use Rattle.std.proofs.lemmas.Bool.Decides.{nat_tests}
use Rattle.cg_desc_laws_forms.proofs.Lists.{append_none}
use Rattle.cg_desc_elements.specs.declared.element.Element.{Element}
use Rattle.cg_model.specs.declared.machine.Machine.{Machine}
use Rattle.cg_model_faults.specs.E310 as bits
use Rattle.cg_model_faults.specs.E316 as bundle
use Rattle.cg_rtl_resolve.specs.declared.scope.Scope.{Scope}
use Rattle.cg_desc_choices.specs.declared.written.Written.{Written}
use Rattle.cg_desc_scope.specs.Described.{Described}
use Rattle.cg_desc_scope.specs.Texts.{is_of_form, of_form}
use Rattle.cg_desc_fault_format.specs.E310 as e310
use Rattle.cg_desc_fault_format.specs.E311 as e311
use Rattle.cg_desc_fault_format.specs.E316 as e316
use Rattle.cg_desc_laws.proofs.Members.{IsIn, filtered_none}
use Rattle.cg_desc_laws.proofs.Said.{none_placed}
use Rattle.cg_desc_fault_report.specs.Spots.{at_part}
use Rattle.cg_desc_machine.specs.Instructions.{parts_of}
use Rattle.cg_desc_laws.proofs.FittedSilent.{Silent, none_at}

-- of one of the instructions of a form
pub of_one : {A : Type 0} (place : ℕ) (f : Written → List A) (all : List Written) (w : Written) → flat_map f (of_form (place + 1) all) ≡ [] → IsIn all w → w.form ≡ suc place → f w ≡ []
of_one place f all w none i same =
    let test : is_of_form (place + 1) w ≡ true = grind (arith, nat_tests) in
    filtered_none f (is_of_form (place + 1)) all w none i test

-- where sizes are known, it is asked
pub asked : {A : Type 0} (d : Described) (xs : List A) → d.framing.is_sized ≡ true → (if d.framing.is_sized then xs else []) ≡ [] → xs ≡ []
asked d xs sized e = sym (ap (λ b. if b then xs else []) sized) ∙ e

module _ (d : Described) (scope : Scope) (m : Machine) (place : ℕ) (e : Element) (u : Silent d scope m place e) (sized : d.framing.is_sized ≡ true) (w : Written) (i : IsIn d.written w) (same : w.form ≡ suc place) where
  pub parts_apart : bits.overlaps m (parts_of d w) ≡ []
  parts_apart =
      let none : flat_map (e310.of_written d m) (of_form (place + 1) d.written) ≡ [] = none_placed _ (asked d _ sized u.bits) in
      none_at (at_part m w) (bits.overlaps m (parts_of d w)) (of_one place (e310.of_written d m) d.written w none i same)

  pub constants_silent : flat_map (e311.of_part d) w.parts ≡ []
  constants_silent = of_one place (e311.of_written d) d.written w (none_placed _ (asked d _ sized u.constants)) i same

  pub parts_free : bundle.bundled m (parts_of d w) ≡ []
  parts_free =
      let own : e316.of_insns d m (of_form (place + 1) d.written) ≡ [] = (append_none (e316.of_isa d (place + 1) e) (e316.of_insns d m (of_form (place + 1) d.written)) u.bundle).1 in
      let none : flat_map (e316.of_written d m) (of_form (place + 1) d.written) ≡ [] = none_placed _ (asked d _ sized own) in
      none_at (at_part m w) (bundle.bundled m (parts_of d w)) (of_one place (e316.of_written d m) d.written w none i same)
