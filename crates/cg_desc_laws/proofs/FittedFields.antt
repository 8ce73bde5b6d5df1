-- Fields: what is said of no form is said of no field.
use Rattle.std.proofs.Common.{◌≡◌, ℕ, ◌+◌, ◌≤◌, Bool, true, false, not, ◌&&◌, nat_le, if◌then◌else◌, [], ◌∷◌, refl, arith}
use Rattle.std.proofs.lemmas.Bool.{false≢true}
use Rattle.std.proofs.lemmas.Bool.Decides.{nat_tests}
use Rattle.cg_base.specs.Modes.{bits_of}
use Rattle.cg_desc_elements.specs.declared.element.Element.TheVariants as element
use Rattle.cg_ifield.specs.declared.form.FieldForm.TheVariants as field
use Rattle.cg_ifield.specs.declared.form.PlainForm.{PlainForm}
use Rattle.cg_model_faults.specs.E309.{misplaced}
use Rattle.cg_model_faults.specs.E309 as e309
use Rattle.cg_model.specs.declared.machine.Machine.{Machine}
use Rattle.cg_rtl_resolve.specs.declared.scope.Scope.{Scope}
use Rattle.cg_desc_data.specs.declared.extent.Extent.{Extent}
use Rattle.cg_desc_data.specs.Extents.{extent_of, has_place, low, length_within}
use Rattle.cg_desc_scope.specs.Described.{Described}
use Rattle.cg_desc_fault_report.specs.Saying.{only_text}
use Rattle.cg_desc_machine.specs.Rules.{ruled_field}
use Rattle.cg_desc_laws.proofs.FittedExtents.{Lies, lies}
use Rattle.cg_desc_laws.proofs.FittedSilent.{Silent}

-- what isn't said doesn't hold
pub unsaid_where : {A : Type 0} (a b : Bool) (x : A) → a ≡ true → (if a && not b then x ∷ [] else []) ≡ [] → b ≡ true
unsaid_where true true x sized h = refl
unsaid_where true false x sized h = absurd cc
unsaid_where false b x sized h = absurd (false≢true sized)

-- A form of which nothing is said has its place.
pub form_lies : (d : Described) (scope : Scope) (m : Machine) (place : ℕ) (form : PlainForm) → Silent d scope m place (element.Field (field.Plain form)) → d.framing.is_sized ≡ true → Lies (extent_of d.framing form)
form_lies d scope m place form u sized = lies (extent_of d.framing form) (unsaid_where d.framing.is_sized (has_place (extent_of d.framing form)) (only_text form.name) sized u.extents)

-- and so has its field
three : (length shift word mode bits : ℕ) → length ≡ bits → 1 ≤ bits → shift + bits ≤ word → bits ≤ mode → (nat_le 1 length && nat_le (shift + length) word && nat_le length mode) ≡ true
three length shift word mode bits is some within fits = grind (arith, nat_tests)

pub none_where : {A : Type 0} (b : Bool) (x : A) → b ≡ true → (if not b then x ∷ [] else []) ≡ []
none_where true x h = refl
none_where false x h = absurd (false≢true h)

pub field_placed : (d : Described) (scope : Scope) (form : PlainForm) → Lies (extent_of d.framing form) → misplaced (ruled_field d scope form) ≡ []
field_placed d scope form h =
    let e : Extent = extent_of d.framing form in
    none_where (e309.has_place (ruled_field d scope form)) _ (three (length_within e) (low e) e.word_bits (bits_of e.mode) h.bits h.own h.some h.within h.fits)
