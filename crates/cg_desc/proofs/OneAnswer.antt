-- A description has one answer, but for want of memory.
use Rattle.std.proofs.Common.{◌≡◌, ◌⊎◌, inl, inr, ℕ, Bool, true, false, List, Option, Some, None, Result, Ok, Err, refl, sym, ap, ◌∙◌, subst}
use Rattle.std.specs.List.{filter_map}
use Rattle.std.proofs.lemmas.Bool.{false≢true}
use Rattle.cg_base.specs.Answering.{Answered}
use Rattle.cg_base.specs.Refusing.{refusal_at}
use Rattle.cg_base.specs.declared.form.Top.{Top}
use Rattle.cg_base.specs.declared.refusal.Refusal.{Refusal}
use Rattle.cg_attrs.specs.declared.frame.MachForm.{MachForm}
use Rattle.cg_desc_data.specs.Selecting.{Selection, selected}
use Rattle.cg_desc_scope.specs.Described.{Described, described, whole_scope}
use Rattle.cg_desc_scope.specs.Seen.{forms_of}
use Rattle.cg_desc.specs.Answering.{as_stop, Refuses, by_element, by_clash, IsFaultless, Describes, clash_of, GivesOf, GivesSelection, GivesSelected, GivesMachine, GivesElements, GivesDescription}
use Rattle.cg_desc.proofs.Clashes.{AreSame, same_first, HasFirst, first_or_none}
use Rattle.cg_desc_elements.specs.declared.element.Element.{Element}
use Rattle.cg_desc_elements.specs.E318.{selected_mach}
use Rattle.cg_desc_elements.specs.Reading.{first_refusal, element_at}
use Rattle.cg_desc_fault_least.specs.Least.{by_elements}
use Rattle.cg_model.specs.Clashing.{FirstClash, NoClash}
use Rattle.cg_model.specs.declared.machine.Machine.{Machine}
use Rattle.cg_rtl_resolve.specs.declared.scope.Scope.{Scope}
use Rattle.cg_desc_machine.specs.Machines.{machine_of}

no_some : {A : Type 0} (x : A) → Some x ≡ None → ⊥
no_some {A} x e = false≢true (ap none e) where
  none : Option A → Bool
  none None = true
  none (Some y) = false

the_same : {A : Type 0} (x y : A) → Some x ≡ Some y → x ≡ y
the_same {A} x y e = ap (or x) e where
  or : A → Option A → A
  or z None = z
  or z (Some w) = w

-- what is refused isn't faultless
refused_is_faulty : (d : Described) (scope : Scope) (m : Machine) (tops : List Top) (r : Refusal) → Refuses d scope m tops r → IsFaultless d scope m tops → ⊥
refused_is_faulty d scope m tops r (by_element some) h = no_some r (sym some ∙ h.elements)
refused_is_faulty d scope m tops r (by_clash none i j bytes clash is) h = h.no_clash.none i j bytes clash.clashes

-- one refusal
one_clash : (d : Described) (m : Machine) (tops : List Top) (i j k l : ℕ) (xs ys : List ℕ) → AreSame i j k l xs ys → clash_of d tops m i j xs ≡ clash_of d tops m k l ys
one_clash d m tops i j k l xs ys a =
    ap (λ n. clash_of d tops m n j xs) a.first ∙ ap (λ n. clash_of d tops m k n xs) a.second ∙ ap (clash_of d tops m k l) a.bytes

one_refusal : (d : Described) (scope : Scope) (m : Machine) (tops : List Top) (r s : Refusal) → Refuses d scope m tops r → Refuses d scope m tops s → r ≡ s
one_refusal d scope m tops r s (by_element some) (by_element other) = the_same r s (sym some ∙ other)
one_refusal d scope m tops r s (by_element some) (by_clash none i j bytes clash is) = absurd (no_some r (sym some ∙ none))
one_refusal d scope m tops r s (by_clash none i j bytes clash is) (by_element some) = absurd (no_some s (sym some ∙ none))
one_refusal d scope m tops r s (by_clash none i j xs a is) (by_clash also k l ys b too) =
    is ∙ one_clash d m tops i j k l xs ys (same_first m i j k l xs ys a b) ∙ sym too

-- a machine, and no refusal besides
never_both : (d : Described) (scope : Scope) (tops : List Top) (m : Machine) (r : Refusal) → Describes d scope tops m → Refuses d scope (machine_of d scope) tops r → ⊥
never_both d scope tops m r h refuses =
    refused_is_faulty d scope (machine_of d scope) tops r refuses (subst (λ x. IsFaultless d scope x tops) h.is h.faultless)

one_of : (d : Described) (scope : Scope) (tops : List Top) (x y : Result Machine Refusal) → GivesOf d scope tops (as_stop x) → GivesOf d scope tops (as_stop y) → x ≡ y
one_of d scope tops (Ok m) (Ok n) p q = ap Ok (p.is ∙ sym q.is)
one_of d scope tops (Ok m) (Err r) p q = absurd (never_both d scope tops m r p q)
one_of d scope tops (Err r) (Ok m) p q = absurd (never_both d scope tops m r q p)
one_of d scope tops (Err r) (Err s) p q = ap Err (one_refusal d scope (machine_of d scope) tops r s p q)

-- a fixed refusal
pub one_fixed : (given : Refusal) (x y : Result Machine Refusal) → Answered (λ m. ⊥) (λ r. r ≡ given) (as_stop x) → Answered (λ m. ⊥) (λ r. r ≡ given) (as_stop y) → x ≡ y
one_fixed given (Ok m) y p q = absurd p
one_fixed given (Err r) (Ok m) p q = absurd q
one_fixed given (Err r) (Err s) p q = ap Err (p ∙ sym q)

one_selected : (name : List ℕ) (es : List Element) (tops : List Top) (o : Option (ℕ × MachForm)) (x y : Result Machine Refusal) → GivesSelected name es tops o (as_stop x) → GivesSelected name es tops o (as_stop y) → x ≡ y
one_selected name es tops None x y p q = one_fixed (refusal_at 0 0 (318, name)) x y p q
one_selected name es tops (Some (form, mach)) x y p q =
    let s : Selection = selected name es (form, mach) in one_of (described s) (whole_scope s (forms_of tops)) tops x y p q

one_answer : (name : List ℕ) (tops : List Top) (o : Option Refusal) (x y : Result Machine Refusal) → GivesElements name tops o (as_stop x) → GivesElements name tops o (as_stop y) → x ≡ y
one_answer name tops None x y p q =
    let es : List Element = filter_map element_at tops in one_selected name es tops (selected_mach name es) x y p q
one_answer name tops (Some given) x y p q = one_fixed given x y p q

pub one_description : (name : List ℕ) (tops : List Top) (x y : Result Machine Refusal) → GivesDescription name tops (as_stop x) → GivesDescription name tops (as_stop y) → x ≡ y
one_description name tops x y p q = one_answer name tops (first_refusal tops) x y p q

-- There is such an answer.
some_judged : (d : Described) (scope : Scope) (tops : List Top) → by_elements d scope (machine_of d scope) tops ≡ None → HasFirst (machine_of d scope) ⊎ NoClash (machine_of d scope) → (x : Result Machine Refusal) × GivesOf d scope tops (as_stop x)
some_judged d scope tops none (inl h) = (Err (clash_of d tops (machine_of d scope) h.first h.second h.bytes), by_clash none h.first h.second h.bytes h.is refl)
some_judged d scope tops none (inr clear) = (Ok (machine_of d scope), record { is = refl; faultless = record { elements = none; no_clash = clear } })

some_of : (d : Described) (scope : Scope) (tops : List Top) → (x : Result Machine Refusal) × GivesOf d scope tops (as_stop x)
some_of d scope tops = at (by_elements d scope (machine_of d scope) tops) refl where
  at : (o : Option Refusal) → by_elements d scope (machine_of d scope) tops ≡ o → (x : Result Machine Refusal) × GivesOf d scope tops (as_stop x)
  at (Some r) is = (Err r, by_element is)
  at None is = some_judged d scope tops is (first_or_none (machine_of d scope))

some_selected : (name : List ℕ) (es : List Element) (tops : List Top) (o : Option (ℕ × MachForm)) → (x : Result Machine Refusal) × GivesSelected name es tops o (as_stop x)
some_selected name es tops None = (Err (refusal_at 0 0 (318, name)), refl)
some_selected name es tops (Some (form, mach)) = let s : Selection = selected name es (form, mach) in some_of (described s) (whole_scope s (forms_of tops)) tops

some_answer : (name : List ℕ) (tops : List Top) (o : Option Refusal) → (x : Result Machine Refusal) × GivesElements name tops o (as_stop x)
some_answer name tops None = let es : List Element = filter_map element_at tops in some_selected name es tops (selected_mach name es)
some_answer name tops (Some given) = (Err given, refl)

pub some_description : (name : List ℕ) (tops : List Top) → (x : Result Machine Refusal) × GivesDescription name tops (as_stop x)
some_description name tops = some_answer name tops (first_refusal tops)
