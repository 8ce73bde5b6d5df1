-- All of it together.
use Rattle.std.proofs.Common.{◌≡◌, ◌∙◌, List, None, refl, sym, ap, subst}
use Rattle.std.specs.List.{filter_map}
use Rattle.cg_base.specs.declared.form.Top.{Top}
use Rattle.cg_desc_elements.specs.Reading.{element_at, first_refusal}
use Rattle.cg_desc_names.specs.Table.{table_of}
use Rattle.cg_model.specs.Formed.{IsFormed}
use Rattle.cg_model.specs.declared.machine.Machine.{Machine}
use Rattle.cg_rtl_resolve.specs.declared.scope.Scope.{Scope}
use Rattle.cg_desc_data.specs.Selecting.{Selection}
use Rattle.cg_desc_scope.specs.Described.{Described, described}
use Rattle.cg_desc_fault_least.specs.Least.{by_elements}
use Rattle.cg_desc_machine.specs.Machines.{machine_of}
use Rattle.cg_desc_machine.specs.Seen.{base}
use Rattle.cg_desc_laws.specs.Formed.{AreFormed}
use Rattle.cg_desc_laws.proofs.Whole.{whole_law}
use Rattle.cg_desc_laws.proofs.WholeInsns.{insns_formed}
use Rattle.cg_desc_laws.proofs.WholeWidth.{width_formed}

whole_law_of : (s : Selection) (scope : Scope) (m : Machine) (tops : List Top) → first_refusal tops ≡ None → s.elements ≡ filter_map element_at tops → s.at ≡ table_of s.machine s.isa s.elements → by_elements (described s) (base scope) m tops ≡ None
    → IsFormed (machine_of (described s) (base scope))
whole_law_of s scope m tops alone elements names none =
    let all : AreFormed (described s) (base scope) = whole_law s (base scope) m tops alone elements none in
    record {
      word = all.word;
      base = all.base;
      width = width_formed s (base scope) m tops alone elements names none;
      fields = all.fields;
      multis = all.multis;
      hardware = all.hardware (machine_of (described s) (base scope)) refl;
      insns = insns_formed s (base scope) refl m tops alone elements none;
      macros = all.macros;
    }

-- of a description that is known to be that of a selection, and its machine
pub whole_of : (d : Described) (s : Selection) (scope : Scope) (m : Machine) (tops : List Top) → d ≡ described s → first_refusal tops ≡ None → s.elements ≡ filter_map element_at tops → s.at ≡ table_of s.machine s.isa s.elements → by_elements d (base scope) m tops ≡ None → m ≡ machine_of d (base scope)
    → IsFormed m
whole_of d s scope m tops same alone elements names none is =
    let law : IsFormed (machine_of (described s) (base scope)) = whole_law_of s scope m tops alone elements names (subst (λ x. by_elements x (base scope) m tops ≡ None) same none) in
    subst IsFormed (ap (λ x. machine_of x (base scope)) (sym same) ∙ sym is) law

pub ruleset whole = (whole_of)
