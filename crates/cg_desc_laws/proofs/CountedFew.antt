-- No count over the whole machine is passed.
use Rattle.std.proofs.Common.{◌≡◌, ◌∙◌, ℕ, suc, ◌+◌, ◌≤◌, List, [], ◌∷◌, ◌++◌, map, length, Option, Some, None, is_some, slice_get, refl, sym, ap, arith}
use Rattle.std.specs.List.{filter_map}
use Rattle.std.specs.Option.{option_or}
use Rattle.cg_base.specs.declared.form.Top.{Top}
use Rattle.cg_desc_laws_forms.proofs.Lists.{append_none}
use Rattle.cg_desc_fault_count.specs.declared.counts.Counts.{Counts}
use Rattle.cg_desc_fault_count.specs.Counts.{nothing_before, nodes_of}
use Rattle.cg_desc_fault_count.specs.E308.{of_counts, of_elements, of_others, passed}
use Rattle.cg_desc_data.specs.Selecting.{Selection, members}
use Rattle.cg_desc_data.specs.Hardware.{cells_of}
use Rattle.cg_desc_data.specs.Numbering.{field_in, multi_in, hardware_in, operand_in}
use Rattle.cg_desc_scope.specs.Bare.{bare_names}
use Rattle.cg_desc_scope.specs.Described.{described, written_in}
use Rattle.cg_desc_scope.specs.Texts.{all_texts}
use Rattle.cg_desc_elements.specs.Reading.{element_at, first_refusal}
use Rattle.cg_desc_fault_least.specs.Least.{by_data, by_modes, by_elements}
use Rattle.cg_operand.specs.declared.form.PlainOperandForm.{PlainOperandForm}
use Rattle.cg_desc_insns.specs.Expanded.{expanded}
use Rattle.cg_desc_fault_count.specs.Known.{nothing, count_new}
use Rattle.cg_model_faults.specs.E308.{sum_of}
use Rattle.cg_model.specs.declared.machine.Machine.{Machine}
use Rattle.cg_rtl_resolve.specs.declared.scope.Scope.{Scope}
use Rattle.cg_desc_machine.specs.Macros.{macro_in}
use Rattle.cg_desc_laws.proofs.Forms.{GivenAt, given_in_order}
use Rattle.cg_desc_scope.specs.Seen.{forms_of}
use Rattle.cg_desc_laws.proofs.CountedLimits.{either_none, IsCount, counts_behind, all_kept}
use Rattle.cg_desc_laws.proofs.CountedTogether.{HaveForms, one_each, fields_together, multis_together, hardware_together, cells_together, macros_together}
use Rattle.cg_desc_laws.proofs.CountedTexts.{texts_together}
use Rattle.cg_desc_laws.proofs.CountedOver.{written_few}
use Rattle.cg_desc_laws.proofs.CountedGroups.{all_grouped}
use Rattle.cg_desc_laws.proofs.CountedNames.{counted_once}
use Rattle.cg_desc_laws.proofs.CountedNodes.{of_fields, of_multis, of_hardwares, all_nodes_of, bare_from, nodes_total, operands_total}

pub mapped_long : {A B : Type 0} (f : A → B) (xs : List A) → length (map f xs) ≡ length xs
mapped_long f [] = refl
mapped_long f (x ∷ xs) = ap suc (mapped_long f xs)

-- each of the limits that are counted
parts : (before own : Counts) → of_counts before own ≡ [] → (of_elements before own ≡ []) × (of_others before own ≡ [])
parts before own h = append_none (of_elements before own) (of_others before own) h

-- fields, multi fields, hardware and cells
record ElementsClear (before own : Counts) : Type 0 where
  fields : passed 1024 before.fields own.fields ≡ []
  multis : passed 1024 before.multis own.multis ≡ []
  hardware : passed 256 before.hardware own.hardware ≡ []
  cells : passed 65536 before.cells own.cells ≡ []

elements_of : (before own : Counts) → of_counts before own ≡ [] → ElementsClear before own
elements_of before own h =
    let three : (passed 1024 before.fields own.fields ++ passed 1024 before.multis own.multis ++ passed 256 before.hardware own.hardware ≡ []) × (passed 65536 before.cells own.cells ≡ []) = append_none _ _ (parts before own h).0 in
    let two : (passed 1024 before.fields own.fields ++ passed 1024 before.multis own.multis ≡ []) × (passed 256 before.hardware own.hardware ≡ []) = append_none _ _ three.0 in
    let one : (passed 1024 before.fields own.fields ≡ []) × (passed 1024 before.multis own.multis ≡ []) = append_none _ _ two.0 in
    record { fields = one.0; multis = one.1; hardware = two.1; cells = three.1 }

-- operands, macro instructions, nodes and texts
record OthersClear (before own : Counts) : Type 0 where
  operands : passed 1024 before.operands own.operands ≡ []
  macros : passed 1024 before.macros own.macros ≡ []
  nodes : passed 1000000 before.nodes own.nodes ≡ []
  texts : passed 1000000 before.texts own.texts ≡ []

others_of : (before own : Counts) → of_counts before own ≡ [] → OthersClear before own
others_of before own h =
    let three : (passed 1024 before.operands own.operands ++ passed 1024 before.macros own.macros ++ passed 1000000 before.nodes own.nodes ≡ []) × (passed 1000000 before.texts own.texts ≡ []) = append_none _ _ (parts before own h).1 in
    let two : (passed 1024 before.operands own.operands ++ passed 1024 before.macros own.macros ≡ []) × (passed 1000000 before.nodes own.nodes ≡ []) = append_none _ _ three.0 in
    let one : (passed 1024 before.operands own.operands ≡ []) × (passed 1024 before.macros own.macros ≡ []) = append_none _ _ two.0 in
    record { operands = one.0; macros = one.1; nodes = two.1; texts = three.1 }

fields_count : IsCount (λ c. c.fields) 1024
fields_count = record { adds = λ a b. refl; nothing = refl; kept = λ before own h. (elements_of before own h).fields }

multis_count : IsCount (λ c. c.multis) 1024
multis_count = record { adds = λ a b. refl; nothing = refl; kept = λ before own h. (elements_of before own h).multis }

hardware_count : IsCount (λ c. c.hardware) 256
hardware_count = record { adds = λ a b. refl; nothing = refl; kept = λ before own h. (elements_of before own h).hardware }

cells_count : IsCount (λ c. c.cells) 65536
cells_count = record { adds = λ a b. refl; nothing = refl; kept = λ before own h. (elements_of before own h).cells }

operands_count : IsCount (λ c. c.operands) 1024
operands_count = record { adds = λ a b. refl; nothing = refl; kept = λ before own h. (others_of before own h).operands }

macros_count : IsCount (λ c. c.macros) 1024
macros_count = record { adds = λ a b. refl; nothing = refl; kept = λ before own h. (others_of before own h).macros }

nodes_count : IsCount (λ c. c.nodes) 1000000
nodes_count = record { adds = λ a b. refl; nothing = refl; kept = λ before own h. (others_of before own h).nodes }

texts_count : IsCount (λ c. c.texts) 1000000
texts_count = record { adds = λ a b. refl; nothing = refl; kept = λ before own h. (others_of before own h).texts }

-- What all forms that take part have together.
pub record AreFew (s : Selection) (scope : Scope) (tops : List Top) : Type 0 where
  pub insns : length (written_in s) ≤ 4096
  pub fields : length (members s field_in) ≤ 1024
  pub multis : length (members s multi_in) ≤ 1024
  pub hardware : 5 + length (members s hardware_in) ≤ 256
  pub cells : sum_of (map cells_of (members s hardware_in)) ≤ 65536
  pub operands : length (members s operand_in) + length (bare_names s.at (written_in s)) ≤ 1024
  pub macros : length (members s macro_in) ≤ 1024
  pub nodes : ((sum_of (map (of_fields s scope) (members s field_in)) + sum_of (map (of_multis s scope) (members s multi_in))) + sum_of (map (of_hardwares s scope) (members s hardware_in))) + sum_of (map (nodes_of (described s) scope) (written_in s)) ≤ 1000000
  pub texts : length (all_texts s (forms_of tops) (written_in s)) ≤ 1000000

module _ (s : Selection) (scope : Scope) (m : Machine) (tops : List Top) (alone : first_refusal tops ≡ None) (elements : s.elements ≡ filter_map element_at tops) (none : by_elements (described s) scope m tops ≡ None) where
  have_forms : HaveForms s.elements tops
  have_forms k e is =
      let g : GivenAt tops k e = given_in_order tops k e alone (ap (λ es. slice_get es k) (sym elements) ∙ is) in
      ap is_some g.on

  abbrev whole : Counts
  whole = counts_behind (described s) scope nothing_before 1 s.elements tops

  data_none : by_data (described s) scope m tops ≡ None
  data_none = (either_none (by_data (described s) scope m tops) (by_modes (described s) scope m tops) none).0

  kept : (pick : Counts → ℕ) (limit : ℕ) → IsCount pick limit → pick nothing_before.counts ≤ limit → pick whole ≤ limit
  kept pick limit is few = all_kept (described s) scope m pick limit is nothing_before 1 s.elements tops data_none few

  pub few : AreFew s scope tops
  unfolding expanded
  few =
      let fields : whole.fields ≤ 1024 = kept (λ c. c.fields) 1024 fields_count (omega arith) in
      let multis : whole.multis ≤ 1024 = kept (λ c. c.multis) 1024 multis_count (omega arith) in
      let hardware : whole.hardware ≤ 256 = kept (λ c. c.hardware) 256 hardware_count (omega arith) in
      let cells : whole.cells ≤ 65536 = kept (λ c. c.cells) 65536 cells_count (omega arith) in
      let operands : whole.operands ≤ 1024 = kept (λ c. c.operands) 1024 operands_count (omega arith) in
      let macros : whole.macros ≤ 1024 = kept (λ c. c.macros) 1024 macros_count (omega arith) in
      let nodes : whole.nodes ≤ 1000000 = kept (λ c. c.nodes) 1000000 nodes_count (omega arith) in
      let texts : whole.texts ≤ 1000000 = kept (λ c. c.texts) 1000000 texts_count (omega arith) in
      let same_fields : whole.fields ≡ 0 + length (members s field_in) = fields_together (described s) scope nothing_before 1 s.elements tops have_forms in
      let same_multis : whole.multis ≡ 0 + length (members s multi_in) = multis_together (described s) scope nothing_before 1 s.elements tops have_forms in
      let same_hardware : whole.hardware ≡ 5 + length (members s hardware_in) = hardware_together (described s) scope nothing_before 1 s.elements tops have_forms in
      let same_cells : whole.cells ≡ 0 + sum_of (map cells_of (members s hardware_in)) = cells_together (described s) scope nothing_before 1 s.elements tops have_forms in
      let same_macros : whole.macros ≡ 0 + length (members s macro_in) = macros_together (described s) scope nothing_before 1 s.elements tops have_forms in
      let same_texts : whole.texts ≡ length (all_texts s (forms_of tops) (written_in s)) = texts_together (described s) scope nothing_before tops refl refl have_forms in
      let same_nodes : whole.nodes ≡ 0 + all_nodes_of s scope 1 s.elements = nodes_total s scope nothing_before 1 s.elements tops have_forms (all_grouped s) in
      let same_operands : whole.operands ≡ 0 + (sum_of (map (λ (x : PlainOperandForm). 1) (members s operand_in)) + count_new nothing (bare_from s scope 1 s.elements)) = operands_total s scope nothing_before 1 s.elements tops have_forms (all_grouped s) in
      let plain_operands : sum_of (map (λ (x : PlainOperandForm). 1) (members s operand_in)) ≡ length (members s operand_in) = one_each (members s operand_in) in
      let bare_operands : count_new nothing (bare_from s scope 1 s.elements) ≡ length (bare_names s.at (written_in s)) = counted_once (bare_from s scope 1 s.elements) in
      record {
        insns = written_few s scope m tops alone elements none;
        fields = omega (arith, fields, same_fields);
        multis = omega (arith, multis, same_multis);
        hardware = omega (arith, hardware, same_hardware);
        cells = omega (arith, cells, same_cells);
        operands = omega (arith, operands, same_operands, plain_operands, bare_operands);
        macros = omega (arith, macros, same_macros);
        nodes = omega (arith, nodes, same_nodes);
        texts = omega (arith, texts, same_texts);
      }
