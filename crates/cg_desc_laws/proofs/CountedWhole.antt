-- All of it together: no element of the machine is refused by its counts.
use Rattle.std.proofs.Common.{◌≡◌, ◌∙◌, ℕ, ◌+◌, ◌≤◌, min, true, List, [], ◌∷◌, ◌++◌, map, length, Option, Some, None, refl, sym, ap, subst, arith}
use Rattle.std.specs.List.{filter_map, cons_option}
use Rattle.std.specs.Option.{option_map, unwrap_or}
use Rattle.cg_base.specs.declared.form.Top.{Top}
use Rattle.cg_desc_fault_count.specs.Counts.{nodes_of}
use Rattle.cg_desc_choices.specs.declared.written.Written.{Written}
use Rattle.cg_desc_data.specs.Selecting.{Selection, members}
use Rattle.cg_desc_data.specs.Hardware.{cells_of}
use Rattle.cg_desc_data.specs.Operands.{operand_of, operands_of}
use Rattle.cg_desc_data.specs.Numbering.{field_in, multi_in, hardware_in, operand_in, operand_names}
use Rattle.cg_operand.specs.declared.form.PlainOperandForm.{PlainOperandForm}
use Rattle.cg_desc_scope.specs.Bare.{bare_names, bare_operand}
use Rattle.cg_desc_scope.specs.Described.{Described, described, written_in, whole_scope, all_operand_names}
use Rattle.cg_desc_scope.specs.Seen.{forms_of}
use Rattle.cg_desc_scope.specs.Texts.{all_texts}
use Rattle.cg_desc_elements.specs.Reading.{element_at, first_refusal}
use Rattle.cg_desc_fault_least.specs.Least.{by_elements}
use Rattle.cg_hw.specs.declared.form.HardwareForm.{HardwareForm}
use Rattle.cg_ifield.specs.declared.form.PlainForm.{PlainForm}
use Rattle.cg_ifield.specs.declared.form.MultiForm.{MultiForm}
use Rattle.cg_model_faults.specs.E308.{sum_of, insn_nodes, all_cells, all_field_nodes, all_multi_nodes, all_hardware_nodes}
use Rattle.cg_model.specs.declared.insn.Insn.{Insn}
use Rattle.cg_model.specs.declared.machine.Machine.{Machine}
use Rattle.cg_rtl_resolve.specs.declared.scope.Scope.{Scope}
use Rattle.cg_desc_machine.specs.Instructions.{insn_of, insns_of}
use Rattle.cg_desc_machine.specs.Machines.{machine_of}
use Rattle.cg_desc_machine.specs.Macros.{macro_in, macro_of, macros_of}
use Rattle.cg_desc_machine.specs.Rules.{ruled_field, ruled_multi, ruled_hardware, ruled_fields, ruled_multis, ruled_hardwares}
use Rattle.cg_desc_elements.specs.declared.kind.Kind.TheVariants as kind
use Rattle.cg_desc_elements.specs.declared.kind.Namespace.TheVariants.{Hardwares}
use Rattle.cg_desc_names.specs.Table.{standing, table_of, built_in_hardware}
use Rattle.cg_desc_laws.specs.InHand.{of_rules, of_shapes, IsChosen, AreWithin, AreKnown}
use Rattle.cg_desc_laws.proofs.CountedFew.{AreFew, few, mapped_long}
use Rattle.cg_desc_laws.proofs.CountedNodes.{of_fields, of_multis, of_hardwares}
use Rattle.cg_desc_laws.proofs.CountedGroups.{all_so}
use Rattle.cg_desc_laws.proofs.CountedKept.{texts_kept, name_kept}
use Rattle.cg_desc_laws.proofs.CountedOperands.{operands_short}
use Rattle.cg_desc_laws.proofs.CountedOver.{fewer}
use Rattle.cg_desc_laws.proofs.CountedPlaces.{StandsBefore}
use Rattle.cg_desc_laws.proofs.CountedRules.{members_clear, built_in_clear}
use Rattle.cg_desc_laws.proofs.CountedShapes.{shapes_few, slots_few, syntaxes_few}
use Rattle.cg_desc_laws.proofs.Members.{AllHold}
use Rattle.cg_desc_laws.proofs.CountedElements.{short_fields, short_multis, few_hardware, short_insns, short_macros}
use Rattle.cg_desc_laws.proofs.CountedSized.{sizes_known}
use Rattle.cg_desc_laws.proofs.CountedWithin.{operands_within, fields_within, multis_within, hardware_within, insns_within, macros_within, numbers_within}

-- The nodes of a machine's elements are those that are counted by its forms.
field_sum : (s : Selection) (scope : Scope) (forms : List PlainForm) → all_field_nodes (map (ruled_field (described s) scope) forms) ≡ sum_of (map (of_fields s scope) forms)
field_sum s scope [] = refl
field_sum s scope (f ∷ fs) = ap (λ n. of_fields s scope f + n) (field_sum s scope fs)

multi_sum : (s : Selection) (scope : Scope) (forms : List MultiForm) → all_multi_nodes (map (ruled_multi (described s) scope) forms) ≡ sum_of (map (of_multis s scope) forms)
multi_sum s scope [] = refl
multi_sum s scope (f ∷ fs) = ap (λ n. of_multis s scope f + n) (multi_sum s scope fs)

hardware_sum : (s : Selection) (scope : Scope) (forms : List HardwareForm) → all_hardware_nodes (map (ruled_hardware (described s) scope) forms) ≡ sum_of (map (of_hardwares s scope) forms)
hardware_sum s scope [] = refl
hardware_sum s scope (f ∷ fs) = ap (λ n. of_hardwares s scope f + n) (hardware_sum s scope fs)

one_insn_sum : (o : Option Insn) (rest : List Insn) → sum_of (map insn_nodes (cons_option o rest)) ≡ unwrap_or (option_map insn_nodes o) 0 + sum_of (map insn_nodes rest)
one_insn_sum None rest = omega arith
one_insn_sum (Some i) rest = refl

insn_sum : (d : Described) (scope : Scope) (ws : List Written) → sum_of (map insn_nodes (filter_map (insn_of d scope) ws)) ≡ sum_of (map (nodes_of d scope) ws)
insn_sum d scope [] = refl
insn_sum d scope (w ∷ ws) = one_insn_sum (insn_of d scope w) (filter_map (insn_of d scope) ws) ∙ ap (λ n. nodes_of d scope w + n) (insn_sum d scope ws)

-- The cells of hardware with its rules are those that its forms say, or fewer.
cells_kept : (d : Described) (scope : Scope) (forms : List HardwareForm) → all_cells (map (ruled_hardware d scope) forms) ≤ sum_of (map cells_of forms)
cells_kept d scope [] = omega arith
cells_kept d scope (f ∷ fs) =
    let rest : all_cells (map (ruled_hardware d scope) fs) ≤ sum_of (map cells_of fs) = cells_kept d scope fs in
    let own : (ruled_hardware d scope f).count ≤ cells_of f = least (cells_of f) 4294967295 in
    omega (arith, rest, own) where
      least : (n most : ℕ) → min n most ≤ n
      least n most = omega arith

pub joined_long : {A : Type 0} (xs ys : List A) → length (xs ++ ys) ≡ length xs + length ys
joined_long [] ys = omega arith
joined_long (x ∷ xs) ys = let rest : length (xs ++ ys) ≡ length xs + length ys = joined_long xs ys in omega (arith, rest)

module _ (s : Selection) (scope : Scope) (m : Machine) (tops : List Top) (alone : first_refusal tops ≡ None) (elements : s.elements ≡ filter_map element_at tops) (none : by_elements (described s) scope m tops ≡ None) where
  all : AreFew s scope tops
  all = few s scope m tops alone elements none

  abbrev fields : List PlainForm
  fields = members s field_in

  abbrev multis : List MultiForm
  multis = members s multi_in

  abbrev hardware : List HardwareForm
  hardware = members s hardware_in

  -- nodes of one kind of elements, behind those of the kinds before
  first_nodes : 0 + all_field_nodes (ruled_fields (described s) scope) ≤ 1000000
  first_nodes =
      let same : all_field_nodes (ruled_fields (described s) scope) ≡ sum_of (map (of_fields s scope) fields) = field_sum s scope fields in
      let most : ((sum_of (map (of_fields s scope) fields) + sum_of (map (of_multis s scope) multis)) + sum_of (map (of_hardwares s scope) hardware)) + sum_of (map (nodes_of (described s) scope) (written_in s)) ≤ 1000000 = all.nodes in
      omega (arith, same, most)

  second_nodes : all_field_nodes (ruled_fields (described s) scope) + all_multi_nodes (ruled_multis (described s) scope) ≤ 1000000
  second_nodes =
      let f : all_field_nodes (ruled_fields (described s) scope) ≡ sum_of (map (of_fields s scope) fields) = field_sum s scope fields in
      let x : all_multi_nodes (ruled_multis (described s) scope) ≡ sum_of (map (of_multis s scope) multis) = multi_sum s scope multis in
      let most : ((sum_of (map (of_fields s scope) fields) + sum_of (map (of_multis s scope) multis)) + sum_of (map (of_hardwares s scope) hardware)) + sum_of (map (nodes_of (described s) scope) (written_in s)) ≤ 1000000 = all.nodes in
      omega (arith, f, x, most)

  third_nodes : (all_field_nodes (ruled_fields (described s) scope) + all_multi_nodes (ruled_multis (described s) scope)) + all_hardware_nodes (ruled_hardwares (described s) scope) ≤ 1000000
  third_nodes =
      let f : all_field_nodes (ruled_fields (described s) scope) ≡ sum_of (map (of_fields s scope) fields) = field_sum s scope fields in
      let x : all_multi_nodes (ruled_multis (described s) scope) ≡ sum_of (map (of_multis s scope) multis) = multi_sum s scope multis in
      let h : all_hardware_nodes (map (ruled_hardware (described s) scope) hardware) ≡ sum_of (map (of_hardwares s scope) hardware) = hardware_sum s scope hardware in
      let most : ((sum_of (map (of_fields s scope) fields) + sum_of (map (of_multis s scope) multis)) + sum_of (map (of_hardwares s scope) hardware)) + sum_of (map (nodes_of (described s) scope) (written_in s)) ≤ 1000000 = all.nodes in
      omega (arith, f, x, h, most)

  last_nodes : ((all_field_nodes (ruled_fields (described s) scope) + all_multi_nodes (ruled_multis (described s) scope)) + all_hardware_nodes (ruled_hardwares (described s) scope)) + sum_of (map insn_nodes (insns_of (described s) scope)) ≤ 1000000
  last_nodes =
      let f : all_field_nodes (ruled_fields (described s) scope) ≡ sum_of (map (of_fields s scope) fields) = field_sum s scope fields in
      let x : all_multi_nodes (ruled_multis (described s) scope) ≡ sum_of (map (of_multis s scope) multis) = multi_sum s scope multis in
      let h : all_hardware_nodes (map (ruled_hardware (described s) scope) hardware) ≡ sum_of (map (of_hardwares s scope) hardware) = hardware_sum s scope hardware in
      let i : sum_of (map insn_nodes (insns_of (described s) scope)) ≡ sum_of (map (nodes_of (described s) scope) (written_in s)) = insn_sum (described s) scope (written_in s) in
      let most : ((sum_of (map (of_fields s scope) fields) + sum_of (map (of_multis s scope) multis)) + sum_of (map (of_hardwares s scope) hardware)) + sum_of (map (nodes_of (described s) scope) (written_in s)) ≤ 1000000 = all.nodes in
      omega (arith, f, x, h, i, most)

  -- how many of each kind there are
  few_fields : 0 + length (ruled_fields (described s) scope) ≤ 1024
  few_fields = let same : length (ruled_fields (described s) scope) ≡ length fields = mapped_long (ruled_field (described s) scope) fields in let most : length fields ≤ 1024 = all.fields in omega (arith, same, most)

  few_multis : 0 + length (ruled_multis (described s) scope) ≤ 1024
  few_multis = let same : length (ruled_multis (described s) scope) ≡ length multis = mapped_long (ruled_multi (described s) scope) multis in let most : length multis ≤ 1024 = all.multis in omega (arith, same, most)

  few_hardwares : 0 + length (ruled_hardwares (described s) scope) ≤ 256
  few_hardwares =
      let same : length (map (ruled_hardware (described s) scope) hardware) ≡ length hardware = mapped_long (ruled_hardware (described s) scope) hardware in
      let most : 5 + length hardware ≤ 256 = all.hardware in
      omega (arith, same, most)

  few_cells : 0 + all_cells (ruled_hardwares (described s) scope) ≤ 65536
  few_cells =
      let least : all_cells (map (ruled_hardware (described s) scope) hardware) ≤ sum_of (map cells_of hardware) = cells_kept (described s) scope hardware in
      let most : sum_of (map cells_of hardware) ≤ 65536 = all.cells in
      omega (arith, least, most)

  few_insns : 0 + length (insns_of (described s) scope) ≤ 4096
  few_insns =
      let least : length (insns_of (described s) scope) ≤ length (written_in s) = fewer (insn_of (described s) scope) (written_in s) in
      let most : length (written_in s) ≤ 4096 = all.insns in
      omega (arith, least, most)

  few_macros : 0 + length (macros_of (described s)) ≤ 1024
  few_macros =
      let least : length (macros_of (described s)) ≤ length (members s macro_in) = fewer (macro_of (described s)) (members s macro_in) in
      let most : length (members s macro_in) ≤ 1024 = all.macros in
      omega (arith, least, most)

  few_rules : 5 + length hardware ≤ 65535
  few_rules = let most : 5 + length hardware ≤ 256 = all.hardware in omega (arith, most)

  few_operands : 0 + length (described s).operands ≤ 1024
  few_operands =
      let both : length (described s).operands ≡ length (operands_of s (described s).numbers) + length (map (bare_operand (described s).numbers (described s).fields (described s).multis) (bare_names s.at (written_in s))) =
      joined_long (operands_of s (described s).numbers) (map (bare_operand (described s).numbers (described s).fields (described s).multis) (bare_names s.at (written_in s))) in
      let plain : length (operands_of s (described s).numbers) ≡ length (members s operand_in) = mapped_long (operand_of (described s).numbers) (members s operand_in) in
      let bare : length (map (bare_operand (described s).numbers (described s).fields (described s).multis) (bare_names s.at (written_in s))) ≡ length (bare_names s.at (written_in s)) =
      mapped_long (bare_operand (described s).numbers (described s).fields (described s).multis) (bare_names s.at (written_in s)) in
      let most : length (members s operand_in) + length (bare_names s.at (written_in s)) ≤ 1024 = all.operands in
      omega (arith, both, plain, bare, most)

  -- what is built in stands before all forms
  before : IsChosen s → AllHold (StandsBefore s.at Hardwares 1) built_in_hardware
  before chosen =
      all_so (λ name. table_of s.machine s.isa s.elements Hardwares name ≡ Some (standing 0 0 kind.Hardware)) (StandsBefore s.at Hardwares 1)
      (λ name is. record { standing = standing 0 0 kind.Hardware; is = ap (λ at. at Hardwares name) chosen.at ∙ is; before = first }) built_in_hardware
      (refl, (refl, (refl, (refl, (refl, tt))))) where
        first : 1 ≤ 1
        first = omega arith

  sized : IsChosen s → (described s).framing.is_sized ≡ true
  sized chosen = sizes_known s scope m tops alone elements none chosen.at chosen.mach chosen.isa

  -- of the machine in hand
  pub within_law : IsChosen s → m ≡ machine_of (described s) scope → scope.texts ≡ all_texts s (forms_of tops) (written_in s) → AreWithin m
  within_law chosen is texts = subst AreWithin (sym is) (record {
    name = name_kept s scope m tops alone elements none chosen.mach;
    fields = fields_within 0 0 (ruled_fields (described s) scope) (short_fields s scope m tops alone elements none) few_fields first_nodes;
    multis = multis_within 0 (all_field_nodes (ruled_fields (described s) scope)) (ruled_multis (described s) scope) (short_multis s scope m tops alone elements none) few_multis second_nodes;
    hardware = hardware_within 0 0 (all_field_nodes (ruled_fields (described s) scope) + all_multi_nodes (ruled_multis (described s) scope)) (ruled_hardwares (described s) scope) (few_hardware s scope m tops alone elements none) few_hardwares few_cells third_nodes;
    rules = built_in_clear (described s) scope (map (ruled_hardware (described s) scope) hardware)
        (subst (λ x. of_rules x 5 (map (ruled_hardware (described s) scope) hardware) ≡ []) is (members_clear s scope m tops alone elements none (before chosen) few_rules));
    insns = insns_within ((all_field_nodes (ruled_fields (described s) scope) + all_multi_nodes (ruled_multis (described s) scope)) + all_hardware_nodes (ruled_hardwares (described s) scope)) (insns_of (described s) scope) (short_insns s scope m tops alone elements none) last_nodes;
    numbers = numbers_within 0 (insns_of (described s) scope) few_insns;
    shapes = subst (λ x. of_shapes x (insns_of (described s) scope) ≡ []) is (shapes_few s scope m tops alone elements none (sized chosen));
    macros = macros_within 0 (macros_of (described s)) (short_macros s scope m tops alone elements none) few_macros;
    operands = operands_within 0 (described s).operands (operands_short s scope m tops alone elements none chosen.at) few_operands;
    syntaxes = syntaxes_few s scope m tops alone elements none;
    texts = texts_kept s scope m tops alone elements none scope.texts texts;
  })

  pub known_law : IsChosen s → AreKnown (described s)
  known_law chosen = record {
    sized = sized chosen;
    operands = few_names;
    slots = λ k w is. slots_few s scope m tops alone elements none w (record { place = k; is = is });
  } where
    few_names : length (all_operand_names s (written_in s)) ≤ 1024
    few_names =
        let both : length (operand_names s ++ bare_names s.at (written_in s)) ≡ length (operand_names s) + length (bare_names s.at (written_in s)) = joined_long (operand_names s) (bare_names s.at (written_in s)) in
        let same : length (operand_names s) ≡ length (members s operand_in) = mapped_long (λ (form : PlainOperandForm). form.name) (members s operand_in) in
        let most : length (members s operand_in) + length (bare_names s.at (written_in s)) ≤ 1024 = all.operands in
        omega (arith, both, same, most)

-- of a machine and a description that are known to be those of a selection
pub within_of : (d : Described) (s : Selection) (scope : Scope) (m : Machine) (tops : List Top) → d ≡ described s → scope ≡ whole_scope s (forms_of tops) → m ≡ machine_of d scope → first_refusal tops ≡ None → s.elements ≡ filter_map element_at tops → by_elements d scope m tops ≡ None → IsChosen s → AreWithin m
within_of d s scope m tops same names is alone elements none chosen =
    within_law s scope m tops alone elements (subst (λ x. by_elements x scope m tops ≡ None) same none) chosen (is ∙ ap (λ x. machine_of x scope) same) (ap (λ (x : Scope). x.texts) names)

pub known_of : (d : Described) (s : Selection) (scope : Scope) (m : Machine) (tops : List Top) → d ≡ described s → first_refusal tops ≡ None → s.elements ≡ filter_map element_at tops → by_elements d scope m tops ≡ None → IsChosen s → AreKnown d
known_of d s scope m tops same alone elements none chosen = subst AreKnown (sym same) (known_law s scope m tops alone elements (subst (λ x. by_elements x scope m tops ≡ None) same none) chosen)

pub ruleset counts_law = (within_of, known_of)
