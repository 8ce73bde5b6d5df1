-- How many nodes of expressions and how many operands the forms of a description give together.
use Rattle.std.proofs.Common.{◌≡◌, ◌∙◌, ℕ, suc, ◌+◌, Bool, true, false, if◌then◌else◌, List, [], ◌∷◌, ◌++◌, map, None, refl, sym, ap, arith}
use Rattle.std.specs.List.{filter_map, flat_map}
use Rattle.std.proofs.lemmas.Bool.{false≢true}
use Rattle.cg_base.specs.declared.form.Top.{Top}
use Rattle.cg_hw.specs.declared.form.HardwareForm.{HardwareForm}
use Rattle.cg_ifield.specs.declared.form.PlainForm.{PlainForm}
use Rattle.cg_ifield.specs.declared.form.MultiForm.{MultiForm}
use Rattle.cg_ifield.specs.declared.form.FieldForm.TheVariants as field
use Rattle.cg_operand.specs.declared.form.OperandForm.TheVariants as operand
use Rattle.cg_operand.specs.declared.form.PlainOperandForm.{PlainOperandForm}
use Rattle.cg_insn.specs.declared.form.InsnForm.TheVariants as insn
use Rattle.cg_desc_elements.specs.declared.element.Element.{Element}
use Rattle.cg_desc_elements.specs.declared.element.Element.TheVariants as element
use Rattle.cg_desc_fault_count.specs.declared.counts.Counts.{Counts}
use Rattle.cg_desc_fault_count.specs.Counts.{Before, counts_by, bare_of, nodes_of}
use Rattle.cg_desc_fault_count.specs.Counts as counts
use Rattle.cg_desc_fault_count.specs.Known.{Standing, with_all, count_new}
use Rattle.cg_desc_choices.specs.declared.written.Written.{Written}
use Rattle.cg_desc_data.specs.Selecting.{Selection, takes_part_in, member}
use Rattle.cg_desc_data.specs.Numbering.{field_in, multi_in, hardware_in, operand_in}
use Rattle.cg_desc_scope.specs.Bare.{bare_in}
use Rattle.cg_desc_scope.specs.Described.{Described, described, written_in}
use Rattle.cg_desc_scope.specs.Texts.{of_form}
use Rattle.cg_desc_insns.specs.Expanded.{instructions_in, instructions_at, expanded_from}
use Rattle.cg_desc_fault_least.specs.Least.{behind_of}
use Rattle.cg_model_faults.specs.E308.{sum_of, field_nodes, multi_nodes, hardware_nodes}
use Rattle.cg_rtl_resolve.specs.declared.scope.Scope.{Scope}
use Rattle.cg_desc_machine.specs.Rules.{ruled_field, ruled_multi, ruled_hardware}
use Rattle.cg_desc_laws.proofs.CountedGroups.{Grouped}
use Rattle.cg_desc_laws.proofs.CountedLimits.{own_of, counts_behind}
use Rattle.cg_desc_laws.proofs.CountedNames.{counted_append}
use Rattle.cg_desc_laws.proofs.CountedTogether.{HaveForms, weight, weighed}

pub sum_append : (xs ys : List ℕ) → sum_of (xs ++ ys) ≡ sum_of xs + sum_of ys
sum_append [] ys = omega arith
sum_append (x ∷ xs) ys = let rest : sum_of (xs ++ ys) ≡ sum_of xs + sum_of ys = sum_append xs ys in omega (arith, rest)

pub map_append : {A B : Type 0} (f : A → B) (xs ys : List A) → map f (xs ++ ys) ≡ map f xs ++ map f ys
map_append f [] ys = refl
map_append f (x ∷ xs) ys = ap (λ zs. f x ∷ zs) (map_append f xs ys)

same_joined : {A : Type 0} (xs ys zs : List A) → (xs ++ ys) ++ zs ≡ xs ++ (ys ++ zs)
same_joined [] ys zs = refl
same_joined (x ∷ xs) ys zs = ap (λ vs. x ∷ vs) (same_joined xs ys zs)

joined_append : {A B : Type 0} (f : A → List B) (xs ys : List A) → flat_map f (xs ++ ys) ≡ flat_map f xs ++ flat_map f ys
joined_append f [] ys = refl
joined_append f (x ∷ xs) ys = ap (λ zs. f x ++ zs) (joined_append f xs ys) ∙ sym (same_joined (f x) (flat_map f xs) (flat_map f ys))

plain_sum : (n : ℕ) → n ≡ ((n + 0) + 0) + 0
plain_sum n = omega arith

second_sum : (n : ℕ) → n ≡ ((0 + n) + 0) + 0
second_sum n = omega arith

third_sum : (n : ℕ) → n ≡ ((0 + 0) + n) + 0
third_sum n = omega arith

last_sum : (n : ℕ) → n ≡ ((0 + 0) + 0) + n
last_sum n = omega arith

last_of_two : (n : ℕ) → n ≡ 0 + n
last_of_two n = omega arith

module _ (s : Selection) (scope : Scope) where
  abbrev d : Described
  d = described s

  -- what a form becomes, where it takes part or not
  abbrev becomes : ℕ → Bool → Element → List Written
  becomes number takes e = if takes then instructions_in s.at s.elements number e else []

  -- what a form adds that gives this element
  abbrev added : ℕ → ℕ → List Written → Bool → Element → Counts
  added texts bare ws takes e = if takes then record (counts_by d scope bare ws e) { texts = texts } else counts.none

  abbrev pub of_fields : PlainForm → ℕ
  of_fields f = field_nodes (ruled_field d scope f)

  abbrev pub of_multis : MultiForm → ℕ
  of_multis f = multi_nodes (ruled_multi d scope f)

  abbrev pub of_hardwares : HardwareForm → ℕ
  of_hardwares f = hardware_nodes (ruled_hardware d scope f)

  abbrev nodes_in : Bool → Element → ℕ
  nodes_in takes e = (weight of_fields (if takes then field_in e else None) + weight of_multis (if takes then multi_in e else None)) + weight of_hardwares (if takes then hardware_in e else None)

  nodes_added : (texts bare number : ℕ) (ws : List Written) (takes : Bool) (e : Element) → ws ≡ becomes number takes e
      → (added texts bare ws takes e).nodes ≡ nodes_in takes e + sum_of (map (nodes_of d scope) (becomes number takes e))
  nodes_added texts bare number ws false e same = refl
  nodes_added texts bare number ws true (element.Frame f) same = refl
  nodes_added texts bare number ws true (element.Field (field.Plain f)) same = plain_sum (of_fields f)
  nodes_added texts bare number ws true (element.Field (field.Multi f)) same = second_sum (of_multis f)
  nodes_added texts bare number ws true (element.Hardware f) same = third_sum (of_hardwares f)
  nodes_added texts bare number ws true (element.Operand (operand.Plain f)) same = refl
  nodes_added texts bare number ws true (element.Operand (operand.Derived f)) same = refl
  nodes_added texts bare number ws true (element.Operand (operand.Anyof f)) same = refl
  nodes_added texts bare number ws true (element.Insn (insn.Instruction f)) same =
      ap (λ xs. sum_of (map (nodes_of d scope) xs)) same ∙ last_sum (sum_of (map (nodes_of d scope) (becomes number true (element.Insn (insn.Instruction f)))))
  nodes_added texts bare number ws true (element.Insn (insn.Macro f)) same = refl

  operands_added : (texts number : ℕ) (st : Standing) (ws : List Written) (takes : Bool) (e : Element) → ws ≡ becomes number takes e
      → (added texts (count_new st (bare_of d ws)) ws takes e).operands ≡ weight (λ (x : PlainOperandForm). 1) (if takes then operand_in e else None) + count_new st (bare_of d (becomes number takes e))
  operands_added texts number st ws false e same = refl
  operands_added texts number st ws true (element.Frame f) same = refl
  operands_added texts number st ws true (element.Field (field.Plain f)) same = refl
  operands_added texts number st ws true (element.Field (field.Multi f)) same = refl
  operands_added texts number st ws true (element.Hardware f) same = refl
  operands_added texts number st ws true (element.Operand (operand.Plain f)) same = refl
  operands_added texts number st ws true (element.Operand (operand.Derived f)) same = refl
  operands_added texts number st ws true (element.Operand (operand.Anyof f)) same = refl
  operands_added texts number st ws true (element.Insn (insn.Instruction f)) same =
      ap (λ xs. count_new st (bare_of d xs)) same ∙ last_of_two (count_new st (bare_of d (becomes number true (element.Insn (insn.Instruction f)))))
  operands_added texts number st ws true (element.Insn (insn.Macro f)) same = refl

  -- The nodes of the rules of these elements, and of the expressions of the instructions that they become.
  abbrev pub all_nodes_of : ℕ → List Element → ℕ
  all_nodes_of number es =
      ((sum_of (map of_fields (filter_map (member s field_in) es)) + sum_of (map of_multis (filter_map (member s multi_in) es))) + sum_of (map of_hardwares (filter_map (member s hardware_in) es)))
      + sum_of (map (nodes_of d scope) (expanded_from s.at s.machine s.isa s.elements number es))

  one_more : (number : ℕ) (e : Element) (es : List Element)
      → (nodes_in (takes_part_in s e) e + sum_of (map (nodes_of d scope) (instructions_at s.at s.machine s.isa s.elements number e))) + all_nodes_of (number + 1) es ≡ all_nodes_of number (e ∷ es)
  one_more number e es =
      let own : List Written = instructions_at s.at s.machine s.isa s.elements number e in
      let rest : List Written = expanded_from s.at s.machine s.isa s.elements (number + 1) es in
      let f : weight of_fields (member s field_in e) + sum_of (map of_fields (filter_map (member s field_in) es)) ≡ sum_of (map of_fields (filter_map (member s field_in) (e ∷ es))) = weighed of_fields (member s field_in e) (filter_map (member s field_in) es) in
      let x : weight of_multis (member s multi_in e) + sum_of (map of_multis (filter_map (member s multi_in) es)) ≡ sum_of (map of_multis (filter_map (member s multi_in) (e ∷ es))) = weighed of_multis (member s multi_in e) (filter_map (member s multi_in) es) in
      let h : weight of_hardwares (member s hardware_in e) + sum_of (map of_hardwares (filter_map (member s hardware_in) es)) ≡ sum_of (map of_hardwares (filter_map (member s hardware_in) (e ∷ es))) = weighed of_hardwares (member s hardware_in e) (filter_map (member s hardware_in) es) in
      let i : sum_of (map (nodes_of d scope) (own ++ rest)) ≡ sum_of (map (nodes_of d scope) own) + sum_of (map (nodes_of d scope) rest) = ap sum_of (map_append (nodes_of d scope) own rest) ∙ sum_append (map (nodes_of d scope) own) (map (nodes_of d scope) rest) in
      omega (arith, f, x, h, i)

  pub nodes_total : (b : Before) (number : ℕ) (es : List Element) (tops : List Top) → HaveForms es tops → Grouped s number es
      → (counts_behind d scope b number es tops).nodes ≡ b.counts.nodes + all_nodes_of number es
  nodes_total b number [] tops there groups = omega arith
  nodes_total b number (e ∷ es) [] there groups = absurd (false≢true (there 0 e refl))
  nodes_total b number (e ∷ es) (top ∷ tops) there groups =
      let rest : (counts_behind d scope (behind_of d scope b number e top) (number + 1) es tops).nodes ≡ (b.counts.nodes + (own_of d scope b number e top).nodes) + all_nodes_of (number + 1) es =
      nodes_total (behind_of d scope b number e top) (number + 1) es tops (λ k f is. there (suc k) f is) groups.1 in
      let own : (own_of d scope b number e top).nodes ≡ nodes_in (takes_part_in s e) e + sum_of (map (nodes_of d scope) (instructions_at s.at s.machine s.isa s.elements number e)) =
      nodes_added _ _ number (of_form number (written_in s)) (takes_part_in s e) e groups.0 in
      let more : (nodes_in (takes_part_in s e) e + sum_of (map (nodes_of d scope) (instructions_at s.at s.machine s.isa s.elements number e))) + all_nodes_of (number + 1) es ≡ all_nodes_of number (e ∷ es) = one_more number e es in
      omega (arith, rest, own, more)

  -- The bare fields of the formats of the instructions that these elements become.
  abbrev pub bare_from : ℕ → List Element → List (List ℕ)
  bare_from number es = flat_map (bare_in s.at) (expanded_from s.at s.machine s.isa s.elements number es)

  pub operands_total : (b : Before) (number : ℕ) (es : List Element) (tops : List Top) → HaveForms es tops → Grouped s number es
      → (counts_behind d scope b number es tops).operands ≡ b.counts.operands + (sum_of (map (λ (x : PlainOperandForm). 1) (filter_map (member s operand_in) es)) + count_new b.bare (bare_from number es))
  operands_total b number [] tops there groups = omega arith
  operands_total b number (e ∷ es) [] there groups = absurd (false≢true (there 0 e refl))
  operands_total b number (e ∷ es) (top ∷ tops) there groups =
      let ws : List Written = of_form number (written_in s) in
      let own : List Written = instructions_at s.at s.machine s.isa s.elements number e in
      let later : List Written = expanded_from s.at s.machine s.isa s.elements (number + 1) es in
      let rest : (counts_behind d scope (behind_of d scope b number e top) (number + 1) es tops).operands
      ≡ (b.counts.operands + (own_of d scope b number e top).operands) + (sum_of (map (λ (x : PlainOperandForm). 1) (filter_map (member s operand_in) es)) + count_new (with_all b.bare (bare_of d ws)) (bare_from (number + 1) es)) =
      operands_total (behind_of d scope b number e top) (number + 1) es tops (λ k f is. there (suc k) f is) groups.1 in
      let one : (own_of d scope b number e top).operands ≡ weight (λ (x : PlainOperandForm). 1) (member s operand_in e) + count_new b.bare (bare_of d own) =
      operands_added _ number b.bare ws (takes_part_in s e) e groups.0 in
      let same : count_new (with_all b.bare (bare_of d ws)) (bare_from (number + 1) es) ≡ count_new (with_all b.bare (bare_of d own)) (bare_from (number + 1) es) =
      ap (λ xs. count_new (with_all b.bare (bare_of d xs)) (bare_from (number + 1) es)) groups.0 in
      let both : count_new b.bare (bare_from number (e ∷ es)) ≡ count_new b.bare (bare_of d own) + count_new (with_all b.bare (bare_of d own)) (bare_from (number + 1) es) =
      ap (count_new b.bare) (joined_append (bare_in s.at) own later) ∙ counted_append b.bare (bare_of d own) (bare_from (number + 1) es) in
      let plain : weight (λ (x : PlainOperandForm). 1) (member s operand_in e) + sum_of (map (λ (x : PlainOperandForm). 1) (filter_map (member s operand_in) es)) ≡ sum_of (map (λ (x : PlainOperandForm). 1) (filter_map (member s operand_in) (e ∷ es))) =
      weighed (λ (x : PlainOperandForm). 1) (member s operand_in e) (filter_map (member s operand_in) es) in
      omega (arith, rest, one, same, both, plain)
