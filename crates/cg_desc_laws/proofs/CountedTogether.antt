-- How many fields, multi fields, hardware and macro instructions the forms give together, and how many cells.
use Rattle.std.proofs.Common.{◌≡◌, ◌∙◌, ℕ, suc, ◌+◌, Bool, true, false, if◌then◌else◌, List, [], ◌∷◌, map, length, Option, Some, None, is_some, slice_get, refl, ap, arith}
use Rattle.std.specs.List.{filter_map, cons_option}
use Rattle.std.proofs.lemmas.Bool.{false≢true}
use Rattle.cg_base.specs.declared.form.Top.{Top}
use Rattle.cg_hw.specs.declared.form.HardwareForm.{HardwareForm}
use Rattle.cg_ifield.specs.declared.form.PlainForm.{PlainForm}
use Rattle.cg_ifield.specs.declared.form.MultiForm.{MultiForm}
use Rattle.cg_ifield.specs.declared.form.FieldForm.TheVariants as field
use Rattle.cg_operand.specs.declared.form.OperandForm.TheVariants as operand
use Rattle.cg_insn.specs.declared.form.MacroForm.{MacroForm}
use Rattle.cg_insn.specs.declared.form.InsnForm.TheVariants as insn
use Rattle.cg_desc_elements.specs.declared.element.Element.{Element}
use Rattle.cg_desc_elements.specs.declared.element.Element.TheVariants as element
use Rattle.cg_desc_fault_count.specs.declared.counts.Counts.{Counts}
use Rattle.cg_desc_fault_count.specs.Counts.{Before, together, counts_by}
use Rattle.cg_desc_fault_count.specs.Counts as counts
use Rattle.cg_desc_choices.specs.declared.written.Written.{Written}
use Rattle.cg_desc_data.specs.Selecting.{takes_part_in, member}
use Rattle.cg_desc_data.specs.Numbering.{field_in, multi_in, hardware_in}
use Rattle.cg_desc_data.specs.Hardware.{cells_of}
use Rattle.cg_desc_scope.specs.Described.{Described}
use Rattle.cg_desc_fault_least.specs.Least.{behind_of}
use Rattle.cg_model_faults.specs.E308.{sum_of}
use Rattle.cg_rtl_resolve.specs.declared.scope.Scope.{Scope}
use Rattle.cg_desc_machine.specs.Macros.{macro_in}
use Rattle.cg_desc_laws.proofs.CountedLimits.{own_of, counts_behind}

-- Each element stands at a form.
abbrev pub HaveForms : List Element → List Top → Type 0
HaveForms es tops = (k : ℕ) (e : Element) → slice_get es k ≡ Some e → is_some (slice_get tops k) ≡ true

-- what is weighed where it is given
abbrev pub weight : {A : Type 0} → (A → ℕ) → Option A → ℕ
weight weigh None = 0
weight weigh (Some a) = weigh a

pub weighed : {A : Type 0} (weigh : A → ℕ) (o : Option A) (rest : List A) → weight weigh o + sum_of (map weigh rest) ≡ sum_of (map weigh (cons_option o rest))
weighed weigh None rest = omega arith
weighed weigh (Some a) rest = refl

pub one_each : {A : Type 0} (xs : List A) → sum_of (map (λ x. 1) xs) ≡ length xs
one_each [] = refl
one_each (x ∷ xs) = let rest : sum_of (map (λ y. 1) xs) ≡ length xs = one_each xs in omega (arith, rest)

module _ (d : Described) (scope : Scope) where
  module _ {A : Type 0} (given : Element → Option A) (weigh : A → ℕ) (pick : Counts → ℕ) (adds : (a b : Counts) → pick (together a b) ≡ pick a + pick b)
      (each : (b : Before) (form : ℕ) (e : Element) (top : Top) → pick (own_of d scope b form e top) ≡ weight weigh (member d.selection given e)) where
    pub total : (b : Before) (form : ℕ) (es : List Element) (tops : List Top) → HaveForms es tops
        → pick (counts_behind d scope b form es tops) ≡ pick b.counts + sum_of (map weigh (filter_map (member d.selection given) es))
    total b form [] tops there = omega arith
    total b form (e ∷ es) [] there = absurd (false≢true (there 0 e refl))
    total b form (e ∷ es) (top ∷ tops) there =
        let rest : pick (counts_behind d scope (behind_of d scope b form e top) (form + 1) es tops) ≡ pick (behind_of d scope b form e top).counts + sum_of (map weigh (filter_map (member d.selection given) es)) =
        total (behind_of d scope b form e top) (form + 1) es tops (λ k f is. there (suc k) f is) in
        let here : pick (behind_of d scope b form e top).counts ≡ pick b.counts + pick (own_of d scope b form e top) = adds b.counts (own_of d scope b form e top) in
        let one : pick (own_of d scope b form e top) ≡ weight weigh (member d.selection given e) = each b form e top in
        let sum : weight weigh (member d.selection given e) + sum_of (map weigh (filter_map (member d.selection given) es)) ≡ sum_of (map weigh (filter_map (member d.selection given) (e ∷ es))) = weighed weigh (member d.selection given e) (filter_map (member d.selection given) es) in
        omega (arith, rest, here, one, sum)

  -- what a form adds that gives this element
  abbrev added : ℕ → ℕ → List Written → Bool → Element → Counts
  added texts bare ws takes e = if takes then record (counts_by d scope bare ws e) { texts = texts } else counts.none

  field_added : (texts bare : ℕ) (ws : List Written) (takes : Bool) (e : Element) → (added texts bare ws takes e).fields ≡ weight (λ (x : PlainForm). 1) (if takes then field_in e else None)
  field_added texts bare ws false e = refl
  field_added texts bare ws true (element.Frame f) = refl
  field_added texts bare ws true (element.Field (field.Plain f)) = refl
  field_added texts bare ws true (element.Field (field.Multi f)) = refl
  field_added texts bare ws true (element.Hardware f) = refl
  field_added texts bare ws true (element.Operand (operand.Plain f)) = refl
  field_added texts bare ws true (element.Operand (operand.Derived f)) = refl
  field_added texts bare ws true (element.Operand (operand.Anyof f)) = refl
  field_added texts bare ws true (element.Insn (insn.Instruction f)) = refl
  field_added texts bare ws true (element.Insn (insn.Macro f)) = refl

  multi_added : (texts bare : ℕ) (ws : List Written) (takes : Bool) (e : Element) → (added texts bare ws takes e).multis ≡ weight (λ (x : MultiForm). 1) (if takes then multi_in e else None)
  multi_added texts bare ws false e = refl
  multi_added texts bare ws true (element.Frame f) = refl
  multi_added texts bare ws true (element.Field (field.Plain f)) = refl
  multi_added texts bare ws true (element.Field (field.Multi f)) = refl
  multi_added texts bare ws true (element.Hardware f) = refl
  multi_added texts bare ws true (element.Operand (operand.Plain f)) = refl
  multi_added texts bare ws true (element.Operand (operand.Derived f)) = refl
  multi_added texts bare ws true (element.Operand (operand.Anyof f)) = refl
  multi_added texts bare ws true (element.Insn (insn.Instruction f)) = refl
  multi_added texts bare ws true (element.Insn (insn.Macro f)) = refl

  hardware_added : (texts bare : ℕ) (ws : List Written) (takes : Bool) (e : Element) → (added texts bare ws takes e).hardware ≡ weight (λ (x : HardwareForm). 1) (if takes then hardware_in e else None)
  hardware_added texts bare ws false e = refl
  hardware_added texts bare ws true (element.Frame f) = refl
  hardware_added texts bare ws true (element.Field (field.Plain f)) = refl
  hardware_added texts bare ws true (element.Field (field.Multi f)) = refl
  hardware_added texts bare ws true (element.Hardware f) = refl
  hardware_added texts bare ws true (element.Operand (operand.Plain f)) = refl
  hardware_added texts bare ws true (element.Operand (operand.Derived f)) = refl
  hardware_added texts bare ws true (element.Operand (operand.Anyof f)) = refl
  hardware_added texts bare ws true (element.Insn (insn.Instruction f)) = refl
  hardware_added texts bare ws true (element.Insn (insn.Macro f)) = refl

  cells_added : (texts bare : ℕ) (ws : List Written) (takes : Bool) (e : Element) → (added texts bare ws takes e).cells ≡ weight cells_of (if takes then hardware_in e else None)
  cells_added texts bare ws false e = refl
  cells_added texts bare ws true (element.Frame f) = refl
  cells_added texts bare ws true (element.Field (field.Plain f)) = refl
  cells_added texts bare ws true (element.Field (field.Multi f)) = refl
  cells_added texts bare ws true (element.Hardware f) = refl
  cells_added texts bare ws true (element.Operand (operand.Plain f)) = refl
  cells_added texts bare ws true (element.Operand (operand.Derived f)) = refl
  cells_added texts bare ws true (element.Operand (operand.Anyof f)) = refl
  cells_added texts bare ws true (element.Insn (insn.Instruction f)) = refl
  cells_added texts bare ws true (element.Insn (insn.Macro f)) = refl

  macro_added : (texts bare : ℕ) (ws : List Written) (takes : Bool) (e : Element) → (added texts bare ws takes e).macros ≡ weight (λ (x : MacroForm). 1) (if takes then macro_in e else None)
  macro_added texts bare ws false e = refl
  macro_added texts bare ws true (element.Frame f) = refl
  macro_added texts bare ws true (element.Field (field.Plain f)) = refl
  macro_added texts bare ws true (element.Field (field.Multi f)) = refl
  macro_added texts bare ws true (element.Hardware f) = refl
  macro_added texts bare ws true (element.Operand (operand.Plain f)) = refl
  macro_added texts bare ws true (element.Operand (operand.Derived f)) = refl
  macro_added texts bare ws true (element.Operand (operand.Anyof f)) = refl
  macro_added texts bare ws true (element.Insn (insn.Instruction f)) = refl
  macro_added texts bare ws true (element.Insn (insn.Macro f)) = refl

  module _ (b : Before) (form : ℕ) (es : List Element) (tops : List Top) (there : HaveForms es tops) where
    pub fields_together : (counts_behind d scope b form es tops).fields ≡ b.counts.fields + length (filter_map (member d.selection field_in) es)
    fields_together =
        total field_in (λ x. 1) (λ c. c.fields) (λ a c. refl) (λ b form e top. field_added _ _ _ (takes_part_in d.selection e) e) b form es tops there
        ∙ ap (λ n. b.counts.fields + n) (one_each (filter_map (member d.selection field_in) es))

    pub multis_together : (counts_behind d scope b form es tops).multis ≡ b.counts.multis + length (filter_map (member d.selection multi_in) es)
    multis_together =
        total multi_in (λ x. 1) (λ c. c.multis) (λ a c. refl) (λ b form e top. multi_added _ _ _ (takes_part_in d.selection e) e) b form es tops there
        ∙ ap (λ n. b.counts.multis + n) (one_each (filter_map (member d.selection multi_in) es))

    pub hardware_together : (counts_behind d scope b form es tops).hardware ≡ b.counts.hardware + length (filter_map (member d.selection hardware_in) es)
    hardware_together =
        total hardware_in (λ x. 1) (λ c. c.hardware) (λ a c. refl) (λ b form e top. hardware_added _ _ _ (takes_part_in d.selection e) e) b form es tops there
        ∙ ap (λ n. b.counts.hardware + n) (one_each (filter_map (member d.selection hardware_in) es))

    pub cells_together : (counts_behind d scope b form es tops).cells ≡ b.counts.cells + sum_of (map cells_of (filter_map (member d.selection hardware_in) es))
    cells_together = total hardware_in cells_of (λ c. c.cells) (λ a c. refl) (λ b form e top. cells_added _ _ _ (takes_part_in d.selection e) e) b form es tops there

    pub macros_together : (counts_behind d scope b form es tops).macros ≡ b.counts.macros + length (filter_map (member d.selection macro_in) es)
    macros_together =
        total macro_in (λ x. 1) (λ c. c.macros) (λ a c. refl) (λ b form e top. macro_added _ _ _ (takes_part_in d.selection e) e) b form es tops there
        ∙ ap (λ n. b.counts.macros + n) (one_each (filter_map (member d.selection macro_in) es))
