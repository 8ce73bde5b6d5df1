-- The form of an instruction, of which nothing is said: the clauses that stand in it.
use Rattle.std.proofs.Common.{◌≡◌, ◌∙◌, ℕ, Bool, true, false, List, Option, Some, None, refl, sym, ap}
use Rattle.std.specs.Prelude.{codes}
use Rattle.std.specs.List.{list_all}
use Rattle.std.proofs.lemmas.Bool.{false≢true}
use Rattle.cg_base.specs.declared.form.Form.{Form}
use Rattle.cg_base.specs.Parts.{headed}
use Rattle.cg_base.specs.Refusing.{least}
use Rattle.cg_base.specs.Texts.{passes}
use Rattle.cg_attrs.specs.Clauses.{Texts, Role, Row, Wanted, WantedBeside, Optional, Repeated, Plain, LeftOut, SpellingOf, row_named, clause_faults}
use Rattle.cg_attrs.specs.Judging.{own_faults, form_faults}
use Rattle.cg_desc_laws_forms.proofs.Clauses.{clean, Stands, is_apart, wanted_stands_apart}
use Rattle.cg_desc_laws_forms.proofs.Insns.{insn_by}
use Rattle.cg_desc_elements.specs.declared.element.Element.TheVariants as element
use Rattle.cg_desc_elements.specs.Reading.{reader_for, element_faults}
use Rattle.cg_insn.specs.Contents.{wrong, left_out}
use Rattle.cg_insn.specs.Instructions.{instruction_in, macro_in, insn_in, insn_of, insn_faults}
use Rattle.cg_insn.specs.Tables.{heads, kind_named, rows_of, table_of}
use Rattle.cg_insn.specs.declared.form.InsnForm.{InsnForm}
use Rattle.cg_insn.specs.declared.form.InsnForm.TheVariants as insn
use Rattle.cg_insn.specs.declared.form.InstructionForm.{InstructionForm}
use Rattle.cg_insn.specs.declared.form.MacroForm.{MacroForm}
use Rattle.cg_model.specs.declared.machine.Machine.{Machine}
use Rattle.cg_rtl_resolve.specs.declared.scope.Scope.{Scope}
use Rattle.cg_desc_scope.specs.Described.{Described}
use Rattle.cg_desc_laws.proofs.Opened.{Opened, opened, of_kind}
use Rattle.cg_desc_laws.proofs.Unsaid.{Unsaid}

-- Its elements, and the clauses that it has to have.
pub record Wants (f : Form) (form : InstructionForm) : Type 0 where
  pub head : List ℕ
  pub elements : List Form
  pub is : headed f ≡ Some (head, elements)
  pub gives : instruction_in elements ≡ form
  pub syntax : Stands elements (codes "syntax")
  pub format : Stands elements (codes "format")
  pub semantics : Stands elements (codes "semantics")

abbrev form_or : InstructionForm → InsnForm → InstructionForm
form_or x (insn.Instruction y) = y
form_or x _ = x

-- A row of a table is wanted, and no other spelling counts as it.
abbrev pub is_wanted_role : Role → Bool
is_wanted_role Wanted = true
is_wanted_role _ = false

abbrev pub is_wanted_in : {C : Type 0} → List (Row C) → List ℕ → Bool
is_wanted_in rows name = passes (λ r. is_wanted_role r.role) (row_named rows name)

pub record IsWanted {C : Type 0} (rows : List (Row C)) (name : List ℕ) : Type 0 where
  pub apart : list_all (is_apart name) rows ≡ true
  pub wanted : is_wanted_in rows name ≡ true

module _ {C : Type 0} (wrongs left_outs : Texts C) (rows : List (Row C)) (elements : List Form) (none : least (clause_faults wrongs left_outs rows elements) ≡ None) (name : List ℕ) where
  by_role : (r : Row C) → row_named rows name ≡ Some r → list_all (is_apart name) rows ≡ true → (role : Role) → r.role ≡ role → is_wanted_role role ≡ true → Stands elements name
  by_role r row apart Wanted is wanted = wanted_stands_apart wrongs rows elements name r (clean wrongs left_outs rows elements none) apart row is
  by_role r row apart (WantedBeside other) is wanted = absurd (false≢true wanted)
  by_role r row apart Optional is wanted = absurd (false≢true wanted)
  by_role r row apart Repeated is wanted = absurd (false≢true wanted)
  by_role r row apart Plain is wanted = absurd (false≢true wanted)
  by_role r row apart LeftOut is wanted = absurd (false≢true wanted)
  by_role r row apart (SpellingOf other) is wanted = absurd (false≢true wanted)

  by_row : (o : Option (Row C)) → row_named rows name ≡ o → list_all (is_apart name) rows ≡ true → passes (λ r. is_wanted_role r.role) o ≡ true → Stands elements name
  by_row None is apart wanted = absurd (false≢true wanted)
  by_row (Some r) is apart wanted = by_role r is apart r.role refl wanted

  pub wanted_there : IsWanted rows name → Stands elements name
  wanted_there w = by_row (row_named rows name) refl w.apart w.wanted

-- the clauses that an instruction has to have, in a table
record AreWanted {C : Type 0} (rows : List (Row C)) (elements : List Form) (form : InstructionForm) : Type 0 where
  gives : instruction_in elements ≡ form
  syntax : IsWanted rows (codes "syntax")
  format : IsWanted rows (codes "format")
  semantics : IsWanted rows (codes "semantics")

pub wants_of : (f : Form) (form : InstructionForm) (o : Opened kind_named insn_in f (insn.Instruction form)) → least (insn_faults f) ≡ None → Wants f form
wants_of f form o clear =
    let none : least (clause_faults wrong left_out (rows_of o.kind) o.elements) ≡ None = sym (ap (λ r. least (form_faults (own_faults wrong left_out table_of) r)) o.known) ∙ clear in
    let all : AreWanted (rows_of o.kind) o.elements form = of_kind (λ k. insn_in k o.elements ≡ insn.Instruction form → AreWanted (rows_of k) o.elements form) heads o.head o.kind o.chosen (
      (λ gives. record {
        gives = ap (form_or form) gives;
        syntax = record { apart = refl; wanted = refl };
        format = record { apart = refl; wanted = refl };
        semantics = record { apart = refl; wanted = refl };
      }),
      ((λ gives. absurd (macro_never (macro_in o.elements) form gives)), tt),
    ) o.gives in
    record {
      head = o.head;
      elements = o.elements;
      is = o.is;
      gives = all.gives;
      syntax = wanted_there wrong left_out (rows_of o.kind) o.elements none (codes "syntax") all.syntax;
      format = wanted_there wrong left_out (rows_of o.kind) o.elements none (codes "format") all.format;
      semantics = wanted_there wrong left_out (rows_of o.kind) o.elements none (codes "semantics") all.semantics;
    } where
      macro_never : (x : MacroForm) (y : InstructionForm) → insn.Macro x ≡ insn.Instruction y → ⊥
      macro_never x y e = absurd cc

pub wants : (d : Described) (scope : Scope) (m : Machine) (form : InstructionForm) (place : ℕ) (u : Unsaid d scope m place (element.Insn (insn.Instruction form))) → Wants u.top.form form
wants d scope m form place u =
    let by : (insn_of u.top.form ≡ Some (insn.Instruction form)) × (least (element_faults u.top.form) ≡ least (insn_faults u.top.form)) = insn_by u.top.form (reader_for u.top.form) (insn.Instruction form) u.is in
    wants_of u.top.form form (opened kind_named insn_in u.top.form (insn.Instruction form) by.0) (sym by.1 ∙ u.clear)
