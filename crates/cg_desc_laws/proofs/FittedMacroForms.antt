-- The form of a macro instruction, of which nothing is said: the clauses that stand in it.
use Rattle.std.proofs.Common.{◌≡◌, ◌∙◌, ◌⊎◌, inl, inr, ℕ, Bool, true, false, not, ◌&&◌, if◌then◌else◌, List, Option, Some, None, refl, sym, ap, subst}
use Rattle.std.specs.Prelude.{codes}
use Rattle.std.specs.List.{list_any, list_all, find}
use Rattle.std.proofs.lemmas.Bool.{false≢true}
use Rattle.cg_base.specs.declared.form.Form.{Form}
use Rattle.cg_base.specs.Parts.{◌>>=◌, Headed, headed}
use Rattle.cg_base.specs.Refusing.{least}
use Rattle.cg_base.specs.Texts.{same_text, passes}
use Rattle.cg_attrs.specs.Clauses.{Clause, Texts, Role, Row, Wanted, WantedBeside, Optional, Repeated, Plain, LeftOut, SpellingOf, row_named, counts_absent, name_by, name_in, counts_as, is_counted, stands_for, is_wanted, absent_at, standing_as, standing, clause_faults}
use Rattle.cg_attrs.specs.Judging.{own_faults, form_faults}
use Rattle.cg_desc_laws_forms.proofs.Clauses.{Clean, clean, Stands, equal_texts, first_true, second_true, not_true}
use Rattle.cg_desc_laws_forms.proofs.Insns.{insn_by}
use Rattle.cg_desc_laws_forms.proofs.Lists.{given_none, found_passes, found_of_all, Found, any_found}
use Rattle.cg_desc_elements.specs.declared.element.Element.TheVariants as element
use Rattle.cg_desc_elements.specs.Reading.{reader_for, element_faults}
use Rattle.cg_insn.specs.Contents.{wrong, left_out}
use Rattle.cg_insn.specs.Instructions.{instruction_in, insn_in, insn_of, insn_faults}
use Rattle.cg_insn.specs.Tables.{heads, kind_named, rows_of, table_of}
use Rattle.cg_insn.specs.declared.form.InsnForm.TheVariants as insn
use Rattle.cg_insn.specs.declared.form.InstructionForm.{InstructionForm}
use Rattle.cg_insn.specs.declared.form.MacroForm.{MacroForm}
use Rattle.cg_model.specs.declared.machine.Machine.{Machine}
use Rattle.cg_rtl_resolve.specs.declared.scope.Scope.{Scope}
use Rattle.cg_desc_scope.specs.Described.{Described}
use Rattle.cg_desc_laws.proofs.Insns.{IsWanted, is_wanted_role, is_wanted_in, wanted_there}
use Rattle.cg_desc_laws.proofs.Opened.{Opened, opened, of_kind}
use Rattle.cg_desc_laws.proofs.Unsaid.{Unsaid}

-- The clause that says what it emits, by either of its names.
pub record Emits (elements : List Form) : Type 0 where
  pub test : Form → Bool
  pub what : Form
  pub found : find test elements ≡ Some what
  pub word : List ℕ
  pub content : List Form
  pub is : standing elements what ≡ Some (record { name = word; content = content; elements = elements })
  pub named : (word ≡ codes "expansions") ⊎ (word ≡ codes "expansion")

-- Its elements, and the clauses that it has to have.
pub record MacroWants (f : Form) (form : MacroForm) : Type 0 where
  pub head : List ℕ
  pub elements : List Form
  pub is : headed f ≡ Some (head, elements)
  pub syntax : Stands elements (codes "syntax")
  pub emits : Emits elements

-- a row that is another spelling has the other name
abbrev is_spelled : Role → List ℕ → Bool
is_spelled (SpellingOf other) own = same_text own (codes "expansion")
is_spelled _ own = true

by_role : (word own : List ℕ) (role : Role) → same_text own word ≡ true → is_spelled role own ≡ true → same_text (name_by word role) (codes "expansions") ≡ true → (word ≡ codes "expansions") ⊎ (word ≡ codes "expansion")
by_role word own (SpellingOf other) same spelled e = inr (sym (equal_texts own word same) ∙ equal_texts own (codes "expansion") spelled)
by_role word own Wanted same spelled e = inl (equal_texts word (codes "expansions") e)
by_role word own (WantedBeside other) same spelled e = inl (equal_texts word (codes "expansions") e)
by_role word own Optional same spelled e = inl (equal_texts word (codes "expansions") e)
by_role word own Repeated same spelled e = inl (equal_texts word (codes "expansions") e)
by_role word own Plain same spelled e = inl (equal_texts word (codes "expansions") e)
by_role word own LeftOut same spelled e = inl (equal_texts word (codes "expansions") e)

there : (b : Bool) (name : List ℕ) → (if not b then Some name else None) ≡ None → b ≡ true
there true name e = refl
there false name e = absurd cc

module _ {C : Type 0} (rows : List (Row C)) where
  abbrev is_spelled_in : Row C → Bool
  is_spelled_in r = is_spelled r.role r.name

  abbrev is_row : List ℕ → Row C → Bool
  is_row name r = same_text r.name name

  module _ (spelled : list_all is_spelled_in rows ≡ true) where
    named_so : (word : List ℕ) → same_text (counts_as rows word) (codes "expansions") ≡ true → (word ≡ codes "expansions") ⊎ (word ≡ codes "expansion")
    named_so word e = at (row_named rows word) refl where
      at : (o : Option (Row C)) → row_named rows word ≡ o → (word ≡ codes "expansions") ⊎ (word ≡ codes "expansion")
      at None is = inl (equal_texts word (codes "expansions") (sym (ap (λ o. same_text (name_in word o) (codes "expansions")) is) ∙ e))
      at (Some r) is =
          by_role word r.name r.role (found_passes (is_row word) r rows is) (found_of_all (is_row word) r is_spelled_in rows spelled is)
          (sym (ap (λ o. same_text (name_in word o) (codes "expansions")) is) ∙ e)

    emits_found : (elements : List Form) → Found (stands_for rows (codes "expansions")) elements → Emits elements
    unfolding standing
    emits_found elements d = at (headed d.what) refl (found_passes (stands_for rows (codes "expansions")) d.what elements d.is) where
      at : (o : Option Headed) → headed d.what ≡ o → is_counted rows (codes "expansions") (headed d.what) ≡ true → Emits elements
      at None is passes = absurd (false≢true (sym (ap (is_counted rows (codes "expansions")) is) ∙ passes))
      at (Some (word, content)) is passes =
          let both : (same_text (counts_as rows word) (codes "expansions") && not (counts_absent word content)) ≡ true = sym (ap (is_counted rows (codes "expansions")) is) ∙ passes in
          let counts : counts_absent word content ≡ false = not_true (counts_absent word content) (second_true (same_text (counts_as rows word) (codes "expansions")) (not (counts_absent word content)) both) in
          let c : Clause = record { name = word; content = content; elements = elements } in
          record {
            test = stands_for rows (codes "expansions");
            what = d.what;
            found = d.is;
            word = word;
            content = content;
            is = ap (λ o. o >>= standing_as elements) is ∙ ap (λ b. if b then None else Some c) counts;
            named = named_so word (first_true (same_text (counts_as rows word) (codes "expansions")) (not (counts_absent word content)) both);
          }

    module _ (wrongs : Texts C) (elements : List Form) (h : Clean wrongs rows elements) where
      by_wanted : (r : Row C) → row_named rows (codes "expansions") ≡ Some r → (role : Role) → r.role ≡ role → is_wanted_role role ≡ true → Emits elements
      by_wanted r row Wanted is wanted =
          let none : absent_at rows elements r ≡ None = given_none (absent_at rows elements) (is_row (codes "expansions")) r rows h.present row in
          let as_wanted : (if not (list_any (stands_for rows r.name) elements) then Some r.name else None) ≡ None =
          sym (ap (λ role. if is_wanted rows elements role && not (list_any (stands_for rows r.name) elements) then Some r.name else None) is) ∙ none in
          let same : r.name ≡ codes "expansions" = equal_texts r.name (codes "expansions") (found_passes (is_row (codes "expansions")) r rows row) in
          let any : list_any (stands_for rows (codes "expansions")) elements ≡ true = subst (λ w. list_any (stands_for rows w) elements ≡ true) same (there (list_any (stands_for rows r.name) elements) r.name as_wanted) in
          emits_found elements (any_found (stands_for rows (codes "expansions")) elements any)
      by_wanted r row (WantedBeside other) is wanted = absurd (false≢true wanted)
      by_wanted r row Optional is wanted = absurd (false≢true wanted)
      by_wanted r row Repeated is wanted = absurd (false≢true wanted)
      by_wanted r row Plain is wanted = absurd (false≢true wanted)
      by_wanted r row LeftOut is wanted = absurd (false≢true wanted)
      by_wanted r row (SpellingOf other) is wanted = absurd (false≢true wanted)

      by_row : (o : Option (Row C)) → row_named rows (codes "expansions") ≡ o → passes (λ r. is_wanted_role r.role) o ≡ true → Emits elements
      by_row None is wanted = absurd (false≢true wanted)
      by_row (Some r) is wanted = by_wanted r is r.role refl wanted

      emits_there : is_wanted_in rows (codes "expansions") ≡ true → Emits elements
      emits_there wanted = by_row (row_named rows (codes "expansions")) refl wanted

-- the clauses that a macro instruction has to have, in a table
record AreWanted {C : Type 0} (rows : List (Row C)) : Type 0 where
  syntax : IsWanted rows (codes "syntax")
  spelled : list_all (is_spelled_in rows) rows ≡ true
  emits : is_wanted_in rows (codes "expansions") ≡ true

wants_of : (f : Form) (form : MacroForm) (o : Opened kind_named insn_in f (insn.Macro form)) → least (insn_faults f) ≡ None → MacroWants f form
wants_of f form o clear =
    let none : least (clause_faults wrong left_out (rows_of o.kind) o.elements) ≡ None = sym (ap (λ r. least (form_faults (own_faults wrong left_out table_of) r)) o.known) ∙ clear in
    let all : AreWanted (rows_of o.kind) = of_kind (λ k. insn_in k o.elements ≡ insn.Macro form → AreWanted (rows_of k)) heads o.head o.kind o.chosen (
      (λ gives. absurd (insn_never (instruction_in o.elements) form gives)),
      ((λ gives. record { syntax = record { apart = refl; wanted = refl }; spelled = refl; emits = refl }), tt),
    ) o.gives in
    record {
      head = o.head;
      elements = o.elements;
      is = o.is;
      syntax = wanted_there wrong left_out (rows_of o.kind) o.elements none (codes "syntax") all.syntax;
      emits = emits_there (rows_of o.kind) all.spelled wrong o.elements (clean wrong left_out (rows_of o.kind) o.elements none) all.emits;
    } where
      insn_never : (x : InstructionForm) (y : MacroForm) → insn.Instruction x ≡ insn.Macro y → ⊥
      insn_never x y e = absurd cc

pub macro_wants : (d : Described) (scope : Scope) (m : Machine) (form : MacroForm) (place : ℕ) (u : Unsaid d scope m place (element.Insn (insn.Macro form))) → MacroWants u.top.form form
macro_wants d scope m form place u =
    let by : (insn_of u.top.form ≡ Some (insn.Macro form)) × (least (element_faults u.top.form) ≡ least (insn_faults u.top.form)) = insn_by u.top.form (reader_for u.top.form) (insn.Macro form) u.is in
    wants_of u.top.form form (opened kind_named insn_in u.top.form (insn.Macro form) by.0) (sym by.1 ∙ u.clear)
