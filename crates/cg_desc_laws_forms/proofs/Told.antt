-- What the forms that a reader reads say, kind by kind, whatever its kinds are.
use Rattle.std.proofs.Common.{◌≡◌, ℕ, Bool, true, false, if◌then◌else◌, List, [], ◌∷◌, ◌++◌, Option, Some, None, is_some, refl, sym, ap, ◌∙◌, subst}
use Rattle.std.specs.Prelude.{codes}
use Rattle.std.specs.List.{list_all}
use Rattle.cg_base.specs.declared.form.Form.{Form}
use Rattle.cg_base.specs.Parts.{◌>>=◌, Headed, headed, elements_of, only}
use Rattle.cg_base.specs.Refusing.{FaultTexts, least}
use Rattle.cg_base.specs.Texts.{same_text}
use Rattle.cg_attrs.specs.Clauses.{Clause, Texts, Row, Wanted, row_named, clause_faults}
use Rattle.cg_attrs.specs.Contents.{misfit}
use Rattle.cg_attrs.specs.Judging.{Named, kind_among, Table, Clauses, Arguments, argument_faults, table_faults, own_faults, TheFormIf, recognized_by, recognized_in, recognized, form_faults, said}
use Rattle.cg_attrs.specs.Lookups.{optional_form, wanted_word, wanted_form}
use Rattle.cg_insn.specs.Contents.{fits_syntax}
use Rattle.cg_insn.specs.Expressions.{inside, wrong_expression, left_out_expression}
use Rattle.cg_insn.specs.Syntax.{is_syntax}
use Rattle.cg_rtl.specs.Shapes.{wrong_in, left_out_in, faults_in}
use Rattle.cg_desc_laws_forms.specs.Forms.{IsClear, HoldsOne, one_in}
use Rattle.cg_desc_laws_forms.proofs.Lists.{append_none, the_found}
use Rattle.cg_desc_laws_forms.proofs.Clauses.{Clean, clean, complete, Stands, fits, is_kept, keeps, is_apart, wanted_stands_apart}
use Rattle.cg_desc_laws_forms.proofs.Frames.{misfit_none}
use Rattle.cg_desc_laws_forms.proofs.Rules.{no_flaw, optional_clear, holds_one, syntax_said}

-- The rows of a table.
pub data These {C : Type 0} (rows : List (Row C)) : Type 0 where
  these : These rows

-- forms
module _ {K C X : Type 0} (heads : List (Named K)) (wrongs left_outs : Texts C) (tables : K → Table C) (says : K → List Form → X) (P : X → Type 0) where
  abbrev pub Tells : Table C → (List Form → X) → Type 0
  Tells (Clauses rows) f = These rows → (elements : List Form) → least (clause_faults wrongs left_outs rows elements) ≡ None → P (f elements)
  Tells (Arguments rows) f = (elements : List Form) → least (argument_faults wrongs rows elements) ≡ None → P (f elements)

  abbrev pub EachTold : List (Named K) → Type 0
  EachTold [] = Unit {0}
  EachTold (h ∷ hs) = Tells (tables h.1) (says h.1) × EachTold hs

  by_table : (t : Table C) (f : List Form → X) → Tells t f → (elements : List Form) → least (table_faults wrongs left_outs t elements) ≡ None → P (f elements)
  by_table (Clauses rows) f tells elements e = tells these elements e
  by_table (Arguments rows) f tells elements e = tells elements e

  found : (hs : List (Named K)) → EachTold hs → (name : List ℕ) (k : K) → kind_among name hs ≡ Some k → (elements : List Form) → least (own_faults wrongs left_outs tables k elements) ≡ None → P (says k elements)
  found [] all name k is elements = absurd cc
  found (h ∷ hs) all name k is elements = at (found hs all.1 name k) (same_text h.0 name) is where
    at : (kind_among name hs ≡ Some k → (elements : List Form) → least (own_faults wrongs left_outs tables k elements) ≡ None → P (says k elements)) → (b : Bool) → (if b then Some h.1 else kind_among name hs) ≡ Some k → least (own_faults wrongs left_outs tables k elements) ≡ None → P (says k elements)
    at rest true is e =
        let same : h.1 ≡ k = the_found h.1 k is in
        subst (λ l. P (says l elements)) same (by_table (tables h.1) (says h.1) all.0 elements (subst (λ l. least (own_faults wrongs left_outs tables l elements) ≡ None) (sym same) e))
    at rest false is e = rest is elements e

  told_by : (x : Headed) (o : Option K) → kind_among x.0 heads ≡ o → EachTold heads → least (form_faults (own_faults wrongs left_outs tables) (recognized_by x o)) ≡ None → (y : X) → said says (recognized_by x o) ≡ Some y → P y
  told_by x None is all e y gives = absurd cc
  told_by x (Some k) is all e y gives = subst P (the_found (says k x.1) y gives) (found heads all x.0 k is x.1 e)

  pub told : EachTold heads → (f : Form) (y : X) → least (form_faults (own_faults wrongs left_outs tables) (recognized (λ name. kind_among name heads) f)) ≡ None → said says (recognized (λ name. kind_among name heads) f) ≡ Some y → P y
  told all f y e is = at (headed f) e is where
    at_if : (x : Headed) (b : Bool) → least (form_faults (own_faults wrongs left_outs tables) (if b then TheFormIf else recognized_by x (kind_among x.0 heads))) ≡ None → said says (if b then TheFormIf else recognized_by x (kind_among x.0 heads)) ≡ Some y → P y
    at_if x true e is = absurd cc
    at_if x false e is = told_by x (kind_among x.0 heads) refl all e y is

    at : (o : Option Headed) → least (form_faults (own_faults wrongs left_outs tables) (recognized_in (λ name. kind_among name heads) o)) ≡ None → said says (recognized_in (λ name. kind_among name heads) o) ≡ Some y → P y
    at None e is = absurd cc
    at (Some x) e is = at_if x (same_text (codes "if") x.0) e is

-- clauses
pub clear_inside : (o : Option Form) → inside wrong_in o ≡ [] → inside left_out_in o ≡ [] → IsClear o
clear_inside None a b = tt
clear_inside (Some e) a b = no_flaw (faults_in e) a b

module _ {C : Type 0} (wrongs left_outs : Texts C) {rows : List (Row C)} (t : These rows) (elements : List Form) (clear : least (clause_faults wrongs left_outs rows elements) ≡ None) where
  h : Clean wrongs rows elements
  h = clean wrongs left_outs rows elements clear

  pub syntax_told : {r : Row C} → list_all (is_apart (codes "syntax")) rows ≡ true → row_named rows (codes "syntax") ≡ Some r → r.role ≡ Wanted → ((c : Clause) → wrongs r.content c ≡ misfit (fits_syntax c.content) c.name) → is_syntax (wanted_word (codes "syntax") elements) ≡ true
  syntax_told {r} apart row wanted judges =
      let name : List ℕ = codes "syntax" in
      let x : Stands elements name = wanted_stands_apart wrongs rows elements name r h apart row wanted in
      let c : Clause = record { name = name; content = x.content; elements = elements } in
      let none : misfit (fits_syntax x.content) name ≡ [] = sym (judges c) ∙ fits wrongs rows elements name r x h refl row in
      syntax_said elements x (misfit_none (fits_syntax x.content) name none)

  pub one_told : (name : List ℕ) {r : Row C} → same_text (codes "attrs") name ≡ false → list_all (is_apart name) rows ≡ true → row_named rows name ≡ Some r → r.role ≡ Wanted → ((c : Clause) → wrongs r.content c ≡ wrong_expression c) → ((c : Clause) → left_outs r.content c ≡ left_out_expression c)
      → HoldsOne (wanted_form name elements)
  one_told name {r} other apart row wanted judges leaves =
      let x : Stands elements name = wanted_stands_apart wrongs rows elements name r h apart row wanted in
      let c : Clause = record { name = name; content = x.content; elements = elements } in
      let said : wrong_expression c ≡ [] = sym (judges c) ∙ fits wrongs rows elements name r x h other row in
      let more : left_out_expression c ≡ [] = sym (leaves c) ∙ keeps left_outs rows elements name r x (complete wrongs left_outs rows elements clear) row (ap is_kept wanted) in
      let both : (misfit (is_some (only x.content)) name ≡ []) × (inside wrong_in (only x.content) ≡ []) = append_none (misfit (is_some (only x.content)) name) (inside wrong_in (only x.content)) said in
      holds_one elements name x (misfit_none (is_some (only x.content)) name both.0) (clear_inside (only x.content) both.1 more)

  -- an optional clause that holds an expression, which is read so
  pub optional_told : (name : List ℕ) (read : List Form → Option Form) {r : Row C} → same_text (codes "attrs") name ≡ false → row_named rows name ≡ Some r → is_kept r.role ≡ true
      → ((c : Clause) → wrongs r.content c ≡ [] → inside wrong_in (read c.content) ≡ []) → ((c : Clause) → left_outs r.content c ≡ [] → inside left_out_in (read c.content) ≡ [])
      → IsClear (optional_form name elements >>= elements_of >>= read)
  optional_told name read {r} other row kept judges leaves = optional_clear elements name read at where
    at : (x : Stands elements name) → IsClear (read x.content)
    at x =
        let c : Clause = record { name = name; content = x.content; elements = elements } in
        clear_inside (read x.content)
        (judges c (fits wrongs rows elements name r x h other row))
        (leaves c (keeps left_outs rows elements name r x (complete wrongs left_outs rows elements clear) row kept))
