-- What the rules of fields and multi fields say, where their forms have no fault.
use Rattle.std.proofs.Common.{◌≡◌, ℕ, zero, suc, ◌+◌, Bool, true, false, ◌&&◌, ◌||◌, ◌==◌, cond, if◌then◌else◌, List, [], ◌∷◌, ◌++◌, Option, Some, None, is_some, refl, sym, ap, ◌∙◌, subst}
use Rattle.std.specs.Prelude.{codes}
use Rattle.std.specs.List.{list_all, list_any, count_by, filter_map, cons_option, flat_map}
use Rattle.std.specs.Option.{option_map}
use Rattle.std.proofs.lemmas.Bool.{false≢true}
use Rattle.std.proofs.lemmas.List.Recursion.{is_count_by}
use Rattle.cg_base.specs.declared.form.Form.{Form}
use Rattle.cg_base.specs.Parts.{◌>>=◌, elements_of, symbol_of, is_symbol, only_symbol}
use Rattle.cg_base.specs.Refusing.{least}
use Rattle.cg_base.specs.Texts.{same_text, passes}
use Rattle.cg_attrs.specs.Clauses.{Clause, Row, Role, Wanted, Optional, row_named, content_at, clause_faults}
use Rattle.cg_attrs.specs.Clauses as clauses
use Rattle.cg_attrs.specs.Contents.{misfit, fits as fits_shared}
use Rattle.cg_attrs.specs.Judging.{Recognized, Headless, TheFormIf, Unknown, Known, recognized, own_faults, form_faults, said}
use Rattle.cg_attrs.specs.Lookups.{symbol_at, optional_form, wanted_form, content_or_none}
use Rattle.cg_attrs.specs.declared.content.Content.TheVariants as shared
use Rattle.cg_ifield.specs.Contents.{expression, inside, is_rule, is_field_mode, fits_mode, wrong_rule, wrong, left_out}
use Rattle.cg_ifield.specs.Fields.{plain_in, multi_in, field_in, field_of, field_faults}
use Rattle.cg_ifield.specs.Sets.{set_of, sets_of, sets_field, is_set_once, sets_one_of, set_just, set_just_in, all_symbols, subfields_at, itself_at, inside_one, wrong_sets, left_out_sets}
use Rattle.cg_ifield.specs.Sets as sets
use Rattle.cg_ifield.specs.Tables.{kind_named, row, rows_of, table_of}
use Rattle.cg_ifield.specs.declared.content.FieldContent.{FieldContent}
use Rattle.cg_ifield.specs.declared.content.FieldContent.TheVariants as content
use Rattle.cg_ifield.specs.declared.form.FieldForm.{FieldForm}
use Rattle.cg_ifield.specs.declared.form.FieldForm.TheVariants as form
use Rattle.cg_ifield.specs.declared.form.MultiForm.{MultiForm}
use Rattle.cg_ifield.specs.declared.form.PlainForm.{PlainForm}
use Rattle.cg_ifield.specs.declared.table.FieldKind.{FieldKind}
use Rattle.cg_ifield.specs.declared.table.FieldKind.TheVariants as kind
use Rattle.cg_desc_elements.specs.declared.element.Element.{Element}
use Rattle.cg_desc_elements.specs.declared.element.Element.TheVariants as element
use Rattle.cg_desc_elements.specs.Reading.{reader_for, element_of, element_faults}
use Rattle.cg_rtl.specs.Shapes.{wrong_in, left_out_in, faults_in}
use Rattle.cg_desc_laws_forms.specs.Forms.{IsClear, HasCodes, coded_in, value_set, AreClear, HasSets, is_set_in, HasFields}
use Rattle.cg_desc_laws_forms.proofs.Lists.{append_none}
use Rattle.cg_desc_laws_forms.proofs.Clauses.{Clean, clean, complete, Stands, content_stands, fits, keeps, wanted_stands, first_true, second_true}
use Rattle.cg_desc_laws_forms.proofs.FormFields.{field_by, text_allowed, Says, symbol_said}
use Rattle.cg_desc_laws_forms.proofs.Frames.{misfit_none}
use Rattle.cg_desc_laws_forms.proofs.Rules.{no_flaw, optional_clear, elements_there, content_there}

clear_inside : (o : Option Form) → inside wrong_in o ≡ [] → inside left_out_in o ≡ [] → IsClear o
clear_inside None a b = tt
clear_inside (Some e) a b = no_flaw (faults_in e) a b

module _ (elements : List Form) (clear : least (clause_faults wrong left_out (rows_of kind.Plain) elements) ≡ None) where
  coded : (name : List ℕ) → same_text (codes "attrs") name ≡ false → row_named (rows_of kind.Plain) name ≡ Some (row name Optional content.Rule) → IsClear (coded_in (optional_form name elements))
  coded name other is = optional_clear elements name expression at where
    r : Row FieldContent
    r = row name Optional content.Rule

    at : (x : Stands elements name) → IsClear (expression x.content)
    at x =
        let c : Clause = record { name = name; content = x.content; elements = elements } in
        let wrongs : wrong_rule c ≡ [] = fits wrong (rows_of kind.Plain) elements name r x (clean wrong left_out (rows_of kind.Plain) elements clear) other is in
        let more : left_out content.Rule c ≡ [] = keeps left_out (rows_of kind.Plain) elements name r x (complete wrong left_out (rows_of kind.Plain) elements clear) is refl in
        clear_inside (expression x.content) (append_none (misfit (is_rule x.content) name) (inside wrong_in (expression x.content)) wrongs).1 more

  codes_of : HasCodes (plain_in elements)
  codes_of = record { encode = coded (codes "encode") refl refl; decode = coded (codes "decode") refl refl }

-- sets of fields
one_clear : (o : Option (List ℕ × Form)) → inside_one wrong_in o ≡ [] → inside_one left_out_in o ≡ [] → IsClear (option_map (λ x. x.1) o)
one_clear None a b = tt
one_clear (Some x) a b = no_flaw (faults_in x.1) a b

abbrev wrong_at : Form → List (List ℕ)
wrong_at f = inside_one wrong_in (set_of f)

abbrev left_out_at : Form → List (List ℕ)
left_out_at f = inside_one left_out_in (set_of f)

all_clear : (fs : List Form) → flat_map wrong_at fs ≡ [] → flat_map left_out_at fs ≡ [] → AreClear fs
all_clear [] a b = tt
all_clear (f ∷ fs) a b =
    let p : (wrong_at f ≡ []) × (flat_map wrong_at fs ≡ []) = append_none (wrong_at f) (flat_map wrong_at fs) a in
    let q : (left_out_at f ≡ []) × (flat_map left_out_at fs ≡ []) = append_none (left_out_at f) (flat_map left_out_at fs) b in
    (one_clear (set_of f) p.0 q.0, all_clear fs p.1 q.1)

-- What is set, where a clause that sets fields has no fault.
record Setting (fields : Option (List Form)) (content : List Form) : Type 0 where
  sets : List Form
  is : sets_of content ≡ Some sets
  just : set_just_in fields sets ≡ true
  clear : AreClear sets

setting : (fields : Option (List Form)) (name : List ℕ) (content : List Form) (o : Option (List Form)) → sets_of content ≡ o → misfit (passes (set_just_in fields) o) name ++ sets.inside wrong_in o ≡ [] → sets.inside left_out_in o ≡ [] → Setting fields content
setting fields name content None is a b = let p : (misfit false name ≡ []) × ([] ≡ []) = append_none (misfit false name) [] a in absurd (false≢true (misfit_none false name p.0))
setting fields name content (Some fs) is a b =
    let p : (misfit (set_just_in fields fs) name ≡ []) × (flat_map wrong_at fs ≡ []) = append_none (misfit (set_just_in fields fs) name) (flat_map wrong_at fs) a in
    record { sets = fs; is = is; just = misfit_none (set_just_in fields fs) name p.0; clear = all_clear fs p.1 b }

-- each subfield is set
abbrev count : (Form → Bool) → List Form → ℕ
count test [] = 0
count test (f ∷ fs) = cond (test f) (1 + count test fs) (count test fs)

counted : (test : Form → Bool) (fs : List Form) → count test fs ≡ count_by test fs
counted test fs = is_count_by (count test) test refl (λ x xs. refl) fs

one_counted : (test : Form → Bool) (fs : List Form) → (count test fs == 1) ≡ true → list_any test fs ≡ true
one_counted test [] h = absurd (false≢true h)
one_counted test (f ∷ fs) h = at (one_counted test fs) (test f) refl where
  at : ((count test fs == 1) ≡ true → list_any test fs ≡ true) → (b : Bool) → test f ≡ b → (test f || list_any test fs) ≡ true
  at rest true is = ap (λ b. b || list_any test fs) is
  at rest false is = ap (λ b. b || list_any test fs) is ∙ rest (sym (ap (λ b. cond b (1 + count test fs) (count test fs) == 1) is) ∙ h)

count_one : (test : Form → Bool) (fs : List Form) → (count_by test fs == 1) ≡ true → list_any test fs ≡ true
count_one test fs h = one_counted test fs (ap (λ n. n == 1) (counted test fs) ∙ h)

both : (a b : Bool) → a ≡ true → b ≡ true → (a && b) ≡ true
both true b e f = f
both false b e f = absurd (false≢true e)

abbrev once_by : List Form → Option (List ℕ) → Bool
once_by fs o = passes (λ name. count_by (sets_field name) fs == 1) o

each_set : (fs gs : List Form) → list_all (is_set_once fs) gs ≡ true → list_all (is_set_in fs) (filter_map symbol_of gs) ≡ true
each_set fs [] e = refl
each_set fs (g ∷ gs) e = at (symbol_of g) (first_true (is_set_once fs g) (list_all (is_set_once fs) gs) e) (each_set fs gs (second_true (is_set_once fs g) (list_all (is_set_once fs) gs) e)) where
  at : (o : Option (List ℕ)) → once_by fs o ≡ true → list_all (is_set_in fs) (filter_map symbol_of gs) ≡ true → list_all (is_set_in fs) (cons_option o (filter_map symbol_of gs)) ≡ true
  at None h rest = absurd (false≢true h)
  at (Some name) h rest = both (is_set_in fs name) (list_all (is_set_in fs) (filter_map symbol_of gs)) (count_one (sets_field name) fs h) rest

module _ (elements : List Form) (clear : least (clause_faults wrong left_out (rows_of kind.Multi) elements) ≡ None) where
  h : Clean wrong (rows_of kind.Multi) elements
  h = clean wrong left_out (rows_of kind.Multi) elements clear

  whole : clauses.left_out left_out (rows_of kind.Multi) elements ≡ []
  whole = complete wrong left_out (rows_of kind.Multi) elements clear

  insert_there : Stands elements (codes "insert")
  insert_there = wanted_stands wrong (rows_of kind.Multi) elements (codes "insert") (row (codes "insert") Wanted content.Insert) h refl refl refl

  extract_there : Stands elements (codes "extract")
  extract_there = wanted_stands wrong (rows_of kind.Multi) elements (codes "extract") (row (codes "extract") Wanted content.Extract) h refl refl refl

  subs_there : Stands elements (codes "subfields")
  subs_there = wanted_stands wrong (rows_of kind.Multi) elements (codes "subfields") (row (codes "subfields") Wanted (content.Shared shared.Symbols)) h refl refl refl

  inserted : Setting (subfields_at elements) insert_there.content
  inserted =
      let r : Row FieldContent = row (codes "insert") Wanted content.Insert in
      let c : Clause = record { name = codes "insert"; content = insert_there.content; elements = elements } in
      let wrongs : wrong_sets subfields_at c ≡ [] = fits wrong (rows_of kind.Multi) elements (codes "insert") r insert_there h refl refl in
      let more : left_out_sets c ≡ [] = keeps left_out (rows_of kind.Multi) elements (codes "insert") r insert_there whole refl refl in
      setting (subfields_at elements) (codes "insert") insert_there.content (sets_of insert_there.content) refl wrongs more

  extracted : Setting (itself_at elements) extract_there.content
  extracted =
      let r : Row FieldContent = row (codes "extract") Wanted content.Extract in
      let c : Clause = record { name = codes "extract"; content = extract_there.content; elements = elements } in
      let wrongs : wrong_sets itself_at c ≡ [] = fits wrong (rows_of kind.Multi) elements (codes "extract") r extract_there h refl refl in
      let more : left_out_sets c ≡ [] = keeps left_out (rows_of kind.Multi) elements (codes "extract") r extract_there whole refl refl in
      setting (itself_at elements) (codes "extract") extract_there.content (sets_of extract_there.content) refl wrongs more

  are_symbols : list_all is_symbol subs_there.content ≡ true
  are_symbols =
      let r : Row FieldContent = row (codes "subfields") Wanted (content.Shared shared.Symbols) in
      misfit_none (list_all is_symbol subs_there.content) (codes "subfields") (fits wrong (rows_of kind.Multi) elements (codes "subfields") r subs_there h refl refl)

  subs_known : subfields_at elements ≡ Some subs_there.content
  unfolding subfields_at
  subs_known = ap (λ o. o >>= all_symbols) (content_stands elements (codes "subfields") subs_there) ∙ ap (λ b. if b then Some subs_there.content else None) are_symbols

  all_set : list_all (is_set_in inserted.sets) (multi_in elements).subfields ≡ true
  all_set =
      let just : set_just subs_there.content inserted.sets ≡ true = sym (ap (λ o. set_just_in o inserted.sets) subs_known) ∙ inserted.just in
      let once : list_all (is_set_once inserted.sets) subs_there.content ≡ true = first_true (list_all (is_set_once inserted.sets) subs_there.content) (list_all (sets_one_of subs_there.content) inserted.sets) just in
      ap (λ fs. list_all (is_set_in inserted.sets) (filter_map symbol_of fs)) (content_there elements (codes "subfields") subs_there) ∙ each_set inserted.sets subs_there.content once

  mode_allowed : (text : List ℕ) → symbol_at (codes "mode") elements ≡ Some text → is_field_mode text ≡ true
  mode_allowed text is =
      let name : List ℕ = codes "mode" in
      let x : Says elements name only_symbol text = symbol_said elements name text is in
      let r : Row FieldContent = row (codes "mode") Optional content.Mode in
      let none : misfit (fits_mode x.stands.content) name ≡ [] = fits wrong (rows_of kind.Multi) elements name r x.stands h refl refl in
      text_allowed is_field_mode (only_symbol x.stands.content) text x.is (misfit_none (fits_mode x.stands.content) name none)

  sets_there : (name : List ℕ) (x : Stands elements name) (fields : Option (List Form)) → (s : Setting fields x.content) → HasSets (wanted_form name elements)
  sets_there name x fields s = record { sets = s.sets; is = ap (λ o. o >>= sets_of) (elements_there elements name x) ∙ s.is; clear = s.clear }

  fields_of : HasFields (multi_in elements)
  unfolding sets_there inserted
  fields_of = record {
    mode = mode_allowed;
    insert = sets_there (codes "insert") insert_there (subfields_at elements) inserted;
    extract = sets_there (codes "extract") extract_there (itself_at elements) extracted;
    each = all_set;
  }

-- the forms
abbrev plain_or : PlainForm → Option FieldForm → PlainForm
plain_or x (Some (form.Plain other)) = other
plain_or x _ = x

abbrev multi_or : MultiForm → Option FieldForm → MultiForm
multi_or x (Some (form.Multi other)) = other
multi_or x _ = x

plain_recognized : (o : Recognized FieldKind) (x : PlainForm) → least (form_faults (own_faults wrong left_out table_of) o) ≡ None → said field_in o ≡ Some (form.Plain x) → HasCodes x
plain_recognized Headless x e is = absurd cc
plain_recognized TheFormIf x e is = absurd cc
plain_recognized (Unknown head) x e is = absurd cc
plain_recognized (Known kind.Plain elements) x e is = subst HasCodes (ap (plain_or x) is) (codes_of elements e)
plain_recognized (Known kind.Multi elements) x e is = absurd cc

multi_recognized : (o : Recognized FieldKind) (x : MultiForm) → least (form_faults (own_faults wrong left_out table_of) o) ≡ None → said field_in o ≡ Some (form.Multi x) → HasFields x
multi_recognized Headless x e is = absurd cc
multi_recognized TheFormIf x e is = absurd cc
multi_recognized (Unknown head) x e is = absurd cc
multi_recognized (Known kind.Plain elements) x e is = absurd cc
multi_recognized (Known kind.Multi elements) x e is = subst HasFields (ap (multi_or x) is) (fields_of elements e)

pub codes_law : (f : Form) (x : PlainForm) → least (element_faults f) ≡ None → element_of f ≡ Some (element.Field (form.Plain x)) → HasCodes x
codes_law f x e is =
    let by : (field_of f ≡ Some (form.Plain x)) × (least (element_faults f) ≡ least (field_faults f)) = field_by f (reader_for f) (form.Plain x) is in
    plain_recognized (recognized kind_named f) x (sym by.1 ∙ e) by.0

pub multis_law : (f : Form) (x : MultiForm) → least (element_faults f) ≡ None → element_of f ≡ Some (element.Field (form.Multi x)) → HasFields x
multis_law f x e is =
    let by : (field_of f ≡ Some (form.Multi x)) × (least (element_faults f) ≡ least (field_faults f)) = field_by f (reader_for f) (form.Multi x) is in
    multi_recognized (recognized kind_named f) x (sym by.1 ∙ e) by.0
