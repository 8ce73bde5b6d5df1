-- The cpu and the instruction set of a selected machine are there, where nothing is said of its forms: its sizes are known.
use Rattle.std.proofs.Common.{◌≡◌, ◌∙◌, ℕ, suc, ◌+◌, ◌==◌, Bool, true, false, not, ◌&&◌, ◌||◌, if◌then◌else◌, List, [], ◌∷◌, ◌++◌, map, length, Option, Some, None, is_some, slice_get, refl, sym, ap, subst, arith, codes}
use Rattle.std.specs.List.{list_all, filter_map, cons_option, flat_map}
use Rattle.std.specs.Option.{option_map, unwrap_or}
use Rattle.std.proofs.lemmas.Bool.{false≢true}
use Rattle.std.proofs.lemmas.Bool.Decides.{nat_tests}
use Rattle.cg_base.specs.declared.form.Form.{Form}
use Rattle.cg_base.specs.declared.form.Top.{Top}
use Rattle.cg_base.specs.Parts.{◌>>=◌, symbol_of, is_symbol, only_symbol}
use Rattle.cg_base.specs.Refusing.{first, least}
use Rattle.cg_attrs.specs.Clauses.{Clause, Row, clauses, content_at, clause_faults}
use Rattle.cg_attrs.specs.Contents.{fits, misfit, wrong, left_out}
use Rattle.cg_attrs.specs.Frames.{arch_of, mach_of, frame_in, frame_of, frame_faults}
use Rattle.cg_attrs.specs.Judging.{own_faults, form_faults}
use Rattle.cg_attrs.specs.Lookups.{symbol_at}
use Rattle.cg_attrs.specs.Tables.{kind_named, wanted, optional, rows_of, table_of}
use Rattle.cg_attrs.specs.declared.content.Content.{Content}
use Rattle.cg_attrs.specs.declared.content.Content.TheVariants as content
use Rattle.cg_attrs.specs.declared.frame.ArchForm.{ArchForm}
use Rattle.cg_attrs.specs.declared.frame.MachForm.{MachForm}
use Rattle.cg_attrs.specs.declared.frame.Frame.{Frame}
use Rattle.cg_attrs.specs.declared.frame.Frame.TheVariants as frame
use Rattle.cg_attrs.specs.declared.table.Kind.{Kind}
use Rattle.cg_attrs.specs.declared.table.Kind.TheVariants as kind
use Rattle.cg_desc_laws_forms.proofs.Clauses.{Clean, clean, Stands, StandsWith, content_stands, looked_up, fits as is_of_its_kind, wanted_stands}
use Rattle.cg_desc_laws_forms.proofs.Frames.{misfit_none, frame_by}
use Rattle.cg_desc_laws_forms.proofs.Lists.{append_none, the_found}
use Rattle.cg_desc_choices.specs.declared.written.Written.{Written}
use Rattle.cg_desc_data.specs.Selecting.{Selection, takes_part_in, named}
use Rattle.cg_desc_data.specs.Selecting as selecting
use Rattle.cg_desc_data.specs.Framing.{cpu_in, isa_in, selected_cpu, isa_named, isa_form, arch_form}
use Rattle.cg_desc_scope.specs.Described.{Described, described}
use Rattle.cg_desc_scope.specs.Texts.{of_form}
use Rattle.cg_desc_elements.specs.declared.element.Element.{Element}
use Rattle.cg_desc_elements.specs.declared.element.Element.TheVariants as element
use Rattle.cg_desc_elements.specs.declared.kind.Kind.TheVariants as kinds
use Rattle.cg_desc_elements.specs.declared.kind.Namespace.TheVariants.{Cpus, Isas}
use Rattle.cg_desc_elements.specs.Belonging.{belongs_to_machine, takes_part}
use Rattle.cg_desc_elements.specs.Elements.{kind_of}
use Rattle.cg_desc_elements.specs.Kinds.{namespace_of}
use Rattle.cg_desc_elements.specs.E318.{arch_in, selected_arch, isas_named, selected_isa, selected_mach}
use Rattle.cg_desc_elements.specs.Reading.{reader_for, element_faults, element_at, first_refusal}
use Rattle.cg_desc_fault_least.specs.Least.{by_elements}
use Rattle.cg_ifield.specs.declared.form.FieldForm.TheVariants as field
use Rattle.cg_insn.specs.declared.form.InsnForm.TheVariants as insn
use Rattle.cg_operand.specs.declared.form.OperandForm.TheVariants as operand
use Rattle.cg_desc_fault_rtl.specs.Expressions.{expressions}
use Rattle.cg_desc_fault_rtl.specs.Judging.{of_expressions}
use Rattle.cg_desc_names.specs.declared.names.Standing.{Standing}
use Rattle.cg_desc_names.specs.Table.{table_of as names_of, same_namespace}
use Rattle.cg_model.specs.declared.machine.Machine.{Machine}
use Rattle.cg_desc_fault_name.specs.E304 as e304
use Rattle.cg_desc_fault_name.specs.E306 as e306
use Rattle.cg_desc_fault_name.specs.MacroNames.{macro_names, of_macro}
use Rattle.cg_desc_fault_name.specs.Names.{names_from, name_at, placed_names, of_name, of_names}
use Rattle.cg_desc_fault_name.specs.Shapes.{of_choices}
use Rattle.cg_desc_fault_name.specs.Words.{of_words}
use Rattle.cg_rtl_resolve.specs.declared.scope.Scope.{Scope}
use Rattle.cg_desc_references.specs.declared.finding.Finding.TheVariants.{Fitting, OfAnotherKind, Undefined}
use Rattle.cg_desc_references.specs.declared.reference.Place.{Place}
use Rattle.cg_desc_references.specs.declared.reference.Place.TheVariants as place
use Rattle.cg_desc_references.specs.declared.reference.Reference.{Reference}
use Rattle.cg_desc_references.specs.Clauses.{clauses_in, clauses_of}
use Rattle.cg_desc_references.specs.E304.{is_other, is_of_another_kind}
use Rattle.cg_desc_references.specs.E306.{is_nothing, is_undefined}
use Rattle.cg_desc_references.specs.Finding.{is_defined}
use Rattle.cg_desc_references.specs.References.{reference, symbols}
use Rattle.cg_desc_fault_report.specs.Saying.{only_text, placed, said_where}
use Rattle.cg_desc_laws.proofs.Opened.{Opened, opened}
use Rattle.cg_desc_laws.proofs.Said.{none_placed}
use Rattle.cg_desc_laws.proofs.Unsaid.{Unsaid, unsaid, none_of_clause}
use Rattle.cg_desc_laws.proofs.CountedElements.{own_at}
use Rattle.cg_desc_laws.proofs.CountedKept.{IsMach, mach_found}
use Rattle.cg_desc_laws.proofs.CountedLeading.{Leads, leads}
use Rattle.cg_desc_laws.proofs.CountedOwn.{Own}

-- What isn't said of the first name isn't so.
second_of_three : {A : Type 0} (a b c : List A) → a ++ b ++ c ≡ [] → b ≡ []
second_of_three [] [] c h = refl
second_of_three [] (x ∷ b) c h = absurd cc
second_of_three (x ∷ a) b c h = absurd cc

second_of_five : {A : Type 0} (a b c d e : List A) → a ++ b ++ c ++ d ++ e ≡ [] → b ≡ []
second_of_five [] [] c d e h = refl
second_of_five [] (x ∷ b) c d e h = absurd cc
second_of_five (x ∷ a) b c d e h = absurd cc

unsaid_first : (wrong : Reference → Bool) (p : Place) (name : List ℕ) (rest : List (List ℕ)) → of_names wrong (names_from 0 (map (reference p) (name ∷ rest))) ≡ [] → wrong (reference p name) ≡ false
unsaid_first wrong p name rest none = by (wrong (reference p name)) (append_none (of_name wrong (name_at (0 ∷ []) (reference p name))) (of_names wrong (names_from 1 (map (reference p) rest))) none).0 where
  by : (b : Bool) → (if b then placed (0 ∷ []) (only_text name) ∷ [] else []) ≡ [] → b ≡ false
  by true h = absurd cc
  by false h = refl

-- What is neither of another kind nor undefined fits its place.
fitting : (a b : Bool) → is_other (if a then Fitting else if b then OfAnotherKind else Undefined) ≡ false → is_nothing (if a then Fitting else if b then OfAnotherKind else Undefined) ≡ false → a ≡ true
fitting true b other nothing = refl
fitting false true other nothing = absurd (false≢true (sym other))
fitting false false other nothing = absurd (false≢true (sym nothing))

-- the symbols of a clause that stands
record HasFirst (fs : List Form) : Type 0 where
  name : List ℕ
  rest : List (List ℕ)
  is : filter_map symbol_of fs ≡ name ∷ rest

symbols_first : (fs : List Form) → (length fs == 0) ≡ false → list_all is_symbol fs ≡ true → HasFirst fs
symbols_first [] some all = absurd (false≢true (sym some))
symbols_first (f ∷ fs) some all = by (symbol_of f) refl where
  by : (o : Option (List ℕ)) → symbol_of f ≡ o → HasFirst (f ∷ fs)
  by None is = absurd (false≢true (sym (ap (λ o. is_some o && list_all is_symbol fs) is) ∙ all))
  by (Some name) is = record { name = name; rest = filter_map symbol_of fs; is = ap (λ o. cons_option o (filter_map symbol_of fs)) is }

first_false : (a b : Bool) → (a || b) ≡ false → a ≡ false
first_false true b e = e
first_false false b e = refl

one_symbol : (fs : List Form) (name : List ℕ) → only_symbol fs ≡ Some name → filter_map symbol_of fs ≡ name ∷ []
unfolding only_symbol
one_symbol [] name is = absurd cc
one_symbol (f ∷ []) name is = ap (λ o. cons_option o []) is
one_symbol (f ∷ g ∷ fs) name is = absurd cc

-- The forms of a machine and of an arch.
record IsMachForm (k : Kind) (fs : List Form) (mach : MachForm) : Type 0 where
  kind : k ≡ kind.Mach
  gives : mach_of fs ≡ mach

record IsArchForm (k : Kind) (fs : List Form) (arch : ArchForm) : Type 0 where
  kind : k ≡ kind.Arch
  gives : arch_of fs ≡ arch

abbrev mach_or : MachForm → Frame → MachForm
mach_or x (frame.Mach y) = y
mach_or x _ = x

abbrev arch_or : ArchForm → Frame → ArchForm
arch_or x (frame.Arch y) = y
arch_or x _ = x

mach_kind : (k : Kind) (fs : List Form) (mach : MachForm) → frame_in k fs ≡ frame.Mach mach → IsMachForm k fs mach
mach_kind kind.Mach fs mach is = record { kind = refl; gives = ap (mach_or mach) is }
mach_kind kind.Isa fs mach is = absurd cc
mach_kind kind.Arch fs mach is = absurd cc
mach_kind kind.Cpu fs mach is = absurd cc
mach_kind kind.Model fs mach is = absurd cc
mach_kind kind.AttrDef fs mach is = absurd cc
mach_kind kind.Enum fs mach is = absurd cc
mach_kind kind.InsnEnum fs mach is = absurd cc
mach_kind kind.Keyword fs mach is = absurd cc

arch_kind : (k : Kind) (fs : List Form) (arch : ArchForm) → frame_in k fs ≡ frame.Arch arch → IsArchForm k fs arch
arch_kind kind.Arch fs arch is = record { kind = refl; gives = ap (arch_or arch) is }
arch_kind kind.Isa fs arch is = absurd cc
arch_kind kind.Mach fs arch is = absurd cc
arch_kind kind.Cpu fs arch is = absurd cc
arch_kind kind.Model fs arch is = absurd cc
arch_kind kind.AttrDef fs arch is = absurd cc
arch_kind kind.Enum fs arch is = absurd cc
arch_kind kind.InsnEnum fs arch is = absurd cc
arch_kind kind.Keyword fs arch is = absurd cc

-- An element among cpus is a cpu, and one among instruction sets an instruction set.
cpu_is : (e : Element) → same_namespace Cpus (namespace_of (kind_of e)) ≡ true → is_some (cpu_in e) ≡ true
cpu_is (element.Frame (frame.Cpu f)) is = refl
cpu_is (element.Frame (frame.Arch f)) is = absurd (false≢true is)
cpu_is (element.Frame (frame.Isa f)) is = absurd (false≢true is)
cpu_is (element.Frame (frame.Mach f)) is = absurd (false≢true is)
cpu_is (element.Frame (frame.Model f)) is = absurd (false≢true is)
cpu_is (element.Frame (frame.AttrDef f)) is = absurd (false≢true is)
cpu_is (element.Frame (frame.Enum f)) is = absurd (false≢true is)
cpu_is (element.Frame (frame.InsnEnum f)) is = absurd (false≢true is)
cpu_is (element.Frame (frame.Keyword f)) is = absurd (false≢true is)
cpu_is (element.Field (field.Plain f)) is = absurd (false≢true is)
cpu_is (element.Field (field.Multi f)) is = absurd (false≢true is)
cpu_is (element.Hardware f) is = absurd (false≢true is)
cpu_is (element.Operand (operand.Plain f)) is = absurd (false≢true is)
cpu_is (element.Operand (operand.Derived f)) is = absurd (false≢true is)
cpu_is (element.Operand (operand.Anyof f)) is = absurd (false≢true is)
cpu_is (element.Insn (insn.Instruction f)) is = absurd (false≢true is)
cpu_is (element.Insn (insn.Macro f)) is = absurd (false≢true is)

isa_is : (e : Element) → same_namespace Isas (namespace_of (kind_of e)) ≡ true → is_some (isa_in e) ≡ true
isa_is (element.Frame (frame.Isa f)) is = refl
isa_is (element.Frame (frame.Arch f)) is = absurd (false≢true is)
isa_is (element.Frame (frame.Cpu f)) is = absurd (false≢true is)
isa_is (element.Frame (frame.Mach f)) is = absurd (false≢true is)
isa_is (element.Frame (frame.Model f)) is = absurd (false≢true is)
isa_is (element.Frame (frame.AttrDef f)) is = absurd (false≢true is)
isa_is (element.Frame (frame.Enum f)) is = absurd (false≢true is)
isa_is (element.Frame (frame.InsnEnum f)) is = absurd (false≢true is)
isa_is (element.Frame (frame.Keyword f)) is = absurd (false≢true is)
isa_is (element.Field (field.Plain f)) is = absurd (false≢true is)
isa_is (element.Field (field.Multi f)) is = absurd (false≢true is)
isa_is (element.Hardware f) is = absurd (false≢true is)
isa_is (element.Operand (operand.Plain f)) is = absurd (false≢true is)
isa_is (element.Operand (operand.Derived f)) is = absurd (false≢true is)
isa_is (element.Operand (operand.Anyof f)) is = absurd (false≢true is)
isa_is (element.Insn (insn.Instruction f)) is = absurd (false≢true is)
isa_is (element.Insn (insn.Macro f)) is = absurd (false≢true is)

-- The arch is an element that belongs to the machine.
record IsArch (machine : List ℕ) (es : List Element) (arch : ArchForm) : Type 0 where
  place : ℕ
  is : slice_get es place ≡ Some (element.Frame (frame.Arch arch))
  belongs : belongs_to_machine machine arch.attrs ≡ true

arch_found : (machine : List ℕ) (es : List Element) (arch : ArchForm) → first (filter_map (arch_in machine) es) ≡ Some arch → IsArch machine es arch
arch_found machine [] arch is = absurd cc
arch_found machine (e ∷ es) arch is = by e (arch_found machine es arch) is where
  further : (x : Element) → IsArch machine es arch → IsArch machine (x ∷ es) arch
  further x a = record { place = suc a.place; is = a.is; belongs = a.belongs }

  at : (form : ArchForm) (b : Bool) → belongs_to_machine machine form.attrs ≡ b → (first (filter_map (arch_in machine) es) ≡ Some arch → IsArch machine es arch)
      → first (cons_option (if b then Some form else None) (filter_map (arch_in machine) es)) ≡ Some arch → IsArch machine (element.Frame (frame.Arch form) ∷ es) arch
  at form true belongs rest e =
      subst (λ a. IsArch machine (element.Frame (frame.Arch form) ∷ es) a) (the_found form arch e) (record { place = 0; is = refl; belongs = belongs })
  at form false belongs rest e = further (element.Frame (frame.Arch form)) (rest e)

  by : (x : Element) → (first (filter_map (arch_in machine) es) ≡ Some arch → IsArch machine es arch) → first (cons_option (arch_in machine x) (filter_map (arch_in machine) es)) ≡ Some arch → IsArch machine (x ∷ es) arch
  by (element.Frame (frame.Arch form)) rest e = at form (belongs_to_machine machine form.attrs) refl rest e
  by (element.Frame (frame.Isa f)) rest e = further _ (rest e)
  by (element.Frame (frame.Cpu f)) rest e = further _ (rest e)
  by (element.Frame (frame.Mach f)) rest e = further _ (rest e)
  by (element.Frame (frame.Model f)) rest e = further _ (rest e)
  by (element.Frame (frame.AttrDef f)) rest e = further _ (rest e)
  by (element.Frame (frame.Enum f)) rest e = further _ (rest e)
  by (element.Frame (frame.InsnEnum f)) rest e = further _ (rest e)
  by (element.Frame (frame.Keyword f)) rest e = further _ (rest e)
  by (element.Field f) rest e = further _ (rest e)
  by (element.Hardware f) rest e = further _ (rest e)
  by (element.Operand f) rest e = further _ (rest e)
  by (element.Insn f) rest e = further _ (rest e)

module _ (s : Selection) (scope : Scope) (m : Machine) (tops : List Top) (alone : first_refusal tops ≡ None) (elements : s.elements ≡ filter_map element_at tops) (none : by_elements (described s) scope m tops ≡ None) where
  -- what the first name in a clause is not
  record IsNamed (p : Place) (name : List ℕ) : Type 0 where
    kind : is_of_another_kind s.at (reference p name) ≡ false
    known : is_undefined s.at s.elements (reference p name) ≡ false

  -- in a clause that stands in the form of an element that takes part
  first_named : (place : ℕ) (e : Element) (u : Unsaid (described s) scope m place e) (fs : List Form) → clauses_of (kind_of e) u.top.form ≡ clauses fs → (own : List ℕ) (x : Stands fs own) (p : Place)
      → ((b : Bool) → placed_names b (kind_of e) (record { name = own; content = x.content; elements = fs }) ≡ names_from 0 (symbols p x.content)) → (name : List ℕ) (rest : List (List ℕ)) → filter_map symbol_of x.content ≡ name ∷ rest → IsNamed p name
  first_named place e u fs all own x p names name rest is =
      let d : Described = described s in
      let ws : List Written = of_form (place + 1) d.written in
      let c : Clause = record { name = own; content = x.content; elements = fs } in
      let placed_ones : placed_names (e304.is_selected d (place + 1)) (kind_of e) c ≡ names_from 0 (map (reference p) (name ∷ rest)) = names (e304.is_selected d (place + 1)) ∙ ap (λ ns. names_from 0 (map (reference p) ns)) is in
      let a : e304.in_clause d scope m (place + 1) ws e c ≡ [] = none_of_clause (e304.in_clause d scope m (place + 1) ws e) fs own x (sym (ap (flat_map (e304.in_clause d scope m (place + 1) ws e)) all) ∙ u.kinds) in
      let b : e306.in_clause d scope m (place + 1) ws e c ≡ [] = none_of_clause (e306.in_clause d scope m (place + 1) ws e) fs own x (sym (ap (flat_map (e306.in_clause d scope m (place + 1) ws e)) all) ∙ u.names) in
      let others : of_names (is_of_another_kind s.at) (placed_names (e304.is_selected d (place + 1)) (kind_of e) c) ≡ [] =
      second_of_five (of_expressions (e304.of_another_kind s.at m) (expressions d scope m ws e c)) (of_names (is_of_another_kind s.at) (placed_names (e304.is_selected d (place + 1)) (kind_of e) c)) (of_words s e c) (of_macro is_other (macro_names d e own)) (of_choices ws own)
      (none_placed (e304.all_of d scope m (place + 1) ws e c) a) in
      let unknown : of_names (is_undefined s.at s.elements) (placed_names (e304.is_selected d (place + 1)) (kind_of e) c) ≡ [] =
      second_of_three (of_expressions (e306.missing s.at m) (expressions d scope m ws e c)) (of_names (is_undefined s.at s.elements) (placed_names (e304.is_selected d (place + 1)) (kind_of e) c)) (of_macro is_nothing (macro_names d e own))
      (none_placed (e306.all_of d scope m (place + 1) ws e c) b) in
      record {
        kind = unsaid_first (is_of_another_kind s.at) p name rest (sym (ap (of_names (is_of_another_kind s.at)) placed_ones) ∙ others);
        known = unsaid_first (is_undefined s.at s.elements) p name rest (sym (ap (of_names (is_undefined s.at s.elements)) placed_ones) ∙ unknown);
      }

  module _ (table : s.at ≡ names_of s.machine s.isa s.elements) where
    -- where a name leads
    at_number : (n k : ℕ) → n ≡ 1 + k → selecting.element_at s.elements n ≡ slice_get s.elements k
    at_number n k is = ap (selecting.element_at s.elements) (is ∙ behind k) where
      behind : (k : ℕ) → 1 + k ≡ suc k
      behind k = omega arith

    cpu_there : (name : List ℕ) → is_some (s.at Cpus name) ≡ true → is_some (named s Cpus name >>= cpu_in) ≡ true
    unfolding named
    cpu_there name some = by (s.at Cpus name) refl some where
      by : (o : Option Standing) → s.at Cpus name ≡ o → is_some o ≡ true → is_some ((s.at Cpus name >>= λ st. selecting.element_at s.elements st.form) >>= cpu_in) ≡ true
      by None is e = absurd (false≢true e)
      by (Some st) is e =
          let l : Leads s.machine s.isa s.elements 1 Cpus name st = leads s.machine s.isa Cpus name st 1 s.elements (sym (ap (λ at. at Cpus name) table) ∙ is) in
          ap (λ o. is_some ((o >>= λ x. selecting.element_at s.elements x.form) >>= cpu_in)) is ∙ ap (λ o. is_some (o >>= cpu_in)) (at_number st.form l.place l.form ∙ l.is) ∙ cpu_is l.element l.shares

    isa_there : (name : List ℕ) → is_some (s.at Isas name) ≡ true → is_some (isa_named s name) ≡ true
    unfolding named
    isa_there name some = by (s.at Isas name) refl some where
      by : (o : Option Standing) → s.at Isas name ≡ o → is_some o ≡ true → is_some ((s.at Isas name >>= λ st. selecting.element_at s.elements st.form) >>= isa_in) ≡ true
      by None is e = absurd (false≢true e)
      by (Some st) is e =
          let l : Leads s.machine s.isa s.elements 1 Isas name st = leads s.machine s.isa Isas name st 1 s.elements (sym (ap (λ at. at Isas name) table) ∙ is) in
          ap (λ o. is_some ((o >>= λ x. selecting.element_at s.elements x.form) >>= isa_in)) is ∙ ap (λ o. is_some (o >>= isa_in)) (at_number st.form l.place l.form ∙ l.is) ∙ isa_is l.element l.shares

    -- The instruction set that a list of symbols begins with.
    isa_first : (fs : List Form) (x : HasFirst fs) → IsNamed place.Isa x.name → s.isa ≡ first (filter_map symbol_of fs) → is_some (isa_form s) ≡ true
    isa_first fs x n isa =
        ap (λ o. is_some (o >>= isa_named s)) (isa ∙ ap first x.is) ∙ isa_there x.name (fitting (is_some (s.at Isas x.name)) (is_defined s.at x.name) n.kind n.known)

    -- in the form of an arch
    arch_isa : (arch : ArchForm) → IsArch s.machine s.elements arch → s.isa ≡ first arch.isas → is_some (isa_form s) ≡ true
    unfolding takes_part
    arch_isa arch a isa =
        let e : Element = element.Frame (frame.Arch arch) in
        let part : takes_part_in s e ≡ true = ap (λ b. b && true) a.belongs in
        let u : Unsaid (described s) scope m a.place e = unsaid (described s) scope m tops alone elements none e (record { place = a.place; is = a.is }) part in
        let by : (frame_of u.top.form ≡ Some (frame.Arch arch)) × (least (element_faults u.top.form) ≡ least (frame_faults u.top.form)) = frame_by u.top.form (reader_for u.top.form) (frame.Arch arch) u.is in
        let o : Opened kind_named frame_in u.top.form (frame.Arch arch) = opened kind_named frame_in u.top.form (frame.Arch arch) by.0 in
        let k : IsArchForm o.kind o.elements arch = arch_kind o.kind o.elements arch o.gives in
        let own : least (own_faults wrong left_out table_of o.kind o.elements) ≡ None = sym (ap (λ r. least (form_faults (own_faults wrong left_out table_of) r)) o.known) ∙ sym by.1 ∙ u.clear in
        let faultless : least (clause_faults wrong left_out (rows_of kind.Arch) o.elements) ≡ None = sym (ap (λ j. least (own_faults wrong left_out table_of j o.elements)) k.kind) ∙ own in
        let h : Clean wrong (rows_of kind.Arch) o.elements = clean wrong left_out (rows_of kind.Arch) o.elements faultless in
        let row : Row Content = wanted (codes "isas") content.Symbols in
        let x : Stands o.elements (codes "isas") = wanted_stands wrong (rows_of kind.Arch) o.elements (codes "isas") row h refl refl refl in
        let fit : misfit (fits content.Symbols x.content) (codes "isas") ≡ [] = is_of_its_kind wrong (rows_of kind.Arch) o.elements (codes "isas") row x h refl refl in
        let first_one : HasFirst x.content = symbols_first x.content (first_false (length x.content == 0) _ x.counts) (misfit_none (fits content.Symbols x.content) (codes "isas") fit) in
        let n : IsNamed place.Isa first_one.name = first_named a.place e u o.elements (ap (clauses_in kinds.Arch) o.is) (codes "isas") x place.Isa (λ b. refl) first_one.name first_one.rest first_one.is in
        let same : arch.isas ≡ filter_map symbol_of x.content = ap (λ (f : ArchForm). f.isas) (sym k.gives) ∙ ap (λ c. filter_map symbol_of (unwrap_or c [])) (content_stands o.elements (codes "isas") x) in
        isa_first x.content first_one n (isa ∙ ap first same)

    module _ (is_mach : selected_mach s.machine s.elements ≡ Some (s.form, s.mach)) (is_isa : s.isa ≡ selected_isa s.mach (selected_arch s.machine s.elements)) where
      abbrev e : Element
      e = element.Frame (frame.Mach s.mach)

      there : IsMach s.machine 1 s.elements (s.form, s.mach)
      there = mach_found s.machine 1 s.elements (s.form, s.mach) is_mach

      part : takes_part_in s e ≡ true
      unfolding takes_part
      part = ap (λ b. b && true) there.belongs

      u : Unsaid (described s) scope m there.place e
      u = unsaid (described s) scope m tops alone elements none e (record { place = there.place; is = there.is }) part

      -- there is an arch
      has_arch : is_some (arch_form s) ≡ true
      has_arch =
          let o : Own (described s) scope m there.place e = own_at s scope m tops alone elements none e e refl (record { place = there.place; is = there.is }) part in
          by (is_some (arch_form s)) (sym (ap (λ b. said_where (b && not (is_some (arch_form s))) (only_text (codes "define-arch"))) (same there.place s.form there.form)) ∙ o.arch) where
            same : (k n : ℕ) → n ≡ 1 + k → (k + 1 == n) ≡ true
            same k n e = grind (arith, nat_tests)

            by : (b : Bool) → said_where (true && not b) (only_text (codes "define-arch")) ≡ [] → b ≡ true
            by true e = refl
            by false e = absurd cc

      opened_mach : Opened kind_named frame_in u.top.form (frame.Mach s.mach)
      opened_mach = opened kind_named frame_in u.top.form (frame.Mach s.mach) (frame_by u.top.form (reader_for u.top.form) (frame.Mach s.mach) u.is).0

      abbrev fs : List Form
      fs = opened_mach.elements

      k : IsMachForm opened_mach.kind fs s.mach
      k = mach_kind opened_mach.kind fs s.mach opened_mach.gives

      h : Clean wrong (rows_of kind.Mach) fs
      h =
          let by : (frame_of u.top.form ≡ Some (frame.Mach s.mach)) × (least (element_faults u.top.form) ≡ least (frame_faults u.top.form)) = frame_by u.top.form (reader_for u.top.form) (frame.Mach s.mach) u.is in
          let own : least (own_faults wrong left_out table_of opened_mach.kind fs) ≡ None = sym (ap (λ r. least (form_faults (own_faults wrong left_out table_of) r)) opened_mach.known) ∙ sym by.1 ∙ u.clear in
          clean wrong left_out (rows_of kind.Mach) fs (sym (ap (λ j. least (own_faults wrong left_out table_of j fs)) k.kind) ∙ own)

      all_clauses : clauses_of (kind_of e) u.top.form ≡ clauses fs
      all_clauses = ap (clauses_in kinds.Mach) opened_mach.is

      -- its cpu
      has_cpu : is_some (selected_cpu s) ≡ true
      unfolding symbol_at
      has_cpu =
          let row : Row Content = wanted (codes "cpu") content.Symbol in
          let x : Stands fs (codes "cpu") = wanted_stands wrong (rows_of kind.Mach) fs (codes "cpu") row h refl refl refl in
          let fit : misfit (fits content.Symbol x.content) (codes "cpu") ≡ [] = is_of_its_kind wrong (rows_of kind.Mach) fs (codes "cpu") row x h refl refl in
          let same : s.mach.cpu ≡ unwrap_or (only_symbol x.content) [] = ap (λ (f : MachForm). f.cpu) (sym k.gives) ∙ ap (λ c. unwrap_or (c >>= only_symbol) []) (content_stands fs (codes "cpu") x) in
          by x (only_symbol x.content) refl (misfit_none (fits content.Symbol x.content) (codes "cpu") fit) same where
            by : (x : Stands fs (codes "cpu")) (o : Option (List ℕ)) → only_symbol x.content ≡ o → is_some (only_symbol x.content) ≡ true → s.mach.cpu ≡ unwrap_or (only_symbol x.content) [] → is_some (selected_cpu s) ≡ true
            by x None is some same = absurd (false≢true (sym (ap is_some is) ∙ some))
            by x (Some name) is some same =
                let n : IsNamed place.Cpu name = first_named there.place e u fs all_clauses (codes "cpu") x place.Cpu (λ b. refl) name [] (one_symbol x.content name is) in
                let own : s.mach.cpu ≡ name = same ∙ ap (λ o. unwrap_or o []) is in
                subst (λ c. is_some (named s Cpus c >>= cpu_in) ≡ true) (sym own) (cpu_there name (fitting (is_some (s.at Cpus name)) (is_defined s.at name) n.kind n.known))

      -- its instruction set, which it or the arch names
      by_arch : s.mach.isas ≡ None → (o : Option ArchForm) → selected_arch s.machine s.elements ≡ o → is_some o ≡ true → is_some (isa_form s) ≡ true
      by_arch absent None is some = absurd (false≢true some)
      by_arch absent (Some arch) is some =
          arch_isa arch (arch_found s.machine s.elements arch is) (is_isa ∙ ap (λ a. first (isas_named s.mach.isas a)) is ∙ ap (λ i. first (isas_named i (Some arch))) absent)

      by_isas : (o : Option (List Form)) → content_at (codes "isas") fs ≡ o → is_some (isa_form s) ≡ true
      by_isas None is = by_arch (ap (λ (f : MachForm). f.isas) (sym k.gives) ∙ ap (option_map (filter_map symbol_of)) is) (selected_arch s.machine s.elements) refl has_arch
      by_isas (Some c) is =
          let w : StandsWith fs (codes "isas") c = looked_up fs (codes "isas") c is in
          let x : Stands fs (codes "isas") = w.stands in
          let row : Row Content = optional (codes "isas") content.Symbols in
          let fit : misfit (fits content.Symbols x.content) (codes "isas") ≡ [] = is_of_its_kind wrong (rows_of kind.Mach) fs (codes "isas") row x h refl refl in
          let first_one : HasFirst x.content = symbols_first x.content (first_false (length x.content == 0) _ x.counts) (misfit_none (fits content.Symbols x.content) (codes "isas") fit) in
          let n : IsNamed place.Isa first_one.name = first_named there.place e u fs all_clauses (codes "isas") x place.Isa (λ b. refl) first_one.name first_one.rest first_one.is in
          let same : s.mach.isas ≡ Some (filter_map symbol_of x.content) = ap (λ (f : MachForm). f.isas) (sym k.gives) ∙ ap (option_map (filter_map symbol_of)) (content_stands fs (codes "isas") x) in
          isa_first x.content first_one n (is_isa ∙ ap (λ i. first (isas_named i (selected_arch s.machine s.elements))) same)

      pub sizes_known : (described s).framing.is_sized ≡ true
      sizes_known = both (is_some (selected_cpu s)) (is_some (isa_form s)) has_cpu (by_isas (content_at (codes "isas") fs) refl) where
        both : (a b : Bool) → a ≡ true → b ≡ true → (a && b) ≡ true
        both true b x y = y
        both false b x y = x
