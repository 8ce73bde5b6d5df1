-- The form of the selected instruction set takes part, and what its clauses say.
use Rattle.std.proofs.Common.{◌≡◌, ◌∙◌, ℕ, suc, ◌+◌, ◌==◌, true, List, Option, Some, None, slice_get, refl, sym, ap, arith}
use Rattle.std.proofs.lemmas.Bool.Decides.{nat_tests}
use Rattle.cg_base.specs.declared.form.Form.{Form}
use Rattle.cg_base.specs.Parts.{◌>>=◌}
use Rattle.cg_base.specs.Texts.{passes}
use Rattle.cg_attrs.specs.Frames.{arch_of, isa_of, cpu_of, mach_of, model_of, attr_def_of, enum_of, insn_enum_of, keyword_of, frame_in}
use Rattle.cg_attrs.specs.Tables.{kind_named}
use Rattle.cg_attrs.specs.declared.frame.Frame.{Frame}
use Rattle.cg_attrs.specs.declared.frame.Frame.TheVariants as frame
use Rattle.cg_attrs.specs.declared.frame.IsaForm.{IsaForm}
use Rattle.cg_attrs.specs.declared.table.Kind.{Kind}
use Rattle.cg_attrs.specs.declared.table.Kind.TheVariants as kind
use Rattle.cg_desc_elements.specs.declared.element.Element.{Element}
use Rattle.cg_desc_elements.specs.declared.element.Element.TheVariants as element
use Rattle.cg_desc_elements.specs.declared.kind.Namespace.TheVariants.{Isas}
use Rattle.cg_desc_names.specs.declared.names.Standing.{Standing}
use Rattle.cg_desc_names.specs.Table.{table_of, first_from, gives_isa}
use Rattle.cg_desc_data.specs.Selecting.{Selection, takes_part_in, named}
use Rattle.cg_desc_data.specs.Selecting as selecting
use Rattle.cg_desc_data.specs.Framing.{isa_in, isa_named, isa_form}
use Rattle.cg_desc_laws.proofs.Opened.{Opened}
use Rattle.cg_desc_laws.proofs.WholeStanding.{StandsAt, first_there}

-- its place, where it takes part and is the selected one
pub record IsSelected (s : Selection) (form : IsaForm) : Type 0 where
  pub place : ℕ
  pub is : slice_get s.elements place ≡ Some (element.Frame (frame.Isa form))
  pub part : takes_part_in s (element.Frame (frame.Isa form)) ≡ true
  pub selected : gives_isa s.at s.isa (place + 1) ≡ true

abbrev isa_or : IsaForm → Option IsaForm → IsaForm
isa_or form None = form
isa_or form (Some other) = other

isa_framed : (e : Element) (form : IsaForm) → isa_in e ≡ Some form → e ≡ element.Frame (frame.Isa form)
isa_framed (element.Frame (frame.Isa other)) form is = ap (λ o. element.Frame (frame.Isa (isa_or form o))) is
isa_framed _ form is = absurd cc

at_number : (es : List Element) (n k : ℕ) → n ≡ k + 1 → selecting.element_at es n ≡ slice_get es k
at_number es n k is = ap (selecting.element_at es) (is ∙ behind k) where
  behind : (k : ℕ) → k + 1 ≡ suc k
  behind k = omega arith

module _ (s : Selection) (form : IsaForm) (names : s.at ≡ table_of s.machine s.isa s.elements) where
  by_element : (name : List ℕ) → s.isa ≡ Some name → (x : Standing) → s.at Isas name ≡ Some x → StandsAt s.machine s.isa name 1 s.elements x → (selecting.element_at s.elements x.form >>= isa_in) ≡ Some form → IsSelected s form
  by_element name isa x at r gives =
      let given : isa_in r.element ≡ Some form = sym (ap (λ o. o >>= isa_in) (at_number s.elements x.form r.place r.number ∙ r.is)) ∙ gives in
      let same : r.element ≡ element.Frame (frame.Isa form) = isa_framed r.element form given in
      record {
        place = r.place;
        is = r.is ∙ ap Some same;
        part = sym (ap (takes_part_in s) same) ∙ r.part;
        selected = ap (passes (λ n. passes (λ y. y.form == r.place + 1) (s.at Isas n))) isa ∙ ap (passes (λ y. y.form == r.place + 1)) at ∙ numbered x.form (r.place + 1) r.number;
      } where
        numbered : (a b : ℕ) → a ≡ b → (a == b) ≡ true
        numbered a b e = grind (arith, nat_tests)

  by_standing : (name : List ℕ) → s.isa ≡ Some name → (o : Option Standing) → s.at Isas name ≡ o → (o >>= λ x. selecting.element_at s.elements x.form) >>= isa_in ≡ Some form → IsSelected s form
  by_standing name isa None at gives = absurd cc
  by_standing name isa (Some x) at gives =
      let there : first_from s.machine s.isa Isas name 1 s.elements ≡ Some x = sym (ap (λ t. t Isas name) names) ∙ at in
      by_element name isa x at (first_there s.machine s.isa Isas name x 1 s.elements there) gives

  by_name : (o : Option (List ℕ)) → s.isa ≡ o → (o >>= isa_named s) ≡ Some form → IsSelected s form
  unfolding named
  by_name None isa gives = absurd cc
  by_name (Some name) isa gives = by_standing name isa (s.at Isas name) refl gives

  pub isa_selected : isa_form s ≡ Some form → IsSelected s form
  isa_selected gives = by_name s.isa refl gives

-- The elements of a form that is read as an instruction set.
abbrev form_or : IsaForm → Frame → IsaForm
form_or x (frame.Isa y) = y
form_or x _ = x

pub isa_opened : (f : Form) (form : IsaForm) (o : Opened kind_named frame_in f (frame.Isa form)) → isa_of o.elements ≡ form
isa_opened f form o = by o.kind refl where
  by : (k : Kind) → o.kind ≡ k → isa_of o.elements ≡ form
  by kind.Isa is = ap (form_or form) (sym (ap (λ k. frame_in k o.elements) is) ∙ o.gives)
  by kind.Arch is = let never : frame.Arch (arch_of o.elements) ≡ frame.Isa form = sym (ap (λ k. frame_in k o.elements) is) ∙ o.gives in absurd cc
  by kind.Cpu is = let never : frame.Cpu (cpu_of o.elements) ≡ frame.Isa form = sym (ap (λ k. frame_in k o.elements) is) ∙ o.gives in absurd cc
  by kind.Mach is = let never : frame.Mach (mach_of o.elements) ≡ frame.Isa form = sym (ap (λ k. frame_in k o.elements) is) ∙ o.gives in absurd cc
  by kind.Model is = let never : frame.Model (model_of o.elements) ≡ frame.Isa form = sym (ap (λ k. frame_in k o.elements) is) ∙ o.gives in absurd cc
  by kind.AttrDef is = let never : frame.AttrDef (attr_def_of o.elements) ≡ frame.Isa form = sym (ap (λ k. frame_in k o.elements) is) ∙ o.gives in absurd cc
  by kind.Enum is = let never : frame.Enum (enum_of o.elements) ≡ frame.Isa form = sym (ap (λ k. frame_in k o.elements) is) ∙ o.gives in absurd cc
  by kind.InsnEnum is = let never : frame.InsnEnum (insn_enum_of o.elements) ≡ frame.Isa form = sym (ap (λ k. frame_in k o.elements) is) ∙ o.gives in absurd cc
  by kind.Keyword is = let never : frame.Keyword (keyword_of o.elements) ≡ frame.Isa form = sym (ap (λ k. frame_in k o.elements) is) ∙ o.gives in absurd cc
