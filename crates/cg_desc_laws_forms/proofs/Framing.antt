-- The sizes of a described machine are allowed, where no form is refused by itself.
use Rattle.std.proofs.Common.{◌≡◌, ℕ, zero, suc, max, min, true, List, Option, Some, None, slice_get, refl, sym, ap, ◌∙◌, subst, ◌≤◌, ◌*◌, ◌/◌, arith}
use Rattle.std.specs.List.{filter_map}
use Rattle.std.proofs.lemmas.Bool.Decides.{nat_tests}
use Rattle.cg_base.specs.declared.form.Top.{Top}
use Rattle.cg_base.specs.Parts.{◌>>=◌}
use Rattle.cg_attrs.specs.Contents.{is_bit_size, is_word_size}
use Rattle.cg_attrs.specs.declared.frame.CpuForm.{CpuForm}
use Rattle.cg_attrs.specs.declared.frame.IsaForm.{IsaForm}
use Rattle.cg_attrs.specs.declared.frame.Frame.TheVariants.{Cpu, Isa}
use Rattle.cg_desc_laws_forms.specs.FormSizes.{HasWord, HasSize}
use Rattle.cg_desc_laws_forms.proofs.FormSizes.{sizes_law}
use Rattle.cg_desc_laws_forms.proofs.Elements.{Given, given_at}
use Rattle.cg_desc_elements.specs.declared.element.Element.{Element}
use Rattle.cg_desc_elements.specs.declared.element.Element.TheVariants as element
use Rattle.cg_desc_elements.specs.declared.kind.Namespace.{Namespace}
use Rattle.cg_desc_elements.specs.declared.kind.Namespace.TheVariants.{Cpus, Isas}
use Rattle.cg_desc_elements.specs.Reading.{element_at, first_refusal}
use Rattle.cg_desc_names.specs.declared.names.Standing.{Standing}
use Rattle.cg_desc_data.specs.Selecting.{Selection, named}
use Rattle.cg_desc_data.specs.Selecting as selecting
use Rattle.cg_desc_data.specs.Framing.{size, cpu_in, isa_in, selected_cpu, isa_named, isa_form, word_bits_in, base_bits_in}
use Rattle.cg_model.specs.Formed.{is_size, is_cpu_word}

-- what is named is one of the elements
pub record IsElement (es : List Element) (e : Element) : Type 0 where
  pub place : ℕ
  pub is : slice_get es place ≡ Some e

element_is : (es : List Element) (n : ℕ) (e : Element) → selecting.element_at es n ≡ Some e → IsElement es e
element_is es zero e is = absurd cc
element_is es (suc k) e is = record { place = k; is = is }

named_is : (s : Selection) (among : Namespace) (name : List ℕ) (e : Element) → named s among name ≡ Some e → IsElement s.elements e
unfolding named
named_is s among name e is = at (s.at among name) is where
  at : (o : Option Standing) → (o >>= λ x. selecting.element_at s.elements x.form) ≡ Some e → IsElement s.elements e
  at None is = absurd cc
  at (Some x) is = element_is s.elements x.form e is

pub given_here : (tops : List Top) (s : Selection) (e : Element) → first_refusal tops ≡ None → s.elements ≡ filter_map element_at tops → IsElement s.elements e → Given e
given_here tops s e clear same x = given_at tops x.place e clear (ap (λ es. slice_get es x.place) (sym same) ∙ x.is)

-- a size in its range is as it is written
word_kept : (n : ℕ) → is_word_size n ≡ true → is_cpu_word (max 8 (min n 255)) ≡ true
word_kept n allowed =
    let few : n ≤ 64 = grind (arith, nat_tests) in
    let some : 8 ≤ n = grind (arith, nat_tests) in
    let same : n ≡ max 8 (min n 255) = omega arith in
    subst (λ k. is_cpu_word k ≡ true) same allowed

pub size_kept : (n : ℕ) → is_bit_size n ≡ true → is_size (max 8 (min n 255)) ≡ true
size_kept n allowed =
    let few : n ≤ 64 = grind (arith, nat_tests) in
    let some : 8 ≤ n = grind (arith, nat_tests) in
    let same : n ≡ max 8 (min n 255) = omega arith in
    let whole : n ≡ 8 * (n / 8) = grind (arith, nat_tests) in
    let is : is_size n ≡ true = grind (arith, nat_tests) in
    subst (λ k. is_size k ≡ true) same is

-- The word.
abbrev cpu_or : CpuForm → Option CpuForm → CpuForm
cpu_or form None = form
cpu_or form (Some other) = other

cpu_framed : (e : Element) (form : CpuForm) → cpu_in e ≡ Some form → e ≡ element.Frame (Cpu form)
cpu_framed (element.Frame (Cpu other)) form is = ap (λ o. element.Frame (Cpu (cpu_or form o))) is
cpu_framed _ form is = absurd cc

abbrev isa_or : IsaForm → Option IsaForm → IsaForm
isa_or form None = form
isa_or form (Some other) = other

isa_framed : (e : Element) (form : IsaForm) → isa_in e ≡ Some form → e ≡ element.Frame (Isa form)
isa_framed (element.Frame (Isa other)) form is = ap (λ o. element.Frame (Isa (isa_or form o))) is
isa_framed _ form is = absurd cc

word_in_range : (form : CpuForm) → HasWord form → is_cpu_word (size form.word_bitsize) ≡ true
word_in_range form h = ap (λ z. is_cpu_word (size z)) h.is ∙ word_kept h.bits h.allowed

size_in_range : (form : IsaForm) → HasSize form → is_size (size form.base_insn_bitsize) ≡ true
size_in_range form h = ap (λ z. is_size (size z)) h.is ∙ size_kept h.bits h.allowed

module _ (tops : List Top) (s : Selection) (clear : first_refusal tops ≡ None) (same : s.elements ≡ filter_map element_at tops) where
  cpu_word : (e : Element) (form : CpuForm) → IsElement s.elements e → cpu_in e ≡ Some form → is_cpu_word (size form.word_bitsize) ≡ true
  cpu_word e form x is =
      let g : Given e = given_here tops s e clear same x in
      word_in_range form (sizes_law.words g.top.form form g.clear (g.is ∙ ap Some (cpu_framed e form is)))

  isa_size : (e : Element) (form : IsaForm) → IsElement s.elements e → isa_in e ≡ Some form → is_size (size form.base_insn_bitsize) ≡ true
  isa_size e form x is =
      let g : Given e = given_here tops s e clear same x in
      size_in_range form (sizes_law.sizes g.top.form form g.clear (g.is ∙ ap Some (isa_framed e form is)))

  named_cpu : (o : Option Element) → ((e : Element) → o ≡ Some e → IsElement s.elements e) → is_cpu_word (word_bits_in (o >>= cpu_in)) ≡ true
  named_cpu None there = refl
  named_cpu (Some e) there = at (cpu_in e) refl where
    at : (o : Option CpuForm) → cpu_in e ≡ o → is_cpu_word (word_bits_in (cpu_in e)) ≡ true
    at None is = ap (λ x. is_cpu_word (word_bits_in x)) is
    at (Some form) is = ap (λ x. is_cpu_word (word_bits_in x)) is ∙ cpu_word e form (there e refl) is

  named_isa : (o : Option Element) → ((e : Element) → o ≡ Some e → IsElement s.elements e) → is_size (base_bits_in (o >>= isa_in)) ≡ true
  named_isa None there = refl
  named_isa (Some e) there = at (isa_in e) refl where
    at : (o : Option IsaForm) → isa_in e ≡ o → is_size (base_bits_in (isa_in e)) ≡ true
    at None is = ap (λ x. is_size (base_bits_in x)) is
    at (Some form) is = ap (λ x. is_size (base_bits_in x)) is ∙ isa_size e form (there e refl) is

  pub word_allowed : is_cpu_word (word_bits_in (selected_cpu s)) ≡ true
  word_allowed = named_cpu (named s Cpus s.mach.cpu) (named_is s Cpus s.mach.cpu)

  selected_size : (o : Option (List ℕ)) → is_size (base_bits_in (o >>= isa_named s)) ≡ true
  selected_size None = refl
  selected_size (Some name) = named_isa (named s Isas name) (named_is s Isas name)

  pub base_allowed : is_size (base_bits_in (isa_form s)) ≡ true
  base_allowed = selected_size s.isa
