-- How many error texts all forms give together.
use Rattle.std.proofs.Common.{◌≡◌, ◌∙◌, ℕ, suc, ◌+◌, Bool, true, false, if◌then◌else◌, List, [], ◌∷◌, ◌++◌, length, refl, sym, ap, arith}
use Rattle.std.proofs.lemmas.Bool.{false≢true}
use Rattle.cg_base.specs.declared.form.Top.{Top}
use Rattle.cg_desc_fault_count.specs.Counts.{Before, counts_by, bare_of, texts_of}
use Rattle.cg_desc_fault_count.specs.Counts as counts
use Rattle.cg_desc_fault_count.specs.Known.{nothing, with_all, count_new}
use Rattle.cg_desc_choices.specs.declared.written.Written.{Written}
use Rattle.cg_desc_data.specs.Selecting.{takes_part_in}
use Rattle.cg_desc_scope.specs.Described.{Described}
use Rattle.cg_desc_scope.specs.Texts.{texts_by_kind, texts_with, of_form, by_form, texts_from, all_texts}
use Rattle.cg_desc_elements.specs.declared.element.Element.{Element}
use Rattle.cg_desc_elements.specs.Elements.{kind_of}
use Rattle.cg_desc_fault_least.specs.Least.{behind_of}
use Rattle.cg_rtl_resolve.specs.declared.scope.Scope.{Scope}
use Rattle.cg_desc_scope.specs.Seen.{forms_of}
use Rattle.cg_desc_laws.proofs.CountedLimits.{own_of, counts_behind}
use Rattle.cg_desc_laws.proofs.CountedNames.{counted_once, counted_append}
use Rattle.cg_desc_laws.proofs.CountedTogether.{HaveForms}

module _ (d : Described) (scope : Scope) where
  -- one that takes no part gives none
  own_texts : (b : Before) (form : ℕ) (e : Element) (t : Top) → (own_of d scope b form e t).texts ≡ count_new b.texts (texts_with d.selection e t.form (of_form form d.written))
  unfolding texts_with
  own_texts b form e t = at (takes_part_in d.selection e) refl where
    ws : List Written
    ws = of_form form d.written

    at : (x : Bool) → takes_part_in d.selection e ≡ x → (own_of d scope b form e t).texts ≡ count_new b.texts (texts_with d.selection e t.form ws)
    at true part = ap (λ x. (if x then record (counts_by d scope (count_new b.bare (bare_of d ws)) ws e) { texts = count_new b.texts (texts_with d.selection e t.form ws) } else counts.none).texts) part
    at false part =
        ap (λ x. (if x then record (counts_by d scope (count_new b.bare (bare_of d ws)) ws e) { texts = count_new b.texts (texts_with d.selection e t.form ws) } else counts.none).texts) part
        ∙ sym (ap (λ x. count_new b.texts (if x then texts_by_kind (kind_of e) t.form ws else [])) part)

  texts_behind : (b : Before) (form : ℕ) (es : List Element) (tops : List Top) → HaveForms es tops
      → (counts_behind d scope b form es tops).texts ≡ b.counts.texts + count_new b.texts (texts_from d.selection (by_form d.written) form es (forms_of tops))
  texts_behind b form [] tops there = omega arith
  texts_behind b form (e ∷ es) [] there = absurd (false≢true (there 0 e refl))
  texts_behind b form (e ∷ es) (t ∷ ts) there =
      let own : List (List ℕ) = texts_with d.selection e t.form (of_form form d.written) in
      let later : List (List ℕ) = texts_from d.selection (by_form d.written) (form + 1) es (forms_of ts) in
      let rest : (counts_behind d scope (behind_of d scope b form e t) (form + 1) es ts).texts ≡ (b.counts.texts + (own_of d scope b form e t).texts) + count_new (with_all b.texts own) later =
      texts_behind (behind_of d scope b form e t) (form + 1) es ts (λ k f is. there (suc k) f is) in
      let one : (own_of d scope b form e t).texts ≡ count_new b.texts own = own_texts b form e t in
      let both : count_new b.texts (own ++ later) ≡ count_new b.texts own + count_new (with_all b.texts own) later = counted_append b.texts own later in
      omega (arith, rest, one, both)

  pub texts_together : (b : Before) (tops : List Top) → b.texts ≡ nothing → b.counts.texts ≡ 0 → HaveForms d.selection.elements tops
      → (counts_behind d scope b 1 d.selection.elements tops).texts ≡ length (all_texts d.selection (forms_of tops) d.written)
  texts_together b tops empty none there =
      let xs : List (List ℕ) = texts_from d.selection (by_form d.written) 1 d.selection.elements (forms_of tops) in
      let whole : (counts_behind d scope b 1 d.selection.elements tops).texts ≡ b.counts.texts + count_new b.texts xs = texts_behind b 1 d.selection.elements tops there in
      let new : count_new b.texts xs ≡ length (all_texts d.selection (forms_of tops) d.written) = ap (λ st. count_new st xs) empty ∙ counted_once xs in
      omega (arith, whole, new, none)
