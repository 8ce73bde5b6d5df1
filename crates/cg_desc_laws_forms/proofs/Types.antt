-- The types of hardware, where its form has no fault.
use Rattle.std.proofs.Common.{◌≡◌, ℕ, Bool, true, false, if◌then◌else◌, List, [], ◌∷◌, Option, Some, None, is_some, refl, sym, ap, ◌∙◌}
use Rattle.std.specs.Prelude.{codes}
use Rattle.std.specs.List.{list_all}
use Rattle.std.proofs.lemmas.Bool.{false≢true}
use Rattle.cg_base.specs.declared.form.Form.{Form}
use Rattle.cg_base.specs.Parts.{◌>>=◌, Headed, headed, headed_in}
use Rattle.cg_base.specs.Refusing.{least}
use Rattle.cg_base.specs.Texts.{same_text}
use Rattle.cg_attrs.specs.Clauses.{Clause, Texts, Row, Wanted, row_named, clause_faults}
use Rattle.cg_attrs.specs.Contents.{misfit}
use Rattle.cg_attrs.specs.Judging.{Named, kind_among}
use Rattle.cg_attrs.specs.Lookups.{wanted_form}
use Rattle.cg_hw.specs.Types.{registers, is_immediate, type_words, type_named, wrong_type_by, wrong_type}
use Rattle.cg_desc_laws_forms.specs.Forms.{is_type, HasType}
use Rattle.cg_desc_laws_forms.proofs.Clauses.{Clean, clean, Stands, fits, is_apart, wanted_stands_apart}
use Rattle.cg_desc_laws_forms.proofs.Frames.{misfit_none}
use Rattle.cg_desc_laws_forms.proofs.Rules.{elements_there}
use Rattle.cg_desc_laws_forms.proofs.Told.{These}

-- what is said of a word's kind, word by word
abbrev pub by_words : {K A : Type 0} → (Option K → A) → List (Named K) → List ℕ → A
by_words f [] name = f None
by_words f (h ∷ hs) name = if same_text h.0 name then f (Some h.1) else by_words f hs name

pub word_by_word : {K A : Type 0} (f : Option K → A) (hs : List (Named K)) (name : List ℕ) → f (kind_among name hs) ≡ by_words f hs name
word_by_word f [] name = refl
word_by_word f (h ∷ hs) name = at (word_by_word f hs name) (same_text h.0 name) where
  at : f (kind_among name hs) ≡ by_words f hs name → (b : Bool) → f (if b then Some h.1 else kind_among name hs) ≡ (if b then f (Some h.1) else by_words f hs name)
  at rest true = refl
  at rest false = rest

some_if : {A : Type 0} (b : Bool) (a : A) → is_some (if b then Some a else None) ≡ true → b ≡ true
some_if true a e = refl
some_if false a e = absurd (false≢true e)

-- The type is a register or an immediate, where it is of its kind, or another.
pick : (a b c d r i : Bool) (name : List ℕ) (j : Bool) (memory pc rest : List (List ℕ)) → (j ≡ true → i ≡ true) → (if a then misfit r name else if b then memory else if c then pc else if d then misfit j name else rest) ≡ []
    → (if a then r else if b then true else if c then true else if d then i else true) ≡ true
pick true b c d r i name j memory pc rest same e = misfit_none r name e
pick false true c d r i name j memory pc rest same e = refl
pick false false true d r i name j memory pc rest same e = refl
pick false false false true r i name j memory pc rest same e = same (misfit_none j name e)
pick false false false false r i name j memory pc rest same e = refl

typed : (x : Headed) (name : List ℕ) → wrong_type_by name x.1 (type_named x.0) ≡ [] → is_type x ≡ true
typed x name e =
    pick (same_text (codes "register") x.0) (same_text (codes "memory") x.0) (same_text (codes "pc") x.0) (same_text (codes "immediate") x.0) (is_some (registers x.1)) (is_immediate x.1) name _ _ _ _
    (λ some. some_if (is_immediate x.1) _ some) (sym (word_by_word (λ o. wrong_type_by name x.1 o) type_words x.0) ∙ e)

type_in : (form : Form) (name : List ℕ) (o : Option Headed) → headed form ≡ o → wrong_type name o ≡ [] → HasType form
type_in form name None is e = absurd cc
type_in form name (Some x) is e = record { type = x; is = is; fits = typed x name e }

module _ {C : Type 0} (wrongs left_outs : Texts C) {rows : List (Row C)} (t : These rows) (elements : List Form) (clear : least (clause_faults wrongs left_outs rows elements) ≡ None) where
  pub type_told : (name : List ℕ) {r : Row C} → same_text (codes "attrs") name ≡ false → list_all (is_apart name) rows ≡ true → row_named rows name ≡ Some r → r.role ≡ Wanted → ((c : Clause) → wrongs r.content c ≡ wrong_type c.name (headed_in c.content)) → HasType (wanted_form name elements)
  unfolding headed
  type_told name {r} other apart row wanted judges =
      let h : Clean wrongs rows elements = clean wrongs left_outs rows elements clear in
      let x : Stands elements name = wanted_stands_apart wrongs rows elements name r h apart row wanted in
      let c : Clause = record { name = name; content = x.content; elements = elements } in
      let none : wrong_type name (headed_in x.content) ≡ [] = sym (judges c) ∙ fits wrongs rows elements name r x h other row in
      type_in (wanted_form name elements) name (headed_in x.content) (ap (λ o. o >>= headed_in) (elements_there elements name x)) none
