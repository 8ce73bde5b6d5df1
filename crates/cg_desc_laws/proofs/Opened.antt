-- A form that says something to a reader has a head, and its clauses stand behind it.
use Rattle.std.proofs.Common.{◌≡◌, ◌∙◌, ℕ, Bool, true, false, if◌then◌else◌, List, [], ◌∷◌, Option, Some, None, refl, ap, subst}
use Rattle.std.specs.Prelude.{codes}
use Rattle.cg_base.specs.declared.form.Form.{Form}
use Rattle.cg_base.specs.Parts.{Headed, headed}
use Rattle.cg_base.specs.Texts.{same_text}
use Rattle.cg_attrs.specs.Judging.{Named, kind_among, TheFormIf, Known, recognized_by, recognized_in, recognized, said}
use Rattle.cg_desc_laws_forms.proofs.Lists.{the_found}

-- its head, which kind of form it is, and the elements behind its head
pub record Opened {K A : Type 0} (named : List ℕ → Option K) (says : K → List Form → A) (f : Form) (x : A) : Type 0 where
  pub head : List ℕ
  pub elements : List Form
  pub is : headed f ≡ Some (head, elements)
  pub kind : K
  pub chosen : named head ≡ Some kind
  pub known : recognized named f ≡ Known kind elements
  pub gives : says kind elements ≡ x

module _ {K A : Type 0} (named : List ℕ → Option K) (says : K → List Form → A) (f : Form) (x : A) where
  by_kind : (h : Headed) → headed f ≡ Some h → same_text (codes "if") h.0 ≡ false → (o : Option K) → named h.0 ≡ o → said says (recognized_by h o) ≡ Some x → Opened named says f x
  by_kind h is word None none e = absurd cc
  by_kind h is word (Some k) kind e = record {
    head = h.0;
    elements = h.1;
    is = is;
    kind = k;
    chosen = kind;
    known = ap (recognized_in named) is ∙ ap (λ b. if b then TheFormIf else recognized_by h (named h.0)) word ∙ ap (recognized_by h) kind;
    gives = the_found (says k h.1) x e;
  }

  by_word : (h : Headed) → headed f ≡ Some h → (b : Bool) → same_text (codes "if") h.0 ≡ b → said says (if b then TheFormIf else recognized_by h (named h.0)) ≡ Some x → Opened named says f x
  by_word h is true word e = absurd cc
  by_word h is false word e = by_kind h is word (named h.0) refl e

  by_head : (o : Option Headed) → headed f ≡ o → said says (recognized_in named o) ≡ Some x → Opened named says f x
  by_head None is e = absurd cc
  by_head (Some h) is e = by_word h is (same_text (codes "if") h.0) refl e

  pub opened : said says (recognized named f) ≡ Some x → Opened named says f x
  opened e = by_head (headed f) refl e

-- What holds of each kind that a symbol may head holds of the one that a symbol heads.
abbrev pub AllKinds : {K : Type 0} → (K → Type 0) → List (Named K) → Type 0
AllKinds P [] = Unit {0}
AllKinds P (h ∷ hs) = P h.1 × AllKinds P hs

pub of_kind : {K : Type 0} (P : K → Type 0) (hs : List (Named K)) (name : List ℕ) (k : K) → kind_among name hs ≡ Some k → AllKinds P hs → P k
of_kind P [] name k is all = absurd cc
of_kind P (h ∷ hs) name k is all = at (λ there. of_kind P hs name k there all.1) (same_text h.0 name) is where
  at : (kind_among name hs ≡ Some k → P k) → (b : Bool) → (if b then Some h.1 else kind_among name hs) ≡ Some k → P k
  at rest true e = subst P (the_found h.1 k e) all.0
  at rest false e = rest e
