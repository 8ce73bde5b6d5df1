-- The expressions and texts of forms without fault.
use Rattle.std.proofs.Common.{◌≡◌, ℕ, Bool, true, false, List, [], ◌∷◌, Option, Some, None, is_some, refl, sym, ap, ◌∙◌, subst}
use Rattle.std.specs.Prelude.{codes}
use Rattle.std.specs.Option.{option_map, unwrap_or}
use Rattle.std.proofs.lemmas.Bool.{false≢true}
use Rattle.cg_base.specs.declared.form.Form.{Form, out-Form}
use Rattle.cg_base.specs.declared.form.Form.TheOpen as layer
use Rattle.cg_base.specs.declared.form.Form.TheVariants.{Items}
use Rattle.cg_base.specs.declared.form.Form.TheViews.{outs-Items}
use Rattle.cg_base.specs.Parts.{◌>>=◌, Layer, elements_in, elements_of, string_in, word_in, only, only_word}
use Rattle.cg_base.specs.Texts.{passes}
use Rattle.cg_attrs.specs.Clauses.{content_at}
use Rattle.cg_attrs.specs.Lookups.{word_at, optional_form, content_or_none, wanted_word, wanted_form}
use Rattle.cg_insn.specs.Contents.{only_string, fits_syntax}
use Rattle.cg_insn.specs.Syntax.{is_syntax}
use Rattle.cg_rtl.specs.Shapes.{Flawed, texts, faults_in}
use Rattle.cg_rtl.specs.declared.faults.Flaw.TheVariants.{Wrong, LeftOut}
use Rattle.cg_desc_laws_forms.specs.Forms.{IsClear, HoldsOne}
use Rattle.cg_desc_laws_forms.proofs.Clauses.{Stands, StandsWith, content_stands, looked_up}

-- neither wrong nor left out
pub no_flaw : (xs : List Flawed) → texts Wrong xs ≡ [] → texts LeftOut xs ≡ [] → xs ≡ []
no_flaw [] a b = refl
no_flaw ((Wrong, name) ∷ xs) a b = absurd cc
no_flaw ((LeftOut, name) ∷ xs) a b = absurd cc

pub elements_items : (fs : List Form) → elements_of (Items fs) ≡ Some fs
elements_items fs = ap elements_in (outs-Items fs)

-- a clause that may be absent, and one expression in it
pub optional_clear : (elements : List Form) (name : List ℕ) (read : List Form → Option Form) → ((x : Stands elements name) → IsClear (read x.content)) → IsClear (optional_form name elements >>= elements_of >>= read)
optional_clear elements name read h = at (content_at name elements) refl where
  at : (o : Option (List Form)) → content_at name elements ≡ o → IsClear (option_map Items o >>= elements_of >>= read)
  at None is = tt
  at (Some content) is =
      let x : StandsWith elements name content = looked_up elements name content is in
      subst (λ o. IsClear (o >>= read)) (sym (elements_items content)) (subst (λ c. IsClear (read c)) x.same (h x.stands))

-- a clause that stands
pub content_there : (elements : List Form) (name : List ℕ) (x : Stands elements name) → content_or_none name elements ≡ x.content
content_there elements name x = ap (λ o. unwrap_or o []) (content_stands elements name x)

pub elements_there : (elements : List Form) (name : List ℕ) (x : Stands elements name) → elements_of (wanted_form name elements) ≡ Some x.content
elements_there elements name x = elements_items (content_or_none name elements) ∙ ap Some (content_there elements name x)

pub holds_one : (elements : List Form) (name : List ℕ) (x : Stands elements name) → is_some (only x.content) ≡ true → IsClear (only x.content) → HoldsOne (wanted_form name elements)
holds_one elements name x some clear = at (only x.content) refl some clear where
  at : (o : Option Form) → only x.content ≡ o → is_some o ≡ true → IsClear o → HoldsOne (wanted_form name elements)
  at None is some clear = absurd (false≢true some)
  at (Some e) is some clear = record { expression = e; is = ap (λ o. o >>= only) (elements_there elements name x) ∙ is; clear = clear }

-- a syntax is a string
string_layer : (l : Layer) (t : List ℕ) → string_in l ≡ Some t → word_in l ≡ Some t
string_layer (layer.Str s) t e = e
string_layer (layer.Number n) t e = absurd cc
string_layer (layer.Symbol s) t e = absurd cc
string_layer (layer.Flag b) t e = absurd cc
string_layer (layer.Items fs) t e = absurd cc

string_is_word : (fs : List Form) (t : List ℕ) → only_string fs ≡ Some t → only_word fs ≡ Some t
unfolding only_string only_word
string_is_word [] t e = absurd cc
string_is_word (f ∷ []) t e = string_layer (out-Form f) t e
string_is_word (f ∷ g ∷ fs) t e = absurd cc

pub syntax_said : (elements : List Form) (x : Stands elements (codes "syntax")) → fits_syntax x.content ≡ true → is_syntax (wanted_word (codes "syntax") elements) ≡ true
unfolding word_at
syntax_said elements x e = at (only_string x.content) refl e where
  at : (o : Option (List ℕ)) → only_string x.content ≡ o → passes is_syntax o ≡ true → is_syntax (unwrap_or (content_at (codes "syntax") elements >>= only_word) []) ≡ true
  at None is e = absurd (false≢true e)
  at (Some t) is e =
      ap (λ o. is_syntax (unwrap_or (o >>= only_word) [])) (content_stands elements (codes "syntax") x)
      ∙ ap (λ o. is_syntax (unwrap_or o [])) (string_is_word x.content t is) ∙ e
