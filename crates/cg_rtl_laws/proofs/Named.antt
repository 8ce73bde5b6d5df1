-- An expression in which no name of a kind is lacking stands for one that is formed.
use Rattle.std.proofs.Common.{◌≡◌, Bool, true, false, List, [], ◌∷◌, Option, Some, None, refl, sym, ap, ◌∙◌}
use Rattle.std.specs.List.{list_all, cons_option}
use Rattle.std.proofs.lemmas.Bool.{false≢true}
use Rattle.cg_rtl_resolve.specs.Names.{Lacking, lacks_of, names_lacking}
use Rattle.cg_rtl_resolve.specs.declared.scope.Lack.TheVariants as lack
use Rattle.cg_rtl_resolve.specs.declared.scope.Scope.{Scope}
use Rattle.cg_rtl_uses.specs.Uses.{uses_of}
use Rattle.cg_rtl_uses.specs.declared.uses.PlacedUse.{PlacedUse}
use Rattle.cg_rtl_uses.specs.declared.uses.Use.{Use}
use Rattle.cg_rtl_uses.specs.declared.uses.Use.TheVariants.{Node, Constant, Undefined, Unknown}
use Rattle.cg_rtl_laws.specs.Shaped.{gives_value, AreFormed}
use Rattle.cg_rtl_laws.specs.Named.{is_defined, is_defined_at, AreNamed}
use Rattle.cg_rtl_laws.proofs.Lacking.{lack_in, lacking, lacking_agrees}
use Rattle.cg_rtl_laws.proofs.Nodes.{first_true, second_true}
use Rattle.cg_rtl_laws.proofs.Shaped.{formed_law}

silent : (us : List PlacedUse) → list_all is_defined_at us ≡ true → names_lacking lack.Undefined (lacking us) ≡ []
silent [] h = refl
silent (u ∷ us) h = at u.what (first_true (is_defined_at u) (list_all is_defined_at us) h) (silent us (second_true (is_defined_at u) (list_all is_defined_at us) h)) where
  at : (w : Use) → is_defined w ≡ true → names_lacking lack.Undefined (lacking us) ≡ [] → names_lacking lack.Undefined (cons_option (lack_in w) (lacking us)) ≡ []
  at (Node o mode n) h rest = rest
  at (Constant name n) h rest = rest
  at (Undefined name) h rest = absurd (false≢true h)
  at (Unknown name) h rest = rest

pub named_law : (s : Scope) → gives_value s ≡ true → AreNamed s
named_law s value =
    let all : AreFormed s = formed_law s value in
    record { formed = λ f clear named. all.formed f clear (sym (ap (names_lacking lack.Undefined) (lacking_agrees s f)) ∙ silent (uses_of s f) named) }

pub ruleset named = (named_law)
