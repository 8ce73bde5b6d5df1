-- What the code keeps where it goes through an expression.
use Rattle.std.specs.Prelude.{ℕ, List, [], ◌∷◌, ◌++◌, map}
use Rattle.cg_base.specs.declared.form.Form.{Form}
use Rattle.cg_rtl_resolve.specs.Read.{names_of}
use Rattle.cg_rtl_uses.specs.declared.uses.PlacedUse.{PlacedUse}
use Rattle.cg_rtl_uses.specs.declared.place.Path.{Path}
use Rattle.cg_rtl_uses.specs.declared.place.Path.TheOpen.{Path-F, Root, Inside}
use Rattle.cg_rtl_uses.specs.declared.place.Path.TheFolds.{fold-Path}
use Rattle.cg_rtl_uses.specs.declared.walk.Walk.{Walk}
use Rattle.cg_rtl_uses.specs.Uses.{uses_to}

-- The places on the way to one.
abbrev pub places_step : Path-F (List ℕ) → List ℕ
places_step Root = []
places_step (Inside outer number) = outer.now ++ number ∷ []

abbrev pub places_of : Path → List ℕ
places_of p = fold-Path (List ℕ) places_step p

-- What stands within the form at a place.
abbrev pub behind : List ℕ → PlacedUse → PlacedUse
behind places u = record { place = places ++ u.place; what = u.what }

abbrev pub under : List ℕ → List PlacedUse → List PlacedUse
under places us = map (behind places) us

-- Where the code goes through an expression: the names around it, its place, and what stands in a form there.
abbrev pub names_in : Walk → List (List ℕ)
names_in w = names_of w.around.now

abbrev pub places_in : Walk → List ℕ
places_in w = places_of w.path.now

abbrev pub within : Walk → List (List ℕ) → Form → List PlacedUse
within w l f = uses_to w.depth w.scope.now l f
