-- Places of what stands within a form.
use Rattle.std.proofs.Common.{◌≡◌, ℕ, suc, ◌+◌, List, [], ◌∷◌, ◌++◌, map, Bor, refl, sym, ap, ◌∙◌, add-one, append_assoc}
use Rattle.std.proofs.lemmas.List.{map-append, append-nil}
use Rattle.std.proofs.lemmas.Grind.{common_steps}
use Rattle.cg_base.specs.declared.form.Form.{Form}
use Rattle.cg_rtl_uses.specs.declared.place.Path.{Path}
use Rattle.cg_rtl_uses.specs.declared.place.Path.TheFolds.{fold-roll-Path}
use Rattle.cg_rtl_uses.specs.declared.place.Path.TheVariants.{Root, Inside, rolls-Root, rolls-Inside}
use Rattle.cg_rtl_uses.specs.declared.uses.PlacedUse.{PlacedUse}
use Rattle.cg_rtl_uses.specs.Uses.{inside, at, each_at}
use Rattle.cg_rtl_uses.specs.Seen.{places_step, places_of, behind, under}

pub places_root : places_of Root ≡ []
places_root = ap places_of (sym rolls-Root) ∙ fold-roll-Path (List ℕ) places_step _

pub places_inside : (outer : Bor Path) (k : ℕ) → places_of (Inside outer k) ≡ places_of outer.now ++ k ∷ []
places_inside outer k = ap places_of (sym (rolls-Inside outer k)) ∙ fold-roll-Path (List ℕ) places_step _

pub none_after : {A : Type 0} (xs : List A) → xs ++ [] ≡ xs
none_after xs = append-nil xs

one_within : (places : List ℕ) (k : ℕ) (u : PlacedUse) → behind (places ++ k ∷ []) u ≡ behind places (inside k u)
one_within places k u = ap (λ place. record { place = place; what = u.what }) (append_assoc places (k ∷ []) u.place)

-- what stands within an element of the list at a place
pub under_inside : (places : List ℕ) (k : ℕ) (us : List PlacedUse) → under (places ++ k ∷ []) us ≡ under places (at k us)
under_inside places k [] = refl
under_inside places k (u ∷ us) = ap (λ v. v ∷ under (places ++ k ∷ []) us) (one_within places k u) ∙ ap (λ vs. behind places (inside k u) ∷ vs) (under_inside places k us)

pub under_append : (places : List ℕ) (us vs : List PlacedUse) → under places (us ++ vs) ≡ under places us ++ under places vs
under_append places us vs = map-append (behind places) us vs

pub under_root : (us : List PlacedUse) → under [] us ≡ us
under_root [] = refl
under_root (u ∷ us) = ap (λ vs. u ∷ vs) (under_root us)

pub at_append : (k : ℕ) (us vs : List PlacedUse) → at k (us ++ vs) ≡ at k us ++ at k vs
at_append k us vs = map-append (inside k) us vs

-- the forms from a place on are one form there, and those from the next place on
pub each_more : (uses : Form → List PlacedUse) (k : ℕ) (f : Form) (fs : List Form) → each_at uses k (f ∷ fs) ≡ at k (uses f) ++ each_at uses (k + 1) fs
each_more uses k f fs = ap (λ j. at k (uses f) ++ each_at uses j fs) (sym (add-one k))

pub ruleset path_rules = (common_steps, places_root, places_inside, none_after, under_inside, under_append, at_append, each_more)
