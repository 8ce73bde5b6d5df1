-- Two forms are the same exactly where they are equal.
use Rattle.std.proofs.Common.{◌≡◌, ◌↔◌, ℕ, Bool, true, false, ◌&&◌, ℤ, List, [], ◌∷◌, map, refl, sym, ap, ◌∙◌, subst}
use Rattle.std.specs.Cmp.Lexicographic.{pointwise}
use Rattle.std.proofs.lemmas.Bool.Decides.{Decides-int_eq}
use Rattle.std.proofs.lemmas.Slice.Eq.{bytes_eq-Decides}
use denote.Enum.Declared.{Choice}
use mathlib.Core.Logic.{inl, inr}
use Rattle.cg_base.specs.declared.form.Form.{Form, roll-Form, map-Form}
use Rattle.cg_base.specs.declared.form.Form.TheOpen as layer
use Rattle.cg_base.specs.declared.form.Form.TheOpen.{Form-F}
use Rattle.cg_base.specs.declared.form.Form.TheViews.{rolls-Number, rolls-Symbol, rolls-Str, rolls-Flag, rolls-Items}
use Rattle.cg_base.specs.declared.form.Form.TheFolds.{ind-Form}
use Rattle.cg_base.specs.declared.form.Form.TheVariants.{Number, Symbol, Str, Flag, Items}
use Rattle.cg_base.specs.contracts.form.Form.{the_parts, as_values, the_make, the_eta, the_beta}
use Rattle.cg_base.specs.contracts.form.FormPartialEq.TheImpl.Laws as equality
use Rattle.std.specs.contracts.prelude.BoolPartialEq.TheImpl as flags
use Rattle.cg_pmacro_builtin.specs.Shapes.{same_form}
use Rattle.cg_pmacro_builtin.proofs.Same.{same_parts}

-- the form is the same as those alone that equal it
abbrev IsItself : Form → Type 0
IsItself f = (g : Form) → (same_form f g ≡ true) ↔ (f ≡ g)

-- a kind with its content, whose elements are so
abbrev Holds : Choice the_parts → Type 0
Holds c = (d : Choice the_parts) → (same_parts c d ≡ true) ↔ (c ≡ d)

by_kinds : (f : Form) (c : Choice the_parts) → as_values f ≡ c → Holds c → IsItself f
by_kinds f c e h g =
    let k = h (as_values g) in
    let same : same_form f g ≡ same_parts c (as_values g) = equality.is f g ∙ ap (λ x. same_parts x (as_values g)) e in
    (λ p. sym (the_eta f) ∙ ap the_make (e ∙ k.0 (sym same ∙ p)) ∙ the_eta g, λ p. same ∙ k.1 (sym e ∙ ap as_values p))

bools : (a b : Bool) → (a ≡ true) × (b ≡ true) → (a && b) ≡ true
bools true true h = refl
bools true false h = absurd (cc)
bools false b h = absurd (cc)

first_holds : (a b : Bool) → (a && b) ≡ true → a ≡ true
first_holds true b h = refl
first_holds false b h = absurd (cc)

second_holds : (a b : Bool) → (a && b) ≡ true → b ≡ true
second_holds true b h = h
second_holds false b h = absurd (cc)

same_lists : (fs : List ((f : Form) × IsItself f)) (gs : List Form) → (pointwise same_form (map (λ e. e.0) fs) gs ≡ true) ↔ (map (λ e. e.0) fs ≡ gs)
same_lists [] [] = (λ h. refl, λ h. refl)
same_lists [] (g ∷ gs) = (λ h. absurd (cc), λ h. absurd (cc))
same_lists (f ∷ fs) [] = (λ h. absurd (cc), λ h. absurd (cc))
same_lists (f ∷ fs) (g ∷ gs) =
    let one = f.1 g in let rest = same_lists fs gs in
    let head : Bool = same_form f.0 g in let tail : Bool = pointwise same_form (map (λ e. e.0) fs) gs in (
      λ h. ap (λ x. x ∷ map (λ e. e.0) fs) (one.0 (first_holds head tail h)) ∙ ap (λ xs. g ∷ xs) (rest.0 (second_holds head tail h)),
      λ h. bools head tail (one.1 (cc), rest.1 (cc)),
    )

-- what a kind has, where it is that kind
abbrev number_of : Choice the_parts → ℤ → ℤ
number_of (inl x) other = x.0
number_of _ other = other

abbrev symbol_of : Choice the_parts → List ℕ → List ℕ
symbol_of (inr (inl x)) other = x.0
symbol_of _ other = other

abbrev string_of : Choice the_parts → List ℕ → List ℕ
string_of (inr (inr (inl x))) other = x.0
string_of _ other = other

abbrev flag_of : Choice the_parts → Bool → Bool
flag_of (inr (inr (inr (inl x)))) other = x.0
flag_of _ other = other

abbrev elements_of : Choice the_parts → List Form → List Form
elements_of (inr (inr (inr (inr (inl x))))) other = x.0
elements_of _ other = other

number_holds : (n : ℤ) → Holds (inl (n, tt))
number_holds n (inl (m, t)) = let d = Decides-int_eq n m in (λ h. ap (λ k. inl (k, tt)) (d.0 h), λ p. d.1 (ap (λ c. number_of c n) p))
number_holds n (inr d) = (λ h. absurd (cc), λ p. absurd (cc))

symbol_holds : (s : List ℕ) → Holds (inr (inl (s, tt)))
symbol_holds s (inl d) = (λ h. absurd (cc), λ p. absurd (cc))
symbol_holds s (inr (inl (t, u))) = let d = bytes_eq-Decides s t in (λ h. ap (λ k. inr (inl (k, tt))) (d.0 h), λ p. d.1 (ap (λ c. symbol_of c s) p))
symbol_holds s (inr (inr d)) = (λ h. absurd (cc), λ p. absurd (cc))

string_holds : (s : List ℕ) → Holds (inr (inr (inl (s, tt))))
string_holds s (inl d) = (λ h. absurd (cc), λ p. absurd (cc))
string_holds s (inr (inl d)) = (λ h. absurd (cc), λ p. absurd (cc))
string_holds s (inr (inr (inl (t, u)))) = let d = bytes_eq-Decides s t in (λ h. ap (λ k. inr (inr (inl (k, tt)))) (d.0 h), λ p. d.1 (ap (λ c. string_of c s) p))
string_holds s (inr (inr (inr d))) = (λ h. absurd (cc), λ p. absurd (cc))

flags_hold : (a b : Bool) → ((flags.ghosts).eq a b ≡ true) ↔ (a ≡ b)
flags_hold true true = (λ h. refl, λ p. refl)
flags_hold true false = (λ h. absurd (cc), λ p. absurd (cc))
flags_hold false true = (λ h. absurd (cc), λ p. absurd (cc))
flags_hold false false = (λ h. refl, λ p. refl)

flag_holds : (b : Bool) → Holds (inr (inr (inr (inl (b, tt)))))
flag_holds b (inl d) = (λ h. absurd (cc), λ p. absurd (cc))
flag_holds b (inr (inl d)) = (λ h. absurd (cc), λ p. absurd (cc))
flag_holds b (inr (inr (inl d))) = (λ h. absurd (cc), λ p. absurd (cc))
flag_holds b (inr (inr (inr (inl (c, u))))) = let d = flags_hold b c in (λ h. ap (λ k. inr (inr (inr (inl (k, tt))))) (d.0 h), λ p. d.1 (ap (λ x. flag_of x b) p))
flag_holds b (inr (inr (inr (inr d)))) = (λ h. absurd (cc), λ p. absurd (cc))

list_holds : (fs : List ((f : Form) × IsItself f)) → Holds (inr (inr (inr (inr (inl (map (λ e. e.0) fs, tt))))))
list_holds fs (inl d) = (λ h. absurd (cc), λ p. absurd (cc))
list_holds fs (inr (inl d)) = (λ h. absurd (cc), λ p. absurd (cc))
list_holds fs (inr (inr (inl d))) = (λ h. absurd (cc), λ p. absurd (cc))
list_holds fs (inr (inr (inr (inl d)))) = (λ h. absurd (cc), λ p. absurd (cc))
list_holds fs (inr (inr (inr (inr (inl (gs, u)))))) = let d = same_lists fs gs in (λ h. ap (λ k. inr (inr (inr (inr (inl (k, tt)))))) (d.0 h), λ p. d.1 (ap (λ c. elements_of c (map (λ e. e.0) fs)) p))
list_holds fs (inr (inr (inr (inr (inr d))))) = absurd d

layer_is_itself : (y : Form-F ((f : Form) × IsItself f)) (x : Form-F Form) → map-Form ((f : Form) × IsItself f) Form (λ e. e.0) y ≡ x → IsItself (roll-Form x)
layer_is_itself (layer.Number n) x is = subst (λ z. IsItself (roll-Form z)) is (subst IsItself (sym (rolls-Number n)) (by_kinds (Number n) (inl (n, tt)) (the_beta (inl (n, tt))) (number_holds n)))
layer_is_itself (layer.Symbol s) x is = subst (λ z. IsItself (roll-Form z)) is (subst IsItself (sym (rolls-Symbol s)) (by_kinds (Symbol s) (inr (inl (s, tt))) (the_beta (inr (inl (s, tt)))) (symbol_holds s)))
layer_is_itself (layer.Str s) x is = subst (λ z. IsItself (roll-Form z)) is (subst IsItself (sym (rolls-Str s)) (by_kinds (Str s) (inr (inr (inl (s, tt)))) (the_beta (inr (inr (inl (s, tt))))) (string_holds s)))
layer_is_itself (layer.Flag b) x is = subst (λ z. IsItself (roll-Form z)) is (subst IsItself (sym (rolls-Flag b)) (by_kinds (Flag b) (inr (inr (inr (inl (b, tt))))) (the_beta (inr (inr (inr (inl (b, tt)))))) (flag_holds b)))
layer_is_itself (layer.Items es) x is =
    let fs = map (λ e. e.0) es in
    subst (λ z. IsItself (roll-Form z)) is (subst IsItself (sym (rolls-Items fs)) (by_kinds (Items fs) (inr (inr (inr (inr (inl (fs, tt)))))) (the_beta (inr (inr (inr (inr (inl (fs, tt))))))) (list_holds es)))

-- `same_form` is equality.
pub same_is_equal : (f g : Form) → (same_form f g ≡ true) ↔ (f ≡ g)
same_is_equal = ind-Form IsItself (λ x y is. layer_is_itself y x is)
