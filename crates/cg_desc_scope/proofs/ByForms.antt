-- What stands by forms is told form by form, and grows instruction by instruction.
use Rattle.std.proofs.Common.{◌≡◌, ◌∙◌, ℕ, Bool, true, false, ◌==◌, if◌then◌else◌, List, [], ◌∷◌, ◌++◌, append_assoc, refl, sym, ap}
use Rattle.std.proofs.lemmas.Grind.{common_steps}
use Rattle.cg_desc_choices.specs.declared.written.Written.{Written}
use Rattle.cg_desc_scope.specs.Texts.{Insns, of_form, by_form}
use Rattle.cg_desc_scope.specs.declared.by_form.ByForm as declared
use Rattle.cg_desc_scope.specs.ByForm.{no_insns, with_one, with_all, IsNone, IsWithOne, seen_by_form}

pub no_insns_is : (now : Insns) → IsNone now → now ≡ no_insns
unfolding IsNone
no_insns_is now each = λ i form. each form i

pub with_one_is : (before : Insns) (w : Written) (now : Insns) → IsWithOne before w now → now ≡ with_one before w
unfolding IsWithOne
with_one_is before w now each = λ i form. each form i

none_after : {A : Type 0} (xs : List A) → xs ++ [] ≡ xs
none_after [] = refl
none_after (x ∷ xs) = ap (λ t. x ∷ t) (none_after xs)

-- one instruction more, in front of those behind it
step : (b : Bool) (xs : List Written) (w : Written) (rest : List Written) → (if b then xs ++ w ∷ [] else xs) ++ rest ≡ xs ++ (if b then w ∷ rest else rest)
step true xs w rest = append_assoc xs (w ∷ []) rest
step false xs w rest = refl

-- what stands before, with what is put behind it
all_behind : (before : Insns) (ws : List Written) (form : ℕ) → with_all before ws form ≡ before form ++ of_form form ws
all_behind before [] form = sym (none_after (before form))
all_behind before (w ∷ ws) form = all_behind (with_one before w) ws form ∙ step (w.form == form) (before form) w (of_form form ws)

pub all_by_form : (ws : List Written) → with_all no_insns ws ≡ by_form ws
all_by_form ws = λ i form. all_behind no_insns ws form i

-- the instructions of one form, where they are kept by their forms
pub insns_of : (x : declared.ByForm) (ws : List Written) (form : ℕ) → seen_by_form x ≡ by_form ws → seen_by_form x form ≡ of_form form ws
insns_of x ws form same = ap (λ insns. insns form) same

pub ruleset by_form_rules = (common_steps, all_by_form)
