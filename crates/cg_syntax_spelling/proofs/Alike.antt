-- What a text stands for depends on which texts are keywords.
use Rattle.std.specs.Prelude.{ℕ, not, ◌&&◌, if◌then◌else◌, List, [], ◌∷◌, Option, Some, None, slice_get}
use Rattle.std.proofs.Common.{◌≡◌, refl, ap, ◌∙◌}
use Rattle.cg_base.specs.Numerals.{number_written}
use Rattle.cg_base.specs.Parts.{◌>>=◌}
use Rattle.cg_model_source.specs.Spelling.{Signed, plus, plus_number, plus_label, summed, sum_parts, sum_of, spelled, spelled_by, is_label}
use Rattle.cg_model.specs.declared.hardware.Hardware.{Hardware}
use Rattle.cg_model.specs.declared.hardware.Keyword.{Keyword}
use Rattle.cg_model.specs.declared.machine.Machine.{Machine}
use Rattle.cg_model.specs.declared.operand.Operand.{Operand}
use Rattle.cg_model_source.specs.declared.written.Sum.{Sum}
use Rattle.cg_syntax_spelling.specs.Laws.{SpellAlike}
use Rattle.cg_syntax_spelling.specs.Lowered.{SameKeywords}

plus_alike : (v w : List (List ℕ)) → SameKeywords v w → (t : Signed) (s : Sum) → plus v t s ≡ plus w t s
plus_alike v w same t s = ap (λ known. elim (number_written t.text) as (λ x. Option Sum) [ Some n ↦ Some (plus_number t.minus n s) | None ↦ if is_label t.text && not known then Some (plus_label t.minus t.text s) else None ]) (same t.text)

with_rest : (v w : List (List ℕ)) → SameKeywords v w → (t : Signed) (rest : Option Sum) → (rest >>= plus v t) ≡ (rest >>= plus w t)
with_rest v w same t None = refl
with_rest v w same t (Some s) = plus_alike v w same t s

summed_alike : (v w : List (List ℕ)) → SameKeywords v w → (ts : List Signed) → summed v ts ≡ summed w ts
summed_alike v w same [] = refl
summed_alike v w same (t ∷ ts) = ap (λ r. r >>= plus v t) (summed_alike v w same ts) ∙ with_rest v w same t (summed w ts)

sums_alike : (v w : List (List ℕ)) → SameKeywords v w → (text : List ℕ) → sum_of v text ≡ sum_of w text
unfolding sum_of
sums_alike v w same text = summed_alike v w same (sum_parts text)

by_alike : (v w : List (List ℕ)) → SameKeywords v w → (m : Machine) (o : Operand) (k : Option Keyword) (text : List ℕ) → spelled_by m v o k text ≡ spelled_by m w o k text
by_alike v w same m o (Some k) text = refl
by_alike v w same m o None text = sums_alike v w same text

of_hardware : (v w : List (List ℕ)) → SameKeywords v w → (m : Machine) (o : Operand) (h : Option Hardware) (text : List ℕ) →
    (elim h as (λ x. Option Sum) [ None ↦ None | Some h ↦ spelled_by m v o h.keyword text ]) ≡ (elim h as (λ x. Option Sum) [ None ↦ None | Some h ↦ spelled_by m w o h.keyword text ])
of_hardware v w same m o None text = refl
of_hardware v w same m o (Some h) text = by_alike v w same m o h.keyword text

slots_alike : (v w : List (List ℕ)) → SameKeywords v w → (m : Machine) (o : Operand) (text : List ℕ) → spelled m v o text ≡ spelled m w o text
unfolding spelled
slots_alike v w same m o text = of_hardware v w same m o (slice_get m.hardware o.hardware) text

pub alike : (v w : List (List ℕ)) → SameKeywords v w → SpellAlike v w
alike v w same = record { sum = sums_alike v w same; slot = slots_alike v w same }
