-- Numbers of a directive that don't fit.
use Rattle.std.specs.Prelude.{ℕ, ◌*◌, Bool, true, false, if◌then◌else◌, List, [], ◌∷◌, ℤ, Option, Some, None}
use Rattle.std.specs.Fmt.{signed_decimal}
use Rattle.std.specs.Option.{option_or, option_map}
use Rattle.std.proofs.Common.{◌≡◌, refl}
use Rattle.cg_asm_directives.specs.Faulting.{told_first, unfit_in, unfit_refusal}
use Rattle.cg_asm_directives.specs.Telling.{width_bytes}
use Rattle.cg_asm_directives.specs.declared.order.Width.{Width}
use Rattle.cg_model_source.specs.Choosing.{SourceFault, is_within}
use Rattle.cg_model_source.specs.E602.{unfit_number}

by_within : (number : ℕ) (name : List ℕ) (z : ℤ) (within : Bool) (one : SourceFault) → told_first (one ∷ []) ≡ Some (unfit_refusal number name z) → told_first (if within then [] else one ∷ []) ≡ option_map (unfit_refusal number name) (if within then None else Some z)
by_within number name z true one e = refl
by_within number name z false one e = e

pub unfit_told : (number : ℕ) (name : List ℕ) (w : Width) (z : ℤ) → told_first (unfit_number number name (width_bytes w) z) ≡ option_map (unfit_refusal number name) (unfit_in w z)
unfit_told number name w z = by_within number name z (is_within (8 * width_bytes w) z) (record { number = number; text = name; other = signed_decimal z }) refl

pub map_or : (number : ℕ) (name : List ℕ) (a b : Option ℤ) → option_or (option_map (unfit_refusal number name) a) (option_map (unfit_refusal number name) b) ≡ option_map (unfit_refusal number name) (option_or a b)
map_or number name None b = refl
map_or number name (Some z) b = refl
