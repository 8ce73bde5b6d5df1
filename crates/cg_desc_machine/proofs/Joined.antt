-- Several assertions together.
use Rattle.std.proofs.Common.{◌≡◌, ℕ, ◌<◌, ◌≤◌, List, [], ◌∷◌, ◌++◌, Option, Some, None, length, pos, refl, arith}
use Rattle.std.specs.Option.{option_to_list}
use Rattle.cg_model.specs.declared.rtl.Op.TheVariants as op
use Rattle.cg_model.specs.declared.rtl.Rtl.{Rtl}
use Rattle.cg_rtl_resolve.specs.Names.{node}
use Rattle.cg_desc_machine.specs.Instructions.{joined_assertions}

-- at most one
pub joined_few : (rest : List Rtl) (r : Option Rtl) → length rest ≡ 0 → joined_assertions (rest ++ option_to_list r) ≡ r
joined_few [] None empty = refl
joined_few [] (Some x) empty = refl
joined_few (x ∷ rest) r empty = absurd (omega arith)

-- two or more
pub joined_many : (rs : List Rtl) → 2 ≤ length rs → joined_assertions rs ≡ Some (node op.AndIf None (pos 0) rs)
joined_many [] many = absurd (omega arith)
joined_many (r ∷ []) many = absurd (omega arith)
joined_many (r ∷ s ∷ rs) many = refl
