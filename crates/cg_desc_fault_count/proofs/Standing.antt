-- What stands before is told text by text.
use Rattle.std.proofs.Common.{◌≡◌, List, ℕ}
use Rattle.cg_desc_fault_count.specs.Known.{Standing, nothing, with_one, IsNothing, IsWithOne}

pub nothing_is : (now : Standing) → IsNothing now → now ≡ nothing
unfolding IsNothing
nothing_is now each = λ i name. each name i

pub with_one_is : (before : Standing) (x : List ℕ) (now : Standing) → IsWithOne before x now → now ≡ with_one before x
unfolding IsWithOne
with_one_is before x now each = λ i name. each name i
