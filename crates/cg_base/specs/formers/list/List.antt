-- How a `List` stores its elements, so that a type may hold lists of itself.
use mathlib.Core.Path.{refl, sym}
use mathlib.Core.List.{List, []}
use mathlib.Core.Former.{Former, this, list, via, children}
use base.Stored.{code_map}
use denote.RattleType.{RattleType}
use denote.HoleLaws.{Alike}
use denote.HolePlaces.{Recodes, struct_places, laid}
use denote.Hole.Carrier.{listed, list-listed}
use denote.Hole.Fix.{over}
use denote.Param.Weighed.{Weighed, w_list}
use denote.Model.Placed.{view_places}
use Rattle.std.specs.Prelude.{◌≡◌}
use Rattle.std.specs.formers.vec.Vec as vec
use Rattle.std.specs.declared.alloc.Global.{Global}
use Rattle.std.specs.contracts.alloc.Global as heap
use Rattle.std.specs.contracts.impls.GlobalAllocator.TheImpl.{ghosts}
use Rattle.cg_base.specs.declared.list.List.TheInside.{Inside}
use Rattle.cg_base.specs.declared.list.List.TheView.{view, invariant}
use Rattle.cg_base.specs.contracts.list.List as seen
use Rattle.cg_base.specs.contracts.list.List.TheInside as kept

-- what is seen of a list is a list
abbrev pub the_former : Former {0} → Former {0}
the_former g = list g

abbrev pub the_weighed : {g : Former {0}} → Weighed g → Weighed (the_former g)
the_weighed weights = w_list weights

pub the_empty : List ⊥
the_empty = []

abbrev pub the_items : (X : Type 0) → List X → List X
the_items X xs = xs

pub the_items_listed : (X : Type 0) (xs : List X) → listed _ (children (the_former this) X xs) ≡ the_items X xs
the_items_listed X xs = list-listed X xs

-- the one field is a `Vec`
abbrev stored : Former {0}
stored = via (vec.the_former this Global) Inside (λ X it. it.items) (λ X held. record { items = held }) (λ X it. refl) (λ X held. refl)

module _ (R S : RattleType) (h : R.Denot → S.Denot) where
  pub the_places : Alike R S h → Alike (seen.the_row R) (seen.the_row S) ((the_former this).map R.Denot S.Denot h)
  the_places alike =
      view_places stored (list this) view (λ X Y k it. refl) (λ X it. refl) R.Denot S.Denot h (seen.the_row R).coded (seen.the_row S).coded
      (invariant R.Denot) (invariant S.Denot) (λ it p q. refl) (λ it p q. refl) (λ it holds. tt) (λ it holds. tt)
      (over (kept.the_row R)) (over (kept.the_row S))
      (struct_places (kept.the_type R) (kept.the_type S) (vec.mapped h, tt) _ (λ it. refl) refl (laid _ _ _ (vec.the_places heap.the_row ghosts R S h alike), tt))

  pub the_codes_placed : Recodes R S h → Recodes (seen.the_row R) (seen.the_row S) ((the_former this).map R.Denot S.Denot h)
  the_codes_placed recodes xs = sym (code_map R.coded.code S.coded.code h (λ x. sym (recodes x)) xs)
