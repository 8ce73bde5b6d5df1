use Rattle.std.proofs.Common.{◌≡◌, drop, map}
use Rattle.std.specs.List.{list_all}
use Rattle.cg_model.specs.Sound.{is_allowed}
use Rattle.tests_code.proofs.allowed.+all_allowed.Given as goal

-- what is left is allowed just where the whole is
abbrev pub invariant-loop-item : goal.invariant-loop-item
invariant-loop-item g l = list_all (λ b. b) (map (is_allowed (g.A.Allows.allowed l.rule)) (drop l.item-index l.item-items)) ≡ is_allowed (g.A.Allows.allowed l.rule) l.rtl
