-- What one walk and the trying of its candidates are together.
use Rattle.std.proofs.Common.{◌≡◌, ℕ, ◌+◌, ◌≤◌, List, length, Option, sym, ap, ◌∙◌, subst, arith}
use Rattle.std.specs.List.{find}
use Rattle.cg_code.specs.Coded.{matches_at}
use Rattle.cg_model.specs.declared.machine.Machine.{Machine}
use Rattle.cg_code_mask.specs.View.{whole}
use Rattle.cg_tree.specs.declared.tree.Tree.{Tree}
use Rattle.cg_tree.specs.Counted.{risen}
use Rattle.cg_tree.specs.Trees.{reached, tests, height}
use Rattle.cg_tree.specs.Finding.{found, leaf_for, tests_for, tried, steps_for}
use Rattle.cg_tree.proofs.Shapes.{risen_both}
use Rattle.cg_tree.proofs.Trying.{few_tried}

pub found_there : (t : Tree) (m : Machine) (bytes cs : List ℕ) (w : ℕ) (r : Option ℕ) → r ≡ find (λ k. matches_at m k bytes) cs → cs ≡ reached t.root w → w ≡ whole bytes → r ≡ found t m bytes
found_there t m bytes cs w r e f is = e ∙ ap (find (λ k. matches_at m k bytes)) (f ∙ ap (reached t.root) is)

pub ticked_both : (t : Tree) (m : Machine) (bytes cs : List ℕ) (w start middle end : ℕ) → middle ≡ risen start (tests t.root w) → end ≡ risen middle (tried m bytes cs) → cs ≡ reached t.root w → w ≡ whole bytes → end ≡ risen start (steps_for t m bytes)
ticked_both t m bytes cs w start middle end e f listed is =
    f ∙ ap (λ n. risen n (tried m bytes cs)) e
    ∙ risen_both start (tests t.root w) (tried m bytes cs)
    ∙ ap (λ ks. risen start (tests t.root w + tried m bytes ks)) listed
    ∙ ap (λ x. risen start (tests t.root x + tried m bytes (reached t.root x))) is

pub few_bits : (t : Tree) (bytes : List ℕ) (w : ℕ) → tests t.root w ≤ height t.root → height t.root ≤ 128 → w ≡ whole bytes → tests_for t bytes ≤ 128
few_bits t bytes w low all is =
    let few : tests t.root (whole bytes) ≤ height t.root = subst (λ x. tests t.root x ≤ height t.root) is low in
    omega (arith, few, all)

pub ruleset finding = (found_there, ticked_both, few_bits, few_tried)
