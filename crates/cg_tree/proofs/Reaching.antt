-- The leaf that a number reaches in a tight tree lists the candidates that the number leaves.
use Rattle.std.proofs.Common.{◌≡◌, ℕ, Bool, true, false, not, ◌&&◌, if◌then◌else◌, List, [], ◌∷◌, ◌++◌, Bor, Some, sym, ap, ◌∙◌, refl, subst}
use Rattle.std.specs.List.{list_all}
use Rattle.std.proofs.lemmas.Bool.{and_from}
use Rattle.cg_code_mask.specs.declared.format.Constants.{Constants}
use Rattle.cg_tree.specs.declared.branch.Branch.{Branch}
use Rattle.cg_tree.specs.declared.branch.Branch.TheOpen.{Branch-F}
use Rattle.cg_tree.specs.declared.branch.Branch.TheOpen as layer
use Rattle.cg_tree.specs.declared.branch.Branch.TheViews.{roll-Branch}
use Rattle.cg_tree.specs.declared.branch.Branch.TheFolds.{map-Branch, fold-roll-Branch, ind-Branch}
use Rattle.cg_tree.specs.Trees.{is_set, reached, reached_step, all_nodes, all_nodes_step, past_test, Tested, Node}
use Rattle.cg_tree.specs.Trees.Node.{leaf_at, test_at}
use Rattle.cg_tree.specs.Candidates.{agrees, candidates, AreTight}
use Rattle.cg_tree.proofs.Tightness.{tight_front, tight_back}

-- a number gives a test's answer
abbrev pub gives : ℕ → Tested → Bool
gives w a = agrees (Some (is_set w a.bit)) a.answer

-- what a leaf lists are the candidates at the end of a path whose answers the number gives
pub record Reaches (table : List Constants) (ks : List ℕ) (w : ℕ) (listed : List ℕ) : Type 0 where
  pub path : List Tested
  pub given : list_all (gives w) path ≡ true
  pub is : listed ≡ candidates table ks path

Leading : List Constants → List ℕ → Type 0 → ℕ → Branch → Type 0
Leading table ks full w b = (path : List Tested) → list_all (gives w) path ≡ true → AreTight table ks full (all_nodes b path) → Reaches table ks w (reached b w)

gave : (w bit : ℕ) (answer : Bool) → is_set w bit ≡ answer → agrees (Some (is_set w bit)) answer ≡ true
gave w bit true e = ap (λ b. agrees (Some b) true) e
gave w bit false e = ap (λ b. agrees (Some b) false) e

-- at a test, by the answer
turned : (table : List Constants) (ks : List ℕ) (full : Type 0) (w bit : ℕ) (clear set : Branch) (path : List Tested) → Leading table ks full w clear → Leading table ks full w set → list_all (gives w) path ≡ true
    → AreTight table ks full (all_nodes clear (past_test bit false path) ++ all_nodes set (past_test bit true path)) → (answer : Bool) → is_set w bit ≡ answer → Reaches table ks w (if answer then reached set w else reached clear w)
unfolding Leading
turned table ks full w bit clear set path low high given tight true e = high (past_test bit true path) (and_from _ _ (gave w bit true e) given) (tight_back table ks full (all_nodes clear (past_test bit false path)) (all_nodes set (past_test bit true path)) tight)
turned table ks full w bit clear set path low high given tight false e = low (past_test bit false path) (and_from _ _ (gave w bit false e) given) (tight_front table ks full (all_nodes clear (past_test bit false path)) (all_nodes set (past_test bit true path)) tight)

leading_step : (table : List Constants) (ks : List ℕ) (full : Type 0) (w : ℕ) (y : Branch-F ((b : Branch) × Leading table ks full w b)) → Leading table ks full w (roll-Branch (map-Branch ((b : Branch) × Leading table ks full w b) Branch (λ e. e.0) y))
unfolding Leading
leading_step table ks full w (layer.Leaf xs) = λ path given tight.
    let z : Branch-F Branch = map-Branch ((b : Branch) × Leading table ks full w b) Branch (λ e. e.0) (layer.Leaf xs) in
    let own : AreTight table ks full (leaf_at path xs.now ∷ []) = subst (AreTight table ks full) (ap (λ f. f path) (fold-roll-Branch (List Tested → List Node) all_nodes_step z)) tight in
    record { path = path; given = given; is = ap (λ f. f w) (fold-roll-Branch (ℕ → List ℕ) reached_step z) ∙ own.0.0 }
leading_step table ks full w (layer.Test bit clear set) = λ path given tight.
    let z : Branch-F Branch = map-Branch ((b : Branch) × Leading table ks full w b) Branch (λ e. e.0) (layer.Test bit clear set) in
    let own : AreTight table ks full (test_at path bit ∷ (all_nodes clear.now.0 (past_test bit false path) ++ all_nodes set.now.0 (past_test bit true path))) = subst (AreTight table ks full) (ap (λ f. f path) (fold-roll-Branch (List Tested → List Node) all_nodes_step z)) tight in
    subst (Reaches table ks w) (sym (ap (λ f. f w) (fold-roll-Branch (ℕ → List ℕ) reached_step z)))
    (turned table ks full w bit clear.now.0 set.now.0 path clear.now.1 set.now.1 given own.1 (is_set w bit) refl)

leading : (table : List Constants) (ks : List ℕ) (full : Type 0) (w : ℕ) (b : Branch) → Leading table ks full w b
leading table ks full w b = ind-Branch (Leading table ks full w) (λ x y is. subst (λ z. Leading table ks full w (roll-Branch z)) is (leading_step table ks full w y)) b

pub leads : (table : List Constants) (ks : List ℕ) (full : Type 0) (w : ℕ) (b : Branch) → AreTight table ks full (all_nodes b []) → Reaches table ks w (reached b w)
unfolding Leading
leads table ks full w b tight = leading table ks full w b [] refl tight
