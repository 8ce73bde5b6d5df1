-- The first 16 bytes, and what is asked of a tree as a whole.
use Rattle.std.proofs.Common.{◌≡◌, ℕ, ◌+◌, ◌-◌, ◌*◌, ◌/◌, ◌%◌, ◌^◌, ◌<◌, ◌≤◌, min, List, [], length, take, slice_index, get_or, sym, ap, ◌∙◌, refl, subst, inl, inr, arith, length-take}
use Rattle.std.specs.Int.{w8, bit_at}
use Rattle.std.proofs.lemmas.Bool.{cases_lt}
use Rattle.std.proofs.lemmas.List.{get_or-take, get_or_past}
use Rattle.std.proofs.lemmas.Nat.Bits.{same_from_bits_below}
use mir.Val.{Fits}
use Rattle.cg_model.specs.Clashing.{AreBytes}
use Rattle.cg_model.specs.declared.machine.Machine.{Machine}
use Rattle.cg_code_mask.specs.View.{whole}
use Rattle.cg_code_mask.specs.declared.format.Constants.{Constants}
use Rattle.cg_code_mask.proofs.Wholes.{whole_fits, whole_bit, front_bytes}
use Rattle.cg_tree.specs.declared.branch.Branch.{Branch}
use Rattle.cg_tree.specs.declared.tree.Tree.{Tree}
use Rattle.cg_tree.specs.Trees.{size, height, all_nodes}
use Rattle.cg_tree.specs.Candidates.{table_of, decodables, AreTight}
use Rattle.cg_tree.specs.Telling.{telling}
use Rattle.cg_tree.specs.Growing.{IsGrown}
use Rattle.cg_tree.specs.Finding.{most_nodes, IsTight}
use Rattle.cg_tree.proofs.Masks.{at_most}
use Rattle.cg_tree.proofs.Tightness.{tight_weaker, no_tests}

pub are_bytes : (bytes : List ℕ) → ((k : ℕ) → Fits w8 (get_or bytes k 0)) → AreBytes bytes
are_bytes bytes fits = record { below = λ k. (fits k).fits }

-- the first 16 bytes are seen as the same number as all
pub whole_front : (bytes : List ℕ) (n : ℕ) → AreBytes bytes → min (length bytes) 16 ≤ n → whole (take n bytes) ≡ whole bytes
whole_front bytes n h many =
    let k : AreBytes (take n bytes) = front_bytes n bytes h in
    same_from_bits_below 128 _ _ (whole_fits (take n bytes) k) (whole_fits bytes h) (λ q below.
    whole_bit (take n bytes) q k below
    ∙ elim (cases_lt (15 - q / 8) n) [
      | inl lt ↦ ap (λ x. bit_at x (q % 8)) (get_or-take n bytes (15 - q / 8) 0 lt)
      | inr ge ↦
          ap (λ x. bit_at x (q % 8)) (get_or_past (take n bytes) (15 - q / 8) 0 (omega (arith, length-take n bytes, ge)))
          ∙ sym (ap (λ x. bit_at x (q % 8)) (get_or_past bytes (15 - q / 8) 0 (omega (arith, many, ge))))
    ]
    ∙ sym (whole_bit bytes q h below))

-- what has grown over all decodable instructions is a tight tree
pub tight_grown : (m : Machine) (t : Tree) (table : List Constants) (listed : List ℕ) (room left : ℕ) → table ≡ table_of m → listed ≡ decodables m → room ≡ 8 * length m.insns + 511 → IsGrown table listed room t.root left → IsTight t m
tight_grown m t table listed room left e f many x = record {
  few = omega (arith, x.sized, many);
  each =
      let own : IsGrown (table_of m) listed room t.root left = subst (λ y. IsGrown y listed room t.root left) e x in
      let tight : AreTight (table_of m) (decodables m) (left ≡ 0) (all_nodes t.root []) = own.tight (decodables m) [] (f ∙ no_tests (table_of m) (decodables m)) in
      tight_weaker (table_of m) (decodables m) (left ≡ 0) (most_nodes m < size t.root + 2) (all_nodes t.root []) (λ none. omega (arith, none, x.sized, many)) tight;
}

-- and no path in it has more than 128 tests
pub low_grown : (table : List Constants) (listed : List ℕ) (room left : ℕ) (b : Branch) → IsGrown table listed room b left → height b ≤ 128
low_grown table listed room left b x = omega (arith, x.low, at_most 128 (telling table listed))
