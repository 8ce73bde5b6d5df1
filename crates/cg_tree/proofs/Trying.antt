-- How candidates are tried, one after the other.
use Rattle.std.proofs.Common.{◌≡◌, ℕ, suc, ◌+◌, ◌-◌, ◌^◌, ◌<◌, ◌≤◌, min, Bool, true, false, cond, if◌then◌else◌, List, [], ◌∷◌, length, drop, get_or, Some, None, sym, ap, ◌∙◌, refl, subst, arith}
use Rattle.std.specs.List.{find}
use Rattle.std.proofs.Math.Seq.{drop-cons}
use Rattle.std.proofs.lemmas.List.{drop_all}
use Rattle.cg_code.specs.Coded.{matches_at}
use Rattle.cg_model.specs.declared.machine.Machine.{Machine}
use Rattle.cg_tree.specs.Counted.{risen}
use Rattle.cg_tree.specs.Finding.{tried}
use Rattle.cg_tree.proofs.Shapes.{risen_both}

-- what is left of some candidates gives what all of them do
pub record Trying (m : Machine) (bytes all rest : List ℕ) (start count : ℕ) : Type 0 where
  pub same : find (λ k. matches_at m k bytes) rest ≡ find (λ k. matches_at m k bytes) all
  pub counted : risen count (tried m bytes rest) ≡ risen start (tried m bytes all)

pub try_none : (m : Machine) (bytes all : List ℕ) (start : ℕ) → Trying m bytes all all start start
try_none m bytes all start = record { same = refl; counted = refl }

split : (m : Machine) (bytes all ks : List ℕ) (i d start count : ℕ) → i < length ks → Trying m bytes all (drop i ks) start count → Trying m bytes all (get_or ks i d ∷ drop (i + 1) ks) start count
split m bytes all ks i d start count within so_far =
    let next : suc i ≡ i + 1 = omega arith in
    let parts : drop i ks ≡ get_or ks i d ∷ drop (i + 1) ks = drop-cons ks i d within ∙ ap (λ k. get_or ks i d ∷ drop k ks) next in
    subst (λ rest. Trying m bytes all rest start count) parts so_far

-- a candidate that doesn't match
missed : (m : Machine) (bytes all rest : List ℕ) (k start count next : ℕ) → Trying m bytes all (k ∷ rest) start count → matches_at m k bytes ≡ false → next ≡ risen count 1 → Trying m bytes all rest start next
missed m bytes all rest k start count next x miss is = record {
  same = sym (ap (λ b. cond b (Some k) (find (λ j. matches_at m j bytes) rest)) miss) ∙ x.same;
  counted =
      ap (λ n. risen n (tried m bytes rest)) is ∙ risen_both count 1 (tried m bytes rest)
      ∙ sym (ap (λ b. risen count (1 + (if b then 0 else tried m bytes rest))) miss) ∙ x.counted;
}

pub try_more : (m : Machine) (bytes all ks : List ℕ) (i d start count next : ℕ) → i < length ks → Trying m bytes all (drop i ks) start count → matches_at m (get_or ks i d) bytes ≡ false → next ≡ risen count 1 → Trying m bytes all (drop (i + 1) ks) start next
try_more m bytes all ks i d start count next within so_far miss is =
    missed m bytes all (drop (i + 1) ks) (get_or ks i d) start count next (split m bytes all ks i d start count within so_far) miss is

-- the first that matches
pub try_found : (m : Machine) (bytes all ks : List ℕ) (i d start count : ℕ) → i < length ks → Trying m bytes all (drop i ks) start count → matches_at m (get_or ks i d) bytes ≡ true → Some (get_or ks i d) ≡ find (λ k. matches_at m k bytes) all
try_found m bytes all ks i d start count within so_far hit =
    sym (ap (λ b. cond b (Some (get_or ks i d)) (find (λ j. matches_at m j bytes) (drop (i + 1) ks))) hit) ∙ (split m bytes all ks i d start count within so_far).same

pub try_counted : (m : Machine) (bytes all ks : List ℕ) (i d start count next : ℕ) → i < length ks → Trying m bytes all (drop i ks) start count → matches_at m (get_or ks i d) bytes ≡ true → next ≡ risen count 1 → next ≡ risen start (tried m bytes all)
try_counted m bytes all ks i d start count next within so_far hit is =
    is ∙ sym (ap (λ b. risen count (1 + (if b then 0 else tried m bytes (drop (i + 1) ks)))) hit) ∙ (split m bytes all ks i d start count within so_far).counted

-- none is left
at_end : (m : Machine) (bytes all ks : List ℕ) (i start count : ℕ) → length ks ≤ i → Trying m bytes all (drop i ks) start count → Trying m bytes all [] start count
at_end m bytes all ks i start count past so_far = subst (λ rest. Trying m bytes all rest start count) (drop_all i ks past) so_far

pub try_all : (m : Machine) (bytes all ks : List ℕ) (i start count : ℕ) → length ks ≤ i → Trying m bytes all (drop i ks) start count → None ≡ find (λ k. matches_at m k bytes) all
try_all m bytes all ks i start count past so_far = (at_end m bytes all ks i start count past so_far).same

pub all_counted : (m : Machine) (bytes all ks : List ℕ) (i start count : ℕ) → length ks ≤ i → count < 2 ^ 64 → Trying m bytes all (drop i ks) start count → count ≡ risen start (tried m bytes all)
all_counted m bytes all ks i start count past fits so_far =
    let none : count ≡ risen count 0 = omega (arith, fits) in
    none ∙ (at_end m bytes all ks i start count past so_far).counted

pub ruleset trying = (try_none, try_more, try_found, try_counted, try_all, all_counted)

few_more : (b : Bool) (n l : ℕ) → n ≤ l → 1 + (if b then 0 else n) ≤ suc l
few_more true n l h = omega arith
few_more false n l h = omega (arith, h)

-- no more are tried than there are
pub few_tried : (m : Machine) (bytes ks : List ℕ) → tried m bytes ks ≤ length ks
few_tried m bytes [] = omega arith
few_tried m bytes (k ∷ ks) = few_more (matches_at m k bytes) (tried m bytes ks) (length ks) (few_tried m bytes ks)
