-- How tables of rules grow step by step.
use Rattle.std.proofs.Common.{◌≡◌, ◌<◌, ◌≤◌, ◌⊎◌, inl, inr, ℕ, zero, suc, ◌+◌, ◌-◌, Bool, true, false, ◌||◌, if◌then◌else◌, List, [], ◌∷◌, length, length-set, replicate, set, Some, None, refl, ap, ap₂, ◌∙◌, sym, subst, arith}
use Rattle.std.proofs.Math.Bool.{beq}
use Rattle.std.proofs.lemmas.Bool.{cases_lt, false≢true}
use Rattle.std.specs.Cmp.Lexicographic.{pointwise}
use Rattle.std.proofs.lemmas.List.{length-replicate}
use Rattle.std.proofs.lemmas.Option.{slice_get_past}
use Rattle.std.proofs.lemmas.Grind.{common_steps}
use Rattle.cg_model.specs.Placed.{RuleName, rule_named, needed_where, needed, delays_where, one_delays, rule_delays}
use Rattle.cg_model.specs.declared.machine.Machine.{Machine}
use Rattle.cg_modes_leaf.specs.Delaying.{in_row, in_table, delays_beside, IsEmpty, IsRow, IsNext, Knows}
use Rattle.cg_modes_leaf.specs.declared.table.Table.{Table}

-- a row of nothing, and one with a place set
row_nothing : (n k : ℕ) → in_row (replicate n false) k ≡ false
row_nothing zero k = refl
row_nothing (suc n) zero = refl
row_nothing (suc n) (suc k) = row_nothing n k

row_here : (row : List Bool) (k : ℕ) (b : Bool) → k < length row → in_row (set row k b) k ≡ b
row_here [] k b h = absurd (omega (arith, h))
row_here (x ∷ row) zero b h = refl
row_here (x ∷ row) (suc k) b h = row_here row k b (omega (arith, h))

row_below : (row : List Bool) (k j : ℕ) (b : Bool) → j < k → in_row (set row k b) j ≡ in_row row j
row_below [] k j b h = refl
row_below (x ∷ row) zero j b h = absurd (omega (arith, h))
row_below (x ∷ row) (suc k) zero b h = refl
row_below (x ∷ row) (suc k) (suc j) b h = row_below row k j b (omega (arith, h))

row_above : (row : List Bool) (k j : ℕ) (b : Bool) → k < j → in_row (set row k b) j ≡ in_row row j
row_above [] k j b h = refl
row_above (x ∷ row) k zero b h = absurd (omega (arith, h))
row_above (x ∷ row) zero (suc j) b h = refl
row_above (x ∷ row) (suc k) (suc j) b h = row_above row k j b (omega (arith, h))

abbrev pub rule_at : ℕ → Bool → RuleName
rule_at k sets = record { hardware = k; sets = sets }

-- the row holds for so many hardware elements, and has nothing of others
pub record RowTo (m : Machine) (t : Table) (sets : Bool) (row : List Bool) (count : ℕ) : Type 0 where
  pub long : length row ≡ 256
  pub below : (k : ℕ) → k < count → in_row row k ≡ delays_beside m t (rule_at k sets)
  pub above : (k : ℕ) → count ≤ k → in_row row k ≡ false

pub is_empty : (n : ℕ) → IsEmpty n (replicate n false)
is_empty n = record { long = length-replicate n false; at = λ k. row_nothing n k }

pub row_start : (m : Machine) (t : Table) (sets : Bool) (row : List Bool) → IsEmpty 256 row → RowTo m t sets row 0
row_start m t sets row empty = record { long = empty.long; below = λ k h. absurd (omega (arith, h)); above = λ k h. empty.at k }

pub row_more : (m : Machine) (t : Table) (sets : Bool) (row : List Bool) (k : ℕ) (b : Bool) → k < 256 → RowTo m t sets row k → b ≡ delays_beside m t (record { hardware = k; sets = sets }) → RowTo m t sets (set row k b) (k + 1)
row_more m t sets row k b within so_far here = record {
  long = length-set row k b ∙ so_far.long;
  below = λ j h. below j h (cases_lt j k);
  above = λ j h. row_above row k j b (omega (arith, h)) ∙ so_far.above j (omega (arith, h));
} where
  below : (j : ℕ) → j < k + 1 → (j < k) ⊎ (k ≤ j) → in_row (set row k b) j ≡ delays_beside m t (rule_at j sets)
  below j h (inl lt) = row_below row k j b lt ∙ so_far.below j lt
  below j h (inr ge) =
      let e : k ≡ j = omega (arith, ge, h) in
      subst (λ i. in_row (set row k b) i ≡ delays_beside m t (rule_at i sets)) e (row_here row k b (omega (arith, within, so_far.long)) ∙ here)

-- hardware that there isn't has no rule
beside_past : (m : Machine) (t : Table) (sets : Bool) (k : ℕ) → length m.hardware ≤ k → delays_beside m t (rule_at k sets) ≡ false
beside_past m t sets k h = ap (λ x. delays_where x || one_delays (in_table t) (needed_where m x)) (ap (λ x. elim x [ None ↦ None | Some h ↦ if sets then h.set else h.get ]) (slice_get_past m.hardware k h))

pub row_all : (m : Machine) (t : Table) (sets : Bool) (row : List Bool) (count : ℕ) → length m.hardware ≤ count → RowTo m t sets row count → IsRow m t sets row
row_all m t sets row count all so_far = record { at = λ k. by k (cases_lt k count) } where
  by : (k : ℕ) → (k < count) ⊎ (count ≤ k) → in_row row k ≡ delays_beside m t (rule_at k sets)
  by k (inl lt) = so_far.below k lt
  by k (inr ge) = so_far.above k ge ∙ sym (beside_past m t sets k (omega (arith, all, ge)))

pub ruleset row_rules = (common_steps, is_empty, row_start, row_more, row_all)

pub next_of : (m : Machine) (t : Table) (gets sets : List Bool) (next : Table) → next.gets ≡ gets → next.sets ≡ sets → IsRow m t false gets → IsRow m t true sets → IsNext m t next
next_of m t gets sets next e f get set = record { at = λ r. by r.hardware r.sets } where
  by : (k : ℕ) (b : Bool) → in_table next (record { hardware = k; sets = b }) ≡ delays_beside m t (record { hardware = k; sets = b })
  by k true = ap (λ row. in_row row k) f ∙ set.at k
  by k false = ap (λ row. in_row row k) e ∙ get.at k

pub ruleset next_rules = (common_steps, next_of)

one_alike : (f g : RuleName → Bool) (rs : List RuleName) → ((r : RuleName) → f r ≡ g r) → one_delays f rs ≡ one_delays g rs
one_alike f g [] h = refl
one_alike f g (r ∷ rs) h = rw (h r, one_alike f g rs h) refl

pub knows_start : (m : Machine) (t : Table) → IsEmpty 256 t.gets → IsEmpty 256 t.sets → Knows m 0 t
knows_start m t e f = record { at = λ r. by r.hardware r.sets } where
  by : (k : ℕ) (b : Bool) → in_table t (record { hardware = k; sets = b }) ≡ false
  by k true = f.at k
  by k false = e.at k

pub knows_next : (m : Machine) (k : ℕ) (t next : Table) → Knows m k t → IsNext m t next → Knows m (k + 1) next
knows_next m k t next known more = record {
  at = λ r.
      more.at r
      ∙ ap (λ b. delays_where (rule_named m r) || b) (one_alike (in_table t) (rule_delays m k) (needed m r) known.at)
      ∙ ap (λ n. rule_delays m n r) (add_one k);
} where
  add_one : (k : ℕ) → suc k ≡ k + 1
  add_one k = omega arith

-- where a step more gives no more, no number of steps does
many_more : (m : Machine) (k : ℕ) → ((r : RuleName) → rule_delays m (suc k) r ≡ rule_delays m k r) → (j : ℕ) (r : RuleName) → rule_delays m (j + k) r ≡ rule_delays m k r
many_more m k still zero r = let e : 0 + k ≡ k = omega arith in rw e refl
many_more m k still (suc j) r =
    let e : suc j + k ≡ suc (j + k) = omega arith in
    ap (λ n. rule_delays m n r) e
    ∙ ap (λ b. delays_where (rule_named m r) || b) (one_alike (rule_delays m (j + k)) (rule_delays m k) (needed m r) (many_more m k still j))
    ∙ still r

pub knows_settled : (m : Machine) (k n : ℕ) (t next : Table) → k ≤ n → Knows m k t → IsNext m t next → t ≡ next → Knows m n t
knows_settled m k n t next within known more same = record { at = λ r. known.at r ∙ sym (many_more m k still (n - k) r) ∙ ap (λ i. rule_delays m i r) left } where
  left : (n - k) + k ≡ n
  left = omega (arith, within)

  still : (r : RuleName) → rule_delays m (suc k) r ≡ rule_delays m k r
  still r =
      let e : k + 1 ≡ suc k = omega arith in
      ap (λ i. rule_delays m i r) (sym e) ∙ sym ((knows_next m k t next known more).at r) ∙ sym (ap (λ u. in_table u r) same) ∙ known.at r

pub needs_known : (m : Machine) (k : ℕ) (t : Table) (rs : List RuleName) → Knows m k t → one_delays (in_table t) rs ≡ one_delays (rule_delays m k) rs
needs_known m k t rs known = one_alike (in_table t) (rule_delays m k) rs known.at

pub same_table : (t next : Table) → t.gets ≡ next.gets → t.sets ≡ next.sets → t ≡ next
same_table t next e f = ap₂ (λ gets sets. record { gets = gets; sets = sets }) e f

pub same_bits : (xs ys : List Bool) → pointwise beq xs ys ≡ true → xs ≡ ys
same_bits [] [] h = refl
same_bits [] (y ∷ ys) h = absurd (false≢true h)
same_bits (x ∷ xs) [] h = absurd (false≢true h)
same_bits (true ∷ xs) (true ∷ ys) h = ap (λ zs. true ∷ zs) (same_bits xs ys h)
same_bits (true ∷ xs) (false ∷ ys) h = absurd (false≢true h)
same_bits (false ∷ xs) (true ∷ ys) h = absurd (false≢true h)
same_bits (false ∷ xs) (false ∷ ys) h = ap (λ zs. false ∷ zs) (same_bits xs ys h)

pub ruleset step_rules = (common_steps, knows_start, knows_next, knows_settled)

pub ruleset known_rules = (common_steps, needs_known)

pub ruleset settled_rules = (common_steps, same_table)
