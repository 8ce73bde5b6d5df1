-- How tables of rules grow step by step.
use Rattle.std.proofs.Common.{if◌then◌else◌, ◌⊎◌, length-append, inl, inr, Option, Some, None, subst, is_some, ◌<◌, ◌≤◌, ◌≡◌, ℕ, suc, zero, ◌+◌, ◌*◌, Bool, true, false, ◌||◌, map, List, [], ◌∷◌, ◌++◌, length, refl, sym, ap, ◌∙◌, arith}
use Rattle.std.proofs.lemmas.Bool.{cases_lt, false≢true}
use Rattle.std.proofs.lemmas.Option.{slice_get_past}
use Rattle.std.proofs.lemmas.Grind.{common_steps}
use Rattle.cg_model.specs.Placed.{is_set, RuleName, AsPlace, needed_at, each_needed, needed_step, needed_by, rule_named, needed_where, needed}
use Rattle.cg_model.specs.declared.machine.Machine.{Machine}
use Rattle.cg_model.specs.declared.rtl.Rtl.{Rtl, out-Rtl, fold_out-Rtl}
use Rattle.cg_model_faults.specs.E314.{is_same, one_leads, leads_in, needs}
use Rattle.cg_desc_check_rtl.specs.Tables.{in_row, in_table, leads_by, IsRow, IsNext, Knows}
use Rattle.cg_desc_check_rtl.specs.declared.rule.Table.{Table}

pub leads_append : (f : RuleName → Bool) (s : RuleName) (rs qs : List RuleName) → one_leads f s (rs ++ qs) ≡ (one_leads f s rs || one_leads f s qs)
leads_append f s [] qs = refl
leads_append f s (r ∷ rs) qs = by (is_same r s) (f r) (leads_append f s rs qs) where
  by : (a b : Bool) → one_leads f s (rs ++ qs) ≡ (one_leads f s rs || one_leads f s qs) → (a || b || one_leads f s (rs ++ qs)) ≡ ((a || b || one_leads f s rs) || one_leads f s qs)
  by true b h = refl
  by false true h = refl
  by false false h = h

-- the rules that an expression needs: its own, and those of its items
pub needed_of : (m : Machine) (r : Rtl) (is_place : Bool) → needed_by m r is_place ≡ needed_at m is_place (out-Rtl r).op (out-Rtl r).number ++ each_needed (is_set (out-Rtl r).op) (map (needed_by m) (out-Rtl r).items)
unfolding needed_by
needed_of m r is_place = ap (λ f. f is_place) (fold_out-Rtl AsPlace (needed_step m) r)

pub ruleset leading_rules = (common_steps, leads_append, needed_of)

row_at_end : (row : List Bool) (b : Bool) → in_row (row ++ b ∷ []) (length row) ≡ b
row_at_end [] b = refl
row_at_end (x ∷ row) b = row_at_end row b

row_before : (row : List Bool) (b : Bool) (j : ℕ) → j < length row → in_row (row ++ b ∷ []) j ≡ in_row row j
row_before [] b j h = absurd (omega (arith, h))
row_before (x ∷ row) b zero h = refl
row_before (x ∷ row) b (suc j) h = row_before row b j (omega (arith, h))

row_past : (row : List Bool) (j : ℕ) → length row ≤ j → in_row row j ≡ false
row_past [] j h = refl
row_past (x ∷ row) zero h = absurd (omega (arith, h))
row_past (x ∷ row) (suc j) h = row_past row j (omega (arith, h))

-- hardware that there isn't has no rule
leads_past : (m : Machine) (t : Table) (s : RuleName) (sets : Bool) (j : ℕ) → length m.hardware ≤ j → leads_by m t s (record { hardware = j; sets = sets }) ≡ false
leads_past m t s sets j h = ap (λ x. one_leads (in_table t) s (needed_where m (elim x [ None ↦ None | Some h ↦ if sets then h.set else h.get ]))) (slice_get_past m.hardware j h)

-- a row as far as it has come
pub record RowTo (m : Machine) (t : Table) (s : RuleName) (sets : Bool) (row : List Bool) (k : ℕ) : Type 0 where
  pub long : length row ≡ k
  pub at : (j : ℕ) → j < k → in_row row j ≡ leads_by m t s (record { hardware = j; sets = sets })

pub row_start : (m : Machine) (t : Table) (s : RuleName) (sets : Bool) → RowTo m t s sets [] 0
row_start m t s sets = record { long = refl; at = λ j h. absurd (omega (arith, h)) }

pub row_more : (m : Machine) (t : Table) (s : RuleName) (sets : Bool) (row : List Bool) (k : ℕ) (b : Bool) → RowTo m t s sets row k → b ≡ leads_by m t s (record { hardware = k; sets = sets }) → RowTo m t s sets (row ++ b ∷ []) (k + 1)
row_more m t s sets row k b so_far is = record { long = longer; at = λ j h. by j (cases_lt j k) h } where
  longer : length (row ++ b ∷ []) ≡ k + 1
  longer = length-append row (b ∷ []) ∙ ap (λ n. n + 1) so_far.long

  last : in_row (row ++ b ∷ []) k ≡ leads_by m t s (record { hardware = k; sets = sets })
  last = ap (in_row (row ++ b ∷ [])) (sym so_far.long) ∙ row_at_end row b ∙ is

  by : (j : ℕ) → (j < k) ⊎ (k ≤ j) → j < k + 1 → in_row (row ++ b ∷ []) j ≡ leads_by m t s (record { hardware = j; sets = sets })
  by j (inl lt) h = row_before row b j (omega (arith, lt, so_far.long)) ∙ so_far.at j lt
  by j (inr ge) h =
      let e : k ≡ j = omega (arith, ge, h) in
      subst (λ i. in_row (row ++ b ∷ []) i ≡ leads_by m t s (record { hardware = i; sets = sets })) e last

pub row_end : (m : Machine) (t : Table) (s : RuleName) (sets : Bool) (row : List Bool) (k : ℕ) → length m.hardware ≤ k → RowTo m t s sets row k → IsRow m t s sets row
row_end m t s sets row k past so_far = record { at = λ j. by j (cases_lt j k) } where
  by : (j : ℕ) → (j < k) ⊎ (k ≤ j) → in_row row j ≡ leads_by m t s (record { hardware = j; sets = sets })
  by j (inl lt) = so_far.at j lt
  by j (inr ge) = row_past row j (omega (arith, ge, so_far.long)) ∙ sym (leads_past m t s sets j (omega (arith, past, ge)))

pub ruleset row_rules = (row_start, row_more, row_end)

pub next_of_rows : (m : Machine) (t : Table) (s : RuleName) (next : Table) → IsRow m t s false next.gets.items → IsRow m t s true next.sets.items → IsNext m t s next
next_of_rows m t s next gets sets = record { at = λ r. by r r.sets refl } where
  by : (r : RuleName) (b : Bool) → r.sets ≡ b → in_table next r ≡ leads_by m t s r
  by r true e = ap (λ b. if b then in_row next.sets.items r.hardware else in_row next.gets.items r.hardware) e ∙ sets.at r.hardware ∙ ap (λ b. leads_by m t s (record { hardware = r.hardware; sets = b })) (sym e)
  by r false e = ap (λ b. if b then in_row next.sets.items r.hardware else in_row next.gets.items r.hardware) e ∙ gets.at r.hardware ∙ ap (λ b. leads_by m t s (record { hardware = r.hardware; sets = b })) (sym e)

pub ruleset next_rules = (next_of_rows)

-- what leads by two tables that are one
pub leads_alike : (f g : RuleName → Bool) (s : RuleName) (rs : List RuleName) → ((r : RuleName) → f r ≡ g r) → one_leads f s rs ≡ one_leads g s rs
leads_alike f g s [] h = refl
leads_alike f g s (r ∷ rs) h = ap (λ b. is_same r s || b || one_leads f s rs) (h r) ∙ ap (λ b. is_same r s || g r || b) (leads_alike f g s rs h)

empty_row : (row : List Bool) (k : ℕ) → row ≡ [] → in_row row k ≡ false
empty_row row k e = ap (λ x. in_row x k) e

pub knows_start : (m : Machine) (s : RuleName) (t : Table) → t.gets.items ≡ [] → t.sets.items ≡ [] → Knows m 0 s t
knows_start m s t gets sets = record { at = λ r. by r r.sets } where
  by : (r : RuleName) (b : Bool) → (if b then in_row t.sets.items r.hardware else in_row t.gets.items r.hardware) ≡ false
  by r true = empty_row t.sets.items r.hardware sets
  by r false = empty_row t.gets.items r.hardware gets

pub knows_next : (m : Machine) (k : ℕ) (s : RuleName) (t u : Table) → Knows m k s t → IsNext m t s u → Knows m (suc k) s u
knows_next m k s t u known next = record { at = λ r. next.at r ∙ leads_alike (in_table t) (leads_in m k s) s (needed m r) known.at }

pub knows_round : (m : Machine) (k : ℕ) (s : RuleName) (t u v : Table) → Knows m (2 * k) s t → IsNext m t s u → IsNext m u s v → Knows m (2 * (k + 1)) s v
knows_round m k s t u v known first second =
    let two : suc (suc (2 * k)) ≡ 2 * (k + 1) = omega arith in
    subst (λ n. Knows m n s v) two (knows_next m (suc (2 * k)) s u v (knows_next m (2 * k) s t u known first) second)

pub unled : (m : Machine) (n : ℕ) (s r : RuleName) → rule_named m r ≡ None → leads_in m n s r ≡ false
unled m zero s r none = refl
unled m (suc n) s r none = ap (λ x. one_leads (leads_in m n s) s (needed_where m x)) none

-- a rule that isn't there needs nothing
pub unruled : (m : Machine) (s r : RuleName) → is_some (rule_named m r) ≡ false → needs m r s ≡ false
unfolding needs
unruled m s r none = unled m (2 * length m.hardware) s r (by (rule_named m r) none) where
  by : (x : Option Rtl) → is_some x ≡ false → x ≡ None
  by None h = refl
  by (Some rtl) h = absurd (false≢true (sym h))

pub knows_all : (m : Machine) (s r : RuleName) (k : ℕ) (t : Table) → k ≡ length m.hardware → Knows m (2 * k) s t → in_table t r ≡ needs m r s
unfolding needs
knows_all m s r k t all known = known.at r ∙ ap (λ n. leads_in m (2 * n) s r) all

pub ruleset needing_rules = (common_steps, knows_start, knows_round, unruled, knows_all)
