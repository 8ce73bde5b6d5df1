-- When values come back.
use Rattle.std.proofs.Common.{◌≡◌, ◌≢◌, ℕ, suc, ◌+◌, ◌<◌, ◌≤◌, true, false, ◌==◌, List, [], ◌∷◌, length, drop, get_or, sym, ap, ◌∙◌, refl, subst, ◌⊎◌, inl, inr, arith}
use Rattle.std.proofs.lemmas.Bool.{false≢true, cases_lt, eq-eqb}
use Rattle.std.proofs.lemmas.Bool.Decides.{nat_tests}
use Rattle.std.proofs.Math.Seq.{drop-cons}
use Rattle.std.proofs.lemmas.List.{drop_all}
use Rattle.cg_model.specs.declared.insn.Insn.{Insn}
use Rattle.cg_model.specs.declared.machine.Machine.{Machine}
use Rattle.cg_model.specs.Encoding.{Out, first_lost, candidate, Encodes, InRange}
use Rattle.cg_model.specs.Matching.{asserts}
use Rattle.cg_model.specs.Slots.{values}

-- what did not come back, from a place on
pub record Losing (numbers backs : List ℕ) (k : ℕ) : Type 0 where
  pub left : first_lost k (drop k numbers) (drop k backs) ≡ first_lost 0 numbers backs

pub lost_start : (numbers backs : List ℕ) → Losing numbers backs 0
lost_start numbers backs = record { left = refl }

one_lost : (k v b : ℕ) (vs bs : List ℕ) → v ≢ b → first_lost k (v ∷ vs) (b ∷ bs) ≡ record { operand = k; value = v }
one_lost k v b vs bs h = let e : (v == b) ≡ false = grind (arith, nat_tests) in rw e refl

one_back : (k v b : ℕ) (vs bs : List ℕ) → v ≡ b → first_lost k (v ∷ vs) (b ∷ bs) ≡ first_lost (suc k) vs bs
one_back k v b vs bs h = rw (eq-eqb v b h) refl

lost_split : (numbers backs : List ℕ) (k d e : ℕ) → length numbers ≡ length backs → k < length numbers → Losing numbers backs k
    → first_lost k (get_or numbers k d ∷ drop (suc k) numbers) (get_or backs k e ∷ drop (suc k) backs) ≡ first_lost 0 numbers backs
lost_split numbers backs k d e same within h =
    ap (λ xs. first_lost k xs (get_or backs k e ∷ drop (suc k) backs)) (sym (drop-cons numbers k d within)) ∙ ap (λ ys. first_lost k (drop k numbers) ys) (sym (drop-cons backs k e (omega (arith, same, within)))) ∙ h.left

pub lost_here : (numbers backs : List ℕ) (k d e : ℕ) → length numbers ≡ length backs → k < length numbers → Losing numbers backs k → get_or numbers k d ≢ get_or backs k e
    → record { operand = k; value = get_or numbers k d } ≡ first_lost 0 numbers backs
lost_here numbers backs k d e same within h differ = sym (one_lost k (get_or numbers k d) (get_or backs k e) (drop (suc k) numbers) (drop (suc k) backs) differ) ∙ lost_split numbers backs k d e same within h

pub lost_more : (numbers backs : List ℕ) (k d e : ℕ) → length numbers ≡ length backs → k < length numbers → Losing numbers backs k → get_or numbers k d ≡ get_or backs k e → Losing numbers backs (k + 1)
lost_more numbers backs k d e same within h back =
    let next : suc k ≡ k + 1 = omega arith in
    subst (Losing numbers backs) next (record { left = sym (one_back k (get_or numbers k d) (get_or backs k e) (drop (suc k) numbers) (drop (suc k) backs) back) ∙ lost_split numbers backs k d e same within h })

pub lost_none : (numbers backs : List ℕ) (k : ℕ) → length numbers ≤ k → Losing numbers backs k → record { operand = k; value = 0 } ≡ first_lost 0 numbers backs
lost_none numbers backs k past h = ap (λ xs. first_lost k xs (drop k backs)) (sym (drop_all k numbers past)) ∙ h.left

pub ruleset losing = (lost_start, lost_here, lost_more, lost_none)

same_or_not : (v b : ℕ) → (v ≡ b) ⊎ (v ≢ b)
same_or_not v b = elim (cases_lt v b) [
  | inl lt ↦ inr (λ e. absurd (omega (arith, e)))
  | inr ge ↦ elim (cases_lt b v) [ inl lt ↦ inr (λ e. absurd (omega (arith, e))) | inr le ↦ inl (omega arith) ]
]

-- numbers that all come back lose none
pub all_back : (k : ℕ) (vs : List ℕ) → first_lost k vs vs ≡ record { operand = k + length vs; value = 0 }
all_back k [] = let e : k ≡ k + 0 = omega arith in ap (λ n. record { operand = n; value = 0 }) e
all_back k (v ∷ vs) = let e : suc k + length vs ≡ k + suc (length vs) = omega arith in one_back k v v vs vs refl ∙ all_back (suc k) vs ∙ ap (λ n. record { operand = n; value = 0 }) e

-- numbers of which none is lost are those that came back
none_lost : (k : ℕ) (vs bs : List ℕ) → length vs ≡ length bs → k + length vs ≤ (first_lost k vs bs).operand → vs ≡ bs
none_lost k [] [] same h = refl
none_lost k [] (b ∷ bs) same h = absurd (omega (arith, same))
none_lost k (v ∷ vs) [] same h = absurd (omega (arith, same))
none_lost k (v ∷ vs) (b ∷ bs) same h = elim (same_or_not v b) [
  | inl e ↦ ap (λ x. x ∷ vs) e ∙ ap (λ xs. b ∷ xs) (none_lost (suc k) vs bs (omega (arith, same)) (omega (arith, h, ap (λ (o : Out). o.operand) (one_back k v b vs bs e))))
  | inr differ ↦ absurd (omega (arith, h, ap (λ (o : Out). o.operand) (one_lost k v b vs bs differ)))
]

-- what `encode` answers
pub answers_lost : (m : Machine) (i : Insn) (vs backs : List ℕ) (pc : ℕ) → backs ≡ values m i (candidate m i vs pc) pc → (first_lost 0 vs backs).operand < length vs → InRange m i vs pc → ⊥
answers_lost m i vs backs pc is lost x =
    let front : values m i x.bytes pc ≡ values m i (candidate m i vs pc) pc = ap (λ bs. values m i bs pc) x.encodes.is_candidate in
    let back : backs ≡ vs = is ∙ sym front ∙ x.encodes.back in
    let all : (first_lost 0 vs backs).operand ≡ 0 + length vs = ap (λ bs. (first_lost 0 vs bs).operand) back ∙ ap (λ (o : Out). o.operand) (all_back 0 vs) in
    omega (arith, all, lost)

pub answers_false : (m : Machine) (i : Insn) (vs : List ℕ) (pc : ℕ) → asserts m i (candidate m i vs pc) ≡ false → InRange m i vs pc → ⊥
answers_false m i vs pc is x = false≢true (sym is ∙ ap (asserts m i) (sym x.encodes.is_candidate) ∙ x.encodes.asserted)

pub answers_all : (m : Machine) (i : Insn) (vs backs bytes : List ℕ) (pc : ℕ) → bytes ≡ candidate m i vs pc → backs ≡ values m i bytes pc → length vs ≡ length backs → length vs ≤ (first_lost 0 vs backs).operand → asserts m i bytes ≡ true → Encodes m i vs pc bytes
answers_all m i vs backs bytes pc is back same none holds = record { is_candidate = is; asserted = holds; back = sym back ∙ sym (none_lost 0 vs backs same (omega (arith, none))) }
