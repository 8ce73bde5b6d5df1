-- What `encode` answers is what is asked of it.
use Rattle.std.proofs.Common.{◌≡◌, ℕ, zero, suc, ◌-◌, ◌<◌, ◌≤◌, true, false, List, [], ◌∷◌, ◌++◌, length, take, replicate, Some, None, Result, Ok, Err, MatchResult, slice_get, sym, ap, ◌∙◌, refl, subst, arith}
use Rattle.std.proofs.lemmas.List.{length-map}
use Rattle.cg_model.specs.declared.insn.Insn.{Insn}
use Rattle.cg_model.specs.declared.insn.Values.{Values}
use Rattle.cg_model.specs.declared.machine.Machine.{Machine}
use Rattle.cg_model.specs.Encoding.{first_lost, in_place, candidate, Encodes, AreFor}
use Rattle.cg_model.specs.Matching.{length_of, asserts}
use Rattle.cg_model.specs.Slots.{slots_of, source_value, values}
use Rattle.cg_model.specs.Sound.{SoundInsn}
use Rattle.cg_code.specs.declared.encoding.NotInRange.{NotInRange}
use Rattle.cg_code.specs.Coded.{Holds}
use Rattle.cg_code.specs.Coding.{IsEncoded, IsNotInRange, IsEncodedAt, IsNotInRangeAt, AreValues}
use Rattle.cg_code.proofs.Filled.{for_length}
use Rattle.cg_code.proofs.Encoded.{answers_lost, answers_false, answers_all}

take_front : (vs zs : List ℕ) → take (length vs) (vs ++ zs) ≡ vs
take_front [] zs = refl
take_front (v ∷ vs) zs = ap (λ xs. v ∷ xs) (take_front vs zs)

-- the numbers that values hold
pub held : (x : Values) (vs : List ℕ) → Holds x vs → take x.count x.numbers ≡ vs
held x vs h = ap (λ k. take k x.numbers) h.count ∙ ap (take (length vs)) h.numbers ∙ take_front vs (replicate (16 - length vs) 0)

pub as_many_back : (m : Machine) (i : Insn) (vs front : List ℕ) (pc : ℕ) (x : Values) → AreFor m (slots_of m i.parts) vs → Holds x (values m i front pc) → length vs ≡ length (take x.count x.numbers)
as_many_back m i vs front pc x are h = for_length m (slots_of m i.parts) vs are ∙ sym (ap length (held x (values m i front pc) h) ∙ length-map (slots_of m i.parts) (source_value m front pc))

pub few_numbers : (m : Machine) (i : Insn) (vs : List ℕ) → SoundInsn m i → AreFor m (slots_of m i.parts) vs → length vs ≤ 16
few_numbers m i vs sound are = omega (arith, for_length m (slots_of m i.parts) vs are, sound.slots)

-- what code has at hand: the bytes, their front and the values in it
pub record Tried (m : Machine) (i : Insn) (vs : List ℕ) (pc : ℕ) (bytes : List ℕ) (len : ℕ) (x : Values) (e : NotInRange) : Type 0 where
  pub whole : bytes ≡ in_place m i vs pc
  pub long : len ≡ length_of m i
  pub holds : Holds x (values m i (take len bytes) pc)
  pub operand : e.operand ≡ (first_lost 0 vs (take x.count x.numbers)).operand
  pub value : e.value ≡ (first_lost 0 vs (take x.count x.numbers)).value

front_is : (m : Machine) (i : Insn) (vs : List ℕ) (pc : ℕ) (bytes : List ℕ) (len : ℕ) (x : Values) (e : NotInRange) → Tried m i vs pc bytes len x e → take len bytes ≡ candidate m i vs pc
front_is m i vs pc bytes len x e t = ap (λ n. take n bytes) t.long ∙ ap (take (length_of m i)) t.whole

backs_are : (m : Machine) (i : Insn) (vs : List ℕ) (pc : ℕ) (bytes : List ℕ) (len : ℕ) (x : Values) (e : NotInRange) → Tried m i vs pc bytes len x e → take x.count x.numbers ≡ values m i (candidate m i vs pc) pc
backs_are m i vs pc bytes len x e t = held x (values m i (take len bytes) pc) t.holds ∙ ap (λ bs. values m i bs pc) (front_is m i vs pc bytes len x e t)

pub lost_answer : (m : Machine) (i : Insn) (vs : List ℕ) (pc : ℕ) (bytes : List ℕ) (len : ℕ) (x : Values) (e : NotInRange) (out : List ℕ) → Tried m i vs pc bytes len x e → e.operand < length vs → IsNotInRange m i vs pc e out out
lost_answer m i vs pc bytes len x e out t lost = record {
  none = answers_lost m i vs (take x.count x.numbers) pc (backs_are m i vs pc bytes len x e t) (subst (λ k. k < length vs) t.operand lost);
  operand = t.operand ∙ ap (λ bs. (first_lost 0 vs bs).operand) (backs_are m i vs pc bytes len x e t);
  value = t.value ∙ ap (λ bs. (first_lost 0 vs bs).value) (backs_are m i vs pc bytes len x e t);
  same = refl;
}

pub false_answer : (m : Machine) (i : Insn) (vs : List ℕ) (pc : ℕ) (bytes : List ℕ) (len : ℕ) (x : Values) (e : NotInRange) (out : List ℕ) → Tried m i vs pc bytes len x e → asserts m i (take len bytes) ≡ false → IsNotInRange m i vs pc e out out
false_answer m i vs pc bytes len x e out t wrong = record {
  none = answers_false m i vs pc (ap (asserts m i) (sym (front_is m i vs pc bytes len x e t)) ∙ wrong);
  operand = t.operand ∙ ap (λ bs. (first_lost 0 vs bs).operand) (backs_are m i vs pc bytes len x e t);
  value = t.value ∙ ap (λ bs. (first_lost 0 vs bs).value) (backs_are m i vs pc bytes len x e t);
  same = refl;
}

again : (n : ℕ) (xs zs : List ℕ) → n ≤ length xs → take n (take n xs ++ zs) ≡ take n xs
again zero xs zs le = refl
again (suc n) [] zs le = absurd (omega (arith, le))
again (suc n) (x ∷ xs) zs le = ap (λ ys. x ∷ ys) (again n xs zs (omega (arith, le)))

pub right_answer : (m : Machine) (i : Insn) (vs : List ℕ) (pc : ℕ) (bytes : List ℕ) (len : ℕ) (x : Values) (e : NotInRange) (out : List ℕ) → Tried m i vs pc bytes len x e → AreFor m (slots_of m i.parts) vs
    → length vs ≤ e.operand → asserts m i (take len bytes) ≡ true → len ≤ length bytes → out ≡ take len bytes ++ replicate (16 - len) 0 → IsEncoded m i vs pc len out
right_answer m i vs pc bytes len x e out t are none holds le is =
    let front : take len out ≡ take len bytes = ap (take len) is ∙ again len bytes (replicate (16 - len) 0) le in
    let encodes : Encodes m i vs pc (take len bytes) = answers_all m i vs (take x.count x.numbers) (take len bytes) pc (front_is m i vs pc bytes len x e t) (held x (values m i (take len bytes) pc) t.holds)
    (as_many_back m i vs (take len bytes) pc x are t.holds) (subst (λ k. length vs ≤ k) t.operand none) holds in
    record {
      length = t.long;
      encodes = subst (Encodes m i vs pc) (sym front) encodes;
      behind = is ∙ ap (λ xs. xs ++ replicate (16 - len) 0) (sym front);
    }

-- the instruction of a number
pub values_for : (m : Machine) (k : ℕ) (i : Insn) (vs : List ℕ) → slice_get m.insns k ≡ Some i → AreValues m k vs → AreFor m (slots_of m i.parts) vs
values_for m k i vs is are = subst (λ o. elim o as (λ _. Type 0) [ None ↦ ⊥ | Some j ↦ AreFor m (slots_of m j.parts) vs ]) is are

answer_same : (m : Machine) (k : ℕ) (i : Insn) (vs : List ℕ) (pc : ℕ) (old new : List ℕ) (r : Result ℕ NotInRange) → slice_get m.insns k ≡ Some i
    → MatchResult r (λ len. IsEncoded m i vs pc len new) (λ e. IsNotInRange m i vs pc e old new)
    → MatchResult r (λ len. IsEncodedAt m k vs pc len new) (λ e. IsNotInRangeAt m k vs pc e old new)
answer_same m k i vs pc old new (Ok len) is h = record { insn = i; at = is; encoded = h }
answer_same m k i vs pc old new (Err e) is h = record { insn = i; at = is; out = h }

pub answer_at : (m : Machine) (k : ℕ) (i : Insn) (vs : List ℕ) (pc p : ℕ) (old new : List ℕ) (r : Result ℕ NotInRange) → slice_get m.insns k ≡ Some i → p ≡ pc
    → MatchResult r (λ len. IsEncoded m i vs p len new) (λ e. IsNotInRange m i vs p e old new)
    → MatchResult r (λ len. IsEncodedAt m k vs pc len new) (λ e. IsNotInRangeAt m k vs pc e old new)
answer_at m k i vs pc p old new r is same h = answer_same m k i vs pc old new r is (subst (λ q. MatchResult r (λ len. IsEncoded m i vs q len new) (λ e. IsNotInRange m i vs q e old new)) same h)
