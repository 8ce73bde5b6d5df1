-- How code sets the parts of a format in turn.
use Rattle.std.proofs.Common.{◌≡◌, ℕ, suc, ◌+◌, ◌<◌, ◌≤◌, true, List, [], ◌∷◌, ◌++◌, length, take, drop, get_or, replicate, Option, Some, None, slice_get, sym, ap, ◌∙◌, refl, subst, append-nil, length-append, arith}
use Rattle.std.proofs.lemmas.Bool.{false≢true}
use Rattle.std.proofs.Math.Seq.{drop-cons}
use Rattle.std.proofs.lemmas.List.{drop_all, drop-drop}
use Rattle.cg_model.specs.declared.insn.Insn.{Insn}
use Rattle.cg_model.specs.declared.insn.Part.{Part}
use Rattle.cg_model.specs.declared.insn.Part.TheVariants.{Constant, Slot}
use Rattle.cg_model.specs.declared.machine.Machine.{Machine}
use Rattle.cg_model.specs.declared.operand.Operand.{Operand}
use Rattle.cg_model.specs.Encoding.{Setting, constant_setting, slot_settings, settings, with_all, in_place, AreFor}
use Rattle.cg_model.specs.Slots.{slots_of}
use Rattle.cg_model.specs.Sound.{SoundInsn, PartFits, AreApart, is_there}
use Rattle.cg_code.proofs.Settings.{set_in_turn}
use Rattle.cg_code.proofs.Holding.{slots_more}

-- the settings of a slot's operand with the first of some values
slot_first : (m : Machine) (pc : ℕ) (o : Option Operand) (v : ℕ) (rest : List Setting) → is_there o ≡ true
    → elim o as (λ _. List Setting) [ None ↦ rest | Some x ↦ slot_settings m pc x v ++ rest ] ≡ elim o as (λ _. List Setting) [ None ↦ [] | Some x ↦ slot_settings m pc x v ++ [] ] ++ rest
slot_first m pc None v rest there = absurd (false≢true there)
slot_first m pc (Some x) v rest there = ap (λ xs. xs ++ rest) (sym (append-nil (slot_settings m pc x v)))

one_slot : (m : Machine) (k : ℕ) (o : Option Operand) → slice_get m.operands k ≡ o → is_there o ≡ true → length (slots_of m (Slot k ∷ [])) ≡ 1
one_slot m k None is there = absurd (false≢true there)
one_slot m k (Some x) is there = ap (λ o. length (elim o as (λ _. List Operand) [ None ↦ [] | Some y ↦ y ∷ [] ])) is

pub settings_more : (m : Machine) (pc : ℕ) (p : Part) (ps : List Part) (vs : List ℕ) → PartFits m p → length (slots_of m (p ∷ [])) ≤ length vs
    → settings m pc (p ∷ ps) vs ≡ settings m pc (p ∷ []) vs ++ settings m pc ps (drop (length (slots_of m (p ∷ []))) vs)
settings_more m pc (Constant k c) ps vs fits h = ap (λ xs. xs ++ settings m pc ps vs) (sym (append-nil (constant_setting (slice_get m.fields k) c)))
settings_more m pc (Slot k) ps [] fits h = let e : length (slots_of m (Slot k ∷ [])) ≡ 1 = one_slot m k (slice_get m.operands k) refl fits in absurd (omega (arith, e, h))
settings_more m pc (Slot k) ps (v ∷ vs) fits h =
    let e : length (slots_of m (Slot k ∷ [])) ≡ 1 = one_slot m k (slice_get m.operands k) refl fits in
    slot_first m pc (slice_get m.operands k) v (settings m pc ps vs) fits
    ∙ ap (λ n. settings m pc (Slot k ∷ []) (v ∷ vs) ++ settings m pc ps (drop n (v ∷ vs))) (sym e)

-- numbers for the slots of one part and for those of the others
pub for_length : (m : Machine) (os : List Operand) (vs : List ℕ) → AreFor m os vs → length vs ≡ length os
for_length m [] [] h = refl
for_length m [] (v ∷ vs) h = absurd h
for_length m (o ∷ os) [] h = absurd h
for_length m (o ∷ os) (v ∷ vs) h = ap suc (for_length m os vs h.1)

for_first : (m : Machine) (os ps : List Operand) (vs : List ℕ) → AreFor m (os ++ ps) vs → AreFor m os (take (length os) vs)
for_first m [] ps vs h = tt
for_first m (o ∷ os) ps [] h = absurd h
for_first m (o ∷ os) ps (v ∷ vs) h = (h.0, for_first m os ps vs h.1)

for_rest : (m : Machine) (os ps : List Operand) (vs : List ℕ) → AreFor m (os ++ ps) vs → AreFor m ps (drop (length os) vs)
for_rest m [] ps vs h = h
for_rest m (o ∷ os) ps [] h = absurd h
for_rest m (o ∷ os) ps (v ∷ vs) h = for_rest m os ps vs h.1

-- what is set, with what is left, is all
pub record Putting (m : Machine) (pc : ℕ) (all rest : List Part) (vs : List ℕ) (slot : ℕ) (now : List ℕ) : Type 0 where
  pub left : with_all m (settings m pc rest (drop slot vs)) now ≡ with_all m (settings m pc all vs) (replicate 16 0)
  pub numbers : AreFor m (slots_of m rest) (drop slot vs)
  pub parts : AreApart m rest

pub put_start : (m : Machine) (pc : ℕ) (i : Insn) (vs : List ℕ) → SoundInsn m i → AreFor m (slots_of m i.parts) vs → Putting m pc i.parts i.parts vs 0 (replicate 16 0)
put_start m pc i vs sound h = record { left = refl; numbers = h; parts = sound.parts }

pub put_split : (m : Machine) (pc : ℕ) (all ps : List Part) (vs : List ℕ) (slot i : ℕ) (now : List ℕ) (d : Part) → i < length ps → Putting m pc all (drop i ps) vs slot now → Putting m pc all (get_or ps i d ∷ drop (i + 1) ps) vs slot now
put_split m pc all ps vs slot i now d within h =
    let next : suc i ≡ i + 1 = omega arith in
    let split : drop i ps ≡ get_or ps i d ∷ drop (i + 1) ps = drop-cons ps i d within ∙ ap (λ k. get_or ps i d ∷ drop k ps) next in
    subst (λ rest. Putting m pc all rest vs slot now) split h

pub put_fits : (m : Machine) (pc : ℕ) (all rest : List Part) (p : Part) (vs : List ℕ) (slot : ℕ) (now : List ℕ) → Putting m pc all (p ∷ rest) vs slot now → PartFits m p
put_fits m pc all rest p vs slot now h = h.parts.0

pub put_numbers : (m : Machine) (pc : ℕ) (all rest : List Part) (p : Part) (vs : List ℕ) (slot : ℕ) (now : List ℕ) → Putting m pc all (p ∷ rest) vs slot now → AreFor m (slots_of m (p ∷ [])) (take (length (slots_of m (p ∷ []))) (drop slot vs))
put_numbers m pc all rest p vs slot now h = for_first m (slots_of m (p ∷ [])) (slots_of m rest) (drop slot vs) (subst (λ os. AreFor m os (drop slot vs)) (slots_more m p rest) h.numbers)

pub put_more : (m : Machine) (pc : ℕ) (all rest : List Part) (p : Part) (vs : List ℕ) (slot n : ℕ) (now next : List ℕ) → Putting m pc all (p ∷ rest) vs slot now
    → n ≡ slot + length (slots_of m (p ∷ [])) → next ≡ with_all m (settings m pc (p ∷ []) (drop slot vs)) now → Putting m pc all rest vs n next
put_more m pc all rest p vs slot n now next h is put =
    let own : ℕ = length (slots_of m (p ∷ [])) in
    let both : AreFor m (slots_of m (p ∷ []) ++ slots_of m rest) (drop slot vs) = subst (λ os. AreFor m os (drop slot vs)) (slots_more m p rest) h.numbers in
    let long : own ≤ length (drop slot vs) = omega (arith, for_length m _ _ both, length-append (slots_of m (p ∷ [])) (slots_of m rest)) in
    let behind : drop own (drop slot vs) ≡ drop n vs = drop-drop own slot vs ∙ ap (λ k. drop k vs) (sym is) in
    record {
      left = ap (λ ws. with_all m (settings m pc rest ws) next) (sym behind)
          ∙ ap (with_all m (settings m pc rest (drop own (drop slot vs)))) put
          ∙ sym (set_in_turn m (settings m pc (p ∷ []) (drop slot vs)) (settings m pc rest (drop own (drop slot vs))) now)
          ∙ ap (λ xs. with_all m xs now) (sym (settings_more m pc p rest (drop slot vs) h.parts.0 long))
          ∙ h.left;
      numbers = subst (AreFor m (slots_of m rest)) behind (for_rest m (slots_of m (p ∷ [])) (slots_of m rest) (drop slot vs) both);
      parts = h.parts.2;
    }

pub put_end : (m : Machine) (pc : ℕ) (i : Insn) (vs : List ℕ) (slot k : ℕ) (now : List ℕ) → length i.parts ≤ k → Putting m pc i.parts (drop k i.parts) vs slot now → now ≡ in_place m i vs pc
put_end m pc i vs slot k now past h =
    let last : Putting m pc i.parts [] vs slot now = subst (λ rest. Putting m pc i.parts rest vs slot now) (drop_all k i.parts past) h in
    last.left

pub ruleset parts = (put_start, put_end)
