-- How code fills values.
use Rattle.std.proofs.Common.{◌≡◌, ℕ, suc, ◌+◌, ◌-◌, ◌*◌, ◌<◌, ◌≤◌, List, [], ◌∷◌, ◌++◌, length, map, drop, get_or, slice_set, replicate, append-nil, length-append, Option, Some, None, slice_get, sym, ap, ◌∙◌, refl, subst, arith}
use Rattle.std.proofs.Math.Seq.{drop-cons}
use Rattle.std.proofs.lemmas.List.{drop_all, append_assoc, map-append, length-map}
use Rattle.cg_model.specs.declared.insn.Part.{Part}
use Rattle.cg_model.specs.declared.insn.Part.TheVariants.{Constant, Slot}
use Rattle.cg_model.specs.declared.insn.Values.{Values}
use Rattle.cg_model.specs.declared.operand.Operand.{Operand}
use Rattle.cg_model.specs.declared.machine.Machine.{Machine}
use Rattle.cg_model.specs.Matching.{last_end, fields_of_part, fields_of_parts}
use Rattle.cg_model.specs.Slots.{slots_of, source_value}
use Rattle.cg_code.specs.Coded.{Holds}
use Rattle.cg_code.proofs.Ends.{end_of_both}
use Rattle.cg_code.proofs.Matched.{ends_inside}

-- the number behind some others is set
set_behind : (vs : List ℕ) (k n : ℕ) → slice_set (vs ++ replicate (suc k) 0) (length vs) n ≡ (vs ++ n ∷ []) ++ replicate k 0
set_behind [] k n = refl
set_behind (v ∷ vs) k n = ap (λ xs. v ∷ xs) (set_behind vs k n)

length_more : (vs : List ℕ) (n : ℕ) → length (vs ++ n ∷ []) ≡ length vs + 1
length_more [] n = refl
length_more (v ∷ vs) n = omega (arith, length_more vs n)

pub more : (x y : Values) (n : ℕ) (vs : List ℕ) → x.count < 16 → y.count ≡ x.count + 1 → y.numbers ≡ slice_set x.numbers x.count n → Holds x vs → Holds y (vs ++ n ∷ [])
more x y n vs room count numbers h =
    let left : 16 - length vs ≡ suc (16 - length (vs ++ n ∷ [])) = omega (arith, length_more vs n, h.count, room) in
    record {
      count = omega (arith, count, h.count, length_more vs n);
      numbers = numbers ∙ ap (λ xs. slice_set xs x.count n) h.numbers ∙ ap (λ k. slice_set (vs ++ replicate (16 - length vs) 0) k n) h.count
          ∙ ap (λ k. slice_set (vs ++ replicate k 0) (length vs) n) left ∙ set_behind vs (16 - length (vs ++ n ∷ [])) n;
      few = omega (arith, h.count, room, length_more vs n);
    }

pub no_more : (x : Values) (vs : List ℕ) → Holds x vs → Holds x (vs ++ [])
no_more x vs h = subst (Holds x) (sym (append-nil vs)) h

-- the slots of a format, part by part
slot_more : (m : Machine) (ps : List Part) (o : Option Operand) → elim o as (λ _. List Operand) [ None ↦ slots_of m ps | Some x ↦ x ∷ slots_of m ps ] ≡ elim o as (λ _. List Operand) [ None ↦ [] | Some x ↦ x ∷ [] ] ++ slots_of m ps
slot_more m ps None = refl
slot_more m ps (Some x) = refl

pub slots_more : (m : Machine) (p : Part) (ps : List Part) → slots_of m (p ∷ ps) ≡ slots_of m (p ∷ []) ++ slots_of m ps
slots_more m (Constant k c) ps = refl
slots_more m (Slot o) ps = slot_more m ps (slice_get m.operands o)

pub record Filling (m : Machine) (bytes : List ℕ) (pc : ℕ) (all rest : List Part) (x : Values) : Type 0 where
  pub vs : List ℕ
  pub holds : Holds x vs
  pub whole : vs ++ map (source_value m bytes pc) (slots_of m rest) ≡ map (source_value m bytes pc) (slots_of m all)
  pub inside : last_end m (fields_of_parts m rest) ≤ 8 * length bytes
  pub room : length vs + length (slots_of m rest) ≤ 16

pub fill_start : (m : Machine) (bytes : List ℕ) (pc : ℕ) (all : List Part) (x : Values) → x.count ≡ 0 → x.numbers ≡ replicate 16 0 → last_end m (fields_of_parts m all) ≤ 8 * length bytes → length (slots_of m all) ≤ 16 → Filling m bytes pc all all x
fill_start m bytes pc all x none zeros inside room = record {
  vs = [];
  holds = record { count = none; numbers = zeros; few = omega arith };
  whole = refl;
  inside = inside;
  room = omega (arith, room);
}

pub fill_split : (m : Machine) (bytes : List ℕ) (pc : ℕ) (all ps : List Part) (i : ℕ) (x : Values) (d : Part) → i < length ps → Filling m bytes pc all (drop i ps) x → Filling m bytes pc all (get_or ps i d ∷ drop (i + 1) ps) x
fill_split m bytes pc all ps i x d within h =
    let next : suc i ≡ i + 1 = omega arith in
    let split : drop i ps ≡ get_or ps i d ∷ drop (i + 1) ps = drop-cons ps i d within ∙ ap (λ k. get_or ps i d ∷ drop k ps) next in
    subst (λ rest. Filling m bytes pc all rest x) split h

pub fill_inside : (m : Machine) (bytes : List ℕ) (pc : ℕ) (all rest : List Part) (p : Part) (x : Values) → Filling m bytes pc all (p ∷ rest) x → last_end m (fields_of_part m p) ≤ 8 * length bytes
fill_inside m bytes pc all rest p x h = omega (arith, end_of_both m (fields_of_part m p) (fields_of_parts m rest), h.inside)

pub fill_room : (m : Machine) (bytes : List ℕ) (pc : ℕ) (all rest : List Part) (p : Part) (x : Values) → Filling m bytes pc all (p ∷ rest) x → x.count + length (slots_of m (p ∷ [])) ≤ 16
fill_room m bytes pc all rest p x h = omega (arith, ap length (slots_more m p rest), length-append (slots_of m (p ∷ [])) (slots_of m rest), h.room, h.holds.count)

pub fill_more : (m : Machine) (bytes : List ℕ) (pc : ℕ) (all rest : List Part) (p : Part) (x y : Values) → Filling m bytes pc all (p ∷ rest) x
    → ((vs : List ℕ) → Holds x vs → Holds y (vs ++ map (source_value m bytes pc) (slots_of m (p ∷ [])))) → Filling m bytes pc all rest y
fill_more m bytes pc all rest p x y h step =
    let f = source_value m bytes pc in
    let own = slots_of m (p ∷ []) in
    record {
      vs = h.vs ++ map f own;
      holds = step h.vs h.holds;
      whole = append_assoc h.vs (map f own) (map f (slots_of m rest)) ∙ ap (λ xs. h.vs ++ xs) (sym (map-append f own (slots_of m rest))) ∙ ap (λ os. h.vs ++ map f os) (sym (slots_more m p rest)) ∙ h.whole;
      inside = omega (arith, end_of_both m (fields_of_part m p) (fields_of_parts m rest), h.inside);
      room = omega (arith, ap length (slots_more m p rest), length-append own (slots_of m rest), h.room, length-append h.vs (map f own), length-map own f);
    }

pub fill_all : (m : Machine) (bytes : List ℕ) (pc : ℕ) (all ps : List Part) (i : ℕ) (x : Values) → length ps ≤ i → Filling m bytes pc all (drop i ps) x → Holds x (map (source_value m bytes pc) (slots_of m all))
fill_all m bytes pc all ps i x past h =
    let last : Filling m bytes pc all [] x = subst (λ rest. Filling m bytes pc all rest x) (drop_all i ps past) h in
    subst (Holds x) (sym (append-nil last.vs) ∙ last.whole) last.holds

pub ruleset holding = (more, no_more)

pub ruleset filling = (fill_start, fill_all, ends_inside)
