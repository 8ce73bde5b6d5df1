-- Where the words of fields end.
use Rattle.std.proofs.Common.{◌≡◌, ℕ, suc, ◌+◌, ◌*◌, ◌/◌, ◌<◌, ◌≤◌, max, true, false, ◌&&◌, List, [], ◌∷◌, ◌++◌, length, drop, get_or, slice_get, sym, ap, ◌∙◌, subst, arith}
use Rattle.std.specs.List.{list_all}
use Rattle.std.proofs.Math.Seq.{drop-cons}
use Rattle.std.proofs.lemmas.List.{drop_all}
use Rattle.cg_model.specs.declared.field.Field.{Field}
use Rattle.cg_model.specs.declared.insn.Part.{Part}
use Rattle.cg_model.specs.declared.machine.Machine.{Machine}
use Rattle.cg_model.specs.Covers.{IsInWord}
use Rattle.cg_model.specs.Matching.{fields_of_part, fields_of_parts, end_of, last_end, part_stands}

-- the end of two rows of fields
pub end_of_both : (m : Machine) (ks ls : List ℕ) → last_end m (ks ++ ls) ≡ max (last_end m ks) (last_end m ls)
end_of_both m [] ls = omega arith
end_of_both m (k ∷ ks) ls = omega (arith, end_of_both m ks ls)

-- the end so far, with what is left, is the end of all
pub record Ended (m : Machine) (all rest : List ℕ) (end : ℕ) : Type 0 where
  pub last : max end (last_end m rest) ≡ last_end m all
  pub few : end ≤ 131072

pub ended_more : (m : Machine) (all ks : List ℕ) (i end own : ℕ) (d : ℕ) → i < length ks → Ended m all (drop i ks) end → own ≡ end_of (slice_get m.fields (get_or ks i d)) → own ≤ 131072 → Ended m all (drop (i + 1) ks) (max own end)
ended_more m all ks i end own d within so_far is few =
    let next : suc i ≡ i + 1 = omega arith in
    let split : drop i ks ≡ get_or ks i d ∷ drop (i + 1) ks = drop-cons ks i d within ∙ ap (λ k. get_or ks i d ∷ drop k ks) next in
    let step : Ended m all (get_or ks i d ∷ drop (i + 1) ks) end = subst (λ rest. Ended m all rest end) split so_far in
    record { last = omega (arith, is, step.last); few = omega (arith, few, step.few) }

pub ended_all : (m : Machine) (all ks : List ℕ) (i end : ℕ) → length ks ≤ i → Ended m all (drop i ks) end → end ≡ last_end m all
ended_all m all ks i end past so_far =
    let last : Ended m all [] end = subst (λ rest. Ended m all rest end) (drop_all i ks past) so_far in
    omega (arith, last.last)

pub record PartsEnded (m : Machine) (all rest : List Part) (end : ℕ) : Type 0 where
  pub last : max end (last_end m (fields_of_parts m rest)) ≡ last_end m (fields_of_parts m all)
  pub few : end ≤ 131072

pub parts_more : (m : Machine) (all ps : List Part) (i end own : ℕ) (d : Part) → i < length ps → PartsEnded m all (drop i ps) end → own ≡ last_end m (fields_of_part m (get_or ps i d)) → own ≤ 131072 → PartsEnded m all (drop (i + 1) ps) (max own end)
parts_more m all ps i end own d within so_far is few =
    let next : suc i ≡ i + 1 = omega arith in
    let split : drop i ps ≡ get_or ps i d ∷ drop (i + 1) ps = drop-cons ps i d within ∙ ap (λ k. get_or ps i d ∷ drop k ps) next in
    let step : PartsEnded m all (get_or ps i d ∷ drop (i + 1) ps) end = subst (λ rest. PartsEnded m all rest end) split so_far in
    record { last = omega (arith, is, end_of_both m (fields_of_part m (get_or ps i d)) (fields_of_parts m (drop (i + 1) ps)), step.last); few = omega (arith, few, step.few) }

pub parts_all : (m : Machine) (all ps : List Part) (i end : ℕ) → length ps ≤ i → PartsEnded m all (drop i ps) end → end ≡ last_end m (fields_of_parts m all)
parts_all m all ps i end past so_far =
    let last : PartsEnded m all [] end = subst (λ rest. PartsEnded m all rest end) (drop_all i ps past) so_far in
    omega (arith, last.last)

-- the word of a field that ends within some bytes
pub word_inside : (f : Field) (n : ℕ) → IsInWord f → f.word_offset + f.word_bits ≤ 8 * n → f.word_offset / 8 + f.word_bits / 8 ≤ n
word_inside f n at h = omega (arith, at.offset, at.bytes, h)

-- the constants that are left, and what is known of the bytes
pub record Standing (m : Machine) (bytes : List ℕ) (all rest : List Part) : Type 0 where
  pub same : list_all (part_stands m bytes) rest ≡ list_all (part_stands m bytes) all
  pub inside : last_end m (fields_of_parts m rest) ≤ 8 * length bytes

pub standing_split : (m : Machine) (bytes : List ℕ) (all ps : List Part) (i : ℕ) (d : Part) → i < length ps → Standing m bytes all (drop i ps) → Standing m bytes all (get_or ps i d ∷ drop (i + 1) ps)
standing_split m bytes all ps i d within so_far =
    let next : suc i ≡ i + 1 = omega arith in
    let split : drop i ps ≡ get_or ps i d ∷ drop (i + 1) ps = drop-cons ps i d within ∙ ap (λ k. get_or ps i d ∷ drop k ps) next in
    subst (Standing m bytes all) split so_far

pub stand_inside : (m : Machine) (bytes : List ℕ) (all rest : List Part) (p : Part) → Standing m bytes all (p ∷ rest) → last_end m (fields_of_part m p) ≤ 8 * length bytes
stand_inside m bytes all rest p x = omega (arith, end_of_both m (fields_of_part m p) (fields_of_parts m rest), x.inside)

pub stand_more : (m : Machine) (bytes : List ℕ) (all rest : List Part) (p : Part) → part_stands m bytes p ≡ true → Standing m bytes all (p ∷ rest) → Standing m bytes all rest
stand_more m bytes all rest p stands x = record {
  same = ap (λ b. b && list_all (part_stands m bytes) rest) (sym stands) ∙ x.same;
  inside = omega (arith, end_of_both m (fields_of_part m p) (fields_of_parts m rest), x.inside);
}

pub stand_not : (m : Machine) (bytes : List ℕ) (all rest : List Part) (p : Part) → part_stands m bytes p ≡ false → Standing m bytes all (p ∷ rest) → false ≡ list_all (part_stands m bytes) all
stand_not m bytes all rest p stands x = ap (λ b. b && list_all (part_stands m bytes) rest) (sym stands) ∙ x.same

pub stand_all : (m : Machine) (bytes : List ℕ) (all ps : List Part) (i : ℕ) → length ps ≤ i → Standing m bytes all (drop i ps) → true ≡ list_all (part_stands m bytes) all
stand_all m bytes all ps i past so_far =
    let last : Standing m bytes all [] = subst (Standing m bytes all) (drop_all i ps past) so_far in
    last.same

pub ruleset ends = (ended_more, ended_all, parts_more, parts_all)

pub ruleset inside = (word_inside, stand_all)
