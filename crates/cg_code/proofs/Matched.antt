-- Whether an instruction matches.
use Rattle.std.proofs.Common.{◌≡◌, ℕ, ◌*◌, ◌<◌, ◌≤◌, Bool, true, false, ◌&&◌, nat_le, List, length, get_or, Some, None, slice_get, sym, ap, ◌∙◌, refl, arith}
use Rattle.std.specs.List.{list_all}
use Rattle.cg_code.specs.Coded.{matches_at}
use Rattle.cg_model.specs.Clashing.{length_at}
use Rattle.std.proofs.lemmas.Bool.Decides.{nat_tests}
use Rattle.cg_model.specs.declared.insn.Insn.{Insn}
use Rattle.cg_model.specs.declared.machine.Machine.{Machine}
use Rattle.cg_model.specs.Matching.{length_of, part_stands, asserts, matches, last_end, fields_of_parts}
use Rattle.cg_model.specs.Sound.{IsSound, SoundInsn}
use Rattle.std.proofs.lemmas.Option.{slice_get-get_or}
use Rattle.cg_code.proofs.Soundness.{placed}
use Rattle.cg_code_mask.proofs.Within.{last_within}

pub too_short : (m : Machine) (i : Insn) (bytes : List ℕ) → length bytes < length_of m i → false ≡ matches m i bytes
too_short m i bytes h = let short : nat_le (length_of m i) (length bytes) ≡ false = grind (arith, nat_tests) in sym (rw short refl)

pub long_enough : (m : Machine) (i : Insn) (bytes : List ℕ) (a b : Bool) → length_of m i ≤ length bytes → a ≡ list_all (part_stands m bytes) i.parts → b ≡ asserts m i bytes → (a && b) ≡ matches m i bytes
long_enough m i bytes a b h e f = let long : nat_le (length_of m i) (length bytes) ≡ true = grind (arith, nat_tests) in sym (rw (long, sym e, sym f) refl)

pub ends_inside : (m : Machine) (i : Insn) (n : ℕ) → IsSound m → length_of m i ≤ n → last_end m (fields_of_parts m i.parts) ≤ 8 * n
ends_inside m i n sound h = omega (arith, last_within m i (placed m sound), h)

pub sound_insn : (m : Machine) (k : ℕ) (d : Insn) → IsSound m → k < length m.insns → SoundInsn m (get_or m.insns k d)
sound_insn m k d sound h = sound.insns k (get_or m.insns k d) (slice_get-get_or m.insns k d h)

pub length_is : (m : Machine) (k : ℕ) (i : Insn) (n : ℕ) → slice_get m.insns k ≡ Some i → n ≡ length_of m i → n ≡ length_at m k
length_is m k i n is long = long ∙ sym (ap (λ o. elim o as (λ _. ℕ) [ None ↦ 0 | Some x ↦ length_of m x ]) is)

pub matches_is : (m : Machine) (k : ℕ) (i : Insn) (bytes : List ℕ) (r : Bool) → slice_get m.insns k ≡ Some i → r ≡ matches m i bytes → r ≡ matches_at m k bytes
matches_is m k i bytes r is same = same ∙ sym (ap (λ o. elim o as (λ _. Bool) [ None ↦ false | Some x ↦ matches m x bytes ]) is)

pub ruleset numbered = (length_is, matches_is)

pub ruleset matching = (too_short, long_enough, ends_inside, sound_insn)

pub insn_of : (m : Machine) (k : ℕ) (d : Insn) → k < length m.insns → slice_get m.insns k ≡ Some (get_or m.insns k d)
insn_of m k d h = slice_get-get_or m.insns k d h

pub ruleset instructions = (sound_insn, insn_of)
