-- How the table of patterns is filled.
use Rattle.std.proofs.Common.{◌≡◌, ℕ, ◌<◌, ◌≤◌, ◌^◌, max, Bool, List, length, take, slice_index, map, Some, slice_get, sym, ap, ◌∙◌, subst, arith}
use Rattle.cg_model.specs.declared.insn.Insn.{Insn}
use Rattle.cg_model.specs.declared.machine.Machine.{Machine}
use Rattle.cg_model.specs.Matching.{asserts, length_of}
use Rattle.cg_code_mask.specs.View.{bytes_of_whole}
use Rattle.cg_code_mask.proofs.Wholes.{length_whole}
use Rattle.cg_model.specs.Covers.{AreInWords}
use Rattle.cg_ambig.specs.Patterns.{pattern, HasPatterns, asserted_of, asserted}
use Rattle.cg_ambig.proofs.Sounding.{has_patterns}
use Rattle.cg_model.specs.Sound.{IsSound, SoundInsn}
use Rattle.cg_ambig_pattern.specs.First.{IsFirst}
use Rattle.cg_model.specs.Clashing.{length_at, longer, NoClash as NoClashing, FirstClash as IsFirstClash, FirstClashIn as IsClashIn}
use Rattle.cg_ambig_pattern.specs.First.{NoClash, AreSound}
use Rattle.cg_ambig_pattern.specs.declared.pairs.Pattern.{Pattern}
use Rattle.cg_ambig.proofs.Bridge.{patterns_sound, first_on_bytes, zeros_after, none_on_bytes}

pub placed_machine : (m : Machine) → HasPatterns m → AreInWords m
placed_machine m sound = sound.placed

pub meets_at : (m : Machine) (k : ℕ) (i : Insn) (w : ℕ) (bytes : List ℕ) (r : Bool) → slice_get m.insns k ≡ Some i → bytes ≡ bytes_of_whole w → r ≡ asserts m i bytes → r ≡ asserted m k w
meets_at m k i w bytes r is same gives = gives ∙ ap (asserts m i) same ∙ ap (λ o. asserted_of m o (bytes_of_whole w)) (sym is)

pub clash_on_bytes : (m : Machine) (i j w len a b : ℕ) (bytes : List ℕ) → IsSound m → w < 2 ^ 128 → IsFirst (map (pattern m) m.insns) (asserted m) i j w
    → a ≡ length_at m i → b ≡ length_at m j → len ≡ max a b → bytes ≡ bytes_of_whole w → IsClashIn m i j len bytes
clash_on_bytes m i j w len a b bytes sound fits found first second longest same =
    let long : len ≡ longer m i j = longest ∙ ap (λ x. max x b) first ∙ ap (max (length_at m i)) second in
    record {
      first = subst (IsFirstClash m i j) (sym (ap (λ n. take n bytes) long ∙ ap (take (longer m i j)) same)) (first_on_bytes m i j w (has_patterns m sound) fits found);
      behind = λ k ge lt. ap (λ bs. slice_index bs k) same ∙ zeros_after m i j w k (has_patterns m sound) fits found (omega arith) lt;
    }

-- each instruction of a sound machine has 16 bytes at most
pub within_whole : (m : Machine) (i : Insn) (w : ℕ) (bytes : List ℕ) → SoundInsn m i → bytes ≡ bytes_of_whole w → length_of m i ≤ length bytes
within_whole m i w bytes sound same = omega (arith, sound.short, ap length same, length_whole w)

pub ruleset filling = (placed_machine)

pub table_sound : (m : Machine) (ps : List Pattern) (n : ℕ) → IsSound m → n ≡ length m.insns → take (length m.insns) ps ≡ map (pattern m) m.insns → AreSound (take n ps) (asserted m)
table_sound m ps n sound many filled = subst (λ qs. AreSound qs (asserted m)) (sym (ap (λ k. take k ps) many ∙ filled)) (patterns_sound m (has_patterns m sound))

pub none_of_all : (m : Machine) → IsSound m → NoClash (map (pattern m) m.insns) (asserted m) → NoClashing m
none_of_all m sound none = none_on_bytes m (has_patterns m sound) none

pub ruleset answering = (none_of_all)
