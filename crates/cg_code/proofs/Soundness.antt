-- What is looked up in a sound machine is sound.
use Rattle.std.proofs.Common.{◌≡◌, ℕ, ◌+◌, ◌≤◌, true, false, if◌then◌else◌, List, sym, ap, ◌∙◌, arith}
use Rattle.std.proofs.lemmas.Bool.Decides.{nat_tests}
use Rattle.cg_model.specs.declared.field.Field.{Field}
use Rattle.cg_model.specs.Encoding.{with_word, with_bits}
use Rattle.cg_model.specs.declared.machine.Machine.{Machine}
use Rattle.cg_model.specs.Covers.{AreInWords, is_near}
use Rattle.cg_model.specs.Sound.{IsSound}

pub placed : (m : Machine) → IsSound m → AreInWords m
placed m sound = record { each = λ k f is. (sound.fields k f is).placed }

-- a field within the 16 bytes is set, and one past them isn't
pub near_ends : (f : Field) → is_near f ≡ true → f.word_offset + f.word_bits ≤ 128
near_ends f near = grind (arith, nat_tests)

pub near_is_set : (m : Machine) (f : Field) (n : ℕ) (old new : List ℕ) → is_near f ≡ true → new ≡ with_word m f n old → new ≡ with_bits m f n old
near_is_set m f n old new near set = set ∙ sym (ap (λ b. if b then with_word m f n old else old) near)

pub far_is_not : (m : Machine) (f : Field) (n : ℕ) (old : List ℕ) → is_near f ≡ false → old ≡ with_bits m f n old
far_is_not m f n old far = sym (ap (λ b. if b then with_word m f n old else old) far)

pub ruleset found = (placed)

pub ruleset setting = (near_ends, near_is_set, far_is_not)
