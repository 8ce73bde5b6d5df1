-- The values of slots for their numbers.
use Rattle.std.specs.Prelude.{ℕ, suc, ◌+◌, ◌-◌, ◌*◌, ◌^◌, ◌<◌, ◌≤◌, List, [], ◌∷◌, length, drop, ℤ, pos, negsuc, Option, Some, None, slice_get}
use Rattle.std.proofs.Common.{◌≡◌, ap, ◌∙◌, get_or, arith}
use Rattle.std.proofs.Math.Seq.{drop-cons}
use Rattle.std.proofs.Math.Nat.{mul-le-mul_left}
use Rattle.std.proofs.lemmas.Nat.{pow_pos, pow-add, mod_below}
use Rattle.cg_base.specs.declared.mode.Mode.{Mode}
use Rattle.cg_base.specs.Modes.{bits_of}
use Rattle.cg_base.specs.Operations.{wrapped}
use Rattle.cg_model_source.specs.Choosing.{value_for, values_for}
use Rattle.cg_model.specs.Encoding.{AreFor}
use Rattle.cg_model.specs.Slots.{slot_mode}
use Rattle.cg_model.specs.Sound.{IsSound, SoundOperand}
use Rattle.cg_model.specs.declared.machine.Machine.{Machine}
use Rattle.cg_model.specs.declared.operand.Operand.{Operand}
use Rattle.cg_syntax_fit.specs.Slots.{operands_of}
use Rattle.cg_base.proofs.Widths.{some_bits}
use Rattle.cg_syntax_fit.proofs.Slots.{first_there}

pub few_bits : (k : Mode) → bits_of k ≤ 64
few_bits k = grind arith

pub ruleset bits = (few_bits, some_bits)

pub wrapped_small : (bits : ℕ) (z : ℤ) → wrapped bits z < 2 ^ bits
wrapped_small bits (pos a) = mod_below a (2 ^ bits) (pow_pos bits)
wrapped_small bits (negsuc a) = omega (arith, pow_pos bits)

value_small : (m : Machine) (o : Operand) (n : Option ℤ) → value_for m o n < 2 ^ bits_of (slot_mode m o)
value_small m o None = pow_pos (bits_of (slot_mode m o))
value_small m o (Some z) = wrapped_small (bits_of (slot_mode m o)) z

-- Values for just as many numbers as there are slots.
pub are_for : (m : Machine) (os : List Operand) (ns : List (Option ℤ)) → length ns ≡ length os → AreFor m os (values_for m os ns)
are_for m [] ns same = tt
are_for m (o ∷ os) [] same = absurd (omega (arith, same))
are_for m (o ∷ os) (n ∷ ns) same = (value_small m o n, are_for m os ns (omega (arith, same)))

-- From a place on, one more.
pub drop_next : {A : Type 0} (xs : List A) (k : ℕ) (d : A) → k < length xs → drop k xs ≡ get_or xs k d ∷ drop (k + 1) xs
drop_next xs k d within =
    let next : suc k ≡ k + 1 = omega arith in
    drop-cons xs k d within ∙ ap (λ n. get_or xs k d ∷ drop n xs) next

pub value_step : (m : Machine) (ks : List ℕ) (ns : List (Option ℤ)) (k : ℕ) (d : Option ℤ) (o : Operand) → length ns ≡ length ks → k < length ks → slice_get m.operands (get_or ks k 0) ≡ Some o →
    values_for m (operands_of m (drop k ks)) (drop k ns) ≡ value_for m o (get_or ns k d) ∷ values_for m (operands_of m (drop (k + 1) ks)) (drop (k + 1) ns)
value_step m ks ns k d o same within at =
    ap (λ xs. values_for m (operands_of m xs) (drop k ns)) (drop_next ks k 0 within)
    ∙ ap (λ os. values_for m os (drop k ns)) (first_there m (get_or ks k 0) (drop (k + 1) ks) o at)
    ∙ ap (values_for m (o ∷ operands_of m (drop (k + 1) ks))) (drop_next ns k d (omega (arith, same, within)))

pub value_there : (m : Machine) (k : ℕ) (o : Operand) → IsSound m → slice_get m.operands k ≡ Some o → SoundOperand m o
value_there m k o sound at = sound.operands k o at

pub ruleset valuing = (value_step)

pub ruleset wrapping = (wrapped_small)

pub power_few : (e : ℕ) → e ≤ 64 → 2 ^ e ≤ 2 ^ 64
power_few e few =
    let split : 64 ≡ e + (64 - e) = omega (arith, few) in
    let whole : 2 ^ 64 ≡ 2 ^ e * 2 ^ (64 - e) = ap (λ n. 2 ^ n) split ∙ pow-add 2 e (64 - e) in
    let less : 2 ^ e * 1 ≤ 2 ^ e * 2 ^ (64 - e) = mul-le-mul_left (2 ^ e) (omega (arith, pow_pos (64 - e))) in
    omega (arith, whole, less)
