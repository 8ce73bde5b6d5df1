-- How many parts there is room for.
use Rattle.std.proofs.Common.{◌≡◌, ℕ, ◌+◌, ◌*◌, ◌/◌, ◌^◌, ◌<◌, ◌≤◌, ap, arith}
use Rattle.std.proofs.lemmas.Grind.{common_steps}
use Rattle.std.proofs.lemmas.Nat.{pow-add, pow_pos, mul-add-lt}
use Rattle.std.proofs.Math.Nat.{div-mul-le_self, mul_comm, mul-add, mul-le-mul_left}
use Rattle.cg_base.specs.declared.Mode.{Mode}
use Rattle.cg_base.specs.Modes.{bits_of}
use Rattle.cg_model_pure_eval.specs.Joining.{behind}
use Rattle.cg_model_pure_eval.proofs.Bounds.{wider_fits}

-- So many parts fit behind one another.
pub room_next : (part : Mode) (i n v : ℕ) → n < 2 ^ (bits_of part * i) → v < 2 ^ bits_of part → behind part n v < 2 ^ (bits_of part * (i + 1))
unfolding behind
room_next part i n v few fits =
    let more : bits_of part * (i + 1) ≡ bits_of part + bits_of part * i = omega (arith, mul-add (bits_of part) i 1) in
    rw more (rw (pow-add 2 (bits_of part) (bits_of part * i)) (mul-add-lt n (2 ^ bits_of part) v (2 ^ (bits_of part * i)) few fits))

-- They do in a value that they fill.
pub room_for : (to part : Mode) (i count n v : ℕ) → n < 2 ^ (bits_of part * i) → v < 2 ^ bits_of part → i < count → bits_of part * count ≤ bits_of to → behind part n v < 2 ^ bits_of to
room_for to part i count n v few fits within room =
    let next : i + 1 ≤ count = omega arith in
    let less : bits_of part * (i + 1) ≤ bits_of to = omega (arith, room, mul-le-mul_left (bits_of part) next) in
    wider_fits (bits_of part * (i + 1)) (bits_of to) (behind part n v) less (room_next part i n v few fits)

pub room_whole : (to part : Mode) (i count n : ℕ) → n < 2 ^ (bits_of part * i) → i ≤ count → bits_of part * count ≤ bits_of to → n < 2 ^ bits_of to
room_whole to part i count n few within room =
    let less : bits_of part * i ≤ bits_of to = omega (arith, room, mul-le-mul_left (bits_of part) within) in
    wider_fits (bits_of part * i) (bits_of to) n less few

pub room_start : (bits : ℕ) → 0 < 2 ^ bits
room_start bits = pow_pos bits

-- So many parts fill a value.
pub parts_fill : (to part n : ℕ) → to / part ≡ n → part * n ≤ to
parts_fill to part n e = omega (arith, e, div-mul-le_self to part, mul_comm part n, ap (λ k. k * part) e)

pub ruleset room_rules = (common_steps, room_next, room_for, room_whole, room_start)
