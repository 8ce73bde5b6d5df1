use Rattle.std.proofs.Common.{◌≡◌, ◌+◌, ◌-◌, ◌≤◌, length, sym, subst, arith}
use Rattle.cg_syntax_spelling.specs.Adding.{Adds, next_part}
use Rattle.cg_syntax_spelling.proofs.Adding.{Leaves, goes_on, stops, at_end, next_shorter, grows_high, grows_low}
use Rattle.cg_syntax_spelling.proofs.sum.sum_of.Goals as goal

-- no part of a sum: there is none
pub returns-then-not-branch : goal.returns-then-not-branch
returns-then-not-branch c =
    stops c.args.keywords.now c.parts.sum c.add_part.new.sum c.parts.minus c.parts.rest.now c.args.text.now c.split_at.result.0.now c.part_len.result c.part_len.ensures.count c.split_at.ensures.front c.parts.invariant.leaves
    (subst (λ is. Adds c.args.keywords.now c.parts.sum (record { minus = c.parts.minus; text = c.split_at.result.0.now }) is c.add_part.new.sum) c.if-not-branch.true c.in_ok-add_part.ensures.adds)

-- one part more
pub parts-preserved : goal.parts-preserved
parts-preserved c =
    let leaves : Leaves c.args.keywords.now c.add_part.new.sum (next_part c.split_at.result.1.now) c.args.text.now =
    goes_on c.args.keywords.now c.parts.sum c.add_part.new.sum c.parts.minus c.parts.rest.now c.args.text.now c.split_at.result.0.now c.split_at.result.1.now c.part_len.result c.part_len.ensures.count c.split_at.ensures.front c.split_at.ensures.back c.parts.invariant.leaves
    (subst (λ is. Adds c.args.keywords.now c.parts.sum (record { minus = c.parts.minus; text = c.split_at.result.0.now }) is c.add_part.new.sum) c.if-not-branch.false c.in_ok-add_part.ensures.adds) in
    let shorter : length c.split_at.result.1.now ≡ length c.in-Some.after.now + 1 = next_shorter c.split_at.result.1.now c.in-Some.sign c.in-Some.after.now c.in-Some.ensures in
    let long : length c.split_at.result.1.now + c.part_len.result ≡ length c.parts.rest.now = c.split_at.ensures.back_len in
    let more : (length c.args.text.now - length c.parts.rest.now) + 1 ≤ length c.args.text.now - length c.in-Some.after.now = omega (arith, shorter, long, c.parts.invariant.within) in
    record {
      leaves = subst (λ x. Leaves c.args.keywords.now c.add_part.new.sum x c.args.text.now) (sym c.in-Some.ensures) leaves;
      within = omega (arith, shorter, long, c.parts.invariant.within);
      high = grows_high c.add_part.new.sum.number c.parts.sum.number _ _ c.add_part.ensures.high c.parts.invariant.high more;
      low = grows_low c.add_part.new.sum.number c.parts.sum.number _ _ c.add_part.ensures.low c.parts.invariant.low more;
    }

-- all parts
pub returns-in-None : goal.returns-in-None
returns-in-None c =
    at_end c.args.keywords.now c.add_part.new.sum c.args.text.now
    (subst (λ x. Leaves c.args.keywords.now c.add_part.new.sum x c.args.text.now) (sym c.in-None.ensures)
    (goes_on c.args.keywords.now c.parts.sum c.add_part.new.sum c.parts.minus c.parts.rest.now c.args.text.now c.split_at.result.0.now c.split_at.result.1.now c.part_len.result c.part_len.ensures.count c.split_at.ensures.front c.split_at.ensures.back c.parts.invariant.leaves
    (subst (λ is. Adds c.args.keywords.now c.parts.sum (record { minus = c.parts.minus; text = c.split_at.result.0.now }) is c.add_part.new.sum) c.if-not-branch.false c.in_ok-add_part.ensures.adds)))
