use Rattle.std.proofs.Common.{sym, ◌∙◌, arith}
use Rattle.cg_code.proofs.Ranged.{as_many_back, few_numbers, lost_answer, right_answer}
use Rattle.cg_code.proofs.encoding.encoded.Goals as goal

pub first_lost-lost-requires-clause-as_many : goal.first_lost-lost-requires-clause-as_many
first_lost-lost-requires-clause-as_many c = as_many_back c.args.machine.now c.args.insn.now c.args.numbers.now _ c.args.pc _ c.requires.values c.values_of-back.ensures

pub first_lost-lost-requires-clause-few : goal.first_lost-lost-requires-clause-few
first_lost-lost-requires-clause-few c = few_numbers _ _ _ c.requires.insn c.requires.values

pub returns-then-lost-numbers : goal.returns-then-lost-numbers
returns-then-lost-numbers c = lost_answer _ _ _ _ _ _ _ _ _
    (record { whole = c.in_place-bytes.ensures; long = c.insn_length-len.ensures.value; holds = c.values_of-back.ensures; operand = c.first_lost-lost.ensures.operand; value = c.first_lost-lost.ensures.value })
    c.if-lost-numbers.true

pub returns : goal.returns
returns c = right_answer _ _ _ _ _ _ _ _ _
    (record { whole = c.in_place-bytes.ensures; long = c.insn_length-len.ensures.value; holds = c.values_of-back.ensures; operand = c.first_lost-lost.ensures.operand; value = c.first_lost-lost.ensures.value })
    c.requires.values (omega (arith, c.if-lost-numbers.false)) (sym c.asserted.ensures ∙ c.if-not-asserted.false) (omega arith) c.front_alone.ensures
