use Rattle.std.specs.Prelude.{◌-◌, ◌≤◌, map, length, take, drop}
use Rattle.std.proofs.Common.{get_or, arith}
use Rattle.std.proofs.lemmas.Grind.{common_steps}
use Rattle.cg_base.specs.Texts.{seen_text}
use Rattle.cg_model_source.specs.Lining.{parted_at}
use Rattle.cg_syntax_lines.proofs.Parted.{part_last, part_next, behind_first}
use Rattle.cg_syntax_lines.proofs.part.parted_at.Goals as goal

pub returns-in_default : goal.returns-in_default
returns-in_default c =
    let few : length c.split_at.result.1.now ≤ 0 = omega arith in
    let e = part_last c.args.byte c.len_up_to.result (map seen_text c.parts.parts.items) (parted_at c.args.byte c.args.text.now) c.parts.rest.now c.split_at.result.0.now c.split_at.result.1.now c.len_up_to.ensures.count c.split_at.ensures.front c.split_at.ensures.back few c.parts.invariant in
    grind (arith, common_steps, e)

pub parts-preserved : goal.parts-preserved
parts-preserved c =
    let behind = c.split_at.result.1.now in
    let e = part_next c.args.byte c.len_up_to.result (get_or behind 0 0) (map seen_text c.parts.parts.items) (parted_at c.args.byte c.args.text.now) c.parts.rest.now c.split_at.result.0.now behind (take (length behind - 1) (drop 1 behind)) c.len_up_to.ensures.count c.split_at.ensures.front c.split_at.ensures.back (behind_first behind c.in-len1-up.len_at_least) c.parts.invariant in
    grind (arith, common_steps, e)
