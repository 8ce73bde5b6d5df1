use Rattle.std.specs.Prelude.{◌-◌, ◌≤◌, map, length, take, drop}
use Rattle.std.proofs.Common.{get_or, arith}
use Rattle.std.proofs.lemmas.Grind.{common_steps}
use Rattle.cg_base.specs.Texts.{seen_text}
use Rattle.cg_model_source.specs.Lining.{parted_at_bars}
use Rattle.cg_syntax_lines.proofs.Parted.{bars_last, bars_next, behind_two}
use Rattle.cg_syntax_lines.proofs.part.parted_at_bars.Goals as goal

pub returns-in_default : goal.returns-in_default
returns-in_default c =
    let few : length c.split_at.result.1.now ≤ 1 = omega arith in
    let e = bars_last c.len_up_to_bars.result (map seen_text c.parts.parts.items) (parted_at_bars c.args.text.now) c.parts.rest.now c.split_at.result.0.now c.split_at.result.1.now c.len_up_to_bars.ensures.count c.split_at.ensures.front c.split_at.ensures.back few c.parts.invariant in
    grind (arith, common_steps, e)

pub parts-preserved : goal.parts-preserved
parts-preserved c =
    let behind = c.split_at.result.1.now in
    let e = bars_next c.len_up_to_bars.result (get_or behind 0 0) (get_or behind 1 0) (map seen_text c.parts.parts.items) (parted_at_bars c.args.text.now) c.parts.rest.now c.split_at.result.0.now behind (take (length behind - 2) (drop 2 behind)) c.len_up_to_bars.ensures.count c.split_at.ensures.front c.split_at.ensures.back (behind_two behind c.in-len2-up.len_at_least) c.parts.invariant in
    grind (arith, common_steps, e)
