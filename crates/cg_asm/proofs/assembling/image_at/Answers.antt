use Rattle.std.specs.Prelude.{map, [], Ok, Err}
use Rattle.std.proofs.Common.{◌≡◌, refl, sym, ap, ◌∙◌, subst}
use Rattle.cg_asm.proofs.ImageLemmas.{lines_stand, all_within}
use Rattle.cg_asm.proofs.assembling.image_at.Goals as goal
use Rattle.cg_base.specs.Answering.{Answered}
use Rattle.cg_base.specs.Texts.{seen_text}
use Rattle.cg_asm_labels.specs.Joining.{AllWithin, lines_put}

pub lines_put-requires-clause-within : goal.lines_put-requires-clause-within
lines_put-requires-clause-within c =
    let m = c.args.machine.now in
    subst (AllWithin m) (sym c.as_slice-2.ensures) (all_within m c.args.base (map seen_text c.as_slice.result.now) c.in_ok-layout.layout c.requires.given c.in_ok-layout.ensures)

pub returns : goal.returns
returns c =
    let m = c.args.machine.now in
    let l = c.in_ok-layout.layout in
    let texts = map seen_text c.as_slice.result.now in
    let said = ap (map seen_text) c.as_slice.ensures.value ∙ c.in_ok-texts.ensures in
    let stands = lines_stand m c.args.base c.args.source.now texts l (lines_put m l.labels l.lines []) c.requires.sound c.requires.given (sym c.in_default.is ∙ c.in_ok-refusal.ensures) said c.in_ok-layout.ensures refl in
    let whole = stands ∙ ap (λ xs. lines_put m l.labels xs []) (sym c.as_slice-2.ensures) in
    subst (λ r. Answered (λ bytes. r ≡ Ok bytes.items) (λ refusal. r ≡ Err refusal) c.lines_put.result) (sym whole) c.lines_put.ensures
