use Rattle.std.proofs.Common.{◌+◌, ◌-◌, ◌++◌, sym, ap, ◌∙◌, refl, subst}
use Rattle.std.proofs.lemmas.List.{take_rest}
use Rattle.cg_model_source.specs.Listing.{line_at}
use Rattle.cg_tree.specs.Finding.{found}
use Rattle.cg_list.specs.Seen.{seen_line}
use Rattle.cg_list.proofs.Listed.{Listing, list_skip, list_line_past}
use Rattle.cg_list.proofs.listing.lines_from.Goals as goal
use Rattle.cg_list.proofs.listing.lines_from.Goals.{then-skipped-gt0, else-skipped-gt0+in_ok-line+in_ok-append}

pub loop-k-preserved : goal.loop-k-preserved
loop-k-preserved c =
    let m = c.args.machine.now in
    let f = found c.args.tree.now m in
    let image = c.args.image.now in
    let k = c.loop-k.k in
    let text = c.if-skipped-gt0.text in
    elim c.if-skipped-gt0.branch [
      | then-skipped-gt0 w ↦
          subst (λ s. Listing m f c.args.base image (k + 1) s text) (sym w.skipped-is)
          (subst (λ t. Listing m f c.args.base image (k + 1) (c.loop-k.skipped - 1) t) (sym w.text-is) (list_skip m f c.args.base image k c.loop-k.skipped c.loop-k.text c.loop-k-test.true w.if-skipped-gt0.true c.loop-k.invariant))
      | else-skipped-gt0+in_ok-line+in_ok-append w ↦
          (let line = seen_line w.in_ok-line.line in
          subst (λ s. Listing m f c.args.base image (k + 1) s text) (sym (w.skipped-is ∙ w.saturating_sub-skipped.ensures))
          (subst (λ t. Listing m f c.args.base image (k + 1) (line.size - 1) t) (sym (w.text-is ∙ w.in_ok-append.ensures.ok ∙ ap (λ t. c.loop-k.text ++ t) w.as_slice.ensures))
          (list_line_past m f c.args.base image k c.loop-k.skipped _ c.loop-k.text line c.loop-k-test.true w.if-skipped-gt0.false c.loop-k.invariant refl
          (λ a e. w.in_ok-line.ensures a e ∙ ap (line_at m f a) (take_rest image k)))))
    ]
