use Rattle.std.proofs.Common.{◌⊎◌, inl, inr, subst, ◌∙◌}
use Rattle.cg_base.specs.Counts.{Rose}
use Rattle.cg_top.specs.Top.{held_and_wrote, IsCarriedOut}
use Rattle.cg_top.proofs.CarryLemmas.{left_files, is_headline, is_answered, has_cause, is_unread}
use Rattle.cg_top.proofs.OwnLemmas.{rose_later, rose_before}
use Rattle.cg_top.proofs.top.cgen.Goals as goal

pub returns-clause-headline : goal.returns-clause-headline
returns-clause-headline g c no_file no_put some =
    let given = c.in-Ok.ensures.answer in
    let words = c.args.words.now in
    let held = g.F.Files.held c.args.files.now in
    let kept = g.F.Files.held c.carry_out.new.files in
    let reply = c.in-Ok.reply in
    let carried =
    subst (λ h. IsCarriedOut reply c.carry_out.result (held_and_wrote h (g.K.Sink.wrote c.args.out.now)) (held_and_wrote kept (g.K.Sink.wrote c.carry_out.new.out)) (Rose (g.K.Sink.faults c.args.out.now) (g.K.Sink.faults c.carry_out.new.out)) (Rose (g.F.Files.faults c.answer.new.files) (g.F.Files.faults c.carry_out.new.files)))
    c.in-Ok.ensures.held c.carry_out.ensures.done in
    let asks = c.carry_out.ensures.asked ∙ given.asked in
    is_headline (Rose (g.F.Files.faults c.args.files.now) (g.F.Files.faults c.answer.new.files)) words held given.reads reply given.answer carried asks
    (λ r. no_file (rose_later (g.F.Files.faults c.args.files.now) (g.F.Files.faults c.answer.new.files) (g.F.Files.faults c.carry_out.new.files) r c.carry_out.ensures.files_later)) no_put
    (λ r. no_file (rose_before (g.F.Files.faults c.args.files.now) (g.F.Files.faults c.answer.new.files) (g.F.Files.faults c.carry_out.new.files) c.in-Ok.ensures.later r)) some

pub returns-clause-answered : goal.returns-clause-answered
returns-clause-answered g c not_three some =
    let given = c.in-Ok.ensures.answer in
    let words = c.args.words.now in
    let held = g.F.Files.held c.args.files.now in
    let kept = g.F.Files.held c.carry_out.new.files in
    let reply = c.in-Ok.reply in
    let carried =
    subst (λ h. IsCarriedOut reply c.carry_out.result (held_and_wrote h (g.K.Sink.wrote c.args.out.now)) (held_and_wrote kept (g.K.Sink.wrote c.carry_out.new.out)) (Rose (g.K.Sink.faults c.args.out.now) (g.K.Sink.faults c.carry_out.new.out)) (Rose (g.F.Files.faults c.answer.new.files) (g.F.Files.faults c.carry_out.new.files)))
    c.in-Ok.ensures.held c.carry_out.ensures.done in
    let asks = c.carry_out.ensures.asked ∙ given.asked in
    is_answered (Rose (g.F.Files.faults c.args.files.now) (g.F.Files.faults c.answer.new.files)) words held given.reads reply given.answer carried asks not_three some

pub returns-clause-cause : goal.returns-clause-cause
returns-clause-cause g c three =
    let given = c.in-Ok.ensures.answer in
    let words = c.args.words.now in
    let held = g.F.Files.held c.args.files.now in
    let kept = g.F.Files.held c.carry_out.new.files in
    let reply = c.in-Ok.reply in
    let carried =
    subst (λ h. IsCarriedOut reply c.carry_out.result (held_and_wrote h (g.K.Sink.wrote c.args.out.now)) (held_and_wrote kept (g.K.Sink.wrote c.carry_out.new.out)) (Rose (g.K.Sink.faults c.args.out.now) (g.K.Sink.faults c.carry_out.new.out)) (Rose (g.F.Files.faults c.answer.new.files) (g.F.Files.faults c.carry_out.new.files)))
    c.in-Ok.ensures.held c.carry_out.ensures.done in
    let asks = c.carry_out.ensures.asked ∙ given.asked in
    at (has_cause (Rose (g.F.Files.faults c.args.files.now) (g.F.Files.faults c.answer.new.files)) words held given.reads reply given.answer carried three) (λ r. rose_later (g.F.Files.faults c.args.files.now) (g.F.Files.faults c.answer.new.files) (g.F.Files.faults c.carry_out.new.files) r c.carry_out.ensures.files_later)
    (λ r. rose_before (g.F.Files.faults c.args.files.now) (g.F.Files.faults c.answer.new.files) (g.F.Files.faults c.carry_out.new.files) c.in-Ok.ensures.later r)
  where
    at : {U A B C D : Type 0} → U ⊎ (A ⊎ (B ⊎ C)) → (A → D) → (C → D) → U ⊎ (D ⊎ B)
    at (inl u) f h = inl u
    at (inr (inl a)) f h = inr (inl (f a))
    at (inr (inr (inl b))) f h = inr (inr b)
    at (inr (inr (inr x))) f h = inr (inl (h x))

pub returns-clause-unread : goal.returns-clause-unread
returns-clause-unread g c u no_file no_put some =
    let given = c.in-Ok.ensures.answer in
    let words = c.args.words.now in
    let held = g.F.Files.held c.args.files.now in
    let kept = g.F.Files.held c.carry_out.new.files in
    let reply = c.in-Ok.reply in
    let carried =
    subst (λ h. IsCarriedOut reply c.carry_out.result (held_and_wrote h (g.K.Sink.wrote c.args.out.now)) (held_and_wrote kept (g.K.Sink.wrote c.carry_out.new.out)) (Rose (g.K.Sink.faults c.args.out.now) (g.K.Sink.faults c.carry_out.new.out)) (Rose (g.F.Files.faults c.answer.new.files) (g.F.Files.faults c.carry_out.new.files)))
    c.in-Ok.ensures.held c.carry_out.ensures.done in
    let asks = c.carry_out.ensures.asked ∙ given.asked in
    is_unread (Rose (g.F.Files.faults c.args.files.now) (g.F.Files.faults c.answer.new.files)) words held given.reads reply given.answer carried u
    (λ r. no_file (rose_later (g.F.Files.faults c.args.files.now) (g.F.Files.faults c.answer.new.files) (g.F.Files.faults c.carry_out.new.files) r c.carry_out.ensures.files_later)) no_put
    (λ r. no_file (rose_before (g.F.Files.faults c.args.files.now) (g.F.Files.faults c.answer.new.files) (g.F.Files.faults c.carry_out.new.files) c.in-Ok.ensures.later r)) some

pub returns-clause-files : goal.returns-clause-files
returns-clause-files g c =
    let given = c.in-Ok.ensures.answer in
    let words = c.args.words.now in
    let held = g.F.Files.held c.args.files.now in
    let kept = g.F.Files.held c.carry_out.new.files in
    let reply = c.in-Ok.reply in
    let carried =
    subst (λ h. IsCarriedOut reply c.carry_out.result (held_and_wrote h (g.K.Sink.wrote c.args.out.now)) (held_and_wrote kept (g.K.Sink.wrote c.carry_out.new.out)) (Rose (g.K.Sink.faults c.args.out.now) (g.K.Sink.faults c.carry_out.new.out)) (Rose (g.F.Files.faults c.answer.new.files) (g.F.Files.faults c.carry_out.new.files)))
    c.in-Ok.ensures.held c.carry_out.ensures.done in
    left_files (Rose (g.F.Files.faults c.args.files.now) (g.F.Files.faults c.answer.new.files)) words held given.reads reply given.answer carried
