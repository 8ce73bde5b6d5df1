use Rattle.cg_top_include.proofs.GatheringLemmas.{comes_first}
use Rattle.cg_top_include.proofs.AskedLemmas.{asked_first, front_first}
use Rattle.cg_top_include.proofs.fetching.fetch.Goals as goal

pub returns-clause-fetched : goal.returns-clause-fetched
returns-clause-fetched g c = comes_first c.new-sources.ensures c.new-passed.ensures c.new-pending.ensures c.in_ok-open.ensures.fetched

pub returns-clause-asked : goal.returns-clause-asked
returns-clause-asked g c =
    asked_first (g.F.Files.asked c.args.files.now) (g.F.Files.asked c.open.new.files) _ c.new-sources.ensures c.in_ok-open.field-0 c.in_ok-open.ensures.asked

pub returns-clause-front : goal.returns-clause-front
returns-clause-front g c =
    front_first (g.F.Files.asked c.args.files.now) (g.F.Files.asked c.open.new.files) _ c.new-sources.ensures c.args.desc.now _ (g.F.Files.held c.args.files.now) c.new-pending.ensures
    c.in_ok-open.ensures.front

pub returns-in_err-open-clause-front : goal.returns-in_err-open-clause-front
returns-in_err-open-clause-front g c =
    front_first (g.F.Files.asked c.args.files.now) (g.F.Files.asked c.open.new.files) _ c.new-sources.ensures c.args.desc.now _ (g.F.Files.held c.args.files.now) c.new-pending.ensures
    c.in_err-open.ensures.front
