use Rattle.cg_base.specs.Counts.{Rose}
use Rattle.cg_top.specs.Own.{seen_own}
use Rattle.cg_top.proofs.FrontLemmas.{reply_answered, front_cut, front_read}
use Rattle.cg_top.proofs.replies.answer_asked.Goals as goal

pub returns-in_err-fetched-clause-front : goal.returns-in_err-fetched-clause-front
returns-in_err-fetched-clause-front g c held reads reply e x =
    front_cut c.args.asked.now held (g.F.Files.asked c.args.files.now) (g.F.Files.asked c.fetch.new.files) reads reply (λ f. c.fetch.ensures.front held f e) x

pub returns-in_err-own-clause-front : goal.returns-in_err-own-clause-front
returns-in_err-own-clause-front g c held reads reply e x =
    front_read (Rose (g.F.Files.faults c.args.files.now) (g.F.Files.faults c.fetch.new.files)) c.args.asked.now held (g.F.Files.held c.args.files.now) (g.F.Files.asked c.args.files.now) (g.F.Files.asked c.fetch.new.files) (g.F.Files.asked c.fetch_own.new.files) c.in_ok-fetched.fetched reads reply e
    c.in_ok-fetched.ensures.fetched c.in_ok-fetched.ensures.asked (λ f. c.fetch.ensures.front held f e) c.fetch_own.ensures.asked x

pub returns-in_err-reply_to-clause-front : goal.returns-in_err-reply_to-clause-front
returns-in_err-reply_to-clause-front g c held reads reply e x =
    front_read (Rose (g.F.Files.faults c.args.files.now) (g.F.Files.faults c.fetch.new.files)) c.args.asked.now held (g.F.Files.held c.args.files.now) (g.F.Files.asked c.args.files.now) (g.F.Files.asked c.fetch.new.files) (g.F.Files.asked c.fetch_own.new.files) c.in_ok-fetched.fetched reads reply e
    c.in_ok-fetched.ensures.fetched c.in_ok-fetched.ensures.asked (λ f. c.fetch.ensures.front held f e) c.fetch_own.ensures.asked x

pub returns-clause-front : goal.returns-clause-front
returns-clause-front g c held reads reply e x =
    front_read (Rose (g.F.Files.faults c.args.files.now) (g.F.Files.faults c.fetch.new.files)) c.args.asked.now held (g.F.Files.held c.args.files.now) (g.F.Files.asked c.args.files.now) (g.F.Files.asked c.fetch.new.files) (g.F.Files.asked c.fetch_own.new.files) c.in_ok-fetched.fetched reads reply e
    c.in_ok-fetched.ensures.fetched c.in_ok-fetched.ensures.asked (λ f. c.fetch.ensures.front held f e) c.fetch_own.ensures.asked x

pub returns-clause-answer : goal.returns-clause-answer
returns-clause-answer g c =
    reply_answered c.args.asked.now (g.F.Files.held c.args.files.now) (g.F.Files.held c.fetch.new.files) (g.F.Files.faults c.args.files.now) (g.F.Files.faults c.fetch.new.files) (g.F.Files.faults c.fetch_own.new.files) (g.F.Files.asked c.args.files.now) (g.F.Files.asked c.fetch.new.files)
    (g.F.Files.asked c.fetch_own.new.files) c.in_ok-fetched.fetched (seen_own c.in_ok-own.own) c.in_ok-reply_to.field-0 c.in_ok-fetched.ensures.held c.in_ok-fetched.ensures.later c.fetch_own.ensures.later c.in_ok-fetched.ensures.fetched c.in_ok-fetched.ensures.asked
    c.in_ok-own.ensures.own c.fetch_own.ensures.asked c.in_ok-reply_to.ensures
