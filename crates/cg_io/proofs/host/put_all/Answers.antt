use Rattle.std.proofs.Common.{◌+◌, ◌++◌, length, take}
use Rattle.std.proofs.KnownBytes.{Appends-trans, Appends-nil}
use Rattle.cg_io.proofs.Known.{moves_front, front_more, kept_nothing}
use Rattle.cg_io.proofs.host.put_all.Goals as goal

pub returns-in_default-clause-front : goal.returns-in_default-clause-front
returns-in_default-clause-front g c =
    let (done, split, appended) = c.loop-rest.invariant in
    (length done + 0, front_more _ _ _ _ done _ 0 split appended (kept_nothing _ _ c.in_default.ensures.bytes))

pub returns-then-count-eq0-clause-front : goal.returns-then-count-eq0-clause-front
returns-then-count-eq0-clause-front g c =
    let (done, split, appended) = c.loop-rest.invariant in
    (length done + c.in-Ok.count, front_more _ _ _ _ done _ c.in-Ok.count split appended c.in-Ok.ensures.bytes)

pub loop-rest-preserved : goal.loop-rest-preserved
loop-rest-preserved g c =
    let (done, split, appended) = c.loop-rest.invariant in
    let rest = c.loop-rest.rest.now in
    let count = c.in-Ok.count in
    (done ++ take count rest, moves_front _ done rest count split, Appends-trans _ _ _ _ _ appended c.in-Ok.ensures.bytes)

pub returns-clause-front : goal.returns-clause-front
returns-clause-front g c =
    let (done, split, appended) = c.loop-rest.invariant in
    (length done + 0, front_more _ _ _ _ done _ 0 split appended (Appends-nil _))
