use Rattle.std.proofs.Common.{rules, ◌≡◌, ◌++◌, ◌∷◌, [], length, true, false, Some, None, refl}
use Rattle.cg_base.specs.Reading.{Reads, IsFault}
use Rattle.cg_base.specs.Counts.{Rose}
use Rattle.cg_top_include.specs.Including.{is_short, parted}
use Rattle.cg_top_include.specs.Gathering.{may_include, HasText}
use Rattle.cg_top_include.proofs.GatheringLemmas.{rose_before, gathered_whole, gathered_short, gathered_file, gathered_another, opened_unread, opened_refused, opened_read}
use Rattle.cg_top_include.proofs.AskedLemmas.{asked_read, front_opened, front_gathered, front_read, front_short, front_file}
use Rattle.cg_top_include.proofs.gathering.+reading.Goals as goal

pub gather-returns-in_default-clause-fetched : goal.gather-returns-in_default-clause-fetched
gather-returns-in_default-clause-fetched g t c =
    let none : (parted c.args.sources.short c.args.pending).include ≡ None = search rules in
    gathered_whole c.args.sources c.args.pending c.args.passed c.pass.new.passed none c.in_ok-include.ensures.passed

pub gather-returns-then-is_short-clause-fetched : goal.gather-returns-then-is_short-clause-fetched
gather-returns-then-is_short-clause-fetched g t c =
    let some : (parted c.args.sources.short c.args.pending).include ≡ Some c.in-Some.include = search rules in
    let name : is_short c.in-Some.include.name ≡ true = search rules in
    let left : c.put_in_front.new.self ≡ c.in_ok-short_forms.field-0 ++ (parted c.args.sources.short c.args.pending).behind = search rules in
    gathered_short c.args.sources c.args.pending c.args.passed c.pass.new.passed c.in-Some.include c.in_ok-short_forms.field-0 c.put_in_front.new.self c.in_ok-gather.field-0
    some c.in_ok-include.ensures.passed left name c.in_ok-short_forms.ensures c.in_ok-gather.ensures.fetched

pub gather-returns-in_ok-open-clause-fetched : goal.gather-returns-in_ok-open-clause-fetched
gather-returns-in_ok-open-clause-fetched g t c =
    let some : (parted c.args.sources.short c.args.pending).include ≡ Some c.in-Some.include = search rules in
    let name : is_short c.in-Some.include.name ≡ false = search rules in
    let few : may_include c.args.sources ≡ true = search rules in
    gathered_file c.args.sources c.args.pending c.args.passed c.pass.new.passed c.in-Some.include c.pass.new.pending c.in_ok-open.field-0
    some c.in_ok-include.ensures.passed c.in_ok-include.ensures.left name few c.in_ok-open.ensures.fetched

pub gather-returns-in_ok-too_many-clause-fetched : goal.gather-returns-in_ok-too_many-clause-fetched
gather-returns-in_ok-too_many-clause-fetched g t c =
    let some : (parted c.args.sources.short c.args.pending).include ≡ Some c.in-Some.include = search rules in
    let name : is_short c.in-Some.include.name ≡ false = search rules in
    let many : may_include c.args.sources ≡ false = search rules in
    rw c.in_ok-too_many.ensures (gathered_another c.args.sources c.args.pending c.args.passed c.pass.new.passed c.in-Some.include some name many)

pub open-returns-in_default-clause-fetched : goal.open-returns-in_default-clause-fetched
open-returns-in_default-clause-fetched g t c =
    let same : c.in_ok-clone.field-0 ≡ c.args.name.now = search rules in
    rw same (opened_unread c.args.sources c.args.name.now c.args.pending c.args.passed (search rules))

pub open-returns-in_ok-gather-in-Ok-clause-fetched : goal.open-returns-in_ok-gather-in-Ok-clause-fetched
open-returns-in_ok-gather-in-Ok-clause-fetched g t c =
    let text : HasText (g.F.Files.held c.args.files.now) c.args.name.now c.in-Some.bytes.items = search rules in
    let reads : Reads c.in-Some.bytes.items (length c.args.sources.names) c.in-Ok.forms = search rules in
    let names : c.push.new.self ≡ c.args.sources.names ++ c.args.name.now ∷ [] = search rules in
    let left : c.put_in_front.new.self ≡ c.in-Ok.forms.tops ++ c.args.pending = search rules in
    let rose : Rose (g.F.Files.faults c.text_of.new.files) (g.F.Files.faults c.gather.new.files) → Rose (g.F.Files.faults c.args.files.now) (g.F.Files.faults c.gather.new.files) =
    rose_before (g.F.Files.faults c.args.files.now) (g.F.Files.faults c.text_of.new.files) (g.F.Files.faults c.gather.new.files) c.in_ok-bytes.ensures.later in
    opened_read c.args.sources c.args.name.now c.args.pending c.args.passed c.in-Some.bytes.items c.in-Ok.forms c.push.new.self c.put_in_front.new.self (g.F.Files.held c.text_of.new.files) _ c.in_ok-gather-in-Ok.field-0
    text reads names left c.in_ok-bytes.ensures.held rose c.in_ok-gather-in-Ok.ensures.fetched

pub open-returns-in-Err-Refused-clause-fetched : goal.open-returns-in-Err-Refused-clause-fetched
open-returns-in-Err-Refused-clause-fetched g t c =
    let text : HasText (g.F.Files.held c.args.files.now) c.args.name.now c.in-Some.bytes.items = search rules in
    let fault : IsFault c.in-Some.bytes.items (length c.args.sources.names) c.in-Err-Refused.refusal = search rules in
    let names : c.push.new.self ≡ c.args.sources.names ++ c.args.name.now ∷ [] = search rules in
    rw (names, c.in-Err-Refused.refusal-is) (opened_refused c.args.sources c.args.name.now c.args.pending c.args.passed c.in-Some.bytes.items c.in-Err-Refused.refusal text fault)

pub gather-returns-in_err-include-clause-front : goal.gather-returns-in_err-include-clause-front
gather-returns-in_err-include-clause-front g t c files h = front_gathered c.args.sources c.args.pending (g.F.Files.asked c.args.files.now) (g.F.Files.asked c.args.files.now) refl

pub gather-returns-in_err-short_forms-clause-front : goal.gather-returns-in_err-short_forms-clause-front
gather-returns-in_err-short_forms-clause-front g t c files h = front_gathered c.args.sources c.args.pending (g.F.Files.asked c.args.files.now) (g.F.Files.asked c.args.files.now) refl

pub gather-returns-in_err-put_in_front-clause-front : goal.gather-returns-in_err-put_in_front-clause-front
gather-returns-in_err-put_in_front-clause-front g t c files h = front_gathered c.args.sources c.args.pending (g.F.Files.asked c.args.files.now) (g.F.Files.asked c.args.files.now) refl

pub gather-returns-in_err-too_many-clause-front : goal.gather-returns-in_err-too_many-clause-front
gather-returns-in_err-too_many-clause-front g t c files h = front_gathered c.args.sources c.args.pending (g.F.Files.asked c.args.files.now) (g.F.Files.asked c.args.files.now) refl

pub gather-returns-in_ok-too_many-clause-front : goal.gather-returns-in_ok-too_many-clause-front
gather-returns-in_ok-too_many-clause-front g t c files h = front_gathered c.args.sources c.args.pending (g.F.Files.asked c.args.files.now) (g.F.Files.asked c.args.files.now) refl

pub gather-returns-in_err-gather-clause-front : goal.gather-returns-in_err-gather-clause-front
gather-returns-in_err-gather-clause-front g t c =
    let some : (parted c.args.sources.short c.args.pending).include ≡ Some c.in-Some.include = search rules in
    let name : is_short c.in-Some.include.name ≡ true = search rules in
    let left : c.put_in_front.new.self ≡ c.in_ok-short_forms.field-0 ++ (parted c.args.sources.short c.args.pending).behind = search rules in
    front_short c.args.sources c.args.pending c.put_in_front.new.self c.in-Some.include (g.F.Files.held c.args.files.now) (g.F.Files.asked c.args.files.now) (g.F.Files.asked c.gather.new.files)
    c.in_ok-short_forms.field-0 some left name c.in_ok-short_forms.ensures c.in_err-gather.ensures.front

pub gather-returns-then-is_short-clause-front : goal.gather-returns-then-is_short-clause-front
gather-returns-then-is_short-clause-front g t c =
    let some : (parted c.args.sources.short c.args.pending).include ≡ Some c.in-Some.include = search rules in
    let name : is_short c.in-Some.include.name ≡ true = search rules in
    let left : c.put_in_front.new.self ≡ c.in_ok-short_forms.field-0 ++ (parted c.args.sources.short c.args.pending).behind = search rules in
    front_short c.args.sources c.args.pending c.put_in_front.new.self c.in-Some.include (g.F.Files.held c.args.files.now) (g.F.Files.asked c.args.files.now) (g.F.Files.asked c.gather.new.files)
    c.in_ok-short_forms.field-0 some left name c.in_ok-short_forms.ensures c.in_ok-gather.ensures.front

pub gather-returns-in_err-open-clause-front : goal.gather-returns-in_err-open-clause-front
gather-returns-in_err-open-clause-front g t c =
    let some : (parted c.args.sources.short c.args.pending).include ≡ Some c.in-Some.include = search rules in
    let name : is_short c.in-Some.include.name ≡ false = search rules in
    let few : may_include c.args.sources ≡ true = search rules in
    front_file c.args.sources c.args.pending c.pass.new.pending c.in-Some.include (g.F.Files.held c.args.files.now) (g.F.Files.asked c.args.files.now) (g.F.Files.asked c.open.new.files)
    some c.in_ok-include.ensures.left name few c.in_err-open.ensures.front

pub gather-returns-in_ok-open-clause-front : goal.gather-returns-in_ok-open-clause-front
gather-returns-in_ok-open-clause-front g t c =
    let some : (parted c.args.sources.short c.args.pending).include ≡ Some c.in-Some.include = search rules in
    let name : is_short c.in-Some.include.name ≡ false = search rules in
    let few : may_include c.args.sources ≡ true = search rules in
    front_file c.args.sources c.args.pending c.pass.new.pending c.in-Some.include (g.F.Files.held c.args.files.now) (g.F.Files.asked c.args.files.now) (g.F.Files.asked c.open.new.files)
    some c.in_ok-include.ensures.left name few c.in_ok-open.ensures.front

pub open-returns-in_err-bytes-clause-front : goal.open-returns-in_err-bytes-clause-front
open-returns-in_err-bytes-clause-front g t c files h =
    front_opened c.args.sources c.args.name.now c.args.pending (g.F.Files.asked c.args.files.now) (g.F.Files.asked c.text_of.new.files) c.in_err-bytes.ensures.asked

pub open-returns-in_err-clone-clause-front : goal.open-returns-in_err-clone-clause-front
open-returns-in_err-clone-clause-front g t c files h =
    front_opened c.args.sources c.args.name.now c.args.pending (g.F.Files.asked c.args.files.now) (g.F.Files.asked c.text_of.new.files) c.in_ok-bytes.ensures.asked

pub open-returns-in_default-clause-front : goal.open-returns-in_default-clause-front
open-returns-in_default-clause-front g t c files h =
    front_opened c.args.sources c.args.name.now c.args.pending (g.F.Files.asked c.args.files.now) (g.F.Files.asked c.text_of.new.files) c.in_ok-bytes.ensures.asked

pub open-returns-in_err-clone-2-clause-front : goal.open-returns-in_err-clone-2-clause-front
open-returns-in_err-clone-2-clause-front g t c files h =
    front_opened c.args.sources c.args.name.now c.args.pending (g.F.Files.asked c.args.files.now) (g.F.Files.asked c.text_of.new.files) c.in_ok-bytes.ensures.asked

pub open-returns-in_err-push-clause-front : goal.open-returns-in_err-push-clause-front
open-returns-in_err-push-clause-front g t c files h =
    front_opened c.args.sources c.args.name.now c.args.pending (g.F.Files.asked c.args.files.now) (g.F.Files.asked c.text_of.new.files) c.in_ok-bytes.ensures.asked

pub open-returns-in_err-put_in_front-in-Ok-clause-front : goal.open-returns-in_err-put_in_front-in-Ok-clause-front
open-returns-in_err-put_in_front-in-Ok-clause-front g t c files h =
    front_opened c.args.sources c.args.name.now c.args.pending (g.F.Files.asked c.args.files.now) (g.F.Files.asked c.text_of.new.files) c.in_ok-bytes.ensures.asked

pub open-returns-in-Err-Refused-clause-front : goal.open-returns-in-Err-Refused-clause-front
open-returns-in-Err-Refused-clause-front g t c files h =
    front_opened c.args.sources c.args.name.now c.args.pending (g.F.Files.asked c.args.files.now) (g.F.Files.asked c.text_of.new.files) c.in_ok-bytes.ensures.asked

pub open-returns-in-Err-NoMemory-clause-front : goal.open-returns-in-Err-NoMemory-clause-front
open-returns-in-Err-NoMemory-clause-front g t c files h =
    front_opened c.args.sources c.args.name.now c.args.pending (g.F.Files.asked c.args.files.now) (g.F.Files.asked c.text_of.new.files) c.in_ok-bytes.ensures.asked

pub open-returns-in_ok-gather-in-Ok-clause-asked : goal.open-returns-in_ok-gather-in-Ok-clause-asked
open-returns-in_ok-gather-in-Ok-clause-asked g t c =
    let names : c.push.new.self ≡ c.args.sources.names ++ c.args.name.now ∷ [] = search rules in
    asked_read c.args.sources c.args.name.now c.push.new.self (g.F.Files.asked c.args.files.now) (g.F.Files.asked c.text_of.new.files) (g.F.Files.asked c.gather.new.files)
    c.in_ok-gather-in-Ok.field-0 names c.in_ok-bytes.ensures.asked c.in_ok-gather-in-Ok.ensures.asked

pub open-returns-in_err-gather-in-Ok-clause-front : goal.open-returns-in_err-gather-in-Ok-clause-front
open-returns-in_err-gather-in-Ok-clause-front g t c =
    let text : HasText (g.F.Files.held c.args.files.now) c.args.name.now c.in-Some.bytes.items = search rules in
    let reads : Reads c.in-Some.bytes.items (length c.args.sources.names) c.in-Ok.forms = search rules in
    let names : c.push.new.self ≡ c.args.sources.names ++ c.args.name.now ∷ [] = search rules in
    let left : c.put_in_front.new.self ≡ c.in-Ok.forms.tops ++ c.args.pending = search rules in
    front_read c.args.sources c.args.name.now c.push.new.self (g.F.Files.asked c.args.files.now) (g.F.Files.asked c.text_of.new.files) (g.F.Files.asked c.gather.new.files)
    (g.F.Files.held c.args.files.now) (g.F.Files.held c.text_of.new.files) c.args.pending c.put_in_front.new.self c.in-Some.bytes.items c.in-Ok.forms
    text reads names left c.in_ok-bytes.ensures.held c.in_ok-bytes.ensures.asked c.in_err-gather-in-Ok.ensures.front

pub open-returns-in_ok-gather-in-Ok-clause-front : goal.open-returns-in_ok-gather-in-Ok-clause-front
open-returns-in_ok-gather-in-Ok-clause-front g t c =
    let text : HasText (g.F.Files.held c.args.files.now) c.args.name.now c.in-Some.bytes.items = search rules in
    let reads : Reads c.in-Some.bytes.items (length c.args.sources.names) c.in-Ok.forms = search rules in
    let names : c.push.new.self ≡ c.args.sources.names ++ c.args.name.now ∷ [] = search rules in
    let left : c.put_in_front.new.self ≡ c.in-Ok.forms.tops ++ c.args.pending = search rules in
    front_read c.args.sources c.args.name.now c.push.new.self (g.F.Files.asked c.args.files.now) (g.F.Files.asked c.text_of.new.files) (g.F.Files.asked c.gather.new.files)
    (g.F.Files.held c.args.files.now) (g.F.Files.held c.text_of.new.files) c.args.pending c.put_in_front.new.self c.in-Some.bytes.items c.in-Ok.forms
    text reads names left c.in_ok-bytes.ensures.held c.in_ok-bytes.ensures.asked c.in_ok-gather-in-Ok.ensures.front
