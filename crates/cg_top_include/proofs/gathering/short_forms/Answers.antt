use Rattle.std.proofs.Common.{rules}
use Rattle.cg_base.specs.Reading.{IsFault}
use Rattle.cg_pmacro.specs.declared.tops.TheConstants.{SHORT_FORMS}
use Rattle.cg_top_include.proofs.ShortForms.{no_fault}
use Rattle.cg_top_include.proofs.gathering.short_forms.Goals as goal

pub unreachable-requires : goal.unreachable-requires
unreachable-requires c =
    let fault : IsFault SHORT_FORMS.now 0 c.in-Err-Refused.field-0-0 = search rules in
    no_fault c.in-Err-Refused.field-0-0 fault
