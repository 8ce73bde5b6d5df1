-- The text of the short forms has forms, so it has no fault.
use Rattle.std.proofs.Common.{List, Result, Ok, Err, sym, subst}
use Rattle.cg_base.specs.declared.form.Top.{Top}
use Rattle.cg_base.specs.declared.refusal.Refusal.{Refusal}
use Rattle.cg_base.specs.Grammar.{token}
use Rattle.cg_base.specs.Reading.{IsFault}
use Rattle.cg_sexp.proofs.Laws.{fault_given}
use Rattle.cg_pmacro.specs.declared.tops.TheConstants.{SHORT_FORMS}

abbrev refuses : Result (List Top) Refusal → Type 0
refuses (Ok tops) = ⊥
refuses (Err refusal) = Unit {0}

pub no_fault : (refusal : Refusal) → IsFault SHORT_FORMS.now 0 refusal → ⊥
unfolding token
no_fault refusal x = subst refuses (sym (fault_given SHORT_FORMS.now 0 refusal x)) tt
