use Rattle.std.proofs.Common.{sym}
use Rattle.cg_code.proofs.Settings.{read_rule, read_one}
use Rattle.cg_code.proofs.Held.{held_by_value}
use Rattle.cg_code.proofs.Extracted.{rule_fits}
use Rattle.cg_code.proofs.putting.put_inserted.Goals as goal

pub pure_eval-own-requires-clause-gives : goal.pure_eval-own-requires-clause-gives
pure_eval-own-requires-clause-gives c = (read_rule _ _ _ _ _ _ _ _ _ _ _ c.as_slice.ensures c.as_slice-in-Some.ensures c.index-as_slice-n.is c.requires.multi.insert c.requires.sub (sym c.in-Some.ensures.value)).gives

pub returns-in-Some : goal.returns-in-Some
returns-in-Some c = read_one _ _ _ _ _ _ _ _ _ _ _ _ _ _ _ _ c.as_slice.ensures c.as_slice-in-Some.ensures c.index-as_slice-n.is c.requires.multi.insert c.requires.sub c.requires.rule (sym c.in-Some.ensures.value) c.pure_eval-own.ensures.value c.put_value.ensures

pub pure_eval-own-requires-clause-held : goal.pure_eval-own-requires-clause-held
pure_eval-own-requires-clause-held c = held_by_value _ _ _ _ _ _ (read_rule _ _ _ _ _ _ _ _ _ _ _ c.as_slice.ensures c.as_slice-in-Some.ensures c.index-as_slice-n.is c.requires.multi.insert c.requires.sub (sym c.in-Some.ensures.value)) c.requires.small

pub put_value-requires-clause-small : goal.put_value-requires-clause-small
put_value-requires-clause-small c = rule_fits _ _ _ _ _ (read_rule _ _ _ _ _ _ _ _ _ _ _ c.as_slice.ensures c.as_slice-in-Some.ensures c.index-as_slice-n.is c.requires.multi.insert c.requires.sub (sym c.in-Some.ensures.value)) c.pure_eval-own.ensures.fits
