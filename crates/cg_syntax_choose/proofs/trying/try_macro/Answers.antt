use Rattle.std.specs.Option.{option_map}
use Rattle.std.specs.Prelude.{◌<◌, length}
use Rattle.std.proofs.Common.{get_or, refl, sym, ap, ◌∙◌, arith}
use Rattle.std.proofs.lemmas.Option.{slice_get_read}
use Rattle.cg_syntax_choose.specs.Ordering.{given_all}
use Rattle.cg_syntax_choose.specs.Trying.{trying, choice_at}
use Rattle.cg_syntax_choose.specs.declared.trying.Choice.{Choice}
use Rattle.cg_syntax_fit.specs.Misfits.{said}
use Rattle.cg_syntax_choose.proofs.IndexLemmas.{macro_pattern_is, pattern_front}
use Rattle.cg_syntax_choose.proofs.TryingLemmas.{macros_within, macro_found, macro_not_found, gives_as_many}
use Rattle.cg_syntax_choose.proofs.trying.try_macro.Goals as goal

pub filled_by-requires-clause-pattern : goal.filled_by-requires-clause-pattern
filled_by-requires-clause-pattern c =
    let m = c.args.at.now.machine.now in
    let x = c.args.at.now.index.now in
    let k = c.args.k in
    let e = c.index-as_slice-k.result in
    let p = c.index-as_slice-k-2.result in
    let at = slice_get_read m.macros (length m.macros) k e refl c.requires.within (c.index-as_slice-k.is ∙ ap (λ xs. get_or xs k e) c.as_slice.ensures) in
    let here = slice_get_read x.macros (length m.macros) k p (sym (macros_within m x c.requires.index)) c.requires.within (c.index-as_slice-k-2.is ∙ ap (λ xs. get_or xs k p) c.as_slice-2.ensures) in
    pattern_front p e.pieces e.operands (macro_pattern_is m x k e p c.requires.index at here)

pub try_emitted-requires-clause-as_many : goal.try_emitted-requires-clause-as_many
try_emitted-requires-clause-as_many c =
    let m = c.args.at.now.machine.now in
    let k = c.args.k in
    let e = c.index-as_slice-k.result in
    let fs = c.as_slice-in-Some-2.result.now in
    let at = slice_get_read m.macros (length m.macros) k e refl c.requires.within (c.index-as_slice-k.is ∙ ap (λ xs. get_or xs k e) c.as_slice.ensures) in
    let within : e.target < length m.insns = omega (arith, c.len.ensures) in
    ap length c.in_ok-sums-in-Some.ensures ∙ ap (λ gs. length (given_all fs gs)) c.as_slice-in-Some.ensures ∙ gives_as_many m k e fs c.requires.given at within

pub returns-in_ok-try_emitted-in-Some : goal.returns-in_ok-try_emitted-in-Some
returns-in_ok-try_emitted-in-Some c =
    let m = c.args.at.now.machine.now in
    let x = c.args.at.now.index.now in
    let k = c.args.k in
    let e = c.index-as_slice-k.result in
    let p = c.index-as_slice-k-2.result in
    let first = option_map (said m) c.args.first.now in
    let at = slice_get_read m.macros (length m.macros) k e refl c.requires.within (c.index-as_slice-k.is ∙ ap (λ xs. get_or xs k e) c.as_slice.ensures) in
    let here = slice_get_read x.macros (length m.macros) k p (sym (macros_within m x c.requires.index)) c.requires.within (c.index-as_slice-k-2.is ∙ ap (λ xs. get_or xs k p) c.as_slice-2.ensures) in
    let sums = c.in_ok-sums-in-Some.ensures ∙ ap (λ gs. given_all c.as_slice-in-Some-2.result.now gs) c.as_slice-in-Some.ensures ∙ ap (λ fs. given_all fs e.given) c.as_slice-in-Some-2.ensures in
    c.in_ok-try_emitted-in-Some.ensures
    ∙ ap (λ ss. trying m c.args.at.now.pc first (let choice : Choice = record { insn = e.target; sums = ss } in choice_at m choice)) sums
    ∙ ap (trying m c.args.at.now.pc first) (macro_found m x c.args.at.now.text.now k e p c.in-Some.found c.requires.index at here (sym c.in-Some.is ∙ c.in_ok-found.ensures))

pub returns-in-None : goal.returns-in-None
returns-in-None c =
    let m = c.args.at.now.machine.now in
    let x = c.args.at.now.index.now in
    let k = c.args.k in
    let e = c.index-as_slice-k.result in
    let p = c.index-as_slice-k-2.result in
    let at = slice_get_read m.macros (length m.macros) k e refl c.requires.within (c.index-as_slice-k.is ∙ ap (λ xs. get_or xs k e) c.as_slice.ensures) in
    let here = slice_get_read x.macros (length m.macros) k p (sym (macros_within m x c.requires.index)) c.requires.within (c.index-as_slice-k-2.is ∙ ap (λ xs. get_or xs k p) c.as_slice-2.ensures) in
    ap (trying m c.args.at.now.pc (option_map (said m) c.args.first.now)) (macro_not_found m x c.args.at.now.text.now k e p c.requires.index at here (sym c.in-None.is ∙ c.in_ok-found.ensures))
