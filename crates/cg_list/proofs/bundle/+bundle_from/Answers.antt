use Rattle.std.proofs.Common.{◌-◌, sym, ap, refl, ◌∙◌}
use Rattle.std.proofs.lemmas.List.{take_rest}
use Rattle.std.specs.Option.{option_map}
use Rattle.cg_model_source.specs.Listing.{bundle_from}
use Rattle.cg_tree.specs.Finding.{found}
use Rattle.cg_list.specs.Seen.{seen}
use Rattle.cg_list.proofs.Bundled.{found_matches, matching_within, front_long, front_base, by_more}
use Rattle.cg_list.proofs.bundle.+bundle_from.Goals as goal

pub length-size-requires-clause-within : goal.length-size-requires-clause-within
length-size-requires-clause-within t c =
    matching_within c.args.machine.now c.args.bytes.now c.in-Some.k (found_matches c.args.tree.now c.args.machine.now c.args.bytes.now c.in-Some.k (sym c.decoded.ensures ∙ c.in-Some.is))

pub slice_bounds-goes_on-end : goal.slice_bounds-goes_on-end
slice_bounds-goes_on-end t c =
    front_long c.args.machine.now c.args.bytes.now c.in-Some.k c.length-size.result (found_matches c.args.tree.now c.args.machine.now c.args.bytes.now c.in-Some.k (sym c.decoded.ensures ∙ c.in-Some.is)) c.length-size.ensures

pub goes_on-requires-clause-long : goal.goes_on-requires-clause-long
goes_on-requires-clause-long t c =
    front_base c.args.machine.now c.args.bytes.now c.in-Some.k c.length-size.result c.requires.sound (found_matches c.args.tree.now c.args.machine.now c.args.bytes.now c.in-Some.k (sym c.decoded.ensures ∙ c.in-Some.is)) c.length-size.ensures

pub returns-clause-shown : goal.returns-clause-shown
returns-clause-shown t c a same =
    by_more c.args.machine.now (found c.args.tree.now c.args.machine.now) c.args.most a c.args.address _ c.in-Some.k c.length-size.result c.args.bytes.now c.in-Some-2.text (option_map seen c.in_ok-rest.rest) (option_map seen c.in_ok-joined.field-0)
    c.requires.sound c.if-most-eq0.false (sym c.decoded.ensures ∙ c.in-Some.is) same c.length-size.ensures (sym c.in-Some-2.is ∙ c.in_ok-text.ensures) (sym c.goes_on.ensures ∙ c.if-not-goes_on.false) refl (λ d e. c.in_ok-rest.ensures.shown d e ∙ ap (bundle_from c.args.machine.now (found c.args.tree.now c.args.machine.now) (c.args.most - 1) d) (take_rest c.args.bytes.now c.length-size.result))
    c.in_ok-joined.ensures.shown
