use Rattle.std.proofs.Common.{◌≤◌, ◌++◌, length, ap, sym, ◌∙◌, rules}
use Rattle.std.proofs.lemmas.List.{at_drop_all}
use Rattle.std.proofs.lemmas.Result.{on_ok_weaker}
use Rattle.cg_attrs.proofs.Words.{words_behind, words_read}
use Rattle.cg_attrs.proofs.attr.push_words.Goals as goal

-- behind the last byte the word is the last one
pub returns : goal.returns
returns c =
    let text = c.args.text.now in
    let at_end : length text ≤ c.loop-byte.byte-index = search rules in
    let last = sym (at_drop_all (λ bs. c.loop-byte.names ++ words_behind c.loop-byte.word bs) text c.loop-byte.byte-index at_end) ∙ c.loop-byte.invariant in
    on_ok_weaker c.push-2.result (λ e. e ∙ last ∙ ap (λ ws. c.args.names.now ++ ws) (sym (words_read text))) c.push-2.ensures.ok
