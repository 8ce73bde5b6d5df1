use Rattle.std.proofs.Common.{◌≡◌, ◌++◌, ◌∷◌, [], drop, map}
use Rattle.std.specs.Prelude.{if◌then◌else◌}
use Rattle.cg_base.specs.Printing.{printed, spaced, behind_blanks}
use Rattle.cg_sexp.proofs.printing.+push_form.Given as goal

-- what is left gives what the whole gives
abbrev pub invariant-loop-item : goal.invariant-loop-item
invariant-loop-item l =
    let left = map printed (drop l.item-index l.item-items) in
    l.out ++ (if l.is_first then spaced left else behind_blanks left) ++ 41 ∷ [] ≡ l.fn.out ++ printed l.form
