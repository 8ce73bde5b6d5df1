-- The first slot whose number is out of range.
use Rattle.std.specs.Prelude.{ℕ, ◌+◌, ◌<◌, Bool, true, false, if◌then◌else◌, List, [], ◌∷◌, length, drop, ℤ, Option, Some, None, slice_get}
use Rattle.std.specs.Option.{option_or, option_map}
use Rattle.std.specs.Fmt.{signed_decimal}
use Rattle.std.proofs.Common.{◌≡◌, refl, sym, ap, ◌∙◌, get_or, arith}
use Rattle.std.proofs.lemmas.Grind.{common_steps}
use Rattle.cg_model_source.specs.Choosing.{is_in_range, range_objection, first_out_of_range}
use Rattle.cg_model.specs.declared.machine.Machine.{Machine}
use Rattle.cg_model.specs.declared.operand.Operand.{Operand}
use Rattle.cg_syntax_fit.specs.Misfits.{said, range_misfit, misfit_at, first_misfit}
use Rattle.cg_syntax_fit.specs.Slots.{operands_of, AreThere}
use Rattle.cg_syntax_fit.specs.declared.misfit.Misfit.{Misfit}
use Rattle.cg_syntax_fit.specs.declared.misfit.Misfit.TheVariants.{OutOfRange}
use Rattle.cg_syntax_fit.proofs.Values.{drop_next}
use Rattle.cg_syntax_fit.proofs.Slots.{gotten, later_there, first_there}

-- From a place on, the first is that of the place, or else that of the next on.
pub misfit_step : (m : Machine) (ks : List ℕ) (ns : List (Option ℤ)) (bs : List ℕ) (k : ℕ) (d : Option ℤ) → length ns ≡ length ks → length bs ≡ length ks → k < length ks →
    first_misfit m (drop k ks) (drop k ns) (drop k bs) ≡ option_or (misfit_at m (get_or ks k 0) (get_or ns k d) (get_or bs k 0)) (first_misfit m (drop (k + 1) ks) (drop (k + 1) ns) (drop (k + 1) bs))
misfit_step m ks ns bs k d same backs within =
    ap (λ xs. first_misfit m xs (drop k ns) (drop k bs)) (drop_next ks k 0 within)
    ∙ ap (λ xs. first_misfit m (get_or ks k 0 ∷ drop (k + 1) ks) xs (drop k bs)) (drop_next ns k d (omega (arith, same, within)))
    ∙ ap (first_misfit m (get_or ks k 0 ∷ drop (k + 1) ks) (get_or ns k d ∷ drop (k + 1) ns)) (drop_next bs k 0 (omega (arith, backs, within)))

pub ruleset finding = (common_steps, misfit_step)

said_or : (m : Machine) (a b : Option Misfit) → option_map (said m) (option_or a b) ≡ option_or (option_map (said m) a) (option_map (said m) b)
said_or m None b = refl
said_or m (Some x) b = refl

said_range : (m : Machine) (k : ℕ) (o : Operand) (z : ℤ) (inside : Bool) → slice_get m.operands k ≡ Some o →
    option_map (said m) (if inside then None else Some (OutOfRange k z)) ≡ (if inside then None else Some (record { text = o.name; other = signed_decimal z }))
said_range m k o z true at = refl
said_range m k o z false at = ap (λ x. Some (record { text = elim x as (λ y. List ℕ) [ None ↦ [] | Some p ↦ p.name ]; other = signed_decimal z })) at

said_one : (m : Machine) (k : ℕ) (o : Operand) (n : Option ℤ) (back : ℕ) → slice_get m.operands k ≡ Some o → option_map (said m) (range_misfit m k o n back) ≡ range_objection m o n back
said_one m k o None back at = refl
said_one m k o (Some z) back at = said_range m k o z (is_in_range m o z back) at

said_at : (m : Machine) (k : ℕ) (o : Operand) (n : Option ℤ) (back : ℕ) → slice_get m.operands k ≡ Some o → option_map (said m) (misfit_at m k n back) ≡ range_objection m o n back
said_at m k o n back at = ap (λ x. option_map (said m) (elim x as (λ y. Option Misfit) [ None ↦ None | Some p ↦ range_misfit m k p n back ])) at ∙ said_one m k o n back at

none_of : (m : Machine) (os : List Operand) (bs : List ℕ) → first_out_of_range m os [] bs ≡ None
none_of m [] bs = refl
none_of m (o ∷ os) bs = refl

no_backs : (m : Machine) (os : List Operand) (ns : List (Option ℤ)) → first_out_of_range m os ns [] ≡ None
no_backs m [] ns = refl
no_backs m (o ∷ os) [] = refl
no_backs m (o ∷ os) (n ∷ ns) = refl

said_first : (m : Machine) (k : ℕ) (ks : List ℕ) (o : Operand) (n : Option ℤ) (ns : List (Option ℤ)) (b : ℕ) (bs : List ℕ) → slice_get m.operands k ≡ Some o →
    option_map (said m) (first_misfit m ks ns bs) ≡ first_out_of_range m (operands_of m ks) ns bs → option_map (said m) (first_misfit m (k ∷ ks) (n ∷ ns) (b ∷ bs)) ≡ first_out_of_range m (operands_of m (k ∷ ks)) (n ∷ ns) (b ∷ bs)
said_first m k ks o n ns b bs at rest =
    said_or m (misfit_at m k n b) (first_misfit m ks ns bs) ∙ ap (λ x. option_or x (option_map (said m) (first_misfit m ks ns bs))) (said_at m k o n b at) ∙ ap (option_or (range_objection m o n b)) rest
    ∙ sym (ap (λ os. first_out_of_range m os (n ∷ ns) (b ∷ bs)) (first_there m k ks o at))

pub said_all : (m : Machine) (ks : List ℕ) (ns : List (Option ℤ)) (bs : List ℕ) → AreThere m ks → option_map (said m) (first_misfit m ks ns bs) ≡ first_out_of_range m (operands_of m ks) ns bs
said_all m [] ns bs there = refl
said_all m (k ∷ ks) [] bs there = sym (none_of m (operands_of m (k ∷ ks)) bs)
said_all m (k ∷ ks) (n ∷ ns) [] there = sym (no_backs m (operands_of m (k ∷ ks)) (n ∷ ns))
said_all m (k ∷ ks) (n ∷ ns) (b ∷ bs) there =
    let here : (o : Operand) × (slice_get m.operands k ≡ Some o) = gotten m.operands k (there 0 (omega arith)) in
    said_first m k ks here.0 n ns b bs here.1 (said_all m ks ns bs (later_there m k ks there))
