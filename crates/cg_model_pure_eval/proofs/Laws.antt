-- What judging and evaluating give at an expression that is opened.
use Rattle.std.proofs.Common.{◌≡◌, ℕ, zero, suc, ◌<◌, ◌^◌, length, get_or, Bool, true, false, ◌&&◌, ◌∙◌, sym, refl, ap, List, [], ◌∷◌, map, Option, Ok, arith}
use Rattle.std.specs.List.{list_all}
use Rattle.std.proofs.lemmas.Grind.{common_steps}
use Rattle.cg_base.specs.declared.Mode.{Mode}
use Rattle.cg_model.proofs.Meanings.{pure_out, pure_checked, pure_said, said_is}
use Rattle.cg_modes.proofs.Laws.{verdict_out}
use Rattle.cg_model.specs.Sound.{is_allowed, allowed_step}
use Rattle.cg_model.specs.declared.machine.Machine.{Machine}
use Rattle.cg_model.specs.declared.rtl.Rtl.{Rtl, out-Rtl}
use Rattle.cg_model.specs.declared.rtl.Rtl.TheFolds.{fold_out-Rtl}
use Rattle.cg_model_pure_eval.proofs.Bounds.{shift_counts, flag_fits}
use Rattle.std.proofs.lemmas.Bool.Decides.{nat_tests}
use Rattle.cg_base.specs.Modes.{bits_of}
use Rattle.cg_model.specs.Checked.{checked, mode_in, verdict_of, field_mode, multi_mode}
use Rattle.cg_model.specs.Values.{mode_or_void}
use Rattle.cg_model.specs.declared.rtl.Op.{Op}
use Rattle.cg_model.specs.declared.rtl.Op.TheVariants as op
use Rattle.cg_model_pure_eval.specs.Seen.{Seen, below, is_had, all_had, each_had}

each_listed : (m : Machine) (s : Seen) (xs : List Rtl) → list_all (λ b. b) (map (is_allowed (is_had m s)) xs) ≡ each_had m s xs
unfolding all_had
each_listed m s [] = refl
each_listed m s (x ∷ xs) = ap (λ b. is_allowed (is_had m s) x && b) (each_listed m s xs)

pub all_out : (m : Machine) (s : Seen) (r : Rtl) → all_had m s r ≡ (is_had m s (out-Rtl r).op (out-Rtl r).mode (out-Rtl r).number && each_had m s (out-Rtl r).items)
unfolding is_allowed all_had
all_out m s r = fold_out-Rtl Bool (allowed_step (is_had m s)) r ∙ ap (λ b. is_had m s (out-Rtl r).op (out-Rtl r).mode (out-Rtl r).number && b) (each_listed m s (out-Rtl r).items)

both_true : (a b : Bool) → (a && b) ≡ true → b ≡ true
both_true true b h = h
both_true false b h = grind (arith, common_steps)

first_true : (a b : Bool) → (a && b) ≡ true → a ≡ true
first_true true b h = refl
first_true false b h = h

pub had_at : (m : Machine) (s : Seen) (xs : List Rtl) (i : ℕ) (d : Rtl) → each_had m s xs ≡ true → i < length xs → all_had m s (get_or xs i d) ≡ true
had_at m s [] i d h k = absurd (omega arith)
had_at m s (x ∷ xs) zero d h k = first_true (all_had m s x) (each_had m s xs) h
had_at m s (x ∷ xs) (suc i) d h k = had_at m s xs i d (both_true (all_had m s x) (each_had m s xs) h) (omega arith)

pub had_items : (m : Machine) (s : Seen) (r : Rtl) → all_had m s r ≡ true → each_had m s (out-Rtl r).items ≡ true
had_items m s r h = both_true (is_had m s (out-Rtl r).op (out-Rtl r).mode (out-Rtl r).number) (each_had m s (out-Rtl r).items) (sym (all_out m s r) ∙ h)

pub had_here : (m : Machine) (s : Seen) (r : Rtl) → all_had m s r ≡ true → is_had m s (out-Rtl r).op (out-Rtl r).mode (out-Rtl r).number ≡ true
had_here m s r h = first_true (is_had m s (out-Rtl r).op (out-Rtl r).mode (out-Rtl r).number) (each_had m s (out-Rtl r).items) (sym (all_out m s r) ∙ h)

below_is : (k : Mode) (n : ℕ) → below k n ≡ true → n < 2 ^ bits_of k
below_is k n h = grind (arith, nat_tests)

-- What a leaf names can be had, and its value lies below 2 ^ bits of its mode.
had_as : (m : Machine) (s : Seen) (r : Rtl) (o : Op) → (out-Rtl r).op ≡ o → all_had m s r ≡ true → is_had m s o (out-Rtl r).mode (out-Rtl r).number ≡ true
had_as m s r o e had = sym (ap (λ p. is_had m s p (out-Rtl r).mode (out-Rtl r).number) e) ∙ had_here m s r had

judged_as : (m : Machine) (r : Rtl) (want : Option Mode) (o : Op) (k : Mode) → (out-Rtl r).op ≡ o → Ok k ≡ mode_in m r [] want → k ≡ mode_or_void (verdict_of m o (out-Rtl r).mode (out-Rtl r).number (map (checked m) (out-Rtl r).items) [] want)
judged_as m r want o k e is = ap mode_or_void (is ∙ verdict_out m r [] want ∙ ap (λ p. verdict_of m p (out-Rtl r).mode (out-Rtl r).number (map (checked m) (out-Rtl r).items) [] want) e)

pub value_fits : (m : Machine) (s : Seen) (r : Rtl) (want : Option Mode) (k : Mode) → (out-Rtl r).op ≡ op.Value → all_had m s r ≡ true → Ok k ≡ mode_in m r [] want → s.around.value < 2 ^ bits_of k
unfolding is_had
value_fits m s r want k e had is = below_is k s.around.value (ap (λ j. below j s.around.value) (judged_as m r want op.Value k e is) ∙ had_as m s r op.Value e had)

pub pc_fits : (m : Machine) (s : Seen) (r : Rtl) (want : Option Mode) (k : Mode) → (out-Rtl r).op ≡ op.Pc → all_had m s r ≡ true → Ok k ≡ mode_in m r [] want → s.around.pc < 2 ^ bits_of k
unfolding is_had
pc_fits m s r want k e had is = below_is k s.around.pc (ap (λ j. below j s.around.pc) (judged_as m r want op.Pc k e is) ∙ had_as m s r op.Pc e had)

pub field_had : (m : Machine) (s : Seen) (r : Rtl) → (out-Rtl r).op ≡ op.FieldRef → all_had m s r ≡ true → s.has_field (out-Rtl r).number ≡ true
unfolding is_had
field_had m s r e had = had_as m s r op.FieldRef e had

pub field_mode_is : (m : Machine) (r : Rtl) (want : Option Mode) (k : Mode) → (out-Rtl r).op ≡ op.FieldRef → Ok k ≡ mode_in m r [] want → k ≡ mode_or_void (field_mode m (out-Rtl r).number)
field_mode_is m r want k e is = judged_as m r want op.FieldRef k e is

pub multi_had : (m : Machine) (s : Seen) (r : Rtl) → (out-Rtl r).op ≡ op.MultiRef → all_had m s r ≡ true → s.has_multi (out-Rtl r).number ≡ true
unfolding is_had
multi_had m s r e had = had_as m s r op.MultiRef e had

pub multi_mode_is : (m : Machine) (r : Rtl) (want : Option Mode) (k : Mode) → (out-Rtl r).op ≡ op.MultiRef → Ok k ≡ mode_in m r [] want → k ≡ mode_or_void (multi_mode m (out-Rtl r).number)
multi_mode_is m r want k e is = judged_as m r want op.MultiRef k e is

pub ruleset leaf_rules = (common_steps, value_fits, pc_fits, field_had, multi_had)

pub ruleset lead_rules = (common_steps, said_is)

pub ruleset pure_rules = (common_steps, had_at, pure_out, pure_checked, said_is, verdict_out, had_items, had_here, shift_counts, flag_fits)
