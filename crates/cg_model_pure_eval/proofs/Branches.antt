-- What an `if` gives with its mode, and that the value that is taken has one.
use Rattle.std.proofs.Common.{◌≡◌, ℕ, Bool, true, false, not, ◌&&◌, ◌==◌, if◌then◌else◌, ◌∙◌, sym, refl, ap, subst, List, [], ◌∷◌, map, Option, Some, None, ℤ, Ok, Err, arith}
use Rattle.std.specs.Option.{option_or, unwrap_or}
use Rattle.std.proofs.lemmas.Grind.{common_steps}
use Rattle.std.proofs.lemmas.Bool.Decides.{nat_tests}
use Rattle.cg_base.specs.declared.Mode.{Mode}
use Rattle.cg_base.specs.Modes.{bits_of, word_mode}
use Rattle.cg_model.specs.Checked.{Checked, Verdict, and_then, checked, mode_in, judged_value, verdict_of, is_loose, leading, leading_choice, plain_choice, value_turn, choices, meets, agrees, fits, fault, disagreement, in_range, same_bits}
use Rattle.cg_model.specs.Pure.{Around, pure_meaning, pure_gives, pure_value}
use Rattle.cg_model.specs.Values.{operand_gives, lead}
use Rattle.cg_model.specs.declared.machine.Machine.{Machine}
use Rattle.cg_model.specs.declared.judged.ModeFault.{ModeFault}
use Rattle.cg_model.specs.declared.rtl.Op.TheVariants as op
use Rattle.cg_model.specs.declared.rtl.Rtl.{Rtl, out-Rtl}
use Rattle.cg_model.proofs.Meanings.{pure_out, pure_said, said_is}
use Rattle.cg_modes.proofs.Laws.{verdict_out}
use Rattle.cg_model_pure_eval.specs.Typed.{Answer}
use Rattle.cg_model_pure_eval.specs.Typing.{paired, moded, bound, typed}
use Rattle.cg_model_pure_eval.specs.Parting.{value_typed}
use Rattle.cg_model_pure_eval.specs.Branching.{taken_want, taken_typed, either_typed, if_typed}
use Rattle.cg_model_pure_eval.specs.declared.typed.Typed.{Typed}
use Rattle.cg_model_pure_eval.proofs.Typings.{after_value, lead_two, loose_op, loose_mode}

-- A mode of as many bits as the one that leads.
abbrev pub HasBitsOf : Verdict → Mode → Type 0
HasBitsOf (Ok k) mode = bits_of k ≡ bits_of mode
HasBitsOf (Err e) mode = ⊥

abbrev pub IsTaken : Machine → Bool → Mode → Option Mode → Rtl → Type 0
IsTaken m loose mode want x = HasBitsOf (mode_in m x [] (taken_want loose mode want)) mode

abbrev pub taken_value : Machine → Around → Bool → Mode → Option Mode → Rtl → ℕ
taken_value m a loose mode want x = pure_value m a x (taken_want loose mode want)

-- The same as `after_mode` with nothing behind the mode.
pub settled : (v : Verdict) (w : ℕ) (g : Mode → Answer) → ((k : Mode) → v ≡ Ok k → Ok (record { mode = k; value = w }) ≡ g k) → paired v w ≡ moded v g
settled (Ok k) w g h = h k refl
settled (Err e) w g h = refl

pub no_fault : (e : ModeFault) (k : Mode) → Err e ≡ Ok k → ⊥
no_fault e k h = grind (arith, common_steps)

-- Where all have a mode, the last one's is the whole's, and the first ones have one.
last_is : (s t l : Verdict) (mode : Mode) → and_then s (λ k. and_then t (λ j. l)) ≡ Ok mode → l ≡ Ok mode
last_is (Ok k) (Ok j) l mode h = h
last_is (Ok k) (Err e) l mode h = absurd (no_fault e mode h)
last_is (Err e) t l mode h = absurd (no_fault e mode h)

abbrev pub IsFine : Verdict → Type 0
IsFine (Ok k) = Unit {0}
IsFine (Err e) = ⊥

first_fine : (s t : Verdict) (f : Mode → Verdict) (mode : Mode) → and_then s (λ k. and_then t f) ≡ Ok mode → IsFine s
first_fine (Ok k) t f mode h = tt
first_fine (Err e) t f mode h = absurd (no_fault e mode h)

second_fine : (s t : Verdict) (f : Mode → Verdict) (mode : Mode) → and_then s (λ k. and_then t f) ≡ Ok mode → IsFine t
second_fine (Ok k) (Ok j) f mode h = tt
second_fine (Ok k) (Err e) f mode h = absurd (no_fault e mode h)
second_fine (Err e) t f mode h = absurd (no_fault e mode h)

-- Values stand among choices as operands do.
lead_same : (m : Machine) (written want : Option Mode) (x y : Checked) → leading_choice m [] written want (plain_choice x ∷ plain_choice y ∷ []) ≡ leading m [] written want (x ∷ y ∷ [])
lead_same m (Some k) want x y = refl
lead_same m None want x y = by (is_loose x.said) (is_loose y.said) where
  by : (b c : Bool) → ◌≡◌ {A = Verdict} (elim (if b then (if c then None else Some (plain_choice y)) else Some (plain_choice x)) [ Some z ↦ z.verdict [] want | None ↦ Ok (unwrap_or want (word_mode m.word_bits)) ]) (elim (if b then (if c then None else Some y) else Some x) [ Some z ↦ z.verdict [] want | None ↦ Ok (unwrap_or want (word_mode m.word_bits)) ])
  by true true = refl
  by true false = refl
  by false true = refl
  by false false = refl

-- A loose value has the mode that leads, and another as many bits.
pub loose_fits : (m : Machine) (r : Rtl) (mode : Mode) → is_loose (out-Rtl r) ≡ true → mode_in m r [] (Some mode) ≡ fits mode (out-Rtl r).number
loose_fits m r mode e =
    verdict_out m r [] (Some mode)
    ∙ ap (λ o. verdict_of m o (out-Rtl r).mode (out-Rtl r).number (map (checked m) (out-Rtl r).items) [] (Some mode)) (loose_op (out-Rtl r).op (out-Rtl r).mode e)
    ∙ ap (λ w. verdict_of m op.Number w (out-Rtl r).number (map (checked m) (out-Rtl r).items) [] (Some mode)) (loose_mode (out-Rtl r).op (out-Rtl r).mode e)

pub fits_bits : (mode : Mode) (n : ℤ) → IsFine (fits mode n) → HasBitsOf (fits mode n) mode
fits_bits mode n = by (not (bits_of mode == 0) && in_range (bits_of mode) n) where
  by : (b : Bool) → IsFine (if b then Ok mode else Err (fault 402)) → HasBitsOf (if b then Ok mode else Err (fault 402)) mode
  by true h = refl
  by false h = absurd h

agrees_bits : (mode k : Mode) → IsFine (agrees mode k) → bits_of k ≡ bits_of mode
agrees_bits mode k = by (bits_of mode == bits_of k) (bits_of k == 0) (λ e. same (bits_of mode) (bits_of k) e) where
  same : (i j : ℕ) → (i == j) ≡ true → j ≡ i
  same i j e = grind (arith, nat_tests)

  by : (b c : Bool) → (b ≡ true → bits_of k ≡ bits_of mode) → IsFine (if b then Ok mode else if c then Err (fault 404) else Err (disagreement mode k)) → bits_of k ≡ bits_of mode
  by true c h f = h refl
  by false true h f = absurd f
  by false false h f = absurd f

meets_bits : (written : Option Mode) (mode k : Mode) → IsFine (meets written mode k) → bits_of k ≡ bits_of mode
meets_bits (Some w) mode k f = agrees_bits mode k f
meets_bits None mode k f = by (bits_of mode == 0 && not (bits_of k == 0)) f where
  by : (b : Bool) → IsFine (if b then Err (fault 404) else agrees mode k) → bits_of k ≡ bits_of mode
  by true f = absurd f
  by false f = agrees_bits mode k f

pub met_bits : (v : Verdict) (written : Option Mode) (mode : Mode) → IsFine (and_then v (λ k. meets written mode k)) → HasBitsOf v mode
met_bits (Ok k) written mode f = meets_bits written mode k f
met_bits (Err e) written mode f = absurd f

turn_taken : (m : Machine) (written want : Option Mode) (mode : Mode) (x : Rtl) → IsFine (value_turn [] written (Ok mode) want (plain_choice (checked m x))) → IsTaken m (is_loose (out-Rtl x)) mode want x
turn_taken m written want mode x f = by (is_loose (out-Rtl x)) (λ e. e) (subst (λ s. IsFine (if is_loose s then (checked m x).verdict [] (Some mode) else and_then ((checked m x).verdict [] want) (λ k. meets written mode k))) (said_is m x) f) where
  by : (b : Bool) → (b ≡ true → is_loose (out-Rtl x) ≡ true) → IsFine (if b then (checked m x).verdict [] (Some mode) else and_then ((checked m x).verdict [] want) (λ k. meets written mode k)) → HasBitsOf ((checked m x).verdict [] (if b then Some mode else want)) mode
  by true e f =
      let is : (checked m x).verdict [] (Some mode) ≡ fits mode (out-Rtl x).number = loose_fits m x mode (e refl) in
      subst (λ v. HasBitsOf v mode) (sym is) (fits_bits mode (out-Rtl x).number (subst IsFine is f))
  by false e f = met_bits ((checked m x).verdict [] want) written mode f

-- Of an `if` that has a mode both values can be taken in it.
if_out : (m : Machine) (r : Rtl) (want : Option Mode) (c x y : Rtl) → (out-Rtl r).op ≡ op.If → (out-Rtl r).items ≡ c ∷ x ∷ y ∷ [] →
    mode_in m r [] want ≡ and_then (judged_value [] (checked m c)) (λ k. choices m [] (out-Rtl r).mode want (plain_choice (checked m x) ∷ plain_choice (checked m y) ∷ []))
if_out m r want c x y o e =
    verdict_out m r [] want
    ∙ ap (λ p. verdict_of m p (out-Rtl r).mode (out-Rtl r).number (map (checked m) (out-Rtl r).items) [] want) o
    ∙ ap (λ xs. verdict_of m op.If (out-Rtl r).mode (out-Rtl r).number (map (checked m) xs) [] want) e

pub chosen_is : (j v : Verdict) (mode : Mode) → and_then j (λ k. v) ≡ Ok mode → v ≡ Ok mode
chosen_is (Ok k) v mode h = h
chosen_is (Err e) v mode h = absurd (no_fault e mode h)

choices_lead : (m : Machine) (written want : Option Mode) (x y : Checked) (mode : Mode) → choices m [] written want (plain_choice x ∷ plain_choice y ∷ []) ≡ Ok mode → leading_choice m [] written want (plain_choice x ∷ plain_choice y ∷ []) ≡ Ok mode
choices_lead m written want x y mode h =
    let l : Verdict = leading_choice m [] written want (plain_choice x ∷ plain_choice y ∷ []) in
    last_is (value_turn [] written l (option_or written want) (plain_choice x)) (value_turn [] written l (option_or written want) (plain_choice y)) l mode h

choices_first : (m : Machine) (w want : Option Mode) (x y : Rtl) (mode : Mode) → choices m [] w want (plain_choice (checked m x) ∷ plain_choice (checked m y) ∷ []) ≡ Ok mode → IsTaken m (is_loose (out-Rtl x)) mode (option_or w want) x
choices_first m w want x y mode v =
    let l : Verdict = leading_choice m [] w want (plain_choice (checked m x) ∷ plain_choice (checked m y) ∷ []) in
    let f = first_fine (value_turn [] w l (option_or w want) (plain_choice (checked m x))) (value_turn [] w l (option_or w want) (plain_choice (checked m y))) (λ k. l) mode v in
    turn_taken m w (option_or w want) mode x (subst (λ q. IsFine (value_turn [] w q (option_or w want) (plain_choice (checked m x)))) (choices_lead m w want (checked m x) (checked m y) mode v) f)

choices_second : (m : Machine) (w want : Option Mode) (x y : Rtl) (mode : Mode) → choices m [] w want (plain_choice (checked m x) ∷ plain_choice (checked m y) ∷ []) ≡ Ok mode → IsTaken m (is_loose (out-Rtl y)) mode (option_or w want) y
choices_second m w want x y mode v =
    let l : Verdict = leading_choice m [] w want (plain_choice (checked m x) ∷ plain_choice (checked m y) ∷ []) in
    let f = second_fine (value_turn [] w l (option_or w want) (plain_choice (checked m x))) (value_turn [] w l (option_or w want) (plain_choice (checked m y))) (λ k. l) mode v in
    turn_taken m w (option_or w want) mode y (subst (λ q. IsFine (value_turn [] w q (option_or w want) (plain_choice (checked m y)))) (choices_lead m w want (checked m x) (checked m y) mode v) f)

taken_is : (m : Machine) (a : Around) (mode : Mode) (want : Option Mode) (x : Rtl) → operand_gives (pure_meaning m a x) [] mode want ≡ taken_value m a (is_loose (out-Rtl x)) mode want x
taken_is m a mode want x = ap (λ s. (pure_meaning m a x).gives [] (if is_loose s then Some mode else want)) (pure_said m a x)

same_fine : (mode k : Mode) → bits_of k ≡ bits_of mode → same_bits mode k ≡ Ok mode
same_fine mode k e = ap (λ b. if b then Ok mode else Err (fault 402)) (same (bits_of mode) (bits_of k) e) where
  same : (i j : ℕ) → j ≡ i → (i == j) ≡ true
  same i j e = grind (arith, nat_tests)

fine_by : (v : Verdict) (n : ℕ) (mode : Mode) → HasBitsOf v mode → bound (paired v n) (λ t. moded (same_bits mode t.mode) (λ k. Ok (record { mode = mode; value = t.value }))) ≡ Ok (record { mode = mode; value = n })
fine_by (Ok k) n mode h = ap (λ (u : Verdict). moded u (λ k. Ok (record { mode = mode; value = n }))) (same_fine mode k h)
fine_by (Err e) n mode h = absurd h

-- What has a mode of the right width is taken.
pub fine_taken : (m : Machine) (a : Around) (loose : Bool) (mode : Mode) (want : Option Mode) (x : Rtl) → IsTaken m loose mode want x → taken_typed m a loose mode want x ≡ Ok (record { mode = mode; value = taken_value m a loose mode want x })
unfolding taken_typed typed
fine_taken m a loose mode want x h = fine_by (mode_in m x [] (taken_want loose mode want)) (taken_value m a loose mode want x) mode h

no_value : (b : Bool) → ◌≡◌ {A = ℕ} (if b then 0 else 0) 0
no_value true = refl
no_value false = refl

if_listed : (m : Machine) (a : Around) (r : Rtl) (want : Option Mode) (xs : List Rtl) → (out-Rtl r).op ≡ op.If → (out-Rtl r).items ≡ xs → paired (mode_in m r [] want) (pure_gives m a op.If (out-Rtl r).mode (out-Rtl r).number (map (pure_meaning m a) xs) [] want) ≡ if_typed m a r want xs
unfolding if_typed value_typed
if_listed m a r want [] o e = refl
if_listed m a r want (c ∷ []) o e = refl
if_listed m a r want (c ∷ x ∷ []) o e = ap (paired (mode_in m r [] want)) (no_value ((pure_meaning m a c).gives [] None == 0))
if_listed m a r want (c ∷ x ∷ y ∷ z ∷ zs) o e = refl
if_listed m a r want (c ∷ x ∷ y ∷ []) o e =
    let w : Option Mode = (out-Rtl r).mode in
    let n : ℕ = (pure_meaning m a c).gives [] None in
    let v : Verdict = choices m [] (out-Rtl r).mode want (plain_choice (checked m x) ∷ plain_choice (checked m y) ∷ []) in
    let at : Mode = lead m [] w want (pure_meaning m a x ∷ pure_meaning m a y ∷ []) in
    let n_all : ℕ = if n == 0 then operand_gives (pure_meaning m a y) [] at (option_or w want) else operand_gives (pure_meaning m a x) [] at (option_or w want) in
    let g = λ (t : Typed). moded (mode_in m r [] want) (λ mode. either_typed m a t.value mode (option_or w want) x y) in
    ap (λ u. paired u n_all) (if_out m r want c x y o e)
    ∙ after_value (judged_value [] (checked m c)) (λ k. v) n n_all g (λ k ek.
    settled v n_all (λ mode. either_typed m a n mode (option_or w want) x y) (λ mode em.
    ap (λ j. Ok (record { mode = mode; value = if n == 0 then operand_gives (pure_meaning m a y) [] j (option_or w want) else operand_gives (pure_meaning m a x) [] j (option_or w want) })) (lead_two m a w want x y mode (sym (lead_same m w want (checked m x) (checked m y)) ∙ choices_lead m w want (checked m x) (checked m y) mode em))
    ∙ ap (λ i. Ok (record { mode = mode; value = if n == 0 then i else operand_gives (pure_meaning m a x) [] mode (option_or w want) })) (taken_is m a mode (option_or w want) y)
    ∙ ap (λ i. Ok (record { mode = mode; value = if n == 0 then taken_value m a (is_loose (out-Rtl y)) mode (option_or w want) y else i })) (taken_is m a mode (option_or w want) x)
    ∙ either_fine m a (n == 0) mode (option_or w want) x y (choices_first m w want x y mode em) (choices_second m w want x y mode em))
    ∙ ap (λ u. moded u (λ mode. either_typed m a n mode (option_or w want) x y)) (sym (if_out m r want c x y o e ∙ ap (λ j. and_then j (λ k. v)) ek))) where
      either_fine : (m : Machine) (a : Around) (b : Bool) (mode : Mode) (wants : Option Mode) (x y : Rtl) → IsTaken m (is_loose (out-Rtl x)) mode wants x → IsTaken m (is_loose (out-Rtl y)) mode wants y
          → Ok (record { mode = mode; value = if b then taken_value m a (is_loose (out-Rtl y)) mode wants y else taken_value m a (is_loose (out-Rtl x)) mode wants x })
          ≡ (if b then taken_typed m a (is_loose (out-Rtl y)) mode wants y else taken_typed m a (is_loose (out-Rtl x)) mode wants x)
      either_fine m a true mode wants x y first second = sym (fine_taken m a (is_loose (out-Rtl y)) mode wants y second)
      either_fine m a false mode wants x y first second = sym (fine_taken m a (is_loose (out-Rtl x)) mode wants x first)

pub if_law : (m : Machine) (a : Around) (r : Rtl) (want : Option Mode) → (out-Rtl r).op ≡ op.If → typed m a r want ≡ if_typed m a r want (out-Rtl r).items
unfolding typed
if_law m a r want o =
    ap (λ n. paired (mode_in m r [] want) n) (pure_out m a r [] want ∙ ap (λ p. pure_gives m a p (out-Rtl r).mode (out-Rtl r).number (map (pure_meaning m a) (out-Rtl r).items) [] want) o)
    ∙ if_listed m a r want (out-Rtl r).items o refl
