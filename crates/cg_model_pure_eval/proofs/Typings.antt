-- What expressions give with their modes, by what their items give.
use Rattle.std.proofs.Common.{◌≡◌, ℕ, Bool, true, false, not, nat_le, ◌&&◌, ◌==◌, if◌then◌else◌, ◌∙◌, refl, ap, List, [], ◌∷◌, map, Option, Some, None, ℤ, Ok, Err, arith}
use Rattle.std.specs.Option.{option_or, unwrap_or}
use Rattle.std.proofs.lemmas.Grind.{common_steps}
use Rattle.cg_base.specs.declared.Mode.{Mode}
use Rattle.cg_base.specs.declared.Mode.TheVariants.{Bi}
use Rattle.cg_base.specs.declared.BinaryOp.{BinaryOp}
use Rattle.cg_model.specs.declared.judged.Kind.{Kind}
use Rattle.cg_model.specs.declared.judged.Kind.TheVariants.{Arithmetic, Shift, Comparison}
use Rattle.cg_model_pure_eval.proofs.Bounds.{shift_counts}
use Rattle.cg_base.specs.declared.UnaryOp.{UnaryOp}
use Rattle.cg_base.specs.declared.UnaryOp.TheVariants.{Neg, Inv, Not, Abs}
use Rattle.cg_base.specs.Modes.{bits_of, word_mode}
use Rattle.cg_base.specs.Operations.{unary_value, wrapped}
use Rattle.cg_model.specs.Checked.{Verdict, and_then, valued, checked, given, leading, mode_in, unary_mode, judged_any, operand, verdict_of, any_mode, number_mode, fits, fault, in_range, is_loose, is_number, is_none, agrees, kind_mode, each_operand, stated, wider, narrower}
use Rattle.cg_model.specs.Operators.{at_number, unary_ops, binary_ops, kind_of}
use Rattle.cg_model.specs.Pure.{Around, pure_meaning, pure_gives}
use Rattle.cg_model.specs.Values.{Meaning, at_once, mode_or_void, any_gives, operand_gives, unary_gives, kind_gives, binary_answer, extended_to, cut_to, lead, any_of, mode_at}
use Rattle.cg_model.specs.declared.machine.Machine.{Machine}
use Rattle.cg_model.specs.declared.rtl.Op.{Op}
use Rattle.cg_model.specs.declared.rtl.Op.TheVariants as op
use Rattle.cg_model.specs.declared.rtl.Rtl.{Rtl, out-Rtl}
use Rattle.cg_model.proofs.Meanings.{pure_out, pure_checked, pure_said, said_is}
use Rattle.cg_modes.proofs.Laws.{verdict_out}
use Rattle.cg_model_pure_eval.specs.Typed.{Answer}
use Rattle.cg_model_pure_eval.specs.Typing.{has_no_value, unary_at, binary_at, paired, moded, bound, typed, any_typed, operand_typed, lead_of, unary_typed, kind_typed, binary_typed, resized_typed, ext_typed, zext_typed, trunc_typed, number_verdict, fits_verdict, in_mode}
use Rattle.cg_model_pure_eval.specs.declared.typed.Typed.{Typed}

-- What follows a value, and what follows a mode alone.
pub after_value : (v : Verdict) (f : Mode → Verdict) (n w : ℕ) (g : Typed → Answer) → ((k : Mode) → v ≡ Ok k → paired (f k) w ≡ g (record { mode = k; value = n })) → paired (and_then v f) w ≡ bound (paired v n) g
after_value (Ok k) f n w g h = h k refl
after_value (Err e) f n w g h = refl

pub after_mode : (v : Verdict) (f : Mode → Verdict) (w : ℕ) (g : Mode → Answer) → ((k : Mode) → v ≡ Ok k → paired (f k) w ≡ g k) → paired (and_then v f) w ≡ moded v g
after_mode (Ok k) f w g h = h k refl
after_mode (Err e) f w g h = refl

-- A value whose mode is known to be another's.
pub after_operand : (v : Verdict) (mode : Mode) (f : Mode → Verdict) (n w : ℕ) (g : Typed → Answer) → ((k : Mode) → paired (f k) w ≡ g (record { mode = mode; value = n })) → paired (and_then v f) w ≡ bound (paired (and_then v (λ k. Ok mode)) n) g
after_operand (Ok k) mode f n w g h = h k
after_operand (Err e) mode f n w g h = refl

pub then_then : (v : Verdict) (f g : Mode → Verdict) → and_then (and_then v f) g ≡ and_then v (λ k. and_then (f k) g)
then_then (Ok k) f g = refl
then_then (Err e) f g = refl

pub or_none : (w : Option Mode) → option_or w None ≡ w
or_none None = refl
or_none (Some k) = refl

pub valued_is : (v : Verdict) (k : Mode) → and_then v valued ≡ Ok k → mode_or_void v ≡ k
valued_is (Ok j) k e = grind (arith, common_steps)
valued_is (Err f) k e = grind (arith, common_steps)

-- The mode of an expression of which any mode will do.
pub any_is : (m : Machine) (a : Around) (x : Rtl) (k : Mode) → judged_any [] (checked m x) ≡ Ok k → mode_at (pure_meaning m a x) [] (any_of (pure_meaning m a x)) ≡ k
any_is m a x k e = rw (pure_checked m a x) (valued_is ((checked m x).verdict [] (any_mode (checked m x).said)) k e)

not_law : (m : Machine) (a : Around) (written want : Option Mode) (x : Rtl) → paired (unary_mode m (Some Not) written (checked m x) [] want) (unary_gives m at_once (Some Not) written (pure_meaning m a x ∷ []) [] want) ≡ unary_typed m a (Some Not) written (x ∷ []) want
unfolding unary_typed any_typed unary_at
not_law m a written want x =
    after_value (judged_any [] (checked m x)) (λ k. Ok Bi) (any_gives (pure_meaning m a x) []) _ (λ t. Ok (record { mode = Bi; value = unary_value Not (bits_of t.mode) t.value }))
    (λ k e. ap (λ j. Ok (record { mode = Bi; value = unary_value Not (bits_of j) (any_gives (pure_meaning m a x) []) })) (any_is m a x k e))

pub lead_one : (m : Machine) (a : Around) (written want : Option Mode) (x : Rtl) (k : Mode) → leading m [] written want (checked m x ∷ []) ≡ Ok k → lead m [] written want (pure_meaning m a x ∷ []) ≡ k
lead_one m a written want x k e = rw (pure_checked m a x) (ap mode_or_void e)

pub lead_two : (m : Machine) (a : Around) (written want : Option Mode) (x y : Rtl) (k : Mode) → leading m [] written want (checked m x ∷ checked m y ∷ []) ≡ Ok k → lead m [] written want (pure_meaning m a x ∷ pure_meaning m a y ∷ []) ≡ k
lead_two m a written want x y k e = rw (pure_checked m a x, pure_checked m a y) (ap mode_or_void e)

stays_law : (m : Machine) (a : Around) (o : UnaryOp) (written want : Option Mode) (x : Rtl) →
    paired (and_then (given written) (λ g. and_then (leading m [] written want (checked m x ∷ [])) (λ mode. and_then (operand [] mode (option_or written want) (checked m x)) (λ k. Ok mode))))
    (unary_value o (bits_of (lead m [] written want (pure_meaning m a x ∷ []))) (operand_gives (pure_meaning m a x) [] (lead m [] written want (pure_meaning m a x ∷ [])) (option_or written want)))
    ≡ moded (given written) (λ g. moded (lead_of m written want (x ∷ [])) (λ mode. bound (operand_typed m a mode (option_or written want) x) (λ t. Ok (record { mode = mode; value = unary_at o mode t.value }))))
unfolding lead_of operand_typed unary_at
stays_law m a o written want x =
    after_mode (given written) _ _ _ (λ g eg.
    after_mode (leading m [] written want (checked m x ∷ [])) _ _ _ (λ mode em.
    after_operand (operand [] mode (option_or written want) (checked m x)) mode (λ k. Ok mode) (operand_gives (pure_meaning m a x) [] mode (option_or written want)) _ (λ t. Ok (record { mode = mode; value = unary_value o (bits_of mode) t.value })) (λ k.
    ap (λ j. paired (Ok mode) (unary_value o (bits_of j) (operand_gives (pure_meaning m a x) [] j (option_or written want)))) (lead_one m a written want x mode em))))

unary_listed : (m : Machine) (a : Around) (o : Option UnaryOp) (written want : Option Mode) (n : ℤ) (xs : List Rtl) → at_number unary_ops n ≡ o →
    paired (verdict_of m op.Unary written n (map (checked m) xs) [] want) (pure_gives m a op.Unary written n (map (pure_meaning m a) xs) [] want) ≡ unary_typed m a o written xs want
unfolding unary_typed unary_at
unary_listed m a None written want n [] e = refl
unary_listed m a (Some Neg) written want n [] e = refl
unary_listed m a (Some Inv) written want n [] e = refl
unary_listed m a (Some Not) written want n [] e = refl
unary_listed m a (Some Abs) written want n [] e = refl
unary_listed m a None written want n (x ∷ []) e = rw e refl
unary_listed m a (Some Not) written want n (x ∷ []) e = rw e (not_law m a written want x)
unary_listed m a (Some Neg) written want n (x ∷ []) e = rw e (stays_law m a Neg written want x)
unary_listed m a (Some Inv) written want n (x ∷ []) e = rw e (stays_law m a Inv written want x)
unary_listed m a (Some Abs) written want n (x ∷ []) e = rw e (stays_law m a Abs written want x)
unary_listed m a None written want n (x ∷ y ∷ xs) e = refl
unary_listed m a (Some Neg) written want n (x ∷ y ∷ xs) e = refl
unary_listed m a (Some Inv) written want n (x ∷ y ∷ xs) e = refl
unary_listed m a (Some Not) written want n (x ∷ y ∷ xs) e = refl
unary_listed m a (Some Abs) written want n (x ∷ y ∷ xs) e = refl

-- At an expression that is opened.
typed_out : (m : Machine) (a : Around) (r : Rtl) (want : Option Mode) → typed m a r want ≡ paired (verdict_of m (out-Rtl r).op (out-Rtl r).mode (out-Rtl r).number (map (checked m) (out-Rtl r).items) [] want) (pure_gives m a (out-Rtl r).op (out-Rtl r).mode (out-Rtl r).number (map (pure_meaning m a) (out-Rtl r).items) [] want)
unfolding typed
typed_out m a r want = rw (verdict_out m r [] want, pure_out m a r [] want) refl

pub unary_law : (m : Machine) (a : Around) (r : Rtl) (want : Option Mode) → (out-Rtl r).op ≡ op.Unary → typed m a r want ≡ unary_typed m a (at_number unary_ops (out-Rtl r).number) (out-Rtl r).mode (out-Rtl r).items want
unary_law m a r want o =
    typed_out m a r want
    ∙ ap (λ p. paired (verdict_of m p (out-Rtl r).mode (out-Rtl r).number (map (checked m) (out-Rtl r).items) [] want) (pure_gives m a p (out-Rtl r).mode (out-Rtl r).number (map (pure_meaning m a) (out-Rtl r).items) [] want)) o
    ∙ unary_listed m a (at_number unary_ops (out-Rtl r).number) (out-Rtl r).mode want (out-Rtl r).number (out-Rtl r).items refl

-- At an expression of one operation.
abbrev pub layer : Machine → Around → Op → Option Mode → ℤ → List Rtl → Option Mode → Answer
layer m a o written n items want = paired (verdict_of m o written n (map (checked m) items) [] want) (pure_gives m a o written n (map (pure_meaning m a) items) [] want)

pub typed_at : (m : Machine) (a : Around) (r : Rtl) (want : Option Mode) (o : Op) → (out-Rtl r).op ≡ o → typed m a r want ≡ layer m a o (out-Rtl r).mode (out-Rtl r).number (out-Rtl r).items want
typed_at m a r want o e = typed_out m a r want ∙ ap (λ p. layer m a p (out-Rtl r).mode (out-Rtl r).number (out-Rtl r).items want) e

-- A leaf whose value is the same in each mode.
leaf_law : (m : Machine) (a : Around) (r : Rtl) (want : Option Mode) (o : Op) → (out-Rtl r).op ≡ o → (v : ℕ) → ((xs : List (Meaning ℕ)) → pure_gives m a o (out-Rtl r).mode (out-Rtl r).number xs [] want ≡ v) → typed m a r want ≡ paired (mode_in m r [] want) v
unfolding typed
leaf_law m a r want o e v h =
    ap (λ n. paired ((checked m r).verdict [] want) n)
    (pure_out m a r [] want ∙ ap (λ p. pure_gives m a p (out-Rtl r).mode (out-Rtl r).number (map (pure_meaning m a) (out-Rtl r).items) [] want) e ∙ h (map (pure_meaning m a) (out-Rtl r).items))

fitted : (k : Mode) (n : ℤ) → paired (fits k n) (wrapped (bits_of k) n) ≡ moded (fits k n) (λ j. Ok (record { mode = j; value = wrapped (bits_of j) n }))
fitted k n = by (not (bits_of k == 0) && in_range (bits_of k) n) where
  by : (b : Bool) → paired (if b then Ok k else Err (fault 402)) (wrapped (bits_of k) n) ≡ moded (if b then Ok k else Err (fault 402)) (λ j. Ok (record { mode = j; value = wrapped (bits_of j) n }))
  by true = refl
  by false = refl

pub off : false ≡ true → ⊥
off e = grind (arith, common_steps)

pub first_true : (a b : Bool) → (a && b) ≡ true → a ≡ true
first_true true b h = refl
first_true false b h = h

pub both_true : (a b : Bool) → (a && b) ≡ true → b ≡ true
both_true true b h = h
both_true false b h = absurd (off h)

-- A number.
number_at : (m : Machine) (a : Around) (written want : Option Mode) (n : ℤ) (xs : List Rtl) → layer m a op.Number written n xs want ≡ moded (number_mode m written want n) (λ k. Ok (record { mode = k; value = wrapped (bits_of k) n }))
number_at m a written want n xs = fitted (unwrap_or (option_or written want) (word_mode m.word_bits)) n

pub number_law : (m : Machine) (a : Around) (r : Rtl) (want : Option Mode) → (out-Rtl r).op ≡ op.Number → typed m a r want ≡ moded (number_verdict m r want) (λ k. Ok (record { mode = k; value = in_mode k r }))
unfolding number_verdict in_mode
number_law m a r want e = typed_at m a r want op.Number e ∙ number_at m a (out-Rtl r).mode want (out-Rtl r).number (out-Rtl r).items

pub value_law : (m : Machine) (a : Around) (r : Rtl) (want : Option Mode) → (out-Rtl r).op ≡ op.Value → typed m a r want ≡ paired (mode_in m r [] want) a.value
value_law m a r want e = leaf_law m a r want op.Value e (a.value) (λ xs. refl)

pub pc_law : (m : Machine) (a : Around) (r : Rtl) (want : Option Mode) → (out-Rtl r).op ≡ op.Pc → typed m a r want ≡ paired (mode_in m r [] want) a.pc
pc_law m a r want e = leaf_law m a r want op.Pc e (a.pc) (λ xs. refl)

pub field_law : (m : Machine) (a : Around) (r : Rtl) (want : Option Mode) → (out-Rtl r).op ≡ op.FieldRef → typed m a r want ≡ paired (mode_in m r [] want) (a.field (out-Rtl r).number)
field_law m a r want e = leaf_law m a r want op.FieldRef e (a.field (out-Rtl r).number) (λ xs. refl)

pub multi_law : (m : Machine) (a : Around) (r : Rtl) (want : Option Mode) → (out-Rtl r).op ≡ op.MultiRef → typed m a r want ≡ paired (mode_in m r [] want) (a.multi (out-Rtl r).number)
multi_law m a r want e = leaf_law m a r want op.MultiRef e (a.multi (out-Rtl r).number) (λ xs. refl)

-- What has no value.
valueless : (m : Machine) (a : Around) (o : Op) (w want : Option Mode) (n : ℤ) (xs : List (Meaning ℕ)) → has_no_value o ≡ true → pure_gives m a o w n xs [] want ≡ 0
valueless m a op.Number w want n xs e = absurd (off e)
valueless m a op.Local w want n xs e = refl
valueless m a op.OperandRef w want n xs e = refl
valueless m a op.Value w want n xs e = absurd (off e)
valueless m a op.Index w want n xs e = refl
valueless m a op.NewVal w want n xs e = refl
valueless m a op.Pc w want n xs e = absurd (off e)
valueless m a op.FieldRef w want n xs e = absurd (off e)
valueless m a op.MultiRef w want n xs e = absurd (off e)
valueless m a op.IndexOf w want n xs e = refl
valueless m a op.Unary w want n xs e = absurd (off e)
valueless m a op.Binary w want n xs e = absurd (off e)
valueless m a op.Ternary w want n xs e = absurd (off e)
valueless m a op.AndIf w want n xs e = absurd (off e)
valueless m a op.OrIf w want n xs e = absurd (off e)
valueless m a op.Ext w want n xs e = absurd (off e)
valueless m a op.Zext w want n xs e = absurd (off e)
valueless m a op.Trunc w want n xs e = absurd (off e)
valueless m a op.Subword w want n xs e = absurd (off e)
valueless m a op.Join w want n xs e = absurd (off e)
valueless m a op.If w want n xs e = absurd (off e)
valueless m a op.Cond w want n xs e = absurd (off e)
valueless m a op.Case w want n xs e = absurd (off e)
valueless m a op.Arm w want n xs e = absurd (off e)
valueless m a op.Sequence w want n xs e = refl
valueless m a op.Declare w want n xs e = refl
valueless m a op.Parallel w want n xs e = refl
valueless m a op.Set w want n xs e = refl
valueless m a op.Reg w want n xs e = refl
valueless m a op.RawReg w want n xs e = refl
valueless m a op.Mem w want n xs e = refl
valueless m a op.Delay w want n xs e = refl
valueless m a op.Nop w want n xs e = refl
valueless m a op.Error w want n xs e = refl
valueless m a op.Halt w want n xs e = refl

pub nothing_law : (m : Machine) (a : Around) (r : Rtl) (want : Option Mode) → has_no_value (out-Rtl r).op ≡ true → typed m a r want ≡ paired (mode_in m r [] want) 0
nothing_law m a r want e = leaf_law m a r want (out-Rtl r).op refl 0 (λ xs. valueless m a (out-Rtl r).op (out-Rtl r).mode want (out-Rtl r).number xs e)

-- A loose operand takes the mode that leads.
number_is : (o : Op) → is_number o ≡ true → o ≡ op.Number
number_is op.Number e = refl
number_is op.Local e = absurd (off e)
number_is op.OperandRef e = absurd (off e)
number_is op.Value e = absurd (off e)
number_is op.Index e = absurd (off e)
number_is op.NewVal e = absurd (off e)
number_is op.Pc e = absurd (off e)
number_is op.FieldRef e = absurd (off e)
number_is op.MultiRef e = absurd (off e)
number_is op.IndexOf e = absurd (off e)
number_is op.Unary e = absurd (off e)
number_is op.Binary e = absurd (off e)
number_is op.Ternary e = absurd (off e)
number_is op.AndIf e = absurd (off e)
number_is op.OrIf e = absurd (off e)
number_is op.Ext e = absurd (off e)
number_is op.Zext e = absurd (off e)
number_is op.Trunc e = absurd (off e)
number_is op.Subword e = absurd (off e)
number_is op.Join e = absurd (off e)
number_is op.If e = absurd (off e)
number_is op.Cond e = absurd (off e)
number_is op.Case e = absurd (off e)
number_is op.Arm e = absurd (off e)
number_is op.Sequence e = absurd (off e)
number_is op.Declare e = absurd (off e)
number_is op.Parallel e = absurd (off e)
number_is op.Set e = absurd (off e)
number_is op.Reg e = absurd (off e)
number_is op.RawReg e = absurd (off e)
number_is op.Mem e = absurd (off e)
number_is op.Delay e = absurd (off e)
number_is op.Nop e = absurd (off e)
number_is op.Error e = absurd (off e)
number_is op.Halt e = absurd (off e)

pub loose_op : (o : Op) (w : Option Mode) → (is_number o && is_none w) ≡ true → o ≡ op.Number
loose_op o w e = number_is o (first_true (is_number o) (is_none w) e)

pub loose_mode : (o : Op) (w : Option Mode) → (is_number o && is_none w) ≡ true → w ≡ None
loose_mode o None e = refl
loose_mode o (Some k) e = absurd (off (both_true (is_number o) false e))

loose_at : (m : Machine) (a : Around) (r : Rtl) (mode : Mode) → (checked m r).said ≡ out-Rtl r → is_loose (out-Rtl r) ≡ true →
    paired (and_then ((checked m r).verdict [] (Some mode)) (λ k. Ok mode)) ((pure_meaning m a r).gives [] (Some mode)) ≡ moded (fits mode (out-Rtl r).number) (λ k. Ok (record { mode = mode; value = wrapped (bits_of mode) (out-Rtl r).number }))
loose_at m a r mode s e =
    ap (λ v. paired (and_then v (λ k. Ok mode)) ((pure_meaning m a r).gives [] (Some mode))) (verdict_out m r [] (Some mode))
    ∙ ap (λ v. paired (and_then (verdict_of m (out-Rtl r).op (out-Rtl r).mode (out-Rtl r).number (map (checked m) (out-Rtl r).items) [] (Some mode)) (λ k. Ok mode)) v) (pure_out m a r [] (Some mode))
    ∙ ap (λ o. paired (and_then (verdict_of m o (out-Rtl r).mode (out-Rtl r).number (map (checked m) (out-Rtl r).items) [] (Some mode)) (λ k. Ok mode)) (pure_gives m a o (out-Rtl r).mode (out-Rtl r).number (map (pure_meaning m a) (out-Rtl r).items) [] (Some mode))) (loose_op (out-Rtl r).op (out-Rtl r).mode e)
    ∙ ap (λ w. paired (and_then (verdict_of m op.Number w (out-Rtl r).number (map (checked m) (out-Rtl r).items) [] (Some mode)) (λ k. Ok mode)) (pure_gives m a op.Number w (out-Rtl r).number (map (pure_meaning m a) (out-Rtl r).items) [] (Some mode))) (loose_mode (out-Rtl r).op (out-Rtl r).mode e)
    ∙ after_mode (fits mode (out-Rtl r).number) (λ k. Ok mode) _ (λ k. Ok (record { mode = mode; value = wrapped (bits_of mode) (out-Rtl r).number })) (λ k f. refl)

pub loose_law : (m : Machine) (a : Around) (r : Rtl) (mode : Mode) (want : Option Mode) → is_loose (out-Rtl r) ≡ true → operand_typed m a mode want r ≡ moded (fits_verdict mode r) (λ k. Ok (record { mode = mode; value = in_mode mode r }))
unfolding operand_typed fits_verdict in_mode
loose_law m a r mode want e =
    let judged : is_loose (checked m r).said ≡ true = ap is_loose (said_is m r) ∙ e in
    let given_so : is_loose (pure_meaning m a r).checked.said ≡ true = ap is_loose (pure_said m a r) ∙ e in
    ap (λ b. paired (and_then (if b then (checked m r).verdict [] (Some mode) else and_then ((checked m r).verdict [] want) (λ k. and_then (valued k) (agrees mode))) (λ k. Ok mode)) (operand_gives (pure_meaning m a r) [] mode want)) judged
    ∙ ap (λ b. paired (and_then ((checked m r).verdict [] (Some mode)) (λ k. Ok mode)) ((pure_meaning m a r).gives [] (if b then Some mode else want))) given_so
    ∙ loose_at m a r mode (said_is m r) e

-- Two operands.
arithmetic_law : (m : Machine) (a : Around) (o : BinaryOp) (written want : Option Mode) (x y : Rtl) → paired (kind_mode m Arithmetic written (checked m x) (checked m y) [] want) (kind_gives m at_once Arithmetic o written (pure_meaning m a x) (pure_meaning m a y) [] want) ≡ kind_typed m a Arithmetic o written x y want
unfolding kind_typed lead_of operand_typed binary_at
arithmetic_law m a o written want x y =
    after_mode (leading m [] written want (checked m x ∷ checked m y ∷ [])) _ _ _ (λ mode em.
    after_operand (operand [] mode (option_or written want) (checked m x)) mode _ (operand_gives (pure_meaning m a x) [] mode (option_or written want)) _ (λ s. bound (operand_typed m a mode (option_or written want) y) (λ t. Ok (record { mode = mode; value = binary_answer at_once o mode s.value t.value }))) (λ k.
    after_operand (operand [] mode (option_or written want) (checked m y)) mode (λ i. Ok mode) (operand_gives (pure_meaning m a y) [] mode (option_or written want)) _ (λ t. Ok (record { mode = mode; value = binary_answer at_once o mode (operand_gives (pure_meaning m a x) [] mode (option_or written want)) t.value })) (λ i.
    ap (λ j. paired (Ok mode) (binary_answer at_once o j (operand_gives (pure_meaning m a x) [] j (option_or written want)) (operand_gives (pure_meaning m a y) [] j (option_or written want)))) (lead_two m a written want x y mode em))))

shift_law : (m : Machine) (a : Around) (o : BinaryOp) (written want : Option Mode) (x y : Rtl) → paired (kind_mode m Shift written (checked m x) (checked m y) [] want) (kind_gives m at_once Shift o written (pure_meaning m a x) (pure_meaning m a y) [] want) ≡ kind_typed m a Shift o written x y want
unfolding kind_typed lead_of operand_typed any_typed binary_at
shift_law m a o written want x y =
    ap (λ v. paired v (kind_gives m at_once Shift o written (pure_meaning m a x) (pure_meaning m a y) [] want)) (then_then (leading m [] written want (checked m x ∷ [])) (λ mode. and_then (operand [] mode (option_or written want) (checked m x)) (λ k. Ok mode)) (λ mode. and_then (judged_any [] (checked m y)) (λ c. Ok mode)))
    ∙ after_mode (leading m [] written want (checked m x ∷ [])) _ _ _ (λ mode em.
    ap (λ v. paired v (kind_gives m at_once Shift o written (pure_meaning m a x) (pure_meaning m a y) [] want)) (then_then (operand [] mode (option_or written want) (checked m x)) (λ k. Ok mode) (λ j. and_then (judged_any [] (checked m y)) (λ c. Ok j)))
    ∙ after_operand (operand [] mode (option_or written want) (checked m x)) mode _ (operand_gives (pure_meaning m a x) [] mode (option_or written want)) _ (λ s. bound (any_typed m a y) (λ t. Ok (record { mode = mode; value = binary_answer at_once o mode s.value t.value }))) (λ k.
    after_value (judged_any [] (checked m y)) (λ c. Ok mode) (any_gives (pure_meaning m a y) []) _ (λ t. Ok (record { mode = mode; value = binary_answer at_once o mode (operand_gives (pure_meaning m a x) [] mode (option_or written want)) t.value })) (λ c ec.
    ap (λ j. paired (Ok mode) (binary_answer at_once o j (operand_gives (pure_meaning m a x) [] j (option_or written want)) (any_gives (pure_meaning m a y) []))) (lead_one m a written want x mode em))))

comparison_law : (m : Machine) (a : Around) (o : BinaryOp) (written want : Option Mode) (x y : Rtl) → paired (kind_mode m Comparison written (checked m x) (checked m y) [] want) (kind_gives m at_once Comparison o written (pure_meaning m a x) (pure_meaning m a y) [] want) ≡ kind_typed m a Comparison o written x y want
unfolding kind_typed lead_of operand_typed binary_at
comparison_law m a o written want x y =
    ap (λ w. paired (and_then (and_then (leading m [] written None (checked m x ∷ checked m y ∷ [])) (λ mode. each_operand [] mode w (checked m x ∷ checked m y ∷ []))) (λ mode. Ok Bi)) (kind_gives m at_once Comparison o written (pure_meaning m a x) (pure_meaning m a y) [] want)) (or_none written)
    ∙ ap (λ v. paired v (kind_gives m at_once Comparison o written (pure_meaning m a x) (pure_meaning m a y) [] want)) (then_then (leading m [] written None (checked m x ∷ checked m y ∷ [])) (λ mode. each_operand [] mode written (checked m x ∷ checked m y ∷ [])) (λ mode. Ok Bi))
    ∙ after_mode (leading m [] written None (checked m x ∷ checked m y ∷ [])) _ _ _ (λ mode em.
    ap (λ v. paired v (kind_gives m at_once Comparison o written (pure_meaning m a x) (pure_meaning m a y) [] want)) (then_then (operand [] mode written (checked m x)) (λ k. and_then (operand [] mode written (checked m y)) (λ i. Ok mode)) (λ j. Ok Bi))
    ∙ after_operand (operand [] mode written (checked m x)) mode _ (operand_gives (pure_meaning m a x) [] mode written) _ (λ s. bound (operand_typed m a mode written y) (λ t. Ok (record { mode = Bi; value = binary_answer at_once o mode s.value t.value }))) (λ k.
    ap (λ v. paired v (kind_gives m at_once Comparison o written (pure_meaning m a x) (pure_meaning m a y) [] want)) (then_then (operand [] mode written (checked m y)) (λ i. Ok mode) (λ j. Ok Bi))
    ∙ after_operand (operand [] mode written (checked m y)) mode (λ i. Ok Bi) (operand_gives (pure_meaning m a y) [] mode written) _ (λ t. Ok (record { mode = Bi; value = binary_answer at_once o mode (operand_gives (pure_meaning m a x) [] mode written) t.value })) (λ i.
    ap (λ j. paired (Ok Bi) (binary_answer at_once o j (operand_gives (pure_meaning m a x) [] j written) (operand_gives (pure_meaning m a y) [] j written))) (lead_two m a written None x y mode em))))

kind_law : (m : Machine) (a : Around) (k : Kind) (o : BinaryOp) (written want : Option Mode) (x y : Rtl) → paired (kind_mode m k written (checked m x) (checked m y) [] want) (kind_gives m at_once k o written (pure_meaning m a x) (pure_meaning m a y) [] want) ≡ kind_typed m a k o written x y want
kind_law m a Arithmetic o written want x y = arithmetic_law m a o written want x y
kind_law m a Shift o written want x y = shift_law m a o written want x y
kind_law m a Comparison o written want x y = comparison_law m a o written want x y

binary_listed : (m : Machine) (a : Around) (o : Option BinaryOp) (written want : Option Mode) (n : ℤ) (xs : List Rtl) → at_number binary_ops n ≡ o → layer m a op.Binary written n xs want ≡ binary_typed m a o written xs want
unfolding binary_typed
binary_listed m a o written want n [] e = refl
binary_listed m a o written want n (x ∷ []) e = refl
binary_listed m a o written want n (x ∷ y ∷ z ∷ xs) e = refl
binary_listed m a None written want n (x ∷ y ∷ []) e = rw e refl
binary_listed m a (Some o) written want n (x ∷ y ∷ []) e = rw e (after_mode (given written) _ _ _ (λ g eg. kind_law m a (kind_of o) o written want x y))

pub binary_law : (m : Machine) (a : Around) (r : Rtl) (want : Option Mode) → (out-Rtl r).op ≡ op.Binary → typed m a r want ≡ binary_typed m a (at_number binary_ops (out-Rtl r).number) (out-Rtl r).mode (out-Rtl r).items want
binary_law m a r want o = typed_at m a r want op.Binary o ∙ binary_listed m a (at_number binary_ops (out-Rtl r).number) (out-Rtl r).mode want (out-Rtl r).number (out-Rtl r).items refl

-- A mode that is written is the one that is stated.
pub stated_is : (w : Option Mode) (k : Mode) → stated w ≡ Ok k → w ≡ Some k
stated_is None k e = grind (arith, common_steps)
stated_is (Some j) k e = grind (arith, common_steps)

resized_law : (m : Machine) (a : Around) (ok : Mode → Mode → Verdict) (f : Option Mode → Mode → ℕ → ℕ) (written : Option Mode) (x : Rtl) → ((to from : Mode) (n : ℕ) → paired (ok to from) n ≡ moded (ok to from) (λ k. Ok (record { mode = to; value = n }))) →
    paired (and_then (stated written) (λ to. and_then (judged_any [] (checked m x)) (ok to))) (f written (mode_at (pure_meaning m a x) [] (any_of (pure_meaning m a x))) (any_gives (pure_meaning m a x) []))
    ≡ resized_typed m a ok (λ to from n. f (Some to) from n) written x
unfolding any_typed
resized_law m a ok f written x fits_so =
    let n : ℕ = any_gives (pure_meaning m a x) [] in
    let at : Mode = mode_at (pure_meaning m a x) [] (any_of (pure_meaning m a x)) in
    after_mode (stated written) (λ to. and_then (judged_any [] (checked m x)) (ok to)) _ (λ to. bound (any_typed m a x) (λ t. moded (ok to t.mode) (λ k. Ok (record { mode = to; value = f (Some to) t.mode t.value })))) (λ to et.
    after_value (judged_any [] (checked m x)) (ok to) (any_gives (pure_meaning m a x) []) _ (λ t. moded (ok to t.mode) (λ k. Ok (record { mode = to; value = f (Some to) t.mode t.value }))) (λ k ek.
    ap (λ w. paired (ok to k) (f w at n)) (stated_is written to et) ∙ ap (λ j. paired (ok to k) (f (Some to) j n)) (any_is m a x k ek) ∙ fits_so to k (f (Some to) k n)))

wider_so : (to from : Mode) (n : ℕ) → paired (wider to from) n ≡ moded (wider to from) (λ k. Ok (record { mode = to; value = n }))
wider_so to from n = by (nat_le (bits_of from) (bits_of to)) where
  by : (b : Bool) → paired (if b then Ok to else Err (fault 402)) n ≡ moded (if b then Ok to else Err (fault 402)) (λ k. Ok (record { mode = to; value = n }))
  by true = refl
  by false = refl

narrower_so : (to from : Mode) (n : ℕ) → paired (narrower to from) n ≡ moded (narrower to from) (λ k. Ok (record { mode = to; value = n }))
narrower_so to from n = by (nat_le (bits_of to) (bits_of from)) where
  by : (b : Bool) → paired (if b then Ok to else Err (fault 402)) n ≡ moded (if b then Ok to else Err (fault 402)) (λ k. Ok (record { mode = to; value = n }))
  by true = refl
  by false = refl

ext_listed : (m : Machine) (a : Around) (written want : Option Mode) (n : ℤ) (xs : List Rtl) → layer m a op.Ext written n xs want ≡ ext_typed m a written xs
unfolding ext_typed
ext_listed m a written want n [] = refl
ext_listed m a written want n (x ∷ []) = resized_law m a wider extended_to written x wider_so
ext_listed m a written want n (x ∷ y ∷ xs) = refl

pub ext_law : (m : Machine) (a : Around) (r : Rtl) (want : Option Mode) → (out-Rtl r).op ≡ op.Ext → typed m a r want ≡ ext_typed m a (out-Rtl r).mode (out-Rtl r).items
ext_law m a r want o = typed_at m a r want op.Ext o ∙ ext_listed m a (out-Rtl r).mode want (out-Rtl r).number (out-Rtl r).items

zext_listed : (m : Machine) (a : Around) (written want : Option Mode) (n : ℤ) (xs : List Rtl) → layer m a op.Zext written n xs want ≡ zext_typed m a written xs
unfolding zext_typed
zext_listed m a written want n [] = refl
zext_listed m a written want n (x ∷ []) = resized_law m a wider (λ w from n. n) written x wider_so
zext_listed m a written want n (x ∷ y ∷ xs) = refl

pub zext_law : (m : Machine) (a : Around) (r : Rtl) (want : Option Mode) → (out-Rtl r).op ≡ op.Zext → typed m a r want ≡ zext_typed m a (out-Rtl r).mode (out-Rtl r).items
zext_law m a r want o = typed_at m a r want op.Zext o ∙ zext_listed m a (out-Rtl r).mode want (out-Rtl r).number (out-Rtl r).items

trunc_listed : (m : Machine) (a : Around) (written want : Option Mode) (n : ℤ) (xs : List Rtl) → layer m a op.Trunc written n xs want ≡ trunc_typed m a written xs
unfolding trunc_typed
trunc_listed m a written want n [] = refl
trunc_listed m a written want n (x ∷ []) = resized_law m a narrower (λ w from n. cut_to w n) written x narrower_so
trunc_listed m a written want n (x ∷ y ∷ xs) = refl

pub trunc_law : (m : Machine) (a : Around) (r : Rtl) (want : Option Mode) → (out-Rtl r).op ≡ op.Trunc → typed m a r want ≡ trunc_typed m a (out-Rtl r).mode (out-Rtl r).items
trunc_law m a r want o = typed_at m a r want op.Trunc o ∙ trunc_listed m a (out-Rtl r).mode want (out-Rtl r).number (out-Rtl r).items

pub ruleset typing_rules = (common_steps, unary_law, binary_law, ext_law, zext_law, trunc_law, number_law, value_law, pc_law, field_law, multi_law, loose_law, shift_counts)

pub ruleset leaf_laws = (common_steps, nothing_law, value_law, pc_law, field_law, multi_law)
