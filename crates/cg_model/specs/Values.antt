-- What expressions give, whichever way a value is had: at once, as in the rules of fields and in assertions, or in turn, with
-- writes, traps and questions to devices, as in semantics. What both share is said here once.
use Rattle.std.specs.Prelude.{ℕ, ◌+◌, ◌-◌, ◌*◌, ◌/◌, ◌%◌, ◌^◌, Bool, true, false, ◌&&◌, ◌==◌, if◌then◌else◌, List, [], ◌∷◌, map, take, drop, ℤ, unsigned_abs, Option, Some, None, Ok, Err}
use Rattle.std.specs.List.{list_any}
use Rattle.std.specs.Option.{option_or, unwrap_or}
use Rattle.cg_base.specs.declared.Mode.{Mode}
use Rattle.cg_base.specs.declared.Mode.TheVariants.{Bi, Void}
use Rattle.cg_base.specs.declared.UnaryOp.{UnaryOp}
use Rattle.cg_base.specs.declared.UnaryOp.TheVariants.{Not}
use Rattle.cg_base.specs.declared.BinaryOp.{BinaryOp}
use Rattle.cg_base.specs.declared.TernaryOp.{TernaryOp}
use Rattle.cg_base.specs.Modes.{bits_of, word_mode}
use Rattle.cg_base.specs.Operations.{wrapped, as_signed, divides, unary_value, binary_value, ternary_value}
use Rattle.cg_model.specs.Operators.{at_number, unary_ops, binary_ops, ternary_ops, kind_of, keeps_mode}
use Rattle.cg_model.specs.Placed.{Level}
use Rattle.cg_model.specs.Checked.{Checked, Locals, Verdict, checked_step, leading, leading_choice, arm_choice, is_loose, last_loose, any_mode, ends_with_else}
use Rattle.cg_model.specs.declared.judged.Kind.{Kind}
use Rattle.cg_model.specs.declared.judged.Kind.TheVariants.{Arithmetic, Shift, Comparison}
use Rattle.cg_model.specs.declared.machine.Machine.{Machine}
use Rattle.cg_model.specs.declared.rtl.Op.{Op}
use Rattle.cg_model.specs.declared.rtl.Op.TheVariants as op
use Rattle.cg_model.specs.declared.rtl.Rtl.{Rtl, out-Rtl}
use Rattle.cg_model.specs.declared.rtl.Rtl.TheOpen.{Rtl-F}
use Rattle.cg_model.specs.declared.rtl.Rtl.TheFolds.{fold-Rtl}

-- What an expression means: how it is judged; what it gives, by the modes of the locals around and the mode that is wanted of it;
-- where it is an arm of a `cond`, what its test gives; and where it is a place, what setting it to a value does. (An arm's tests
-- and a place's index are items of an item, so arms and places speak for themselves.)
pub record Meaning (V : Type 0) : Type 0 where
  pub checked : Checked
  pub gives : Locals → Option Mode → V
  pub test : Locals → V
  pub puts : Locals → V → V

-- A way in which values are had: a value that is known, what follows a value, and a quotient by 0.
pub record Way (V : Type 0) : Type 0 where
  pub value : ℕ → V
  pub after : V → (ℕ → V) → V
  pub zero_divisor : V

-- At once: there is nothing but values. Pure expressions don't divide.
abbrev pub at_once : Way ℕ
at_once = record { value = λ n. n; after = λ x f. f x; zero_divisor = 0 }

-- The mode of an expression that has one.
abbrev pub mode_or_void : Verdict → Mode
mode_or_void (Ok k) = k
mode_or_void (Err e) = Void

abbrev pub mode_at : {V : Type 0} → Meaning V → Locals → Option Mode → Mode
mode_at x l want = mode_or_void (x.checked.verdict l want)

abbrev pub loose : {V : Type 0} → Meaning V → Bool
loose x = is_loose x.checked.said

-- The mode wanted of an expression of which any mode will do.
abbrev pub any_of : {V : Type 0} → Meaning V → Option Mode
any_of x = any_mode x.checked.said

abbrev pub any_gives : {V : Type 0} → Meaning V → Locals → V
any_gives x l = x.gives l (any_of x)

-- The mode that operands agree on.
abbrev pub lead : {V : Type 0} → Machine → Locals → Option Mode → Option Mode → List (Meaning V) → Mode
lead {V} m l written want xs = mode_or_void (leading m l written want (map (λ x. x.checked) xs))

-- An operand where the operands agree on a mode: a loose one takes it.
abbrev pub operand_gives : {V : Type 0} → Meaning V → Locals → Mode → Option Mode → V
operand_gives x l mode want = x.gives l (if loose x then Some mode else want)

-- One operand.
abbrev pub unary_gives : {V : Type 0} → Machine → Way V → Option UnaryOp → Option Mode → List (Meaning V) → Locals → Option Mode → V
unary_gives m w (Some Not) written (x ∷ []) l want = w.after (any_gives x l) (λ a. w.value (unary_value Not (bits_of (mode_at x l (any_of x))) a))
unary_gives m w (Some o) written (x ∷ []) l want =
    let mode = lead m l written want (x ∷ []) in w.after (operand_gives x l mode (option_or written want)) (λ a. w.value (unary_value o (bits_of mode) a))
unary_gives m w _ written xs l want = w.value 0

-- Two operands, from left to right.
abbrev pub both : {V : Type 0} → Way V → V → V → (ℕ → ℕ → V) → V
both w x y f = w.after x (λ a. w.after y (λ b. f a b))

abbrev pub binary_answer : {V : Type 0} → Way V → BinaryOp → Mode → ℕ → ℕ → V
binary_answer w o mode a b = if divides o && b == 0 then w.zero_divisor else w.value (binary_value o (bits_of mode) a b)

-- The count of a shift has any mode. The operands of a comparison agree where none is wanted.
abbrev pub kind_gives : {V : Type 0} → Machine → Way V → Kind → BinaryOp → Option Mode → Meaning V → Meaning V → Locals → Option Mode → V
kind_gives m w Arithmetic o written x y l want =
    let mode = lead m l written want (x ∷ y ∷ []) in
    both w (operand_gives x l mode (option_or written want)) (operand_gives y l mode (option_or written want)) (binary_answer w o mode)
kind_gives m w Shift o written x y l want =
    let mode = lead m l written want (x ∷ []) in both w (operand_gives x l mode (option_or written want)) (any_gives y l) (binary_answer w o mode)
kind_gives m w Comparison o written x y l want =
    let mode = lead m l written None (x ∷ y ∷ []) in both w (operand_gives x l mode written) (operand_gives y l mode written) (binary_answer w o mode)

abbrev pub binary_gives : {V : Type 0} → Machine → Way V → Option BinaryOp → Option Mode → List (Meaning V) → Locals → Option Mode → V
binary_gives m w (Some o) written (x ∷ y ∷ []) l want = kind_gives m w (kind_of o) o written x y l want
binary_gives m w _ written xs l want = w.value 0

-- Two operands that agree and a carry of one bit.
abbrev pub carry_gives : {V : Type 0} → Machine → Way V → TernaryOp → Option Mode → Meaning V → Meaning V → Meaning V → Locals → Option Mode → V
carry_gives m w o written x y c l want =
    let mode = lead m l written want (x ∷ y ∷ []) in
    both w (operand_gives x l mode (option_or written want)) (operand_gives y l mode (option_or written want))
    (λ a b. w.after (c.gives l (Some Bi)) (λ d. w.value (ternary_value o (bits_of mode) a b d)))

-- The operands of a flag agree where none is wanted.
abbrev pub ternary_gives : {V : Type 0} → Machine → Way V → Option TernaryOp → Option Mode → List (Meaning V) → Locals → Option Mode → V
ternary_gives m w (Some o) written (x ∷ y ∷ c ∷ []) l want = carry_gives m w o written x y c l (if keeps_mode o then want else None)
ternary_gives m w _ written xs l want = w.value 0

-- 1 where none is 0, up to the first that is.
abbrev pub all_hold : {V : Type 0} → Way V → Locals → List (Meaning V) → V
all_hold w l [] = w.value 1
all_hold w l (x ∷ xs) = w.after (any_gives x l) (λ a. if a == 0 then w.value 0 else all_hold w l xs)

-- 1 where some isn't 0, up to the first such.
abbrev pub some_holds : {V : Type 0} → Way V → Locals → List (Meaning V) → V
some_holds w l [] = w.value 0
some_holds w l (x ∷ xs) = w.after (any_gives x l) (λ a. if a == 0 then some_holds w l xs else w.value 1)

-- `ext` repeats the highest bit of a value, whether its mode has a sign or not; one bit alone is no sign.
abbrev pub extended_to : Option Mode → Mode → ℕ → ℕ
extended_to written from a = wrapped (bits_of (unwrap_or written Void)) (as_signed (bits_of from) a)

abbrev pub cut_to : Option Mode → ℕ → ℕ
cut_to written a = a % 2 ^ bits_of (unwrap_or written Void)

abbrev pub resized : {V : Type 0} → Way V → (Mode → ℕ → ℕ) → List (Meaning V) → Locals → V
resized w f (x ∷ []) l = w.after (any_gives x l) (λ a. w.value (f (mode_at x l (any_of x)) a))
resized w f xs l = w.value 0

-- Part number n of a value, the most significant one being 0.
abbrev pub part_of : Option Mode → ℕ → Mode → ℕ → ℕ
part_of written n from a = let part = bits_of (unwrap_or written Void) in a / 2 ^ (bits_of from - (n + 1) * part) % 2 ^ part

abbrev pub subword_gives : {V : Type 0} → Way V → Option Mode → ℕ → List (Meaning V) → Locals → V
subword_gives w written n (x ∷ []) l = w.after (x.gives l None) (λ a. w.value (part_of written n (mode_at x l None) a))
subword_gives w written n xs l = w.value 0

-- Parts side by side, the first the most significant, behind those that stand already.
abbrev pub joined_gives : {V : Type 0} → Way V → Locals → Mode → ℕ → List (Meaning V) → V
joined_gives w l part n [] = w.value n
joined_gives w l part n (x ∷ xs) = w.after (x.gives l (Some part)) (λ a. joined_gives w l part (n * 2 ^ bits_of part + a) xs)

abbrev pub join_gives : {V : Type 0} → Way V → List (Meaning V) → Locals → V
join_gives w [] l = w.value 0
join_gives w (part ∷ xs) l = joined_gives w l (mode_at part l None) 0 xs

-- Where there is no other arm, the value is dropped.
abbrev pub dropped : {V : Type 0} → Way V → V → V
dropped w x = w.after x (λ a. w.value 0)

abbrev pub if_gives : {V : Type 0} → Machine → Way V → Option Mode → List (Meaning V) → Locals → Option Mode → V
if_gives m w written (c ∷ x ∷ []) l want = w.after (c.gives l None) (λ a. if a == 0 then w.value 0 else dropped w (x.gives l None))
if_gives m w written (c ∷ x ∷ y ∷ []) l want =
    let mode = lead m l written want (x ∷ y ∷ []) in
    w.after (c.gives l None) (λ a. if a == 0 then operand_gives y l mode (option_or written want) else operand_gives x l mode (option_or written want))
if_gives m w written xs l want = w.value 0

-- One after another, with the last one's value.
abbrev pub in_order_gives : {V : Type 0} → Way V → Locals → Option Mode → List (Meaning V) → V
in_order_gives w l want [] = w.value 0
in_order_gives w l want (x ∷ []) = x.gives l want
in_order_gives w l want (x ∷ y ∷ ys) = w.after (x.gives l None) (λ a. in_order_gives w l want (y ∷ ys))

-- An arm without tests is always taken.
abbrev pub is_else : {V : Type 0} → Meaning V → Bool
is_else arm = unsigned_abs arm.checked.said.number == 0

-- The first arm whose test isn't 0 is taken.
abbrev pub cond_gives : {V : Type 0} → Way V → (Meaning V → V) → Locals → List (Meaning V) → V
cond_gives w f l [] = w.value 0
cond_gives w f l (arm ∷ arms) = if is_else arm then f arm else w.after (arm.test l) (λ a. if a == 0 then cond_gives w f l arms else f arm)

-- The tests of an arm of a `case` are numbers. One that is the value, modulo 2 ^ bits, names it.
abbrev pub names_value : ℕ → ℕ → Rtl → Bool
names_value bits a test = wrapped bits (out-Rtl test).number == a

abbrev pub is_named : Level → ℕ → ℕ → Bool
is_named arm bits a = list_any (names_value bits a) (take (unsigned_abs arm.number) arm.items)

-- The first arm that names the value is taken.
abbrev pub case_gives : {V : Type 0} → Way V → (Meaning V → V) → ℕ → ℕ → List (Meaning V) → V
case_gives w f bits a [] = w.value 0
case_gives w f bits a (arm ∷ arms) = if is_else arm then f arm else if is_named arm.checked.said bits a then f arm else case_gives w f bits a arms

-- The mode that the values of arms agree on.
abbrev pub arms_lead : {V : Type 0} → Machine → Locals → Bool → Option Mode → Option Mode → List (Meaning V) → Mode
arms_lead {V} m l tested written want arms = mode_or_void (leading_choice m l written want (map (λ x. arm_choice tested x.checked) arms))

abbrev pub arm_operand : {V : Type 0} → Locals → Mode → Option Mode → Meaning V → V
arm_operand l mode want arm = arm.gives l (if last_loose arm.checked.said.items then Some mode else want)

-- What the arm that is taken gives: as an operand where the arms agree, and nothing where none need be taken.
abbrev pub arm_gives : {V : Type 0} → Machine → Way V → Bool → Option Mode → List (Meaning V) → Locals → Option Mode → Meaning V → V
arm_gives m w tested written arms l want arm =
    if ends_with_else (map (λ x. x.checked.said) arms) then arm_operand l (arms_lead m l tested written want arms) (option_or written want) arm
    else dropped w (arm.gives l None)

abbrev pub chosen_gives : {V : Type 0} → Machine → Way V → Option Mode → List (Meaning V) → Locals → Option Mode → V
chosen_gives m w written [] l want = w.value 0
chosen_gives m w written (x ∷ arms) l want =
    w.after (x.gives l None) (λ a. case_gives w (arm_gives m w false written arms l want) (bits_of (mode_at x l None)) a arms)

-- What the operations give that pure expressions and semantics share. What isn't among them gives 0.
abbrev pub shared_gives : {V : Type 0} → Machine → Way V → Op → Option Mode → ℤ → List (Meaning V) → Locals → Option Mode → V
shared_gives m w op.Number written n xs l want = w.value (wrapped (bits_of (unwrap_or (option_or written want) (word_mode m.word_bits))) n)
shared_gives m w op.Unary written n xs l want = unary_gives m w (at_number unary_ops n) written xs l want
shared_gives m w op.Binary written n xs l want = binary_gives m w (at_number binary_ops n) written xs l want
shared_gives m w op.Ternary written n xs l want = ternary_gives m w (at_number ternary_ops n) written xs l want
shared_gives m w op.AndIf written n xs l want = all_hold w l xs
shared_gives m w op.OrIf written n xs l want = some_holds w l xs
shared_gives m w op.Ext written n xs l want = resized w (extended_to written) xs l
shared_gives m w op.Zext written n xs l want = resized w (λ from a. a) xs l
shared_gives m w op.Trunc written n xs l want = resized w (λ from a. cut_to written a) xs l
shared_gives m w op.Subword written n xs l want = subword_gives w written (unsigned_abs n) xs l
shared_gives m w op.Join written n xs l want = join_gives w xs l
shared_gives m w op.If written n xs l want = if_gives m w written xs l want
shared_gives m w op.Cond written n arms l want = cond_gives w (arm_gives m w true written arms l want) l arms
shared_gives m w op.Case written n xs l want = chosen_gives m w written xs l want
shared_gives m w op.Arm written n xs l want = in_order_gives w l want (drop (unsigned_abs n) xs)
shared_gives m w _ written n xs l want = w.value 0

-- What an arm's first test gives.
abbrev pub test_gives : {V : Type 0} → Way V → List (Meaning V) → Locals → V
test_gives w [] l = w.value 0
test_gives w (x ∷ xs) l = x.gives l None

-- What each operation gives, and what setting it does where it is a place, by what its items mean.
pub record Steps (V : Type 0) : Type 0 where
  pub gives : Op → Option Mode → ℤ → List (Meaning V) → Locals → Option Mode → V
  pub puts : Op → Option Mode → ℤ → List (Meaning V) → Locals → V → V

abbrev pub layer_checked : {V : Type 0} → Rtl-F (Meaning V) → Rtl-F Checked
layer_checked f = record { op = f.op; mode = f.mode; number = f.number; items = map (λ x. x.checked) f.items }

abbrev pub meaning_step : {V : Type 0} → Machine → Way V → Steps V → Rtl-F (Meaning V) → Meaning V
meaning_step m w s f = record {
  checked = checked_step m (layer_checked f);
  gives = s.gives f.op f.mode f.number f.items;
  test = test_gives w f.items;
  puts = s.puts f.op f.mode f.number f.items;
}

unfoldable pub meaning : {V : Type 0} → Machine → Way V → Steps V → Rtl → Meaning V
meaning {V} m w s r = fold-Rtl (Meaning V) (meaning_step m w s) r
