-- The mode of each expression, and the first fault where it has none. Expressions are judged from left to right.
use Rattle.std.specs.Prelude.{ℕ, ◌-◌, ◌/◌, ◌^◌, Bool, true, false, not, ◌&&◌, ◌==◌, nat_le, nat_lt, if◌then◌else◌, List, [], ◌∷◌, ◌++◌, map, length, take, drop, ℤ, pos, neg_ℤ, int_le, unsigned_abs, Option, Some, None, Result, Ok, Err}
use Rattle.std.specs.Option.{option_or, unwrap_or}
use Rattle.cg_base.specs.declared.Mode.{Mode}
use Rattle.cg_base.specs.declared.Mode.TheVariants.{Bi, Usi, Void}
use Rattle.cg_base.specs.declared.UnaryOp.{UnaryOp}
use Rattle.cg_base.specs.declared.UnaryOp.TheVariants.{Not}
use Rattle.cg_base.specs.declared.BinaryOp.{BinaryOp}
use Rattle.cg_base.specs.declared.TernaryOp.{TernaryOp}
use Rattle.cg_base.specs.Modes.{bits_of, word_mode, address_mode}
use Rattle.cg_model.specs.Placed.{Level, hardware_of, delays, small}
use Rattle.cg_model.specs.Operators.{at_number, unary_ops, binary_ops, ternary_ops, kind_of, keeps_mode}
use Rattle.cg_model.specs.declared.hardware.HwKind.TheVariants as kind
use Rattle.cg_model.specs.declared.hardware.Hardware.{Hardware}
use Rattle.cg_model.specs.declared.machine.Machine.{Machine}
use Rattle.cg_model.specs.declared.judged.ModeFault.{ModeFault}
use Rattle.cg_model.specs.declared.judged.Local.{Local}
use Rattle.cg_model.specs.declared.judged.Kind.{Kind}
use Rattle.cg_model.specs.declared.judged.Kind.TheVariants.{Arithmetic, Shift, Comparison}
use Rattle.cg_model.specs.declared.rtl.Op.{Op}
use Rattle.cg_model.specs.declared.rtl.Op.TheVariants as op
use Rattle.cg_model.specs.declared.rtl.Rtl.{Rtl, roll-Rtl, out-Rtl}
use Rattle.cg_model.specs.declared.rtl.Rtl.TheOpen.{Rtl-F}
use Rattle.cg_model.specs.declared.rtl.Rtl.TheFolds.{fold-Rtl}

-- A mode, or why there is none.
abbrev pub Verdict : Type 0
Verdict = Result Mode ModeFault

-- A fault that names no modes.
abbrev pub fault : ℕ → ModeFault
fault number = record { number = number; first = None; second = None }

-- The first mode was to be agreed with, and the second doesn't.
abbrev pub disagreement : Mode → Mode → ModeFault
disagreement first second = record { number = 401; first = Some first; second = Some second }

-- A shape that the language doesn't have: no description leads to it.
abbrev pub no_shape : ModeFault
no_shape = fault 304

-- What follows where the first has a mode.
abbrev pub and_then : Verdict → (Mode → Verdict) → Verdict
and_then (Ok k) f = f k
and_then (Err e) f = Err e

-- A mode where a value is needed.
abbrev pub valued : Mode → Verdict
valued k = if bits_of k == 0 then Err (fault 404) else Ok k

-- A mode that may be written where a value is meant, and none.
abbrev pub given : Option Mode → Verdict
given None = Ok Void
given (Some k) = if bits_of k == 0 then Err (fault 402) else Ok k

-- A mode that is written where one must be.
abbrev pub stated : Option Mode → Verdict
stated None = Err no_shape
stated (Some k) = given (Some k)

-- Two modes agree where they have as many bits.
abbrev pub agrees : Mode → Mode → Verdict
agrees first second =
    if bits_of first == bits_of second then Ok first else if bits_of second == 0 then Err (fault 404) else Err (disagreement first second)

-- A number stands in bits from the least of those with a sign to the greatest of those without.
abbrev pub in_range : ℕ → ℤ → Bool
in_range bits n = int_le (neg_ℤ (pos (2 ^ (bits - 1)))) n && int_le n (pos (2 ^ bits - 1))

abbrev pub fits : Mode → ℤ → Verdict
fits k n = if not (bits_of k == 0) && in_range (bits_of k) n then Ok k else Err (fault 402)

-- The locals of the sequences around, from the outermost on.
abbrev pub Locals : Type 0
Locals = List Local

-- The locals inside of a `parallel`.
abbrev pub beyond : Local → Local
beyond x = record x { outside = true }

abbrev pub from_outside : Locals → Locals
from_outside l = map beyond l

-- An expression as it is judged: itself; where it is an arm, its tests and then its expressions but the last; and its mode, by the
-- locals around and the mode that is wanted of it.
pub record Checked : Type 0 where
  pub said : Level
  pub asked : Locals → Verdict
  pub front : Locals → Verdict
  pub verdict : Locals → Option Mode → Verdict

abbrev pub is_number : Op → Bool
is_number op.Number = true
is_number _ = false

abbrev pub is_arm : Op → Bool
is_arm op.Arm = true
is_arm _ = false

abbrev pub is_none : Option Mode → Bool
is_none None = true
is_none (Some k) = false

-- A loose expression is a number without a mode of its own.
abbrev pub is_loose : Level → Bool
is_loose r = is_number r.op && is_none r.mode

-- The mode wanted of an expression of which any mode will do: a loose one takes UINT.
abbrev pub any_mode : Level → Option Mode
any_mode r = if is_loose r then Some Usi else None

abbrev pub judged_any : Locals → Checked → Verdict
judged_any l x = and_then (x.verdict l (any_mode x.said)) valued

-- A value of which no mode is wanted, as a test: a loose one takes the word's.
abbrev pub judged_value : Locals → Checked → Verdict
judged_value l x = and_then (x.verdict l None) valued

abbrev pub each_value : Locals → List Checked → Verdict
each_value l [] = Ok Void
each_value l (x ∷ xs) = and_then (judged_value l x) (λ k. each_value l xs)

abbrev pub each_any : Locals → List Checked → Verdict
each_any l [] = Ok Void
each_any l (x ∷ xs) = and_then (judged_any l x) (λ k. each_any l xs)

-- Expressions whose values are dropped.
abbrev pub each_dropped : Locals → List Checked → Verdict
each_dropped l [] = Ok Void
each_dropped l (x ∷ xs) = and_then (x.verdict l None) (λ k. each_dropped l xs)

-- All but the last, whose values are dropped.
abbrev pub all_but_last : Locals → List Checked → Verdict
all_but_last l [] = Err no_shape
all_but_last l (x ∷ []) = Ok Void
all_but_last l (x ∷ y ∷ ys) = and_then (x.verdict l None) (λ k. all_but_last l (y ∷ ys))

abbrev pub last_verdict : Locals → Option Mode → List Checked → Verdict
last_verdict l want [] = Err no_shape
last_verdict l want (x ∷ []) = x.verdict l want
last_verdict l want (x ∷ y ∷ ys) = last_verdict l want (y ∷ ys)

-- An operand where a mode leads: a loose one takes it, another must agree with it.
abbrev pub operand : Locals → Mode → Option Mode → Checked → Verdict
operand l mode want x =
    if is_loose x.said then x.verdict l (Some mode) else and_then (x.verdict l want) (λ k. and_then (valued k) (agrees mode))

abbrev pub each_operand : Locals → Mode → Option Mode → List Checked → Verdict
each_operand l mode want [] = Ok mode
each_operand l mode want (x ∷ xs) = and_then (operand l mode want x) (λ k. each_operand l mode want xs)

abbrev pub first_firm : List Checked → Option Checked
first_firm [] = None
first_firm (x ∷ xs) = if is_loose x.said then first_firm xs else Some x

-- The mode that leads: the one that is written, else that of the first operand that isn't loose, else the wanted one, else the
-- word's.
abbrev pub leading : Machine → Locals → Option Mode → Option Mode → List Checked → Verdict
leading m l (Some k) want xs = Ok k
leading m l None want xs = elim (first_firm xs) [ Some x ↦ x.verdict l want | None ↦ Ok (unwrap_or want (word_mode m.word_bits)) ]

-- The mode that operands agree on.
abbrev pub operands : Machine → Locals → Option Mode → Option Mode → List Checked → Verdict
operands m l written want xs = and_then (leading m l written want xs) (λ mode. each_operand l mode (option_or written want) xs)

-- `not` takes a value of any mode and gives one bit; the others stay in their operand's mode.
abbrev pub unary_mode : Machine → Option UnaryOp → Option Mode → Checked → Locals → Option Mode → Verdict
unary_mode m (Some Not) written x l want = and_then (judged_any l x) (λ k. Ok Bi)
unary_mode m (Some o) written x l want = and_then (given written) (λ k. operands m l written want (x ∷ []))
unary_mode m None written x l want = Err no_shape

-- The count of a shift has any mode. The operands of a comparison agree where none is wanted, and one bit comes of them.
abbrev pub kind_mode : Machine → Kind → Option Mode → Checked → Checked → Locals → Option Mode → Verdict
kind_mode m Arithmetic written x y l want = operands m l written want (x ∷ y ∷ [])
kind_mode m Shift written x y l want = and_then (operands m l written want (x ∷ [])) (λ mode. and_then (judged_any l y) (λ c. Ok mode))
kind_mode m Comparison written x y l want = and_then (operands m l written None (x ∷ y ∷ [])) (λ mode. Ok Bi)

abbrev pub binary_mode : Machine → Option BinaryOp → Option Mode → Checked → Checked → Locals → Option Mode → Verdict
binary_mode m (Some o) written x y l want = and_then (given written) (λ k. kind_mode m (kind_of o) written x y l want)
binary_mode m None written x y l want = Err no_shape

-- Two operands that agree, and a carry of one bit.
abbrev pub with_carry : Machine → Option Mode → Checked → Checked → Checked → Locals → Option Mode → Verdict
with_carry m written x y c l want = and_then (operands m l written want (x ∷ y ∷ [])) (λ mode. and_then (operand l Bi (Some Bi) c) (λ b. Ok mode))

-- The flags are one bit too, and their operands agree where none is wanted.
abbrev pub ternary_mode : Machine → Option TernaryOp → Option Mode → Checked → Checked → Checked → Locals → Option Mode → Verdict
ternary_mode m (Some o) written x y c l want =
    and_then (given written) (λ k. if keeps_mode o then with_carry m written x y c l want else and_then (with_carry m written x y c l None) (λ mode. Ok Bi))
ternary_mode m None written x y c l want = Err no_shape

-- One of several values that may be taken: whether it is loose, what is judged in front of it, and its mode.
pub record Choice : Type 0 where
  pub loose : Bool
  pub before : Locals → Verdict
  pub verdict : Locals → Option Mode → Verdict

abbrev pub last_loose : List Rtl → Bool
last_loose [] = false
last_loose (x ∷ []) = is_loose (out-Rtl x)
last_loose (x ∷ y ∷ ys) = last_loose (y ∷ ys)

abbrev pub plain_choice : Checked → Choice
plain_choice x = record { loose = is_loose x.said; before = λ l. Ok Void; verdict = x.verdict }

-- The tests of an arm: those of a `cond` are judged, and those of a `case` are numbers of any size.
abbrev pub asked_where : Bool → Checked → Locals → Verdict
asked_where true x l = x.asked l
asked_where false x l = Ok Void

-- An arm, whose tests are judged or not.
abbrev pub arm_choice : Bool → Checked → Choice
arm_choice tested x = record { loose = last_loose x.said.items; before = λ l. and_then (asked_where tested x l) (λ k. x.front l); verdict = x.verdict }

abbrev pub firm_choice : List Choice → Option Choice
firm_choice [] = None
firm_choice (x ∷ xs) = if x.loose then firm_choice xs else Some x

abbrev pub leading_choice : Machine → Locals → Option Mode → Option Mode → List Choice → Verdict
leading_choice m l (Some k) want xs = Ok k
leading_choice m l None want xs = elim (firm_choice xs) [ Some x ↦ x.verdict l want | None ↦ Ok (unwrap_or want (word_mode m.word_bits)) ]

-- A loose value takes the mode that leads. Where the leading one has a fault, that counts at its own turn.
abbrev pub taken_by : Locals → Choice → Verdict → Verdict
taken_by l x (Ok mode) = x.verdict l (Some mode)
taken_by l x (Err e) = Ok Void

-- A value meets the mode that leads where it agrees with it. Where the first value is VOID and no mode is written, another has to be
-- VOID too: a value is lacking there, and no mode is at odds with another.
abbrev pub meets : Option Mode → Mode → Mode → Verdict
meets None mode k = if bits_of mode == 0 && not (bits_of k == 0) then Err (fault 404) else agrees mode k
meets (Some w) mode k = agrees mode k

-- What a value gives at its turn.
abbrev pub value_turn : Locals → Option Mode → Verdict → Option Mode → Choice → Verdict
value_turn l written lead want x = if x.loose then taken_by l x lead else and_then (x.verdict l want) (λ k. and_then lead (λ mode. meets written mode k))

abbrev pub choice_turn : Locals → Option Mode → Verdict → Option Mode → Choice → Verdict
choice_turn l written lead want x = and_then (x.before l) (λ b. value_turn l written lead want x)

abbrev pub each_choice : Locals → Option Mode → Verdict → Option Mode → List Choice → Verdict
each_choice l written lead want [] = lead
each_choice l written lead want (x ∷ xs) = and_then (choice_turn l written lead want x) (λ k. each_choice l written lead want xs)

abbrev pub choices : Machine → Locals → Option Mode → Option Mode → List Choice → Verdict
choices m l written want xs = each_choice l written (leading_choice m l written want xs) (option_or written want) xs

-- Arms of which none need be taken have no value.
abbrev pub each_alone : Locals → List Choice → Verdict
each_alone l [] = Ok Void
each_alone l (x ∷ xs) = and_then (x.before l) (λ b. and_then (x.verdict l None) (λ k. each_alone l xs))

-- The arms end with one without tests.
abbrev pub ends_with_else : List Level → Bool
ends_with_else [] = false
ends_with_else (x ∷ []) = unsigned_abs x.number == 0
ends_with_else (x ∷ y ∷ ys) = ends_with_else (y ∷ ys)

abbrev pub arms : Machine → Locals → Bool → Option Mode → Option Mode → List Choice → Verdict
arms m l true written want xs = choices m l written want xs
arms m l false written want xs = each_alone l xs

-- The locals that a `sequence` declares.
abbrev pub local_of : Level → Local
local_of r = record { mode = unwrap_or r.mode Void; outside = false }

abbrev pub in_order : Locals → Option Mode → List Checked → Verdict
in_order l want [] = Err no_shape
in_order l want (x ∷ []) = x.verdict l want
in_order l want (x ∷ y ∷ ys) = and_then (x.verdict l None) (λ k. in_order l want (y ∷ ys))

abbrev pub sequence_mode : ℕ → List Checked → Locals → Option Mode → Verdict
sequence_mode n xs l want = and_then (each_dropped l (take n xs)) (λ k. in_order (l ++ map (λ x. local_of x.said) (take n xs)) want (drop n xs))

abbrev pub hardware_mode : Option Hardware → Verdict
hardware_mode None = Err no_shape
hardware_mode (Some h) = Ok h.mode

abbrev pub holds_cell : Option Hardware → Bool
holds_cell None = false
holds_cell (Some h) = elim h.kind [ kind.Register ↦ true | kind.Pc ↦ true | _ ↦ false ]

abbrev pub is_inside : Option Local → Bool
is_inside None = false
is_inside (Some x) = not x.outside

-- What can be set.
unfoldable pub is_place : Machine → Locals → Op → ℤ → Bool
is_place m l op.Pc n = true
is_place m l op.Reg n = true
is_place m l op.RawReg n = true
is_place m l op.Mem n = true
is_place m l op.Local n = is_inside (at_number l n)
is_place m l op.OperandRef n = holds_cell (hardware_of m n)
is_place m l _ n = false

abbrev pub set_mode : Machine → Checked → Checked → Locals → Verdict
set_mode m d e l =
    if is_place m l d.said.op d.said.number then and_then (d.verdict l None) (λ k. and_then (operand l k (Some k) e) (λ j. Ok Void))
    else Err (fault 403)

-- A delay is of 1 to 8, and of what has no value. No other `delay` and no halt stands in it, rules put in place.
abbrev pub delayed : Machine → Checked → Mode → Verdict
delayed m x k = if bits_of k == 0 && not (delays m (roll-Rtl x.said)) then Ok Void else Err (fault 402)

abbrev pub delay_mode : Machine → ℤ → Checked → Locals → Verdict
delay_mode m n x l = if int_le (pos 1) n && int_le n (pos 8) then and_then (x.verdict l None) (delayed m x) else Err (fault 402)

-- Wider, or as wide.
abbrev pub wider : Mode → Mode → Verdict
wider to from = if nat_le (bits_of from) (bits_of to) then Ok to else Err (fault 402)

abbrev pub narrower : Mode → Mode → Verdict
narrower to from = if nat_le (bits_of to) (bits_of from) then Ok to else Err (fault 402)

-- Part number n of a value.
abbrev pub part_mode : ℤ → Mode → Mode → Verdict
part_mode n to from = if int_le (pos 0) n && nat_lt (unsigned_abs n) (bits_of from / bits_of to) then Ok to else Err (fault 402)

-- A part that is joined with others is of their mode.
abbrev pub same_bits : Mode → Mode → Verdict
same_bits part k = if bits_of part == bits_of k then Ok part else Err (fault 402)

abbrev pub part_turn : Locals → Mode → Checked → Verdict
part_turn l part x = and_then (x.verdict l (Some part)) (λ k. and_then (valued k) (same_bits part))

abbrev pub each_part : Locals → Mode → List Checked → Verdict
each_part l part [] = Ok part
each_part l part (x ∷ xs) = and_then (part_turn l part x) (λ k. each_part l part xs)

-- Parts of one mode that fill a value of another. Their count comes first.
abbrev pub joined_mode : Mode → List Checked → Locals → Mode → Verdict
joined_mode to xs l part = if bits_of to / bits_of part == length xs then and_then (each_part l part xs) (λ k. Ok to) else Err (fault 402)

abbrev pub memory_mode : Mode → Verdict
memory_mode k = if nat_le (bits_of k) 1 then Err (fault 402) else Ok k

abbrev pub field_mode : Machine → ℤ → Verdict
field_mode m n = elim (at_number m.fields n) [ None ↦ Err no_shape | Some f ↦ Ok f.mode ]

abbrev pub multi_mode : Machine → ℤ → Verdict
multi_mode m n = elim (at_number m.multis n) [ None ↦ Err no_shape | Some f ↦ Ok f.mode ]

abbrev pub local_mode : Option Local → Verdict
local_mode None = Err no_shape
local_mode (Some x) = Ok x.mode

-- The mode of a number: its own, else the wanted one, else the word's.
abbrev pub number_mode : Machine → Option Mode → Option Mode → ℤ → Verdict
number_mode m written want n = fits (unwrap_or (option_or written want) (word_mode m.word_bits)) n

-- The mode of an expression, from what its items are.
abbrev pub verdict_of : Machine → Op → Option Mode → ℤ → List Checked → Locals → Option Mode → Verdict
verdict_of m op.Number written n xs l want = number_mode m written want n
verdict_of m op.Local written n xs l want = local_mode (at_number l n)
verdict_of m op.OperandRef written n xs l want = hardware_mode (hardware_of m n)
verdict_of m op.Value written n xs l want = Ok (unwrap_or written Void)
verdict_of m op.Index written n xs l want = Ok Usi
verdict_of m op.NewVal written n xs l want = Ok (unwrap_or written Void)
verdict_of m op.Pc written n xs l want = Ok (address_mode m.word_bits)
verdict_of m op.FieldRef written n xs l want = field_mode m n
verdict_of m op.MultiRef written n xs l want = multi_mode m n
verdict_of m op.IndexOf written n xs l want = Ok Usi
verdict_of m op.Unary written n (x ∷ []) l want = unary_mode m (at_number unary_ops n) written x l want
verdict_of m op.Binary written n (x ∷ y ∷ []) l want = binary_mode m (at_number binary_ops n) written x y l want
verdict_of m op.Ternary written n (x ∷ y ∷ c ∷ []) l want = ternary_mode m (at_number ternary_ops n) written x y c l want
verdict_of m op.AndIf written n xs l want = and_then (each_any l xs) (λ k. Ok Bi)
verdict_of m op.OrIf written n xs l want = and_then (each_any l xs) (λ k. Ok Bi)
verdict_of m op.Ext written n (x ∷ []) l want = and_then (stated written) (λ to. and_then (judged_any l x) (wider to))
verdict_of m op.Zext written n (x ∷ []) l want = and_then (stated written) (λ to. and_then (judged_any l x) (wider to))
verdict_of m op.Trunc written n (x ∷ []) l want = and_then (stated written) (λ to. and_then (judged_any l x) (narrower to))
verdict_of m op.Subword written n (x ∷ []) l want = and_then (stated written) (λ to. and_then (judged_value l x) (part_mode n to))
verdict_of m op.Join written n (part ∷ xs) l want = and_then (stated written) (λ to. and_then (part.verdict l None) (joined_mode to xs l))
verdict_of m op.If written n (c ∷ x ∷ []) l want = and_then (judged_value l c) (λ k. each_dropped l (x ∷ []))
verdict_of m op.If written n (c ∷ x ∷ y ∷ []) l want = and_then (judged_value l c) (λ k. choices m l written want (plain_choice x ∷ plain_choice y ∷ []))
verdict_of m op.Cond written n xs l want = arms m l (ends_with_else (map (λ x. x.said) xs)) written want (map (arm_choice true) xs)
verdict_of m op.Case written n (x ∷ xs) l want = and_then (judged_value l x) (λ k. arms m l (ends_with_else (map (λ y. y.said) xs)) written want (map (arm_choice false) xs))
verdict_of m op.Arm written n xs l want = last_verdict l want (drop (unsigned_abs n) xs)
verdict_of m op.Sequence written n xs l want = sequence_mode (unsigned_abs n) xs l want
verdict_of m op.Declare written n xs l want = stated written
verdict_of m op.Parallel written n xs l want = each_dropped (from_outside l) xs
verdict_of m op.Set written n (d ∷ e ∷ []) l want = set_mode m d e l
verdict_of m op.Reg written n xs l want = and_then (each_any l xs) (λ k. hardware_mode (at_number m.hardware n))
verdict_of m op.RawReg written n xs l want = and_then (each_any l xs) (λ k. hardware_mode (at_number m.hardware n))
verdict_of m op.Mem (Some k) n (x ∷ []) l want = and_then (memory_mode k) (λ j. let a = address_mode m.word_bits in and_then (operand l a (Some a) x) (λ i. Ok k))
verdict_of m op.Delay written n (x ∷ []) l want = delay_mode m n x l
verdict_of m op.Nop written n xs l want = Ok Void
verdict_of m op.Error written n xs l want = Ok (unwrap_or (option_or written want) Void)
verdict_of m op.Halt written n (x ∷ []) l want = and_then (judged_any l x) (λ k. Ok Void)
verdict_of m _ written n xs l want = Err no_shape

abbrev pub said_of : Rtl-F Checked → Level
said_of f = record { op = f.op; mode = f.mode; number = f.number; items = map (λ x. roll-Rtl x.said) f.items }

abbrev pub checked_step : Machine → Rtl-F Checked → Checked
checked_step m f = record {
  said = said_of f;
  asked = λ l. each_value l (take (unsigned_abs f.number) f.items);
  front = λ l. if is_arm f.op then all_but_last l (drop (unsigned_abs f.number) f.items) else Err no_shape;
  verdict = verdict_of m f.op f.mode f.number f.items;
}

-- An expression as it is judged.
unfoldable pub checked : Machine → Rtl → Checked
checked m r = fold-Rtl Checked (checked_step m) r

-- The mode of an expression, by the locals around it and the mode that is wanted of it, or its first fault.
abbrev pub mode_in : Machine → Rtl → Locals → Option Mode → Verdict
mode_in m r l want = (checked m r).verdict l want

-- The mode of an expression that stands alone, of which this mode is wanted or none, or its first fault. Where there is no other, it
-- may still be too large.
abbrev pub mode_of : Machine → Rtl → Option Mode → Verdict
mode_of m r want = and_then (mode_in m r [] want) (λ k. if small m r then Ok k else Err (fault 406))
