-- Expressions with get and set rules put in place: the rules by which they read and set hardware count as standing in them.
use Rattle.std.specs.Prelude.{ℕ, zero, suc, ◌+◌, ◌*◌, Bool, true, false, ◌||◌, nat_le, if◌then◌else◌, List, [], ◌∷◌, ◌++◌, length, ℤ, pos, negsuc, Option, Some, None, slice_get, option_map}
use Rattle.std.specs.List.{list_any}
use Rattle.cg_model.specs.Operators.{at_number}
use Rattle.cg_model.specs.declared.hardware.Hardware.{Hardware}
use Rattle.cg_model.specs.declared.hardware.HwKind.{HwKind}
use Rattle.cg_model.specs.declared.hardware.HwKind.TheVariants as kind
use Rattle.cg_model.specs.declared.machine.Machine.{Machine}
use Rattle.cg_model.specs.declared.operand.Operand.{Operand}
use Rattle.cg_model.specs.declared.rtl.Op.{Op}
use Rattle.cg_model.specs.declared.rtl.Op.TheVariants as op
use Rattle.cg_model.specs.declared.rtl.Rtl.{Rtl, out-Rtl}
use Rattle.cg_model.specs.declared.rtl.Rtl.TheOpen.{Rtl-F}
use Rattle.cg_model.specs.declared.rtl.Rtl.TheFolds.{fold-Rtl}

-- One level of an expression: its items are expressions.
abbrev pub Level : Type 0
Level = Rtl-F Rtl

-- The hardware of an operand.
abbrev pub hardware_of : Machine → ℤ → Option Hardware
hardware_of m n = elim (at_number m.operands n) [ None ↦ None | Some o ↦ slice_get m.hardware o.hardware ]

-- The hardware that an operation reads or sets by a rule, where there is one. A `raw-reg` goes by none.
unfoldable pub goes_to : Machine → Op → ℤ → Option Hardware
goes_to m op.Reg n = at_number m.hardware n
goes_to m op.OperandRef n = hardware_of m n
goes_to m _ n = None

abbrev pub get_rule : Option Hardware → Option Rtl
get_rule None = None
get_rule (Some h) = h.get

abbrev pub set_rule : Option Hardware → Option Rtl
set_rule None = None
set_rule (Some h) = h.set

abbrev pub is_set : Op → Bool
is_set op.Set = true
is_set _ = false

-- The rule by which the first of some items is set.
abbrev pub place_rule : Machine → List Rtl → Option Rtl
place_rule m [] = None
place_rule m (d ∷ es) = set_rule (goes_to m (out-Rtl d).op (out-Rtl d).number)

-- The rule that is put in place beside an expression's items: a `set` goes by its place's set rule, and what reads by a get rule. A
-- place isn't read.
abbrev pub rule_of : Machine → Bool → Level → Option Rtl
rule_of m is_place r = if is_set r.op then place_rule m r.items else if is_place then None else get_rule (goes_to m r.op r.number)

-- Two counts together, where there are both.
abbrev pub both : Option ℕ → Option ℕ → Option ℕ
both (Some a) (Some b) = Some (a + b)
both _ _ = None

-- The nodes of items, by those of each. The first may be a place.
abbrev pub nodes_of_items : (Bool → Rtl → Option ℕ) → Bool → List Rtl → Option ℕ
nodes_of_items nodes is_place [] = Some 0
nodes_of_items nodes is_place (x ∷ xs) = both (nodes is_place x) (nodes_of_items nodes false xs)

abbrev pub nodes_of_rule : (Bool → Rtl → Option ℕ) → Option Rtl → Option ℕ
nodes_of_rule nodes None = Some 0
nodes_of_rule nodes (Some rule) = nodes false rule

-- How many nodes an expression has where it is at most so deep, a rule put in place counting as one more item.
abbrev pub nodes_to : Machine → ℕ → Bool → Rtl → Option ℕ
nodes_to m zero is_place r = None
nodes_to m (suc depth) is_place r =
    option_map suc (both (nodes_of_items (nodes_to m depth) (is_set (out-Rtl r).op) (out-Rtl r).items) (nodes_of_rule (nodes_to m depth) (rule_of m is_place (out-Rtl r))))

abbrev pub few : Option ℕ → Bool
few None = false
few (Some n) = nat_le n 4096

-- An expression is small where it has at most 4,096 nodes and is at most 64 deep, rules put in place.
unfoldable pub small : Machine → Rtl → Bool
small m r = few (nodes_to m 64 false r)

-- Hardware that has cells, which get and set rules may stand for.
abbrev pub is_register : HwKind → Bool
is_register kind.Register = true
is_register _ = false

-- A rule: that of the hardware of a number by which it is set, or that by which it is read.
pub record RuleName : Type 0 where
  pub hardware : ℕ
  pub sets : Bool

abbrev pub rule_named : Machine → RuleName → Option Rtl
rule_named m r = elim (slice_get m.hardware r.hardware) [ None ↦ None | Some h ↦ if r.sets then h.set else h.get ]

-- Hardware that is no register is read and set by no rule.
abbrev pub of_register : Bool → ℕ → Option Hardware → List RuleName
of_register sets k None = []
of_register sets k (Some h) = if is_register h.kind then record { hardware = k; sets = sets } ∷ [] else []

abbrev pub of_number : Machine → Bool → ℤ → List RuleName
of_number m sets (pos k) = of_register sets k (slice_get m.hardware k)
of_number m sets (negsuc k) = []

abbrev pub of_operand : Machine → Bool → Option Operand → List RuleName
of_operand m sets None = []
of_operand m sets (Some o) = of_register sets o.hardware (slice_get m.hardware o.hardware)

-- The rule by which an operation reads, or sets where it is the place of a `set`. A `raw-reg` goes by none.
unfoldable pub needed_at : Machine → Bool → Op → ℤ → List RuleName
needed_at m sets op.Reg n = of_number m sets n
needed_at m sets op.OperandRef n = of_operand m sets (at_number m.operands n)
needed_at m sets _ n = []

abbrev pub AsPlace : Type 0
AsPlace = Bool → List RuleName

-- The first of these items may be a place.
abbrev pub each_needed : Bool → List AsPlace → List RuleName
each_needed first [] = []
each_needed first (x ∷ xs) = x first ++ each_needed false xs

abbrev pub needed_step : Machine → Rtl-F AsPlace → AsPlace
needed_step m f = λ is_place. needed_at m is_place f.op f.number ++ each_needed (is_set f.op) f.items

-- The rules that an expression needs at once.
unfoldable pub needed_by : Machine → Rtl → AsPlace
needed_by m rtl = fold-Rtl AsPlace (needed_step m) rtl

abbrev pub needed_where : Machine → Option Rtl → List RuleName
needed_where m None = []
needed_where m (Some rtl) = needed_by m rtl false

-- The rules that a rule needs at once.
abbrev pub needed : Machine → RuleName → List RuleName
needed m r = needed_where m (rule_named m r)

-- A `delay` or a halt.
abbrev pub delays_op : Op → Bool
delays_op op.Delay = true
delays_op op.Halt = true
delays_op _ = false

abbrev pub delays_step : Rtl-F Bool → Bool
delays_step f = delays_op f.op || list_any (λ b. b) f.items

-- One stands in an expression itself.
unfoldable pub delays_itself : Rtl → Bool
delays_itself rtl = fold-Rtl Bool delays_step rtl

abbrev pub delays_where : Option Rtl → Bool
delays_where None = false
delays_where (Some rtl) = delays_itself rtl

-- One stands in one of some rules, where this tells it of each.
abbrev pub one_delays : (RuleName → Bool) → List RuleName → Bool
one_delays delays [] = false
one_delays delays (r ∷ rs) = delays r || one_delays delays rs

-- One stands in a rule, or in one that it needs in fewer than so many steps.
abbrev pub rule_delays : Machine → ℕ → RuleName → Bool
rule_delays m zero r = false
rule_delays m (suc steps) r = delays_where (rule_named m r) || one_delays (rule_delays m steps) (needed m r)

-- One stands in an expression, rules put in place. There are two rules for each hardware and none needs itself, so no more steps than that
-- are needed.
unfoldable pub delays : Machine → Rtl → Bool
delays m rtl = delays_itself rtl || one_delays (rule_delays m (2 * length m.hardware)) (needed_by m rtl false)
