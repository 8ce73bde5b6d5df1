-- What is asked of an expression, and what stands in it.
use Rattle.std.specs.Prelude.{ℕ, Bool, true, false, ◌&&◌, List, [], Option, Some, None}
use Rattle.cg_base.specs.declared.form.Form.{Form}
use Rattle.cg_model_faults.specs.declared.fault.Purpose.{Purpose}
use Rattle.cg_model_faults.specs.declared.fault.Purpose.TheVariants as purpose
use Rattle.cg_model.specs.declared.machine.Machine.{Machine}
use Rattle.cg_model_faults.specs.E306.{Nameable, in_semantics, in_assertion, in_hardware}
use Rattle.cg_model_faults.specs.E315.{names_many}
use Rattle.cg_rtl_resolve.specs.Names.{rtl_of}
use Rattle.cg_rtl_resolve.specs.declared.scope.Rule.{Rule}
use Rattle.cg_rtl_resolve.specs.declared.scope.Rule.TheVariants as rule
use Rattle.cg_rtl_resolve.specs.declared.scope.Scope.{Scope}
use Rattle.cg_rtl_uses.specs.declared.uses.Use.{Use}
use Rattle.cg_rtl_uses.specs.declared.uses.Use.TheVariants as stands
use Rattle.cg_rtl_uses.specs.Uses.{uses_of}
use Rattle.cg_desc_fault_rtl.specs.declared.asking.Asked.{Asked}
use Rattle.cg_desc_fault_rtl.specs.declared.asking.Asked.TheVariants.{All, PutIn, AsWritten}
use Rattle.cg_desc_fault_rtl.specs.declared.asking.Naming.{Naming}
use Rattle.cg_desc_fault_rtl.specs.declared.asking.Naming.TheVariants as naming
use Rattle.cg_desc_fault_rtl.specs.declared.asking.Asking.{Asking}
use Rattle.cg_desc_fault_rtl.specs.declared.asking.Expression.{Expression}

-- Names that have a meaning in an expression, and those that have none: of which of the two is asked. All is; or, where anyof operands stand
-- in the format, the former with choices put in and the latter as the expression is written.
abbrev pub asks_meaning : Asked → Bool
asks_meaning All = true
asks_meaning PutIn = true
asks_meaning AsWritten = false

abbrev pub asks_operands : Asked → Bool
asks_operands All = true
asks_operands PutIn = false
asks_operands AsWritten = true

-- Which fields, and operands that have one, it may name, where that is asked.
abbrev pub nameable : Machine → Naming → Option Nameable
nameable m naming.Unasked = None
nameable m (naming.Semantics parts) = Some (in_semantics m parts)
nameable m (naming.Assertion parts) = Some (in_assertion m parts)
nameable m naming.Hardware = Some in_hardware

-- What the expressions of rules are for. Those of rules of fields and multi fields code values.
abbrev pub purpose_of : Rule → Purpose
purpose_of rule.Encode = purpose.Encode
purpose_of rule.Decode = purpose.Decode
purpose_of (rule.Insert multi) = purpose.Insert
purpose_of rule.Extract = purpose.Extract
purpose_of rule.Assertion = purpose.Assertion
purpose_of rule.Get = purpose.Get
purpose_of rule.Set = purpose.Set
purpose_of rule.Semantics = purpose.Semantics

abbrev pub is_coding : Purpose → Bool
is_coding purpose.Encode = true
is_coding purpose.Decode = true
is_coding purpose.Insert = true
is_coding purpose.Extract = true
is_coding _ = false

abbrev pub is_assertion : Purpose → Bool
is_assertion purpose.Assertion = true
is_assertion _ = false

-- An assertion that names over 8 bits, where its meaning is asked.
abbrev pub is_wide : Machine → Scope → Form → Asked → Bool
is_wide m scope f asked = is_assertion (purpose_of scope.rule) && asks_meaning asked && names_many m purpose.Assertion (rtl_of scope f)

-- The expression in a scope of which this is asked.
abbrev pub expression_of : Machine → Scope → Form → Asking → Expression
expression_of m scope f a = record { asking = a; purpose = purpose_of scope.rule; uses = uses_of scope f; is_wide = is_wide m scope f a.asked }

-- All is asked of one that stands alone in its clause, and no anyof operand may stand in it.
abbrev pub plain_asking : List ℕ → Naming → Asking
plain_asking own n = record { own = own; at = []; subs = []; naming = n; anyofs = []; asked = All }

-- A bare symbol that stands for none of the machine's own operands. Derived and anyof operands go before constants of their names.
abbrev pub no_operand : Use → Option (List ℕ)
no_operand (stands.Constant name n) = Some name
no_operand (stands.Unknown name) = Some name
no_operand _ = None
