-- Which shape the functions have, by how they are read.
use Rattle.std.proofs.Common.{◌≡◌, ℕ, Bool, true, false, ◌||◌, ◌==◌, if◌then◌else◌, List, [], ◌∷◌, Option, Some, None, refl, sym, ap, ◌∙◌, subst}
use Rattle.std.specs.Cmp.Lexicographic.{bytes_decides}
use Rattle.cg_base.specs.Texts.{same_text}
use Rattle.cg_model.specs.Formed.{is_numbered}
use Rattle.cg_model.specs.declared.rtl.Op.{Op}
use Rattle.cg_model.specs.declared.rtl.Op.TheVariants as op
use Rattle.cg_rtl_resolve.specs.Names.{found_under, readings}
use Rattle.cg_rtl_resolve.specs.declared.function.Function.{Function}
use Rattle.cg_rtl_resolve.specs.declared.function.Function.TheVariants as function
use Rattle.cg_rtl.specs.Functions.{Shape, operands, items, with_mode, functions, shape_among, shape_of}
use Rattle.cg_rtl.specs.declared.functions.Item.{Item}
use Rattle.cg_rtl.specs.declared.functions.Item.TheVariants as item

abbrev pub operation_shape : Op → Option Shape
operation_shape op.Unary = Some (operands 1 (Some 1))
operation_shape op.Binary = Some (operands 2 (Some 2))
operation_shape op.Ternary = Some (operands 3 (Some 3))
operation_shape op.AndIf = Some (operands 2 None)
operation_shape op.OrIf = Some (operands 2 None)
operation_shape op.Ext = Some (with_mode 1 (Some 1) [])
operation_shape op.Zext = Some (with_mode 1 (Some 1) [])
operation_shape op.Trunc = Some (with_mode 1 (Some 1) [])
operation_shape op.Mem = Some (with_mode 1 (Some 1) [])
operation_shape op.If = Some (operands 2 (Some 3))
operation_shape op.Set = Some (operands 2 (Some 2))
operation_shape op.Nop = Some (operands 0 (Some 0))
operation_shape _ = None

abbrev pub behind_shape : Op → Option Shape
behind_shape op.Parallel = Some (items 2 None (item.NoLocals ∷ []) item.Expression)
behind_shape op.Halt = Some (items 2 (Some 2) (item.Str ∷ []) item.Expression)
behind_shape _ = None

abbrev pub register_shape : Op → Option Shape
register_shape op.Reg = Some (items 1 (Some 2) (item.Name ∷ []) item.Expression)
register_shape op.RawReg = Some (items 1 (Some 2) (item.Name ∷ []) item.Expression)
register_shape _ = None

abbrev pub shape_for : Function → Option Shape
shape_for (function.Operation o n) = operation_shape o
shape_for (function.Behind o) = behind_shape o
shape_for function.Constant = Some (items 1 (Some 1) [] item.Number)
shape_for function.Subword = Some (with_mode 2 (Some 2) (item.Expression ∷ item.Number ∷ []))
shape_for function.Join = Some (with_mode 2 None (item.Mode ∷ []))
shape_for function.Cond = Some (items 1 None [] item.Arm)
shape_for function.Case = Some (items 2 None (item.Expression ∷ []) item.Choice)
shape_for function.Sequence = Some (items 2 None (item.Locals ∷ []) item.Expression)
shape_for function.Delay = Some (items 2 (Some 2) (item.Number ∷ []) item.Expression)
shape_for function.Error = Some (items 1 (Some 1) [] item.Str)
shape_for function.FieldNamed = Some (items 1 (Some 1) (item.Name ∷ []) item.Expression)
shape_for (function.Register o) = register_shape o
shape_for function.IndexOf = Some (items 1 (Some 1) (item.Name ∷ []) item.Expression)

-- The number of an operation that has none is 0.
abbrev pub is_plain : Function → Bool
is_plain (function.Operation o n) = is_numbered o || n == 0
is_plain _ = true

abbrev pub Agrees : List ℕ → Function → Type 0
Agrees name f = (shape_of name ≡ shape_for f) × (is_plain f ≡ true)

abbrev pub AllAgree : List (List ℕ × Function) → Type 0
AllAgree [] = Unit {0}
AllAgree (x ∷ xs) = Agrees x.0 x.1 × AllAgree xs

readings_agree : AllAgree readings
unfolding readings shape_of functions is_numbered
readings_agree = ((refl, refl), ((refl, refl), ((refl, refl), ((refl, refl), ((refl, refl), ((refl, refl), ((refl, refl), ((refl, refl), ((refl, refl), ((refl, refl), ((refl, refl), ((refl, refl), ((refl, refl), ((refl, refl), ((refl, refl), ((refl, refl), ((refl, refl), ((refl, refl), ((refl, refl), ((refl, refl), ((refl, refl), ((refl, refl), ((refl, refl), ((refl, refl), ((refl, refl), ((refl, refl), ((refl, refl), ((refl, refl), ((refl, refl), ((refl, refl), ((refl, refl), ((refl, refl), ((refl, refl), ((refl, refl), ((refl, refl), ((refl, refl), ((refl, refl), ((refl, refl), ((refl, refl), ((refl, refl), ((refl, refl), ((refl, refl), ((refl, refl), ((refl, refl), ((refl, refl), ((refl, refl), ((refl, refl), ((refl, refl), ((refl, refl), ((refl, refl), ((refl, refl), ((refl, refl), ((refl, refl), ((refl, refl), ((refl, refl), ((refl, refl), ((refl, refl), ((refl, refl), ((refl, refl), tt)))))))))))))))))))))))))))))))))))))))))))))))))))))))))))

abbrev function_or : Function → Option Function → Function
function_or f None = f
function_or f (Some g) = g

found_agrees : (name : List ℕ) (f : Function) (xs : List (List ℕ × Function)) → AllAgree xs → found_under name xs ≡ Some f → Agrees name f
found_agrees name f [] all found = absurd cc
found_agrees name f (x ∷ xs) all found = at (found_agrees name f xs all.1) (same_text x.0 name) refl where
  at : (found_under name xs ≡ Some f → Agrees name f) → (b : Bool) → same_text x.0 name ≡ b → Agrees name f
  at rest true is =
      let same : x.0 ≡ name = (bytes_decides x.0 name).0 is in
      let this : x.1 ≡ f = ap (function_or f) (sym (ap (λ c. if c then Some x.1 else found_under name xs) is) ∙ found) in
      subst (λ g. Agrees name g) this (subst (λ n. Agrees n x.1) same all.0)
  at rest false is = rest (sym (ap (λ c. if c then Some x.1 else found_under name xs) is) ∙ found)

pub read_agrees : (name : List ℕ) (f : Function) → found_under name readings ≡ Some f → Agrees name f
read_agrees name f found = found_agrees name f readings readings_agree found
