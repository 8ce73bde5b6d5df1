-- The functions of RTL, and the shape of each (docs/LANGUAGE.md, "RTL").
use Rattle.std.specs.Prelude.{ℕ, suc, ◌+◌, Bool, true, false, not, ◌&&◌, ◌||◌, ◌==◌, nat_le, if◌then◌else◌, List, [], ◌∷◌, map, slice_get, Option, Some, None, codes}
use Rattle.std.specs.Option.{unwrap_or}
use Rattle.cg_base.specs.Texts.{seen_text, is_among}
use Rattle.cg_rtl.specs.declared.functions.Item.{Item}
use Rattle.cg_rtl.specs.declared.functions.Item.TheVariants as item
use Rattle.cg_rtl.specs.declared.functions.Shape as declared
use Rattle.cg_rtl.specs.declared.functions.Alike as declared_alike

-- What may stand behind a function's name and mode: whether a mode other than `DFLT` is wanted, the least and the greatest count
-- of items, what the items in front are, and what all others are.
pub record Shape : Type 0 where
  pub wants_mode : Bool
  pub least : ℕ
  pub most : Option ℕ
  pub front : List Item
  pub rest : Item

abbrev pub seen_shape : declared.Shape → Shape
seen_shape s = record { wants_mode = s.wants_mode; least = s.least; most = s.most; front = s.front.now; rest = s.rest }

-- the names of functions, and their shape
abbrev pub Alike : Type 0
Alike = List (List ℕ) × Shape

abbrev pub seen_alike : declared_alike.Alike → Alike
seen_alike f = (map seen_text f.names.now, seen_shape f.shape)

-- operands that are expressions; items in front and others behind them; the same behind a mode that is wanted
abbrev pub operands : ℕ → Option ℕ → Shape
operands least most = record { wants_mode = false; least = least; most = most; front = []; rest = item.Expression }

abbrev pub items : ℕ → Option ℕ → List Item → Item → Shape
items least most front rest = record { wants_mode = false; least = least; most = most; front = front; rest = rest }

abbrev pub with_mode : ℕ → Option ℕ → List Item → Shape
with_mode least most front = record { wants_mode = true; least = least; most = most; front = front; rest = item.Expression }

-- All functions.
unfoldable pub functions : List Alike
functions =
    (codes "add" ∷ codes "sub" ∷ codes "mul" ∷ codes "div" ∷ codes "mod" ∷ codes "udiv" ∷ codes "umod" ∷ codes "and" ∷ codes "or" ∷ codes "xor" ∷ codes "sll" ∷ codes "srl" ∷ codes "sra" ∷ codes "rol" ∷ codes "ror" ∷ codes "eq" ∷ codes "ne" ∷ codes "lt" ∷ codes "le" ∷ codes "gt" ∷ codes "ge" ∷ codes "ltu" ∷ codes "leu" ∷ codes "gtu" ∷ codes "geu" ∷ codes "set" ∷ codes "set-quiet" ∷ [], operands 2 (Some 2)) ∷
    (codes "neg" ∷ codes "inv" ∷ codes "not" ∷ codes "abs" ∷ [], operands 1 (Some 1)) ∷
    (codes "addc" ∷ codes "subc" ∷ codes "add-cflag" ∷ codes "add-oflag" ∷ codes "sub-cflag" ∷ codes "sub-oflag" ∷ [], operands 3 (Some 3)) ∷
    (codes "andif" ∷ codes "orif" ∷ [], operands 2 None) ∷
    (codes "nop" ∷ [], operands 0 (Some 0)) ∷
    (codes "if" ∷ [], operands 2 (Some 3)) ∷
    (codes "ext" ∷ codes "zext" ∷ codes "trunc" ∷ codes "mem" ∷ [], with_mode 1 (Some 1) []) ∷
    (codes "subword" ∷ [], with_mode 2 (Some 2) (item.Expression ∷ item.Number ∷ [])) ∷
    (codes "join" ∷ [], with_mode 2 None (item.Mode ∷ [])) ∷
    (codes "cond" ∷ [], items 1 None [] item.Arm) ∷
    (codes "case" ∷ [], items 2 None (item.Expression ∷ []) item.Choice) ∷
    (codes "sequence" ∷ [], items 2 None (item.Locals ∷ []) item.Expression) ∷
    (codes "parallel" ∷ [], items 2 None (item.NoLocals ∷ []) item.Expression) ∷
    (codes "reg" ∷ codes "raw-reg" ∷ [], items 1 (Some 2) (item.Name ∷ []) item.Expression) ∷
    (codes "ifield" ∷ codes "index-of" ∷ [], items 1 (Some 1) (item.Name ∷ []) item.Expression) ∷
    (codes "const" ∷ [], items 1 (Some 1) [] item.Number) ∷
    (codes "delay" ∷ [], items 2 (Some 2) (item.Number ∷ []) item.Expression) ∷
    (codes "error" ∷ [], items 1 (Some 1) [] item.Str) ∷
    (codes "c-call" ∷ [], items 2 (Some 2) (item.Str ∷ []) item.Expression) ∷ []

abbrev pub shape_among : List ℕ → List Alike → Option Shape
shape_among name [] = None
shape_among name (f ∷ fs) = if is_among f.0 name then Some f.1 else shape_among name fs

-- The shape of the function of this name, if there is one.
unfoldable pub shape_of : List ℕ → Option Shape
shape_of name = shape_among name functions

-- The last arm of a `cond` or `case` may be `(else EXPRESSION ..)`.
abbrev pub as_last : Item → Item
as_last item.Arm = item.LastArm
as_last item.Choice = item.LastChoice
as_last other = other

-- What the item at place k of so many is, counted from 0.
abbrev pub item_at : Shape → ℕ → ℕ → Item
item_at shape count k =
    if k + 1 == count then as_last (unwrap_or (slice_get shape.front k) shape.rest) else unwrap_or (slice_get shape.front k) shape.rest

abbrev pub is_within : Option ℕ → ℕ → Bool
is_within (Some most) count = nat_le count most
is_within None count = true

-- So many items may stand there, behind a mode other than `DFLT` or not.
abbrev pub allows : Shape → Bool → ℕ → Bool
allows shape has_mode count = (has_mode || not shape.wants_mode) && nat_le shape.least count && is_within shape.most count
