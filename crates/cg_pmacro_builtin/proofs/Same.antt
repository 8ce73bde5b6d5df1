-- When two forms are the same, by the kinds of their values.
use Rattle.std.proofs.Common.{◌≡◌, ℕ, suc, Bool, true, false, ◌&&◌, ℤ, List, [], ◌∷◌, length, refl, sym, ap, ◌∙◌}
use Rattle.std.specs.Cmp.Lexicographic.{pointwise}
use denote.Enum.Declared.{Choice}
use denote.Enum.Compared.{by}
use mathlib.Core.Logic.{inl, inr}
use Rattle.std.specs.contracts.prelude.I64PartialEq.TheImpl as numbers
use Rattle.std.specs.contracts.prelude.BoolPartialEq.TheImpl as flags
use Rattle.std.specs.declared.rc.Rc.{Rc}
use Rattle.std.specs.declared.alloc.Global.{Global}
use Rattle.cg_base.specs.declared.form.Form.{Form}
use Rattle.cg_base.specs.contracts.form.Form.{the_parts, as_values, the_beta}
use Rattle.cg_base.specs.contracts.form.FormPartialEq.TheImpl.Laws as equality
use Rattle.cg_base.specs.Texts.{same_text}
use Rattle.cg_pmacro_builtin.specs.declared.value.Node.{Node}
use Rattle.cg_pmacro_builtin.specs.declared.value.Node.TheVariants.{Number, Symbol, Str, Flag, Items}
use Rattle.cg_pmacro_builtin.specs.Shapes.{same_form}
use Rattle.cg_pmacro_builtin.specs.Values.{form_of}

-- the kind of a form, with its content
abbrev parts_of : Node → Choice the_parts
parts_of (Number n) = inl (n, tt)
parts_of (Symbol s) = inr (inl (s.value, tt))
parts_of (Str s) = inr (inr (inl (s.value, tt)))
parts_of (Flag b) = inr (inr (inr (inl (b, tt))))
parts_of (Items d fs) = inr (inr (inr (inr (inl (fs.value, tt)))))

parts_made : (n : Node) → as_values (form_of n) ≡ parts_of n
parts_made (Number n) = the_beta (inl (n, tt))
parts_made (Symbol s) = the_beta (inr (inl (s.value, tt)))
parts_made (Str s) = the_beta (inr (inr (inl (s.value, tt))))
parts_made (Flag b) = the_beta (inr (inr (inr (inl (b, tt)))))
parts_made (Items d fs) = the_beta (inr (inr (inr (inr (inl (fs.value, tt))))))

abbrev pub same_parts : Choice the_parts → Choice the_parts → Bool
same_parts = by false false the_parts (
  λ a b. (numbers.ghosts).eq a.0 b.0,
  (λ a b. same_text a.0 b.0, (λ a b. same_text a.0 b.0, (λ a b. (flags.ghosts).eq a.0 b.0, (λ a b. pointwise same_form a.0 b.0, tt)))),
)

seen_same : (m n : Node) → same_form (form_of m) (form_of n) ≡ same_parts (parts_of m) (parts_of n)
seen_same m n = equality.is (form_of m) (form_of n) ∙ ap (λ x. same_parts x (as_values (form_of n))) (parts_made m) ∙ ap (same_parts (parts_of m)) (parts_made n)

-- the same kind with the same content
abbrev pub same_nodes : Node → Node → Bool
same_nodes (Number m) (Number n) = (numbers.ghosts).eq m n
same_nodes (Symbol s) (Symbol t) = same_text s.value t.value
same_nodes (Str s) (Str t) = same_text s.value t.value
same_nodes (Flag a) (Flag b) = (flags.ghosts).eq a b
same_nodes (Items d fs) (Items e gs) = pointwise same_form fs.value gs.value
same_nodes _ _ = false

nodes_same : (m n : Node) → same_parts (parts_of m) (parts_of n) ≡ same_nodes m n
nodes_same (Number m) (Number n) = refl
nodes_same (Number m) (Symbol t) = refl
nodes_same (Number m) (Str t) = refl
nodes_same (Number m) (Flag b) = refl
nodes_same (Number m) (Items e gs) = refl
nodes_same (Symbol s) (Number n) = refl
nodes_same (Symbol s) (Symbol t) = refl
nodes_same (Symbol s) (Str t) = refl
nodes_same (Symbol s) (Flag b) = refl
nodes_same (Symbol s) (Items e gs) = refl
nodes_same (Str s) (Number n) = refl
nodes_same (Str s) (Symbol t) = refl
nodes_same (Str s) (Str t) = refl
nodes_same (Str s) (Flag b) = refl
nodes_same (Str s) (Items e gs) = refl
nodes_same (Flag a) (Number n) = refl
nodes_same (Flag a) (Symbol t) = refl
nodes_same (Flag a) (Str t) = refl
nodes_same (Flag a) (Flag b) = refl
nodes_same (Flag a) (Items e gs) = refl
nodes_same (Items d fs) (Number n) = refl
nodes_same (Items d fs) (Symbol t) = refl
nodes_same (Items d fs) (Str t) = refl
nodes_same (Items d fs) (Flag b) = refl
nodes_same (Items d fs) (Items e gs) = refl

-- the same, of forms whose values have these kinds
pub same_known : {f g : Form} {m n k l : Node} → form_of m ≡ f → form_of n ≡ g → m ≡ k → n ≡ l → same_nodes k l ≡ same_form f g
same_known {m = m} {n = n} first second kind other = rw (sym first, sym second, sym kind, sym other) (sym (seen_same m n ∙ nodes_same m n))

-- a form of another kind is another form
pub not_number : (x : ℤ) (n : Node) → ((y : ℤ) → n ≡ Number y → ⊥) → false ≡ same_nodes (Number x) n
not_number x (Number y) h = absurd (h y refl)
not_number x (Symbol y) h = refl
not_number x (Str y) h = refl
not_number x (Flag y) h = refl
not_number x (Items e y) h = refl

pub not_symbol : (x : Rc (List ℕ) Global) (n : Node) → ((y : Rc (List ℕ) Global) → n ≡ Symbol y → ⊥) → false ≡ same_nodes (Symbol x) n
not_symbol x (Number y) h = refl
not_symbol x (Symbol y) h = absurd (h y refl)
not_symbol x (Str y) h = refl
not_symbol x (Flag y) h = refl
not_symbol x (Items e y) h = refl

pub not_string : (x : Rc (List ℕ) Global) (n : Node) → ((y : Rc (List ℕ) Global) → n ≡ Str y → ⊥) → false ≡ same_nodes (Str x) n
not_string x (Number y) h = refl
not_string x (Symbol y) h = refl
not_string x (Str y) h = absurd (h y refl)
not_string x (Flag y) h = refl
not_string x (Items e y) h = refl

pub not_flag : (x : Bool) (n : Node) → ((y : Bool) → n ≡ Flag y → ⊥) → false ≡ same_nodes (Flag x) n
not_flag x (Number y) h = refl
not_flag x (Symbol y) h = refl
not_flag x (Str y) h = refl
not_flag x (Flag y) h = absurd (h y refl)
not_flag x (Items e y) h = refl

pub not_list : (d : ℕ) (x : Rc (List Form) Global) (n : Node) → ((e : ℕ) (y : Rc (List Form) Global) → n ≡ Items e y → ⊥) → false ≡ same_nodes (Items d x) n
not_list d x (Number y) h = refl
not_list d x (Symbol y) h = refl
not_list d x (Str y) h = refl
not_list d x (Flag y) h = refl
not_list d x (Items e y) h = absurd (h e y refl)

and_false : (b : Bool) {c : Bool} → false ≡ c → false ≡ b && c
and_false true h = h
and_false false h = refl

-- lists that aren't equally long are other lists
pub pointwise_length : (xs ys : List Form) → (length xs ≡ length ys → ⊥) → false ≡ pointwise same_form xs ys
pointwise_length [] [] h = absurd (h refl)
pointwise_length [] (y ∷ ys) h = refl
pointwise_length (x ∷ xs) [] h = refl
pointwise_length (x ∷ xs) (y ∷ ys) h = and_false (same_form x y) (pointwise_length xs ys (λ e. h (ap suc e)))
