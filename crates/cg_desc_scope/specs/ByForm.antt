-- Instructions by the numbers of the forms that they are written in.
use Rattle.std.specs.Prelude.{◌≡◌, ℕ, ◌==◌, nat_eq, if◌then◌else◌, List, [], ◌∷◌, ◌++◌, Option, Some, None}
use Rattle.std.specs.Option.{unwrap_or}
use Rattle.indexmap.specs.IndexMap.{get}
use Rattle.cg_desc_choices.specs.declared.written.Written.{Written}
use Rattle.cg_desc_scope.specs.Texts.{Insns}
use Rattle.cg_desc_scope.specs.Seen.{all_lent}
use Rattle.cg_desc_scope.specs.declared.by_form.ByForm as declared

-- None; and one more, which goes behind those of its form.
abbrev pub no_insns : Insns
no_insns = λ form. []

abbrev pub with_one : Insns → Written → Insns
with_one before w = λ form. if w.form == form then before form ++ w ∷ [] else before form

abbrev pub with_all : Insns → List Written → Insns
with_all before [] = before
with_all before (w ∷ ws) = with_all (with_one before w) ws

-- The same, form by form.
unfoldable pub IsNone : Insns → Type 0
IsNone now = (form : ℕ) → now form ≡ no_insns form

unfoldable pub IsWithOne : Insns → Written → Insns → Type 0
IsWithOne before w now = (form : ℕ) → now form ≡ with_one before w form

-- what the code keeps
abbrev pub kept : declared.ByForm → ℕ → Option (List Written)
kept x form = elim (get nat_eq x.lists form) [ None ↦ None | Some list ↦ Some (all_lent list.items) ]

abbrev pub seen_by_form : declared.ByForm → Insns
seen_by_form x = λ form. unwrap_or (kept x form) []
