-- What the code hands on, as definitions see it.
use Rattle.std.specs.Prelude.{ℕ, ◌+◌, if◌then◌else◌, List, [], ◌∷◌, map, Option, Some, None}
use Rattle.std.specs.Option.{option_copied}
use Rattle.std.specs.Borrow.{Bor}
use Rattle.cg_base.specs.declared.form.Form.{Form}
use Rattle.cg_base.specs.Texts.{same_text}
use Rattle.cg_rtl_resolve.specs.declared.scope.Rule.TheVariants as rule
use Rattle.cg_rtl_resolve.specs.declared.scope.Scope.{Scope}
use Rattle.cg_desc_scope.specs.Described.{scope_in}

-- A scope whatever the rule that it is handed on in.
abbrev pub base : Scope → Scope
base scope = scope_in scope rule.Semantics None

-- Sets that are lent.
abbrev pub seen_set : Bor (List ℕ) × Bor Form → List ℕ × Form
seen_set x = (x.0.now, x.1.now)

abbrev pub seen_sets : List (Bor (List ℕ) × Bor Form) → List (List ℕ × Form)
seen_sets xs = map seen_set xs

-- Items that are lent.
abbrev pub seen_item : Bor (List ℕ) × Option (Bor Form) → List ℕ × Option Form
seen_item x = (x.0.now, option_copied x.1)

abbrev pub seen_items : List (Bor (List ℕ) × Option (Bor Form)) → List (List ℕ × Option Form)
seen_items xs = map seen_item xs

-- The first place of a name among names that are numbered from `k` on.
abbrev pub place_from : ℕ → List ℕ → List (List ℕ) → Option ℕ
place_from k name [] = None
place_from k name (x ∷ xs) = if same_text x name then Some k else place_from (k + 1) name xs
