-- The forms that the top forms of a description stand for (docs/LANGUAGE.md, "Macros").
use Rattle.std.specs.Prelude.{ℕ, zero, suc, false, List, [], ◌∷◌, ◌++◌, map, drop, Result, Ok, Err, codes, if◌then◌else◌}
use Rattle.cg_base.specs.declared.form.Form.{Form}
use Rattle.cg_base.specs.declared.form.Forms.{Forms}
use Rattle.cg_base.specs.declared.form.Top.{Top}
use Rattle.cg_base.specs.declared.refusal.Refusal.{Refusal}
use Rattle.cg_base.specs.Texts.{is_named}
use Rattle.cg_pmacro_builtin.specs.declared.body.Body.{Body}
use Rattle.cg_pmacro_builtin.specs.declared.body.Macro.{Macro}
use Rattle.cg_base.specs.Refusing.{Fault, refusal_at}
use Rattle.cg_pmacro_builtin.specs.Outcome.{Answer, Run, onward, pure, fails, each_joined, choose}
use Rattle.cg_pmacro_builtin.specs.Sizes.{levels}
use Rattle.cg_pmacro_builtin.specs.Shapes.{plain, head_name, elements}
use Rattle.cg_pmacro_expand.specs.Expansion.{expanded}
use Rattle.cg_pmacro.specs.Splitting.{split}
use Rattle.cg_pmacro.specs.Definitions.{definition}

-- the macros that are known, and the units that are left
pub record State : Type 0 where
  pub macros : List Macro
  pub left : ℕ

abbrev pub state : List Macro → ℕ → State
state macros left = record { macros = macros; left = left }

-- the forms that a top form stands for
abbrev pub Topped : Type 0
Topped = Run State Fault (List Form)

-- What a top form expands to stands for itself, or for the forms of a `begin`. Expansions stand at most 1,000 deep.
abbrev pub top_expanded : Body → Topped
top_expanded b s =
    onward (expanded s.macros 1000 [] false b s.left) (λ r. onward (split r.0) (λ fs. Ok (fs, state s.macros r.1)))

-- A definition stands for nothing, and its macro is known behind it.
abbrev pub top_defined : List Body → Topped
top_defined bs s = onward (definition s.macros bs) (λ m. Ok ([], state (s.macros ++ m ∷ []) s.left))

-- `(begin FORM ..)` stands for its elements. An `include` has been read before, so one that is left is refused.
abbrev pub top_list : (Body → Topped) → Body → List Body → Topped
top_list within b bs =
    if is_named (codes "begin") (head_name bs) then each_joined within (drop 1 bs)
    else if is_named (codes "define-pmacro") (head_name bs) then top_defined bs
    else if is_named (codes "include") (head_name bs) then fails (307, codes "include")
    else top_expanded b

-- What a top form stands for, where `within` says it of the elements of a `begin`.
abbrev pub top_by : (Body → Topped) → Body → Topped
top_by within b = choose (elements b) (top_list within b) (top_expanded b)

abbrev pub no_forms : Body → Topped
no_forms b = pure []

-- the same, so many lists inwards; in a form without lists there is nothing inwards
abbrev pub top_to : ℕ → Body → Topped
top_to zero b = top_by no_forms b
top_to (suc k) b = top_by (top_to k) b

-- What a top form as read stands for: a definition for nothing, a `begin` for its elements, and so on inwards.
abbrev pub topped : Body → Topped
topped b = top_to (levels b) b

-- a form that came from a top form
abbrev pub placed : Top → Form → Top
placed t f = record { form = f; file = t.file; line = t.line }

-- The forms of a top form have its place, and so has its refusal.
abbrev pub in_place : Top → Answer (List Form × State) → Result (List Top × State) Refusal
in_place t (Ok r) = Ok (map (placed t) r.0, r.1)
in_place t (Err x) = Err (refusal_at t.file t.line x)

abbrev pub top_forms : Top → Run State Refusal (List Top)
top_forms t s = in_place t (topped (plain t.form) s)

-- The forms that a description's top forms stand for, from the first to the last, or its refusal. The budget is 4,000,000
-- units for all.
abbrev pub expansion : Forms → Result Forms Refusal
expansion forms = onward (each_joined top_forms forms.tops (state [] 4000000)) (λ r. Ok (record { tops = r.0 }))
