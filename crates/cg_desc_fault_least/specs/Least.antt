-- The least refusal of a description, but for two instructions that match the same bytes: by phase, by form, by number and by place.
use Rattle.std.specs.Prelude.{ℕ, ◌+◌, Bool, ◌==◌, if◌then◌else◌, List, [], ◌∷◌, ◌++◌, map, Option, None}
use Rattle.std.specs.Option.{option_or, option_map}
use Rattle.cg_base.specs.declared.form.Form.{Form}
use Rattle.cg_base.specs.declared.form.Top.{Top}
use Rattle.cg_base.specs.declared.refusal.Refusal.{Refusal}
use Rattle.cg_base.specs.Refusing.{first}
use Rattle.cg_base.specs.Texts.{passes}
use Rattle.cg_desc_elements.specs.declared.element.Element.{Element}
use Rattle.cg_desc_elements.specs.Elements.{kind_of}
use Rattle.cg_model.specs.declared.machine.Machine.{Machine}
use Rattle.cg_rtl_resolve.specs.declared.scope.Scope.{Scope}
use Rattle.cg_desc_references.specs.Clauses.{clauses_of}
use Rattle.cg_desc_references.specs.E305.{e305}
use Rattle.cg_desc_choices.specs.declared.written.Written.{Written}
use Rattle.cg_desc_insns.specs.E317.{form_over, e317}
use Rattle.cg_desc_data.specs.Selecting.{takes_part_in}
use Rattle.cg_desc_scope.specs.Texts.{of_form}
use Rattle.cg_desc_scope.specs.Described.{Described}
use Rattle.cg_desc_fault_report.specs.declared.saying.Saying.{Saying}
use Rattle.cg_desc_fault_report.specs.Saying.{Numbered, only_text, least_said, with_number, refusal_of}
use Rattle.cg_desc_fault_rtl.specs.E315.{e315}
use Rattle.cg_desc_fault_rtl.specs.E405.{e405}
use Rattle.cg_desc_fault_name.specs.E304.{e304}
use Rattle.cg_desc_fault_name.specs.E306.{e306}
use Rattle.cg_desc_fault_format.specs.E309.{e309}
use Rattle.cg_desc_fault_format.specs.E310.{e310}
use Rattle.cg_desc_fault_format.specs.E311.{e311}
use Rattle.cg_desc_fault_format.specs.E312.{e312}
use Rattle.cg_desc_fault_format.specs.E313.{e313}
use Rattle.cg_desc_fault_format.specs.E316.{e316}
use Rattle.cg_desc_fault_count.specs.declared.counts.Counts.{Counts}
use Rattle.cg_desc_fault_count.specs.Counts.{Before, nothing_before, counts_at, behind}
use Rattle.cg_desc_fault_count.specs.Frames.{e303, e307}
use Rattle.cg_desc_fault_count.specs.E308.{e308}
use Rattle.cg_desc_fault_count.specs.E314.{e314}
use Rattle.cg_desc_fault_least.specs.Modes.{modes_said}

-- What is at fault in the form of this number, which gives this element and these instructions: by its names, by its counts and bits, and by
-- its slots and rules. So much stands before it, and it adds so much.
abbrev pub by_names : Described → Scope → Machine → ℕ → Element → Form → List Written → Numbered
by_names d scope m form e f ws =
    (303, e303 d.selection form)
    ∷ (304, e304 d scope m form e f ws)
    ∷ (305, map only_text (e305 d.selection.at form e f))
    ∷ (306, e306 d scope m form e f ws)
    ∷ (307, e307 d.selection form f)
    ∷ []

abbrev pub by_bits : Described → Scope → Machine → Counts → Counts → ℕ → Element → Form → List Written → Numbered
by_bits d scope m before own form e f ws =
    (308, e308 d scope m before own form e f ws)
    ∷ (309, e309 d e)
    ∷ (310, e310 d m ws)
    ∷ (311, e311 d ws)
    ∷ (312, e312 d m e ws)
    ∷ []

abbrev pub by_rules : Described → Scope → Machine → ℕ → Element → Form → List Written → Numbered
by_rules d scope m form e f ws =
    (313, e313 d e f ws)
    ∷ (314, e314 d m e)
    ∷ (315, e315 d scope m e f ws)
    ∷ (316, e316 d m form e ws)
    ∷ (317, map only_text (e317 d.written form))
    ∷ []

abbrev pub is_over : List Written → ℕ → Bool
is_over ws form = passes (λ n. n == form) (form_over ws)

abbrev pub faults_at : Described → Scope → Machine → Counts → Counts → ℕ → Element → Form → List Written → Numbered
faults_at d scope m before own form e f ws = by_names d scope m form e f ws ++ (by_bits d scope m before own form e f ws ++ by_rules d scope m form e f ws)

-- By modes: a symbol that names nothing goes first.
abbrev pub modes_fault : Described → Scope → Machine → Element → Form → List Written → Option (ℕ × Saying)
modes_fault d scope m e f ws =
    option_or (option_map (with_number 405) (first (e405 d scope m e f ws))) (first (modes_said d scope m (clauses_of (kind_of e) f) ws e))

abbrev pub refusal_at : Top → Option (ℕ × Saying) → Option Refusal
refusal_at top x = option_map (refusal_of top.file top.line) x

-- The refusal of a form that takes part, by its data.
abbrev pub least_at : Described → Scope → Machine → Counts → Counts → ℕ → Element → Form → List Written → Option (ℕ × Saying)
least_at d scope m before own form e f ws = if takes_part_in d.selection e then least_said (faults_at d scope m before own form e f ws) else None

unfoldable pub by_data_at : Described → Scope → Machine → Before → ℕ → Element → Top → List Written → Option Refusal
by_data_at d scope m b form e top ws = refusal_at top (least_at d scope m b.counts (counts_at d scope b form e top.form ws) form e top.form ws)

abbrev pub data_of : Described → Scope → Machine → Before → ℕ → Element → Top → Option Refusal
data_of d scope m b form e top = by_data_at d scope m b form e top (of_form form d.written)

abbrev pub behind_of : Described → Scope → Before → ℕ → Element → Top → Before
behind_of d scope b form e top = behind d scope b form e top.form (of_form form d.written)

-- The first of these forms, numbered from `form` on.
abbrev pub by_data_from : Described → Scope → Machine → Before → ℕ → List Element → List Top → Option Refusal
by_data_from d scope m b form (e ∷ es) (top ∷ tops) =
    option_or (data_of d scope m b form e top) (by_data_from d scope m (behind_of d scope b form e top) (form + 1) es tops)
by_data_from d scope m b form _ _ = None

abbrev pub by_data : Described → Scope → Machine → List Top → Option Refusal
by_data d scope m tops = by_data_from d scope m nothing_before 1 d.selection.elements tops

-- The same by modes.
abbrev pub modes_at : Described → Scope → Machine → Element → Form → List Written → Option (ℕ × Saying)
modes_at d scope m e f ws = if takes_part_in d.selection e then modes_fault d scope m e f ws else None

unfoldable pub by_modes_at : Described → Scope → Machine → Element → Top → List Written → Option Refusal
by_modes_at d scope m e top ws = refusal_at top (modes_at d scope m e top.form ws)

abbrev pub modes_of : Described → Scope → Machine → ℕ → Element → Top → Option Refusal
modes_of d scope m form e top = by_modes_at d scope m e top (of_form form d.written)

abbrev pub by_modes_from : Described → Scope → Machine → ℕ → List Element → List Top → Option Refusal
by_modes_from d scope m form (e ∷ es) (top ∷ tops) = option_or (modes_of d scope m form e top) (by_modes_from d scope m (form + 1) es tops)
by_modes_from d scope m form _ _ = None

abbrev pub by_modes : Described → Scope → Machine → List Top → Option Refusal
by_modes d scope m tops = by_modes_from d scope m 1 d.selection.elements tops

abbrev pub by_elements : Described → Scope → Machine → List Top → Option Refusal
by_elements d scope m tops = option_or (by_data d scope m tops) (by_modes d scope m tops)
