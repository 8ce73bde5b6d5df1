-- E303: the machine has no arch. E307: what is left out of machines so far, a second instruction set and hardware that selects one. Both are
-- said at the form of the machine's `define-mach`.
use Rattle.std.specs.Prelude.{ℕ, ◌&&◌, ◌==◌, not, if◌then◌else◌, List, [], ◌∷◌, ◌++◌, map, drop, take, is_some, codes}
use Rattle.std.specs.List.{flat_map}
use Rattle.cg_base.specs.declared.form.Form.{Form}
use Rattle.cg_base.specs.Texts.{same_text}
use Rattle.cg_attrs.specs.Clauses.{Clause}
use Rattle.cg_desc_elements.specs.declared.kind.Kind.TheVariants.{Mach}
use Rattle.cg_desc_elements.specs.E318.{isas_of}
use Rattle.cg_desc_references.specs.Clauses.{clauses_of}
use Rattle.cg_desc_data.specs.Selecting.{Selection}
use Rattle.cg_desc_data.specs.Framing.{arch_form}
use Rattle.cg_desc_fault_report.specs.declared.saying.Saying.{Saying}
use Rattle.cg_desc_fault_report.specs.Saying.{only_text, said_where}

abbrev pub e303 : Selection → ℕ → List Saying
e303 s form = said_where (form == s.form && not (is_some (arch_form s))) (only_text (codes "define-arch"))

-- Where the arch names the instruction sets, the second stands in no clause of the machine, and goes first.
abbrev pub second_isa : Selection → List Saying
second_isa s = map only_text (take 1 (drop 1 (isas_of s.mach (arch_form s))))

abbrev pub by_arch : Selection → List Saying
by_arch s = if is_some s.mach.isas then [] else second_isa s

abbrev pub in_clause : Selection → Clause → List Saying
in_clause s c =
    if same_text (codes "isa-selector") c.name then only_text (codes "isa-selector") ∷ []
    else if same_text (codes "isas") c.name then second_isa s
    else []

abbrev pub of_mach : Selection → Form → List Saying
of_mach s f = by_arch s ++ flat_map (in_clause s) (clauses_of Mach f)

abbrev pub e307 : Selection → ℕ → Form → List Saying
e307 s form f = if form == s.form then of_mach s f else []
