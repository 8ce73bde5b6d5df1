-- Where no kind is said to be wrong in a clause, its words are words, and nothing is wrong once choices are put in.
use Rattle.std.proofs.Common.{◌≡◌, ℕ, Bool, true, false, if◌then◌else◌, List, [], ◌∷◌, ◌++◌, refl}
use Rattle.cg_attrs.specs.Clauses.{Clause}
use Rattle.cg_desc_elements.specs.declared.element.Element.{Element}
use Rattle.cg_desc_elements.specs.Elements.{kind_of}
use Rattle.cg_model.specs.declared.machine.Machine.{Machine}
use Rattle.cg_rtl_resolve.specs.declared.scope.Scope.{Scope}
use Rattle.cg_desc_references.specs.E304.{is_other, is_of_another_kind}
use Rattle.cg_desc_choices.specs.declared.written.Written.{Written}
use Rattle.cg_desc_scope.specs.Described.{Described}
use Rattle.cg_desc_fault_rtl.specs.Expressions.{expressions}
use Rattle.cg_desc_fault_rtl.specs.Judging.{of_expressions}
use Rattle.cg_desc_fault_name.specs.E304.{of_another_kind, is_selected, all_of, in_clause}
use Rattle.cg_desc_fault_name.specs.MacroNames.{macro_names, of_macro}
use Rattle.cg_desc_fault_name.specs.Names.{placed_names, of_names}
use Rattle.cg_desc_fault_name.specs.Shapes.{of_choices}
use Rattle.cg_desc_fault_name.specs.Words.{of_words}
use Rattle.cg_desc_laws.proofs.Said.{none_placed}

two_of_five : {A : Type 0} (a b c d e : List A) → a ++ b ++ c ++ d ++ e ≡ [] → (c ≡ []) × (e ≡ [])
two_of_five [] [] [] [] [] h = (refl, refl)
two_of_five [] [] [] [] (x ∷ e) h = absurd cc
two_of_five [] [] [] (x ∷ d) e h = absurd cc
two_of_five [] [] (x ∷ c) d e h = absurd cc
two_of_five [] (x ∷ b) c d e h = absurd cc
two_of_five (x ∷ a) b c d e h = absurd cc

pub none_of_kinds : (d : Described) (scope : Scope) (m : Machine) (form : ℕ) (ws : List Written) (e : Element) (c : Clause) → in_clause d scope m form ws e c ≡ [] → (of_words d.selection e c ≡ []) × (of_choices ws c.name ≡ [])
none_of_kinds d scope m form ws e c none =
    two_of_five (of_expressions (of_another_kind d.selection.at m) (expressions d scope m ws e c)) (of_names (is_of_another_kind d.selection.at) (placed_names (is_selected d form) (kind_of e) c)) (of_words d.selection e c) (of_macro is_other (macro_names d e c.name)) (of_choices ws c.name)
    (none_placed (all_of d scope m form ws e c) none)

-- what isn't said holds
pub unsaid_holds : {A : Type 0} (b : Bool) (x : A) → (if b then [] else x ∷ []) ≡ [] → b ≡ true
unsaid_holds true x h = refl
unsaid_holds false x h = absurd cc
