-- Each slot of an instruction is an operand of the machine.
use Rattle.std.proofs.Common.{◌≡◌, ◌∙◌, ℕ, zero, suc, ◌≤◌, Bool, true, false, not, ◌||◌, if◌then◌else◌, List, [], ◌∷◌, ◌++◌, filter, length, Option, Some, None, slice_get, refl, sym, ap}
use Rattle.std.specs.Prelude.{codes}
use Rattle.std.specs.List.{filter_map, flat_map}
use Rattle.std.specs.Option.{option_map, option_or}
use Rattle.std.proofs.lemmas.Bool.{false≢true}
use Rattle.cg_attrs.specs.declared.frame.Frame.TheVariants as frame
use Rattle.cg_base.specs.Texts.{same_text, is_among, passes}
use Rattle.cg_desc_laws_forms.proofs.Clauses.{equal_texts, second_true}
use Rattle.cg_desc_laws_forms.proofs.Lists.{the_found}
use Rattle.cg_desc_elements.specs.declared.element.Element.{Element}
use Rattle.cg_desc_elements.specs.declared.element.Element.TheVariants as element
use Rattle.cg_desc_elements.specs.declared.kind.Kind.TheVariants as kind
use Rattle.cg_desc_elements.specs.declared.kind.Namespace.TheVariants.{Operands}
use Rattle.cg_desc_elements.specs.Elements.{kind_of}
use Rattle.cg_insn.specs.declared.form.InsnForm.TheVariants as insn
use Rattle.cg_ifield.specs.declared.form.FieldForm.TheVariants as field
use Rattle.cg_operand.specs.declared.form.OperandForm.TheVariants as operand
use Rattle.cg_operand.specs.declared.form.PlainOperandForm.{PlainOperandForm}
use Rattle.cg_desc_names.specs.declared.names.Standing.{Standing}
use Rattle.cg_desc_names.specs.Table.{table_of, first_from, standing, counted_name}
use Rattle.cg_model.specs.declared.operand.Operand.{Operand}
use Rattle.cg_model_faults.specs.E306.{lies_in_fields}
use Rattle.cg_rtl_resolve.specs.Names.{place_of}
use Rattle.cg_desc_choices.specs.declared.written.Written.{Written}
use Rattle.cg_desc_data.specs.Selecting.{Selection}
use Rattle.cg_desc_data.specs.Numbering.{operand_in, operand_names, short, numbered}
use Rattle.cg_desc_scope.specs.Bare.{is_bare, bare_in, bare_names}
use Rattle.cg_desc_scope.specs.Described.{all_operand_names, described, written_in}
use Rattle.cg_desc_insns.specs.Choices.{distinct_behind}
use Rattle.cg_desc_laws.proofs.Members.{IsIn}
use Rattle.cg_desc_references.specs.Finding.{stands_as, is_plain_operand}
use Rattle.cg_desc_machine.specs.Instructions.{slot_of, has_no_field, is_behind, format_slots, behind_format, slot_names}
use Rattle.cg_desc_laws.proofs.FittedDistinct.{among_both, was_among, was_kept}
use Rattle.cg_desc_laws.proofs.FittedMatched.{AreKnown, or_true}
use Rattle.cg_desc_laws.proofs.FittedNames.{numbered_at, among_place}
use Rattle.cg_desc_laws.proofs.FittedTables.{Gives, Shares, Leads, leads}

-- A plain operand is one of the operands.
abbrev operand_or : PlainOperandForm → Option PlainOperandForm → PlainOperandForm
operand_or x None = x
operand_or x (Some y) = y

operand_gives : (e : Element) → is_plain_operand (kind_of e) ≡ true → Gives operand_in (λ form. form.name) e
unfolding counted_name
operand_gives (element.Operand (operand.Plain form)) h = record { form = form; is = refl; name = refl }
operand_gives (element.Operand (operand.Derived form)) h = absurd (false≢true h)
operand_gives (element.Operand (operand.Anyof form)) h = absurd (false≢true h)
operand_gives (element.Frame (frame.Arch form)) h = absurd (false≢true h)
operand_gives (element.Frame (frame.Isa form)) h = absurd (false≢true h)
operand_gives (element.Frame (frame.Cpu form)) h = absurd (false≢true h)
operand_gives (element.Frame (frame.Mach form)) h = absurd (false≢true h)
operand_gives (element.Frame (frame.Model form)) h = absurd (false≢true h)
operand_gives (element.Frame (frame.AttrDef form)) h = absurd (false≢true h)
operand_gives (element.Frame (frame.Enum form)) h = absurd (false≢true h)
operand_gives (element.Frame (frame.InsnEnum form)) h = absurd (false≢true h)
operand_gives (element.Frame (frame.Keyword form)) h = absurd (false≢true h)
operand_gives (element.Field (field.Plain form)) h = absurd (false≢true h)
operand_gives (element.Field (field.Multi form)) h = absurd (false≢true h)
operand_gives (element.Hardware form) h = absurd (false≢true h)
operand_gives (element.Insn (insn.Instruction form)) h = absurd (false≢true h)
operand_gives (element.Insn (insn.Macro form)) h = absurd (false≢true h)

operand_shares : (e : Element) (form : PlainOperandForm) → operand_in e ≡ Some form → Shares Operands (λ form. form.name) e form
unfolding counted_name
operand_shares (element.Operand (operand.Plain other)) form is = record { counts = refl; name = ap (λ o. (operand_or other o).name) is }
operand_shares _ form is = absurd cc

-- What is one of some stays one of them.
kept : (test : List ℕ → Bool) (xs : List (List ℕ)) (x : List ℕ) → is_among xs x ≡ true → test x ≡ true → is_among (filter test xs) x ≡ true
kept test [] x h passes = absurd (false≢true h)
kept test (y ∷ ys) x h passes = at (λ e. kept test ys x e passes) (same_text y x) refl (test y) refl h where
  at : (is_among ys x ≡ true → is_among (filter test ys) x ≡ true) → (a : Bool) → same_text y x ≡ a → (b : Bool) → test y ≡ b → (a || is_among ys x) ≡ true → is_among (if b then y ∷ filter test ys else filter test ys) x ≡ true
  at rest true same true own e = ap (λ c. c || is_among (filter test ys) x) same
  at rest true same false own e = absurd (false≢true (sym own ∙ ap test (equal_texts y x same) ∙ passes))
  at rest false same true own e = or_true (same_text y x) (is_among (filter test ys) x) (rest e)
  at rest false same false own e = rest e

once_among : (before xs : List (List ℕ)) (x : List ℕ) → is_among xs x ≡ true → is_among before x ≡ false → is_among (distinct_behind before xs) x ≡ true
once_among before [] x h new = absurd (false≢true h)
once_among before (y ∷ ys) x h new = at (λ names e fresh. once_among names ys x e fresh) (is_among before y) refl (same_text y x) refl h where
  at : ((names : List (List ℕ)) → is_among ys x ≡ true → is_among names x ≡ false → is_among (distinct_behind names ys) x ≡ true) → (a : Bool) → is_among before y ≡ a → (b : Bool) → same_text y x ≡ b → (b || is_among ys x) ≡ true → is_among (if a then distinct_behind before ys else y ∷ distinct_behind (before ++ y ∷ []) ys) x ≡ true
  at rest true old true same e = absurd (false≢true (sym new ∙ ap (is_among before) (sym (equal_texts y x same)) ∙ old))
  at rest true old false same e = rest before e new
  at rest false old true same e = ap (λ c. c || is_among (distinct_behind (before ++ y ∷ []) ys) x) same
  at rest false old false same e =
      or_true (same_text y x) (is_among (distinct_behind (before ++ y ∷ []) ys) x)
      (rest (before ++ y ∷ []) e (among_both before (y ∷ []) x ∙ ap (λ c. c || is_among (y ∷ []) x) new ∙ ap (λ c. c || false) same))

among_each : {A : Type 0} (f : A → List (List ℕ)) (xs : List A) (a : A) (x : List ℕ) → IsIn xs a → is_among (f a) x ≡ true → is_among (flat_map f xs) x ≡ true
among_each {A} f xs a x i h = at xs i.place i.is where
  either : (b c : Bool) → b ≡ true → (b || c) ≡ true
  either true c e = refl
  either false c e = absurd (false≢true e)

  at : (bs : List A) (k : ℕ) → slice_get bs k ≡ Some a → is_among (flat_map f bs) x ≡ true
  at [] k is = absurd cc
  at (b ∷ bs) zero is = among_both (f b) (flat_map f bs) x ∙ either (is_among (f b) x) (is_among (flat_map f bs) x) (ap (λ c. is_among (f c) x) (the_found b a is) ∙ h)
  at (b ∷ bs) (suc k) is = among_both (f b) (flat_map f bs) x ∙ or_true (is_among (f b) x) (is_among (flat_map f bs) x) (at bs k is)

module _ (s : Selection) (known : s.at ≡ table_of s.machine s.isa s.elements) where
  -- a name that is a plain operand's
  plain_named : (x : List ℕ) → stands_as is_plain_operand (s.at Operands x) ≡ true → is_among (operand_names s) x ≡ true
  plain_named x h = by (same_text (codes "pc") x) (first_from s.machine s.isa Operands x 1 s.elements) refl (sym (ap (λ at. stands_as is_plain_operand (at Operands x)) known) ∙ h) where
    by : (b : Bool) (o : Option Standing) → first_from s.machine s.isa Operands x 1 s.elements ≡ o → passes (λ at. is_plain_operand at.kind) (option_or (if b then Some (standing 0 0 kind.Pc) else None) o) ≡ true → is_among (operand_names s) x ≡ true
    by true o is e = absurd (false≢true e)
    by false None is e = absurd (false≢true e)
    by false (Some at) is e =
        let l : Leads s operand_in (λ form. form.name) s.elements 1 x at = leads s Operands operand_in (λ form. form.name) is_plain_operand operand_gives operand_shares s.elements 1 x at is e in
        among_place (operand_names s) x l.place l.is

  -- a slot of a format
  format_known : (w : Written) → IsIn (written_in s) w → (x : List ℕ) → is_among (format_slots w) x ≡ true → is_among (all_operand_names s (written_in s)) x ≡ true
  format_known w i x h = at (stands_as is_plain_operand (s.at Operands x)) refl where
    at : (b : Bool) → stands_as is_plain_operand (s.at Operands x) ≡ b → is_among (operand_names s ++ bare_names s.at (written_in s)) x ≡ true
    at true plain = among_both (operand_names s) (bare_names s.at (written_in s)) x ∙ ap (λ b. b || is_among (bare_names s.at (written_in s)) x) (plain_named x plain)
    at false plain =
        let bare : is_among (bare_in s.at w) x ≡ true = kept (is_bare s.at) (format_slots w) x h (ap not plain) in
        among_both (operand_names s) (bare_names s.at (written_in s)) x
        ∙ or_true (is_among (operand_names s) x) (is_among (bare_names s.at (written_in s)) x) (once_among [] (flat_map (bare_in s.at) (written_in s)) x (among_each (bare_in s.at) (written_in s) w x i bare) refl)

  -- and a slot behind it
  behind_known : (names : List (List ℕ)) (os : List Operand) (x : List ℕ) → has_no_field (numbered names) os x ≡ true → is_among names x ≡ true
  behind_known names os x h = at (place_of x names) refl h where
    at : (o : Option ℕ) → place_of x names ≡ o → elim (option_map short o) [ None ↦ false | Some k ↦ not (lies_in_fields (slice_get os k)) ] ≡ true → is_among names x ≡ true
    at None is e = absurd (false≢true e)
    at (Some k) is e = among_place names x k is

  pub slots_known : (w : Written) → IsIn (written_in s) w → length (all_operand_names s (written_in s)) ≤ 65536 → AreKnown (numbered (all_operand_names s (written_in s))) (all_operand_names s (written_in s)) (slot_names (described s) w)
  slots_known w i few x h = numbered_at (all_operand_names s (written_in s)) x few (at (is_among (format_slots w) x) refl (sym (among_both (format_slots w) (behind_format (described s) w) x) ∙ h)) where
    at : (b : Bool) → is_among (format_slots w) x ≡ b → (b || is_among (behind_format (described s) w) x) ≡ true → is_among (all_operand_names s (written_in s)) x ≡ true
    at true front e = format_known w i x front
    at false front e =
        let kept_there = was_kept (is_behind (described s).operand_numbers (described s).operands (format_slots w)) (filter_map slot_of w.pieces) x (was_among [] (filter (is_behind (described s).operand_numbers (described s).operands (format_slots w)) (filter_map slot_of w.pieces)) x e) in
        behind_known (all_operand_names s (written_in s)) (described s).operands x (second_true (not (is_among (format_slots w) x)) (has_no_field (described s).operand_numbers (described s).operands x) kept_there.1)
