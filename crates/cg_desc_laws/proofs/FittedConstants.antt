-- Constants of formats: what is said of no form is said of no instruction.
use Rattle.std.proofs.Common.{◌≡◌, ◌∙◌, ℕ, zero, suc, ◌+◌, ◌^◌, ◌≤◌, ◌<◌, Bool, true, false, not, if◌then◌else◌, nat_lt, List, [], ◌∷◌, ◌++◌, map, length, ℤ, pos, negsuc, Option, Some, None, slice_get, refl, sym, ap, arith}
use Rattle.std.specs.List.{flat_map}
use Rattle.std.specs.Option.{option_map, unwrap_or}
use Rattle.std.proofs.lemmas.Bool.{false≢true}
use Rattle.std.proofs.lemmas.Bool.Decides.{nat_tests}
use Rattle.std.proofs.Math.Nat.{mod-eq_of_lt}
use Rattle.std.proofs.Math.Pow.{pow_mono}
use Rattle.cg_attrs.specs.declared.frame.Frame.TheVariants as frame
use Rattle.cg_base.specs.Modes.{bits_of}
use Rattle.cg_base.specs.declared.mode.Mode.{Mode}
use Rattle.cg_base.specs.Operations.{wrapped}
use Rattle.cg_base.specs.Parts.{◌>>=◌}
use Rattle.cg_desc_laws_forms.proofs.Lists.{append_none}
use Rattle.cg_desc_elements.specs.declared.element.Element.{Element}
use Rattle.cg_desc_elements.specs.declared.element.Element.TheVariants as element
use Rattle.cg_desc_elements.specs.declared.kind.Namespace.TheVariants.{Fields}
use Rattle.cg_desc_elements.specs.Elements.{kind_of}
use Rattle.cg_ifield.specs.declared.form.FieldForm.TheVariants as field
use Rattle.cg_ifield.specs.declared.form.PlainForm.{PlainForm}
use Rattle.cg_insn.specs.declared.form.InsnForm.TheVariants as insn
use Rattle.cg_operand.specs.declared.form.OperandForm.TheVariants as operand
use Rattle.cg_desc_names.specs.declared.names.Standing.{Standing}
use Rattle.cg_desc_names.specs.Table.{table_of, first_from, counted_name}
use Rattle.cg_desc_laws_forms.proofs.Members.{IsMember}
use Rattle.cg_model.specs.declared.insn.Part.TheVariants as part
use Rattle.cg_model.specs.declared.field.Field.{Field}
use Rattle.cg_model.specs.declared.machine.Machine.{Machine}
use Rattle.cg_model_faults.specs.E311.{unfit_at, unfit_from}
use Rattle.cg_model_faults.specs.Finding.{Faults, at_place, where_so}
use Rattle.cg_model_faults.specs.declared.fault.Said.TheVariants as said
use Rattle.cg_rtl_resolve.specs.declared.scope.Scope.{Scope}
use Rattle.cg_desc_choices.specs.declared.written.NamedPart.{NamedPart}
use Rattle.cg_desc_choices.specs.declared.written.NamedPart.TheVariants.{Constant, Slot}
use Rattle.cg_desc_choices.specs.declared.written.Spot.{Spot}
use Rattle.cg_desc_choices.specs.declared.written.WrittenPart.{WrittenPart}
use Rattle.cg_desc_data.specs.declared.extent.Extent.{Extent}
use Rattle.cg_desc_data.specs.Extents.{extent_of, is_constant, length_within}
use Rattle.cg_desc_data.specs.Selecting.{Selection, members, named}
use Rattle.cg_desc_data.specs.Selecting as selecting
use Rattle.cg_desc_data.specs.Framing.{framing}
use Rattle.cg_desc_data.specs.Numbering.{field_in, field_names, short, numbered}
use Rattle.cg_desc_scope.specs.Described.{Described, described}
use Rattle.cg_desc_insns.specs.Parts.{is_fitting, is_taken}
use Rattle.cg_desc_fault_format.specs.E311.{field_named, is_unfit, of_constant, of_part}
use Rattle.cg_desc_laws.proofs.Members.{AllHold}
use Rattle.cg_desc_references.specs.declared.finding.Finding.TheVariants.{Fitting, OfAnotherKind, Undefined}
use Rattle.cg_desc_references.specs.declared.reference.Place.TheVariants as place
use Rattle.cg_desc_references.specs.Finding.{is_plain_field, stands_as, fits, is_defined}
use Rattle.cg_desc_fault_report.specs.declared.saying.Placed.{Placed}
use Rattle.cg_desc_machine.specs.Instructions.{number_or_none, part_of, part_in, slot_part}
use Rattle.cg_desc_machine.specs.Machines.{machine_of}
use Rattle.cg_desc_machine.specs.Rules.{ruled_field}
use Rattle.cg_desc_laws.proofs.FittedEmitted.{unsaid}
use Rattle.cg_desc_laws.proofs.FittedExtents.{Lies}
use Rattle.cg_desc_laws.proofs.FittedFields.{none_where}
use Rattle.cg_desc_laws.proofs.FittedNames.{place_is, cut_short}
use Rattle.cg_desc_laws.proofs.FittedParts.{IsOfField, OfField}
use Rattle.cg_desc_laws.proofs.FittedTables.{Gives, Shares, Leads, leads}

few_bits : (k : Mode) → bits_of k ≤ 64
few_bits k = grind arith

-- A plain field is one of the fields.
abbrev form_or : PlainForm → Option PlainForm → PlainForm
form_or x None = x
form_or x (Some y) = y

field_gives : (e : Element) → is_plain_field (kind_of e) ≡ true → Gives field_in (λ form. form.name) e
unfolding counted_name
field_gives (element.Field (field.Plain form)) h = record { form = form; is = refl; name = refl }
field_gives (element.Field (field.Multi form)) h = absurd (false≢true h)
field_gives (element.Operand (operand.Plain form)) h = absurd (false≢true h)
field_gives (element.Operand (operand.Derived form)) h = absurd (false≢true h)
field_gives (element.Operand (operand.Anyof form)) h = absurd (false≢true h)
field_gives (element.Frame (frame.Arch form)) h = absurd (false≢true h)
field_gives (element.Frame (frame.Isa form)) h = absurd (false≢true h)
field_gives (element.Frame (frame.Cpu form)) h = absurd (false≢true h)
field_gives (element.Frame (frame.Mach form)) h = absurd (false≢true h)
field_gives (element.Frame (frame.Model form)) h = absurd (false≢true h)
field_gives (element.Frame (frame.AttrDef form)) h = absurd (false≢true h)
field_gives (element.Frame (frame.Enum form)) h = absurd (false≢true h)
field_gives (element.Frame (frame.InsnEnum form)) h = absurd (false≢true h)
field_gives (element.Frame (frame.Keyword form)) h = absurd (false≢true h)
field_gives (element.Hardware form) h = absurd (false≢true h)
field_gives (element.Insn (insn.Instruction form)) h = absurd (false≢true h)
field_gives (element.Insn (insn.Macro form)) h = absurd (false≢true h)

field_shares : (e : Element) (form : PlainForm) → field_in e ≡ Some form → Shares Fields (λ form. form.name) e form
unfolding counted_name
field_shares (element.Field (field.Plain other)) form is = record { counts = refl; name = ap (λ o. (form_or other o).name) is }
field_shares _ form is = absurd cc

-- what a place takes fits it
taken_fits : (a b : Bool) → is_fitting (if a then Fitting else if b then OfAnotherKind else Undefined) ≡ true → a ≡ true
taken_fits true b h = refl
taken_fits false true h = absurd (false≢true h)
taken_fits false false h = absurd (false≢true h)

mapped : {A B : Type 0} (f : A → B) (xs : List A) (k : ℕ) (x : A) → slice_get xs k ≡ Some x → slice_get (map f xs) k ≡ Some (f x)
mapped f [] k x is = absurd cc
mapped f (y ∷ ys) zero x is = ap (option_map f) is
mapped f (y ∷ ys) (suc k) x is = mapped f ys k x is

-- a number of so few bits is itself
small : (bits n : ℕ) → n < 2 ^ bits → wrapped bits (pos n) ≡ n
small bits n h = mod-eq_of_lt h

-- The value of a constant is below the power of its field's bits.
below : (e : Extent) (value : ℤ) → Lies e → is_constant e value ≡ true → nat_lt (wrapped 64 value) (2 ^ length_within e) ≡ true
below e (negsuc n) h fits = absurd (false≢true fits)
below e (pos c) h fits =
    let less : nat_lt c (2 ^ h.bits) ≡ true = sym (ap (λ z. elim z [ pos n ↦ nat_lt c (2 ^ n) | negsuc n ↦ false ]) h.is) ∙ fits in
    let few : h.bits ≤ 64 = omega (arith, h.fits, few_bits e.mode) in
    let under : c < 2 ^ h.bits = is_less c (2 ^ h.bits) less in
    let most : c < 2 ^ 64 = omega (arith, under, pow_mono {i = h.bits} {j = 64} few) in
    ap (λ n. nat_lt n (2 ^ length_within e)) (small 64 c most) ∙ ap (λ n. nat_lt c (2 ^ n)) h.own ∙ less where
      is_less : (a b : ℕ) → nat_lt a b ≡ true → a < b
      is_less a b l = grind (arith, nat_tests)

-- A field of this name, by its number.
pub record FieldOf (s : Selection) (scope : Scope) (m : Machine) (name : List ℕ) : Type 0 where
  pub form : PlainForm
  pub number : ℕ
  pub is : numbered (field_names s) name ≡ Some number
  pub there : slice_get m.fields number ≡ Some (ruled_field (described s) scope form)
  pub named : field_named s name ≡ Some form
  pub lies : Lies (extent_of (framing s) form)

-- what is said of a part
abbrev said_of : Described → Spot → NamedPart → List Placed
said_of d spot q = elim q [ Constant name value ↦ of_constant d spot name value | Slot name ↦ [] ]

abbrev unfit_in : ℕ → ℕ → ℕ → Option Field → Faults
unfit_in place k c o = elim o [ None ↦ [] | Some f ↦ where_so (not (nat_lt c (2 ^ f.length))) (at_place 311 place (said.Field k) (said.Count c)) ]

module _ (s : Selection) (scope : Scope) (m : Machine) (known : s.at ≡ table_of s.machine s.isa s.elements) (own : m ≡ machine_of (described s) scope) (few : length (field_names s) ≤ 65536)
    (lie : (e : Element) (form : PlainForm) → IsMember s field_in e form → Lies (extent_of (framing s) form)) where
  of_standing : (name : List ℕ) (r : Standing) → s.at Fields name ≡ Some r → is_plain_field r.kind ≡ true → FieldOf s scope m name
  unfolding named
  of_standing name r at plain =
      let first : first_from s.machine s.isa Fields name 1 s.elements ≡ Some r = sym (ap (λ t. t Fields name) known) ∙ at in
      let l : Leads s field_in (λ form. form.name) s.elements 1 name r = leads s Fields field_in (λ form. form.name) is_plain_field field_gives field_shares s.elements 1 name r first plain in
      let next : l.behind + 1 ≡ suc l.behind = omega arith in
      let form_at : selecting.element_at s.elements r.form ≡ Some l.element = ap (selecting.element_at s.elements) (l.at_form ∙ next) ∙ l.stands in
      record {
        form = l.form;
        number = l.place;
        is = ap (option_map short) l.is ∙ ap Some (cut_short (field_names s) name 65535 l.place few (place_is name (field_names s) l.place l.is));
        there = ap (λ y. slice_get y.fields l.place) own ∙ mapped (ruled_field (described s) scope) (members s field_in) l.place l.form l.there;
        named = ap (λ o. (o >>= λ x. selecting.element_at s.elements x.form) >>= field_in) at ∙ ap (λ o. o >>= field_in) form_at ∙ l.gives;
        lies = lie l.element l.form (record { there = record { place = l.behind; is = l.stands }; part = l.part; gives = l.gives });
      }

  pub field_of_name : (name : List ℕ) → fits s.at place.Field name ≡ true → FieldOf s scope m name
  field_of_name name h = by (s.at Fields name) refl h where
    by : (o : Option Standing) → s.at Fields name ≡ o → stands_as is_plain_field o ≡ true → FieldOf s scope m name
    by None at plain = absurd (false≢true plain)
    by (Some r) at plain = of_standing name r at plain

  one_constant : (at : ℕ) (name : List ℕ) (value : ℤ) → is_taken s.at place.Field name ≡ true → is_unfit (described s) value (field_named s name) ≡ false → unfit_at m at (part.Constant (number_or_none (described s).numbers.fields name) (wrapped 64 value)) ≡ []
  one_constant at name value taken silent =
      let x : FieldOf s scope m name = field_of_name name (taken_fits (fits s.at place.Field name) (is_defined s.at name) taken) in
      let e : Extent = extent_of (framing s) x.form in
      let fit : not (is_constant e value) ≡ false = sym (ap (is_unfit (described s) value) x.named) ∙ silent in
      let less : nat_lt (wrapped 64 value) (2 ^ length_within e) ≡ true = below e value x.lies (not_false (is_constant e value) fit) in
      let number : number_or_none (described s).numbers.fields name ≡ x.number = ap (λ o. unwrap_or o 0) x.is in
      ap (λ n. unfit_at m at (part.Constant n (wrapped 64 value))) number ∙ ap (unfit_in at x.number (wrapped 64 value)) x.there ∙ none_where (nat_lt (wrapped 64 value) (2 ^ length_within e)) _ less where
        not_false : (b : Bool) → not b ≡ false → b ≡ true
        not_false true h = refl
        not_false false h = absurd (false≢true (sym h))

  none_behind : (names : List (List ℕ)) (at : ℕ) → unfit_from m at (map (slot_part (described s)) names) ≡ []
  none_behind [] at = refl
  none_behind (name ∷ names) at = none_behind names (suc at)

  pub all_constants : (ps : List WrittenPart) (names : List (List ℕ)) (at : ℕ) → AllHold (IsOfField s.at) ps → flat_map (of_part (described s)) ps ≡ [] → unfit_from m at (map (part_in (described s)) ps ++ map (slot_part (described s)) names) ≡ []
  all_constants [] names at fields none = none_behind names at
  all_constants (p ∷ ps) names at fields none =
      let both : (of_part (described s) p ≡ []) × (flat_map (of_part (described s)) ps ≡ []) = append_none (of_part (described s) p) (flat_map (of_part (described s)) ps) none in
      by p.part fields.0 both.0 (all_constants ps names (suc at) fields.1 both.1) where
        by : (q : NamedPart) → OfField s.at q → said_of (described s) p.spot q ≡ [] → unfit_from m (suc at) (map (part_in (described s)) ps ++ map (slot_part (described s)) names) ≡ []
            → unfit_at m at (part_of (described s) q) ++ unfit_from m (suc at) (map (part_in (described s)) ps ++ map (slot_part (described s)) names) ≡ []
        by (Constant name value) taken said rest =
            ap (λ xs. xs ++ unfit_from m (suc at) (map (part_in (described s)) ps ++ map (slot_part (described s)) names)) (one_constant at name value taken (unsaid (is_unfit (described s) value (field_named s name)) _ said)) ∙ rest
        by (Slot name) taken said rest = rest
