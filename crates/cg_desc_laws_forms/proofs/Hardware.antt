-- The modes and counts of a described machine's hardware are allowed, where no form is refused by itself.
use Rattle.std.proofs.Common.{◌≡◌, ◌∙◌, ℕ, Bool, true, false, not, ◌&&◌, ◌||◌, ◌==◌, if◌then◌else◌, is_some, List, [], ◌∷◌, map, Option, Some, None, refl, sym, ap, subst}
use Rattle.std.specs.Prelude.{codes}
use Rattle.std.specs.List.{list_all, filter_map}
use Rattle.std.specs.Option.{option_or, unwrap_or}
use Rattle.std.proofs.lemmas.Bool.{false≢true}
use Rattle.cg_base.specs.declared.form.Form.{Form, out-Form}
use Rattle.cg_base.specs.declared.form.Form.TheOpen.{Number, Symbol, Str, Flag, Items}
use Rattle.cg_base.specs.declared.form.Top.{Top}
use Rattle.cg_base.specs.declared.mode.Mode.{Mode}
use Rattle.cg_base.specs.declared.mode.Mode.TheVariants.{Bi, Qi, Hi, Si, Di, Uqi, Uhi, Usi, Udi, Void}
use Rattle.cg_base.specs.ModeWords.{is_value_mode}
use Rattle.cg_base.specs.Parts.{◌>>=◌, Layer, Headed, headed, symbol_in, symbol_of, elements_in, elements_of, number_of}
use Rattle.cg_base.specs.Texts.{same_text, passes}
use Rattle.cg_desc_laws_forms.specs.Forms.{is_type, HasRules}
use Rattle.cg_desc_laws_forms.proofs.Elements.{Given}
use Rattle.cg_desc_laws_forms.proofs.FormHardware.{hardware_law}
use Rattle.cg_desc_elements.specs.declared.element.Element.{Element}
use Rattle.cg_desc_elements.specs.declared.element.Element.TheVariants as element
use Rattle.cg_desc_elements.specs.Reading.{element_at, first_refusal}
use Rattle.cg_hw.specs.Types.{names_mode, is_count, registers, is_sized_in, is_immediate}
use Rattle.cg_hw.specs.declared.form.HardwareForm.{HardwareForm}
use Rattle.cg_ifield.specs.Contents.{is_field_mode}
use Rattle.cg_model.specs.Formed.{has_bits, is_address, same_mode, is_formed_where}
use Rattle.cg_base.specs.Modes.{address_mode}
use Rattle.cg_model.specs.Placed.{is_register}
use Rattle.cg_model.specs.declared.hardware.Hardware.{Hardware}
use Rattle.cg_model.specs.declared.hardware.HwKind.{HwKind}
use Rattle.cg_model.specs.declared.hardware.HwKind.TheVariants.{Register, Memory, Pc, Immediate, Address}
use Rattle.cg_model.specs.declared.machine.Machine.{Machine}
use Rattle.cg_rtl.specs.Shapes.{first_symbol}
use Rattle.cg_desc_data.specs.Selecting.{Selection, members}
use Rattle.cg_desc_data.specs.Framing.{framing}
use Rattle.cg_desc_data.specs.Numbering.{hardware_in}
use Rattle.cg_desc_data.specs.declared.framing.Framing.{Framing}
use Rattle.cg_desc_data.specs.Extents.{mode_or_uint}
use Rattle.cg_desc_data.specs.Hardware.{kind_named, mode_word_of, mode_word, mode_by, cells_by, counted, hardware_of, built_in, hardware_list}
use Rattle.cg_desc_laws_forms.specs.Sizes.{is_sized}
use Rattle.cg_desc_laws_forms.proofs.Framing.{given_here}
use Rattle.cg_desc_laws_forms.proofs.Members.{both_true, IsMember, all_members, all_mapped, all_joined}
use Rattle.cg_desc_laws_forms.proofs.Fields.{mode_bits, some_address, first_of}

-- The word for a mode that stands in a type is one of values.
abbrev NamesValue : Option (List ℕ) → Type 0
NamesValue None = ⊥
NamesValue (Some text) = is_value_mode text ≡ true

named_word : (f : Form) → names_mode f ≡ true → NamesValue (mode_word_of f)
named_word f h = at (symbol_of f) refl where
  at : (o : Option (List ℕ)) → symbol_of f ≡ o → NamesValue (mode_word_of f)
  at None is = absurd (false≢true (sym (ap (passes is_value_mode) is) ∙ h))
  at (Some text) is = subst NamesValue (sym (ap (λ o. option_or o (elements_of f >>= first_symbol)) is)) (sym (ap (passes is_value_mode) is) ∙ h)

-- of registers
some_if : {A : Type 0} (b : Bool) (a : A) → is_some (if b then Some a else None) ≡ true → b ≡ true
some_if true a e = refl
some_if false a e = absurd (false≢true e)

register_word : (fs : List Form) → is_some (registers fs) ≡ true → NamesValue (mode_word fs)
register_word [] h = absurd (false≢true h)
register_word (mode ∷ []) h = named_word mode (some_if (names_mode mode) _ h)
register_word (mode ∷ count ∷ []) h = named_word mode (first_of (names_mode mode) (is_count count) (some_if (names_mode mode && is_count count) _ h))
register_word (mode ∷ count ∷ other ∷ fs) h = absurd (false≢true h)

-- of immediates
sized_word : (fs : List Form) → is_sized_in fs ≡ true → NamesValue (first_symbol fs)
sized_word [] h = absurd (false≢true h)
sized_word (mode ∷ []) h = absurd (false≢true h)
sized_word (mode ∷ n ∷ []) h = at (symbol_of mode) refl where
  at : (o : Option (List ℕ)) → symbol_of mode ≡ o → NamesValue (symbol_of mode)
  at None is = absurd (false≢true (sym (ap (λ o. passes is_value_mode o && is_some (number_of n)) is) ∙ h))
  at (Some text) is = subst NamesValue (sym is) (first_of (is_value_mode text) (is_some (number_of n)) (sym (ap (λ o. passes is_value_mode o && is_some (number_of n)) is) ∙ h))
sized_word (mode ∷ n ∷ other ∷ fs) h = absurd (false≢true h)

layer_word : (l : Layer) → (passes is_value_mode (symbol_in l) || passes is_sized_in (elements_in l)) ≡ true → NamesValue (option_or (symbol_in l) (elements_in l >>= first_symbol))
layer_word (Number n) h = absurd (false≢true h)
layer_word (Symbol text) h = at (is_value_mode text) refl where
  at : (b : Bool) → is_value_mode text ≡ b → is_value_mode text ≡ true
  at true is = is
  at false is = absurd (false≢true (sym (ap (λ b. b || false) is) ∙ h))
layer_word (Str text) h = absurd (false≢true h)
layer_word (Flag b) h = absurd (false≢true h)
layer_word (Items fs) h = sized_word fs h

immediate_word : (fs : List Form) → is_immediate fs ≡ true → NamesValue (mode_word fs)
immediate_word [] h = absurd (false≢true h)
immediate_word (f ∷ []) h = layer_word (out-Form f) h
immediate_word (f ∷ g ∷ fs) h = absurd (false≢true h)

-- A mode that is so named has bits.
field_mode : (text : List ℕ) → is_value_mode text ≡ true → is_field_mode text ≡ true
field_mode text h = ap (λ b. b || same_text (codes "DFLT") text) h

value_bits : (b : Framing) (o : Option (List ℕ)) → NamesValue o → has_bits (mode_or_uint b o) ≡ true
value_bits b None h = absurd h
value_bits b (Some text) h = mode_bits b (Some text) (λ other is. subst (λ o. FieldMode o) is (field_mode text h)) where
  FieldMode : Option (List ℕ) → Type 0
  FieldMode None = Unit {0}
  FieldMode (Some name) = is_field_mode name ≡ true

-- By the words of the types, in their order.
abbrev kind_by : Bool → Bool → Bool → Bool → HwKind
kind_by r m p i = if r then Register else if m then Memory else if p then Pc else if i then Immediate else Address

abbrev fits_by : Bool → Bool → Bool → Bool → List Form → Bool
fits_by r m p i fs = if r then is_some (registers fs) else if m then true else if p then true else if i then is_immediate fs else true

address_bits : (b : Framing) → has_bits (address_mode b.word_bits) ≡ true
address_bits b = some_address (b.word_bits == 8) (b.word_bits == 16) (b.word_bits == 32)

kind_bits : (b : Framing) (r m p i : Bool) (fs : List Form) → fits_by r m p i fs ≡ true → has_bits (mode_by b (kind_by r m p i) fs) ≡ true
kind_bits b true m p i fs h = value_bits b (mode_word fs) (register_word fs h)
kind_bits b false true p i fs h = address_bits b
kind_bits b false false true i fs h = address_bits b
kind_bits b false false false true fs h = value_bits b (mode_word fs) (immediate_word fs h)
kind_bits b false false false false fs h = address_bits b

same_as : (k : Mode) → same_mode k k ≡ true
same_as Bi = refl
same_as Qi = refl
same_as Hi = refl
same_as Si = refl
same_as Di = refl
same_as Uqi = refl
same_as Uhi = refl
same_as Usi = refl
same_as Udi = refl
same_as Void = refl

-- Hardware that holds addresses has their mode, and only registers are counted.
addressed : (m : Machine) (b : Framing) (k : HwKind) (fs : List Form) → m.word_bits ≡ b.word_bits → (not (is_address k) || same_mode (mode_by b k fs) (address_mode m.word_bits)) ≡ true
addressed m b Register fs h = refl
addressed m b Memory fs h = ap (λ n. same_mode (address_mode b.word_bits) (address_mode n)) h ∙ same_as (address_mode b.word_bits)
addressed m b Pc fs h = ap (λ n. same_mode (address_mode b.word_bits) (address_mode n)) h ∙ same_as (address_mode b.word_bits)
addressed m b Immediate fs h = refl
addressed m b Address fs h = ap (λ n. same_mode (address_mode b.word_bits) (address_mode n)) h ∙ same_as (address_mode b.word_bits)

uncounted : (k : HwKind) (fs : List Form) → (is_register k || counted (cells_by k fs) == 0) ≡ true
uncounted Register fs = refl
uncounted Memory fs = refl
uncounted Pc fs = refl
uncounted Immediate fs = refl
uncounted Address fs = refl

-- Hardware without words and rules.
plain_sized : (m : Machine) (h : Hardware) → h.get ≡ None → h.set ≡ None → has_bits h.mode ≡ true → (not (is_address h.kind) || same_mode h.mode (address_mode m.word_bits)) ≡ true → (is_register h.kind || h.count == 0) ≡ true → is_sized m h ≡ true
plain_sized m h get set bits address count =
    both_true _ _ (both_true _ _ (both_true _ _ (both_true _ _ (both_true (has_bits h.mode) (not (is_address h.kind) || same_mode h.mode (address_mode m.word_bits)) bits address) count) refl) (ap is_formed_where get)) (ap is_formed_where set)

-- hardware of this type
abbrev hardware_typed : Framing → List ℕ → Headed → Hardware
hardware_typed b name x = record { name = name; kind = kind_named x.0; mode = mode_by b (kind_named x.0) x.1; count = counted (cells_by (kind_named x.0) x.1); keyword = None; get = None; set = None }

module _ (m : Machine) (b : Framing) (same : m.word_bits ≡ b.word_bits) where
  addresses_sized : (name : List ℕ) (k : HwKind) (fs : List Form) → has_bits (mode_by b k fs) ≡ true → is_sized m (record { name = name; kind = k; mode = mode_by b k fs; count = counted (cells_by k fs); keyword = None; get = None; set = None }) ≡ true
  addresses_sized name k fs bits = plain_sized m (record { name = name; kind = k; mode = mode_by b k fs; count = counted (cells_by k fs); keyword = None; get = None; set = None }) refl refl bits (addressed m b k fs same) (uncounted k fs)

  pub built_in_sized : list_all (is_sized m) (built_in b) ≡ true
  built_in_sized =
      both_true _ _ (addresses_sized (codes "h-memory") Memory [] (address_bits b))
      (both_true _ _ (plain_sized m (record { name = codes "h-sint"; kind = Immediate; mode = Si; count = 0; keyword = None; get = None; set = None }) refl refl refl refl refl)
      (both_true _ _ (plain_sized m (record { name = codes "h-uint"; kind = Immediate; mode = Usi; count = 0; keyword = None; get = None; set = None }) refl refl refl refl refl)
      (both_true _ _ (addresses_sized (codes "h-addr") Address [] (address_bits b))
      (both_true _ _ (addresses_sized (codes "h-iaddr") Address [] (address_bits b)) refl))))

  typed_sized : (s : Selection) (form : HardwareForm) (x : Headed) → headed form.kind ≡ Some x → is_type x ≡ true → is_sized m (hardware_of s b form) ≡ true
  typed_sized s form x is fits =
      let bits : has_bits (mode_by b (kind_named x.0) x.1) ≡ true =
      kind_bits b (same_text (codes "register") x.0) (same_text (codes "memory") x.0) (same_text (codes "pc") x.0) (same_text (codes "immediate") x.0) x.1 fits in
      let plain : is_sized m (record { name = form.name; kind = kind_named x.0; mode = mode_by b (kind_named x.0) x.1; count = counted (cells_by (kind_named x.0) x.1); keyword = None; get = None; set = None }) ≡ true =
      addresses_sized form.name (kind_named x.0) x.1 bits in
      ap (λ o. is_sized m (hardware_typed b form.name (unwrap_or {T = Headed} o ([], [])))) is ∙ plain

abbrev hardware_or : HardwareForm → Option HardwareForm → HardwareForm
hardware_or form None = form
hardware_or form (Some other) = other

pub hardware_given : (e : Element) (form : HardwareForm) → hardware_in e ≡ Some form → e ≡ element.Hardware form
hardware_given (element.Hardware other) form is = ap (λ o. element.Hardware (hardware_or form o)) is
hardware_given _ form is = absurd cc

module _ (tops : List Top) (s : Selection) (clear : first_refusal tops ≡ None) (elements : s.elements ≡ filter_map element_at tops) where
  pub member_sized : (m : Machine) → m.word_bits ≡ (framing s).word_bits → (e : Element) (form : HardwareForm) → IsMember s hardware_in e form → is_sized m (hardware_of s (framing s) form) ≡ true
  member_sized m same e form x =
      let g : Given e = given_here tops s e clear elements x.there in
      let rules : HasRules form = hardware_law g.top.form form g.clear (g.is ∙ ap Some (hardware_given e form x.gives)) in
      typed_sized m (framing s) same s form rules.type.type rules.type.is rules.type.fits

  pub hardware_sized : (m : Machine) → m.word_bits ≡ (framing s).word_bits → list_all (is_sized m) (hardware_list s (framing s)) ≡ true
  hardware_sized m same =
      all_joined (is_sized m) (built_in (framing s)) (map (hardware_of s (framing s)) (members s hardware_in)) (built_in_sized m (framing s) same)
      (all_mapped (hardware_of s (framing s)) (is_sized m) (members s hardware_in)
      (all_members s hardware_in (λ form. is_sized m (hardware_of s (framing s) form)) (member_sized m same)))
