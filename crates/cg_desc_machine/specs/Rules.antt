-- The rules of fields, multi fields and hardware: expressions with numbers for their names.
use Rattle.std.specs.Prelude.{ℕ, if◌then◌else◌, List, [], map, ◌++◌, Option, Some, None, is_some}
use Rattle.std.specs.List.{filter_map}
use Rattle.std.specs.Option.{option_map, unwrap_or}
use Rattle.cg_base.specs.declared.form.Form.{Form}
use Rattle.cg_base.specs.declared.mode.Mode.{Mode}
use Rattle.cg_base.specs.Parts.{◌>>=◌, elements_of}
use Rattle.cg_base.specs.Refusing.{first}
use Rattle.cg_ifield.specs.declared.form.PlainForm.{PlainForm}
use Rattle.cg_ifield.specs.declared.form.MultiForm.{MultiForm}
use Rattle.cg_ifield.specs.Sets.{set_of, sets_of}
use Rattle.cg_hw.specs.declared.form.HardwareForm.{HardwareForm}
use Rattle.cg_hw.specs.Rules.{expression}
use Rattle.cg_model.specs.declared.field.Field.{Field}
use Rattle.cg_model.specs.declared.field.Multi.{Multi}
use Rattle.cg_model.specs.declared.hardware.Hardware.{Hardware}
use Rattle.cg_model.specs.declared.rtl.Rtl.{Rtl}
use Rattle.cg_rtl_resolve.specs.declared.scope.Rule.{Rule}
use Rattle.cg_rtl_resolve.specs.declared.scope.Rule.TheVariants as rule
use Rattle.cg_rtl_resolve.specs.declared.scope.Scope.{Scope}
use Rattle.cg_rtl_resolve.specs.Names.{found_under, nothing, rtl_of}
use Rattle.cg_desc_insns.specs.Written.{only_in}
use Rattle.cg_desc_data.specs.Selecting.{members}
use Rattle.cg_desc_data.specs.Numbering.{Numbering, field_in, multi_in, hardware_in}
use Rattle.cg_desc_data.specs.Extents.{field_of}
use Rattle.cg_desc_data.specs.Multis.{multi_of}
use Rattle.cg_desc_data.specs.Hardware.{built_in, hardware_of}
use Rattle.cg_desc_scope.specs.Described.{Described, scope_in}

-- The expression of `encode` or `decode`: one list of the formals and it.
unfoldable pub coding : Form → Option Form
coding f = only_in f >>= elements_of >>= expression

-- The expression of `get` or `set`, which stands behind the formals.
unfoldable pub hardware_rule : Form → Option Form
hardware_rule f = elements_of f >>= expression

-- The same of clauses that may be absent.
abbrev pub coding_in : Option Form → Option Form
coding_in f = f >>= coding

abbrev pub hardware_rule_in : Option Form → Option Form
hardware_rule_in f = f >>= hardware_rule

abbrev pub read_in : Scope → Rule → Option Mode → Option Form → Option Rtl
read_in scope r own f = option_map (rtl_of (scope_in scope r own)) f

-- A field with its rules.
abbrev pub field_ruled : Scope → PlainForm → Field → Field
field_ruled scope form f = record f {
  encode = read_in scope rule.Encode (Some f.mode) (coding_in form.encode);
  decode = read_in scope rule.Decode (Some f.mode) (coding_in form.decode);
}

-- The fields that a clause sets, each with its expression.
abbrev pub sets_in : Form → List (List ℕ × Form)
sets_in f = filter_map set_of (unwrap_or (elements_of f >>= sets_of) [])

-- The expression of a subfield, where that is a field of the machine; and that of the multi field itself.
abbrev pub inserted : Numbering → Scope → List (List ℕ × Form) → List ℕ → Option Rtl
inserted fields scope sets name = if is_some (fields name) then option_map (rtl_of scope) (found_under name sets) else None

abbrev pub insert_scope : Scope → Multi → Scope
insert_scope scope m = scope_in scope (rule.Insert m.name) (Some m.mode)

abbrev pub extracted : Scope → Form → Rtl
extracted scope f = elim (first (sets_in f)) [ None ↦ nothing | Some x ↦ rtl_of (scope_in scope rule.Extract None) x.1 ]

abbrev pub insert_of : Numbering → Scope → MultiForm → Multi → List Rtl
insert_of fields scope form m = filter_map (inserted fields (insert_scope scope m) (sets_in form.insert)) form.subfields

-- A multi field with its rules.
abbrev pub multi_ruled : Numbering → Scope → MultiForm → Multi → Multi
multi_ruled fields scope form m = record m { insert = insert_of fields scope form m; extract = extracted scope form.extract }

-- Hardware with its rules.
abbrev pub hardware_ruled : Scope → HardwareForm → Hardware → Hardware
hardware_ruled scope form h = record h {
  get = read_in scope rule.Get None (hardware_rule_in form.get);
  set = read_in scope rule.Set (Some h.mode) (hardware_rule_in form.set);
}

-- All of a machine's.
abbrev pub ruled_field : Described → Scope → PlainForm → Field
ruled_field d scope form = field_ruled scope form (field_of d.framing form)

abbrev pub ruled_multi : Described → Scope → MultiForm → Multi
ruled_multi d scope form = multi_ruled d.numbers.fields scope form (multi_of d.framing d.numbers form)

abbrev pub ruled_hardware : Described → Scope → HardwareForm → Hardware
ruled_hardware d scope form = hardware_ruled scope form (hardware_of d.selection d.framing form)

abbrev pub ruled_fields : Described → Scope → List Field
ruled_fields d scope = map (ruled_field d scope) (members d.selection field_in)

abbrev pub ruled_multis : Described → Scope → List Multi
ruled_multis d scope = map (ruled_multi d scope) (members d.selection multi_in)

abbrev pub ruled_hardwares : Described → Scope → List Hardware
ruled_hardwares d scope = built_in d.framing ++ map (ruled_hardware d scope) (members d.selection hardware_in)
