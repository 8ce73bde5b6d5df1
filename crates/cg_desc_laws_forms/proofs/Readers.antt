-- By whose reader a form gives an element.
use Rattle.std.proofs.Common.{◌≡◌, Option, Some, None, refl, sym, ap, ◌∙◌}
use Rattle.std.specs.Option.{option_map}
use Rattle.cg_base.specs.declared.form.Form.{Form}
use Rattle.cg_attrs.specs.Frames.{frame_of}
use Rattle.cg_hw.specs.Hardware.{hardware_of}
use Rattle.cg_ifield.specs.Fields.{field_of}
use Rattle.cg_insn.specs.Instructions.{insn_of}
use Rattle.cg_operand.specs.Operands.{operand_of}
use Rattle.cg_desc_elements.specs.declared.element.Element.{Element}
use Rattle.cg_desc_elements.specs.declared.element.Element.TheVariants as element
use Rattle.cg_desc_elements.specs.declared.reading.Reader.{Reader}
use Rattle.cg_desc_elements.specs.declared.reading.Reader.TheVariants.{Frames, Fields, Hardware, Operands, Insns}
use Rattle.cg_desc_elements.specs.Reading.{said_to}
use Rattle.cg_desc_laws_forms.proofs.Lists.{the_found}

abbrev pub reader_of : Element → Reader
reader_of (element.Frame x) = Frames
reader_of (element.Field x) = Fields
reader_of (element.Hardware x) = Hardware
reader_of (element.Operand x) = Operands
reader_of (element.Insn x) = Insns

given_by : {A : Type 0} (give : A → Element) (r : Reader) → ((a : A) → reader_of (give a) ≡ r) → (o : Option A) (e : Element) → option_map give o ≡ Some e → reader_of e ≡ r
given_by give r same None e is = absurd cc
given_by give r same (Some a) e is = ap reader_of (sym (the_found (give a) e is)) ∙ same a

pub is_read : (f : Form) (r : Reader) (e : Element) → said_to r f ≡ Some e → reader_of e ≡ r
is_read f Frames e is = given_by element.Frame Frames (λ a. refl) (frame_of f) e is
is_read f Fields e is = given_by element.Field Fields (λ a. refl) (field_of f) e is
is_read f Hardware e is = given_by element.Hardware Hardware (λ a. refl) (hardware_of f) e is
is_read f Operands e is = given_by element.Operand Operands (λ a. refl) (operand_of f) e is
is_read f Insns e is = given_by element.Insn Insns (λ a. refl) (insn_of f) e is
