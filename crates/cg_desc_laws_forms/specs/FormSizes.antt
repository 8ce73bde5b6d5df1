-- What the numbers are that a form without fault says.
use Rattle.std.specs.Prelude.{◌≡◌, ℕ, List, Bool, true, ℤ, pos, None, Some}
use Rattle.cg_base.specs.declared.form.Form.{Form}
use Rattle.cg_base.specs.Refusing.{least}
use Rattle.cg_attrs.specs.Contents.{is_bit_size, is_word_size}
use Rattle.cg_attrs.specs.declared.frame.CpuForm.{CpuForm}
use Rattle.cg_attrs.specs.declared.frame.IsaForm.{IsaForm}
use Rattle.cg_attrs.specs.declared.frame.Frame.TheVariants.{Cpu, Isa}
use Rattle.cg_desc_elements.specs.declared.element.Element.TheVariants.{Frame, Field}
use Rattle.cg_desc_elements.specs.Reading.{element_of, element_faults}
use Rattle.cg_ifield.specs.Contents.{is_field_mode, is_word_offset}
use Rattle.cg_ifield.specs.declared.form.FieldForm.TheVariants.{Plain}
use Rattle.cg_ifield.specs.declared.form.PlainForm.{PlainForm}

-- The word of a cpu has 8, 16, 32 or 64 bits.
pub record HasWord (form : CpuForm) : Type 0 where
  pub bits : ℕ
  pub is : form.word_bitsize ≡ pos bits
  pub allowed : is_word_size bits ≡ true

-- The shortest instruction has whole bytes, 8 at most.
pub record HasSize (form : IsaForm) : Type 0 where
  pub bits : ℕ
  pub is : form.base_insn_bitsize ≡ pos bits
  pub allowed : is_bit_size bits ≡ true

-- A number from 0 that passes a test.
pub record IsNumber (test : ℕ → Bool) (n : ℤ) : Type 0 where
  pub number : ℕ
  pub is : n ≡ pos number
  pub allowed : test number ≡ true

-- The word that a field names lies on whole bytes, its size is allowed, and so is the mode that it names.
pub record HasPlace (form : PlainForm) : Type 0 where
  pub offset : (n : ℤ) → form.word_offset ≡ Some n → IsNumber is_word_offset n
  pub length : (n : ℤ) → form.word_length ≡ Some n → IsNumber is_bit_size n
  pub mode : (text : List ℕ) → form.mode ≡ Some text → is_field_mode text ≡ true

-- Of each form without fault.
pub record AreSizes : Type 0 where
  pub words : (f : Form) (form : CpuForm) → least (element_faults f) ≡ None → element_of f ≡ Some (Frame (Cpu form)) → HasWord form
  pub sizes : (f : Form) (form : IsaForm) → least (element_faults f) ≡ None → element_of f ≡ Some (Frame (Isa form)) → HasSize form
  pub places : (f : Form) (form : PlainForm) → least (element_faults f) ≡ None → element_of f ≡ Some (Field (Plain form)) → HasPlace form
