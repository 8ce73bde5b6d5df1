-- What of the data of a description's machine is allowed wherever none of its forms is refused by itself: all but expressions, literals, and
-- the words of keywords.
use Rattle.std.specs.Prelude.{◌≡◌, true, Bool, None}
use Rattle.std.specs.List.{list_all}
use Rattle.cg_ifield.specs.declared.form.MultiForm.{MultiForm}
use Rattle.cg_model.specs.Formed.{is_cpu_word, is_size, has_bits, is_field, is_hardware}
use Rattle.cg_model.specs.declared.hardware.Hardware.{Hardware}
use Rattle.cg_model.specs.declared.machine.Machine.{Machine}
use Rattle.cg_desc_data.specs.Selecting.{Selection, members}
use Rattle.cg_desc_data.specs.Numbering.{multi_in}
use Rattle.cg_desc_data.specs.declared.framing.Framing.{Framing}
use Rattle.cg_desc_data.specs.Framing.{framing}
use Rattle.cg_desc_data.specs.Extents.{mode_or_uint, fields_of}
use Rattle.cg_desc_data.specs.Hardware.{hardware_list}

abbrev pub has_mode : Framing → MultiForm → Bool
has_mode b form = has_bits (mode_or_uint b form.mode)

-- Hardware whose words aren't looked at.
abbrev pub without_words : Hardware → Hardware
without_words h = record h { keyword = None }

abbrev pub is_sized : Machine → Hardware → Bool
is_sized m h = is_hardware m (without_words h)

-- What is said of hardware speaks of a machine with this word.
pub record AreKept (s : Selection) : Type 0 where
  pub word : is_cpu_word (framing s).word_bits ≡ true
  pub base : is_size (framing s).base_bits ≡ true
  pub fields : list_all is_field (fields_of s (framing s)) ≡ true
  pub multis : list_all (has_mode (framing s)) (members s multi_in) ≡ true
  pub hardware : (m : Machine) → m.word_bits ≡ (framing s).word_bits → list_all (is_sized m) (hardware_list s (framing s)) ≡ true
