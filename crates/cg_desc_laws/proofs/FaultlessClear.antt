-- A machine is clear whose bits and slots fit and whose expressions have no fault.
use Rattle.std.proofs.Common.{◌≡◌, ap}
use Rattle.std.proofs.lemmas.Grind.{common_steps}
use Rattle.cg_desc_laws.specs.InHand.{IsChosen}
use Rattle.cg_desc_data.specs.Selecting.{Selection}
use Rattle.cg_desc_laws.specs.Fitting.{AreFitting, InsnFits, MacroFits}
use Rattle.cg_desc_names.specs.Table.{table_of}
use Rattle.cg_desc_laws.specs.Meant.{FieldMeant, MultiMeant, HardwareMeant, InsnMeant, AreMeant}
use Rattle.cg_model.specs.declared.machine.Machine.{Machine}
use Rattle.cg_desc_laws.specs.Clear.{FieldClear, MultiClear, HardwareClear, InsnClear, MacroClear, AreClear}

pub are_clear : (m : Machine) → AreFitting m → AreMeant m → AreClear m
are_clear m fits means = record {
  bundle = fits.bundle;
  fields = λ k f is. let x : FieldMeant m f = means.fields k f is in record {
    encode_cells = x.encode_cells;
    decode_cells = x.decode_cells;
    encode_numbers = x.encode_numbers;
    decode_numbers = x.decode_numbers;
    place = fits.fields k f is;
    encode_purity = x.encode_purity;
    decode_purity = x.decode_purity;
    modes = x.modes;
  };
  multis = λ k y is. let x : MultiMeant m y = means.multis k y is in record {
    insert_cells = x.insert_cells;
    extract_cells = x.extract_cells;
    insert_numbers = x.insert_numbers;
    extract_numbers = x.extract_numbers;
    insert_purity = x.insert_purity;
    extract_purity = x.extract_purity;
    modes = x.modes;
  };
  hardware = λ k h is. let x : HardwareMeant m h = means.hardware k h is in record {
    get_cells = x.get_cells;
    set_cells = x.set_cells;
    get_names = x.get_names;
    set_names = x.set_names;
    modes = x.modes;
  };
  insns = λ k i is. let x : InsnMeant m i = means.insns k i is in let y : InsnFits m i = fits.insns k i is in record {
    cells = x.cells;
    names = x.names;
    apart = y.apart;
    constants = y.constants;
    delimited = y.delimited;
    once = y.once;
    matched = y.matched;
    purity = x.purity;
    free = y.free;
    modes = x.modes;
  };
  macros = λ k x is. let y : MacroFits m x = fits.macros k x is in record {
    delimited = y.delimited;
    once = y.once;
    matched = y.matched;
    given = y.given;
    used = y.used;
  };
}

pub names_lead : (s : Selection) → IsChosen s → s.at ≡ table_of s.machine s.isa s.elements
names_lead s chosen = chosen.at

pub ruleset clearing = (common_steps, are_clear, names_lead)
