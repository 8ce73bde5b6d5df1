-- What is wanted of an expression, and what is left to judge of hardware.
use Rattle.std.specs.Prelude.{ℕ, ◌==◌, if◌then◌else◌, List, [], ◌∷◌, ◌++◌, Option, Some}
use Rattle.cg_base.specs.Modes.{bits_of}
use Rattle.cg_base.specs.declared.mode.Mode.{Mode}
use Rattle.cg_desc_check_element.specs.declared.moded.Wanted.{Wanted}
use Rattle.cg_model_faults.specs.Elements as elements
use Rattle.cg_model_faults.specs.Finding.{Faults, at_place}
use Rattle.cg_model_faults.specs.Judging.{Judged, is_free, disagrees}
use Rattle.cg_model_faults.specs.declared.fault.Purpose.TheVariants as purpose
use Rattle.cg_model_faults.specs.declared.fault.Said.TheVariants as said
use Rattle.cg_model_faults.specs.E306.{in_hardware}
use Rattle.cg_model_faults.specs.E308 as e308
use Rattle.cg_model_faults.specs.E314.{circular}
use Rattle.cg_model.specs.declared.hardware.Hardware.{Hardware}
use Rattle.cg_model.specs.declared.machine.Machine.{Machine}
use Rattle.cg_model.specs.declared.rtl.Rtl.{Rtl}

abbrev pub judged : Wanted → Rtl → Judged
judged w rtl = record { purpose = w.purpose; rtl = rtl; want = w.want; own = w.own }

abbrev pub judged_where : Wanted → Option Rtl → List Judged
judged_where w rtl = elements.judged_where w.purpose w.want w.own rtl

-- Of an expression of `insert`: its field's mode, and the multi field's for its value.
abbrev pub insert_wanted : Machine → Mode → ℕ → Wanted
insert_wanted m own k = record { purpose = purpose.Insert; want = elements.mode_of_field m k; own = Some own }

-- The faults of a result in a mode.
abbrev pub result_by : Wanted → Mode → Faults
result_by w k = if is_free w.purpose then [] else if bits_of k == 0 then at_place 404 0 said.Own said.Nothing ∷ [] else disagrees w.want k

-- What is wrong with hardware behind E304.
abbrev pub hardware_rest : Machine → ℕ → ℕ → ℕ → Hardware → Faults
hardware_rest m before cells spent h =
    elements.where_there (elements.names_of m in_hardware) h.get ++ elements.where_there (elements.names_of m in_hardware) h.set
    ++ e308.of_hardware before cells spent h
    ++ circular m before
