-- What an expression may name where it stands.
use Rattle.cg_model.specs.declared.machine.Machine.{Machine}
use Rattle.cg_model_faults.specs.E306.{Nameable, in_semantics, in_assertion, in_hardware}
use Rattle.cg_desc_check_rtl.specs.declared.names.Standing.{Standing}
use Rattle.cg_desc_check_rtl.specs.declared.names.Standing.TheVariants.{Semantics, Assertion, Hardware}

abbrev pub nameable : Machine → Standing → Nameable
nameable m (Semantics parts) = in_semantics m parts.now
nameable m (Assertion parts) = in_assertion m parts.now
nameable m Hardware = in_hardware
