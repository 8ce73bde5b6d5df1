-- A machine is accepted where all its values are allowed and nothing is wrong with it.
use Rattle.cg_model.specs.Formed.{IsFormed}
use Rattle.cg_model_faults.specs.Refusing.{IsFaultless}
use Rattle.cg_model.specs.declared.machine.Machine.{Machine}

pub record IsAccepted (m : Machine) : Type 0 where
  pub formed : IsFormed m
  pub faultless : IsFaultless m
