-- What a contract sees of a `Control`: what it is set to, and the state of its table.
use Rattle.plca_control.specs.declared.ControlSet.{ControlSet}
use Rattle.plca_control.specs.declared.State.{State}

pub record ControlState : Type 0 where
  pub set : ControlSet
  pub state : State
