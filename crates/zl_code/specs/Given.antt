-- What an answer of each system call gives behind the status, as the column of its row has it.
use Rattle.zl_rights.specs.declared.kind.Kind.TheVariants as kind
use Rattle.zl_code.specs.declared.history.CallName.{CallName}
use Rattle.zl_code.specs.declared.history.CallName.TheVariants as call
use Rattle.zl_code.specs.declared.layout.Gives.{Gives}
use Rattle.zl_code.specs.declared.layout.Gives.TheVariants as gives

-- what it gives
abbrev pub given : CallName → Gives
given call.Dup = gives.Copies
given call.Replace = gives.Copies
given call.ChanCreate = gives.Makes kind.Channel
given call.ChanReadEtc = gives.Sizes
given call.EventCreate = gives.Makes kind.Event
given call.WaitOne = gives.Signals
given call.WaitPoll = gives.Signals
given call.PortCreate = gives.Makes kind.Port
given call.PortWait = gives.Packet
given call.PortPoll = gives.Packet
given call.ProcessCreate = gives.Makes kind.Process
given call.JobCreate = gives.Makes kind.Job
given call.EventpairCreate = gives.Makes kind.Eventpair
given call.ChanReadSlots = gives.Sizes
given call.HandleInfo = gives.Tells
given _ = gives.Status
