-- Worked examples of sums of rights.
use Rattle.std.proofs.Common.{◌≡◌, refl}
use Rattle.zl_rights.specs.declared.kind.Kind.TheVariants as kind
use Rattle.zl_rights.specs.Numbers.{default_rights_of}

of_process : default_rights_of kind.Process ≡ 184847
of_process = refl

of_channel : default_rights_of kind.Channel ≡ 61454
of_channel = refl

of_event : default_rights_of kind.Event ≡ 53251
of_event = refl

of_port : default_rights_of kind.Port ≡ 32783
of_port = refl

of_eventpair : default_rights_of kind.Eventpair ≡ 61443
of_eventpair = refl

of_job : default_rights_of kind.Job ≡ 251407
of_job = refl
