-- What two parts of a world have alike that are the same.
use Rattle.zl_calls.proofs.Common.{ap, ◌≡◌}
use Rattle.zl_calls.specs.declared.parts.Parts.{Parts}

pub same_processes : {all all2 : Parts} → all2 ≡ all → all2.processes.list.items ≡ all.processes.list.items
same_processes same = ap (λ (x : Parts). x.processes.list.items) same

pub same_objects : {all all2 : Parts} → all2 ≡ all → all2.objects ≡ all.objects
same_objects same = ap (λ (x : Parts). x.objects) same

pub same_blocked : {all all2 : Parts} → all2 ≡ all → all2.blocked.items ≡ all.blocked.items
same_blocked same = ap (λ (x : Parts). x.blocked.items) same
