use Rattle.zl_objects.proofs.Common.{Some, reader_at, rules, ◌≡◌}
use Rattle.zl_objects.proofs.ByKoid.{by_koid}
use Rattle.zl_objects.proofs.Peers.{reader_of_channel}
use Rattle.zl_objects.proofs.objects.Objects.reader.Goals as goal

pub returns-then-contains_key-clause-channel : goal.returns-then-contains_key-clause-channel
returns-then-contains_key-clause-channel c =
    let at : reader_at c.self.inside.store.by_koid.entries c.args.koid ≡ Some c.in_ok-reader.reader = search (rules, by_koid) in
    rw (← c.self.view_is)
    (reader_of_channel c.self.inside.store.by_koid.entries c.self.inside.store.next_koid c.self.inside.store.kept.whole.peers c.args.koid
    c.in_ok-reader.reader at)
