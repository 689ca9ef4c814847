use Rattle.zl_objects.proofs.Common.{Some, peer_here, rules, ◌≡◌}
use Rattle.zl_objects.proofs.ByKoid.{by_koid}
use Rattle.zl_objects.proofs.Peers.{peer_of_kind}
use Rattle.zl_objects.proofs.objects.Objects.peer.Goals as goal

pub returns-then-contains_key-clause-kind : goal.returns-then-contains_key-clause-kind
returns-then-contains_key-clause-kind c =
    let at : peer_here c.self.inside.store.by_koid.entries c.args.koid ≡ Some c.in_ok-peer.peer = search (rules, by_koid) in
    rw (← c.self.view_is)
    (peer_of_kind c.self.inside.store.by_koid.entries c.self.inside.store.next_koid c.self.inside.store.kept.whole.peers c.args.koid c.in_ok-peer.peer at)
