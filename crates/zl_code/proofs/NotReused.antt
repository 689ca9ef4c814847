-- No koid is given again, no object changes its kind, and no process vanishes or changes its program.
use Rattle.zl_code.proofs.Common.{Body, ChannelEnd, HasGivenKoids, IsSound, JobBody, KeepsKoids, KeepsProcesses, Kind, Message, None, Object, Option, Process}
use Rattle.zl_code.proofs.Common.{Settles, Some, World, ap, arith, body_after_read, body_killed, body_with_message, body_with_policy, cases_Bool, get, get-each}
use Rattle.zl_code.proofs.Common.{get-where_key-in, get-where_key-out, inl, inr, is_some, kind_of, none-some, process_settled, refl, same_Some, sym, true≢false}
use Rattle.zl_code.proofs.Common.{without_others, ℕ, ◌<◌, ◌∙◌, ◌≡◌, ◌≤◌}
use Rattle.zl_code.proofs.MapKept.{same, changed, new}
use Rattle.zl_code.proofs.Changes.{ProcessChange, handle_enters, handle_leaves, computes, ends, wakes, starts, blocks, ObjectChange, signals_change}
use Rattle.zl_code.proofs.Changes.{packets_change, message_comes, message_goes, policy_changes, dies, Change, Changes, kept}

-- ---- koids

abbrev kind_in : Option Object → Option Kind
kind_in None = None
kind_in (Some o) = Some (kind_of o.body)

-- the kind of the object k
abbrev kind_at : World → ℕ → Option Kind
kind_at w k = kind_in (get w.objects k)

-- the object k has its kind still, or is gone, or has a koid that was given between w and w2
pub data KoidKept (w w2 : World) (k : ℕ) : Type 0 where
  alike : kind_at w2 k ≡ kind_at w k → KoidKept w w2 k
  gone : kind_at w2 k ≡ None → KoidKept w w2 k
  fresh : w.next_koid ≤ k → k < w2.next_koid → KoidKept w w2 k

pub record Keeps (w w2 : World) : Type 0 where
  next : w.next_koid ≤ w2.next_koid
  koids : (k : ℕ) → KoidKept w w2 k

pub nothing_changed : (w : World) → Keeps w w
nothing_changed w = record { next = omega arith; koids = λ k. alike refl }

koid_follows : (u v w : World) (k : ℕ) → u.next_koid ≤ v.next_koid → v.next_koid ≤ w.next_koid → KoidKept u v k → KoidKept v w k → KoidKept u w k
koid_follows u v w k a b first (gone e) = gone e
koid_follows u v w k a b first (fresh low high) = fresh (omega arith) high
koid_follows u v w k a b (alike d) (alike e) = alike (e ∙ d)
koid_follows u v w k a b (gone d) (alike e) = gone (e ∙ d)
koid_follows u v w k a b (fresh low high) (alike e) = fresh low (omega arith)

pub follows : (u v w : World) → Keeps u v → Keeps v w → Keeps u w
follows u v w a b = record {
  next = let first : u.next_koid ≤ v.next_koid = a.next in omega (arith, b.next);
  koids = λ k. koid_follows u v w k a.next b.next (a.koids k) (b.koids k);
}

pub sent_kind : (m : Message) (b : Body) → kind_of (body_with_message m b) ≡ kind_of b
sent_kind m (ChannelEnd peer queue) = refl
sent_kind m _ = refl

pub read_kind : (b : Body) → kind_of (body_after_read b) ≡ kind_of b
read_kind (ChannelEnd peer queue) = refl
read_kind _ = refl

pub same_kind : (start after : World) (k : ℕ) (x y : Object) → ObjectChange start after k x y → kind_of y.body ≡ kind_of x.body
same_kind start after k x y (signals_change clear set is may) = rw is refl
same_kind start after k x y (packets_change old packets port is) = rw (is, port) refl
same_kind start after k x y (message_comes m is may) = rw is (sent_kind m x.body)
same_kind start after k x y (message_goes is) = rw is (read_kind x.body)
same_kind start after k x y (policy_changes s is may) = rw is (by_body2 x.body)
  where
    by_body2 : (b : Body) → kind_of (body_with_policy s b) ≡ kind_of b
    by_body2 (JobBody parent depth policy killed) = refl
    by_body2 _ = refl
same_kind start after k x y (dies is may) = rw is (by_body2 x.body)
  where
    by_body2 : (b : Body) → kind_of (body_killed b) ≡ kind_of b
    by_body2 (JobBody parent depth policy killed) = refl
    by_body2 _ = refl

by_change : (start u v : World) → Change start u v → Keeps u v
by_change start u v c = record {
  next = c.next_koid;
  koids = λ k. elim (c.objects k) as (λ _. KoidKept u v k) [
    | same e ↦ alike (ap kind_in e)
    | changed x y was is r ↦ alike (ap kind_in is ∙ (ap Some (same_kind start v k x y r) ∙ sym (ap kind_in was)))
    | new y is n ↦ fresh (omega (arith, n.next)) n.given
  ];
}

by_settling : (u v : World) → Settles u v → Keeps u v
unfolding without_others
by_settling u v (K, largest, e) = rw e (record {
  next = omega arith;
  koids = λ k. elim (cases_Bool (K k)) as (λ _. KoidKept u (without_others u K) k) [
    | inl kept ↦ alike (ap kind_in (get-where_key-in u.objects K k kept))
    | inr out ↦ gone (ap kind_in (get-where_key-out u.objects K k out))
  ];
})

-- from u all changes keep koids
pub koids_kept : (start u w : World) → Changes start u w → Keeps u w
koids_kept start u w c =
    kept start (Keeps u) (λ v x d k. follows u v x k (by_change start v x d)) (λ v x d k. follows u v x k (by_settling v x d)) u w c (nothing_changed u)

some_kind : (o : Option Object) → is_some (kind_in o) ≡ is_some o
some_kind None = refl
some_kind (Some o) = refl

pub Keeps-KeepsKoids : (w w2 : World) → HasGivenKoids w → Keeps w w2 → KeepsKoids w w2
Keeps-KeepsKoids w w2 below keeps = record {
  next_koid = keeps.next;
  new_koid = λ k there none. elim (keeps.koids k) as (λ _. w.next_koid ≤ k) [
    | alike e ↦ absurd (true≢false (sym there ∙ (sym (some_kind (get w2.objects k)) ∙ (ap is_some e ∙ (some_kind (get w.objects k) ∙ none)))))
    | gone e ↦ absurd (true≢false (sym there ∙ (sym (some_kind (get w2.objects k)) ∙ ap is_some e)))
    | fresh low high ↦ low
  ];
  same_kind = λ k before after was is. elim (keeps.koids k) as (λ _. kind_of after.body ≡ kind_of before.body) [
    | alike e ↦ same_Some _ _ (sym (ap kind_in is) ∙ (e ∙ ap kind_in was))
    | gone e ↦ absurd (none-some _ (sym e ∙ ap kind_in is))
    | fresh low high ↦ let here : k < w.next_koid = below.below k (ap is_some was) in absurd (omega arith)
  ];
}

pub given_still : (w w2 : World) → HasGivenKoids w → Keeps w w2 → HasGivenKoids w2
given_still w w2 below keeps = record {
  below = λ k there. elim (keeps.koids k) as (λ _. k < w2.next_koid) [
    | alike e ↦
        let before : k < w.next_koid = below.below k (sym (some_kind (get w.objects k)) ∙ (sym (ap is_some e) ∙ (some_kind (get w2.objects k) ∙ there))) in
        omega (arith, keeps.next)
    | gone e ↦ absurd (true≢false (sym there ∙ (sym (some_kind (get w2.objects k)) ∙ ap is_some e)))
    | fresh low high ↦ high
  ];
}

pub given_change : (start u v : World) → Change start u v → HasGivenKoids u → HasGivenKoids v
given_change start u v c given = given_still u v given (by_change start u v c)

pub given_settled : (u v : World) → Settles u v → HasGivenKoids u → HasGivenKoids v
given_settled u v c given = given_still u v given (by_settling u v c)

-- ---- processes

same_program : (start after : World) (p : ℕ) (x y : Process) → ProcessChange start after p x y → y.program ≡ x.program
same_program start after p x y (handle_enters v e is may) = rw is refl
same_program start after p x y (handle_leaves v is there) = rw is refl
same_program start after p x y (computes c is) = rw is refl
same_program start after p x y (ends code is) = rw is refl
same_program start after p x y (wakes c is running) = rw is refl
same_program start after p x y (starts c is created) = rw is refl
same_program start after p x y (blocks awaited ds is running) = rw is refl

process_stays : (start u v : World) → IsSound start → Change start u v → KeepsProcesses u v
process_stays start u v s c p q there = elim (c.processes p) as (λ _. (after : Process) × (get v.processes p ≡ Some after) × (after.program ≡ q.program)) [
  | same e ↦ (q, e ∙ there, refl)
  | changed x y was is r ↦ (y, is, same_program start v p x y r ∙ ap (λ (z : Process). z.program) (same_Some x q (sym was ∙ there)))
  | new y is n ↦ absurd (none-some q (sym (n.free s) ∙ there))
]

settled_stays : (u v : World) → Settles u v → KeepsProcesses u v
unfolding without_others
settled_stays u v (K, largest, e) p q there = rw e (process_settled K p q, get-each u.processes (process_settled K) p ∙ rw there refl, refl)

pub stay_then : (u v w : World) → KeepsProcesses u v → KeepsProcesses v w → KeepsProcesses u w
stay_then u v w a b p q there = let (x, is, first) = a p q there in let (y, at, second) = b p x is in (y, at, second ∙ first)

-- from u no change takes a process away or changes its program
pub processes_kept : (start u w : World) → IsSound start → Changes start u w → KeepsProcesses u w
processes_kept start u w s c =
    kept start (KeepsProcesses u) (λ v x d k. stay_then u v x k (process_stays start v x s d)) (λ v x d k. stay_then u v x k (settled_stays v x d)) u w c
    (λ p q there. (q, there, refl))
