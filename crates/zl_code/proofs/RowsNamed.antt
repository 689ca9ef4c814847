-- Worlds whose handles name objects of their kinds, and worlds with a handle that doesn't, by computation.
use Rattle.zl_code.proofs.Common.{All, All-cons, All-nil, ChannelEnd, Entry, EventBody, HandlesAreNamed, Map, Message, None, Object, Process, World, [], ap}
use Rattle.zl_code.proofs.Common.{arith, cases_Bool, get, inl, inr, kind_of, names_its_object, none-some, queue_of, refl, rights_of, same_Some, subst, sym}
use Rattle.zl_code.proofs.Common.{◌==◌, ◌∙◌, ◌∷◌, ◌≡◌}
use Rattle.zl_rights.specs.declared.kind.Kind.TheVariants as kind
use Rattle.zl_code.proofs.MapKept.{Each}
use Rattle.zl_code.proofs.RowsWords.{world_of, process_of, event_with}

-- ---- one handle

-- event 3 alone
abbrev one_event : Map Object
one_event = (3, record { body = EventBody; raised = 0 }) ∷ []

names_the_event : names_its_object one_event (event_with 0)
unfolding get
names_the_event = (record { body = EventBody; raised = 0 }, refl, refl)

-- a handle to object 9
abbrev elsewhere : Entry
elsewhere = record { koid = 9; kind = kind.Event; rights = rights_of 0 }

names_nothing : names_its_object one_event elsewhere → ⊥
unfolding get
names_nothing (o, there, same) = none-some o there

-- a handle to event 3 that takes it for a job
abbrev mistaken : Entry
mistaken = record { koid = 3; kind = kind.Job; rights = rights_of 0 }

names_another_kind : names_its_object one_event mistaken → ⊥
unfolding get
names_another_kind (o, there, same) =
    let is : kind.Job ≡ kind.Event = same ∙ ap (λ (x : Object). kind_of x.body) (sym (same_Some (record { body = EventBody; raised = 0 }) o there)) in
    cc

-- ---- worlds

-- process 2 has this handle, at the value 7
abbrev with_handle : Entry → World
with_handle e = world_of [] (process_of [] ((7, e) ∷ []) None)

-- event 3, and channel end 4 with a message that has this handle alone
abbrev with_queued : Entry → World
with_queued e = record (world_of [] (process_of [] [] None)) {
  objects = (3, record { body = EventBody; raised = 0 }) ∷ (4, record { body = ChannelEnd 5 (record { bytes = []; handles = e ∷ [] } ∷ []); raised = 0 }) ∷ [];
}

-- P is true of each value, one after another
abbrev InTurn : {X : Type 0} → (X → Type 0) → Map X → Type 0
InTurn P [] = Unit
InTurn P ((j, v) ∷ m) = P v × InTurn P m

each_by : {X : Type 0} (P : X → Type 0) (m : Map X) → InTurn P m → Each P m
unfolding get
each_by P [] all k x there = absurd (none-some x there)
each_by P ((j, v) ∷ m) (fine, rest) k x there = elim (cases_Bool (j == k)) as (λ _. P x) [
  | inl here ↦ subst P (same_Some v x (rw here at there)) fine
  | inr other ↦ each_by P m rest k x (rw other at there)
]

abbrev IsNamedTable : World → Process → Type 0
IsNamedTable w q = InTurn (names_its_object w.objects) q.handles

abbrev IsNamedQueue : World → Object → Type 0
IsNamedQueue w o = All (λ (m : Message). All (names_its_object w.objects) m.handles) (queue_of o.body)

named_by : (w : World) → InTurn (IsNamedTable w) w.processes → InTurn (IsNamedQueue w) w.objects → HandlesAreNamed w
named_by w tables queues = record {
  tables = λ p v q e there at. each_by (names_its_object w.objects) q.handles (each_by (IsNamedTable w) w.processes tables p q there) v e at;
  queues = each_by (IsNamedQueue w) w.objects queues;
}

no_messages : (m : Map Object) → All (λ (x : Message). All (names_its_object m) x.handles) []
no_messages m = All-nil (λ (x : Message). All (names_its_object m) x.handles)

in_a_table_is_named : HandlesAreNamed (with_handle (event_with 0))
unfolding get
in_a_table_is_named =
    named_by w (((record { body = EventBody; raised = 0 }, refl, refl), tt), tt) (no_messages w.objects, (no_messages w.objects, (no_messages w.objects, tt)))
  where
    w : World
    w = with_handle (event_with 0)

in_a_queue_is_named : HandlesAreNamed (with_queued (event_with 0))
unfolding get
in_a_queue_is_named = named_by w (tt, tt) (no_messages w.objects, (queued, tt))
  where
    w : World
    w = with_queued (event_with 0)

    message : Message
    message = record { bytes = []; handles = event_with 0 ∷ [] }

    queued : All (λ (x : Message). All (names_its_object w.objects) x.handles) (message ∷ [])
    queued = All-cons (λ (x : Message). All (names_its_object w.objects) x.handles) message []
        (All-cons (names_its_object w.objects) (event_with 0) [] (record { body = EventBody; raised = 0 }, refl, refl) (All-nil (names_its_object w.objects)))
        (no_messages w.objects)

in_a_table : HandlesAreNamed (with_handle elsewhere) → ⊥
unfolding get
in_a_table s =
    (λ (named : names_its_object (with_handle elsewhere).objects elsewhere). none-some named.0 named.1)
    (s.tables 2 7 (process_of [] ((7, elsewhere) ∷ []) None) elsewhere refl refl)

in_a_queue : HandlesAreNamed (with_queued elsewhere) → ⊥
unfolding get
in_a_queue s =
    let first = s.queues 4 _ refl 0 (record { bytes = []; handles = [] }) (omega arith) 0 elsewhere (omega arith) in
    none-some first.0 first.1
