-- Handles on their way: those in a message, and those to both ends of a new pair.
use Rattle.zl_code.proofs.Common.{All, All-cons, All-head, All-nil, All-tail, Body, Entry, HandlesAreNamed, HandlesAreSound, IsTrue, Kind, List, Map, Message}
use Rattle.zl_code.proofs.Common.{None, Object, Option, Some, World, [], and_from, and_parts, arith, body_in, cases_Bool, entries_at, entry_at, eq-eqb}
use Rattle.zl_code.proofs.Common.{first_handles, get, get-put, get-update, has_default_rights, inl, inr, kind_of, list_all, message_read, message_sent}
use Rattle.zl_code.proofs.Common.{names_its_object, ne_eqb, new_entry, object_at, on_object, option_to_list, put, queue_at, queue_in, queue_of, refl}
use Rattle.zl_code.proofs.Common.{slice_index_or, subst, sym, update, with_object, ℕ, ◌++◌, ◌+◌, ◌==◌, ◌∙◌, ◌∷◌, ◌≡◌}
use Rattle.zl_code.proofs.Changes.{MayBeSent}
use Rattle.zl_code.proofs.Entering.{IsFine, default_rights, entry_is_fine}
use Rattle.zl_code.proofs.NotReused.{sent_kind, read_kind}

-- ---- handles that are fine

-- what names an object names it still where an object changes that keeps its kind
names_updated : (m : Map Object) (k : ℕ) (f : Object → Object) → ((o : Object) → kind_of (f o).body ≡ kind_of o.body) → (e : Entry) → names_its_object m e
    → names_its_object (update m k f) e
names_updated m k f alike e (o, there, kind) = elim (cases_Bool (k == e.koid)) as (λ _. names_its_object (update m k f) e) [
  | inl here ↦ (f o, get-update m k f e.koid ∙ rw (here, there) refl, kind ∙ sym (alike o))
  | inr other ↦ (o, get-update m k f e.koid ∙ rw (other, there) refl, kind)
]

-- handles whose rights and objects are right are fine, one by one
all_fine : (w : World) (m : Map Object) (es : List Entry) → (HandlesAreSound w → IsTrue (list_all has_default_rights es))
    → (HandlesAreNamed w → All (names_its_object m) es) → All (IsFine w m) es
all_fine w m [] rights names = All-nil (IsFine w m)
all_fine w m (e ∷ es) rights names =
    All-cons (IsFine w m) e es (record { rights = λ s. (and_parts _ _ (rights s)).0; names = λ s. All-head (names_its_object m) e es (names s) })
    (all_fine w m es (λ s. (and_parts _ _ (rights s)).1) (λ s. All-tail (names_its_object m) e es (names s)))

-- ---- a message that is sent

rights_there : (w : World) (p : ℕ) (hs : List ℕ) → HandlesAreSound w → IsTrue (list_all has_default_rights (entries_at w p hs))
rights_there w p [] s = refl
rights_there w p (h ∷ hs) s = by_entry (entry_at w p h) refl (rights_there w p hs s)
  where
    by_entry : (o : Option Entry) → entry_at w p h ≡ o → IsTrue (list_all has_default_rights (entries_at w p hs))
        → IsTrue (list_all has_default_rights (option_to_list o ++ entries_at w p hs))
    by_entry None at rest = rest
    by_entry (Some e) at rest = and_from _ _ ((entry_is_fine w p h e at).rights s) rest

names_there : (w : World) (p : ℕ) (hs : List ℕ) (m : Map Object) → ((e : Entry) → names_its_object w.objects e → names_its_object m e) → HandlesAreNamed w
    → All (names_its_object m) (entries_at w p hs)
names_there w p [] m more s = All-nil (names_its_object m)
names_there w p (h ∷ hs) m more s = by_entry (entry_at w p h) refl (names_there w p hs m more s)
  where
    by_entry : (o : Option Entry) → entry_at w p h ≡ o → All (names_its_object m) (entries_at w p hs)
        → All (names_its_object m) (option_to_list o ++ entries_at w p hs)
    by_entry None at rest = rest
    by_entry (Some e) at rest = All-cons (names_its_object m) e _ (more e ((entry_is_fine w p h e at).names s)) rest

-- the handles of p may be in a message that goes to the object k
pub may_be_sent : (w u : World) (p k : ℕ) (bytes hs : List ℕ) → u.objects ≡ w.objects
    → MayBeSent w (on_object u k (message_sent (record { bytes = bytes; handles = entries_at w p hs }))) (record { bytes = bytes; handles = entries_at w p hs })
unfolding on_object
may_be_sent w u p k bytes hs same = record {
  rights = rights_there w p hs;
  names = names_there w p hs _
      (λ e names. names_updated u.objects k _ (λ o. sent_kind _ o.body) e (subst (λ (m : Map Object). names_its_object m e) (sym same) names));
}

-- ---- a message that is read

-- the handles in the first message at the end that p names by c
pub received_are_fine : (w u : World) (p c : ℕ) → u.objects ≡ w.objects
    → All (IsFine w (on_object u (object_at w p c) message_read).objects) (first_handles (queue_at w p c))
unfolding on_object
received_are_fine w u p c same =
    all_fine w (update u.objects k message_read) (first_handles (queue_at w p c)) (λ s. rights (get w.objects k) refl s) (λ s. names (get w.objects k) refl s)
  where
    k : ℕ
    k = object_at w p c

    first_rights : (ms : List Message) → IsTrue (list_all (λ x. list_all has_default_rights x.handles) ms)
        → IsTrue (list_all has_default_rights (first_handles ms))
    first_rights [] h = refl
    first_rights (m ∷ ms) h = (and_parts _ _ h).0

    rights : (o : Option Object) → get w.objects k ≡ o → HandlesAreSound w → IsTrue (list_all has_default_rights (first_handles (queue_in (body_in o))))
    rights None at s = refl
    rights (Some o) at s = first_rights (queue_of o.body) (s.queued k o at)

    still : (e : Entry) → names_its_object w.objects e → names_its_object (update u.objects k message_read) e
    still e names = names_updated u.objects k message_read (λ o. read_kind o.body) e (subst (λ (m : Map Object). names_its_object m e) (sym same) names)

    first_names : (ms : List Message) → All (λ x. All (names_its_object w.objects) x.handles) ms
        → All (names_its_object (update u.objects k message_read)) (first_handles ms)
    first_names [] h = All-nil (names_its_object (update u.objects k message_read))
    first_names (m ∷ ms) h =
        λ i e below. still (slice_index_or m.handles i e) (All-head (λ (x : Message). All (names_its_object w.objects) x.handles) m ms h i e below)

    names : (o : Option Object) → get w.objects k ≡ o → HandlesAreNamed w
        → All (names_its_object (update u.objects k message_read)) (first_handles (queue_in (body_in o)))
    names None at s = All-nil (names_its_object (update u.objects k message_read))
    names (Some o) at s = first_names (queue_of o.body) (s.queues k o at)

-- ---- both ends of a new pair

-- the first handles to the next two objects, which are ends of this kind
abbrev pub two_entries : World → Kind → List Entry
two_entries w kind = new_entry w.next_koid kind ∷ new_entry (w.next_koid + 1) kind ∷ []

pub both_are_fine : (start u : World) (first second : Body) (kind : Kind) (k : ℕ) → u.next_koid ≡ k → kind_of first ≡ kind → kind_of second ≡ kind
    → All (IsFine start (with_object (with_object u first) second).objects) (new_entry k kind ∷ new_entry (k + 1) kind ∷ [])
unfolding with_object
both_are_fine start u first second kind k is is_end other_end =
    All-cons (IsFine start objects) (new_entry k kind) (new_entry (k + 1) kind ∷ [])
    (record { rights = λ s. default_rights k kind; names = λ s. (object first, at_first, sym is_end) })
    (All-cons (IsFine start objects) (new_entry (k + 1) kind) []
    (record { rights = λ s. default_rights (k + 1) kind; names = λ s. (object second, at_second, sym other_end) }) (All-nil (IsFine start objects)))
  where
    object : Body → Object
    object b = record { body = b; raised = 0 }

    objects : Map Object
    objects = put (put u.objects u.next_koid (object first)) (u.next_koid + 1) (object second)

    at_first : get objects k ≡ Some (object first)
    at_first =
        get-put (put u.objects u.next_koid (object first)) (u.next_koid + 1) (object second) k
        ∙ rw (ne_eqb (u.next_koid + 1) k (λ e. omega arith)) (get-put u.objects u.next_koid (object first) k ∙ rw (eq-eqb u.next_koid k is) refl)

    at_second : get objects (k + 1) ≡ Some (object second)
    at_second =
        get-put (put u.objects u.next_koid (object first)) (u.next_koid + 1) (object second) (k + 1)
        ∙ rw (eq-eqb (u.next_koid + 1) (k + 1) (omega (arith, is))) refl
