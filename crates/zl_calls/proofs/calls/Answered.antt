-- From what a call does to its parts to the relation of calls.
use Rattle.zl_calls.proofs.Common.{Entry, Err, Handles, IfSome, Inserts, IsTrue, List, Map, None, Object, ObjectValue, Objects, Ok, Option, Process}
use Rattle.zl_calls.proofs.Common.{ProcessValue, Replies, Request, Result, Site, Some, Status, World, [], and_from, ap, arith, cpu_answered, eq-eqb, free_entry}
use Rattle.zl_calls.proofs.Common.{free_of, get, map, may_get, may_get_all, nat_tests, no_value, object_value, on_object, on_process, process_entry}
use Rattle.zl_calls.proofs.Common.{process_value, process_with, put, refl, replied, status_of, subst, sym, table_of, true, update, values_of, world_value, ℕ, ⊤}
use Rattle.zl_calls.proofs.Common.{◌∙◌, ◌∷◌, ◌≡◌}
use Rattle.zl_rights.specs.declared.status.Status.TheVariants as status
use Rattle.zl_calls.proofs.lists.Updates.{update_itself, update_seen, update_twice}

-- the site, with this request in place of its own
abbrev pub asking : Request → Site → Site
asking request s = record s { request = request }

-- an answer that is a status alone
pub replies_none : (s : Site) (p p2 : Process) (answer : Result ⊤ Status) → Replies s (status_of answer) (values_of no_value answer) p p2
    → Replies s (status_of answer) [] p p2
replies_none s p p2 (Ok done) replied = replied
replies_none s p p2 (Err refused) replied = replied

-- ---- one process of the list

-- after is before with p2 in the place of its process p, whose pid the map has there
pub record IsWrite (before after : List Process) (p p2 : Process) : Type 0 where
  pub there : get (map process_entry before) p.pid ≡ Some (process_value p)
  pub writes : (f : ProcessValue → ProcessValue) → process_value p2 ≡ f (process_value p) → map process_entry after ≡ update (map process_entry before) p.pid f
  pub free_there : get (map free_entry before) p.pid ≡ Some (free_of p)
  pub frees : map free_entry after ≡ update (map free_entry before) p.pid (λ _. free_of p2)

-- the process with this table
abbrev pub with_table : Handles → ProcessValue → ProcessValue
with_table t q = record q { handles = t.entries; last = t.last }

-- a value that a new handle got is one that it may get
may_get_in : (q : ProcessValue) (t t2 : Handles) (entry : Entry) (value : ℕ) → Inserts t entry value t2 → IsTrue (may_get (with_table t q) value)
may_get_in q t t2 entry value inserts = by_last t.last inserts.again
  where
    by_last : (last : Option ℕ) → IfSome last (λ l. value ≡ l) → IsTrue (may_get (record (with_table t q) { last = last }) value)
    by_last None free = rw (inserts.unused) (grind (arith, nat_tests, inserts.above, inserts.below))
    by_last (Some l) again = eq-eqb value l again

pub may_get_inserted : (p p2 : Process) (entry : Entry) (value : ℕ) → Inserts p.table entry value p2.table → IsTrue (may_get (process_value p) value)
may_get_inserted p p2 entry value inserts = may_get_in (process_value p) p.table p2.table entry value inserts

-- the same of two new handles, one after the other
pub may_get_both : (p : Process) (between t2 : Handles) (first second : Entry) (one two : ℕ) → Inserts p.table first one between → Inserts between second two t2
    → IsTrue (may_get_all (process_value p) (first ∷ second ∷ []) (one ∷ two ∷ []))
may_get_both p between t2 first second one two enters then_enters =
    and_from (may_get (process_value p) one) _ (may_get_in (process_value p) p.table between first one enters)
    (and_from (may_get (process_with one first (process_value p)) two) true
    (subst (λ (q : ProcessValue). IsTrue (may_get q two)) with_first (may_get_in (process_value p) between t2 second two then_enters)) refl)
  where
    with_first : with_table between (process_value p) ≡ process_with one first (process_value p)
    with_first = λ i. record (process_value p) { handles = enters.entries i; last = enters.last i }

-- the world after an answer, from the world with the effect alone
module _ {before after : List Process} {p p2 : Process} (write : IsWrite before after p p2) where
  pub table_is : (r : Objects) → table_of (world_value before r) p.pid ≡ p.table.entries
  table_is r = rw write.there refl

  -- the registers and the table change
  pub replied_with : (r2 : Objects) (s : Site) (answer : Status) (values : List ℕ) (f : ProcessValue → ProcessValue) (middle : World)
      → middle.processes ≡ update (map process_entry before) p.pid f → (record middle { processes = map process_entry after }) ≡ world_value after r2
      → process_value p2 ≡ record (f (process_value p)) { cpu = cpu_answered s answer values (f (process_value p)).cpu }
      → world_value after r2 ≡ replied middle p.pid s answer values
  unfolding replied on_process
  replied_with r2 s answer values f middle so_far rest is =
      sym rest ∙ ap (λ (ps : Map ProcessValue). record middle { processes = ps })
      (write.writes (λ q. record (f q) { cpu = cpu_answered s answer values (f q).cpu }) is
      ∙ (sym (update_twice (map process_entry before) p.pid f (λ q. record q { cpu = cpu_answered s answer values q.cpu }))
      ∙ ap (λ (ps : Map ProcessValue). update ps p.pid (λ q. record q { cpu = cpu_answered s answer values q.cpu })) (sym so_far)))

  -- a handle enters the table, after the effect on the objects
  pub replied_inserted : (r2 : Objects) (s : Site) (made : ℕ) (entry : Entry) (middle : World) → middle.processes ≡ map process_entry before
      → (record middle { processes = map process_entry after }) ≡ world_value after r2
      → Inserts p.table entry made p2.table → Replies s status.Ok (made ∷ []) p p2
      → world_value after r2 ≡ replied (on_process middle p.pid (process_with made entry)) p.pid s status.Ok (made ∷ [])
  unfolding on_process
  replied_inserted r2 s made entry middle so_far rest inserts replies =
      replied_with r2 s status.Ok (made ∷ []) (process_with made entry) (on_process middle p.pid (process_with made entry))
      (ap (λ (ps : Map ProcessValue). update ps p.pid (process_with made entry)) so_far) rest (ap process_value replies
      ∙ (λ i. record (process_value p) { cpu = cpu_answered s status.Ok (made ∷ []) p.cpu; handles = inserts.entries i; last = inserts.last i }))

  -- two handles enter the table, one after the other
  pub replied_inserted_two : (r2 : Objects) (s : Site) (one two : ℕ) (first second : Entry) (between : Handles) (middle : World)
      → middle.processes ≡ map process_entry before → (record middle { processes = map process_entry after }) ≡ world_value after r2
      → Inserts p.table first one between → Inserts between second two p2.table → Replies s status.Ok (one ∷ two ∷ []) p p2 → world_value after r2
      ≡ replied (on_process (on_process middle p.pid (process_with one first)) p.pid (process_with two second)) p.pid s status.Ok (one ∷ two ∷ [])
  unfolding on_process
  replied_inserted_two r2 s one two first second between middle so_far rest enters then_enters replies =
      replied_with r2 s status.Ok (one ∷ two ∷ []) (λ q. process_with two second (process_with one first q))
      (on_process (on_process middle p.pid (process_with one first)) p.pid (process_with two second))
      (ap (λ (ps : Map ProcessValue). update (update ps p.pid (process_with one first)) p.pid (process_with two second)) so_far
      ∙ update_twice (map process_entry before) p.pid (process_with one first) (process_with two second))
      rest
      (ap process_value replies
      ∙ (λ i. record (process_value p) { cpu = cpu_answered s status.Ok (one ∷ two ∷ []) p.cpu; handles = entries_are i; last = then_enters.last i }))
    where
      entries_are : p2.table.entries ≡ put (put p.table.entries one first) two second
      entries_are = then_enters.entries ∙ ap (λ (m : Map Entry). put m two second) enters.entries

  -- the registers and one object change
  pub replied_changed : (r r2 : Objects) (k : ℕ) (f : Object → Object) (g : ObjectValue → ObjectValue)
      → ((o : Object) → object_value (f o) ≡ g (object_value o))
      → r2 ≡ record r { objects = update r.objects k f } → p2.table ≡ p.table → (s : Site) (values : List ℕ) → Replies s status.Ok values p p2
      → world_value after r2 ≡ replied (on_object (world_value before r) k g) p.pid s status.Ok values
  unfolding on_object
  replied_changed r r2 k f g seen objects table s values replies =
      replied_with r2 s status.Ok values (λ q. q) (on_object (world_value before r) k g) (sym (update_itself (map process_entry before) p.pid))
      (ap (λ (os : Map ObjectValue). record (world_value before r) { processes = map process_entry after; objects = os })
      (sym (update_seen object_value r.objects k f g seen)) ∙ ap (world_value after) (sym objects)) (ap process_value replies ∙ rw table refl)

  -- the registers alone change
  pub same_world : (r r2 : Objects) (s : Site) (answer : Status) (values : List ℕ) → p2.table ≡ p.table → r2 ≡ r → Replies s answer values p p2
      → world_value after r2 ≡ replied (world_value before r) p.pid s answer values
  unfolding replied on_process
  same_world r r2 s answer values table objects replies =
      rw objects (ap (λ (ps : Map ProcessValue). record (world_value before r) { processes = ps })
      (write.writes (λ q. record q { cpu = cpu_answered s answer values q.cpu }) is))
    where
      is : process_value p2 ≡ record (process_value p) { cpu = cpu_answered s answer values p.cpu }
      is = ap process_value replies ∙ rw table refl
