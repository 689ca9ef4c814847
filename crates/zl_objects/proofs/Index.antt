-- The index of what stands below jobs: what it finds, and that it fits the objects after each change.
use Rattle.zl_objects.proofs.Common.{ArePaired, BTreeSet, Body, Bool, Cascades, Children, Err, HasPeerHere, IsIndexed, IsTrue, KeepPairs, List, ListsChild}
use Rattle.zl_objects.proofs.Common.{Map, None, Object, Ok, OnErr, OnOk, Option, OthersStayListed, Pair, Port, Result, Some, StayListed, Updates, Watch}
use Rattle.zl_objects.proofs.Common.{[], all_killed, and_from, and_parts, any-filter_same, ap, arith, at_port, below_all, cases_Bool, contains, each}
use Rattle.zl_objects.proofs.Common.{end_to, ending_waits, eq-eqb, eqb-true, false, false≢true, filter, get, get-each, get-put, goes, has_job_below}
use Rattle.zl_objects.proofs.Common.{has_key, has_living_child_here, has_pair, has_process_below, held_once_less, if◌then◌else◌, inl, inr, insert_entry}
use Rattle.zl_objects.proofs.Common.{is_alive, is_at, is_child, is_end_body, is_job_below_here, is_koid, is_lt, is_process_below, is_sorted}
use Rattle.zl_objects.proofs.Common.{is_sorted-update, is_under, is_within_here, keeper_of, killed, killed_body, killed_if, let_go, list_any}
use Rattle.zl_objects.proofs.Common.{list_any-weaker, lookup, nat_cmp, nat_lt, nat_tests, none-some, none_left, not, option_map, or_cases, or_left}
use Rattle.zl_objects.proofs.Common.{or_right, pair_cmp, passes_in, peer_of, put, range_contains, refl, same_Some, set_value, sorted_put, sorted_without}
use Rattle.zl_objects.proofs.Common.{stopped, stopped_body, subst, sym, true, unsigned_tied, unwatched, update, waits_end, without, ℕ, ◌&&◌, ◌+◌, ◌-◌, ◌<◌}
use Rattle.zl_objects.proofs.Common.{◌==◌, ◌^◌, ◌||◌, ◌∙◌, ◌∷◌, ◌≡◌, ◌≤◌, ◌⊎◌}
use Rattle.std.specs.declared.ops.Bound.TheVariants.{Included}
use Rattle.zl_objects.specs.declared.object.Body.TheVariants as body
use Rattle.zl_objects.specs.declared.object.Pair.TheVariants as pair
use Rattle.zl_objects.proofs.Bare.{of_body, sorted_same}
use Rattle.zl_objects.proofs.Bodies.{Changed, changed, found_left}
use Rattle.zl_objects.proofs.ByKoid.{inserted, written, written_back}
use Rattle.zl_objects.proofs.Calm.{Keeps}
use Rattle.zl_objects.proofs.CalmChanges.{keeps_port, keeps_unwatched}
use Rattle.zl_objects.proofs.CalmMade.{given_apart}
use Rattle.zl_objects.proofs.Ending.{ending_bare}
use Rattle.zl_objects.proofs.Found.{Found, any_found}
use Rattle.zl_objects.proofs.Released.{Was, cascaded_was}
use Rattle.zl_rights.proofs.Settling.{same_tests}
use Rattle.zl_rights.proofs.MapTests.{any_at}
use Rattle.zl_objects.proofs.Whole.{end_of, end_peer}

-- ---- what is listed

module _ (old new : BTreeSet (ℕ × ℕ)) (job koid : ℕ) where
  pub there_if : (j k : ℕ) → (IsTrue (contains pair_cmp old (j, k)) → IsTrue (contains pair_cmp new (j, k))) → IsTrue (has_pair old j k)
      → IsTrue (has_pair new j k)
  there_if j k more h =
      let parts = and_parts (nat_lt k (2 ^ 64)) (contains pair_cmp old (j, k)) h in
      and_from (nat_lt k (2 ^ 64)) (contains pair_cmp new (j, k)) parts.0 (more parts.1)

  pub others_keep : (b : Bool) → Updates pair_cmp old new (job, koid) b → KeepPairs koid old new
  others_keep b updates j k apart =
      let other : is_at (pair_cmp (job, koid)) (j, k) ≡ false = grind (arith, nat_tests, unsigned_tied job j, unsigned_tied koid k, apart) in
      there_if j k (λ h. updates.0 (j, k) ∙ rw other h)

module _ {children children2 : Children} where
  pub others_listed : (koid : ℕ) → KeepPairs koid children.pairs children2.pairs → KeepPairs koid children.jobs children2.jobs
      → KeepPairs koid children.processes children2.processes → OthersStayListed koid children children2
  others_listed koid all jobs processes k b apart listed = record {
    under = λ j h. all j k apart (listed.under j h);
    jobs = λ j h. jobs j k apart (listed.jobs j h);
    processes = λ j h. processes j k apart (listed.processes j h);
  }

-- ---- what is found under a job

-- a pair in the range of the job whose child is k is the pair of the job and k
abbrev pub in_range : ℕ → ℕ × ℕ → Bool
in_range j x = range_contains pair_cmp (Included (j, 0)) (Included (j, 2 ^ 64 - 1)) x

pair_found : (j k : ℕ) (x : ℕ × ℕ) → k < 2 ^ 64 → IsTrue (is_at (pair_cmp (j, k)) x) → IsTrue (in_range j x) × (x.1 ≡ k)
pair_found j k x small here = (
  grind (arith, nat_tests, unsigned_tied j x.0, unsigned_tied k x.1),
  grind (arith, nat_tests, unsigned_tied j x.0, unsigned_tied k x.1),
)

any_listed : (p : ℕ → Bool) (j k : ℕ) → k < 2 ^ 64 → IsTrue (p k) → (xs : List (ℕ × ℕ)) → IsTrue (list_any (is_at (pair_cmp (j, k))) xs)
    → IsTrue (list_any (λ x. p x.1) (filter (in_range j) xs))
any_listed p j k small passes xs some =
    list_any-weaker (is_at (pair_cmp (j, k))) (λ x. p x.1) (λ x here. ap p (pair_found j k x small here).1 ∙ passes) (filter (in_range j) xs)
    (any-filter_same (is_at (pair_cmp (j, k))) (in_range j) true (λ x here. (pair_found j k x small here).0) xs ∙ some)

any_there : (test : Body → Bool) (m : Map Object) (xs : List (ℕ × ℕ)) → IsTrue (list_any (λ x. passes_in test (get m x.1)) xs)
    → IsTrue (list_any (λ e. test e.1.body) m)
any_there test m [] some = absurd (false≢true some)
any_there test m (x ∷ xs) some = elim (or_cases (passes_in test (get m x.1)) _ some) as (λ _. IsTrue (list_any (λ e. test e.1.body) m)) [
  | inl here ↦ by_object (get m x.1) refl here
  | inr later ↦ any_there test m xs later
]
  where
    by_object : (q : Option Object) → get m x.1 ≡ q → IsTrue (passes_in test q) → IsTrue (list_any (λ e. test e.1.body) m)
    by_object None is passes = absurd (false≢true passes)
    by_object (Some o) is passes = any_at (λ e. test e.1.body) m x.1 o is passes

pub child_under : (j : ℕ) (b : Body) → IsTrue (is_child j b) → IsTrue (is_under j b)
child_under j (body.Job own) h = by_test own.killed h
  where
    by_test : (k : Bool) → IsTrue (is_koid j (if k then None else Some own.parent)) → IsTrue (own.parent == j)
    by_test true h = absurd (false≢true h)
    by_test false h = h
child_under j (body.Process job l) h = by_test (is_alive l) h
  where
    by_test : (b : Bool) → IsTrue (is_koid j (if b then Some job else None)) → IsTrue (job == j)
    by_test true h = h
    by_test false h = absurd (false≢true h)
child_under j _ h = h

-- where all that pass the test are among the pairs of the job, it finds the same there as among all objects
pub any_child : (test : Body → Bool) (pairs : BTreeSet (ℕ × ℕ)) (m : Map Object) (job : ℕ) → IsTrue (is_sorted nat_cmp m)
    → ((k : ℕ) (o : Object) → get m k ≡ Some o → IsTrue (test o.body) → IsTrue (has_pair pairs job k))
    → list_any (λ x. passes_in test (get m x.1)) (filter (in_range job) pairs.keys) ≡ list_any (λ e. test e.1.body) m
any_child test pairs m job sorted there =
    same_tests (list_any (λ x. passes_in test (get m x.1)) (filter (in_range job) pairs.keys)) (list_any (λ e. test e.1.body) m)
    (any_there test m (filter (in_range job) pairs.keys)) back
  where
    back : IsTrue (list_any (λ e. test e.1.body) m) → IsTrue (list_any (λ x. passes_in test (get m x.1)) (filter (in_range job) pairs.keys))
    back some =
        let found : Found (λ e. test e.1.body) m = any_found (λ e. test e.1.body) m sorted some in
        let parts =
        and_parts (nat_lt found.key (2 ^ 64)) (contains pair_cmp pairs (job, found.key)) (there found.key found.value found.at found.passes) in
        any_listed (λ k. passes_in test (get m k)) job found.key (grind (arith, nat_tests, parts.0)) (rw found.at found.passes) pairs.keys parts.1

-- ---- what is a child

child_is : (j : ℕ) (b : Body) → is_child j b ≡ (is_job_below_here j b || is_process_below j b)
child_is j (body.Job own) = by_test own.killed
  where
    by_test : (k : Bool) → is_koid j (if k then None else Some own.parent) ≡ (((own.parent == j) && not k) || false)
    by_test true = grind (arith, nat_tests)
    by_test false = grind (arith, nat_tests)
child_is j (body.Process job l) = by_test (is_alive l)
  where
    by_test : (b : Bool) → is_koid j (if b then Some job else None) ≡ ((job == j) && b)
    by_test true = grind (arith, nat_tests)
    by_test false = grind (arith, nat_tests)
child_is j _ = refl

pub job_is_child : (j : ℕ) (b : Body) → IsTrue (is_job_below_here j b) → IsTrue (is_child j b)
job_is_child j b h = child_is j b ∙ or_left (is_job_below_here j b) _ h

pub process_is_child : (j : ℕ) (b : Body) → IsTrue (is_process_below j b) → IsTrue (is_child j b)
process_is_child j b h = child_is j b ∙ or_right (is_job_below_here j b) _ h

pub any_either : (m : Map Object) (j : ℕ) → has_living_child_here m j ≡ (has_job_below m j || has_process_below m j)
unfolding has_living_child_here has_job_below has_process_below
any_either [] j = refl
any_either (e ∷ m) j = grind (arith, child_is j e.1.body, any_either m j)

-- it makes no child
abbrev pub MakesNone : (Object → Object) → Type 0
MakesNone f = (j : ℕ) (o : Object) → IsTrue (is_child j (f o).body) → IsTrue (is_child j o.body)

pub stopped_none : MakesNone stopped
stopped_none j o = by_body o.body
  where
    by_body : (b : Body) → IsTrue (is_child j (stopped (record o { body = b })).body) → IsTrue (is_child j b)
    by_body (body.Process job l) h = absurd (false≢true h)
    by_body _ h = h

pub killed_none : (kills : Bool) → MakesNone (killed_if kills)
killed_none false j o h = h
killed_none true j o h = by_body o.body h
  where
    by_body : (b : Body) → IsTrue (is_child j (killed (record o { body = b })).body) → IsTrue (is_child j b)
    by_body (body.Job own) h = absurd (false≢true h)
    by_body (body.Process job l) h = absurd (false≢true h)
    by_body _ h = h

-- ---- what stands where another stood

-- it stands below a job where the other did, as a living job or process too, and its peer is the same
pub record IsNoMore (b c : Body) : Type 0 where
  pub under : (j : ℕ) → IsTrue (is_under j c) → IsTrue (is_under j b)
  pub jobs : (j : ℕ) → IsTrue (is_job_below_here j c) → IsTrue (is_job_below_here j b)
  pub processes : (j : ℕ) → IsTrue (is_process_below j c) → IsTrue (is_process_below j b)
  pub peer : peer_of c ≡ peer_of b

same_stands : (b : Body) → IsNoMore b b
same_stands b = record { under = λ j h. h; jobs = λ j h. h; processes = λ j h. h; peer = refl }

pub stopped_stands : (b : Body) → IsNoMore b (stopped_body b)
stopped_stands (body.Process job l) = record {
  under = λ j h. h;
  jobs = λ j h. h;
  processes = λ j h. absurd (false≢true (and_parts (job == j) false h).1);
  peer = refl;
}
stopped_stands b = same_stands b

killed_stands : (b : Body) → IsNoMore b (killed_body b)
killed_stands (body.Job own) = record {
  under = λ j h. h;
  jobs = λ j h. absurd (false≢true (and_parts (own.parent == j) false h).1);
  processes = λ j h. h;
  peer = refl;
}
killed_stands b = stopped_stands b

killed_if_stands : (kills : Bool) (o : Object) → IsNoMore o.body (killed_if kills o).body
killed_if_stands true o = killed_stands o.body
killed_if_stands false o = same_stands o.body

no_more_listed : {children : Children} (k : ℕ) {b c : Body} → IsNoMore b c → ListsChild children k b → ListsChild children k c
no_more_listed k no_more listed = record {
  under = λ j h. listed.under j (no_more.under j h);
  jobs = λ j h. listed.jobs j (no_more.jobs j h);
  processes = λ j h. listed.processes j (no_more.processes j h);
}

-- ---- ends and their peers

-- what is left stands where it did
abbrev Stand : Map Object → Map Object → Type 0
Stand m m2 = (k : ℕ) (o2 : Object) → get m2 k ≡ Some o2 → (o : Object) × (get m k ≡ Some o) × IsNoMore o.body o2.body

still_paired : (m m2 : Map Object) → Stand m m2 → ArePaired m → ArePaired m2
still_paired m m2 stand paired k p o q at there is =
    let end : (x : Object) × (get m k ≡ Some x) × IsNoMore x.body o.body = stand k o at in
    let peer : (x : Object) × (get m p ≡ Some x) × IsNoMore x.body q.body = stand p q there in
    peer.2.peer ∙ paired k p end.0 peer.0 end.1 peer.1 (sym end.2.peer ∙ is)

still_indexed : {children : Children} (m m2 : Map Object) → IsTrue (is_sorted nat_cmp m2) → Stand m m2 → IsIndexed children m → IsIndexed children m2
still_indexed m m2 in_order stand indexed = record {
  in_order = in_order;
  listed = λ k o at.
      let was : (x : Object) × (get m k ≡ Some x) × IsNoMore x.body o.body = stand k o at in
      no_more_listed k was.2 (indexed.listed k was.0 was.1);
  paired = still_paired m m2 stand indexed.paired;
}

-- the ends whose peer a new object with this body is are its peers
abbrev IsPairedWith : Map Object → ℕ → Body → Type 0
IsPairedWith m next b = (k : ℕ) (q : Object) → get m k ≡ Some q
    → (peer_of q.body ≡ Some next → peer_of b ≡ Some k) × (peer_of b ≡ Some k → peer_of q.body ≡ Some next)

put_paired : (m : Map Object) (next : ℕ) (o : Object) → IsPairedWith m next o.body → ArePaired m → ArePaired (put m next o)
put_paired m next o ends paired k p x q at there is =
    by_keys (cases_Bool (next == k)) (cases_Bool (next == p)) (sym (get-put m next o k) ∙ at) (sym (get-put m next o p) ∙ there)
  where
    by_keys : IsTrue (next == k) ⊎ ((next == k) ≡ false) → IsTrue (next == p) ⊎ ((next == p) ≡ false) → (if next == k then Some o else get m k) ≡ Some x
        → (if next == p then Some o else get m p) ≡ Some q → peer_of q.body ≡ Some k
    by_keys (inl a) (inl b) one other =
        let same : q ≡ x = sym (same_Some o q (rw b at other)) ∙ same_Some o x (rw a at one) in
        let key : p ≡ k = sym (eqb-true next p b) ∙ eqb-true next k a in
        ap (λ (y : Object). peer_of y.body) same ∙ (is ∙ ap (λ (n : ℕ). Some n) key)
    by_keys (inl a) (inr b) one other =
        let new : peer_of o.body ≡ Some p = ap (λ (y : Object). peer_of y.body) (same_Some o x (rw a at one)) ∙ is in
        (ends p q (rw b at other)).1 new ∙ ap (λ (n : ℕ). Some n) (eqb-true next k a)
    by_keys (inr a) (inl b) one other =
        ap (λ (y : Object). peer_of y.body) (sym (same_Some o q (rw b at other)))
        ∙ (ends k x (rw a at one)).0 (is ∙ ap (λ (n : ℕ). Some n) (sym (eqb-true next p b)))
    by_keys (inr a) (inr b) one other = paired k p x q (rw a at one) (rw b at other) is

pub no_peer : (b : Body) → is_end_body b ≡ false → peer_of b ≡ None
no_peer (body.ChannelEnd p queue) h = absurd (false≢true (sym h))
no_peer (body.PairEnd p) h = absurd (false≢true (sym h))
no_peer _ h = refl

module _ (m : Map Object) (next : ℕ) (peers : (k : ℕ) (q : Object) → get m k ≡ Some q → HasPeerHere m next q.body) where
  not_given : (k later : ℕ) (q : Object) → next ≤ later → get m k ≡ Some q → peer_of q.body ≡ Some later → ⊥
  not_given k later q most at is = false≢true (sym (given_apart m next later q.body most (peers k q at) later is) ∙ eq-eqb later later refl)

  -- it is no end
  pub alone_paired : (b : Body) → is_end_body b ≡ false → IsPairedWith m next b
  alone_paired b alone k q at = (λ is. absurd (not_given k next q (omega arith) at is), λ is. absurd (none-some k (sym (no_peer b alone) ∙ is)))

  -- both ends of a pair
  module _ (pair : Pair) where
    first_paired : ((j : ℕ) → IsTrue (has_key m j) → j < next) → IsPairedWith m next (end_to pair (next + 1))
    first_paired below k q at = (
      λ is. absurd (not_given k next q (omega arith) at is),
      λ is. absurd (omega (arith, below k (rw at refl), same_Some (next + 1) k (sym (end_peer pair (next + 1)) ∙ is))),
    )

    second_paired : (handles : ℕ) → IsPairedWith (put m next (end_of pair (next + 1) handles)) (next + 1) (end_to pair next)
    second_paired handles k q at = by_key (cases_Bool (next == k)) (sym (get-put m next (end_of pair (next + 1) handles) k) ∙ at)
      where
        by_key : IsTrue (next == k) ⊎ ((next == k) ≡ false) → (if next == k then Some (end_of pair (next + 1) handles) else get m k) ≡ Some q
            → (peer_of q.body ≡ Some (next + 1) → peer_of (end_to pair next) ≡ Some k)
            × (peer_of (end_to pair next) ≡ Some k → peer_of q.body ≡ Some (next + 1))
        by_key (inl here) is = (
          λ h. end_peer pair next ∙ ap (λ (n : ℕ). Some n) (eqb-true next k here),
          λ h. ap (λ (y : Object). peer_of y.body) (sym (same_Some (end_of pair (next + 1) handles) q (rw here at is))) ∙ end_peer pair (next + 1),
        )
        by_key (inr apart) is = (
          λ h. absurd (not_given k (next + 1) q (omega arith) (rw apart at is) h),
          λ h. absurd (false≢true (sym apart ∙ eq-eqb next k (same_Some next k (sym (end_peer pair next) ∙ h)))),
        )

-- ---- after each change

pub sorted_each : (f : ℕ → Object → Object) (m : Map Object) → is_sorted nat_cmp (each f m) ≡ is_sorted nat_cmp m
unfolding each
sorted_each f [] = refl
sorted_each f (e ∷ m) = λ i. below_each m i && sorted_each f m i
  where
    below_each : (n : Map Object) → below_all nat_cmp e.0 (each f n) ≡ below_all nat_cmp e.0 n
    below_each [] = refl
    below_each (d ∷ n) = ap (λ b. is_lt (nat_cmp e.0 d.0) && b) (below_each n)

module _ {children : Children} where
  pub none_indexed : (m : Map Object) → m ≡ [] → IsIndexed children m
  unfolding get
  none_indexed m none = rw none (record { in_order = refl; listed = λ k o at. absurd (none-some o at); paired = λ k p o q at. absurd (none-some o at) })

  -- one of the objects is written
  pub updated_indexed : {m n : Map Object} (f : Object → Object) → ((o : Object) → IsNoMore o.body (f o).body) → (k : ℕ) → IsIndexed children m
      → n ≡ update m k f → IsIndexed children n
  updated_indexed {m} {n} f no_more k indexed is =
      rw is (still_indexed m (update m k f) (is_sorted-update m k f ∙ indexed.in_order) (λ i o at. by_key i o (changed f m k i o at)) indexed)
    where
      by_key : (i : ℕ) (o2 : Object) → Changed f m k i o2 → (o : Object) × (get m i ≡ Some o) × IsNoMore o.body o2.body
      by_key i o2 c = (
        c.before,
        c.there,
        subst (λ (x : Object). IsNoMore c.before.body x.body) (sym c.is) (by_test (k == i)),
      )
        where
          by_test : (b : Bool) → IsNoMore c.before.body (if b then f c.before else c.before).body
          by_test true = no_more c.before
          by_test false = same_stands c.before.body

  -- and stays where it stands
  pub kept_indexed : {m n : Map Object} (f : Object → Object) → Keeps f → (k : ℕ) → IsIndexed children m → n ≡ update m k f → IsIndexed children n
  kept_indexed f keeps = updated_indexed f (λ o. record {
    under = λ j h. ap (is_koid j) (sym (keeps.above o)) ∙ h;
    jobs = λ j h. sym (keeps.jobs j o) ∙ h;
    processes = λ j h. sym (keeps.processes j o) ∙ h;
    peer = keeps.peer o;
  })

  pub port_indexed : {m n : Map Object} (g : Port → Port) (k : ℕ) → IsIndexed children m → n ≡ update m k (at_port g) → IsIndexed children n
  port_indexed g = kept_indexed (at_port g) (keeps_port g)

  pub unwatched_indexed : {m n : Map Object} (out : Watch → Bool) (k : ℕ) → IsIndexed children m → n ≡ update m k (unwatched out) → IsIndexed children n
  unwatched_indexed out = kept_indexed (unwatched out) (keeps_unwatched out)

  -- or that was refused
  pub kept_or_indexed : {A B : Type 0} {m n : Map Object} (f : Object → Object) → Keeps f → (k : ℕ) (v w : Object) (r : Result A B) → IsIndexed children m
      → OnOk r (w ≡ f v) → OnErr r (w ≡ v) → Some v ≡ lookup (is_at (nat_cmp k)) m → n ≡ set_value (is_at (nat_cmp k)) m w → IsIndexed children n
  kept_or_indexed {A} {B} {m} {n} f keeps k v w (Ok x) indexed is other there set = kept_indexed f keeps k indexed (written m n k f v w there is set)
  kept_or_indexed {A} {B} {m} {n} f keeps k v w (Err e) indexed is other there set = rw (written_back m n k v w there other set) indexed

  -- a job was killed, and what stands below it
  pub killed_indexed : {m n : Map Object} (task : ℕ) → IsIndexed children m → n ≡ all_killed m task → IsIndexed children n
  unfolding all_killed
  killed_indexed {m} {n} task indexed is =
      rw is (still_indexed m (each kills m) (sorted_each kills m ∙ indexed.in_order)
      (λ k o at. by_object k o (get m k) refl (sym (get-each m kills k) ∙ at)) indexed)
    where
      kills : ℕ → Object → Object
      kills j = killed_if (is_within_here m task j)

      by_object : (k : ℕ) (o2 : Object) (q : Option Object) → get m k ≡ q → option_map (kills k) q ≡ Some o2
          → (o : Object) × (get m k ≡ Some o) × IsNoMore o.body o2.body
      by_object k o2 None was at = absurd (none-some o2 at)
      by_object k o2 (Some o) was at = (
        o,
        was,
        subst (λ (x : Object). IsNoMore o.body x.body) (same_Some (kills k o) o2 at) (killed_if_stands (is_within_here m task k) o),
      )

  -- handles went, and what nothing keeps
  pub left_indexed : {m m2 : Map Object} (ks : List ℕ) → IsIndexed children m → Cascades ks m m2 → IsIndexed children m2
  left_indexed {m} {m2} ks indexed cascades =
      still_indexed m m2 (in_order ks m m2 cascades indexed.in_order)
      (λ k o at.
      let was : Was m k o = cascaded_was ks m m2 cascades k o at in (
        was.before,
        was.there,
        record {
          under = λ j h. sym (of_body (is_under j) (λ packets reserved. refl) o.body was.before.body was.body) ∙ h;
          jobs = λ j h. sym (of_body (is_job_below_here j) (λ packets reserved. refl) o.body was.before.body was.body) ∙ h;
          processes = λ j h. sym (of_body (is_process_below j) (λ packets reserved. refl) o.body was.before.body was.body) ∙ h;
          peer = of_body peer_of (λ packets reserved. refl) o.body was.before.body was.body;
        },
      )) indexed
    where
      in_order : (ks : List ℕ) (m m2 : Map Object) → Cascades ks m m2 → IsTrue (is_sorted nat_cmp m) → IsTrue (is_sorted nat_cmp m2)
      in_order _ _ _ (none_left m) h = h
      in_order _ _ _ (let_go k ks m m2 more) h = in_order ks _ m2 more (is_sorted-update m k held_once_less ∙ h)
      in_order _ _ _ (goes k o ks m m2 there unkept more) h = in_order _ _ m2 more (sorted_without m k h)
      in_order _ _ _ (waits_end ks m mid m2 same more) h = in_order ks mid m2 more (sorted_same m mid same ∙ h)

module _ {children children2 : Children} where
  -- one object more, which is listed under its job
  pub inserted_indexed : {m n : Map Object} (next : ℕ) (o : Object) → IsIndexed children m → OthersStayListed next children children2
      → ListsChild children2 next o.body → IsPairedWith m next o.body → n ≡ insert_entry nat_cmp m next o → IsIndexed children2 n
  inserted_indexed {m} {n} next o indexed others added ends is = rw (is, inserted m next o) (record {
    in_order = sorted_put m next o indexed.in_order;
    listed = λ k q at. by_key k q (cases_Bool (next == k)) (sym (get-put m next o k) ∙ at);
    paired = put_paired m next o ends indexed.paired;
  })
    where
      by_key : (k : ℕ) (q : Object) → IsTrue (next == k) ⊎ ((next == k) ≡ false) → (if next == k then Some o else get m k) ≡ Some q
          → ListsChild children2 k q.body
      by_key k q (inl here) at =
          subst (λ (i : ℕ). ListsChild children2 i q.body) (eqb-true next k here)
          (subst (λ (x : Object). ListsChild children2 next x.body) (same_Some o q (rw here at at)) added)
      by_key k q (inr apart) at = others k q.body apart (indexed.listed k q (rw apart at at))

  -- that was refused
  pub refused_indexed : {m n : Map Object} (next : ℕ) → IsIndexed children m → ((k : ℕ) → IsTrue (has_key m k) → k < next)
      → OthersStayListed next children children2 → n ≡ m → IsIndexed children2 n
  refused_indexed {m} next indexed below others is = rw is (record {
    in_order = indexed.in_order;
    listed = λ k o at. others k o.body (apart k (below k (rw at refl))) (indexed.listed k o at);
    paired = indexed.paired;
  })
    where
      apart : (k : ℕ) → k < next → (next == k) ≡ false
      apart k lower = grind (arith, nat_tests, lower)

  -- one object less, with what is listed for it
  pub removed_indexed : {m n : Map Object} (k : ℕ) → IsIndexed children m → OthersStayListed k children children2 → n ≡ without m k → IsIndexed children2 n
  removed_indexed {m} {n} k indexed others is = rw is (record {
    in_order = sorted_without m k indexed.in_order;
    listed = λ i o at. let left = found_left m k i o at in others i o.body left.0 (indexed.listed i o left.1);
    paired = still_paired m (without m k) (λ i o at. (o, (found_left m k i o at).1, same_stands o.body)) indexed.paired;
  })

  -- what is dead isn't listed as living any more
  pub buried_indexed : {m : Map Object} (k : ℕ) (o : Object) → IsIndexed children m → OthersStayListed k children children2 → StayListed children children2
      → get m k ≡ Some o → keeper_of o.body ≡ None → IsIndexed children2 m
  buried_indexed {m} k o indexed others all there dead = record {
    in_order = indexed.in_order;
    listed = λ i q at. by_key i q at (cases_Bool (k == i));
    paired = indexed.paired;
  }
    where
      no_child : (j : ℕ) → IsTrue (is_child j o.body) → ⊥
      no_child j child = false≢true (rw dead at child)

      by_key : (i : ℕ) (q : Object) → get m i ≡ Some q → IsTrue (k == i) ⊎ ((k == i) ≡ false) → ListsChild children2 i q.body
      by_key i q at (inr apart) = others i q.body apart (indexed.listed i q at)
      by_key i q at (inl here) =
          let same : o ≡ q = same_Some o q (sym there ∙ (ap (get m) (eqb-true k i here) ∙ at)) in
          subst (λ (x : Object). ListsChild children2 i x.body) same (record {
            under = λ j h. all j i ((indexed.listed i q at).under j (rw (← same) h));
            jobs = λ j h. absurd (no_child j (job_is_child j o.body h));
            processes = λ j h. absurd (no_child j (process_is_child j o.body h));
          })

  -- and the waits there end
  pub gone_indexed : {m n : Map Object} (k : ℕ) (o : Object) → IsIndexed children m → OthersStayListed k children children2 → n ≡ ending_waits k o (without m k)
      → IsIndexed children2 n
  gone_indexed {m} {n} k o indexed others is =
      rw is (left_indexed [] (removed_indexed k indexed others refl) (waits_end [] _ _ _ (ending_bare k o (without m k)) (none_left _)))

-- an end of a channel or of an event pair is no child
pub pair_indexed : {children : Children} {m n n2 : Map Object} (p : Pair) (handles next : ℕ) (o o2 : Object) → IsIndexed children m
    → ((j : ℕ) → IsTrue (has_key m j) → j < next) → ((k : ℕ) (q : Object) → get m k ≡ Some q → HasPeerHere m next q.body)
    → o ≡ end_of p (next + 1) handles → o2 ≡ end_of p next handles → n ≡ insert_entry nat_cmp m next o → n2 ≡ insert_entry nat_cmp n (next + 1) o2
    → IsIndexed children n2
pair_indexed {children} {m} p handles next o o2 indexed below peers first second into into2 =
    inserted_indexed (next + 1) o2 (inserted_indexed next o indexed (λ k b apart h. h) (rw first (no_child next p (next + 1)))
    (rw first (first_paired m next peers p below)) into) (λ k b apart h. h)
    (rw second (no_child (next + 1) p next)) (rw (into, inserted m next o, first, second) (second_paired m next peers p handles)) into2
  where
    no_child : (k : ℕ) (p : Pair) (peer : ℕ) → ListsChild children k (end_to p peer)
    no_child k pair.Channel peer =
        record { under = λ j h. absurd (false≢true h); jobs = λ j h. absurd (false≢true h); processes = λ j h. absurd (false≢true h) }
    no_child k pair.Eventpair peer =
        record { under = λ j h. absurd (false≢true h); jobs = λ j h. absurd (false≢true h); processes = λ j h. absurd (false≢true h) }
