-- Which fault a statement of a boot has, from what the code tests.
use Rattle.zl_calls.proofs.Common.{Body, Bool, BootCause, Entry, Grant, IsTrue, Kind, Library, List, MOST_GRANTS, MOST_KOIDS, MOST_PROCESSES, Map, None, Object}
use Rattle.zl_calls.proofs.Common.{ObjectValue, Objects, Option, Process, Program, Some, World, [], all_known, allowed, and_le_l, and_parts, ap, are_misfits}
use Rattle.zl_calls.proofs.Common.{arith, bit_and, body_in, body_value, boot_fault, cases_Bool, default_rights_of, eqb-true, false, false≢true, first_some, get}
use Rattle.zl_calls.proofs.Common.{get_seen, handle_given, handles_given, has_default_rights, has_key, if_default, inl, inr, is_job, is_job_body, is_some}
use Rattle.zl_calls.proofs.Common.{kind_here, kind_in, kind_of, lacks_need, length, list_all, map, may_start_with, nat_le, nat_lt, nat_tests, not, object_entry}
use Rattle.zl_calls.proofs.Common.{object_value, option_map, option_to_list, or_left, or_right, refl, rights_given, rights_if, rights_of, slice_get}
use Rattle.zl_calls.proofs.Common.{slice_get_past, sym, then_some, true, within, world_value, ℕ, ◌&&◌, ◌++◌, ◌+◌, ◌<◌, ◌^◌, ◌||◌, ◌∙◌, ◌∷◌, ◌≡◌, ◌≤◌, ◌⊎◌}
use Rattle.zl_rights.specs.declared.kind.Kind.TheVariants as kind
use Rattle.zl_code.specs.declared.boot.BootCause.TheVariants as cause
use Rattle.zl_code.specs.declared.boot.Statement.TheVariants as statement
use Rattle.zl_objects.specs.declared.object.Body.TheVariants as body
use Rattle.zl_objects.specs.Objects.{is_job_in, is_job_here}
use Rattle.zl_calls.proofs.waits.Ending.{kind_there}

-- ---- jobs

pub job_seen : (ps : List Process) (r : Objects) (k : ℕ) → is_job (world_value ps r) k ≡ is_job_in (get r.objects k)
job_seen ps r k = rw (get_seen r.objects k) (by_object (get r.objects k))
  where
    by_object : (o : Option Object) → is_job_body (body_in (option_map object_value o)) ≡ is_job_in o
    by_object None = refl
    by_object (Some o) = by_body o.body
      where
        by_body : (b : Body) → is_job_body (Some (body_value b)) ≡ is_job_here b
        by_body (body.Job own) = refl
        by_body _ = refl

-- ---- handles

module _ (objects : Map Object) where
  pub known_seen : (gs : List Grant) → all_known (map object_entry objects) gs ≡ list_all (λ g. is_some (kind_here objects g.koid)) gs
  known_seen [] = refl
  known_seen (g ∷ gs) = λ i. sym (kind_there objects g.koid) i && known_seen gs i

  -- the handle that is given, from the kind of its object
  abbrev pub with_kind : Grant → Option Kind → Option Entry
  with_kind g None = None
  with_kind g (Some kind) =
      option_map (λ rights. record { koid = g.koid; kind = kind; rights = rights })
      (rights_if (within (rights_given g.rights kind) (default_rights_of kind)) (rights_given g.rights kind))

  pub handle_seen : (g : Grant) → allowed (map object_entry objects) g ≡ with_kind g (kind_here objects g.koid)
  handle_seen g = rw (get_seen objects g.koid) (by_object (get objects g.koid))
    where
      by_test : (k : Kind) (b : Bool) → then_some {T = Entry} b (record { koid = g.koid; kind = k; rights = rights_of (rights_given g.rights k) })
          ≡ option_map (λ rights. record { koid = g.koid; kind = k; rights = rights }) (then_some b (rights_of (rights_given g.rights k)))
      by_test k true = refl
      by_test k false = refl

      given : Kind → Option Entry
      given k = if_default (Some (record { koid = g.koid; kind = k; rights = rights_of (rights_given g.rights k) }))

      kind_is : (b : Body) → kind_of (body_value b) ≡ kind_in b
      kind_is (body.Job own) = refl
      kind_is _ = refl

      by_object : (o : Option Object)
          → if_default (handle_given g (body_in (option_map object_value o))) ≡ with_kind g (option_map (λ (x : Object). kind_in x.body) o)
      by_object None = refl
      by_object (Some o) =
          ap (λ (k : Kind). given k) (kind_is o.body)
          ∙ by_test (kind_in o.body) (within (rights_given g.rights (kind_in o.body)) (default_rights_of (kind_in o.body)))

-- a number that is too large has a bit outside the default rights
pub past_default : (rights : ℕ) (k : Kind) → (rights < 2 ^ 32 → ⊥) → within rights (default_rights_of k) ≡ false
past_default rights k large = elim (cases_Bool (within rights (default_rights_of k))) as (λ _. within rights (default_rights_of k) ≡ false) [
  | inl inside ↦ absurd (large (omega (arith, eqb-true (bit_and (default_rights_of k) rights) rights inside, and_le_l (default_rights_of k) rights, small k)))
  | inr outside ↦ outside
]
  where
    small : (j : Kind) → default_rights_of j < 2 ^ 32
    small kind.Process = omega arith
    small _ = omega arith

-- where all objects are there, the handles that may be given are those with default rights
pub rights_are : (objects : Map ObjectValue) (gs : List Grant) → IsTrue (all_known objects gs)
    → list_all has_default_rights (handles_given objects gs) ≡ list_all (λ g. is_some (allowed objects g)) gs
rights_are objects [] known = refl
rights_are objects (g ∷ gs) known =
    by_object (get objects g.koid) (and_parts (has_key objects g.koid) _ known).0 (rights_are objects gs (and_parts (has_key objects g.koid) _ known).1)
  where
    by_test : (b : Bool) (e : Entry) → b ≡ is_some (then_some b e)
    by_test true e = refl
    by_test false e = refl

    by_handle : (x : Option Entry) → IsTrue (is_some x)
        → list_all has_default_rights (handles_given objects gs) ≡ list_all (λ y. is_some (allowed objects y)) gs
        → list_all has_default_rights (option_to_list x ++ handles_given objects gs)
        ≡ (is_some (if_default x) && list_all (λ y. is_some (allowed objects y)) gs)
    by_handle None there rest = absurd cc
    by_handle (Some e) there rest = λ i. by_test (has_default_rights e) e i && rest i

    by_object : (o : Option ObjectValue) → IsTrue (is_some o)
        → list_all has_default_rights (handles_given objects gs) ≡ list_all (λ y. is_some (allowed objects y)) gs
        → list_all has_default_rights (option_to_list (handle_given g (body_in o)) ++ handles_given objects gs)
        ≡ (is_some (if_default (handle_given g (body_in o))) && list_all (λ y. is_some (allowed objects y)) gs)
    by_object None there rest = absurd cc
    by_object (Some o) there rest = by_handle (handle_given g (Some o.body)) refl rest

-- ---- faults

module _ (lib : Library) (w : World) (job program word : ℕ) (gs : List Grant) where
  abbrev fault : Option BootCause
  fault = boot_fault lib w (statement.Process job program word gs)

  -- no koid is left
  abbrev lacks : Bool
  lacks = nat_lt (MOST_KOIDS + 1) (w.next_koid + 1)

  abbrev full : Bool
  full = nat_le MOST_PROCESSES (length w.processes) || lacks

  -- the handles that the statement gives
  abbrev es : List Entry
  es = handles_given w.objects gs

  by_tests : (known may misfit denied filled : Bool) → (is_job w job && (is_some (slice_get lib program) && all_known w.objects gs)) ≡ known
      → may_start_with gs es ≡ may → are_misfits (slice_get lib program) es ≡ misfit → lacks_need w job (slice_get lib program) ≡ denied → full ≡ filled
      → fault ≡ first_some (then_some (not known) cause.Unknown ∷ then_some (not may) cause.BadHandleList ∷ then_some misfit cause.BadHandleList
      ∷ then_some denied cause.NeedDenied ∷ then_some filled cause.Limit ∷ [])
  unfolding boot_fault
  by_tests known may misfit denied filled a b c d e = rw (a, b, c, d, e) refl

  no_and : (a b : Bool) → (a ≡ false) ⊎ (b ≡ false) → (a && b) ≡ false
  no_and true b (inl h) = absurd (false≢true (sym h))
  no_and true b (inr h) = h
  no_and false b h = refl

  unknown : (is_job w job && (is_some (slice_get lib program) && all_known w.objects gs)) ≡ false → fault ≡ Some cause.Unknown
  unknown a = by_tests false _ _ _ _ a refl refl refl refl

  pub fault_no_program : length lib ≤ program → fault ≡ Some cause.Unknown
  fault_no_program past = unknown (no_and (is_job w job) _ (inr (rw (slice_get_past lib program past) refl)))

  pub fault_unknown : (is_job w job ≡ false) ⊎ (all_known w.objects gs ≡ false) → fault ≡ Some cause.Unknown
  fault_unknown (inl h) = unknown (no_and (is_job w job) _ (inl h))
  fault_unknown (inr h) = unknown (no_and (is_job w job) _ (inr (no_and (is_some (slice_get lib program)) _ (inr h))))

  module _ (g : Program) (there : slice_get lib program ≡ Some g) (in_job : is_job w job ≡ true) (known : all_known w.objects gs ≡ true) where
    all_there : (is_job w job && (is_some (slice_get lib program) && all_known w.objects gs)) ≡ true
    all_there = rw (in_job, there, known) refl

    abbrev may : Bool
    may = list_all (λ x. is_some (allowed w.objects x)) gs

    starts : may_start_with gs es ≡ (nat_le (length gs) MOST_GRANTS && may)
    starts = ap (λ b. nat_le (length gs) MOST_GRANTS && b) (rights_are w.objects gs known)

    pub fault_handles : (MOST_GRANTS < length gs) ⊎ (may ≡ false) → fault ≡ Some cause.BadHandleList
    fault_handles bad = by_tests true false _ _ _ all_there (starts ∙ no_and _ may (either bad)) refl refl refl
      where
        either : (MOST_GRANTS < length gs) ⊎ (may ≡ false) → (nat_le (length gs) MOST_GRANTS ≡ false) ⊎ (may ≡ false)
        either (inl many) = inl (grind (arith, nat_tests, many))
        either (inr h) = inr h

    module _ (few : length gs ≤ MOST_GRANTS) (all_may : may ≡ true) where
      fine : may_start_with gs es ≡ true
      fine = let little : nat_le (length gs) MOST_GRANTS ≡ true = grind (arith, nat_tests, few) in starts ∙ rw (little, all_may) refl

      pub fault_misfits : are_misfits (Some g) es ≡ true → fault ≡ Some cause.BadHandleList
      fault_misfits misfit = by_tests true true true _ _ all_there fine (rw there misfit) refl refl

      module _ (fit : are_misfits (Some g) es ≡ false) where
        pub fault_needs : lacks_need w job (Some g) ≡ true → fault ≡ Some cause.NeedDenied
        fault_needs denied = by_tests true true false true _ all_there fine (rw there fit) (rw there denied) refl

        module _ (needs : lacks_need w job (Some g) ≡ false) where
          pub fault_limit : (MOST_PROCESSES ≤ length w.processes) ⊎ (lacks ≡ true) → fault ≡ Some cause.Limit
          fault_limit past = by_tests true true false false true all_there fine (rw there fit) (rw there needs) (elim past as (λ _. full ≡ true) [
            | inl many ↦ or_left (nat_le MOST_PROCESSES (length w.processes)) lacks (grind (arith, nat_tests, many))
            | inr given ↦ or_right (nat_le MOST_PROCESSES (length w.processes)) lacks given
          ])

          pub no_fault : length w.processes < MOST_PROCESSES → lacks ≡ false → fault ≡ None
          no_fault place left =
              let room : nat_le MOST_PROCESSES (length w.processes) ≡ false = grind (arith, nat_tests, place) in
              by_tests true true false false false all_there fine (rw there fit) (rw there needs) (rw (room, left) refl)
