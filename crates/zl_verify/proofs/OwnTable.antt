-- The caller's process once handles left its table, and once they entered it.
use Rattle.zl_verify.proofs.Common.{Bool, Entry, List, Map, None, Operand, Option, Process, Request, Some, Table, World, [], ap, arith, cases_Bool, choosing}
use Rattle.zl_verify.proofs.Common.{cond, cond_both, eq-eqb, eqb-true, false, filter, get, get-update, get_without, gone_without, has_key, if◌then◌else◌, inl}
use Rattle.zl_verify.proofs.Common.{inr, insert_all, is_some, keeping, map, may_get_all, nat_tests, new_handles, on_process, overwritten, process_start}
use Rattle.zl_verify.proofs.Common.{process_with, process_without, refl, remove_all, slice_index, slots_filled, storing, sym, true, without, ℕ, ◌++◌, ◌==◌, ◌∙◌}
use Rattle.zl_verify.proofs.Common.{◌∷◌, ◌≡◌, ◌⊎◌}
use Rattle.zl_verify.proofs.Consuming.{removed}
use Rattle.zl_verify.proofs.Emptying.{without_all}
use Rattle.zl_verify.proofs.Examining.{unseen, unseen_more, seen_all, valued}
use Rattle.zl_verify.proofs.Giving.{none_at, getting_all}
use Rattle.zl_code.proofs.Frame.{enter_other}

pub changed_here : (w : World) (p : ℕ) (f : Process → Process) (q : Process) → get w.processes p ≡ Some q → get (on_process w p f).processes p ≡ Some (f q)
unfolding on_process
changed_here w p f q there = get-update w.processes p f p ∙ rw (eq-eqb p p refl, there) refl

pub changed_elsewhere : (w : World) (k : ℕ) (f : Process → Process) (p : ℕ) → (k == p) ≡ false → get (on_process w k f).processes p ≡ get w.processes p
unfolding on_process
changed_elsewhere w k f p apart = get-update w.processes k f p ∙ rw apart refl

-- ---- handles leave

-- the process without the handles
abbrev pub losing_all : List ℕ → Process → Process
losing_all [] q = q
losing_all (h ∷ hs) q = losing_all hs (process_without h q)

pub removed_here : (hs : List ℕ) (w : World) (p : ℕ) (q : Process) → get w.processes p ≡ Some q → get (remove_all w p hs).processes p ≡ Some (losing_all hs q)
unfolding remove_all
removed_here [] w p q there = there
removed_here (h ∷ hs) w p q there = removed_here hs (on_process w p (process_without h)) p (process_without h q) (changed_here w p (process_without h) q there)

pub other_way : (h k : ℕ) → (h == k) ≡ false → (k == h) ≡ false
other_way h k e = grind (arith, nat_tests)

without_it : (m : Map Entry) (h k : ℕ) → get (without m h) k ≡ (if h == k then None else get m k)
without_it m h k = by (cases_Bool (h == k))
  where
    by : ((h == k) ≡ true) ⊎ ((h == k) ≡ false) → get (without m h) k ≡ (if h == k then None else get m k)
    by (inl e) = rw e (ap (get (without m h)) (sym (eqb-true h k e)) ∙ none_at (get (without m h) h) (gone_without m h))
    by (inr e) = rw e (get_without m h k (other_way h k e))

pub losing : (h : ℕ) (q : Process) → get (process_without h q).handles ≡ removed h (get q.handles)
losing h q = λ i k. at k i
  where
    at : (k : ℕ) → get (process_without h q).handles k ≡ removed h (get q.handles) k
    at k = by (get q.handles h) refl
      where
        gone : get q.handles h ≡ None → (b : Bool) → (h == k) ≡ b → get q.handles k ≡ cond b None (get q.handles k)
        gone is true t = ap (get q.handles) (sym (eqb-true h k t)) ∙ is
        gone is false t = refl

        by : (o : Option Entry) → get q.handles h ≡ o
            → get (if is_some o then record q { handles = without q.handles h; last = Some h } else q).handles k ≡ removed h (get q.handles) k
        by None is = gone is (h == k) refl
        by (Some y) is = without_it q.handles h k

-- some handles leave, and then others
pub losing_more : (vs others : List ℕ) (q : Process) → get (losing_all (vs ++ others) q).handles ≡ without_all (get (losing_all vs q).handles) others
losing_more [] [] q = refl
losing_more [] (v ∷ others) q = losing_more [] others (process_without v q) ∙ ap (λ f. without_all f others) (losing v q)
losing_more (v ∷ vs) others q = losing_more vs others (process_without v q)

-- what leaves is what was seen of the consumed operands
pub losing_seen : (f : Table) (xs : List ℕ) (os : List Operand) (seen : List ℕ) (q : Process) → get q.handles ≡ unseen f seen
    → get (losing_all (map (λ o. o.value) (filter (λ o. o.is_taken) (map (valued xs) os))) q).handles ≡ unseen f (seen_all xs seen os)
losing_seen f xs [] seen q e = e
losing_seen f xs (o ∷ os) seen q e = by o.is_taken
    (losing_seen f xs os (slice_index xs o.value ∷ seen) (process_without (slice_index xs o.value) q)
    (losing (slice_index xs o.value) q ∙ (ap (removed (slice_index xs o.value)) e ∙ unseen_more f seen (slice_index xs o.value))))
    (losing_seen f xs os seen q e)
  where
    rest : List Operand
    rest = filter (λ (o : Operand). o.is_taken) (map (valued xs) os)

    by : (t : Bool) → get (losing_all (map (λ o. o.value) rest) (process_without (slice_index xs o.value) q)).handles
        ≡ unseen f (seen_all xs (slice_index xs o.value ∷ seen) os) → get (losing_all (map (λ o. o.value) rest) q).handles ≡ unseen f (seen_all xs seen os)
        → get (losing_all (map (λ o. o.value) (cond t (valued xs o ∷ rest) rest)) q).handles
        ≡ unseen f (seen_all xs (if t then slice_index xs o.value ∷ seen else seen) os)
    by true a b = a
    by false a b = b

-- ---- handles enter, bytes are stored, and values are kept

pub inserted_here : (es : List Entry) (vs : List ℕ) (w : World) (p : ℕ) (q : Process) → get w.processes p ≡ Some q
    → get (insert_all w p es vs).processes p ≡ Some (getting_all es vs q)
unfolding insert_all
inserted_here [] vs w p q there = there
inserted_here (e ∷ es) [] w p q there = there
inserted_here (e ∷ es) (v ∷ vs) w p q there =
    inserted_here es vs (on_process w p (process_with v e)) p (process_with v e q) (changed_here w p (process_with v e) q there)

pub inserted_elsewhere : (es : List Entry) (vs : List ℕ) (w : World) (k p : ℕ) → (k == p) ≡ false → get (insert_all w k es vs).processes p ≡ get w.processes p
inserted_elsewhere es vs w k p apart = enter_other k p apart w es vs

-- the new handles that enter the caller's own table: not that of the process that it starts
abbrev pub own_handles : World → ℕ → Request → List Entry
own_handles w p (process_start process h word) = []
own_handles w p request = new_handles w p request

-- these values may be given to them; q is the caller without the operands that are consumed
abbrev pub MayGetOwn : World → ℕ → Process → Request → List ℕ → Type 0
MayGetOwn w p q (process_start process h word) vs = Unit {0}
MayGetOwn w p q request vs = may_get_all q (choosing w p request) vs ≡ true

-- the process with the bytes in its memory
abbrev pub storing_in : ℕ × List ℕ → Process → Process
storing_in (address, []) q = q
storing_in (address, b ∷ bytes) q = record q { cpu = record q.cpu { memory = overwritten q.cpu.memory address (b ∷ bytes) } }

pub stored_here : (at : ℕ × List ℕ) (w : World) (p : ℕ) (q : Process) → get w.processes p ≡ Some q → get (storing w p at).processes p ≡ Some (storing_in at q)
stored_here (address, []) w p q there = there
stored_here (address, b ∷ bytes) w p q there = changed_here w p (storing_in (address, b ∷ bytes)) q there

-- the process with the values in a slot array, if one is named
abbrev pub keeping_in : Option (ℕ × List ℕ) → Process → Process
keeping_in None q = q
keeping_in (Some x) q = record q { cpu = record q.cpu { slots = slots_filled q.cpu.slots (Some x) } }

pub kept_here : (kept : Option (ℕ × List ℕ)) (w : World) (p : ℕ) (q : Process) → get w.processes p ≡ Some q
    → get (keeping w p kept).processes p ≡ Some (keeping_in kept q)
kept_here None w p q there = there
kept_here (Some x) w p q there = changed_here w p (keeping_in (Some x)) q there

-- ---- what stays

-- all but the table is as it was
pub record IsButTable (new old : Process) : Type 0 where
  pub cpu : new.cpu ≡ old.cpu
  pub state : new.state ≡ old.state
  pub program : new.program ≡ old.program

then_same : {a b c : Process} → IsButTable a b → IsButTable b c → IsButTable a c
then_same x y = record { cpu = x.cpu ∙ y.cpu; state = x.state ∙ y.state; program = x.program ∙ y.program }

pub losing_same : (hs : List ℕ) (q : Process) → IsButTable (losing_all hs q) q
losing_same [] q = record { cpu = refl; state = refl; program = refl }
losing_same (h ∷ hs) q = then_same (losing_same hs (process_without h q)) (cond_both (has_key q.handles h) _ q (λ r. IsButTable r q)
    (λ _. record { cpu = refl; state = refl; program = refl }) (λ _. record { cpu = refl; state = refl; program = refl }))

pub getting_same : (es : List Entry) (vs : List ℕ) (q : Process) → IsButTable (getting_all es vs q) q
getting_same [] vs q = record { cpu = refl; state = refl; program = refl }
getting_same (e ∷ es) [] q = record { cpu = refl; state = refl; program = refl }
getting_same (e ∷ es) (v ∷ vs) q = then_same (getting_same es vs (process_with v e q)) (record { cpu = refl; state = refl; program = refl })

pub lost_and_got : (es : List Entry) (vs hs : List ℕ) (q : Process) → IsButTable (getting_all es vs (losing_all hs q)) q
lost_and_got es vs hs q = then_same (getting_same es vs (losing_all hs q)) (losing_same hs q)
