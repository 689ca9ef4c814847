-- What a call leaves of its caller, and of the policy that the caller is under.
use Rattle.zl_verify.proofs.Common.{Body, Bool, ChannelEnd, Condition, Entry, EventBody, IsSound, JobBody, KILLED, Library, List, Message, None, Object, Option}
use Rattle.zl_verify.proofs.Common.{Packet, PairEnd, PortBody, Process, ProcessBody, Ready, Request, Setting, Some, World, [], action_of, ap, arith}
use Rattle.zl_verify.proofs.Common.{body_after_read, body_in, body_killed, body_of, body_packed, body_with_message, body_with_policy, cases_Bool, chan_create}
use Rattle.zl_verify.proofs.Common.{chan_read_etc, chan_read_slots, chan_write, chan_write_slots, cond_both, condition_number, created_process, creates, effect}
use Rattle.zl_verify.proofs.Common.{ends_caller, entering_at, eq-eqb, eqb-true, event_create, eventpair_create, false, get, get-each, get-put, get-update}
use Rattle.zl_verify.proofs.Common.{has_child, has_child_job, has_child_process, has_ended, if◌then◌else◌, inl, inr, insert_all, is_created, is_dead}
use Rattle.zl_verify.proofs.Common.{is_process, is_some, is_within, job_create, job_set_policy, job_within, keeping, kept_by, listed, listed_none, lives}
use Rattle.zl_verify.proofs.Common.{nat_tests, new_handles, none-some, object_at, object_killed, on_object, on_process, option_map, parent_in, parent_of}
use Rattle.zl_verify.proofs.Common.{policy_changed, policy_in, port_cancel, port_create, port_poll, port_queue, port_wait, process_create, process_exit}
use Rattle.zl_verify.proofs.Common.{process_killed, process_start, receiver_of, refl, refusal, same_Some, setting_of, signal, signal_peer, started_with}
use Rattle.zl_verify.proofs.Common.{stored_by, storing, subst, sym, task_kill, test_fails, test_passes, then_some, true, unless_allowed, unwrap_or, with_effect}
use Rattle.zl_verify.proofs.Common.{with_killed, with_object, without_keyed, ℕ, ℤ, ◌+◌, ◌<◌, ◌==◌, ◌||◌, ◌∙◌, ◌∷◌, ◌≡◌, ◌≤◌, ◌⊎◌}
use Rattle.zl_rights.proofs.MapTests.{any_at}
use Rattle.zl_rights.specs.declared.status.Status.TheVariants as status
use Rattle.zl_rights.specs.declared.policy.Action.TheVariants as action
use Rattle.zl_verify.proofs.Giving.{getting_all}
use Rattle.zl_verify.proofs.OwnTable.{changed_elsewhere, inserted_here, inserted_elsewhere, keeping_in, kept_here, own_handles, storing_in, stored_here}
use Rattle.zl_code.proofs.Frame.{unkilled}

-- ---- the caller

-- The call of p in w isn't refused, and u is w without the operands that are consumed.
pub record IsDone (lib : Library) (w u : World) (p : ℕ) (r : Request) : Type 0 where
  pub caller : Process
  pub there : get w.processes p ≡ Some caller
  pub ready : caller.state ≡ Ready
  pub below : (k : ℕ) (y : Process) → get w.processes k ≡ Some y → k < w.next_koid
  pub passes : refusal lib w p r ≡ None
  pub objects : u.objects ≡ w.objects
  pub koids : u.next_koid ≡ w.next_koid

-- the process that is started was only created
pub starts_created : (lib : Library) (w : World) (p process h word : ℕ) → refusal lib w p (process_start process h word) ≡ None
    → is_process w is_created (object_at w p process) ≡ true
unfolding listed
starts_created lib w p process h word passes = test_passes _ status.BadState (listed_none lib w p (process_start process h word) passes).0

-- what is no created process is another
pub no_child : (w : World) (k q : ℕ) (y : Process) → is_process w is_created k ≡ true → get w.processes q ≡ Some y → is_created y.state ≡ false
    → (k == q) ≡ false
unfolding is_process
no_child w k q y created there old = by (cases_Bool (k == q))
  where
    by : ((k == q) ≡ true) ⊎ ((k == q) ≡ false) → (k == q) ≡ false
    by (inr other) = other
    by (inl same) =
        let here : get w.processes k ≡ Some y = subst (λ j. get w.processes j ≡ Some y) (sym (eqb-true k q same)) there in
        let bad : is_created y.state ≡ true = rw here at created in
        cc

pub kill_passes_by : (u : World) (k p : ℕ) → is_within u.objects k p ≡ false → get (with_killed u k).processes p ≡ get u.processes p
unfolding with_killed
kill_passes_by u k p apart = get-each u.processes (λ j q. process_killed (is_within u.objects k j) q) p ∙ rw apart (unkilled (get u.processes p))

pub other_koid : (n k : ℕ) → k < n → (n == k) ≡ false
other_koid n k less = grind (arith, nat_tests)

child_apart : (lib : Library) (w u : World) (p process h word : ℕ) → IsDone lib w u p (process_start process h word) → (object_at w p process == p) ≡ false
child_apart lib w u p process h word k =
    no_child w (object_at w p process) p k.caller (starts_created lib w p process h word k.passes) k.there (ap is_created k.ready)

not_within : (b : Bool) → then_some b KILLED ≡ None → b ≡ false
not_within true e = cc
not_within false e = refl

same_caller : (r : Request) (lib : Library) (w u : World) (p : ℕ) → IsDone lib w u p r → ends_caller w p r ≡ None → (vs : List ℕ)
    → get (effect lib w u p r vs).processes p ≡ get u.processes p
unfolding effect on_object with_object
same_caller (process_create h program) lib w u p k goes vs =
    get-put u.processes w.next_koid (created_process lib program) p ∙ rw (other_koid w.next_koid p (k.below p k.caller k.there)) refl
same_caller (process_start process h word) lib w u p k goes vs =
    changed_elsewhere u (object_at w p process) (started_with vs word) p (child_apart lib w u p process h word k)
same_caller (task_kill task) lib w u p k goes vs =
    kill_passes_by u (object_at w p task) p
    (ap (λ m. is_within m (object_at w p task) p) k.objects ∙ not_within (is_within w.objects (object_at w p task) p) goes)
same_caller _ lib w u p k goes vs = refl

entered_own : (es : List Entry) (vs : List ℕ) (at : ℕ × List ℕ) (kept : Option (ℕ × List ℕ)) (v : World) (p : ℕ) (q : Process) → get v.processes p ≡ Some q
    → get (keeping (storing (insert_all v p es vs) p at) p kept).processes p ≡ Some (keeping_in kept (storing_in at (getting_all es vs q)))
entered_own es vs at kept v p q there =
    kept_here kept _ p (storing_in at (getting_all es vs q))
    (stored_here at (insert_all v p es vs) p (getting_all es vs q) (inserted_here es vs v p q there))

-- handles enter the caller's table, bytes its memory and values its slots, and nothing else changes there
pub caller_after : (r : Request) (lib : Library) (w u : World) (p : ℕ) → IsDone lib w u p r → ends_caller w p r ≡ None → (vs : List ℕ) (q : Process)
    → get u.processes p ≡ Some q
    → get (with_effect lib w u p r vs).processes p
    ≡ Some (keeping_in (kept_by r vs) (storing_in (stored_by w p r) (getting_all (own_handles w p r) (entering_at r vs) q)))
caller_after (process_start process h word) lib w u p k goes vs q there =
    inserted_elsewhere (new_handles w p (process_start process h word)) vs _ (object_at w p process) p (child_apart lib w u p process h word k)
    ∙ (same_caller (process_start process h word) lib w u p k goes vs ∙ there)
caller_after r lib w u p k goes vs q there =
    entered_own (new_handles w p r) (entering_at r vs) (stored_by w p r) (kept_by r vs) (effect lib w u p r vs) p q
    (same_caller r lib w u p k goes vs ∙ there)

-- a call that ends its caller leaves it ready, or over
pub caller_ending : (r : Request) (lib : Library) (w u : World) (p : ℕ) (code : ℤ) → ends_caller w p r ≡ Some code → (vs : List ℕ) (q : Process)
    → get u.processes p ≡ Some q → q.state ≡ Ready
    → (y : Process) × (get (with_effect lib w u p r vs).processes p ≡ Some y) × ((y.state ≡ Ready) ⊎ (has_ended y.state ≡ true))
unfolding effect new_handles insert_all with_killed
caller_ending (process_exit number) lib w u p code is vs q there ready = (q, there, inl ready)
caller_ending (task_kill task) lib w u p code is vs q there ready =
    let k : ℕ = object_at w p task in (
      process_killed (is_within u.objects k p) q,
      get-each u.processes (λ j y. process_killed (is_within u.objects k j) y) p ∙ ap (option_map (process_killed (is_within u.objects k p))) there,
      by (is_within u.objects k p),
    )
  where
    by : (b : Bool) → ((process_killed b q).state ≡ Ready) ⊎ (has_ended (process_killed b q).state ≡ true)
    by false = inl ready
    by true = inr (rw ready refl)
caller_ending _ lib w u p code is vs q there ready = cc

-- ---- policies

-- For the objects of the world v: the job above each is as it was, and so are the actions that a job sets in which a process of v lives.
pub record AreAlike (v w w2 : World) : Type 0 where
  pub parents : (k : ℕ) → k < v.next_koid → parent_in (body_of w2 k) ≡ parent_in (body_of w k)
  pub policies : (k : ℕ) → k < v.next_koid → has_child_process v k ≡ true → policy_in (body_of w2 k) ≡ policy_in (body_of w k)

pub alike_then : (v a b c : World) → AreAlike v a b → AreAlike v b c → AreAlike v a c
alike_then v a b c h g =
    record { parents = λ k less. g.parents k less ∙ h.parents k less; policies = λ k less child. g.policies k less child ∙ h.policies k less child }

pub same_objects : (v w w2 : World) → w2.objects ≡ w.objects → AreAlike v w w2
same_objects v w w2 same =
    record { parents = λ k less. ap (λ m. parent_in (body_in (get m k))) same; policies = λ k less child. ap (λ m. policy_in (body_in (get m k))) same }

-- the object is in the same job as before, and sets the same actions
abbrev IsAlike : Body → Body → Type 0
IsAlike new old = (parent_in (Some new) ≡ parent_in (Some old)) × (policy_in (Some new) ≡ policy_in (Some old))

-- so it is with what was found
abbrev AreSo : Option Object → Option Object → Type 0
AreSo new old = (parent_in (body_in new) ≡ parent_in (body_in old)) × (policy_in (body_in new) ≡ policy_in (body_in old))

so_alike : (v w w2 : World) → ((k : ℕ) → k < v.next_koid → AreSo (get w2.objects k) (get w.objects k)) → AreAlike v w w2
so_alike v w w2 same = record { parents = λ k less. (same k less).0; policies = λ k less child. (same k less).1 }

each_so : (f : Object → Object) → ((o : Object) → IsAlike (f o).body o.body) → (o : Option Object) → AreSo (option_map f o) o
each_so f same None = (refl, refl)
each_so f same (Some o) = same o

-- one object changes, and not in this
changed_alike : (v u : World) (k : ℕ) (f : Object → Object) → ((o : Object) → IsAlike (f o).body o.body) → AreAlike v u (on_object u k f)
unfolding on_object
changed_alike v u k f same = so_alike v u _ (λ j less. rw (get-update u.objects k f j)
    (cond_both (k == j) _ _ (λ o. AreSo o (get u.objects j)) (λ _. each_so f same (get u.objects j)) (λ _. (refl, refl))))

-- an object is made
pub made_alike : (v u : World) (b : Body) → v.next_koid ≤ u.next_koid → AreAlike v u (with_object u b)
unfolding with_object
made_alike v u b le =
    so_alike v u _ (λ k less. rw (get-put u.objects u.next_koid (record { body = b; raised = 0 }) k, other_koid u.next_koid k (omega arith)) (refl, refl))

-- jobs are killed
killed_alike : (v u : World) (t : ℕ) → AreAlike v u (with_killed u t)
unfolding with_killed
killed_alike v u t =
    so_alike v u _ (λ k less. rw (get-each u.objects (λ j o. object_killed (is_within u.objects t j) o) k)
    (each_so (object_killed (is_within u.objects t k)) (by (is_within u.objects t k)) (get u.objects k)))
  where
    of_body : (b : Body) → IsAlike (body_killed b) b
    of_body (JobBody parent depth policy killed) = (refl, refl)
    of_body _ = (refl, refl)

    by : (b : Bool) (o : Object) → IsAlike (object_killed b o).body o.body
    by true o = of_body o.body
    by false o = (refl, refl)

pub neither_one : (a b : Bool) → a || b ≡ false → b ≡ false
neither_one true b e = cc
neither_one false b e = e

-- a policy is set where no process lives
pub set_alike : (v u : World) (job : ℕ) (s : Option Setting) → has_child_process v job ≡ false → AreAlike v u (on_object u job (policy_changed s))
unfolding on_object
set_alike v u job s none = record {
  parents = λ k less. ap (λ o. parent_in (body_in o)) (get-update u.objects job (policy_changed s) k) ∙ above (job == k) (get u.objects k);
  policies = λ k less child. ap (λ o. policy_in (body_in o)) (get-update u.objects job (policy_changed s) k) ∙ actions k child (cases_Bool (job == k));
}
  where
    of_body : (b : Body) → parent_in (Some (body_with_policy s b)) ≡ parent_in (Some b)
    of_body (JobBody parent depth policy killed) = refl
    of_body _ = refl

    above : (b : Bool) (o : Option Object) → parent_in (body_in (if b then option_map (policy_changed s) o else o)) ≡ parent_in (body_in o)
    above true None = refl
    above true (Some o) = of_body o.body
    above false o = refl

    actions : (k : ℕ) → has_child_process v k ≡ true → ((job == k) ≡ true) ⊎ ((job == k) ≡ false)
        → policy_in (body_in (if job == k then option_map (policy_changed s) (get u.objects k) else get u.objects k)) ≡ policy_in (body_in (get u.objects k))
    actions k child (inl same) =
        let here : has_child_process v job ≡ true = subst (λ n. has_child_process v n ≡ true) (sym (eqb-true job k same)) child in let free = none in cc
    actions k child (inr other) = rw other refl

-- where the call isn't refused, no process lives in the job
none_in_job : (lib : Library) (w : World) (p j mode condition action : ℕ) → refusal lib w p (job_set_policy j mode condition action) ≡ None
    → has_child_process w (object_at w p j) ≡ false
unfolding listed
none_in_job lib w p j mode condition action passes =
    let job : ℕ = object_at w p j in
    neither_one (has_child_job w job) (has_child_process w job)
    (neither_one (is_dead (body_of w job)) (has_child w job)
    (test_fails _ status.BadState (listed_none lib w p (job_set_policy j mode condition action) passes).1.0))

sends_alike : (m : Message) (b : Body) → IsAlike (body_with_message m b) b
sends_alike m (ChannelEnd peer queue) = (refl, refl)
sends_alike m _ = (refl, refl)

reads_alike : (b : Body) → IsAlike (body_after_read b) b
reads_alike (ChannelEnd peer queue) = (refl, refl)
reads_alike _ = (refl, refl)

packs_alike : (f : List Packet → List Packet) (b : Body) → IsAlike (body_packed f b) b
packs_alike f (PortBody packets) = (refl, refl)
packs_alike f _ = (refl, refl)

more_koids : (v u : World) (b : Body) → v.next_koid ≤ u.next_koid → v.next_koid ≤ (with_object u b).next_koid
unfolding with_object
more_koids v u b le = omega arith

-- a pair of objects is made
pub pair_alike : (v u : World) (a b : Body) → v.next_koid ≤ u.next_koid → AreAlike v u (with_object (with_object u a) b)
pair_alike v u a b le = alike_then v u (with_object u a) _ (made_alike v u a le) (made_alike v (with_object u a) b (more_koids v u a le))

effect_alike : (r : Request) (lib : Library) (w u : World) (p : ℕ) → refusal lib w p r ≡ None → w.next_koid ≤ u.next_koid → (vs : List ℕ)
    → AreAlike w u (effect lib w u p r vs)
unfolding effect on_process
effect_alike chan_create lib w u p passes le vs = pair_alike w u (ChannelEnd (w.next_koid + 1) []) (ChannelEnd w.next_koid []) le
effect_alike (chan_write c bytes hs) lib w u p passes le vs = changed_alike w u _ _ (λ o. sends_alike _ o.body)
effect_alike (chan_read_etc c address room places) lib w u p passes le vs = changed_alike w u _ _ (λ o. reads_alike o.body)
effect_alike (chan_write_slots c bytes hs) lib w u p passes le vs = changed_alike w u _ _ (λ o. sends_alike _ o.body)
effect_alike (chan_read_slots c address room array places) lib w u p passes le vs = changed_alike w u _ _ (λ o. reads_alike o.body)
effect_alike event_create lib w u p passes le vs = made_alike w u EventBody le
effect_alike eventpair_create lib w u p passes le vs = pair_alike w u (PairEnd (w.next_koid + 1)) (PairEnd w.next_koid) le
effect_alike (signal h clear set) lib w u p passes le vs = changed_alike w u _ _ (λ o. (refl, refl))
effect_alike (signal_peer h clear set) lib w u p passes le vs = changed_alike w u _ _ (λ o. (refl, refl))
effect_alike port_create lib w u p passes le vs = made_alike w u (PortBody []) le
effect_alike (port_queue port key value) lib w u p passes le vs = changed_alike w u _ _ (λ o. packs_alike _ o.body)
effect_alike (port_wait port) lib w u p passes le vs = changed_alike w u _ _ (λ o. packs_alike _ o.body)
effect_alike (port_poll port) lib w u p passes le vs = changed_alike w u _ _ (λ o. packs_alike _ o.body)
effect_alike (port_cancel port source key) lib w u p passes le vs =
    let rest : World = without_keyed u p source (object_at w p port) key in
    alike_then w u rest _ (same_objects w u rest refl) (changed_alike w rest _ _ (λ o. packs_alike _ o.body))
effect_alike (process_create job program) lib w u p passes le vs =
    let more : World = with_object u (ProcessBody (object_at w p job)) in
    alike_then w u more _ (made_alike w u (ProcessBody (object_at w p job)) le) (same_objects w more _ refl)
effect_alike (task_kill task) lib w u p passes le vs = killed_alike w u (object_at w p task)
effect_alike (job_create j) lib w u p passes le vs = made_alike w u (job_within (object_at w p j) (body_of w (object_at w p j))) le
effect_alike (job_set_policy j mode condition action) lib w u p passes le vs =
    set_alike w u (object_at w p j) (setting_of mode condition action) (none_in_job lib w p j mode condition action passes)
effect_alike _ lib w u p passes le vs = same_objects w u _ refl

pub inserted_objects : (es : List Entry) (vs : List ℕ) (w : World) (p : ℕ) → (insert_all w p es vs).objects ≡ w.objects
unfolding insert_all on_process
inserted_objects [] vs w p = refl
inserted_objects (e ∷ es) [] w p = refl
inserted_objects (e ∷ es) (v ∷ vs) w p = inserted_objects es vs _ p

pub stored_objects : (at : ℕ × List ℕ) (w : World) (p : ℕ) → (storing w p at).objects ≡ w.objects
unfolding on_process
stored_objects (address, []) w p = refl
stored_objects (address, b ∷ bytes) w p = refl

pub kept_objects : (kept : Option (ℕ × List ℕ)) (w : World) (p : ℕ) → (keeping w p kept).objects ≡ w.objects
unfolding on_process
kept_objects None w p = refl
kept_objects (Some x) w p = refl

pub alike_after : (r : Request) (lib : Library) (w u : World) (p : ℕ) → refusal lib w p r ≡ None → w.next_koid ≤ u.next_koid → (vs : List ℕ)
    → AreAlike w u (with_effect lib w u p r vs)
alike_after r lib w u p passes le vs =
    alike_then w u (effect lib w u p r vs) _ (effect_alike r lib w u p passes le vs) (same_objects w (effect lib w u p r vs) _
    (kept_objects (kept_by r vs) _ p ∙ (stored_objects (stored_by w p r) _ p
    ∙ inserted_objects (new_handles w p r) (entering_at r vs) (effect lib w u p r vs) (receiver_of w p r))))

-- ---- the policy that the caller is under

some_body : (o : Option Object) (b : Body) → body_in o ≡ Some b → (x : Object) × (o ≡ Some x) × (x.body ≡ b)
some_body None b e = absurd (none-some b e)
some_body (Some x) b e = (x, refl, same_Some x.body b e)

-- a process that lives in the job is one of its children
child_in : (w : World) (p : ℕ) (q : Process) (job : ℕ) → get w.processes p ≡ Some q → lives q.state ≡ true → body_in (get w.objects p) ≡ Some (ProcessBody job)
    → has_child_process w job ≡ true
unfolding has_child_process is_process
child_in w p q job there living body =
    let (x, at, is) = some_body (get w.objects p) (ProcessBody job) body in
    any_at _ w.objects p x at (rw (is, there, living, eq-eqb job job refl) refl)

pub same_policy : (w w2 : World) (p : ℕ) (q : Process) → IsSound w → get w.processes p ≡ Some q → lives q.state ≡ true → AreAlike w w w2 → (c : Condition)
    → creates w2 p c ≡ creates w p c
unfolding creates
same_policy w w2 p q sound there living alike c =
    let own = sound.living p q there living in
    let above : parent_of w p ≡ own.job = ap parent_in own.there in
    let (job, at, is) = some_body (get w.objects own.job) _ own.lives.there in
    let up = alike.parents p (sound.processes p (ap is_some there)) in
    let under = alike.policies own.job (sound.objects.below own.job (ap is_some at)) (child_in w p q own.job there living own.there) in
    ap (λ j. unless_allowed (action_of w2 j c)) (up ∙ above)
    ∙ (ap (λ m. unless_allowed (unwrap_or (get m (condition_number c)) action.Allow)) under ∙ ap (λ j. unless_allowed (action_of w j c)) (sym above))
