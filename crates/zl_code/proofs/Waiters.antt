-- No call but wait_async, port_cancel and task_kill looks at registered waits or at blocked processes: it does the same whatever waits beside it.
use Rattle.zl_code.proofs.Common.{Action, Bool, CallBy, Calls, Choice, Condition, Entry, Err, IsTrue, Kind, Library, List, None, Ok, Operand, Option}
use Rattle.zl_code.proofs.Common.{Outcome, Refused, Request, Site, Some, Status, Values, Wait, Wants, World, [], action_of, active, after_ok}
use Rattle.zl_code.proofs.Common.{after_refusal, answer_if, ap, awaited_by, bits, by_look_up, by_policy, chan_read_etc, choosing, close, condition_of}
use Rattle.zl_code.proofs.Common.{contains, copy_of, creates, effect, ended, ends_caller, ends_if_kill, entering_at, entry_at, examined, false, faults}
use Rattle.zl_code.proofs.Common.{filter, first_some, get, gets_all, gives_ok, gives_refused, handle_operands, handles_to, has_child_job}
use Rattle.zl_code.proofs.Common.{has_child_process, has_koids, has_room, if◌then◌else◌, insert_all, is_empty, is_process, keeping, kept_by, listed}
use Rattle.zl_code.proofs.Common.{may_choose, may_want, new_handles, not, ok_outcome, on_object, on_process, operand, operand_after, operand_of}
use Rattle.zl_code.proofs.Common.{outcome_of, parent_of, port_cancel, process_with, process_without, receiver_of, refl, refusal, remove_all, replace}
use Rattle.zl_code.proofs.Common.{replied, seen_after, stored_by, storing, sym, taken, taken_handles, takes, task_kill, true, true≢false, unless_allowed}
use Rattle.zl_code.proofs.Common.{wait_async, wait_one, wait_poll, with_effect, with_object, within, ℕ, ℤ, ◌&&◌, ◌==◌, ◌∙◌, ◌∷◌, ◌≡◌}
use Rattle.zl_rights.specs.declared.policy.Action.TheVariants as action
use Rattle.zl_rights.specs.declared.policy.Condition.TheVariants as condition
use Rattle.zl_rights.specs.declared.status.Status.TheVariants as status
use Rattle.zl_code.specs.declared.history.Outcome.TheVariants as outcome

-- the world in which these waits are registered, so many ever were, and these processes are blocked
abbrev pub with_waiters : World → (waits : List Wait) (made : ℕ) (blocked : List ℕ) → World
with_waiters w waits made blocked = record w { waits = waits; waits_made = made; blocked = blocked }

-- the calls that look at the waits, or at how many were made, or end others that may be blocked
abbrev pub looks_at_waits : Request → Bool
looks_at_waits (wait_async h port key mask) = true
looks_at_waits (port_cancel port source key) = true
looks_at_waits (task_kill task) = true
looks_at_waits _ = false

-- ---- its answers

module _ (lib : Library) (w : World) (p : ℕ) (ws : List Wait) (n : ℕ) (b : List ℕ) where
  abbrev among : World
  among = with_waiters w ws n b

  examined_same : (seen : List ℕ) (os : List Operand) → examined among p seen os ≡ examined w p seen os
  unfolding examined operand
  examined_same seen [] = refl
  examined_same seen (o ∷ os) = ap (λ x. first_some (operand_after w p seen o ∷ x ∷ [])) (examined_same (seen_after seen o) os)

  policy_same : (c : Option Condition) → by_policy among p c ≡ by_policy w p c
  unfolding creates
  policy_same None = refl
  policy_same (Some c) = refl

  listed_same : (r : Request) → looks_at_waits r ≡ false → listed lib among p r ≡ listed lib w p r
  unfolding listed has_room has_koids handles_to active is_process has_child_job has_child_process
  listed_same (wait_async h port key mask) looks = absurd (true≢false looks)
  listed_same (port_cancel port source key) looks = absurd (true≢false looks)
  listed_same _ looks = refl

  -- it is refused alike
  pub refusal_same : (r : Request) → looks_at_waits r ≡ false → refusal lib among p r ≡ refusal lib w p r
  unfolding refusal
  refusal_same r looks = λ i. first_some (examined_same [] (handle_operands r) i ∷ policy_same (condition_of r) i ∷ listed_same r looks i)

  -- it waits for the same
  pub awaited_same : (r : Request) → awaited_by among p r ≡ awaited_by w p r
  unfolding active is_process has_child_job has_child_process
  awaited_same (wait_one h mask) = refl
  awaited_same _ = refl

  -- it gives the same handles and values
  handles_same : (r : Request) → new_handles among p r ≡ new_handles w p r
  unfolding new_handles
  handles_same (close h) = refl
  handles_same _ = refl

  receiver_same : (r : Request) → receiver_of among p r ≡ receiver_of w p r
  receiver_same (close h) = refl
  receiver_same _ = refl

  ends_same : (r : Request) → ends_caller among p r ≡ ends_caller w p r
  ends_same (close h) = refl
  ends_same _ = refl

  choosing_same : (r : Request) → choosing among p r ≡ choosing w p r
  unfolding new_handles
  choosing_same (close h) = refl
  choosing_same _ = refl

  stored_same : (r : Request) → stored_by among p r ≡ stored_by w p r
  stored_same (close h) = refl
  stored_same _ = refl

  given_same : (r : Request) (vs : List ℕ) → gives_ok among p r vs ≡ gives_ok w p r vs
  unfolding gives_ok active is_process has_child_job has_child_process new_handles
  given_same (close h) vs = refl
  given_same _ vs = refl

  refused_same : (r : Request) (s : Status) → gives_refused among p r s ≡ gives_refused w p r s
  unfolding gives_refused active is_process has_child_job has_child_process
  refused_same (chan_read_etc c address room places) status.BufferTooSmall = refl
  refused_same (wait_poll h mask) status.TimedOut = refl
  refused_same _ s = refl

-- ---- its changes

-- the waits that are left where the call is answered OK
abbrev waits_left : Request → (pid : ℕ) → List Wait → List Wait
waits_left (replace h rights) p ws = filter (λ x. not ((x.pid == p) && (x.value == h))) ws
waits_left _ p ws = ws

module _ (p : ℕ) (ws : List Wait) (n : ℕ) (b : List ℕ) where
  -- handles enter a table alike
  pub insert_among : (w : World) (es : List Entry) (vs : List ℕ) → insert_all (with_waiters w ws n b) p es vs ≡ with_waiters (insert_all w p es vs) ws n b
  unfolding insert_all on_process
  insert_among w [] vs = refl
  insert_among w (e ∷ es) [] = refl
  insert_among w (e ∷ es) (v ∷ vs) = insert_among (on_process w p (process_with v e)) es vs

  -- handles leave it alike
  pub remove_among : (w : World) (hs : List ℕ) → remove_all (with_waiters w ws n b) p hs ≡ with_waiters (remove_all w p hs) ws n b
  unfolding remove_all on_process
  remove_among w [] = refl
  remove_among w (h ∷ hs) = remove_among (on_process w p (process_without h)) hs

  -- bytes are stored alike
  pub storing_among : (w : World) (at : ℕ × List ℕ) → storing (with_waiters w ws n b) p at ≡ with_waiters (storing w p at) ws n b
  unfolding on_process
  storing_among w (address, []) = refl
  storing_among w (address, x ∷ bytes) = refl

  -- values are kept alike
  pub keeping_among : (w : World) (kept : Option (ℕ × List ℕ)) → keeping (with_waiters w ws n b) p kept ≡ with_waiters (keeping w p kept) ws n b
  unfolding on_process
  keeping_among w None = refl
  keeping_among w (Some x) = refl

  -- a caller is answered alike
  pub replied_among : (w : World) (s : Site) (answer : Status) (values : List ℕ)
      → replied (with_waiters w ws n b) p s answer values ≡ with_waiters (replied w p s answer values) ws n b
  unfolding replied on_process
  replied_among w s answer values = refl

  -- a process ends alike, and is no longer blocked
  pub ended_among : (w : World) (code : ℤ) → ended (with_waiters w ws n b) p code ≡ with_waiters (ended w p code) ws n (filter (λ q. not (q == p)) b)
  unfolding ended on_process
  ended_among w code = refl

module _ (lib : Library) (w : World) (p : ℕ) (ws : List Wait) (n : ℕ) (b : List ℕ) where
  -- the effect is the same; of the waits, just replace ends some
  pub effect_among : (u : World) (r : Request) → looks_at_waits r ≡ false → (vs : List ℕ)
      → effect lib (with_waiters w ws n b) (with_waiters u ws n b) p r vs ≡ with_waiters (effect lib w u p r vs) (waits_left r p ws) n b
  unfolding effect on_object on_process with_object
  effect_among u (wait_async h port key mask) looks vs = absurd (true≢false looks)
  effect_among u (port_cancel port source key) looks vs = absurd (true≢false looks)
  effect_among u (task_kill task) looks vs = absurd (true≢false looks)
  effect_among u (replace h rights) looks vs = refl
  effect_among u _ looks vs = refl

  -- so is all that it does but for the answer
  pub with_effect_among : (u : World) (r : Request) (vs : List ℕ) → looks_at_waits r ≡ false
      → with_effect lib (with_waiters w ws n b) (with_waiters u ws n b) p r vs ≡ with_waiters (with_effect lib w u p r vs) (waits_left r p ws) n b
  with_effect_among u r vs looks =
      (λ i. keeping (storing (insert_all (effect_among u r looks vs i) (receiver_same lib w p ws n b r i) (handles_same lib w p ws n b r i) (entering_at r vs))
      p (stored_same lib w p ws n b r i)) p (kept_by r vs)) ∙ (ap (λ v. keeping (storing v p (stored_by w p r)) p (kept_by r vs))
      (insert_among (receiver_of w p r) (waits_left r p ws) n b (effect lib w u p r vs) (new_handles w p r) (entering_at r vs))
      ∙ (ap (λ v. keeping v p (kept_by r vs)) (storing_among p (waits_left r p ws) n b _ (stored_by w p r))
      ∙ keeping_among p (waits_left r p ws) n b _ (kept_by r vs)))

-- ---- the call

-- what is left of the waits, where the call ends so
abbrev pub waits_after : Request → Outcome → (pid : ℕ) → List Wait → List Wait
waits_after (replace h rights) (outcome.Answered status.Ok) p ws = waits_left (replace h rights) p ws
waits_after _ o p ws = ws

-- what is left of the blocked processes, where a call of p ends so
abbrev pub blocked_after : Outcome → (pid : ℕ) → List ℕ → List ℕ
blocked_after (outcome.Ended code) p b = filter (λ q. not (q == p)) b
blocked_after _ p b = b

-- the call blocks
abbrev pub is_blocking : Outcome → Bool
is_blocking outcome.Blocked = true
is_blocking _ = false

-- it isn't answered OK
abbrev pub refuses : Option Outcome → Bool
refuses (Some (outcome.Answered status.Ok)) = false
refuses _ = true

pub first_refuses : (a : Option Outcome) (rest : List (Option Outcome)) → refuses a ≡ true → refuses (first_some rest) ≡ true
    → refuses (first_some (a ∷ rest)) ≡ true
first_refuses None rest one more = more
first_refuses (Some o) rest one more = one

fault_refuses : (a : Action) (s : Status) → refuses (Some (outcome.Answered s)) ≡ true → refuses (Some (ends_if_kill a (outcome.Answered s))) ≡ true
fault_refuses action.Kill s bad = refl
fault_refuses _ s bad = bad

module _ (lib : Library) (w : World) (p : ℕ) where
  policy_refuses : (c : Option Condition) → refuses (by_policy w p c) ≡ true
  unfolding creates
  policy_refuses None = refl
  policy_refuses (Some c) = by_action (action_of w (parent_of w p) c)
    where
      by_action : (a : Action) → refuses (unless_allowed a) ≡ true
      by_action action.Allow = refl
      by_action _ = refl

  pub operand_refuses : (kinds : List Kind) (needed : ℕ) (e : Option Entry) → refuses (operand_of w p kinds needed e) ≡ true
  operand_refuses kinds needed None = fault_refuses _ status.BadHandle refl
  operand_refuses kinds needed (Some e) = by_tests (takes kinds e.kind) (within needed (bits e.rights))
    where
      by_tests : (fits may : Bool) → refuses (by_look_up w p (if fits then (if may then Ok e else Err status.AccessDenied) else Err status.WrongType)) ≡ true
      by_tests true true = refl
      by_tests true false = refl
      by_tests false may = fault_refuses _ status.WrongType refl

  examined_refuses : (seen : List ℕ) (os : List Operand) → refuses (examined w p seen os) ≡ true
  unfolding examined operand
  examined_refuses seen [] = refl
  examined_refuses seen (o ∷ os) =
      first_refuses _ _ (by_tests (o.may_be_zero && (o.value == 0)) (o.is_taken && contains seen o.value))
      (first_refuses _ [] (examined_refuses (seen_after seen o) os) refl)
    where
      by_tests : (zero taken : Bool) → refuses (if zero then None
          else (if taken then faults w p condition.BadHandle status.BadHandle else operand_of w p o.kinds o.needed (entry_at w p o.value))) ≡ true
      by_tests true taken = refl
      by_tests false true = fault_refuses _ status.BadHandle refl
      by_tests false false = operand_refuses o.kinds o.needed (entry_at w p o.value)

  listed_refuses : (h rights : ℕ) → refuses (first_some (listed lib w p (replace h rights))) ≡ true
  unfolding listed
  listed_refuses h rights = by_test (is_empty (copy_of (entry_at w p h) rights))
    where
      by_test : (b : Bool) → refuses (first_some (answer_if b status.InvalidArgs ∷ [])) ≡ true
      by_test true = refl
      by_test false = refl

  replace_refuses : (h rights : ℕ) → refuses (refusal lib w p (replace h rights)) ≡ true
  unfolding refusal
  replace_refuses h rights =
      let r : Request = replace h rights in
      first_refuses _ _ (examined_refuses [] (handle_operands r))
      (first_refuses (by_policy w p (condition_of r)) (listed lib w p r) (policy_refuses (condition_of r)) (listed_refuses h rights))

  -- a refusal takes no wait away
  refused_waits : (ws : List Wait) (r : Request) (o : Outcome) → refusal lib w p r ≡ Some o → waits_after r o p ws ≡ ws
  refused_waits ws (replace h rights) (outcome.Answered status.Ok) is = absurd (true≢false (sym (replace_refuses h rights) ∙ ap refuses is))
  refused_waits ws (replace h rights) (outcome.Answered s) is = refl
  refused_waits ws (replace h rights) o is = refl
  refused_waits ws (close h) o is = refl
  refused_waits ws r o is = refl

  wanting_waits : (ws : List Wait) (r : Request) (want : Status) → IsTrue (may_want r want) → waits_after r (outcome.Answered want) p ws ≡ ws
  wanting_waits ws (replace h rights) status.Ok may = absurd (true≢false (sym may))
  wanting_waits ws (replace h rights) want may = refl
  wanting_waits ws (close h) want may = refl
  wanting_waits ws _ want may = refl

  done_waits : (ws : List Wait) (r : Request) → waits_after r (ok_outcome w p r) p ws ≡ waits_left r p ws
  done_waits ws (replace h rights) = refl
  done_waits ws _ = refl

  module _ (ws : List Wait) (n : ℕ) (b : List ℕ) (s : Site) (looks : looks_at_waits s.request ≡ false) where
    taken_among : taken (with_waiters w ws n b) p s ≡ with_waiters (taken w p s) ws n b
    taken_among = remove_among p ws n b w (taken_handles s.request)

    refused_among : (o : Outcome) → is_blocking o ≡ false
        → with_waiters (after_refusal w p s o) ws n (blocked_after o p b) ≡ after_refusal (with_waiters w ws n b) p s o
    unfolding replied on_process ended
    refused_among (outcome.Answered answer) goes = λ i. replied (sym taken_among i) p s answer (sym (refused_same lib w p ws n b s.request answer) i)
    refused_among (outcome.Ended code) goes = refl
    refused_among outcome.Blocked goes = absurd (true≢false goes)

    done_among : (vs : List ℕ) → with_waiters (with_effect lib w (taken w p s) p s.request vs) (waits_left s.request p ws) n b
        ≡ with_effect lib (with_waiters w ws n b) (taken (with_waiters w ws n b) p s) p s.request vs
    done_among vs =
        sym (with_effect_among lib w p ws n b (taken w p s) s.request vs looks)
        ∙ ap (λ u. with_effect lib (with_waiters w ws n b) u p s.request vs) (sym taken_among)

    ok_among : (vs : List ℕ) (o : Outcome) → is_blocking o ≡ false
        → with_waiters (after_ok lib w p s vs o) (waits_left s.request p ws) n (blocked_after o p b) ≡ after_ok lib (with_waiters w ws n b) p s vs o
    unfolding replied on_process ended
    ok_among vs (outcome.Answered answer) goes = λ i. replied (done_among vs i) p s status.Ok (sym (given_same lib w p ws n b s.request vs) i)
    ok_among vs (outcome.Ended code) goes = λ i. ended (done_among vs i) p code
    ok_among vs outcome.Blocked goes = absurd (true≢false goes)

    -- the same values may be chosen
    pub chosen_among : (vs : List ℕ)
        → may_choose w (taken w p s) p s.request vs ≡ may_choose (with_waiters w ws n b) (taken (with_waiters w ws n b) p s) p s.request vs
    unfolding may_choose
    chosen_among vs =
        λ i. gets_all (get (sym taken_among i).processes (sym (receiver_same lib w p ws n b s.request) i)) (sym (choosing_same lib w p ws n b s.request) i) vs

    outcome_same : ok_outcome w p s.request ≡ ok_outcome (with_waiters w ws n b) p s.request
    outcome_same = λ i. outcome_of (sym (awaited_same lib w p ws n b s.request) i) (sym (ends_same lib w p ws n b s.request) i)

    by_among : (choice : Choice) (r : Option Outcome) (o : Outcome) (w2 : World) → refusal lib w p s.request ≡ r → is_blocking o ≡ false
        → CallBy lib w p s choice r o w2
        → CallBy lib (with_waiters w ws n b) p s choice r o (with_waiters w2 (waits_after s.request o p ws) n (blocked_after o p b))
    by_among Refused None o w2 is goes c = absurd c
    by_among Refused (Some a) o w2 is goes c = (
      c.0,
      (λ i. with_waiters (c.1 i) (waits_after s.request (c.0 i) p ws) n (blocked_after (c.0 i) p b))
          ∙ (ap (λ xs. with_waiters (after_refusal w p s a) xs n (blocked_after a p b)) (refused_waits ws s.request a is)
          ∙ refused_among a (sym (ap is_blocking c.0) ∙ goes)),
    )
    by_among (Wants want) None o w2 is goes c = (
      c.0,
      c.1,
      (λ i. with_waiters (c.2 i) (waits_after s.request (c.1 i) p ws) n (blocked_after (c.1 i) p b))
          ∙ (ap (λ xs. with_waiters (after_refusal w p s (outcome.Answered want)) xs n b) (wanting_waits ws s.request want c.0)
          ∙ refused_among (outcome.Answered want) refl),
    )
    by_among (Wants want) (Some a) o w2 is goes c = absurd c
    by_among (Values vs) None o w2 is goes c = (
      sym (chosen_among vs) ∙ c.0,
      c.1 ∙ outcome_same,
      (λ i. with_waiters (c.2 i) (waits_after s.request (c.1 i) p ws) n (blocked_after (c.1 i) p b))
          ∙ (ap (λ xs. with_waiters (after_ok lib w p s vs (ok_outcome w p s.request)) xs n (blocked_after (ok_outcome w p s.request) p b))
          (done_waits ws s.request)
          ∙ (ok_among vs (ok_outcome w p s.request) (sym (ap is_blocking c.1) ∙ goes)
          ∙ ap (after_ok lib (with_waiters w ws n b) p s vs) outcome_same)),
    )
    by_among (Values vs) (Some a) o w2 is goes c = absurd c

    -- a call that doesn't block does the same, and leaves the waits and the blocked as they were but for its own
    pub call_among : (choice : Choice) (o : Outcome) (w2 : World) → is_blocking o ≡ false → CallBy lib w p s choice (refusal lib w p s.request) o w2
        → CallBy lib (with_waiters w ws n b) p s choice (refusal lib (with_waiters w ws n b) p s.request) o
        (with_waiters w2 (waits_after s.request o p ws) n (blocked_after o p b))
    call_among choice o w2 goes c = rw (refusal_same lib w p ws n b s.request looks) (by_among choice (refusal lib w p s.request) o w2 refl goes c)

    -- the same of the relation of calls
    pub calls_among : (o : Outcome) (w2 : World) → is_blocking o ≡ false → Calls lib w p s o w2
        → Calls lib (with_waiters w ws n b) p s o (with_waiters w2 (waits_after s.request o p ws) n (blocked_after o p b))
    calls_among o w2 goes c = (c.0, call_among c.0 o w2 goes c.1)
