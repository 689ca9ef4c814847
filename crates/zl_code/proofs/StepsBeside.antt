-- What a process does beside registered waits and blocked processes, where it doesn't look at waits: the same step, behind which those wake.
use Rattle.zl_code.proofs.Common.{Acts, AtCall, Awaited, Blocked, Bool, Calls, IsLargestHeld, IsStuck, IsTrue, Koids, Library, List, Moves, Next, None, Process}
use Rattle.zl_code.proofs.Common.{Ready, Request, Settles, Site, Some, TraceItem, Values, Wait, World, [], ap, awaited_by, ended, false, filter, get}
use Rattle.zl_code.proofs.Common.{handle_operands, has_living_child, in_queue, in_table, is_held, is_made_by_handle, is_process, may_choose, new_handles}
use Rattle.zl_code.proofs.Common.{next_for, none-some, not, on_process, port_cancel, port_wait, refl, refusal, remove_all, row_of, subst, sym, taken_handles}
use Rattle.zl_code.proofs.Common.{task_kill, wait_async, wait_one, waiting, without_others, ℕ, ◌&&◌, ◌++◌, ◌==◌, ◌∙◌, ◌∷◌, ◌≡◌}
use Rattle.zl_code.specs.declared.history.Outcome.TheVariants as outcome
use Rattle.zl_code.specs.declared.history.TraceItem.TheVariants as item
use Rattle.zl_code.proofs.Waiters.{with_waiters, looks_at_waits, waits_after, blocked_after, is_blocking, refusal_same, awaited_same, chosen_among, calls_among}

-- ---- what a process does

-- what stands next is a call that looks at waits
abbrev pub next_looks : Next → Bool
next_looks (AtCall call s) = looks_at_waits s.request
next_looks _ = false

-- the item tells of a call that blocks
abbrev pub tells_blocking : TraceItem → Bool
tells_blocking (item.Call pid call o) = is_blocking o
tells_blocking _ = false

-- what is left of the waits, where the process does so
abbrev pub waits_by : Next → TraceItem → List Wait → List Wait
waits_by (AtCall call s) (item.Call pid name o) ws = waits_after s.request o pid ws
waits_by next x ws = ws

-- what is left of the blocked processes, where the item tells of the step
abbrev pub blocked_by : TraceItem → List ℕ → List ℕ
blocked_by (item.Run pid count) b = b
blocked_by (item.Call pid call o) b = blocked_after o pid b
blocked_by (item.Stuck pid) b = filter (λ q. not (q == pid)) b

-- a process does the same, unless it blocks, and leaves the waits and the blocked as they were but for its own
pub acts_among : (lib : Library) (w : World) (p : ℕ) (ws : List Wait) (n : ℕ) (b : List ℕ) (next : Next) (x : TraceItem) (w2 : World) → next_looks next ≡ false
    → tells_blocking x ≡ false → Acts lib w p next x w2 → Acts lib (with_waiters w ws n b) p next x (with_waiters w2 (waits_by next x ws) n (blocked_by x b))
unfolding on_process ended
acts_among lib w p ws n b (Moves c) x w2 looks goes acts = (acts.0, λ i. with_waiters (acts.1 i) ws n (blocked_by (acts.0 i) b))
acts_among lib w p ws n b (AtCall call s) x w2 looks goes (o, is, calls) = (
  o,
  is,
  subst (λ y. Calls lib (with_waiters w ws n b) p s o (with_waiters w2 (waits_by (AtCall call s) y ws) n (blocked_by y b))) (sym is)
      (calls_among lib w p ws n b s looks o w2 (sym (ap tells_blocking is) ∙ goes) calls),
)
acts_among lib w p ws n b IsStuck x w2 looks goes acts = (acts.0, λ i. with_waiters (acts.1 i) ws n (blocked_by (acts.0 i) b))

-- ---- what isn't held goes

-- the waits that stay where the objects of K alone do
abbrev pub waits_kept : World → Koids → List Wait → List Wait
waits_kept w K ws = filter (λ x. is_made_by_handle w x && K x.port) ws

module _ (w w2 : World) (n : ℕ) (b : List ℕ) where
  -- the same is held
  largest_among : (ws : List Wait) (K : Koids) → IsLargestHeld w K → IsLargestHeld (with_waiters w ws n b) K
  unfolding is_held in_table in_queue is_process has_living_child
  largest_among ws K largest = record { held = largest.held; largest = largest.largest }

  -- what isn't held goes alike, and with it waits whose handle or port is gone
  pub settles_among : (ws : List Wait) (settles : Settles w w2) → Settles (with_waiters w ws n b) (with_waiters w2 (waits_kept w settles.0 ws) n b)
  unfolding without_others is_made_by_handle
  settles_among ws (K, largest, is) = (K, largest_among ws K largest, ap (λ u. with_waiters u (waits_kept w K ws) n b) is)

-- ---- a call that blocks

-- the process p of the world waits for this
abbrev pub blocked_in : World → (p : ℕ) → Awaited → (destinations : List ℕ) → World
blocked_in w p awaited destinations = on_process w p (λ x. record x { state = Blocked awaited destinations })

module _ (lib : Library) (w : World) (p : ℕ) (q : Process) (there : get w.processes p ≡ Some q) where
  -- no value is to be chosen
  may_block : (r : Request) (awaited : Awaited) → awaited_by w p r ≡ Some awaited → IsTrue (may_choose w (remove_all w p (taken_handles r)) p r [])
  unfolding may_choose new_handles remove_all taken_handles handle_operands row_of
  may_block (wait_one h mask) awaited is = rw there refl
  may_block (port_wait port) awaited is = rw there refl
  may_block _ awaited is = absurd (none-some awaited is)

  looks_at_none : (r : Request) (awaited : Awaited) → awaited_by w p r ≡ Some awaited → looks_at_waits r ≡ false
  looks_at_none (wait_async h port key mask) awaited is = absurd (none-some awaited is)
  looks_at_none (port_cancel port source key) awaited is = absurd (none-some awaited is)
  looks_at_none (task_kill task) awaited is = absurd (none-some awaited is)
  looks_at_none _ awaited is = refl

  -- the process waits, the last of the blocked
  pub waiting_among : (ws : List Wait) (n : ℕ) (b : List ℕ) (awaited : Awaited) (destinations : List ℕ)
      → waiting (with_waiters w ws n b) p destinations (Some awaited) ≡ with_waiters (blocked_in w p awaited destinations) ws n (b ++ (p ∷ []))
  unfolding on_process
  waiting_among ws n b awaited destinations = refl

  -- a call blocks where it isn't refused and there is something to wait for; its process is then the last of the blocked
  pub blocks_among : (ws : List Wait) (n : ℕ) (b : List ℕ) (s : Site) (awaited : Awaited) → refusal lib w p s.request ≡ None
      → awaited_by w p s.request ≡ Some awaited
      → Calls lib (with_waiters w ws n b) p s outcome.Blocked (with_waiters (blocked_in w p awaited s.destinations) ws n (b ++ (p ∷ [])))
  blocks_among ws n b s awaited passes waits =
      let alike : awaited_by (with_waiters w ws n b) p s.request ≡ Some awaited = awaited_same lib w p ws n b s.request ∙ waits in (
        Values [],
        rw (refusal_same lib w p ws n b s.request (looks_at_none s.request awaited waits), passes, alike) (
          sym (chosen_among lib w p ws n b s (looks_at_none s.request awaited waits) []) ∙ may_block s.request awaited waits,
          refl,
          sym (waiting_among ws n b awaited s.destinations) ∙ ap (waiting (with_waiters w ws n b) p s.destinations) (sym alike),
        ),
      )

-- ---- a step

-- p acts in w, and what isn't held goes: a step but for what wakes
pub record ActsAndSettles (lib : Library) (w : World) (p : ℕ) (x : TraceItem) (w2 : World) : Type 0 where
  pub process : Process
  pub is_there : get w.processes p ≡ Some process
  pub is_ready : process.state ≡ Ready
  pub acted : World
  pub acts : Acts lib w p (next_for lib process) x acted
  pub settles : Settles acted w2
