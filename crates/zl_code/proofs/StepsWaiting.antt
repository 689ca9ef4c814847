-- A step beside registered waits: it is the same, and those waits are left whose handle and port are.
use Rattle.zl_code.proofs.Common.{AtCall, Awaited, Bool, CallName, IsLargestHeld, Koids, Library, List, None, Option, Process, Ready, Settles, Site, Some}
use Rattle.zl_code.proofs.Common.{TraceItem, Wait, World, [], and_parts, ap, awaited_by, cases_Bool, false, filter, get, get-each, get-where_key-in}
use Rattle.zl_code.proofs.Common.{get-where_key-out, has_handle, has_key, inl, inr, is_held, is_made_by_handle, next_for, option_map, process_settled, refl}
use Rattle.zl_code.proofs.Common.{refusal, same_Some, subst, sym, where_key, without_others, ℕ, ◌&&◌, ◌++◌, ◌∙◌, ◌∷◌, ◌≡◌}
use Rattle.zl_code.specs.declared.history.Outcome.TheVariants as outcome
use Rattle.zl_code.specs.declared.history.TraceItem.TheVariants as item
use Rattle.zl_code.proofs.Waiters.{with_waiters}
use Rattle.zl_code.proofs.StepsBeside.{ActsAndSettles, acts_among, blocked_by, blocked_in, blocks_among, next_looks, settles_among, tells_blocking, waits_by}
use Rattle.zl_code.proofs.StepsBeside.{waits_kept}

-- the handle of the wait is there, and its port
abbrev pub is_left : World → Wait → Bool
is_left w x = is_made_by_handle w x && has_key w.objects x.port

-- a handle is there before and after what isn't held goes
same_handles : (m : Option Process) (K : Koids) (k v : ℕ) → has_handle m v ≡ has_handle (option_map (process_settled K k) m) v
same_handles None K k v = refl
same_handles (Some p) K k v = refl

module _ (w w2 : World) (K : Koids) (largest : IsLargestHeld w K) (is : w2 ≡ without_others w K) where
  -- an object is kept where it is there afterwards
  kept_there : (k : ℕ) → K k ≡ has_key w2.objects k
  unfolding is_held without_others
  kept_there k = rw is (elim (cases_Bool (K k)) as (λ _. K k ≡ has_key (where_key K w.objects) k) [
    | inl inside ↦ rw (get-where_key-in w.objects K k inside) (inside ∙ sym (and_parts (has_key w.objects k) _ (largest.held k inside)).0)
    | inr outside ↦ rw (get-where_key-out w.objects K k outside) outside
  ])

  made_alike : (x : Wait) → is_made_by_handle w x ≡ is_made_by_handle w2 x
  unfolding is_made_by_handle without_others
  made_alike x = rw (is, get-each w.processes (process_settled K) x.pid) (same_handles (get w.processes x.pid) K x.pid x.value)

  -- the waits that settling keeps are those whose handle and port are there afterwards
  kept_left : (ws : List Wait) → waits_kept w K ws ≡ filter (is_left w2) ws
  kept_left ws = ap (λ (test : Wait → Bool). filter test ws) (λ i x. made_alike x i && kept_there x.port i)

-- with waits, it settles alike: those are left whose handle and port are
pub settles_waiting : (w w2 : World) → Settles w w2 → (ws : List Wait) (n : ℕ) (b : List ℕ)
    → Settles (with_waiters w ws n b) (with_waiters w2 (filter (is_left w2) ws) n b)
settles_waiting w w2 settles ws n b =
    subst (λ (kept : List Wait). Settles (with_waiters w ws n b) (with_waiters w2 kept n b)) (kept_left w w2 settles.0 settles.1 settles.2 ws)
    (settles_among w w2 n b ws settles)

-- a step beside waits, where it neither looks at them nor blocks
pub step_waiting : (lib : Library) (w : World) (p : ℕ) (q : Process) → get w.processes p ≡ Some q → next_looks (next_for lib q) ≡ false → (x : TraceItem)
    → tells_blocking x ≡ false → (w2 : World) → ActsAndSettles lib w p x w2 → (ws : List Wait) (n : ℕ) (b : List ℕ)
    → ActsAndSettles lib (with_waiters w ws n b) p x (with_waiters w2 (filter (is_left w2) (waits_by (next_for lib q) x ws)) n (blocked_by x b))
step_waiting lib w p q there looks x goes w2 steps ws n b =
    let same : steps.process ≡ q = same_Some steps.process q (sym steps.is_there ∙ there) in
    let next : next_for lib steps.process ≡ next_for lib q = ap (next_for lib) same in
    let left : List Wait = waits_by (next_for lib q) x ws in
    record {
      process = steps.process;
      is_there = steps.is_there;
      is_ready = steps.is_ready;
      acted = with_waiters steps.acted left n (blocked_by x b);
      acts = rw next (acts_among lib w p ws n b (next_for lib q) x steps.acted looks goes (rw next at steps.acts));
      settles = settles_waiting steps.acted w2 steps.settles left n (blocked_by x b);
    }

-- a call that blocks beside waits
pub block_waiting : (lib : Library) (w : World) (p : ℕ) (q : Process) → get w.processes p ≡ Some q → q.state ≡ Ready → (call : CallName) (s : Site)
    → next_for lib q ≡ AtCall call s → (awaited : Awaited) → refusal lib w p s.request ≡ None → awaited_by w p s.request ≡ Some awaited → (w2 : World)
    → Settles (blocked_in w p awaited s.destinations) w2 → (ws : List Wait) (n : ℕ) (b : List ℕ)
    → ActsAndSettles lib (with_waiters w ws n b) p (item.Call p call outcome.Blocked) (with_waiters w2 (filter (is_left w2) ws) n (b ++ (p ∷ [])))
block_waiting lib w p q there ready call s next awaited passes waits w2 settles ws n b = record {
  process = q;
  is_there = there;
  is_ready = ready;
  acted = with_waiters (blocked_in w p awaited s.destinations) ws n (b ++ (p ∷ []));
  acts = rw next (outcome.Blocked, refl, blocks_among lib w p q there ws n b s awaited passes waits);
  settles = settles_waiting (blocked_in w p awaited s.destinations) w2 settles ws n (b ++ (p ∷ []));
}
