-- The ready list of a system and the marks of the processes that are out: who stands in them, and in what order.
use Rattle.std.specs.Prelude.{ℕ, ◌≡◌, ◌≤◌, ◌+◌, true, false, Bool, ◌&&◌, not, ◌==◌, List, [], ◌∷◌, ◌++◌, map, length, IsTrue, if◌then◌else◌}
use Rattle.std.specs.List.{filter, list_any}
use Rattle.zl_code.specs.Common.{World, State, Ready, Ended, is_process, is_ready}

-- the processes ever made, by koid
abbrev pub pids_of : World → List ℕ
pids_of w = map (λ p. p.0) w.processes

-- the ready processes, by koid
abbrev pub ready_by_koid : World → List ℕ
ready_by_koid w = filter (λ q. is_process w is_ready q) (pids_of w)

-- how often the process stands in the list
abbrev pub times_in : ℕ → List ℕ → ℕ
times_in p list = length (filter (λ q. q == p) list)

-- the process stands in the list
abbrev pub is_in : ℕ → List ℕ → Bool
is_in p list = list_any (λ q. q == p) list

-- the list without the process p
abbrev pub others_of : ℕ → List ℕ → List ℕ
others_of p list = filter (λ q. not (q == p)) list

-- may take its next step, or took its last one
abbrev pub is_ready_or_over : State → Bool
is_ready_or_over Ready = true
is_ready_or_over (Ended code) = true
is_ready_or_over _ = false

-- the ready list and the marks of a world
pub record Listed (w : World) (ready out : List ℕ) : Type 0 where
  -- together they hold each ready process once
  pub once : (p : ℕ) → is_process w is_ready p ≡ true → times_in p ready + times_in p out ≡ 1
  -- nothing else is in the list
  pub alone : (p : ℕ) → is_process w is_ready p ≡ false → times_in p ready ≡ 0
  -- no process has two marks
  pub marks : (p : ℕ) → times_in p out ≤ 1
  -- what is marked and hasn't ended is ready
  pub marked : (p : ℕ) → is_in p out ≡ true → IsTrue (is_process w is_ready_or_over p)

-- ---- after a step of p from w

-- those of the list that stay ready, in their order, without p, which leaves its place
abbrev pub still_ready : World → ℕ → List ℕ → List ℕ
still_ready after p list = filter (λ q. is_process after is_ready q && not (q == p)) list

-- those that became ready, by koid
abbrev pub became_ready : World → World → List ℕ
became_ready w after = filter (λ q. is_process after is_ready q && not (is_process w is_ready q)) (pids_of after)

-- p itself, if it stays ready
abbrev pub itself_ready : World → ℕ → List ℕ
itself_ready after p = if is_process after is_ready p then p ∷ [] else []

-- the list after the step
abbrev pub queued_after : World → ℕ → World → List ℕ → List ℕ
queued_after w p after list = still_ready after p list ++ (became_ready w after ++ itself_ready after p)
