-- A run that is computed along a schedule follows it.
use Rattle.zl_sched.proofs.Common.{Bool, Choice, Follows, Library, List, None, Some, TraceItem, World, [], ap, false, goes, halts, is_process, is_ready}
use Rattle.zl_sched.proofs.Common.{is_some, map, refl, skips, true, ℕ, ◌∷◌, ◌≡◌}
use Rattle.zl_code.proofs.Running.{Acted, step_by, step_by-Step, Went, onto, items_of, world_after}

-- the turns, one after another, each with the choice that the definitions leave open; those of processes that aren't ready are skipped
abbrev pub follow_by : Library → World → List (ℕ × Choice) → Went
follow_by lib w [] = Some ([], w)
follow_by lib w (turn ∷ turns) = elim (is_process w is_ready turn.0) as (λ _. Went) [
  | true ↦ elim (step_by lib w turn.0 turn.1) as (λ _. Went) [ None ↦ None | Some x ↦ onto x.0 (follow_by lib x.1 turns) ]
  | false ↦ follow_by lib w turns
]

abbrev pub pids_of : List (ℕ × Choice) → List ℕ
pids_of turns = map (λ turn. turn.0) turns

-- what one turn and those after it give
abbrev Led : Library → World → ℕ × Choice → List (ℕ × Choice) → Bool → Acted → Went
Led lib w turn turns ready acted = elim ready as (λ _. Went) [
  | true ↦ elim acted as (λ _. Went) [ None ↦ None | Some x ↦ onto x.0 (follow_by lib x.1 turns) ]
  | false ↦ follow_by lib w turns
]

turn_by : (lib : Library) (w : World) (turn : ℕ × Choice) (turns : List (ℕ × Choice)) (ready : Bool) (acted : Acted) → is_process w is_ready turn.0 ≡ ready
    → step_by lib w turn.0 turn.1 ≡ acted
    → ((v : World) (items : List TraceItem) (w2 : World) → follow_by lib v turns ≡ Some (items, w2) → Follows lib v (pids_of turns) items w2)
    → (items : List TraceItem) (w2 : World) → Led lib w turn turns ready acted ≡ Some (items, w2) → Follows lib w (turn.0 ∷ pids_of turns) items w2
turn_by lib w turn turns true None r a rest items w2 is = cc
turn_by lib w turn turns true (Some x) r a rest items w2 is = goes_on (follow_by lib x.1 turns) refl is
  where
    goes_on : (o : Went) → follow_by lib x.1 turns ≡ o → onto x.0 o ≡ Some (items, w2) → Follows lib w (turn.0 ∷ pids_of turns) items w2
    goes_on None f is = cc
    goes_on (Some y) f is =
        let both : ◌≡◌ {A = List TraceItem × World} (items, w2) (x.0 ∷ y.0, y.1) = cc in
        let first_is : items ≡ x.0 ∷ y.0 = ap (λ (t : List TraceItem × World). t.0) both in
        let last_is : w2 ≡ y.1 = ap (λ (t : List TraceItem × World). t.1) both in
        rw (first_is, last_is) (goes w x.1 y.1 turn.0 x.0 (pids_of turns) y.0 r (step_by-Step lib w turn.0 turn.1 x a) (rest x.1 y.0 y.1 f))
turn_by lib w turn turns false acted r a rest items w2 is = skips w w2 turn.0 (pids_of turns) items r (rest w items w2 is)

pub follow_by-Follows : (lib : Library) (w : World) (turns : List (ℕ × Choice)) (items : List TraceItem) (w2 : World) → follow_by lib w turns ≡ Some (items, w2)
    → Follows lib w (pids_of turns) items w2
follow_by-Follows lib w [] items w2 e =
    let both : ◌≡◌ {A = List TraceItem × World} (items, w2) ([], w) = cc in
    let none : items ≡ [] = ap (λ (t : List TraceItem × World). t.0) both in
    let same : w2 ≡ w = ap (λ (t : List TraceItem × World). t.1) both in
    rw (none, same) (halts w)
follow_by-Follows lib w (turn ∷ turns) items w2 e =
    turn_by lib w turn turns (is_process w is_ready turn.0) (step_by lib w turn.0 turn.1) refl refl
    (λ v items w2 f. follow_by-Follows lib v turns items w2 f) items w2 e

-- Only the items are compared, and never two worlds.
pub Follows-by : (lib : Library) (w : World) (turns : List (ℕ × Choice)) (items : List TraceItem) → is_some (follow_by lib w turns) ≡ true
    → items_of (follow_by lib w turns) ≡ items → Follows lib w (pids_of turns) items (world_after w (follow_by lib w turns))
Follows-by lib w turns items there same = go (follow_by lib w turns) refl there same
  where
    go : (o : Went) → follow_by lib w turns ≡ o → is_some o ≡ true → items_of o ≡ items → Follows lib w (pids_of turns) items (world_after w o)
    go None e there same = cc
    go (Some x) e there same = rw (← same) (follow_by-Follows lib w turns x.0 x.1 e)
