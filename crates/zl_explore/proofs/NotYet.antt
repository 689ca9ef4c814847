-- What a search says nothing of as it goes on from one world.
use Rattle.std.proofs.Common.{Some, arith, false, true, ℕ, ◌-◌, ◌<◌, ◌≤◌}
use Rattle.zl_explore.specs.Kept.{Moves}
use Rattle.zl_explore.specs.Searching.{Search}
use Rattle.zl_explore.specs.Telling.{Lessens, TellsAll, TellsClear, TellsEndless, TellsNone, TellsPart}
use Rattle.zl_explore.specs.declared.ends.Next.{Next}
use Rattle.zl_explore.specs.declared.ends.Next.TheVariants as next

pub lessens : (n : Next) (most first at last : ℕ) → Moves (Some n) at last → first ≤ at → at < most → Lessens n (most - first) (most - last)
lessens (next.End e) most first at last moved behind below = omega (arith, moved, behind, below)
lessens (next.Bad b) most first at last moved behind below = tt
lessens (next.BadWorld b) most first at last moved behind below = tt
lessens (next.All endless) most first at last moved behind below = tt
lessens next.Doubled most first at last moved behind below = absurd moved
lessens next.Cut most first at last moved behind below = tt
lessens next.Memory most first at last moved behind below = tt

pub not_known_yet : (n : Next) (s : Search) (at last : ℕ) → Moves (Some n) at last → TellsPart n s
not_known_yet (next.End e) s at last moved = tt
not_known_yet (next.Bad b) s at last moved = tt
not_known_yet (next.BadWorld b) s at last moved = tt
not_known_yet (next.All endless) s at last moved = absurd moved
not_known_yet next.Doubled s at last moved = tt
not_known_yet next.Cut s at last moved = tt
not_known_yet next.Memory s at last moved = tt

pub not_all_yet : (n : Next) (s : Search) (at last : ℕ) → Moves (Some n) at last → TellsAll n s
not_all_yet (next.End e) s at last moved = tt
not_all_yet (next.Bad b) s at last moved = tt
not_all_yet (next.BadWorld b) s at last moved = tt
not_all_yet (next.All endless) s at last moved = absurd moved
not_all_yet next.Doubled s at last moved = tt
not_all_yet next.Cut s at last moved = tt
not_all_yet next.Memory s at last moved = tt

pub not_none_yet : (n : Next) (s : Search) (at last : ℕ) → Moves (Some n) at last → TellsNone n s
not_none_yet (next.End e) s at last moved = tt
not_none_yet (next.Bad b) s at last moved = tt
not_none_yet (next.BadWorld b) s at last moved = tt
not_none_yet (next.All endless) s at last moved = absurd moved
not_none_yet next.Doubled s at last moved = tt
not_none_yet next.Cut s at last moved = tt
not_none_yet next.Memory s at last moved = tt

pub not_clear_yet : (n : Next) (s : Search) (at last : ℕ) → Moves (Some n) at last → TellsClear n s
not_clear_yet (next.End e) s at last moved = tt
not_clear_yet (next.Bad b) s at last moved = tt
not_clear_yet (next.BadWorld b) s at last moved = tt
not_clear_yet (next.All endless) s at last moved = absurd moved
not_clear_yet next.Doubled s at last moved = tt
not_clear_yet next.Cut s at last moved = tt
not_clear_yet next.Memory s at last moved = tt

pub not_endless_yet : (n : Next) (s : Search) (at last : ℕ) → Moves (Some n) at last → TellsEndless n s
not_endless_yet (next.End e) s at last moved = tt
not_endless_yet (next.Bad b) s at last moved = tt
not_endless_yet (next.BadWorld b) s at last moved = tt
not_endless_yet (next.All true) s at last moved = absurd moved
not_endless_yet (next.All false) s at last moved = absurd moved
not_endless_yet next.Doubled s at last moved = tt
not_endless_yet next.Cut s at last moved = tt
not_endless_yet next.Memory s at last moved = tt
