-- What is seen of a world: local instructions leave it, and so does what rests.
use Rattle.zl_code.proofs.Common.{IsTrue, List, Map, None, Option, Process, Some, [], ap, each, get, is_sorted, length, map, nat_cmp, none-some, option_map}
use Rattle.zl_code.proofs.Common.{refl, same_Some, slice_get, subst, sym, ℕ}
use Rattle.zl_code.proofs.Common.{◌+◌, ◌∙◌, ◌∷◌, ◌≡◌, ◌≤◌}
use Rattle.std.proofs.Common.{arith}
use Rattle.std.proofs.lemmas.Bool.{cases_lt}
use Rattle.std.proofs.lemmas.Option.{slice_get-map}
use mathlib.Core.Logic.{inl, inr}
use Rattle.zl_code.specs.Own.{OwnWorld}
use Rattle.zl_calls.specs.Rested.{own_rested, rested_process}
use Rattle.zl_calls.specs.World.{Machine, own_here}
use Rattle.zl_explore.specs.Cpus.{Cpus, own_with, with_cpu}
use Rattle.zl_explore.specs.Nodes.{Extends}
use Rattle.zl_explore.specs.Sights.{AreClear, IsClear, Sight, Sights, sight_of, sights_in}
use Rattle.zl_explore.specs.declared.fact.Fact.{Fact}
use Rattle.zl_explore.specs.declared.met.Node.{Node}
use Rattle.zl_explore.specs.declared.part.Parted.{Parted}
use Rattle.zl_explore.proofs.Lists.{get_below}
use Rattle.zl_explore.proofs.ToldStates.{get_at}

seen_rested : (m : Map Process) → map {B = ℕ × Sight} (λ e. (e.0, sight_of (Some e.1))) (each (λ k q. rested_process q) m)
    ≡ map (λ e. (e.0, sight_of (Some e.1))) m
unfolding each
seen_rested [] = refl
seen_rested (e ∷ m) = ap (λ ks. (e.0, sight_of (Some e.1)) ∷ ks) (seen_rested m)

seen_with : (f : Cpus) (m : Map Process) → map {B = ℕ × Sight} (λ e. (e.0, sight_of (Some e.1))) (each (λ k q. with_cpu (f k) q) m)
    ≡ map (λ e. (e.0, sight_of (Some e.1))) m
unfolding each
seen_with f [] = refl
seen_with f (e ∷ m) = ap (λ ks. (e.0, sight_of (Some e.1)) ∷ ks) (seen_with f m)

-- where processes are seen so
abbrev processes_seen : (o : OwnWorld) → List (ℕ × Sight) → Sights
processes_seen o processes = record (sights_in o) { processes = processes }

-- what counts of a world shows the same
pub sights_same : (o : OwnWorld) → sights_in (own_rested o) ≡ sights_in o
sights_same o = ap (processes_seen o) (seen_rested o.world.processes)

-- and so does a world in which some compute with other Cpus
pub sights_with : (f : Cpus) (o : OwnWorld) → sights_in (own_with f o) ≡ sights_in o
sights_with f o = ap (processes_seen o) (seen_with f o.world.processes)

-- the n-th process is seen so
module _ (m : Machine) (n pid : ℕ) (sorted : IsTrue (is_sorted nat_cmp m.world.processes))
    (at : Some pid ≡ slice_get (map (λ p. p.0) m.world.processes) n) where
  pub sight_at : slice_get (sights_in (own_here m)).processes n ≡ Some (pid, sight_of (get m.world.processes pid))
  sight_at = by_entry (slice_get m.world.processes n) refl
    where
      by_entry : (found : Option (ℕ × Process)) → slice_get m.world.processes n ≡ found
          → slice_get (sights_in (own_here m)).processes n ≡ Some (pid, sight_of (get m.world.processes pid))
      by_entry None none =
          absurd (none-some pid (sym (at ∙ (slice_get-map (λ (p : ℕ × Process). p.0) m.world.processes n ∙ ap (option_map (λ (p : ℕ × Process). p.0)) none))))
      by_entry (Some e) some =
          let key : pid ≡ e.0 =
          same_Some pid e.0 (at ∙ (slice_get-map (λ (p : ℕ × Process). p.0) m.world.processes n ∙ ap (option_map (λ (p : ℕ × Process). p.0)) some)) in
          let seen : sight_of (get m.world.processes pid) ≡ sight_of (Some e.1) =
          ap (λ (k : ℕ). sight_of (get m.world.processes k)) key ∙ ap sight_of (get_at m.world.processes n e sorted some) in
          slice_get-map (λ (p : ℕ × Process). (p.0, sight_of (Some p.1))) m.world.processes n
          ∙ (ap (option_map (λ (p : ℕ × Process). (p.0, sight_of (Some p.1)))) some ∙ λ i. Some (sym key i, sym seen i))

-- ---- worlds that were met

module _ {S : Type 0} (sights : S → Sights) (never : List (List Fact)) where
  -- more that were met
  pub clear_grown : (old new : List (Node (Parted S))) (count : ℕ) → Extends old new → count ≤ length old → AreClear sights never old count
      → AreClear sights never new count
  clear_grown old new count (more, is) within clear i n below there =
      clear i n below (get_below old more i n (omega (arith, below, within)) (subst (λ (x : List (Node (Parted S))). slice_get x i ≡ Some n) is there))

  -- one more that is clear
  pub clear_next : (nodes : List (Node (Parted S))) (count : ℕ) (n : Node (Parted S)) → slice_get nodes count ≡ Some n → IsClear never (sights n.at.at)
      → AreClear sights never nodes count → AreClear sights never nodes (count + 1)
  clear_next nodes count n there here clear i m below m_there = elim (cases_lt i count) [
    | inl less ↦ clear i m less m_there
    | inr more ↦
        let same : i ≡ count = omega (arith, below, more) in
        let is : n ≡ m = same_Some n m (sym there ∙ subst (λ (k : ℕ). slice_get nodes k ≡ Some m) same m_there) in
        subst (λ (k : Node (Parted S)). IsClear never (sights k.at.at)) is here
  ]
