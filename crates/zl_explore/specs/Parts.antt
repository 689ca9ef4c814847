-- The orders of a part: a machine that goes on where they do, and what is known of them.
use Rattle.std.specs.Prelude.{ℕ, ◌≡◌, ◌<◌, ◌⊎◌, false, List, [], ◌++◌, Option, Some, if◌then◌else◌, slice_get, IsTrue}
use Rattle.zl_code.specs.declared.history.TraceItem.{TraceItem}
use Rattle.zl_explore.specs.Bad.{IsQuiet}
use Rattle.zl_explore.specs.Part.{Part, gone_by, gone_of, goes_on, is_of, none_gone}
use Rattle.zl_explore.specs.Paths.{IsIn, IsPath, after}
use Rattle.zl_explore.specs.declared.bad.Bad.{Bad}
use Rattle.zl_explore.specs.declared.met.Node.{Node}
use Rattle.zl_explore.specs.declared.part.Parted.{Parted}

-- where orders of the part begin
abbrev pub parted : {S : Type 0} → Part → S → Parted S
parted part s = record { at = s; part = part; gone = none_gone }

-- who can go, where orders of the part go on
abbrev pub ready_in_part : {S : Type 0} → (S → List ℕ) → Parted S → List ℕ
ready_in_part ready s = if goes_on s.part s.gone then ready s.at else []

-- the state behind a turn
abbrev pub next_in_part : {S : Type 0} → (S → ℕ → S) → Parted S → ℕ → Parted S
next_in_part next s p = record s { at = next s.at p; gone = gone_by s.part.parts s.part.from s.gone p }

-- what is told of a turn
abbrev pub tells_in_part : {S : Type 0} → (S → ℕ → Option TraceItem) → Parted S → ℕ → Option TraceItem
tells_in_part tells s p = tells s.at p

-- ---- what is known of the orders of a part

module _ {S : Type 0} (ready : S → List ℕ) (next : S → ℕ → S) (start : S) (part : Part) where
  -- each that comes to where nobody is ready comes to one of these
  abbrev pub AreAllOf : {X : Type 0} → (S → X) → List X → Type 0
  AreAllOf states ends = (turns : List ℕ) → IsPath ready next start turns → ready (after ready next start turns) ≡ [] → IsTrue (is_of part (gone_of part turns))
      → IsIn ends (states (after ready next start turns))

  -- none has an item that a pattern names
  abbrev pub HasNoneOf : (S → ℕ → Option TraceItem) → List Bad → Type 0
  HasNoneOf tells bad = (turns : List ℕ) → IsPath ready next start turns → IsTrue (goes_on part (gone_of part turns)) → (p : ℕ)
      → IsIn (ready (after ready next start turns)) p → IsQuiet bad (tells (after ready next start turns) p)

  -- further turns lead to where nobody is ready, or out of the part
  pub record ComesOn (turns : List ℕ) : Type 0 where
    pub more : List ℕ
    pub is_path : IsPath ready next start (turns ++ more)
    pub is : (ready (after ready next start (turns ++ more)) ≡ []) ⊎ (goes_on part (gone_of part (turns ++ more)) ≡ false)

  -- so from wherever its orders go on
  abbrev pub AllComeOn : Type 0
  AllComeOn = (turns : List ℕ) → IsPath ready next start turns → IsTrue (goes_on part (gone_of part turns)) → ComesOn turns

-- ---- what a search of a part keeps

-- the states of each end of the part among the first count states that were met were told
abbrev pub AreToldOf : {S X : Type 0} → (S → List ℕ) → (S → X) → List (Node (Parted S)) → ℕ → List X → Type 0
AreToldOf {S} ready states nodes count told = (i : ℕ) (n : Node (Parted S)) → i < count → slice_get nodes i ≡ Some n → ready_in_part ready n.at ≡ []
    → IsTrue (is_of n.at.part n.at.gone) → IsIn told (states n.at.at)
