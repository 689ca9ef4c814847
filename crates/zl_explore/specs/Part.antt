-- A part of all orders of turns: the rest that the sum of the processes of their first turns leaves tells to which of so many an order belongs.
use Rattle.std.specs.Prelude.{ℕ, ◌≡◌, ◌+◌, ◌%◌, ◌≤◌, Bool, ◌==◌, ◌||◌, nat_lt, List, [], ◌∷◌, ◌++◌, codes, if◌then◌else◌}
use Rattle.std.specs.Fmt.{decimal}
use Rattle.zl_explore.specs.declared.part.Gone.{Gone}

-- the number of a part, how many parts there are, and how many turns tell to which an order belongs
pub record Part : Type 0 where
  pub number : ℕ
  pub parts : ℕ
  pub from : ℕ

-- it is one of them
abbrev pub IsPart : Part → Type 0
IsPart p = (1 ≤ p.number) × (p.number ≤ p.parts)

-- it is the only one, and so has all orders
abbrev pub IsOnly : Part → Type 0
IsOnly p = (p.number ≡ 1) × (p.parts ≡ 1)

-- ---- what the turns of an order tell so far: how many counted, and the rest of the sum of their processes

-- nobody had a turn
abbrev pub none_gone : Gone
none_gone = record { turns = 0; rest = 0 }

-- behind a turn of the process, which counts if it is one of the first
abbrev pub gone_by : (parts from : ℕ) → Gone → ℕ → Gone
gone_by parts from g p = if nat_lt g.turns from then record { turns = g.turns + 1; rest = (g.rest + p) % parts } else g

-- behind turns of these processes
unfoldable pub gone_along : (parts from : ℕ) → Gone → List ℕ → Gone
gone_along parts from g [] = g
gone_along parts from g (p ∷ turns) = gone_along parts from (gone_by parts from g p) turns

-- an order that goes on is one of the part: too few turns tell of that yet, or they leave its rest
abbrev pub goes_on : Part → Gone → Bool
goes_on part g = nat_lt g.turns part.from || (g.rest + 1 == part.number)

-- an order that comes to an end there is one of the part; one of fewer turns is the first one's
abbrev pub is_of : Part → Gone → Bool
is_of part g = if nat_lt g.turns part.from then part.number == 1 else g.rest + 1 == part.number

-- what these turns tell
abbrev pub gone_of : Part → List ℕ → Gone
gone_of part turns = gone_along part.parts part.from none_gone turns

-- the words of a part
abbrev pub part_words : Part → List ℕ
part_words p = decimal p.number ++ (codes "/" ++ decimal p.parts)
