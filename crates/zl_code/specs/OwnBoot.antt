-- The lab's own boot world: that in which the handles of each statement get the values 1, 2, ..
use Rattle.std.specs.Prelude.{ℕ, List, [], ◌∷◌, length, map}
use Rattle.zl_rights.specs.Common.{Map, World}
use Rattle.zl_rights.specs.Settled.{settled}
use Rattle.zl_rights.specs.Values.{Free, coming, new_free}
use Rattle.zl_code.specs.Boot.{boot_effect, origin}
use Rattle.zl_code.specs.Image.{Library}
use Rattle.zl_code.specs.Own.{OwnWorld}
use Rattle.zl_code.specs.declared.boot.Statement.{Statement}
use Rattle.zl_code.specs.declared.boot.Statement.TheVariants as statement

-- the values that the handles of the statement get: those of a new table
abbrev pub own_given : Statement → List ℕ
own_given (statement.Process job program word handles) = coming (length handles) new_free
own_given (statement.Job parent) = []
own_given (statement.Policy job condition action) = []
own_given statement.Event = []
own_given statement.Port = []
own_given statement.Channel = []
own_given statement.Eventpair = []

-- the world that the statements make of w so, one after another
unfoldable pub own_made : Library → World → List Statement → World
own_made lib w [] = w
own_made lib w (s ∷ ss) = own_made lib (boot_effect lib w s (own_given s)) ss

-- the values of processes from whose tables no handle has gone
abbrev pub fresh_free : World → Map Free
fresh_free w = map (λ e. (e.0, record { freed = []; made = length e.1.handles })) w.processes

abbrev pub with_fresh : World → OwnWorld
with_fresh w = record { world = w; free = fresh_free w }

-- the own boot world of the statements
abbrev pub own_boot : Library → List Statement → OwnWorld
own_boot lib statements = with_fresh (settled (own_made lib origin statements))
