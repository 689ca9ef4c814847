-- What clap finds in the words that it takes for the program's commands.
use Rattle.zl_command.proofs.Common.{AnswersError, App, Bool, Err, ErrorKind, GivesText, HasNumber, HasValue, HasValues, IfErr, IfOk, IfSome, IfTask, IfText}
use Rattle.zl_command.proofs.Common.{IsShown, List, MayAskForHelp, MayHaveNumber, None, Ok, Option, Result, Shape, Some, Text, [], ap, built, bytes_eq, codes}
use Rattle.zl_command.proofs.Common.{commands, cond, entered, false, fault_of, filled, inl, inr, is_simple_and_free, is_some, map, names_of, needed, not}
use Rattle.zl_command.proofs.Common.{numbered, optional, option_map, option_map_or, refl, repeated, rows_at, slice_get, subcommand_of, subst, sym, true}
use Rattle.zl_command.proofs.Common.{single, true≢false, unwrap_or, with_index, ℕ, ◌&&◌, ◌||◌, ◌∙◌, ◌∷◌, ◌≡◌, ◌≢◌, ◌⊎◌}
use Rattle.std.proofs.lemmas.Slice.Eq.{bytes_eq-Decides}
use Rattle.std.specs.Borrow.{Bor}
use Rattle.clap.specs.Walk.{Held, Row, Rule, nothing_held, rows_after, stop_after, used}
use Rattle.clap.specs.Kinds.{IsAmong, Kinds, check_kinds}
use Rattle.clap.specs.declared.error.kind.ErrorKind.TheVariants.{DisplayHelp, InvalidSubcommand, OutOfMemory}
use Rattle.zl_command.specs.declared.command.Task.{Task}
use Rattle.zl_command.specs.declared.command.Asked.{Asked}
use Rattle.zl_command.specs.declared.command.Asked.TheVariants as asked
use Rattle.zl_command.specs.declared.command.WordFault.{WordFault}
use Rattle.zl_command.specs.declared.command.WordFault.TheVariants.{NoMemory, Usage}
use Rattle.clap.specs.Faults.{check_fault, entered_fault, level_fault, other_fault}
use Rattle.zl_command.proofs.WalkKeeps.{Each, KeepsRows, level_fits}
use Rattle.zl_command.proofs.ValueRows.{IsFilled, IsNumberRow, given_first, given_number, may_have_number, needed_keeps, number_keeps, option_keeps}
use Rattle.zl_command.proofs.ValueRows.{other_keeps, other_more_keeps, repeated_keeps, single_keeps}

-- ---- the subcommand's level

abbrev shape_at : ℕ → Shape
shape_at n = unwrap_or (slice_get (built commands).subs n) (built commands).top

abbrev asm_shape : Shape
asm_shape = shape_at 0

abbrev check_shape : Shape
check_shape = shape_at 1

abbrev step_shape : Shape
step_shape = shape_at 2

abbrev replay_shape : Shape
replay_shape = shape_at 3

abbrev run_shape : Shape
run_shape = shape_at 4

abbrev explore_shape : Shape
explore_shape = shape_at 5

abbrev help_shape : Shape
help_shape = shape_at 6

asm_filled : Each (KeepsRows asm_shape.rules asm_shape.args_override_self IsFilled) asm_shape.rules
asm_filled = (
  needed_keeps asm_shape.rules asm_shape.args_override_self (codes "IN") 1,
  (needed_keeps asm_shape.rules asm_shape.args_override_self (codes "OUT") 2, ((λ values rows e filled_rows. filled_rows), tt)),
)

check_filled : Each (KeepsRows check_shape.rules check_shape.args_override_self IsFilled) check_shape.rules
check_filled = (needed_keeps check_shape.rules check_shape.args_override_self (codes "IMAGE") 1, ((λ values rows e filled_rows. filled_rows), tt))

step_filled : Each (KeepsRows step_shape.rules step_shape.args_override_self IsFilled) step_shape.rules
step_filled = (
  needed_keeps step_shape.rules step_shape.args_override_self (codes "SCENARIO") 1,
  (needed_keeps step_shape.rules step_shape.args_override_self (codes "SCHEDULE") 2, ((λ values rows e filled_rows. filled_rows), tt)),
)

replay_filled : Each (KeepsRows replay_shape.rules replay_shape.args_override_self IsFilled) replay_shape.rules
replay_filled = (
  needed_keeps replay_shape.rules replay_shape.args_override_self (codes "SCENARIO") 1,
  (needed_keeps replay_shape.rules replay_shape.args_override_self (codes "TRACE") 2, ((λ values rows e filled_rows. filled_rows), tt)),
)

abbrev scenario_rule : Rule
scenario_rule = with_index 1 (filled (needed (codes "SCENARIO")))

abbrev workers_rule : Rule
workers_rule = with_index 2 (filled (numbered (codes "workers") 1 64))

abbrev limit_rule : Rule
limit_rule = with_index 2 (filled (numbered (codes "limit") 0 1000000))

abbrev burst_rule : Rule
burst_rule = with_index 2 (filled (optional (numbered (codes "burst") 1 1000000)))

-- each argument of `run` keeps the fact of rows
abbrev RunKeeps : (Row → Type 0) → Type 0
RunKeeps R = Each (KeepsRows run_shape.rules run_shape.args_override_self R) run_shape.rules

run_filled : RunKeeps IsFilled
run_filled =
    let rules = run_shape.rules in
    let again = run_shape.args_override_self in
    let workers = option_keeps rules again (codes "workers") 1 64 2 true in
    let limit = option_keeps rules again (codes "limit") 0 1000000 2 true in
    let burst = option_keeps rules again (codes "burst") 1 1000000 2 false in
    (needed_keeps rules again (codes "SCENARIO") 1, (workers, (limit, (burst, ((λ values rows e filled_rows. filled_rows), tt)))))

run_workers : RunKeeps (IsNumberRow (codes "workers") 1 64)
run_workers =
    let rules = run_shape.rules in
    let again = run_shape.args_override_self in
    let scenario = other_keeps rules again (codes "workers") 1 64 scenario_rule refl refl refl in
    let workers = number_keeps rules again (codes "workers") 1 64 2 true in
    let limit = other_keeps rules again (codes "workers") 1 64 limit_rule refl refl refl in
    let burst = other_keeps rules again (codes "workers") 1 64 burst_rule refl refl refl in
    (scenario, (workers, (limit, (burst, ((λ values rows e each. each), tt)))))

run_limit : RunKeeps (IsNumberRow (codes "limit") 0 1000000)
run_limit =
    let rules = run_shape.rules in
    let again = run_shape.args_override_self in
    let scenario = other_keeps rules again (codes "limit") 0 1000000 scenario_rule refl refl refl in
    let workers = other_keeps rules again (codes "limit") 0 1000000 workers_rule refl refl refl in
    let limit = number_keeps rules again (codes "limit") 0 1000000 2 true in
    let burst = other_keeps rules again (codes "limit") 0 1000000 burst_rule refl refl refl in
    (scenario, (workers, (limit, (burst, ((λ values rows e each. each), tt)))))

run_burst : RunKeeps (IsNumberRow (codes "burst") 1 1000000)
run_burst =
    let rules = run_shape.rules in
    let again = run_shape.args_override_self in
    let scenario = other_keeps rules again (codes "burst") 1 1000000 scenario_rule refl refl refl in
    let workers = other_keeps rules again (codes "burst") 1 1000000 workers_rule refl refl refl in
    let limit = other_keeps rules again (codes "burst") 1 1000000 limit_rule refl refl refl in
    let burst = number_keeps rules again (codes "burst") 1 1000000 2 false in
    (scenario, (workers, (limit, (burst, ((λ values rows e each. each), tt)))))

abbrev worlds_rule : Rule
worlds_rule = with_index 2 (filled (optional (numbered (codes "worlds") 1 1000000000)))

abbrev bad_rule : Rule
bad_rule = with_index 2 (filled (repeated (codes "bad")))

abbrev part_rule : Rule
part_rule = with_index 2 (filled (single (codes "part")))

abbrev from_rule : Rule
from_rule = with_index 2 (filled (optional (numbered (codes "from") 0 1000)))

-- each argument of `explore` keeps the fact of rows
abbrev ExploreKeeps : (Row → Type 0) → Type 0
ExploreKeeps R = Each (KeepsRows explore_shape.rules explore_shape.args_override_self R) explore_shape.rules

explore_filled : ExploreKeeps IsFilled
explore_filled =
    let rules = explore_shape.rules in
    let again = explore_shape.args_override_self in
    let worlds = option_keeps rules again (codes "worlds") 1 1000000000 2 false in
    let bad = repeated_keeps rules again (codes "bad") 2 in
    let part = single_keeps rules again (codes "part") 2 in
    let from = option_keeps rules again (codes "from") 0 1000 2 false in
    (needed_keeps rules again (codes "SCENARIO") 1, (worlds, (bad, (part, (from, ((λ values rows e filled_rows. filled_rows), tt))))))

explore_worlds : ExploreKeeps (IsNumberRow (codes "worlds") 1 1000000000)
explore_worlds =
    let rules = explore_shape.rules in
    let again = explore_shape.args_override_self in
    let scenario = other_keeps rules again (codes "worlds") 1 1000000000 scenario_rule refl refl refl in
    let worlds = number_keeps rules again (codes "worlds") 1 1000000000 2 false in
    let bad = other_more_keeps rules again (codes "worlds") 1 1000000000 bad_rule refl refl refl in
    let part = other_keeps rules again (codes "worlds") 1 1000000000 part_rule refl refl refl in
    let from = other_keeps rules again (codes "worlds") 1 1000000000 from_rule refl refl refl in
    (scenario, (worlds, (bad, (part, (from, ((λ values rows e each. each), tt))))))

explore_from : ExploreKeeps (IsNumberRow (codes "from") 0 1000)
explore_from =
    let rules = explore_shape.rules in
    let again = explore_shape.args_override_self in
    let scenario = other_keeps rules again (codes "from") 0 1000 scenario_rule refl refl refl in
    let worlds = other_keeps rules again (codes "from") 0 1000 worlds_rule refl refl refl in
    let bad = other_more_keeps rules again (codes "from") 0 1000 bad_rule refl refl refl in
    let part = other_keeps rules again (codes "from") 0 1000 part_rule refl refl refl in
    let from = number_keeps rules again (codes "from") 0 1000 2 false in
    (scenario, (worlds, (bad, (part, (from, ((λ values rows e each. each), tt))))))

both_given : (a b : Bool) → check_kinds false false (not a || (not b || false)) ≡ [] → (a ≡ true) × (b ≡ true)
both_given true true e = (refl, refl)
both_given _ _ e = cc

three_given : (a b c : Bool) → check_kinds false false (not a || (not b || (not c || false))) ≡ [] → (a ≡ true) × (b ≡ true) × (c ≡ true)
three_given true true true e = (refl, refl, refl)
three_given _ _ _ e = cc

one_given : (a : Bool) → check_kinds false false (not a || false) ≡ [] → a ≡ true
one_given true e = refl
one_given false e = cc

asm_values : (words : List Text) → level_fault asm_shape [] nothing_held words false [] ≡ []
    → HasValue (rows_after asm_shape.rules [] words) (codes "IN") × HasValue (rows_after asm_shape.rules [] words) (codes "OUT")
asm_values words e =
    let end = level_fits asm_shape [] IsFilled asm_filled (λ _. Unit {0}) (λ name word h none. tt) words false [] (refl, (refl, (refl, tt))) e in
    let given = both_given _ _ end.3 in
    (given_first (codes "IN") _ end.0 given.0, given_first (codes "OUT") _ end.0 given.1)

check_values : (words : List Text) → level_fault check_shape [] nothing_held words false [] ≡ []
    → HasValue (rows_after check_shape.rules [] words) (codes "IMAGE")
check_values words e =
    let end = level_fits check_shape [] IsFilled check_filled (λ _. Unit {0}) (λ name word h none. tt) words false [] (refl, (refl, tt)) e in
    given_first (codes "IMAGE") _ end.0 (one_given _ end.3)

step_values : (words : List Text) → level_fault step_shape [] nothing_held words false [] ≡ []
    → HasValue (rows_after step_shape.rules [] words) (codes "SCENARIO") × HasValue (rows_after step_shape.rules [] words) (codes "SCHEDULE")
step_values words e =
    let end = level_fits step_shape [] IsFilled step_filled (λ _. Unit {0}) (λ name word h none. tt) words false [] (refl, (refl, (refl, tt))) e in
    let given = both_given _ _ end.3 in
    (given_first (codes "SCENARIO") _ end.0 given.0, given_first (codes "SCHEDULE") _ end.0 given.1)

replay_values : (words : List Text) → level_fault replay_shape [] nothing_held words false [] ≡ []
    → HasValue (rows_after replay_shape.rules [] words) (codes "SCENARIO") × HasValue (rows_after replay_shape.rules [] words) (codes "TRACE")
replay_values words e =
    let end = level_fits replay_shape [] IsFilled replay_filled (λ _. Unit {0}) (λ name word h none. tt) words false [] (refl, (refl, (refl, tt))) e in
    let given = both_given _ _ end.3 in
    (given_first (codes "SCENARIO") _ end.0 given.0, given_first (codes "TRACE") _ end.0 given.1)

-- what a level of `run` with no fault has of a fact of rows
run_fits : (R : Row → Type 0) → RunKeeps R → (words : List Text) → level_fault run_shape [] nothing_held words false [] ≡ []
    → Each R (rows_after run_shape.rules [] words) × (check_fault run_shape (rows_after run_shape.rules [] words) false ≡ [])
run_fits R each words e =
    let end = level_fits run_shape [] R each (λ _. Unit {0}) (λ name word h none. tt) words false [] (refl, (refl, (refl, (refl, (refl, tt))))) e in
    (end.0, end.3)

run_values : (words : List Text) → level_fault run_shape [] nothing_held words false [] ≡ [] → HasValue (rows_after run_shape.rules [] words) (codes "SCENARIO")
    × HasNumber (rows_after run_shape.rules [] words) (codes "workers") 1 64 × HasNumber (rows_after run_shape.rules [] words) (codes "limit") 0 1000000
    × MayHaveNumber (rows_after run_shape.rules [] words) (codes "burst") 1 1000000
run_values words e =
    let filled_rows = run_fits IsFilled run_filled words e in
    let given = three_given _ _ _ filled_rows.1 in
    let workers = run_fits (IsNumberRow (codes "workers") 1 64) run_workers words e in
    let limit = run_fits (IsNumberRow (codes "limit") 0 1000000) run_limit words e in
    let workers_is = given_number (codes "workers") 1 64 _ workers.0 given.1 in
    let limit_is = given_number (codes "limit") 0 1000000 _ limit.0 given.2 in
    let burst = run_fits (IsNumberRow (codes "burst") 1 1000000) run_burst words e in
    (given_first (codes "SCENARIO") _ filled_rows.0 given.0, workers_is, limit_is, may_have_number (codes "burst") 1 1000000 _ burst.0)

-- what a level of `explore` with no fault has of a fact of rows
explore_fits : (R : Row → Type 0) → ExploreKeeps R → (words : List Text) → level_fault explore_shape [] nothing_held words false [] ≡ []
    → Each R (rows_after explore_shape.rules [] words) × (check_fault explore_shape (rows_after explore_shape.rules [] words) false ≡ [])
explore_fits R each words e =
    let end = level_fits explore_shape [] R each (λ _. Unit {0}) (λ name word h none. tt) words false
    [] (refl, (refl, (refl, (refl, (refl, (refl, tt)))))) e in
    (end.0, end.3)

explore_values : (words : List Text) → level_fault explore_shape [] nothing_held words false [] ≡ []
    → HasValue (rows_after explore_shape.rules [] words) (codes "SCENARIO")
    × MayHaveNumber (rows_after explore_shape.rules [] words) (codes "worlds") 1 1000000000
    × MayHaveNumber (rows_after explore_shape.rules [] words) (codes "from") 0 1000
explore_values words e =
    let filled_rows = explore_fits IsFilled explore_filled words e in
    let worlds = explore_fits (IsNumberRow (codes "worlds") 1 1000000000) explore_worlds words e in
    let from = explore_fits (IsNumberRow (codes "from") 0 1000) explore_from words e in
    let scenario_is = given_first (codes "SCENARIO") _ filled_rows.0 (one_given _ filled_rows.1) in
    (scenario_is, may_have_number (codes "worlds") 1 1000000000 _ worlds.0, may_have_number (codes "from") 0 1000 _ from.0)

-- ---- the program's level

abbrev IsNoHelp : Text → Type 0
IsNoHelp name = (bytes_eq (codes "help") name || false) ≡ false

same_either_way : (a b : Text) → bytes_eq a b ≡ false → bytes_eq b a ≡ false
same_either_way a b apart = go (bytes_eq b a) refl
  where
    go : (t : Bool) → bytes_eq b a ≡ t → t ≡ false
    go true is =
        let same : b ≡ a = (bytes_eq-Decides b a).0 is in
        let yes : bytes_eq a a ≡ true = rw same at is in
        let no : bytes_eq a a ≡ false = rw same at apart in
        sym yes ∙ no
    go false is = refl

no_help : (name word : Text) (h : Held) → other_fault (built commands).top (Some name) word h ≡ [] → IsNoHelp name
no_help name word h e = go (bytes_eq name (codes "help")) refl e
  where
    go : (b : Bool) → bytes_eq name (codes "help") ≡ b → cond (b && true) (DisplayHelp ∷ InvalidSubcommand ∷ []) [] ≡ [] → IsNoHelp name
    go true is e = cc
    go false is e = rw (same_either_way name (codes "help") is) refl

no_fact : (rows : List Row) → Each (λ _. Unit {0}) rows
no_fact [] = tt
no_fact (r ∷ rs) = (tt, no_fact rs)

any_row : (rules : List Rule) (again : Bool) (all : List Rule) → Each (KeepsRows rules again (λ _. Unit {0})) all
any_row rules again [] = tt
any_row rules again (a ∷ rest) = ((λ values rows e r. no_fact (used a values rows)), any_row rules again rest)

abbrev found_shape : (is_asm is_check is_step is_replay is_run is_explore is_help : Bool) → Option Shape
found_shape is_asm is_check is_step is_replay is_run is_explore is_help =
    let last = cond is_explore (Some explore_shape) (cond is_help (Some help_shape) None) in
    let others = cond is_replay (Some replay_shape) (cond is_run (Some run_shape) last) in
    cond is_asm (Some asm_shape) (cond is_check (Some check_shape) (cond is_step (Some step_shape) others))

abbrev names : Text → Text → Bool
names word name = bytes_eq name word || false

entered_values : (stop : Option (Text × List Text)) → IfSome stop (λ p. IsNoHelp p.0) → entered_fault (built commands) stop ≡ []
    → HasValues (entered (built commands) stop)
entered_values None named e = tt
entered_values (Some p) named e =
    let is = names p.0 in
    go (is (codes "asm")) (is (codes "check")) (is (codes "step")) (is (codes "replay")) (is (codes "run")) (is (codes "explore")) (is (codes "help")) named e
  where
    go : (is_asm is_check is_step is_replay is_run is_explore is_help : Bool) → is_help ≡ false
        → option_map_or (λ s. level_fault s [] nothing_held p.1 false []) (found_shape is_asm is_check is_step is_replay is_run is_explore is_help) [] ≡ []
        → HasValues (option_map (λ s. rows_at s p.1) (found_shape is_asm is_check is_step is_replay is_run is_explore is_help))
    go true is_check is_step is_replay is_run is_explore is_help none e =
        let values = asm_values p.1 e in
        inl (refl, values.0, values.1)
    go false true is_step is_replay is_run is_explore is_help none e = inr (inl (refl, check_values p.1 e))
    go false false true is_replay is_run is_explore is_help none e =
        let values = step_values p.1 e in
        inr (inr (inl (refl, values.0, values.1)))
    go false false false true is_run is_explore is_help none e =
        let values = replay_values p.1 e in
        inr (inr (inr (inl (refl, values.0, values.1))))
    go false false false false true is_explore is_help none e =
        let values = run_values p.1 e in
        inr (inr (inr (inr (inl (refl, values.0, values.1, values.2, values.3)))))
    go false false false false false true is_help none e =
        let values = explore_values p.1 e in
        inr (inr (inr (inr (inr (refl, values.0, values.1, values.2)))))
    go false false false false false false true none e = absurd (true≢false none)
    go false false false false false false false none e = tt

-- where clap finds no fault, a subcommand that it finds has its values
pub found_values : (words : List Text) → fault_of commands words ≡ [] → HasValues (subcommand_of commands words)
found_values words e =
    let end = level_fits (built commands).top (names_of (built commands)) (λ _. Unit {0})
    (any_row (built commands).top.rules (built commands).top.args_override_self (built commands).top.rules)
    IsNoHelp no_help words _ _ (refl, (refl, tt)) e in
    entered_values (stop_after (built commands).top.rules (names_of (built commands)) words) end.1 end.2

pub mapped_some : {X Y : Type 0} (f : X → Y) (o : Option X) → is_some o ≡ is_some (option_map f o)
mapped_some f None = refl
mapped_some f (Some x) = refl

-- the words that clap has of an option, or none
pub words_found : (o : Option (Bor (List (Bor Text)))) (none : Bor (List (Bor Text))) (all : Option (List Text)) → none.now ≡ []
    → option_map (λ s. map (λ w. w.now) s.now) o ≡ all → map (λ w. w.now) (unwrap_or o none).now ≡ unwrap_or all []
words_found o none all empty is = go o ∙ ap (λ a. unwrap_or a []) is
  where
    go : (o : Option (Bor (List (Bor Text)))) → map (λ w. w.now) (unwrap_or o none).now ≡ unwrap_or (option_map (λ s. map (λ w. w.now) s.now) o) []
    go None = ap (map (λ w. w.now)) empty
    go (Some s) = refl

-- an app that is the command set finds no fault where that finds none
pub none_found : (app : App) (words : List Text) → app ≡ commands → (is_simple_and_free app ≡ true → fault_of app words ≡ []) → fault_of commands words ≡ []
none_found app words is none = sym (ap (λ a. fault_of a words) is) ∙ none (ap is_simple_and_free is)

-- ---- what is answered to an error of clap

pub no_task : (P : Task → Type 0) (kind : ErrorKind) (r : Result Asked WordFault) → AnswersError kind r → IfOk r (IfTask P)
no_task P kind (Ok (asked.Text text)) is = tt
no_task P kind (Ok (asked.Task task)) is = absurd is
no_task P kind (Err fault) is = tt

-- where clap finds one of these kinds of fault, or has no memory
module _ (kinds : Kinds) (kind : ErrorKind) (has : (kind ≡ OutOfMemory) ⊎ IsAmong kind kinds) where
  found : (kind ≢ OutOfMemory) → IsAmong kind kinds
  found other = go has
    where
      go : (kind ≡ OutOfMemory) ⊎ IsAmong kind kinds → IsAmong kind kinds
      go (inl memory) = absurd (other memory)
      go (inr among) = among

  pub gives_text : (r : Result Asked WordFault) → AnswersError kind r → (wanted : ErrorKind) → IsShown wanted → kinds ≡ wanted ∷ [] → GivesText r
  gives_text (Ok (asked.Text text)) is wanted shown alone = tt
  gives_text (Ok (asked.Task task)) is wanted shown alone = absurd is
  gives_text (Err NoMemory) is wanted shown alone = refl
  gives_text (Err Usage) is wanted shown alone = go (subst (IsAmong kind) alone (found (is refl).0))
    where
      go : IsAmong kind (wanted ∷ []) → Usage ≡ NoMemory
      go (inl same) = absurd ((is refl).1 (subst IsShown (sym same) shown))
      go (inr none) = absurd none

  pub may_ask : (r : Result Asked WordFault) → AnswersError kind r → IfOk r (IfText (MayAskForHelp kinds))
  may_ask (Ok (asked.Text text)) (inl help) = inl (subst (λ k. IsAmong k kinds) help (found (λ memory. cc)))
  may_ask (Ok (asked.Text text)) (inr version) = inr (subst (λ k. IsAmong k kinds) version (found (λ memory. cc)))
  may_ask (Ok (asked.Task task)) is = tt
  may_ask (Err fault) is = tt

  pub has_fault : (within : Bool) (r : Result Asked WordFault) → AnswersError kind r
      → IfErr r (λ fault. fault ≡ Usage → (kinds ≢ []) ⊎ (within ≡ false))
  has_fault within (Ok answer) is = tt
  has_fault within (Err fault) is = λ usage. inl (λ none. subst (IsAmong kind) none (found (is usage).0))

-- where clap takes the words, only memory can be wanted
pub not_taken : (taken within : Bool) (kind : ErrorKind) (r : Result Asked WordFault) → (taken ≡ true → kind ≡ OutOfMemory) → AnswersError kind r
    → IfErr r (λ fault. fault ≡ Usage → (taken && within) ≡ false)
not_taken taken within kind (Ok answer) memory is = tt
not_taken true within kind (Err fault) memory is = λ usage. absurd ((is usage).0 (memory refl))
not_taken false within kind (Err fault) memory is = λ usage. refl

pub not_within : (taken within : Bool) → within ≡ false → (taken && within) ≡ false
not_within true within is = is
not_within false within is = refl

-- a fault that is passed on is one of the words where it was one
pub passed_on : {T : Type 0} (r : Result T WordFault) (fault : WordFault) (P : Type 0) → r ≡ Err fault → (fault ≡ Usage → P)
    → IfErr r (λ f. f ≡ Usage → P)
passed_on r fault P is usage = subst (λ x. IfErr x (λ f. f ≡ Usage → P)) (sym is) usage
