-- What a text says stands in the order of its lines, and before the first fault.
use Rattle.zl_scenario.proofs.Common.{◌≡◌, ℕ, ◌+◌, ◌≤◌, Bool, true, false, ltb, cond, List, [], ◌∷◌, ◌++◌, length, Option, Some, None, Result, Ok, Err, refl}
use Rattle.zl_scenario.proofs.Common.{subst, arith, length-append, nat_tests, MOST_ITEMS, words_of, Scenario, Body, Part, Statements, Block, Schedule, Place}
use Rattle.zl_scenario.proofs.Common.{at, start, onto, opened_by, body_named, object_named, object_said, onto_block, bytes_said, body_said, with_program}
use Rattle.zl_scenario.proofs.Common.{MOST_PROGRAMS, with_schedule, with_statement, process_said, limit_said, statement_said, program_said, block_said}
use Rattle.zl_scenario.proofs.Common.{pair_said, turns_said, part_said, line_said, told_line, Reading, refused_at, fault_at_end, Rises, IsInOrder, mark_named}
use Rattle.zl_scenario.proofs.Common.{lines_of, IsRead, Reads, at_end, line_taken, line_faulty, program_refused}
use Rattle.zl_code.specs.declared.boot.Grant.{Grant}
use Rattle.zl_code.specs.declared.boot.Statement.{Statement}
use Rattle.zl_code.specs.declared.boot.Statement.TheVariants as statement
use Rattle.zl_rights.specs.declared.policy.Action.{Action}
use Rattle.zl_rights.specs.declared.policy.Condition.{Condition}
use Rattle.std.specs.Prelude.{◌&&◌, codes}
use Rattle.zl_asm.specs.Words.{is_word}
use Rattle.zl_rights.specs.Names.{condition_named}
use Rattle.zl_rights.specs.Signals.{is_empty}
use Rattle.zl_scenario.specs.Handles.{handles_of}
use Rattle.zl_scenario.specs.Numbers.{number_of}
use Rattle.zl_scenario.specs.Scenario.{action_named, job_said, policy_said}
use Rattle.zl_scenario.specs.declared.cause.Cause.{Cause}
use Rattle.zl_scenario.specs.declared.cause.Cause.TheVariants as cause

-- ---- rising lines

Rises-more : (low : ℕ) (lines : List ℕ) (high more : ℕ) → Rises low lines high → high ≤ more → Rises low lines more
Rises-more low [] high more r e = omega arith
Rises-more low (line ∷ lines) high more r e = (r.0, Rises-more (line + 1) lines high more r.1 e)

Rises-push : (low : ℕ) (lines : List ℕ) (n : ℕ) → Rises low lines n → Rises low (lines ++ n ∷ []) (n + 1)
Rises-push low [] n r = (r, omega arith)
Rises-push low (line ∷ lines) n r = (r.0, Rises-push (line + 1) lines n r.1)

-- ---- what was said

-- what was said in lines below this one
record IsBelow (line : ℕ) (said : Scenario) : Type 0 where
  limit : said.limit ≤ MOST_ITEMS
  placed : length said.lines ≡ length said.statements
  rising : Rises 1 said.lines line

below_more : (a b : ℕ) (said : Scenario) → IsBelow a said → a ≤ b → IsBelow b said
below_more a b said h e = record { limit = h.limit; placed = h.placed; rising = Rises-more 1 said.lines a b h.rising e }

-- where line n stands
record IsPlaced (n : ℕ) (place : Place) : Type 0 where
  below : IsBelow (told_line n place.part) place.said
  told : told_line n place.part ≤ n

-- ---- tests and faults

if_ok : {S : Type 0} (t : Bool) (x new : S) (c : Cause) → cond t (Ok x) (Err c) ≡ Ok new → (t ≡ true) × (x ≡ new)
if_ok true x new c e = (refl, cc)
if_ok false x new c e = absurd (cc)

then_ok : {S : Type 0} (t : Bool) (r : Result S Cause) (new : S) (c : Cause) → cond t r (Err c) ≡ Ok new → r ≡ Ok new
then_ok true r new c e = e
then_ok false r new c e = absurd (cc)

onto_ok : (part : Part) (r : Result Scenario Cause) (next : Place) → onto part r ≡ Ok next → (said : Scenario) × (r ≡ Ok said) × (at said part ≡ next)
onto_ok part (Ok said) next e = (said, refl, cc)
onto_ok part (Err c) next e = absurd (cc)

-- ---- the kinds of lines

-- a statement more, of line n
statement_below : (n : ℕ) (said : Scenario) (s : Statement) → IsBelow n said → IsBelow (n + 1) (with_statement said n s)
statement_below n said s h = record { limit = h.limit; placed = simp length-append (omega (arith, h.placed)); rising = Rises-push 1 said.lines n h.rising }

process_below : (n : ℕ) (said new : Scenario) (job program word : Option ℕ) (handles : Option (List Grant)) → IsBelow n said
    → process_said n said job program word handles ≡ Ok new → IsBelow (n + 1) new
unfolding process_said
process_below n said new (Some job) (Some program) (Some word) (Some handles) h e =
    subst (IsBelow (n + 1)) (if_ok _ _ new _ e).1 (statement_below n said (statement.Process job program word handles) h)
process_below n said new _ _ _ _ h e = absurd (cc)

job_below : (n : ℕ) (said new : Scenario) (parent : Option ℕ) → IsBelow n said → job_said n said parent ≡ Ok new → IsBelow (n + 1) new
unfolding job_said
job_below n said new (Some parent) h e =
    let same : with_statement said n (statement.Job parent) ≡ new = cc in subst (IsBelow (n + 1)) same (statement_below n said (statement.Job parent) h)
job_below n said new None h e = absurd (cc)

policy_below : (n : ℕ) (said new : Scenario) (job : Option ℕ) (condition : Option Condition) (act : Option Action) → IsBelow n said
    → policy_said n said job condition act ≡ Ok new → IsBelow (n + 1) new
unfolding policy_said
policy_below n said new (Some job) (Some condition) (Some act) h e =
    let same : with_statement said n (statement.Policy job condition act) ≡ new = cc in
    subst (IsBelow (n + 1)) same (statement_below n said (statement.Policy job condition act) h)
policy_below n said new _ _ _ h e = absurd (cc)

object_below : (n : ℕ) (said new : Scenario) (o : Option Statement) → IsBelow n said → object_said n said o ≡ Ok new → IsBelow (n + 1) new
object_below n said new (Some s) h e = let same : with_statement said n s ≡ new = cc in subst (IsBelow (n + 1)) same (statement_below n said s h)
object_below n said new None h e = absurd (cc)

limit_below : (n : ℕ) (said new : Scenario) (most : Option ℕ) → IsBelow n said → limit_said said most ≡ Ok new → IsBelow (n + 1) new
unfolding limit_said
limit_below n said new (Some limit) h e =
    let read = if_ok _ _ new _ e in
    let test = read.0 in
    let few : limit ≤ MOST_ITEMS = grind (arith, nat_tests) in
    subst (IsBelow (n + 1)) read.1 (record { limit = few; placed = h.placed; rising = Rises-more 1 said.lines n (n + 1) h.rising (omega arith) })
limit_below n said new None h e = absurd (cc)

-- after line n, in no block
next_line : (n : ℕ) (part : Part) (next : Place) (said : Scenario) → told_line (n + 1) part ≡ n + 1 → IsBelow (n + 1) said → at said part ≡ next
    → IsPlaced (n + 1) next
next_line n part next said out h e = subst (IsPlaced (n + 1)) e (record { below = rw out h; told = omega (arith, out) })

opened_placed : (n : ℕ) (said : Scenario) (mark : Option Bool) (body : Option Body) (next : Place) → IsBelow n said → opened_by n said mark body ≡ Ok next
    → IsPlaced (n + 1) next
opened_placed n said (Some checked) (Some body) next h e =
    let same : at said (Block n checked body) ≡ next = cc in subst (IsPlaced (n + 1)) same (record { below = h; told = omega arith })
opened_placed n said (Some checked) None next h e = absurd (cc)
opened_placed n said None body next h e = absurd (cc)

-- one statement of two, by two tests
either_placed : (n : ℕ) (t u : Bool) (one other : Result Scenario Cause) (next : Place) → ((new : Scenario) → one ≡ Ok new → IsBelow (n + 1) new)
    → ((new : Scenario) → other ≡ Ok new → IsBelow (n + 1) new)
    → cond t (onto Statements one) (cond u (onto Statements other) (Err cause.Syntax)) ≡ Ok next → IsPlaced (n + 1) next
either_placed n true u one other next f g e =
    let read = onto_ok Statements one next e in
    next_line n Statements next read.0 refl (f read.0 read.1) read.2
either_placed n false true one other next f g e =
    let read = onto_ok Statements other next e in
    next_line n Statements next read.0 refl (g read.0 read.1) read.2
either_placed n false false one other next f g e = absurd (cc)

statement_placed : (n : ℕ) (said : Scenario) (words : List (List ℕ)) (next : Place) → IsBelow n said → statement_said n said words ≡ Ok next
    → IsPlaced (n + 1) next
unfolding statement_said
statement_placed n said [] next h e = next_line n Statements next said refl (below_more n (n + 1) said h (omega arith)) (cc)
statement_placed n said (name ∷ []) next h e = alone _ e
  where
    alone : (t : Bool) → cond t (Ok (at (with_schedule said n) Schedule)) (onto Statements (object_said n said (object_named name))) ≡ Ok next
        → IsPlaced (n + 1) next
    alone true e =
        let below = below_more n (n + 1) said h (omega arith) in
        next_line n Schedule next (with_schedule said n) refl (record { limit = below.limit; placed = below.placed; rising = below.rising }) (cc)
    alone false e =
        let read = onto_ok Statements _ next e in
        next_line n Statements next read.0 refl (object_below n said read.0 _ h read.1) read.2
statement_placed n said (name ∷ most ∷ []) next h e =
    either_placed n (is_word name (codes "limit")) (is_word name (codes "job")) (limit_said said (number_of most)) (job_said n said (number_of most)) next
    (λ new. limit_below n said new _ h) (λ new. job_below n said new _ h) e
statement_placed n said (name ∷ mark ∷ form ∷ []) next h e = opened_placed n said (mark_named name mark) (body_named form) next h e
statement_placed n said (name ∷ job ∷ program ∷ word ∷ handles) next h e =
    either_placed n (is_word name (codes "policy") && is_empty handles) (is_word name (codes "process"))
    (policy_said n said (number_of job) (condition_named program) (action_named word))
    (process_said n said (number_of job) (number_of program) (number_of word) (handles_of handles)) next
    (λ new. policy_below n said new _ _ _ h) (λ new. process_below n said new _ _ _ _ h) e

program_below : (n : ℕ) (said new : Scenario) (checked : Bool) (bytes : Result (List ℕ) Cause) → IsBelow n said → program_said said checked bytes ≡ Ok new
    → IsBelow n new
unfolding program_said
program_below n said new checked (Ok bytes) h e =
    subst (IsBelow n) (if_ok (ltb (length said.programs) MOST_PROGRAMS) (with_program said checked bytes) new cause.Limit e).1
    (record { limit = h.limit; placed = h.placed; rising = h.rising })
program_below n said new checked (Err c) h e = absurd (cc)

body_placed : (n opened : ℕ) (said : Scenario) (checked : Bool) (r : Result Body Cause) (next : Place) → IsBelow opened said → opened ≤ n
    → onto_block said opened checked r ≡ Ok next → IsPlaced (n + 1) next
body_placed n opened said checked (Ok body) next h before e =
    let same : at said (Block opened checked body) ≡ next = cc in subst (IsPlaced (n + 1)) same (record { below = h; told = omega arith })
body_placed n opened said checked (Err c) next h before e = absurd (cc)

block_placed : (n opened : ℕ) (said : Scenario) (checked : Bool) (body : Body) (line : List ℕ) (words : List (List ℕ)) (next : Place)
    → IsBelow opened said → opened ≤ n → block_said said opened checked body line words ≡ Ok next → IsPlaced (n + 1) next
unfolding block_said
block_placed n opened said checked body line words next h before e = go _ e
  where
    go : (t : Bool) → cond t (onto Statements (program_said said checked (bytes_said body))) (onto_block said opened checked (body_said body line)) ≡ Ok next
        → IsPlaced (n + 1) next
    go true e =
        let read = onto_ok Statements _ next e in
        next_line n Statements next read.0 refl (below_more opened (n + 1) read.0 (program_below opened said read.0 checked _ h read.1) (omega arith)) read.2
    go false e = body_placed n opened said checked _ next h before e

pair_below : (n : ℕ) (said new : Scenario) (pid count : Option ℕ) → IsBelow n said → pair_said said pid count ≡ Ok new → IsBelow n new
unfolding pair_said
pair_below n said new (Some pid) (Some count) h e = subst (IsBelow n) (if_ok _ _ new _ e).1 (record { limit = h.limit; placed = h.placed; rising = h.rising })
pair_below n said new (Some pid) None h e = absurd (cc)
pair_below n said new None count h e = absurd (cc)

turns_below : (n : ℕ) (said new : Scenario) (words : List (List ℕ)) → IsBelow n said → turns_said said words ≡ Ok new → IsBelow n new
unfolding turns_said
turns_below n said new [] h e = let same : said ≡ new = cc in subst (IsBelow n) same h
turns_below n said new (pid ∷ []) h e = absurd (cc)
turns_below n said new (pid ∷ count ∷ []) h e = pair_below n said new _ _ h e
turns_below n said new (pid ∷ count ∷ more ∷ rest) h e = absurd (cc)

-- ---- one line, and all lines

part_placed : (n : ℕ) (said : Scenario) (part : Part) (line : List ℕ) (words : List (List ℕ)) (next : Place) → IsPlaced n (at said part)
    → part_said n said part line words ≡ Ok next → IsPlaced (n + 1) next
part_placed n said Statements line words next h e = statement_placed n said words next h.below e
part_placed n said (Block opened checked body) line words next h e = block_placed n opened said checked body line words next h.below h.told e
part_placed n said Schedule line words next h e =
    let read = onto_ok Schedule _ next e in
    next_line n Schedule next read.0 refl (below_more n (n + 1) read.0 (turns_below n said read.0 words h.below read.1) (omega arith)) read.2

-- a line that says nothing
same_placed : (n : ℕ) (said : Scenario) (part : Part) → IsPlaced n (at said part) → IsPlaced (n + 1) (at said part)
same_placed n said Statements h = record { below = below_more n (n + 1) said h.below (omega arith); told = omega arith }
same_placed n said (Block opened checked body) h = record { below = h.below; told = omega (arith, h.told) }
same_placed n said Schedule h = record { below = below_more n (n + 1) said h.below (omega arith); told = omega arith }

line_placed : (n : ℕ) (place : Place) (line : List ℕ) (next : Place) → IsPlaced n place → line_said n place line ≡ Ok next → IsPlaced (n + 1) next
unfolding line_said
line_placed n place line next h e = go _ (then_ok _ _ next _ e)
  where
    go : (t : Bool) → cond t (Ok place) (part_said n place.said place.part line (words_of line)) ≡ Ok next → IsPlaced (n + 1) next
    go true e = let same : place ≡ next = cc in subst (IsPlaced (n + 1)) same (same_placed n place.said place.part h)
    go false e = part_placed n place.said place.part line _ next h e

refused_in_order : (n : ℕ) (place : Place) (c : Cause) → IsPlaced n place → IsInOrder (refused_at place.said (told_line n place.part) c)
refused_in_order n place c h =
    record { limit = h.below.limit; placed = h.below.placed; rising = (told_line n place.part, h.below.rising); before_fault = h.below.rising }

end_in_order : (n : ℕ) (said : Scenario) (part : Part) → IsPlaced n (at said part) → IsInOrder (record { said = said; fault = fault_at_end part })
end_in_order n said Statements h = record { limit = h.below.limit; placed = h.below.placed; rising = (n, h.below.rising); before_fault = tt }
end_in_order n said (Block opened checked body) h =
    record { limit = h.below.limit; placed = h.below.placed; rising = (opened, h.below.rising); before_fault = h.below.rising }
end_in_order n said Schedule h = record { limit = h.below.limit; placed = h.below.placed; rising = (n, h.below.rising); before_fault = tt }

read_in_order : (n : ℕ) (place : Place) (lines : List (List ℕ)) (reading : Reading) → Reads n place lines reading → IsPlaced n place → IsInOrder reading
read_in_order _ _ _ _ (at_end n place) h = end_in_order n place.said place.part h
read_in_order _ _ _ _ (line_taken n place next line lines reading said passed more) h =
    read_in_order (n + 1) next lines reading more (line_placed n place line next h said)
read_in_order _ _ _ _ (line_faulty n place line lines c said passed) h = refused_in_order n place c h
read_in_order _ _ _ _ (program_refused n place line lines stopped) h = refused_in_order n place cause.Check h

-- every text
pub text_in_order : (text : List ℕ) (reading : Reading) → IsRead text reading → IsInOrder reading
text_in_order text reading read =
    read_in_order 1 start (lines_of text) reading read
    (record { below = record { limit = omega arith; placed = refl; rising = omega arith }; told = omega arith })
