-- One statement after another: what was made is what the definitions make, up to the first fault.
use Rattle.zl_calls.proofs.Common.{All, All-head, All-nil, All-tail, AllByRecursion, BootCause, Boots, FirstFault, IsCauseOf, IsMaking, IsReached, IsTrue}
use Rattle.zl_calls.proofs.Common.{Library, List, MOST_ITEMS, Made, Makes, None, Option, Process, Settles, Settles-exists, Settles-unique}
use Rattle.zl_calls.proofs.Common.{Some, Statement, World, [], ap, arith, at_limit, at_statement, boot_effect, boot_fault, free_entry, get_or}
use Rattle.zl_calls.proofs.Common.{length, map, may_boot, most_word, origin, process_entry, refl, root_alone, seen, settled}
use Rattle.zl_calls.proofs.Common.{slice_get-get_or, sym, take, take_all, take_more, word_of, ℕ, ◌++◌, ◌+◌, ◌<◌, ◌∙◌, ◌∷◌, ◌≡◌, ◌≢◌, ◌≤◌}
use Rattle.zl_code.specs.declared.boot.BootCause.TheVariants as cause
use Rattle.zl_code.specs.OwnBoot.{fresh_free, own_boot, own_given, own_made}
use Rattle.zl_calls.specs.Makes.{IsFresh, own_seen}
use Rattle.zl_calls.proofs.boot.BootMaking.{starts_making}

-- the statements made this
pub record IsMadeBy (lib : Library) (done : List Statement) (made : Made) : Type 0 where
  pub boots : Boots lib origin done (seen made)
  pub making : IsMaking made.processes.items [] made.objects
  pub words : AllByRecursion (λ s. word_of s ≤ most_word) done
  pub own : seen made ≡ own_made lib origin done
  pub fresh : All IsFresh made.processes.items

boots_more : (lib : Library) (w w2 w3 : World) (ss : List Statement) (s : Statement) (vs : List ℕ) → Boots lib w ss w2
    → boot_fault lib w2 s ≡ None → IsTrue (may_boot lib w2 s vs) → w3 ≡ boot_effect lib w2 s vs → Boots lib w (ss ++ s ∷ []) w3
boots_more lib w w2 w3 [] s vs so_far no_fault chosen effect = (vs, rw so_far at no_fault, rw so_far at chosen, rw so_far at effect)
boots_more lib w w2 w3 (t ∷ ss) s vs (xs, fine, may, rest) no_fault chosen effect =
    (xs, fine, may, boots_more lib (boot_effect lib w t xs) w2 w3 ss s vs rest no_fault chosen effect)

pub none_made : (lib : Library) (made : Made) → made.processes.items ≡ [] → made.objects ≡ root_alone → IsMadeBy lib [] made
unfolding own_made
none_made lib made none root = record {
  boots = rw (none, root) refl;
  making = rw (none, root) starts_making;
  words = tt;
  own = rw (none, root) refl;
  fresh = rw none (All-nil IsFresh);
}

own_more : (lib : Library) (w : World) (ss : List Statement) (s : Statement) → own_made lib w (ss ++ s ∷ [])
    ≡ boot_effect lib (own_made lib w ss) s (own_given s)
unfolding own_made
own_more lib w [] s = refl
own_more lib w (t ∷ ss) s = own_more lib (boot_effect lib w t (own_given t)) ss s

small_more : (ss : List Statement) (s : Statement) → AllByRecursion (λ x. word_of x ≤ most_word) ss → word_of s ≤ most_word
    → AllByRecursion (λ x. word_of x ≤ most_word) (ss ++ s ∷ [])
small_more [] s all one = (one, tt)
small_more (t ∷ ss) s (first, all) one = (first, small_more ss s all one)

pub one_more : (lib : Library) (ss : List Statement) (i : ℕ) (d : Statement) (before after : Made) → i < length ss → IsMadeBy lib (take i ss) before
    → Makes lib (get_or ss i d) before after → word_of (get_or ss i d) ≤ most_word → IsMadeBy lib (take (i + 1) ss) after
one_more lib ss i d before after lt so_far makes small = record {
  boots = rw (take_more ss i d lt)
      (boots_more lib origin (seen before) (seen after) (take i ss) (get_or ss i d) makes.values so_far.boots makes.no_fault makes.chosen makes.effect);
  making = makes.making;
  words = rw (take_more ss i d lt) (small_more (take i ss) (get_or ss i d) so_far.words small);
  own = rw (take_more ss i d lt) (makes.effect ∙ ((λ k. boot_effect lib (so_far.own k) (get_or ss i d) (makes.own k))
      ∙ sym (own_more lib origin (take i ss) (get_or ss i d))));
  fresh = makes.fresh so_far.fresh;
}

-- all of them were made
pub all_small : (lib : Library) (ss : List Statement) (i : ℕ) (made : Made) → length ss ≤ i → IsMadeBy lib (take i ss) made
    → AllByRecursion (λ x. word_of x ≤ most_word) ss
all_small lib ss i made all so_far = rw take_all at so_far.words

-- ---- the own boot world

-- a ready process has its own values
fresh_values : (ps : List Process) → All IsFresh ps
    → map free_entry ps ≡ map (λ e. (e.0, record { freed = []; made = length e.1.handles })) (map process_entry ps)
fresh_values [] all = refl
fresh_values (p ∷ ps) all =
    let first = All-head IsFresh p ps all in
    let value : free_entry p ≡ (p.pid, record { freed = []; made = length p.table.entries }) = rw (first.ready, first.free) refl in
    λ i. value i ∷ fresh_values ps (All-tail IsFresh p ps all) i

-- what was made is the own boot world, once what isn't held is gone
pub own_booted : (lib : Library) (ss : List Statement) (i : ℕ) (made new : Made) → length ss ≤ i → IsMadeBy lib (take i ss) made
    → Settles (seen made) (seen new) → new.processes.items ≡ made.processes.items → own_seen new ≡ own_boot lib ss
own_booted lib ss i made new all so_far settles same = λ k. record { world = world k; free = (free ∙ ap fresh_free world) k }
  where
    world : seen new ≡ settled (own_made lib origin ss)
    world = Settles-unique (seen made) (seen new) (settled (seen made)) settles (Settles-exists (seen made)) ∙ ap settled (rw take_all at so_far.own)

    free : map free_entry new.processes.items ≡ fresh_free (seen new)
    free = rw same (fresh_values made.processes.items so_far.fresh)

-- ---- faults

pub first_fault : (lib : Library) (ss : List Statement) (limit i : ℕ) (d : Statement) (made : Made) (c : BootCause) → i < length ss
    → IsMadeBy lib (take i ss) made → IsCauseOf (boot_fault lib (seen made) (get_or ss i d)) c → c ≢ cause.NoMemory → FirstFault lib ss limit i c
first_fault lib ss limit i d made c lt so_far causes other = by_fault (boot_fault lib (seen made) (get_or ss i d)) refl causes
  where
    by_fault : (o : Option BootCause) → boot_fault lib (seen made) (get_or ss i d) ≡ o → IsCauseOf o c → FirstFault lib ss limit i c
    by_fault None is wants = absurd (other wants)
    by_fault (Some found) is same =
        at_statement (seen made) i (get_or ss i d) c so_far.boots (slice_get-get_or ss i d lt) (is ∙ ap (λ (x : BootCause). Some x) (sym same))

pub limit_fault : (lib : Library) (ss : List Statement) (limit i : ℕ) (made : Made) → length ss ≤ i → IsMadeBy lib (take i ss) made → MOST_ITEMS < limit
    → FirstFault lib ss limit (length ss) cause.Limit
limit_fault lib ss limit i made all so_far above = at_limit (seen made) (rw take_all at so_far.boots) above

-- ---- the statements before a fault

pub none_reached : (lib : Library) (ss : List Statement) → IsReached lib ss 0
none_reached lib ss = record { made = origin; boots = refl; place = omega arith }

pub some_reached : (lib : Library) (ss : List Statement) (i : ℕ) (made : Made) → i < length ss → IsMadeBy lib (take i ss) made → IsReached lib ss i
some_reached lib ss i made lt so_far = record { made = seen made; boots = so_far.boots; place = omega arith }
