use Rattle.zlab.proofs.Answering.{both_ok, mapped_err, mapped_ok}
use Rattle.zlab.proofs.Common.{ap, on_err, ◌∙◌, ◌≡◌}
use Rattle.zl_code.proofs.Common.{false}
use Rattle.zl_explore.specs.Searching.{Search}
use Rattle.zlab.specs.Ends.{Sought, sought}
use Rattle.zlab.proofs.SearchText.{closes_turn, closes_world, end_begins, end_goes, end_written, last_begun, last_written, says_all, says_cut}
use Rattle.zlab.proofs.SearchText.{turns_begin, turns_written, wrote_none}
use Rattle.zlab.specs.declared.fault.Verdict.TheVariants as verdict
use Rattle.zlab.proofs.ends.write_found.Goals as goal

-- what is sought stays
stays : (old new : Search) → new.bad ≡ old.bad → new.never ≡ old.never → new.part ≡ old.part → new.most ≡ old.most → sought new ≡ sought old
stays old new bad never part most i = record { bad = bad i; never = never i; part = part i; most = most i }

pub loop-end-init : goal.loop-end-init
loop-end-init g c = λ m still began. wrote_none m c.args.limit c.args.search.now _ began c.requires

pub loop-end-preserved : goal.loop-end-preserved
loop-end-preserved g c = λ m still began.
    let told = c.in-End.ensures {u = tt} in
    let wrote = c.loop-end.invariant m still began in
    let same = stays c.loop-end.search c.next_end.new.self told.bad told.never told.part told.most in
    end_goes m (sought c.args.search.now) c.args.limit c.loop-end.search _ _ wrote c.next_end.new.self c.in-End.end still told.root same told.told
    told.leads c.ends-ends.result c.ends-ends.ensures c.next_end.new.self.worlds c.next_end.new.self.bad (ap (λ (x : Sought). x.bad) (same ∙ wrote.same)) _
    (rw c.in_default.is at (c.in_ok-verdict.ensures {u = tt}).ok)

pub loop-end-smaller : goal.loop-end-smaller
loop-end-smaller g c = (c.in-End.ensures {u = tt}).left

pub returns-in-Some-clause-ok : goal.returns-in-Some-clause-ok
returns-in-Some-clause-ok g c = λ m still began.
    let told = c.in-End.ensures {u = tt} in
    let wrote = c.loop-end.invariant m still began in
    let same = stays c.loop-end.search c.next_end.new.self told.bad told.never told.part told.most in
    end_written m (sought c.args.search.now) c.args.limit c.loop-end.search _ _ wrote c.next_end.new.self c.in-End.end still told.root same told.told
    told.leads c.ends-ends.result c.ends-ends.ensures c.next_end.new.self.worlds c.next_end.new.self.bad (ap (λ (x : Sought). x.bad) (same ∙ wrote.same)) _
    c.in-Some.verdict (rw c.in-Some.is at (c.in_ok-verdict.ensures {u = tt}).ok)

pub returns-in_err-verdict-clause-err : goal.returns-in_err-verdict-clause-err
returns-in_err-verdict-clause-err g c =
    let told = c.in-End.ensures {u = tt} in
    let same = stays c.loop-end.search c.next_end.new.self told.bad told.never told.part told.most in
    on_err c.from_residual.result (λ m still began.
    let wrote = c.loop-end.invariant m still began in
    end_begins m (sought c.args.search.now) c.args.limit c.loop-end.search _ _ wrote c.next_end.new.self c.in-End.end still told.root same told.told
    told.leads c.ends-ends.result c.ends-ends.ensures c.next_end.new.self.worlds c.next_end.new.self.bad (ap (λ (x : Sought). x.bad) (same ∙ wrote.same)) _
    (c.in_err-verdict.ensures {u = tt}).err)

pub returns-in-Bad-clause-ok : goal.returns-in-Bad-clause-ok
returns-in-Bad-clause-ok g c = mapped_ok c.write_turn.result _ _
    (λ v turned m still began. let wrote = c.loop-end.invariant m still began in
    turns_written m (sought c.args.search.now) c.args.limit c.loop-end.search _ _ wrote _ _
    (closes_turn m (sought c.args.search.now) c.args.limit c.loop-end.search _ _ wrote c.in-Bad.turn still (c.in-Bad.ensures {u = tt}).leads)
    c.ends-ends.result c.ends-ends.ensures _ _ v turned) c.write_turn.ensures.ok

pub returns-in-Bad-clause-err : goal.returns-in-Bad-clause-err
returns-in-Bad-clause-err g c = mapped_err c.write_turn.result _ _
    (λ begun m still began. let wrote = c.loop-end.invariant m still began in
    turns_begin m (sought c.args.search.now) c.args.limit c.loop-end.search _ _ wrote _ _
    (closes_turn m (sought c.args.search.now) c.args.limit c.loop-end.search _ _ wrote c.in-Bad.turn still (c.in-Bad.ensures {u = tt}).leads)
    c.ends-ends.result c.ends-ends.ensures _ _ begun) c.write_turn.ensures.err

pub returns-in-BadWorld-clause-ok : goal.returns-in-BadWorld-clause-ok
returns-in-BadWorld-clause-ok g c = mapped_ok c.write_world.result _ _
    (λ v turned m still began. let wrote = c.loop-end.invariant m still began in
    turns_written m (sought c.args.search.now) c.args.limit c.loop-end.search _ _ wrote _ _
    (closes_world m (sought c.args.search.now) c.args.limit c.loop-end.search _ _ wrote c.in-BadWorld.at still (c.in-BadWorld.ensures {u = tt}).leads)
    c.ends-ends.result c.ends-ends.ensures _ _ v turned) c.write_world.ensures.ok

pub returns-in-BadWorld-clause-err : goal.returns-in-BadWorld-clause-err
returns-in-BadWorld-clause-err g c = mapped_err c.write_world.result _ _
    (λ begun m still began. let wrote = c.loop-end.invariant m still began in
    turns_begin m (sought c.args.search.now) c.args.limit c.loop-end.search _ _ wrote _ _
    (closes_world m (sought c.args.search.now) c.args.limit c.loop-end.search _ _ wrote c.in-BadWorld.at still (c.in-BadWorld.ensures {u = tt}).leads)
    c.ends-ends.result c.ends-ends.ensures _ _ begun) c.write_world.ensures.err

pub returns-in-All-clause-ok : goal.returns-in-All-clause-ok
returns-in-All-clause-ok g c =
    let told = c.in-All.ensures {u = tt} in
    let same = stays c.loop-end.search c.next_end.new.self told.bad told.never told.part told.most in
    both_ok c.write_last.result _ _ _
    (λ v is last m still began. rw is (
    let wrote = c.loop-end.invariant m still began in
    last_written m (sought c.args.search.now) c.args.limit c.loop-end.search _ _ wrote c.ends-ends.result c.ends-ends.ensures
    verdict.Done c.in-All.endless _ (says_all m (sought c.args.search.now) c.args.limit c.loop-end.search _ _ wrote c.next_end.new.self still
    told.root told.told same c.next_end.new.self.worlds c.in-All.endless told.known told.all told.none told.clear told.endless) _ last))
    c.write_last.ensures.verdict c.write_last.ensures.ok

pub returns-in-All-clause-err : goal.returns-in-All-clause-err
returns-in-All-clause-err g c =
    let told = c.in-All.ensures {u = tt} in
    let same = stays c.loop-end.search c.next_end.new.self told.bad told.never told.part told.most in
    mapped_err c.write_last.result _ _
    (λ last m still began.
    let wrote = c.loop-end.invariant m still began in
    last_begun m (sought c.args.search.now) c.args.limit c.loop-end.search _ _ wrote c.ends-ends.result c.ends-ends.ensures
    verdict.Done c.in-All.endless _ (says_all m (sought c.args.search.now) c.args.limit c.loop-end.search _ _ wrote c.next_end.new.self still
    told.root told.told same c.next_end.new.self.worlds c.in-All.endless told.known told.all told.none told.clear told.endless) _ last) c.write_last.ensures.err

pub returns-in-Cut-clause-ok : goal.returns-in-Cut-clause-ok
returns-in-Cut-clause-ok g c =
    let told = c.in-Cut.ensures {u = tt} in
    let same = stays c.loop-end.search c.next_end.new.self told.bad told.never told.part told.most in
    both_ok c.write_last-in-Cut.result _ _ _
    (λ v is last m still began. rw is (
    let wrote = c.loop-end.invariant m still began in
    last_written m (sought c.args.search.now) c.args.limit c.loop-end.search _ _ wrote c.ends-ends.result c.ends-ends.ensures
    verdict.Cut false _ (says_cut m (sought c.args.search.now) c.args.limit c.loop-end.search _ _ wrote c.next_end.new.self still
    told.root told.told same told.cut) _ last)) c.write_last-in-Cut.ensures.verdict c.write_last-in-Cut.ensures.ok

pub returns-in-Cut-clause-err : goal.returns-in-Cut-clause-err
returns-in-Cut-clause-err g c =
    let told = c.in-Cut.ensures {u = tt} in
    let same = stays c.loop-end.search c.next_end.new.self told.bad told.never told.part told.most in
    mapped_err c.write_last-in-Cut.result _ _
    (λ last m still began.
    let wrote = c.loop-end.invariant m still began in
    last_begun m (sought c.args.search.now) c.args.limit c.loop-end.search _ _ wrote c.ends-ends.result c.ends-ends.ensures
    verdict.Cut false _ (says_cut m (sought c.args.search.now) c.args.limit c.loop-end.search _ _ wrote c.next_end.new.self still
    told.root told.told same told.cut) _ last) c.write_last-in-Cut.ensures.err

pub returns-in-Memory-clause-ok : goal.returns-in-Memory-clause-ok
returns-in-Memory-clause-ok g c = both_ok c.write_memory.result _ _ _
    (λ v is last m still began. rw is (last_written m (sought c.args.search.now) c.args.limit c.loop-end.search _ _ (c.loop-end.invariant m still began)
    c.ends-ends.result c.ends-ends.ensures verdict.Memory false _ tt _ last)) c.write_memory.ensures.verdict c.write_memory.ensures.ok

pub returns-in-Memory-clause-err : goal.returns-in-Memory-clause-err
returns-in-Memory-clause-err g c = mapped_err c.write_memory.result _ _
    (λ last m still began. last_begun m (sought c.args.search.now) c.args.limit c.loop-end.search _ _ (c.loop-end.invariant m still began)
    c.ends-ends.result c.ends-ends.ensures verdict.Memory false _ tt _ last) c.write_memory.ensures.err
