use Rattle.zlab.proofs.Common.{[], on_err, sym, ◌++◌, ◌∙◌, ◌≡◌}
use Rattle.std.specs.Prelude.{string_bytes}
use Rattle.zl_explore.specs.Bad.{NamesEnd}
use Rattle.zlab.proofs.SearchText.{when_ok}
use Rattle.zlab.specs.Ends.{PushesEnd, bad_line, good_end, good_end_begun, named_end, named_end_begun, no_end_written}
use Rattle.zlab.proofs.ends.write_end.Goals as goal

pub returns-then-is_err-clause-ok : goal.returns-then-is_err-clause-ok
returns-then-is_err-clause-ok g c =
    let told = c.in_ok-write_memory.ensures {u = tt} in
    rw told.verdict (no_end_written told.ok)

pub returns-in_err-write_all-clause-err : goal.returns-in_err-write_all-clause-err
returns-in_err-write_all-clause-err g c =
    let pushes : PushesEnd c.args.limit c.args.end.now [] (string_bytes c.push_end.new.text) =
    rw c.clear.ensures.bytes at (when_ok c.push_end.result (sym c.is_err.ensures.value ∙ c.if-is_err.false) c.push_end.ensures) in
    on_err c.from_residual-in_err-write_all.result
    (good_end_begun (string_bytes c.push_end.new.text) pushes (rw c.as_bytes.ensures.value at (c.in_err-write_all.ensures {u = tt}).err))

pub returns-in_default-clause-ok : goal.returns-in_default-clause-ok
returns-in_default-clause-ok g c =
    let pushes : PushesEnd c.args.limit c.args.end.now [] (string_bytes c.push_end.new.text) =
    rw c.clear.ensures.bytes at (when_ok c.push_end.result (sym c.is_err.ensures.value ∙ c.if-is_err.false) c.push_end.ensures) in
    good_end (string_bytes c.push_end.new.text) pushes (rw (c.bad.ensures, c.deref.ensures.value) at c.in_default.ensures.none)
    (rw c.as_bytes.ensures.value at (c.in_ok-write_all.ensures {u = tt}).ok)

pub returns-then-is_err-2-clause-ok : goal.returns-then-is_err-2-clause-ok
returns-then-is_err-2-clause-ok g c =
    let told = c.in_ok-write_memory-2.ensures {u = tt} in
    rw told.verdict (no_end_written told.ok)

pub returns-in_err-write_all-2-clause-err : goal.returns-in_err-write_all-2-clause-err
returns-in_err-write_all-2-clause-err g c =
    let pushes : PushesEnd c.args.limit c.args.end.now [] (string_bytes c.push_end.new.text) =
    rw c.clear.ensures.bytes at (when_ok c.push_end.result (sym c.is_err.ensures.value ∙ c.if-is_err.false) c.push_end.ensures) in
    let is : string_bytes c.push_bad.new.text ≡ string_bytes c.push_end.new.text ++ bad_line c.in-Some.bad =
    when_ok c.push_bad.result (sym c.is_err-2.ensures.value ∙ c.if-is_err-2.false) c.push_bad.ensures in
    let names : NamesEnd c.args.search.now.bad c.args.end.now.states.items c.in-Some.bad =
    rw (c.bad.ensures, c.deref.ensures.value) at (c.in-Some.ensures {u = tt}).some in
    on_err c.from_residual-in_err-write_all-2.result
    (named_end_begun (string_bytes c.push_end.new.text) pushes c.in-Some.bad names
    (rw (c.as_bytes-2.ensures.value, is) at (c.in_err-write_all-2.ensures {u = tt}).err))

pub returns-clause-ok : goal.returns-clause-ok
returns-clause-ok g c =
    let pushes : PushesEnd c.args.limit c.args.end.now [] (string_bytes c.push_end.new.text) =
    rw c.clear.ensures.bytes at (when_ok c.push_end.result (sym c.is_err.ensures.value ∙ c.if-is_err.false) c.push_end.ensures) in
    let is : string_bytes c.push_bad.new.text ≡ string_bytes c.push_end.new.text ++ bad_line c.in-Some.bad =
    when_ok c.push_bad.result (sym c.is_err-2.ensures.value ∙ c.if-is_err-2.false) c.push_bad.ensures in
    let names : NamesEnd c.args.search.now.bad c.args.end.now.states.items c.in-Some.bad =
    rw (c.bad.ensures, c.deref.ensures.value) at (c.in-Some.ensures {u = tt}).some in
    named_end (string_bytes c.push_end.new.text) pushes c.in-Some.bad names
    (rw (c.as_bytes-2.ensures.value, is) at (c.in_ok-write_all-2.ensures {u = tt}).ok)
