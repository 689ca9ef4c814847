use Rattle.zl_calls.proofs.Common.{[], refl, sym, ◌∙◌}
use Rattle.zl_calls.proofs.waits.WaitsLost.{listed_gone}
use Rattle.zl_calls.proofs.calls.handle.close.Goals as goal

pub returns-in-Some : goal.returns-in-Some
returns-in-Some g c =
    let there = sym c.take_out.ensures.entry ∙ c.in-Some.is in
    record {
      answered = rw there refl;
      table = c.take_out.ensures.table;
      objects = rw there c.release.ensures.releases;
      listed = listed_gone _ [] c.args.objects.now c.release.new.self c.release.ensures.releases c.release.ensures.listed;
    }
