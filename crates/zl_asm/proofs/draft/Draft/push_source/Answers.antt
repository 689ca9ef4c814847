use Rattle.zl_asm.proofs.Common.{SourceLine, ap, arith, held_by, inr, kept_value, length-map, option_map, refl, source_value}
use Rattle.zl_asm.proofs.DraftAdds.{source_added}
use Rattle.zl_asm.proofs.DraftRefuses.{count_refused, fault_refused}
use Rattle.zl_asm.proofs.draft.Draft.push_source.Goals as goal

pub returns-then-len-ge-MOST_INSTRUCTIONS-clause-refused : goal.returns-then-len-ge-MOST_INSTRUCTIONS-clause-refused
returns-then-len-ge-MOST_INSTRUCTIONS-clause-refused c =
    inr (count_refused (held_by c.args.self.now) (source_value c.args.source)
    (omega (arith, length-map c.args.self.now.sources.items (λ (s : SourceLine). kept_value s.kept))))

pub returns-in-Err-clause-refused : goal.returns-in-Err-clause-refused
returns-in-Err-clause-refused c =
    let fault = (c.in-Err.ensures {u = tt}).refused in
    inr (fault_refused (held_by c.args.self.now) (source_value c.args.source) (ap (option_map (λ name. name.now)) fault.0) (rw
    (c.version.ensures, c.is_raw.ensures) at fault.1))

pub returns-in_ok-extend_from_slice-in-Ok-clause-held : goal.returns-in_ok-extend_from_slice-in-Ok-clause-held
returns-in_ok-extend_from_slice-in-Ok-clause-held c =
    source_added (held_by c.args.self.now) c.args.self.now.sources.items c.extend_from_slice.new.self.items
    (record { line = c.args.line; last = c.args.last; kept = c.in-Ok.kept }) (source_value c.args.source)
    (c.in_ok-extend_from_slice-in-Ok.ensures {u = tt}).items refl
    (c.in-Ok.ensures {u = tt}).same
