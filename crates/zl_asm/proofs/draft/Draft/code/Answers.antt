use Rattle.zl_asm.proofs.Common.{List, SourceLine, ap, arith, held_by, inl, inr, kept_value, length, length-map, sources_shown, sym}
use Rattle.zl_asm.proofs.DraftGives.{resolves_none, resolves_at, resolves_all, resolves_few, unfit_at}
use Rattle.zl_asm.proofs.draft.Draft.code.Goals as goal

pub loop-entry-init : goal.loop-entry-init
loop-entry-init c = rw c.new-code.ensures.items (resolves_none (held_by c.args.self.now))

pub returns-in-Err-clause-refused : goal.returns-in-Err-clause-refused
returns-in-Err-clause-refused c =
    let at = (c.in-Some.ensures {u = tt}).lookup in
    let shown = ap (λ (l : List SourceLine). sources_shown l) (sym c.deref.ensures.value) in
    elim ((c.in-Err.ensures {u = tt}).refused) [
      | inl starved ↦ inl starved
      | inr unfit ↦ inr (unfit_at (held_by c.args.self.now) c.deref.result.now c.len.result c.in-Some.entry.now shown at.3.0 at.1
          (rw (c.version-version.ensures, c.is_raw-raw.ensures) at unfit))
    ]

pub loop-entry-preserved : goal.loop-entry-preserved
loop-entry-preserved c =
    let at = (c.in-Some.ensures {u = tt}).lookup in
    let shown = ap (λ (l : List SourceLine). sources_shown l) (sym c.deref.ensures.value) in
    resolves_at (held_by c.args.self.now) c.deref.result.now c.len.result c.in-Some.entry.now c.loop-entry.code.items c.push_kept.new.code.items shown at.3.0
    at.1 (omega (arith, c.len.ensures)) c.loop-entry.invariant (rw (c.version-version.ensures, c.is_raw-raw.ensures) at
    (c.in_default-push_kept.ensures {u = tt}).pushed)

pub returns-clause-whole : goal.returns-clause-whole
returns-clause-whole c =
    let past = (c.in_default.ensures {u = tt}).lookup in
    resolves_all (held_by c.args.self.now) c.loop-entry.code.items c.loop-entry.invariant
    (omega (
      arith,
      past.3,
      c.len.ensures,
      ap length c.deref.ensures.value,
      length-map c.args.self.now.sources.items (λ (s : SourceLine). kept_value s.kept),
    ))

pub returns-clause-few : goal.returns-clause-few
returns-clause-few c =
    let below = resolves_few (held_by c.args.self.now) c.loop-entry.code.items c.loop-entry.invariant in
    omega (arith, below, c.args.self.now.few, length-map c.args.self.now.sources.items (λ (s : SourceLine). kept_value s.kept))
