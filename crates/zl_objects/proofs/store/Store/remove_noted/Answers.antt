use Rattle.zl_objects.proofs.Common.{LetsGo, Map, Object, Option, [], ap, arith, ending_waits, filter, is_entry_there, keeper_of, named_in, nat_lt}
use Rattle.zl_objects.proofs.Common.{option_to_list, queue_held, refl, reserved_of, sorted_without, sym, vec_capacity, without, without_ended, ℕ}
use Rattle.zl_objects.proofs.Common.{◌++◌, ◌∙◌, ◌∷◌, ◌≡◌}
use Rattle.zl_objects.proofs.Budget.{IsTaken, fewer_ending, kept_went, less_ending, less_noted, none_left_at, none_taken, one_taken}
use Rattle.zl_objects.proofs.Budget.{room_noted, taken, unkept_went}
use Rattle.zl_objects.proofs.Ending.{ended_by}
use Rattle.zl_objects.proofs.Gone.{gone_calm}
use Rattle.zl_objects.proofs.Index.{gone_indexed, left_indexed}
use Rattle.zl_objects.proofs.Kept.{left_kept}
use Rattle.zl_objects.proofs.Released.{cascaded_shorter, cascades_of, left_by}
use Rattle.zl_objects.proofs.Shedding.{sheds_none}
use Rattle.zl_objects.proofs.Unlisted.{gone_left, own_left}
use Rattle.zl_objects.proofs.store.Store.remove_noted.Goals as goal
use Rattle.zl_objects.proofs.store.Store.remove_noted.Goals.{After-let_go_body, In_default}

-- ---- it isn't there, or something keeps it

same : (c : In_default) → c.take_unkept.new.by_koid.entries ≡ c.args.self.now.by_koid.entries
same c = c.take_unkept.ensures.left ∙ none_left_at c.args.self.now.by_koid.entries c.args.koid (sym c.take_unkept.ensures.taken ∙ c.in_default.is)

pub invariant_of-self : goal.invariant_of-self
invariant_of-self c =
    rw (same c) record { kept = c.args.self.now.kept; calm = c.args.self.now.calm; indexed = c.args.self.now.indexed }

pub returns-in_default-clause-goes : goal.returns-in_default-clause-goes
returns-in_default-clause-goes c =
    let m = c.args.self.now.by_koid.entries in
    rw (same c.before) (kept_went m c.args.self.now.dying.items c.args.koid (none_taken m c.args.koid (sym c.take_unkept.ensures.taken ∙ c.in_default.is)))

pub returns-in_default-clause-less : goal.returns-in_default-clause-less
returns-in_default-clause-less c = rw (same c.before) (less_noted c.args.self.now.by_koid.entries c.args.self.now.dying.items c.args.koid)

pub returns-in_default-clause-sheds : goal.returns-in_default-clause-sheds
returns-in_default-clause-sheds c = record {
  waits = (sheds_none c.args.self.now).waits
      ∙ ap (λ (m : Map Object). filter (is_entry_there m) c.args.self.now.waits.entries.items) (sym (same c.before));
  made = refl;
  next_koid = refl;
  sleepers = refl;
}

-- ---- it goes

pub note_keeper-requires : goal.note_keeper-requires
note_keeper-requires c =
    record { room = room_noted c.args.self.now.by_koid.entries c.args.self.now.dying.items c.args.koid (vec_capacity c.args.self.now.dying) c.requires.fits }

pub end_waits-requires : goal.end_waits-requires
end_waits-requires c =
    let m = c.args.self.now.by_koid.entries in
    let was : IsTaken m c.args.koid c.in-Some.gone = taken m c.args.koid c.in-Some.gone (sym c.take_unkept.ensures.taken ∙ c.in-Some.is) in
    rw (c.take_unkept.ensures.left, was.left) (record {
      in_order = sorted_without m c.args.koid c.args.self.now.indexed.in_order;
      own = c.args.self.now.kept.listed c.args.koid ∙ rw was.there refl;
      listed = own_left c.args.koid c.args.self.now.waits.entries.items m c.args.self.now.kept.listed;
    })

pub let_go_body-requires : goal.let_go_body-requires
let_go_body-requires c =
    let m = c.args.self.now.by_koid.entries in
    let was : IsTaken m c.args.koid c.in-Some.gone = taken m c.args.koid c.in-Some.gone (sym c.take_unkept.ensures.taken ∙ c.in-Some.is) in
    let ended : c.end_waits.new.by_koid.entries ≡ ending_waits c.args.koid c.in-Some.gone (without m c.args.koid) =
    c.end_waits.ensures.ended ∙ ended_by m c.take_unkept.new.by_koid.entries c.args.koid c.in-Some.gone c.has_reserved-reserved.result
    (c.take_unkept.ensures.left ∙ was.left) c.has_reserved-reserved.ensures in
    let noted : c.note_keeper.new.dying.items ≡ c.args.self.now.dying.items ++ option_to_list (keeper_of c.in-Some.gone.body) =
    c.note_keeper.ensures.noted ∙ ap (λ (q : Option ℕ). c.args.self.now.dying.items ++ option_to_list q) c.keeper-keeper.ensures in
    record {
      fits = rw (ended, noted)
          (omega (arith, less_ending m c.args.self.now.dying.items c.args.koid c.in-Some.gone, c.requires.fits, c.note_keeper.ensures.capacity));
    }

-- the koid's object was taken out
was : (c : After-let_go_body) → IsTaken c.args.self.now.by_koid.entries c.args.koid c.in-Some.gone
was c = taken c.args.self.now.by_koid.entries c.args.koid c.in-Some.gone (sym c.take_unkept.ensures.taken ∙ c.in-Some.is)

ended : (c : After-let_go_body) → c.end_waits.new.by_koid.entries
    ≡ ending_waits c.args.koid c.in-Some.gone (without c.args.self.now.by_koid.entries c.args.koid)
ended c = c.end_waits.ensures.ended ∙ ended_by c.args.self.now.by_koid.entries c.take_unkept.new.by_koid.entries c.args.koid c.in-Some.gone
    c.has_reserved-reserved.result (c.take_unkept.ensures.left ∙ (was c).left) c.has_reserved-reserved.ensures

went : (c : After-let_go_body) → LetsGo (named_in (queue_held c.in-Some.gone.body))
    (ending_waits c.args.koid c.in-Some.gone (without c.args.self.now.by_koid.entries c.args.koid))
    (c.args.self.now.dying.items ++ option_to_list (keeper_of c.in-Some.gone.body)) c.let_go_body.new.by_koid.entries c.let_go_body.new.dying.items
went c =
    let noted : c.note_keeper.new.dying.items ≡ c.args.self.now.dying.items ++ option_to_list (keeper_of c.in-Some.gone.body) =
    c.note_keeper.ensures.noted ∙ ap (λ (q : Option ℕ). c.args.self.now.dying.items ++ option_to_list q) c.keeper-keeper.ensures in
    rw (ended c, noted) at c.let_go_body.ensures.goes

goes : (c : After-let_go_body) → LetsGo [] c.args.self.now.by_koid.entries (c.args.self.now.dying.items ++ c.args.koid ∷ [])
    c.let_go_body.new.by_koid.entries c.let_go_body.new.dying.items
goes c = unkept_went c.args.self.now.by_koid.entries c.args.self.now.dying.items c.args.koid c.in-Some.gone c.let_go_body.new.by_koid.entries
    c.let_go_body.new.dying.items (was c).there (was c).unkept
    (one_taken c.args.self.now.by_koid.entries c.args.koid c.take_unkept.new.by_koid.entries c.take_unkept.result c.in-Some.gone c.take_unkept.ensures.left
    (was c) c.in-Some.is c.take_unkept.ensures.count) (went c)

waits : (c : After-let_go_body) → c.end_waits.new.waits.entries.items
    ≡ filter (is_entry_there c.let_go_body.new.by_koid.entries) c.args.self.now.waits.entries.items
waits c =
    let list = c.args.self.now.waits.entries.items in
    let unlisted : c.end_waits.new.waits.entries.items ≡ without_ended c.args.koid (nat_lt 0 (reserved_of c.in-Some.gone.body)) list =
    c.end_waits.ensures.entries ∙ ap (λ b. without_ended c.args.koid b list) c.has_reserved-reserved.ensures in
    gone_left c.args.self.now.by_koid.entries c.let_go_body.new.by_koid.entries list c.end_waits.new.waits.entries.items c.args.koid c.in-Some.gone
    c.args.self.now.kept.listed unlisted (rw (ended c) at c.let_go_body.ensures.still.waits)
    (cascades_of (named_in (queue_held c.in-Some.gone.body)) _ _ _ _ (went c)) ((goes c).places c.args.self.now.kept.whole.places)

pub invariant_of-self-2 : goal.invariant_of-self-2
invariant_of-self-2 c = record {
  kept = left_kept (left_by (goes c)) c.args.self.now.kept (c.let_go_body.ensures.capacity ∙ c.note_keeper.ensures.capacity) (waits c);
  calm = c.let_go_body.ensures.still.calm _ _ _ (gone_calm _ c.end_waits.new.by_koid.entries c.args.koid c.in-Some.gone c.args.self.now.indexed
      (was c).there (ended c) c.mark_watched.ensures.more c.mark_watched-2.ensures.more (rw c.keeper-keeper.ensures at c.mark_watched.ensures.wanted)
      (rw c.peer-peer.ensures at c.mark_watched-2.ensures.wanted) _ _ c.args.self.now.calm);
  indexed = left_indexed (named_in (queue_held c.in-Some.gone.body)) (gone_indexed c.args.koid c.in-Some.gone c.args.self.now.indexed c.remove.ensures
      (ended c)) (cascades_of (named_in (queue_held c.in-Some.gone.body)) _ _ _ _ c.let_go_body.ensures.goes);
}

pub returns : goal.returns
returns c = record {
  goes = goes c.before;
  less = omega (
    arith,
    less_ending c.args.self.now.by_koid.entries c.args.self.now.dying.items c.args.koid c.in-Some.gone,
    (went c.before).cheap,
    fewer_ending c.args.self.now.by_koid.entries c.args.self.now.dying.items c.args.koid c.in-Some.gone (was c.before).there,
    cascaded_shorter (named_in (queue_held c.in-Some.gone.body))
        (ending_waits c.args.koid c.in-Some.gone (without c.args.self.now.by_koid.entries c.args.koid)) c.let_go_body.new.by_koid.entries
        (cascades_of (named_in (queue_held c.in-Some.gone.body)) _ _ _ _ (went c.before)),
  );
  capacity = c.let_go_body.ensures.capacity ∙ c.note_keeper.ensures.capacity;
  sheds = record { waits = waits c.before; made = c.end_waits.ensures.made; next_koid = refl; sleepers = refl };
}
