use Rattle.zl_sched.proofs.Common.{List, [], ap, arith, get_or, length, refl, subst, sym, ℕ, ◌++◌, ◌-◌, ◌∙◌, ◌∷◌, ◌≡◌}
use Rattle.zl_sched.proofs.Queued.{last_stays_at, room_left}
use Rattle.zl_sched.proofs.ready.move_last.Goals as goal

pub returns-then-index-pid : goal.returns-then-index-pid
returns-then-index-pid c =
    let last : get_or c.args.ready.now.items (c.len-len.result - 1) c.args.pid ≡ c.args.pid
    = subst (λ (q : ℕ). get_or c.args.ready.now.items (c.len-len.result - 1) q ≡ q) c.if-index-pid.true (sym c.index.ensures) in
    let long : c.len-len.result ≡ length c.args.ready.now.items = omega (arith, c.len-len.ensures, c.args.ready.now.ok.0) in
    record {
      capacity = refl;
      items = last_stays_at c.args.pid c.args.ready.now.items (omega (arith, c.if-len-gt0.true, long))
          (subst (λ (n : ℕ). get_or c.args.ready.now.items (n - 1) c.args.pid ≡ c.args.pid) long last) c.requires.once;
    }

pub push_reserved-requires : goal.push_reserved-requires
push_reserved-requires c =
    omega (
      arith,
      c.requires.room,
      c.take_out.ensures.capacity,
      ap length c.take_out.ensures.items,
      room_left c.args.pid c.args.ready.now.items c.requires.once,
      c.take_out.new.ready.ok.0,
    )

pub returns : goal.returns
returns c = record {
  items = rw (c.push_reserved.ensures.items) (ap (λ (xs : List ℕ). xs ++ (c.args.pid ∷ [])) c.take_out.ensures.items);
  capacity = c.push_reserved.ensures.capacity ∙ c.take_out.ensures.capacity;
}
