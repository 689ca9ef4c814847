-- What a search has written so far.
use Rattle.zlab.proofs.Common.{Appends, AppendsBeginning, List, None, Option, Some, Verdict, [], ap, append-nil, inl, inr, length}
use Rattle.zlab.proofs.Common.{none-some, refl, subst, sym, ℕ, ◌++◌, ◌∙◌, ◌∷◌, ◌≡◌, ◌≤◌}
use Rattle.std.proofs.lemmas.List.{append_assoc}
use Rattle.zl_code.proofs.Common.{Bool, Err, Ok, OnOk, Result, false, false≢true, true, flat_map, flat_map-append, length-map, map, map-append}
use Rattle.std.specs.Result.{is_err}
use Rattle.std.proofs.KnownBytes.{Appends-nil, Appends-trans}
use Rattle.zl_calls.specs.World.{Machine, own_here}
use Rattle.zl_explore.specs.Orders.{told_in}
use Rattle.zl_explore.specs.Part.{IsOnly}
use Rattle.zl_explore.specs.Paths.{IsIn}
use Rattle.zl_explore.specs.Private.{IsStill}
use Rattle.zl_explore.specs.Bad.{IsGoodEnd, NamesEnd}
use Rattle.zl_explore.specs.Searching.{BeganWith, HasNone, IsBadOrder, IsEnd, IsKnown, Search, States}
use Rattle.zl_explore.specs.Telling.{Leads, Tells, TellsAll, TellsClear, TellsCut, TellsEndless, TellsNone, TellsPart}
use Rattle.zl_explore.specs.Sights.{IsBadWorld, StaysClear}
use Rattle.zl_explore.specs.declared.bad.Bad.{Bad}
use Rattle.zl_explore.specs.declared.ends.BadTurn.{BadTurn}
use Rattle.zl_explore.specs.declared.ends.BadWorld.{BadWorld}
use Rattle.zl_explore.specs.declared.ends.End.{End as Told}
use Rattle.zl_explore.specs.declared.fact.Fact.{Fact}
use Rattle.zl_explore.specs.declared.ends.Next.TheVariants as next
use Rattle.zl_explore.proofs.Lists.{get_either}
use Rattle.zl_explore.proofs.Private.{same_machine}
use Rattle.zl_trace.proofs.Pages.{begins_longer, begun_behind}
use Rattle.zlab.specs.Ends.{BeginsEnd, BeginsEnds, BeginsLast, BeginsTurns, Closes, End, IsEndFrom, IsSearchText, PushesEnd, PushesTurns, Says}
use Rattle.zlab.specs.Ends.{SaysAll, SaysEndless, Sought, schedule_text, together_line}
use Rattle.zlab.specs.Ends.{WritesEnd, WritesEnds, WritesLast, WritesTurns, all_turns, bad_end, bad_line, bad_turn, bad_world, counts, end_text}
use Rattle.zlab.specs.Ends.{endless_line, good_end, good_end_begun}
use Rattle.zlab.specs.Ends.{last_line, named_end, named_end_begun, no_end_begun, no_end_written, no_turns, no_turns_begun, some_ends, sought}
use Rattle.zlab.specs.Ends.{turns_begun, verdict_word}
use Rattle.zl_sched.specs.Follows.{turns_of}
use Rattle.zlab.specs.declared.fault.Verdict.TheVariants as verdict

-- the ends so far were written, no pattern names what one is in there, and the search goes on from them
pub record Wrote (m : Machine) (asked : Sought) (limit : ℕ) (s : Search) (old new : Option (List ℕ)) : Type 0 where
  pub ends : List End
  pub are_ends : (e : End) → IsIn ends e → IsEndFrom m.programs (own_here m) e
  pub good : (e : End) → IsIn ends e → IsGoodEnd asked.bad e.states
  pub told : s.told ≡ map (λ e. e.states) ends
  pub same : sought s ≡ asked
  pub began : BeganWith m s
  pub written : Appends old new (flat_map (end_text limit) ends)

-- nothing is written before the first
pub wrote_none : (m : Machine) (limit : ℕ) (s : Search) (old : Option (List ℕ)) → BeganWith m s → s.told ≡ [] → Wrote m (sought s) limit s old old
wrote_none m limit s old began none = record {
  ends = [];
  are_ends = λ e (i, there). absurd (none-some e there);
  good = λ e (i, there). absurd (none-some e there);
  told = none;
  same = refl;
  began = began;
  written = Appends-nil old;
}

module _ (m : Machine) (asked : Sought) (limit : ℕ) (s : Search) (old mid : Option (List ℕ)) (wrote : Wrote m asked limit s old mid) where
  -- the lines of a search that stops here
  text_here : (v : Verdict) (rest : List ℕ) → Closes m.programs (own_here m) asked limit wrote.ends v rest
      → IsSearchText m.programs (own_here m) asked limit v (flat_map (end_text limit) wrote.ends ++ rest)
  text_here v rest closes = record { ends = wrote.ends; are_ends = wrote.are_ends; rest = rest; closes = closes; are = refl }

  pub rest_written : (v : Verdict) (rest : List ℕ) → Closes m.programs (own_here m) asked limit wrote.ends v rest → (new : Option (List ℕ))
      → Appends mid new rest → WritesEnds m.programs (own_here m) asked limit v old new
  rest_written v rest closes new written = record {
    lines = flat_map (end_text limit) wrote.ends ++ rest;
    is_text = text_here v rest closes;
    written = Appends-trans old mid new _ _ wrote.written written;
  }

  pub rest_begun : (v : Verdict) (rest : List ℕ) → Closes m.programs (own_here m) asked limit wrote.ends v rest → (new : Option (List ℕ))
      → AppendsBeginning mid new rest → BeginsEnds m.programs (own_here m) asked limit old new
  rest_begun v rest closes new begun = some_ends v _ new (text_here v rest closes) (begun_behind old mid new _ _ wrote.written begun)

  -- so many ends were told
  module _ (count : ℕ) (counted : count ≡ length s.told) where
    all_counted : count ≡ length wrote.ends
    all_counted = counted ∙ (ap length wrote.told ∙ length-map wrote.ends (λ (e : End). e.states))

    closes_here : (v : Verdict) (endless : Bool) (worlds turns : ℕ) → Says v endless m.programs (own_here m) asked worlds wrote.ends
        → Closes m.programs (own_here m) asked limit wrote.ends v (endless_line endless ++ last_line (verdict_word v) worlds turns count)
    closes_here v endless worlds turns says =
        subst (λ n. Closes m.programs (own_here m) asked limit wrote.ends v (endless_line endless ++ last_line (verdict_word v) worlds turns n))
        (sym all_counted) (counts v endless worlds turns says)

    pub last_written : (v : Verdict) (endless : Bool) (worlds : ℕ) → Says v endless m.programs (own_here m) asked worlds wrote.ends
        → (new : Option (List ℕ)) → WritesLast endless (verdict_word v) worlds count mid new → WritesEnds m.programs (own_here m) asked limit v old new
    last_written v endless worlds says new last = rest_written v _ (closes_here v endless worlds last.turns says) new last.written

    pub last_begun : (v : Verdict) (endless : Bool) (worlds : ℕ) → Says v endless m.programs (own_here m) asked worlds wrote.ends
        → (new : Option (List ℕ)) → BeginsLast endless (verdict_word v) worlds count mid new → BeginsEnds m.programs (own_here m) asked limit old new
    last_begun v endless worlds says new last = rest_begun v _ (closes_here v endless worlds last.turns says) new last.begun

  -- what stands behind a schedule of the turns may stand behind the ends
  abbrev pub ClosesWith : (turns line : List ℕ) → Type 0
  ClosesWith turns line = (schedule : List (ℕ × ℕ)) → turns_of schedule ≡ turns
      → Closes m.programs (own_here m) asked limit wrote.ends verdict.Bad (schedule_text limit schedule ++ line)

  -- the search goes on, and nothing more is written
  pub wrote_on : (s2 : Search) → s2.root ≡ s.root → s2.told ≡ s.told → sought s2 ≡ sought s → Wrote m asked limit s2 old mid
  wrote_on s2 root told same = record {
    ends = wrote.ends;
    are_ends = wrote.are_ends;
    good = wrote.good;
    told = told ∙ wrote.told;
    same = same ∙ wrote.same;
    began = root ∙ wrote.began;
    written = wrote.written;
  }

  -- the search, further on
  module _ (s2 : Search) (still : IsStill (own_here m)) (root : s2.root ≡ s.root) (told : s2.told ≡ s.told) (same : sought s2 ≡ sought s) where
    abbrev states : List States
    states = map (λ (e : End). e.states) wrote.ends

    bad_is : s2.bad ≡ asked.bad
    bad_is = ap (λ (x : Sought). x.bad) (same ∙ wrote.same)

    never_is : s2.never ≡ asked.never
    never_is = ap (λ (x : Sought). x.never) (same ∙ wrote.same)

    part_is : s2.part ≡ asked.part
    part_is = ap (λ (x : Sought). x.part) (same ∙ wrote.same)

    -- what it says where it met all
    pub says_all : (worlds : ℕ) (endless : Bool) → TellsPart (next.All endless) s2 → TellsAll (next.All endless) s2 → TellsNone (next.All endless) s2
        → TellsClear (next.All endless) s2 → TellsEndless (next.All endless) s2 → Says verdict.Done endless m.programs (own_here m) asked worlds wrote.ends
    says_all worlds endless known all none clear round = (says, says_endless endless round)
      where
        says_endless : (e : Bool) → TellsEndless (next.All e) s2 → SaysEndless e m.programs (own_here m) asked.part
        says_endless true round = round m still (root ∙ wrote.began)
        says_endless false round = λ only. round (subst IsOnly (sym part_is) only) m still (root ∙ wrote.began)

        known_here : IsKnown m asked.part states asked.bad asked.never endless
        known_here =
            subst (λ ends. IsKnown m asked.part ends asked.bad asked.never endless) (told ∙ wrote.told)
            (subst (λ part. IsKnown m part s2.told asked.bad asked.never endless) part_is
            (subst (λ bad. IsKnown m s2.part s2.told bad asked.never endless) bad_is
            (subst (λ never. IsKnown m s2.part s2.told s2.bad never endless) never_is (known m still (root ∙ wrote.began)))))

        says : SaysAll m.programs (own_here m) asked endless wrote.ends
        says = record {
          all = λ only turns last leads nobody. subst (λ ends. IsIn ends (told_in last)) (told ∙ wrote.told)
              (all (subst IsOnly (sym part_is) only) m still (root ∙ wrote.began) turns last leads nobody);
          none = λ only. subst (HasNone m.programs (own_here m)) bad_is (none (subst IsOnly (sym part_is) only) m still (root ∙ wrote.began));
          clear = λ only. subst (StaysClear m.programs (own_here m)) never_is (clear (subst IsOnly (sym part_is) only) m still (root ∙ wrote.began));
          known = λ other programs own. subst (λ (x : Machine). IsKnown x asked.part states asked.bad asked.never endless)
              (sym (same_machine other m programs own))
              known_here;
          good = wrote.good;
        }

    -- and where it is cut
    pub says_cut : TellsCut next.Cut s2 → Says verdict.Cut false m.programs (own_here m) asked s2.worlds wrote.ends
    says_cut cut = subst (λ (most : ℕ). most ≤ s2.worlds) (ap (λ (x : Sought). x.most) (same ∙ wrote.same)) cut

  -- the lines of a turn that may not be
  pub closes_turn : (t : BadTurn) → IsStill (own_here m) → Leads (Some (next.Bad t)) s → ClosesWith t.turns.items (bad_line t.bad)
  closes_turn t still leads schedule turns =
      bad_turn t.bad (subst (λ (x : List Bad). IsIn x t.bad) (ap (λ (x : Sought). x.bad) wrote.same) leads.is_in) schedule
      (subst (λ turns. IsBadOrder m.programs (own_here m) turns t.bad) (sym turns) (leads.leads m still wrote.began))

  -- those of a world that may not be
  pub closes_world : (w : BadWorld) → IsStill (own_here m) → Leads (Some (next.BadWorld w)) s → ClosesWith w.turns.items (together_line w.together.items)
  closes_world w still leads schedule turns =
      bad_world w.together.items (subst (λ (x : List (List Fact)). IsIn x w.together.items) (ap (λ (x : Sought). x.never) wrote.same) leads.is_in) schedule
      (subst (λ turns. IsBadWorld m.programs (own_here m) turns w.together.items) (sym turns) (leads.leads m still wrote.began))

  module _ (turns line : List ℕ) (closes : ClosesWith turns line) where
    closes_text : (text : List ℕ) → PushesTurns limit turns line [] text → Closes m.programs (own_here m) asked limit wrote.ends verdict.Bad text
    closes_text text pushes =
        subst (Closes m.programs (own_here m) asked limit wrote.ends verdict.Bad) (sym pushes.is) (closes pushes.schedule pushes.are)

    module _ (count : ℕ) (counted : count ≡ length s.told) (worlds : ℕ) (new : Option (List ℕ)) where
      pub turns_written : (v : Verdict) → WritesTurns limit turns line worlds count mid new v → WritesEnds m.programs (own_here m) asked limit v old new
      turns_written _ (all_turns text pushes written) = rest_written verdict.Bad text (closes_text text pushes) new written
      turns_written _ (no_turns last) = last_written count counted verdict.Memory false worlds tt new last

      pub turns_begin : BeginsTurns limit turns line worlds count mid new → BeginsEnds m.programs (own_here m) asked limit old new
      turns_begin (turns_begun text pushes begun) = rest_begun verdict.Bad text (closes_text text pushes) new begun
      turns_begin (no_turns_begun last) = last_begun count counted verdict.Memory false worlds tt new last

  module _ (s2 : Search) (e : Told) (still : IsStill (own_here m)) (root : s2.root ≡ s.root)
      (same : sought s2 ≡ sought s) (told : Tells (Some (next.End e)) s.told s2.told) (leads : Leads (Some (next.End e)) s) where
    module _ (text : List ℕ) (pushes : PushesEnd limit e [] text) where
      abbrev end : End
      end = record { states = e.states.items; schedule = pushes.schedule }

      is_end : IsEndFrom m.programs (own_here m) end
      is_end = subst (λ turns. IsEnd m.programs (own_here m) turns e.states.items) (sym pushes.turns) (leads m still wrote.began)

      is_one_more : (holds : End → Type 0) → ((x : End) → IsIn wrote.ends x → holds x) → holds end → (x : End) → IsIn (wrote.ends ++ (end ∷ [])) x → holds x
      is_one_more holds before here x (i, there) = elim (get_either wrote.ends end i x there) [
        | inl earlier ↦ before x (i, earlier)
        | inr last ↦ subst holds last.1 here
      ]

      ends_more : (x : End) → IsIn (wrote.ends ++ (end ∷ [])) x → IsEndFrom m.programs (own_here m) x
      ends_more = is_one_more (IsEndFrom m.programs (own_here m)) wrote.are_ends is_end

      lines_more : flat_map (end_text limit) (wrote.ends ++ (end ∷ [])) ≡ flat_map (end_text limit) wrote.ends ++ text
      lines_more =
          flat_map-append (end_text limit) wrote.ends (end ∷ [])
          ∙ ap (λ (x : List ℕ). flat_map (end_text limit) wrote.ends ++ x) (append-nil (end_text limit end) ∙ sym pushes.is)

      -- one end more
      wrote_more : IsGoodEnd asked.bad e.states.items → (new : Option (List ℕ)) → Appends mid new text → Wrote m asked limit s2 old new
      wrote_more good new written = record {
        ends = wrote.ends ++ (end ∷ []);
        are_ends = ends_more;
        good = is_one_more (λ x. IsGoodEnd asked.bad x.states) wrote.good good;
        told = told ∙ (ap (λ (x : List States). x ++ (e.states.items ∷ [])) wrote.told ∙ sym (map-append (λ x. x.states) wrote.ends (end ∷ [])));
        same = same ∙ wrote.same;
        began = root ∙ wrote.began;
        written = subst (λ (x : List ℕ). Appends old new x) (sym lines_more) (Appends-trans old mid new _ _ wrote.written written);
      }

      -- what stands behind it
      text_more : (v : Verdict) (rest : List ℕ) → Closes m.programs (own_here m) asked limit (wrote.ends ++ (end ∷ [])) v rest
          → IsSearchText m.programs (own_here m) asked limit v (flat_map (end_text limit) wrote.ends ++ (text ++ rest))
      text_more v rest closes = record {
        ends = wrote.ends ++ (end ∷ []);
        are_ends = ends_more;
        rest = rest;
        closes = closes;
        are = sym (append_assoc (flat_map (end_text limit) wrote.ends) text rest) ∙ ap (λ (x : List ℕ). x ++ rest) (sym lines_more);
      }

      closes_bad : (b : Bad) → NamesEnd asked.bad e.states.items b
          → Closes m.programs (own_here m) asked limit (wrote.ends ++ (end ∷ [])) verdict.Bad (bad_line b)
      closes_bad b names = bad_end b names.0 wrote.ends end refl names.1

      bad_written : (b : Bad) → NamesEnd asked.bad e.states.items b → (new : Option (List ℕ)) → Appends mid new (text ++ bad_line b)
          → WritesEnds m.programs (own_here m) asked limit verdict.Bad old new
      bad_written b names new written = record {
        lines = flat_map (end_text limit) wrote.ends ++ (text ++ bad_line b);
        is_text = text_more verdict.Bad (bad_line b) (closes_bad b names);
        written = Appends-trans old mid new _ _ wrote.written written;
      }

      bad_begun : (b : Bad) → NamesEnd asked.bad e.states.items b → (new : Option (List ℕ)) → AppendsBeginning mid new (text ++ bad_line b)
          → BeginsEnds m.programs (own_here m) asked limit old new
      bad_begun b names new begun =
          some_ends verdict.Bad _ new (text_more verdict.Bad (bad_line b) (closes_bad b names)) (begun_behind old mid new _ _ wrote.written begun)

      -- or a beginning of it
      end_begun : (new : Option (List ℕ)) → AppendsBeginning mid new text → BeginsEnds m.programs (own_here m) asked limit old new
      end_begun new begun =
          let rest = last_line (verdict_word verdict.Memory) 0 0 (length (wrote.ends ++ (end ∷ []))) in
          some_ends verdict.Memory _ new (text_more verdict.Memory rest (counts verdict.Memory false 0 0 tt))
          (begun_behind old mid new _ _ wrote.written (begins_longer mid new text rest begun))

    module _ (count : ℕ) (counted : count ≡ length s.told) (worlds : ℕ) (given : List Bad) (are : given ≡ asked.bad) (new : Option (List ℕ)) where
      -- the search goes on behind it
      pub end_goes : WritesEnd given limit e worlds count mid new None → Wrote m asked limit s2 old new
      end_goes (good_end text pushes good written) = wrote_more text pushes (subst (λ x. IsGoodEnd x e.states.items) are good) new written

      -- or stops there
      pub end_written : (v : Verdict) → WritesEnd given limit e worlds count mid new (Some v) → WritesEnds m.programs (own_here m) asked limit v old new
      end_written _ (named_end text pushes b names written) =
          bad_written text pushes b (subst (λ x. NamesEnd x e.states.items b) are names) new written
      end_written _ (no_end_written last) = last_written count counted verdict.Memory false worlds tt new last

      pub end_begins : BeginsEnd given limit e worlds count mid new → BeginsEnds m.programs (own_here m) asked limit old new
      end_begins (good_end_begun text pushes begun) = end_begun text pushes new begun
      end_begins (named_end_begun text pushes b names begun) =
          bad_begun text pushes b (subst (λ x. NamesEnd x e.states.items b) are names) new begun
      end_begins (no_end_begun last) = last_begun count counted verdict.Memory false worlds tt new last

-- what is so where all is well
pub when_ok : {A E P : Type 0} (r : Result A E) → is_err r ≡ false → OnOk r P → P
when_ok (Ok v) well p = p
when_ok (Err e) well p = absurd (false≢true (sym well))
