-- The orders of a part, and those of a machine that goes on where they do.
use Rattle.std.proofs.Common.{Bool, IsTrue, List, Option, [], ap, false, if◌then◌else◌, length, nat_lt, refl, subst, sym, true, ℕ, ◌++◌, ◌∙◌, ◌∷◌, ◌≡◌}
use Rattle.std.proofs.lemmas.Bool.{cases_Bool}
use Rattle.std.proofs.lemmas.Option.{slice_get_within}
use mathlib.Core.Logic.{inl, inr}
use Rattle.zl_code.specs.declared.history.TraceItem.{TraceItem}
use Rattle.zl_explore.specs.Bad.{IsQuiet}
use Rattle.zl_explore.specs.Edges.{AreEdges, HaveEdges}
use Rattle.zl_explore.specs.Marks.{AllCome}
use Rattle.zl_explore.specs.Nodes.{AreWidened, IsMet, IsTree, IsWidened}
use Rattle.zl_explore.specs.Part.{Part, gone_along, gone_by, gone_of, goes_on, is_of, none_gone}
use Rattle.zl_explore.specs.Parts.{AllComeOn, AreAllOf, AreToldOf, HasNoneOf, next_in_part, parted, ready_in_part, tells_in_part}
use Rattle.zl_explore.specs.Paths.{IsIn, IsPath, after}
use Rattle.zl_explore.specs.Quiet.{AreQuiet}
use Rattle.zl_explore.specs.Sights.{AreClear, IsClear, Sights, StaysClearOf}
use Rattle.zl_explore.specs.declared.bad.Bad.{Bad}
use Rattle.zl_explore.specs.declared.fact.Fact.{Fact}
use Rattle.zl_explore.specs.declared.met.Node.{Node}
use Rattle.zl_explore.specs.declared.part.Gone.{Gone}
use Rattle.zl_explore.specs.declared.part.Parted.{Parted}
use Rattle.zl_explore.proofs.Ending.{Ends, comes_ends, ends_by}
use Rattle.zl_explore.proofs.Reduced.{in_none, met_along}

-- ---- what turns tell

-- where orders go on, they went on before
on_before : (part : Part) (g : Gone) (p : ℕ) → goes_on part (gone_by part.parts part.from g p) ≡ true → goes_on part g ≡ true
on_before part g p on = elim (cases_Bool (nat_lt g.turns part.from)) [
  | inl few ↦ rw few refl
  | inr many ↦ rw many at on
]

went_on : (part : Part) (turns : List ℕ) (g : Gone) → goes_on part (gone_along part.parts part.from g turns) ≡ true → goes_on part g ≡ true
unfolding gone_along
went_on part [] g on = on
went_on part (p ∷ turns) g on = on_before part g p (went_on part turns (gone_by part.parts part.from g p) on)

-- an order of the part goes on in it
pub on_of : (part : Part) (g : Gone) → is_of part g ≡ true → goes_on part g ≡ true
on_of part g of = elim (cases_Bool (nat_lt g.turns part.from)) [
  | inl few ↦ rw few refl
  | inr many ↦ rw many (rw many at of)
]

-- turns behind others
pub gone_both : (parts from : ℕ) (turns more : List ℕ) (g : Gone)
    → gone_along parts from g (turns ++ more) ≡ gone_along parts from (gone_along parts from g turns) more
unfolding gone_along
gone_both parts from [] more g = refl
gone_both parts from (p ∷ turns) more g = gone_both parts from turns more (gone_by parts from g p)

-- where enough turns counted, no more do
pub gone_stays : (parts from : ℕ) (turns : List ℕ) (g : Gone) → nat_lt g.turns from ≡ false → gone_along parts from g turns ≡ g
unfolding gone_along
gone_stays parts from [] g many = refl
gone_stays parts from (p ∷ turns) g many =
    let same : gone_by parts from g p ≡ g = rw many refl in
    ap (λ (h : Gone). gone_along parts from h turns) same ∙ gone_stays parts from turns g many

module _ {S : Type 0} (ready : S → List ℕ) (next : S → ℕ → S) where
  pub after_both : (turns more : List ℕ) (s : S) → after ready next s (turns ++ more) ≡ after ready next (after ready next s turns) more
  unfolding after
  after_both [] more s = refl
  after_both (p ∷ turns) more s = after_both turns more (next s p)

  pub path_both : (turns more : List ℕ) (s : S) → IsPath ready next s turns → IsPath ready next (after ready next s turns) more
      → IsPath ready next s (turns ++ more)
  unfolding after IsPath
  path_both [] more s path rest = rest
  path_both (p ∷ turns) more s path rest = (path.0, path_both turns more (next s p) path.1 rest)

  pub path_behind : (turns more : List ℕ) (s : S) → IsPath ready next s (turns ++ more) → IsPath ready next (after ready next s turns) more
  unfolding after IsPath
  path_behind [] more s path = path
  path_behind (p ∷ turns) more s path = path_behind turns more (next s p) path.1

  -- ---- the machine of a part

  -- where turns lead
  pub after_part : (turns : List ℕ) (s : Parted S) → after (ready_in_part ready) (next_in_part next) s turns
      ≡ record s { at = after ready next s.at turns; gone = gone_along s.part.parts s.part.from s.gone turns }
  unfolding after gone_along
  after_part [] s = refl
  after_part (p ∷ turns) s = after_part turns (next_in_part next s p)

  -- who can go in it, can go
  pub ready_down : (s : Parted S) (p : ℕ) → IsIn (ready_in_part ready s) p → IsIn (ready s.at) p
  ready_down s p is_in = elim (cases_Bool (goes_on s.part s.gone)) [
    | inl on ↦ subst (λ (b : Bool). IsIn (if b then ready s.at else []) p) on is_in
    | inr off ↦ absurd (in_none [] p refl (subst (λ (b : Bool). IsIn (if b then ready s.at else []) p) off is_in))
  ]

  pub path_down : (turns : List ℕ) (s : Parted S) → IsPath (ready_in_part ready) (next_in_part next) s turns → IsPath ready next s.at turns
  unfolding IsPath
  path_down [] s path = tt
  path_down (p ∷ turns) s path = (ready_down s p path.0, path_down turns (next_in_part next s p) path.1)

  -- who can go, can go in it where orders of the part go on
  ready_up : (s : Parted S) (p : ℕ) → goes_on s.part s.gone ≡ true → IsIn (ready s.at) p → IsIn (ready_in_part ready s) p
  ready_up s p on is_in = subst (λ (b : Bool). IsIn (if b then ready s.at else []) p) (sym on) is_in

  path_up : (turns : List ℕ) (s : Parted S) → goes_on s.part (gone_along s.part.parts s.part.from s.gone turns) ≡ true → IsPath ready next s.at turns
      → IsPath (ready_in_part ready) (next_in_part next) s turns
  unfolding IsPath gone_along
  path_up [] s on path = tt
  path_up (p ∷ turns) s on path =
      (ready_up s p (went_on s.part (p ∷ turns) s.gone on) path.0, path_up turns (next_in_part next s p) on path.1)

  -- who comes to an end, comes to where nobody goes on in the part
  ends_along : (turns : List ℕ) (s : Parted S) → IsPath ready next s.at turns → ready (after ready next s.at turns) ≡ []
      → Ends (ready_in_part ready) (next_in_part next) s
  unfolding IsPath after
  ends_along [] s path nobody = record {
    turns = [];
    is_path = tt;
    nobody = elim (cases_Bool (goes_on s.part s.gone)) [
      | inl on ↦ rw on nobody
      | inr off ↦ rw off refl
    ];
  }
  ends_along (p ∷ turns) s path nobody = elim (cases_Bool (goes_on s.part s.gone)) [
    | inl on ↦ ends_by (ready_in_part ready) (next_in_part next) s p (ready_up s p on path.0) (ends_along turns (next_in_part next s p) path.1 nobody)
    | inr off ↦ record { turns = []; is_path = tt; nobody = rw off refl }
  ]

  pub ends_in_part : (s : Parted S) → Ends ready next s.at → Ends (ready_in_part ready) (next_in_part next) s
  ends_in_part s ends = ends_along ends.turns s ends.is_path ends.nobody

  -- where nobody can go in the part at an end of it, nobody can go
  pub nobody_down : (s : Parted S) → is_of s.part s.gone ≡ true → ready_in_part ready s ≡ [] → ready s.at ≡ []
  nobody_down s of nobody = subst (λ (b : Bool). (if b then ready s.at else []) ≡ []) (on_of s.part s.gone of) nobody

  -- ---- where all states that were met were gone on from

  module _ (part : Part) (start : S) (nodes : List (Node (Parted S)))
      (tree : IsTree (ready_in_part ready) (next_in_part next) (parted part start) nodes)
      (widened : AreWidened (ready_in_part ready) (next_in_part next) nodes (length nodes)) where
    abbrev Met : Parted S → Type 0
    Met = IsMet (ready_in_part ready) (next_in_part next) nodes

    closed : (u : Parted S) (q : ℕ) → Met u → IsIn (ready_in_part ready u) q → Met (next_in_part next u q)
    unfolding AreWidened IsWidened
    closed u q met is_in = subst (λ (x : Parted S). Met (next_in_part next x q)) met.is
        (widened met.place met.node (slice_get_within nodes met.place met.node met.there) met.there q
        (subst (λ (x : Parted S). IsIn (ready_in_part ready x) q) (sym met.is) is_in))

    -- where an order leads that goes on in the part
    abbrev pub there : List ℕ → Parted S
    there turns = record { at = after ready next start turns; part = part; gone = gone_of part turns }

    pub met_there : (turns : List ℕ) → IsPath ready next start turns → goes_on part (gone_of part turns) ≡ true → Met (there turns)
    met_there turns path on = subst Met (after_part turns (parted part start))
        (met_along (ready_in_part ready) (next_in_part next) Met closed turns (parted part start)
        (record { place = 0; node = tree.root; there = tree.first; is = tree.starts }) (path_up turns (parted part start) on path))

    pub all_of : {X : Type 0} (states : S → X) (told : List X) → AreToldOf ready states nodes (length nodes) told → AreAllOf ready next start part states told
    all_of states told are turns path nobody of =
        let on = on_of part (gone_of part turns) of in
        let met = met_there turns path on in
        subst (λ (x : Parted S). ready_in_part ready x ≡ [] → IsTrue (is_of x.part x.gone) → IsIn told (states x.at)) met.is
        (are met.place met.node (slice_get_within nodes met.place met.node met.there) met.there) (rw on nobody) of

    pub none_of : (tells : S → ℕ → Option TraceItem) (bad : List Bad) → AreQuiet (ready_in_part ready) (tells_in_part tells) bad nodes (length nodes)
        → HasNoneOf ready next start part tells bad
    unfolding AreQuiet
    none_of tells bad quiet turns path on p is_in =
        let met = met_there turns path on in
        subst (λ (x : Parted S). (IsIn (ready_in_part ready x) p → IsQuiet bad (tells x.at p))) met.is
        (quiet met.place met.node p (slice_get_within nodes met.place met.node met.there) met.there) (ready_up (there turns) p on is_in)

    pub clear_of : (sights : S → Sights) (never : List (List Fact)) → AreClear sights never nodes (length nodes)
        → StaysClearOf ready next start part sights never
    clear_of sights never clear turns path on =
        let met = met_there turns path on in
        subst (λ (x : Parted S). IsClear never (sights x.at)) met.is
        (clear met.place met.node (slice_get_within nodes met.place met.node met.there) met.there)

    pub come_on : (edges : List (ℕ × ℕ)) → AreEdges (ready_in_part ready) (next_in_part next) nodes edges
        → HaveEdges (ready_in_part ready) (next_in_part next) nodes edges (length nodes) → AllCome edges (length nodes) → AllComeOn ready next start part
    come_on edges are have all turns path on =
        let met = met_there turns path on in
        let node_ends = comes_ends (ready_in_part ready) (next_in_part next) nodes edges are have met.place met.node met.there
        (all met.place (slice_get_within nodes met.place met.node met.there)) in
        let ends = subst (Ends (ready_in_part ready) (next_in_part next)) met.is node_ends in
        let more = ends.turns in
        let nobody = ap (ready_in_part ready) (sym (after_part more (there turns))) ∙ ends.nobody in
        let gone = gone_both part.parts part.from turns more none_gone in record {
          more = more;
          is_path = path_both turns more start path (path_down more (there turns) ends.is_path);
          is = elim (cases_Bool (goes_on part (gone_of part (turns ++ more)))) [
            | inl off_not ↦ inl (ap ready (after_both turns more start)
                ∙ subst (λ (b : Bool). (if b then ready (after ready next (after ready next start turns) more) else []) ≡ [])
                (ap (goes_on part) (sym gone) ∙ off_not) nobody)
            | inr off ↦ inr off
          ];
        }
