-- One walk edge: skipped, too late, or walked. Assumes nothing.
use Prim.Native.Nat.{ℕ, ◌+◌, ◌-◌, ◌≤◌, ◌<◌}
use mathlib.Core.Path.{◌≡◌, refl, sym, ap, ap₂, ◌∙◌}
use mathlib.Core.Bool.{Bool, true, false, not, ◌&&◌}
use mathlib.Core.List.{List, [], ◌∷◌}
use native.Mathlib.Omega.{arith}
use lib.ListN.{get_or}
use lib.Ieee.{Float, nan}
use lib.Dec.{ltb}
use borrow.Author.Tests.{lt-ltb, le-ltb}
use Rattle.walk_time.specs.Walk.{effective_duration}
use Rattle.label.specs.declared.Label.{Label}
use Rattle.label.specs.declared.Label.TheVariants.{Walk}
use Rattle.tables.specs.declared.EdgeRow.{EdgeRow}
use Rattle.tables.specs.Tables.{edge_at}
use Rattle.tables.specs.Timetable.{Timetable}
use Rattle.model.specs.Tables.{Tables, Query, edge_to, walk_time}
use Rattle.model.specs.Search.{Arrivals, holds_target, relax, walk_from}
use Rattle.arc_flags.specs.Skipping.{target_words, Patterned}
use Rattle.query_types.specs.declared.Lay.{Lay}
use Rattle.query_types.specs.declared.Head.{Head}
use Rattle.search_state.specs.Places.{EgressTable, Same}
use Rattle.search_state.specs.View.{Memory, memory, arrivals_of}
use Rattle.search_state.specs.Step.{Ready, Step}
use Rattle.search_state.proofs.Steps.{step_none, egress_kept}
use Rattle.query_types.specs.declared.Context.{Context}
use Rattle.walk_phase.specs.Walking.{WalkGround, WalksAgree}

-- a stop's edges one after the other
pub walk_cons : (T : Tables) (Q : Query) (flagged : Bool) (stamp x v e : ℕ) (es : List ℕ) (a : Arrivals)
    → walk_from T Q flagged stamp x v (e ∷ es) a ≡ walk_from T Q flagged stamp x v es (walk_from T Q flagged stamp x v (e ∷ []) a)
unfolding walk_from
walk_cons T Q flagged stamp x v e es a = skip (flagged && not (holds_target T Q (T.timetable.edge e).pattern))
  where
    b : Arrivals
    b = relax T Q stamp (edge_to T e) (v + walk_time T Q e) (Walk (v + walk_time T Q e) x (edge_to T e) (walk_time T Q e) (T.distance e) (stamp - 1)) a

    late : (t : Bool) → elim t [ false ↦ walk_from T Q flagged stamp x v es a | true ↦ walk_from T Q flagged stamp x v es b ] ≡ walk_from T Q flagged stamp x v es (elim t [ false ↦ a | true ↦ b ])
    late true = refl
    late false = refl

    skip : (t : Bool) → elim t [
      | true ↦ walk_from T Q flagged stamp x v es a
      | false ↦ elim (ltb (v + walk_time T Q e) a.best) [ false ↦ walk_from T Q flagged stamp x v es a | true ↦ walk_from T Q flagged stamp x v es b ]
    ] ≡ walk_from T Q flagged stamp x v es (elim t [ true ↦ a | false ↦ elim (ltb (v + walk_time T Q e) a.best) [ false ↦ a | true ↦ b ] ])
    skip true = refl
    skip false = late (ltb (v + walk_time T Q e) a.best)

-- an edge's row, as the door leaves it
pub record RowOk (lay : Lay) (y : EdgeRow) : Type 0 where
  pub to : y.to < lay.stops
  pub duration : y.duration ≤ 1048575
  pub pathway : y.pathway ≤ 7

pub row-ok : {lay : Lay} {ctx : Context} {t : List ℕ} {d b : ℕ} (e : ℕ) (y : EdgeRow) → WalkGround lay ctx t d b → y ≡ edge_at t ctx.counts.timetable e → e < ctx.counts.timetable.edges → RowOk lay y
row-ok e y g q h =
    rw q (record { to = omega (arith, g.sane.numbers.to e h, g.stops); duration = g.sane.ranges.duration e h; pathway = g.sane.ranges.pathway e h })

pub agree_kept : {lay : Lay} {ctx : Context} {t : List ℕ} {d : List Float} {b w w' : List ℕ} {T : Tables} {Q : Query} → Same lay w w' → WalksAgree lay ctx t d b w T Q → WalksAgree lay ctx t d b w' T Q
agree_kept s g =
    record {
      timetable = g.timetable;
      distance = g.distance;
      wheelchair = g.wheelchair;
      patterned = g.patterned;
      targets = g.targets;
      egress = egress_kept s g.egress;
    }

module _ (lay : Lay) (ctx : Context) (stamp x v e : ℕ) (t : List ℕ) (d : List Float) (b w l : List ℕ) (m : List Float) (h : Head)
    (y : EdgeRow) (is : y ≡ edge_at t ctx.counts.timetable e) (D : ℕ) (long : D ≡ effective_duration y.duration y.pathway ctx.net.terms.wheelchair) (in-edges : e < ctx.counts.timetable.edges)
    (off : Bool) (off-is : (T : Tables) (Q : Query) → Patterned T b ctx.net.patterns → ctx.net.target ≡ target_words T Q → off ≡ (ctx.flagged && not (holds_target T Q y.pattern))) where
  -- the label that a walk along the edge gives
  abbrev pub walk_label : Label
  walk_label = Walk (v + D) x y.to D (get_or d e nan) (stamp - 1)

  -- one edge in the model, by what is read of it
  abbrev one : Tables → Query → Arrivals → Bool → EdgeRow → ℕ → Float → Arrivals
  one T Q a skip z n f =
      elim skip [
        | true ↦ a
        | false ↦ elim (ltb (v + n) a.best) [ false ↦ a | true ↦ relax T Q stamp z.to (v + n) (Walk (v + n) x z.to n f (stamp - 1)) a ]
      ]

  walk_one : (T : Tables) (Q : Query) → WalksAgree lay ctx t d b w T Q → (a : Arrivals)
      → walk_from T Q ctx.flagged stamp x v (e ∷ []) a ≡ one T Q a off y D (get_or d e nan)
  unfolding walk_from
  walk_one T Q g a i = one T Q a (test i) (row i) (time i) (g.distance e in-edges i)
    where
      row : T.timetable.edge e ≡ y
      row = ap (λ (B : Timetable). B.edge e) g.timetable ∙ sym is

      test : ctx.flagged && not (holds_target T Q (T.timetable.edge e).pattern) ≡ off
      test =
          ap (λ (z : EdgeRow). ctx.flagged && not (holds_target T Q z.pattern)) row
          ∙ sym (off-is T Q g.patterned g.targets)

      time : walk_time T Q e ≡ D
      time = ap₂ (λ (z : EdgeRow) (q : Bool). effective_duration z.duration z.pathway q) row g.wheelchair ∙ sym long

  module _ (ok : Ready lay stamp (memory w l m h)) where
    -- the flags skip it
    pub edge_skipped : off ≡ true → Step lay stamp (WalksAgree lay ctx t d b w) (λ T Q. walk_from T Q ctx.flagged stamp x v (e ∷ [])) (memory w l m h) (memory w l m h)
    edge_skipped s =
        step_none (λ T Q. walk_from T Q ctx.flagged stamp x v (e ∷ [])) (memory w l m h) ok
        (λ T Q g q. let a : Arrivals = arrivals_of lay (memory w l m h) q in sym (walk_one T Q g a ∙ ap (λ (z : Bool). one T Q a z y D (get_or d e nan)) s))

    -- it leads there no earlier than the best total
    pub edge_late : off ≡ false → h.best ≤ v + D
        → Step lay stamp (WalksAgree lay ctx t d b w) (λ T Q. walk_from T Q ctx.flagged stamp x v (e ∷ [])) (memory w l m h) (memory w l m h)
    edge_late s u =
        step_none (λ T Q. walk_from T Q ctx.flagged stamp x v (e ∷ [])) (memory w l m h) ok
        (λ T Q g q. let a : Arrivals = arrivals_of lay (memory w l m h) q in
        sym (walk_one T Q g a ∙ ap (λ (z : Bool). one T Q a z y D (get_or d e nan)) s
        ∙ ap (λ (z : Bool). elim z as (λ _. Arrivals) [ false ↦ a | true ↦ relax T Q stamp y.to (v + D) walk_label a ]) (le-ltb (v + D) h.best u)))

    -- it is walked
    pub edge_walked : {k : Memory} → off ≡ false → v + D < h.best
        → Step lay stamp (λ T Q. EgressTable Q.egress lay w) (λ T Q. relax T Q stamp y.to (v + D) walk_label) (memory w l m h) k
        → Step lay stamp (WalksAgree lay ctx t d b w) (λ T Q. walk_from T Q ctx.flagged stamp x v (e ∷ [])) (memory w l m h) k
    edge_walked s u p =
        record {
          view = λ T Q g q. let a : Arrivals = arrivals_of lay (memory w l m h) q in
              p.view T Q g.egress q
              ∙ sym (walk_one T Q g a ∙ ap (λ (z : Bool). one T Q a z y D (get_or d e nan)) s
              ∙ ap (λ (z : Bool). elim z as (λ _. Arrivals) [ false ↦ a | true ↦ relax T Q stamp y.to (v + D) walk_label a ]) (lt-ltb (v + D) h.best u));
          same = p.same;
          ready = p.ready;
          grown = p.grown;
          queued = p.queued;
          full = p.full;
        }
