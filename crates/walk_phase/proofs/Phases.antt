-- The walk phase: walks, then the stops reached by transit behind those reached on foot. Assumes nothing.
use Prim.Native.Nat.{ℕ, suc, ◌+◌, ◌≤◌}
use mathlib.Core.Path.{◌≡◌, sym, ap, ◌∙◌}
use mathlib.Core.Bool.{Bool, true, false}
use mathlib.Core.List.{List, ◌++◌}
use native.Mathlib.Omega.{arith}
use lib.ListN.{length, take, drop}
use lib.Seq.{take-take}
use lib.Ieee.{Float}
use Rattle.loops.proofs.Count.{length_tab_from}
use Rattle.model.specs.Tables.{Tables, Query}
use Rattle.model.specs.Search.{Arrivals, Boardings, State, stamped, walk_all, walk_phase}
use Rattle.query_types.specs.declared.Lay.{Lay}
use Rattle.query_types.specs.declared.Head.{Head}
use Rattle.search_state.specs.Part.{part, tally}
use Rattle.search_state.specs.Places.{StopsListed, stamps_of, turned}
use Rattle.search_state.specs.View.{Memory, memory, arrivals_of, queue_of}
use Rattle.search_state.specs.Step.{Ready, Step}
use Rattle.search_state.proofs.Part.{tally_le}
use Rattle.search_state.proofs.Marking.{same_then, stamps_length}
use Rattle.search_state.proofs.Steps.{walks_kept}
use Rattle.query_types.specs.declared.Context.{Context}
use Rattle.walk_phase.specs.Walking.{WalkGround, WalksAgree}
use Rattle.walk_phase.specs.Lists.{latest_walker, bearing, Appended, noted, WalkPhase}
use Rattle.search_state.proofs.Lists.{turned_sized}
use Rattle.walk_phase.proofs.Appending.{stamped_is, append_most}

-- what holds of a layout holds where its lists have changed places
pub turned_ground : {lay : Lay} {ctx : Context} {t : List ℕ} {d b : ℕ} → WalkGround lay ctx t d b → WalkGround (turned lay) ctx t d b
turned_ground g = record { sane = g.sane; order = g.order; stops = g.stops; distances = g.distances; few = g.few; bytes = g.bytes }

turned_agree : {lay : Lay} {ctx : Context} {t : List ℕ} {d : List Float} {b w : List ℕ} {T : Tables} {Q : Query} → WalksAgree lay ctx t d b w T Q → WalksAgree (turned lay) ctx t d b w T Q
turned_agree g =
    record {
      timetable = g.timetable;
      distance = g.distance;
      wheelchair = g.wheelchair;
      patterned = g.patterned;
      targets = g.targets;
      egress = record { at = g.egress.at };
    }

-- the head as the walk phase begins: no stop is reached yet
abbrev pub empty_head : Head → Head
empty_head h = record { best = h.best; count = 0; queued = h.queued; full = h.full }

pub turned_ready : {lay : Lay} {stamp : ℕ} {w l : List ℕ} {m : List Float} {h : Head} → Ready lay stamp (memory w l m h) → Ready (turned lay) stamp (memory w l m (empty_head h))
turned_ready r = record { sized = turned_sized r.sized; walks = record { small = r.walks.small }; counted = record { fits = omega arith }; round = r.round; written = r.written }

part_of : (w w' : List ℕ) (a n k : ℕ) → n ≤ k → part w' a k ≡ part w a k → part w' a n ≡ part w a n
unfolding part
part_of w w' a n k h e = sym (take-take n k (drop a w') h) ∙ ap (take n) e ∙ take-take n k (drop a w) h

queue_length : (q : List ℕ) (n : ℕ) → length (queue_of q n) ≡ n
unfolding queue_of
queue_length q n = length_tab_from _ 0 n

-- the model's state after the walks: A, with xs the stops reached by transit
abbrev after : Tables → Query → Bool → ℕ → List ℕ → Boardings → Arrivals → State
after T Q flagged stamp xs s A =
    record {
      arrivals = record {
        labels = A.labels;
        earliest = A.earliest;
        best = A.best;
        stop_stamp = A.stop_stamp;
        reached = elim flagged [ true ↦ A.reached | false ↦ A.reached ++ stamped T Q stamp A.stop_stamp xs ];
        seg_queue = A.seg_queue;
        seg_reach = A.seg_reach;
      };
      boardings = noted (length A.seg_queue) s;
    }

module _ (lay : Lay) (ctx : Context) (stamp : ℕ) (t : List ℕ) (d : List Float) (bs w l : List ℕ) (m : List Float) (h : Head) (ok : Ready lay stamp (memory w l m h))
    {b : Memory} (p : Step (turned lay) stamp (WalksAgree (turned lay) ctx t d bs w) (λ T Q. walk_all T Q ctx.flagged stamp (part w lay.list h.count)) (memory w l m (empty_head h)) b) where
  -- the lists have room for all that was reached
  pub phase_room : b.head.count + h.count ≤ tally stamp (stamps_of lay b.work)
  phase_room = omega (arith, p.grown.by, ok.counted.fits)

  pub phase_fits : b.head.count + h.count ≤ lay.stops + 64
  phase_fits = omega (arith, phase_room, stamps_length (turned lay) b.work p.ready.sized.sections, tally_le stamp (stamps_of lay b.work))

  module _ (T : Tables) (Q : Query) (q : List ℕ) (s : Boardings) where
    -- walks, seen as the model's
    phase_walked : (round : ℕ) → stamp ≡ suc (suc round)
        → after T Q ctx.flagged stamp (part w lay.list h.count) s
        (walk_all T Q ctx.flagged stamp (part w lay.list h.count) (arrivals_of (turned lay) (memory w l m (empty_head h)) q))
        ≡ walk_phase T Q ctx.flagged round (record { arrivals = arrivals_of lay (memory w l m h) q; boardings = s })
    unfolding walk_phase part
    phase_walked round e i =
        after T Q ctx.flagged (e i) (part w lay.list h.count) s
        (walk_all T Q ctx.flagged (e i) (part w lay.list h.count) (arrivals_of (turned lay) (memory w l m (empty_head h)) q))

    after_flagged : ctx.flagged ≡ true
        → record { arrivals = arrivals_of (turned lay) b q; boardings = noted b.head.queued s }
        ≡ after T Q ctx.flagged stamp (part w lay.list h.count) s (arrivals_of (turned lay) b q)
    after_flagged f i =
        record {
          arrivals = record {
            labels = (arrivals_of (turned lay) b q).labels;
            earliest = (arrivals_of (turned lay) b q).earliest;
            best = b.head.best;
            stop_stamp = (arrivals_of (turned lay) b q).stop_stamp;
            reached = reach i;
            seg_queue = (arrivals_of (turned lay) b q).seg_queue;
            seg_reach = (arrivals_of (turned lay) b q).seg_reach;
          };
          boardings = noted (sym (queue_length q b.head.queued) i) s;
        }
      where
        reach : part b.work lay.other b.head.count
            ≡ elim ctx.flagged [
              | true ↦ part b.work lay.other b.head.count
              | false ↦ part b.work lay.other b.head.count ++ stamped T Q stamp (stamps_of (turned lay) b.work) (part w lay.list h.count)
            ]
        reach =
            ap (λ (z : Bool). elim z as (λ _. List ℕ) [
              | true ↦ part b.work lay.other b.head.count
              | false ↦ part b.work lay.other b.head.count ++ stamped T Q stamp (stamps_of (turned lay) b.work) (part w lay.list h.count)
            ]) (sym f)

  -- with arc flags: the stops reached on foot
  pub phase_flagged : ctx.flagged ≡ true → WalkPhase lay ctx.flagged stamp (WalksAgree lay ctx t d bs w) (memory w l m h) b
  phase_flagged f =
      record {
        view = λ T Q g round e q s. after_flagged T Q q s f
            ∙ ap (after T Q ctx.flagged stamp (part w lay.list h.count) s) (p.view T Q (turned_agree g) q) ∙ phase_walked T Q q s round e;
        same = p.same;
        ready = p.ready;
        queued = p.queued;
        full = p.full;
      }

  -- without: those reached by transit after them
  module _ (ls : StopsListed (turned lay) w h.count latest_walker) (w'' : List ℕ) (count : ℕ)
      (x : Appended (turned lay) b.work w'' b.head.count count (bearing (turned lay) stamp b.work (part b.work lay.list h.count))) where
    abbrev last : Memory
    last = memory w'' b.labels b.label_distances (record { best = b.head.best; count = count; queued = b.head.queued; full = b.head.full })

    after_plain : (T : Tables) (Q : Query) (q : List ℕ) (s : Boardings) → ctx.flagged ≡ false
        → record { arrivals = arrivals_of (turned lay) last q; boardings = noted b.head.queued s }
        ≡ after T Q ctx.flagged stamp (part w lay.list h.count) s (arrivals_of (turned lay) b q)
    after_plain T Q q s f i =
        record {
          arrivals = record {
            labels = (arrivals_of (turned lay) b q).labels;
            earliest = x.earliest i;
            best = b.head.best;
            stop_stamp = x.stamps i;
            reached = reach i;
            seg_queue = (arrivals_of (turned lay) b q).seg_queue;
            seg_reach = x.seg_reach i;
          };
          boardings = noted (sym (queue_length q b.head.queued) i) s;
        }
      where
        more : bearing (turned lay) stamp b.work (part b.work lay.list h.count) ≡ stamped T Q stamp (stamps_of (turned lay) b.work) (part w lay.list h.count)
        more =
            sym (stamped_is T Q stamp (stamps_of (turned lay) b.work) (part b.work lay.list h.count))
            ∙ ap (stamped T Q stamp (stamps_of (turned lay) b.work)) (part_of w b.work lay.list h.count (lay.stops + 64) ls.few p.same.list)

        reach : part w'' lay.other count
            ≡ elim ctx.flagged [
              | true ↦ part b.work lay.other b.head.count
              | false ↦ part b.work lay.other b.head.count ++ stamped T Q stamp (stamps_of (turned lay) b.work) (part w lay.list h.count)
            ]
        reach =
            x.reached ∙ ap (λ (z : List ℕ). part b.work lay.other b.head.count ++ z) more
            ∙ ap (λ (z : Bool). elim z as (λ _. List ℕ) [
              | true ↦ part b.work lay.other b.head.count
              | false ↦ part b.work lay.other b.head.count ++ stamped T Q stamp (stamps_of (turned lay) b.work) (part w lay.list h.count)
            ]) (sym f)

    pub phase_plain : ctx.flagged ≡ false → WalkPhase lay ctx.flagged stamp (WalksAgree lay ctx t d bs w) (memory w l m h)
        (memory w'' b.labels b.label_distances (record { best = b.head.best; count = count; queued = b.head.queued; full = b.head.full }))
    phase_plain f =
        record {
          view = λ T Q g round e q s. after_plain T Q q s f
              ∙ ap (after T Q ctx.flagged stamp (part w lay.list h.count) s) (p.view T Q (turned_agree g) q) ∙ phase_walked T Q q s round e;
          same = same_then p.same x.same;
          ready = record {
            sized = rw x.same.size p.ready.sized;
            walks = walks_kept x.same p.ready.walks;
            counted = record {
              fits = rw x.stamps (omega (arith, phase_room, append_most stamp b.head.count count h.count p.ready.sized.sections x ls.few));
            };
            round = p.ready.round;
            written = p.ready.written;
          };
          queued = p.queued;
          full = p.full;
        }
