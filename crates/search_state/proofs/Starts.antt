-- An origin in memory is the model's. Assumes nothing.
use Prim.Native.Nat.{ℕ, ◌+◌, ◌*◌, ◌≤◌, ◌<◌}
use mathlib.Core.Path.{◌≡◌, refl, sym, ap, ap₂, ◌∙◌}
use mathlib.Core.List.{List, [], ◌∷◌, ◌++◌}
use native.Mathlib.Omega.{arith}
use lib.ListN.{length, get_or, set}
use lib.Ieee.{Float}
use borrow.Author.Tests.{lt-ltb, le-ltb}
use Rattle.label.specs.declared.Label.{Label}
use Rattle.label.specs.declared.Label.TheVariants.{Access}
use Rattle.label.specs.Label.{row_of}
use Rattle.label.specs.Table.{InTable, record_of, put_words, put_distance}
use Rattle.label.proofs.Laws.{put_words_length, put_distance_length}
use Rattle.model.specs.Tables.{Tables, Query, Origin}
use Rattle.model.specs.Search.{Arrivals, at, best_after, set_out}
use Rattle.query_types.specs.declared.Lay.{Lay}
use Rattle.query_types.specs.declared.Head.{Head}
use Rattle.search_state.specs.Places.{EgressTable, table_word}
use Rattle.search_state.specs.View.{memory, arrivals_of, labels_of}
use Rattle.search_state.specs.Step.{Starting, StartStep, Entered, best_by}
use Rattle.search_state.proofs.Part.{first_at}
use Rattle.search_state.proofs.Labels.{labels_put, written_put}
use Rattle.search_state.proofs.Marking.{same_refl}
use Rattle.search_state.proofs.Steps.{best_is, walks_kept}

-- an origin's arrival at v, by whether it is earlier
abbrev late : Tables → Query → ℕ → Origin → Arrivals → Arrivals
late T Q v o a =
    record {
      labels = a.labels;
      earliest = a.earliest;
      best = best_after T Q o.stop v a.best;
      stop_stamp = a.stop_stamp;
      reached = a.reached;
      seg_queue = a.seg_queue;
      seg_reach = a.seg_reach;
    }

abbrev early : Tables → Query → ℕ → Origin → Arrivals → Arrivals
early T Q v o a =
    record {
      labels = set a.labels (record_of o.stop 0) (Access o.stop v o.duration o.distance);
      earliest = set a.earliest o.stop v;
      best = best_after T Q o.stop v a.best;
      stop_stamp = set a.stop_stamp o.stop 1;
      reached = a.reached ++ (o.stop ∷ []);
      seg_queue = a.seg_queue;
      seg_reach = a.seg_reach;
    }

module _ (T : Tables) (Q : Query) (o : Origin) (a : Arrivals) (v : ℕ) (e : Q.start + o.duration ≡ v) where
  out_late : at a o.stop ≤ v → set_out T Q o a ≡ late T Q v o a
  unfolding set_out
  out_late h =
      rw (le-ltb (Q.start + o.duration) (at a o.stop) (rw e h), set_out) (ap (λ (u : ℕ). late T Q u o a) e)

  out_early : v < at a o.stop → set_out T Q o a ≡ early T Q v o a
  unfolding set_out
  out_early h =
      rw (lt-ltb (Q.start + o.duration) (at a o.stop) (rw e h), set_out) (ap (λ (u : ℕ). early T Q u o a) e)

module _ (lay : Lay) (start s d : ℕ) (z : Float) (w l : List ℕ) (m : List Float) (h : Head) (ok : Starting lay (memory w l m h)) (in-stops : s < lay.stops) where
  abbrev origin : Origin
  origin = record { stop = s; duration = d; distance = z }

  abbrev agreed : Tables → Query → Type 0
  agreed T Q = EgressTable Q.egress lay w × (Q.start ≡ start)

  abbrev now_head : ℕ → ℕ → Head
  now_head best n = record { best = best; count = n; queued = h.queued; full = h.full }

  pub start_late : (best : ℕ) → get_or w s 0 ≤ start + d → best ≡ best_by (table_word lay w s) (start + d) h.best
      → StartStep lay agreed (λ T Q. set_out T Q origin) (memory w l m h) (memory w l m (now_head best h.count))
  start_late best e b =
      record {
        view = λ T Q y q.
            let a = arrivals_of lay (memory w l m h) q in
            (λ i. record {
              labels = a.labels;
              earliest = a.earliest;
              best = (b ∙ best_is T Q lay w s (start + d) h.best y.0 in-stops) i;
              stop_stamp = a.stop_stamp;
              reached = a.reached;
              seg_queue = a.seg_queue;
              seg_reach = a.seg_reach;
            }) ∙ sym (out_late T Q origin a (start + d) (ap (λ (u : ℕ). u + d) y.1) (rw (first_at w lay.stops s in-stops) e));
        same = same_refl lay w;
        sized = ok.sized;
        walks = ok.walks;
        count = omega arith;
        queued = refl;
        full = refl;
        written = ok.written;
      }

  pub in_first : InTable l m (record_of s 0)
  in_first = record { words = omega (arith, ok.sized.rows, in-stops); distance = omega (arith, ok.sized.metres, in-stops) }

  pub start_early : (w' l' : List ℕ) (m' : List Float) (best k : ℕ) → start + d < get_or w s 0 → best ≡ best_by (table_word lay w s) (start + d) h.best
      → Entered lay 1 s (start + d) w w' h.count → k ≡ record_of s 0
      → l' ≡ put_words (row_of (Access s (start + d) d z)) l k → m' ≡ put_distance (row_of (Access s (start + d) d z)) m k
      → StartStep lay agreed (λ T Q. set_out T Q origin) (memory w l m h) (memory w' l' m' (now_head best (h.count + 1)))
  start_early w' l' m' best k e b p n x y =
      let how : Label = Access s (start + d) d z in
      record {
        view = λ T Q g q.
            let a = arrivals_of lay (memory w l m h) q in
            (λ i. record {
              labels = (ap₂ (λ (r : List ℕ) (f : List Float). labels_of r f (lay.stops * 13)) (x ∙ ap (put_words (row_of how) l) n) (y ∙ ap (put_distance (row_of how) m) n)
                  ∙ labels_put how l m (record_of s 0) (lay.stops * 13) in_first (omega (arith, in-stops))) i;
              earliest = p.earliest i;
              best = (b ∙ best_is T Q lay w s (start + d) h.best g.0 in-stops) i;
              stop_stamp = p.stamps i;
              reached = p.reached i;
              seg_queue = a.seg_queue;
              seg_reach = p.seg_reach i;
            }) ∙ sym (out_early T Q origin a (start + d) (ap (λ (u : ℕ). u + d) g.1) (rw (first_at w lay.stops s in-stops) e));
        same = p.same;
        sized = rw (p.same.size, ap length x ∙ put_words_length (row_of how) l k, ap length y ∙ put_distance_length (row_of how) m k) ok.sized;
        walks = walks_kept p.same ok.walks;
        count = omega arith;
        queued = refl;
        full = refl;
        written = rw (x, y, n) (written_put how l m (record_of s 0) (lay.stops * 13) in_first ok.written);
      }
