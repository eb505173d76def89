-- A query's state in memory, seen as the model's `Arrivals`. Definitions only.
-- Inner: nobody has to believe this.
use Rattle.std.specs.Prelude.{ℕ, ◌+◌, ◌*◌, ◌<◌, ◌≡◌, List, get_or, set, Float}
use Rattle.loops.specs.Count.{tab}
use Rattle.label.specs.declared.Label.{Label}
use Rattle.label.specs.Label.{row_of}
use Rattle.label.specs.Table.{label_row_at, loaded}
use Rattle.model.specs.Search.{Arrivals, Segment}
use Rattle.query_types.specs.declared.Lay.{Lay}
use Rattle.query_types.specs.declared.Head.{Head}
use Rattle.search_state.specs.Part.{part}
use Rattle.search_state.specs.Places.{earliest_of, stamps_of, reach_of}

-- the labels of n records
unfoldable pub labels_of : List ℕ → List Float → ℕ → List Label
labels_of labels label_distances n = tab (loaded labels label_distances) n

-- each of n records is the row of its label: no word of it is left over
pub record Written (n : ℕ) (labels : List ℕ) (label_distances : List Float) : Type 0 where
  pub row : (k : ℕ) → k < n → label_row_at labels label_distances k ≡ row_of (loaded labels label_distances k)

-- the segment at row k of a queue, four numbers a row; the first n segments
abbrev pub segment_at : List ℕ → ℕ → Segment
segment_at q k = record { trip = get_or q (4 * k) 0; offset = get_or q (4 * k + 1) 0; stop = get_or q (4 * k + 2) 0; shift = get_or q (4 * k + 3) 0 }

unfoldable pub queue_of : List ℕ → ℕ → List Segment
queue_of q n = tab (segment_at q) n

-- a queue with this segment at row k
unfoldable pub put_segment : Segment → List ℕ → ℕ → List ℕ
put_segment g q k = set (set (set (set q (4 * k) g.trip) (4 * k + 1) g.offset) (4 * k + 2) g.stop) (4 * k + 3) g.shift

-- what an arrival changes in memory: the working numbers, the labels and their distances, the head by value
pub record Memory : Type 0 where
  pub work : List ℕ
  pub labels : List ℕ
  pub label_distances : List Float
  pub head : Head

abbrev pub memory : List ℕ → List ℕ → List Float → Head → Memory
memory w l m h = record { work = w; labels = l; label_distances = m; head = h }

-- the model's state, with q for the queue
abbrev pub arrivals_of : Lay → Memory → List ℕ → Arrivals
arrivals_of lay a q =
    record {
      labels = labels_of a.labels a.label_distances (lay.stops * 13);
      earliest = earliest_of lay a.work;
      best = a.head.best;
      stop_stamp = stamps_of lay a.work;
      reached = part a.work lay.list a.head.count;
      seg_queue = queue_of q a.head.queued;
      seg_reach = reach_of lay a.work;
    }
