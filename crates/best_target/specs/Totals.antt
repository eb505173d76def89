-- The answer's numbers over a query's memory, and which states of a query agree with it. Definitions only.
-- Inner: nobody has to believe this.
use Rattle.std.specs.Prelude.{ℕ, zero, suc, ◌+◌, ◌*◌, ◌/◌, ◌<◌, ◌≤◌, ◌≡◌, ◌⊎◌, List, cond, length, get_or, ltb, eqb, Float}
use Rattle.loops.specs.Count.{tab}
use Rattle.label.specs.declared.Label.TheVariants.{Empty}
use Rattle.label.specs.Table.{record_of, loaded}
use Rattle.model.specs.Tables.{never}
use Rattle.model.specs.Search.{Arrivals, reached_by}
use Rattle.best_target.specs.declared.Target.{Target}

-- every egress stop is below the count, every walk a time
pub record EgressOk (stops : ℕ) (rows : List ℕ) : Type 0 where
  pub few : length rows ≤ 8192
  pub stop : (i : ℕ) → i < length rows / 2 → get_or rows (i * 2) 0 < stops
  pub walk : (i : ℕ) → i < length rows / 2 → get_or rows (i * 2 + 1) 0 ≤ 1048575

-- a total and its stop, as the model has them
abbrev pub target_of : Target → ℕ × ℕ
target_of b = (b.total, b.stop)

-- the better of the best so far and a total over a stop; equal ones keep the first
abbrev pub better : ℕ × ℕ → ℕ → ℕ → ℕ × ℕ
better b total stop = cond (ltb total b.0) (total, stop) b

-- the best so far after an egress stop reached at v
abbrev pub with_stop : ℕ × ℕ → ℕ → ℕ → ℕ → ℕ × ℕ
with_stop b v stop walk = cond (eqb v never) b (better b (v + walk) stop)

-- the stops' earliest arrivals stand first in the workspace: each a time, or never
pub record EarliestOk (stops : ℕ) (work : List ℕ) : Type 0 where
  pub long : stops ≤ length work
  pub small : (s : ℕ) → s < stops → (get_or work s 0 ≡ never) ⊎ (get_or work s 0 < 134217728)

-- a state whose earliest arrivals are these
pub record EarliestAre (a : Arrivals) (stops : ℕ) (work : List ℕ) : Type 0 where
  pub at : (s : ℕ) → s < stops → get_or a.earliest s 0 ≡ get_or work s 0

-- the best so far after an egress stop whose label arrives so; x: the arrival plus one, 0 for no label
abbrev pub with_reach : ℕ × ℕ → ℕ → ℕ → ℕ → ℕ × ℕ
with_reach b zero stop walk = b
with_reach b (suc v) stop walk = better b (v + walk) stop

-- the labels, 13 rows to a stop, in slices of words and distances: every arrival is a time
pub record LabelsOk (stops : ℕ) (labels : List ℕ) (label_distances : List Float) : Type 0 where
  pub few : stops ≤ 4096
  pub words : stops * 13 * 8 ≤ length labels
  pub distances_long : stops * 13 ≤ length label_distances
  pub small : (s r : ℕ) → s < stops → r < 13 → reached_by (loaded labels label_distances (record_of s r)) ≤ 134217728

-- a state whose labels are these
pub record Labelled (a : Arrivals) (stops : ℕ) (labels : List ℕ) (label_distances : List Float) : Type 0 where
  pub at : (s r : ℕ) → s < stops → r < 13 → get_or a.labels (record_of s r) Empty ≡ loaded labels label_distances (record_of s r)

-- THE CANDIDATES IN MEMORY, three words each: total, stop, row. The first m of them:
abbrev pub candidate_at : List ℕ → ℕ → ℕ × ℕ × ℕ
candidate_at out k = (get_or out (k * 3) 0, get_or out (k * 3 + 1) 0, get_or out (k * 3 + 2) 0)

abbrev pub candidates_in : List ℕ → ℕ → List (ℕ × ℕ × ℕ)
candidates_in out m = tab (candidate_at out) m

-- nothing but zeros from candidate m on
pub record ZeroFrom (out : List ℕ) (m : ℕ) : Type 0 where
  pub zeros : (i : ℕ) → m * 3 ≤ i → get_or out i 0 ≡ 0

-- one candidate more: it stands at place m, those before it as they were
pub record CandidatePut (old new : List ℕ) (m total stop row : ℕ) : Type 0 where
  pub size : length new ≡ length old
  pub here : candidate_at new m ≡ (total, stop, row)
  pub before : (i : ℕ) → i < m * 3 → get_or new i 0 ≡ get_or old i 0
  pub after : (i : ℕ) → m * 3 + 3 ≤ i → get_or new i 0 ≡ get_or old i 0
