-- LAWS OF EVERY ADMITTED ANSWER, of `run_tbr` and of the query, with arc flags in use or not, whatever the day: what each label says of a guest's
-- way, where pickup and drop-off bar, and how total, candidates and scans go with the labels. These are laws, not a definition of the answer:
-- that is `run_tbr` and `query` (Search). They say nothing of optimality (Promise). Definitions only.
use Rattle.std.specs.Prelude.{ℕ, suc, ◌+◌, ◌*◌, ◌≤◌, ◌<◌, ◌≡◌, ◌⊎◌, true, false, length, get_or, Float, Some}
use mathlib.Core.List.{List, [], ◌∷◌, Memᴰ}
use Rattle.door.specs.Door.{time_limit}
use Rattle.frequency.specs.declared.BoardedRun.{BoardedRun}
use Rattle.stop_delay.specs.Times.{size_of}
use Rattle.label.specs.declared.Label.{Label}
use Rattle.label.specs.declared.Label.TheVariants.{Empty, Access, Transit, Walk}
use Rattle.label.specs.Label.{no_distance}
use Rattle.label.specs.Table.{record_of}
use Rattle.model.specs.Tables.{Tables, Origin, Query, rounds_of, never, stops, trips, stop_count, stop_at, no_pickup, no_drop_off, edges_from}
use Rattle.model.specs.Tables.{edge_to, walk_time, permitted}
use Rattle.model.specs.Search.{Segment, SearchAnswer, reached_by, delay_of, skipped, board_at, arrival_now}

-- the latest arrival at a stop: the latest boarding (a transfer's label), then the longest walk
abbrev pub latest : ℕ
latest = 108003224

-- the latest total: the latest arrival, then the longest egress walk
abbrev pub latest_total : ℕ
latest_total = 109051799

-- a stop's label in a row
abbrev pub label_in : List Label → ℕ → ℕ → Label
label_in labels s row = get_or labels (record_of s row) Empty

module _ (T : Tables) (Q : Query) where
  -- BOARDED: trip t at offset o, where pickup is not 1 and the stop is not skipped; b is the boarding that one who is there from second `after` on
  -- finds (a frequency trip's earliest run), if there is one
  pub record Boarded (t o : ℕ) (b : BoardedRun) : Type 0 where
    pub trip : t < trips T
    pub inside : o < stop_count T t
    pub pickup : no_pickup T t o ≡ false
    pub served : skipped T Q (delay_of Q t) t o ≡ false
    pub after : ℕ
    pub boards : board_at T Q (delay_of Q t) t o after ≡ Some b

  -- A RIDE that begins: trip, offset, stop and time shift are those of a boarding
  pub record Begins (g : Segment) : Type 0 where
    pub boarding : BoardedRun
    pub boarded : Boarded g.trip g.offset boarding
    pub stop : g.stop ≡ stop_at T g.trip g.offset
    pub shift : g.shift ≡ boarding.time_shift_s

  -- it is left at a later offset p, on a permitted trip, where drop-off is not 1
  pub record Leaves (g : Segment) (p : ℕ) : Type 0 where
    pub permits : permitted T Q g.trip ≡ true
    pub later : g.offset < p
    pub inside : p < stop_count T g.trip
    pub drop_off : no_drop_off T g.trip p ≡ false

  -- when it is there
  abbrev pub left_at : Segment → ℕ → ℕ
  left_at g p = arrival_now T Q (delay_of Q g.trip) g.shift g.trip p

  -- an Access label of stop s in a row: an origin's, in row 0
  pub record AccessFits (s row x v d : ℕ) (f : Float) : Type 0 where
    pub origin : Origin
    pub listed : Memᴰ origin Q.origins
    pub first : row ≡ 0
    pub here : origin.stop ≡ s
    pub stop : x ≡ s
    pub arrival : v ≡ Q.start + origin.duration
    pub duration : d ≡ origin.duration
    pub distance : f ≡ origin.distance

  -- a Transit label of stop s in a row: the label before it is of the row before; a ride on a permitted trip, boarded where pickup is not 1
  -- with the boarding's time shift, and left later, at s, where drop-off is not 1 and the stop is not skipped, at the effective arrival there.
  -- `after` is the second from which on the boarding was looked for; that x has a label early enough for it, and by how much, is the law of the
  -- whole table (crate `joined`), since a label alone does not say it.
  pub record TransitFits (s row v t x o p r shift : ℕ) : Type 0 where
    pub permits : permitted T Q t ≡ true
    pub trip : t < trips T
    pub boards : x ≡ stop_at T t o
    pub pickup : no_pickup T t o ≡ false
    pub started : skipped T Q (delay_of Q t) t o ≡ false
    pub alights : s ≡ stop_at T t p
    pub drop_off : no_drop_off T t p ≡ false
    pub served : skipped T Q (delay_of Q t) t p ≡ false
    pub later : o < p
    pub inside : p < stop_count T t
    pub round : row ≡ suc r
    pub after : ℕ
    pub boarding : BoardedRun
    pub leaves : board_at T Q (delay_of Q t) t o after ≡ Some boarding
    pub shift_is : shift ≡ boarding.time_shift_s
    pub arrival : v ≡ arrival_now T Q (delay_of Q t) shift t p
    pub arrives : v ≤ 2097150
    pub shifts : size_of shift ≤ time_limit

  -- a transfer from stop x to stop s, d seconds long: a ride is left at x, where drop-off is not 1; a trip is boarded at s, where pickup is not 1 and
  -- the stop is not skipped, no sooner than d seconds after; the label's arrival is that trip's departure. (Whether the ride's stop is
  -- skipped is not asked: 01, "Places where readers slip".)
  pub record TransferFits (s v x d : ℕ) (f : Float) : Type 0 where
    pub ride : Segment
    pub begins : Begins ride
    pub left : ℕ
    pub leaves : Leaves ride left
    pub from : x ≡ stop_at T ride.trip left
    pub trip : ℕ
    pub offset : ℕ
    pub boarding : BoardedRun
    pub boarded : Boarded trip offset boarding
    pub in_time : boarded.after ≡ left_at ride left + d
    pub to : s ≡ stop_at T trip offset
    pub departs : v ≡ boarding.departure
    pub time : d ≤ time_limit
    pub distance : f ≡ no_distance

  -- a Walk label's walk from stop x to stop s: along an edge, or a transfer
  pub data Walked (s v x d : ℕ) (f : Float) : Type 0 where
    edge : (e : ℕ) → Memᴰ e (edges_from T x) → s ≡ edge_to T e → d ≡ walk_time T Q e → f ≡ T.distance e → Walked s v x d f
    transfer : TransferFits s v x d f → Walked s v x d f

  -- a Walk label of stop s in a row: the label before it is of the same row, which is not the origins'
  pub record WalkFits (s row v x y d : ℕ) (f : Float) (r : ℕ) : Type 0 where
    pub from : x < stops T
    pub to : y ≡ s
    pub how : Walked s v x d f
    pub round : row ≡ r
    pub ridden : 1 ≤ row
    pub arrives : v ≤ latest
    pub duration : d ≤ 104857500

  -- what the label of stop s in a row says
  pub data LabelFits (s row : ℕ) : Label → Type 0 where
    empty : LabelFits s row Empty
    access : {x v d : ℕ} {f : Float} → AccessFits s row x v d f → LabelFits s row (Access x v d f)
    transit : {v t x o p r shift : ℕ} → TransitFits s row v t x o p r shift → LabelFits s row (Transit v t x o p r shift)
    walk : {v x y d r : ℕ} {f : Float} → WalkFits s row v x y d f r → LabelFits s row (Walk v x y d f r)

  -- a scan in the log: of one of so many rounds, of a permitted trip, from an offset that it has
  pub record ScanFits (rounds r t o : ℕ) : Type 0 where
    pub round : r < rounds
    pub trip : t < trips T
    pub inside : o < stop_count T t
    pub permits : permitted T Q t ≡ true

-- the last candidate has this total
pub data Last (total : ℕ) : List (ℕ × ℕ × ℕ) → Type 0 where
  last : (stop row : ℕ) → Last total ((total, stop, row) ∷ [])
  more : {c : ℕ × ℕ × ℕ} {cs : List (ℕ × ℕ × ℕ)} → Last total cs → Last total (c ∷ cs)

-- totals fall strictly from below a bound, rows rise strictly from a row on
pub data Sinks : ℕ → ℕ → List (ℕ × ℕ × ℕ) → Type 0 where
  none : {bound from : ℕ} → Sinks bound from []
  next : {bound from total stop row : ℕ} {cs : List (ℕ × ℕ × ℕ)} → total < bound → from ≤ row → Sinks total (suc row) cs
      → Sinks bound from ((total, stop, row) ∷ cs)

-- a candidate: the total of an egress stop's label in a row, not before the best total, nor later by more than the slack
pub record Candidate (Q : Query) (labels : List Label) (top total stop row : ℕ) : Type 0 where
  pub walk : ℕ
  pub egress : Memᴰ (stop, walk) Q.egress
  pub arrives : ℕ
  pub label : reached_by (label_in labels stop row) ≡ suc arrives
  pub sum : total ≡ arrives + walk
  pub best : top ≤ total
  pub near : total ≤ top + Q.settings.candidate_slack

-- WHAT EVERY ADMITTED ANSWER KEEPS
pub record Lawful (T : Tables) (Q : Query) (A : SearchAnswer) : Type 0 where
  -- LABELS: 13 rows a stop; each says what it should; rows above the round count are empty; arrivals fall strictly with the row
  pub long : length A.labels ≡ stops T * 13
  pub fits : (s row : ℕ) → s < stops T → row < 13 → LabelFits T Q s row (label_in A.labels s row)
  pub above : (s row : ℕ) → s < stops T → rounds_of Q < row → row < 13 → label_in A.labels s row ≡ Empty
  pub falls : (s i j u v : ℕ) → s < stops T → i < j → j < 13 → reached_by (label_in A.labels s i) ≡ suc u
      → reached_by (label_in A.labels s j) ≡ suc v → v < u
  -- TIMES: no label's arrival is after 108,003,224, no total after 109,051,799
  pub arrives : (s row v : ℕ) → s < stops T → row < 13 → reached_by (label_in A.labels s row) ≡ suc v → v ≤ latest
  pub total : (A.total ≡ never) ⊎ (A.total ≤ latest_total)
  -- THE TOTAL is no later than any label of an egress stop with the walk from there; "no way" names no stop and has no candidates,
  -- any other answer names an egress stop whose label in some row gives the total
  pub lowest : (s d row v : ℕ) → Memᴰ (s, d) Q.egress → row < 13 → reached_by (label_in A.labels s row) ≡ suc v → A.total ≤ v + d
  pub no_stop : A.total ≡ never → A.stop ≡ never
  pub no_candidate : A.total ≡ never → A.candidates ≡ []
  pub stop : (A.total ≡ never → ⊥) → (row : ℕ) × (row ≤ rounds_of Q) × Candidate Q A.labels A.total A.total A.stop row
  -- THE CANDIDATES: labels' totals, within the slack of the best one, of rows up to the round count; totals fall strictly and rows
  -- rise strictly; the last one's total is the best one
  pub each : (total stop row : ℕ) → Memᴰ (total, stop, row) A.candidates
      → Candidate Q A.labels A.total total stop row × (row ≤ rounds_of Q)
  pub sinking : Sinks never 0 A.candidates
  pub last : (A.total ≡ never → ⊥) → Last A.total A.candidates
  -- THE SCANS are of the query's rounds and of permitted trips, from offsets that they have
  pub scans : (r t o : ℕ) → Memᴰ (r, t, o) A.scans → ScanFits T Q (rounds_of Q) r t o
