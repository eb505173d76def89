-- What a guest relies on (the request's demand 3): plain day, journey, way, and the demand itself, in the request's and document 01's
-- words; then days with delays, to which the promise is carried on. Journeys and ways take the trips' times as a parameter, of which there are
-- two: on a plain day, as in the request, the scheduled ones; on a steady day the effective ones. No memory and no search stands here, but
-- how it reads the delay rows, and the log of the reference's scans that a way's rounds refer to. Definitions only.
use Rattle.std.specs.Prelude.{ℕ, zero, suc, ◌+◌, ◌≤◌, ◌<◌, ◌≡◌, Bool, true, false, cond, not, ◌||◌, pos, ◌+ℤ◌}
use mathlib.Core.List.{List, Memᴰ}
use Rattle.std.proofs.Math.IntN.{sub_ℕ}
use Rattle.std.specs.Int.Signed.{non_neg}
use Rattle.signed.specs.Signed.{of_bits, bits_of}
use Rattle.stop_delay.specs.Times.{departure_given, arrival_given, size_of, shifted, effective_departure}
use Rattle.departures.specs.declared.DepartureRow.{DepartureRow}
use Rattle.line_numbers.specs.Lines.{line_of, lines_of}
use Rattle.built_lines.specs.Built.{AsBuilt}
use Rattle.departures.specs.Departures.{by_departure, mark_of}
use Rattle.event_transfers.specs.Transfers.{Input, built_transfers}
use Rattle.model.specs.Tables.{never, Tables, Origin, Query, rounds_of, change_before, stops, trips, stop_count, stop_at, arrival, departure}
use Rattle.model.specs.Tables.{no_pickup, no_drop_off, no_windows, edges_from, edge_to, walk_time, permitted}
use Rattle.model.specs.Search.{SearchAnswer, flags_in_use, delay_of, delay_at, skipped, arrival_now, put_off, run_tbr}

-- LINES AND DEPARTURES AS BUILT: what the lines call and the departure sorting call write, from a caller's list of departures for each stop
pub record LinesBuilt (T : Tables) (listed : ℕ → List DepartureRow) : Type 0 where
  pub departures_built : (s : ℕ) → s < stops T → T.departures s ≡ by_departure T.timetable (listed s)
  pub marks_built : (s : ℕ) → s < stops T → T.mark s ≡ mark_of T.timetable (listed s)
  pub lines_built : T.lines ≡ lines_of T.timetable
  pub line_built : (t : ℕ) → t < trips T → T.line_of t ≡ line_of T.timetable t
  pub lists_built : AsBuilt T.timetable T.line

-- what the transfers call makes its transfers from: the caller's list
abbrev pub transfer_input : Tables → (ℕ → List DepartureRow) → ℕ → Input
transfer_input T listed time = record { timetable = T.timetable; lines = T.lines; line_of = T.line_of; listed = listed; time = time }

-- TRANSFERS AS BUILT: what the transfers call writes
pub record TransfersBuilt (T : Tables) (listed : ℕ → List DepartureRow) (time : ℕ) : Type 0 where
  pub transfers_built : (t o : ℕ) → t < trips T → o < stop_count T t → T.transfers t o ≡ built_transfers (transfer_input T listed time) t o

-- THE TRIPS' TIMES: of trip t at offset o, its departure, its arrival, and whether it stops there
pub record TripTimes : Type 0 where
  pub departs : ℕ → ℕ → ℕ
  pub arrives : ℕ → ℕ → ℕ
  pub served : ℕ → ℕ → Bool

-- on schedule, as the stop times have them
abbrev pub scheduled : Tables → TripTimes
scheduled T = record { departs = departure T; arrives = arrival T; served = λ t o. true }

-- "no trip whose times fall", on schedule: no departure precedes its arrival, no arrival the departure before it
pub record NoTimesFall (T : Tables) : Type 0 where
  pub waits : (t o : ℕ) → t < trips T → o < stop_count T t → arrival T t o ≤ departure T t o
  pub rides : (t o : ℕ) → t < trips T → suc o < stop_count T t → departure T t o ≤ arrival T t (suc o)

module _ (T : Tables) (Q : Query) where
  -- what the timetable and the query have on both kinds of day
  pub record CalmConditions : Type 0 where
    -- "no frequency trips": a frequency trip has windows
    pub no-windows : (t : ℕ) → t < trips T → no_windows T t ≡ true
    -- "no arc flags in use": the switch puts them off, or they skip no walk edge or transfer
    pub no_flags : flags_in_use T Q ≡ false
    -- "walks complete", with this query's durations: edges A to B and B to C (C not A) have an edge A to C no longer than the two
    -- together; an origin at B and an edge B to C have an origin at C no longer than the two together
    pub edges_complete : (a e f : ℕ) → Memᴰ e (edges_from T a) → Memᴰ f (edges_from T (edge_to T e)) → (edge_to T f ≡ a → ⊥)
        → (g : ℕ) × (Memᴰ g (edges_from T a)) × (edge_to T g ≡ edge_to T f) × (walk_time T Q g ≤ walk_time T Q e + walk_time T Q f)
    pub origins_complete : (a : Origin) (f : ℕ) → Memᴰ a Q.origins → Memᴰ f (edges_from T a.stop)
        → (b : Origin) × (Memᴰ b Q.origins) × (b.stop ≡ edge_to T f) × (b.duration ≤ a.duration + walk_time T Q f)

  -- a day with these and "tables as our building calls wrote them": lines, departures and marks
  pub record CalmDay : Type 0 where
    pub listed : ℕ → List DepartureRow
    pub built : LinesBuilt T listed
    pub conditions : CalmConditions

  -- what timetable and query have besides on a plain day
  pub record PlainConditions : Type 0 where
    -- "no delays": no delay row
    pub no-delays : Q.delays.delays ≡ 0
    -- "no trip whose times fall"
    pub no_times_fall : NoTimesFall T
    -- "lines evenly listed": where one trip's departure is listed at an offset, that of each trip of its line is listed at the same
    -- offset, save where its pickup is 1
    pub evenly_listed : (s t u o : ℕ) → s < stops T → Memᴰ (record { trip = t; offset = o }) (T.departures s) → u < trips T
        → T.line_of u ≡ T.line_of t → no_pickup T u o ≡ false → Memᴰ (record { trip = u; offset = o }) (T.departures s)

  -- PLAIN DAY: the transfers too are as our call wrote them
  pub record PlainDay : Type 0 where
    pub calm : CalmDay
    pub transfers : TransfersBuilt T calm.listed Q.settings.transfer_time
    pub conditions : PlainConditions

module _ (T : Tables) (Q : Query) (W : TripTimes) where
  -- BOARDING (01, "Permitted"): at stop x, trip t at offset o. The trip is permitted, the departure is listed, pickup is not 1, the
  -- stop is served.
  pub record Boarding (x t o : ℕ) : Type 0 where
    pub trip : permitted T Q t ≡ true
    pub listed : Memᴰ (record { trip = t; offset = o }) (T.departures x)
    pub pickup : no_pickup T t o ≡ false
    pub served : W.served t o ≡ true

  -- ALIGHTING: trip t, boarded at offset o, is left at a later offset p that is served and whose drop-off is not 1
  pub record Alighting (t o p : ℕ) : Type 0 where
    pub later : o < p
    pub inside : p < stop_count T t
    pub drop_off : no_drop_off T t p ≡ false
    pub served : W.served t p ≡ true

  -- JOURNEY ("access walk, at most one ride a round, one walk edge allowed after each ride, the change time before every boarding but
  -- the first"): has it just left a ride, how many rides, which stop, when. A ride lasts from departure to arrival.
  pub data Journey : Bool → ℕ → ℕ → ℕ → Type 0 where
    access : (a : Origin) → Memᴰ a Q.origins → Journey false zero a.stop (Q.start + a.duration)
    ride : {b : Bool} {n x v : ℕ} (t o p : ℕ) → Journey b n x v → Boarding x t o → Alighting t o p → v + change_before Q n ≤ W.departs t o
        → Journey true (suc n) (stop_at T t p) (W.arrives t p)
    foot : {n x v : ℕ} (e : ℕ) → Journey true n x v → Memᴰ e (edges_from T x) → Journey false n (edge_to T e) (v + walk_time T Q e)

  -- a whole journey of at most n rides, closed by an egress walk, whose end is the arrival
  pub record JourneyOf (n arrives : ℕ) : Type 0 where
    pub just_rode : Bool
    pub ride_count : ℕ
    pub stop : ℕ
    pub reached : ℕ
    pub journey : Journey just_rode ride_count stop reached
    pub fits : ride_count ≤ n
    pub walk : ℕ
    pub egress : Memᴰ (stop, walk) Q.egress
    pub sum : arrives ≡ reached + walk

  abbrev pub WholeJourney : ℕ → Type 0
  WholeJourney arrives = JourneyOf (rounds_of Q) arrives

  -- WAY ("from the query's start and one of its origins, by permitted rides and walks, each begun where the one before ended and no
  -- sooner, the rides' rounds never falling, and every boarding after the first round at least the change time after the arrival
  -- before it"): which stop, when, and the round of its last ride (0 before any). Each ride has a round in which its trip is scanned from that
  -- boarding; scans: these (round, trip, offset).
  pub data Way (scans : List (ℕ × ℕ × ℕ)) : ℕ → ℕ → ℕ → Type 0 where
    access : (a : Origin) → Memᴰ a Q.origins → Way scans a.stop (Q.start + a.duration) zero
    ride : {x v q : ℕ} (r t o p : ℕ) → Way scans x v q → q ≤ r → Memᴰ (r, t, o) scans → Boarding x t o → Alighting t o p
        → v + change_before Q r ≤ W.departs t o
        → Way scans (stop_at T t p) (W.arrives t p) r
    foot : {x v q : ℕ} (e : ℕ) → Way scans x v q → Memᴰ e (edges_from T x) → Way scans (edge_to T e) (v + walk_time T Q e) q

  -- a total that is the arrival of a way which closes with the egress walk of the stop given with it. "A way gives each of its rides one of the
  -- rounds in which the reference scans its trip from that boarding on the same input": the reference is `run_tbr` with the switch put off, which
  -- it is on a day without arc flags in use (DECISIONS A1: left on, flags that skip nothing make it scan too little).
  pub record Arrives (total stop : ℕ) : Type 0 where
    pub reached : ℕ
    pub last_round : ℕ
    pub way : Way (run_tbr T (put_off Q)).scans stop reached last_round
    pub walk : ℕ
    pub egress : Memᴰ (stop, walk) Q.egress
    pub sum : total ≡ reached + walk

  -- DEMAND 3
  pub record Demand3 (A : SearchAnswer) : Type 0 where
    -- "every journey that tables and query permit arrives at the query's best total or later"
    pub lowest : (v : ℕ) → WholeJourney v → A.total ≤ v
    -- ""no way" is given only if no journey exists"
    pub no_way : A.total ≡ never → (v : ℕ) → WholeJourney v → ⊥
    -- "in any other answer the best total, and each candidate's, is the arrival of a way"
    pub best : (A.total ≡ never → ⊥) → Arrives A.total A.stop
    pub each : (total stop row : ℕ) → Memᴰ (total, stop, row) A.candidates → Arrives total stop

  -- beyond the request: for every journey of at most k rides that arrives within the slack of the best total, a candidate of row k or
  -- lower arrives no later
  pub record Pareto (A : SearchAnswer) : Type 0 where
    pub covers : (k v : ℕ) → k ≤ rounds_of Q → JourneyOf k v → v ≤ A.total + Q.settings.candidate_slack
        → (c : ℕ × ℕ × ℕ) × (Memᴰ c A.candidates) × (c.0 ≤ v) × (c.2 ≤ k)

-- DAYS WITH DELAYS. Effective times (01, item 4): departure and arrival are each moved by their own delay where a stop row gives one, else by
-- the trip's, and floored at 0; a skipped stop is not served.
abbrev pub effective : Tables → Query → TripTimes
effective T Q =
    record {
      departs = λ t o. effective_departure (departure T t o) (delay_at T Q (delay_of Q t) t o);
      arrives = λ t o. let d = delay_at T Q (delay_of Q t) t o in
          shifted (arrival T t o) (cond (arrival_given d.flags) d.arrival_delay d.trip_delay);
      served = λ t o. not (skipped T Q (delay_of Q t) t o);
    }

module _ (T : Tables) (Q : Query) where
  -- when one who boarded trip t at offset o arrives at offset p (01, item 4): where the stop row there gives neither time, the arrival is
  -- moved as far as the departure boarded was
  abbrev pub arrives_from : ℕ → ℕ → ℕ → ℕ
  arrives_from t o p = arrival_now T Q (delay_of Q t) (bits_of (sub_ℕ ((effective T Q).departs t o) (departure T t o))) t p

  abbrev W : TripTimes
  W = effective T Q

  -- what timetable and query have besides on a steady day. Of every ride that they permit, by effective times: a trip t boarded at a stop x, at
  -- offset o, and left at p
  pub record SteadyConditions : Type 0 where
    -- the trip's times do not fall: from departure to arrival, from arrival to arrival, from departure to departure
    pub rides : (x t o p : ℕ) → x < stops T → Boarding T Q W x t o → Alighting T Q W t o p → W.departs t o ≤ W.arrives t p
    pub arrivals : (x t o p q : ℕ) → x < stops T → Boarding T Q W x t o → Alighting T Q W t o p → Alighting T Q W t o q → p < q
        → W.arrives t p ≤ W.arrives t q
    pub departures : (x y t o p : ℕ) → x < stops T → y < stops T → Boarding T Q W x t o → Boarding T Q W y t p → o < p
        → W.departs t o ≤ W.departs t p
    -- the departure is no further from its schedule than the cap of the margin
    pub not_late : (x t o : ℕ) → x < stops T → Boarding T Q W x t o → W.departs t o ≤ departure T t o + Q.settings.margin_cap
    pub not-early : (x t o : ℕ) → x < stops T → Boarding T Q W x t o → departure T t o ≤ W.departs t o + Q.settings.margin_cap
    -- the trip arrives when it does, wherever it was boarded
    pub one-arrival : (x t o p : ℕ) → x < stops T → Boarding T Q W x t o → Alighting T Q W t o p → arrives_from t o p ≡ W.arrives t p

  -- STEADY DAY: with delays and skipped stops, whatever the transfers, and lines listed in any way
  pub record SteadyDay : Type 0 where
    pub calm : CalmDay T Q
    pub conditions : SteadyConditions

  -- DELAYS OF WHOLE TRIPS, which make a calm day steady where no scheduled times fall. Of a trip in the table:
  pub record TripDelays : Type 0 where
    -- a stop row may say "skipped", and gives no time
    pub only_skips : (j : ℕ) → j < Q.delays.stop_rows → (Q.delays.delay (Q.delays.stop_row j).row).trip < trips T
        → (departure_given (Q.delays.stop_row j).flags || arrival_given (Q.delays.stop_row j).flags) ≡ false
    -- the delay is no larger than the cap of the margin
    pub within_cap : (i : ℕ) → i < Q.delays.delays → (Q.delays.delay i).trip < trips T
        → size_of (Q.delays.delay i).delay ≤ Q.settings.margin_cap
    -- and puts no departure before 0
    pub after_zero : (i o : ℕ) → i < Q.delays.delays → (Q.delays.delay i).trip < trips T → o < stop_count T (Q.delays.delay i).trip
        → non_neg (pos (departure T (Q.delays.delay i).trip o) +ℤ of_bits (Q.delays.delay i).delay) ≡ true
