-- How a query begins: where its sections stand, what is laid out in the working numbers, the state before the first round. Definitions only.
-- Inner: nobody has to believe this.
use Rattle.std.specs.Prelude.{ℕ, ◌+◌, ◌*◌, ◌≤◌, ◌<◌, ◌≡◌, Bool, false, List, length, get_or, Float}
use Rattle.tables.specs.Timetable.{timetable}
use Rattle.line_layout.specs.Layout.{position_in, line_trips_in, fifo_of}
use Rattle.event_transfers.specs.Transfers.{events_before}
use Rattle.model.specs.Tables.{Tables, Query}
use Rattle.model.specs.Search.{margin_of, new_boardings, begin}
use Rattle.arc_flags.specs.Skipping.{target_words}
use Rattle.query_types.specs.declared.Lay.{Lay}
use Rattle.search_state.specs.Places.{Sized, Walks, EgressTable, turned}
use Rattle.query_types.specs.Layout.{rest_at, positions_at, fifo_at, trip_stamps_at, events_at, lay_of, list_room}
use Rattle.search_state.specs.View.{Memory, arrivals_of, Written}
use Rattle.query_types.specs.declared.Terms.{Terms}
use Rattle.target_resolving.specs.Resolving.{lined_of}
use Rattle.line_pruning.specs.Books.{Chains, Books}
use Rattle.query_types.specs.declared.QueryCounts.{QueryCounts}
use Rattle.query_types.specs.declared.Lengths.{Lengths}
use Rattle.query_input.specs.Lent.{Lent, tables_of, query_of, line_runs, line_entries, delay_rows, stop_rows, transfer_runs_at}
use Rattle.query_input.specs.Sane.{Admitted}
use Rattle.query_types.specs.declared.Net.{Net}
use Rattle.ride_step.specs.Laid.{Rides, Laid}
use Rattle.query_types.specs.Slices.{Slices, slices}
use Rattle.query_types.specs.declared.Context.{Context}

-- what of a query boarding goes by
abbrev pub terms_of : Tables → Query → Terms
terms_of T Q = record { modes = Q.modes; wheelchair = Q.wheelchair; margin = margin_of T Q; line_scan = Q.settings.line_scan }

-- where the tables stand, and what they are asked
abbrev pub net_of : Lent → Net
net_of x =
    record {
      lined = lined_of x.n.timetable x.n.lines;
      terms = terms_of (tables_of x) (query_of x);
      patterns = x.n.patterns;
      target = target_words (tables_of x) (query_of x);
      runs = transfer_runs_at x.n;
      events = events_at (lay_of x.n);
    }

-- what a query computes once: from what is lent, with these tables for transfers and these places, arc flags in use or not
abbrev pub context_of : Lent → Net → Lay → Bool → Context
context_of x net lay flagged = record { counts = x.n; lay = lay; net = net; flagged = flagged; change = (query_of x).change }

-- the slices that its rounds read
abbrev pub slices_of : Lent → Slices
slices_of x = slices x.t (delay_rows x.q x.n) (stop_rows x.q x.n) x.built x.patterns x.transfers

-- what is lent: these counts, this timetable, what the building calls wrote, these distances, these numbers of the query
pub record Lends (x : Lent) (n : QueryCounts) (t built : List ℕ) (distances : List Float) (q : List ℕ) : Type 0 where
  pub counts : x.n ≡ n
  pub timetable_is : x.t ≡ t
  pub built-is : x.built ≡ built
  pub distances-are : x.distances ≡ distances
  pub query-is : x.q ≡ q

-- some lent areas that the door admits are these
pub record Askable (n : QueryCounts) (t built : List ℕ) (distances : List Float) (q : List ℕ) : Type 0 where
  pub x : Lent
  pub l : Lengths
  pub admitted : Admitted x l
  pub lends : Lends x n t built distances q

-- laid out from `rest_at` on: egress table, positions, FIFO flags, events before each trip; all else is as it came
pub record LaidOut (x : Lent) (lay : Lay) (w w' : List ℕ) : Type 0 where
  pub size : length w' ≡ length w
  pub egress : EgressTable (query_of x).egress lay w'
  pub walks : Walks lay w'
  pub position : (i : ℕ) → i < lay.trips
      → get_or w' (positions_at lay + i) 0 ≡ position_in (line_trips_in (line_runs x.built x.n) (line_entries x.built x.n)) x.n.lines i
  pub fifo : (l : ℕ) → l < lay.lines
      → get_or w' (fifo_at lay + l) 0 ≡ fifo_of (timetable x.t x.n.timetable) (line_runs x.built x.n) (line_entries x.built x.n) l
  pub events : (i : ℕ) → i < lay.trips → get_or w' (events_at lay + i) 0 ≡ events_before (timetable x.t x.n.timetable) i
  pub below : (i : ℕ) → i < rest_at lay → get_or w' i 0 ≡ get_or w i 0
  pub above : (i : ℕ) → trip_stamps_at lay ≤ i → get_or w' i 0 ≡ get_or w i 0

-- BEFORE THE FIRST ROUND memory holds the model's `begin`: the origins' stops in the other list, no segment, no boarding
pub record Begun (x : Lent) (ctx : Context) (a : Memory) : Type 0 where
  pub laid : Laid ctx (slices_of x) a.work
  pub rides : Rides ctx (slices_of x) a.work (tables_of x) (query_of x)
  pub view : (q : List ℕ) → (begin (tables_of x) (query_of x)).arrivals ≡ arrivals_of (turned ctx.lay) a q
  pub books : Books ctx.lay 1 (tables_of x) (query_of x) a.work (new_boardings (tables_of x) (query_of x))
  pub chains : Chains ctx.lay 1 a.work
  pub sized : Sized ctx.lay (length a.work) (length a.labels) (length a.label_distances)
  pub walks : Walks ctx.lay a.work
  pub few : a.head.count ≤ list_room ctx.lay.stops
  pub queued : a.head.queued ≡ 0
  pub full : a.head.full ≡ false
  pub written : Written (ctx.lay.stops * 13) a.labels a.label_distances
