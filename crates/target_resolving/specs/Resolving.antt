-- How the code resolves a transfer: one trip of a line tried after the other. Definitions only.
-- Inner: nobody has to believe this.
use Rattle.std.specs.Prelude.{ℕ, ◌+◌, ◌*◌, ◌<◌, ◌≤◌, ◌≡◌, Bool, cond, not, ◌&&◌, ◌||◌, List, get_or, length, ltb, leb, Option, None, Some}
use Rattle.loops.specs.Count.{one}
use Rattle.frequency.specs.declared.BoardedRun.{BoardedRun}
use Rattle.model.specs.Tables.{Tables, Query, trips, stop_count, departure, no_pickup, no_windows, position, fifo, usable}
use Rattle.model.specs.Search.{delay_of, skipped, margin_of, board_at}
use Rattle.tables.specs.declared.Counts.{Counts}
use Rattle.event_transfers.specs.Transfers.{Transfer}
use Rattle.target_resolving.specs.declared.Tried.{Tried}
use Rattle.target_resolving.specs.declared.Tried.TheVariants.{Next, Stop, Take}
use Rattle.target_resolving.specs.declared.BoardedTrip.{BoardedTrip}
use Rattle.query_types.specs.Layout.{positions_at, fifo_at, lay_for}
use Rattle.query_types.specs.declared.Lined.{Lined}

-- k places of a line from p on stand in a slice from `from` on
pub record TripsAt (trip : ℕ → ℕ) (p : ℕ) (built : List ℕ) (from k : ℕ) : Type 0 where
  pub place : (j : ℕ) → j < k → trip (p + j) ≡ get_or built (from + j) 0

-- what is found, as the model has it
abbrev pub resolved_of : Option BoardedTrip → Option (ℕ × BoardedRun)
resolved_of None = None
resolved_of (Some x) = Some (x.trip, x.run)

-- a boarding against the best total: taken if earlier; else a FIFO line has no better one
abbrev pub weighed : Bool → ℕ → Option BoardedRun → Tried
weighed is_fifo best None = Next
weighed is_fifo best (Some b) = cond (ltb b.departure best) (Take b) (cond is_fifo Stop Next)

-- by whether the trip has that offset, is too late, is barred
abbrev pub choose : Bool → Bool → Bool → Tried → Tried
choose known late barred found = cond known (cond late Stop (cond barred Next found)) Next

-- ONE TRIP of a line, as `resolve_in` tries it: on to the next, no further, or taken
unfoldable pub tried : Tables → Query → (is_fifo : Bool) (o after best t : ℕ) → Tried
tried T Q is_fifo o after best t =
    choose (ltb t (trips T) && ltb o (stop_count T t))
    ((is_fifo && leb (best + margin_of T Q) (departure T t o)) && no_windows T t)
    ((not (usable T Q t) || no_pickup T t o) || skipped T Q (delay_of Q t) t o)
    (weighed is_fifo best (board_at T Q (delay_of Q t) t o after))

-- what is found where trip t was tried so, and the places after it give this
abbrev pub go_on : Tried → ℕ → Option (ℕ × BoardedRun) → Option (ℕ × BoardedRun)
go_on Next t later = later
go_on Stop t later = None
go_on (Take b) t later = Some (t, b)

-- a transfer to this trip at this offset
pub record Names (e : Transfer) (target off : ℕ) : Type 0 where
  pub trip : e.target ≡ target
  pub place : e.offset ≡ off

-- WHERE THE LINES' TABLES STAND: in `built` each trip's line, then the lines' runs (two words each), then the entries; in `work`
-- the positions and the FIFO flags
abbrev pub lined_of : Counts → ℕ → Lined
lined_of c lines =
    record {
      lines = lines;
      runs = c.trips;
      entries = c.trips + lines * 2;
      positions = positions_at (lay_for c lines);
      fifo = fifo_at (lay_for c lines);
    }

-- the run of line l: its first entry, how many
abbrev pub line_run_first : Lined → List ℕ → ℕ → ℕ
line_run_first n built l = get_or built (n.runs + l * 2) 0

abbrev pub line_run_count : Lined → List ℕ → ℕ → ℕ
line_run_count n built l = get_or built (n.runs + l * 2 + 1) 0

-- both slices have them
pub record LinesHeld (c : Counts) (n : Lined) (built work : List ℕ) : Type 0 where
  pub few : n.lines ≤ 4096
  pub near : (n.runs < 4294967296) × (n.entries < 4294967296) × (n.positions < 4294967296) × (n.fifo < 4294967296)
  pub trips : c.trips ≤ length built
  pub runs : n.runs + n.lines * 2 ≤ length built
  pub entries : (l : ℕ) → l < n.lines → n.entries + (line_run_first n built l + line_run_count n built l) ≤ length built
  pub positions : n.positions + c.trips ≤ length work
  pub fifo : n.fifo + n.lines ≤ length work

-- tables whose lines, positions and FIFO flags are these
pub record LinesOf (T : Tables) (c : Counts) (n : Lined) (built work : List ℕ) : Type 0 where
  pub lines : T.lines ≡ n.lines
  pub line_of : (i : ℕ) → i < c.trips → T.line_of i ≡ get_or built i 0
  pub count : (l : ℕ) → l < n.lines → (T.line l).count ≡ line_run_count n built l
  pub entry : (l p : ℕ) → l < n.lines → p < line_run_count n built l → (T.line l).trip p ≡ get_or built (n.entries + line_run_first n built l + p) 0
  pub position : (i : ℕ) → i < c.trips → position T i ≡ get_or work (n.positions + i) 0
  pub fifo : (l : ℕ) → l < n.lines → one (fifo T l) ≡ get_or work (n.fifo + l) 0
