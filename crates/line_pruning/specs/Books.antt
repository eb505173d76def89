-- The model's `Boardings` in memory. Definitions only.
-- Inner: nobody has to believe this.
use Rattle.std.specs.Prelude.{ℕ, ◌+◌, ◌≤◌, ◌<◌, ◌≡◌, true, List, length, get_or, take, drop}
use Rattle.loops.specs.Iter.{Hit}
use Rattle.tables.specs.declared.Counts.{Counts}
use Rattle.query_types.specs.declared.Lay.{Lay}
use Rattle.search_state.specs.Part.{part, tally}
use Rattle.target_resolving.specs.Resolving.{lined_of, LinesOf}
use Rattle.model.specs.Tables.{Tables, Query, trips, position}
use Rattle.model.specs.Search.{Boardings, line_at, delay_of, prunable, dominated, board}
use Rattle.query_types.specs.Layout.{trip_stamps_at, boarded_offsets_at, boarded_departures_at, line_stamps_at, least_at}
use Rattle.line_pruning.specs.Chain.{chain, is_in, some_before}

-- tables whose lines, positions and FIFO flags are those in memory
pub record Agrees (T : Tables) (lay : Lay) (c : Counts) (built w : List ℕ) : Type 0 where
  pub trips : trips T ≡ lay.trips
  pub counted : c.trips ≡ lay.trips
  pub stops : c.stops ≡ lay.stops
  pub lines : LinesOf T c (lined_of c lay.lines) built w

-- trips below the count
pub record Inside (lay : Lay) (xs : List ℕ) : Type 0 where
  pub at : (x : ℕ) → is_in x xs ≡ true → x < lay.trips

-- the chains are sound: their trips are below the count and bear the stamp, they are no longer than so many trips; no stamp is above
pub record Chains (lay : Lay) (stamp : ℕ) (w : List ℕ) : Type 0 where
  pub inside : (l x : ℕ) → l < lay.lines → is_in x (chain lay stamp w l) ≡ true → x < lay.trips
  pub stamped : (l x : ℕ) → l < lay.lines → is_in x (chain lay stamp w l) ≡ true → get_or w (trip_stamps_at lay + x) 0 ≡ stamp
  pub short : (l : ℕ) → l < lay.lines → length (chain lay stamp w l) ≤ tally stamp (part w (trip_stamps_at lay) lay.trips)
  pub line_stamps : (l : ℕ) → l < lay.lines → get_or w (line_stamps_at lay + l) 0 ≤ stamp
  pub trip_stamps : (t : ℕ) → t < lay.trips → get_or w (trip_stamps_at lay + t) 0 ≤ stamp

-- THE BOARDINGS IN MEMORY are the model's: stamps, offsets and departures are sections; a chain has trips of its line only, each
-- boarded trip that may prune is in its line's chain, and the model's test of line pruning is the same test over the line's chain
pub record Books (lay : Lay) (stamp : ℕ) (T : Tables) (Q : Query) (w : List ℕ) (b : Boardings) : Type 0 where
  pub trip_stamp : b.trip_stamp ≡ part w (trip_stamps_at lay) lay.trips
  pub board_offset : b.board_offset ≡ part w (boarded_offsets_at lay) lay.trips
  pub board_departure : b.board_departure ≡ part w (boarded_departures_at lay) lay.trips
  pub own : (l x : ℕ) → l < lay.lines → is_in x (chain lay stamp w l) ≡ true → line_at T x ≡ l
  pub held : (t : ℕ) → t < lay.trips → get_or w (trip_stamps_at lay + t) 0 ≡ stamp → prunable T Q (delay_of Q t) t ≡ true
      → is_in t (chain lay stamp w (line_at T t)) ≡ true
  pub test : (t o : ℕ) → line_at T t < lay.lines
      → dominated T Q t o b.line_boards ≡ some_before lay w (position T t) o (chain lay stamp w (line_at T t))

-- THE CONTRACT of a boarding: trip t, whose delay row is adj, boarded at offset o with this departure. All else is as it came.
pub record Noted (lay : Lay) (stamp : ℕ) (built : List ℕ) (adj : Hit) (t o dep : ℕ) (w w' : List ℕ) : Type 0 where
  pub chains : Chains lay stamp w'
  pub books : (T : Tables) (Q : Query) (c : Counts) → Agrees T lay c built w → adj ≡ delay_of Q t
      → (round : ℕ) (b : Boardings) → Books lay stamp T Q w b → Books lay stamp T Q w' (board T Q round stamp adj t o dep b)
  pub size : length w' ≡ length w
  pub below : take (trip_stamps_at lay) w' ≡ take (trip_stamps_at lay) w
  pub above : drop (least_at lay + lay.trips) w' ≡ drop (least_at lay + lay.trips) w
