-- What is read of the working numbers is kept by the walk phase too, which fills the other list. Assumes nothing.
use Prim.Native.Nat.{ℕ}
use mathlib.Core.List.{List}
use Rattle.model.specs.Tables.{Tables, Query}
use Rattle.search_state.specs.Places.{Same, turned}
use Rattle.trip_scan.specs.Scan.{Nets}
use Rattle.ride_step.specs.Laid.{Rides, Laid}
use Rattle.ride_step.proofs.Keep.{kept_same, rides_kept, laid_kept}
use Rattle.query_types.specs.Slices.{Slices}
use Rattle.query_types.specs.declared.Context.{Context}

-- the context with the two lists of stops in each other's place
abbrev turned_in : Context → Context
turned_in ctx = record { counts = ctx.counts; lay = turned ctx.lay; net = ctx.net; flagged = ctx.flagged; change = ctx.change }

-- what is read is the same where the lists have changed places
turned_nets : {ctx : Context} {sl : Slices} {w : List ℕ} {T : Tables} {Q : Query}
    → Nets ctx sl w T Q → Nets (turned_in ctx) sl w T Q
turned_nets m =
    record {
      agree = m.agree;
      egress = record { at = m.egress.at };
      asks = m.asks;
      lines = m.lines;
      patterned = m.patterned;
      target = m.target;
      transfers = m.transfers;
    }

module _ {ctx : Context} {sl : Slices} where
  turned_rides : {w : List ℕ} {T : Tables} {Q : Query} → Rides ctx sl w T Q → Rides (turned_in ctx) sl w T Q
  turned_rides r = record { nets = turned_nets r.nets; departures = r.departures; mark = r.mark }

  turned_laid : {w : List ℕ} → Laid ctx sl w → Laid (turned_in ctx) sl w
  turned_laid L =
      let m = L.netted in
      record {
        netted = record {
          ground = m.ground;
          stops = m.stops;
          trips = m.trips;
          held = m.held;
          patterns = m.patterns;
          events = m.events;
          words = m.words;
          run = m.run;
          past = record { positions = m.past.positions; fifo = m.past.fifo; events = m.past.events };
          T = m.T;
          Q = m.Q;
          door = m.door;
          nets = turned_nets m.nets;
        };
        rides = turned_rides L.rides;
        limits = L.limits;
        long = L.long;
        listed = L.listed;
        lined = L.lined;
        events = L.events;
      }

-- BY THE WALK PHASE
module _ {ctx : Context} {sl : Slices} {w w' : List ℕ}
    (L : Laid ctx sl w) (s : Same (turned ctx.lay) w w') where
  pub laid_walked : Laid ctx sl w'
  laid_walked = turned_laid (laid_kept (turned_laid L) (kept_same s))

  pub rides_walked : {T : Tables} {Q : Query} → Rides ctx sl w T Q → Rides ctx sl w' T Q
  rides_walked r = turned_rides (rides_kept (turned_laid L) (kept_same s) (turned_rides r))
